use Rattle.std.proofs.Common.{◌<◌, length, arith}
use Rattle.std.proofs.lemmas.List.{length-set}
use Rattle.account_replies.proofs.Selections.{one_more_told, all_told}
use Rattle.account_replies.proofs.selection.is_each_wanted.Goals as goal

pub loop-index-preserved : goal.loop-index-preserved
loop-index-preserved c =
    let within : c.loop-index.index < length c.args.attributes.now = omega arith in
    record {
      long = simp length-set c.loop-index.invariant.long;
      so_far = one_more_told _ c.args.attributes.now c.loop-index.selected c.loop-index.index _ c.is_wanted.result c.loop-index.invariant.long within
          (rw (c.name.ensures.row, c.group.ensures) at c.is_wanted.ensures) c.loop-index.invariant.so_far;
    }

pub returns : goal.returns
returns c = all_told _ c.args.attributes.now c.loop-index.selected c.loop-index.index c.loop-index.invariant.long (omega arith) c.loop-index.invariant.so_far
