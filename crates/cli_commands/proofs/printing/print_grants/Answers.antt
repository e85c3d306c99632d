use Rattle.std.proofs.Common.{◌+◌, ◌++◌, rules}
use Rattle.std.proofs.KnownBytes.{Appends-trans}
use Rattle.cli_commands.specs.Outcomes.{record_text}
use Rattle.cli_commands.proofs.Records.{printed_more}
use Rattle.cli_commands.proofs.printing.print_grants.Goals as goal

pub loop-index-preserved : goal.loop-index-preserved
loop-index-preserved g c =
    let so_far = c.loop-index.invariant in
    let one = c.index-records-index.result in
    let text = record_text (c.loop-index.index + 1) one c.loop-index.left.now in (
      so_far.0 ++ text,
      Appends-trans _ _ _ so_far.0 text so_far.1 c.in_ok-left.ensures.text,
      printed_more c.args.records.now c.loop-index.index one c.loop-index.left.now c.in_ok-left.left.now so_far.0 _ (search rules) c.index-records-index.is c.in_ok-left.ensures.left so_far.2,
    )
