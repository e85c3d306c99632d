use Rattle.std.proofs.Common.{◌≡◌, false, sym, ◌∙◌}
use Rattle.sqlite.specs.Held.{state}
use Rattle.room_serve.proofs.RunLemmas.{begins}
use Rattle.serve_peers.proofs.CopySteps.{begins_as, begins_anew, gone_on, only_looks, advances_by}
use Rattle.serve_peers.proofs.copies.slice_on.Goals as goal
use Rattle.serve_peers.proofs.copies.slice_on.Goals.{then-touched+in_ok-from, else-touched}

pub returns : goal.returns
returns g c =
    let alone : (state g.S.Store c.args.source.now).in_transaction ≡ false = sym c.is_under_way.ensures.mode ∙ c.if-is_under_way.false in
    record {
      looks = only_looks g.S.Store c.args.source.now c.copy_slice.new.source c.copy_slice.result alone (c.is_under_way.ensures.settled c.if-is_under_way.false) c.copy_slice.ensures.source;
      advances = advances_by g.S.Store g.T.Store c.args.touched c.args.most c.args.progress c.if-touched.from c.args.source.now c.copy_slice.new.source c.copy_slice.result c.args.rows.now c.if-touched.rows c.copy_slice.new.copy (elim c.if-touched.branch [
        | then-touched+in_ok-from w ↦ begins_as g.S.Store g.T.Store c.args.touched c.args.progress w.in_ok-from.from c.if-touched.from c.args.rows.now w.start_again.new.copy c.if-touched.rows w.from-is w.rows-is
            (begins_anew g.S.Store g.T.Store c.args.touched c.args.progress w.in_ok-from.from c.args.rows.now w.start_again.new.copy w.start_again.result w.if-touched.true w.in_ok-from.was w.start_again.ensures.again, w.start_again.ensures.copy)
        | else-touched w ↦ begins_as g.S.Store g.T.Store c.args.touched c.args.progress c.args.progress c.if-touched.from c.args.rows.now c.args.rows.now c.if-touched.rows w.from-is w.rows-is
            (gone_on g.S.Store g.T.Store c.args.touched c.args.progress c.args.rows.now w.if-touched.false, (begins (state g.T.Store c.args.rows.now)).connection)
      ]) c.copy_slice.ensures.copies c.copy_slice.ensures.further c.copy_slice.ensures.whole c.copy_slice.ensures.at_most;
    }
