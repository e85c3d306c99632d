use Rattle.std.proofs.Common.{refl, ◌∙◌}
use Rattle.serve_peers.proofs.Finding.{lasts_by}
use Rattle.serve_sockets.proofs.Drives.{follows}
use Rattle.serve_sockets.proofs.HallSteps.{same, then_by}
use Rattle.serve_sockets.proofs.WholeRuns.{from_end_to_end}
use Rattle.serve_sockets.specs.Halls.{doors_of, guests_of}
use Rattle.serve_sockets.proofs.hall.Hall.run.Goals as goal

pub loop-init : goal.loop-init
loop-init g c = (same g.S.Store (doors_of c.args.self.now) (guests_of c.args.self.now) (guests_of c.args.self.now) c.args.served.now (λ key. refl), refl)

pub returns-in_err-pass-clause-goes_on : goal.returns-in_err-pass-clause-goes_on
returns-in_err-pass-clause-goes_on g c = then_by g.S.Store (doors_of c.args.self.now) (doors_of c.loop.self) (guests_of c.args.self.now) (guests_of c.loop.self) (guests_of c.pass.new.self) c.args.served.now c.loop.served c.pass.new.served c.loop.invariant.1 c.loop.invariant.0 c.pass.ensures.goes_on

pub loop-preserved : goal.loop-preserved
loop-preserved g c = (
  then_by g.S.Store (doors_of c.args.self.now) (doors_of c.loop.self) (guests_of c.args.self.now) (guests_of c.loop.self) (guests_of c.pass.new.self) c.args.served.now c.loop.served c.pass.new.served c.loop.invariant.1 c.loop.invariant.0 c.pass.ensures.goes_on,
  c.pass.ensures.doors ∙ c.loop.invariant.1,
)

pub returns-in_err-pass-clause-doors : goal.returns-in_err-pass-clause-doors
returns-in_err-pass-clause-doors g c = c.pass.ensures.doors ∙ c.loop.invariant.1

pub returns-in_err-pass-clause-follows : goal.returns-in_err-pass-clause-follows
returns-in_err-pass-clause-follows g c = follows g.S.Store (doors_of c.args.self.now) (guests_of c.args.self.now) (guests_of c.pass.new.self) c.args.served.now c.pass.new.served (returns-in_err-pass-clause-goes_on g c)

pub returns-clause-goes_on : goal.returns-clause-goes_on
returns-clause-goes_on g c = then_by g.S.Store (doors_of c.args.self.now) (doors_of c.loop.self) (guests_of c.args.self.now) (guests_of c.loop.self) (guests_of c.finish.new.self) c.args.served.now c.loop.served c.finish.new.served c.loop.invariant.1 c.loop.invariant.0 c.finish.ensures.goes_on

pub returns-clause-doors : goal.returns-clause-doors
returns-clause-doors g c = c.finish.ensures.doors ∙ c.loop.invariant.1

pub returns-clause-follows : goal.returns-clause-follows
returns-clause-follows g c = follows g.S.Store (doors_of c.args.self.now) (guests_of c.args.self.now) (guests_of c.finish.new.self) c.args.served.now c.finish.new.served (returns-clause-goes_on g c)

pub returns-in_err-pass-clause-whole : goal.returns-in_err-pass-clause-whole
returns-in_err-pass-clause-whole g c empty fresh =
    let goes = returns-in_err-pass-clause-goes_on g c in
    (from_end_to_end g.S.Store (lasts_by g.S.Store g.met.S.Store.settled g.met.S.Store.stays) (doors_of c.args.self.now) (guests_of c.pass.new.self) c.args.served.now c.pass.new.served (record { steps = goes.0; first = guests_of c.args.self.now; empty = empty; does = goes.1 }) goes.3 fresh).0

pub returns-clause-whole : goal.returns-clause-whole
returns-clause-whole g c empty fresh =
    let goes = returns-clause-goes_on g c in
    (from_end_to_end g.S.Store (lasts_by g.S.Store g.met.S.Store.settled g.met.S.Store.stays) (doors_of c.args.self.now) (guests_of c.finish.new.self) c.args.served.now c.finish.new.served (record { steps = goes.0; first = guests_of c.args.self.now; empty = empty; does = goes.1 }) goes.3 fresh).0
