use Rattle.std.proofs.Common.{refl, subst, ◌∙◌}
use Rattle.serve_sockets.proofs.Drives.{follows}
use Rattle.serve_sockets.proofs.HallSteps.{same, same_guests, then_by}
use Rattle.serve_sockets.specs.Halls.{GoesOn, doors_of, guests_of}
use Rattle.serve_sockets.proofs.hall.Hall.finish.Goals as goal

pub loop-init : goal.loop-init
loop-init g c = (same g.S.Store (doors_of c.args.self.now) (guests_of c.args.self.now) c.ticks.new.self.guests c.args.served.now (same_guests (guests_of c.args.self.now) c.ticks.new.self.guests c.ticks.ensures), refl)

pub returns-in_err-pass-clause-goes_on : goal.returns-in_err-pass-clause-goes_on
returns-in_err-pass-clause-goes_on g c = then_by g.S.Store (doors_of c.args.self.now) (doors_of c.loop.self) (guests_of c.args.self.now) (guests_of c.loop.self) (guests_of c.pass.new.self) c.args.served.now c.loop.served c.pass.new.served c.loop.invariant.1 c.loop.invariant.0 (subst (λ guests. GoesOn g.S.Store (doors_of c.loop.self) guests (guests_of c.pass.new.self) c.loop.served c.pass.new.served) c.ticks-else-not-has_output.ensures c.pass.ensures.goes_on)

pub returns-in_err-pass-clause-doors : goal.returns-in_err-pass-clause-doors
returns-in_err-pass-clause-doors g c = c.pass.ensures.doors ∙ c.loop.invariant.1

pub loop-preserved : goal.loop-preserved
loop-preserved g c = (
  then_by g.S.Store (doors_of c.args.self.now) (doors_of c.loop.self) (guests_of c.args.self.now) (guests_of c.loop.self) (guests_of c.pass.new.self) c.args.served.now c.loop.served c.pass.new.served c.loop.invariant.1 c.loop.invariant.0 (subst (λ guests. GoesOn g.S.Store (doors_of c.loop.self) guests (guests_of c.pass.new.self) c.loop.served c.pass.new.served) c.ticks-else-not-has_output.ensures c.pass.ensures.goes_on),
  c.pass.ensures.doors ∙ c.loop.invariant.1,
)

pub returns-in_err-ticks-2-clause-follows : goal.returns-in_err-ticks-2-clause-follows
returns-in_err-ticks-2-clause-follows g c = follows g.S.Store (doors_of c.args.self.now) (guests_of c.args.self.now) (guests_of c.loop.self) c.args.served.now c.loop.served c.loop.invariant.0

pub returns-in_err-pass-clause-follows : goal.returns-in_err-pass-clause-follows
returns-in_err-pass-clause-follows g c = follows g.S.Store (doors_of c.args.self.now) (guests_of c.args.self.now) (guests_of c.pass.new.self) c.args.served.now c.pass.new.served (returns-in_err-pass-clause-goes_on g c)

pub returns-after-loop-clause-follows : goal.returns-after-loop-clause-follows
returns-after-loop-clause-follows g c = follows g.S.Store (doors_of c.args.self.now) (guests_of c.args.self.now) (guests_of c.loop.self) c.args.served.now c.loop.served c.loop.invariant.0

pub returns-then-not-has_output-clause-follows : goal.returns-then-not-has_output-clause-follows
returns-then-not-has_output-clause-follows g c = follows g.S.Store (doors_of c.args.self.now) (guests_of c.args.self.now) (guests_of c.loop.self) c.args.served.now c.loop.served c.loop.invariant.0
