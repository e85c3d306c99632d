use Rattle.std.proofs.Common.{List, subst}
use Rattle.mio.specs.Events.{items}
use Rattle.serve_sockets.proofs.Drives.{follows}
use Rattle.serve_sockets.proofs.HallSteps.{enters, goes_on, leaves, same, nobody_as, nobody_entered, nobody_left, same_guests, then, told_serves, told_hears}
use Rattle.serve_sockets.specs.Halls.{OnlyEnter, doors_of, guests_of, keys_told}
use Rattle.serve_sockets.specs.declared.doors.Speech.{Speech}
use Rattle.serve_sockets.proofs.hall.Hall.serve_told.Goals as goal

pub returns-in_err-ticks-clause-serves : goal.returns-in_err-ticks-clause-serves
returns-in_err-ticks-clause-serves g c =
    let doors = doors_of c.args.self.now in
    let first = guests_of c.args.self.now in
    let shared = c.share.new.self.guests in
    let served = c.serve_all.new.self.guests in
    let ticked = c.ticks.new.self.guests in
    let new = c.serve_all.new.served in
    told_serves g.S.Store doors (keys_told (items c.args.self.now.events)) first shared served ticked c.args.served.now c.share.new.served new c.args.self.now.told (rw c.choose_browser.ensures at c.share.ensures) c.serve_all.ensures (same g.S.Store doors served ticked new (same_guests served ticked c.ticks.ensures))

pub returns-in_err-ticks-clause-goes_on : goal.returns-in_err-ticks-clause-goes_on
returns-in_err-ticks-clause-goes_on g c = goes_on g.S.Store (doors_of c.args.self.now) (keys_told (items c.args.self.now.events)) (guests_of c.args.self.now) c.ticks.new.self.guests c.args.served.now c.serve_all.new.served (returns-in_err-ticks-clause-serves g c)

pub returns-in_err-ticks-clause-follows : goal.returns-in_err-ticks-clause-follows
returns-in_err-ticks-clause-follows g c = follows g.S.Store (doors_of c.args.self.now) (guests_of c.args.self.now) c.ticks.new.self.guests c.args.served.now c.serve_all.new.served (returns-in_err-ticks-clause-goes_on g c)

pub returns-clause-serves : goal.returns-clause-serves
returns-clause-serves g c =
    let doors = doors_of c.args.self.now in
    let first = guests_of c.args.self.now in
    let shared = c.share.new.self.guests in
    let served = c.serve_all.new.self.guests in
    let ticked = c.ticks.new.self.guests in
    let roomed = c.make_room.new.self.guests in
    let entered = c.admit_all.new.self.guests in
    let resumed = c.resume_held_back.new.self.guests in
    let left = c.drop_late.new.self.guests in
    let new = c.serve_all.new.served in
    let enter : OnlyEnter doors roomed entered = subst (λ (behind : List Speech). OnlyEnter behind roomed entered) c.as_slice.ensures.value c.admit_all.ensures in
    let with_room = then g.S.Store doors served ticked roomed new new new (same g.S.Store doors served ticked new (same_guests served ticked c.ticks.ensures)) (leaves g.S.Store doors ticked roomed new c.make_room.ensures) in
    let with_entered = then g.S.Store doors served roomed entered new new new with_room (enters g.S.Store doors roomed entered new enter) in
    let with_resumed = then g.S.Store doors served entered resumed new new new with_entered (leaves g.S.Store doors entered resumed new c.resume_held_back.ensures) in
    let with_left = then g.S.Store doors served resumed left new new new with_resumed (leaves g.S.Store doors resumed left new c.drop_late.ensures) in
    told_serves g.S.Store doors (keys_told (items c.args.self.now.events)) first shared served left c.args.served.now c.share.new.served new c.args.self.now.told (rw c.choose_browser.ensures at c.share.ensures) c.serve_all.ensures with_left

pub returns-clause-goes_on : goal.returns-clause-goes_on
returns-clause-goes_on g c = goes_on g.S.Store (doors_of c.args.self.now) (keys_told (items c.args.self.now.events)) (guests_of c.args.self.now) c.drop_late.new.self.guests c.args.served.now c.serve_all.new.served (returns-clause-serves g c)

pub returns-clause-follows : goal.returns-clause-follows
returns-clause-follows g c = follows g.S.Store (doors_of c.args.self.now) (guests_of c.args.self.now) c.drop_late.new.self.guests c.args.served.now c.serve_all.new.served (returns-clause-goes_on g c)

pub invariant_of-self : goal.invariant_of-self
invariant_of-self g c =
    let served = c.serve_all.new.self.guests in
    let ticked = c.ticks.new.self.guests in
    let told = told_hears g.S.Store (keys_told (items c.args.self.now.events)) (guests_of c.args.self.now) c.share.new.self.guests served c.args.served.now c.share.new.served c.serve_all.new.served c.args.self.now.told (rw c.choose_browser.ensures at c.share.ensures) c.serve_all.ensures in
    record { told = nobody_as served ticked (same_guests served ticked c.ticks.ensures) told }

pub invariant_of-self-2 : goal.invariant_of-self-2
invariant_of-self-2 g c =
    let doors = doors_of c.args.self.now in
    let served = c.serve_all.new.self.guests in
    let ticked = c.ticks.new.self.guests in
    let roomed = c.make_room.new.self.guests in
    let entered = c.admit_all.new.self.guests in
    let resumed = c.resume_held_back.new.self.guests in
    let left = c.drop_late.new.self.guests in
    let told = told_hears g.S.Store (keys_told (items c.args.self.now.events)) (guests_of c.args.self.now) c.share.new.self.guests served c.args.served.now c.share.new.served c.serve_all.new.served c.args.self.now.told (rw c.choose_browser.ensures at c.share.ensures) c.serve_all.ensures in
    let enter : OnlyEnter doors roomed entered = subst (λ (behind : List Speech). OnlyEnter behind roomed entered) c.as_slice.ensures.value c.admit_all.ensures in
    let with_entered = nobody_entered doors roomed entered enter (nobody_left ticked roomed c.make_room.ensures (nobody_as served ticked (same_guests served ticked c.ticks.ensures) told)) in
    record { told = nobody_left resumed left c.drop_late.ensures (nobody_left entered resumed c.resume_held_back.ensures with_entered) }
