use Rattle.std.proofs.Common.{ap, refl, subst}
use Rattle.mio.specs.Events.{items}
use Rattle.serve_peers.specs.declared.served.Served.{Served}
use Rattle.serve_sockets.proofs.Drives.{follows}
use Rattle.serve_peers.specs.Keeping.{OnlyKeeps}
use Rattle.serve_sockets.proofs.HallSteps.{kept_first, kept_then_served, same, serves_none}
use Rattle.serve_sockets.specs.Halls.{doors_of, guests_of, keys_told, told_by}
use Rattle.serve_sockets.proofs.hall.Hall.pass.Goals as goal

pub returns-in_err-poll-clause-goes_on : goal.returns-in_err-poll-clause-goes_on
returns-in_err-poll-clause-goes_on g c = same g.S.Store (doors_of c.args.self.now) (guests_of c.args.self.now) (guests_of c.args.self.now) c.args.served.now (λ key. refl)

pub returns-in_err-poll-clause-follows : goal.returns-in_err-poll-clause-follows
returns-in_err-poll-clause-follows g c = follows g.S.Store (doors_of c.args.self.now) (guests_of c.args.self.now) (guests_of c.args.self.now) c.args.served.now c.args.served.now (returns-in_err-poll-clause-goes_on g c)

pub returns-in_err-poll-clause-serves : goal.returns-in_err-poll-clause-serves
returns-in_err-poll-clause-serves g c = serves_none g.S.Store (doors_of c.args.self.now) (keys_told (items c.poll.new.events)) (guests_of c.args.self.now) (guests_of c.args.self.now) c.args.served.now c.args.served.now (ap keys_told c.in_err-poll.ensures.err) (returns-in_err-poll-clause-goes_on g c)

pub returns-clause-goes_on : goal.returns-clause-goes_on
returns-clause-goes_on g c =
    let doors = doors_of c.args.self.now in
    let a = guests_of c.args.self.now in
    let b = guests_of c.serve_told-ended.new.self in
    kept_first g.S.Store doors a b c.args.served.now c.keep_backup.new.self c.serve_told-ended.new.served (subst (λ (served : Served g.row.S.Denot). OnlyKeeps g.S.Store served c.keep_backup.new.self) c.look_at_log.ensures c.keep_backup.ensures.nothing)
    (kept_first g.S.Store doors a b c.keep_backup.new.self c.gather.new.self c.serve_told-ended.new.served c.gather.ensures.nothing c.serve_told-ended.ensures.goes_on)

pub returns-clause-follows : goal.returns-clause-follows
returns-clause-follows g c = follows g.S.Store (doors_of c.args.self.now) (guests_of c.args.self.now) (guests_of c.serve_told-ended.new.self) c.args.served.now c.serve_told-ended.new.served (returns-clause-goes_on g c)

pub returns-clause-serves : goal.returns-clause-serves
returns-clause-serves g c =
    let doors = doors_of c.args.self.now in
    let a = guests_of c.args.self.now in
    let b = guests_of c.serve_told-ended.new.self in
    let keys = told_by c.serve_told-ended.new.self in
    kept_then_served g.S.Store doors keys a b c.args.served.now c.keep_backup.new.self c.serve_told-ended.new.served (subst (λ (served : Served g.row.S.Denot). OnlyKeeps g.S.Store served c.keep_backup.new.self) c.look_at_log.ensures c.keep_backup.ensures.nothing)
    (kept_then_served g.S.Store doors keys a b c.keep_backup.new.self c.gather.new.self c.serve_told-ended.new.served c.gather.ensures.nothing c.serve_told-ended.ensures.serves)
