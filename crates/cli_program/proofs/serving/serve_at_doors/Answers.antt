use Rattle.std.proofs.Common.{◌≡◌, inl, refl}
use Rattle.sqlite.specs.Held.{Held}
use Rattle.sqlite_trees.specs.declared.store.Store.{Ghosts}
use Rattle.cli_words.specs.declared.serving.Serving.{Serving}
use Rattle.serve_peers.specs.Journals.{hosts_of, store_of}
use Rattle.serve_peers.specs.declared.served.Served.{Served}
use Rattle.serve_sockets.specs.EndToEnd.{IsFresh, IsWhole}
use Rattle.serve_sockets.specs.Halls.{IsEmpty, doors_of, guests_of}
use Rattle.serve_sockets.specs.declared.hall.Hall.{Hall}
use Rattle.cli_program.specs.AnsweredHosts.{hosts_for}
use Rattle.cli_program.specs.SpokenDoors.{AreSpoken, ServesAsked}
use Rattle.cli_program.proofs.serving.serve_at_doors.Goals as goal

served_whole : {S : Type 0} (store : Ghosts S) (asked : Serving) (tables : Held S) (hall left : Hall) (begun after : Served S) → IsEmpty hall → AreSpoken asked.doors.items (doors_of hall) → IsFresh begun → store_of begun ≡ tables → hosts_of begun ≡ hosts_for asked → (IsEmpty hall → IsFresh begun → IsWhole store (doors_of hall) (guests_of left) begun after) → ServesAsked store asked tables (store_of after)
served_whole store asked tables hall left begun after empty spoken fresh over hosts whole = record {
  whole = record {
    doors = doors_of hall;
    guests = guests_of left;
    before = begun;
    after = after;
    over = over;
    fresh = fresh;
    whole = whole empty fresh;
    leaves = refl;
  };
  spoken = spoken;
  hosts = hosts;
}

pub returns-in_err-ended : goal.returns-in_err-ended
returns-in_err-ended g c = record { whole = inl (served_whole g.S.Store c.args.asked.now (store_of c.args.served.now) c.in_ok-hall.hall c.run_hall-ended.new.hall c.set_up.new.served c.run_hall-ended.new.served c.in_ok-hall.ensures.empty c.in_ok-hall.ensures.spoken c.set_up.ensures.fresh c.set_up.ensures.same c.in_ok-set_up.ensures.hosts c.run_hall-ended.ensures.whole) }

pub returns : goal.returns
returns g c = record { whole = inl (served_whole g.S.Store c.args.asked.now (store_of c.args.served.now) c.in_ok-hall.hall c.run_hall-ended.new.hall c.set_up.new.served c.run_hall-ended.new.served c.in_ok-hall.ensures.empty c.in_ok-hall.ensures.spoken c.set_up.ensures.fresh c.set_up.ensures.same c.in_ok-set_up.ensures.hosts c.run_hall-ended.ensures.whole) }
