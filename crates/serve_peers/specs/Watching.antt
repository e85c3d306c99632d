-- Whether an account was touched since the last slice of the backup that has half copied it (all
-- this project's own).
use Rattle.std.specs.Prelude.{◌≡◌, ℕ, Bool, false, List, ◌++◌, map, Option, None, Some}
use Rattle.std.specs.List.{flat_map, list_any}
use Rattle.room_serve.specs.Own.{is_of}
use Rattle.serve_peers.specs.Entries.{event_of_entry}
use Rattle.serve_peers.specs.Tolds.{Round, Told, round_in}
use Rattle.serve_peers.specs.declared.entry.Entry.{Entry}
use Rattle.serve_peers.specs.declared.account_watch.Watch.{Watch}

-- it is of the account, if one is watched
abbrev pub touches : (account : Option (List ℕ)) → Entry → Bool
touches None entry = false
touches (Some name) entry = is_of name (event_of_entry entry)

-- some of these are
abbrev pub touched_in : (account : Option (List ℕ)) → List Told → Bool
touched_in account more = list_any (λ (told : Told). touches account told.0) more

-- what was asked in rounds, kept or not
abbrev pub told_in : List Round → List Told
told_in rounds = flat_map (λ (round : Round). round.0) rounds

-- the rounds that were over as the watch began, and since
abbrev pub seen_by : Watch → List Round
seen_by watch = map round_in watch.seen.items

abbrev pub since_by : Watch → List Round
since_by watch = map round_in watch.since.items

-- Where it knows nothing of that, the account was touched neither in the rounds that are over since it
-- began nor in the one that is under way.
pub record Watches (watch : Watch) (over : List Round) (under_way : List Told) : Type 0 where
  pub rounds : over ≡ seen_by watch ++ since_by watch
  pub untouched : watch.touched ≡ false
      → touched_in watch.account (told_in (since_by watch) ++ under_way) ≡ false
