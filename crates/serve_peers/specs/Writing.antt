-- The two lists of a journal: the rounds that are over, and what was asked in the one that is under
-- way (all this project's own).
use Rattle.std.specs.Prelude.{List, map}
use Rattle.serve_peers.specs.Tolds.{Round, Told, round_in}
use Rattle.serve_peers.specs.declared.journal.Journal.{Journal}

-- the rounds that are over
abbrev pub rounds_in : Journal → List Round
rounds_in journal = map round_in journal.over.items

-- what was asked so far in the round that is under way
abbrev pub under_way_in : Journal → List Told
under_way_in journal = journal.under_way.items
