-- The words of a journal: one thing that was asked with what it came to, and a round of these, with
-- whether its commit succeeded (all this project's own).
use Rattle.std.specs.Prelude.{Bool, List, [], if◌then◌else◌, Result}
use Rattle.std.specs.List.{flat_map}
use Rattle.http_server.specs.declared.log.Log.{Log as History}
use Rattle.account_machine.specs.declared.verdict.Answered.{Answered}
use Rattle.store_rounds.specs.declared.fault.StoreFault.{StoreFault}
use Rattle.serve_peers.specs.declared.entry.Entry.{Entry}

-- what came, and what it came to
abbrev pub Told : Type 0
Told = Entry × Result Answered StoreFault

-- what was asked in a round, and whether it was kept; what is applied by itself is a round of one
abbrev pub Round : Type 0
Round = List Told × Bool

abbrev pub round_in : History Entry (Result Answered StoreFault) × Bool → Round
round_in round = (round.0.items, round.1)

-- what was asked in the rounds that were kept
abbrev pub kept_in : List Round → List Told
kept_in rounds = flat_map (λ (round : Round). if round.1 then round.0 else []) rounds
