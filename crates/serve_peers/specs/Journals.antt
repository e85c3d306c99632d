-- What a clause reads of what is served: its rounds, its tables, its moment, whether a round is
-- under way, and whether the last one's commit failed (all this project's own).
use Rattle.std.specs.Prelude.{◌≡◌, ℕ, Bool, true, false, List, [], ◌∷◌, ◌++◌, map, nat_lt, option_map, Option, None, Some}
use Rattle.std.specs.List.{flat_map}
use Rattle.sqlite.specs.Held.{Held}
use Rattle.account_machine.specs.Events.{Timed}
use Rattle.account_machine.specs.Verdicts.{reply_of}
use Rattle.room_serve.specs.Outcomes.{outcome_of}
use Rattle.room_serve.specs.declared.outcome.Outcome.{Outcome}
use Rattle.serve_peers.specs.Entries.{timed}
use Rattle.serve_peers.specs.Logged.{log_lags}
pub use Rattle.serve_peers.specs.Tolds.{Told, Round, round_in, kept_in}
use Rattle.serve_peers.specs.declared.entry.Entry.{Entry}
use Rattle.serve_peers.specs.declared.page_rules.PageRules.{PageRules}
use Rattle.serve_peers.specs.declared.served.Served.{Served}

-- the one that is there
abbrev pub list_of : {X : Type 0} → Option X → List X
list_of None = []
list_of (Some x) = x ∷ []

-- the rounds that are over
abbrev pub rounds_of : {S : Type 0} → Served S → List Round
rounds_of served = map round_in served.journal.over.items

-- what was asked so far in the round that is under way
abbrev pub open_of : {S : Type 0} → Served S → List Told
open_of served = served.journal.under_way.items

-- the journal: what was asked so far in the rounds that were kept
abbrev pub journal_of : {S : Type 0} → Served S → List Told
journal_of served = kept_in (rounds_of served)

-- what was applied by itself is a round of one; a question, of which nothing is noted, is an empty one
abbrev pub round_alone : Option Told → Round
round_alone None = ([], false)
round_alone (Some told) = (told ∷ [], true)

abbrev pub by_themselves : List (Option Told) → List Round
by_themselves more = map round_alone more

-- what was applied, without the questions
abbrev pub applied : List (Option Told) → List Told
applied more = flat_map (λ (one : Option Told). list_of one) more

-- what came of these, as events, and what each came to
abbrev pub events_of : List Told → List Timed
events_of more = map (λ (told : Told). timed told.0) more

abbrev pub outcomes_of : List Told → List Outcome
outcomes_of more = map (λ (told : Told). outcome_of (reply_of told.1)) more

abbrev pub store_of : {S : Type 0} → Served S → Held S
store_of served = served.rounds

abbrev pub moment_of : {S : Type 0} → Served S → ℕ
moment_of served = served.moment

-- what is applied shares a commit
abbrev pub shares_of : {S : Type 0} → Served S → Bool
shares_of served = served.shares

-- the round that was settled last was lost
abbrev pub is_lost_of : {S : Type 0} → Served S → Bool
is_lost_of served = served.is_lost

-- an operator asked that serving ends
abbrev pub ends_of : {S : Type 0} → Served S → Bool
ends_of served = served.background.ends

-- the pages take no file without a password
abbrev pub needs_password_of : {S : Type 0} → Served S → Bool
needs_password_of served = served.background.page_rules.needs_password

-- the names of the Hosts that the pages answer, parted by commas; with None they answer each
abbrev pub hosts_of : {S : Type 0} → Served S → Option (List ℕ)
hosts_of served = option_map (λ names. names.now) served.background.page_rules.hosts

-- what the pages hold requests to
abbrev pub page_rules_of : {S : Type 0} → Served S → PageRules
page_rules_of served = served.background.page_rules

-- lines wait that the file of the log has not taken
abbrev pub log_lags_of : {S : Type 0} → Served S → Bool
log_lags_of served = log_lags served.journal.log

-- what the peer whose turn it is has asked in the round
abbrev pub asked_of : {S : Type 0} → Served S → List Entry
asked_of served = list_of served.asked

-- bytes that may be told in a round before it is full
abbrev pub most_told : ℕ
most_told = 8388608

abbrev pub is_full_of : {S : Type 0} → Served S → Bool
is_full_of served = nat_lt most_told served.bytes_told

-- Outside a round each is a round of its own, which is over; in a round it stands there, and with
-- whoever asked it.
abbrev pub Notes : {S : Type 0} (shares : Bool) (more : List (Option Told)) (old new : Served S)
    → Type 0
Notes false more old new = (rounds_of new ≡ rounds_of old ++ by_themselves more)
    × (open_of new ≡ open_of old) × (asked_of new ≡ asked_of old)
Notes true more old new = (rounds_of new ≡ rounds_of old)
    × (open_of new ≡ open_of old ++ applied more)
    × (asked_of new ≡ asked_of old ++ map (λ (told : Told). told.0) (applied more))
