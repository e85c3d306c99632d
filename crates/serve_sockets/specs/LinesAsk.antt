-- Which event a line asks, by its words, and what is asked of an account by a message of IPP (all
-- this project's own; an operator's `cancel` and `hold` are messages of RFC 8011).
use Rattle.std.specs.Prelude.{◌≡◌, ◌⊎◌, ℕ, Bool, true, false, List, [], ◌∷◌, ◌++◌, codes, length}
use Rattle.std.specs.Int.{bytes_high_first}
use Rattle.account_machine.specs.Events.{PlainEvent, Grant, Ipp, OfAccount, OfDevice, Open, Rate, Release, Settle, Start, Switch}
use Rattle.input_fields.specs.Fields.{SaysNumber}
use Rattle.input_lines.specs.Saying.{AreFields, SaysMonth, SaysPassword}
use Rattle.serve_peers.specs.Entries.{event_of_entry, moment_at}
use Rattle.serve_peers.specs.Lines.{IsEntryOf, grammar_of}
use Rattle.serve_peers.specs.declared.entry.Entry.{Entry}
use Rattle.serve_peers.specs.declared.entry.Entry.TheVariants as entry
use Rattle.serve_peers.specs.declared.line_connection.Side.{Side}
use Rattle.serve_peers.specs.declared.line_connection.Side.TheVariants.{Bound, Operator, Station}

-- ---- fields

-- one word where it holds, the other where it does not
abbrev pub IsWord : (one other field : List ℕ) → Bool → Type 0
IsWord one other field true = field ≡ one
IsWord one other field false = field ≡ other

-- a number, or a dash for 0: the job has as many as its owner said
abbrev pub SaysCount : (field : List ℕ) → ℕ → Type 0
SaysCount field count = ((field ≡ codes "-") × (count ≡ 0)) ⊎ SaysNumber field count

-- ---- an operator in the place of an owner

-- Cancel-Job is 8 and Hold-Job 12 (RFC 8011 section 5.4.15)
abbrev pub IsAct : (word : List ℕ) (operation : ℕ) → Type 0
IsAct word operation = ((word ≡ codes "cancel") × (operation ≡ 8))
    ⊎ ((word ≡ codes "hold") × (operation ≡ 12))

abbrev pub queue_uri : (account : List ℕ) → List ℕ
queue_uri account = codes "ipp://localhost/ipp/print/" ++ account

-- Version 1.1, the operation and request-id 1 (RFC 8010 section 3.1.1). The operation attributes are
-- the charset, the language, the queue and the number of the job (RFC 8011 sections 4.1.4 and 4.1.5).
abbrev pub owner_message : (operation : ℕ) (account : List ℕ) (job : ℕ) → List ℕ
owner_message operation account job =
    1 ∷ 1 ∷ 0 ∷ operation ∷ 0 ∷ 0 ∷ 0 ∷ 1 ∷ 1
    ∷ 0x47 ∷ 0 ∷ 18 ∷ codes "attributes-charset" ++ 0 ∷ 5 ∷ codes "utf-8"
    ++ 0x48 ∷ 0 ∷ 27 ∷ codes "attributes-natural-language" ++ 0 ∷ 2 ∷ codes "en"
    ++ 0x45 ∷ 0 ∷ 11 ∷ codes "printer-uri"
    ++ bytes_high_first 2 (length (queue_uri account)) ++ (queue_uri account
    ++ (0x21 ∷ 0 ∷ 6 ∷ codes "job-id" ++ 0 ∷ 4 ∷ bytes_high_first 4 job ++ 3 ∷ []))

-- ---- the words of a line

abbrev pub OperatorAsks : (fields : List (List ℕ)) → PlainEvent → Type 0
OperatorAsks fields (OfAccount account Open) = fields ≡ codes "open" ∷ account ∷ []
OperatorAsks fields (OfAccount account (Grant month pages)) = (from number : List ℕ)
    × (fields ≡ codes "grant" ∷ account ∷ from ∷ number ∷ [])
    × SaysMonth from month × SaysNumber number pages
OperatorAsks fields (OfAccount account (Ipp body)) =
    (word number : List ℕ) × (operation job : ℕ)
    × (fields ≡ word ∷ account ∷ number ∷ [])
    × IsAct word operation × SaysNumber number job
    × (body ≡ owner_message operation account job)
OperatorAsks fields (OfDevice name (Switch on)) = (word : List ℕ)
    × (fields ≡ codes "device" ∷ name ∷ word ∷ [])
    × IsWord (codes "on") (codes "off") word on
OperatorAsks fields (OfDevice name (Rate units)) = (number : List ℕ)
    × (fields ≡ codes "rate" ∷ name ∷ number ∷ []) × SaysNumber number units
OperatorAsks fields _ = ⊥

abbrev pub StationAsks : (fields : List (List ℕ)) → PlainEvent → Type 0
StationAsks fields (OfAccount account (Release device job password impressions)) =
    (number digits counted : List ℕ)
    × (fields ≡ codes "release" ∷ device ∷ account ∷ number ∷ digits ∷ counted ∷ [])
    × SaysNumber number job × SaysPassword digits password × SaysCount counted impressions
StationAsks fields (OfAccount account (Start device job)) = (number : List ℕ)
    × (fields ≡ codes "start" ∷ device ∷ account ∷ number ∷ []) × SaysNumber number job
StationAsks fields (OfAccount account (Settle device job impressions failed)) =
    (number counted word : List ℕ)
    × (fields ≡ codes "settle" ∷ device ∷ account ∷ number ∷ counted ∷ word ∷ [])
    × SaysNumber number job × SaysNumber counted impressions
    × IsWord (codes "failed") (codes "done") word failed
StationAsks fields _ = ⊥

abbrev pub Asks : Side → (fields : List (List ℕ)) → PlainEvent → Type 0
Asks Operator fields event = OperatorAsks fields event
Asks Station fields event = StationAsks fields event
Asks (Bound names) fields event = StationAsks fields event

-- ---- the laws

-- a line asks, at the moment, the event that its fields say
abbrev pub LinesAsk : Type 0
LinesAsk = (side : Side) (moment : ℕ) (line : List ℕ) (asked : Entry)
    → IsEntryOf (grammar_of side moment) line asked
    → (moment_at asked ≡ moment) × ((fields : List (List ℕ)) × AreFields line fields
    × Asks side fields (event_of_entry asked))

-- a message asks, at its moment, what its bytes ask of its account
abbrev pub MessagesAsk : Type 0
MessagesAsk = (moment : ℕ) (account body : List ℕ)
    → (moment_at (entry.Message moment account body) ≡ moment)
    × (event_of_entry (entry.Message moment account body) ≡ OfAccount account (Ipp body))
