-- The log goes with the journal.
use Rattle.std.proofs.Common.{◌≡◌, ℕ, Bool, true, false, Option, None, Some, List, [], ◌∷◌, ◌++◌, map, Result, refl, subst, sym, ap, ◌∙◌, append-nil, if◌then◌else◌, inl, inr, arith}
use Rattle.std.proofs.lemmas.Grind.{flat_map-append}
use Rattle.std.proofs.lemmas.List.{map-append}
use Rattle.std.specs.Option.{ForSome}
use Rattle.http_server.specs.declared.log.Log.{Log}
use Rattle.account_machine.specs.declared.verdict.Answered.{Answered}
use Rattle.store_rounds.specs.declared.fault.StoreFault.{StoreFault}
use Rattle.serve_log.specs.Books.{Takes, counted}
use Rattle.serve_log.specs.Waits.{drafts_of, logged_of, missed_of}
use Rattle.serve_log.specs.declared.waiting.Waiting.{Waiting}
use Rattle.serve_peers.specs.Logged.{TellsRounds, line_of, lines_of}
use Rattle.serve_peers.specs.Logging.{Becomes, DraftsOne, KeepsLines, LogsOne, SettlesDrafts, settled}
use Rattle.serve_peers.specs.Tolds.{Round, Told, kept_in, round_in}
use Rattle.serve_peers.specs.declared.entry.Entry.{Entry}

-- ---- a log where one is kept

NoneIs : {T : Type 0} → Option T → Type 0
NoneIs None = Unit {0}
NoneIs (Some x) = ⊥

held : {T : Type 0} → T → Option T → T
held other None = other
held other (Some x) = x

pub becomes : (holds : Waiting → Waiting → Type 0) (P Q : Waiting → Type 0) (old new : Option Waiting) → Becomes holds old new → ForSome old P → ((was now : Waiting) → holds was now → P was → Q now) → ForSome new Q
unfolding NoneIs held
becomes holds P Q None None is old step = λ x same. absurd (subst (λ (log : Option Waiting). NoneIs log) same tt)
becomes holds P Q None (Some now) is old step = absurd is
becomes holds P Q (Some was) None is old step = absurd is
becomes holds P Q (Some was) (Some now) is old step = λ x same. subst Q (ap (λ (log : Option Waiting). held now log) same) (step was now is (old was refl))

-- ---- counting

count_grows : (n : ℕ) → counted n ≡ 0 → ⊥
count_grows n none = omega arith

-- nothing was left out before
pub none_before : (missed missed2 : ℕ) (text text2 line : List ℕ) → Takes missed missed2 text text2 line → missed2 ≡ 0 → missed ≡ 0
none_before missed missed2 text text2 line (inl is) none = sym is.0 ∙ none
none_before missed missed2 text text2 line (inr is) none = absurd (count_grows missed (sym is.0 ∙ none))

-- so the line stands behind the text
pub stands : (missed missed2 : ℕ) (text text2 line : List ℕ) → Takes missed missed2 text text2 line → missed2 ≡ 0 → text2 ≡ text ++ line
stands missed missed2 text text2 line (inl is) none = is.1
stands missed missed2 text text2 line (inr is) none = absurd (count_grows missed (sym is.0 ∙ none))

-- ---- lines

one_more : (more : List Told) (told : Told) → lines_of (more ++ told ∷ []) ≡ lines_of more ++ line_of told
one_more more told = flat_map-append line_of more (told ∷ []) ∙ ap (λ x. lines_of more ++ x) (append-nil (line_of told))

kept_then : (rounds : List Round) (round : Round) → kept_in (rounds ++ round ∷ []) ≡ kept_in rounds ++ kept_in (round ∷ [])
kept_then rounds round = flat_map-append (λ (it : Round). if it.1 then it.0 else []) rounds (round ∷ [])

lines_then : (rounds : List Round) (round : Round) → lines_of (kept_in (rounds ++ round ∷ [])) ≡ lines_of (kept_in rounds) ++ lines_of (kept_in (round ∷ []))
lines_then rounds round = ap lines_of (kept_then rounds round) ∙ flat_map-append line_of (kept_in rounds) (kept_in (round ∷ []))

lost_then : (rounds : List Round) (more : List Told) → lines_of (kept_in (rounds ++ (more, false) ∷ [])) ≡ lines_of (kept_in rounds)
lost_then rounds more = lines_then rounds (more, false) ∙ append-nil (lines_of (kept_in rounds))

kept_one : (rounds : List Round) (more : List Told) → lines_of (kept_in (rounds ++ (more, true) ∷ [])) ≡ lines_of (kept_in rounds) ++ lines_of more
kept_one rounds more = lines_then rounds (more, true) ∙ ap (λ (it : List Told). lines_of (kept_in rounds) ++ lines_of it) (append-nil more)

-- ---- what is told

-- what came was applied by itself
pub tells_one : (told : Told) (rounds : List Round) (under_way : List Told) (old new : Waiting) → LogsOne told old new → TellsRounds old rounds under_way → TellsRounds new (rounds ++ (told ∷ [], true) ∷ []) under_way
tells_one told rounds under_way old new one tells = record {
  logged = λ none.
      let before = none_before (missed_of old) (missed_of new) (logged_of old) (logged_of new) (line_of told) one.logged none in
      stands (missed_of old) (missed_of new) (logged_of old) (logged_of new) (line_of told) one.logged none
      ∙ ap (λ x. x ++ line_of told) (tells.logged before)
      ∙ sym (kept_one rounds (told ∷ []) ∙ ap (λ x. lines_of (kept_in rounds) ++ x) (append-nil (line_of told)));
  drafts = λ none. one.drafts ∙ tells.drafts (none_before (missed_of old) (missed_of new) (logged_of old) (logged_of new) (line_of told) one.logged none);
}

-- or in a round
pub tells_draft : (told : Told) (rounds : List Round) (under_way : List Told) (old new : Waiting) → DraftsOne told old new → TellsRounds old rounds under_way → TellsRounds new rounds (under_way ++ told ∷ [])
tells_draft told rounds under_way old new one tells = record {
  logged = λ none. one.logged ∙ tells.logged (none_before (missed_of old) (missed_of new) (drafts_of old) (drafts_of new) (line_of told) one.drafts none);
  drafts = λ none.
      let before = none_before (missed_of old) (missed_of new) (drafts_of old) (drafts_of new) (line_of told) one.drafts none in
      stands (missed_of old) (missed_of new) (drafts_of old) (drafts_of new) (line_of told) one.drafts none
      ∙ ap (λ x. x ++ line_of told) (tells.drafts before)
      ∙ sym (one_more under_way told);
}

-- the round is over
settled_tells : (kept : Bool) (rounds : List Round) (under_way : List Told) (old : Waiting) → logged_of old ≡ lines_of (kept_in rounds) → drafts_of old ≡ lines_of under_way → settled kept old ≡ lines_of (kept_in (rounds ++ (under_way, kept) ∷ []))
settled_tells true rounds under_way old logged drafts = ap (λ x. x ++ drafts_of old) logged ∙ ap (λ x. lines_of (kept_in rounds) ++ x) drafts ∙ sym (kept_one rounds under_way)
settled_tells false rounds under_way old logged drafts = logged ∙ sym (lost_then rounds under_way)

pub tells_settled : (kept : Bool) (rounds : List Round) (under_way : List Told) (old new : Waiting) → SettlesDrafts kept old new → TellsRounds old rounds under_way → TellsRounds new (rounds ++ (under_way, kept) ∷ []) []
tells_settled kept rounds under_way old new settles tells = record {
  logged = λ none.
      let before = sym settles.missed ∙ none in
      settles.logged ∙ settled_tells kept rounds under_way old (tells.logged before) (tells.drafts before);
  drafts = λ none. settles.drafts;
}

-- a question, or a round that could not begin
pub tells_nothing : (rounds : List Round) (under_way : List Told) (log : Option Waiting) → ForSome log (λ (waiting : Waiting). TellsRounds waiting rounds under_way) → ForSome log (λ (waiting : Waiting). TellsRounds waiting (rounds ++ ([], false) ∷ []) under_way)
tells_nothing rounds under_way log tells = λ waiting is.
    let was = tells waiting is in
    record { logged = λ none. was.logged none ∙ sym (lost_then rounds []); drafts = was.drafts }

-- ---- rounds, as the journal has them

pub rounds_then : (over over2 : List (Log Entry (Result Answered StoreFault) × Bool)) (round : Log Entry (Result Answered StoreFault)) (kept : Bool) → over2 ≡ over ++ (round, kept) ∷ [] → map round_in over2 ≡ map round_in over ++ (round.items, kept) ∷ []
rounds_then over over2 round kept is = ap (λ (them : List (Log Entry (Result Answered StoreFault) × Bool)). map round_in them) is ∙ map-append round_in over ((round, kept) ∷ [])

-- ---- what a journal's log tells, once it has changed

-- what came was applied by itself
pub told_alone : (log log2 : Option Waiting) (over over2 : List (Log Entry (Result Answered StoreFault) × Bool)) (round : Log Entry (Result Answered StoreFault)) (under_way : List Told) (told : Told) → ForSome log (λ (waiting : Waiting). TellsRounds waiting (map round_in over) under_way) → Becomes (LogsOne told) log log2 → over2 ≡ over ++ (round, true) ∷ [] → round.items ≡ told ∷ [] → ForSome log2 (λ (waiting : Waiting). TellsRounds waiting (map round_in over2) under_way)
told_alone log log2 over over2 round under_way told is logs grows one =
    becomes (LogsOne told) (λ (waiting : Waiting). TellsRounds waiting (map round_in over) under_way) (λ (waiting : Waiting). TellsRounds waiting (map round_in over2) under_way) log log2 logs is
    (λ was now this tells. subst (λ (rounds : List Round). TellsRounds now rounds under_way) (sym (rounds_then over over2 round true grows ∙ ap (λ (items : List Told). map round_in over ++ (items, true) ∷ []) one)) (tells_one told (map round_in over) under_way was now this tells))

-- or in the round
pub told_shared : (log log2 : Option Waiting) (rounds : List Round) (under_way under_way2 : List Told) (told : Told) → ForSome log (λ (waiting : Waiting). TellsRounds waiting rounds under_way) → Becomes (DraftsOne told) log log2 → under_way2 ≡ under_way ++ told ∷ [] → ForSome log2 (λ (waiting : Waiting). TellsRounds waiting rounds under_way2)
told_shared log log2 rounds under_way under_way2 told is drafts grows =
    becomes (DraftsOne told) (λ (waiting : Waiting). TellsRounds waiting rounds under_way) (λ (waiting : Waiting). TellsRounds waiting rounds under_way2) log log2 drafts is
    (λ was now this tells. subst (λ (more : List Told). TellsRounds now rounds more) (sym grows) (tells_draft told rounds under_way was now this tells))

-- the round is over
pub told_settled : (log log2 : Option Waiting) (kept : Bool) (over over2 : List (Log Entry (Result Answered StoreFault) × Bool)) (round : Log Entry (Result Answered StoreFault)) (under_way2 : List Told) → ForSome log (λ (waiting : Waiting). TellsRounds waiting (map round_in over) round.items) → Becomes (SettlesDrafts kept) log log2 → over2 ≡ over ++ (round, kept) ∷ [] → under_way2 ≡ [] → ForSome log2 (λ (waiting : Waiting). TellsRounds waiting (map round_in over2) under_way2)
told_settled log log2 kept over over2 round under_way2 is settles grows none =
    becomes (SettlesDrafts kept) (λ (waiting : Waiting). TellsRounds waiting (map round_in over) round.items) (λ (waiting : Waiting). TellsRounds waiting (map round_in over2) under_way2) log log2 settles is
    (λ was now this tells. subst (λ (more : List Told). TellsRounds now (map round_in over2) more) (sym none) (subst (λ (rounds : List Round). TellsRounds now rounds []) (sym (rounds_then over over2 round kept grows)) (tells_settled kept (map round_in over) round.items was now this tells)))

-- nothing was applied
pub told_nothing : (log : Option Waiting) (over over2 : List (Log Entry (Result Answered StoreFault) × Bool)) (round : Log Entry (Result Answered StoreFault)) (under_way : List Told) → ForSome log (λ (waiting : Waiting). TellsRounds waiting (map round_in over) under_way) → over2 ≡ over ++ (round, false) ∷ [] → round.items ≡ [] → ForSome log (λ (waiting : Waiting). TellsRounds waiting (map round_in over2) under_way)
told_nothing log over over2 round under_way is grows none =
    subst (λ (rounds : List Round). ForSome log (λ (waiting : Waiting). TellsRounds waiting rounds under_way)) (sym (rounds_then over over2 round false grows ∙ ap (λ (items : List Told). map round_in over ++ (items, false) ∷ []) none)) (tells_nothing (map round_in over) under_way log is)

-- no line came, and none went
pub told_kept : (old new : Option Waiting) (rounds : List Round) (under_way : List Told) → Becomes KeepsLines old new → ForSome old (λ (log : Waiting). TellsRounds log rounds under_way) → ForSome new (λ (log : Waiting). TellsRounds log rounds under_way)
told_kept old new rounds under_way is told = becomes KeepsLines (λ log. TellsRounds log rounds under_way) (λ log. TellsRounds log rounds under_way) old new is told (λ was now keeps tells. record {
  logged = λ none. keeps.logged ∙ tells.logged (sym keeps.missed ∙ none);
  drafts = λ none. keeps.drafts ∙ tells.drafts (sym keeps.missed ∙ none);
})
