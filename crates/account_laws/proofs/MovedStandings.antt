-- An act that lies within the limits leaves a job within them.
use Rattle.std.proofs.Common.{◌≡◌, ℕ, ◌+◌, ◌*◌, ◌%◌, ◌≤◌, ℤ, Bool, true, false, not, ◌&&◌, ◌||◌, ◌==◌, nat_lt, nat_le, if◌then◌else◌, List, Option, Some, None, Result, Ok, Err, IsTrue, refl, sym, ap, subst, ◌∙◌, arith}
use Rattle.std.specs.Prelude.{IsNone, is_none}
use Rattle.std.proofs.lemmas.Bool.Decides.{nat_tests}
use Rattle.std.proofs.Math.Nat.{mul-mod_left}
use native.Mathlib.Nat.{zero-mod}
use Rattle.std.proofs.lemmas.Nat.{mul-le}
use Rattle.account_rules.specs.Acts.{Act, SendDocument, CancelJob, HoldJob, ReleaseJob, StationRelease, StationStart, StationSettle}
use Rattle.account_rules.specs.Effects.{after_cancel, after_document, after_hold, after_release, after_reserving, after_settling, after_start, after_station_release, after_stop, end_of, impressions_of, is_bound_elsewhere, is_incomplete, is_wrong_password}
use Rattle.account_rules.specs.Limits.{most_copies, most_documents, most_impressions, most_rate, IsMoment, IsRate}
use Rattle.account_rules.specs.Moves.{cell, move}
use Rattle.account_rules.specs.Names.{IsNameOrNone, is_name}
use Rattle.account_rules.specs.Quota.{exceeds, need_of}
use Rattle.account_rules.specs.Standings.{HasEnded, IsHeld, IsPending, IsProcessing, IsStanding, IsUnfinished, KeepsToState}
use Rattle.account_rules.specs.declared.job.JobState.{JobState}
use Rattle.account_rules.specs.declared.job.JobState.TheVariants.{Held, Pending, Processing, Canceled, Aborted, Completed}
use Rattle.account_rules.specs.declared.job.Standing.{Standing}
use Rattle.account_rules.specs.declared.refusal.Refusal.{Refusal}

-- an act within the limits: its moment, and what its station brings
abbrev pub IsActWithin : Act → Type 0
IsActWithin (CancelJob now) = IsMoment now
IsActWithin (StationRelease kept device given impressions rate left) =
    IsTrue (is_name device) × (impressions ≤ most_impressions) × IsRate rate
IsActWithin (StationStart device rate now) = IsTrue (is_name device) × IsMoment now
IsActWithin (StationSettle device completed failed now) = (completed ≤ most_impressions) × IsMoment now
IsActWithin _ = Unit {0}

-- ---- the cells of the table

refused_never : {P : Type 0} (refusal : Refusal) (next : Standing) → ◌≡◌ {A = Result Standing Refusal} (Err refusal) (Ok next) → P
refused_never refusal next is = absurd (let no : ⊥ = cc in no)

-- what holds of each cell holds of the act
by_cell : (P : Type 0) (s next : Standing) (held pending processing ended : Result Standing Refusal) → KeepsToState s.state s
    → (s.state ≡ Held → IsHeld s → held ≡ Ok next → P)
    → (s.state ≡ Pending → IsPending s → pending ≡ Ok next → P)
    → (s.state ≡ Processing → IsProcessing s → processing ≡ Ok next → P)
    → (ended ≡ Ok next → P)
    → cell s.state held pending processing ended ≡ Ok next → P
by_cell P s next held pending processing ended keeps h p r e =
    (elim s.state as (λ state. s.state ≡ state → KeepsToState state s → cell state held pending processing ended ≡ Ok next → P) [
      | Held ↦ h
      | Pending ↦ p
      | Processing ↦ r
      | Canceled ↦ λ _ _. e
      | Aborted ↦ λ _ _. e
      | Completed ↦ λ _ _. e
    ]) refl keeps

-- what one check lets pass
unless_refused : (refused : Bool) (refusal : Refusal) (rest : Result Standing Refusal) (next : Standing) → (if refused then Err refusal else rest) ≡ Ok next → (refused ≡ false) × (rest ≡ Ok next)
unless_refused true refusal rest next is = refused_never refusal next is
unless_refused false refusal rest next is = (refl, is)

-- what an act makes of a job is the next standing
so : (s next : Standing) → IsStanding s → ◌≡◌ {A = Result Standing Refusal} (Ok s) (Ok next) → IsStanding next
so s next is same = let this : s ≡ next = cc in subst IsStanding this is

-- ---- what each effect leaves

-- a job in a state keeps to it
keeps_to : (state : JobState) (s : Standing) → s.state ≡ state → KeepsToState state s → KeepsToState s.state s
keeps_to state s is keeps = subst (λ (st : JobState). KeepsToState st s) (sym is) keeps

-- a held job stays within its limits with a few documents, open or closed
with_documents : (s : Standing) (is_open : Bool) (documents : ℕ) → s.state ≡ Held → IsHeld s → IsStanding s → documents ≤ most_documents → IsStanding (record s { is_open = is_open; documents = documents })
with_documents s is_open documents held keeps is few = record {
  ranges = assumption (is.ranges, few);
  by_state = keeps_to Held (record s { is_open = is_open; documents = documents }) held (assumption keeps);
  named_device = is.named_device;
}

no_more : (most n : ℕ) → nat_le most n ≡ false → n + 1 ≤ most
no_more most n is = grind (arith, nat_tests)

-- Send-Document
document_stands : (s next : Standing) (last some_data : Bool) → IsStanding s → s.state ≡ Held → IsHeld s → after_document s last some_data ≡ Ok next → IsStanding next
document_stands s next last false is held keeps moved =
    let opened = unless_refused (not s.is_open) _ (Ok (record s { is_open = not last })) next moved in
    so (record s { is_open = not last }) next (with_documents s (not last) s.documents held keeps is is.ranges.documents_at_most) opened.1
document_stands s next last true is held keeps moved =
    let more : Standing = record s { is_open = not last; documents = s.documents + 1 } in
    let opened = unless_refused (not s.is_open) _ (if nat_le most_documents s.documents then _ else Ok more) next moved in
    let few = unless_refused (nat_le most_documents s.documents) _ (Ok more) next opened.1 in
    so more next (with_documents s (not last) (s.documents + 1) held keeps is (no_more most_documents s.documents few.0)) few.1

-- where nothing is charged, no impressions are
none_charged : (charged rate : ℕ) → charged ≡ 0 → (charged % rate ≡ 0) × (charged ≤ most_impressions * rate)
none_charged charged rate none = (ap (λ n. n % rate) none ∙ zero-mod rate, omega (arith, none))

-- Cancel-Job before printing
cancel_stands : (s : Standing) (now : ℕ) → IsStanding s → IsUnfinished s → IsMoment now → IsStanding (after_cancel s now)
cancel_stands s now is unfinished moment = record {
  ranges = assumption (is.ranges, moment);
  by_state = record {
    is_closed = refl;
    has_ended = refl;
    reserves_nothing = refl;
    charges_impressions = (none_charged s.charged s.rate unfinished.charges_nothing).0;
    charges_at_most = (none_charged s.charged s.rate unfinished.charges_nothing).1;
  };
  named_device = is.named_device;
}

-- Cancel-Job while the job is processing
stop_stands : (s next : Standing) → IsStanding s → s.state ≡ Processing → IsProcessing s → after_stop s ≡ Ok next → IsStanding next
stop_stands s next is processing keeps moved =
    let stopping : Standing = record s { stopping = true } in
    let told = unless_refused s.stopping _ (Ok stopping) next moved in
    so stopping next (record {
      ranges = assumption is.ranges;
      by_state = keeps_to Processing stopping processing (assumption keeps);
      named_device = is.named_device;
    }) told.1

-- Hold-Job
hold_stands : (s : Standing) → IsStanding s → IsUnfinished s → IsStanding (after_hold s)
hold_stands s is unfinished = let rate_one : IsRate 1 = (omega arith, omega arith) in record {
  ranges = assumption (is.ranges, rate_one.0, rate_one.1);
  by_state = record {
    unfinished = assumption unfinished;
    rate_one = refl;
    reserves_nothing = refl;
  };
  named_device = tt;
}

-- a job that is complete is closed and has a document
complete : (s : Standing) → is_incomplete s ≡ false → (s.is_open ≡ false) × (1 ≤ s.documents)
complete s is = both s.is_open s.documents is
  where
    both : (is_open : Bool) (documents : ℕ) → (is_open || documents == 0) ≡ false → (is_open ≡ false) × (1 ≤ documents)
    both true documents is = absurd (let no : ⊥ = cc in no)
    both false documents is = (refl, grind (arith, nat_tests))

-- a release of a job that is complete
reserving_stands : (s next : Standing) (impressions rate : ℕ) (device : Option (List ℕ)) (left : ℤ) → IsStanding s → IsHeld s → is_incomplete s ≡ false → impressions ≤ most_impressions → IsRate rate → IsNameOrNone device
    → (IsNone device → rate ≡ 1) → after_reserving s impressions rate device left ≡ Ok next → IsStanding next
reserving_stands s next impressions rate device left is keeps done few rated named alone moved =
    let need = need_of impressions s.copies rate in
    let pending : Standing = record s { state = Pending; impressions = impressions; reserved = need; rate = rate; device = device } in
    let known = unless_refused (impressions == 0) _ (if exceeds need left then _ else Ok pending) next moved in
    let within = unless_refused (exceeds need left) _ (Ok pending) next known.1 in
    so pending next (record {
      ranges = assumption (is.ranges, few, rated.0, rated.1);
      by_state = record {
        released = record {
          unfinished = assumption keeps;
          is_closed = (complete s done).0;
          has_document = (complete s done).1;
          reserves_at_most = mul-le (impressions * s.copies) rate (most_impressions * most_copies) most_rate (mul-le impressions s.copies most_impressions most_copies few is.ranges.copies_at_most) rated.1;
        };
        rate_one_without_device = alone;
      };
      named_device = named;
    }) within.1

-- Release-Job
release_stands : (s next : Standing) (has_password : Bool) (left : ℤ) → IsStanding s → IsHeld s → after_release s has_password left ≡ Ok next → IsStanding next
release_stands s next has_password left is keeps moved =
    let done = unless_refused (is_incomplete s) _ (if has_password then _ else after_reserving s s.impressions 1 None left) next moved in
    let open_to_all = unless_refused has_password _ (after_reserving s s.impressions 1 None left) next done.1 in
    reserving_stands s next s.impressions 1 None left is keeps done.0 is.ranges.impressions_at_most (omega arith, omega arith) tt (λ _. refl) open_to_all.1

-- the impressions of a release at a station
handed_in_within : (s : Standing) (handed_in : ℕ) → s.impressions ≤ most_impressions → handed_in ≤ most_impressions → impressions_of s handed_in ≤ most_impressions
handed_in_within s handed_in said handed = either (nat_lt 0 handed_in)
  where
    either : (b : Bool) → (if b then handed_in else s.impressions) ≤ most_impressions
    either true = handed
    either false = said

-- a release at a station
station_release_stands : (s next : Standing) (kept device given : List ℕ) (handed_in rate : ℕ) (left : ℤ) → IsStanding s → IsHeld s → IsTrue (is_name device) → handed_in ≤ most_impressions → IsRate rate
    → after_station_release s kept device given handed_in rate left ≡ Ok next → IsStanding next
station_release_stands s next kept device given handed_in rate left is keeps named few rated moved =
    let reserving = after_reserving s (impressions_of s handed_in) rate (Some device) left in
    let done = unless_refused (is_incomplete s) _ (if is_wrong_password kept given then _ else reserving) next moved in
    let right = unless_refused (is_wrong_password kept given) _ reserving next done.1 in
    reserving_stands s next (impressions_of s handed_in) rate (Some device) left is keeps done.0 (handed_in_within s handed_in is.ranges.impressions_at_most few) rated named (λ none. absurd (let no : ⊥ = cc in no)) right.1

-- a start
start_stands : (s next : Standing) (device : List ℕ) (rate now : ℕ) → IsStanding s → IsPending s → IsTrue (is_name device) → IsMoment now → after_start s device rate now ≡ Ok next → IsStanding next
start_stands s next device rate now is keeps named moment moved =
    let started : Standing = record s { state = Processing; device = Some device; started = Some now } in
    let here = unless_refused (is_bound_elsewhere s.device device) _ (if is_none s.device && not (rate == 1) then _ else Ok started) next moved in
    let at_rate = unless_refused (is_none s.device && not (rate == 1)) _ (Ok started) next here.1 in
    so started next (record {
      ranges = assumption (is.ranges, moment);
      by_state = record {
        released = assumption keeps.released;
        has_device = refl;
      };
      named_device = named;
    }) at_rate.1

-- however it ends
ends : (stopping failed : Bool) (s : Standing) → HasEnded s → KeepsToState (end_of stopping failed) s
ends true failed s ended = ended
ends false true s ended = ended
ends false false s ended = ended

-- a settlement
settling_stands : (s next : Standing) (device : List ℕ) (completed : ℕ) (failed : Bool) (now : ℕ) → IsStanding s → completed ≤ most_impressions → IsMoment now → after_settling s device completed failed now ≡ Ok next → IsStanding next
settling_stands s next device completed failed now is few moment moved =
    let settled : Standing = record s { state = end_of s.stopping failed; is_open = false; reserved = 0; charged = completed * s.rate; ended = Some now } in
    let here = unless_refused (is_bound_elsewhere s.device device) _ (Ok settled) next moved in
    so settled next (record {
      ranges = assumption (is.ranges, moment);
      by_state = ends s.stopping failed settled (record {
        is_closed = refl;
        has_ended = refl;
        reserves_nothing = refl;
        charges_impressions = mul-mod_left completed s.rate;
        charges_at_most = mul-le completed s.rate most_impressions s.rate few (omega arith);
      });
      named_device = is.named_device;
    }) here.1

-- ---- the table

pub moved_stands : (act : Act) (s next : Standing) → IsStanding s → IsActWithin act → move act s ≡ Ok next → IsStanding next
moved_stands (SendDocument last some_data) s next is within =
    by_cell (IsStanding next) s next _ _ _ _ is.by_state (λ held keeps. document_stands s next last some_data is held keeps) (λ _ _. refused_never _ next) (λ _ _. refused_never _ next) (refused_never _ next)
moved_stands (CancelJob now) s next is within =
    by_cell (IsStanding next) s next _ _ _ _ is.by_state
    (λ _ keeps. so (after_cancel s now) next (cancel_stands s now is keeps.unfinished within))
    (λ _ keeps. so (after_cancel s now) next (cancel_stands s now is keeps.released.unfinished within))
    (λ processing keeps. stop_stands s next is processing keeps) (refused_never _ next)
moved_stands HoldJob s next is within =
    by_cell (IsStanding next) s next _ _ _ _ is.by_state (λ _ _. so s next is) (λ _ keeps. so (after_hold s) next (hold_stands s is keeps.released.unfinished)) (λ _ _. refused_never _ next) (refused_never _ next)
moved_stands (ReleaseJob has_password left) s next is within =
    by_cell (IsStanding next) s next _ _ _ _ is.by_state (λ _ keeps. release_stands s next has_password left is keeps) (λ _ _. so s next is) (λ _ _. so s next is) (refused_never _ next)
moved_stands (StationRelease kept device given impressions rate left) s next is within =
    by_cell (IsStanding next) s next _ _ _ _ is.by_state (λ _ keeps. station_release_stands s next kept device given impressions rate left is keeps within.0 within.1 within.2)
    (λ _ _. refused_never _ next) (λ _ _. refused_never _ next) (refused_never _ next)
moved_stands (StationStart device rate now) s next is within =
    by_cell (IsStanding next) s next _ _ _ _ is.by_state (λ _ _. refused_never _ next) (λ _ keeps. start_stands s next device rate now is keeps within.0 within.1) (λ _ _. refused_never _ next) (refused_never _ next)
moved_stands (StationSettle device completed failed now) s next is within =
    by_cell (IsStanding next) s next _ _ _ _ is.by_state (λ _ _. refused_never _ next) (λ _ _. refused_never _ next) (λ _ _. settling_stands s next device completed failed now is within.0 within.1) (refused_never _ next)
