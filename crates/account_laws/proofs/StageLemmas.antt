-- What an act makes of a job's standing, as its stage was told.
use Rattle.std.proofs.Common.{◌≡◌, ◌*◌, ℕ, ℤ, Bool, true, false, List, Option, Some, None, Ok, refl, sym, ap, subst, ◌∙◌, arith}
use Rattle.std.proofs.lemmas.Grind.{common_steps}
use Rattle.account_laws.specs.JobsTold.{Stage, Waits, IsFree, Prints, HasEnded, end_told, stage_canceled, stage_held, stage_released, stage_settled, stage_started}
use Rattle.account_laws.specs.StandsAsTold.{IsAt, IsOver, IsPrinting, IsReleased, was_stopped}
use Rattle.account_rules.specs.Acts.{Act, CancelJob, HoldJob, ReleaseJob, SendDocument, StationRelease, StationSettle, StationStart}
use Rattle.account_rules.specs.JobStates.{has_ended}
use Rattle.account_rules.specs.Effects.{end_of, impressions_of}
use Rattle.account_rules.specs.Moves.{move}
use Rattle.account_rules.specs.declared.job.JobState.{JobState}
use Rattle.account_rules.specs.declared.job.Standing.{Standing}
use Rattle.account_laws.proofs.Moved.{none_ended}

-- a stage that has ended is not moved
over_stays : {A : Type 0} (it : Act) (s next : Standing) (how : JobState) (count units : ℕ) (since : Option ℕ) (at_moment : ℕ) → IsOver how count units since at_moment s → move it s ≡ Ok next → A
over_stays it s next how count units since at_moment over goes = absurd (none_ended it s next goes (ap has_ended over.state ∙ over.is_end))

pub sent_at : (last some_data : Bool) (stage : Stage) (s next : Standing) → IsAt stage s → move (SendDocument last some_data) s ≡ Ok next → IsAt stage next
sent_at last some_data Waits s next at goes = record { state = grind (arith, common_steps); bound = grind (arith, common_steps); rated = grind (arith, common_steps); reserved = grind (arith, common_steps); charged = grind (arith, common_steps); stopping = grind (arith, common_steps); started = grind (arith, common_steps); ended = grind (arith, common_steps) }
sent_at last some_data (IsFree device rate units) s next at goes = absurd (grind (arith, common_steps))
sent_at last some_data (Prints device rate units since is_canceled) s next at goes = absurd (grind (arith, common_steps))
sent_at last some_data (HasEnded how count units since at_moment) s next at goes = over_stays (SendDocument last some_data) s next how count units since at_moment at goes

pub held_at : (stage : Stage) (s next : Standing) → IsAt stage s → move HoldJob s ≡ Ok next → IsAt (stage_held stage) next
held_at Waits s next at goes = record { state = grind (arith, common_steps); bound = grind (arith, common_steps); rated = grind (arith, common_steps); reserved = grind (arith, common_steps); charged = grind (arith, common_steps); stopping = grind (arith, common_steps); started = grind (arith, common_steps); ended = grind (arith, common_steps) }
held_at (IsFree device rate units) s next at goes = record { state = grind (arith, common_steps); bound = grind (arith, common_steps); rated = grind (arith, common_steps); reserved = grind (arith, common_steps); charged = grind (arith, common_steps); stopping = grind (arith, common_steps); started = grind (arith, common_steps); ended = grind (arith, common_steps) }
held_at (Prints device rate units since is_canceled) s next at goes = absurd (grind (arith, common_steps))
held_at (HasEnded how count units since at_moment) s next at goes = over_stays HoldJob s next how count units since at_moment at goes

pub canceled_at : (now : ℕ) (stage : Stage) (s next : Standing) → IsAt stage s → move (CancelJob now) s ≡ Ok next → IsAt (stage_canceled now stage) next
canceled_at now Waits s next at goes = record { state = grind (arith, common_steps); is_end = refl; closed = grind (arith, common_steps); stopping = grind (arith, common_steps); reserved = grind (arith, common_steps); charged = grind (arith, common_steps); counted = grind (arith, common_steps); started = grind (arith, common_steps); ended = grind (arith, common_steps) }
canceled_at now (IsFree device rate units) s next at goes = record { state = grind (arith, common_steps); is_end = refl; closed = grind (arith, common_steps); stopping = grind (arith, common_steps); reserved = grind (arith, common_steps); charged = grind (arith, common_steps); counted = grind (arith, common_steps); started = grind (arith, common_steps); ended = grind (arith, common_steps) }
canceled_at now (Prints device rate units since is_canceled) s next at goes = record {
  state = grind (arith, common_steps);
  bound = grind (arith, common_steps);
  rated = grind (arith, common_steps);
  reserved = grind (arith, common_steps);
  charged = grind (arith, common_steps);
  stopping = grind (arith, common_steps);
  started = grind (arith, common_steps);
  ended = grind (arith, common_steps);
}
canceled_at now (HasEnded how count units since at_moment) s next at goes = over_stays (CancelJob now) s next how count units since at_moment at goes

pub freed_at : (has_password : Bool) (left : ℤ) (stage : Stage) (s next : Standing) → IsAt stage s → move (ReleaseJob has_password left) s ≡ Ok next → IsAt (stage_released None 1 (s.impressions * s.copies * 1) stage) next
freed_at has_password left Waits s next at goes = record {
  state = grind (arith, common_steps);
  bound = grind (arith, common_steps);
  rated = grind (arith, common_steps);
  reserved = grind (arith, common_steps);
  charged = grind (arith, common_steps);
  stopping = grind (arith, common_steps);
  started = grind (arith, common_steps);
  ended = grind (arith, common_steps);
}
freed_at has_password left (IsFree device rate units) s next at goes = let same : s ≡ next = grind (arith, common_steps) in subst (IsReleased device rate units) same at
freed_at has_password left (Prints device rate units since is_canceled) s next at goes = let same : s ≡ next = grind (arith, common_steps) in subst (IsPrinting device rate units since is_canceled) same at
freed_at has_password left (HasEnded how count units since at_moment) s next at goes = over_stays (ReleaseJob has_password left) s next how count units since at_moment at goes

pub released_at : (kept device given : List ℕ) (handed_in rate : ℕ) (left : ℤ) (stage : Stage) (s next : Standing) → IsAt stage s → move (StationRelease kept device given handed_in rate left) s ≡ Ok next
    → IsAt (stage_released (Some device) rate (impressions_of s handed_in * s.copies * rate) stage) next
released_at kept device given handed_in rate left Waits s next at goes = record {
  state = grind (arith, common_steps);
  bound = grind (arith, common_steps);
  rated = grind (arith, common_steps);
  reserved = grind (arith, common_steps);
  charged = grind (arith, common_steps);
  stopping = grind (arith, common_steps);
  started = grind (arith, common_steps);
  ended = grind (arith, common_steps);
}
released_at kept device given handed_in rate left (IsFree for at_rate units) s next at goes = absurd (grind (arith, common_steps))
released_at kept device given handed_in rate left (Prints by at_rate units since is_canceled) s next at goes = absurd (grind (arith, common_steps))
released_at kept device given handed_in rate left (HasEnded how count units since at_moment) s next at goes = over_stays (StationRelease kept device given handed_in rate left) s next how count units since at_moment at goes

pub started_at : (device : List ℕ) (rate now : ℕ) (stage : Stage) (s next : Standing) → IsAt stage s → move (StationStart device rate now) s ≡ Ok next → IsAt (stage_started device now stage) next
started_at device rate now Waits s next at goes = absurd (grind (arith, common_steps))
started_at device rate now (IsFree for at_rate units) s next at goes = record {
  state = grind (arith, common_steps);
  bound = grind (arith, common_steps);
  rated = grind (arith, common_steps);
  reserved = grind (arith, common_steps);
  charged = grind (arith, common_steps);
  stopping = grind (arith, common_steps);
  started = grind (arith, common_steps);
  ended = grind (arith, common_steps);
}
started_at device rate now (Prints by at_rate units since is_canceled) s next at goes = absurd (grind (arith, common_steps))
started_at device rate now (HasEnded how count units since at_moment) s next at goes = over_stays (StationStart device rate now) s next how count units since at_moment at goes

-- it ends in one of three ways
ends : (is_canceled failed : Bool) → has_ended (end_told is_canceled failed) ≡ true
ends true failed = refl
ends false true = refl
ends false false = refl

same_end : (is_canceled failed : Bool) → end_of is_canceled failed ≡ end_told is_canceled failed
same_end true failed = refl
same_end false true = refl
same_end false false = refl

-- it was canceled while the device printed it just where it ended as canceled
stopped_then : (is_canceled failed : Bool) (since : ℕ) → is_canceled ≡ was_stopped (end_told is_canceled failed) (Some since)
stopped_then true failed since = refl
stopped_then false true since = refl
stopped_then false false since = refl

pub settled_at : (device : List ℕ) (count : ℕ) (failed : Bool) (now : ℕ) (stage : Stage) (s next : Standing) → IsAt stage s → move (StationSettle device count failed now) s ≡ Ok next → IsAt (stage_settled count failed now stage) next
settled_at device count failed now Waits s next at goes = absurd (grind (arith, common_steps))
settled_at device count failed now (IsFree for at_rate units) s next at goes = absurd (grind (arith, common_steps))
settled_at device count failed now (Prints by at_rate units since is_canceled) s next at goes =
    let is : (next.state ≡ end_of s.stopping failed) × (next.reserved ≡ 0) × (next.charged ≡ count * s.rate) × (next.rate ≡ s.rate) × (next.started ≡ s.started) × (next.ended ≡ Some now) × (next.is_open ≡ false) × (next.stopping ≡ s.stopping) = grind (arith, common_steps) in
    record {
      state = is.0 ∙ ap (λ (b : Bool). end_of b failed) at.stopping ∙ same_end is_canceled failed;
      is_end = ends is_canceled failed;
      closed = is.6;
      stopping = is.7 ∙ at.stopping ∙ stopped_then is_canceled failed since;
      reserved = is.1;
      charged = is.2 ∙ ap (λ (r : ℕ). count * r) at.rated;
      counted = is.2 ∙ ap (λ (r : ℕ). count * r) (sym is.3);
      started = is.4 ∙ at.started;
      ended = is.5;
    }
settled_at device count failed now (HasEnded how counted units since at_moment) s next at goes = over_stays (StationSettle device count failed now) s next how counted units since at_moment at goes

-- ---- the device that it is bound to, and its rate

-- a job that is held is bound to none
pub held_binds : (stage : Stage) (s next : Standing) → IsAt stage s → move HoldJob s ≡ Ok next → (next.device ≡ None) × (next.rate ≡ 1)
held_binds Waits s next at goes = let held = held_at Waits s next at goes in (held.bound, held.rated)
held_binds (IsFree device rate units) s next at goes = let held = held_at (IsFree device rate units) s next at goes in (held.bound, held.rated)
held_binds (Prints device rate units since is_canceled) s next at goes = absurd (grind (arith, common_steps))
held_binds (HasEnded how count units since at_moment) s next at goes = over_stays HoldJob s next how count units since at_moment at goes

-- one that is released over IPP keeps the device that it has, which is none where it waits
pub freed_binds : (has_password : Bool) (left : ℤ) (stage : Stage) (s next : Standing) → IsAt stage s → move (ReleaseJob has_password left) s ≡ Ok next → (next.device ≡ s.device) × (next.rate ≡ s.rate)
freed_binds has_password left Waits s next at goes = let freed = freed_at has_password left Waits s next at goes in (freed.bound ∙ sym at.bound, freed.rated ∙ sym at.rated)
freed_binds has_password left (IsFree device rate units) s next at goes = let same : s ≡ next = grind (arith, common_steps) in (ap (λ (s : Standing). s.device) (sym same), ap (λ (s : Standing). s.rate) (sym same))
freed_binds has_password left (Prints device rate units since is_canceled) s next at goes = let same : s ≡ next = grind (arith, common_steps) in (ap (λ (s : Standing). s.device) (sym same), ap (λ (s : Standing). s.rate) (sym same))
freed_binds has_password left (HasEnded how count units since at_moment) s next at goes = over_stays (ReleaseJob has_password left) s next how count units since at_moment at goes
