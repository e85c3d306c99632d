-- What each job keeps to, beside its texts and documents. The states are those of RFC 8011 section
-- 5.3.7; the rules are this project's own.
use Rattle.std.specs.Prelude.{◌≡◌, ◌*◌, ◌%◌, ◌≤◌, false, None, IsSome, IsNone, IfSome}
use Rattle.account_rules.specs.declared.job.JobState.{JobState}
use Rattle.account_rules.specs.declared.job.JobState.TheVariants.{Held, Pending, Processing, Canceled, Aborted, Completed}
use Rattle.account_rules.specs.declared.job.Standing.{Standing}
use Rattle.account_rules.specs.Names.{IsNameOrNone}
use Rattle.account_rules.specs.Limits.{most_copies, most_impressions, most_rate, most_documents, most_need, IsMoment}

-- nothing is charged before the job ends, and there is no moment of ending
pub record IsUnfinished (s : Standing) : Type 0 where
  pub charges_nothing : s.charged ≡ 0
  pub has_not_ended : s.ended ≡ None

-- it was released: it takes no more documents, has one, and has units reserved
pub record IsReleased (s : Standing) : Type 0 where
  pub unfinished : IsUnfinished s
  pub is_closed : s.is_open ≡ false
  pub has_document : 1 ≤ s.documents
  pub reserves_at_most : s.reserved ≤ most_need

pub record IsHeld (s : Standing) : Type 0 where
  pub unfinished : IsUnfinished s
  pub rate_one : s.rate ≡ 1
  pub reserves_nothing : s.reserved ≡ 0

pub record IsPending (s : Standing) : Type 0 where
  pub released : IsReleased s
  pub rate_one_without_device : IsNone s.device → s.rate ≡ 1

pub record IsProcessing (s : Standing) : Type 0 where
  pub released : IsReleased s
  pub has_device : IsSome s.device

-- what was charged are some impressions at its rate
pub record HasEnded (s : Standing) : Type 0 where
  pub is_closed : s.is_open ≡ false
  pub has_ended : IsSome s.ended
  pub reserves_nothing : s.reserved ≡ 0
  pub charges_impressions : s.charged % s.rate ≡ 0
  pub charges_at_most : s.charged ≤ most_impressions * s.rate

abbrev pub KeepsToState : JobState → Standing → Type 0
KeepsToState Held s = IsHeld s
KeepsToState Pending s = IsPending s
KeepsToState Processing s = IsProcessing s
KeepsToState Canceled s = HasEnded s
KeepsToState Aborted s = HasEnded s
KeepsToState Completed s = HasEnded s

-- its numbers and moments lie in their ranges
pub record HasRanges (s : Standing) : Type 0 where
  pub copies_from_one : 1 ≤ s.copies
  pub copies_at_most : s.copies ≤ most_copies
  pub impressions_at_most : s.impressions ≤ most_impressions
  pub documents_at_most : s.documents ≤ most_documents
  pub rate_from_one : 1 ≤ s.rate
  pub rate_at_most : s.rate ≤ most_rate
  pub created_in_range : IsMoment s.created
  pub started_in_range : IfSome s.started IsMoment
  pub ended_in_range : IfSome s.ended IsMoment

pub record IsStanding (s : Standing) : Type 0 where
  pub ranges : HasRanges s
  pub by_state : KeepsToState s.state s
  pub named_device : IsNameOrNone s.device
