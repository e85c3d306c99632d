-- A document is kept while its job goes on, and no longer.
use Rattle.std.proofs.Common.{◌≡◌, ◌⊎◌, ℕ, ◌<◌, ◌≤◌, Bool, true, false, not, length, Option, Some, None, IsSomeAnd, refl, sym, subst, ◌∙◌, arith, inl, inr}
use Rattle.std.specs.FinMap.{get}
use Rattle.std.proofs.lemmas.Bool.{cases_lt}
use Rattle.std.proofs.lemmas.Option.{none-some}
use Rattle.account_laws.proofs.AsTold.{Keeps, all_keep}
use Rattle.account_laws.proofs.AsToldSums.{ends_at}
use Rattle.account_laws.proofs.DocumentPlaces.{HasNotEnded, is_placed}
use Rattle.account_laws.proofs.DocumentsOfJobs.{has_of_jobs}
use Rattle.account_laws.specs.AccountsTold.{AccountTold, account_told}
use Rattle.account_laws.specs.DocumentsKept.{DocumentsGoWithTheirJobs, IsKeptFor}
use Rattle.account_laws.specs.JobsTold.{JobTold, is_over}
use Rattle.account_laws.specs.StandsAsTold.{AreAsTold}
use Rattle.account_rules.specs.declared.job.Document.{Document}
use Rattle.account_rules.specs.declared.job.Job.{Job}
use Rattle.account_state.specs.Rooms.{RoomValue}

not_over : (over : Bool) → not over ≡ true → over ≡ false
not_over false is = refl
not_over true is = absurd (let no : ⊥ = cc in no)

kept : (told : AccountTold) (room : RoomValue) (keeps : Keeps told room) (number place : ℕ) (document : Document) → get room.documents (number, place) ≡ Some document → 1 ≤ place
    → (ticket : Option JobTold) (found : Option Job) → get room.jobs number ≡ found → AreAsTold number ticket room found → IsSomeAnd found HasNotEnded → IsSomeAnd ticket (IsKeptFor place)
kept told room keeps number place document here from_one None found there are goes = absurd (subst (λ (o : Option Job). IsSomeAnd o HasNotEnded) are goes)
kept told room keeps number place document here from_one (Some ticket) None there are goes = absurd are
kept told room keeps number place document here from_one (Some ticket) (Some job) there is goes = record {
  goes_on = not_over (is_over ticket.stage) (sym (ends_at ticket.stage job.standing is.stage) ∙ goes);
  from_one = from_one;
  was_sent = by (cases_lt (length ticket.documents) place);
}
  where
    by : (length ticket.documents < place) ⊎ (place ≤ length ticket.documents) → place ≤ length ticket.documents
    by (inr sent) = sent
    by (inl past) = let count = is.count in absurd (none-some document (sym (keeps.no_further number job there goes place (omega (arith, count, past))) ∙ here))

pub documents_go_with_their_jobs : DocumentsGoWithTheirJobs
documents_go_with_their_jobs life room devices is number place document here =
    let told = account_told life in
    let keeps : Keeps told room = (all_keep life (Some room) devices is).account in
    let at = is_placed life (Some room) devices is number place document here in (
      has_of_jobs life (Some room) devices is number place document here,
      at.0,
      kept told room keeps number place document here at.1 (get told.jobs number) (get room.jobs number) refl (keeps.stands.jobs number) at.2,
    )
