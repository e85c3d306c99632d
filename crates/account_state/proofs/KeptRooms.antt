-- Each change of a room keeps its rules.
use Rattle.std.proofs.Common.{◌≡◌, ℕ, ◌+◌, true, false, ◌&&◌, nat_le, Option, Some, None, refl, sym, ap, subst, ◌∙◌, arith}
use Rattle.std.specs.Option.{IsSome, IfSome, option_map_or}
use Rattle.std.specs.Ordering.{nat_cmp}
use Rattle.std.specs.FinMap.{FinMap, get, insert}
use Rattle.std.proofs.lemmas.Bool.Decides.{nat_tests}
use Rattle.account_rules.specs.JobStates.{is_unfinished}
use Rattle.account_rules.specs.declared.job.Job.{Job}
use Rattle.account_rules.specs.declared.job.Document.{Document}
use Rattle.account_rules.specs.declared.job.Standing.{Standing}
use Rattle.account_state.specs.Rooms.{RoomValue}
use Rattle.account_state.specs.RoomRules.{IsRoom, IsJobAt, has_document}
use Rattle.account_state.specs.Changes.{with_new_job, with_standing, with_ended, with_grant, with_document, restood, without_documents}
use Rattle.account_state.specs.Conditions.{CanAddJob, CanRestand, CanFinish, CanAddGrant, GoesOn}
use Rattle.account_state.proofs.KeptJobs.{jobs_with, below_more, none_next, one_more_unfinished, no_more_unfinished}
use Rattle.account_state.proofs.KeptDocuments.{documents_with, all_documents_with, documents_left, all_documents_left}
use Rattle.account_state.proofs.KeptGrants.{grants_with}

pub job_there : (o : Option Job) → IsSome o → (job : Job) × (o ≡ Some job)
job_there None some = absurd (let no : ⊥ = cc in no)
job_there (Some job) some = (job, refl)

pub restood_there : (jobs : FinMap nat_cmp Job) (number : ℕ) (standing : Standing) (job : Job) → get jobs number ≡ Some job → restood jobs number standing ≡ insert jobs number (record job { standing = standing })
restood_there jobs number standing job here = ap (λ (o : Option Job). option_map_or (λ (job : Job). insert jobs number (record job { standing = standing })) o jobs) here

none_before : (n : ℕ) → (nat_le 1 n && nat_le n 0) ≡ false
none_before n = grind (arith, nat_tests)

pub add_job_keeps : (room : RoomValue) (job : Job) (document : Option Document) → IsRoom room → CanAddJob room job document → IsRoom (with_new_job room job document)
add_job_keeps room job document rules can =
    let none : get room.jobs room.next ≡ None = none_next room rules in
    let free : get room.jobs job.job ≡ None = ap (get room.jobs) can.numbered ∙ none in
    let at : IsJobAt (room.next + 1) job.job job = record {
      numbered = refl;
      from_one = omega (arith, can.numbered, rules.next_from_one);
      below_next = omega (arith, can.numbered);
      name_fits = can.name_fits;
      password_fits = can.password_fits;
      standing = can.in_range;
    } in
    let goes : GoesOn job.job 0 job.standing.documents document = subst (λ n. GoesOn n 0 job.standing.documents document) (sym can.numbered) can.documents in
    record {
      opened_in_range = rules.opened_in_range;
      next_from_one = omega arith;
      next_in_range = omega (arith, can.a_number_is_left);
      jobs = jobs_with room.jobs (room.next + 1) job.job job (λ q other here. below_more room.next (room.next + 1) q other (omega arith) (rules.jobs q other here)) at;
      few_unfinished = omega (arith, one_more_unfinished room.jobs job.job job free, can.few_are_unfinished);
      documents = documents_with room.documents job.job 0 job.standing.documents document goes rules.documents;
      all_documents = all_documents_with room.documents room.jobs job.job 0 job rules.all_documents (λ n. ap (λ (o : Option Job). has_document o n) free ∙ sym (none_before n)) can.stays_unfinished document goes;
      grants = rules.grants;
    }

pub restand_keeps : (room : RoomValue) (number : ℕ) (standing : Standing) (document : Option Document) → IsRoom room → CanRestand room number standing document → IsRoom (with_standing room number standing document)
restand_keeps room number standing document rules can =
    let there = job_there (get room.jobs number) can.is_there in
    let was : Job = there.0 in
    let job : Job = record was { standing = standing } in
    let before : is_unfinished was.standing.state ≡ true = subst (λ (o : Option Job). IfSome o (λ (j : Job). is_unfinished j.standing.state ≡ true)) there.1 can.was_unfinished in
    let goes : GoesOn number was.standing.documents standing.documents document = subst (λ (o : Option Job). IfSome o (λ (j : Job). GoesOn number j.standing.documents standing.documents document)) there.1 can.documents in
    let at : IsJobAt room.next number was = rules.jobs number was there.1 in
    let kept : IsRoom (record room { jobs = insert room.jobs number job; documents = with_document room.documents document }) = record {
      opened_in_range = rules.opened_in_range;
      next_from_one = rules.next_from_one;
      next_in_range = rules.next_in_range;
      jobs = jobs_with room.jobs room.next number job rules.jobs (record { numbered = at.numbered; from_one = at.from_one; below_next = at.below_next; name_fits = at.name_fits; password_fits = at.password_fits; standing = can.in_range });
      few_unfinished = omega (arith, no_more_unfinished room.jobs number was job there.1 (λ _. before), rules.few_unfinished);
      documents = documents_with room.documents number was.standing.documents standing.documents document goes rules.documents;
      all_documents = all_documents_with room.documents room.jobs number was.standing.documents job rules.all_documents
          (λ n. ap (λ (o : Option Job). has_document o n) there.1 ∙ ap (λ b. b && nat_le 1 n && nat_le n was.standing.documents) before) can.stays_unfinished document goes;
      grants = rules.grants;
    } in
    subst (λ jobs. IsRoom (record room { jobs = jobs; documents = with_document room.documents document })) (sym (restood_there room.jobs number standing was there.1)) kept

pub finish_keeps : (room : RoomValue) (number : ℕ) (standing : Standing) → IsRoom room → CanFinish room number standing → IsRoom (with_ended room number standing)
finish_keeps room number standing rules can =
    let there = job_there (get room.jobs number) can.is_there in
    let was : Job = there.0 in
    let job : Job = record was { standing = standing } in
    let at : IsJobAt room.next number was = rules.jobs number was there.1 in
    let kept : IsRoom (record room { jobs = insert room.jobs number job; documents = without_documents room.documents number }) = record {
      opened_in_range = rules.opened_in_range;
      next_from_one = rules.next_from_one;
      next_in_range = rules.next_in_range;
      jobs = jobs_with room.jobs room.next number job rules.jobs (record { numbered = at.numbered; from_one = at.from_one; below_next = at.below_next; name_fits = at.name_fits; password_fits = at.password_fits; standing = can.in_range });
      few_unfinished = omega (arith, no_more_unfinished room.jobs number was job there.1 (λ unfinished. absurd (let no : ⊥ = cc in no)), rules.few_unfinished);
      documents = documents_left room.documents number rules.documents;
      all_documents = all_documents_left room.documents room.jobs number job rules.all_documents can.has_ended;
      grants = rules.grants;
    } in
    subst (λ jobs. IsRoom (record room { jobs = jobs; documents = without_documents room.documents number })) (sym (restood_there room.jobs number standing was there.1)) kept

pub add_grant_keeps : (room : RoomValue) (month pages : ℕ) → IsRoom room → CanAddGrant room month pages → IsRoom (with_grant room month pages)
add_grant_keeps room month pages rules can = record {
  opened_in_range = rules.opened_in_range;
  next_from_one = rules.next_from_one;
  next_in_range = rules.next_in_range;
  jobs = rules.jobs;
  few_unfinished = rules.few_unfinished;
  documents = rules.documents;
  all_documents = rules.all_documents;
  grants = grants_with room.grants month pages rules.grants can.in_range;
}
