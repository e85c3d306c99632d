-- What the bytes of an answer spell, by what was told before.
use Rattle.std.proofs.Common.{ap, ◌≡◌, ℕ, ◌≤◌, Bool, true, false, cond, nat_lt, List, [], ◌∷◌, map, length, Option, Some, None, Result, Ok, Err, refl, sym, subst, ◌∙◌, arith}
use Rattle.std.specs.FinMap.{get}
use Rattle.std.specs.List.{AllByRecursion}
use Rattle.std.specs.Option.{option_map_or}
use Rattle.std.proofs.lemmas.Bool.Decides.{nat_tests}
use Rattle.std.proofs.lemmas.Option.{none-some}
use Rattle.ipp_coding.proofs.Fields.{header_begins}
use Rattle.ipp_coding.specs.Limits.{header_length}
use Rattle.ipp_coding.specs.Plain.{PlainGroup, PlainMessage}
use Rattle.ipp_coding.specs.Reading.{header_in, message_of}
use Rattle.ipp_coding.specs.Spelling.{IsGroup, IsHeader}
use Rattle.ipp_coding.specs.declared.message.Header.{Header}
use Rattle.account_asks.specs.Asks.{PlainAsk, PlainRefusal, ask_of, asked}
use Rattle.account_asks.specs.declared.operation.Operation.{Operation}
use Rattle.account_asks.specs.declared.operation.Operation.TheVariants as asks
use Rattle.account_laws.proofs.AnswerMessages.{Tells, done_tells, failed_tells, refused_tells}
use Rattle.account_laws.proofs.AsTold.{AccountKeeps, all_keep}
use Rattle.account_laws.proofs.AsksLieWithin.{asks_lie_within}
use Rattle.account_laws.proofs.AsksWithin.{message_passed}
use Rattle.account_laws.proofs.CodedRefusals.{refusals_are_coded}
use Rattle.account_laws.proofs.JobRows.{IsWritable, job_group_spelled}
use Rattle.account_laws.proofs.ListedJobs.{listed_hold}
use Rattle.account_laws.proofs.PrinterRows.{printer_group_spelled}
use Rattle.account_laws.proofs.RequestsAnswered.{requests_are_answered}
use Rattle.account_laws.proofs.ReturnedAttributes.{back_spelled}
use Rattle.account_laws.proofs.ShortNames.{AreShort, entries_short, names_are_short}
use Rattle.account_laws.specs.AccountsTold.{AccountTold, account_told}
use Rattle.account_laws.specs.AnswerMessages.{done_message, refused_message}
use Rattle.account_laws.specs.AsksLieWithin.{AreBytes}
use Rattle.account_laws.specs.DoneAnswers.{groups_told, its_group, made_names, or_listed_names}
use Rattle.account_laws.specs.JobRows.{job_group_told}
use Rattle.account_laws.specs.JobsTold.{JobTold, job_brought, job_made}
use Rattle.account_laws.specs.ListedJobs.{Numbered, jobs_listed}
use Rattle.account_laws.specs.Refusals.{first_refusal}
use Rattle.account_laws.specs.RequestAnswers.{answer_as_read, answer_of, operation_checks, request_answer}
use Rattle.account_laws.specs.SpelledAnswers.{AnswersAreSpelled, AnswersRequest, FailuresAreSpelled, Spelled, message_by, message_told}
use Rattle.account_laws.specs.StandsAsTold.{StandsAsTold}
use Rattle.account_laws.specs.Views.{View, view_of}
use Rattle.account_lives.proofs.LifeLemmas.{front_of_life}
use Rattle.account_machine.specs.Events.{OfAccount, Ipp}
use Rattle.account_machine.specs.declared.event.Reply.TheVariants as reply
use Rattle.account_replies.specs.Responses.{done_text, refused_text}
use Rattle.account_rules.specs.declared.refusal.Refusal.{Refusal}
use Rattle.account_state.specs.Rooms.{RoomValue}

-- ---- the header of the request

header_fits : (body : List ℕ) → AreBytes body → nat_lt (length body) header_length ≡ false → IsHeader (header_in body)
header_fits body bytes long = (header_begins body (header_in body) bytes (ap (λ (b : Bool). cond {A = Option Header} b None (Some (header_in body))) long)).1

header_asked : (account body : List ℕ) (ask : PlainAsk) → ask_of account body ≡ Ok ask → ask.header ≡ header_in body
unfolding ask_of asked
header_asked account body ask is = sym (ap (λ (a : PlainAsk). a.header) (message_passed account (header_in body) (message_of body) ask is).1)

-- ---- the groups of jobs and of the printer

each_spelled : (view : View) (wanted : Option (List (List ℕ))) (jobs : List Numbered) → IsWritable view → AllByRecursion (λ (job : Numbered). length job.1.maker.name ≤ 255) jobs → AllByRecursion IsGroup (map (λ (job : Numbered). job_group_told view wanted job.0 job.1) jobs)
each_spelled view wanted [] is all = tt
each_spelled view wanted (job ∷ jobs) is all = (job_group_spelled view wanted job.0 job.1 is all.0, each_spelled view wanted jobs is all.1)

module _ (told : AccountTold) (room : RoomValue) (stands : StandsAsTold told room) (short : AreShort told) (now : ℕ) (account : List ℕ) (ask : PlainAsk) where
  abbrev view : View
  view = view_of told now account ask

  module _ (is : IsWritable view) (name : length ask.name ≤ 255) where
    its_spelled : (group : JobTold → PlainGroup) → ((job : JobTold) → length job.maker.name ≤ 255 → IsGroup (group job)) → AllByRecursion IsGroup (its_group told ask.job group)
    its_spelled group each = by (get told.jobs ask.job) refl
      where
        by : (found : Option JobTold) → get told.jobs ask.job ≡ found → AllByRecursion IsGroup (option_map_or (λ (job : JobTold). group job ∷ []) found [])
        by None none = tt
        by (Some job) there = (each job (short ask.job job there), tt)

    groups_are : (operation : Operation) → AllByRecursion IsGroup (groups_told told account now ask operation)
    groups_are asks.PrintJob = (job_group_spelled view made_names told.next (job_made now ask) is name, tt)
    groups_are asks.CreateJob = (job_group_spelled view made_names told.next (job_made now ask) is name, tt)
    groups_are asks.SendDocument = its_spelled (λ (job : JobTold). job_group_told view made_names ask.job (job_brought ask job)) (λ job fits. job_group_spelled view made_names ask.job (job_brought ask job) is fits)
    groups_are asks.GetJobAttributes = its_spelled (λ (job : JobTold). job_group_told view ask.wanted ask.job job) (λ job fits. job_group_spelled view ask.wanted ask.job job is fits)
    groups_are asks.GetJobs =
        each_spelled view (or_listed_names ask.wanted) (jobs_listed ask.which ask.limit told) is (listed_hold (λ (job : Numbered). length job.1.maker.name ≤ 255) ask.which ask.limit told (entries_short told short))
    groups_are asks.GetPrinterAttributes = (printer_group_spelled view ask.wanted told is, tt)
    groups_are asks.ValidateJob = tt
    groups_are asks.CancelJob = tt
    groups_are asks.HoldJob = tt
    groups_are asks.ReleaseJob = tt

-- ---- the whole

module _ (told : AccountTold) (room : RoomValue) (stands : StandsAsTold told room) (short : AreShort told) (now : ℕ) (account body : List ℕ) (bytes : AreBytes body) (long : nat_lt (length body) header_length ≡ false) (named : length account ≤ 32)
    (opened : ℕ) (was_opened : told.opened ≡ Some opened) where
  header : IsHeader (header_in body)
  header = header_fits body bytes long

  spelled : (message : PlainMessage) (text : List ℕ) → Tells message text → Spelled told body message text
  spelled message text tells = record {
    has_header = grind (arith, nat_tests, long);
    was_opened = λ none. none-some opened (sym none ∙ was_opened);
    spells = tells.spells;
    is_one = tells.is_one;
  }

  decided : (ask : PlainAsk) → ask_of account body ≡ Ok ask → (found : Option Refusal) → first_refusal (operation_checks told now ask ask.operation) ≡ found
      → AnswersRequest told body (message_by told now account body ask found) (answer_of ask (groups_told told account now ask ask.operation) found)
  decided ask read None none =
      let within = asks_lie_within account body ask bytes read in
      let groups = groups_told told account now ask ask.operation in
      let are = groups_are told room stands short now account ask (record { base = within.base_fits; account = named }) within.name_fits ask.operation in
      spelled (done_message body ask.unsupported groups) (done_text ask.header ask.unsupported groups)
      (subst (λ (request : Header). Tells (done_message body ask.unsupported groups) (done_text request ask.unsupported groups)) (sym (header_asked account body ask read))
      (done_tells body ask.unsupported groups header within.unsupported_spelled are))
  decided ask read (Some refusal) is =
      let within = asks_lie_within account body ask bytes read in
      spelled (refused_message body refusal.word ask.unsupported) (refused_text ask.header refusal ask.unsupported)
      (subst (λ (request : Header). Tells (refused_message body refusal.word ask.unsupported) (refused_text request refusal ask.unsupported)) (sym (header_asked account body ask read))
      (refused_tells body refusal ask.unsupported header (refusals_are_coded.told told now ask refusal is) within.unsupported_spelled))

  as_read : (read : Result PlainAsk PlainRefusal) → ask_of account body ≡ read → AnswersRequest told body (message_told told now account body read) (answer_as_read told now account (header_in body) read)
  as_read (Err refused) is =
      spelled (refused_message body refused.refusal.word refused.unsupported) (refused_text (header_in body) refused.refusal refused.unsupported) (refused_tells body refused.refusal refused.unsupported header (refusals_are_coded.read account body refused is) (back_spelled account body refused bytes is))
  as_read (Ok ask) is = decided ask is (first_refusal (operation_checks told now ask ask.operation)) refl

open_spelled : (told : AccountTold) (room : Option RoomValue) → AccountKeeps told room → AreShort told → (now : ℕ) (account body : List ℕ) → AreBytes body → nat_lt (length body) header_length ≡ false → length account ≤ 32 → (opened : ℕ) → told.opened ≡ Some opened
    → AnswersRequest told body (message_told told now account body (ask_of account body)) (answer_as_read told now account (header_in body) (ask_of account body))
open_spelled told None was short now account body bytes long named opened is = absurd (none-some opened (sym was.opened ∙ is))
open_spelled told (Some room) keeps short now account body bytes long named opened is = as_read told room keeps.stands short now account body bytes long named opened is (ask_of account body) refl

request_spelled : (told : AccountTold) (room : Option RoomValue) → AccountKeeps told room → AreShort told → (now : ℕ) (account body : List ℕ) → AreBytes body → length account ≤ 32
    → AnswersRequest told body (message_told told now account body (ask_of account body)) (request_answer told now account body)
request_spelled told room keeps short now account body bytes named = by (nat_lt (length body) header_length) refl told.opened refl
  where
    by : (is_short : Bool) → nat_lt (length body) header_length ≡ is_short → (opened : Option ℕ) → told.opened ≡ opened
        → AnswersRequest told body (message_told told now account body (ask_of account body)) (cond is_short reply.Short (option_map_or (λ _. answer_as_read told now account (header_in body) (ask_of account body)) opened reply.NoAccount))
    by true ends opened is = grind (arith, nat_tests)
    by false ends None is = (grind (arith, nat_tests), is)
    by false ends (Some opened) is = open_spelled told room keeps short now account body bytes ends named opened is

pub answers_are_spelled : AnswersAreSpelled
answers_are_spelled life room devices is past later now account body said here bytes named =
    let front = front_of_life life past later ((now, OfAccount account (Ipp body)), said) room devices is here in
    let all = all_keep past front.room front.devices front.first in
    let told = account_told past in
    subst (AnswersRequest told body (message_told told now account body (ask_of account body))) (sym (requests_are_answered life room devices is past later now account body said here))
    (request_spelled told front.room all.account (names_are_short past) now account body bytes named)

-- ---- a request that could not be applied

pub failures_are_spelled : FailuresAreSpelled
failures_are_spelled body bytes long =
    let tells = failed_tells body (header_fits body bytes (grind (arith, nat_tests, long))) in
    record { spells = tells.spells; is_one = tells.is_one }
