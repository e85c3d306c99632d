-- The answer to a request that made a job tells its number.
use Rattle.std.proofs.Common.{suc, ◌≡◌, ℕ, pos, negsuc, ◌+◌, ◌-◌, ◌^◌, ◌<◌, ◌≤◌, ◌||◌, Bool, true, false, true≢false, cond, nat_le, nat_lt, length, append_assoc, option_and_then, List, [], ◌∷◌, ◌++◌, Option, Some, None, Result, refl, sym, ap, ◌∙◌, arith}
use mir.Val.{sel}
use Rattle.std.specs.Int.{cast_signed, w32}
use Rattle.std.proofs.lemmas.Bool.Decides.{nat_tests}
use Rattle.std.proofs.lemmas.List.Sums.{sum_by-append, sum_by-cons}
use Rattle.std.proofs.lemmas.Option.{none-some, same_Some}
use Rattle.ipp_coding.proofs.Wholes.{message_again}
use Rattle.ipp_coding.specs.Plain.{PlainAttribute, PlainMessage}
use Rattle.account_asks.specs.Asks.{PlainAsk, PlainRefusal, ask_of}
use Rattle.account_asks.specs.Requests.{job_group_of}
use Rattle.account_asks.specs.Targets.{job_id, job_numbered}
use Rattle.account_asks.specs.declared.operation.Operation.{Operation}
use Rattle.account_asks.specs.declared.operation.Operation.TheVariants as asks
use Rattle.account_laws.proofs.DeedTurns.{made_in, next_is}
use Rattle.account_laws.proofs.DoneWhere.{done_exactly_where}
use Rattle.account_laws.proofs.SpelledAnswers.{answers_are_spelled}
use Rattle.account_laws.proofs.SpelledAttributes.{number_again}
use Rattle.account_laws.specs.AccountsTold.{AccountTold, account_told, unfinished_told}
use Rattle.account_laws.specs.AnswerMessages.{done_message}
use Rattle.account_laws.specs.AsksLieWithin.{AreBytes}
use Rattle.account_laws.specs.Deeds.{Deed, Opened, Released, Started, Settled, Granted, Switched, Rated, NoDeed, asked_deed, deed_of, deed_of_request}
use Rattle.account_laws.specs.DoneAnswers.{groups_told, made_names}
use Rattle.account_laws.specs.JobRows.{job_group_told, job_rows}
use Rattle.account_laws.specs.JobsMade.{is_making, jobs_made}
use Rattle.account_laws.specs.JobsTold.{JobTold, job_made}
use Rattle.account_laws.specs.NewNumbers.{JobsAreCounted, NumbersAreKept, NumbersDiffer, number_told}
use Rattle.account_laws.specs.Refusals.{first_refusal}
use Rattle.account_laws.specs.RequestAnswers.{new_job_checks, operation_checks}
use Rattle.account_laws.specs.SpelledAnswers.{AnswersRequest, message_by, message_told}
use Rattle.account_laws.specs.Told.{if_passed, is_documents, is_ok, is_successful}
use Rattle.account_laws.specs.Views.{View, view_of}
use Rattle.account_lives.specs.Lives.{Exchange, IsLife, Life}
use Rattle.account_machine.specs.Events.{OfAccount, OfDevice, Open, Ipp, Release, Start, Settle, Grant, Switch, Rate}
use Rattle.account_machine.specs.declared.event.Reply.{Reply}
use Rattle.account_machine.specs.declared.event.Reply.TheVariants as reply
use Rattle.account_rules.specs.Devices.{Devices}
use Rattle.account_rules.specs.Limits.{longest_name}
use Rattle.account_rules.specs.declared.refusal.Refusal.{Refusal}
use Rattle.account_rules.specs.declared.refusal.Word.TheVariants.{NotAccepting}
use Rattle.account_state.specs.Rooms.{RoomValue}

-- ---- the job-id in a message

numbered : (n : ℕ) → n < 1000000 → job_numbered (cast_signed w32 n) ≡ n
numbered n fits = by (nat_lt n (2 ^ 31)) (grind (arith, nat_tests, fits))
  where
    small : nat_lt n 1000000 ≡ true
    small = grind (arith, nat_tests, fits)

    by : (low : Bool) → low ≡ true → job_numbered (sel low (pos n) (negsuc (2 ^ 32 - suc n))) ≡ n
    by true is = ap (λ (b : Bool). cond b n 0) small
    by false is = absurd (true≢false (sym is))

tells_id : (body : List ℕ) (unsupported : List PlainAttribute) (view : View) (number : ℕ) (job : JobTold) → number < 1000000 → option_and_then job_id (job_group_of (done_message body unsupported (job_group_told view made_names number job ∷ [])).groups) ≡ Some number
unfolding job_rows
tells_id body [] view number job fits = ap (λ (n : ℕ). Some (job_numbered (cast_signed w32 n))) (number_again number (omega (arith, fits))) ∙ ap Some (numbered number fits)
tells_id body (first ∷ further) view number job fits = ap (λ (n : ℕ). Some (job_numbered (cast_signed w32 n))) (number_again number (omega (arith, fits))) ∙ ap Some (numbered number fits)

-- what is told as successful tells the number of the message that its bytes spell
by_message : (told : AccountTold) (body : List ℕ) (message : PlainMessage) (said : Reply) → is_successful said ≡ true → AnswersRequest told body message said → number_told said ≡ option_and_then job_id (job_group_of message.groups)
by_message told body message (reply.Ipp text) done answers = ap (option_and_then (λ (m : PlainMessage). option_and_then job_id (job_group_of m.groups))) (message_again message text answers.spells)
by_message told body message _ done answers = absurd (true≢false (sym done))

-- ---- a request that made a job

is_done : (done : Bool) (deed : Deed) → is_making (cond done deed NoDeed) ≡ true → done ≡ true
is_done true deed made = refl
is_done false deed made = made

few_numbers : (told : AccountTold) → first_refusal (new_job_checks told) ≡ None → told.next < 1000000
few_numbers told none = by (nat_le 100 (unfinished_told told) || nat_lt 999999 told.next) refl none
  where
    by : (refuses : Bool) → (nat_le 100 (unfinished_told told) || nat_lt 999999 told.next) ≡ refuses → cond {A = Option Refusal} refuses (Some (record { status = 0x0506; word = NotAccepting })) None ≡ None → told.next < 1000000
    by true is none = absurd (none-some _ (sym none))
    by false is none = grind (arith, nat_tests, is)

made_tells : (told : AccountTold) (now : ℕ) (account body : List ℕ) (ask : PlainAsk) (operation : Operation) → is_making (asked_deed ask operation) ≡ true → first_refusal (operation_checks told now ask operation) ≡ None
    → option_and_then job_id (job_group_of (done_message body ask.unsupported (groups_told told account now ask operation)).groups) ≡ Some told.next
made_tells told now account body ask asks.PrintJob made none = tells_id body ask.unsupported (view_of told now account ask) told.next (job_made now ask) (few_numbers told none)
made_tells told now account body ask asks.CreateJob made none = tells_id body ask.unsupported (view_of told now account ask) told.next (job_made now ask) (few_numbers told none)
made_tells told now account body ask _ made none = absurd (true≢false (sym made))

tells_next : (life : Life) (room : Option RoomValue) (devices : Devices) → IsLife life room devices → (past later : Life) (now : ℕ) (account body : List ℕ) (said : Reply) → life ≡ past ++ ((now, OfAccount account (Ipp body)), said) ∷ later
    → is_making (deed_of ((now, OfAccount account (Ipp body)), said)) ≡ true → AreBytes body → length account ≤ longest_name → number_told said ≡ Some (account_told past).next
tells_next life room devices is past later now account body said here made bytes name =
    let told = account_told past in
    let done = is_done (is_successful said) (deed_of_request (if_passed (ask_of account body))) made in
    let passes = (done_exactly_where life room devices is past later now account body said here).0 done in
    let ask = passes.ask in
    let makes : is_making (asked_deed ask ask.operation) ≡ true =
    ap (λ (read : Result PlainAsk PlainRefusal). is_making (deed_of_request (if_passed read))) (sym passes.asks) ∙ ap (λ (b : Bool). is_making (cond b (deed_of_request (if_passed (ask_of account body))) NoDeed)) (sym done) ∙ made
    in
    by_message told body (message_told told now account body (ask_of account body)) said done (answers_are_spelled life room devices is past later now account body said here bytes name)
    ∙ ap (λ (message : PlainMessage). option_and_then job_id (job_group_of message.groups)) (ap (message_told told now account body) passes.asks ∙ ap (message_by told now account body ask) passes.stands)
    ∙ made_tells told now account body ask ask.operation makes passes.stands

-- ---- the laws

pub numbers_are_kept : NumbersAreKept
numbers_are_kept past = next_is past

line_makes_none : (done : Bool) (deed : Deed) → is_making deed ≡ false → is_making (cond done deed NoDeed) ≡ true → ⊥
line_makes_none true deed none made = true≢false (sym made ∙ none)
line_makes_none false deed none made = true≢false (sym made)

pub jobs_are_counted : JobsAreCounted
jobs_are_counted life room devices is past later ((now, OfAccount account (Ipp body)), said) here made of_bytes =
    tells_next life room devices is past later now account body said here made of_bytes.0 of_bytes.1 ∙ ap Some (numbers_are_kept past)
jobs_are_counted life room devices is past later ((now, OfAccount account Open), said) here made of_bytes = absurd (line_makes_none (is_ok said) Opened refl made)
jobs_are_counted life room devices is past later ((now, OfAccount account (Release device number password impressions)), said) here made of_bytes = absurd (line_makes_none (is_ok said) (Released device number impressions) refl made)
jobs_are_counted life room devices is past later ((now, OfAccount account (Start device number)), said) here made of_bytes = absurd (line_makes_none (is_documents said) (Started device number) refl made)
jobs_are_counted life room devices is past later ((now, OfAccount account (Settle device number impressions failed)), said) here made of_bytes = absurd (line_makes_none (is_ok said) (Settled device number impressions failed) refl made)
jobs_are_counted life room devices is past later ((now, OfAccount account (Grant month pages)), said) here made of_bytes = absurd (line_makes_none (is_ok said) (Granted month pages) refl made)
jobs_are_counted life room devices is past later ((now, OfDevice device (Switch on)), said) here made of_bytes = absurd (line_makes_none (is_ok said) (Switched device on) refl made)
jobs_are_counted life room devices is past later ((now, OfDevice device (Rate units)), said) here made of_bytes = absurd (line_makes_none (is_ok said) (Rated device units) refl made)

made_between : (past between : Life) (one : Exchange) → is_making (deed_of one) ≡ true → jobs_made past + 1 ≤ jobs_made (past ++ one ∷ between)
made_between past between one made =
    let all = sum_by-append made_in past (one ∷ between) in
    let first = sum_by-cons made_in one between in
    let is : made_in one ≡ 1 = ap (λ (b : Bool). cond b 1 0) made in
    omega (arith, all, first, is)

pub numbers_differ : NumbersDiffer
numbers_differ life room devices is past between later one other here makes also of_bytes too same =
    let first = jobs_are_counted life room devices is past (between ++ other ∷ later) one here makes of_bytes in
    let second = jobs_are_counted life room devices is (past ++ one ∷ between) later other (here ∙ sym (append_assoc past (one ∷ between) (other ∷ later))) also too in
    let equal = same_Some _ _ (sym first ∙ same ∙ second) in
    let more = made_between past between one makes in
    omega (arith, equal, more)
