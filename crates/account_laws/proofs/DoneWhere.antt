-- A request is done exactly where it passes all of its checks.
use Rattle.std.proofs.Common.{◌≡◌, ℕ, Bool, true, false, true≢false, cond, nat_lt, List, length, drop, Option, None, Some, Result, Ok, Err, refl, sym, ap, ◌∙◌}
use Rattle.std.specs.Option.{option_map_or}
use Rattle.ipp_coding.specs.Limits.{header_length}
use Rattle.ipp_coding.specs.Plain.{PlainGroup}
use Rattle.ipp_coding.specs.Reading.{◌>>=◌, groups_at, header_in, message_of, payload_at}
use Rattle.ipp_coding.specs.declared.message.Header.{Header}
use Rattle.account_asks.specs.Asks.{PlainAsk, PlainRefusal, ask_of, read_as}
use Rattle.account_machine.specs.declared.event.Reply.{Reply}
use Rattle.account_machine.specs.declared.event.Reply.TheVariants as reply
use Rattle.account_laws.proofs.RequestsAnswered.{requests_are_answered}
use Rattle.account_laws.proofs.PassedChecks.{nothing_asked}
use Rattle.account_laws.proofs.Statuses.{ask_errs, told_errs}
use Rattle.account_laws.proofs.Tellings.{tells_error, tells_success}
use Rattle.account_laws.specs.AccountsTold.{AccountTold, account_told}
use Rattle.account_laws.specs.DoneAnswers.{groups_told}
use Rattle.account_laws.specs.DoneWhere.{DoneExactlyWhere, Passes}
use Rattle.account_laws.specs.Refusals.{first_refusal}
use Rattle.account_laws.specs.RequestAnswers.{answer_as_read, answer_of, operation_checks, request_answer}
use Rattle.account_laws.specs.Told.{is_successful}
use Rattle.account_rules.specs.declared.refusal.Refusal.{Refusal}

-- ---- a body that ends within a header asks nothing

no_message : (body : List ℕ) → nat_lt (length body) header_length ≡ true → message_of body ≡ None
unfolding message_of
no_message body short =
    ap (λ (b : Bool). cond b None (Some (header_in body)) >>= λ (header : Header). groups_at (drop header_length body) >>= λ (groups : List PlainGroup × List ℕ). payload_at groups.1 >>= λ (payload : List ℕ). Some (record { header = header; groups = groups.0; payload = payload })) short

pub is_long : (account body : List ℕ) (ask : PlainAsk) → ask_of account body ≡ Ok ask → nat_lt (length body) header_length ≡ false
unfolding ask_of
is_long account body ask asks = by (nat_lt (length body) header_length) refl
  where
    by : (b : Bool) → nat_lt (length body) header_length ≡ b → nat_lt (length body) header_length ≡ false
    by true is = absurd (nothing_asked account (header_in body) ask (sym (ap (read_as account (header_in body)) (no_message body is)) ∙ asks))
    by false is = is

-- ---- what passes is done

module _ (told : AccountTold) (now : ℕ) (account body : List ℕ) (said : Reply) where
  abbrev answer_read : Reply
  answer_read = answer_as_read told now account (header_in body) (ask_of account body)

  is_done : said ≡ request_answer told now account body → Passes told now account body → is_successful said ≡ true
  is_done answers passes =
      let ask = passes.ask in
      let groups = groups_told told account now ask ask.operation in
      ap is_successful
      (answers
      ∙ ap (λ (short : Bool). cond short reply.Short (option_map_or (λ _. answer_read) told.opened reply.NoAccount)) (is_long account body ask passes.asks)
      ∙ ap (λ (opened : Option ℕ). option_map_or (λ _. answer_read) opened reply.NoAccount) passes.opened
      ∙ ap (answer_as_read told now account (header_in body)) passes.asks
      ∙ ap (answer_of ask groups) passes.stands)
      ∙ tells_success ask.header ask.unsupported groups

  -- ---- what is done passed

  as_read : (moment : ℕ) → told.opened ≡ Some moment → is_successful said ≡ true → (read : Result PlainAsk PlainRefusal) → ask_of account body ≡ read → said ≡ answer_as_read told now account (header_in body) read → Passes told now account body
  as_read moment opened done (Ok ask) asks answers = by (first_refusal (operation_checks told now ask ask.operation)) refl answers
    where
      by : (found : Option Refusal) → first_refusal (operation_checks told now ask ask.operation) ≡ found → said ≡ answer_of ask (groups_told told account now ask ask.operation) found → Passes told now account body
      by None none answers = record { moment = moment; opened = opened; ask = ask; asks = asks; stands = none }
      by (Some refusal) found answers = absurd (true≢false (sym done ∙ ap is_successful answers ∙ tells_error ask.header refusal ask.unsupported (told_errs told now ask refusal found)))
  as_read moment opened done (Err refused) asks answers =
      absurd (true≢false (sym done ∙ ap is_successful answers ∙ tells_error (header_in body) refused.refusal refused.unsupported (ask_errs account body refused asks)))

  passes_so : said ≡ request_answer told now account body → is_successful said ≡ true → Passes told now account body
  passes_so answers done = by (nat_lt (length body) header_length) told.opened refl answers
    where
      by : (short : Bool) (opened : Option ℕ) → told.opened ≡ opened → said ≡ cond short reply.Short (option_map_or (λ _. answer_read) opened reply.NoAccount) → Passes told now account body
      by true opened is answers = absurd (true≢false (sym done ∙ ap is_successful answers))
      by false None is answers = absurd (true≢false (sym done ∙ ap is_successful answers))
      by false (Some moment) is answers = as_read moment is done (ask_of account body) refl answers

pub done_exactly_where : DoneExactlyWhere
done_exactly_where life room devices is past later now account body said here =
    let answers = requests_are_answered life room devices is past later now account body said here in
    (passes_so (account_told past) now account body said answers, is_done (account_told past) now account body said answers)
