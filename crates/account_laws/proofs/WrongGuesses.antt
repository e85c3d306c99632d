-- A wrong password releases nothing.
use Rattle.std.proofs.Common.{◌≡◌, ℕ, Bool, true, false, not, ◌&&◌, ◌||◌, ◌==◌, length, codes, is_none, List, [], ◌∷◌, ◌++◌, Option, Some, unwrap_or, inl, inr, refl, sym, ap, subst, ◌∙◌}
use Rattle.std.specs.FinMap.{get}
use Rattle.std.specs.Fmt.{decimal, signed_decimal}
use Rattle.std.specs.Option.{option_map_or}
use Rattle.std.proofs.lemmas.Bool.{and_right}
use Rattle.std.proofs.lemmas.Slice.Eq.{bytes_eq-Decides}
use Rattle.account_laws.proofs.RefusalTexts.{text_alike}
use Rattle.account_laws.proofs.StationsAnswered.{releases_are_answered}
use Rattle.account_laws.proofs.Tellings.{tells_word}
use Rattle.account_laws.specs.AccountsTold.{AccountTold, account_told, after_deed, left_told}
use Rattle.account_laws.specs.Deeds.{Released}
use Rattle.account_laws.specs.JobsTold.{JobTold, impressions_told}
use Rattle.account_laws.specs.PasswordsStaySecret.{OpensNothing, WrongPasswordsOpenNothing}
use Rattle.account_laws.specs.RefusalTexts.{text_of}
use Rattle.account_laws.specs.Refusals.{Check, first_refusal}
use Rattle.account_laws.specs.StationAnswers.{account_checks, is_past, is_waiting, is_wrong, line_of, need_at, ready_checks, release_answer, release_checks}
use Rattle.account_laws.specs.Told.{is_ok}
use Rattle.account_lives.specs.Lives.{Exchange}
use Rattle.account_machine.specs.Events.{OfAccount, Release}
use Rattle.account_machine.specs.declared.event.Reply.{Reply}
use Rattle.account_machine.specs.declared.event.Reply.TheVariants as reply
use Rattle.account_rules.specs.declared.refusal.Word.{Word}
use Rattle.account_rules.specs.declared.refusal.Word.TheVariants.{DeviceOff, ImpressionsUnknown, Incomplete, NoAccount, NoDevice, NoJob, NotHeld, Password, Quota}

tells_text : (word : Word) → is_ok (reply.Line (text_of word)) ≡ false
tells_text word = ap (λ (text : List ℕ). is_ok (reply.Line text)) (sym (text_alike word)) ∙ tells_word word

-- one check of five refuses, or the password does
first_or_password : (a b c e f : Bool) (at bt ct et ft : Word) (rest : List (Check Word)) (done other : Reply)
    → OpensNothing
    (line_of (first_refusal ((a, at) ∷ (b, bt) ∷ (c, ct) ∷ (e, et) ∷ (f, ft) ∷ (true, Password) ∷ rest)) done)
    (line_of (first_refusal ((a, at) ∷ (b, bt) ∷ (c, ct) ∷ (e, et) ∷ (f, ft) ∷ (false, Password) ∷ rest)) other)
first_or_password true b c e f at bt ct et ft rest done other = record { not_done = tells_text at; told = inr refl }
first_or_password false true c e f at bt ct et ft rest done other = record { not_done = tells_text bt; told = inr refl }
first_or_password false false true e f at bt ct et ft rest done other = record { not_done = tells_text ct; told = inr refl }
first_or_password false false false true f at bt ct et ft rest done other = record { not_done = tells_text et; told = inr refl }
first_or_password false false false false true at bt ct et ft rest done other = record { not_done = tells_text ft; told = inr refl }
first_or_password false false false false false at bt ct et ft rest done other = record { not_done = tells_text Password; told = inl refl }

not_wrong : (password : List ℕ) → is_wrong password password ≡ false
not_wrong password = ap (λ (b : Bool). not (length password == 0) && not b) ((bytes_eq-Decides password password).1 refl) ∙ and_right (not (length password == 0)) false refl

module _ (told : AccountTold) (now : ℕ) (device : List ℕ) (number impressions : ℕ) where
  -- what is told of a release that is done
  abbrev done : JobTold → Reply
  done job = reply.Line
      (codes "ok reserved " ++ (decimal (need_at told device impressions job) ++ (codes " left " ++ signed_decimal (left_told (after_deed now told (Released device number impressions)) now))))

  -- what is told by a password, of a job that is there or is not
  abbrev answer : (password : List ℕ) → Option JobTold → Reply
  answer password o = line_of (first_refusal (account_checks told (ready_checks told device ++ option_map_or (release_checks told now device password impressions) o ((true, NoJob) ∷ [])))) (option_map_or done o (reply.Line (text_of NoJob)))

  -- by whether it is wrong
  abbrev answer_by : JobTold → Bool → Reply
  answer_by job wrong =
      let need = need_at told device impressions job in
      line_of
      (first_refusal
      ((is_none told.opened, NoAccount)
      ∷ (is_none (get told.on device), NoDevice)
      ∷ (not (unwrap_or (get told.on device) false), DeviceOff)
      ∷ (not (is_waiting job.stage), NotHeld)
      ∷ (job.is_open || length job.documents == 0, Incomplete)
      ∷ (wrong, Password)
      ∷ (impressions_told impressions job == 0, ImpressionsUnknown)
      ∷ (is_past need (left_told told now), Quota need (left_told told now))
      ∷ []))
      (done job)

  answered : (password : List ℕ) (job : JobTold) (wrong : Bool) → get told.jobs number ≡ Some job → is_wrong job.maker.password password ≡ wrong → release_answer told now device number password impressions ≡ answer_by job wrong
  answered password job wrong there is = ap (answer password) there ∙ ap (answer_by job) is

pub wrong_passwords_open_nothing : WrongPasswordsOpenNothing
wrong_passwords_open_nothing past now account device number impressions job given wrong right room other devices known there is_wrong_one is is_too =
    let told = account_told past in
    let x : Exchange = ((now, OfAccount account (Release device number given impressions)), wrong) in
    let y : Exchange = ((now, OfAccount account (Release device number job.maker.password impressions)), right) in
    let first = releases_are_answered (past ++ x ∷ []) room devices is past [] now account device number given impressions wrong refl ∙ answered told now device number impressions given job true there is_wrong_one in
    let second = releases_are_answered (past ++ y ∷ []) other known is_too past [] now account device number job.maker.password impressions right refl ∙ answered told now device number impressions job.maker.password job false there (not_wrong job.maker.password) in
    subst (λ (a : Reply). OpensNothing a right) (sym first) (subst (λ (b : Reply). OpensNothing (answer_by told now device number impressions job true) b) (sym second)
    (first_or_password (is_none told.opened) (is_none (get told.on device)) (not (unwrap_or (get told.on device) false)) (not (is_waiting job.stage)) (job.is_open || length job.documents == 0) NoAccount NoDevice DeviceOff NotHeld Incomplete ((impressions_told impressions job == 0, ImpressionsUnknown) ∷ (is_past (need_at told device impressions job) (left_told told now), Quota (need_at told device impressions job) (left_told told now)) ∷ []) (done told now device number impressions job) (done told now device number impressions job)))
