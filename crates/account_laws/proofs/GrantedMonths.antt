-- A month keeps the pages that it was granted.
use Rattle.std.proofs.Common.{◌≡◌, ◌⊎◌, inl, inr, ℕ, ◌+◌, ◌≤◌, Bool, true, false, cond, ◌==◌, codes, nat_eq, List, [], ◌∷◌, ◌++◌, count_by, Option, Some, None, is_none, is_some, refl, sym, ap, subst, ◌∙◌, arith, append-nil, append_assoc}
use Rattle.std.specs.FinMap.{FinMap, get, get-empty, insert}
use Rattle.std.specs.Fmt.{decimal}
use Rattle.std.specs.Ordering.{nat_cmp}
use Rattle.std.specs.List.{starts_with}
use Rattle.std.proofs.lemmas.Bool.{eq-eqb, eqb-true, true≢false}
use Rattle.std.proofs.lemmas.List.Sums.{sum_by_push}
use Rattle.std.proofs.lemmas.Option.{none-some}
use Rattle.account_machine.specs.Events.{OfAccount, Grant}
use Rattle.account_machine.specs.declared.event.Reply.{Reply}
use Rattle.account_machine.specs.declared.event.Reply.TheVariants as reply
use Rattle.account_laws.proofs.Afterwards.{inserted}
use Rattle.account_laws.proofs.AsTold.{AccountKeeps, all_keep, told_more}
use Rattle.account_laws.proofs.FitDeeds.{IsFit, by_deeds, deeds_fit}
use Rattle.account_laws.proofs.JobSums.{same_grants}
use Rattle.account_lives.proofs.LifeLemmas.{front_of_life}
use Rattle.account_laws.proofs.OperatorsAnswered.{grants_are_answered}
use Rattle.account_laws.specs.AccountsTold.{AccountTold, account_told, after_deed, rate_told}
use Rattle.account_laws.specs.Deeds.{Deed, Brought, Canceled, HeldBack, Freed, Released, Started, Settled, Granted, NoDeed, deed_of, moment_of}
use Rattle.account_laws.specs.JobsTold.{job_brought, job_canceled, job_freed, job_held, job_released, job_settled, job_started}
use Rattle.account_lives.specs.Lives.{Exchange, IsLife, Life}
use Rattle.account_laws.specs.MonthsGrantedOnce.{GrantsSentAgain, IsConflict, IsGranted, IsToldAgain, IsToldHeld, MonthsGrantedOnce, NoMonthTwice, grant_told, grants_month}
use Rattle.account_laws.specs.OperatorAnswers.{grant_answer, month_answer}
use Rattle.account_laws.specs.Told.{is_ok}
use Rattle.account_rules.specs.Devices.{Devices}
use Rattle.account_state.specs.Rooms.{RoomValue}

-- ---- after each deed

-- what a deed makes of the grants
abbrev grants_by : Deed → FinMap nat_cmp ℕ → FinMap nat_cmp ℕ
grants_by (Granted month pages) grants = insert grants month pages
grants_by _ grants = grants

grants_then : (now : ℕ) (told : AccountTold) (deed : Deed) → (after_deed now told deed).grants ≡ grants_by deed told.grants
grants_then now told (Brought ask) = same_grants told ask.job (job_brought ask)
grants_then now told (Canceled number) = same_grants told number (job_canceled now)
grants_then now told (HeldBack number) = same_grants told number job_held
grants_then now told (Freed number) = same_grants told number job_freed
grants_then now told (Released device number handed_in) = same_grants told number (job_released device (rate_told told device) handed_in)
grants_then now told (Started device number) = same_grants told number (job_started device now)
grants_then now told (Settled device number count failed) = same_grants told number (job_settled count failed now)
grants_then now told _ = refl

-- a month that has pages keeps them
stays_by : (now : ℕ) (told : AccountTold) (deed : Deed) → IsFit told now deed → (month held : ℕ) → get told.grants month ≡ Some held → get (grants_by deed told.grants) month ≡ Some held
stays_by now told (Granted of pages) fit month held has = inserted told.grants of pages month ∙ by (month == of) refl
  where
    by : (b : Bool) → (month == of) ≡ b → cond b (Some pages) (get told.grants month) ≡ Some held
    by true same = absurd (none-some held (sym (ap (get told.grants) (eqb-true month of same) ∙ fit) ∙ has))
    by false other = has
stays_by now told _ fit month held has = has

grants_after : (past : Life) (x : Exchange) (month : ℕ) → get (account_told (past ++ x ∷ [])).grants month ≡ get (grants_by (deed_of x) (account_told past).grants) month
grants_after past x month = ap (λ (told : AccountTold). get told.grants month) (told_more past x) ∙ ap (λ (grants : FinMap nat_cmp ℕ). get grants month) (grants_then (moment_of x) (account_told past) (deed_of x))

-- whatever stands between
months_keep : (life : Life) (room : Option RoomValue) (devices : Devices) → IsLife life room devices → (between past later : Life) → life ≡ past ++ (between ++ later) → (month held : ℕ) → get (account_told past).grants month ≡ Some held
    → get (account_told (past ++ between)).grants month ≡ Some held
months_keep life room devices is [] past later here month held has = subst (λ (l : Life). get (account_told l).grants month ≡ Some held) (sym (append-nil past)) has
months_keep life room devices is (x ∷ between) past later here month held has =
    subst (λ (l : Life). get (account_told l).grants month ≡ Some held) (append_assoc past (x ∷ []) between)
    (months_keep life room devices is between (past ++ x ∷ []) later (here ∙ sym (append_assoc past (x ∷ []) (between ++ later))) month held
    (grants_after past x month ∙ stays_by (moment_of x) (account_told past) (deed_of x) (deeds_fit life room devices is past (between ++ later) x here) month held has))

-- ---- a grant of a month that has pages

was_opened : (told : AccountTold) (room : Option RoomValue) → AccountKeeps told room → (month held : ℕ) → get told.grants month ≡ Some held → is_none told.opened ≡ false
was_opened told None was month held has = absurd (none-some held (sym (ap (λ (grants : FinMap nat_cmp ℕ). get grants month) was.grants ∙ get-empty nat_cmp month) ∙ has))
was_opened told (Some room) keeps month held has = ap (λ (o : Option ℕ). is_none o) keeps.stands.opened

-- neither answer is ok
not_granted : (held pages : ℕ) → is_ok (reply.Line (month_answer (Some held) pages)) ≡ false
not_granted held pages = elim (held == pages) as (λ (b : Bool). is_ok (reply.Line (cond b (codes "same") (codes "conflict " ++ decimal held))) ≡ false) [ true ↦ refl | false ↦ refl ]

told_held : (life : Life) (room : Option RoomValue) (devices : Devices) → IsLife life room devices → (before later : Life) (now : ℕ) (account : List ℕ) (month held pages : ℕ) (said : Reply)
    → life ≡ before ++ ((now, OfAccount account (Grant month pages)), said) ∷ later → get (account_told before).grants month ≡ Some held
    → IsToldHeld held pages said (account_told before) (account_told (before ++ ((now, OfAccount account (Grant month pages)), said) ∷ []))
told_held life room devices is before later now account month held pages said here has =
    let x : Exchange = ((now, OfAccount account (Grant month pages)), said) in
    let told = account_told before in
    let at = front_of_life life before later x room devices is here in
    let opens = was_opened told at.room (all_keep before at.room at.devices at.first).account month held has in
    let answer : said ≡ reply.Line (month_answer (Some held) pages) = grants_are_answered life room devices is before later now account month pages said here
    ∙ ap (λ (none : Bool). reply.Line (cond none (codes "no-account") (month_answer (get told.grants month) pages))) opens
    ∙ ap (λ (found : Option ℕ). reply.Line (month_answer found pages)) has in
    record {
      told = answer;
      unchanged = told_more before x ∙ ap (λ (done : Bool). after_deed now told (cond done (Granted month pages) NoDeed)) (ap is_ok answer ∙ not_granted held pages);
    }

-- where it stands
between_is : (past between later : Life) (first second : Exchange) → past ++ (first ∷ (between ++ second ∷ later)) ≡ (past ++ first ∷ between) ++ second ∷ later
between_is past between later first second = sym (append_assoc past (first ∷ between) (second ∷ later))

first_is : (past between later : Life) (first second : Exchange) → past ++ (first ∷ (between ++ second ∷ later)) ≡ (past ++ first ∷ []) ++ (between ++ second ∷ later)
first_is past between later first second = sym (append_assoc past (first ∷ []) (between ++ second ∷ later))

-- a later grant of a month that has pages after some exchange
held_later : (life : Life) (room : Option RoomValue) (devices : Devices) → IsLife life room devices → (past between later : Life) (first : Exchange) (now : ℕ) (account : List ℕ) (month held pages : ℕ) (said : Reply)
    → life ≡ past ++ (first ∷ (between ++ ((now, OfAccount account (Grant month pages)), said) ∷ later)) → get (account_told (past ++ first ∷ [])).grants month ≡ Some held
    → IsToldHeld held pages said (account_told (past ++ first ∷ between)) (account_told ((past ++ first ∷ between) ++ ((now, OfAccount account (Grant month pages)), said) ∷ []))
held_later life room devices is past between later first now account month held pages said here has =
    let second : Exchange = ((now, OfAccount account (Grant month pages)), said) in
    told_held life room devices is (past ++ first ∷ between) later now account month held pages said (here ∙ between_is past between later first second)
    (subst (λ (l : Life). get (account_told l).grants month ≡ Some held) (append_assoc past (first ∷ []) between)
    (months_keep life room devices is between (past ++ first ∷ []) (second ∷ later) (here ∙ first_is past between later first second) month held has))

has_then : (past : Life) (first : Exchange) (month held : ℕ) → deed_of first ≡ Granted month held → get (account_told (past ++ first ∷ [])).grants month ≡ Some held
has_then past first month held is =
    grants_after past first month
    ∙ ap (λ (deed : Deed). get (grants_by deed (account_told past).grants) month) is
    ∙ inserted (account_told past).grants month held month
    ∙ ap (λ (b : Bool). cond b (Some held) (get (account_told past).grants month)) (eq-eqb month month refl)

pub months_granted_once : MonthsGrantedOnce
months_granted_once life room devices is past between later first now account month held pages said here grants =
    held_later life room devices is past between later first now account month held pages said (here ∙ append_assoc past (first ∷ between) (grant_told now account month pages said ∷ later)) (has_then past first month held grants)

-- ---- no month twice

abbrev has_pages : Option ℕ → ℕ
has_pages held = cond (is_some held) 1 0

nothing_more : (n : ℕ) → n + 0 ≡ n
nothing_more n = omega arith

deed_grants : (now : ℕ) (told : AccountTold) (deed : Deed) → IsFit told now deed → (month : ℕ) → has_pages (get told.grants month) + cond (grants_month month deed) 1 0 ≡ has_pages (get (grants_by deed told.grants) month)
deed_grants now told (Granted of pages) fit month = by (month == of) refl ∙ sym (ap has_pages (inserted told.grants of pages month))
  where
    by : (b : Bool) → (month == of) ≡ b → has_pages (get told.grants month) + cond b 1 0 ≡ has_pages (cond b (Some pages) (get told.grants month))
    by true same = ap (λ (o : Option ℕ). has_pages o + 1) (ap (get told.grants) (eqb-true month of same) ∙ fit)
    by false other = nothing_more (has_pages (get told.grants month))
deed_grants now told _ fit month = nothing_more (has_pages (get told.grants month))

abbrev IsCounted : Life → Type 0
IsCounted life = (month : ℕ) → count_by (λ (x : Exchange). grants_month month (deed_of x)) life ≡ has_pages (get (account_told life).grants month)

counted_so : (life : Life) (room : Option RoomValue) (devices : Devices) → IsLife life room devices → IsCounted life
counted_so =
    by_deeds IsCounted (λ month. sym (ap has_pages (get-empty nat_cmp month)))
    (λ past x fit holds month.
    sum_by_push (λ (x : Exchange). cond (grants_month month (deed_of x)) 1 0) past x
    ∙ ap (λ (n : ℕ). n + cond (grants_month month (deed_of x)) 1 0) (holds month)
    ∙ deed_grants (moment_of x) (account_told past) (deed_of x) fit month
    ∙ sym (ap has_pages (grants_after past x month)))

one_at_most : (b : Bool) → cond b 1 0 ≤ 1
one_at_most true = omega arith
one_at_most false = omega arith

pub no_month_twice : NoMonthTwice
no_month_twice life room devices is month = subst (λ (n : ℕ). n ≤ 1) (sym (counted_so life room devices is month)) (one_at_most (is_some (get (account_told life).grants month)))

-- ---- a grant that is sent again

-- what was told before the first, and the pages of the month after it
record HasFirst (pages : ℕ) (said : Reply) (held : ℕ) : Type 0 where
  pub granted : IsGranted said → held ≡ pages
  pub conflicts : (other : ℕ) → IsConflict other said → reply.Line (month_answer (Some held) pages) ≡ said

same_told : (held pages : ℕ) → held ≡ pages → reply.Line (month_answer (Some held) pages) ≡ reply.Line (codes "same")
same_told held pages same = ap (λ (b : Bool). reply.Line (cond b (codes "same") (codes "conflict " ++ decimal held))) (eq-eqb held pages same)

-- the first as it was answered
first_held : (held pages : ℕ) (said : Reply) → said ≡ reply.Line (month_answer (Some held) pages) → HasFirst pages said held
first_held held pages said is = record { granted = by (held == pages) refl is; conflicts = λ other _. sym is }
  where
    by : (b : Bool) → (held == pages) ≡ b → said ≡ reply.Line (cond b (codes "same") (codes "conflict " ++ decimal held)) → IsGranted said → held ≡ pages
    by true same told granted = eqb-true held pages same
    by false other told (inl ok) = let no : ⊥ = cc in absurd no
    by false other told (inr same) = let no : ⊥ = cc in absurd no

first_new : (pages : ℕ) (said : Reply) → said ≡ reply.Line (codes "ok") → HasFirst pages said pages
first_new pages said is = record { granted = λ _. refl; conflicts = λ other conflict. let no : ⊥ = cc in absurd no }

-- an answer that begins with no is neither
abbrev says_no : Reply → Bool
says_no (reply.Line text) = starts_with nat_eq text (codes "no")
says_no _ = false

not_granted_so : {A : Type 0} (said : Reply) → says_no said ≡ true → IsGranted said → A
not_granted_so said says (inl ok) = absurd (true≢false (sym says ∙ ap says_no ok))
not_granted_so said says (inr same) = absurd (true≢false (sym says ∙ ap says_no same))

no_conflict : {A : Type 0} (said : Reply) (held : ℕ) → says_no said ≡ true → IsConflict held said → A
no_conflict said held says conflict = absurd (true≢false (sym says ∙ ap says_no conflict))

neither : {A : Type 0} (said : Reply) → says_no said ≡ true → IsGranted said ⊎ ((held : ℕ) × IsConflict held said) → A
neither said says (inl granted) = not_granted_so said says granted
neither said says (inr (held, conflict)) = no_conflict said held says conflict

pub grants_sent_again : GrantsSentAgain
grants_sent_again life room devices is past between later now then account month pages said again standing =
    by (is_none told.opened) refl (get told.grants month) refl
  where
    told : AccountTold
    told = account_told past

    first : Exchange
    first = ((now, OfAccount account (Grant month pages)), said)

    second : Exchange
    second = ((then, OfAccount account (Grant month pages)), again)

    Goal : Type 0
    Goal = IsToldAgain said again (account_told (past ++ first ∷ between)) (account_told ((past ++ first ∷ between) ++ second ∷ []))

    here : life ≡ past ++ (first ∷ (between ++ second ∷ later))
    here = standing ∙ append_assoc past (first ∷ between) (second ∷ later)

    answer : said ≡ reply.Line (grant_answer told month pages)
    answer = grants_are_answered life room devices is past (between ++ second ∷ later) now account month pages said here

    so : (held : ℕ) → HasFirst pages said held → get (account_told (past ++ first ∷ [])).grants month ≡ Some held → Goal
    so held had has =
        let it = held_later life room devices is past between later first then account month held pages again here has in
        record {
          same = λ granted. it.told ∙ same_told held pages (had.granted granted);
          conflicts = λ other conflict. it.told ∙ had.conflicts other conflict ∙ conflict;
          unchanged = λ _. it.unchanged;
        }

    by : (unopened : Bool) → is_none told.opened ≡ unopened → (found : Option ℕ) → get told.grants month ≡ found → Goal
    by true none found is_found =
        let refused : said ≡ reply.Line (codes "no-account") = answer ∙ ap (λ (b : Bool). reply.Line (cond b (codes "no-account") (month_answer (get told.grants month) pages))) none in
        let says = ap says_no refused in
        record {
          same = λ granted. not_granted_so said says granted;
          conflicts = λ held conflict. no_conflict said held says conflict;
          unchanged = λ told_so. neither said says told_so;
        }
    by false opens None none =
        let ok : said ≡ reply.Line (codes "ok") = answer ∙ ap (λ (b : Bool). reply.Line (cond b (codes "no-account") (month_answer (get told.grants month) pages))) opens ∙ ap (λ (o : Option ℕ). reply.Line (month_answer o pages)) none in
        so pages (first_new pages said ok) (has_then past first month pages (ap (λ (done : Bool). cond done (Granted month pages) NoDeed) (ap is_ok ok)))
    by false opens (Some held) is_held =
        let held_so : said ≡ reply.Line (month_answer (Some held) pages) = answer ∙ ap (λ (b : Bool). reply.Line (cond b (codes "no-account") (month_answer (get told.grants month) pages))) opens ∙ ap (λ (o : Option ℕ). reply.Line (month_answer o pages)) is_held in
        so held (first_held held pages said held_so)
        (ap (λ (t : AccountTold). get t.grants month) (told_held life room devices is past (between ++ second ∷ later) now account month held pages said here is_held).unchanged ∙ is_held)
