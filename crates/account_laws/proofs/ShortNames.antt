-- The names of the jobs that were told are short.
use Rattle.std.proofs.Common.{◌≡◌, ℕ, ◌≤◌, ◌==◌, Bool, true, false, cond, List, [], ◌∷◌, length, Option, Some, None, option_map, Result, Ok, Err, refl, sym, subst, ◌∙◌}
use Rattle.std.specs.FinMap.{entries, get, get-empty}
use Rattle.std.specs.List.{AllByRecursion, fold}
use Rattle.std.specs.Ordering.{nat_cmp}
use Rattle.std.proofs.lemmas.Option.{none-some, same_Some}
use Rattle.account_asks.specs.Asks.{PlainAsk, PlainRefusal, ask_of}
use Rattle.account_asks.specs.declared.operation.Operation.{Operation}
use Rattle.account_asks.specs.declared.operation.Operation.TheVariants as asks
use Rattle.account_laws.proofs.AsksWithin.{ask_within}
use Rattle.account_laws.proofs.DeedTurns.{turned, turned_so}
use Rattle.account_laws.specs.AccountsTold.{AccountTold, account_told, after_exchange, nothing_told, rate_told}
use Rattle.account_laws.specs.Deeds.{Deed, Opened, Made, Brought, Canceled, HeldBack, Freed, Released, Started, Settled, Granted, Switched, Rated, NoDeed, asked_deed, deed_of, deed_of_request, moment_of}
use Rattle.account_laws.specs.JobsTold.{JobTold, job_brought, job_canceled, job_freed, job_held, job_made, job_released, job_settled, job_started}
use Rattle.account_laws.specs.ListedJobs.{Numbered}
use Rattle.account_lives.specs.Lives.{Exchange, Life}
use Rattle.account_laws.specs.Told.{if_passed, is_documents, is_ok, is_successful}
use Rattle.account_machine.specs.Events.{OfAccount, OfDevice, Open, Ipp, Release, Start, Settle, Grant, Switch, Rate}
use Rattle.account_state.proofs.FiniteMaps.{all_along, entries_here}

-- ---- of a deed

abbrev MakesShort : Deed → Type 0
MakesShort (Made ask) = length ask.name ≤ 255
MakesShort _ = Unit {0}

asked_short : (ask : PlainAsk) → length ask.name ≤ 255 → (operation : Operation) → MakesShort (asked_deed ask operation)
asked_short ask short asks.PrintJob = short
asked_short ask short asks.CreateJob = short
asked_short ask short _ = tt

read_short : (account body : List ℕ) (read : Result PlainAsk PlainRefusal) → ask_of account body ≡ read → (done : Bool) → MakesShort (cond done (deed_of_request (if_passed read)) NoDeed)
read_short account body read is false = tt
read_short account body (Err refused) is true = tt
read_short account body (Ok ask) is true = asked_short ask (ask_within account body ask is).name_fits ask.operation

line_short : (done : Bool) (deed : Deed) → MakesShort deed → MakesShort (cond done deed NoDeed)
line_short true deed short = short
line_short false deed short = tt

deed_short : (x : Exchange) → MakesShort (deed_of x)
deed_short ((now, OfAccount account (Ipp body)), said) = read_short account body (ask_of account body) refl (is_successful said)
deed_short ((now, OfAccount account Open), said) = line_short (is_ok said) Opened tt
deed_short ((now, OfAccount account (Release device number password impressions)), said) = line_short (is_ok said) (Released device number impressions) tt
deed_short ((now, OfAccount account (Start device number)), said) = line_short (is_documents said) (Started device number) tt
deed_short ((now, OfAccount account (Settle device number impressions failed)), said) = line_short (is_ok said) (Settled device number impressions failed) tt
deed_short ((now, OfAccount account (Grant month pages)), said) = line_short (is_ok said) (Granted month pages) tt
deed_short ((now, OfDevice device (Switch on)), said) = line_short (is_ok said) (Switched device on) tt
deed_short ((now, OfDevice device (Rate units)), said) = line_short (is_ok said) (Rated device units) tt

-- ---- of the jobs

abbrev IsShort : JobTold → Type 0
IsShort job = length job.maker.name ≤ 255

abbrev pub AreShort : AccountTold → Type 0
AreShort told = (number : ℕ) (job : JobTold) → get told.jobs number ≡ Some job → length job.maker.name ≤ 255

changed_short : (found : Option JobTold) (change : JobTold → JobTold) → ((job : JobTold) → (change job).maker ≡ job.maker) → ((job : JobTold) → found ≡ Some job → IsShort job) → (on : Bool) (job : JobTold) → cond on (option_map change found) found ≡ Some job → IsShort job
changed_short found change same short false job is = short job is
changed_short None change same short true job is = absurd (none-some job is)
changed_short (Some one) change same short true job is = subst IsShort (same_Some (change one) job is) (subst (λ (maker : PlainAsk). length maker.name ≤ 255) (sym (same one)) (short one refl))

made_short : (now : ℕ) (ask : PlainAsk) (found : Option JobTold) → length ask.name ≤ 255 → ((job : JobTold) → found ≡ Some job → IsShort job) → (on : Bool) (job : JobTold) → cond on (Some (job_made now ask)) found ≡ Some job → IsShort job
made_short now ask found new short true job is = subst IsShort (same_Some (job_made now ask) job is) new
made_short now ask found new short false job is = short job is

turned_short : (now : ℕ) (told : AccountTold) (deed : Deed) → MakesShort deed → AreShort told → (q : ℕ) (job : JobTold) → turned now told q deed ≡ Some job → IsShort job
turned_short now told (Made ask) new short q job is = made_short now ask (get told.jobs q) new (short q) (q == told.next) job is
turned_short now told (Brought ask) new short q job is = changed_short (get told.jobs q) (job_brought ask) (λ _. refl) (short q) (q == ask.job) job is
turned_short now told (Canceled number) new short q job is = changed_short (get told.jobs q) (job_canceled now) (λ _. refl) (short q) (q == number) job is
turned_short now told (HeldBack number) new short q job is = changed_short (get told.jobs q) job_held (λ _. refl) (short q) (q == number) job is
turned_short now told (Freed number) new short q job is = changed_short (get told.jobs q) job_freed (λ _. refl) (short q) (q == number) job is
turned_short now told (Released device number impressions) new short q job is = changed_short (get told.jobs q) (job_released device (rate_told told device) impressions) (λ _. refl) (short q) (q == number) job is
turned_short now told (Started device number) new short q job is = changed_short (get told.jobs q) (job_started device now) (λ _. refl) (short q) (q == number) job is
turned_short now told (Settled device number impressions failed) new short q job is = changed_short (get told.jobs q) (job_settled impressions failed now) (λ _. refl) (short q) (q == number) job is
turned_short now told _ new short q job is = short q job is

still_short : (told : AccountTold) (x : Exchange) → AreShort told → AreShort (after_exchange told x)
still_short told x short q job is = turned_short (moment_of x) told (deed_of x) (deed_short x) short q job (sym (turned_so (moment_of x) told q (deed_of x)) ∙ is)

all_short : (told : AccountTold) (life : Life) → AreShort told → AreShort (fold after_exchange told life)
all_short told [] short = short
all_short told (x ∷ life) short = all_short (after_exchange told x) life (still_short told x short)

pub names_are_short : (past : Life) → AreShort (account_told past)
names_are_short past = all_short nothing_told past (λ number job is. absurd (none-some job (sym (get-empty nat_cmp number) ∙ is)))

-- so are those in a list of them
pub entries_short : (told : AccountTold) → AreShort told → AllByRecursion (λ (job : Numbered). length job.1.maker.name ≤ 255) (entries told.jobs)
entries_short told short = all_along (λ (job : Numbered) is. short job.0 job.1 is) (entries told.jobs) (entries_here told.jobs)
