-- Jobs that expired, from what was asked and printed of them.
use Rattle.std.proofs.Common.{◌≡◌, ℕ, List, ◌++◌, codes, refl, subst}
use Rattle.std.specs.Prelude.{◌↔◌, Bool, IsTrue, true}
use Rattle.std.specs.Io.KnownBytes.{Appends}
use Rattle.client_lines.specs.Asking.{IsDone}
use Rattle.client_lines.specs.Replies.{Known, whole_line}
use Rattle.client_operator.specs.Asked.{account_asked, cancel_asked}
use Rattle.client_operator.specs.Expiry.{CancelsJob, DoneAt, Expires, ExpiresAccount, ExpiresJob, ExpiresLine, done_at, job_shown}
use Rattle.client_operator.specs.Jobs.{Tells}
use Rattle.client_operator.specs.Names.{AsksNames}
use Rattle.client_operator.specs.Talks.{At, Asks, AsksList, InTurn}
use Rattle.client_operator.specs.Waiting.{is_chosen}
use Rattle.client_operator.specs.declared.expire.Expiry.{Expiry}
use Rattle.client_operator.specs.declared.job.TellsJob.{TellsJob}

pub CancelsJob-of : (account job answer shown told said : List ℕ) (done : Bool) (from asked : At) (printed : Known)
    → Asks from asked (cancel_asked account job) answer → shown ≡ job_shown account job → told ≡ answer
    → Appends asked.printed printed (whole_line (shown ++ codes " " ++ told))
    → said ≡ answer → IsTrue done ↔ IsDone said
    → CancelsJob account job done from (record { sent = asked.sent; left = asked.left; printed = printed })
CancelsJob-of account job answer shown told said done from asked printed asks as_shown as_told prints as_said is = record {
  answer = answer;
  mid = asked;
  asks = asks;
  prints = record {
    sent = refl;
    left = refl;
    printed = subst (λ t. Appends asked.printed printed (whole_line (job_shown account job ++ codes " " ++ t))) as_told
        (subst (λ s. Appends asked.printed printed (whole_line (s ++ codes " " ++ told))) as_shown prints);
  };
  is_done = subst (λ a. IsTrue done ↔ IsDone a) as_said is;
}

pub ExpiresLine-of : (expiry : Expiry) (account line : List ℕ) (job : TellsJob) (chosen shown_only : Bool) (from to : DoneAt)
    → Tells line job → chosen ≡ is_chosen expiry.age job → shown_only ≡ expiry.shown_only
    → ExpiresJob chosen shown_only account job.job.now from to → ExpiresLine expiry account line from to
ExpiresLine-of expiry account line job chosen shown_only from to tells is_so is_shown expires = record {
  job = job;
  tells = tells;
  expires = subst (λ shown. ExpiresJob (is_chosen expiry.age job) shown account job.job.now from to) is_shown
      (subst (λ so. ExpiresJob so shown_only account job.job.now from to) is_so expires);
}

pub ExpiresAccount-of : (expiry : Expiry) (account : List ℕ) (lines : List (List ℕ)) (from mid : At) (before : Bool) (to : DoneAt)
    → AsksList from mid (account_asked (codes "jobs ") account) lines
    → InTurn (ExpiresLine expiry account) (done_at mid before) to lines
    → ExpiresAccount expiry account (done_at from before) to
ExpiresAccount-of expiry account lines from mid before to asks each =
    record { lines = lines; mid = mid; asks = asks; each = each }

pub Expires-of : (expiry : Expiry) (done : Bool) (names listed : List (List ℕ)) (from named to : At)
    → listed ≡ names → AsksNames from named names
    → InTurn (ExpiresAccount expiry) (done_at named true) (done_at to done) listed → Expires expiry done from to
Expires-of expiry done names listed from named to same asks each =
    record { names = names; named = named; asks = asks; each = subst (InTurn (ExpiresAccount expiry) _ _) same each }
