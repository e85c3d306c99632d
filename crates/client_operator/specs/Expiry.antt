-- Rule: What `expire` asks and prints (this project's own).
use Rattle.std.specs.Prelude.{◌≡◌, ◌↔◌, IsTrue, ℕ, Bool, true, false, ◌&&◌, List, ◌++◌, codes}
use Rattle.client_lines.specs.Asking.{IsDone}
use Rattle.client_lines.specs.Replies.{whole_line}
use Rattle.client_operator.specs.Asked.{account_asked, cancel_asked}
use Rattle.client_operator.specs.Jobs.{Tells}
use Rattle.client_operator.specs.Names.{AsksNames}
use Rattle.client_operator.specs.Talks.{At, Asks, AsksList, InTurn, Prints}
use Rattle.client_operator.specs.Waiting.{is_chosen}
use Rattle.client_operator.specs.declared.expire.Expiry.{Expiry}
use Rattle.client_operator.specs.declared.job.TellsJob.{TellsJob}

-- how far it has come, and whether each job was canceled by then that was to be
pub record DoneAt : Type 0 where
  pub at : At
  pub done : Bool

abbrev pub done_at : (at : At) (done : Bool) → DoneAt
done_at at done = record { at = at; done = done }

abbrev pub job_shown : (account job : List ℕ) → List ℕ
job_shown account job = account ++ codes " " ++ job

-- the job's cancel line was sent, and the job printed with its answer; whether that tells it was done
pub record CancelsJob (account job : List ℕ) (done : Bool) (from to : At) : Type 0 where
  pub answer : List ℕ
  pub mid : At
  pub asks : Asks from mid (cancel_asked account job) answer
  pub prints : Prints mid to (whole_line (job_shown account job ++ codes " " ++ answer))
  pub is_done : IsTrue done ↔ IsDone answer

-- a job that is chosen was canceled, or only shown; nothing was done of another
abbrev pub ExpiresJob : (chosen shown_only : Bool) (account job : List ℕ) (from to : DoneAt) → Type 0
ExpiresJob false shown_only account job from to = to ≡ from
ExpiresJob true true account job from to =
    Prints from.at to.at (whole_line (job_shown account job)) × (to.done ≡ from.done)
ExpiresJob true false account job from to = (done : Bool)
    × CancelsJob account job done from.at to.at × (to.done ≡ (from.done && done))

-- so it went with the job that a line tells of
pub record ExpiresLine (expiry : Expiry) (account line : List ℕ) (from to : DoneAt) : Type 0 where
  pub job : TellsJob
  pub tells : Tells line job
  pub expires : ExpiresJob (is_chosen expiry.age job) expiry.shown_only account job.job.now from to

-- the account's jobs were asked for, and then so it went with each of them, in order
pub record ExpiresAccount (expiry : Expiry) (account : List ℕ) (from to : DoneAt) : Type 0 where
  pub lines : List (List ℕ)
  pub mid : At
  pub asks : AsksList from.at mid (account_asked (codes "jobs ") account) lines
  pub each : InTurn (ExpiresLine expiry account) (done_at mid from.done) to lines

-- all names were asked for, and then the jobs of each account; whether each job was canceled that was to be
pub record Expires (expiry : Expiry) (done : Bool) (from to : At) : Type 0 where
  pub names : List (List ℕ)
  pub named : At
  pub asks : AsksNames from named names
  pub each : InTurn (ExpiresAccount expiry) (done_at named true) (done_at to done) names
