-- A password shows in no answer, however long a life is (all this project's own).
use Rattle.std.specs.Prelude.{◌≡◌, ◌⊎◌, ◌↔◌, ℕ, Bool, true, false, nat_lt, List, [], ◌∷◌, ◌++◌, map, length, Option, Some, Result, Ok, Err}
use Rattle.std.specs.FinMap.{get}
use Rattle.std.specs.Option.{option_map_or}
use Rattle.ipp_coding.specs.Limits.{header_length}
use Rattle.ipp_coding.specs.Reading.{header_in}
use Rattle.account_asks.specs.Asks.{PlainAsk, PlainRefusal, ask_of}
use Rattle.account_laws.specs.AccountsTold.{AccountTold, account_told, after_exchange, nothing_told}
use Rattle.account_laws.specs.Deeds.{moment_of}
use Rattle.account_laws.specs.JobsTold.{JobTold}
use Rattle.account_laws.specs.RefusalTexts.{text_of}
use Rattle.account_laws.specs.StationAnswers.{is_wrong}
use Rattle.account_laws.specs.Told.{is_ok}
use Rattle.account_lives.specs.Lives.{Exchange, IsLife, Life}
use Rattle.account_machine.specs.Events.{PlainEvent, OfAccount, Ipp, Release}
use Rattle.account_machine.specs.declared.event.Reply.{Reply}
use Rattle.account_machine.specs.declared.event.Reply.TheVariants as reply
use Rattle.account_rules.specs.Devices.{Devices}
use Rattle.account_rules.specs.declared.refusal.Word.TheVariants.{Password}
use Rattle.account_state.specs.Rooms.{RoomValue}

-- ---- two events that differ in passwords alone

-- two requests ask the same, but for the password that a job is to have: both give one, or neither
pub record AskAlike (a b : PlainAsk) : Type 0 where
  pub rest : record a { password = [] } ≡ record b { password = [] }
  pub both : (a.password ≡ []) ↔ (b.password ≡ [])

-- both pass the checks of requests and ask alike, or both are refused for the same
abbrev pub AreReadAlike : (a b : Result PlainAsk PlainRefusal) → Type 0
AreReadAlike (Ok a) (Ok b) = AskAlike a b
AreReadAlike (Err a) (Err b) = a ≡ b
AreReadAlike _ _ = ⊥

-- two bodies are read alike, and have the same header, or are both too short for one
pub record AreBodiesAlike (account a b : List ℕ) : Type 0 where
  pub header : header_in a ≡ header_in b
  pub short : nat_lt (length a) header_length ≡ nat_lt (length b) header_length
  pub read : AreReadAlike (ask_of account a) (ask_of account b)

-- what was given is wrong for the job: the request that made it gave another password
abbrev pub is_wrong_for : (told : AccountTold) (number : ℕ) (given : List ℕ) → Bool
is_wrong_for told number given =
    option_map_or (λ (job : JobTold). is_wrong job.maker.password given) (get told.jobs number) false

abbrev pub gives_password : PlainEvent → Bool
gives_password (OfAccount account (Release device number given impressions)) = true
gives_password _ = false

-- Both events are the same one, which gives no password; or both are requests, with bodies that are
-- alike; or both are releases of one job at a station, with passwords that are both right or both
-- wrong, each by what was told in its own life.
pub data AreAlike (told other : AccountTold) : PlainEvent → PlainEvent → Type 0 where
  same : (event : PlainEvent) → gives_password event ≡ false → AreAlike told other event event
  requests : (account a b : List ℕ) → AreBodiesAlike account a b
      → AreAlike told other (OfAccount account (Ipp a)) (OfAccount account (Ipp b))
  releases : (account device : List ℕ) (number impressions : ℕ) (given tried : List ℕ)
      → is_wrong_for told number given ≡ is_wrong_for other number tried
      → AreAlike told other
      (OfAccount account (Release device number given impressions))
      (OfAccount account (Release device number tried impressions))

-- ---- two lives

-- at each place of both lives stand events that are alike, at the same moment
abbrev pub GoAlike : (told other : AccountTold) (life another : Life) → Type 0
GoAlike told other [] [] = Unit {0}
GoAlike told other (x ∷ life) (y ∷ another) =
    (moment_of x ≡ moment_of y)
    × AreAlike told other x.0.1 y.0.1
    × GoAlike (after_exchange told x) (after_exchange other y) life another
GoAlike told other _ _ = ⊥

abbrev pub answers_in : Life → List Reply
answers_in life = map (λ (x : Exchange). x.1) life

-- two lives whose events differ in nothing but passwords are told the same, answer by answer
abbrev pub PasswordsStaySecret : Type 0
PasswordsStaySecret =
    (life another : Life) (room other : Option RoomValue) (devices known : Devices)
    → IsLife life room devices → IsLife another other known
    → GoAlike nothing_told nothing_told life another
    → answers_in life ≡ answers_in another

-- ---- a wrong one

-- it is not done: it is told to be wrong, or what the right one would have been told
pub record OpensNothing (wrong right : Reply) : Type 0 where
  pub not_done : is_ok wrong ≡ false
  pub told : (wrong ≡ reply.Line (text_of Password)) ⊎ (wrong ≡ right)

-- So is every release of a job, at a station, with another password than the request gave that made
-- it, whatever was told before; the right one is that request's.
abbrev pub WrongPasswordsOpenNothing : Type 0
WrongPasswordsOpenNothing =
    (past : Life) (now : ℕ) (account device : List ℕ) (number impressions : ℕ) (job : JobTold)
    (given : List ℕ) (wrong right : Reply) (room other : Option RoomValue)
    (devices known : Devices)
    → get (account_told past).jobs number ≡ Some job → is_wrong job.maker.password given ≡ true
    → IsLife
    (past ++ ((now, OfAccount account (Release device number given impressions)), wrong) ∷ [])
    room devices
    → IsLife
    (past
    ++ ((now, OfAccount account (Release device number job.maker.password impressions)), right) ∷ [])
    other known
    → OpensNothing wrong right
