-- Rule: Which lines are questions, who may ask them, and what they ask (this project's own).
use Rattle.std.specs.Prelude.{◌≡◌, ℕ, ◌≤◌, Bool, true, false, List, [], ◌∷◌, codes}
use Rattle.input_fields.specs.Fields.{SaysNumber}
use Rattle.input_lines.specs.Saying.{AreFields, SaysMonth, name_said}
use Rattle.account_questions.specs.declared.question.About.{About}
use Rattle.account_questions.specs.declared.question.About.TheVariants.{Left, Statement, Jobs, Ended, Grants, Waiting, Again, OwnerPage, StatementPage, DeskPage}
use Rattle.account_questions.specs.declared.question.Question.{Question}
use Rattle.account_questions.specs.declared.question.Question.TheVariants.{Ping, End, Devices, DevicesPage, Accounts, Check, Account}

-- a station asks what waits for an account, and for a job's documents again; an operator all else
-- that lines ask
abbrev pub is_of_station : Question → Bool
is_of_station (Account account (Waiting device)) = true
is_of_station (Account account (Again device job)) = true
is_of_station _ = false

-- how many jobs that have ended a line may ask for
abbrev pub most_ended : ℕ
most_ended = 100

abbrev pub SaysAbout : (fields : List (List ℕ)) (account : List ℕ) → About → Type 0
SaysAbout fields account (Left month) =
    (upto : List ℕ) × (fields ≡ codes "left" ∷ account ∷ upto ∷ []) × SaysMonth upto month
SaysAbout fields account (Statement month) =
    (of : List ℕ) × (fields ≡ codes "statement" ∷ account ∷ of ∷ []) × SaysMonth of month
SaysAbout fields account Jobs = fields ≡ codes "jobs" ∷ account ∷ []
SaysAbout fields account (Ended most) =
    (number : List ℕ) × (fields ≡ codes "ended" ∷ account ∷ number ∷ [])
    × SaysNumber number most × (1 ≤ most) × (most ≤ most_ended)
SaysAbout fields account Grants = fields ≡ codes "grants" ∷ account ∷ []
SaysAbout fields account (Waiting device) = fields ≡ codes "list" ∷ device ∷ account ∷ []
SaysAbout fields account (Again device job) =
    (number : List ℕ) × (fields ≡ codes "again" ∷ device ∷ account ∷ number ∷ [])
    × SaysNumber number job
-- no line asks for a page
SaysAbout fields account (OwnerPage month outcome stays needs_password) = ⊥
SaysAbout fields account (StatementPage first last form drawn_up) = ⊥
SaysAbout fields account (DeskPage month) = ⊥

abbrev pub SaysQuestion : (fields : List (List ℕ)) → Question → Type 0
SaysQuestion fields Ping = fields ≡ codes "ping" ∷ []
SaysQuestion fields End = fields ≡ codes "end" ∷ []
SaysQuestion fields Devices = fields ≡ codes "devices" ∷ []
SaysQuestion fields DevicesPage = ⊥
SaysQuestion fields (Accounts behind) = fields ≡ codes "accounts" ∷ name_said behind ∷ []
SaysQuestion fields (Check account) = fields ≡ codes "check" ∷ account ∷ []
SaysQuestion fields (Account account about) = SaysAbout fields account about

abbrev pub IsQuestionOf : (text : List ℕ) → Question → Type 0
IsQuestionOf text question =
    (fields : List (List ℕ)) × AreFields text fields × SaysQuestion fields question
