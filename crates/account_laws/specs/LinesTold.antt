-- The lines that questions are answered with, byte for byte, by what was told (all this project's
-- own). No answer has a line feed at its end.
use Rattle.std.specs.Prelude.{◌≡◌, true, ℕ, ◌+◌, ◌/◌, ◌%◌, pos, ◌-ℤ◌, ◌==◌, Bool, not, if◌then◌else◌, codes, List, ◌∷◌, ◌++◌, filter, length, take, Option, Some, None, is_none}
use Rattle.std.specs.FinMap.{entries}
use Rattle.std.specs.Fmt.{decimal, signed_decimal}
use Rattle.std.specs.List.{flat_map}
use Rattle.std.specs.Ordering.{is_lt}
use Rattle.account_laws.specs.AccountsTold.{AccountTold, account_told, charged_told, granted_told, rate_told, reserved_told}
use Rattle.account_laws.specs.RefusalTexts.{text_of}
use Rattle.account_lives.specs.Lives.{IsLife, Life}
use Rattle.account_machine.specs.declared.event.Reply.{Reply}
use Rattle.account_machine.specs.declared.event.Reply.TheVariants as reply
use Rattle.account_questions.specs.Questions.{answer_to, asks_end}
use Rattle.account_questions.specs.declared.question.About.TheVariants.{Grants, Left}
use Rattle.account_questions.specs.declared.question.Question.{Question}
use Rattle.account_questions.specs.declared.question.Question.TheVariants.{Account, Accounts, Check, Devices, End, Ping}
use Rattle.account_rules.specs.Devices.{Devices as DeviceMap, name_cmp}
use Rattle.account_rules.specs.declared.refusal.Word.TheVariants.{NoAccount}
use Rattle.account_state.specs.Rooms.{RoomValue}

-- ---- what all share

-- after every life the question is answered so
abbrev pub IsAnswered : Question → (answer : AccountTold → Reply) → Type 0
IsAnswered question answer =
    (life : Life) (room : Option RoomValue) (devices : DeviceMap) (names : List (List ℕ))
    → IsLife life room devices
    → answer_to question room devices names ≡ answer (account_told life)

-- of an account that was opened this is told
abbrev pub if_opened : (told : AccountTold) (line : List ℕ) → Reply
if_opened told line = reply.Line (if is_none told.opened then text_of NoAccount else line)

-- a word, how many lines follow, and these
abbrev pub lines_told : {X : Type 0} → (word : List ℕ) (line : X → List ℕ) (items : List X)
    → List ℕ
lines_told word line items =
    word ++ (codes " " ++ (decimal (length items) ++ flat_map (λ item. 10 ∷ line item) items))

-- ---- left

-- what was granted up to the month, what is reserved, what was charged, and what that leaves, maybe
-- behind a minus sign
abbrev pub left_line : (told : AccountTold) (month : ℕ) → List ℕ
left_line told month =
    codes "ok granted "
    ++ (decimal (granted_told told month)
    ++ (codes " reserved "
    ++ (decimal (reserved_told told)
    ++ (codes " charged "
    ++ (decimal (charged_told told)
    ++ (codes " left "
    ++ signed_decimal
    ((pos (granted_told told month) -ℤ pos (reserved_told told)) -ℤ pos (charged_told told))))))))

abbrev pub LeftIsTold : Type 0
LeftIsTold = (account : List ℕ) (month : ℕ)
    → IsAnswered (Account account (Left month)) (λ told. if_opened told (left_line told month))

-- ---- grants

-- YYYY-MM, of the year times 12, and 0 for January to 11 for December
abbrev pub year_and_month : ℕ → List ℕ
year_and_month month =
    decimal (month / 12)
    ++ (codes "-" ++ (decimal ((month % 12 + 1) / 10) ++ decimal ((month % 12 + 1) % 10)))

-- a month, and the pages that were granted for it
abbrev pub grant_line : ℕ × ℕ → List ℕ
grant_line grant =
    codes "grant " ++ (year_and_month grant.0 ++ (codes " " ++ decimal grant.1))

-- by rising month
abbrev pub GrantsAreTold : Type 0
GrantsAreTold = (account : List ℕ) → IsAnswered (Account account Grants) (λ told.
    if_opened told (lines_told (codes "grants") grant_line (entries told.grants)))

-- ---- devices

-- its name, whether it is on, and its rate
abbrev pub device_line : (told : AccountTold) → List ℕ × Bool → List ℕ
device_line told device =
    codes "device "
    ++ (device.0
    ++ ((if device.1 then codes " on " else codes " off ") ++ decimal (rate_told told device.0)))

-- by rising name, whether the account was opened or not
abbrev pub DevicesAreTold : Type 0
DevicesAreTold = IsAnswered Devices (λ told.
    reply.Line (lines_told (codes "devices") (device_line told) (entries told.on)))

-- ---- questions that tell nothing of an account but whether it was opened

-- A server that is asked whether it is there, or to end, says ok, and ends only where it is asked
-- to. The rows of an account that was opened are sound.
pub record OthersAreTold : Type 0 where
  pub ping : IsAnswered Ping (λ told. reply.Line (codes "ok"))
  pub end : IsAnswered End (λ told. reply.Line (codes "ok"))
  pub ends : (question : Question) → asks_end question ≡ true → question ≡ End
  pub check : (account : List ℕ)
      → IsAnswered (Check account) (λ told. if_opened told (codes "sound"))

-- ---- names of accounts

-- one name comes after another by its bytes; where no other is given, each does that is not empty
abbrev pub comes_behind : (behind : Option (List ℕ)) (name : List ℕ) → Bool
comes_behind None name = not (length name == 0)
comes_behind (Some before) name = is_lt (name_cmp before name)

abbrev pub account_line : List ℕ → List ℕ
account_line name = codes "account " ++ name

-- the next of the names that there are, at most 100, whatever was told
abbrev pub AccountsAreListed : Type 0
AccountsAreListed =
    (behind : Option (List ℕ)) (room : Option RoomValue) (devices : DeviceMap)
    (names : List (List ℕ))
    → answer_to (Accounts behind) room devices names
    ≡ reply.Line
    (lines_told (codes "accounts") account_line (take 100 (filter (comes_behind behind) names)))
