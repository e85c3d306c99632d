-- Lines are told by what was told.
use Rattle.std.proofs.Common.{◌≡◌, ℕ, Bool, true, false, cond, not, ◌==◌, List, [], ◌∷◌, map, filter, length, take, Option, Some, None, refl, sym, ap, ◌∙◌, rules}
use Rattle.std.specs.Prelude.{codes, is_none}
use Rattle.std.specs.Cmp.{nat_cmp_total}
use Rattle.std.specs.Cmp.Lexicographic.{nat_list_cmp_total}
use Rattle.std.specs.FinMap.{FinMap, entries, get, nat_cmp-IsAntisymmetric, same_map, values}
use Rattle.std.specs.Ordering.{is_lt, nat_cmp}
use Rattle.account_laws.proofs.AsTold.{leaves_as_told}
use Rattle.account_laws.proofs.AsToldSums.{charged_as_told, granted_as_told, reserved_as_told}
use Rattle.account_laws.proofs.DevicesStay.{same_name}
use Rattle.account_laws.proofs.KeyedValues.{AreExact, get-with_keys, values-with_keys, with_keys}
use Rattle.account_laws.proofs.ToldLists.{lines_changed}
use Rattle.account_laws.specs.AccountsTold.{AccountTold, account_told}
use Rattle.account_laws.specs.LinesTold as law
use Rattle.account_laws.specs.LinesTold.{IsAnswered, device_line, grant_line, if_opened, left_line}
use Rattle.account_laws.specs.PagesTold.{whole_device}
use Rattle.account_laws.specs.RefusalTexts.{text_of}
use Rattle.account_laws.specs.StandsAsTold.{AccountStands, StandsAsTold, device_told}
use Rattle.account_machine.specs.declared.event.Reply.TheVariants as reply
use Rattle.account_questions.specs.Lists.{accounts_text, device_text, devices_text, grant_text, grants_text}
use Rattle.account_questions.specs.Questions.{answer_about, answer_to, asks_end}
use Rattle.account_questions.specs.Quotas.{quota_text}
use Rattle.account_questions.specs.declared.question.About.{About}
use Rattle.account_questions.specs.declared.question.About.TheVariants.{Grants, Left}
use Rattle.account_questions.specs.declared.question.Question.{Question}
use Rattle.account_questions.specs.declared.question.Question.TheVariants.{Account, Check, End}
use Rattle.account_rules.proofs.DeviceMaps.{names_exact}
use Rattle.account_rules.specs.Devices.{Devices as DeviceMap, name_cmp}
use Rattle.account_rules.specs.declared.device.Device.{Device}
use Rattle.account_rules.specs.declared.refusal.Word.TheVariants.{NoAccount}
use Rattle.account_state.specs.Grants.{grant_of}
use Rattle.account_state.specs.Names.{from_name}
use Rattle.account_state.specs.Rooms.{RoomValue}

-- ---- a question about one account

-- what is answered of an account that stands as was told
abbrev pub Answers : (account : List ℕ) (about : About) (line : AccountTold → List ℕ) → Type 0
Answers account about line =
    (told : AccountTold) (room : RoomValue) (devices : DeviceMap) → StandsAsTold told room → ((name : List ℕ) → get devices name ≡ device_told told name)
    → answer_about account about room devices ≡ reply.Line (line told)

pub answered_so : (account : List ℕ) (about : About) (line : AccountTold → List ℕ) → Answers account about line → IsAnswered (Account account about) (λ told. if_opened told (line told))
answered_so account about line each life room devices names is =
    let left = leaves_as_told life room devices is in
    by room left.account left.known
  where
    told : AccountTold
    told = account_told life

    by : (room : Option RoomValue) → AccountStands told room → ((name : List ℕ) → get devices name ≡ device_told told name) → answer_to (Account account about) room devices names ≡ if_opened told (line told)
    by None was known = ap (λ (o : Option ℕ). reply.Line (cond (is_none o) (text_of NoAccount) (line told))) (sym was.opened)
    by (Some room) stands known = each told room devices stands known ∙ ap (λ (o : Option ℕ). reply.Line (cond (is_none o) (text_of NoAccount) (line told))) (sym stands.opened)

-- ---- left

pub left_is_told : law.LeftIsTold
left_is_told account month =
    answered_so account (Left month) (λ told. left_line told month) (λ told room devices stands known.
    let granted = granted_as_told told room stands month in
    let reserved = reserved_as_told told room stands in
    let charged = charged_as_told told room stands in
    λ i. reply.Line (quota_text (granted i) (reserved i) (charged i)))

-- ---- grants

pub grants_are_told : law.GrantsAreTold
grants_are_told account =
    answered_so account Grants (λ told. law.lines_told (codes "grants") grant_line (entries told.grants)) (λ told room devices stands known.
    ap (λ (grants : FinMap nat_cmp ℕ). reply.Line (grants_text (map grant_of (entries grants)))) (same_map nat_cmp_total nat_cmp-IsAntisymmetric room.grants told.grants stands.grants)
    ∙ ap reply.Line (lines_changed grant_of grant_text grant_line (λ grant. refl) (codes "grants") (entries told.grants)))

-- ---- devices

abbrev device_of : (told : AccountTold) (name : List ℕ) → Bool → Device
device_of told name on = whole_device told (name, on)

line_of : (told : AccountTold) (device : List ℕ × Bool) → device_text (whole_device told device) ≡ device_line told device
line_of told (name, true) = refl
line_of told (name, false) = refl

pub values_told : (told : AccountTold) (devices : DeviceMap) → ((name : List ℕ) → get devices name ≡ device_told told name) → values devices ≡ map (whole_device told) (entries told.on)
values_told told devices known =
    ap values (same_map nat_list_cmp_total names_exact devices (with_keys name_cmp same_key (device_of told) told.on) (λ name. known name ∙ sym (get-with_keys name_cmp same_key (device_of told) told.on name)))
    ∙ values-with_keys name_cmp same_key (device_of told) told.on
  where
    same_key : AreExact name_cmp
    same_key k q same = sym (same_name k q same)

pub devices_are_told : law.DevicesAreTold
devices_are_told life room devices names is =
    let told = account_told life in
    let left = leaves_as_told life room devices is in
    ap (λ (devices : List Device). reply.Line (devices_text devices)) (values_told told devices left.known)
    ∙ ap reply.Line (lines_changed (whole_device told) device_text (device_line told) (line_of told) (codes "devices") (entries told.on))

-- ---- the others

check_by : (account : List ℕ) (told : AccountTold) (room : Option RoomValue) (devices : DeviceMap) (names : List (List ℕ)) → AccountStands told room → answer_to (Check account) room devices names ≡ if_opened told (codes "sound")
check_by account told None devices names was = ap (λ (o : Option ℕ). reply.Line (cond (is_none o) (text_of NoAccount) (codes "sound"))) (sym was.opened)
check_by account told (Some room) devices names stands = ap (λ (o : Option ℕ). reply.Line (cond (is_none o) (text_of NoAccount) (codes "sound"))) (sym stands.opened)

only_end : (question : Question) → asks_end question ≡ true → question ≡ End
only_end End is = refl
only_end _ is = let no : ⊥ = cc in absurd no

pub others_are_told : law.OthersAreTold
others_are_told = record {
  ping = λ life room devices names is. refl;
  end = λ life room devices names is. refl;
  ends = only_end;
  check = λ account life room devices names is. check_by account (account_told life) room devices names (leaves_as_told life room devices is).account;
}

behind_all : (name : List ℕ) → is_lt (name_cmp [] name) ≡ not (length name == 0)
behind_all [] = refl
behind_all (byte ∷ name) = search rules

which_names : (behind : Option (List ℕ)) (names : List (List ℕ)) → filter (λ name. is_lt (name_cmp (from_name behind) name)) names ≡ filter (law.comes_behind behind) names
which_names None names = λ i. filter (λ name. behind_all name i) names
which_names (Some name) names = refl

pub accounts_are_listed : law.AccountsAreListed
accounts_are_listed behind room devices names = ap (λ (names : List (List ℕ)). reply.Line (accounts_text (take 100 names))) (which_names behind names)
