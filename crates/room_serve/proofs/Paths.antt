-- A target is its account's by its bytes.
use Rattle.std.proofs.Common.{◌≡◌, ◌≢◌, ◌⊎◌, inl, inr, ℕ, suc, ◌+◌, ◌≤◌, ◌==◌, ◌&&◌, ◌||◌, not, Bool, true, false, cond, nat_le, nat_lt, length, take, drop, List, [], ◌∷◌, ◌++◌, append_assoc, append-nil, Some, None, option_and_then, bytes_eq, one-add, refl, sym, ap, ap₂, subst, ◌∙◌, arith}
use Rattle.std.specs.Char.{is_ascii_digit}
use Rattle.std.specs.List.{AllByRecursion, list_all, list_any, position_or_len}
use Rattle.std.proofs.lemmas.Bool.{and_from, and_parts, cond-false, cond-true, eq-eqb, eqb-true, false≢true, le-leb, le-ltb, leb-true, lt-ltb, ltb-false, ltb-true, ne_eqb, or_cases, or_from, or_left, or_parts, or_right}
use Rattle.std.proofs.lemmas.List.{drop_at, take-append-drop, take_at}
use Rattle.std.proofs.lemmas.List.Folds.{length-prefix_len}
use Rattle.std.proofs.lemmas.Option.{cond_some, none-some, option_and_then_some, same_Some}
use Rattle.std.proofs.lemmas.Slice.Eq.{bytes_eq-Decides}
use Rattle.account_rules.specs.Names.{is_letter, is_name, is_name_byte}
use Rattle.account_rules.specs.QueuePaths.{behind, queues}
use Rattle.input_http.specs.Targets.{is_job_part, queue_in}
use Rattle.input_http.specs.Words.{before}
use Rattle.room_serve.specs.Paths.{IsDigit, IsJob, IsName, IsNameByte, IsPathOf, IsQuery, NamedByPath, PathNames, PathOfOne}

-- ---- bytes

pub within : (low high c : ℕ) → (nat_le low c && nat_le c high) ≡ true → (low ≤ c) × (c ≤ high)
within low high c is = let both = and_parts (nat_le low c) (nat_le c high) is in (leb-true low c both.0, leb-true c high both.1)

pub within_again : (low high c : ℕ) → (low ≤ c) × (c ≤ high) → (nat_le low c && nat_le c high) ≡ true
within_again low high c is = and_from (nat_le low c) (nat_le c high) (le-leb low c is.0) (le-leb c high is.1)

byte_is : (c : ℕ) → is_name_byte c ≡ true → IsNameByte c
byte_is c is = by (or_cases (is_letter c || is_ascii_digit c) (c == 45) is)
  where
    front : (is_letter c ≡ true) ⊎ (is_ascii_digit c ≡ true) → IsNameByte c
    front (inl letter) = inl (within 97 122 c letter)
    front (inr digit) = inr (inl (within 48 57 c digit))

    by : ((is_letter c || is_ascii_digit c) ≡ true) ⊎ ((c == 45) ≡ true) → IsNameByte c
    by (inl either) = front (or_cases (is_letter c) (is_ascii_digit c) either)
    by (inr dash) = inr (inr (eqb-true c 45 dash))

byte_again : (c : ℕ) → IsNameByte c → is_name_byte c ≡ true
byte_again c (inl letter) = or_left (is_letter c || is_ascii_digit c) (c == 45) (or_left (is_letter c) (is_ascii_digit c) (within_again 97 122 c letter))
byte_again c (inr (inl digit)) = or_left (is_letter c || is_ascii_digit c) (c == 45) (or_right (is_letter c) (is_ascii_digit c) (within_again 48 57 c digit))
byte_again c (inr (inr dash)) = or_right (is_letter c || is_ascii_digit c) (c == 45) (eq-eqb c 45 dash)

pub all_are : (P : ℕ → Type 0) (test : ℕ → Bool) → ((c : ℕ) → test c ≡ true → P c) → (bytes : List ℕ) → list_all test bytes ≡ true → AllByRecursion P bytes
all_are P test each [] all = tt
all_are P test each (c ∷ bytes) all = let both = and_parts (test c) (list_all test bytes) all in (each c both.0, all_are P test each bytes both.1)

pub all_again : (P : ℕ → Type 0) (test : ℕ → Bool) → ((c : ℕ) → P c → test c ≡ true) → (bytes : List ℕ) → AllByRecursion P bytes → list_all test bytes ≡ true
all_again P test each [] all = refl
all_again P test each (c ∷ bytes) all = and_from (test c) (list_all test bytes) (each c all.0) (all_again P test each bytes all.1)

-- ---- names

not_zero : (n : ℕ) → suc n ≢ 0
not_zero n = omega arith

pub name_is : (bytes : List ℕ) → is_name bytes ≡ true → IsName bytes
name_is [] is = absurd (false≢true is)
name_is (c ∷ others) is = by ((length (c ∷ others) == 0) || nat_lt 32 (length (c ∷ others))) refl is
  where
    by : (b : Bool) → ((length (c ∷ others) == 0) || nat_lt 32 (length (c ∷ others))) ≡ b → cond b false (is_letter c && (is_name_byte c && list_all is_name_byte others)) ≡ true → IsName (c ∷ others)
    by true long is = absurd (false≢true is)
    by false fits is =
        let both = and_parts (is_letter c) (is_name_byte c && list_all is_name_byte others) is in
        let rest = and_parts (is_name_byte c) (list_all is_name_byte others) both.1 in
        let short = or_parts (length (c ∷ others) == 0) (nat_lt 32 (length (c ∷ others))) fits in
        (within 97 122 c both.0, all_are IsNameByte is_name_byte byte_is others rest.1, ltb-false 32 (length (c ∷ others)) short.1)

pub name_again : (bytes : List ℕ) → IsName bytes → is_name bytes ≡ true
name_again [] is = absurd is
name_again (c ∷ others) is =
    cond-false ((length (c ∷ others) == 0) || nat_lt 32 (length (c ∷ others))) false (is_letter c && (is_name_byte c && list_all is_name_byte others))
    (or_from (length (c ∷ others) == 0) (nat_lt 32 (length (c ∷ others))) (ne_eqb (length (c ∷ others)) 0 (not_zero (length others))) (le-ltb 32 (length (c ∷ others)) is.2))
    ∙ and_from (is_letter c) (is_name_byte c && list_all is_name_byte others) (within_again 97 122 c is.0)
    (and_from (is_name_byte c) (list_all is_name_byte others) (byte_again c (inl is.0)) (all_again IsNameByte is_name_byte byte_again others is.1))

-- ---- what stands before a mark, and from it on

abbrev pub Begins : (mark : ℕ) → List ℕ → Type 0
Begins mark [] = Unit {0}
Begins mark (c ∷ rest) = c ≡ mark

abbrev pub from : (mark : ℕ) → List ℕ → List ℕ
from mark bytes = drop (length (before mark bytes)) bytes

before_next : (mark c : ℕ) (bytes : List ℕ) → before mark (c ∷ bytes) ≡ cond (c == mark) [] (c ∷ before mark bytes)
before_next mark c bytes = by (c == mark)
  where
    by : (b : Bool) → take (cond (not b) (1 + position_or_len (λ x. x == mark) bytes) 0) (c ∷ bytes) ≡ cond b [] (c ∷ before mark bytes)
    by true = refl
    by false = ap (λ (n : ℕ). take n (c ∷ bytes)) (one-add (position_or_len (λ x. x == mark) bytes))

pub whole : (mark : ℕ) (bytes : List ℕ) → before mark bytes ++ from mark bytes ≡ bytes
whole mark bytes =
    ap (λ (n : ℕ). before mark bytes ++ drop n bytes) (length-prefix_len (λ (x : ℕ). not (x == mark)) bytes)
    ∙ take-append-drop (position_or_len (λ x. x == mark) bytes) bytes

pub from_begins : (mark : ℕ) (bytes : List ℕ) → Begins mark (from mark bytes)
from_begins mark [] = tt
from_begins mark (c ∷ bytes) = subst (λ (front : List ℕ). Begins mark (drop (length front) (c ∷ bytes))) (sym (before_next mark c bytes)) (by (from_begins mark bytes) (c == mark) refl)
  where
    by : Begins mark (from mark bytes) → (b : Bool) → (c == mark) ≡ b → Begins mark (drop (length (cond b [] (c ∷ before mark bytes))) (c ∷ bytes))
    by later true is = eqb-true c mark is
    by later false isnt = later

-- it stands before what begins with it
pub before_begun : (mark : ℕ) (bytes : List ℕ) → Begins mark bytes → before mark bytes ≡ []
before_begun mark [] begins = refl
before_begun mark (c ∷ bytes) begins = before_next mark c bytes ∙ cond-true (c == mark) [] (c ∷ before mark bytes) (eq-eqb c mark begins)

-- and behind what has none
pub before_past : (mark : ℕ) (front rest : List ℕ) → list_any (λ c. c == mark) front ≡ false → before mark (front ++ rest) ≡ front ++ before mark rest
before_past mark [] rest free = refl
before_past mark (c ∷ front) rest free =
    let both = or_parts (c == mark) (list_any (λ x. x == mark) front) free in
    before_next mark c (front ++ rest)
    ∙ cond-false (c == mark) [] (c ∷ before mark (front ++ rest)) both.0
    ∙ ap (λ (l : List ℕ). c ∷ l) (before_past mark front rest both.1)

-- ---- neither "/" nor "?" stands in a name, nor "?" in what names a job

all_free : (P : ℕ → Type 0) (mark : ℕ) → ((c : ℕ) → P c → c ≢ mark) → (bytes : List ℕ) → AllByRecursion P bytes → list_any (λ c. c == mark) bytes ≡ false
all_free P mark apart [] all = refl
all_free P mark apart (c ∷ bytes) all = or_from (c == mark) (list_any (λ x. x == mark) bytes) (ne_eqb c mark (apart c all.0)) (all_free P mark apart bytes all.1)

pub name_free : (mark : ℕ) → ((c : ℕ) → IsNameByte c → c ≢ mark) → (account : List ℕ) → IsName account → list_any (λ c. c == mark) account ≡ false
name_free mark apart [] is = absurd is
name_free mark apart (c ∷ others) is = all_free IsNameByte mark apart (c ∷ others) (inl is.0, is.1)

pub no_slash : (c : ℕ) → IsNameByte c → c ≢ 47
no_slash c is = omega arith

pub no_mark : (c : ℕ) → IsNameByte c → c ≢ 63
no_mark c is = omega arith

pub digit_apart : (c : ℕ) → IsDigit c → c ≢ 63
digit_apart c is = omega arith

slash_apart : (c : ℕ) → c ≡ 47 → c ≢ 63
slash_apart c is = omega arith

job_free : (job : List ℕ) → IsJob job → list_any (λ c. c == 63) job ≡ false
job_free [] is = refl
job_free (c ∷ digits) is = or_from (c == 63) (list_any (λ x. x == 63) digits) (ne_eqb c 63 (slash_apart c is.0)) (all_free IsDigit 63 digit_apart digits is.3)

-- ---- jobs and queries

part_is : (part : List ℕ) → Begins 47 part → is_job_part part ≡ true → IsJob part
part_is [] begins is = tt
part_is (c ∷ digits) begins is =
    let both = and_parts (nat_lt 0 (length digits)) (nat_le (length digits) 6 && list_all is_ascii_digit digits) is in
    let rest = and_parts (nat_le (length digits) 6) (list_all is_ascii_digit digits) both.1 in
    (begins, ltb-true 0 (length digits) both.0, leb-true (length digits) 6 rest.0, all_are IsDigit is_ascii_digit (within 48 57) digits rest.1)

part_again : (job : List ℕ) → IsJob job → is_job_part job ≡ true
part_again [] is = refl
part_again (c ∷ digits) is =
    and_from (nat_lt 0 (length digits)) (nat_le (length digits) 6 && list_all is_ascii_digit digits) (lt-ltb 0 (length digits) is.1)
    (and_from (nat_le (length digits) 6) (list_all is_ascii_digit digits) (le-leb (length digits) 6 is.2) (all_again IsDigit is_ascii_digit (within_again 48 57) digits is.3))

job_begins : (job : List ℕ) → IsJob job → Begins 47 job
job_begins [] is = tt
job_begins (c ∷ digits) is = is.0

mark_is : (query : List ℕ) → Begins 63 query → IsQuery query
mark_is [] begins = tt
mark_is (c ∷ rest) begins = begins

mark_again : (query : List ℕ) → IsQuery query → Begins 63 query
mark_again [] is = tt
mark_again (c ∷ rest) is = is

-- ---- from the account to the path

pub behind_is : (front bytes rest : List ℕ) → behind front bytes ≡ Some rest → bytes ≡ front ++ rest
behind_is front bytes rest said =
    let it = cond_some (bytes_eq (take (length front) bytes) front) (drop (length front) bytes) rest said in
    sym (take-append-drop (length front) bytes) ∙ ap₂ (λ (a b : List ℕ). a ++ b) ((bytes_eq-Decides (take (length front) bytes) front).0 it.0) it.1

record IsQueue (account rest : List ℕ) : Type 0 where
  pub job : List ℕ
  pub is : rest ≡ account ++ job
  pub account_is : IsName account
  pub job_is : IsJob job

both_pass : (b n : Bool) (name account : List ℕ) → cond b (cond n (Some name) None) None ≡ Some account → (b ≡ true) × (n ≡ true) × (name ≡ account)
both_pass true true name account said = (refl, refl, same_Some name account said)
both_pass true false name account said = absurd (none-some account said)
both_pass false n name account said = absurd (none-some account said)

queue_is : (account rest : List ℕ) → queue_in rest ≡ Some account → IsQueue account rest
queue_is account rest said =
    let it = both_pass (is_job_part (from 47 rest)) (is_name (before 47 rest)) (before 47 rest) account said in
    record {
      job = from 47 rest;
      is = sym (whole 47 rest) ∙ ap (λ (l : List ℕ). l ++ from 47 rest) it.2;
      account_is = subst IsName it.2 (name_is (before 47 rest) it.1);
      job_is = part_is (from 47 rest) (from_begins 47 rest) it.0;
    }

path_is : (target account rest : List ℕ) → behind queues (before 63 target) ≡ Some rest → IsQueue account rest → IsPathOf account target
path_is target account rest found queue = record {
  job = queue.job;
  query = from 63 target;
  is = sym (whole 63 target)
      ∙ ap (λ (l : List ℕ). l ++ from 63 target) (behind_is queues (before 63 target) rest found ∙ ap (λ (l : List ℕ). queues ++ l) queue.is)
      ∙ append_assoc queues (account ++ queue.job) (from 63 target)
      ∙ ap (λ (l : List ℕ). queues ++ l) (append_assoc account queue.job (from 63 target));
  account_is = queue.account_is;
  job_is = queue.job_is;
  query_is = mark_is (from 63 target) (from_begins 63 target);
}

pub named_by_path : NamedByPath
named_by_path target account said = option_and_then_some queue_in (behind queues (before 63 target)) account said (λ rest found is. path_is target account rest found (queue_is account rest is))

-- ---- from the path to the account

pub behind_again : (front rest : List ℕ) → behind front (front ++ rest) ≡ Some rest
behind_again front rest =
    ap (λ (b : Bool). cond b (Some (drop (length front) (front ++ rest))) None) ((bytes_eq-Decides (take (length front) (front ++ rest)) front).1 (take_at front rest (length front) refl))
    ∙ ap (λ (l : List ℕ). Some l) (drop_at front rest (length front) refl)

before_query : (account job query : List ℕ) → IsName account → IsJob job → IsQuery query → before 63 (queues ++ (account ++ (job ++ query))) ≡ queues ++ (account ++ job)
before_query account job query name part rest =
    before_past 63 queues (account ++ (job ++ query)) refl
    ∙ ap (λ (l : List ℕ). queues ++ l) (before_past 63 account (job ++ query) (name_free 63 no_mark account name)
    ∙ ap (λ (l : List ℕ). account ++ l) (before_past 63 job query (job_free job part)
    ∙ ap (λ (l : List ℕ). job ++ l) (before_begun 63 query (mark_again query rest))
    ∙ append-nil job))

before_job : (account job : List ℕ) → IsName account → IsJob job → before 47 (account ++ job) ≡ account
before_job account job name part =
    before_past 47 account job (name_free 47 no_slash account name)
    ∙ ap (λ (l : List ℕ). account ++ l) (before_begun 47 job (job_begins job part))
    ∙ append-nil account

queue_again : (account job : List ℕ) → IsName account → IsJob job → queue_in (account ++ job) ≡ Some account
queue_again account job name part =
    ap (λ (l : List ℕ). cond (is_job_part (drop (length l) (account ++ job))) (cond (is_name l) (Some l) None) None) (before_job account job name part)
    ∙ ap (λ (l : List ℕ). cond (is_job_part l) (cond (is_name account) (Some account) None) None) (drop_at account job (length account) refl)
    ∙ cond-true (is_job_part job) (cond (is_name account) (Some account) None) None (part_again job part)
    ∙ cond-true (is_name account) (Some account) None (name_again account name)

pub path_names : PathNames
path_names target account path =
    ap (λ (l : List ℕ). option_and_then queue_in (behind queues l)) (ap (before 63) path.is ∙ before_query account path.job path.query path.account_is path.job_is path.query_is)
    ∙ ap (option_and_then queue_in) (behind_again queues (account ++ path.job))
    ∙ queue_again account path.job path.account_is path.job_is

pub path_of_one : PathOfOne
path_of_one target one other path again = same_Some one other (sym (path_names target one path) ∙ path_names target other again)
