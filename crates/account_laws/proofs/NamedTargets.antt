-- What a request is for, as its attributes say.
use Rattle.std.proofs.Common.{◌≡◌, ◌≢◌, ℕ, zero, suc, ◌<◌, ◌≤◌, ℤ, pos, negsuc, Bool, true, false, true≢false, cond, not, ◌&&◌, ◌==◌, nat_le, nat_lt, codes, get_or, length, take, drop, List, [], ◌∷◌, ◌++◌, Option, Some, None, is_none, is_some, option_and_then, option_map, unwrap_or, refl, sym, ap, subst, ◌∙◌, arith}
use Rattle.std.specs.Char.{digit_value, is_ascii_digit}
use Rattle.std.specs.Fmt.{decimal}
use Rattle.std.specs.Int.{cast_signed, w32}
use Rattle.std.specs.List.{AllByRecursion, list_all}
use Rattle.std.specs.Str.{bytes_eq}
use Rattle.std.specs.Str.Parse.{AllDigits, digits_value}
use Rattle.std.proofs.lemmas.Bool.{and_from, and_parts, eq-eqb, le-leb, le-ltb, leb-true, lt-ltb, ltb-false, ltb-true, ne_eqb, not_from_false}
use Rattle.std.proofs.lemmas.Bool.Decides.{nat_tests}
use Rattle.std.proofs.lemmas.Fmt.{decimal-digits_value, digits_decimal, digits_value-decimal, first_decimal, length-decimal-le}
use Rattle.std.proofs.lemmas.List.{drop_at, take-append-drop, take_at}
use Rattle.std.proofs.lemmas.Option.{none-some, same_Some}
use Rattle.std.proofs.lemmas.Slice.Eq.{bytes_eq-Decides}
use Rattle.std.proofs.lemmas.Str.Parse.{IsNumeralModel}
use Rattle.ipp_coding.specs.Plain.{PlainAttribute, PlainValue}
use Rattle.account_rules.proofs.Digits.{digits_from}
use Rattle.account_asks.proofs.Digits.{few_below}
use Rattle.account_asks.specs.Checks.{named_target, target_of}
use Rattle.account_asks.specs.Operations.{is_for_job}
use Rattle.account_asks.specs.Requests.{bytes_under, lone_value, named, single_named, single_under}
use Rattle.account_asks.specs.Syntaxes.{integer_said}
use Rattle.account_asks.specs.Targets.{JobUri, NamedTarget, PlainTarget, PrinterUri, at_job, in_job, in_queue, is_job_number, job_id, job_in_path, job_number, job_numbered, job_target, job_uri_said, lone_integer, printer_uri_said, reached, starts_above_zero, target_in, with_job_id}
use Rattle.account_asks.specs.Targets as asks
use Rattle.account_asks.specs.Uris.{UriParts, parts_of}
use Rattle.account_asks.specs.declared.operation.Operation.{Operation}
use Rattle.account_laws.proofs.ServedIds.{by_test, for_job, for_job_again, whether}
use Rattle.account_laws.proofs.SpelledAttributes.{AreOf, Finds, IsOf, finds, found_again, integer_again, integer_four, integer_is, integer_tag, is_under, none_again, number_in, one_of}
use Rattle.account_laws.proofs.SpelledFields.{not_none}
use Rattle.account_laws.proofs.SpelledUris.{cut_again, cut_is}
use Rattle.account_laws.specs.NamedTargets.{IsFor, IsJobId, LeadsTo, NamesJob, NamesQueue, NamesTarget, uri_of}
use Rattle.account_laws.specs.RefusalMeanings.{HasLongTarget, HasNoTarget, LeadsElsewhere}
use Rattle.account_laws.specs.SpelledAttributes.{HasNone, HasValues, IsInteger, IsUnder, Says}
use Rattle.account_laws.specs.SpelledUris.{HasParts}
use Rattle.account_rules.specs.Limits.{last_next_job, longest_uri}
use Rattle.account_rules.specs.QueuePaths.{behind, queue_path, queues}

-- ---- an attribute with one value

pub single_is : (tag : ℕ) (a : PlainAttribute) (bytes : List ℕ) → single_under tag a ≡ Some bytes → (value : PlainValue) × ((a.values ≡ value ∷ []) × IsUnder tag value bytes)
single_is tag a bytes said = by (lone_value a.values) refl said
  where
    under : (value : PlainValue) → lone_value a.values ≡ Some value → (b : Bool) → (value.tag == tag) ≡ b → cond b (Some value.bytes) None ≡ Some bytes → (value : PlainValue) × ((a.values ≡ value ∷ []) × IsUnder tag value bytes)
    under value is true same said = (value, (one_of a.values value is, subst (IsUnder tag value) (same_Some value.bytes bytes said) (is_under tag value same)))
    under value is false same said = absurd (none-some bytes said)

    by : (o : Option PlainValue) → lone_value a.values ≡ o → option_and_then (bytes_under tag) o ≡ Some bytes → (value : PlainValue) × ((a.values ≡ value ∷ []) × IsUnder tag value bytes)
    by None is said = absurd (none-some bytes said)
    by (Some value) is said = under value is (value.tag == tag) refl said

says_so : (name : List ℕ) (tag : ℕ) (attributes : List PlainAttribute) (bytes : List ℕ) → AreOf attributes → single_named name tag attributes ≡ Some bytes → Says (IsUnder tag) name attributes bytes
says_so name tag attributes bytes are said = by (named name attributes) (finds name attributes are) said
  where
    by : (found : Option PlainAttribute) → Finds name attributes found → option_and_then (single_under tag) found ≡ Some bytes → Says (IsUnder tag) name attributes bytes
    by None found said = absurd (none-some bytes said)
    by (Some a) found said = let one = single_is tag a bytes said in record { value = one.0; is_there = subst (HasValues name attributes) one.1.0 found.0; is_said = one.1.1 }

-- and what it says is found
single_again : (name : List ℕ) (tag : ℕ) (attributes : List PlainAttribute) (bytes : List ℕ) → Says (IsUnder tag) name attributes bytes → single_named name tag attributes ≡ Some bytes
single_again name tag attributes bytes says =
    ap (option_and_then (single_under tag)) (found_again name attributes (says.value ∷ []) says.is_there)
    ∙ ap (λ (b : Bool). cond b (Some says.value.bytes) None) (eq-eqb says.value.tag tag says.is_said.0)
    ∙ ap (λ (l : List ℕ). Some l) says.is_said.1

-- ---- job-id

numbered_is : (n : ℕ) → nat_lt n last_next_job ≡ true → job_numbered (pos n) ≡ n
numbered_is n is = ap (λ (b : Bool). cond b n 0) is

job_id_of : (value : PlainValue) (z : ℤ) → IsOf value → integer_said value ≡ Some z → IsJobId value (job_numbered z)
job_id_of value (pos k) are said = record {
  tag = integer_tag value (pos k) said;
  four = integer_four value (pos k) said;
  to_last = low (nat_lt k last_next_job) refl;
  numbers = numbers (nat_lt k last_next_job) refl;
  in_range = λ n low is. ap job_numbered (same_Some (pos k) (pos n) (sym said ∙ integer_again value n is)) ∙ numbered_is n (lt-ltb n last_next_job (omega (arith, low)));
}
  where
    low : (b : Bool) → nat_lt k last_next_job ≡ b → cond b k 0 ≤ 999999
    low true is = omega (arith, ltb-true k last_next_job is)
    low false is = omega arith

    numbers : (b : Bool) → nat_lt k last_next_job ≡ b → cond b k 0 ≢ 0 → IsInteger value (cond b k 0)
    numbers true is some = integer_is value k are said
    numbers false is some = absurd (some refl)
job_id_of value (negsuc k) are said = record {
  tag = integer_tag value (negsuc k) said;
  four = integer_four value (negsuc k) said;
  to_last = omega arith;
  numbers = λ some. absurd (some refl);
  in_range = λ n low is. ap job_numbered (same_Some (negsuc k) (pos n) (sym said ∙ integer_again value n is)) ∙ numbered_is n (lt-ltb n last_next_job (omega (arith, low)));
}

record IsLoneInteger (values : List PlainValue) (z : ℤ) : Type 0 where
  pub value : PlainValue
  pub is : values ≡ value ∷ []
  pub said : integer_said value ≡ Some z

lone_is : (values : List PlainValue) (z : ℤ) → option_and_then integer_said (lone_value values) ≡ Some z → IsLoneInteger values z
lone_is values z said = by (lone_value values) refl said
  where
    by : (o : Option PlainValue) → lone_value values ≡ o → option_and_then integer_said o ≡ Some z → IsLoneInteger values z
    by None is said = absurd (none-some z said)
    by (Some value) is said = record { value = value; is = one_of values value is; said = said }

job_id_is : (attributes : List PlainAttribute) (job : ℕ) → AreOf attributes → job_id attributes ≡ Some job → Says IsJobId (codes "job-id") attributes job
job_id_is attributes job are said = by (named (codes "job-id") attributes) (finds (codes "job-id") attributes are) said
  where
    of_integer : (a : PlainAttribute) → Finds (codes "job-id") attributes (Some a) → (z : Option ℤ) → lone_integer a ≡ z → option_map job_numbered z ≡ Some job → Says IsJobId (codes "job-id") attributes job
    of_integer a found None is said = absurd (none-some job said)
    of_integer a found (Some z) is said =
        let one = lone_is a.values z is in
        let of = (subst (AllByRecursion IsOf) one.is found.1).0 in
        record { value = one.value; is_there = subst (HasValues (codes "job-id") attributes) one.is found.0; is_said = subst (IsJobId one.value) (same_Some (job_numbered z) job said) (job_id_of one.value z of one.said) }

    by : (found : Option PlainAttribute) → Finds (codes "job-id") attributes found → option_map job_numbered (option_and_then lone_integer found) ≡ Some job → Says IsJobId (codes "job-id") attributes job
    by None found said = absurd (none-some job said)
    by (Some a) found said = of_integer a found (lone_integer a) refl said

-- four bytes under 0x21 are an integer
integer_there : (value : PlainValue) → value.tag ≡ 0x21 → length value.bytes ≡ 4 → integer_said value ≡ Some (cast_signed w32 (number_in value.bytes))
integer_there value tag four =
    ap (λ (tag : ℕ). integer_said (record { tag = tag; bytes = value.bytes })) tag
    ∙ ap (λ (n : ℕ). cond (n == 4) (Some (cast_signed w32 (number_in value.bytes))) None) four

-- a value of an attribute is of bytes
value_of_bytes : (name : List ℕ) (attributes : List PlainAttribute) (value : PlainValue) → AreOf attributes → HasValues name attributes (value ∷ []) → IsOf value
value_of_bytes name attributes value are has = (subst (Finds name attributes) (found_again name attributes (value ∷ []) has) (finds name attributes are)).1.0

-- the number of a job that a value says
number_one : (value : PlainValue) (z : ℤ) (job : ℕ) → IsOf value → integer_said value ≡ Some z → IsJobId value job → job_numbered z ≡ job
number_one value (pos k) job of said is = by (nat_lt k last_next_job) refl
  where
    out : (n : ℕ) → (n ≢ 0 → IsInteger value n) → n ≤ 999999 → nat_lt k last_next_job ≡ false → 0 ≡ n
    out zero numbers to_last high = refl
    out (suc n) numbers to_last high =
        let same : Some (pos k) ≡ Some (pos (suc n)) = sym said ∙ integer_again value (suc n) (numbers (λ none. omega (arith, none))) in
        let equal : k ≡ suc n = cc in
        absurd (omega (arith, equal, to_last, ltb-false k last_next_job high))

    by : (low : Bool) → nat_lt k last_next_job ≡ low → cond low k 0 ≡ job
    by true low = sym (is.in_range k (omega (arith, ltb-true k last_next_job low)) (integer_is value k of said))
    by false high = out job is.numbers is.to_last high
number_one value (negsuc k) job of said is = out job is.numbers
  where
    out : (n : ℕ) → (n ≢ 0 → IsInteger value n) → 0 ≡ n
    out zero numbers = refl
    out (suc n) numbers =
        let same : Some (negsuc k) ≡ Some (pos (suc n)) = sym said ∙ integer_again value (suc n) (numbers (λ none. omega (arith, none))) in
        absurd (let never : ⊥ = cc in never)

job_id_again : (attributes : List PlainAttribute) (job : ℕ) → AreOf attributes → Says IsJobId (codes "job-id") attributes job → job_id attributes ≡ Some job
job_id_again attributes job are says =
    let value = says.value in
    let number = cast_signed w32 (number_in value.bytes) in
    let said = integer_there value says.is_said.tag says.is_said.four in
    ap (λ (found : Option PlainAttribute). option_map job_numbered (option_and_then lone_integer found)) (found_again (codes "job-id") attributes (value ∷ []) says.is_there)
    ∙ ap (option_map job_numbered) said
    ∙ ap (λ (n : ℕ). Some n) (number_one value number job (value_of_bytes (codes "job-id") attributes value are says.is_there) said says.is_said)

-- ---- which attributes name it

abbrev target_so : (for_job : Bool) → List PlainAttribute → Option NamedTarget
target_so for_job attributes = cond for_job (job_target attributes) (option_map (λ uri. PrinterUri uri 0) (printer_uri_said attributes))

abbrev NamesSo : (for_job : Bool) → List PlainAttribute → NamedTarget → Type 0
NamesSo true attributes target = NamesJob attributes target
NamesSo false attributes target = NamesQueue attributes target

module _ (attributes : List PlainAttribute) (are : AreOf attributes) where
  queue_named : (t : NamedTarget) (uri : Option (List ℕ)) → printer_uri_said attributes ≡ uri → option_map (λ uri. PrinterUri uri 0) uri ≡ Some t → NamesQueue attributes t
  queue_named t None is says = absurd (none-some t says)
  queue_named t (Some uri) is says = subst (NamesQueue attributes) (same_Some (PrinterUri uri 0) t says) (says_so (codes "printer-uri") 0x45 attributes uri are is, refl)

  by_id : (t : NamedTarget) (uri : List ℕ) → printer_uri_said attributes ≡ Some uri → (job : Option ℕ) → job_id attributes ≡ job → option_map (λ job. PrinterUri uri job) job ≡ Some t → NamesJob attributes t
  by_id t uri is None id says = absurd (none-some t says)
  by_id t uri is (Some job) id says = subst (NamesJob attributes) (same_Some (PrinterUri uri job) t says) (says_so (codes "printer-uri") 0x45 attributes uri are is, job_id_is attributes job are id)

  by_printer : (t : NamedTarget) (uri : Option (List ℕ)) → printer_uri_said attributes ≡ uri → option_and_then (with_job_id attributes) uri ≡ Some t → NamesJob attributes t
  by_printer t None is says = absurd (none-some t says)
  by_printer t (Some uri) is says = by_id t uri is (job_id attributes) refl says

  by_job : (t : NamedTarget) → HasNone (codes "printer-uri") attributes → (uri : Option (List ℕ)) → job_uri_said attributes ≡ uri → option_map (λ uri. JobUri uri) uri ≡ Some t → NamesJob attributes t
  by_job t none None is says = absurd (none-some t says)
  by_job t none (Some uri) is says = subst (NamesJob attributes) (same_Some (JobUri uri) t says) (none, says_so (codes "job-uri") 0x45 attributes uri are is)

  abbrev job_found : Option PlainAttribute → Option NamedTarget
  job_found found = cond (is_some found) (option_and_then (with_job_id attributes) (printer_uri_said attributes)) (option_map (λ uri. JobUri uri) (job_uri_said attributes))

  job_named : (t : NamedTarget) (found : Option PlainAttribute) → Finds (codes "printer-uri") attributes found → job_found found ≡ Some t → NamesJob attributes t
  job_named t None found says = by_job t found (job_uri_said attributes) refl says
  job_named t (Some a) found says = by_printer t (printer_uri_said attributes) refl says

  named_so : (for_job : Bool) (t : NamedTarget) → target_so for_job attributes ≡ Some t → NamesSo for_job attributes t
  named_so true t says = job_named t (named (codes "printer-uri") attributes) (finds (codes "printer-uri") attributes are) says
  named_so false t says = queue_named t (printer_uri_said attributes) refl says

  so_named : (for_job : Bool) (t : NamedTarget) → NamesSo for_job attributes t → target_so for_job attributes ≡ Some t
  so_named true (PrinterUri uri job) names =
      ap job_found (found_again (codes "printer-uri") attributes (names.0.value ∷ []) names.0.is_there)
      ∙ ap (option_and_then (with_job_id attributes)) (single_again (codes "printer-uri") 0x45 attributes uri names.0)
      ∙ ap (option_map (λ job. PrinterUri uri job)) (job_id_again attributes job are names.1)
  so_named true (JobUri uri) names =
      ap job_found (none_again (codes "printer-uri") attributes names.0)
      ∙ ap (option_map (λ uri. JobUri uri)) (single_again (codes "job-uri") 0x45 attributes uri names.1)
  so_named false (PrinterUri uri job) names =
      ap (option_map (λ uri. PrinterUri uri 0)) (single_again (codes "printer-uri") 0x45 attributes uri names.0)
      ∙ ap (λ (n : ℕ). Some (PrinterUri uri n)) (sym names.1)
  so_named false (JobUri uri) never = absurd never

  target_is : (operation : Operation) (t : NamedTarget) → target_in operation attributes ≡ Some t → NamesTarget operation attributes t
  unfolding target_in
  target_is operation t says = whether (is_for_job operation) (λ b. NamesSo b attributes t) (for_job operation) (for_job_again operation) (named_so (is_for_job operation) t says)

  target_again : (operation : Operation) (t : NamedTarget) → NamesTarget operation attributes t → target_in operation attributes ≡ Some t
  unfolding target_in
  target_again operation t names = so_named (is_for_job operation) t (by_test (is_for_job operation) (λ b. NamesSo b attributes t) (for_job operation) (for_job_again operation) names)

-- ---- where it leads

queue_leads : (account uri : List ℕ) (job : ℕ) (target : PlainTarget) → option_and_then (in_queue account job) (parts_of uri) ≡ Some target → LeadsTo account target.base target.job (PrinterUri uri job)
queue_leads account uri job target leads = by (parts_of uri) refl leads
  where
    within : (parts : UriParts) → parts_of uri ≡ Some parts → (b : Bool) → bytes_eq parts.path (queue_path account) ≡ b → cond b (Some (at_job parts.base job)) None ≡ Some target → LeadsTo account target.base target.job (PrinterUri uri job)
    within parts is true same leads =
        let it = same_Some (at_job parts.base job) target leads in
        let made = subst (HasParts uri parts.base) ((bytes_eq-Decides parts.path (queue_path account)).0 same) (cut_is uri parts is) in
        (subst (λ (base : List ℕ). HasParts uri base (queue_path account)) (ap (λ (t : PlainTarget). t.base) it) made, ap (λ (t : PlainTarget). t.job) (sym it))
    within parts is false other leads = absurd (none-some target leads)

    by : (parts : Option UriParts) → parts_of uri ≡ parts → option_and_then (in_queue account job) parts ≡ Some target → LeadsTo account target.base target.job (PrinterUri uri job)
    by None is leads = absurd (none-some target leads)
    by (Some parts) is leads = within parts is (bytes_eq parts.path (queue_path account)) refl leads

behind_is : (front bytes rest : List ℕ) → behind front bytes ≡ Some rest → bytes ≡ front ++ rest
behind_is front bytes rest said = by (bytes_eq (take (length front) bytes) front) refl said
  where
    by : (b : Bool) → bytes_eq (take (length front) bytes) front ≡ b → cond b (Some (drop (length front) bytes)) None ≡ Some rest → bytes ≡ front ++ rest
    by true same said = sym (take-append-drop (length front) bytes) ∙ ap (λ (l : List ℕ). l ++ drop (length front) bytes) ((bytes_eq-Decides (take (length front) bytes) front).0 same) ∙ ap (λ (l : List ℕ). front ++ l) (same_Some (drop (length front) bytes) rest said)
    by false other said = absurd (none-some rest said)

-- the number of a job as it is written
own : IsNumeralModel (AllDigits 10) (digits_value 10)
own = record { to = λ ds are. are; from = λ ds are. are; same = λ ds are. refl }

zero_written : decimal 0 ≡ 48 ∷ []
zero_written = decimal-digits_value own (48 ∷ []) (digits_from (48 ∷ []) refl) (omega arith) (λ _. refl) (omega arith)

-- the number of a job, as it is written in digits
record IsWritten (digits : List ℕ) (job : ℕ) : Type 0 where
  pub is : decimal job ≡ digits
  pub from_one : 1 ≤ job
  pub to_last : job ≤ 999999

written : (digits : List ℕ) → is_job_number digits ≡ true → IsWritten digits (digits_value 10 digits)
written digits is =
    let both = and_parts (starts_above_zero digits && list_all is_ascii_digit digits) (nat_le (length digits) 6) is in
    let front = and_parts (starts_above_zero digits) (list_all is_ascii_digit digits) both.0 in
    let few : length digits ≤ 6 = leb-true (length digits) 6 both.1 in
    let low = few_below digits front.1 few in
    let same : decimal (digits_value 10 digits) ≡ digits = decimal-digits_value own digits (digits_from digits front.1) (some digits front.0) (λ is. absurd (begins digits front.0 is)) (omega (arith, low)) in
    record { is = same; from_one = from_one (digits_value 10 digits) same front.0; to_last = omega (arith, low) }
  where
    some : (ds : List ℕ) → starts_above_zero ds ≡ true → 0 < length ds
    some [] above = absurd (true≢false (sym above))
    some (c ∷ rest) above = omega arith

    begins : (ds : List ℕ) → starts_above_zero ds ≡ true → get_or ds 0 0 ≡ 48 → ⊥
    begins [] above is = true≢false (sym above)
    begins (c ∷ rest) above is = true≢false (sym above ∙ ap (λ (n : ℕ). not (n == 48)) is)

    from_one : (n : ℕ) → decimal n ≡ digits → starts_above_zero digits ≡ true → 1 ≤ n
    from_one zero same above = absurd (true≢false (sym above ∙ ap starts_above_zero (sym same ∙ zero_written)))
    from_one (suc n) same above = omega arith

number_is : (digits : List ℕ) (job : ℕ) → job_number digits ≡ Some job → IsWritten digits job
number_is digits job said = by (is_job_number digits) refl said
  where
    by : (b : Bool) → is_job_number digits ≡ b → cond b (Some (digits_value 10 digits)) None ≡ Some job → IsWritten digits job
    by true is said = subst (IsWritten digits) (same_Some (digits_value 10 digits) job said) (written digits is)
    by false is said = absurd (none-some job said)

record IsPath (account path : List ℕ) (job : ℕ) : Type 0 where
  pub is : path ≡ codes "/ipp/print/" ++ (account ++ (codes "/" ++ decimal job))
  pub from_one : 1 ≤ job
  pub to_last : job ≤ 999999

path_is : (account path : List ℕ) (job : ℕ) → job_in_path account path ≡ Some job → IsPath account path job
path_is account path job said = by (behind queues path) refl said
  where
    third : (one two : List ℕ) → behind queues path ≡ Some one → behind account one ≡ Some two → (three : Option (List ℕ)) → behind (codes "/") two ≡ three → option_and_then job_number three ≡ Some job → IsPath account path job
    third one two first second None is said = absurd (none-some job said)
    third one two first second (Some digits) is said =
        let number = number_is digits job said in
        record {
          is = behind_is queues path one first
              ∙ ap (λ (l : List ℕ). queues ++ l) (behind_is account one two second ∙ ap (λ (l : List ℕ). account ++ l) (behind_is (codes "/") two digits is ∙ ap (λ (l : List ℕ). codes "/" ++ l) (sym number.is)));
          from_one = number.from_one;
          to_last = number.to_last;
        }

    second : (one : List ℕ) → behind queues path ≡ Some one → (two : Option (List ℕ)) → behind account one ≡ two → option_and_then job_number (option_and_then (behind (codes "/")) two) ≡ Some job → IsPath account path job
    second one first None is said = absurd (none-some job said)
    second one first (Some two) is said = third one two first is (behind (codes "/") two) refl said

    by : (one : Option (List ℕ)) → behind queues path ≡ one → option_and_then job_number (option_and_then (behind (codes "/")) (option_and_then (behind account) one)) ≡ Some job → IsPath account path job
    by None is said = absurd (none-some job said)
    by (Some one) is said = second one is (behind account one) refl said

job_leads : (account uri : List ℕ) (target : PlainTarget) → option_and_then (in_job account) (parts_of uri) ≡ Some target → LeadsTo account target.base target.job (JobUri uri)
job_leads account uri target leads = by (parts_of uri) refl leads
  where
    within : (parts : UriParts) → parts_of uri ≡ Some parts → (job : Option ℕ) → job_in_path account parts.path ≡ job → option_map (at_job parts.base) job ≡ Some target → LeadsTo account target.base target.job (JobUri uri)
    within parts is None path leads = absurd (none-some target leads)
    within parts is (Some job) path leads =
        let it = path_is account parts.path job path in
        let made = subst (HasParts uri parts.base) it.is (cut_is uri parts is) in
        subst (λ (p : PlainTarget). LeadsTo account p.base p.job (JobUri uri)) (same_Some (at_job parts.base job) target leads) (made, it.from_one, it.to_last)

    by : (parts : Option UriParts) → parts_of uri ≡ parts → option_and_then (in_job account) parts ≡ Some target → LeadsTo account target.base target.job (JobUri uri)
    by None is leads = absurd (none-some target leads)
    by (Some parts) is leads = within parts is (job_in_path account parts.path) refl leads

behind_again : (front rest : List ℕ) → behind front (front ++ rest) ≡ Some rest
behind_again front rest =
    ap (λ (b : Bool). cond b (Some (drop (length front) (front ++ rest))) None) ((bytes_eq-Decides (take (length front) (front ++ rest)) front).1 (take_at front rest (length front) refl))
    ∙ ap (λ (l : List ℕ). Some l) (drop_at front rest (length front) refl)

-- the number of a job is written in one to six digits
digit_again : (c : ℕ) → digit_value c < 10 → is_ascii_digit c ≡ true
digit_again c digit = grind (arith, nat_tests)

digits_again : (digits : List ℕ) → AllDigits 10 digits → list_all is_ascii_digit digits ≡ true
digits_again [] all = refl
digits_again (c ∷ digits) all = and_from (is_ascii_digit c) (list_all is_ascii_digit digits) (digit_again c all.0) (digits_again digits all.1)

starts_again : (digits : List ℕ) → 48 < get_or digits 0 0 → starts_above_zero digits ≡ true
starts_again [] above = absurd (omega (arith, above))
starts_again (c ∷ rest) above = not_from_false (c == 48) (ne_eqb c 48 (λ same. omega (arith, above, same)))

number_again : (job : ℕ) → 1 ≤ job → job ≤ 999999 → job_number (decimal job) ≡ Some (digits_value 10 (decimal job))
number_again job from to =
    let starts = starts_again (decimal job) (first_decimal job from (omega (arith, to))) in
    let digits = digits_again (decimal job) (digits_decimal own job (omega (arith, to))) in
    let few = le-leb (length (decimal job)) 6 (length-decimal-le 6 job (omega arith) (omega (arith, to)) (omega (arith, to))) in
    ap (λ (b : Bool). cond b (Some (digits_value 10 (decimal job))) None)
    (and_from (starts_above_zero (decimal job) && list_all is_ascii_digit (decimal job)) (nat_le (length (decimal job)) 6) (and_from (starts_above_zero (decimal job)) (list_all is_ascii_digit (decimal job)) starts digits) few)

path_again : (account : List ℕ) (job : ℕ) → 1 ≤ job → job ≤ 999999 → job_in_path account (codes "/ipp/print/" ++ (account ++ (codes "/" ++ decimal job))) ≡ Some (digits_value 10 (decimal job))
path_again account job from to =
    ap (λ (o : Option (List ℕ)). option_and_then job_number (option_and_then (behind (codes "/")) (option_and_then (behind account) o))) (behind_again queues (account ++ (codes "/" ++ decimal job)))
    ∙ ap (λ (o : Option (List ℕ)). option_and_then job_number (option_and_then (behind (codes "/")) o)) (behind_again account (codes "/" ++ decimal job))
    ∙ ap (option_and_then job_number) (behind_again (codes "/") (decimal job))
    ∙ number_again job from to

leads_to : (account : List ℕ) (t : NamedTarget) (target : PlainTarget) → reached account t ≡ Some target → LeadsTo account target.base target.job t
unfolding reached
leads_to account (PrinterUri uri job) target leads = queue_leads account uri job target leads
leads_to account (JobUri uri) target leads = job_leads account uri target leads

leads_again : (account : List ℕ) (t : NamedTarget) (base : List ℕ) (job : ℕ) → LeadsTo account base job t → reached account t ≡ Some (at_job base job)
unfolding reached
leads_again account (PrinterUri uri number) base job leads =
    ap (option_and_then (in_queue account number)) (cut_again uri base (queue_path account) leads.0)
    ∙ ap (λ (b : Bool). cond b (Some (at_job base number)) None) ((bytes_eq-Decides (queue_path account) (queue_path account)).1 refl)
    ∙ ap (λ (n : ℕ). Some (at_job base n)) (sym leads.1)
leads_again account (JobUri uri) base job leads =
    ap (option_and_then (in_job account)) (cut_again uri base (codes "/ipp/print/" ++ (account ++ (codes "/" ++ decimal job))) leads.0)
    ∙ ap (option_map (at_job base)) (path_again account job leads.1 leads.2)
    ∙ ap (λ (n : ℕ). Some (at_job base n)) (digits_value-decimal own job (omega (arith, leads.2)))

-- ---- what the checks of the target come to

same_uri : (t : NamedTarget) → asks.uri_of t ≡ uri_of t
same_uri (PrinterUri uri job) = refl
same_uri (JobUri uri) = refl

module _ (account : List ℕ) (operation : Operation) (attributes : List PlainAttribute) (are : AreOf attributes) where
  -- what passes them
  pub record IsReached (base : List ℕ) (job : ℕ) : Type 0 where
    pub named : is_none (target_in operation attributes) ≡ false
    pub short : nat_lt longest_uri (length (asks.uri_of (named_target operation attributes))) ≡ false
    pub leads : is_none (reached account (named_target operation attributes)) ≡ false
    pub is : target_of account operation attributes ≡ at_job base job

  same_target : (t : NamedTarget) → NamesTarget operation attributes t → named_target operation attributes ≡ t
  same_target t names = ap (λ (o : Option NamedTarget). unwrap_or o (JobUri [])) (target_again attributes are operation t names)

  same_length : (t : NamedTarget) → NamesTarget operation attributes t → asks.uri_of (named_target operation attributes) ≡ uri_of t
  same_length t names = ap asks.uri_of (same_target t names) ∙ same_uri t

  pub is_for : is_none (target_in operation attributes) ≡ false → nat_lt longest_uri (length (asks.uri_of (named_target operation attributes))) ≡ false → is_none (reached account (named_target operation attributes)) ≡ false
      → IsFor operation account attributes (target_of account operation attributes).base (target_of account operation attributes).job
  unfolding target_of
  is_for named_so short leads =
      let t = not_none (target_in operation attributes) named_so in
      let target = not_none (reached account (named_target operation attributes)) leads in
      let names = target_is attributes are operation t.0 t.1 in
      record {
        target = t.0;
        is_named = names;
        fits = subst (λ (uri : List ℕ). length uri ≤ 1023) (same_length t.0 names) (ltb-false longest_uri (length (asks.uri_of (named_target operation attributes))) short);
        leads = subst (λ (p : PlainTarget). LeadsTo account p.base p.job t.0) (sym (ap (λ (o : Option PlainTarget). unwrap_or o (at_job [] 0)) target.1)) (leads_to account t.0 target.0 (sym (ap (reached account) (same_target t.0 names)) ∙ target.1));
      }

  pub is_reached : (base : List ℕ) (job : ℕ) → IsFor operation account attributes base job → IsReached base job
  unfolding target_of
  is_reached base job it =
      let leads : reached account (named_target operation attributes) ≡ Some (at_job base job) = ap (reached account) (same_target it.target it.is_named) ∙ leads_again account it.target base job it.leads in
      record {
        named = ap is_none (target_again attributes are operation it.target it.is_named);
        short = ap (λ (uri : List ℕ). nat_lt longest_uri (length uri)) (same_length it.target it.is_named) ∙ le-ltb longest_uri (length (uri_of it.target)) it.fits;
        leads = ap is_none leads;
        is = ap (λ (o : Option PlainTarget). unwrap_or o (at_job [] 0)) leads;
      }

  -- where a check refuses, its word is true, and where it passes it is not
  pub has_no_target : is_none (target_in operation attributes) ≡ true → HasNoTarget operation attributes
  has_no_target none t names = true≢false (sym none ∙ ap is_none (target_again attributes are operation t names))

  pub has_target : is_none (target_in operation attributes) ≡ false → HasNoTarget operation attributes → ⊥
  has_target some none = let t = not_none (target_in operation attributes) some in none t.0 (target_is attributes are operation t.0 t.1)

  pub has_long_target : (t : NamedTarget) → target_in operation attributes ≡ Some t → nat_lt longest_uri (length (asks.uri_of (named_target operation attributes))) ≡ true → HasLongTarget operation attributes
  has_long_target t says long =
      let names = target_is attributes are operation t says in
      (t, names, subst (λ (uri : List ℕ). 1023 < length uri) (same_length t names) (ltb-true longest_uri (length (asks.uri_of (named_target operation attributes))) long))

  pub has_short_target : nat_lt longest_uri (length (asks.uri_of (named_target operation attributes))) ≡ false → HasLongTarget operation attributes → ⊥
  has_short_target short has = true≢false (sym (lt-ltb longest_uri (length (uri_of has.0)) has.2) ∙ ap (λ (uri : List ℕ). nat_lt longest_uri (length uri)) (sym (same_length has.0 has.1)) ∙ short)

  pub leads_elsewhere : (t : NamedTarget) → target_in operation attributes ≡ Some t → is_none (reached account (named_target operation attributes)) ≡ true → LeadsElsewhere account operation attributes
  leads_elsewhere t says none =
      let names = target_is attributes are operation t says in
      (t, names, λ base job leads. true≢false (sym none ∙ ap is_none (ap (reached account) (same_target t names) ∙ leads_again account t base job leads)))

  pub leads_home : is_none (reached account (named_target operation attributes)) ≡ false → LeadsElsewhere account operation attributes → ⊥
  leads_home some has =
      let p = not_none (reached account (named_target operation attributes)) some in
      has.2 p.0.base p.0.job (leads_to account has.0 p.0 (sym (ap (reached account) (same_target has.0 has.1)) ∙ p.1))
