-- What the operation attributes say, as they are read.
use Rattle.std.proofs.Common.{◌≡◌, ◌≢◌, ◌⊎◌, inl, inr, ℕ, suc, ◌≤◌, Bool, true, false, true≢false, cond, not, ◌&&◌, ◌==◌, nat_le, codes, length, map, List, [], ◌∷◌, ◌++◌, Option, Some, None, is_none, is_some, option_and_then, option_map, unwrap_or, refl, sym, ap, subst, ◌∙◌, arith}
use Rattle.std.specs.List.{AllByRecursion, find, list_all, position}
use Rattle.std.specs.Str.{bytes_eq, str_eq_ignore_ascii_case}
use Rattle.std.proofs.lemmas.Bool.{and_parts, eqb-false, eqb-true, le-leb, leb-true}
use Rattle.std.proofs.lemmas.Option.{none-some, same_Some}
use Rattle.std.proofs.lemmas.Slice.Eq.{bytes_eq-Decides}
use Rattle.ipp_coding.specs.Plain.{PlainAttribute, PlainGroup, PlainValue}
use Rattle.ipp_coding.specs.Values.{bool_said}
use Rattle.account_asks.specs.Checks.{is_empty, some_attribute}
use Rattle.account_asks.specs.Fields.{format_said, is_none_if_said, names_of, password, unless_empty, which_named, without_parameters}
use Rattle.account_asks.specs.Requests.{job_group_of, lone_value, named, up_to}
use Rattle.account_asks.specs.Syntaxes.{count_said, name_said, positive_said}
use Rattle.account_asks.specs.Templates.{copies, copies_said, up_to_most}
use Rattle.account_asks.specs.declared.ask.Which.{Which}
use Rattle.account_asks.specs.declared.ask.Which.TheVariants.{NotCompleted, Completed}
use Rattle.account_laws.proofs.SpelledAttributes.{AreGroupsOf, AreOf, Finds, IsOf, boolean_is, count_is, finds, found_again, is_under, name_is, none_again, one_of, positive_again, positive_said_is}
use Rattle.account_laws.specs.SpelledAttributes.{AreOfJob, HasNone, HasValues, IsBoolean, IsInteger, IsLimit, IsMediaType, IsName, IsUnder, IsWhich, Says, SaysOr, media_type_of, which_keyword}
use Rattle.account_laws.specs.SpelledFields.{NoneIfSaid, SaysName, SaysNames, SaysNone, or_untitled}
use Rattle.account_laws.specs.SpelledTemplates.{AreCopies, SaysCopies}
use Rattle.account_rules.specs.Formats.{format_named, formats, media_type, names_format}
use Rattle.account_rules.specs.Limits.{most_copies}
use Rattle.account_rules.specs.declared.format.Format.{Format}
use Rattle.account_rules.specs.declared.format.Format.TheVariants.{OctetStream, Pdf, PostScript, Jpeg, PwgRaster, Urf, Plain}
use Rattle.account_asks.proofs.UriCuts.{place_of}

-- ---- the value that is read

abbrev pub value_seen : (found : Option PlainAttribute) → Option PlainValue
value_seen found = option_and_then lone_value (option_map (λ (a : PlainAttribute). a.values) found)

-- it is there, well, or may be absent
abbrev pub lone_test : (test : PlainValue → Bool) → Option PlainValue → Bool
lone_test test None = false
lone_test test (Some value) = test value

abbrev pub is_well_so : (test : PlainValue → Bool) (may_lack : Bool) → Option PlainAttribute → Bool
is_well_so test may_lack None = may_lack
is_well_so test may_lack (Some a) = lone_test test (lone_value a.values)

-- each value is a keyword, or there is none
abbrev pub are_keywords : Option PlainAttribute → Bool
are_keywords None = true
are_keywords (Some a) = list_all (λ (value : PlainValue). value.tag == 0x44) a.values

-- what describes a job, a document and a list is well
pub record JobWell (attributes : List PlainAttribute) : Type 0 where
  pub name : is_well_so (λ value. is_some (name_said value)) true (named (codes "job-name") attributes) ≡ true
  pub fidelity : is_well_so (λ value. is_some (bool_said value)) true (named (codes "ipp-attribute-fidelity") attributes) ≡ true
  pub impressions : is_well_so (λ value. is_some (count_said value)) true (named (codes "job-impressions") attributes) ≡ true
  pub password : is_well_so (λ (value : PlainValue). value.tag == 0x30) true (named (codes "job-password") attributes) ≡ true
  pub encryption : is_well_so (λ (value : PlainValue). value.tag == 0x44) true (named (codes "job-password-encryption") attributes) ≡ true

pub record DocumentWell (attributes : List PlainAttribute) : Type 0 where
  pub format : is_well_so (λ (value : PlainValue). value.tag == 0x49) true (named (codes "document-format") attributes) ≡ true
  pub compression : is_well_so (λ (value : PlainValue). value.tag == 0x44) true (named (codes "compression") attributes) ≡ true

pub record ListWell (attributes : List PlainAttribute) : Type 0 where
  pub which : is_well_so (λ (value : PlainValue). value.tag == 0x44) true (named (codes "which-jobs") attributes) ≡ true
  pub limit : is_well_so (λ value. is_some (positive_said value)) true (named (codes "limit") attributes) ≡ true
  pub mine : is_well_so (λ value. is_some (bool_said value)) true (named (codes "my-jobs") attributes) ≡ true

-- it has one value, which passes its test; or it is absent, and may be
pub record Present (test : PlainValue → Bool) (name : List ℕ) (attributes : List PlainAttribute) : Type 0 where
  pub value : PlainValue
  pub is_there : HasValues name attributes (value ∷ [])
  pub is_of : IsOf value
  pub passes : test value ≡ true
  pub is_read : value_seen (named name attributes) ≡ Some value

pub record Missing (may_lack : Bool) (name : List ℕ) (attributes : List PlainAttribute) : Type 0 where
  pub none : HasNone name attributes
  pub may : may_lack ≡ true
  pub is_read : value_seen (named name attributes) ≡ None

lone_one : (test : PlainValue → Bool) (values : List PlainValue) → lone_test test (lone_value values) ≡ true → (value : PlainValue) × ((lone_value values ≡ Some value) × (test value ≡ true))
lone_one test values passes = by (lone_value values) refl passes
  where
    by : (o : Option PlainValue) → lone_value values ≡ o → lone_test test o ≡ true → (value : PlainValue) × ((lone_value values ≡ Some value) × (test value ≡ true))
    by None is passes = absurd (true≢false (sym passes))
    by (Some value) is passes = (value, (is, passes))

pub there_or_not : (may_lack : Bool) (test : PlainValue → Bool) (name : List ℕ) (attributes : List PlainAttribute) → AreOf attributes → is_well_so test may_lack (named name attributes) ≡ true → Present test name attributes ⊎ Missing may_lack name attributes
there_or_not may_lack test name attributes are well = by (named name attributes) refl (finds name attributes are) well
  where
    by : (found : Option PlainAttribute) → named name attributes ≡ found → Finds name attributes found → is_well_so test may_lack found ≡ true → Present test name attributes ⊎ Missing may_lack name attributes
    by None is found well = inr (record { none = found; may = well; is_read = ap value_seen is })
    by (Some a) is found well =
        let one = lone_one test a.values well in
        let same = one_of a.values one.0 one.1.0 in
        inl (record {
          value = one.0;
          is_there = subst (HasValues name attributes) same found.0;
          is_of = (subst (AllByRecursion IsOf) same found.1).0;
          passes = one.1.1;
          is_read = ap value_seen is ∙ one.1.0;
        })

pub some_of : {A : Type 0} (o : Option A) → is_some o ≡ true → (x : A) × (o ≡ Some x)
some_of None is = absurd (true≢false (sym is))
some_of (Some x) is = (x, refl)

pub not_none : {A : Type 0} (o : Option A) → is_none o ≡ false → (x : A) × (o ≡ Some x)
not_none None is = absurd (true≢false is)
not_none (Some x) is = (x, refl)

-- ---- a value of one kind, or none

module _ {A : Type 0} (IsSaid : PlainValue → A → Type 0) (said : PlainValue → Option A) (absent : A) (test : PlainValue → Bool) (passing : (value : PlainValue) → test value ≡ true → (x : A) × (said value ≡ Some x)) (saying : (value : PlainValue) (x : A) → IsOf value → test value ≡ true → said value ≡ Some x → IsSaid value x) where
  says_or : (name : List ℕ) (attributes : List PlainAttribute) → AreOf attributes → is_well_so test true (named name attributes) ≡ true → SaysOr IsSaid absent name attributes (unwrap_or (option_and_then said (value_seen (named name attributes))) absent)
  says_or name attributes are well = by (there_or_not true test name attributes are well)
    where
      by : Present test name attributes ⊎ Missing true name attributes → SaysOr IsSaid absent name attributes (unwrap_or (option_and_then said (value_seen (named name attributes))) absent)
      by (inl there) =
          let it = passing there.value there.passes in
          subst (SaysOr IsSaid absent name attributes) (sym (ap (λ (o : Option PlainValue). unwrap_or (option_and_then said o) absent) there.is_read ∙ ap (λ (o : Option A). unwrap_or o absent) it.1))
          (inl (record { value = there.value; is_there = there.is_there; is_said = saying there.value it.0 there.is_of there.passes it.1 }))
      by (inr missing) = inr (missing.none, ap (λ (o : Option PlainValue). unwrap_or (option_and_then said o) absent) missing.is_read)

-- ---- the bytes of a value

abbrev pub bytes_in : (name : List ℕ) → List PlainAttribute → Option (List ℕ)
bytes_in name attributes = option_map (λ (value : PlainValue). value.bytes) (value_seen (named name attributes))

-- ---- job-name

abbrev pub name_in : List PlainAttribute → List ℕ
name_in attributes = unwrap_or (option_and_then unless_empty (option_and_then name_said (value_seen (named (codes "job-name") attributes)))) (codes "untitled")

pub untitled_or : (text : List ℕ) → unwrap_or (unless_empty text) (codes "untitled") ≡ or_untitled text
untitled_or [] = refl
untitled_or (c ∷ rest) = refl

given_fits : (given : List ℕ) → length (or_untitled given) ≤ 255 → length given ≤ 255
given_fits [] fits = omega arith
given_fits (c ∷ rest) fits = fits

-- the name that is said, empty where none is
pub record IsGiven (attributes : List PlainAttribute) : Type 0 where
  pub given : List ℕ
  pub is_given : SaysOr IsName [] (codes "job-name") attributes given
  pub is : name_in attributes ≡ or_untitled given

pub name_given : (attributes : List PlainAttribute) → AreOf attributes → JobWell attributes → IsGiven attributes
name_given attributes are well = by (there_or_not true (λ value. is_some (name_said value)) (codes "job-name") attributes are well.name)
  where
    by : Present (λ value. is_some (name_said value)) (codes "job-name") attributes ⊎ Missing true (codes "job-name") attributes → IsGiven attributes
    by (inl there) =
        let text = some_of (name_said there.value) there.passes in
        record {
          given = text.0;
          is_given = inl (record { value = there.value; is_there = there.is_there; is_said = name_is there.value text.0 there.is_of text.1 });
          is = ap (λ (o : Option PlainValue). unwrap_or (option_and_then unless_empty (option_and_then name_said o)) (codes "untitled")) there.is_read
              ∙ ap (λ (o : Option (List ℕ)). unwrap_or (option_and_then unless_empty o) (codes "untitled")) text.1
              ∙ untitled_or text.0;
        }
    by (inr missing) = record {
      given = [];
      is_given = inr (missing.none, refl);
      is = ap (λ (o : Option PlainValue). unwrap_or (option_and_then unless_empty (option_and_then name_said o)) (codes "untitled")) missing.is_read;
    }

pub is_named : (attributes : List PlainAttribute) → AreOf attributes → JobWell attributes → length (name_in attributes) ≤ 255 → SaysName attributes (name_in attributes)
is_named attributes are well short =
    let it = name_given attributes are well in
    record { given = it.given; is_given = it.is_given; fits = given_fits it.given (subst (λ (name : List ℕ). length name ≤ 255) it.is short); is = it.is }

-- ---- job-password

abbrev pub password_in : List PlainAttribute → List ℕ
password_in attributes = unwrap_or (bytes_in (codes "job-password") attributes) []

abbrev bytes_said : PlainValue → Option (List ℕ)
bytes_said value = Some value.bytes

said_bytes : (tag : ℕ) (value : PlainValue) (bytes : List ℕ) → IsOf value → (value.tag == tag) ≡ true → bytes_said value ≡ Some bytes → IsUnder tag value bytes
said_bytes tag value bytes are same said = subst (IsUnder tag value) (same_Some value.bytes bytes said) (is_under tag value same)

pub mapped : {A B : Type 0} (f : A → B) (o : Option A) → option_map f o ≡ option_and_then (λ (x : A). Some (f x)) o
mapped f None = refl
mapped f (Some x) = refl

pub password_said : (attributes : List PlainAttribute) → AreOf attributes → JobWell attributes → SaysOr (IsUnder 0x30) [] (codes "job-password") attributes (password_in attributes)
password_said attributes are well =
    subst (SaysOr (IsUnder 0x30) [] (codes "job-password") attributes)
    (sym (ap (λ (o : Option (List ℕ)). unwrap_or o []) (mapped (λ (value : PlainValue). value.bytes) (value_seen (named (codes "job-password") attributes)))))
    (says_or (IsUnder 0x30) bytes_said [] (λ (value : PlainValue). value.tag == 0x30) (λ value _. (value.bytes, refl)) (said_bytes 0x30) (codes "job-password") attributes are well.password)

-- ---- job-impressions

abbrev pub impressions_in : List PlainAttribute → ℕ
impressions_in attributes = unwrap_or (option_and_then count_said (value_seen (named (codes "job-impressions") attributes))) 0

pub impressions_said : (attributes : List PlainAttribute) → AreOf attributes → JobWell attributes → SaysOr IsInteger 0 (codes "job-impressions") attributes (impressions_in attributes)
impressions_said attributes are well = says_or IsInteger count_said 0 (λ value. is_some (count_said value)) (λ value passes. some_of (count_said value) passes) (λ value n of _ said. count_is value n of said) (codes "job-impressions") attributes are well.impressions

-- ---- ipp-attribute-fidelity, my-jobs and last-document

abbrev pub boolean_in : (name : List ℕ) → List PlainAttribute → Bool
boolean_in name attributes = unwrap_or (option_and_then bool_said (value_seen (named name attributes))) false

pub boolean_or : (name : List ℕ) (attributes : List PlainAttribute) → AreOf attributes → is_well_so (λ value. is_some (bool_said value)) true (named name attributes) ≡ true → SaysOr IsBoolean false name attributes (boolean_in name attributes)
boolean_or = says_or IsBoolean bool_said false (λ value. is_some (bool_said value)) (λ value passes. some_of (bool_said value) passes) (λ value b of _ said. boolean_is value b said)

pub insisted : (insists : Bool) (unsupported : List PlainAttribute) → (insists && some_attribute unsupported) ≡ false → insists ≡ true → unsupported ≡ []
insisted insists [] check is = refl
insisted true (a ∷ more) check is = absurd (true≢false check)
insisted false (a ∷ more) check is = absurd (true≢false (sym is))

pub last_said : (attributes : List PlainAttribute) → AreOf attributes → is_well_so (λ value. is_some (bool_said value)) false (named (codes "last-document") attributes) ≡ true → Says IsBoolean (codes "last-document") attributes (boolean_in (codes "last-document") attributes)
last_said attributes are well = by (there_or_not false (λ value. is_some (bool_said value)) (codes "last-document") attributes are well)
  where
    by : Present (λ value. is_some (bool_said value)) (codes "last-document") attributes ⊎ Missing false (codes "last-document") attributes → Says IsBoolean (codes "last-document") attributes (boolean_in (codes "last-document") attributes)
    by (inl there) =
        let it = some_of (bool_said there.value) there.passes in
        record {
          value = there.value;
          is_there = there.is_there;
          is_said = subst (IsBoolean there.value) (sym (ap (λ (o : Option PlainValue). unwrap_or (option_and_then bool_said o) false) there.is_read ∙ ap (λ (o : Option Bool). unwrap_or o false) it.1)) (boolean_is there.value it.0 it.1);
        }
    by (inr missing) = absurd (true≢false (sym missing.may))

-- ---- job-password-encryption and compression

pub none_said : (name : List ℕ) (attributes : List PlainAttribute) → AreOf attributes → is_well_so (λ (value : PlainValue). value.tag == 0x44) true (named name attributes) ≡ true → is_none_if_said (bytes_in name attributes) ≡ true → NoneIfSaid name attributes
none_said name attributes are well none = by (there_or_not true (λ (value : PlainValue). value.tag == 0x44) name attributes are well)
  where
    by : Present (λ (value : PlainValue). value.tag == 0x44) name attributes ⊎ Missing true name attributes → NoneIfSaid name attributes
    by (inl there) =
        let tag = eqb-true there.value.tag 0x44 there.passes in
        let same = ap (λ (o : Option PlainValue). is_none_if_said (option_map (λ (value : PlainValue). value.bytes) o)) (sym there.is_read) ∙ none in
        let bytes = (bytes_eq-Decides there.value.bytes (codes "none")).0 same in
        let one : there.value ∷ [] ≡ record { tag = 0x44; bytes = codes "none" } ∷ [] = λ i. record { tag = tag i; bytes = bytes i } ∷ [] in
        inr (subst (HasValues name attributes) one there.is_there)
    by (inr missing) = inl missing.none

empty_is : (password : List ℕ) → (not (is_empty password) && true) ≡ false → password ≡ []
empty_is [] none = refl
empty_is (c ∷ rest) none = absurd (true≢false none)

-- where there is a password, it is said
pub encryption_told : (attributes : List PlainAttribute) (password : List ℕ) → NoneIfSaid (codes "job-password-encryption") attributes → (not (is_empty password) && is_none (bytes_in (codes "job-password-encryption") attributes)) ≡ false
    → password ≢ [] → SaysNone (codes "job-password-encryption") attributes
encryption_told attributes password (inr says) check some = says
encryption_told attributes password (inl none) check some =
    let absent : is_none (bytes_in (codes "job-password-encryption") attributes) ≡ true =
    ap (λ (found : Option PlainAttribute). is_none (option_map (λ (value : PlainValue). value.bytes) (value_seen found))) (none_again (codes "job-password-encryption") attributes none) in
    absurd (some (empty_is password (ap (λ (b : Bool). not (is_empty password) && b) (sym absent) ∙ check)))

-- ---- limit

abbrev pub limit_in : List PlainAttribute → Option ℕ
limit_in attributes = option_and_then positive_said (value_seen (named (codes "limit") attributes))

abbrev pub limit_of : PlainValue → Option (Option ℕ)
limit_of value = option_map (λ (n : ℕ). Some n) (positive_said value)

pub limit_as : (o : Option PlainValue) → option_and_then positive_said o ≡ unwrap_or (option_and_then limit_of o) None
limit_as None = refl
limit_as (Some value) = by (positive_said value)
  where
    by : (n : Option ℕ) → n ≡ unwrap_or (option_map (λ (n : ℕ). Some n) n) None
    by None = refl
    by (Some n) = refl

limit_passes : (value : PlainValue) → is_some (positive_said value) ≡ true → (x : Option ℕ) × (limit_of value ≡ Some x)
limit_passes value passes = let it = some_of (positive_said value) passes in (Some it.0, ap (option_map (λ (n : ℕ). Some n)) it.1)

limit_is : (value : PlainValue) (x : Option ℕ) → IsOf value → is_some (positive_said value) ≡ true → limit_of value ≡ Some x → IsLimit value x
limit_is value x are passes said =
    let it = some_of (positive_said value) passes in
    subst (IsLimit value) (same_Some (Some it.0) x (sym (ap (option_map (λ (n : ℕ). Some n)) it.1) ∙ said)) (positive_said_is value it.0 are it.1)

pub limit_said : (attributes : List PlainAttribute) → AreOf attributes → ListWell attributes → SaysOr IsLimit None (codes "limit") attributes (limit_in attributes)
limit_said attributes are well =
    subst (SaysOr IsLimit None (codes "limit") attributes) (sym (limit_as (value_seen (named (codes "limit") attributes))))
    (says_or IsLimit limit_of None (λ value. is_some (positive_said value)) limit_passes limit_is (codes "limit") attributes are well.limit)

-- ---- document-format

abbrev pub format_in : List PlainAttribute → Option Format
format_in attributes = format_said (bytes_in (codes "document-format") attributes)

-- the first of a list that passes a test passes it
found_passes : {X : Type 0} (test : X → Bool) (xs : List X) (x : X) → find test xs ≡ Some x → test x ≡ true
found_passes test [] x is = absurd (none-some x is)
found_passes {X = X} test (y ∷ xs) x is = by (found_passes test xs x) (test y) refl is
  where
    by : (find test xs ≡ Some x → test x ≡ true) → (b : Bool) → test y ≡ b → cond b (Some y) (find test xs) ≡ Some x → test x ≡ true
    by rest true passes is = ap test (sym (same_Some y x is)) ∙ passes
    by rest false passes is = rest is

-- the bytes up to the first ";", and from it on
record IsCut (bytes : List ℕ) (named : List ℕ) : Type 0 where
  pub parameters : List ℕ
  pub parts : bytes ≡ named ++ parameters
  pub goes_on : AllByRecursion (λ (c : ℕ). c ≢ 59) named
  pub is_behind : (parameters ≡ []) ⊎ ((rest : List ℕ) × (parameters ≡ 59 ∷ rest))

cut_at : (bytes : List ℕ) → IsCut bytes (without_parameters bytes)
cut_at [] = record { parameters = []; parts = refl; goes_on = tt; is_behind = inl refl }
cut_at (c ∷ bytes) = subst (λ (o : Option ℕ). IsCut (c ∷ bytes) (up_to o (c ∷ bytes))) (sym (place_of (λ c. c == 59) c bytes)) (by (c == 59) refl (position (λ c. c == 59) bytes) (cut_at bytes))
  where
    by : (b : Bool) → (c == 59) ≡ b → (place : Option ℕ) → IsCut bytes (up_to place bytes) → IsCut (c ∷ bytes) (up_to (cond b (Some 0) (option_map (λ p. suc p) place)) (c ∷ bytes))
    by true is place rest = record { parameters = c ∷ bytes; parts = refl; goes_on = tt; is_behind = inr (bytes, ap (λ (n : ℕ). n ∷ bytes) (eqb-true c 59 is)) }
    by false is None rest = record { parameters = rest.parameters; parts = ap (λ (l : List ℕ). c ∷ l) rest.parts; goes_on = (eqb-false c 59 is, rest.goes_on); is_behind = rest.is_behind }
    by false is (Some p) rest = record { parameters = rest.parameters; parts = ap (λ (l : List ℕ). c ∷ l) rest.parts; goes_on = (eqb-false c 59 is, rest.goes_on); is_behind = rest.is_behind }

pub same_media_type : (format : Format) → media_type format ≡ media_type_of format
same_media_type OctetStream = refl
same_media_type Pdf = refl
same_media_type PostScript = refl
same_media_type Jpeg = refl
same_media_type PwgRaster = refl
same_media_type Urf = refl
same_media_type Plain = refl

pub media_type_is : (value : PlainValue) (format : Format) → (value.tag == 0x49) ≡ true → format_named (without_parameters value.bytes) ≡ Some format → IsMediaType value format
media_type_is value format tag named =
    let cut = cut_at value.bytes in
    record {
      named = without_parameters value.bytes;
      parameters = cut.parameters;
      is = ((is_under 0x49 value tag).0, cut.parts);
      goes_on = cut.goes_on;
      is_behind = cut.is_behind;
      names = ap (str_eq_ignore_ascii_case (without_parameters value.bytes)) (sym (same_media_type format)) ∙ found_passes (names_format (without_parameters value.bytes)) formats format named;
    }

pub format_is_said : (attributes : List PlainAttribute) → AreOf attributes → DocumentWell attributes → is_none (format_in attributes) ≡ false → SaysOr IsMediaType OctetStream (codes "document-format") attributes (unwrap_or (format_in attributes) OctetStream)
format_is_said attributes are well known = by (there_or_not true (λ (value : PlainValue). value.tag == 0x49) (codes "document-format") attributes are well.format)
  where
    by : Present (λ (value : PlainValue). value.tag == 0x49) (codes "document-format") attributes ⊎ Missing true (codes "document-format") attributes → SaysOr IsMediaType OctetStream (codes "document-format") attributes (unwrap_or (format_in attributes) OctetStream)
    by (inl there) =
        let it = not_none (format_in attributes) known in
        let named_so = sym (ap (λ (o : Option PlainValue). format_said (option_map (λ (value : PlainValue). value.bytes) o)) there.is_read) ∙ it.1 in
        subst (SaysOr IsMediaType OctetStream (codes "document-format") attributes) (sym (ap (λ (o : Option Format). unwrap_or o OctetStream) it.1))
        (inl (record { value = there.value; is_there = there.is_there; is_said = media_type_is there.value it.0 there.passes named_so }))
    by (inr missing) = inr (missing.none, ap (λ (o : Option PlainValue). unwrap_or (format_said (option_map (λ (value : PlainValue). value.bytes) o)) OctetStream) missing.is_read)

-- ---- which-jobs

abbrev pub which_in : List PlainAttribute → Option Which
which_in attributes = which_named (bytes_in (codes "which-jobs") attributes)

pub which_is : (keyword : List ℕ) (which : Which) → which_named (Some keyword) ≡ Some which → keyword ≡ which_keyword which
which_is keyword which named = by (bytes_eq keyword (codes "completed")) refl (bytes_eq keyword (codes "not-completed")) refl named
  where
    by : (ended : Bool) → bytes_eq keyword (codes "completed") ≡ ended → (other : Bool) → bytes_eq keyword (codes "not-completed") ≡ other → cond ended (Some Completed) (cond other (Some NotCompleted) None) ≡ Some which → keyword ≡ which_keyword which
    by true is other isnt named = (bytes_eq-Decides keyword (codes "completed")).0 is ∙ ap which_keyword (same_Some Completed which named)
    by false is true isnt named = (bytes_eq-Decides keyword (codes "not-completed")).0 isnt ∙ ap which_keyword (same_Some NotCompleted which named)
    by false is false isnt named = absurd (none-some which named)

pub which_said : (attributes : List PlainAttribute) → AreOf attributes → ListWell attributes → is_none (which_in attributes) ≡ false → SaysOr IsWhich NotCompleted (codes "which-jobs") attributes (unwrap_or (which_in attributes) NotCompleted)
which_said attributes are well known = by (there_or_not true (λ (value : PlainValue). value.tag == 0x44) (codes "which-jobs") attributes are well.which)
  where
    by : Present (λ (value : PlainValue). value.tag == 0x44) (codes "which-jobs") attributes ⊎ Missing true (codes "which-jobs") attributes → SaysOr IsWhich NotCompleted (codes "which-jobs") attributes (unwrap_or (which_in attributes) NotCompleted)
    by (inl there) =
        let it = not_none (which_in attributes) known in
        let named_so = sym (ap (λ (o : Option PlainValue). which_named (option_map (λ (value : PlainValue). value.bytes) o)) there.is_read) ∙ it.1 in
        subst (SaysOr IsWhich NotCompleted (codes "which-jobs") attributes) (sym (ap (λ (o : Option Which). unwrap_or o NotCompleted) it.1))
        (inl (record { value = there.value; is_there = there.is_there; is_said = ((is_under 0x44 there.value there.passes).0, which_is there.value.bytes it.0 named_so) }))
    by (inr missing) = inr (missing.none, ap (λ (o : Option PlainValue). unwrap_or (which_named (option_map (λ (value : PlainValue). value.bytes) o)) NotCompleted) missing.is_read)

-- ---- requested-attributes

abbrev pub wanted_in : List PlainAttribute → Option (List (List ℕ))
wanted_in attributes = option_map names_of (option_map (λ (a : PlainAttribute). a.values) (named (codes "requested-attributes") attributes))

abbrev pub keyword_of : List ℕ → PlainValue
keyword_of name = record { tag = 0x44; bytes = name }

keywords_are : (values : List PlainValue) → list_all (λ (value : PlainValue). value.tag == 0x44) values ≡ true → values ≡ map keyword_of (names_of values)
keywords_are [] all = refl
keywords_are (value ∷ values) all =
    let both = and_parts (value.tag == 0x44) (list_all (λ (value : PlainValue). value.tag == 0x44) values) all in
    let first = eqb-true value.tag 0x44 both.0 in
    let rest = keywords_are values both.1 in
    λ i. record { tag = first i; bytes = value.bytes } ∷ rest i

pub wanted_said : (attributes : List PlainAttribute) → AreOf attributes → are_keywords (named (codes "requested-attributes") attributes) ≡ true → SaysNames attributes (wanted_in attributes)
wanted_said attributes are well = by (named (codes "requested-attributes") attributes) (finds (codes "requested-attributes") attributes are) well
  where
    by : (found : Option PlainAttribute) → Finds (codes "requested-attributes") attributes found → are_keywords found ≡ true → SaysNames attributes (option_map names_of (option_map (λ (a : PlainAttribute). a.values) found))
    by None found all = found
    by (Some a) found all = subst (HasValues (codes "requested-attributes") attributes) (keywords_are a.values all) found.0

-- ---- copies

copies_read : (attributes : List PlainAttribute) → copies attributes ≡ unwrap_or (option_and_then copies_said (named (codes "copies") attributes)) 1
unfolding copies
copies_read attributes = refl

pub record AreSaid (values : List PlainValue) (n : ℕ) : Type 0 where
  pub value : PlainValue
  pub is : values ≡ value ∷ []
  pub are : AreCopies value n

pub are_said : (a : PlainAttribute) (n : ℕ) → AllByRecursion IsOf a.values → copies_said a ≡ Some n → AreSaid a.values n
are_said a n of said = by (lone_value a.values) refl said
  where
    up : (value : PlainValue) → lone_value a.values ≡ Some value → (k : Option ℕ) → positive_said value ≡ k → option_and_then up_to_most k ≡ Some n → AreSaid a.values n
    up value is None positive said = absurd (none-some n said)
    up value is (Some k) positive said = low (nat_le k most_copies) refl said
      where
        one : a.values ≡ value ∷ []
        one = one_of a.values value is

        low : (b : Bool) → nat_le k most_copies ≡ b → cond b (Some k) None ≡ Some n → AreSaid a.values n
        low true few said =
            let same = same_Some k n said in
            let above = positive_said_is value n (subst (AllByRecursion IsOf) one of).0 (positive ∙ ap Some same) in
            record { value = value; is = one; are = (above.0, above.1, subst (λ (m : ℕ). m ≤ most_copies) same (leb-true k most_copies few)) }
        low false few said = absurd (none-some n said)

    by : (o : Option PlainValue) → lone_value a.values ≡ o → option_and_then up_to_most (option_and_then positive_said o) ≡ Some n → AreSaid a.values n
    by None is said = absurd (none-some n said)
    by (Some value) is said = up value is (positive_said value) refl said

pub copies_said_again : (attributes : List PlainAttribute) (n : ℕ) → Says AreCopies (codes "copies") attributes n → option_and_then copies_said (named (codes "copies") attributes) ≡ Some n
copies_said_again attributes n says =
    ap (option_and_then copies_said) (found_again (codes "copies") attributes (says.value ∷ []) says.is_there)
    ∙ ap (option_and_then up_to_most) (positive_again says.value n says.is_said.0 says.is_said.1)
    ∙ ap (λ (b : Bool). cond b (Some n) None) (le-leb n most_copies says.is_said.2)

pub copies_are_said : (attributes : List PlainAttribute) → AreOf attributes → SaysCopies attributes (copies attributes)
copies_are_said attributes are = subst (SaysCopies attributes) (sym (copies_read attributes)) (by (option_and_then copies_said (named (codes "copies") attributes)) refl)
  where
    there : (found : Option PlainAttribute) → Finds (codes "copies") attributes found → (n : ℕ) → option_and_then copies_said found ≡ Some n → Says AreCopies (codes "copies") attributes n
    there None found n said = absurd (none-some n said)
    there (Some a) found n said =
        let it = are_said a n found.1 said in
        record { value = it.value; is_there = subst (HasValues (codes "copies") attributes) it.is found.0; is_said = it.are }

    by : (o : Option ℕ) → option_and_then copies_said (named (codes "copies") attributes) ≡ o → SaysCopies attributes (unwrap_or o 1)
    by None is = inr (λ n says. none-some n (sym is ∙ copies_said_again attributes n says), refl)
    by (Some n) is = inl (there (named (codes "copies") attributes) (finds (codes "copies") attributes are) n is)

-- ---- the group of the job

pub record Groups (groups : List PlainGroup) (attributes : List PlainAttribute) : Type 0 where
  pub are : AreOfJob groups attributes
  pub are_of : AreOf attributes

abbrev pub found_group : Option PlainGroup → List PlainAttribute
found_group found = unwrap_or (option_map (λ (g : PlainGroup). g.attributes) found) []

pub job_group_is : (groups : List PlainGroup) → AreGroupsOf groups → Groups groups (unwrap_or (job_group_of groups) [])
job_group_is [] are = record { are = inr (tt, refl); are_of = tt }
job_group_is (g ∷ groups) are = by (find (λ (group : PlainGroup). group.tag == 2) groups) (job_group_is groups are.1) (g.tag == 2) refl
  where
    by : (found : Option PlainGroup) → Groups groups (found_group found) → (b : Bool) → (g.tag == 2) ≡ b → Groups (g ∷ groups) (found_group (cond b (Some g) found))
    by found rest true is = record { are = inl (record { earlier = []; later = groups; stands = ap (λ (tag : ℕ). record { tag = tag; attributes = g.attributes } ∷ groups) (eqb-true g.tag 2 is); is_first = tt }); are_of = are.0 }
    by found rest false is = record { are = further rest.are; are_of = rest.are_of }
      where
        further : AreOfJob groups (found_group found) → AreOfJob (g ∷ groups) (found_group found)
        further (inl one) = inl (record { earlier = g ∷ one.earlier; later = one.later; stands = ap (λ (l : List PlainGroup). g ∷ l) one.stands; is_first = (eqb-false g.tag 2 is, one.is_first) })
        further (inr none) = inr ((eqb-false g.tag 2 is, none.0), none.1)
