-- What the operation attributes say is read as that.
use Rattle.std.proofs.Common.{◌≡◌, ◌≢◌, ◌⊎◌, inl, inr, ℕ, suc, ◌≤◌, Bool, true, false, true≢false, cond, not, ◌&&◌, ◌==◌, codes, length, map, List, [], ◌∷◌, ◌++◌, Option, Some, None, is_none, is_some, option_and_then, option_map, unwrap_or, refl, sym, ap, ◌∙◌, arith}
use Rattle.std.specs.List.{AllByRecursion, find, list_all, position}
use Rattle.std.specs.Str.{bytes_eq, str_to_ascii_lowercase}
use Rattle.std.proofs.lemmas.Bool.{ne_eqb}
use Rattle.std.proofs.lemmas.Slice.Eq.{bytes_eq-Decides}
use Rattle.ipp_coding.specs.Plain.{PlainAttribute, PlainGroup, PlainValue}
use Rattle.ipp_coding.specs.Values.{bool_said}
use Rattle.account_asks.proofs.UriCuts.{place_of}
use Rattle.account_asks.specs.Asks.{PlainAsk}
use Rattle.account_asks.specs.Checks.{is_empty, some_attribute}
use Rattle.account_asks.specs.Fields.{format_said, is_none_if_said, names_of, unless_empty, which_named, without_parameters}
use Rattle.account_asks.specs.Requests.{named, up_to}
use Rattle.account_asks.specs.Syntaxes.{count_said, name_said, positive_said}
use Rattle.account_asks.specs.declared.ask.Which.{Which}
use Rattle.account_asks.specs.declared.ask.Which.TheVariants.{NotCompleted, Completed}
use Rattle.account_laws.proofs.SpelledAttributes.{boolean_again, count_again, found_again, name_again, none_again, positive_again}
use Rattle.account_laws.proofs.SpelledFields.{DocumentWell, JobWell, ListWell, are_keywords, boolean_in, bytes_in, format_in, impressions_in, is_well_so, keyword_of, limit_as, limit_in, limit_of, mapped, name_in, password_in, untitled_or, value_seen, wanted_in, which_in}
use Rattle.account_laws.specs.SpelledAttributes.{IsBoolean, IsInteger, IsLimit, IsMediaType, IsName, IsUnder, IsWhich, Says, SaysOr, media_type_of, which_keyword}
use Rattle.account_laws.specs.SpelledFields.{DescribesDocument, DescribesJob, DescribesList, NoneIfSaid, SaysNames, SaysPassword, or_untitled}
use Rattle.account_rules.specs.Formats.{format_named, formats, media_type}
use Rattle.account_rules.specs.declared.format.Format.{Format}
use Rattle.account_rules.specs.declared.format.Format.TheVariants.{OctetStream, Pdf, PostScript, Jpeg, PwgRaster, Urf, Plain}

-- ---- what is said is well, and is read

module _ {A : Type 0} (IsSaid : PlainValue → A → Type 0) (absent : A) where
  well_again : (test : PlainValue → Bool) → ((value : PlainValue) (x : A) → IsSaid value x → test value ≡ true) → (name : List ℕ) (attributes : List PlainAttribute) (x : A) → SaysOr IsSaid absent name attributes x → is_well_so test true (named name attributes) ≡ true
  well_again test passes name attributes x (inl says) = ap (is_well_so test true) (found_again name attributes (says.value ∷ []) says.is_there) ∙ passes says.value x says.is_said
  well_again test passes name attributes x (inr none) = ap (is_well_so test true) (none_again name attributes none.0)

  said_again : (said : PlainValue → Option A) → ((value : PlainValue) (x : A) → IsSaid value x → said value ≡ Some x) → (name : List ℕ) (attributes : List PlainAttribute) (x : A) → SaysOr IsSaid absent name attributes x
      → unwrap_or (option_and_then said (value_seen (named name attributes))) absent ≡ x
  said_again said again name attributes x (inl says) =
      ap (λ (found : Option PlainAttribute). unwrap_or (option_and_then said (value_seen found)) absent) (found_again name attributes (says.value ∷ []) says.is_there)
      ∙ ap (λ (o : Option A). unwrap_or o absent) (again says.value x says.is_said)
  said_again said again name attributes x (inr none) = ap (λ (found : Option PlainAttribute). unwrap_or (option_and_then said (value_seen found)) absent) (none_again name attributes none.0) ∙ sym none.1

  -- where what it says is known by its bytes
  known_again : (known : Option (List ℕ) → Option A) → ((value : PlainValue) (x : A) → IsSaid value x → known (Some value.bytes) ≡ Some x) → known None ≡ Some absent → (name : List ℕ) (attributes : List PlainAttribute) (x : A) → SaysOr IsSaid absent name attributes x
      → known (bytes_in name attributes) ≡ Some x
  known_again known again none name attributes x (inl says) =
      ap (λ (found : Option PlainAttribute). known (option_map (λ (value : PlainValue). value.bytes) (value_seen found))) (found_again name attributes (says.value ∷ []) says.is_there)
      ∙ again says.value x says.is_said
  known_again known again none name attributes x (inr missing) =
      ap (λ (found : Option PlainAttribute). known (option_map (λ (value : PlainValue). value.bytes) (value_seen found))) (none_again name attributes missing.0)
      ∙ none
      ∙ ap (λ (y : A). Some y) (sym missing.1)

tag_is : (tag : ℕ) (value : PlainValue) → (tag == tag) ≡ true → value.tag ≡ tag → (value.tag == tag) ≡ true
tag_is tag value itself is = ap (λ (n : ℕ). n == tag) is ∙ itself

-- ---- booleans

pub boolean_in_again : (name : List ℕ) (attributes : List PlainAttribute) (b : Bool) → SaysOr IsBoolean false name attributes b → boolean_in name attributes ≡ b
boolean_in_again = said_again IsBoolean false bool_said boolean_again

boolean_well : (name : List ℕ) (attributes : List PlainAttribute) (b : Bool) → SaysOr IsBoolean false name attributes b → is_well_so (λ value. is_some (bool_said value)) true (named name attributes) ≡ true
boolean_well = well_again IsBoolean false (λ value. is_some (bool_said value)) (λ value b is. ap is_some (boolean_again value b is))

-- last-document has to be there
pub last_well : (attributes : List PlainAttribute) (b : Bool) → Says IsBoolean (codes "last-document") attributes b → is_well_so (λ value. is_some (bool_said value)) false (named (codes "last-document") attributes) ≡ true
last_well attributes b says =
    ap (is_well_so (λ value. is_some (bool_said value)) false) (found_again (codes "last-document") attributes (says.value ∷ []) says.is_there)
    ∙ ap is_some (boolean_again says.value b says.is_said)

-- ---- keywords that may be `none`

none_well : (name : List ℕ) (attributes : List PlainAttribute) → NoneIfSaid name attributes → is_well_so (λ (value : PlainValue). value.tag == 0x44) true (named name attributes) ≡ true
none_well name attributes (inl none) = ap (is_well_so (λ (value : PlainValue). value.tag == 0x44) true) (none_again name attributes none)
none_well name attributes (inr says) = ap (is_well_so (λ (value : PlainValue). value.tag == 0x44) true) (found_again name attributes (record { tag = 0x44; bytes = codes "none" } ∷ []) says)

pub none_passes : (name : List ℕ) (attributes : List PlainAttribute) → NoneIfSaid name attributes → is_none_if_said (bytes_in name attributes) ≡ true
none_passes name attributes (inl none) = ap (λ (found : Option PlainAttribute). is_none_if_said (option_map (λ (value : PlainValue). value.bytes) (value_seen found))) (none_again name attributes none)
none_passes name attributes (inr says) =
    ap (λ (found : Option PlainAttribute). is_none_if_said (option_map (λ (value : PlainValue). value.bytes) (value_seen found))) (found_again name attributes (record { tag = 0x44; bytes = codes "none" } ∷ []) says)

-- ---- a job that is to be made

pub job_well : (groups : List PlainGroup) (attributes : List PlainAttribute) (ask : PlainAsk) → DescribesJob groups attributes ask → JobWell attributes
job_well groups attributes ask says = record {
  name = well_again IsName [] (λ value. is_some (name_said value)) (λ value text is. ap is_some (name_again value text is)) (codes "job-name") attributes says.name.given says.name.is_given;
  fidelity = boolean_well (codes "ipp-attribute-fidelity") attributes says.template.insists says.template.fidelity;
  impressions = well_again IsInteger 0 (λ value. is_some (count_said value)) (λ value n is. ap is_some (count_again value n is)) (codes "job-impressions") attributes ask.impressions says.impressions;
  password = well_again (IsUnder 0x30) [] (λ (value : PlainValue). value.tag == 0x30) (λ value bytes is. tag_is 0x30 value refl is.0) (codes "job-password") attributes ask.password says.password.is_said;
  encryption = none_well (codes "job-password-encryption") attributes says.password.encryption;
}

pub name_again_in : (attributes : List PlainAttribute) (given : List ℕ) → SaysOr IsName [] (codes "job-name") attributes given → name_in attributes ≡ or_untitled given
name_again_in attributes given (inl said) =
    ap (λ (found : Option PlainAttribute). unwrap_or (option_and_then unless_empty (option_and_then name_said (value_seen found))) (codes "untitled")) (found_again (codes "job-name") attributes (said.value ∷ []) said.is_there)
    ∙ ap (λ (o : Option (List ℕ)). unwrap_or (option_and_then unless_empty o) (codes "untitled")) (name_again said.value given said.is_said)
    ∙ untitled_or given
name_again_in attributes given (inr none) =
    ap (λ (found : Option PlainAttribute). unwrap_or (option_and_then unless_empty (option_and_then name_said (value_seen found))) (codes "untitled")) (none_again (codes "job-name") attributes none.0)
    ∙ ap or_untitled (sym none.1)

pub or_fits : (given : List ℕ) → length given ≤ 255 → length (or_untitled given) ≤ 255
or_fits [] fits = omega arith
or_fits (c ∷ rest) fits = fits

bytes_again : (value : PlainValue) (bytes : List ℕ) → IsUnder 0x30 value bytes → Some value.bytes ≡ Some bytes
bytes_again value bytes is = ap (λ (l : List ℕ). Some l) is.1

pub password_again : (attributes : List PlainAttribute) (password : List ℕ) → SaysOr (IsUnder 0x30) [] (codes "job-password") attributes password → password_in attributes ≡ password
password_again attributes password says =
    ap (λ (o : Option (List ℕ)). unwrap_or o []) (mapped (λ (value : PlainValue). value.bytes) (value_seen (named (codes "job-password") attributes)))
    ∙ said_again (IsUnder 0x30) [] (λ (value : PlainValue). Some value.bytes) bytes_again (codes "job-password") attributes password says

-- where there is a password, its encryption is there too
pub told_passes : (attributes : List PlainAttribute) (password : List ℕ) → SaysPassword attributes password → (not (is_empty password) && is_none (bytes_in (codes "job-password-encryption") attributes)) ≡ false
told_passes attributes [] says = refl
told_passes attributes (c ∷ rest) says =
    ap (λ (found : Option PlainAttribute). is_none (option_map (λ (value : PlainValue). value.bytes) (value_seen found))) (found_again (codes "job-password-encryption") attributes (record { tag = 0x44; bytes = codes "none" } ∷ []) (says.told some))
  where
    some : c ∷ rest ≢ []
    some same = true≢false (sym (ap is_empty same))

pub impressions_again : (attributes : List PlainAttribute) (n : ℕ) → SaysOr IsInteger 0 (codes "job-impressions") attributes n → impressions_in attributes ≡ n
impressions_again = said_again IsInteger 0 count_said count_again (codes "job-impressions")

pub not_insisted : (insists : Bool) (unsupported : List PlainAttribute) → (insists ≡ true → unsupported ≡ []) → (insists && some_attribute unsupported) ≡ false
not_insisted true unsupported none = ap some_attribute (none refl)
not_insisted false unsupported none = refl

-- ---- a document

-- what is cut at its first ";"
cut_again : (name parameters : List ℕ) → AllByRecursion (λ (c : ℕ). c ≢ 59) name → (parameters ≡ []) ⊎ ((rest : List ℕ) × (parameters ≡ 59 ∷ rest)) → without_parameters (name ++ parameters) ≡ name
cut_again [] parameters goes_on (inl none) = ap without_parameters none
cut_again [] parameters goes_on (inr more) = ap without_parameters more.1 ∙ ap (λ (o : Option ℕ). up_to o (59 ∷ more.0)) (place_of (λ c. c == 59) 59 more.0)
cut_again (c ∷ name) parameters goes_on behind =
    ap (λ (o : Option ℕ). up_to o (c ∷ (name ++ parameters))) (place_of (λ c. c == 59) c (name ++ parameters) ∙ ap (λ (b : Bool). cond b (Some 0) (option_map (λ p. suc p) (position (λ c. c == 59) (name ++ parameters)))) (ne_eqb c 59 goes_on.0))
    ∙ one_more (position (λ c. c == 59) (name ++ parameters))
    ∙ ap (λ (l : List ℕ). c ∷ l) (cut_again name parameters goes_on.1 behind)
  where
    one_more : (place : Option ℕ) → up_to (option_map (λ p. suc p) place) (c ∷ (name ++ parameters)) ≡ c ∷ up_to place (name ++ parameters)
    one_more None = refl
    one_more (Some p) = refl

-- letters of either case name one format
named_again : (text : List ℕ) (format : Format) → str_to_ascii_lowercase text ≡ str_to_ascii_lowercase (media_type_of format) → format_named text ≡ Some format
named_again text format same = ap (λ (l : List ℕ). find (λ (other : Format). bytes_eq l (str_to_ascii_lowercase (media_type other))) formats) same ∙ by format
  where
    by : (format : Format) → find (λ (other : Format). bytes_eq (str_to_ascii_lowercase (media_type_of format)) (str_to_ascii_lowercase (media_type other))) formats ≡ Some format
    by OctetStream = refl
    by Pdf = refl
    by PostScript = refl
    by Jpeg = refl
    by PwgRaster = refl
    by Urf = refl
    by Plain = refl

pub media_again : (value : PlainValue) (format : Format) → IsMediaType value format → format_said (Some value.bytes) ≡ Some format
media_again value format is =
    ap (λ (text : List ℕ). format_named text) (ap without_parameters is.is.1 ∙ cut_again is.named is.parameters is.goes_on is.is_behind)
    ∙ named_again is.named format ((bytes_eq-Decides (str_to_ascii_lowercase is.named) (str_to_ascii_lowercase (media_type_of format))).0 is.names)

pub format_again : (attributes : List PlainAttribute) (format : Format) → SaysOr IsMediaType OctetStream (codes "document-format") attributes format → format_in attributes ≡ Some format
format_again = known_again IsMediaType OctetStream format_said media_again refl (codes "document-format")

pub document_well : (attributes : List PlainAttribute) (ask : PlainAsk) → DescribesDocument attributes ask → DocumentWell attributes
document_well attributes ask says = record {
  format = well_again IsMediaType OctetStream (λ (value : PlainValue). value.tag == 0x49) (λ value format is. tag_is 0x49 value refl is.is.0) (codes "document-format") attributes ask.format says.format;
  compression = none_well (codes "compression") attributes says.compression;
}

-- ---- a list

pub keyword_again : (which : Which) → which_named (Some (which_keyword which)) ≡ Some which
keyword_again NotCompleted = refl
keyword_again Completed = refl

pub which_again : (attributes : List PlainAttribute) (which : Which) → SaysOr IsWhich NotCompleted (codes "which-jobs") attributes which → which_in attributes ≡ Some which
which_again = known_again IsWhich NotCompleted which_named (λ value which is. ap (λ (bytes : List ℕ). which_named (Some bytes)) is.1 ∙ keyword_again which) refl (codes "which-jobs")

limit_well : (value : PlainValue) (x : Option ℕ) → IsLimit value x → is_some (positive_said value) ≡ true
limit_well value None is = absurd is
limit_well value (Some n) is = ap is_some (positive_again value n is.0 is.1)

limit_is_again : (value : PlainValue) (x : Option ℕ) → IsLimit value x → limit_of value ≡ Some x
limit_is_again value None is = absurd is
limit_is_again value (Some n) is = ap (option_map (λ (n : ℕ). Some n)) (positive_again value n is.0 is.1)

pub limit_again : (attributes : List PlainAttribute) (limit : Option ℕ) → SaysOr IsLimit None (codes "limit") attributes limit → limit_in attributes ≡ limit
limit_again attributes limit says = limit_as (value_seen (named (codes "limit") attributes)) ∙ said_again IsLimit None limit_of limit_is_again (codes "limit") attributes limit says

pub list_well : (attributes : List PlainAttribute) (ask : PlainAsk) → DescribesList attributes ask → ListWell attributes
list_well attributes ask says = record {
  which = well_again IsWhich NotCompleted (λ (value : PlainValue). value.tag == 0x44) (λ value which is. tag_is 0x44 value refl is.0) (codes "which-jobs") attributes ask.which says.which;
  limit = well_again IsLimit None (λ value. is_some (positive_said value)) limit_well (codes "limit") attributes ask.limit says.limit;
  mine = boolean_well (codes "my-jobs") attributes says.mine says.my_jobs;
}

all_keywords : (names : List (List ℕ)) → list_all (λ (value : PlainValue). value.tag == 0x44) (map keyword_of names) ≡ true
all_keywords [] = refl
all_keywords (name ∷ names) = all_keywords names

all_names : (names : List (List ℕ)) → names_of (map keyword_of names) ≡ names
all_names [] = refl
all_names (name ∷ names) = ap (λ (l : List (List ℕ)). name ∷ l) (all_names names)

pub names_well : (attributes : List PlainAttribute) (names : Option (List (List ℕ))) → SaysNames attributes names → are_keywords (named (codes "requested-attributes") attributes) ≡ true
names_well attributes None none = ap are_keywords (none_again (codes "requested-attributes") attributes none)
names_well attributes (Some names) says = ap are_keywords (found_again (codes "requested-attributes") attributes (map keyword_of names) says) ∙ all_keywords names

pub names_again : (attributes : List PlainAttribute) (names : Option (List (List ℕ))) → SaysNames attributes names → wanted_in attributes ≡ names
names_again attributes None none = ap (λ (found : Option PlainAttribute). option_map names_of (option_map (λ (a : PlainAttribute). a.values) found)) (none_again (codes "requested-attributes") attributes none)
names_again attributes (Some names) says =
    ap (λ (found : Option PlainAttribute). option_map names_of (option_map (λ (a : PlainAttribute). a.values) found)) (found_again (codes "requested-attributes") attributes (map keyword_of names) says)
    ∙ ap (λ (l : List (List ℕ)). Some l) (all_names names)
