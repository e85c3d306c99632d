-- What a refusal of a request's operation attributes says.
use Rattle.std.proofs.Common.{◌≡◌, ◌≢◌, ◌⊎◌, inl, inr, ℕ, ◌<◌, ◌≤◌, Bool, true, false, true≢false, not, ◌&&◌, ◌||◌, ◌==◌, nat_lt, codes, length, List, [], ◌∷◌, Option, Some, None, is_none, is_some, option_map, refl, sym, ap, subst, ◌∙◌, arith}
use Rattle.std.specs.List.{AllByRecursion, list_all}
use Rattle.std.proofs.lemmas.Bool.{and_from, and_parts, eq-eqb, eqb-true, ltb-false, ltb-true, not-false, not-true}
use Rattle.std.proofs.lemmas.Option.{none-some}
use Rattle.std.proofs.lemmas.Slice.Eq.{bytes_eq-Decides}
use Rattle.ipp_coding.specs.Plain.{PlainAttribute, PlainValue}
use Rattle.ipp_coding.specs.Values.{bool_said}
use Rattle.account_asks.specs.Checks.{compression_check, is_empty, password_encryption_check, password_encryption_missing_check}
use Rattle.account_asks.specs.Fields.{any_is_wrong, document_format, fidelity, format_said, is_none_if_said, is_wrong, job_name, password, which_jobs, which_named}
use Rattle.account_asks.specs.Operations.{describes_document, is_get_jobs, is_send_document, lists_attributes, makes_job}
use Rattle.account_asks.specs.Requests.{lone_value, named}
use Rattle.account_asks.specs.Syntaxes.{count_said, name_said, positive_said}
use Rattle.account_asks.specs.declared.ask.Which.{Which}
use Rattle.account_asks.specs.declared.operation.Operation.{Operation}
use Rattle.account_asks.specs.declared.operation.Operation.TheVariants.{SendDocument}
use Rattle.account_laws.proofs.ServedIds.{gets, gets_again, lists, lists_again, makes, makes_again, sends, sends_again, tells, tells_again}
use Rattle.account_laws.proofs.SpelledAttributes.{AreOf, Finds, IsOf, boolean_again, boolean_is, count_again, count_is, finds, found_again, name_again, name_is, none_again, one_of, positive_again, positive_said_is}
use Rattle.account_laws.proofs.SpelledFields.{Missing, Present, boolean_in, boolean_or, bytes_in, is_well_so, lone_test, media_type_is, name_given, name_in, not_none, password_in, password_said, some_of, there_or_not, value_seen, which_is}
use Rattle.account_laws.proofs.SpelledOperations.{AllWell, compression_as, encryption_as, fidelity_as, format_as, last_is_well, missing_as, name_as, password_as, seen, seen_of, which_as}
use Rattle.account_laws.proofs.TakenFields.{boolean_in_again, keyword_again, media_again, name_again_in, password_again}
use Rattle.account_laws.specs.MisusedAttributes.{AreKeywords, IsCount, IsNot, IsPositive, IsSomeBoolean, IsSomeName, Misuses, One}
use Rattle.account_laws.specs.MisusedAttributes as misused
use Rattle.account_laws.specs.OperationIds.{MakesJob}
use Rattle.account_laws.specs.RefusalMeanings.{AsksForOthers, HasLongName, HasLongPassword, HasUnknownFormat, IsCompressed, IsEncrypted, LacksEncryption, SaysUnknown}
use Rattle.account_laws.specs.SpelledAttributes.{HasNone, IsBoolean, IsMediaType, IsName, IsUnder, IsWhich, Says, SaysOr}
use Rattle.account_laws.specs.SpelledFields.{or_untitled}
use Rattle.account_rules.specs.Limits.{longest_job_name, longest_password}
use Rattle.account_rules.specs.declared.format.Format.{Format}

-- ---- syntaxes and their tests

-- what is of the syntax passes the test, and what passes it is of the syntax
record Tests (Are : List PlainValue → Type 0) (test : List PlainValue → Bool) : Type 0 where
  pub passes : (values : List PlainValue) → Are values → test values ≡ true
  pub says : (values : List PlainValue) → AllByRecursion IsOf values → test values ≡ true → Are values

-- one value
abbrev lone : (test : PlainValue → Bool) → List PlainValue → Bool
lone test values = lone_test test (lone_value values)

lone_tests : (Is : PlainValue → Type 0) (test : PlainValue → Bool) → ((value : PlainValue) → Is value → test value ≡ true) → ((value : PlainValue) → IsOf value → test value ≡ true → Is value) → Tests (One Is) (lone test)
lone_tests Is test passes so = record { passes = λ values is. ap (lone test) is.1 ∙ passes is.0 is.2; says = λ values are passes. by values are (lone_value values) refl passes }
  where
    by : (values : List PlainValue) → AllByRecursion IsOf values → (o : Option PlainValue) → lone_value values ≡ o → lone_test test o ≡ true → One Is values
    by values are None one passes = absurd (true≢false (sym passes))
    by values are (Some value) one passes = let same = one_of values value one in (value, same, so value (subst (AllByRecursion IsOf) same are).0 passes)

names : Tests (One IsSomeName) (lone (λ value. is_some (name_said value)))
names = lone_tests IsSomeName (λ value. is_some (name_said value)) (λ value is. ap is_some (name_again value is.0 is.1)) (λ value of some. let text = some_of (name_said value) some in (text.0, name_is value text.0 of text.1))

booleans : Tests (One IsSomeBoolean) (lone (λ value. is_some (bool_said value)))
booleans = lone_tests IsSomeBoolean (λ value. is_some (bool_said value)) (λ value is. ap is_some (boolean_again value is.0 is.1)) (λ value of some. let b = some_of (bool_said value) some in (b.0, boolean_is value b.0 b.1))

counts : Tests (One IsCount) (lone (λ value. is_some (count_said value)))
counts = lone_tests IsCount (λ value. is_some (count_said value)) (λ value is. ap is_some (count_again value is.0 is.1)) (λ value of some. let n = some_of (count_said value) some in (n.0, count_is value n.0 of n.1))

positives : Tests (One IsPositive) (lone (λ value. is_some (positive_said value)))
positives = lone_tests IsPositive (λ value. is_some (positive_said value)) (λ value is. ap is_some (positive_again value is.0 is.1 is.2)) (λ value of some. let n = some_of (positive_said value) some in let is = positive_said_is value n.0 of n.1 in (n.0, is.0, is.1))

tagged : (tag : ℕ) → Tests (One (λ (value : PlainValue). value.tag ≡ tag)) (lone (λ (value : PlainValue). value.tag == tag))
tagged tag = lone_tests (λ (value : PlainValue). value.tag ≡ tag) (λ (value : PlainValue). value.tag == tag) (λ value is. eq-eqb value.tag tag is) (λ value of is. eqb-true value.tag tag is)

keywords : Tests AreKeywords (λ values. list_all (λ (value : PlainValue). value.tag == 0x44) values)
keywords = record { passes = pass; says = say }
  where
    pass : (values : List PlainValue) → AreKeywords values → list_all (λ (value : PlainValue). value.tag == 0x44) values ≡ true
    pass [] are = refl
    pass (value ∷ values) are = and_from (value.tag == 0x44) (list_all (λ (value : PlainValue). value.tag == 0x44) values) (eq-eqb value.tag 0x44 are.0) (pass values are.1)

    say : (values : List PlainValue) → AllByRecursion IsOf values → list_all (λ (value : PlainValue). value.tag == 0x44) values ≡ true → AreKeywords values
    say [] are all = tt
    say (value ∷ values) are all = let both = and_parts (value.tag == 0x44) (list_all (λ (value : PlainValue). value.tag == 0x44) values) all in (eqb-true value.tag 0x44 both.0, say values are.1 both.1)

-- ---- an attribute that is not of its syntax

-- it is there, and its values pass; or it may be absent
abbrev is_right : (test : List PlainValue → Bool) (may_lack : Bool) → Option PlainAttribute → Bool
is_right test may_lack None = may_lack
is_right test may_lack (Some a) = test a.values

-- it is read, and is not so
abbrev wrong : (reads : Bool) (test : List PlainValue → Bool) (may_lack : Bool) (name : List ℕ) (attributes : List PlainAttribute) → Bool
wrong reads test may_lack name attributes = reads && not (is_right test may_lack (named name attributes))

this_or_later : {A : Type 0} (b later : Bool) → (b ≡ true → A) → (later ≡ true → A) → (b || later) ≡ true → A
this_or_later true later this that is = this refl
this_or_later false later this that is = that is

module _ (attributes : List PlainAttribute) (are : AreOf attributes) where
  module _ {Are : List PlainValue → Type 0} {test : List PlainValue → Bool} (tests : Tests Are test) where
    not_right : (may_lack : Bool) (name : List ℕ) → is_right test may_lack (named name attributes) ≡ false → IsNot Are name attributes ⊎ (HasNone name attributes × (may_lack ≡ false))
    not_right may_lack name fails = by (named name attributes) (finds name attributes are) fails
      where
        by : (found : Option PlainAttribute) → Finds name attributes found → is_right test may_lack found ≡ false → IsNot Are name attributes ⊎ (HasNone name attributes × (may_lack ≡ false))
        by None found fails = inr (found, fails)
        by (Some a) found fails = inl (record { values = a.values; are_there = found.0; are_others = λ those. true≢false (sym (tests.passes a.values those) ∙ fails) })

    -- one that may be absent
    misused_by : {A So : Type 0} (reads : Bool) (name : List ℕ) → (reads ≡ true → So) → (So → IsNot Are name attributes → A) → wrong reads test true name attributes ≡ true → A
    misused_by {A = A} reads name so misuse is = by (not_right true name (not-true (is_right test true (named name attributes)) both.1))
      where
        both : (reads ≡ true) × (not (is_right test true (named name attributes)) ≡ true)
        both = and_parts reads (not (is_right test true (named name attributes))) is

        by : IsNot Are name attributes ⊎ (HasNone name attributes × (true ≡ false)) → A
        by (inl other) = misuse (so both.0) other
        by (inr none) = absurd (true≢false none.1)

    -- where it is right, it is not otherwise
    right_so : (may_lack : Bool) (name : List ℕ) → is_right test may_lack (named name attributes) ≡ true → IsNot Are name attributes → ⊥
    right_so may_lack name right other =
        let found = found_again name attributes other.values other.are_there in
        let of = (subst (Finds name attributes) found (finds name attributes are)).1 in
        other.are_others (tests.says other.values of (sym (ap (is_right test may_lack) found) ∙ right))

    well_so : (reads : Bool) (name : List ℕ) → is_right test true (named name (seen reads attributes)) ≡ true → reads ≡ true → IsNot Are name attributes → ⊥
    well_so reads name right does = right_so true name (ap (λ (b : Bool). is_right test true (named name (seen b attributes))) (sym does) ∙ right)

  module _ (operation : Operation) where
    last_misused : wrong (is_send_document operation) (lone (λ value. is_some (bool_said value))) false (codes "last-document") attributes ≡ true → Misuses operation attributes
    last_misused is = by (not_right booleans false (codes "last-document") (not-true (is_right (lone (λ value. is_some (bool_said value))) false (named (codes "last-document") attributes)) both.1))
      where
        both : (is_send_document operation ≡ true) × (not (is_right (lone (λ value. is_some (bool_said value))) false (named (codes "last-document") attributes)) ≡ true)
        both = and_parts (is_send_document operation) (not (is_right (lone (λ value. is_some (bool_said value))) false (named (codes "last-document") attributes))) is

        by : IsNot (One IsSomeBoolean) (codes "last-document") attributes ⊎ (HasNone (codes "last-document") attributes × (false ≡ false)) → Misuses operation attributes
        by (inl other) = misused.LastDocument (sends operation both.0) other
        by (inr none) = misused.NoLastDocument (sends operation both.0) none.0

    pub misuses_some : any_is_wrong operation attributes ≡ true → Misuses operation attributes
    unfolding any_is_wrong is_wrong
    misuses_some is =
        this_or_later _ _ (misused_by names (makes_job operation) (codes "job-name") (makes operation) misused.JobName) (λ is.
        this_or_later _ _ (misused_by booleans (makes_job operation) (codes "ipp-attribute-fidelity") (makes operation) misused.Fidelity) (λ is.
        this_or_later _ _ (misused_by counts (makes_job operation) (codes "job-impressions") (makes operation) misused.Impressions) (λ is.
        this_or_later _ _ (misused_by (tagged 0x30) (makes_job operation) (codes "job-password") (makes operation) misused.Password) (λ is.
        this_or_later _ _ (misused_by (tagged 0x44) (makes_job operation) (codes "job-password-encryption") (makes operation) misused.PasswordEncryption) (λ is.
        this_or_later _ _ (misused_by (tagged 0x49) (describes_document operation) (codes "document-format") (tells operation) misused.DocumentFormat) (λ is.
        this_or_later _ _ (misused_by (tagged 0x44) (describes_document operation) (codes "compression") (tells operation) misused.Compression) (λ is.
        this_or_later _ _ last_misused (λ is.
        this_or_later _ _ (misused_by (tagged 0x44) (is_get_jobs operation) (codes "which-jobs") (gets operation) misused.WhichJobs) (λ is.
        this_or_later _ _ (misused_by positives (is_get_jobs operation) (codes "limit") (gets operation) misused.Limit) (λ is.
        this_or_later _ _ (misused_by booleans (is_get_jobs operation) (codes "my-jobs") (gets operation) misused.MyJobs) (λ is.
        this_or_later _ _ (misused_by keywords (lists_attributes operation) (codes "requested-attributes") (lists operation) misused.RequestedAttributes) (λ never. absurd (true≢false (sym never)))
        is) is) is) is) is) is) is) is) is) is) is) is

    module _ (well : AllWell operation attributes) where
      last_right : operation ≡ SendDocument → is_right (lone (λ value. is_some (bool_said value))) false (named (codes "last-document") attributes) ≡ true
      last_right reads = ap (λ (b : Bool). last_is_well b attributes) (sym (sends_again operation reads)) ∙ well.last

      pub misuses_none : Misuses operation attributes → ⊥
      misuses_none (misused.JobName reads other) = well_so names (makes_job operation) (codes "job-name") well.job.name (makes_again operation reads) other
      misuses_none (misused.Fidelity reads other) = well_so booleans (makes_job operation) (codes "ipp-attribute-fidelity") well.job.fidelity (makes_again operation reads) other
      misuses_none (misused.Impressions reads other) = well_so counts (makes_job operation) (codes "job-impressions") well.job.impressions (makes_again operation reads) other
      misuses_none (misused.Password reads other) = well_so (tagged 0x30) (makes_job operation) (codes "job-password") well.job.password (makes_again operation reads) other
      misuses_none (misused.PasswordEncryption reads other) = well_so (tagged 0x44) (makes_job operation) (codes "job-password-encryption") well.job.encryption (makes_again operation reads) other
      misuses_none (misused.DocumentFormat reads other) = well_so (tagged 0x49) (describes_document operation) (codes "document-format") well.document.format (tells_again operation reads) other
      misuses_none (misused.Compression reads other) = well_so (tagged 0x44) (describes_document operation) (codes "compression") well.document.compression (tells_again operation reads) other
      misuses_none (misused.LastDocument reads other) = right_so booleans false (codes "last-document") (last_right reads) other
      misuses_none (misused.NoLastDocument reads none) = true≢false (sym (last_right reads) ∙ ap (is_right (lone (λ value. is_some (bool_said value))) false) (none_again (codes "last-document") attributes none))
      misuses_none (misused.WhichJobs reads other) = well_so (tagged 0x44) (is_get_jobs operation) (codes "which-jobs") well.list.which (gets_again operation reads) other
      misuses_none (misused.Limit reads other) = well_so positives (is_get_jobs operation) (codes "limit") well.list.limit (gets_again operation reads) other
      misuses_none (misused.MyJobs reads other) = well_so booleans (is_get_jobs operation) (codes "my-jobs") well.list.mine (gets_again operation reads) other
      misuses_none (misused.RequestedAttributes reads other) = well_so keywords (lists_attributes operation) (codes "requested-attributes") well.names (lists_again operation reads) other

-- ---- a value that is none of those that are known

module _ (tag : ℕ) (IsKnown : PlainValue → Type 0) (test : Option (List ℕ) → Bool) (absent : test None ≡ true) (knows : (value : PlainValue) → value.tag ≡ tag → test (Some value.bytes) ≡ true → IsKnown value) (known : (value : PlainValue) → IsKnown value → test (Some value.bytes) ≡ true)
    (name : List ℕ) (attributes : List PlainAttribute) (are : AreOf attributes) where
  abbrev test_seen : Option PlainValue → Bool
  test_seen o = test (option_map (λ (value : PlainValue). value.bytes) o)

  says_unknown : (reads : Bool) → is_well_so (λ (value : PlainValue). value.tag == tag) true (named name (seen reads attributes)) ≡ true → test (bytes_in name (seen reads attributes)) ≡ false → (reads ≡ true) × SaysUnknown tag IsKnown name attributes
  says_unknown false well fails = absurd (true≢false (sym absent ∙ fails))
  says_unknown true well fails = (refl, by (there_or_not true (λ (value : PlainValue). value.tag == tag) name attributes are well))
    where
      by : Present (λ (value : PlainValue). value.tag == tag) name attributes ⊎ Missing true name attributes → SaysUnknown tag IsKnown name attributes
      by (inl there) = record {
        value = there.value;
        is_there = there.is_there;
        has_tag = eqb-true there.value.tag tag there.passes;
        is_unknown = λ is. true≢false (sym (known there.value is) ∙ ap test_seen (sym there.is_read) ∙ fails);
      }
      by (inr missing) = absurd (true≢false (sym absent ∙ ap test_seen (sym missing.is_read) ∙ fails))

  says_known : (reads : Bool) → reads ≡ true → test (bytes_in name (seen reads attributes)) ≡ true → SaysUnknown tag IsKnown name attributes → ⊥
  says_known reads does passes says =
      says.is_unknown
      (knows says.value says.has_tag
      (sym (ap (λ (found : Option PlainAttribute). test_seen (value_seen found)) (found_again name attributes (says.value ∷ []) says.is_there))
      ∙ ap (λ (b : Bool). test (bytes_in name (seen b attributes))) (sym does)
      ∙ passes))

abbrev IsNone : PlainValue → Type 0
IsNone value = value.bytes ≡ codes "none"

is_none_so : (value : PlainValue) → value.tag ≡ 0x44 → is_none_if_said (Some value.bytes) ≡ true → IsNone value
is_none_so value tag is = (bytes_eq-Decides value.bytes (codes "none")).0 is

none_so : (value : PlainValue) → IsNone value → is_none_if_said (Some value.bytes) ≡ true
none_so value is = (bytes_eq-Decides value.bytes (codes "none")).1 is

abbrev knows_format : Option (List ℕ) → Bool
knows_format said = not (is_none (format_said said))

abbrev HasFormat : PlainValue → Type 0
HasFormat value = (format : Format) × IsMediaType value format

has_format : (value : PlainValue) → value.tag ≡ 0x49 → knows_format (Some value.bytes) ≡ true → HasFormat value
has_format value tag some = let it = not_none (format_said (Some value.bytes)) (not-true (is_none (format_said (Some value.bytes))) some) in (it.0, media_type_is value it.0 (eq-eqb value.tag 0x49 tag) it.1)

format_known : (value : PlainValue) → HasFormat value → knows_format (Some value.bytes) ≡ true
format_known value is = ap (λ (o : Option Format). not (is_none o)) (media_again value is.0 is.1)

abbrev knows_which : Option (List ℕ) → Bool
knows_which said = not (is_none (which_named said))

abbrev HasWhich : PlainValue → Type 0
HasWhich value = (which : Which) × IsWhich value which

has_which : (value : PlainValue) → value.tag ≡ 0x44 → knows_which (Some value.bytes) ≡ true → HasWhich value
has_which value tag some = let it = not_none (which_named (Some value.bytes)) (not-true (is_none (which_named (Some value.bytes))) some) in (it.0, (tag, which_is value.bytes it.0 it.1))

which_known : (value : PlainValue) → HasWhich value → knows_which (Some value.bytes) ≡ true
which_known value is = ap (λ (bytes : List ℕ). knows_which (Some bytes)) is.1.1 ∙ ap (λ (o : Option Which). not (is_none o)) (keyword_again is.0)

-- ---- what each refusal means

-- what is said where it is seen is read, and is said
says_seen : {A : Type 0} (IsSaid : PlainValue → A → Type 0) (name : List ℕ) (attributes : List PlainAttribute) (x : A) (reads : Bool) → Says IsSaid name (seen reads attributes) x → (reads ≡ true) × Says IsSaid name attributes x
says_seen IsSaid name attributes x true says = (refl, says)
says_seen IsSaid name attributes x false says = absurd (none-some _ (found_again name [] (says.value ∷ []) says.is_there))

module _ (attributes : List PlainAttribute) (are : AreOf attributes) (operation : Operation) where
  abbrev those : List PlainAttribute
  those = seen (makes_job operation) attributes

  are_those : AreOf those
  are_those = seen_of (makes_job operation) attributes are

  same_those : MakesJob operation → those ≡ attributes
  same_those is = ap (λ (b : Bool). seen b attributes) (makes_again operation is)

  module _ (well : AllWell operation attributes) where
    pub is_compressed : (compression_check operation attributes).refused ≡ true → IsCompressed operation attributes
    is_compressed refuses =
        let both = says_unknown 0x44 IsNone is_none_if_said refl is_none_so none_so (codes "compression") attributes are (describes_document operation) well.document.compression (not-true _ (sym (compression_as operation attributes) ∙ refuses)) in
        (tells operation both.0, both.1)

    pub is_encrypted : (password_encryption_check operation attributes).refused ≡ true → IsEncrypted operation attributes
    is_encrypted refuses =
        let both = says_unknown 0x44 IsNone is_none_if_said refl is_none_so none_so (codes "job-password-encryption") attributes are (makes_job operation) well.job.encryption (not-true _ (sym (encryption_as operation attributes) ∙ refuses)) in
        (makes operation both.0, both.1)

    pub has_unknown_format : is_none (document_format operation attributes) ≡ true → HasUnknownFormat operation attributes
    has_unknown_format none =
        let both = says_unknown 0x49 HasFormat knows_format refl has_format format_known (codes "document-format") attributes are (describes_document operation) well.document.format (ap (λ (o : Option Format). not (is_none o)) (sym (format_as operation attributes)) ∙ ap not none) in
        (tells operation both.0, both.1)

    pub asks_for_others : is_none (which_jobs operation attributes) ≡ true → AsksForOthers operation attributes
    asks_for_others none =
        let both = says_unknown 0x44 HasWhich knows_which refl has_which which_known (codes "which-jobs") attributes are (is_get_jobs operation) well.list.which (ap (λ (o : Option Which). not (is_none o)) (sym (which_as operation attributes)) ∙ ap not none) in
        (gets operation both.0, both.1)

    pub lacks_encryption : (password_encryption_missing_check operation attributes).refused ≡ true → LacksEncryption operation attributes
    lacks_encryption lacks = by (password_said those are_those well.job)
      where
        both : (not (is_empty (password operation attributes)) ≡ true) × (is_none (bytes_in (codes "job-password-encryption") those) ≡ true)
        both = and_parts (not (is_empty (password operation attributes))) (is_none (bytes_in (codes "job-password-encryption") those)) (sym (missing_as operation attributes) ∙ lacks)

        some : not (is_empty (password_in those)) ≡ true
        some = ap (λ (l : List ℕ). not (is_empty l)) (sym (password_as operation attributes)) ∙ both.0

        missing : Present (λ (value : PlainValue). value.tag == 0x44) (codes "job-password-encryption") those ⊎ Missing true (codes "job-password-encryption") those → HasNone (codes "job-password-encryption") those
        missing (inl there) = absurd (true≢false (sym both.1 ∙ ap (λ (o : Option PlainValue). is_none (option_map (λ (value : PlainValue). value.bytes) o)) there.is_read))
        missing (inr none) = none.none

        by : SaysOr (IsUnder 0x30) [] (codes "job-password") those (password_in those) → LacksEncryption operation attributes
        by (inl says) =
            let it = says_seen (IsUnder 0x30) (codes "job-password") attributes (password_in those) (makes_job operation) says in
            record {
              makes = makes operation it.0;
              password = password_in those;
              is_said = it.1;
              is_some = λ empty. true≢false (sym some ∙ ap (λ (l : List ℕ). not (is_empty l)) empty);
              is_missing = subst (λ (b : Bool). HasNone (codes "job-password-encryption") (seen b attributes)) it.0
                  (missing (there_or_not true (λ (value : PlainValue). value.tag == 0x44) (codes "job-password-encryption") those are_those well.job.encryption));
            }
        by (inr none) = absurd (true≢false (sym some ∙ ap (λ (l : List ℕ). not (is_empty l)) none.1))

    pub has_long_password : nat_lt longest_password (length (password operation attributes)) ≡ true → HasLongPassword operation attributes
    has_long_password many = by (password_said those are_those well.job)
      where
        long : 32 < length (password_in those)
        long = subst (λ (l : List ℕ). 32 < length l) (password_as operation attributes) (ltb-true longest_password (length (password operation attributes)) many)

        by : SaysOr (IsUnder 0x30) [] (codes "job-password") those (password_in those) → HasLongPassword operation attributes
        by (inl says) =
            let it = says_seen (IsUnder 0x30) (codes "job-password") attributes (password_in those) (makes_job operation) says in
            (makes operation it.0, (password_in those, it.1, long))
        by (inr none) = let short : 32 < 0 = subst (λ (l : List ℕ). 32 < length l) none.1 long in absurd (omega (arith, short))

    pub has_long_name : nat_lt longest_job_name (length (job_name operation attributes)) ≡ true → HasLongName operation attributes
    has_long_name many =
        let name = name_given those are_those well.job in
        by name.given name.is_given (subst (λ (l : List ℕ). 255 < length l) (name_as operation attributes ∙ name.is) (ltb-true longest_job_name (length (job_name operation attributes)) many))
      where
        by : (given : List ℕ) → SaysOr IsName [] (codes "job-name") those given → 255 < length (or_untitled given) → HasLongName operation attributes
        by given (inr none) long = let short : 255 < 8 = subst (λ (l : List ℕ). 255 < length (or_untitled l)) none.1 long in absurd (omega (arith, short))
        by [] (inl says) long = absurd (omega (arith, long))
        by (c ∷ rest) (inl says) long =
            let it = says_seen IsName (codes "job-name") attributes (c ∷ rest) (makes_job operation) says in
            (makes operation it.0, (c ∷ rest, it.1, long))

    -- who insists says so
    pub insists_so : fidelity operation attributes ≡ true → Says IsBoolean (codes "ipp-attribute-fidelity") attributes true
    insists_so insists = by (subst (SaysOr IsBoolean false (codes "ipp-attribute-fidelity") those) (sym (fidelity_as operation attributes) ∙ insists) (boolean_or (codes "ipp-attribute-fidelity") those are_those well.job.fidelity))
      where
        by : SaysOr IsBoolean false (codes "ipp-attribute-fidelity") those true → Says IsBoolean (codes "ipp-attribute-fidelity") attributes true
        by (inl says) = (says_seen IsBoolean (codes "ipp-attribute-fidelity") attributes true (makes_job operation) says).1
        by (inr none) = absurd (true≢false none.1)

  -- ---- where a check passes, its refusal would not be true

  pub is_plain : (compression_check operation attributes).refused ≡ false → IsCompressed operation attributes → ⊥
  is_plain passes means =
      says_known 0x44 IsNone is_none_if_said refl is_none_so none_so (codes "compression") attributes are (describes_document operation) (tells_again operation means.0) (not-false _ (sym (compression_as operation attributes) ∙ passes)) means.1

  pub is_not_encrypted : (password_encryption_check operation attributes).refused ≡ false → IsEncrypted operation attributes → ⊥
  is_not_encrypted passes means =
      says_known 0x44 IsNone is_none_if_said refl is_none_so none_so (codes "job-password-encryption") attributes are (makes_job operation) (makes_again operation means.0) (not-false _ (sym (encryption_as operation attributes) ∙ passes)) means.1

  pub has_known_format : is_none (document_format operation attributes) ≡ false → HasUnknownFormat operation attributes → ⊥
  has_known_format some means =
      says_known 0x49 HasFormat knows_format refl has_format format_known (codes "document-format") attributes are (describes_document operation) (tells_again operation means.0)
      (ap (λ (o : Option Format). not (is_none o)) (sym (format_as operation attributes)) ∙ ap not some) means.1

  pub asks_for_known : is_none (which_jobs operation attributes) ≡ false → AsksForOthers operation attributes → ⊥
  asks_for_known some means =
      says_known 0x44 HasWhich knows_which refl has_which which_known (codes "which-jobs") attributes are (is_get_jobs operation) (gets_again operation means.0)
      (ap (λ (o : Option Which). not (is_none o)) (sym (which_as operation attributes)) ∙ ap not some) means.1

  same_password : (text : List ℕ) → MakesJob operation → Says (IsUnder 0x30) (codes "job-password") attributes text → password operation attributes ≡ text
  same_password text does says = password_as operation attributes ∙ ap password_in (same_those does) ∙ password_again attributes text (inl says)

  pub has_encryption : (password_encryption_missing_check operation attributes).refused ≡ false → LacksEncryption operation attributes → ⊥
  has_encryption passes means =
      true≢false
      (sym
      (and_from (not (is_empty (password operation attributes))) (is_none (bytes_in (codes "job-password-encryption") those))
      (ap (λ (l : List ℕ). not (is_empty l)) (same_password means.password means.makes means.is_said) ∙ some means.password means.is_some)
      (ap (λ (l : List PlainAttribute). is_none (bytes_in (codes "job-password-encryption") l)) (same_those means.makes)
      ∙ ap (λ (found : Option PlainAttribute). is_none (option_map (λ (value : PlainValue). value.bytes) (value_seen found))) (none_again (codes "job-password-encryption") attributes means.is_missing)))
      ∙ (sym (missing_as operation attributes) ∙ passes))
    where
      some : (text : List ℕ) → text ≢ [] → not (is_empty text) ≡ true
      some [] is = absurd (is refl)
      some (c ∷ rest) is = refl

  pub has_short_password : nat_lt longest_password (length (password operation attributes)) ≡ false → HasLongPassword operation attributes → ⊥
  has_short_password short means =
      let fits : length means.1.0 ≤ 32 = subst (λ (l : List ℕ). length l ≤ 32) (same_password means.1.0 means.0 means.1.1) (ltb-false longest_password (length (password operation attributes)) short) in
      omega (arith, fits, means.1.2)

  pub has_short_name : nat_lt longest_job_name (length (job_name operation attributes)) ≡ false → HasLongName operation attributes → ⊥
  has_short_name short means = by means.1.0 means.1.2 (name_as operation attributes ∙ ap name_in (same_those means.0) ∙ name_again_in attributes means.1.0 (inl means.1.1))
    where
      by : (text : List ℕ) → 255 < length text → job_name operation attributes ≡ or_untitled text → ⊥
      by [] long is = omega (arith, long)
      by (c ∷ rest) long is =
          let fits : length (c ∷ rest) ≤ 255 = subst (λ (l : List ℕ). length l ≤ 255) is (ltb-false longest_job_name (length (job_name operation attributes)) short) in
          omega (arith, fits, long)

  pub insists_again : MakesJob operation → Says IsBoolean (codes "ipp-attribute-fidelity") attributes true → fidelity operation attributes ≡ true
  insists_again does says = fidelity_as operation attributes ∙ ap (boolean_in (codes "ipp-attribute-fidelity")) (same_those does) ∙ boolean_in_again (codes "ipp-attribute-fidelity") attributes true (inl says)
