-- Two bodies that spell one message but for the password are read alike.
use Rattle.std.proofs.Common.{◌≡◌, ℕ, ◌==◌, ◌&&◌, ◌||◌, Bool, true, false, cond, not, nat_lt, bytes_eq, codes, is_none, is_some, unwrap_or, drop, List, [], ◌∷◌, ◌++◌, map, length, Option, Some, None, option_map, refl, sym, ap, subst, ◌∙◌, arith}
use Rattle.std.specs.List.{AllByRecursion, find, list_any}
use Rattle.std.specs.Option.{option_and_then}
use Rattle.std.proofs.lemmas.Bool.{true≢false}
use Rattle.std.proofs.lemmas.Bool.Decides.{nat_tests}
use Rattle.std.proofs.lemmas.Option.{none-some, same_Some}
use Rattle.std.proofs.lemmas.Slice.Eq.{bytes_eq-Decides}
use Rattle.ipp_coding.specs.Limits.{header_length}
use Rattle.ipp_coding.specs.Plain.{PlainAttribute, PlainGroup, PlainMessage, PlainValue}
use Rattle.ipp_coding.specs.Reading.{◌>>=◌, groups_at, header_in, message_of, payload_at}
use Rattle.ipp_coding.specs.declared.message.Header.{Header}
use Rattle.account_asks.specs.Asks.{PlainAsk, PlainRefusal, ask_of, asked, assembled, read_as}
use Rattle.account_asks.specs.CheckOrder.{attribute_checks, checks, document_checks, field_checks, header_checks, message_checks, opening_checks, target_checks}
use Rattle.account_asks.specs.Checks.{is_empty, is_utf_8, malformed_check, target_of}
use Rattle.account_asks.specs.Fields.{all_fields, any_is_wrong, document_format, fidelity, fields_of, impressions, is_none_if_said, is_wrong, job_name, last_document, limit, password, value_of, values_of, wanted, which_jobs}
use Rattle.account_asks.specs.Operations.{describes_document, is_for_job, is_get_jobs, is_send_document, lists_attributes, makes_job, operation_of}
use Rattle.account_asks.specs.Refusals.{Check, first_refusal, refused_where, unless_refused}
use Rattle.account_asks.specs.Requests.{charset_first, is_named, job_group_of, language_second, lone_value, named, operation_attributes, operation_group_of, single_if_named, single_under}
use Rattle.account_asks.specs.Targets.{JobUri, NamedTarget, PrinterUri, at_job, job_numbered, lone_integer, reached, target_in, uri_of}
use Rattle.account_asks.specs.Templates.{copies, template_attributes, unsupported}
use Rattle.account_asks.specs.declared.operation.Operation.{Operation}
use Rattle.account_laws.specs.OtherPasswords.{AlikeButForPassword, CanBeGiven, groups_with, message_with, with_password}
use Rattle.account_laws.specs.PasswordsStaySecret.{AreReadAlike, AskAlike}
use Rattle.account_asks.specs.declared.ask.Which.TheVariants as whiches
use Rattle.account_rules.specs.Limits.{longest_job_name, longest_password, longest_uri}
use Rattle.account_rules.specs.declared.format.Format.TheVariants as formats
use Rattle.account_rules.specs.declared.refusal.Word.TheVariants as words

-- ---- one attribute

-- the values, all with these bytes
abbrev all_with : List ℕ → List PlainValue → List PlainValue
all_with p values = map (λ (value : PlainValue). record value { bytes = p }) values

abbrev changed : (p : List ℕ) (is_password : Bool) → PlainAttribute → PlainAttribute
changed p is_password attribute = cond {A = PlainAttribute} is_password (record attribute { values = all_with p attribute.values }) attribute

same_name : (p : List ℕ) (a : PlainAttribute) → (with_password p a).name ≡ a.name
same_name p a = elim (is_named (codes "job-password") a) as (λ (b : Bool). (changed p b a).name ≡ a.name) [ true ↦ refl | false ↦ refl ]

still_named : (p name : List ℕ) (a : PlainAttribute) → is_named name (with_password p a) ≡ is_named name a
still_named p name a = ap (λ (n : List ℕ). bytes_eq n name) (same_name p a)

-- one of another name is the same
other_same : (p name : List ℕ) (a : PlainAttribute) → bytes_eq name (codes "job-password") ≡ false → is_named name a ≡ true → with_password p a ≡ a
other_same p name a other is =
    let its : a.name ≡ name = (bytes_eq-Decides a.name name).0 is in
    ap (λ (b : Bool). changed p b a) (ap (λ (n : List ℕ). bytes_eq n (codes "job-password")) its ∙ other)

-- ---- the first of a name

found_by : (p name : List ℕ) (a : PlainAttribute) (rest other : Option PlainAttribute) → bytes_eq name (codes "job-password") ≡ false → rest ≡ other → (b : Bool) → is_named name a ≡ b
    → cond b (Some (with_password p a)) rest ≡ cond b (Some a) other
found_by p name a rest other differs same true is = ap Some (other_same p name a differs is)
found_by p name a rest other differs same false isnt = same

named_other : (p name : List ℕ) (attributes : List PlainAttribute) → bytes_eq name (codes "job-password") ≡ false → named name (map (with_password p) attributes) ≡ named name attributes
named_other p name [] differs = refl
named_other p name (a ∷ attributes) differs =
    ap (λ (b : Bool). cond b (Some (with_password p a)) (named name (map (with_password p) attributes))) (still_named p name a)
    ∙ found_by p name a (named name (map (with_password p) attributes)) (named name attributes) differs (named_other p name attributes differs) (is_named name a) refl

named_password : (p : List ℕ) (attributes : List PlainAttribute) → named (codes "job-password") (map (with_password p) attributes) ≡ option_map (changed p true) (named (codes "job-password") attributes)
named_password p [] = refl
named_password p (a ∷ attributes) =
    ap (λ (b : Bool). cond b (Some (with_password p a)) (named (codes "job-password") (map (with_password p) attributes))) (still_named p (codes "job-password") a)
    ∙ by (is_named (codes "job-password") a) refl (named_password p attributes)
  where
    by : (b : Bool) → is_named (codes "job-password") a ≡ b → named (codes "job-password") (map (with_password p) attributes) ≡ option_map (changed p true) (named (codes "job-password") attributes)
        → cond b (Some (with_password p a)) (named (codes "job-password") (map (with_password p) attributes)) ≡ option_map (changed p true) (cond b (Some a) (named (codes "job-password") attributes))
    by true is rest = ap (λ (b : Bool). Some (changed p b a)) is
    by false isnt rest = rest

-- ---- the first and the second attribute

single_other : (p name : List ℕ) (tag : ℕ) (a : PlainAttribute) → bytes_eq name (codes "job-password") ≡ false → single_if_named name tag (with_password p a) ≡ single_if_named name tag a
single_other p name tag a differs =
    ap (λ (b : Bool). cond b (single_under tag (with_password p a)) None) (still_named p name a)
    ∙ by (is_named name a) refl
  where
    by : (b : Bool) → is_named name a ≡ b → cond b (single_under tag (with_password p a)) None ≡ cond b (single_under tag a) None
    by true is = ap (single_under tag) (other_same p name a differs is)
    by false isnt = refl

charset_same : (p : List ℕ) (attributes : List PlainAttribute) → charset_first (map (with_password p) attributes) ≡ charset_first attributes
charset_same p [] = refl
charset_same p (a ∷ attributes) = single_other p (codes "attributes-charset") 0x47 a refl

language_same : (p : List ℕ) (attributes : List PlainAttribute) → language_second (map (with_password p) attributes) ≡ language_second attributes
language_same p [] = refl
language_same p (a ∷ []) = refl
language_same p (a ∷ b ∷ attributes) = single_other p (codes "attributes-natural-language") 0x48 b refl

-- ---- the groups

attributes_changed : (p : List ℕ) (m : PlainMessage) → operation_attributes (message_with p m) ≡ map (with_password p) (operation_attributes m)
attributes_changed p m = by m.groups
  where
    at : (group : PlainGroup) (b : Bool) → (group.tag == 1) ≡ b
        → unwrap_or (cond {A = Option (List PlainAttribute)} ((cond {A = PlainGroup} b (record group { attributes = map (with_password p) group.attributes }) group).tag == 1) (Some (cond {A = PlainGroup} b (record group { attributes = map (with_password p) group.attributes }) group).attributes) None) []
        ≡ map (with_password p) (unwrap_or (cond {A = Option (List PlainAttribute)} b (Some group.attributes) None) [])
    at group true is = ap (λ (b : Bool). unwrap_or (cond {A = Option (List PlainAttribute)} b (Some (map (with_password p) group.attributes)) None) []) is
    at group false isnt = ap (λ (b : Bool). unwrap_or (cond {A = Option (List PlainAttribute)} b (Some group.attributes) None) []) isnt

    by : (groups : List PlainGroup) → unwrap_or (operation_group_of (groups_with p groups)) [] ≡ map (with_password p) (unwrap_or (operation_group_of groups) [])
    by [] = refl
    by (group ∷ groups) = at group (group.tag == 1) refl

not_two : (tag : ℕ) → (tag == 1) ≡ true → (tag == 2) ≡ false
not_two tag is = grind (arith, nat_tests)

job_group_same : (p : List ℕ) (groups : List PlainGroup) → job_group_of (groups_with p groups) ≡ job_group_of groups
job_group_same p [] = refl
job_group_same p (group ∷ groups) = ap (option_map (λ (g : PlainGroup). g.attributes)) (at (group.tag == 1) refl)
  where
    at : (b : Bool) → (group.tag == 1) ≡ b
        → find (λ (g : PlainGroup). g.tag == 2) (cond {A = PlainGroup} b (record group { attributes = map (with_password p) group.attributes }) group ∷ groups) ≡ find (λ (g : PlainGroup). g.tag == 2) (group ∷ groups)
    at true is =
        ap (λ (b : Bool). cond b (Some (record group { attributes = map (with_password p) group.attributes })) (find (λ (g : PlainGroup). g.tag == 2) groups)) (not_two group.tag is)
        ∙ sym (ap (λ (b : Bool). cond b (Some group) (find (λ (g : PlainGroup). g.tag == 2) groups)) (not_two group.tag is))
    at false isnt = refl

pub template_same : (p : List ℕ) (operation : Operation) (m : PlainMessage) → template_attributes operation (message_with p m) ≡ template_attributes operation m
unfolding template_attributes
template_same p operation m = ap (λ (group : Option (List PlainAttribute)). cond (makes_job operation) (unwrap_or group []) []) (job_group_same p m.groups)

-- ---- what is said

-- the values of an attribute that an operation reads
abbrev said_in : (reads : Bool) (name : List ℕ) → List PlainAttribute → Option (List PlainValue)
said_in reads name attributes = cond {A = Option (List PlainValue)} reads (option_map (λ (a : PlainAttribute). a.values) (named name attributes)) None

any_agrees : {X : Type 0} (f g : X → Bool) (xs : List X) → AllByRecursion (λ (x : X). f x ≡ g x) xs → list_any f xs ≡ list_any g xs
any_agrees f g [] same = refl
any_agrees f g (x ∷ xs) same = λ i. same.0 i || any_agrees f g xs same.1 i

module _ (p : List ℕ) (operation : Operation) (attributes : List PlainAttribute) where
  abbrev others : List PlainAttribute
  others = map (with_password p) attributes

  same_said : (reads : Bool) (name : List ℕ) → bytes_eq name (codes "job-password") ≡ false → said_in reads name others ≡ said_in reads name attributes
  same_said reads name differs = ap (λ (a : Option PlainAttribute). cond {A = Option (List PlainValue)} reads (option_map (λ (a : PlainAttribute). a.values) a) None) (named_other p name attributes differs)

  name_same : job_name operation others ≡ job_name operation attributes
  unfolding job_name value_of values_of
  name_same = rw (same_said (makes_job operation) (codes "job-name") refl) refl

  fidelity_same : fidelity operation others ≡ fidelity operation attributes
  unfolding fidelity value_of values_of
  fidelity_same = rw (same_said (makes_job operation) (codes "ipp-attribute-fidelity") refl) refl

  impressions_same : impressions operation others ≡ impressions operation attributes
  unfolding impressions value_of values_of
  impressions_same = rw (same_said (makes_job operation) (codes "job-impressions") refl) refl

  last_same : last_document operation others ≡ last_document operation attributes
  unfolding last_document value_of values_of
  last_same = rw (same_said (is_send_document operation) (codes "last-document") refl) refl

  limit_same : limit operation others ≡ limit operation attributes
  unfolding limit value_of values_of
  limit_same = rw (same_said (is_get_jobs operation) (codes "limit") refl) refl

  wanted_same : wanted operation others ≡ wanted operation attributes
  unfolding wanted values_of
  wanted_same = rw (same_said (lists_attributes operation) (codes "requested-attributes") refl) refl

  which_same : which_jobs operation others ≡ which_jobs operation attributes
  unfolding which_jobs value_of values_of
  which_same = rw (same_said (is_get_jobs operation) (codes "which-jobs") refl) refl

  format_same : document_format operation others ≡ document_format operation attributes
  unfolding document_format value_of values_of
  format_same = rw (same_said (describes_document operation) (codes "document-format") refl) refl

  target_same : target_in operation others ≡ target_in operation attributes
  unfolding target_in
  target_same =
      let printer = named_other p (codes "printer-uri") attributes refl in
      let job_uri = named_other p (codes "job-uri") attributes refl in
      let job_id = named_other p (codes "job-id") attributes refl in
      λ i.
      cond {A = Option NamedTarget} (is_for_job operation)
      (cond {A = Option NamedTarget} (is_some (printer i))
      (option_and_then (λ (uri : List ℕ). option_map (λ (job : ℕ). PrinterUri uri job) (option_map job_numbered (option_and_then lone_integer (job_id i)))) (option_and_then (single_under 0x45) (printer i)))
      (option_map (λ (uri : List ℕ). JobUri uri) (option_and_then (single_under 0x45) (job_uri i))))
      (option_map (λ (uri : List ℕ). PrinterUri uri 0) (option_and_then (single_under 0x45) (printer i)))

  -- the value of the password
  abbrev kept : Option PlainValue
  kept = option_and_then lone_value (said_in (makes_job operation) (codes "job-password") attributes)

  lone_with : (values : List PlainValue) → lone_value (all_with p values) ≡ option_map (λ (value : PlainValue). record value { bytes = p }) (lone_value values)
  lone_with [] = refl
  lone_with (value ∷ []) = refl
  lone_with (value ∷ other ∷ values) = refl

  kept_with : (reads : Bool) (a : Option PlainAttribute) →
      option_and_then lone_value (cond {A = Option (List PlainValue)} reads (option_map (λ (a : PlainAttribute). a.values) (option_map (changed p true) a)) None)
      ≡ option_map (λ (value : PlainValue). record value { bytes = p }) (option_and_then lone_value (cond {A = Option (List PlainValue)} reads (option_map (λ (a : PlainAttribute). a.values) a) None))
  kept_with true None = refl
  kept_with true (Some a) = lone_with a.values
  kept_with false a = refl

  pub password_with : password operation others ≡ unwrap_or (option_map (λ (value : PlainValue). p) kept) []
  unfolding password value_of values_of
  password_with =
      ap (λ (a : Option PlainAttribute). unwrap_or (option_map (λ (value : PlainValue). value.bytes) (option_and_then lone_value (cond {A = Option (List PlainValue)} (makes_job operation) (option_map (λ (a : PlainAttribute). a.values) a) None))) []) (named_password p attributes)
      ∙ ap (λ (value : Option PlainValue). unwrap_or (option_map (λ (value : PlainValue). value.bytes) value) []) (kept_with (makes_job operation) (named (codes "job-password") attributes))
      ∙ by kept
    where
      by : (value : Option PlainValue) → unwrap_or (option_map (λ (value : PlainValue). value.bytes) (option_map (λ (value : PlainValue). record value { bytes = p }) value)) [] ≡ unwrap_or (option_map (λ (value : PlainValue). p) value) []
      by None = refl
      by (Some value) = refl

  -- ---- and it is of its syntax

  -- a password is of its own, whatever its bytes
  abbrev is_octets : Option PlainValue → Bool
  is_octets None = false
  is_octets (Some value) = value.tag == 0x30

  abbrev octets_well : Option PlainAttribute → Bool
  octets_well None = true
  octets_well (Some attribute) = is_octets (lone_value attribute.values)

  lone_well : (value : Option PlainValue) → is_octets (option_map (λ (value : PlainValue). record value { bytes = p }) value) ≡ is_octets value
  lone_well None = refl
  lone_well (Some value) = refl

  password_well : (found : Option PlainAttribute) → octets_well (option_map (changed p true) found) ≡ octets_well found
  password_well None = refl
  password_well (Some a) = ap is_octets (lone_with a.values) ∙ lone_well (lone_value a.values)

  any_same : any_is_wrong operation others ≡ any_is_wrong operation attributes
  unfolding any_is_wrong is_wrong
  any_same = any_agrees (is_wrong operation others) (is_wrong operation attributes) all_fields (
    rw (named_other p (codes "job-name") attributes refl) refl,
    (
      rw (named_other p (codes "ipp-attribute-fidelity") attributes refl) refl,
      (
        rw (named_other p (codes "job-impressions") attributes refl) refl,
        (
          ap (λ (o : Option PlainAttribute). makes_job operation && not (octets_well o)) (named_password p attributes) ∙ ap (λ (b : Bool). makes_job operation && not b) (password_well (named (codes "job-password") attributes)),
          (
            rw (named_other p (codes "job-password-encryption") attributes refl) refl,
            (
              rw (named_other p (codes "document-format") attributes refl) refl,
              (
                rw (named_other p (codes "compression") attributes refl) refl,
                (
                  rw (named_other p (codes "last-document") attributes refl) refl,
                  (
                    rw (named_other p (codes "which-jobs") attributes refl) refl,
                    (
                      rw (named_other p (codes "limit") attributes refl) refl,
                      (
                        rw (named_other p (codes "my-jobs") attributes refl) refl,
                        (
                          rw (named_other p (codes "requested-attributes") attributes refl) refl,
                          tt,
                        ),
                      ),
                    ),
                  ),
                ),
              ),
            ),
          ),
        ),
      ),
    ),
  )

-- ---- a message

module _ (account : List ℕ) (p q : List ℕ) (can : CanBeGiven p) (can_too : CanBeGiven q) (operation : Operation) (attributes : List PlainAttribute) where
  abbrev one : List PlainAttribute
  one = map (with_password p) attributes

  abbrev other : List PlainAttribute
  other = map (with_password q) attributes

  opening : opening_checks one ≡ opening_checks other
  unfolding opening_checks
  opening =
      let charset = charset_same p attributes ∙ sym (charset_same q attributes) in
      let language = language_same p attributes ∙ sym (language_same q attributes) in
      λ i. refused_where (not (is_some (charset i) && is_some (language i))) 0x0400 words.CharsetAndLanguage ∷ refused_where (not (is_utf_8 (charset i))) 0x040D words.Charset ∷ []

  target : target_in operation one ≡ target_in operation other
  target = target_same p operation attributes ∙ sym (target_same q operation attributes)

  targets : target_checks account operation one ≡ target_checks account operation other
  unfolding target_checks
  targets = λ i.
      let named : NamedTarget = unwrap_or (target i) (JobUri []) in
      refused_where (is_none (target i)) 0x0400 words.Target ∷ refused_where (nat_lt longest_uri (length (uri_of named))) 0x0409 words.TargetTooLong ∷ refused_where (is_none (reached account named)) 0x0406 words.NotThisQueue ∷ []

  same_target : target_of account operation one ≡ target_of account operation other
  unfolding target_of
  same_target = λ i. unwrap_or (reached account (unwrap_or (target i) (JobUri []))) (at_job [] 0)

  -- both are there, or neither
  has_some : (p : List ℕ) → CanBeGiven p → (value : Option PlainValue) → is_empty (unwrap_or (option_map (λ (value : PlainValue). p) value) []) ≡ is_none value
  has_some p can None = refl
  has_some [] can (Some value) = absurd (can.some_bytes refl)
  has_some (byte ∷ p) can (Some value) = refl

  -- and both are short enough
  is_short : (p : List ℕ) → CanBeGiven p → (value : Option PlainValue) → nat_lt longest_password (length (unwrap_or (option_map (λ (value : PlainValue). p) value) [])) ≡ false
  is_short p can None = refl
  is_short p can (Some value) = let short = can.short_enough in grind (arith, nat_tests)

  -- the value that the password has in both
  abbrev value : Option PlainValue
  value = option_and_then lone_value (said_in (makes_job operation) (codes "job-password") attributes)

  given_in_both : is_empty (password operation one) ≡ is_empty (password operation other)
  given_in_both =
      ap is_empty (password_with p operation attributes) ∙ has_some p can value
      ∙ sym (ap is_empty (password_with q operation attributes) ∙ has_some q can_too value)

  short_in_both : nat_lt longest_password (length (password operation one)) ≡ nat_lt longest_password (length (password operation other))
  short_in_both =
      ap (λ (given : List ℕ). nat_lt longest_password (length given)) (password_with p operation attributes) ∙ is_short p can value
      ∙ sym (ap (λ (given : List ℕ). nat_lt longest_password (length given)) (password_with q operation attributes) ∙ is_short q can_too value)

  -- what one says in a keyword
  abbrev bytes_said : Option (List PlainValue) → Option (List ℕ)
  bytes_said values = option_map (λ (value : PlainValue). value.bytes) (option_and_then lone_value values)

  in_both : (reads : Bool) (name : List ℕ) → bytes_eq name (codes "job-password") ≡ false → said_in reads name one ≡ said_in reads name other
  in_both reads name differs = same_said p operation attributes reads name differs ∙ sym (same_said q operation attributes reads name differs)

  field : field_checks operation one ≡ field_checks operation other
  unfolding field_checks value_of values_of
  field =
      let wrong = any_same p operation attributes ∙ sym (any_same q operation attributes) in
      let compression = in_both (describes_document operation) (codes "compression") refl in
      let encryption = in_both (makes_job operation) (codes "job-password-encryption") refl in
      let format = format_same p operation attributes ∙ sym (format_same q operation attributes) in
      let which = which_same p operation attributes ∙ sym (which_same q operation attributes) in
      let name = name_same p operation attributes ∙ sym (name_same q operation attributes) in
      λ i.
      refused_where (wrong i) 0x0400 words.Syntax
      ∷ refused_where (not (is_none_if_said (bytes_said (compression i)))) 0x040F words.Compression
      ∷ refused_where (is_none (format i)) 0x040A words.DocumentFormat
      ∷ refused_where (is_none (which i)) 0x040B words.WhichJobs
      ∷ refused_where (not (given_in_both i) && is_none (bytes_said (encryption i))) 0x0400 words.PasswordEncryptionMissing
      ∷ refused_where (not (is_none_if_said (bytes_said (encryption i)))) 0x040B words.PasswordEncryption
      ∷ refused_where (short_in_both i) 0x0409 words.PasswordTooLong
      ∷ refused_where (nat_lt longest_job_name (length (name i))) 0x0409 words.JobNameTooLong
      ∷ []

  all_attributes : attribute_checks account operation one ≡ attribute_checks account operation other
  unfolding attribute_checks
  all_attributes = λ i. opening i ++ (targets i ++ field i)

  fidelity_both : fidelity operation one ≡ fidelity operation other
  fidelity_both = fidelity_same p operation attributes ∙ sym (fidelity_same q operation attributes)

  -- what it asks but for the password
  pub all_fields_same : record (fields_of operation one) { password = [] } ≡ record (fields_of operation other) { password = [] }
  unfolding fields_of
  all_fields_same =
      let format = format_same p operation attributes ∙ sym (format_same q operation attributes) in
      let which = which_same p operation attributes ∙ sym (which_same q operation attributes) in
      let name = name_same p operation attributes ∙ sym (name_same q operation attributes) in
      let impressions = impressions_same p operation attributes ∙ sym (impressions_same q operation attributes) in
      let last = last_same p operation attributes ∙ sym (last_same q operation attributes) in
      let limit = limit_same p operation attributes ∙ sym (limit_same q operation attributes) in
      λ i. record {
        insists = fidelity_both i;
        name = name i;
        password = [];
        impressions = impressions i;
        format = unwrap_or (format i) formats.OctetStream;
        last = last i;
        which = unwrap_or (which i) whiches.NotCompleted;
        limit = limit i;
      }

  none_too : password operation one ≡ [] → password operation other ≡ []
  none_too none = empty_is (password operation other) (sym given_in_both ∙ ap is_empty none)
    where
      empty_is : (given : List ℕ) → is_empty given ≡ true → given ≡ []
      empty_is [] is = refl
      empty_is (byte ∷ given) is = absurd (true≢false (sym is))

module _ (account : List ℕ) (header : Header) (m : PlainMessage) (p q : List ℕ) (can : CanBeGiven p) (can_too : CanBeGiven q) where
  abbrev operation : Operation
  operation = operation_of header

  abbrev its : List PlainAttribute
  its = operation_attributes m

  abbrev template : List PlainAttribute
  template = template_attributes operation m

  -- all checks of a message, by its attributes
  abbrev checks_by : (attributes template : List PlainAttribute) → List Check
  checks_by attributes template = attribute_checks account operation attributes ++ document_checks operation (fidelity operation attributes) (unsupported template) m.payload

  checked_by : (p : List ℕ) → message_checks account operation (message_with p m) ≡ checks_by (map (with_password p) its) template
  unfolding message_checks
  checked_by p = λ i. checks_by (attributes_changed p m i) (template_same p operation m i)

  checks_same : checks account header (Some (message_with p m)) ≡ checks account header (Some (message_with q m))
  checks_same =
      let attributes = all_attributes account p q can can_too operation its in
      let insists = fidelity_both account p q can can_too operation its in
      let both : message_checks account operation (message_with p m) ≡ message_checks account operation (message_with q m) =
      checked_by p ∙ (λ i. attributes i ++ document_checks operation (insists i) (unsupported template) m.payload) ∙ sym (checked_by q) in
      λ i. header_checks header ++ (malformed_check (Some m) ∷ both i)

  -- what is asked, by its attributes
  abbrev asked_by : (attributes template : List PlainAttribute) → PlainAsk
  asked_by attributes template =
      assembled header operation (target_of account operation attributes) (fields_of operation attributes) (wanted operation attributes) (copies template) (unsupported template) m.payload

  asked_so : (p : List ℕ) → asked account header operation (message_with p m) ≡ asked_by (map (with_password p) its) template
  unfolding asked
  asked_so p = λ i. asked_by (attributes_changed p m i) (template_same p operation m i)

  its_password : (attributes : List PlainAttribute) → (asked_by attributes template).password ≡ password operation attributes
  unfolding fields_of
  its_password attributes = refl

  asked_alike : AskAlike (asked_by (map (with_password p) its) template) (asked_by (map (with_password q) its) template)
  asked_alike =
      let target = same_target account p q can can_too operation its in
      let fields = all_fields_same account p q can can_too operation its in
      let names = wanted_same p operation its ∙ sym (wanted_same q operation its) in
      record {
        rest = λ i. assembled header operation (target i) (fields i) (names i) (copies template) (unsupported template) m.payload;
        both = (
          λ none. its_password (map (with_password q) its) ∙ none_too account p q can can_too operation its (sym (its_password (map (with_password p) its)) ∙ none),
          λ none. its_password (map (with_password p) its) ∙ none_too account q p can_too can operation its (sym (its_password (map (with_password q) its)) ∙ none),
        );
      }

  either_alike : (refused : Option PlainRefusal) (x y : PlainAsk) → AskAlike x y → AreReadAlike (unless_refused refused x) (unless_refused refused y)
  either_alike None x y alike = alike
  either_alike (Some refusal) x y alike = refl

  read_alike : AreReadAlike (read_as account header (Some (message_with p m))) (read_as account header (Some (message_with q m)))
  read_alike =
      let x = asked account header operation (message_with p m) in
      let y = asked account header operation (message_with q m) in
      let alike : AskAlike x y = subst (λ (ask : PlainAsk). AskAlike ask y) (sym (asked_so p)) (subst (λ (ask : PlainAsk). AskAlike (asked_by (map (with_password p) its) template) ask) (sym (asked_so q)) asked_alike) in
      subst (λ (all : List Check). AreReadAlike (unless_refused (first_refusal all) x) (unless_refused (first_refusal (checks account header (Some (message_with q m)))) y)) (sym checks_same)
      (either_alike (first_refusal (checks account header (Some (message_with q m)))) x y alike)

-- ---- a body

begins : (short : Bool) (header : Header) (groups : Option (List PlainGroup × List ℕ)) (m : PlainMessage)
    → ((cond {A = Option Header} short None (Some header)) >>= λ header. groups >>= λ groups. payload_at groups.1 >>= λ payload. Some (record { header = header; groups = groups.0; payload = payload })) ≡ Some m
    → (short ≡ false) × (header ≡ m.header)
begins true header groups m is = absurd (none-some m is)
begins false header None m is = absurd (none-some m is)
begins false header (Some groups) m is = by (payload_at groups.1) is
  where
    by : (payload : Option (List ℕ)) → (payload >>= λ payload. Some (record { header = header; groups = groups.0; payload = payload })) ≡ Some m → (false ≡ false) × (header ≡ m.header)
    by None is = absurd (none-some m is)
    by (Some payload) is = (refl, ap (λ (message : PlainMessage). message.header) (same_Some (record { header = header; groups = groups.0; payload = payload }) m is))

body_begins : (bytes : List ℕ) (m : PlainMessage) → message_of bytes ≡ Some m → (nat_lt (length bytes) header_length ≡ false) × (header_in bytes ≡ m.header)
unfolding message_of
body_begins bytes m is = begins (nat_lt (length bytes) header_length) (header_in bytes) (groups_at (drop header_length bytes)) m is

pub alike_but_for_password : AlikeButForPassword
unfolding ask_of
alike_but_for_password account a b m p q is is_too can can_too =
    let first = body_begins a (message_with p m) is in
    let second = body_begins b (message_with q m) is_too in
    let header = first.1 ∙ sym second.1 in
    record {
      header = header;
      short = first.0 ∙ sym second.0;
      read =
          subst (λ (o : Option PlainMessage). AreReadAlike (read_as account (header_in a) o) (read_as account (header_in b) (message_of b))) (sym is)
          (subst (λ (o : Option PlainMessage). AreReadAlike (read_as account (header_in a) (Some (message_with p m))) (read_as account (header_in b) o)) (sym is_too)
          (subst (λ (h : Header). AreReadAlike (read_as account (header_in a) (Some (message_with p m))) (read_as account h (Some (message_with q m)))) header (read_alike account (header_in a) m p q can can_too)));
    }
