-- A request asks what its bytes spell.
use Rattle.std.proofs.Common.{◌≡◌, ◌⊎◌, inl, inr, ℕ, ◌≤◌, Bool, true, false, true≢false, cond, ◌==◌, codes, List, [], ◌∷◌, drop, length, nat_lt, Option, Some, None, is_none, is_some, unwrap_or, Ok, refl, sym, ap, subst, ◌∙◌}
use Rattle.std.specs.Str.{bytes_eq}
use Rattle.std.proofs.lemmas.Bool.{and_parts, eqb-true, ltb-false, not-false, or_cases}
use Rattle.std.proofs.lemmas.Option.{none-some, same_Some}
use Rattle.std.proofs.lemmas.Slice.Eq.{bytes_eq-Decides}
use Rattle.ipp_coding.proofs.Wholes.{message_again, message_spells}
use Rattle.ipp_coding.specs.Plain.{PlainAttribute, PlainGroup, PlainMessage}
use Rattle.ipp_coding.proofs.Steps.{bind_gave}
use Rattle.ipp_coding.specs.Limits.{header_length}
use Rattle.ipp_coding.specs.Reading.{◌>>=◌, groups_at, header_at, header_in, message_of, payload_at}
use Rattle.ipp_coding.specs.declared.message.Header.{Header}
use Rattle.account_asks.specs.Asks.{PlainAsk, ask_of, asked, read_as}
use Rattle.account_asks.specs.CheckOrder.{checks}
use Rattle.account_asks.specs.Checks.{begins_well, is_utf_8}
use Rattle.account_asks.specs.Fields.{fidelity, fields_of, is_none_if_said, job_name, last_document, password, wanted}
use Rattle.account_asks.specs.Operations.{describes_document, hands_in_document, is_get_jobs, is_send_document, lists_attributes, makes_job, operation_of}
use Rattle.account_asks.specs.Refusals.{first_refusal}
use Rattle.account_asks.specs.Requests.{charset_first, is_served_version, language_second, operation_attributes, operation_group_of, single_if_named, single_under}
use Rattle.account_asks.specs.Templates.{copies, template_attributes, unsupported}
use Rattle.account_asks.specs.declared.ask.Which.{Which}
use Rattle.account_asks.specs.declared.ask.Which.TheVariants.{NotCompleted}
use Rattle.account_asks.specs.declared.operation.Operation.{Operation}
use Rattle.account_laws.proofs.FirstFound.{passed, second_false}
use Rattle.account_laws.proofs.NamedTargets.{is_for, single_is}
use Rattle.account_laws.proofs.PassedChecks.{Passes, all_pass, nothing_asked}
use Rattle.account_laws.proofs.ServedIds.{code_is, served_is}
use Rattle.account_laws.proofs.SpelledAttributes.{AreGroupsOf, AreOf, message_bytes}
use Rattle.account_laws.proofs.SpelledFields.{Groups, boolean_in, boolean_or, bytes_in, copies_are_said, encryption_told, format_is_said, impressions_said, insisted, is_named, job_group_is, last_said, limit_said, none_said, password_said, some_of, wanted_said, which_said}
use Rattle.account_laws.proofs.SpelledOperations.{AllWell, SaysEach, SaysLast, all_said, are_well, compression_as, encryption_as, fidelity_as, format_as, groups_seen, impressions_as, last_as, last_is_well, limit_as_seen, missing_as, name_as, password_as, seen, seen_of, template_as, wanted_as, which_as}
use Rattle.account_laws.proofs.SpelledTemplates.{unsupported_back}
use Rattle.account_laws.specs.AsksLieWithin.{AreBytes}
use Rattle.account_laws.specs.SpelledAsks.{AsksAreSpelled, HasCharset, IsServed, IsSpelled, OfMessage, one_value}
use Rattle.account_laws.specs.SpelledAttributes.{IsBoolean, IsInteger, IsLimit, IsMediaType, IsUnder, IsWhich, SaysOr}
use Rattle.account_laws.specs.SpelledFields.{DescribesDocument, DescribesJob, DescribesList, HandsInDocument, SaysName, SaysNames, SaysPassword, SaysTemplate}
use Rattle.account_rules.specs.Limits.{longest_document, longest_job_name, longest_password}
use Rattle.account_rules.specs.declared.format.Format.{Format}
use Rattle.account_rules.specs.declared.format.Format.TheVariants.{OctetStream}

-- ---- how the message begins

abbrev pub first_attributes : List PlainGroup → List PlainAttribute
first_attributes groups = unwrap_or (operation_group_of groups) []

-- those of the first group are of bytes
pub first_of : (groups : List PlainGroup) → AreGroupsOf groups → AreOf (unwrap_or (operation_group_of groups) [])
first_of [] are = tt
first_of (g ∷ further) are = by (g.tag == 1)
  where
    by : (b : Bool) → AreOf (unwrap_or (cond b (Some g.attributes) None) [])
    by true = are.0
    by false = tt

-- which is 0x01
pub first_group : (groups : List PlainGroup) → begins_well (first_attributes groups) ≡ true → (further : List PlainGroup) × (groups ≡ record { tag = 0x01; attributes = first_attributes groups } ∷ further)
first_group [] well = absurd (true≢false (sym well))
first_group (g ∷ further) well = by (g.tag == 1) refl well
  where
    by : (b : Bool) → (g.tag == 1) ≡ b → begins_well (unwrap_or (cond b (Some g.attributes) None) []) ≡ true → (rest : List PlainGroup) × (g ∷ further ≡ record { tag = 0x01; attributes = first_attributes (g ∷ further) } ∷ rest)
    by true is well = (
      further,
      ap (λ (tag : ℕ). record { tag = tag; attributes = g.attributes } ∷ further) (eqb-true g.tag 1 is)
          ∙ ap (λ (attributes : List PlainAttribute). record { tag = 0x01; attributes = attributes } ∷ further) (sym (ap (λ (b : Bool). unwrap_or (cond b (Some g.attributes) None) []) is)),
    )
    by false isnt well = absurd (true≢false (sym well))

-- an attribute with a name and one value
one_is : (name : List ℕ) (tag : ℕ) (a : PlainAttribute) (bytes : List ℕ) → single_if_named name tag a ≡ Some bytes → a ≡ one_value name tag bytes
one_is name tag a bytes said = by (bytes_eq a.name name) refl said
  where
    by : (b : Bool) → bytes_eq a.name name ≡ b → cond b (single_under tag a) None ≡ Some bytes → a ≡ one_value name tag bytes
    by true same said =
        let named = (bytes_eq-Decides a.name name).0 same in
        let one = single_is tag a bytes said in
        let value : one.0 ∷ [] ≡ record { tag = tag; bytes = bytes } ∷ [] = λ i. record { tag = one.1.1.0 i; bytes = one.1.1.1 i } ∷ [] in
        let values = one.1.0 ∙ value in
        λ i. record { name = named i; values = values i }
    by false other said = absurd (none-some bytes said)

pub record Opens (attributes : List PlainAttribute) : Type 0 where
  pub charset : List ℕ
  pub found : charset_first attributes ≡ Some charset
  pub has : HasCharset charset attributes

pub opens : (attributes : List PlainAttribute) → begins_well attributes ≡ true → Opens attributes
opens [] well = absurd (true≢false (sym well))
opens (a ∷ []) well = let both = and_parts (is_some (charset_first (a ∷ []))) (is_some (language_second (a ∷ []))) well in absurd (true≢false (sym both.1))
opens (a ∷ b ∷ later) well =
    let both = and_parts (is_some (charset_first (a ∷ b ∷ later))) (is_some (language_second (a ∷ b ∷ later))) well in
    let charset = some_of (single_if_named (codes "attributes-charset") 0x47 a) both.0 in
    let language = some_of (single_if_named (codes "attributes-natural-language") 0x48 b) both.1 in
    record {
      charset = charset.0;
      found = charset.1;
      has = record {
        language = language.0;
        later = later;
        are = ap (λ (x : PlainAttribute). x ∷ b ∷ later) (one_is (codes "attributes-charset") 0x47 a charset.0 charset.1)
            ∙ ap (λ (x : PlainAttribute). one_value (codes "attributes-charset") 0x47 charset.0 ∷ x ∷ later) (one_is (codes "attributes-natural-language") 0x48 b language.0 language.1);
      };
    }

-- its header is the one that the bytes begin with
pub header_of : (body : List ℕ) (m : PlainMessage) → message_of body ≡ Some m → m.header ≡ header_in body
unfolding message_of
header_of body m is =
    let a = bind_gave (header_at body) (λ (header : Header). groups_at (drop header_length body) >>= λ (groups : List PlainGroup × List ℕ). payload_at groups.1 >>= λ (payload : List ℕ). Some (record { header = header; groups = groups.0; payload = payload })) m is in
    let b = bind_gave (groups_at (drop header_length body)) (λ (groups : List PlainGroup × List ℕ). payload_at groups.1 >>= λ (payload : List ℕ). Some (record { header = a.0; groups = groups.0; payload = payload })) m a.2 in
    let c = bind_gave (payload_at b.0.1) (λ (payload : List ℕ). Some (record { header = a.0; groups = b.0.0; payload = payload })) m b.2 in
    ap (λ (n : PlainMessage). n.header) (sym (same_Some (record { header = a.0; groups = b.0.0; payload = c.0 }) m c.2)) ∙ from_header (nat_lt (length body) header_length) a.0 a.1
  where
    from_header : (short : Bool) (h : Header) → cond short None (Some (header_in body)) ≡ Some h → h ≡ header_in body
    from_header true h is = absurd (none-some h is)
    from_header false h is = sym (same_Some (header_in body) h is)

-- ---- the header

pub version_is : (header : Header) → is_served_version header ≡ true → IsServed header
version_is header served = by (or_cases (header.major == 1) (header.major == 2) served)
  where
    by : ((header.major == 1) ≡ true) ⊎ ((header.major == 2) ≡ true) → IsServed header
    by (inl one) = inl (eqb-true header.major 1 one)
    by (inr two) = inr (eqb-true header.major 2 two)

-- ---- what it says

module _ (account : List ℕ) (header : Header) (operation : Operation) (m : PlainMessage) (are : AreGroupsOf m.groups) (are_of : AreOf (operation_attributes m)) (passes : Passes account header operation m) where
  well : AllWell operation (operation_attributes m)
  well = are_well operation (operation_attributes m) passes.well

  -- what is seen of them by whether they are read
  are_seen : (reads : Bool) → AreOf (seen reads (operation_attributes m))
  are_seen reads = seen_of reads (operation_attributes m) are_of

  says_password : SaysPassword (seen (makes_job operation) (operation_attributes m)) (password operation (operation_attributes m))
  says_password =
      let attributes = operation_attributes m in
      let those = seen (makes_job operation) attributes in
      let encryption = none_said (codes "job-password-encryption") those (are_seen (makes_job operation)) well.job.encryption (not-false (is_none_if_said (bytes_in (codes "job-password-encryption") those)) (sym (encryption_as operation attributes) ∙ passes.encryption)) in
      record {
        is_said = subst (SaysOr (IsUnder 0x30) [] (codes "job-password") those) (sym (password_as operation attributes)) (password_said those (are_seen (makes_job operation)) well.job);
        fits = ltb-false longest_password (length (password operation attributes)) passes.password_fits;
        encryption = encryption;
        told = encryption_told those (password operation attributes) encryption (sym (missing_as operation attributes) ∙ passes.told);
      }

  says_template : SaysTemplate (seen (makes_job operation) m.groups) (seen (makes_job operation) (operation_attributes m)) (copies (template_attributes operation m)) (unsupported (template_attributes operation m))
  says_template =
      let attributes = operation_attributes m in
      let those = seen (makes_job operation) attributes in
      let template = subst (Groups (seen (makes_job operation) m.groups)) (sym (template_as operation m)) (job_group_is (seen (makes_job operation) m.groups) (groups_seen (makes_job operation) m.groups are)) in
      record {
        template = template_attributes operation m;
        is_template = template.are;
        copies_said = copies_are_said (template_attributes operation m) template.are_of;
        go_back = unsupported_back (template_attributes operation m) template.are_of;
        insists = fidelity operation attributes;
        fidelity = subst (SaysOr IsBoolean false (codes "ipp-attribute-fidelity") those) (sym (fidelity_as operation attributes)) (boolean_or (codes "ipp-attribute-fidelity") those (are_seen (makes_job operation)) well.job.fidelity);
        all_supported = insisted (fidelity operation attributes) (unsupported (template_attributes operation m)) passes.template;
      }

  says_job : DescribesJob (seen (makes_job operation) m.groups) (seen (makes_job operation) (operation_attributes m)) (asked account header operation m)
  unfolding asked fields_of
  says_job =
      let attributes = operation_attributes m in
      let those = seen (makes_job operation) attributes in
      let same = name_as operation attributes in
      let short = subst (λ (name : List ℕ). length name ≤ 255) same (ltb-false longest_job_name (length (job_name operation attributes)) passes.name_fits) in
      record {
        name = subst (SaysName those) (sym same) (is_named those (are_seen (makes_job operation)) well.job short);
        password = says_password;
        impressions = subst (SaysOr IsInteger 0 (codes "job-impressions") those) (sym (impressions_as operation attributes)) (impressions_said those (are_seen (makes_job operation)) well.job);
        template = says_template;
      }

  says_document : DescribesDocument (seen (describes_document operation) (operation_attributes m)) (asked account header operation m)
  unfolding asked fields_of
  says_document =
      let attributes = operation_attributes m in
      let those = seen (describes_document operation) attributes in
      let same = format_as operation attributes in
      record {
        format = subst (λ (format : Option Format). SaysOr IsMediaType OctetStream (codes "document-format") those (unwrap_or format OctetStream)) (sym same) (format_is_said those (are_seen (describes_document operation)) well.document (ap is_none (sym same) ∙ passes.format));
        compression = none_said (codes "compression") those (are_seen (describes_document operation)) well.document.compression (not-false (is_none_if_said (bytes_in (codes "compression") those)) (sym (compression_as operation attributes) ∙ passes.compression));
      }

  hands_in : hands_in_document operation ≡ true → HandsInDocument (asked account header operation m)
  unfolding asked
  hands_in hands = ltb-false longest_document (length m.payload) (second_false (hands_in_document operation) (nat_lt longest_document (length m.payload)) passes.document hands)

  says_last : SaysLast (is_send_document operation) (operation_attributes m) (last_document operation (operation_attributes m))
  says_last = subst (SaysLast (is_send_document operation) (operation_attributes m)) (sym (last_as operation (operation_attributes m))) (by (is_send_document operation) well.last)
    where
      by : (reads : Bool) → last_is_well reads (operation_attributes m) ≡ true → SaysLast reads (operation_attributes m) (boolean_in (codes "last-document") (seen reads (operation_attributes m)))
      by true there = last_said (operation_attributes m) are_of there
      by false there = refl

  says_list : DescribesList (seen (is_get_jobs operation) (operation_attributes m)) (asked account header operation m)
  unfolding asked fields_of
  says_list =
      let attributes = operation_attributes m in
      let those = seen (is_get_jobs operation) attributes in
      let same = which_as operation attributes in
      record {
        which = subst (λ (which : Option Which). SaysOr IsWhich NotCompleted (codes "which-jobs") those (unwrap_or which NotCompleted)) (sym same) (which_said those (are_seen (is_get_jobs operation)) well.list (ap is_none (sym same) ∙ passes.which));
        limit = subst (SaysOr IsLimit None (codes "limit") those) (sym (limit_as_seen operation attributes)) (limit_said those (are_seen (is_get_jobs operation)) well.list);
        mine = boolean_in (codes "my-jobs") those;
        my_jobs = boolean_or (codes "my-jobs") those (are_seen (is_get_jobs operation)) well.list.mine;
      }

  says_names : SaysNames (seen (lists_attributes operation) (operation_attributes m)) (wanted operation (operation_attributes m))
  says_names = subst (SaysNames (seen (lists_attributes operation) (operation_attributes m))) (sym (wanted_as operation (operation_attributes m))) (wanted_said (seen (lists_attributes operation) (operation_attributes m)) (are_seen (lists_attributes operation)) well.names)

  says : SaysEach operation m.groups (operation_attributes m) (asked account header operation m)
  unfolding asked fields_of
  says = record { job = says_job; document = says_document; handed_in = hands_in; last = says_last; list = says_list; names = says_names }

-- ---- the whole

is_spelled : (account : List ℕ) (header : Header) (m : PlainMessage) → m.header ≡ header → AreGroupsOf m.groups → Passes account header (operation_of header) m → IsSpelled account m (asked account header (operation_of header) m)
unfolding asked
is_spelled account header m same are passes =
    let operation = operation_of header in
    let attributes = operation_attributes m in
    let well = not-false (begins_well attributes) passes.begins_so in
    let first = first_group m.groups well in
    let are_of = first_of m.groups are in
    let start = opens attributes well in
    record {
      header = sym same;
      version = subst IsServed (sym same) (version_is header (not-false (is_served_version header) passes.version));
      operation = ap (λ (h : Header). h.code) same ∙ code_is header.code operation (served_is header passes.served);
      attributes = attributes;
      begins = record { further = first.0; groups = first.1 };
      charset = start.charset;
      has_charset = start.has;
      is_utf_8 = ap is_utf_8 (sym start.found) ∙ not-false (is_utf_8 (charset_first attributes)) passes.utf_8;
      payload = refl;
      target = is_for account operation attributes are_of passes.named passes.short passes.leads;
      says = all_said operation m.groups attributes (asked account header operation m) (says account header operation m are are_of passes);
    }

read_off : (account body : List ℕ) (ask : PlainAsk) → AreBytes body → (message : Option PlainMessage) → message_of body ≡ message → read_as account (header_in body) message ≡ Ok ask → OfMessage body (λ m. IsSpelled account m ask)
read_off account body ask are None none reads = absurd (nothing_asked account (header_in body) ask reads)
read_off account body ask are (Some m) is reads =
    let header = header_in body in
    let spells = message_spells body m are is in
    let both = passed (first_refusal (checks account header (Some m))) (asked account header (operation_of header) m) ask reads in
    record {
      message = m;
      spells = spells;
      is_one = λ other spelled. same_Some other m (sym (message_again other body spelled) ∙ is);
      only_so = λ other spelled. spelled.bytes ∙ sym spells.bytes;
      holds = subst (IsSpelled account m) both.1 (is_spelled account header m (header_of body m is) (message_bytes m body are spells) (all_pass account header m both.0));
    }

pub asks_are_spelled : AsksAreSpelled
unfolding ask_of
asks_are_spelled account body ask are reads = read_off account body ask are (message_of body) refl reads
