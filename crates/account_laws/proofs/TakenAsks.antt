-- A request that says what one may say passes its checks, and asks that.
use Rattle.std.proofs.Common.{◌≡◌, inl, inr, ℕ, ◌≤◌, Bool, true, false, not, ◌&&◌, ◌==◌, nat_lt, List, [], length, Option, Some, None, is_none, unwrap_or, Ok, refl, sym, ap, subst, ◌∙◌, codes}
use Rattle.std.proofs.lemmas.Bool.{eq-eqb, le-ltb, not_from_true, or_left, or_right}
use Rattle.ipp_coding.proofs.Wholes.{message_again}
use Rattle.ipp_coding.specs.Plain.{PlainAttribute, PlainGroup, PlainMessage}
use Rattle.ipp_coding.specs.Reading.{header_in}
use Rattle.ipp_coding.specs.declared.message.Header.{Header}
use Rattle.account_asks.specs.Asks.{PlainAsk, ask_of, asked, read_as}
use Rattle.account_asks.specs.CheckOrder.{checks}
use Rattle.account_asks.specs.Checks.{begins_well, is_empty, is_utf_8, some_attribute, target_of}
use Rattle.account_asks.specs.Fields.{document_format, fidelity, fields_of, impressions, job_name, last_document, limit, password, wanted, which_jobs}
use Rattle.account_asks.specs.Operations.{describes_document, hands_in_document, is_get_jobs, is_send_document, lists_attributes, makes_job, operation_of, operation_with}
use Rattle.account_asks.specs.Refusals.{PlainRefusal, first_refusal, unless_refused}
use Rattle.account_asks.specs.Requests.{charset_first, is_served_version, operation_attributes, operation_group_of}
use Rattle.account_asks.specs.Targets.{at_job}
use Rattle.account_asks.specs.Templates.{copies, template_attributes, unsupported}
use Rattle.account_asks.specs.declared.ask.Which.TheVariants.{NotCompleted}
use Rattle.account_asks.specs.declared.operation.Operation.{Operation}
use Rattle.account_asks.specs.declared.operation.Operation.TheVariants as asks
use Rattle.account_laws.proofs.NamedTargets.{IsReached, is_reached}
use Rattle.account_laws.proofs.PassedChecks.{Passes, passes_all}
use Rattle.account_laws.proofs.ServedIds.{code_again}
use Rattle.account_laws.proofs.SpelledAsks.{first_of, header_of}
use Rattle.account_laws.proofs.SpelledAttributes.{AreGroupsOf, AreOf, message_bytes}
use Rattle.account_laws.proofs.SpelledFields.{boolean_in, bytes_in}
use Rattle.account_laws.proofs.SpelledOperations.{AllWell, SaysEach, SaysLast, compression_as, each_said, encryption_as, fidelity_as, format_as, groups_seen, impressions_as, last_as, last_is_well, limit_as_seen, missing_as, name_as, none_wrong, password_as, seen, template_as, wanted_as, which_as}
use Rattle.account_laws.proofs.TakenFields.{boolean_in_again, document_well, format_again, impressions_again, job_well, last_well, limit_again, list_well, name_again_in, names_again, names_well, none_passes, not_insisted, or_fits, password_again, told_passes, which_again}
use Rattle.account_laws.proofs.TakenTemplates.{IsRead, copies_again, template_again, unsupported_again}
use Rattle.account_laws.specs.NamedTargets.{IsFor}
use Rattle.account_laws.specs.SpelledAsks.{IsServed, IsSpelled, SpelledAsksAreTaken}
use Rattle.account_rules.specs.Limits.{longest_document, longest_job_name, longest_password}
use Rattle.account_rules.specs.declared.format.Format.TheVariants.{OctetStream}

-- ---- the header and how the message begins

served_again : (header : Header) → IsServed header → is_served_version header ≡ true
served_again header (inl one) = or_left (header.major == 1) (header.major == 2) (eq-eqb header.major 1 one)
served_again header (inr two) = or_right (header.major == 1) (header.major == 2) (eq-eqb header.major 2 two)

abbrev BeginsWell : List PlainAttribute → Type 0
BeginsWell attributes = (begins_well attributes ≡ true) × (is_utf_8 (charset_first attributes) ≡ true)

begins_again : (account : List ℕ) (m : PlainMessage) (ask : PlainAsk) (spelled : IsSpelled account m ask) → BeginsWell spelled.attributes
begins_again account m ask spelled = (ap begins_well spelled.has_charset.are, ap (λ (l : List PlainAttribute). is_utf_8 (charset_first l)) spelled.has_charset.are ∙ spelled.is_utf_8)

-- ---- the document

document_passes : (hands_in : Bool) (payload : List ℕ) → (hands_in ≡ true → length payload ≤ longest_document) → (hands_in && nat_lt longest_document (length payload)) ≡ false
document_passes true payload fits = le-ltb longest_document (length payload) (fits refl)
document_passes false payload fits = refl

-- ---- what is said

module _ (operation : Operation) (m : PlainMessage) (are : AreGroupsOf m.groups) (ask : PlainAsk) (says : SaysEach operation m.groups (operation_attributes m) ask) where
  well : AllWell operation (operation_attributes m)
  well = record {
    job = job_well (seen (makes_job operation) m.groups) (seen (makes_job operation) (operation_attributes m)) ask says.job;
    document = document_well (seen (describes_document operation) (operation_attributes m)) ask says.document;
    last = by (is_send_document operation) says.last;
    list = list_well (seen (is_get_jobs operation) (operation_attributes m)) ask says.list;
    names = names_well (seen (lists_attributes operation) (operation_attributes m)) ask.wanted says.names;
  }
    where
      by : (reads : Bool) → SaysLast reads (operation_attributes m) ask.last → last_is_well reads (operation_attributes m) ≡ true
      by true last = last_well (operation_attributes m) ask.last last
      by false last = refl

  name_so : job_name operation (operation_attributes m) ≡ ask.name
  name_so = name_as operation (operation_attributes m) ∙ name_again_in (seen (makes_job operation) (operation_attributes m)) says.job.name.given says.job.name.is_given ∙ sym says.job.name.is

  password_so : password operation (operation_attributes m) ≡ ask.password
  password_so = password_as operation (operation_attributes m) ∙ password_again (seen (makes_job operation) (operation_attributes m)) ask.password says.job.password.is_said

  impressions_so : impressions operation (operation_attributes m) ≡ ask.impressions
  impressions_so = impressions_as operation (operation_attributes m) ∙ impressions_again (seen (makes_job operation) (operation_attributes m)) ask.impressions says.job.impressions

  fidelity_so : fidelity operation (operation_attributes m) ≡ says.job.template.insists
  fidelity_so = fidelity_as operation (operation_attributes m) ∙ boolean_in_again (codes "ipp-attribute-fidelity") (seen (makes_job operation) (operation_attributes m)) says.job.template.insists says.job.template.fidelity

  template_so : IsRead (seen (makes_job operation) m.groups) says.job.template.template
  template_so = template_again (seen (makes_job operation) m.groups) says.job.template.template (groups_seen (makes_job operation) m.groups are) says.job.template.is_template

  template_same : template_attributes operation m ≡ says.job.template.template
  template_same = template_as operation m ∙ template_so.is

  copies_so : copies (template_attributes operation m) ≡ ask.copies
  copies_so = ap copies template_same ∙ copies_again says.job.template.template ask.copies template_so.are_of says.job.template.copies_said

  unsupported_so : unsupported (template_attributes operation m) ≡ ask.unsupported
  unsupported_so = ap unsupported template_same ∙ unsupported_again says.job.template.template ask.unsupported template_so.are_of says.job.template.go_back

  format_so : document_format operation (operation_attributes m) ≡ Some ask.format
  format_so = format_as operation (operation_attributes m) ∙ format_again (seen (describes_document operation) (operation_attributes m)) ask.format says.document.format

  last_so : last_document operation (operation_attributes m) ≡ ask.last
  last_so = last_as operation (operation_attributes m) ∙ by (is_send_document operation) says.last
    where
      by : (reads : Bool) → SaysLast reads (operation_attributes m) ask.last → boolean_in (codes "last-document") (seen reads (operation_attributes m)) ≡ ask.last
      by true last = boolean_in_again (codes "last-document") (operation_attributes m) ask.last (inl last)
      by false last = sym last

  which_so : which_jobs operation (operation_attributes m) ≡ Some ask.which
  which_so = which_as operation (operation_attributes m) ∙ which_again (seen (is_get_jobs operation) (operation_attributes m)) ask.which says.list.which

  limit_so : limit operation (operation_attributes m) ≡ ask.limit
  limit_so = limit_as_seen operation (operation_attributes m) ∙ limit_again (seen (is_get_jobs operation) (operation_attributes m)) ask.limit says.list.limit

  wanted_so : wanted operation (operation_attributes m) ≡ ask.wanted
  wanted_so = wanted_as operation (operation_attributes m) ∙ names_again (seen (lists_attributes operation) (operation_attributes m)) ask.wanted says.names

  -- the name, and no encryption
  name_short : length ask.name ≤ 255
  name_short = subst (λ (name : List ℕ). length name ≤ 255) (sym says.job.name.is) (or_fits says.job.name.given says.job.name.fits)

  passes_each : (account : List ℕ) (base : List ℕ) (job : ℕ) → IsServed m.header → operation_with m.header.code ≡ Some operation → BeginsWell (operation_attributes m) → ask.payload ≡ m.payload → (are_of : AreOf (operation_attributes m)) → IsReached account operation (operation_attributes m) are_of base job → Passes account m.header operation m
  passes_each account base job version served opening payload are_of target =
      let attributes = operation_attributes m in
      record {
        version = not_from_true (is_served_version m.header) (served_again m.header version);
        served = ap is_none served;
        begins_so = not_from_true (begins_well attributes) opening.0;
        utf_8 = not_from_true (is_utf_8 (charset_first attributes)) opening.1;
        named = target.named;
        short = target.short;
        leads = target.leads;
        well = none_wrong operation attributes well;
        compression = compression_as operation attributes ∙ ap not (none_passes (codes "compression") (seen (describes_document operation) attributes) says.document.compression);
        format = ap is_none format_so;
        which = ap is_none which_so;
        told = missing_as operation attributes
            ∙ ap (λ (l : List ℕ). not (is_empty l) && is_none (bytes_in (codes "job-password-encryption") (seen (makes_job operation) attributes))) password_so
            ∙ told_passes (seen (makes_job operation) attributes) ask.password says.job.password;
        encryption = encryption_as operation attributes ∙ ap not (none_passes (codes "job-password-encryption") (seen (makes_job operation) attributes) says.job.password.encryption);
        password_fits = ap (λ (l : List ℕ). nat_lt longest_password (length l)) password_so ∙ le-ltb longest_password (length ask.password) says.job.password.fits;
        name_fits = ap (λ (l : List ℕ). nat_lt longest_job_name (length l)) name_so ∙ le-ltb longest_job_name (length ask.name) name_short;
        template = ap (λ (b : Bool). b && some_attribute (unsupported (template_attributes operation m))) fidelity_so
            ∙ ap (λ (l : List PlainAttribute). says.job.template.insists && some_attribute l) unsupported_so
            ∙ not_insisted says.job.template.insists ask.unsupported says.job.template.all_supported;
        document = document_passes (hands_in_document operation) m.payload (λ hands. subst (λ (l : List ℕ). length l ≤ longest_document) payload (says.handed_in hands));
      }

  asks_that : (account : List ℕ) (header : Header) → ask.header ≡ header → ask.operation ≡ operation → ask.payload ≡ m.payload → target_of account operation (operation_attributes m) ≡ at_job ask.base ask.job → asked account header operation m ≡ ask
  unfolding asked fields_of
  asks_that account header header_so operation_so payload target =
      λ i. record {
        header = sym header_so i;
        operation = sym operation_so i;
        base = (target i).base;
        job = (target i).job;
        name = name_so i;
        password = password_so i;
        copies = copies_so i;
        impressions = impressions_so i;
        format = unwrap_or (format_so i) OctetStream;
        last = last_so i;
        which = unwrap_or (which_so i) NotCompleted;
        limit = limit_so i;
        wanted = wanted_so i;
        unsupported = unsupported_so i;
        payload = sym payload i;
      }

-- ---- the whole

record IsTaken (account : List ℕ) (m : PlainMessage) (ask : PlainAsk) : Type 0 where
  pub passes : first_refusal (checks account m.header (Some m)) ≡ None
  pub is : asked account m.header (operation_of m.header) m ≡ ask

is_taken : (account : List ℕ) (m : PlainMessage) (ask : PlainAsk) → AreGroupsOf m.groups → AreOf (operation_attributes m) → IsSpelled account m ask → IsTaken account m ask
is_taken account m ask are are_of spelled =
    let operation = ask.operation in
    let attributes = operation_attributes m in
    let served = code_again m.header.code operation spelled.operation in
    let by_id : operation ≡ operation_of m.header = sym (ap (λ (o : Option Operation). unwrap_or o asks.PrintJob) served) in
    let same : spelled.attributes ≡ attributes = sym (ap (λ (groups : List PlainGroup). unwrap_or (operation_group_of groups) []) spelled.begins.groups) in
    let says = subst (λ (l : List PlainAttribute). SaysEach operation m.groups l ask) same (each_said operation m.groups spelled.attributes ask spelled.says) in
    let is_for = subst (λ (l : List PlainAttribute). IsFor operation account l ask.base ask.job) same spelled.target in
    let target = is_reached account operation attributes are_of ask.base ask.job is_for in
    let passes = passes_each operation m are ask says account ask.base ask.job spelled.version served (subst BeginsWell same (begins_again account m ask spelled)) spelled.payload are_of target in
    let is = asks_that operation m are ask says account m.header spelled.header refl spelled.payload target.is in
    record {
      passes = passes_all account m.header m (subst (λ (o : Operation). Passes account m.header o m) by_id passes);
      is = subst (λ (o : Operation). asked account m.header o m ≡ ask) by_id is;
    }

pub spelled_asks_are_taken : SpelledAsksAreTaken
unfolding ask_of
spelled_asks_are_taken account body m ask are spells spelled =
    let read = message_again m body spells in
    let of = message_bytes m body are spells in
    let taken = is_taken account m ask of (first_of m.groups of) spelled in
    ap (read_as account (header_in body)) read
    ∙ ap (λ (header : Header). read_as account header (Some m)) (sym (header_of body m read))
    ∙ ap (λ (o : Option PlainRefusal). unless_refused o (asked account m.header (operation_of m.header) m)) taken.passes
    ∙ ap (λ (a : PlainAsk). Ok a) taken.is
