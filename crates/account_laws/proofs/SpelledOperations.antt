-- What an operation does not read is as where it is absent.
use Rattle.std.proofs.Common.{◌≡◌, ℕ, Bool, true, false, true≢false, cond, not, ◌&&◌, ◌||◌, codes, ◌==◌, List, [], ◌∷◌, Option, None, is_none, is_some, option_and_then, option_map, unwrap_or, refl, ap, ◌∙◌}
use Rattle.std.specs.List.{AllByRecursion, list_any}
use Rattle.std.proofs.lemmas.Bool.{not-false}
use Rattle.ipp_coding.specs.Plain.{PlainAttribute, PlainGroup, PlainMessage, PlainValue}
use Rattle.ipp_coding.specs.Values.{bool_said}
use Rattle.account_asks.specs.Asks.{PlainAsk}
use Rattle.account_asks.specs.Checks.{compression_check, is_empty, password_encryption_check, password_encryption_missing_check}
use Rattle.account_asks.specs.Fields.{all_fields, any_is_wrong, document_format, fidelity, format_said, impressions, is_none_if_said, is_wrong, job_name, last_document, limit, names_of, password, unless_empty, value_of, values_of, wanted, which_jobs, which_named}
use Rattle.account_asks.specs.Operations.{describes_document, hands_in_document, is_get_jobs, is_send_document, lists_attributes, makes_job}
use Rattle.account_asks.specs.Requests.{job_group_of, lone_value, named}
use Rattle.account_asks.specs.Syntaxes.{count_said, name_said, positive_said}
use Rattle.account_asks.specs.Templates.{template_attributes}
use Rattle.account_asks.specs.declared.operation.Operation.{Operation}
use Rattle.account_laws.proofs.ServedIds.{brings, brings_again, by_test, gets, gets_again, lists, lists_again, makes, makes_again, sends, sends_again, tells, tells_again, whether}
use Rattle.account_laws.proofs.SpelledAttributes.{AreGroupsOf, AreOf}
use Rattle.account_laws.proofs.SpelledFields.{DocumentWell, JobWell, ListWell, are_keywords, boolean_in, bytes_in, format_in, impressions_in, is_well_so, limit_in, name_in, password_in, value_seen, wanted_in, which_in}
use Rattle.account_laws.specs.SpelledAttributes.{IsBoolean, Says}
use Rattle.account_laws.specs.SpelledFields.{DescribesDocument, DescribesJob, DescribesList, HandsInDocument, SaysNames}
use Rattle.account_laws.specs.SpelledOperations.{SaysAll}

-- ---- what is seen of a message

-- all of it where it is read, and else nothing
abbrev pub seen : {A : Type 0} → (reads : Bool) → List A → List A
seen true all = all
seen false all = []

pub seen_of : (reads : Bool) (attributes : List PlainAttribute) → AreOf attributes → AreOf (seen reads attributes)
seen_of true attributes are = are
seen_of false attributes are = tt

pub groups_seen : (reads : Bool) (groups : List PlainGroup) → AreGroupsOf groups → AreGroupsOf (seen reads groups)
groups_seen true groups are = are
groups_seen false groups are = tt

value_as : (reads : Bool) (name : List ℕ) (attributes : List PlainAttribute) → option_and_then lone_value (cond reads (option_map (λ (a : PlainAttribute). a.values) (named name attributes)) None) ≡ value_seen (named name (seen reads attributes))
value_as true name attributes = refl
value_as false name attributes = refl

values_as : (reads : Bool) (name : List ℕ) (attributes : List PlainAttribute) → cond reads (option_map (λ (a : PlainAttribute). a.values) (named name attributes)) None ≡ option_map (λ (a : PlainAttribute). a.values) (named name (seen reads attributes))
values_as true name attributes = refl
values_as false name attributes = refl

pub name_as : (operation : Operation) (attributes : List PlainAttribute) → job_name operation attributes ≡ name_in (seen (makes_job operation) attributes)
unfolding job_name value_of values_of
name_as operation attributes = ap (λ (o : Option PlainValue). unwrap_or (option_and_then unless_empty (option_and_then name_said o)) (codes "untitled")) (value_as (makes_job operation) (codes "job-name") attributes)

pub fidelity_as : (operation : Operation) (attributes : List PlainAttribute) → fidelity operation attributes ≡ boolean_in (codes "ipp-attribute-fidelity") (seen (makes_job operation) attributes)
unfolding fidelity value_of values_of
fidelity_as operation attributes = ap (λ (o : Option PlainValue). unwrap_or (option_and_then bool_said o) false) (value_as (makes_job operation) (codes "ipp-attribute-fidelity") attributes)

pub impressions_as : (operation : Operation) (attributes : List PlainAttribute) → impressions operation attributes ≡ impressions_in (seen (makes_job operation) attributes)
unfolding impressions value_of values_of
impressions_as operation attributes = ap (λ (o : Option PlainValue). unwrap_or (option_and_then count_said o) 0) (value_as (makes_job operation) (codes "job-impressions") attributes)

pub password_as : (operation : Operation) (attributes : List PlainAttribute) → password operation attributes ≡ password_in (seen (makes_job operation) attributes)
unfolding password value_of values_of
password_as operation attributes = ap (λ (o : Option PlainValue). unwrap_or (option_map (λ (value : PlainValue). value.bytes) o) []) (value_as (makes_job operation) (codes "job-password") attributes)

pub format_as : (operation : Operation) (attributes : List PlainAttribute) → document_format operation attributes ≡ format_in (seen (describes_document operation) attributes)
unfolding document_format value_of values_of
format_as operation attributes = ap (λ (o : Option PlainValue). format_said (option_map (λ (value : PlainValue). value.bytes) o)) (value_as (describes_document operation) (codes "document-format") attributes)

pub last_as : (operation : Operation) (attributes : List PlainAttribute) → last_document operation attributes ≡ boolean_in (codes "last-document") (seen (is_send_document operation) attributes)
unfolding last_document value_of values_of
last_as operation attributes = ap (λ (o : Option PlainValue). unwrap_or (option_and_then bool_said o) false) (value_as (is_send_document operation) (codes "last-document") attributes)

pub which_as : (operation : Operation) (attributes : List PlainAttribute) → which_jobs operation attributes ≡ which_in (seen (is_get_jobs operation) attributes)
unfolding which_jobs value_of values_of
which_as operation attributes = ap (λ (o : Option PlainValue). which_named (option_map (λ (value : PlainValue). value.bytes) o)) (value_as (is_get_jobs operation) (codes "which-jobs") attributes)

pub limit_as_seen : (operation : Operation) (attributes : List PlainAttribute) → limit operation attributes ≡ limit_in (seen (is_get_jobs operation) attributes)
unfolding limit value_of values_of
limit_as_seen operation attributes = ap (option_and_then positive_said) (value_as (is_get_jobs operation) (codes "limit") attributes)

pub wanted_as : (operation : Operation) (attributes : List PlainAttribute) → wanted operation attributes ≡ wanted_in (seen (lists_attributes operation) attributes)
unfolding wanted values_of
wanted_as operation attributes = ap (option_map names_of) (values_as (lists_attributes operation) (codes "requested-attributes") attributes)

pub compression_as : (operation : Operation) (attributes : List PlainAttribute) → (compression_check operation attributes).refused ≡ not (is_none_if_said (bytes_in (codes "compression") (seen (describes_document operation) attributes)))
unfolding value_of values_of
compression_as operation attributes = ap (λ (o : Option PlainValue). not (is_none_if_said (option_map (λ (value : PlainValue). value.bytes) o))) (value_as (describes_document operation) (codes "compression") attributes)

pub encryption_as : (operation : Operation) (attributes : List PlainAttribute) → (password_encryption_check operation attributes).refused ≡ not (is_none_if_said (bytes_in (codes "job-password-encryption") (seen (makes_job operation) attributes)))
unfolding value_of values_of
encryption_as operation attributes = ap (λ (o : Option PlainValue). not (is_none_if_said (option_map (λ (value : PlainValue). value.bytes) o))) (value_as (makes_job operation) (codes "job-password-encryption") attributes)

pub missing_as : (operation : Operation) (attributes : List PlainAttribute)
    → (password_encryption_missing_check operation attributes).refused ≡ (not (is_empty (password operation attributes)) && is_none (bytes_in (codes "job-password-encryption") (seen (makes_job operation) attributes)))
unfolding value_of values_of
missing_as operation attributes = ap (λ (o : Option PlainValue). not (is_empty (password operation attributes)) && is_none (option_map (λ (value : PlainValue). value.bytes) o)) (value_as (makes_job operation) (codes "job-password-encryption") attributes)

pub template_as : (operation : Operation) (m : PlainMessage) → template_attributes operation m ≡ unwrap_or (job_group_of (seen (makes_job operation) m.groups)) []
unfolding template_attributes
template_as operation m = by (makes_job operation)
  where
    by : (reads : Bool) → cond reads (unwrap_or (job_group_of m.groups) []) [] ≡ unwrap_or (job_group_of (seen reads m.groups)) []
    by true = refl
    by false = refl

-- ---- what is seen is well

-- last-document has to be there where it is read
abbrev pub last_is_well : (reads : Bool) → List PlainAttribute → Bool
last_is_well true attributes = is_well_so (λ value. is_some (bool_said value)) false (named (codes "last-document") attributes)
last_is_well false attributes = true

pub record AllWell (operation : Operation) (attributes : List PlainAttribute) : Type 0 where
  pub job : JobWell (seen (makes_job operation) attributes)
  pub document : DocumentWell (seen (describes_document operation) attributes)
  pub last : last_is_well (is_send_document operation) attributes ≡ true
  pub list : ListWell (seen (is_get_jobs operation) attributes)
  pub names : are_keywords (named (codes "requested-attributes") (seen (lists_attributes operation) attributes)) ≡ true

any_none : {X : Type 0} (test : X → Bool) (xs : List X) → list_any test xs ≡ false → AllByRecursion (λ (x : X). test x ≡ false) xs
any_none test [] none = tt
any_none {X = X} test (x ∷ xs) none = by (any_none test xs) (test x) refl none
  where
    by : (list_any test xs ≡ false → AllByRecursion (λ (x : X). test x ≡ false) xs) → (b : Bool) → test x ≡ b → (b || list_any test xs) ≡ false → (test x ≡ false) × AllByRecursion (λ (x : X). test x ≡ false) xs
    by rest true is none = absurd (true≢false none)
    by rest false is none = (is, rest none)

any_again : {X : Type 0} (test : X → Bool) (xs : List X) → AllByRecursion (λ (x : X). test x ≡ false) xs → list_any test xs ≡ false
any_again test [] none = refl
any_again test (x ∷ xs) none = ap (λ (b : Bool). b || list_any test xs) none.0 ∙ any_again test xs none.1

-- an attribute is not wrong where it is not read or is well
well_seen : (well : Bool → Bool) → well false ≡ true → (reads : Bool) → (reads && not (well true)) ≡ false → well reads ≡ true
well_seen well absent true is = not-false (well true) is
well_seen well absent false is = absent

seen_well : (well : Bool → Bool) (reads : Bool) → well reads ≡ true → (reads && not (well true)) ≡ false
seen_well well true is = ap not is
seen_well well false is = refl

abbrev one_well : (test : PlainValue → Bool) (name : List ℕ) (attributes : List PlainAttribute) (reads : Bool) → Bool
one_well test name attributes reads = is_well_so test true (named name (seen reads attributes))

abbrev names_well : (attributes : List PlainAttribute) (reads : Bool) → Bool
names_well attributes reads = are_keywords (named (codes "requested-attributes") (seen reads attributes))

pub are_well : (operation : Operation) (attributes : List PlainAttribute) → any_is_wrong operation attributes ≡ false → AllWell operation attributes
unfolding any_is_wrong is_wrong
are_well operation attributes none =
    let each = any_none (is_wrong operation attributes) all_fields none in
    record {
      job = record {
        name = well_seen (one_well (λ value. is_some (name_said value)) (codes "job-name") attributes) refl (makes_job operation) each.0;
        fidelity = well_seen (one_well (λ value. is_some (bool_said value)) (codes "ipp-attribute-fidelity") attributes) refl (makes_job operation) each.1.0;
        impressions = well_seen (one_well (λ value. is_some (count_said value)) (codes "job-impressions") attributes) refl (makes_job operation) each.1.1.0;
        password = well_seen (one_well (λ (value : PlainValue). value.tag == 0x30) (codes "job-password") attributes) refl (makes_job operation) each.1.1.1.0;
        encryption = well_seen (one_well (λ (value : PlainValue). value.tag == 0x44) (codes "job-password-encryption") attributes) refl (makes_job operation) each.1.1.1.1.0;
      };
      document = record {
        format = well_seen (one_well (λ (value : PlainValue). value.tag == 0x49) (codes "document-format") attributes) refl (describes_document operation) each.1.1.1.1.1.0;
        compression = well_seen (one_well (λ (value : PlainValue). value.tag == 0x44) (codes "compression") attributes) refl (describes_document operation) each.1.1.1.1.1.1.0;
      };
      last = well_seen (λ reads. last_is_well reads attributes) refl (is_send_document operation) each.1.1.1.1.1.1.1.0;
      list = record {
        which = well_seen (one_well (λ (value : PlainValue). value.tag == 0x44) (codes "which-jobs") attributes) refl (is_get_jobs operation) each.1.1.1.1.1.1.1.1.0;
        limit = well_seen (one_well (λ value. is_some (positive_said value)) (codes "limit") attributes) refl (is_get_jobs operation) each.1.1.1.1.1.1.1.1.1.0;
        mine = well_seen (one_well (λ value. is_some (bool_said value)) (codes "my-jobs") attributes) refl (is_get_jobs operation) each.1.1.1.1.1.1.1.1.1.1.0;
      };
      names = well_seen (names_well attributes) refl (lists_attributes operation) each.1.1.1.1.1.1.1.1.1.1.1.0;
    }

pub none_wrong : (operation : Operation) (attributes : List PlainAttribute) → AllWell operation attributes → any_is_wrong operation attributes ≡ false
unfolding any_is_wrong is_wrong
none_wrong operation attributes well = any_again (is_wrong operation attributes) all_fields (seen_well (one_well (λ value. is_some (name_said value)) (codes "job-name") attributes) (makes_job operation) well.job.name, (seen_well (one_well (λ value. is_some (bool_said value)) (codes "ipp-attribute-fidelity") attributes) (makes_job operation) well.job.fidelity, (seen_well (one_well (λ value. is_some (count_said value)) (codes "job-impressions") attributes) (makes_job operation) well.job.impressions, (seen_well (one_well (λ (value : PlainValue). value.tag == 0x30) (codes "job-password") attributes) (makes_job operation) well.job.password, (seen_well (one_well (λ (value : PlainValue). value.tag == 0x44) (codes "job-password-encryption") attributes) (makes_job operation) well.job.encryption, (seen_well (one_well (λ (value : PlainValue). value.tag == 0x49) (codes "document-format") attributes) (describes_document operation) well.document.format, (seen_well (one_well (λ (value : PlainValue). value.tag == 0x44) (codes "compression") attributes) (describes_document operation) well.document.compression, (seen_well (λ reads. last_is_well reads attributes) (is_send_document operation) well.last, (seen_well (one_well (λ (value : PlainValue). value.tag == 0x44) (codes "which-jobs") attributes) (is_get_jobs operation) well.list.which, (seen_well (one_well (λ value. is_some (positive_said value)) (codes "limit") attributes) (is_get_jobs operation) well.list.limit, (seen_well (one_well (λ value. is_some (bool_said value)) (codes "my-jobs") attributes) (is_get_jobs operation) well.list.mine, (seen_well (names_well attributes) (lists_attributes operation) well.names, tt))))))))))))

-- ---- what is said by operation

abbrev pub SaysLast : (reads : Bool) → List PlainAttribute → Bool → Type 0
SaysLast true attributes last = Says IsBoolean (codes "last-document") attributes last
SaysLast false attributes last = last ≡ false

pub record SaysEach (operation : Operation) (groups : List PlainGroup) (attributes : List PlainAttribute) (ask : PlainAsk) : Type 0 where
  pub job : DescribesJob (seen (makes_job operation) groups) (seen (makes_job operation) attributes) ask
  pub document : DescribesDocument (seen (describes_document operation) attributes) ask
  pub handed_in : hands_in_document operation ≡ true → HandsInDocument ask
  pub last : SaysLast (is_send_document operation) attributes ask.last
  pub list : DescribesList (seen (is_get_jobs operation) attributes) ask
  pub names : SaysNames (seen (lists_attributes operation) attributes) ask.wanted

pub all_said : (operation : Operation) (groups : List PlainGroup) (attributes : List PlainAttribute) (ask : PlainAsk) → SaysEach operation groups attributes ask → SaysAll operation groups attributes ask
all_said operation groups attributes ask says = record {
  job = whether (makes_job operation) (λ b. DescribesJob (seen b groups) (seen b attributes) ask) (makes operation) (makes_again operation) says.job;
  document = whether (describes_document operation) (λ b. DescribesDocument (seen b attributes) ask) (tells operation) (tells_again operation) says.document;
  handed_in = λ is. says.handed_in (brings_again operation is);
  last = whether (is_send_document operation) (λ b. SaysLast b attributes ask.last) (sends operation) (sends_again operation) says.last;
  jobs = whether (is_get_jobs operation) (λ b. DescribesList (seen b attributes) ask) (gets operation) (gets_again operation) says.list;
  names = whether (lists_attributes operation) (λ b. SaysNames (seen b attributes) ask.wanted) (lists operation) (lists_again operation) says.names;
}

pub each_said : (operation : Operation) (groups : List PlainGroup) (attributes : List PlainAttribute) (ask : PlainAsk) → SaysAll operation groups attributes ask → SaysEach operation groups attributes ask
each_said operation groups attributes ask says = record {
  job = by_test (makes_job operation) (λ b. DescribesJob (seen b groups) (seen b attributes) ask) (makes operation) (makes_again operation) says.job;
  document = by_test (describes_document operation) (λ b. DescribesDocument (seen b attributes) ask) (tells operation) (tells_again operation) says.document;
  handed_in = λ is. says.handed_in (brings operation is);
  last = by_test (is_send_document operation) (λ b. SaysLast b attributes ask.last) (sends operation) (sends_again operation) says.last;
  list = by_test (is_get_jobs operation) (λ b. DescribesList (seen b attributes) ask) (gets operation) (gets_again operation) says.jobs;
  names = by_test (lists_attributes operation) (λ b. SaysNames (seen b attributes) ask.wanted) (lists operation) (lists_again operation) says.names;
}
