-- Each refusal of a request means what its word says.
use Rattle.std.proofs.Common.{◌≡◌, ◌≢◌, inl, inr, ℕ, ◌-◌, Bool, true, false, true≢false, cond, not, ◌&&◌, ◌||◌, ◌==◌, nat_lt, drop, length, List, [], ◌∷◌, ◌++◌, Option, Some, None, is_none, Result, Ok, Err, refl, sym, ap, subst, ◌∙◌}
use Rattle.std.proofs.lemmas.Bool.{and_from, and_parts, eqb-false, lt-ltb, ltb-true, not-false, not-true, or_parts}
use Rattle.std.proofs.lemmas.Option.{none-some, same_Some}
use Rattle.ipp_coding.proofs.Wholes.{message_again, message_spells}
use Rattle.ipp_coding.specs.Plain.{PlainAttribute, PlainGroup, PlainMessage}
use Rattle.ipp_coding.specs.Reading.{header_in, message_of}
use Rattle.ipp_coding.specs.Spelling.{Spells}
use Rattle.ipp_coding.specs.declared.message.Header.{Header}
use Rattle.account_asks.specs.Asks.{PlainAsk, ask_of, asked}
use Rattle.account_asks.specs.CheckOrder.{attribute_checks, checks, document_checks, field_checks, message_checks, message_or_nothing, opening_checks, target_checks}
use Rattle.account_asks.specs.Checks.{begins_well, charset_and_language_check, charset_check, compression_check, document_check, document_format_check, is_utf_8, job_name_length_check, malformed_check, named_target, operation_check, password_encryption_check, password_encryption_missing_check, password_length_check, queue_check, some_attribute, syntax_check, target_check, target_length_check, template_check, version_check, which_jobs_check}
use Rattle.account_asks.specs.Fields.{fidelity}
use Rattle.account_asks.specs.Operations.{hands_in_document, operation_of, operation_with}
use Rattle.account_asks.specs.Refusals.{Check, PlainRefusal, first_refusal, refusal_of}
use Rattle.account_asks.specs.Requests.{charset_first, is_served_version, operation_attributes}
use Rattle.account_asks.specs.Targets.{reached, target_in}
use Rattle.account_asks.specs.Templates.{template_attributes, unsupported}
use Rattle.account_asks.specs.declared.operation.Operation.{Operation}
use Rattle.account_laws.proofs.FirstFound.{passed, refused_first, second_false}
use Rattle.account_laws.proofs.SpelledOperations.{AllWell, are_well}
use Rattle.account_laws.proofs.MeantFields.{asks_for_known, asks_for_others, has_encryption, has_known_format, has_long_name, has_long_password, has_short_name, has_short_password, has_unknown_format, insists_again, insists_so, is_compressed, is_encrypted, is_not_encrypted, is_plain, lacks_encryption, misuses_none, misuses_some}
use Rattle.account_laws.proofs.NamedTargets.{has_long_target, has_no_target, has_short_target, has_target, leads_elsewhere, leads_home}
use Rattle.account_laws.proofs.MeantTemplates.{all_supported, has_unsupported, makes_job_then, template_is, template_read}
use Rattle.account_laws.proofs.ServedIds.{brings, brings_again, code_again, code_in, code_is, makes, makes_again, not_served, served_is}
use Rattle.account_laws.proofs.SpelledAttributes.{AreGroupsOf, AreOf, message_bytes}
use Rattle.account_laws.proofs.SpelledAsks.{Opens, first_attributes, first_group, header_of, opens, version_is}
use Rattle.account_laws.proofs.SpelledFields.{not_none}
use Rattle.account_laws.specs.AsksLieWithin.{AreBytes}
use Rattle.account_laws.specs.MisusedAttributes.{Misuses}
use Rattle.account_laws.specs.OperationIds.{IsOperation}
use Rattle.account_laws.specs.RefusalMeanings.{AsksForOthers, BeginsIn, BeginsInOther, HasLargeDocument, HasLongName, HasLongPassword, HasLongTarget, HasNoTarget, HasUnknownFormat, HasUnsupported, InsistsInVain, IsCompressed, IsEncrypted, LacksEncryption, LeadsElsewhere, Means, OfOperation, RefusalsMean}
use Rattle.account_laws.specs.RefusalOrder.{IsFirst, NoneIsTrue, RefusedForTheFirst, words_in_order}
use Rattle.account_laws.specs.SpelledAsks.{BeginsBy, IsServed, OfMessage}
use Rattle.account_rules.specs.Limits.{longest_document}
use Rattle.account_rules.specs.declared.refusal.Word.{Word}

-- ---- the header

other_versions : (major : ℕ) → not (major == 1 || major == 2) ≡ true → (major ≢ 1) × (major ≢ 2)
other_versions major is = let both = or_parts (major == 1) (major == 2) (not-true (major == 1 || major == 2) is) in (eqb-false major 1 both.0, eqb-false major 2 both.1)

is_version : (header : Header) → not (is_served_version header) ≡ false → (header.major ≢ 1) × (header.major ≢ 2) → ⊥
is_version header passes others = either (version_is header (not-false (is_served_version header) passes))
  where
    either : IsServed header → ⊥
    either (inl one) = others.0 one
    either (inr two) = others.1 two

-- ---- how a message begins

no_charset : (m : PlainMessage) → not (begins_well (operation_attributes m)) ≡ true → (charset : List ℕ) → BeginsIn charset m → ⊥
no_charset m isnt charset has =
    let well : begins_well (operation_attributes m) ≡ true = ap (λ (groups : List PlainGroup). begins_well (first_attributes groups)) has.1.groups ∙ ap begins_well has.2.are in
    true≢false (sym well ∙ not-true (begins_well (operation_attributes m)) isnt)

has_charset : (m : PlainMessage) → begins_well (operation_attributes m) ≡ true → (start : Opens (operation_attributes m)) → BeginsIn start.charset m
has_charset m well start = let begun = first_group m.groups well in (operation_attributes m, record { further = begun.0; groups = begun.1 }, start.has)

other_charset : (m : PlainMessage) → begins_well (operation_attributes m) ≡ true → not (is_utf_8 (charset_first (operation_attributes m))) ≡ true → BeginsInOther m
other_charset m well other =
    let start = opens (operation_attributes m) well in
    (start.charset, has_charset m well start, sym (ap is_utf_8 start.found) ∙ not-true (is_utf_8 (charset_first (operation_attributes m))) other)

no_other_charset : (m : PlainMessage) → not (is_utf_8 (charset_first (operation_attributes m))) ≡ false → BeginsInOther m → ⊥
no_other_charset m passes other =
    true≢false
    (sym (not-false (is_utf_8 (charset_first (operation_attributes m))) passes)
    ∙ ap (λ (groups : List PlainGroup). is_utf_8 (charset_first (first_attributes groups))) other.1.1.groups
    ∙ ap (λ (l : List PlainAttribute). is_utf_8 (charset_first l)) other.1.2.are
    ∙ other.2)

-- the words from one of them on, counted from 1
abbrev from : ℕ → List Word
from n = drop (n - 1) words_in_order

abbrev HasNoCharset : PlainMessage → Type 0
HasNoCharset m = (charset : List ℕ) → BeginsIn charset m → ⊥

-- ---- one check after the other

module _ (account body : List ℕ) where
  -- of what the checks come to
  abbrev Tells : (words : List Word) (first : Option PlainRefusal) → Type 0
  Tells words None = NoneIsTrue account body words
  Tells words (Some refused) = IsFirst account body words refused.refusal.word

  -- a check that refuses tells its word, and where it passes its word is not true
  one_check : (check : Check) (words : List Word) (rest : Option PlainRefusal) → (check.refused ≡ true → Means account body check.word) → (check.refused ≡ false → (Means account body check.word → ⊥) × Tells words rest)
      → Tells (check.word ∷ words) (cond check.refused (Some (refusal_of check)) rest)
  one_check check words rest means passes = by check.refused rest means passes
    where
      by : (b : Bool) (rest : Option PlainRefusal) → (b ≡ true → Means account body check.word) → (b ≡ false → (Means account body check.word → ⊥) × Tells words rest) → Tells (check.word ∷ words) (cond b (Some (refusal_of check)) rest)
      by true rest means passes = inl (refl, means refl)
      by false None means passes = passes refl
      by false (Some refused) means passes = inr (passes refl)

  -- ---- a message

  module _ (m : PlainMessage) (is : message_of body ≡ Some m) (spells : Spells m body) (are : AreGroupsOf m.groups) (operation : Operation) (served : operation_with m.header.code ≡ Some operation) where
    abbrev attributes : List PlainAttribute
    attributes = operation_attributes m

    abbrev template : List PlainAttribute
    template = template_attributes operation m

    whole : (Holds : PlainMessage → Type 0) → Holds m → OfMessage body Holds
    whole Holds holds = record { message = m; spells = spells; is_one = λ other spelled. same_Some other m (sym (message_again other body spelled) ∙ is); only_so = λ other spelled. spelled.bytes ∙ sym spells.bytes; holds = holds }

    held : (Holds : PlainMessage → Type 0) → OfMessage body Holds → Holds m
    held Holds of = subst Holds (same_Some of.message m (sym (message_again of.message body of.spells) ∙ is)) of.holds

    module _ (well : begins_well attributes ≡ true) where
      begin : BeginsBy attributes m
      begin = let begun = first_group m.groups well in record { further = begun.0; groups = begun.1 }

      are_of : AreOf attributes
      are_of = (subst AreGroupsOf begin.groups are).0

      asks : (Holds : PlainMessage → Operation → List PlainAttribute → Type 0) → Holds m operation attributes → OfMessage body (λ m. OfOperation (Holds m) m)
      asks Holds holds = whole (λ m. OfOperation (Holds m) m) (record { operation = operation; id = code_is m.header.code operation served; attributes = attributes; begins = begin; holds = holds })

      asked_so : (Holds : PlainMessage → Operation → List PlainAttribute → Type 0) → OfMessage body (λ m. OfOperation (Holds m) m) → Holds m operation attributes
      asked_so Holds of =
          let it = held (λ m. OfOperation (Holds m) m) of in
          let same : it.operation ≡ operation = same_Some it.operation operation (sym (code_again m.header.code it.operation it.id) ∙ served) in
          subst (λ (o : Operation). Holds m o attributes) same (subst (Holds m it.operation) (sym (ap first_attributes it.begins.groups)) it.holds)

      -- 17 and 18
      module _ (right : AllWell operation attributes) where
        in_vain : (fidelity operation attributes && some_attribute (unsupported template)) ≡ true → InsistsInVain m operation attributes
        in_vain refuses =
            let both = and_parts (fidelity operation attributes) (some_attribute (unsupported template)) refuses in
            let makes_so = makes_job_then operation m both.1 in
            let found = template_is operation m are makes_so in
            record {
              makes = makes operation makes_so;
              insists = insists_so attributes are_of operation right both.0;
              template = template;
              are_of_job = found.are;
              is_there = has_unsupported template found.are_of both.1;
            }

        not_in_vain : (fidelity operation attributes && some_attribute (unsupported template)) ≡ false → InsistsInVain m operation attributes → ⊥
        not_in_vain passes vain =
            let does = makes_again operation vain.makes in
            let same = template_read operation m are vain.template does vain.are_of_job in
            let none = second_false (fidelity operation attributes) (some_attribute (unsupported template)) passes (insists_again attributes are_of operation vain.makes vain.insists) in
            all_supported template (template_is operation m are does).are_of none (subst HasUnsupported (sym same) vain.is_there)

        large : (hands_in_document operation && nat_lt longest_document (length m.payload)) ≡ true → HasLargeDocument m operation attributes
        large refuses =
            let both = and_parts (hands_in_document operation) (nat_lt longest_document (length m.payload)) refuses in
            (brings operation both.0, ltb-true longest_document (length m.payload) both.1)

        not_large : (hands_in_document operation && nat_lt longest_document (length m.payload)) ≡ false → HasLargeDocument m operation attributes → ⊥
        not_large passes has =
            true≢false
            (sym (and_from (hands_in_document operation) (nat_lt longest_document (length m.payload)) (brings_again operation has.0) (lt-ltb longest_document (length m.payload) has.1)) ∙ passes)

        tells_document : Tells (from 17) (first_refusal (document_checks operation (fidelity operation attributes) (unsupported template) m.payload))
        unfolding document_checks
        tells_document =
            one_check (template_check (fidelity operation attributes) (unsupported template)) (from 18) _ (λ refuses. asks InsistsInVain (in_vain refuses)) (λ passes. (
              λ means. not_in_vain passes (asked_so InsistsInVain means),
              one_check (document_check operation (unsupported template) m.payload) (from 19) _ (λ refuses. asks HasLargeDocument (large refuses)) (λ passes. (λ means. not_large passes (asked_so HasLargeDocument means), tt)),
            ))

      -- 9 to 18
      abbrev rest_checks : List Check
      rest_checks = document_checks operation (fidelity operation attributes) (unsupported template) m.payload

      tells_fields : Tells (from 9) (first_refusal (field_checks operation attributes ++ rest_checks))
      unfolding field_checks
      tells_fields =
          one_check (syntax_check operation attributes) (from 10) _ (λ refuses. asks (λ _. Misuses) (misuses_some attributes are_of operation refuses)) (λ passes.
          let right = are_well operation attributes passes in (
            λ means. misuses_none attributes are_of operation right (asked_so (λ _. Misuses) means),
            one_check (compression_check operation attributes) (from 11) _ (λ refuses. asks (λ _. IsCompressed) (is_compressed attributes are_of operation right refuses)) (λ passes. (
              λ means. is_plain attributes are_of operation passes (asked_so (λ _. IsCompressed) means),
              one_check (document_format_check operation attributes) (from 12) _ (λ refuses. asks (λ _. HasUnknownFormat) (has_unknown_format attributes are_of operation right refuses)) (λ passes. (
                λ means. has_known_format attributes are_of operation passes (asked_so (λ _. HasUnknownFormat) means),
                one_check (which_jobs_check operation attributes) (from 13) _ (λ refuses. asks (λ _. AsksForOthers) (asks_for_others attributes are_of operation right refuses)) (λ passes. (
                  λ means. asks_for_known attributes are_of operation passes (asked_so (λ _. AsksForOthers) means),
                  one_check (password_encryption_missing_check operation attributes) (from 14) _ (λ refuses. asks (λ _. LacksEncryption) (lacks_encryption attributes are_of operation right refuses)) (λ passes. (
                    λ means. has_encryption attributes are_of operation passes (asked_so (λ _. LacksEncryption) means),
                    one_check (password_encryption_check operation attributes) (from 15) _ (λ refuses. asks (λ _. IsEncrypted) (is_encrypted attributes are_of operation right refuses)) (λ passes. (
                      λ means. is_not_encrypted attributes are_of operation passes (asked_so (λ _. IsEncrypted) means),
                      one_check (password_length_check operation attributes) (from 16) _ (λ refuses. asks (λ _. HasLongPassword) (has_long_password attributes are_of operation right refuses)) (λ passes. (
                        λ means. has_short_password attributes are_of operation passes (asked_so (λ _. HasLongPassword) means),
                        one_check (job_name_length_check operation attributes) (from 17) _ (λ refuses. asks (λ _. HasLongName) (has_long_name attributes are_of operation right refuses)) (λ passes. (
                          λ means. has_short_name attributes are_of operation passes (asked_so (λ _. HasLongName) means),
                          tells_document right,
                        )),
                      )),
                    )),
                  )),
                )),
              )),
            )),
          ))

      -- 6 to 18
      tells_target : Tells (from 6) (first_refusal (target_checks account operation attributes ++ (field_checks operation attributes ++ rest_checks)))
      unfolding target_checks
      tells_target =
          one_check (target_check (target_in operation attributes)) (from 7) _ (λ refuses. asks (λ _. HasNoTarget) (has_no_target account operation attributes are_of refuses)) (λ some.
          let t = not_none (target_in operation attributes) some in (
            λ means. has_target account operation attributes are_of some (asked_so (λ _. HasNoTarget) means),
            one_check (target_length_check (named_target operation attributes)) (from 8) _ (λ refuses. asks (λ _. HasLongTarget) (has_long_target account operation attributes are_of t.0 t.1 refuses)) (λ passes. (
              λ means. has_short_target account operation attributes are_of passes (asked_so (λ _. HasLongTarget) means),
              one_check (queue_check (reached account (named_target operation attributes))) (from 9) _ (λ refuses. asks (λ _. LeadsElsewhere account) (leads_elsewhere account operation attributes are_of t.0 t.1 refuses)) (λ passes. (
                λ means. leads_home account operation attributes are_of passes (asked_so (λ _. LeadsElsewhere account) means),
                tells_fields,
              )),
            )),
          ))

    -- 4 to 18
    tells_message : Tells (from 4) (first_refusal (message_checks account operation m))
    unfolding message_checks attribute_checks opening_checks target_checks field_checks
    tells_message =
        one_check (charset_and_language_check attributes) (from 5) _ (λ refuses. whole HasNoCharset (no_charset m refuses)) (λ passes.
        let well = not-false (begins_well attributes) passes in (
          λ means. held HasNoCharset means (opens attributes well).charset (has_charset m well (opens attributes well)),
          one_check (charset_check attributes) (from 6) _ (λ refuses. whole BeginsInOther (other_charset m well refuses)) (λ passes. (
            λ means. no_other_charset m passes (held BeginsInOther means),
            tells_target well,
          )),
        ))

  -- ---- a body

  -- 3 to 18
  tells_body : AreBytes body → is_none (operation_with (header_in body).code) ≡ false → (message : Option PlainMessage) → message_of body ≡ message
      → Tells (from 3) (first_refusal (malformed_check message ∷ message_checks account (operation_of (header_in body)) (message_or_nothing (header_in body) message)))
  tells_body bytes served None is = inl (refl, λ m spells. none-some m (sym is ∙ message_again m body spells))
  tells_body bytes served (Some m) is =
      let spells = message_spells body m bytes is in
      one_check (malformed_check (Some m)) (from 4) _ (λ never. absurd (true≢false (sym never))) (λ _. (
        λ none. none m spells,
        tells_message m is spells (message_bytes m body bytes spells) (operation_of (header_in body)) (ap (λ (h : Header). operation_with h.code) (header_of body m is) ∙ served_is (header_in body) served),
      ))

  -- all eighteen
  tells_all : AreBytes body → Tells words_in_order (first_refusal (checks account (header_in body) (message_of body)))
  tells_all bytes =
      let header = header_in body in
      one_check (version_check header) (from 2) _ (λ refuses. other_versions header.major refuses) (λ passes. (
        λ means. is_version header passes means,
        one_check (operation_check header) (from 3) _ (λ none. subst (λ (id : ℕ). IsOperation id → ⊥) (sym (code_in body)) (not_served header.code none)) (λ served. (
          λ means. means (operation_of header, code_in body ∙ code_is header.code (operation_of header) (served_is header served)),
          tells_body bytes served (message_of body) refl,
        )),
      ))

-- ---- the laws

first_word : (account body : List ℕ) (refused : PlainRefusal) → AreBytes body → ask_of account body ≡ Err refused → IsFirst account body words_in_order refused.refusal.word
unfolding ask_of
first_word account body refused bytes is =
    let header = header_in body in
    let first = refused_first (first_refusal (checks account header (message_of body))) (asked account header (operation_of header) (message_or_nothing header (message_of body))) refused is in
    subst (Tells account body words_in_order) first (tells_all account body bytes)

no_word : (account body : List ℕ) (ask : PlainAsk) → AreBytes body → ask_of account body ≡ Ok ask → NoneIsTrue account body words_in_order
unfolding ask_of
no_word account body ask bytes is =
    let header = header_in body in
    let none = passed (first_refusal (checks account header (message_of body))) (asked account header (operation_of header) (message_or_nothing header (message_of body))) ask is in
    subst (Tells account body words_in_order) none.0 (tells_all account body bytes)

-- there is one first word, and none where no word is true
none_first : (account body : List ℕ) (words : List Word) (word : Word) → NoneIsTrue account body words → IsFirst account body words word → ⊥
none_first account body [] word none never = never
none_first account body (one ∷ later) word none (inl here) = none.0 here.1
none_first account body (one ∷ later) word none (inr there) = none_first account body later word none.1 there.1

one_first : (account body : List ℕ) (words : List Word) (a b : Word) → IsFirst account body words a → IsFirst account body words b → a ≡ b
one_first account body [] a b never other = absurd never
one_first account body (one ∷ later) a b (inl here) (inl also) = here.0 ∙ sym also.0
one_first account body (one ∷ later) a b (inl here) (inr there) = absurd (there.0 here.1)
one_first account body (one ∷ later) a b (inr there) (inl here) = absurd (there.0 here.1)
one_first account body (one ∷ later) a b (inr there) (inr also) = one_first account body later a b there.1 also.1

refused_with : (account body : List ℕ) (word : Word) → AreBytes body → IsFirst account body words_in_order word → (read : Result PlainAsk PlainRefusal) → ask_of account body ≡ read → (refused : PlainRefusal) × (ask_of account body ≡ Err refused) × (refused.refusal.word ≡ word)
refused_with account body word bytes first (Ok ask) is = absurd (none_first account body words_in_order word (no_word account body ask bytes is) first)
refused_with account body word bytes first (Err refused) is = (refused, is, one_first account body words_in_order refused.refusal.word word (first_word account body refused bytes is) first)

passed_with : (account body : List ℕ) → AreBytes body → NoneIsTrue account body words_in_order → (read : Result PlainAsk PlainRefusal) → ask_of account body ≡ read → (ask : PlainAsk) × (ask_of account body ≡ Ok ask)
passed_with account body bytes none (Ok ask) is = (ask, is)
passed_with account body bytes none (Err refused) is = absurd (none_first account body words_in_order refused.refusal.word none (first_word account body refused bytes is))

pub refused_for_the_first : RefusedForTheFirst
refused_for_the_first = record {
  refused = first_word;
  refuses = λ account body word bytes first. refused_with account body word bytes first (ask_of account body) refl;
  passed = no_word;
  passes = λ account body bytes none. passed_with account body bytes none (ask_of account body) refl;
}

first_means : (account body : List ℕ) (words : List Word) (word : Word) → IsFirst account body words word → Means account body word
first_means account body [] word never = absurd never
first_means account body (one ∷ later) word (inl here) = subst (Means account body) (sym here.0) here.1
first_means account body (one ∷ later) word (inr there) = first_means account body later word there.1

pub refusals_mean : RefusalsMean
refusals_mean account body refused bytes is = first_means account body words_in_order refused.refusal.word (first_word account body refused bytes is)
