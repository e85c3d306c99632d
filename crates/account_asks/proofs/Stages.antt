-- The checks of the operation attributes, section by section.
use Rattle.std.proofs.Common.{◌≡◌, ℕ, List, Ok, Err, refl, sym, ap, ◌∙◌, ◌++◌}
use Rattle.ipp_coding.specs.Plain.{PlainAttribute}
use Rattle.account_asks.specs.declared.operation.Operation.{Operation}
use Rattle.account_asks.specs.ProofAskParts.{AskParts, ask_parts}
use Rattle.account_asks.specs.CheckOrder.{attribute_checks, opening_checks, target_checks, field_checks}
use Rattle.account_asks.specs.Checks.{target_of}
use Rattle.account_asks.specs.Fields.{PlainFields, fields_of}
use Rattle.account_asks.specs.Refusals.{PlainRefusal, checked}
use Rattle.account_asks.specs.Targets.{PlainTarget}
use Rattle.account_asks.proofs.Sections.{failed_first, passed_first, passed_value, passed_alone, fails_with}

pub opening_failed : (account : List ℕ) (operation : Operation) (given : List PlainAttribute) (r : PlainRefusal) →
    Err r ≡ checked (opening_checks given) given →
    Err r ≡ checked (attribute_checks account operation given) (ask_parts account operation given)
unfolding attribute_checks
opening_failed account operation given r failed =
    sym (failed_first (opening_checks given) (target_checks account operation given ++ field_checks operation given) given (ask_parts account operation given) r (sym failed))

pub target_failed : (account : List ℕ) (operation : Operation) (given seen : List PlainAttribute) (r : PlainRefusal) →
    Ok seen ≡ checked (opening_checks given) given →
    Err r ≡ checked (target_checks account operation seen) (target_of account operation seen) →
    Err r ≡ checked (attribute_checks account operation given) (ask_parts account operation given)
unfolding attribute_checks
target_failed account operation given seen r opened failed =
    let same : given ≡ seen = passed_value (opening_checks given) given seen (sym opened) in
    let here : checked (target_checks account operation given) (target_of account operation given) ≡ Err r = rw same (sym failed) in
    sym (passed_first (opening_checks given) (target_checks account operation given ++ field_checks operation given) given seen (ask_parts account operation given) (sym opened)
    ∙ failed_first (target_checks account operation given) (field_checks operation given) (target_of account operation given) (ask_parts account operation given) r here)

past_target : (account : List ℕ) (operation : Operation) (given seen : List PlainAttribute) (target : PlainTarget) →
    Ok seen ≡ checked (opening_checks given) given →
    Ok target ≡ checked (target_checks account operation seen) (target_of account operation seen) →
    checked (attribute_checks account operation given) (ask_parts account operation given) ≡ checked (field_checks operation given) (ask_parts account operation given)
unfolding attribute_checks
past_target account operation given seen target opened reached =
    let same : given ≡ seen = passed_value (opening_checks given) given seen (sym opened) in
    let here : checked (target_checks account operation given) (target_of account operation given) ≡ Ok target = rw same (sym reached) in
    passed_first (opening_checks given) (target_checks account operation given ++ field_checks operation given) given seen (ask_parts account operation given) (sym opened)
    ∙ passed_first (target_checks account operation given) (field_checks operation given) (target_of account operation given) target (ask_parts account operation given) here

pub fields_failed : (account : List ℕ) (operation : Operation) (given seen : List PlainAttribute) (target : PlainTarget) (r : PlainRefusal) →
    Ok seen ≡ checked (opening_checks given) given →
    Ok target ≡ checked (target_checks account operation seen) (target_of account operation seen) →
    Err r ≡ checked (field_checks operation seen) (fields_of operation seen) →
    Err r ≡ checked (attribute_checks account operation given) (ask_parts account operation given)
fields_failed account operation given seen target r opened reached failed =
    let same : given ≡ seen = passed_value (opening_checks given) given seen (sym opened) in
    let here : checked (field_checks operation given) (fields_of operation given) ≡ Err r = rw same (sym failed) in
    sym (past_target account operation given seen target opened reached ∙ fails_with (field_checks operation given) (fields_of operation given) (ask_parts account operation given) r here)

pub parts_passed : (account : List ℕ) (operation : Operation) (given seen : List PlainAttribute) (target : PlainTarget) (fields : PlainFields) →
    Ok seen ≡ checked (opening_checks given) given →
    Ok target ≡ checked (target_checks account operation seen) (target_of account operation seen) →
    Ok fields ≡ checked (field_checks operation seen) (fields_of operation seen) →
    Ok (record { attributes = seen; target = target; fields = fields }) ≡ checked (attribute_checks account operation given) (ask_parts account operation given)
unfolding ask_parts
parts_passed account operation given seen target fields opened reached said =
    let same : given ≡ seen = passed_value (opening_checks given) given seen (sym opened) in
    let leads : target_of account operation given ≡ target = rw same (passed_value (target_checks account operation seen) (target_of account operation seen) target (sym reached)) in
    let what : fields_of operation given ≡ fields = rw same (passed_value (field_checks operation seen) (fields_of operation seen) fields (sym said)) in
    let here : checked (field_checks operation given) (fields_of operation given) ≡ Ok fields = rw same (sym said) in
    let whole : ask_parts account operation given ≡ record { attributes = seen; target = target; fields = fields } = rw (leads, what, same) refl in
    sym (past_target account operation given seen target opened reached ∙ passed_alone (field_checks operation given) (fields_of operation given) fields (ask_parts account operation given) here
    ∙ ap (λ (parts : AskParts). Ok parts) whole)
