use Rattle.std.proofs.Common.{ap, length, map, refl, sym, ◌∙◌}
use Rattle.std.proofs.lemmas.Bool.{eqb-false, eqb-true}
use Rattle.std.proofs.lemmas.List.{length-map, nil_from_length}
use Rattle.client_operator.specs.Names.{accounts_asked, last_of}
use Rattle.client_operator.proofs.AskedLists.{AsksList-of}
use Rattle.client_operator.proofs.KnownNames.{AsksNames-of, KnowsNames-more}
use Rattle.client_operator.proofs.names.all_names.Goals as goal

pub returns-then-is_empty : goal.returns-then-is_empty
returns-then-is_empty g c = λ printed.
    let asked = c.as_slice-in-loop.ensures.value ∙ c.in_ok-line.ensures
    ∙ ap (λ names. accounts_asked (last_of names)) c.as_slice.ensures.value in
    let empty = nil_from_length c.as_slice-page.result.now
    (eqb-true _ _ (sym c.is_empty.ensures ∙ c.if-is_empty.true)) in
    AsksNames-of _ _ _ c.loop.names.items _ (c.loop.invariant printed)
    (AsksList-of _ _ _ _ printed _ (accounts_asked (last_of c.loop.names.items)) _ _ asked refl
    c.in_ok-told.ensures.sent c.in_ok-told.ensures.heard)
    (ap (map _) (sym c.as_slice-page.ensures.value ∙ empty))

pub loop-preserved : goal.loop-preserved
loop-preserved g c = λ printed.
    let asked = c.as_slice-in-loop.ensures.value ∙ c.in_ok-line.ensures
    ∙ ap (λ names. accounts_asked (last_of names)) c.as_slice.ensures.value in
    KnowsNames-more _ _ _ c.loop.names.items _ _ (c.loop.invariant printed)
    (AsksList-of _ _ _ _ printed _ (accounts_asked (last_of c.loop.names.items)) _ _ asked
    (ap (map _) (sym c.as_slice-page.ensures.value)) c.in_ok-told.ensures.sent c.in_ok-told.ensures.heard)
    c.in_ok-put_names.ensures
    (λ none. eqb-false _ _ (sym c.is_empty.ensures ∙ c.if-is_empty.false)
    (sym (length-map c.as_slice-page.result.now _) ∙ ap length none))
