-- A list of events that grows by one at its end.
use Rattle.std.proofs.Common.{◌≡◌, ℕ, Bool, true, false, cond, List, [], ◌∷◌, ◌++◌, length, refl, ap, ◌∙◌, arith}
use Rattle.std.proofs.lemmas.List.Elements.{filter-append}
use Rattle.account_machine.specs.Events.{PlainEvent, Timed}
use Rattle.room_serve.specs.declared.outcome.Outcome.{Outcome}
use Rattle.room_serve.specs.declared.outcome.Outcome.TheVariants.{Answered, Failed}
use Rattle.room_serve.specs.Own.{of_devices, own}
use Rattle.room_serve.specs.Alone.{Alone, DevicesAlone, answer_on, answer_next, change_on, change_next}
use Rattle.room_serve.specs.Outcomes.{answered_of, replies_to}

pub shorter : {X Y : Type 0} (x : X) (xs : List X) (y : Y) (ys : List Y) → length (x ∷ xs) ≡ length (y ∷ ys) → length xs ≡ length ys
shorter x xs y ys same = omega (arith, same)

-- ---- what is picked of it

pub answered_more : (events : List Timed) (outcomes : List Outcome) (e : Timed) (o : Outcome) → length outcomes ≡ length events
    → answered_of (events ++ e ∷ []) (outcomes ++ o ∷ []) ≡ answered_of events outcomes ++ answered_of (e ∷ []) (o ∷ [])
answered_more [] [] e (Answered reply) same = refl
answered_more [] [] e (Failed fault) same = refl
answered_more [] (x ∷ outcomes) e o same = let no : ⊥ = cc in absurd no
answered_more (x ∷ events) [] e o same = let no : ⊥ = cc in absurd no
answered_more (x ∷ events) (Answered reply ∷ outcomes) e o same = ap (λ l. x ∷ l) (answered_more events outcomes e o (shorter (Answered reply) outcomes x events same))
answered_more (x ∷ events) (Failed fault ∷ outcomes) e o same = answered_more events outcomes e o (shorter (Failed fault) outcomes x events same)

pub replies_more : (kind : PlainEvent → Bool) (events : List Timed) (outcomes : List Outcome) (e : Timed) (o : Outcome) → length outcomes ≡ length events
    → replies_to kind (events ++ e ∷ []) (outcomes ++ o ∷ []) ≡ replies_to kind events outcomes ++ replies_to kind (e ∷ []) (o ∷ [])
replies_more kind [] [] e o same = refl
replies_more kind [] (x ∷ outcomes) e o same = let no : ⊥ = cc in absurd no
replies_more kind (x ∷ events) [] e o same = let no : ⊥ = cc in absurd no
replies_more kind (x ∷ events) (Answered reply ∷ outcomes) e o same =
    let rest = replies_more kind events outcomes e o (shorter (Answered reply) outcomes x events same) in
    elim (kind x.1) as (λ b. cond b (reply ∷ replies_to kind (events ++ e ∷ []) (outcomes ++ o ∷ [])) (replies_to kind (events ++ e ∷ []) (outcomes ++ o ∷ [])) ≡ cond b (reply ∷ replies_to kind events outcomes) (replies_to kind events outcomes) ++ replies_to kind (e ∷ []) (o ∷ [])) [
      | true ↦ ap (λ l. reply ∷ l) rest
      | false ↦ rest
    ]
replies_more kind (x ∷ events) (Failed fault ∷ outcomes) e o same = replies_more kind events outcomes e o (shorter (Failed fault) outcomes x events same)

-- ---- what the machines make of it

pub answer_both : (so_far : Alone) (events more : List Timed) → answer_on so_far (events ++ more) ≡ answer_on (answer_on so_far events) more
answer_both so_far [] more = refl
answer_both so_far (e ∷ events) more = answer_both (answer_next so_far e) events more

change_both : (so_far : DevicesAlone) (events more : List Timed) → change_on so_far (events ++ more) ≡ change_on (change_on so_far events) more
change_both so_far [] more = refl
change_both so_far (e ∷ events) more = change_both (change_next so_far e) events more

pub alone_more : (name : List ℕ) (start : Alone) (events : List Timed) (outcomes : List Outcome) (e : Timed) (o : Outcome) → length outcomes ≡ length events
    → answer_on start (own name (answered_of (events ++ e ∷ []) (outcomes ++ o ∷ []))) ≡ answer_on (answer_on start (own name (answered_of events outcomes))) (own name (answered_of (e ∷ []) (o ∷ [])))
alone_more name start events outcomes e o same =
    ap (λ l. answer_on start (own name l)) (answered_more events outcomes e o same)
    ∙ ap (answer_on start) (filter-append _ (answered_of events outcomes) (answered_of (e ∷ []) (o ∷ [])))
    ∙ answer_both start (own name (answered_of events outcomes)) (own name (answered_of (e ∷ []) (o ∷ [])))

pub devices_more : (start : DevicesAlone) (events : List Timed) (outcomes : List Outcome) (e : Timed) (o : Outcome) → length outcomes ≡ length events
    → change_on start (of_devices (answered_of (events ++ e ∷ []) (outcomes ++ o ∷ []))) ≡ change_on (change_on start (of_devices (answered_of events outcomes))) (of_devices (answered_of (e ∷ []) (o ∷ [])))
devices_more start events outcomes e o same =
    ap (λ l. change_on start (of_devices l)) (answered_more events outcomes e o same)
    ∙ ap (change_on start) (filter-append _ (answered_of events outcomes) (answered_of (e ∷ []) (o ∷ [])))
    ∙ change_both start (of_devices (answered_of events outcomes)) (of_devices (answered_of (e ∷ []) (o ∷ [])))
