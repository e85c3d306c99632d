-- Lemmas on steps that are taken one after another (`InTurn`).
use Rattle.std.proofs.Common.{◌≡◌, ◌<◌, ◌+◌, ℕ, List, [], ◌∷◌, ◌++◌, ◌∙◌, ap, get_or, length, map, refl, subst, sym, take}
use Rattle.std.proofs.lemmas.List.{map-append, take_more}
use Rattle.client_operator.specs.Talks.{InTurn}

pub InTurn-snoc : {X S : Type 0} (Step : X → S → S → Type 0) (from mid to : S) (xs : List X) (x : X)
    → InTurn Step from mid xs → Step x mid to → InTurn Step from to (xs ++ x ∷ [])
InTurn-snoc Step from mid to [] x done step = (to, subst (λ s. Step x s to) done step, refl)
InTurn-snoc Step from mid to (first ∷ rest) x done step =
    (done.0, done.1, InTurn-snoc Step done.0 mid to rest x done.2 step)

pub take_one : {X : Type 0} (xs : List X) (index : ℕ) (x : X) → index < length xs
    → x ≡ get_or xs index x → take (index + 1) xs ≡ take index xs ++ x ∷ []
take_one xs index x within is =
    take_more xs index x within ∙ ap (λ r. take index xs ++ r ∷ []) (sym is)

-- the same of what each is seen as
pub map-take_one : {X Y : Type 0} (view : X → Y) (xs : List X) (index : ℕ) (x : X) → index < length xs
    → x ≡ get_or xs index x → map view (take (index + 1) xs) ≡ map view (take index xs) ++ view x ∷ []
map-take_one view xs index x within is =
    ap (map view) (take_one xs index x within is) ∙ map-append view (take index xs) (x ∷ [])

-- a step for the next of a list
pub InTurn-next : {X S : Type 0} (Step : X → S → S → Type 0) (from mid to : S) (xs : List X)
    → (index : ℕ) (x : X) → index < length xs → x ≡ get_or xs index x
    → InTurn Step from mid (take index xs) → Step x mid to → InTurn Step from to (take (index + 1) xs)
InTurn-next Step from mid to xs index x within is done step =
    subst (InTurn Step from to) (sym (take_one xs index x within is))
    (InTurn-snoc Step from mid to (take index xs) x done step)

pub InTurn-next-seen : {X Y S : Type 0} (view : X → Y) (Step : Y → S → S → Type 0) (from mid to : S)
    → (xs : List X) (index : ℕ) (x : X) → index < length xs → x ≡ get_or xs index x
    → InTurn Step from mid (map view (take index xs)) → Step (view x) mid to
    → InTurn Step from to (map view (take (index + 1) xs))
InTurn-next-seen view Step from mid to xs index x within is done step =
    subst (InTurn Step from to) (sym (map-take_one view xs index x within is))
    (InTurn-snoc Step from mid to (map view (take index xs)) (view x) done step)
