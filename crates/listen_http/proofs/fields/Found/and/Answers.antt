use Rattle.std.proofs.Common.{◌≡◌, ◌++◌, List, ℕ, [], ◌∷◌, ap}
use Rattle.listen_http.proofs.fields.Found.and.Goals as goal

pub returns-in-One : goal.returns-in-One
returns-in-One c values found =
    let is : values ≡ c.in-One.first.now ∷ [] = rw c.in-One.is at found in
    (c.args.value.now, [], ap (λ (vs : List (List ℕ)). vs ++ c.args.value.now ∷ []) is)

pub returns-in-Many : goal.returns-in-Many
returns-in-Many c values found =
    let others = rw c.in-Many.is at found in
    (others.0, others.1 ++ c.args.value.now ∷ [], ap (λ (vs : List (List ℕ)). vs ++ c.args.value.now ∷ []) others.2)
