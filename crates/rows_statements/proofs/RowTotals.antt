-- What is added up of the rows that a walk is given.
use Rattle.std.proofs.Common.{◌≡◌, ℕ, ◌+◌, ◌≤◌, Bool, ◌||◌, List, [], ◌∷◌, ◌++◌, map, drop, refl, ap, ◌∙◌, sym, inl, arith}
use Rattle.std.specs.List.{sum_by, list_any}
use Rattle.std.proofs.lemmas.List.Sums.{sum_by-cons, sum_by-append, sum_by_push}
use Rattle.std.proofs.lemmas.List.Sorted.{sum_by-IsPermutation}
use Rattle.sqlite_value.specs.Order.{Row}
use Rattle.sqlite_rules.specs.Lists.{Has}
use Rattle.sqlite_rules.proofs.ListLemmas.{has_left, has_right}
use Rattle.rows_statements.specs.Walks.{RefusesOne}
use Rattle.rows_tables.proofs.Queries.{permuted_has}

-- what is shown of the rows is of their cells
pub of_their_cells : {X : Type 0} (f g : Row → X) → ((r : Row) → f r ≡ g (drop 1 r)) → (rows : List Row) → map f rows ≡ map g (map (drop 1) rows)
of_their_cells f g alike [] = refl
of_their_cells f g alike (r ∷ rows) = ap (λ x. x ∷ map f rows) (alike r) ∙ ap (λ more. g (drop 1 r) ∷ more) (of_their_cells f g alike rows)

module _ {X Y : Type 0} (g : X → Y) where
  pub sum_mapped : (f : Y → ℕ) (xs : List X) → sum_by f (map g xs) ≡ sum_by (λ x. f (g x)) xs
  sum_mapped f [] = refl
  sum_mapped f (x ∷ xs) = sum_by-cons f (g x) (map g xs) ∙ ap (λ n. f (g x) + n) (sum_mapped f xs) ∙ sym (sum_by-cons (λ x. f (g x)) x xs)

  pub any_mapped : (p : Y → Bool) (xs : List X) → list_any p (map g xs) ≡ list_any (λ x. p (g x)) xs
  any_mapped p [] = refl
  any_mapped p (x ∷ xs) = ap (λ b. p (g x) || b) (any_mapped p xs)

module _ {G : Type 0} (step : G → Row → G → Type 0) (refuses : G → Row → Type 0) (shown : List Row) (first : G) (it : RefusesOne step refuses shown first) where
  pub refused_there : Has shown it.row
  refused_there = permuted_has shown ((it.given ++ it.row ∷ []) ++ it.more) it.row it.are_shown (has_left (it.given ++ it.row ∷ []) it.more it.row (has_right it.given (it.row ∷ []) it.row (inl refl)))

  -- those before it and it come to no more than all of them
  pub refused_within : (f : Row → ℕ) → sum_by f it.given + f it.row ≤ sum_by f shown
  refused_within f =
      let all = sum_by-IsPermutation f shown ((it.given ++ it.row ∷ []) ++ it.more) it.are_shown in
      omega (arith, all, sum_by-append f (it.given ++ it.row ∷ []) it.more, sum_by_push f it.given it.row)
