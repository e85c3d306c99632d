-- A walk that puts what each row tells at the end of a list.
use Rattle.std.proofs.Common.{◌≡◌, List, [], ◌∷◌, ◌++◌, map, append-nil, append_assoc, refl, sym, ap, subst, ◌∙◌, inl, inr}
use Rattle.std.specs.List.{AllByRecursion}
use Rattle.sqlite_value.specs.Order.{Row}
use Rattle.sqlite_rules.specs.Lists.{Has}
use Rattle.rows_statements.specs.Walks.{GathersAll}

module _ {X : Type 0} (step : List X → Row → List X → Type 0) where
  -- of rows that stand for values, it is what each of them tells
  pub gathered_so : {Y : Type 0} (cells : Y → Row) (told : Y → X) → ((first : List X) (y : Y) (last : List X) → step first (cells y) last → last ≡ first ++ told y ∷ [])
      → (ys : List Y) (first last : List X) → GathersAll step first (map cells ys) last → last ≡ first ++ map told ys
  gathered_so cells told tells [] first last same = sym same ∙ sym (append-nil first)
  gathered_so cells told tells (y ∷ ys) first last (next, one, more) =
      gathered_so cells told tells ys next last more
      ∙ ap (λ (l : List X). l ++ map told ys) (tells first y next one)
      ∙ append_assoc first (told y ∷ []) (map told ys)

  put_last : (P : X → Type 0) (xs : List X) (x : X) → AllByRecursion P xs → P x → AllByRecursion P (xs ++ x ∷ [])
  put_last P [] x all is = (is, tt)
  put_last P (y ∷ xs) x all is = (all.0, put_last P xs x all.1 is)

  -- what each row tells of what it puts there holds of each
  pub gathered_each : (P : X → Type 0) (rows : List Row) → ((first : List X) (row : Row) (last : List X) → Has rows row → step first row last → (x : X) × P x × (last ≡ first ++ x ∷ []))
      → (first last : List X) → AllByRecursion P first → GathersAll step first rows last → AllByRecursion P last
  gathered_each P [] tells first last all same = subst (AllByRecursion P) same all
  gathered_each P (row ∷ rows) tells first last all (next, one, more) =
      let it = tells first row next (inl refl) one in
      gathered_each P rows (λ before other after h is. tells before other after (inr h) is) next last (subst (AllByRecursion P) (sym it.2) (put_last P first it.0 all it.1)) more
