-- The first of the names that come next is the one that comes next.
use Rattle.std.proofs.Common.{◌≡◌, ℕ, Bool, true, false, cond, List, [], ◌∷◌, take, filter, slice_get, Less, Equal, Greater, Ordering, IsSome, is_lt, Option, Some, None, IfSome, refl, sym, ap, subst, ◌∙◌, inl, inr}
use Rattle.std.specs.Ordering.{ordering_reverse}
use Rattle.std.specs.Cmp.{tied_itself}
use Rattle.std.specs.Cmp.Lexicographic.{nat_list_cmp_total}
use Rattle.std.proofs.lemmas.Bool.{true≢false}
use Rattle.sqlite_value.specs.Order.{Row}
use Rattle.sqlite_rules.specs.Lists.{Has}
use Rattle.sqlite_rules.proofs.ListLemmas.{all_has, any_has}
use Rattle.sqlite.specs.Effect.{Database}
use Rattle.account_state.specs.Names.{AreNames, NamesRise, from_name, next_names}
use Rattle.account_rules.specs.Devices.{name_cmp}
use Rattle.account_rules.specs.Names.{is_name}
use Rattle.rows_tables.specs.Accounts.{account_at}
use Rattle.rows_statements.specs.SoundRows.{AreNamed}
use Rattle.store_copy.specs.Slices.{ComesNext, is_behind, is_before}

-- ---- an order

pub is_less : (o : Ordering) → is_lt o ≡ true → o ≡ Less
is_less Less e = refl
is_less Equal e = absurd (true≢false (sym e))
is_less Greater e = absurd (true≢false (sym e))

pub never_itself : (name : List ℕ) → is_lt (name_cmp name name) ≡ true → ⊥
never_itself name less = let e : Equal ≡ Less = sym (tied_itself nat_list_cmp_total name) ∙ is_less _ less in let no : ⊥ = cc in no

pub other_way : (a b : List ℕ) → name_cmp a b ≡ Less → name_cmp b a ≡ Greater
other_way a b less = nat_list_cmp_total.antisymm b a ∙ ap ordering_reverse less

never_both : (a b : List ℕ) → name_cmp a b ≡ Less → is_lt (name_cmp b a) ≡ true → ⊥
never_both a b less more = let e : Greater ≡ Less = sym (other_way a b less) ∙ is_less _ more in let no : ⊥ = cc in no

-- ---- the first that passes

module _ (p : List ℕ → Bool) where
  abbrev first_of : List (List ℕ) → Option (List ℕ)
  first_of names = slice_get (take 100 (filter p names)) 0

  first_passes : (names : List (List ℕ)) (next : Option (List ℕ)) → next ≡ first_of names → IfSome next (λ name. p name ≡ true)
  first_passes names None is = tt
  first_passes [] (Some name) is = let no : ⊥ = cc in absurd no
  first_passes (n ∷ names) (Some name) is = by (p n) refl is (first_passes names (Some name))
    where
      by : (b : Bool) → p n ≡ b → Some name ≡ slice_get (take 100 (cond b (n ∷ filter p names) (filter p names))) 0 → (Some name ≡ first_of names → p name ≡ true) → p name ≡ true
      by true passes e later = let same : name ≡ n = cc in ap p same ∙ passes
      by false fails e later = later e

  -- no name that passes comes before it
  none_before : (names : List (List ℕ)) (next : Option (List ℕ)) → NamesRise names → next ≡ first_of names → (name : List ℕ) → Has names name → p name ≡ true → is_before next name ≡ true → ⊥
  none_before [] next rise is name there passes before = there
  none_before (n ∷ names) next rise is name there passes before = by (p n) refl is there (λ e later. none_before names next rise.1 e name later passes before)
    where
      by : (b : Bool) → p n ≡ b → next ≡ slice_get (take 100 (cond b (n ∷ filter p names) (filter p names))) 0 → Has (n ∷ names) name → (next ≡ first_of names → Has names name → ⊥) → ⊥
      by true first e (inl same) behind = never_itself n (subst (λ (m : List ℕ). is_lt (name_cmp m n) ≡ true) same (subst (λ (o : Option (List ℕ)). is_before o name ≡ true) e before))
      by true first e (inr later) behind = never_both n name (all_has (λ later. name_cmp n later ≡ Less) names name rise.0 later) (subst (λ (o : Option (List ℕ)). is_before o name ≡ true) e before)
      by false fails e (inl same) behind = true≢false (sym passes ∙ ap p same ∙ fails)
      by false fails e (inr later) behind = behind e later

module _ (last : Option (List ℕ)) (db : Database) (names : List (List ℕ)) (are : AreNames (λ name. IsSome (account_at db name)) names) (named : AreNamed db) where
  abbrev passes : List ℕ → Bool
  passes name = is_lt (name_cmp (from_name last) name)

  not_empty : (name : List ℕ) → is_name name ≡ true → is_lt (name_cmp [] name) ≡ true
  not_empty [] is = absurd (true≢false (sym is))
  not_empty (b ∷ name) is = refl

  behind_passes : (last : Option (List ℕ)) (name : List ℕ) → is_name name ≡ true → is_behind last name ≡ true → is_lt (name_cmp (from_name last) name) ≡ true
  behind_passes None name is behind = not_empty name is
  behind_passes (Some it) name is behind = behind

  passes_behind : (last : Option (List ℕ)) (name : List ℕ) → is_lt (name_cmp (from_name last) name) ≡ true → is_behind last name ≡ true
  passes_behind None name it = refl
  passes_behind (Some l) name it = it

  all_behind : (next : Option (List ℕ)) → IfSome next (λ name. passes name ≡ true) → IfSome next (λ name. is_behind last name ≡ true)
  all_behind None it = tt
  all_behind (Some name) it = passes_behind last name it

  is_none : (o : Option Row) → (IsSome o → ⊥) → o ≡ None
  is_none None never = refl
  is_none (Some row) never = absurd (never refl)

  pub comes_next : (next : Option (List ℕ)) → next ≡ slice_get (next_names last names) 0 → ComesNext last db next
  comes_next next is = record {
    behind = all_behind next (first_passes passes names next is);
    none_between = λ name behind before. is_none (account_at db name) (λ some.
        let one = any_has (λ other. other ≡ name) names ((are.exactly name).1 some) in
        none_before passes names next are.rise is name (subst (Has names) one.2 one.1) (behind_passes last name (named name some) behind) before);
  }
