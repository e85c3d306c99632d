-- How many jobs a slice copies.
use Rattle.std.proofs.Common.{◌≡◌, ◌+◌, ◌<◌, ◌≤◌, ◌⊎◌, ℕ, List, Option, Some, None, IfSome, Result, Ok, Err, IfOk, sym, ap, subst, ◌∙◌, inl, inr, arith}
use Rattle.sqlite_value.specs.Order.{Row, column}
use Rattle.sqlite.specs.Effect.{Database}
use Rattle.account_rules.specs.declared.account.Account.{Account}
use Rattle.rows_tables.specs.Cells.{account_cells}
use Rattle.rows_tables.specs.Accounts.{account_at}
use Rattle.rows_tables.proofs.KeyedRows.{same_row}
use Rattle.rows_tables.proofs.ReadBackLemmas.{number_back}
use Rattle.store_copy.specs.Slices.{AreAtMost, BeginsAtMost, HasNext, end_of, reached}
use Rattle.store_copy.specs.declared.slices.Progress.{Progress}
use Rattle.store_copy.specs.declared.slices.Progress.TheVariants.{UpTo}

-- ---- while it goes on

-- none is copied yet, or there is space for one more
abbrev pub HasSpace : (most : Option ℕ) (first number : ℕ) → Type 0
HasSpace None first number = Unit {0}
HasSpace (Some most) first number = (number ≤ first) ⊎ (number < first + most)

pub space_at_first : (most : Option ℕ) (first : ℕ) → HasSpace most first first
space_at_first None first = tt
space_at_first (Some most) first = inl (omega arith)

pub still_space : (most : Option ℕ) (first number jobs : ℕ) → number ≡ first + jobs → IfSome most (λ most. jobs < most) → HasSpace most first number
still_space None first number jobs is fewer = tt
still_space (Some most) first number jobs is fewer = inr (omega (arith, is, fewer))

pub one_more : (most : Option ℕ) (first number : ℕ) → HasSpace most first number → AreAtMost most first (number + 1)
one_more None first number space = tt
one_more (Some most) first number (inl none) = inr (omega (arith, none))
one_more (Some most) first number (inr fewer) = inl (omega (arith, fewer))

pub fewer_still : (most : Option ℕ) (first number end : ℕ) → end ≤ number → AreAtMost most first number → AreAtMost most first end
fewer_still None first number end below few = tt
fewer_still (Some most) first number end below (inl few) = inl (omega (arith, below, few))
fewer_still (Some most) first number end below (inr few) = inr (omega (arith, below, few))

-- ---- an account that was begun

module _ (name : List ℕ) (source : Database) (most : Option ℕ) where
  pub none_begun : account_at source name ≡ None → BeginsAtMost most (UpTo (Some name)) source
  none_begun none next has = let no : ⊥ = let e = sym none ∙ has.1 in cc in absurd no

  pub begun_at_most : (it : Account) → account_at source name ≡ Some (account_cells name it) → (to : Progress) → reached to ≡ Some name → AreAtMost most 1 (end_of it.next_job to) → BeginsAtMost most to source
  begun_at_most it there to same few =
      subst (λ (o : Option (List ℕ)). IfSome o (λ name. (next : ℕ) → HasNext source name next → AreAtMost most 1 (end_of next to))) (sym same)
      (λ next has. subst (λ (n : ℕ). AreAtMost most 1 (end_of n to)) (own next has) few)
    where
      own : (next : ℕ) → HasNext source name next → it.next_job ≡ next
      own next has = number_back it.next_job has.0.next_job (ap (λ (cells : Row). column cells 2) (same_row (sym there ∙ has.1))) ∙ has.2

pub if_ok_both : {X E : Type 0} {P Q R : X → Type 0} (r : Result X E) → ((x : X) → P x → Q x → R x) → IfOk r P → IfOk r Q → IfOk r R
if_ok_both (Ok x) f p q = f x p q
if_ok_both (Err e) f p q = tt
