-- Accounts stay those of names.
use Rattle.std.proofs.Common.{◌≡◌, ◌≢◌, ℕ, Bool, true, false, List, Option, IsSome, IsTrue, nat_eq, refl, sym, subst, ◌∙◌}
use Rattle.std.specs.Cmp.Lexicographic.{pointwise, bytes_decides}
use Rattle.std.proofs.lemmas.Bool.{true≢false}
use Rattle.sqlite_value.specs.Order.{Row}
use Rattle.sqlite.specs.Effect.{Database}
use Rattle.account_rules.specs.Names.{is_name}
use Rattle.rows_statements.specs.Alone.{OnlyAccount}
use Rattle.rows_statements.specs.NamesStay.{NamesStay}
use Rattle.rows_statements.specs.SoundRows.{AreNamed}

named_after : (name : List ℕ) (old new : Database) → IsTrue (is_name name) → OnlyAccount name old new → AreNamed old → AreNamed new
named_after name old new named alone before other some = by_test (pointwise nat_eq other name) refl
  where
    by_test : (b : Bool) → pointwise nat_eq other name ≡ b → IsTrue (is_name other)
    by_test true is = subst (λ n. IsTrue (is_name n)) (sym ((bytes_decides other name).0 is)) named
    by_test false isnt =
        let apart : other ≢ name = λ same. true≢false (sym ((bytes_decides other name).1 same) ∙ isnt) in
        before other (subst (λ (o : Option Row). IsSome o) (alone.others other apart).same_account some)

pub names_stay : NamesStay
names_stay = record {
  of_none = λ db none name some. absurd (true≢false (sym (subst (λ (o : Option Row). IsSome o) (none name) some)));
  account = named_after;
  devices = λ old new alone before name some. before name (subst (λ (o : Option Row). IsSome o) (alone.accounts name).same_account some);
}
