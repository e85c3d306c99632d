-- An account whose rows are removed, table by table, has none.
use Rattle.std.proofs.Common.{◌≡◌, ◌≢◌, ℕ, true, false, cond, Bool, List, [], ◌∷◌, Option, None, refl, ap, ◌∙◌}
use Rattle.sqlite_value.specs.declared.value.Value.TheVariants.{Int, Text}
use Rattle.sqlite_value.specs.Order.{Row}
use Rattle.sqlite.specs.Effect.{Database}
use Rattle.sqlite_schema.specs.declared.schema.Table.{Table}
use Rattle.rows_tables.specs.Places.{account_places}
use Rattle.rows_tables.specs.Tables.{account, job, document, grants}
use Rattle.rows_tables.specs.Keyed.{RemovesRows, row_at}
use Rattle.rows_statements.proofs.KeyTests.{text_here, text_met, unmet}
use Rattle.rows_statements.proofs.LeftAlone.{alone_then, only_account, row_kept}
use Rattle.store_copy.specs.Slices.{ForgetsAccount}

is_gone : (test : Bool) (was new : Option Row) → new ≡ cond test None was → test ≡ true → new ≡ None
is_gone test was new is met = is ∙ ap (λ b. cond b None was) met

is_left : (test : Bool) (was new : Option Row) → new ≡ cond test None was → test ≡ false → new ≡ was
is_left test was new is unmet = is ∙ ap (λ b. cond b None was) unmet

-- rows of no other account are
others_left : (table : Table) (name : List ℕ) (x y : Database) → RemovesRows table (Text name ∷ []) account_places x y → (other : List ℕ) → other ≢ name → (key : Row) → row_at table (Text other ∷ key) y ≡ row_at table (Text other ∷ key) x
others_left table name x y h other apart key = is_left _ _ _ (h.rows (Text other ∷ key)) (unmet _ (text_met other key name) apart)

module _ (name : List ℕ) (a b c d e : Database)
    (documents : RemovesRows document (Text name ∷ []) account_places a b) (jobs : RemovesRows job (Text name ∷ []) account_places b c) (granted : RemovesRows grants (Text name ∷ []) account_places c d) (own : RemovesRows account (Text name ∷ []) account_places d e) where
  pub forgotten : ForgetsAccount name a e
  forgotten = record {
    gone = record {
      no_account = is_gone _ _ _ (own.rows (Text name ∷ [])) (text_here name []);
      no_job = λ n.
          let key : Row = Text name ∷ Int n ∷ [] in
          row_kept job d e (own.rest.job (λ e. let no : ⊥ = cc in no)) key ∙ row_kept job c d (granted.rest.job (λ e. let no : ⊥ = cc in no)) key ∙ is_gone _ _ _ (jobs.rows key) (text_here name (Int n ∷ []));
      no_document = λ m n.
          let key : Row = Text name ∷ Int m ∷ Int n ∷ [] in
          row_kept document d e (own.rest.document (λ e. let no : ⊥ = cc in no)) key ∙ row_kept document c d (granted.rest.document (λ e. let no : ⊥ = cc in no)) key
          ∙ row_kept document b c (jobs.rest.document (λ e. let no : ⊥ = cc in no)) key ∙ is_gone _ _ _ (documents.rows key) (text_here name (Int m ∷ Int n ∷ []));
      no_grant = λ n.
          let key : Row = Text name ∷ Int n ∷ [] in
          row_kept grants d e (own.rest.grants (λ e. let no : ⊥ = cc in no)) key ∙ is_gone _ _ _ (granted.rows key) (text_here name (Int n ∷ []));
    };
    alone =
        alone_then a b e name (only_account name a b document refl documents.rest (others_left document name a b documents) (λ e. cc) (λ e. cc) (λ e. cc))
        (alone_then b c e name (only_account name b c job refl jobs.rest (others_left job name b c jobs) (λ e. cc) (λ e. cc) (λ e. cc))
        (alone_then c d e name (only_account name c d grants refl granted.rest (others_left grants name c d granted) (λ e. cc) (λ e. cc) (λ e. cc)) (only_account name d e account refl own.rest (others_left account name d e own) (λ e. cc) (λ e. cc) (λ e. cc))));
  }
