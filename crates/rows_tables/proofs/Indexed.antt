-- What a database has that was given its index on jobs is what it had.
use Rattle.std.proofs.Common.{◌≡◌, ℕ, List, [], ◌∷◌, find, drop, option_map, refl, sym, ap, subst, inl, inr}
use Rattle.sqlite_value.specs.declared.value.Value.TheVariants.{Int, Text}
use Rattle.sqlite_value.specs.Order.{Row}
use Rattle.sqlite_trees.specs.View.{IsShaped}
use Rattle.sqlite_trees.specs.declared.store.Shape.TheVariants as shape
use Rattle.sqlite_schema.specs.declared.schema.Table.{Table}
use Rattle.sqlite_rules.specs.Lists.{Has}
use Rattle.sqlite_rules.proofs.ListLemmas.{all_has, all_from}
use Rattle.sqlite.specs.Effect.{Database}
use Rattle.rows_tables.specs.Tables.{room_schema, account, job, document, grants, device, rates}
use Rattle.rows_tables.specs.Keyed.{AreNumbered, has_key, row_at}
use Rattle.rows_tables.specs.Accounts.{AgreeOnRows}
use Rattle.rows_tables.specs.Devices.{AgreeOnDevices}
use Rattle.rows_tables.specs.Making.{AddsIndex}

pub kept_row : (t : Table) (key : Row) (old new : Database) → new.trees t.tree ≡ old.trees t.tree → row_at t key new ≡ row_at t key old
kept_row t key old new same = ap (λ rows. option_map (drop 1) (find (has_key t key) rows)) same

module _ (old new : Database) (adds : AddsIndex old new) where
  same_rows : (t : Table) → Has room_schema.tables t → new.trees t.tree ≡ old.trees t.tree
  same_rows t listed = all_has (λ u. new.trees u.tree ≡ old.trees u.tree) room_schema.tables t adds.kept listed

  same_row : (t : Table) → Has room_schema.tables t → (key : Row) → row_at t key new ≡ row_at t key old
  same_row t listed key = kept_row t key old new (same_rows t listed)

  pub still_numbered : AreNumbered room_schema.tables old → AreNumbered room_schema.tables new
  still_numbered numbered =
      all_from (λ t. IsShaped shape.Table (new.trees t.tree)) room_schema.tables (λ t listed.
      subst (IsShaped shape.Table) (sym (same_rows t listed)) (all_has (λ u. IsShaped shape.Table (old.trees u.tree)) room_schema.tables t numbered listed))

  pub still_agree : (name : List ℕ) → AgreeOnRows name old new
  still_agree name = record {
    same_account = same_row account (inr (inl refl)) (Text name ∷ []);
    same_jobs = λ number. same_row job (inr (inr (inl refl))) (Text name ∷ Int number ∷ []);
    same_documents = λ of number. same_row document (inr (inr (inr (inl refl)))) (Text name ∷ Int of ∷ Int number ∷ []);
    same_grants = λ month. same_row grants (inr (inr (inr (inr (inl refl))))) (Text name ∷ Int month ∷ []);
  }

  pub still_devices : AgreeOnDevices old new
  still_devices = record {
    same_devices = λ name. same_row device (inr (inr (inr (inr (inr (inl refl)))))) (Text name ∷ []);
    same_rates = λ name. same_row rates (inr (inr (inr (inr (inr (inr (inl refl))))))) (Text name ∷ []);
  }
