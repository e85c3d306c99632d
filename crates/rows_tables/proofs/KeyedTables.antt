-- The tables of the store whose rows are found by a key, which is their first columns: what the schema says of each.
use Rattle.std.proofs.Common.{◌≡◌, ℕ, zero, suc, ◌+◌, ℤ, true, false, List, [], ◌∷◌, Some, slice_get, refl, inl, inr}
use Rattle.std.specs.List.{AllByRecursion}
use Rattle.std.proofs.Math.Bool.{or-false}
use Rattle.std.proofs.lemmas.Bool.{and_parts, not-true}
use Rattle.sqlite_value.specs.declared.value.Value.{Value}
use Rattle.sqlite_value.specs.declared.value.Value.TheVariants.{Null, Int, Text}
use Rattle.sqlite_value.specs.Order.{Row}
use Rattle.sqlite_value.specs.Keys.{plain}
use Rattle.sqlite_schema.specs.declared.schema.Column.{Column}
use Rattle.sqlite_trees.specs.Tree.{Trees}
use Rattle.sqlite_schema.specs.declared.schema.Constraint.TheVariants.{Unique}
use Rattle.sqlite_schema.specs.Rules.{agree, clashes}
use Rattle.sqlite_schema.specs.Rules as rules_of
use Rattle.sqlite_rules.specs.Keys.{conflicts}
use Rattle.sqlite_rules.specs.Lists.{Has}
use Rattle.rows_tables.specs.Places.{account_tree, job_tree, document_tree, grants_tree, device_tree, rates_tree}
use Rattle.rows_tables.specs.Tables.{room_schema, keyed, account, job, document, grants, device, rates}
use Rattle.rows_tables.proofs.Columns.{AreExact, text_is, integer_is}
use Rattle.rows_tables.proofs.Statements.{IsGuarded}

-- so many places, from this one on
abbrev pub places_from : ℕ → ℕ → List ℕ
places_from zero place = []
places_from (suc n) place = place ∷ places_from n (place + 1)

module _ (at : ℕ) (name : List ℕ) (tree width : ℕ) (columns : List Column) where
  -- the schema has the table, by so many columns of the key, at this place
  pub record IsInSchema : Type 0 where
    pub place : slice_get room_schema.tables at ≡ Some (keyed name tree (places_from width 1) columns)
    pub listed : Has room_schema.tables (keyed name tree (places_from width 1) columns)
    pub guarded : IsGuarded (keyed name tree (places_from width 1) columns)
    -- and nothing else that is to come once
    pub unguarded : (trees : Trees) (row : Row) → clashes plain (places_from width 1) (trees tree) row ≡ false → rules_of.passes Unique room_schema trees (keyed name tree (places_from width 1) columns) row ≡ true
    pub required : AllByRecursion (λ c. c.not_null ≡ true) columns
    -- no column of the key is the row number
    pub numberless : (id : Value) (cells r : Row) → (agree plain (places_from width 1) r (places_from width 1) (id ∷ cells) ≡ agree plain (places_from width 1) r (places_from width 1) (Null ∷ cells))
        × (agree plain (places_from width 1) (id ∷ cells) (places_from width 1) r ≡ agree plain (places_from width 1) (Null ∷ cells) (places_from width 1) r)
    -- no index but that of the key finds a row in the way
    pub conflict : (new r : Row) → conflicts (Some (places_from width 1)) room_schema.indexes (keyed name tree (places_from width 1) columns) new r ≡ agree plain (places_from width 1) r (places_from width 1) new

pub account_in : IsInSchema 1 account.name account_tree 1 account.columns
account_in = record {
  place = refl;
  listed = inr (inl refl);
  guarded = λ trees row h. not-true _ (and_parts _ _ h).0;
  unguarded = λ trees row h. rw h refl;
  required = (refl, (refl, (refl, tt)));
  numberless = λ id cells r. (refl, refl);
  conflict = λ new r. or-false _;
}

pub account_key : (name : List ℕ) → AreExact account.columns (Text name ∷ [])
account_key name = ((λ v. text_is v name), tt)

pub job_in : IsInSchema 2 job.name job_tree 2 job.columns
job_in = record {
  place = refl;
  listed = inr (inr (inl refl));
  guarded = λ trees row h. not-true _ (and_parts _ _ h).0;
  unguarded = λ trees row h. rw h refl;
  required = (refl, (refl, (refl, (refl, (refl, (refl, (refl, (refl, (refl, (refl, (refl, (refl, (refl, (refl, (refl, (refl, (refl, tt)))))))))))))))));
  numberless = λ id cells r. (refl, refl);
  conflict = λ new r. or-false _;
}

pub job_key : (name : List ℕ) (n : ℤ) → AreExact job.columns (Text name ∷ Int n ∷ [])
job_key name n = ((λ v. text_is v name), ((λ v. integer_is v n), tt))

pub document_in : IsInSchema 3 document.name document_tree 3 document.columns
document_in = record {
  place = refl;
  listed = inr (inr (inr (inl refl)));
  guarded = λ trees row h. not-true _ (and_parts _ _ h).0;
  unguarded = λ trees row h. rw h refl;
  required = (refl, (refl, (refl, (refl, (refl, tt)))));
  numberless = λ id cells r. (refl, refl);
  conflict = λ new r. or-false _;
}

pub document_key : (name : List ℕ) (m n : ℤ) → AreExact document.columns (Text name ∷ Int m ∷ Int n ∷ [])
document_key name m n = ((λ v. text_is v name), ((λ v. integer_is v m), ((λ v. integer_is v n), tt)))

pub grants_in : IsInSchema 4 grants.name grants_tree 2 grants.columns
grants_in = record {
  place = refl;
  listed = inr (inr (inr (inr (inl refl))));
  guarded = λ trees row h. not-true _ (and_parts _ _ h).0;
  unguarded = λ trees row h. rw h refl;
  required = (refl, (refl, (refl, tt)));
  numberless = λ id cells r. (refl, refl);
  conflict = λ new r. or-false _;
}

pub grants_key : (name : List ℕ) (n : ℤ) → AreExact grants.columns (Text name ∷ Int n ∷ [])
grants_key name n = ((λ v. text_is v name), ((λ v. integer_is v n), tt))

pub device_in : IsInSchema 5 device.name device_tree 1 device.columns
device_in = record {
  place = refl;
  listed = inr (inr (inr (inr (inr (inl refl)))));
  guarded = λ trees row h. not-true _ (and_parts _ _ h).0;
  unguarded = λ trees row h. rw h refl;
  required = (refl, (refl, tt));
  numberless = λ id cells r. (refl, refl);
  conflict = λ new r. or-false _;
}

pub device_key : (name : List ℕ) → AreExact device.columns (Text name ∷ [])
device_key name = ((λ v. text_is v name), tt)

pub rates_in : IsInSchema 6 rates.name rates_tree 1 rates.columns
rates_in = record {
  place = refl;
  listed = inr (inr (inr (inr (inr (inr (inl refl))))));
  guarded = λ trees row h. not-true _ (and_parts _ _ h).0;
  unguarded = λ trees row h. rw h refl;
  required = (refl, (refl, tt));
  numberless = λ id cells r. (refl, refl);
  conflict = λ new r. or-false _;
}

pub rates_key : (name : List ℕ) → AreExact rates.columns (Text name ∷ [])
rates_key name = ((λ v. text_is v name), tt)
