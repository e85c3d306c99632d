-- Rule: Tables of attributes, and which of them a requester is shown.
use Rattle.std.specs.Prelude.{ℕ, Bool, true, ◌||◌, List, map, filter, Option, Some, None, codes, bytes_eq}
use Rattle.std.specs.List.{list_any}
use Rattle.ipp_coding.specs.Plain.{PlainValue, PlainAttribute}
use Rattle.account_replies.specs.Places.{PlainPlace}
pub use Rattle.account_replies.specs.ProofAskedNames.{asked_names}

-- an attribute: its name, the keyword by which `requested-attributes` asks for it with its like, and
-- its values for what is shown
pub record ShownRow (Thing : Type 0) : Type 0 where
  pub name : List ℕ
  pub group : List ℕ
  pub values : PlainPlace → Thing → List PlainValue

-- `requested-attributes` has the name, the name of its group, or `all` (RFC 8011 sections 4.2.5.1
-- and 4.3.4.1)
abbrev pub asks_for : (name group asked : List ℕ) → Bool
asks_for name group asked =
    bytes_eq asked name || bytes_eq asked group || bytes_eq asked (codes "all")

-- without `requested-attributes` all are shown
abbrev pub is_wanted : Option (List (List ℕ)) → (name group : List ℕ) → Bool
is_wanted None name group = true
is_wanted (Some names) name group = list_any (asks_for name group) names

abbrev pub row_attribute : {Thing : Type 0} → PlainPlace → Thing → ShownRow Thing → PlainAttribute
row_attribute at thing row = record { name = row.name; values = row.values at thing }

-- the attributes that are wanted, in the order of the table
abbrev pub shown : {Thing : Type 0} → (rows : List (ShownRow Thing))
    (wanted : Option (List (List ℕ))) (at : PlainPlace) (thing : Thing) → List PlainAttribute
shown {Thing} rows wanted at thing =
    map
    (row_attribute at thing)
    (filter (λ (row : ShownRow Thing). is_wanted wanted row.name row.group) rows)
