-- Tables of attributes, and which of them an answer shows (RFC 8011 sections 4.2.5.1 and 4.3.4.1).
use Rattle.std.specs.Prelude.{ℕ, Bool, true, ◌||◌, List, filter, map, Option, Some, None, bytes_eq, codes}
use Rattle.std.specs.List.{list_any}
use Rattle.ipp_coding.specs.Plain.{PlainAttribute, PlainValue}

-- an attribute: its name, the keyword of the group of attributes that it belongs to, its values
pub record Row : Type 0 where
  pub name : List ℕ
  pub group : List ℕ
  pub values : List PlainValue

-- one of the group job-template (section 5.2)
abbrev pub templated : (name : List ℕ) (values : List PlainValue) → Row
templated name values = record { name = name; group = codes "job-template"; values = values }

abbrev pub attribute_of : Row → PlainAttribute
attribute_of row = record { name = row.name; values = row.values }

-- requested-attributes has the name of the attribute, the keyword of its group, or `all`
abbrev pub is_asked_by : (row : Row) (asked : List ℕ) → Bool
is_asked_by row asked =
    bytes_eq asked row.name || bytes_eq asked row.group || bytes_eq asked (codes "all")

-- without requested-attributes each is shown
abbrev pub is_shown : (wanted : Option (List (List ℕ))) → Row → Bool
is_shown None row = true
is_shown (Some names) row = list_any (is_asked_by row) names

-- those that are shown, in the order of the table
abbrev pub attributes_shown : (wanted : Option (List (List ℕ))) (rows : List Row)
    → List PlainAttribute
attributes_shown wanted rows = map attribute_of (filter (is_shown wanted) rows)
