-- What is shown of a table of attributes, and that it can be spelled.
use Rattle.std.proofs.Common.{arith, not, ◌==◌, ◌≡◌, ℕ, ◌≤◌, Bool, true, false, cond, ◌&&◌, nat_le, nat_lt, List, [], ◌∷◌, length, map, filter, Option, Some, None, refl, ap, ◌∙◌}
use Rattle.std.specs.List.{AllByRecursion}
use Rattle.std.proofs.lemmas.Bool.{and_parts, leb-true}
use Rattle.std.proofs.lemmas.Bool.Decides.{nat_tests}
use Rattle.ipp_coding.specs.Plain.{PlainAttribute}
use Rattle.ipp_coding.specs.Spelling.{IsAttribute, IsGroup}
use Rattle.account_laws.specs.ShownRows.{Row, attribute_of, attributes_shown, is_shown}
use Rattle.account_laws.specs.ShownValues.{one_under}
use Rattle.account_replies.specs.Places.{PlainPlace}
use Rattle.account_replies.specs.Tables.{ShownRow, is_wanted, row_attribute, shown}

-- one, and those after it
infixr 5 ◌&◌
pub ◌&◌ : {A B : Type 0} → A → B → A × B
a & b = (a, b)

-- rows that are the same one by one
abbrev pub AreAlike : List Row → List Row → Type 0
AreAlike [] [] = Unit {0}
AreAlike (row ∷ rows) (other ∷ others) = (row ≡ other) × AreAlike rows others
AreAlike _ _ = ⊥

pub all_alike : (rows others : List Row) → AreAlike rows others → rows ≡ others
all_alike [] [] alike = refl
all_alike [] (other ∷ others) alike = absurd alike
all_alike (row ∷ rows) [] alike = absurd alike
all_alike (row ∷ rows) (other ∷ others) alike = λ i. alike.0 i ∷ all_alike rows others alike.1 i

-- a row of the machine's table, at a place and of a thing
abbrev pub as_row : {Thing : Type 0} (at : PlainPlace) (thing : Thing) → ShownRow Thing → Row
as_row at thing row = record { name = row.name; group = row.group; values = row.values at thing }

module _ {Thing : Type 0} (at : PlainPlace) (thing : Thing) where
  wanted_alike : (wanted : Option (List (List ℕ))) (row : ShownRow Thing) → is_wanted wanted row.name row.group ≡ is_shown wanted (as_row at thing row)
  wanted_alike None row = refl
  wanted_alike (Some names) row = refl

  pub shown_alike : (wanted : Option (List (List ℕ))) (rows : List (ShownRow Thing)) → shown rows wanted at thing ≡ attributes_shown wanted (map (as_row at thing) rows)
  shown_alike wanted [] = refl
  shown_alike wanted (row ∷ rows) =
      let rest = shown_alike wanted rows in
      let machine = filter (λ (row : ShownRow Thing). is_wanted wanted row.name row.group) rows in
      let literal = filter (is_shown wanted) (map (as_row at thing) rows) in
      ap (λ (b : Bool). map (row_attribute at thing) (cond b (row ∷ machine) machine)) (wanted_alike wanted row)
      ∙ (elim (is_shown wanted (as_row at thing row)) as (λ (b : Bool). map (row_attribute at thing) (cond b (row ∷ machine) machine) ≡ map attribute_of (cond b (as_row at thing row ∷ literal) literal)) [
        | true ↦ ap (λ (attributes : List PlainAttribute). row_attribute at thing row ∷ attributes) rest
        | false ↦ rest
      ])

-- ---- rows that can be spelled

abbrev pub IsSpelled : Row → Type 0
IsSpelled row = IsAttribute (attribute_of row)

pub shown_spelled : (wanted : Option (List (List ℕ))) (rows : List Row) → AllByRecursion IsSpelled rows → AllByRecursion IsAttribute (attributes_shown wanted rows)
shown_spelled wanted [] all = tt
shown_spelled wanted (row ∷ rows) all =
    let rest = shown_spelled wanted rows all.1 in
    elim (is_shown wanted row) as (λ (b : Bool). AllByRecursion IsAttribute (map attribute_of (cond b (row ∷ filter (is_shown wanted) rows) (filter (is_shown wanted) rows))))
    [ true ↦ (all.0, rest) | false ↦ rest ]

-- a name that is there and fits, and a tag of a value
abbrev pub is_writable : (name : List ℕ) (tag : ℕ) → Bool
is_writable name tag = nat_lt 0 (length name) && (nat_le (length name) 32767 && nat_le 0x10 tag)

pub one_spelled : (name group : List ℕ) (tag : ℕ) (bytes : List ℕ) → is_writable name tag ≡ true → length bytes ≤ 32767 → IsSpelled (record { name = name; group = group; values = one_under tag bytes })
one_spelled name group tag bytes writes fits =
    let first = and_parts (nat_lt 0 (length name)) (nat_le (length name) 32767 && nat_le 0x10 tag) writes in
    let second = and_parts (nat_le (length name) 32767) (nat_le 0x10 tag) first.1 in
    record {
      named = leb-true 1 (length name) first.0;
      name = leb-true (length name) 32767 second.0;
      values = (record { tag = leb-true 0x10 tag second.1; bytes = fits }, tt);
    }

-- a tag of a group, and not that of the end
abbrev pub is_group_tag : ℕ → Bool
is_group_tag tag = nat_le 1 tag && (nat_lt tag 0x10 && not (tag == 3))

pub group_spelled : (tag : ℕ) (attributes : List PlainAttribute) → is_group_tag tag ≡ true → AllByRecursion IsAttribute attributes → IsGroup (record { tag = tag; attributes = attributes })
group_spelled tag attributes is all = record { low = grind (arith, nat_tests, is); high = grind (arith, nat_tests, is); not_end = λ same. grind (arith, nat_tests, is, same); attributes = all }
