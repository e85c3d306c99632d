-- Rule: When the log takes a line, and when it is left out (all this project's own).
use Rattle.std.specs.Prelude.{◌≡◌, ◌⊎◌, ℕ, ◌+◌, ◌-◌, ◌^◌, Bool, List, length, ◌++◌, nat_le, min, if◌then◌else◌}

-- the most bytes that wait: 1 MiB
abbrev pub most_waiting : ℕ
most_waiting = 1048576

-- bytes are taken where they come to 1 MiB at most with those that wait
abbrev pub may_wait : (waiting bytes : List ℕ) → Bool
may_wait waiting bytes = nat_le (length waiting + length bytes) most_waiting

-- what stands behind a text then
abbrev pub joined : (waiting text bytes : List ℕ) → List ℕ
joined waiting text bytes = if may_wait waiting bytes then text ++ bytes else text

-- one more, where a count of 64 bits stands still at its end
abbrev pub counted : ℕ → ℕ
counted count = min (count + 1) (2 ^ 64 - 1)

-- a line stands behind a text, or is counted as left out
abbrev pub Takes : (missed missed2 : ℕ) (text text2 line : List ℕ) → Type 0
Takes missed missed2 text text2 line =
    ((missed2 ≡ missed) × (text2 ≡ text ++ line))
    ⊎ ((missed2 ≡ counted missed) × (text2 ≡ text))
