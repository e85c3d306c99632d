-- For the proof of the code alone: how a name lies in the 32 cells that it is kept in.
use Rattle.std.specs.Prelude.{ℕ, List, ◌++◌, length, drop, replicate}
use Rattle.account_rules.specs.Limits.{longest_name}

-- the bytes, and zeros after them
abbrev pub cells_of : List ℕ → List ℕ
cells_of bytes = bytes ++ drop (length bytes) (replicate longest_name 0)
