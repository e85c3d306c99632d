-- Rule: A byte in the place of another: `+` stands for a space in a query (all this project's own).
use Rattle.std.specs.Prelude.{ℕ, ◌==◌, if◌then◌else◌}

abbrev pub replaced : (from to byte : ℕ) → ℕ
replaced from to byte = if byte == from then to else byte
