-- A list of checks, of which the first that refuses is told (all this project's own).
use Rattle.std.specs.Prelude.{Bool, List, [], ◌∷◌, Option, Some, None, if◌then◌else◌}

-- whether something is refused, and for what
abbrev pub Check : Type 0 → Type 0
Check Why = Bool × Why

-- the first that refuses
abbrev pub first_refusal : {Why : Type 0} → List (Check Why) → Option Why
first_refusal [] = None
first_refusal ((refuses, why) ∷ checks) = if refuses then Some why else first_refusal checks
