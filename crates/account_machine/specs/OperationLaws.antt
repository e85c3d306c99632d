-- The law of src/laws.rt: a printer shows just the operations that are read (this project's own).
use Rattle.std.specs.Prelude.{◌≡◌, ◌==◌, ℕ, is_some}
use Rattle.std.specs.List.{list_any}
use Rattle.account_asks.specs.Operations.{operation_with}
use Rattle.account_replies.specs.PrinterAttributes.{operations}

-- an operation is served just where operations-supported names it
abbrev pub ShownAreServed : Type 0
ShownAreServed = (id : ℕ) → list_any (λ shown. id == shown) operations ≡ is_some (operation_with id)
