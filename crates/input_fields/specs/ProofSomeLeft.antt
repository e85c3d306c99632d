-- For the proof of the code alone: that something may be left in each reader. It stands here, since
-- code can name nothing of its own crate's proofs.
use Rattle.std.specs.Prelude.{ℕ, Bool, true, false, List, [], Option, Some, None, refl}
use Rattle.input_fields.specs.Streams.{MayBeLeft}

pub some_left_of : (known : Option (List ℕ)) (ended : Bool)
    → (rest : List ℕ) × MayBeLeft known ended rest
some_left_of known true = ([], refl)
some_left_of None false = ([], tt)
some_left_of (Some bytes) false = (bytes, refl)
