-- What a request asks lies within the limits (all this project's own).
use Rattle.std.specs.Prelude.{◌≡◌, ℕ, ◌<◌, List, slice_index, Ok}
use Rattle.account_asks.specs.Asks.{PlainAsk, IsAsk, ask_of}

-- each place of a body holds a byte
abbrev pub AreBytes : List ℕ → Type 0
AreBytes body = (place : ℕ) → slice_index body place < 256

-- whatever its body and the account, a request that passes its checks has each field within the
-- limits of the field
abbrev pub AsksLieWithin : Type 0
AsksLieWithin =
    (account body : List ℕ) (ask : PlainAsk)
    → AreBytes body → ask_of account body ≡ Ok ask → IsAsk ask
