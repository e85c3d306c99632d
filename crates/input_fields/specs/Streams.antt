-- What a call of a source takes of the bytes that are left in it, and a call of a sink of what it
-- is handed.
use Rattle.std.specs.Prelude.{◌≡◌, ◌==◌, ◌&&◌, ℕ, Bool, true, false, if◌then◌else◌, nat_lt, List, [], ◌∷◌, ◌++◌, length, Option, Some, None, Result, Ok, Err, ⊤}
use Rattle.input_fields.specs.declared.stream_fault.StreamFault.{StreamFault}
use Rattle.input_fields.specs.declared.stream_fault.StreamFault.TheVariants.{Read, Memory, TooLong}

-- the bytes came first of what was left before, and what is left now came after them
abbrev pub Yields : (before after : List ℕ → Type 0) (bytes : List ℕ) → Type 0
Yields before after bytes = (rest : List ℕ) → after rest → before (bytes ++ rest)

-- the byte that was read, if there was one
abbrev pub byte_list : Option ℕ → List ℕ
byte_list None = []
byte_list (Some byte) = byte ∷ []

-- nothing is left
abbrev pub IsSpent : (List ℕ → Type 0) → Type 0
IsSpent left = (rest : List ℕ) → left rest → rest ≡ []

-- what may be left in a reader whose bytes may be known, and which may have told its end
abbrev pub MayBeLeft : (known : Option (List ℕ)) (ended : Bool) (rest : List ℕ) → Type 0
MayBeLeft known true rest = rest ≡ []
MayBeLeft None false rest = ⊤
MayBeLeft (Some bytes) false rest = rest ≡ bytes

-- 1 of a call that failed, by whatever error
abbrev pub failed_reads : {A E : Type 0} → Result A E → ℕ
failed_reads (Ok count) = 0
failed_reads (Err error) = 1

-- 1 of a write that failed, by whatever error, or that took nothing of a piece that is not empty
abbrev pub failed_writes : {E : Type 0} → (written : Result ℕ E) (piece : List ℕ) → ℕ
failed_writes (Ok count) piece = if count == 0 && nat_lt 0 (length piece) then 1 else 0
failed_writes (Err error) piece = 1

-- the calls of the source that failed in a call that ended so: one where it tells of reading, else
-- none
abbrev pub read_faults : {A : Type 0} → Result A StreamFault → ℕ
read_faults (Ok bytes) = 0
read_faults (Err Read) = 1
read_faults (Err Memory) = 0
read_faults (Err TooLong) = 0
