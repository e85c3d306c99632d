-- Rule: How a backup is asked for (this project's own).
use Rattle.std.specs.Prelude.{◌≡◌, ℕ, zero, suc, Bool, true, false, if◌then◌else◌, List, codes}
use Rattle.client_operator.specs.Asked.{backup_asked, slice_asked}
use Rattle.client_operator.specs.Talks.{At, Asks}

-- what answers the line of a slice: that more is to come, or that the backup is whole
abbrev pub slice_told : (is_more : Bool) → List ℕ
slice_told is_more = if is_more then codes "more" else codes "ok"

-- the line of a slice was sent so many times, and more was to come each time
abbrev pub AsksMore : (line : List ℕ) (count : ℕ) (from to : At) → Type 0
AsksMore line zero from to = to ≡ from
AsksMore line (suc count) from to =
    (mid : At) × AsksMore line count from mid × Asks mid to line (slice_told true)

-- the line of a slice was sent until the backup was whole
pub record AsksSlices (line : List ℕ) (from to : At) : Type 0 where
  pub count : ℕ
  pub mid : At
  pub more : AsksMore line count from mid
  pub last : Asks mid to line (slice_told false)

-- a backup was begun, and then its slices were asked for
pub record BacksUp (file : List ℕ) (from to : At) : Type 0 where
  pub begun : At
  pub begins : Asks from begun (backup_asked file) (codes "ok")
  pub slices : AsksSlices (slice_asked file) begun to
