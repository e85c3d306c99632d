-- Rule: How much space is kept for a full disk, and how long a request there is space for (all this
-- project's own).
use Rattle.std.specs.Prelude.{ℕ, ◌+◌, ◌-◌, ◌/◌, Option, None, Some, zero, suc}
use Rattle.serve_space.specs.declared.spare.Kept.{Kept}
use Rattle.serve_space.specs.declared.spare.Spare.{Spare}

-- the bytes of a whole spare file
abbrev pub whole : ℕ
whole = 37748736

-- what small changes may take behind a document until they find place again
abbrev pub kept_back : ℕ
kept_back = 1310720

-- what is kept back beside that while the tables may have no free place
abbrev pub kept_beside : ℕ
kept_beside = 1310720

-- what the log takes beside a document's own bytes, at most
abbrev pub log : ℕ
log = 524288

-- the most bytes that are taken at once
abbrev pub piece : ℕ
piece = 65536

abbrev pub held_in : Option Kept → ℕ
held_in None = 0
held_in (Some kept) = kept.held

-- the bytes that count as held
abbrev pub held_of : Spare → ℕ
held_of spare = held_in spare.kept

abbrev pub gone_by : Option Kept → ℕ
gone_by None = 0
gone_by (Some kept) = kept.gone

-- how many jobs have ended that no other came for, since space was given up
abbrev pub gone_of : Spare → ℕ
gone_of spare = gone_by spare.kept

-- the longest request, where so many jobs have ended: one goes where another lay, or else the log
-- takes it before the tables do
abbrev pub taken_where : (gone held : ℕ) → ℕ
taken_where zero held = (held - (kept_back + kept_beside + log)) / 2
taken_where (suc more) held = held - kept_back

-- longer than any request
abbrev pub any_length : ℕ
any_length = 18446744073709551615

abbrev pub taken_by : Option Kept → ℕ
taken_by None = any_length
taken_by (Some kept) = taken_where kept.gone kept.held

-- the longest request, in bytes, for which there is space: any where none is kept
abbrev pub takes_of : Spare → ℕ
takes_of spare = taken_by spare.kept
