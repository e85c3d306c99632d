-- Rule: What waits for the file, and what it has taken (all this project's own).
use Rattle.std.specs.Prelude.{◌≡◌, ◌==◌, ℕ, Bool, List, ◌++◌, drop, length, not, take}
use Rattle.std.specs.List.{flat_map}
use Rattle.serve_log.specs.Books.{counted}
use Rattle.serve_log.specs.declared.waiting.Waiting.{Waiting}

-- the lines that may go to the file
abbrev pub waiting_of : Waiting → List ℕ
waiting_of waiting = take waiting.settled waiting.lines.items

-- lines wait that may go: the file is behind
abbrev pub is_behind : Waiting → Bool
is_behind waiting = not (length (waiting_of waiting) == 0)

-- the lines of a round that is under way
abbrev pub drafts_of : Waiting → List ℕ
drafts_of waiting = drop waiting.settled waiting.lines.items

-- what the writers have taken, one write after another
abbrev pub written_of : Waiting → List ℕ
written_of waiting = flat_map (λ write. take write.1 write.0.items) waiting.writes.items

-- what the writers have taken, and what may go
abbrev pub logged_of : Waiting → List ℕ
logged_of waiting = written_of waiting ++ waiting_of waiting

-- how many lines were left out
abbrev pub missed_of : Waiting → ℕ
missed_of waiting = waiting.missed

-- a line was left out, and is counted so
abbrev pub IsLeftOut : (old new : Waiting) → Type 0
IsLeftOut old new = new ≡ record old { missed = counted old.missed }
