-- What becomes of the log, where one is kept (all this project's own).
use Rattle.std.specs.Prelude.{◌≡◌, ℕ, Bool, List, true, false, [], ◌++◌, Option, Some, None}
use Rattle.serve_log.specs.Books.{Takes}
use Rattle.serve_log.specs.Waits.{drafts_of, logged_of, missed_of}
use Rattle.serve_log.specs.declared.waiting.Waiting.{Waiting}
use Rattle.serve_peers.specs.Logged.{line_of}
use Rattle.serve_peers.specs.Tolds.{Told}

-- none becomes of none, and of a log one of which this holds
abbrev pub Becomes : (holds : Waiting → Waiting → Type 0) (old new : Option Waiting) → Type 0
Becomes holds None None = Unit {0}
Becomes holds (Some old) (Some new) = holds old new
Becomes holds None (Some new) = ⊥
Becomes holds (Some old) None = ⊥

-- the line of what came by itself is noted
pub record LogsOne (told : Told) (old new : Waiting) : Type 0 where
  pub logged : Takes (missed_of old) (missed_of new) (logged_of old) (logged_of new) (line_of told)
  pub drafts : drafts_of new ≡ drafts_of old

-- that of what came in a round is a draft
pub record DraftsOne (told : Told) (old new : Waiting) : Type 0 where
  pub drafts : Takes (missed_of old) (missed_of new) (drafts_of old) (drafts_of new) (line_of told)
  pub logged : logged_of new ≡ logged_of old

-- drafts are lines where the round was kept
abbrev pub settled : (kept : Bool) → Waiting → List ℕ
settled true waiting = logged_of waiting ++ drafts_of waiting
settled false waiting = logged_of waiting

pub record SettlesDrafts (kept : Bool) (old new : Waiting) : Type 0 where
  pub logged : logged_of new ≡ settled kept old
  pub drafts : drafts_of new ≡ []
  pub missed : missed_of new ≡ missed_of old

-- no line comes, and none goes
pub record KeepsLines (old new : Waiting) : Type 0 where
  pub logged : logged_of new ≡ logged_of old
  pub drafts : drafts_of new ≡ drafts_of old
  pub missed : missed_of new ≡ missed_of old
