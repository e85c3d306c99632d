-- What a backup's lines ask for, and what is done for it, of what is served (all this project's own).
use Rattle.std.specs.Prelude.{◌≡◌, ◌⊎◌, ◌++◌, ℕ, Bool, false, true, List, [], ◌∷◌, Option, None, Some}
use Rattle.sqlite.specs.Held.{Held}
use Rattle.sqlite_trees.specs.declared.store.Store.{Ghosts}
use Rattle.input_lines.specs.declared.backup.BackupLine.{BackupLine}
use Rattle.serve_peers.specs.Backups.{AsksBackup}
use Rattle.serve_peers.specs.Copies.{CopiesOn, IsNewCopy}
use Rattle.serve_peers.specs.Journals.{applied, moment_of, shares_of, store_of}
use Rattle.serve_peers.specs.Turns.{Continues}
use Rattle.serve_peers.specs.Watching.{seen_by}
use Rattle.serve_peers.specs.Writing.{rounds_in, under_way_in}
use Rattle.serve_peers.specs.declared.background.Background.{Background}
use Rattle.serve_peers.specs.declared.backup.Backup.{Backup}
use Rattle.serve_peers.specs.declared.backup.BackupTold.{BackupTold}
use Rattle.serve_peers.specs.declared.backup.Stage.{Stage}
use Rattle.serve_peers.specs.declared.backup.Stage.TheVariants.{Begun, Failed, Ready, Wanted, Whole}
use Rattle.serve_peers.specs.declared.copies.CopyUnderWay.{CopyUnderWay}
use Rattle.serve_peers.specs.declared.copies.SliceOutcome.{SliceOutcome}
use Rattle.serve_peers.specs.declared.copies.SliceOutcome.TheVariants as done
use Rattle.serve_peers.specs.declared.journal.Journal.{Journal}
use Rattle.serve_peers.specs.declared.served.Served.{Served}
use Rattle.serve_peers.specs.declared.account_watch.Watch.{Watch}

-- the backup that was asked for last
abbrev pub backup_of : {S : Type 0} → Served S → Option Backup
backup_of served = served.background.backup

abbrev pub stage_in : Option Backup → Option Stage
stage_in None = None
stage_in (Some backup) = Some backup.stage

-- the account that a backup has under way
abbrev pub watch_of : {S : Type 0} → Served S → Watch
watch_of served = served.journal.watch

abbrev pub is_begun : Option Stage → Bool
is_begun (Some Begun) = true
is_begun _ = false

abbrev pub is_wanted : Option Stage → Bool
is_wanted (Some Wanted) = true
is_wanted _ = false

-- its stage is another
abbrev pub at_stage : Option Backup → Stage → Option Backup
at_stage None stage = None
at_stage (Some backup) stage = Some (record backup { stage = stage })

-- a line of a backup was taken
pub record AsksNext {S : Type 0} (line : BackupLine) (told : BackupTold) (old new : Served S)
    : Type 0 where
  pub asks : AsksBackup line (moment_of old) told (backup_of old) (backup_of new)
  pub same : new ≡ record old { background = record old.background { backup = backup_of new } }

-- the copy's file was made, or it could not be
pub record MakesCopy {T : Type 0} (copy_store : Ghosts T) (old new : Background)
    (now : Option (CopyUnderWay T)) : Type 0 where
  pub stage : Stage
  pub made : ((stage ≡ Ready) × IsNewCopy copy_store now) ⊎ ((stage ≡ Failed) × (now ≡ None))
  pub same : new ≡ record old { backup = at_stage old.backup stage }

-- what a slice has come to is told when the next one is asked for
abbrev pub stage_behind : SliceOutcome → Stage
stage_behind (done.More account) = Ready
stage_behind done.Whole = Whole
stage_behind done.Failed = Failed

-- the account that is watched from then on
abbrev pub account_behind : SliceOutcome → Option (List ℕ)
account_behind (done.More account) = account
account_behind done.Whole = None
account_behind done.Failed = None

-- nothing is another but what goes on in the background, and what was read and noted for that
abbrev pub IsKeptIn : {S : Type 0} → (old new : Served S) → Type 0
IsKeptIn old new = new ≡ record old {
  rounds = store_of new;
  journal = new.journal;
  background = new.background;
}

module _ {S T : Type 0} (store : Ghosts S) (copy_store : Ghosts T) where
  -- a slice was done, or it failed; of the rooms it is an empty round, as a question is
  pub record DoesSlice (old new : Background) (source looked : Held S) (journal noted : Journal)
      (was now : Option (CopyUnderWay T)) : Type 0 where
    pub done : SliceOutcome
    pub copies : CopiesOn store copy_store journal.watch.touched source looked done was now
    pub over : rounds_in noted ≡ rounds_in journal ++ ([], false) ∷ []
    pub none_more : under_way_in noted ≡ under_way_in journal
    pub account : noted.watch.account ≡ account_behind done
    pub seen : seen_by noted.watch ≡ rounds_in noted
    pub same : new ≡ record old { backup = at_stage old.backup (stage_behind done) }

  -- where nothing is asked for, nothing is done
  abbrev pub KeepsBy : (begun wanted : Bool) (old new : Background) (source looked : Held S)
      (journal noted : Journal) (was now : Option (CopyUnderWay T)) → Type 0
  KeepsBy true wanted old new source looked journal noted was now =
      MakesCopy copy_store old new now × (looked ≡ source) × (noted ≡ journal)
  KeepsBy false true old new source looked journal noted was now =
      DoesSlice old new source looked journal noted was now
  KeepsBy false false old new source looked journal noted was now =
      (new ≡ old) × (looked ≡ source) × (noted ≡ journal) × (now ≡ was)

  abbrev pub KeepsOn : (old new : Background) (source looked : Held S) (journal noted : Journal)
      (was now : Option (CopyUnderWay T)) → Type 0
  KeepsOn old new source looked journal noted was now = KeepsBy (is_begun (stage_in old.backup))
      (is_wanted (stage_in old.backup)) old new source looked journal noted was now

  -- nor in a round; and nothing else becomes of what is served
  abbrev pub KeepsOutside : (shares : Bool) (old new : Served S) (was now : Option (CopyUnderWay T))
      → Type 0
  KeepsOutside true old new was now = (new ≡ old) × (now ≡ was)
  KeepsOutside false old new was now = KeepsOn old.background new.background
      (store_of old) (store_of new) old.journal new.journal was now × IsKeptIn old new

  abbrev pub KeepsBackup : (old new : Served S) (was now : Option (CopyUnderWay T)) → Type 0
  KeepsBackup old new was now = KeepsOutside (shares_of old) old new was now

-- nothing was applied, and nothing became of the tables
abbrev pub OnlyKeeps : {S : Type 0} (store : Ghosts S) (old new : Served S) → Type 0
OnlyKeeps store old new = (on : Continues store old new) × (applied on.more ≡ [])
