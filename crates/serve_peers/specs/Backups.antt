-- Rule: A backup of what is served, as lines of an operator ask for it (all this project's own).
use Rattle.std.specs.Prelude.{◌≡◌, ◌⊎◌, ℕ, ◌-◌, Bool, true, false, List, codes, Option, None, Some, bytes_eq, nat_lt}
use Rattle.input_lines.specs.declared.backup.BackupLine.{BackupLine}
use Rattle.input_lines.specs.declared.backup.BackupLine.TheVariants.{Begin, Slice}
use Rattle.serve_peers.specs.declared.backup.Backup.{Backup}
use Rattle.serve_peers.specs.declared.backup.BackupTold.{BackupTold}
use Rattle.serve_peers.specs.declared.backup.BackupTold.TheVariants as is_told
use Rattle.serve_peers.specs.declared.backup.Stage.{Stage}
use Rattle.serve_peers.specs.declared.backup.Stage.TheVariants.{Begun, Failed, Ready, Wanted, Whole}

abbrev pub backup_text : BackupTold → List ℕ
backup_text is_told.Ok = codes "ok\n"
backup_text is_told.Busy = codes "busy\n"
backup_text is_told.More = codes "more\n"
backup_text is_told.Failed = codes "failed\n"

-- the path that its lines name
abbrev pub file_of : Backup → List ℕ
file_of backup = backup.file.items

-- ---- one is begun

-- seconds behind its last line for which a backup keeps others from beginning one
abbrev pub kept : ℕ
kept = 10

abbrev pub is_busy : (backup : Option Backup) (moment : ℕ) → Bool
is_busy None moment = false
is_busy (Some backup) moment = nat_lt (moment - backup.asked_at) kept

pub record IsBegun (file : List ℕ) (moment : ℕ) (backup : Backup) : Type 0 where
  pub into : file_of backup ≡ file
  pub asked_at : backup.asked_at ≡ moment
  pub stage : backup.stage ≡ Begun

abbrev pub BeginsBackup : (file : List ℕ) (moment : ℕ) (told : BackupTold)
    (was now : Option Backup) → Type 0
BeginsBackup file moment told was now =
    ((is_busy was moment ≡ true) × (told ≡ is_told.Busy) × (now ≡ was))
    ⊎ ((is_busy was moment ≡ false) × (told ≡ is_told.Ok)
    × ((backup : Backup) × (now ≡ Some backup) × IsBegun file moment backup))

-- ---- a slice is asked for

abbrev pub is_into : (file : List ℕ) (backup : Option Backup) → Bool
is_into file None = false
is_into file (Some backup) = bytes_eq (file_of backup) file

abbrev pub slice_told : Stage → BackupTold
slice_told Begun = is_told.More
slice_told Ready = is_told.More
slice_told Wanted = is_told.More
slice_told Whole = is_told.Ok
slice_told Failed = is_told.Failed

-- one that is whole, or failed, is over once that was told
abbrev pub stage_then : Stage → Option Stage
stage_then Begun = Some Begun
stage_then Ready = Some Wanted
stage_then Wanted = Some Wanted
stage_then Whole = None
stage_then Failed = None

abbrev pub at_stage : (backup : Backup) (moment : ℕ) → Option Stage → Option Backup
at_stage backup moment None = None
at_stage backup moment (Some stage) = Some (record backup { asked_at = moment; stage = stage })

abbrev pub backup_then : (backup : Backup) (moment : ℕ) → Option Backup
backup_then backup moment = at_stage backup moment (stage_then backup.stage)

abbrev pub AsksSlice : (file : List ℕ) (moment : ℕ) (told : BackupTold) (was now : Option Backup)
    → Type 0
AsksSlice file moment told was now =
    ((is_into file was ≡ false) × (told ≡ is_told.Failed) × (now ≡ was))
    ⊎ ((backup : Backup) × (was ≡ Some backup) × (file_of backup ≡ file)
    × (told ≡ slice_told backup.stage) × (now ≡ backup_then backup moment))

-- ---- a line

abbrev pub AsksBackup : (line : BackupLine) (moment : ℕ) (told : BackupTold)
    (was now : Option Backup) → Type 0
AsksBackup (Begin file) moment told was now = BeginsBackup file.now moment told was now
AsksBackup (Slice file) moment told was now = AsksSlice file.now moment told was now
