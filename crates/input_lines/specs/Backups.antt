-- Rule: The lines by which an operator has a backup made (this project's own).
use Rattle.std.specs.Prelude.{◌≡◌, ℕ, List, [], ◌∷◌, codes}
use Rattle.input_lines.specs.Saying.{AreFields}
use Rattle.input_lines.specs.declared.backup.BackupLine.{BackupLine}
use Rattle.input_lines.specs.declared.backup.BackupLine.TheVariants.{Begin, Slice}

abbrev pub SaysBackup : (fields : List (List ℕ)) → BackupLine → Type 0
SaysBackup fields (Begin file) = fields ≡ codes "backup" ∷ file.now ∷ []
SaysBackup fields (Slice file) = fields ≡ codes "slice" ∷ file.now ∷ []

abbrev pub IsBackupOf : (text : List ℕ) → BackupLine → Type 0
IsBackupOf text line =
    (fields : List (List ℕ)) × AreFields text fields × SaysBackup fields line
