use Rattle.std.proofs.Common.{◌≡◌, ℕ, List, [], ◌∷◌, codes, arith, refl, ap}
use Rattle.std.proofs.lemmas.Slice.Eq.{text_from_reads}
use Rattle.input_lines.proofs.Taken.{AreFields-taken}
use Rattle.input_lines.proofs.backup.read_backup.Goals as goal

pub returns-in-backup : goal.returns-in-backup
returns-in-backup c =
    let kind : c.in_ok-kind.kind.now ≡ codes "backup" = text_from_reads c.in_ok-kind.kind.now (codes "backup") (omega arith) (omega arith, (omega arith, (omega arith, (omega arith, (omega arith, (omega arith, tt)))))) in
    record { said = (_, AreFields-taken _ _ _ c.in_ok-kind.kind.now (c.in_ok-file.file.now ∷ []) c.in_ok-kind.ensures.took (_, c.in_ok-file.ensures.took, refl) c.in_ok-end.ensures.none_left, ap (λ (k : List ℕ). k ∷ c.in_ok-file.file.now ∷ []) kind) }

pub returns-in-slice : goal.returns-in-slice
returns-in-slice c =
    let kind : c.in_ok-kind.kind.now ≡ codes "slice" = text_from_reads c.in_ok-kind.kind.now (codes "slice") (omega arith) (omega arith, (omega arith, (omega arith, (omega arith, (omega arith, tt))))) in
    record { said = (_, AreFields-taken _ _ _ c.in_ok-kind.kind.now (c.in_ok-file.file.now ∷ []) c.in_ok-kind.ensures.took (_, c.in_ok-file.ensures.took, refl) c.in_ok-end.ensures.none_left, ap (λ (k : List ℕ). k ∷ c.in_ok-file.file.now ∷ []) kind) }
