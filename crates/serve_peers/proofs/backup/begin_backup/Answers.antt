use Rattle.std.proofs.Common.{◌++◌, List, ℕ, refl, sym, ap, ◌∙◌, inr}
use Rattle.serve_peers.proofs.backup.begin_backup.Goals as goal

pub returns-clause-begins : goal.returns-clause-begins
returns-clause-begins c = inr (sym c.is_busy.ensures ∙ c.if-is_busy.false, refl, (_, refl, record { into = c.in_ok-extend_from_slice.ensures.items ∙ ap (λ (l : List ℕ). l ++ c.args.file.now) c.in_ok-path.ensures.items; asked_at = refl; stage = refl }))
