use Rattle.std.proofs.Common.{ℕ, Err, ap, subst, ◌∙◌, inl, inr}
use Rattle.serve_peers.specs.Gathering.{IsDamaged}
use Rattle.serve_peers.proofs.gathering.Adding.add.Goals as goal

pub returns-in-Err-Damaged : goal.returns-in-Err-Damaged
returns-in-Err-Damaged g c = record {
  looks = c.read_account.ensures.looks;
  to_this = inr (inl (subst (λ (month : ℕ). IsDamaged g.S.Store month c.args.account c.args.rounds.now c.read_account.new.rounds) c.month.ensures (c.read_account.ensures.damaged (c.in-Err-Damaged.is ∙ ap Err c.in-Err-Damaged.field-0-is)), c.without.ensures));
}
