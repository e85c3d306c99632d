use Rattle.std.proofs.Common.{◌∙◌}
use Rattle.std.proofs.lemmas.Result.{on_ok_weaker}
use Rattle.client_operator.proofs.BackedUp.{BacksUp-of}
use Rattle.client_operator.proofs.backup.back_up.Goals as goal

pub returns : goal.returns
returns g c = λ printed.
    on_ok_weaker c.ask_slices.result
    (BacksUp-of c.args.file.now _ _ _ _ _ (c.as_slice.ensures.value ∙ c.in_ok-begin.ensures)
    (c.as_slice-2.ensures.value ∙ c.in_ok-slice.ensures) (c.in_ok-ask_ok.ensures printed))
    (c.ask_slices.ensures printed)
