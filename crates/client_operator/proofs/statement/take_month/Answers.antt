use Rattle.std.proofs.Common.{◌++◌, codes, ap, sym, ◌∙◌}
use Rattle.client_operator.proofs.statement.take_month.Goals as goal

pub returns : goal.returns
returns c =
    let charged = c.in_ok-charged.charged.now in
    let held = c.in_ok-charged._held.now in
    let pending = c.in_ok-_pending._pending.now in
    let processing = c.in_ok-_pending._processing.now in
    let ended = c.in_ok-ended.ended.now in
    record {
      held = held;
      pending = pending;
      processing = processing;
      words = c.in_ok-charged.ensures
          ∙ ap (λ r. codes "month" ++ codes " " ++ (charged ++ codes " " ++ (codes "held" ++ codes " " ++ (held ++ codes " " ++ r))))
          (c.in_ok-_pending.ensures
          ∙ ap (λ r. codes "pending" ++ codes " " ++ (pending ++ codes " " ++ (codes "processing" ++ codes " " ++ (processing ++ codes " " ++ r))))
          (c.in_ok-ended.ensures
          ∙ ap (λ r. codes "ended" ++ codes " " ++ (ended ++ codes " " ++ r))
          (c.in_ok-skip.ensures ∙ ap (λ r. codes "beyond" ++ codes " " ++ r) (sym c.last-beyond.ensures))));
    }
