use Rattle.std.proofs.Common.{◌∙◌}
use Rattle.client_owner.proofs.exchange.send.Goals as goal

pub returns : goal.returns
returns g c = rw (c.as_bytes.ensures.value ∙ c.format.ensures.text, c.as_bytes-2.ensures.value ∙ c.format-2.ensures.text) at c.send_parts.ensures
