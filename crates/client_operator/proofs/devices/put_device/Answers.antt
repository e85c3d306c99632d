use Rattle.std.proofs.Common.{codes, ap, sym, ◌++◌, ◌∙◌}
use Rattle.client_operator.proofs.devices.put_device.Goals as goal

pub returns : goal.returns
returns c =
    let name = c.in_ok-name.name.now in
    let switch = c.in_ok-switch.switch.now in
    let behind = c.in_ok-switch.ensures.parts ∙ ap (λ rest. switch ++ codes " " ++ rest) (sym c.last.ensures) in
    let words = c.in_ok-name.ensures.parts ∙ ap (λ rest. name ++ codes " " ++ rest) behind in (
      record { name = name; switch = switch; rate = c.last.result.now },
      sym c.of-words.ensures ∙ c.in_ok-skip.ensures ∙ ap (λ rest. codes "device" ++ codes " " ++ rest) words,
      c.in_ok-put_record.ensures,
    )
