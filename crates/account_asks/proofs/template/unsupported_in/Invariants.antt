use Rattle.std.proofs.Common.{◌≡◌, map}
use Rattle.ipp_coding.specs.Plain.{plain_attribute}
use Rattle.account_asks.specs.Templates.{unsupported}
use Rattle.account_asks.proofs.Returns.{up_to_place}
use Rattle.account_asks.proofs.template.unsupported_in.Given as goal

abbrev pub invariant-loop-place : goal.invariant-loop-place
invariant-loop-place l = map plain_attribute l.items.items ≡ unsupported (up_to_place l.attributes l.place)
