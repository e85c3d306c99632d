use Rattle.std.proofs.Common.{rules, tests, ◌∙◌, sym}
use Rattle.std.proofs.lemmas.Iterator.{YieldsList-from_slice}
use Rattle.std.proofs.lemmas.Iterator.Search.{find_from_yields_List}
use Rattle.account_rules.specs.Devices.{is_of_name}
use Rattle.account_rules.proofs.DeviceMaps.{get_device}
use Rattle.account_rules.proofs.device.find_device.Goals as goal

pub returns : goal.returns
returns c =
    find_from_yields_List (is_of_name c.args.name) _ _ c.find.result c.find.ensures.ran (YieldsList-from_slice c.args.devices.now cc) (λ x b q k. search (rules, tests))
    ∙ sym (get_device c.args.devices.now c.args.name)
