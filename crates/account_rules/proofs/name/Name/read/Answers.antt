use Rattle.std.proofs.Common.{◌≡◌, true}
use Rattle.account_rules.specs.Names.{is_name}
use Rattle.account_rules.proofs.NameLemmas.{name_in_cells}
use Rattle.account_rules.proofs.name.Name.read.Goals as goal

pub invariant_of-result : goal.invariant_of-result
invariant_of-result c =
    let holds : is_name c.args.b.now ≡ true = cc in
    name_in_cells c.args.b.now c.copy_from_slice.new.self holds c.copy_from_slice.ensures.after
