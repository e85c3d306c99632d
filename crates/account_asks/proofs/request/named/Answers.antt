use Rattle.ipp_coding.specs.Plain.{plain_attribute}
use Rattle.account_asks.specs.Requests.{is_named}
use Rattle.account_asks.proofs.Lookups.{found_among}
use Rattle.account_asks.proofs.request.named.Goals as goal

pub returns : goal.returns
returns c = found_among (is_named c.args.name.now) plain_attribute c.args.attributes.now c.first_named.result c.first_named.ensures
