use Rattle.listen_http.proofs.OneReading.{one_reading}
use Rattle.listen_http.proofs.laws.one_reading.Goals as goal

pub returns : goal.returns
returns c = one_reading
