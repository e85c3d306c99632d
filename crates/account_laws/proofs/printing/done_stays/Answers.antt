use Rattle.account_laws.proofs.DoneStays.{canceled_is_not_handed_out, closed_takes_no_more, ended_stays, held_waits_for_release}
use Rattle.account_laws.proofs.printing.done_stays.Goals as goal

pub returns : goal.returns
returns c = record {
  canceled = canceled_is_not_handed_out;
  held = held_waits_for_release;
  closed = closed_takes_no_more;
  ended = ended_stays;
}
