use Rattle.account_laws.proofs.GrantedMonths.{grants_sent_again, months_granted_once, no_month_twice}
use Rattle.account_laws.proofs.operators.months_are_granted_once.Goals as goal

pub returns : goal.returns
returns c = record { once = months_granted_once; again = grants_sent_again; none_twice = no_month_twice }
