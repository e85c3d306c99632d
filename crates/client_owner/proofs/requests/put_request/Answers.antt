use Rattle.client_owner.proofs.requests.put_request.Goals as goal

pub returns-in-Print : goal.returns-in-Print
returns-in-Print c = rw c.in-Print.is c.put_print_job.ensures

pub returns-in-Jobs : goal.returns-in-Jobs
returns-in-Jobs c = rw c.in-Jobs.is c.put_get_jobs.ensures

pub returns-in-Act : goal.returns-in-Act
returns-in-Act c = rw c.in-Act.is c.put_act.ensures
