-- Each read can read sound rows.
use Rattle.rows_statements.specs.SoundRows.{SoundRowsAreRead}
use Rattle.rows_statements.proofs.AccountLemmas.{account_read}
use Rattle.rows_statements.proofs.JobRows.{job_read}
use Rattle.rows_statements.proofs.GrantLemmas.{grant_read}
use Rattle.rows_statements.proofs.DocumentWalk.{documents_read}
use Rattle.rows_statements.proofs.QueueJobs.{jobs_read}
use Rattle.rows_statements.proofs.TallyWalk.{jobs_counted}
use Rattle.rows_statements.proofs.CountWalk.{few_read}
use Rattle.rows_statements.proofs.QueuedWalk.{queued_read}
use Rattle.rows_statements.proofs.GrantWalk.{grants_added}
use Rattle.rows_statements.proofs.GrantLists.{grants_read}
use Rattle.rows_statements.proofs.SummaryWalk.{summed_read}
use Rattle.rows_statements.proofs.DeviceLemmas.{device_read}
use Rattle.rows_statements.proofs.RateLemmas.{rate_read}
use Rattle.rows_statements.proofs.DeviceWalk.{devices_read}
use Rattle.rows_statements.proofs.DeviceListing.{devices_listed}

pub sound_rows_are_read : SoundRowsAreRead
sound_rows_are_read = record {
  accounts = λ db name has sound. record {
    account = account_read db name sound;
    jobs = λ number. job_read db name number sound;
    grants = λ month. grant_read db name month sound;
    documents = λ number. documents_read db has name number sound;
    queues = jobs_read db has name sound;
    counted = jobs_counted db has name sound;
    queued = queued_read db has name sound;
    few = few_read db has name sound;
    added = λ month. grants_added db has name month sound;
    by_month = grants_read db has name sound;
    summed = summed_read db has name sound;
  };
  of_devices = λ db has sound. record {
    devices = λ name. device_read db name sound;
    rates = λ name. rate_read db name sound;
    all = devices_read db has sound;
    listed = devices_listed db has sound;
  };
}
