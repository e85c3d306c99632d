-- The values that a borrowed station and borrowed jobs stand for.
use Rattle.std.specs.Prelude.{List, map}
use Rattle.std.specs.Borrow.{Bor}
use Rattle.room_core.specs.declared.stations.Station.{Station}
use Rattle.account_machine.specs.Stations.{PlainStation, station}
use Rattle.account_rules.specs.declared.job.Job.{Job}
use Rattle.account_rules.specs.Devices.{device_map}

abbrev pub plain_station : (at : Station) → PlainStation
plain_station at = station (device_map at.devices.now) at.device at.now

abbrev pub plain_jobs : (jobs : List (Bor Job)) → List Job
plain_jobs jobs = map (λ (job : Bor Job). job.now) jobs
