-- What each act but Send-Document keeps of a job: how many documents it has, and that it has ended
-- (this project's own).
use Rattle.std.specs.Prelude.{◌≡◌, true}
use Rattle.account_rules.specs.JobStates.{is_unfinished}
use Rattle.account_rules.specs.declared.job.Standing.{Standing}

-- an act brings no document, and takes up no job that has ended
pub record Keeps (before after : Standing) : Type 0 where
  pub documents : after.documents ≡ before.documents
  pub no_return : is_unfinished after.state ≡ true → is_unfinished before.state ≡ true
