-- Rule: Where a printer and its jobs are found.
use Rattle.std.specs.Prelude.{ℕ, List, ◌++◌, codes}
use Rattle.std.specs.Fmt.{decimal}
use Rattle.account_rules.specs.QueuePaths.{queue_path}
use Rattle.account_replies.specs.declared.place.Place.{Place}

-- where and when something is shown: to a target with the base, which is its part before its path;
-- in the account with the name, opened at that moment; now
pub record PlainPlace : Type 0 where
  pub base : List ℕ
  pub name : List ℕ
  pub opened : ℕ
  pub now : ℕ

abbrev pub plain_place : Place → PlainPlace
plain_place at = record { base = at.base.now; name = at.name; opened = at.opened; now = at.now }

-- printer-uri: the part of the target before its path, and the path of the account's queue (RFC
-- 8011 section 5.4.1; the path is this project's own)
abbrev pub printer_uri : PlainPlace → List ℕ
printer_uri at = at.base ++ queue_path at.name

-- job-uri: after it the number of the job (RFC 8011 section 5.3.2)
abbrev pub job_uri : (at : PlainPlace) (job : ℕ) → List ℕ
job_uri at job = printer_uri at ++ (codes "/" ++ decimal job)
