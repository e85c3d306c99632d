-- For the proof of the code alone: what the parts of a request stand for, wherever their bytes lie.
use Rattle.std.specs.Prelude.{ℕ, ◌<◌, List, map}
use Rattle.std.specs.Borrow.{Bor}
use Rattle.account_rules.specs.Limits.{last_next_job}
use Rattle.account_asks.specs.declared.uri.Uri.{Uri}
use Rattle.account_asks.specs.declared.target.TargetUri.{TargetUri}
use Rattle.account_asks.specs.declared.target.TargetUri.TheVariants as uris
use Rattle.account_asks.specs.declared.target.Target.{Target}
use Rattle.account_asks.specs.declared.fields.Fields.{Fields}
use Rattle.account_asks.specs.Fields.{PlainFields}
use Rattle.account_asks.specs.Targets.{NamedTarget, PrinterUri, JobUri, PlainTarget}
use Rattle.account_asks.specs.Uris.{UriParts}

abbrev pub plain_uri : Uri → UriParts
plain_uri uri = record { base = uri.base.now; path = uri.path.now }

abbrev pub plain_named : TargetUri → NamedTarget
plain_named (uris.Printer uri job) = PrinterUri uri.now job
plain_named (uris.Job uri) = JobUri uri.now

-- the number is one that a job may have, or 0
abbrev pub HasNumber : NamedTarget → Type 0
HasNumber (PrinterUri uri job) = job < last_next_job
HasNumber (JobUri uri) = Unit {0}

abbrev pub plain_target : Target → PlainTarget
plain_target target = record { base = target.base.now; job = target.job }

abbrev pub plain_fields : Fields → PlainFields
plain_fields fields = record {
  insists = fields.insists;
  name = fields.name.now;
  password = fields.password.now;
  impressions = fields.impressions;
  format = fields.format;
  last = fields.last;
  which = fields.which;
  limit = fields.limit;
}

abbrev pub plain_names : List (Bor (List ℕ)) → List (List ℕ)
plain_names names = map (λ name. name.now) names
