use Rattle.std.proofs.Common.{◌≡◌, ◌∙◌, ap, codes}
use Rattle.account_replies.specs.declared.job.JobAttribute.{JobAttribute}
use Rattle.account_replies.specs.JobAttributes.{job_attributes}
use Rattle.account_replies.specs.ProofJobPlaces.{job_row}
use Rattle.account_replies.proofs.job.put_job_attribute.Goals as goal

pub returns-in-PrinterUri-clause-appended : goal.returns-in-PrinterUri-clause-appended
unfolding job_attributes
returns-in-PrinterUri-clause-appended c =
    let name : c.name-name.result.now ≡ codes "job-printer-uri" = c.name-name.ensures.row ∙ ap (λ (a : JobAttribute). (job_row a).name) c.in-PrinterUri.is in
    rw c.in-PrinterUri.is (rw name at c.put_printer_uri.ensures.appended)
