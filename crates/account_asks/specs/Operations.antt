-- Rule: The operations of the profile.
use Rattle.std.specs.Prelude.{ℕ, Bool, true, false, ◌==◌, if◌then◌else◌, Option, Some, None, unwrap_or}
use Rattle.ipp_coding.specs.declared.message.Header.{Header}
use Rattle.account_asks.specs.declared.operation.Operation.{Operation}
use Rattle.account_asks.specs.declared.operation.Operation.TheVariants.{PrintJob, ValidateJob, CreateJob, SendDocument, CancelJob, GetJobAttributes, GetJobs, GetPrinterAttributes, HoldJob, ReleaseJob}

-- the operation-ids (RFC 8011 section 5.4.15)
abbrev pub operation_with : ℕ → Option Operation
operation_with id =
    if id == 0x02 then Some PrintJob
    else if id == 0x04 then Some ValidateJob
    else if id == 0x05 then Some CreateJob
    else if id == 0x06 then Some SendDocument
    else if id == 0x08 then Some CancelJob
    else if id == 0x09 then Some GetJobAttributes
    else if id == 0x0A then Some GetJobs
    else if id == 0x0B then Some GetPrinterAttributes
    else if id == 0x0C then Some HoldJob
    else if id == 0x0D then Some ReleaseJob
    else None

-- a request of an operation that is not served is refused before the operation is looked at
abbrev pub operation_of : Header → Operation
operation_of header = unwrap_or (operation_with header.code) PrintJob

-- it makes a job, or would (RFC 8011 sections 4.2.1, 4.2.3 and 4.2.4)
abbrev pub makes_job : Operation → Bool
makes_job PrintJob = true
makes_job ValidateJob = true
makes_job CreateJob = true
makes_job _ = false

-- it tells of a document (RFC 8011 sections 4.2.1, 4.2.3 and 4.3.1)
abbrev pub describes_document : Operation → Bool
describes_document PrintJob = true
describes_document ValidateJob = true
describes_document SendDocument = true
describes_document _ = false

-- its data is a document (RFC 8011 sections 4.2.1 and 4.3.1)
abbrev pub hands_in_document : Operation → Bool
hands_in_document PrintJob = true
hands_in_document SendDocument = true
hands_in_document _ = false

-- it is for a job that is there (RFC 8011 section 4.3)
abbrev pub is_for_job : Operation → Bool
is_for_job SendDocument = true
is_for_job CancelJob = true
is_for_job GetJobAttributes = true
is_for_job HoldJob = true
is_for_job ReleaseJob = true
is_for_job _ = false

-- it lists attributes that the requester names (RFC 8011 sections 4.2.5, 4.2.6 and 4.3.4)
abbrev pub lists_attributes : Operation → Bool
lists_attributes GetJobAttributes = true
lists_attributes GetJobs = true
lists_attributes GetPrinterAttributes = true
lists_attributes _ = false

abbrev pub is_send_document : Operation → Bool
is_send_document SendDocument = true
is_send_document _ = false

abbrev pub is_get_jobs : Operation → Bool
is_get_jobs GetJobs = true
is_get_jobs _ = false

abbrev pub is_print_job : Operation → Bool
is_print_job PrintJob = true
is_print_job _ = false
