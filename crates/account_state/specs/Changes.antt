-- How a room changes (all this project's own). What is not named stays.
use Rattle.std.specs.Prelude.{ℕ, ◌+◌, ◌==◌, not, Option, Some, None}
use Rattle.std.specs.Ordering.{nat_cmp}
use Rattle.std.specs.Option.{option_map_or}
use Rattle.std.specs.FinMap.{FinMap, get, insert, retain_keys}
use Rattle.account_rules.specs.declared.job.Job.{Job}
use Rattle.account_rules.specs.declared.job.Document.{Document}
use Rattle.account_rules.specs.declared.job.Standing.{Standing}
use Rattle.account_state.specs.Rooms.{RoomValue, place_cmp}

-- the document, if there is one, at its place
abbrev pub with_document : FinMap place_cmp Document → Option Document → FinMap place_cmp Document
with_document documents None = documents
with_document documents (Some document) = insert documents (document.job, document.number) document

-- the job with the number, if it is there, has that standing
abbrev pub restood : (jobs : FinMap nat_cmp Job) (number : ℕ) (standing : Standing)
    → FinMap nat_cmp Job
restood jobs number standing =
    option_map_or
    (λ job. insert jobs number (record job { standing = standing }))
    (get jobs number)
    jobs

-- the documents of the job are gone
abbrev pub without_documents : (documents : FinMap place_cmp Document) (number : ℕ)
    → FinMap place_cmp Document
without_documents documents number = retain_keys documents (λ place. not (place.0 == number))

-- the job is there under its number, with its document if it has one; the next has the number after
-- it
abbrev pub with_new_job : RoomValue → Job → Option Document → RoomValue
with_new_job room job document = record room {
  next = room.next + 1;
  jobs = insert room.jobs job.job job;
  documents = with_document room.documents document;
}

-- the job stands so, with one document more if there is one
abbrev pub with_standing : (room : RoomValue) (number : ℕ) (standing : Standing)
    (document : Option Document) → RoomValue
with_standing room number standing document = record room {
  jobs = restood room.jobs number standing;
  documents = with_document room.documents document;
}

-- the job ended so, and its documents are gone
abbrev pub with_ended : (room : RoomValue) (number : ℕ) (standing : Standing) → RoomValue
with_ended room number standing = record room {
  jobs = restood room.jobs number standing;
  documents = without_documents room.documents number;
}

abbrev pub with_grant : RoomValue → (month pages : ℕ) → RoomValue
with_grant room month pages = record room { grants = insert room.grants month pages }
