-- Rule: Which requests need space on the disk, and whether there is space for one (all this
-- project's own).
use Rattle.std.specs.Prelude.{◌==◌, ◌&&◌, ◌||◌, ℕ, Bool, true, false, List, length, nat_le, nat_lt, Result, Ok, Err}
use Rattle.http.specs.Request.{body_of}
use Rattle.http.specs.declared.request.Request.{Request}
use Rattle.ipp_coding.specs.Limits.{header_length}
use Rattle.ipp_coding.specs.Reading.{header_in}
use Rattle.input_http.specs.declared.refusal.Refusal.{Refusal}
use Rattle.input_http.specs.declared.refusal.Refusal.TheVariants.{NoSpace}
use Rattle.serve_space.specs.Spares.{takes_of}
use Rattle.serve_space.specs.declared.spare.Spare.{Spare}
use Rattle.serve_peers.specs.declared.entry.Entry.{Entry}
use Rattle.serve_peers.specs.declared.entry.Entry.TheVariants as entry
use Rattle.serve_peers.specs.declared.served.Served.{Served}
use Rattle.serve_peers.specs.Requests.{asked}

-- the operation-ids of Print-Job, Create-Job and Send-Document (RFC 8011 section 5.4.15)
abbrev pub brings_job : ℕ → Bool
brings_job id = id == 0x02 || (id == 0x05 || id == 0x06)

-- a message of IPP that brings a job or a document
abbrev pub needs_space : (body : List ℕ) → Bool
needs_space body = nat_le header_length (length body) && brings_job (header_in body).code

-- no line brings one
abbrev pub entry_needs_space : Entry → Bool
entry_needs_space (entry.Message moment account body) = needs_space body
entry_needs_space (entry.Line line) = false
entry_needs_space (entry.Desk operator line) = false

-- the bytes of a message, and of a line none
abbrev pub length_of_entry : Entry → ℕ
length_of_entry (entry.Message moment account body) = length body
length_of_entry (entry.Line line) = 0
length_of_entry (entry.Desk operator line) = 0

-- the space that is kept
abbrev pub spare_of : {S : Type 0} → Served S → Spare
spare_of served = served.spare

-- a request needs space, and is longer than what there is space for
abbrev pub lacks_space : {S : Type 0} → Served S → Request (List ℕ) → Bool
lacks_space served request = needs_space (body_of request)
    && nat_lt (takes_of (spare_of served)) (length (body_of request))

-- a request that would not be refused otherwise is refused for want of space
abbrev pub with_space : (lacks : Bool) (wants : Result (List ℕ) Refusal) → Result (List ℕ) Refusal
with_space true (Ok account) = Err NoSpace
with_space _ wants = wants

-- the account whose queue a request is for, or the first refusal that applies; the last is for want
-- of space
abbrev pub wanted : {S : Type 0} → Served S → Request (List ℕ) → Result (List ℕ) Refusal
wanted served request = with_space (lacks_space served request) (asked request)
