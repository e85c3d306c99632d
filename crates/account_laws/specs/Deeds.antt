-- What was done, as it was asked and as the answer tells (all this project's own).
use Rattle.std.specs.Prelude.{ℕ, Bool, List, Option, Some, None, if◌then◌else◌}
use Rattle.account_asks.specs.Asks.{PlainAsk}
use Rattle.account_asks.specs.declared.operation.Operation.{Operation}
use Rattle.account_asks.specs.declared.operation.Operation.TheVariants.{PrintJob, CreateJob, SendDocument, CancelJob, HoldJob, ReleaseJob}
use Rattle.account_machine.specs.Events.{AccountEvent, DeviceEvent, OfAccount, OfDevice, Open, Ipp, Release, Start, Settle, Grant, Switch, Rate}
use Rattle.account_machine.specs.declared.event.Reply.{Reply}
use Rattle.account_lives.specs.Lives.{Exchange}
use Rattle.account_laws.specs.Told.{is_documents, is_ok, is_successful, request_of}

pub data Deed : Type 0 where
  -- the account was opened
  Opened : Deed
  -- a request made a job, with its document or with none yet; brought a document, or closed the job
  Made : (ask : PlainAsk) → Deed
  Brought : (ask : PlainAsk) → Deed
  -- a request canceled the job with the number, held it, or released it
  Canceled : (number : ℕ) → Deed
  HeldBack : (number : ℕ) → Deed
  Freed : (number : ℕ) → Deed
  -- a station released it for its device, was handed its documents, or settled it
  Released : (device : List ℕ) (number impressions : ℕ) → Deed
  Started : (device : List ℕ) (number : ℕ) → Deed
  Settled : (device : List ℕ) (number impressions : ℕ) (failed : Bool) → Deed
  -- an operator granted pages, switched a device on or off, or set its rate
  Granted : (month pages : ℕ) → Deed
  Switched : (device : List ℕ) (on : Bool) → Deed
  Rated : (device : List ℕ) (units : ℕ) → Deed
  -- nothing: it was refused, or asked only what there is
  NoDeed : Deed

-- what a request does that is done
abbrev pub asked_deed : PlainAsk → Operation → Deed
asked_deed ask PrintJob = Made ask
asked_deed ask CreateJob = Made ask
asked_deed ask SendDocument = Brought ask
asked_deed ask CancelJob = Canceled ask.job
asked_deed ask HoldJob = HeldBack ask.job
asked_deed ask ReleaseJob = Freed ask.job
asked_deed ask _ = NoDeed

abbrev pub deed_of_request : Option PlainAsk → Deed
deed_of_request None = NoDeed
deed_of_request (Some ask) = asked_deed ask ask.operation

-- A request is done where its answer's status is successful (RFC 8011 section B.1.2), a line where
-- its answer is ok, and a start where documents are its answer.
abbrev pub account_deed : (account : List ℕ) → AccountEvent → Reply → Deed
account_deed account Open told = if is_ok told then Opened else NoDeed
account_deed account (Ipp body) told =
    if is_successful told then deed_of_request (request_of account (Ipp body)) else NoDeed
account_deed account (Release device number password impressions) told =
    if is_ok told then Released device number impressions else NoDeed
account_deed account (Start device number) told =
    if is_documents told then Started device number else NoDeed
account_deed account (Settle device number impressions failed) told =
    if is_ok told then Settled device number impressions failed else NoDeed
account_deed account (Grant month pages) told = if is_ok told then Granted month pages else NoDeed

abbrev pub device_deed : (device : List ℕ) → DeviceEvent → Reply → Deed
device_deed device (Switch on) told = if is_ok told then Switched device on else NoDeed
device_deed device (Rate units) told = if is_ok told then Rated device units else NoDeed

abbrev pub deed_of : Exchange → Deed
deed_of ((now, OfAccount account it), told) = account_deed account it told
deed_of ((now, OfDevice device it), told) = device_deed device it told

-- and when
abbrev pub moment_of : Exchange → ℕ
moment_of x = x.0.0
