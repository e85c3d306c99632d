-- An account that has the same rows is the same room, and of the same room the same rows; so are devices.
use Rattle.std.proofs.Common.{List, ℕ, Option, Some, None, sym, ◌∙◌}
use Rattle.sqlite.specs.Effect.{Database}
use Rattle.account_rules.specs.Devices.{Devices}
use Rattle.account_state.specs.Rooms.{RoomValue}
use Rattle.rows_tables.specs.Accounts.{AgreeOnRows, Holds}
use Rattle.rows_tables.specs.Agreement.{Agree}
use Rattle.rows_tables.specs.Devices.{AgreeOnDevices, HoldsDevices}

pub still_holds : (name : List ℕ) (a b : Database) → AgreeOnRows name a b → (room : Option RoomValue) → Holds a name room → Holds b name room
still_holds name a b agree None holds = record {
  no_account = agree.same_account ∙ holds.no_account;
  no_job = λ number. agree.same_jobs number ∙ holds.no_job number;
  no_document = λ job number. agree.same_documents job number ∙ holds.no_document job number;
  no_grant = λ month. agree.same_grants month ∙ holds.no_grant month;
}
still_holds name a b agree (Some room) holds = record {
  is_room = holds.is_room;
  rows = record {
    account_row = agree.same_account ∙ holds.rows.account_row;
    job_rows = λ number. agree.same_jobs number ∙ holds.rows.job_rows number;
    document_rows = λ job number. agree.same_documents job number ∙ holds.rows.document_rows job number;
    grant_rows = λ month. agree.same_grants month ∙ holds.rows.grant_rows month;
  };
}

pub still_devices : (a b : Database) → AgreeOnDevices a b → (devices : Devices) → HoldsDevices a devices → HoldsDevices b devices
still_devices a b agree devices holds = record {
  are_devices = holds.are_devices;
  device_rows = λ name. agree.same_devices name ∙ holds.device_rows name;
  rate_rows = λ name. agree.same_rates name ∙ holds.rate_rows name;
}

pub hold_the_same : (name : List ℕ) (a b : Database) → Agree name a b → (room : Option RoomValue) (devices : Devices) → Holds a name room → HoldsDevices a devices → Holds b name room × HoldsDevices b devices
hold_the_same name a b agree room devices holds has = (still_holds name a b agree.rows room holds, still_devices a b agree.devices devices has)

agree_on_rows : (name : List ℕ) (a b : Database) (room : Option RoomValue) → Holds a name room → Holds b name room → AgreeOnRows name a b
agree_on_rows name a b None one other = record {
  same_account = other.no_account ∙ sym one.no_account;
  same_jobs = λ number. other.no_job number ∙ sym (one.no_job number);
  same_documents = λ job number. other.no_document job number ∙ sym (one.no_document job number);
  same_grants = λ month. other.no_grant month ∙ sym (one.no_grant month);
}
agree_on_rows name a b (Some room) one other = record {
  same_account = other.rows.account_row ∙ sym one.rows.account_row;
  same_jobs = λ number. other.rows.job_rows number ∙ sym (one.rows.job_rows number);
  same_documents = λ job number. other.rows.document_rows job number ∙ sym (one.rows.document_rows job number);
  same_grants = λ month. other.rows.grant_rows month ∙ sym (one.rows.grant_rows month);
}

pub agree_again : (name : List ℕ) (a b : Database) (room : Option RoomValue) (devices : Devices) → Holds a name room → HoldsDevices a devices → Holds b name room → HoldsDevices b devices → Agree name a b
agree_again name a b room devices one on other off = record {
  rows = agree_on_rows name a b room one other;
  devices = record {
    same_devices = λ name. off.device_rows name ∙ sym (on.device_rows name);
    same_rates = λ name. off.rate_rows name ∙ sym (on.rate_rows name);
  };
}
