-- Of sound rows every question can be answered, and those that agree are answered alike.
use Rattle.std.proofs.Common.{◌≡◌, ℕ, List, Option, Some, None, Result, Ok, Err, OnOk, IsSome, refl, sym, subst, ◌∙◌}
use Rattle.sqlite_value.specs.Order.{Row}
use Rattle.sqlite.specs.Effect.{Database}
use Rattle.account_asks.specs.declared.ask.Which.TheVariants.{NotCompleted, Completed}
use Rattle.account_questions.specs.Pages.{most_shown}
use Rattle.account_questions.specs.Stations.{printed_by}
use Rattle.account_questions.specs.declared.question.About.{About}
use Rattle.account_questions.specs.declared.question.About.TheVariants.{Left, Statement, Jobs, Ended, Grants, Waiting, Again, OwnerPage, StatementPage, DeskPage}
use Rattle.account_questions.specs.declared.question.Question.TheVariants.{Ping, End, Devices, DevicesPage, Accounts, Check, Account}
use Rattle.account_questions.specs.Questions.{NeedsDevices}
use Rattle.account_rules.specs.Devices.{Devices as DeviceMap}
use Rattle.rows_statements.proofs.SoundReads.{sound_rows_are_read}
use Rattle.rows_statements.specs.SoundRows.{AccountsRead}
use Rattle.store_events.proofs.Readable.{act_readable, jobs_readable}
use Rattle.room_store.specs.Questions.{AboutIsReadable, AgreeingAreAnsweredAlike, OpenNames, SoundRowsAreAnswered}
use Rattle.rows_tables.proofs.AgreedRows.{still_holds}
use Rattle.rows_tables.specs.Accounts.{IsSound, account_at}
use Rattle.rows_tables.specs.Devices.{AgreeOnDevices, AreSoundDevices, HoldsDevices}
use Rattle.rows_tables.specs.Keyed.{HasSchema}

-- ---- sound rows

on_ok : {X E P : Type 0} (r : Result X E) → P → OnOk r P
on_ok (Ok x) p = p
on_ok (Err e) p = tt

module _ (db : Database) (has : HasSchema db) (name : List ℕ) (sound : IsSound db name) where
  read : AccountsRead db name
  read = sound_rows_are_read.accounts db name has sound

  about_readable : (about : About) → (NeedsDevices about → AreSoundDevices db) → AboutIsReadable name db about
  about_readable (Left month) devices = record { jobs = read.counted; grants = read.added month }
  about_readable (Statement month) devices = record { jobs = read.summed; grants = read.added month }
  about_readable Jobs devices = jobs_readable db has name sound NotCompleted None
  about_readable (Ended most) devices = jobs_readable db has name sound Completed (Some most)
  about_readable Grants devices = read.by_month
  about_readable (Waiting device) devices = ((sound_rows_are_read.of_devices db has (devices tt)).devices device, λ known. jobs_readable db has name sound NotCompleted None)
  about_readable (Again device number) devices =
      ((sound_rows_are_read.of_devices db has (devices tt)).devices device, λ known. act_readable db has name sound number _ (λ it is there. on_ok (printed_by device (Some it)) (read.documents number)))
  about_readable (OwnerPage month outcome stays needs_password) devices = record {
    quota = record { jobs = read.counted; grants = read.added month };
    waiting = jobs_readable db has name sound NotCompleted None;
    ended = jobs_readable db has name sound Completed (Some most_shown);
    devices = (sound_rows_are_read.of_devices db has (devices tt)).listed;
  }
  about_readable (StatementPage first last form drawn_up) devices = record {
    quota = record { jobs = read.counted; grants = read.added last };
    grants = read.by_month;
    ended = jobs_readable db has name sound Completed None;
  }
  about_readable (DeskPage month) devices = record {
    quota = record { jobs = read.counted; grants = read.added month };
    waiting = jobs_readable db has name sound NotCompleted None;
    ended = jobs_readable db has name sound Completed (Some most_shown);
    grants = read.by_month;
  }

pub sound_rows_are_answered : SoundRowsAreAnswered
sound_rows_are_answered Ping db has sound = tt
sound_rows_are_answered End db has sound = tt
sound_rows_are_answered Devices db has sound = (sound_rows_are_read.of_devices db has (sound.devices tt)).listed
sound_rows_are_answered DevicesPage db has sound = (sound_rows_are_read.of_devices db has (sound.devices tt)).listed
sound_rows_are_answered (Accounts behind) db has sound = sound.named tt
sound_rows_are_answered (Check name) db has sound = tt
sound_rows_are_answered (Account name about) db has sound =
    let account = sound.account name refl in
    record { account = (sound_rows_are_read.accounts db name has account).account; where_open = λ is_open. about_readable db has name account about sound.devices }

-- ---- two databases

module _ (a b : Database) where
  same_devices : AgreeOnDevices a b → (devices : DeviceMap) → HoldsDevices a devices → HoldsDevices b devices
  same_devices agree devices held = record {
    are_devices = held.are_devices;
    device_rows = λ name. agree.same_devices name ∙ held.device_rows name;
    rate_rows = λ name. agree.same_rates name ∙ held.rate_rows name;
  }

  same_names : ((name : List ℕ) → account_at b name ≡ account_at a name) → (names : List (List ℕ)) → OpenNames a names → OpenNames b names
  same_names agree names are = record {
    rise = are.rise;
    exactly = λ name. (
      λ there. subst (λ (o : Option Row). IsSome o) (sym (agree name)) ((are.exactly name).0 there),
      λ is_open. (are.exactly name).1 (subst (λ (o : Option Row). IsSome o) (agree name) is_open),
    );
  }

pub agreeing_are_answered_alike : AgreeingAreAnsweredAlike
agreeing_are_answered_alike question a b agree room devices names about = record {
  account = λ name concerns. still_holds name a b (agree.account name concerns) room (about.account name concerns);
  device_rows = λ concerns. same_devices a b (agree.devices concerns) devices (about.device_rows concerns);
  account_rows = λ concerns. same_names a b (agree.names concerns) names (about.account_rows concerns);
}
