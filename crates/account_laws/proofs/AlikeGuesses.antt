-- Two releases of one job, by passwords that are both right or both wrong, are answered alike.
use Rattle.std.proofs.Common.{◌≡◌, ℕ, ℤ, Bool, false, cond, List, Option, Some, None, Result, refl, sym, ap, ◌∙◌, Ok, Err, option_map, unwrap_or}
use Rattle.std.specs.FinMap.{get}
use Rattle.std.specs.Option.{option_map_or}
use Rattle.account_machine.specs.Events.{OfAccount, Release}
use Rattle.account_machine.specs.JobActs.{job_or_refusal}
use Rattle.account_machine.specs.Machine.{answered_open}
use Rattle.account_machine.specs.Stations.{by_word, release_told, station, station_release}
use Rattle.account_machine.specs.Steps.{and_then, refusing, with_moved}
use Rattle.account_machine.specs.declared.event.Reply.TheVariants as reply
use Rattle.account_laws.proofs.AsTold.{found}
use Rattle.account_laws.proofs.HiddenAnswers.{StepAlike, found_hidden, hidden_step}
use Rattle.account_laws.proofs.HiddenPasswords.{hidden}
use Rattle.account_laws.proofs.HiddenRooms.{hidden_room, left_alike, moved_hidden}
use Rattle.account_laws.specs.AccountsTold.{AccountTold}
use Rattle.account_laws.specs.JobsTold.{JobTold}
use Rattle.account_laws.specs.PasswordsStaySecret.{is_wrong_for}
use Rattle.account_laws.specs.StandsAsTold.{StandsAsTold}
use Rattle.account_laws.specs.StationAnswers.{is_wrong}
use Rattle.account_replies.specs.Lines.{success_text}
use Rattle.account_replies.specs.Stations.{ready_device}
use Rattle.account_replies.specs.declared.station_line.Success.TheVariants.{Released}
use Rattle.account_machine.specs.Verdicts.{line_done}
use Rattle.account_rules.specs.Acts.{StationRelease}
use Rattle.account_rules.specs.Devices.{Devices}
use Rattle.account_rules.specs.Effects.{after_reserving, impressions_of, is_incomplete, is_wrong_password, refused}
use Rattle.account_rules.specs.Moves.{cell, move}
use Rattle.account_rules.specs.declared.device.Device.{Device}
use Rattle.account_rules.specs.declared.job.Job.{Job}
use Rattle.account_rules.specs.declared.job.Standing.{Standing}
use Rattle.account_rules.specs.declared.refusal.Refusal.{Refusal}
use Rattle.account_rules.specs.declared.refusal.Word.{Word}
use Rattle.account_rules.specs.declared.refusal.Word.TheVariants.{Incomplete, NotHeld, Password}
use Rattle.account_state.specs.Rooms.{RoomValue}
use Rattle.account_state.specs.Sums.{left_in}

-- what is told of a job's password is the room's
wrong_as_told : (told : AccountTold) (room : RoomValue) (number : ℕ) (given : List ℕ) (job : Job) → StandsAsTold told room → get room.jobs number ≡ Some job → is_wrong_for told number given ≡ is_wrong_password job.password given
wrong_as_told told room number given job stands there =
    let at = found number told room job stands there in
    ap (λ (o : Option JobTold). option_map_or (λ (ticket : JobTold). is_wrong ticket.maker.password given) o false) at.is_told
    ∙ ap (λ (kept : List ℕ). is_wrong_password kept given) (sym at.is.password)

module _ (device : List ℕ) (impressions rate : ℕ) (left : ℤ) where
  -- a release by a password that is wrong or not
  abbrev released_by : (wrong : Bool) (s : Standing) → Result Standing Refusal
  released_by wrong s =
      cell s.state
      (cond (is_incomplete s) (refused Incomplete) (cond wrong (refused Password) (after_reserving s (impressions_of s impressions) rate (Some device) left)))
      (refused NotHeld)
      (refused NotHeld)
      (refused NotHeld)

  abbrev released : List ℕ → Option Job → Result Standing Refusal
  released given o = and_then (job_or_refusal o) (λ (job : Job). move (StationRelease job.password device given impressions rate left) job.standing)

  released_alike : (given tried : List ℕ) (a b : Option Job) → option_map hidden a ≡ option_map hidden b → ((was is : Job) → a ≡ Some was → b ≡ Some is → is_wrong_password was.password given ≡ is_wrong_password is.password tried) → released given a ≡ released tried b
  released_alike given tried None None same agree = refl
  released_alike given tried None (Some b) same agree = absurd cc
  released_alike given tried (Some a) None same agree = absurd cc
  released_alike given tried (Some a) (Some b) same agree =
      let wrong = agree a b refl refl in
      let stand = ap (λ (o : Option Job). (unwrap_or o a).standing) same in
      λ i. released_by (wrong i) (stand i)

-- ---- what is told of it

module _ (a b : RoomValue) (same : hidden_room a ≡ hidden_room b) where
  moved_alike : (number : ℕ) (standing : Standing) → hidden_room (with_moved a number standing) ≡ hidden_room (with_moved b number standing)
  moved_alike number standing =
      sym (moved_hidden a number standing)
      ∙ ap (λ room. hidden_room (with_moved room number standing)) same
      ∙ moved_hidden b number standing

  told_alike : (now number : ℕ) (decided : Result Standing Word) → StepAlike (release_told a now number decided) (release_told b now number decided)
  told_alike now number (Err word) = ap (λ room. record { reply = (refusing a word).reply; verdict = (refusing a word).verdict; room = room }) same
  told_alike now number (Ok standing) =
      let rooms = moved_alike number standing in
      let left = left_alike (with_moved a number standing) (with_moved b number standing) now rooms in
      λ i. record { reply = reply.Line (success_text (Released standing.reserved (left i))); verdict = line_done; room = rooms i }

module _ (told other : AccountTold) (a b : RoomValue) (stands : StandsAsTold told a) (stand_too : StandsAsTold other b) (same : hidden_room a ≡ hidden_room b) where
  pub guesses_alike : (devices : Devices) (now : ℕ) (account device : List ℕ) (number impressions : ℕ) (given tried : List ℕ) → is_wrong_for told number given ≡ is_wrong_for other number tried →
      StepAlike (answered_open a devices now (OfAccount account (Release device number given impressions))) (answered_open b devices now (OfAccount account (Release device number tried impressions)))
  guesses_alike devices now account device number impressions given tried agree =
      let left = left_alike a b now same in
      let jobs : option_map hidden (get a.jobs number) ≡ option_map hidden (get b.jobs number) = sym (found_hidden a number) ∙ ap (λ (room : RoomValue). get room.jobs number) same ∙ found_hidden b number in
      let wrong : (was is : Job) → get a.jobs number ≡ Some was → get b.jobs number ≡ Some is → is_wrong_password was.password given ≡ is_wrong_password is.password tried = λ was is here there.
      sym (wrong_as_told told a number given was stands here) ∙ agree ∙ wrong_as_told other b number tried is stand_too there in
      let decided : station_release a (station devices device now) number given impressions ≡ station_release b (station devices device now) number tried impressions =
      (λ i. and_then (ready_device (get devices device)) (λ (ready : Device). by_word (released device impressions ready.rate (left i) given (get a.jobs number))))
      ∙ (λ i. and_then (ready_device (get devices device)) (λ (ready : Device). by_word (released_alike device impressions ready.rate (left_in b now) given tried (get a.jobs number) (get b.jobs number) jobs wrong i))) in
      ap (λ (result : Result Standing Word). hidden_step (release_told a now number result)) decided
      ∙ told_alike a b same now number (station_release b (station devices device now) number tried impressions)
