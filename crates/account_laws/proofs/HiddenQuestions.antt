-- Each question is answered alike where the passwords are hidden.
use Rattle.std.proofs.Common.{◌≡◌, ℕ, ◌+◌, Bool, true, false, cond, not, List, [], ◌∷◌, ◌++◌, map, filter, fold, Option, Some, None, option_map, Result, Ok, Err, refl, sym, ap, ◌∙◌}
use Rattle.std.specs.Prelude.{codes}
use Rattle.std.specs.FinMap.{get, values}
use Rattle.std.specs.List.{take-map}
use Rattle.std.proofs.lemmas.List.Folds.{fold-map}
use Rattle.percent_encoding.specs.Percent.{percent_encode}
use Rattle.account_machine.specs.Steps.{and_then}
use Rattle.account_machine.specs.declared.event.Reply.TheVariants as reply
use Rattle.account_laws.proofs.HiddenAnswers.{found_hidden}
use Rattle.account_laws.proofs.HiddenPages.{desk_hidden, owner_hidden, statement_hidden}
use Rattle.account_laws.proofs.HiddenPasswords.{hidden, secret}
use Rattle.account_laws.proofs.HiddenRooms.{charged_hidden, hidden_room, reserved_hidden}
use Rattle.account_laws.proofs.MappedValues.{filter_changed, values-with_each}
use Rattle.account_laws.proofs.PasswordsStaySecret.{AreRoomsAlike, gone_alike}
use Rattle.account_laws.proofs.ToldLists.{lines_changed}
use Rattle.account_laws.specs.PasswordsInQuestions as law
use Rattle.account_questions.specs.JobLines.{counts_text, escaped, job_text, password_text, place_text, times_text}
use Rattle.account_questions.specs.Lists.{jobs_text}
use Rattle.account_questions.specs.Pages.{desk_of, most_shown, owner_of, statement_of}
use Rattle.account_questions.specs.Questions.{answer_about, answer_to}
use Rattle.account_questions.specs.Quotas.{quota_text, statement_text}
use Rattle.account_questions.specs.Stations.{handed_again, is_for, printed_by, said_or, waiting_at}
use Rattle.account_questions.specs.declared.question.About.{About}
use Rattle.account_questions.specs.declared.question.About.TheVariants.{Left, Statement, Jobs, Ended, Grants, Waiting, Again, OwnerPage, StatementPage, DeskPage}
use Rattle.account_questions.specs.declared.question.Question.{Question}
use Rattle.account_questions.specs.declared.question.Question.TheVariants.{Ping, End, Devices, DevicesPage, Accounts, Check, Account}
use Rattle.account_replies.specs.Stations.{known_device}
use Rattle.account_rules.specs.Devices.{Devices as DeviceMap}
use Rattle.account_rules.specs.Effects.{is_bound_elsewhere}
use Rattle.account_rules.specs.JobStates.{is_processing, is_unfinished}
use Rattle.account_rules.specs.declared.device.Device.{Device}
use Rattle.account_rules.specs.declared.job.Job.{Job}
use Rattle.account_rules.specs.declared.refusal.Word.{Word}
use Rattle.account_rules.specs.declared.refusal.Word.TheVariants.{NotProcessing, OtherDevice, Stopping}
use Rattle.account_state.specs.Queues.{completed, first_jobs, is_later, not_completed, put_by_end}
use Rattle.account_state.specs.Rooms.{RoomValue}
use Rattle.account_state.specs.Sums.{granted_to}
use Rattle.account_state.specs.Summaries.{beyond_then, charged_then, is_held, is_in_month, is_pending, summary_of}
use Rattle.page_pages.specs.DeskAccounts.{desk_account_page}
use Rattle.page_pages.specs.Owners.{owner_page}
use Rattle.page_pages.specs.Statements.{statement_page}

-- ---- lines of jobs

password_hidden : (password : List ℕ) → password_text (secret password) ≡ password_text password
password_hidden [] = refl
password_hidden (byte ∷ bytes) = refl

place_hidden : (job : Job) → place_text (hidden job) ≡ place_text job
unfolding place_text
place_hidden job = refl

line_hidden : (job : Job) → job_text (hidden job) ≡ job_text job
line_hidden job =
    let place = place_hidden job in
    let password = password_hidden job.password in
    λ i. place i ++ (times_text job.standing ++ (codes " " ++ (password i ++ (counts_text job.standing ++ (codes " " ++ percent_encode escaped job.name)))))

lines_hidden : (jobs : List Job) → jobs_text (map hidden jobs) ≡ jobs_text jobs
lines_hidden jobs = lines_changed hidden job_text job_text line_hidden (codes "jobs") jobs

-- ---- which jobs

unfinished_jobs_hidden : (jobs : List Job) → not_completed (map hidden jobs) ≡ map hidden (not_completed jobs)
unfinished_jobs_hidden jobs = filter_changed hidden (λ (job : Job). is_unfinished job.standing.state) jobs

put_hidden : (jobs : List Job) (job : Job) → put_by_end (map hidden jobs) (hidden job) ≡ map hidden (put_by_end jobs job)
put_hidden [] job = refl
put_hidden (other ∷ jobs) job =
    elim (is_later job other) as (λ b.
    cond b (hidden job ∷ hidden other ∷ map hidden jobs) (hidden other ∷ put_by_end (map hidden jobs) (hidden job))
    ≡ map hidden (cond b (job ∷ other ∷ jobs) (other ∷ put_by_end jobs job)))
    [ true ↦ refl | false ↦ ap (λ rest. hidden other ∷ rest) (put_hidden jobs job) ]

fold_hidden : (put jobs : List Job) → fold put_by_end (map hidden put) (map hidden jobs) ≡ map hidden (fold put_by_end put jobs)
fold_hidden put [] = refl
fold_hidden put (job ∷ jobs) = ap (λ put. fold put_by_end put (map hidden jobs)) (put_hidden put job) ∙ fold_hidden (put_by_end put job) jobs

completed_hidden : (jobs : List Job) → completed (map hidden jobs) ≡ map hidden (completed jobs)
completed_hidden jobs =
    ap (fold put_by_end []) (filter_changed hidden (λ (job : Job). not (is_unfinished job.standing.state)) jobs) ∙ fold_hidden [] (filter (λ (job : Job). not (is_unfinished job.standing.state)) jobs)

-- those of a room
module _ (room : RoomValue) where
  abbrev jobs_of : List Job
  jobs_of = values room.jobs

  values_hidden : values (hidden_room room).jobs ≡ map hidden jobs_of
  values_hidden = values-with_each hidden room.jobs

  not_completed_in : not_completed (values (hidden_room room).jobs) ≡ map hidden (not_completed jobs_of)
  not_completed_in = ap not_completed values_hidden ∙ unfinished_jobs_hidden jobs_of

  completed_in : completed (values (hidden_room room).jobs) ≡ map hidden (completed jobs_of)
  completed_in = ap completed values_hidden ∙ completed_hidden jobs_of

  first_in : (most : ℕ) → first_jobs (Some most) (completed (values (hidden_room room).jobs)) ≡ map hidden (first_jobs (Some most) (completed jobs_of))
  first_in most = ap (first_jobs (Some most)) completed_in ∙ take-map hidden most (completed jobs_of)

  waiting_in : (device : List ℕ) → waiting_at (hidden_room room) device ≡ map hidden (waiting_at room device)
  waiting_in device = ap (filter (is_for device)) not_completed_in ∙ filter_changed hidden (is_for device) (not_completed jobs_of)

-- ---- what they come to

summary_hidden : (month : ℕ) (jobs : List Job) → summary_of month (map hidden jobs) ≡ summary_of month jobs
summary_hidden month jobs =
    let reserved = fold-map (λ (n : ℕ) (job : Job). n + job.standing.reserved) hidden 0 jobs in
    let charged = fold-map (λ (n : ℕ) (job : Job). n + job.standing.charged) hidden 0 jobs in
    let charged_here = fold-map (λ (n : ℕ) (job : Job). n + charged_then month job.standing.ended job.standing.charged) hidden 0 jobs in
    let beyond_here = fold-map (λ (n : ℕ) (job : Job). n + beyond_then month job) hidden 0 jobs in
    let held = fold-map (λ (n : ℕ) (job : Job). n + cond (is_held job.standing.state) 1 0) hidden 0 jobs in
    let pending = fold-map (λ (n : ℕ) (job : Job). n + cond (is_pending job.standing.state) 1 0) hidden 0 jobs in
    let processing = fold-map (λ (n : ℕ) (job : Job). n + cond (is_processing job.standing.state) 1 0) hidden 0 jobs in
    let ended = fold-map (λ (n : ℕ) (job : Job). n + cond (is_in_month month job.standing.ended) 1 0) hidden 0 jobs in
    λ i. record {
      reserved = reserved i;
      charged = charged i;
      charged_then = charged_here i;
      beyond_then = beyond_here i;
      held = held i;
      pending = pending i;
      processing = processing i;
      ended_then = ended i;
    }

summary_in : (month : ℕ) (room : RoomValue) → summary_of month (values (hidden_room room).jobs) ≡ summary_of month (values room.jobs)
summary_in month room = ap (summary_of month) (values_hidden room) ∙ summary_hidden month (values room.jobs)

-- ---- documents again

module _ (room : RoomValue) (device : List ℕ) where
  passed_hidden : (job : Job) (processing elsewhere stopping : Bool)
      → said_or (cond {A = Result Job Word} (not processing) (Err NotProcessing) (cond elsewhere (Err OtherDevice) (cond stopping (Err Stopping) (Ok (hidden job))))) (handed_again (hidden_room room))
      ≡ said_or (cond {A = Result Job Word} (not processing) (Err NotProcessing) (cond elsewhere (Err OtherDevice) (cond stopping (Err Stopping) (Ok job)))) (handed_again room)
  passed_hidden job false elsewhere stopping = refl
  passed_hidden job true true stopping = refl
  passed_hidden job true false true = refl
  passed_hidden job true false false = refl

  again_found : (known : Option Device) (found : Option Job)
      → said_or (and_then (known_device known) (λ _. printed_by device (option_map hidden found))) (handed_again (hidden_room room)) ≡ said_or (and_then (known_device known) (λ _. printed_by device found)) (handed_again room)
  again_found None found = refl
  again_found (Some known) None = refl
  again_found (Some known) (Some job) = passed_hidden job (is_processing job.standing.state) (is_bound_elsewhere job.standing.device device) job.standing.stopping

-- ---- a question about an account that is open

about_hidden : (account : List ℕ) (about : About) (room : RoomValue) (devices : DeviceMap) → answer_about account about (hidden_room room) devices ≡ answer_about account about room devices
about_hidden account (Left month) room devices = λ i. reply.Line (quota_text (granted_to room month) (reserved_hidden room i) (charged_hidden room i))
about_hidden account (Statement month) room devices = λ i. reply.Line (statement_text (granted_to room month) (summary_in month room i))
about_hidden account Jobs room devices = ap (λ (jobs : List Job). reply.Line (jobs_text jobs)) (not_completed_in room) ∙ ap reply.Line (lines_hidden (not_completed (values room.jobs)))
about_hidden account (Ended most) room devices = ap (λ (jobs : List Job). reply.Line (jobs_text jobs)) (first_in room most) ∙ ap reply.Line (lines_hidden (first_jobs (Some most) (completed (values room.jobs))))
about_hidden account Grants room devices = refl
about_hidden account (Waiting device) room devices =
    let lines = ap jobs_text (waiting_in room device) ∙ lines_hidden (waiting_at room device) in
    λ i. said_or (known_device (get devices device)) (λ _. reply.Line (lines i))
about_hidden account (Again device number) room devices =
    ap (λ (found : Option Job). said_or (and_then (known_device (get devices device)) (λ _. printed_by device found)) (handed_again (hidden_room room))) (found_hidden room number)
    ∙ again_found room device (get devices device) (get room.jobs number)
about_hidden account (OwnerPage month outcome stays needs_password) room devices =
    let owner = owner_of account month outcome stays needs_password room devices in
    (λ i. reply.Line (owner_page (record owner { reserved = reserved_hidden room i; charged = charged_hidden room i; waiting = not_completed_in room i; ended = first_in room most_shown i })))
    ∙ ap reply.Line (owner_hidden owner owner.waiting owner.ended)
about_hidden account (StatementPage first last form drawn_up) room devices =
    let statement = statement_of account first last form drawn_up room in
    (λ i. reply.Line (statement_page (record statement { reserved = reserved_hidden room i; charged = charged_hidden room i; ended = completed_in room i })))
    ∙ ap reply.Line (statement_hidden statement statement.ended)
about_hidden account (DeskPage month) room devices =
    let shown = desk_of account month room in
    (λ i. reply.Line (desk_account_page (record shown { reserved = reserved_hidden room i; charged = charged_hidden room i; waiting = not_completed_in room i; ended = first_in room most_shown i })))
    ∙ ap reply.Line (desk_hidden shown shown.waiting shown.ended)

-- ---- every question

by_rooms : (room other : Option RoomValue) (devices : DeviceMap) → AreRoomsAlike room other → (question : Question) (names : List (List ℕ)) → answer_to question room devices names ≡ answer_to question other devices names
by_rooms None None devices alike question names = refl
by_rooms None (Some b) devices alike question names = absurd alike
by_rooms (Some a) None devices alike question names = absurd alike
by_rooms (Some a) (Some b) devices alike (Account account about) names =
    sym (about_hidden account about a devices) ∙ ap (λ (room : RoomValue). answer_about account about room devices) alike ∙ about_hidden account about b devices
by_rooms (Some a) (Some b) devices alike Ping names = refl
by_rooms (Some a) (Some b) devices alike End names = refl
by_rooms (Some a) (Some b) devices alike Devices names = refl
by_rooms (Some a) (Some b) devices alike DevicesPage names = refl
by_rooms (Some a) (Some b) devices alike (Accounts behind) names = refl
by_rooms (Some a) (Some b) devices alike (Check account) names = refl

pub passwords_stay_secret_in_questions : law.PasswordsStaySecretInQuestions
passwords_stay_secret_in_questions life another room other devices known is was alike question names =
    let gone = gone_alike life another room other devices known is was alike in
    by_rooms room other devices gone.rooms question names ∙ ap (λ (d : DeviceMap). answer_to question other d names) gone.devices
