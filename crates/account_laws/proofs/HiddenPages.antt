-- A page is the same where the passwords of its jobs are hidden.
use Rattle.std.proofs.Common.{◌≡◌, ℕ, ◌+◌, ◌-◌, Bool, cond, not, ◌&&◌, ◌==◌, List, [], ◌∷◌, ◌++◌, flat_map, map, refl, ap}
use Rattle.std.proofs.lemmas.List.Folds.{fold-map}
use Rattle.std.specs.Fmt.{signed_decimal}
use Rattle.account_laws.proofs.HiddenPasswords.{hidden, still_secret}
use Rattle.account_laws.proofs.ToldLists.{length_changed, told_changed}
use Rattle.account_rules.specs.Effects.{is_incomplete}
use Rattle.account_rules.specs.declared.job.Job.{Job}
use Rattle.page_markup.specs.Parts.{html}
use Rattle.page_pages.specs.DeskAccounts.{account_end, account_forms, account_lists, account_start, desk_account_page, desk_acts, desk_cells, desk_content, desk_job, jobs_card, table_of_jobs}
use Rattle.page_pages.specs.DeskGrants.{grants_card}
use Rattle.page_pages.specs.declared.desk_account.DeskAccount.{DeskAccount}
use Rattle.page_pages.specs.Ended.{device_or_none, ended_card, ended_columns, ended_counts, ended_job, ended_name, table_of_ended}
use Rattle.page_pages.specs.Forms.{print_form}
use Rattle.page_pages.specs.Owners.{content, lists, owner_document, owner_end, owner_page, owner_start, reload_if, terms_of}
use Rattle.page_pages.specs.Phases.{phase_in, phase_of, printing_phase, sign, word}
use Rattle.page_pages.specs.Movements.{balance, charged_before, charged_since, charged_then, closing, given_back, granted_before, granted_then, is_then, opening}
use Rattle.page_pages.specs.StatementRows.{closing_row, job_ending, job_line, job_line_if_then, opening_row, statement_rows}
use Rattle.page_pages.specs.Statements.{heading, links, statement_in, statement_page, statement_paper, statement_start, title}
use Rattle.page_pages.specs.StatementSums.{job_if_then, jobs_end, reserved_now, statement_grants, statement_jobs, sums, sums_before, sums_then}
use Rattle.page_pages.specs.declared.statement.Form.{Form}
use Rattle.page_pages.specs.declared.statement.Form.TheVariants.{Paper, Csv}
use Rattle.page_pages.specs.Waiting.{buttons, job_cells, job_form, job_row, table_of_waiting, waiting_card}
use Rattle.page_pages.specs.Devices.{all_devices}
use Rattle.page_pages.specs.Offers.{offer}
use Rattle.page_pages.specs.declared.offer.Terms.{Terms}
use Rattle.page_pages.specs.declared.owner.Owner.{Owner}
use Rattle.page_pages.specs.declared.phase.Phase.{Phase}
use Rattle.page_pages.specs.declared.phase.Phase.TheVariants.{Incomplete, Locked, Uncounted, Ready}
use Rattle.page_pages.specs.declared.statement.Statement.{Statement}

-- ---- a job

phase_hidden : (job : Job) → phase_of (hidden job) ≡ phase_of job
phase_hidden job =
    ap
    (λ (locked : Bool). phase_in job.standing.state (cond (is_incomplete job.standing) Incomplete (cond locked Locked (cond (job.standing.impressions == 0) Uncounted Ready))) (printing_phase job.standing.stopping))
    (still_secret job.password)

row_hidden : (account : List ℕ) (terms : Terms) (job : Job) → job_row account terms (hidden job) ≡ job_row account terms job
unfolding job_row job_cells
row_hidden account terms job =
    ap
    (λ (phase : Phase). job_cells phase terms job ++ job_form account job.job (buttons phase (offer terms.left job.standing) job.job))
    (phase_hidden job)

ended_hidden : (job : Job) → ended_job (hidden job) ≡ ended_job job
unfolding ended_job
ended_hidden job =
    ap
    (λ (phase : Phase). html (ended_name job.job job.name (sign phase) (word phase)) ++ html (ended_counts (device_or_none job.standing.device) job.standing.ended job.standing.charged))
    (phase_hidden job)

-- ---- what differs within a text that stays

within : (before after : List ℕ) (x y : List ℕ) → x ≡ y → before ++ (x ++ after) ≡ before ++ (y ++ after)
within before after x y same = ap (λ (l : List ℕ). before ++ (l ++ after)) same

in_both : (first others between rows ends after : List ℕ) → first ≡ others → rows ≡ ends → first ++ (between ++ (rows ++ after)) ≡ others ++ (between ++ (ends ++ after))
in_both first others between rows ends after start same = λ i. start i ++ (between ++ (same i ++ after))

-- a table of so many rows, or what stands for none
of_rows : (none columns foot rows others : List ℕ) (n m : ℕ) → n ≡ m → rows ≡ others → cond (n == 0) none (columns ++ (rows ++ foot)) ≡ cond (m == 0) none (columns ++ (others ++ foot))
of_rows none columns foot rows others n m so_many same = λ i. cond (so_many i == 0) none (columns ++ (same i ++ foot))

-- ---- a table

waiting_table : (account : List ℕ) (terms : Terms) (jobs : List Job) → table_of_waiting account terms (map hidden jobs) ≡ table_of_waiting account terms jobs
waiting_table account terms jobs = of_rows _ _ _ _ _ _ _ (length_changed hidden jobs) (told_changed hidden (job_row account terms) (job_row account terms) (row_hidden account terms) jobs)

waiting_hidden : (account : List ℕ) (terms : Terms) (jobs : List Job) → waiting_card account terms (map hidden jobs) ≡ waiting_card account terms jobs
unfolding waiting_card
waiting_hidden account terms jobs = within _ _ _ _ (waiting_table account terms jobs)

ended_table : (jobs : List Job) → table_of_ended (map hidden jobs) ≡ table_of_ended jobs
ended_table jobs = of_rows _ _ _ _ _ _ _ (length_changed hidden jobs) (told_changed hidden ended_job ended_job ended_hidden jobs)

ended_card_hidden : (jobs : List Job) → ended_card (map hidden jobs) ≡ ended_card jobs
unfolding ended_card
ended_card_hidden jobs = within _ _ _ _ (ended_table jobs)

-- ---- the page of an owner

-- with these jobs on it
abbrev owner_with : Owner → (waiting ended : List Job) → Owner
owner_with owner waiting ended = record owner { waiting = waiting; ended = ended }

-- it loads itself anew, or stays, by how many jobs wait
reloads_alike : (before account after : List ℕ) (stays : Bool) (n m : ℕ) → n ≡ m → (before ++ reload_if (not stays && not (n == 0)) account) ++ after ≡ (before ++ reload_if (not stays && not (m == 0)) account) ++ after
reloads_alike before account after stays n m so_many = ap (λ (n : ℕ). (before ++ reload_if (not stays && not (n == 0)) account) ++ after) so_many

module _ (owner : Owner) (waiting ended : List Job) where
  start_hidden : owner_start (owner_with owner (map hidden waiting) (map hidden ended)) ≡ owner_start (owner_with owner waiting ended)
  unfolding owner_start owner_document
  start_hidden = reloads_alike _ owner.account _ owner.stays _ _ (length_changed hidden waiting)

  content_hidden : content (owner_with owner (map hidden waiting) (map hidden ended)) ≡ content (owner_with owner waiting ended)
  unfolding content
  content_hidden = refl

  lists_hidden : lists (owner_with owner (map hidden waiting) (map hidden ended)) ≡ lists (owner_with owner waiting ended)
  unfolding lists
  lists_hidden =
      let first = waiting_hidden owner.account (terms_of owner) waiting in
      let last = ended_card_hidden ended in
      λ i. first i ++ (print_form owner.account owner.needs_password ++ (all_devices owner.devices ++ last i))

  end_hidden : owner_end (owner_with owner (map hidden waiting) (map hidden ended)) ≡ owner_end (owner_with owner waiting ended)
  unfolding owner_end
  end_hidden = refl

  pub owner_hidden : owner_page (owner_with owner (map hidden waiting) (map hidden ended)) ≡ owner_page (owner_with owner waiting ended)
  unfolding owner_page
  owner_hidden = λ i. start_hidden i ++ (content_hidden i ++ (lists_hidden i ++ end_hidden i))

-- ---- the page of the desk

desk_job_hidden : (account : List ℕ) (job : Job) → desk_job account (hidden job) ≡ desk_job account job
unfolding desk_job desk_cells
desk_job_hidden account job = ap (λ (phase : Phase). desk_cells phase job ++ desk_acts account phase job.job) (phase_hidden job)

jobs_table : (account : List ℕ) (jobs : List Job) → table_of_jobs account (map hidden jobs) ≡ table_of_jobs account jobs
jobs_table account jobs = of_rows _ _ _ _ _ _ _ (length_changed hidden jobs) (told_changed hidden (desk_job account) (desk_job account) (desk_job_hidden account) jobs)

jobs_hidden : (account : List ℕ) (jobs : List Job) → jobs_card account (map hidden jobs) ≡ jobs_card account jobs
unfolding jobs_card
jobs_hidden account jobs = within _ _ _ _ (jobs_table account jobs)

-- with these jobs on it
abbrev desk_with : DeskAccount → (waiting ended : List Job) → DeskAccount
desk_with shown waiting ended = record shown { waiting = waiting; ended = ended }

module _ (shown : DeskAccount) (waiting ended : List Job) where
  desk_content_hidden : desk_content (desk_with shown (map hidden waiting) (map hidden ended)) ≡ desk_content (desk_with shown waiting ended)
  unfolding desk_content
  desk_content_hidden = refl

  desk_lists_hidden : account_lists (desk_with shown (map hidden waiting) (map hidden ended)) ≡ account_lists (desk_with shown waiting ended)
  unfolding account_lists
  desk_lists_hidden =
      let first = jobs_hidden shown.account waiting in
      let last = ended_card_hidden ended in
      λ i. first i ++ (account_forms shown.account shown.month shown.grants ++ (grants_card shown.grants ++ last i))

  pub desk_hidden : desk_account_page (desk_with shown (map hidden waiting) (map hidden ended)) ≡ desk_account_page (desk_with shown waiting ended)
  unfolding desk_account_page
  desk_hidden = λ i. account_start shown.account ++ (desk_content_hidden i ++ (desk_lists_hidden i ++ account_end))

-- ---- a statement

then_hidden : (first last : ℕ) (job : Job) → job_if_then first last (hidden job) ≡ job_if_then first last job
then_hidden first last job = ap (λ (row : List ℕ). cond (is_then first last job.standing.ended) row []) (ended_hidden job)

behind_one : (b : ℕ) (x y after : List ℕ) → x ≡ y → b ∷ (x ++ after) ≡ b ∷ (y ++ after)
behind_one b x y after same = ap (λ (l : List ℕ). b ∷ (l ++ after)) same

-- all but the last of five
first_four : (a a2 b b2 c c2 d d2 rest : List ℕ) → a ≡ a2 → b ≡ b2 → c ≡ c2 → d ≡ d2 → a ++ (b ++ (c ++ (d ++ rest))) ≡ a2 ++ (b2 ++ (c2 ++ (d2 ++ rest)))
first_four a a2 b b2 c c2 d d2 rest one two three four = λ i. one i ++ (two i ++ (three i ++ (four i ++ rest)))

ending_hidden : (job : Job) → job_ending (hidden job) ≡ job_ending job
unfolding job_ending
ending_hidden job = behind_one _ (word (phase_of (hidden job))) (word (phase_of job)) _ (ap word (phase_hidden job))

line_hidden : (job : Job) → job_line (hidden job) ≡ job_line job
unfolding job_line
line_hidden job = rw (ending_hidden job) refl

line_then_hidden : (first last : ℕ) (job : Job) → job_line_if_then first last (hidden job) ≡ job_line_if_then first last job
line_then_hidden first last job = ap (λ (row : List ℕ). cond (is_then first last job.standing.ended) row []) (line_hidden job)

module _ (statement : Statement) (ended : List Job) where
  abbrev statement_of : List Job → Statement
  statement_of jobs = record statement { ended = jobs }

  before_hidden : (month : ℕ) → charged_before month (statement_of (map hidden ended)) ≡ charged_before month (statement_of ended)
  before_hidden month = ap (λ (n : ℕ). statement.charged - n) (fold-map (λ (n : ℕ) (job : Job). n + charged_since month job) hidden 0 ended)

  then_charged : charged_then (statement_of (map hidden ended)) ≡ charged_then (statement_of ended)
  then_charged = λ i. before_hidden (statement.last + 1) i - before_hidden statement.first i

  opening_hidden : signed_decimal (opening (statement_of (map hidden ended))) ≡ signed_decimal (opening (statement_of ended))
  opening_hidden = ap (λ (n : ℕ). signed_decimal (balance (granted_before statement.first statement) n)) (before_hidden statement.first)

  closing_hidden : signed_decimal (closing (statement_of (map hidden ended))) ≡ signed_decimal (closing (statement_of ended))
  closing_hidden = ap (λ (n : ℕ). signed_decimal (balance statement.granted n)) (before_hidden (statement.last + 1))

  statement_start_hidden : statement_start (statement_of (map hidden ended)) ≡ statement_start (statement_of ended)
  unfolding statement_start title links heading
  statement_start_hidden = refl

  statement_sums_hidden : sums (statement_of (map hidden ended)) ≡ sums (statement_of ended)
  unfolding sums
  statement_sums_hidden = λ i.
      html (sums_before (granted_before statement.first statement) (given_back statement) (before_hidden statement.first i) (opening_hidden i))
      ++ (html (sums_then (granted_then statement) (then_charged i) (closing_hidden i)) ++ reserved_now statement)

  statement_grants_hidden : statement_grants (statement_of (map hidden ended)) ≡ statement_grants (statement_of ended)
  unfolding statement_grants
  statement_grants_hidden = refl

  statement_jobs_hidden : statement_jobs (statement_of (map hidden ended)) ≡ statement_jobs (statement_of ended)
  unfolding statement_jobs
  statement_jobs_hidden =
      let rows = told_changed hidden (job_if_then statement.first statement.last) (job_if_then statement.first statement.last) (then_hidden statement.first statement.last) ended in
      λ i. html ended_columns ++ (rows i ++ html (jobs_end (then_charged i)))

  paper_hidden : statement_paper (statement_of (map hidden ended)) ≡ statement_paper (statement_of ended)
  unfolding statement_paper
  paper_hidden = first_four _ _ _ _ _ _ _ _ _ statement_start_hidden statement_sums_hidden statement_grants_hidden statement_jobs_hidden

  opening_row_hidden : opening_row (statement_of (map hidden ended)) ≡ opening_row (statement_of ended)
  opening_row_hidden = rw opening_hidden refl

  closing_row_hidden : closing_row (statement_of (map hidden ended)) ≡ closing_row (statement_of ended)
  closing_row_hidden = rw closing_hidden refl

  lines_then_hidden : flat_map (job_line_if_then statement.first statement.last) (map hidden ended) ≡ flat_map (job_line_if_then statement.first statement.last) ended
  lines_then_hidden = told_changed hidden (job_line_if_then statement.first statement.last) (job_line_if_then statement.first statement.last) (line_then_hidden statement.first statement.last) ended

  rows_hidden : statement_rows (statement_of (map hidden ended)) ≡ statement_rows (statement_of ended)
  unfolding statement_rows
  rows_hidden = rw (opening_row_hidden, lines_then_hidden, closing_row_hidden) refl

  in_form : (form : Form) → statement_in form (statement_of (map hidden ended)) ≡ statement_in form (statement_of ended)
  in_form Paper = paper_hidden
  in_form Csv = rows_hidden

  pub statement_hidden : statement_page (statement_of (map hidden ended)) ≡ statement_page (statement_of ended)
  statement_hidden = in_form statement.form
