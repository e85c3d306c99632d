-- Rule: What came of an act, as the query of the owner's page tells it: `done=ACT&job=NUMBER`,
-- `refused=ACT&job=NUMBER&why=WORD` or `failed` (all this project's own).
use Rattle.std.specs.Prelude.{ℕ, List, ◌++◌, length, drop, map, decimal, Option, Some, None, codes, bytes_eq, if◌then◌else◌, option_and_then, option_map}
use Rattle.page_pages.specs.declared.outcome.Act.{Act}
use Rattle.page_pages.specs.declared.outcome.Act.TheVariants.{Release, Hold, Cancel, Print}
use Rattle.page_pages.specs.declared.outcome.Outcome.{Outcome}
use Rattle.page_pages.specs.declared.outcome.Outcome.TheVariants.{Done, Refused, Failed}
use Rattle.account_replies.specs.Words.{word_text}
use Rattle.input_http.specs.Words.{before}
use Rattle.account_rules.specs.QueuePaths.{behind}
use Rattle.account_rules.specs.declared.refusal.Word.{Word}
use Rattle.serve_web.specs.Numbers.{number_said}
use Rattle.serve_web.specs.Parts.{replaced}
use Rattle.serve_web.specs.Words.{word_in}

-- ---- as it is written

abbrev pub act_name : Act → List ℕ
act_name Release = codes "release"
act_name Hold = codes "hold"
act_name Cancel = codes "cancel"
act_name Print = codes "print"

abbrev pub act_and_job : (act : Act) (job : ℕ) → List ℕ
act_and_job act job = act_name act ++ (codes "&job=" ++ decimal job)

abbrev pub done_text : (act : Act) (job : ℕ) → List ℕ
done_text act job = codes "done=" ++ act_and_job act job

-- a "+" stands for a space
abbrev pub why_text : Word → List ℕ
why_text word = map (replaced 32 43) (word_text word)

abbrev pub refused_text : (act : Act) (job : ℕ) (word : Word) → List ℕ
refused_text act job word =
    codes "refused=" ++ (act_and_job act job ++ (codes "&why=" ++ why_text word))

abbrev pub outcome_text : Outcome → List ℕ
outcome_text (Done act job) = done_text act job
outcome_text (Refused act job word) = refused_text act job word
outcome_text Failed = codes "failed"

-- ---- as it is read

abbrev pub act_named : (name : List ℕ) → Option Act
act_named name =
    if bytes_eq name (codes "release") then Some Release
    else if bytes_eq name (codes "hold") then Some Hold
    else if bytes_eq name (codes "cancel") then Some Cancel
    else if bytes_eq name (codes "print") then Some Print
    else None

abbrev pub done_of : (job : Option ℕ) (act : Act) → Option Outcome
done_of job act = option_map (λ number. Done act number) job

abbrev pub done_in : (rest : List ℕ) → Option Outcome
done_in rest =
    let name = before 38 rest in
    let job = option_and_then number_said (behind (codes "&job=") (drop (length name) rest)) in
    option_and_then (done_of job) (act_named name)

abbrev pub refused_of : (word : Option Word) (act : Act) (job : ℕ) → Option Outcome
refused_of word act job = option_map (λ why. Refused act job why) word

abbrev pub refused_behind : (rest : List ℕ) (act : Act) → Option Outcome
refused_behind rest act =
    let digits = before 38 rest in
    let word = option_and_then word_in (behind (codes "&why=") (drop (length digits) rest)) in
    option_and_then (refused_of word act) (number_said digits)

abbrev pub refused_with : (rest : Option (List ℕ)) (act : Act) → Option Outcome
refused_with rest act = option_and_then (λ more. refused_behind more act) rest

abbrev pub refused_in : (rest : List ℕ) → Option Outcome
refused_in rest =
    let name = before 38 rest in
    option_and_then (refused_with (behind (codes "&job=") (drop (length name) rest)))
    (act_named name)

abbrev pub done_or_refused : (rest : Option (List ℕ)) (query : List ℕ) → Option Outcome
done_or_refused (Some rest) query = done_in rest
done_or_refused None query = option_and_then refused_in (behind (codes "refused=") query)

-- any other query tells nothing
abbrev pub came_in : (query : List ℕ) → Option Outcome
came_in query =
    if bytes_eq query (codes "failed") then Some Failed
    else done_or_refused (behind (codes "done=") query) query
