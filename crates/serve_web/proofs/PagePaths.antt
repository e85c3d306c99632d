-- Which path of a browser leads where.
use Rattle.std.proofs.Common.{◌≡◌, ◌⊎◌, inl, inr, ℕ, ◌&&◌, Bool, true, false, cond, nat_le, nat_lt, length, drop, List, ◌++◌, append-nil, codes, Option, Some, None, IfOk, Err, option_and_then, option_map, bytes_eq, refl, sym, ap, subst, ◌∙◌}
use Rattle.std.specs.Char.{is_ascii_digit}
use Rattle.std.specs.List.{list_all}
use Rattle.std.specs.Str.Parse.{digits_value}
use Rattle.std.proofs.lemmas.Bool.{and_from, and_parts, cond-true, cond-false, false≢true, false_from_ne_true, le-leb, leb-true, lt-ltb, ltb-true}
use Rattle.std.proofs.lemmas.List.{drop_at}
use Rattle.std.proofs.lemmas.Option.{cond_some, none-some, option_and_then_some, same_Some}
use Rattle.std.proofs.lemmas.Slice.Eq.{bytes_eq-Decides}
use Rattle.http.specs.Request.{body_of, head_of}
use Rattle.http.specs.declared.request.Request.{Request}
use Rattle.http_uri.specs.Uri.{uri_path}
use Rattle.account_rules.specs.Names.{is_name}
use Rattle.account_rules.specs.QueuePaths.{behind}
use Rattle.input_http.specs.Origins.{is_foreign}
use Rattle.input_http.specs.Words.{before}
use Rattle.page_pages.specs.declared.refusal.Refusal.{Refusal}
use Rattle.page_pages.specs.declared.refusal.Refusal.TheVariants.{Forbidden}
use Rattle.room_serve.specs.Paths.{IsDigit, IsName}
use Rattle.room_serve.proofs.Paths.{Begins, all_again, all_are, before_begun, before_past, behind_again, behind_is, from, name_again, name_free, name_is, no_slash, whole, within, within_again}
use Rattle.serve_web.specs.Queries.{act_in, behind_value, copies_in, counts_asked, months_in, owner_asked, pages_in, print_of, room_asked, room_of, statement_asked}
use Rattle.serve_web.specs.Requests.{asked_at, asked_if, body_refusal, foreign_or, judged, judged_if, other_method, query_of, takes, unless, wish}
use Rattle.serve_web.specs.declared.asked.Asked.{Asked}
use Rattle.serve_web.specs.declared.asked.Asked.TheVariants as asked_is
use Rattle.serve_web.specs.Numbers.{is_number, number_said}
use Rattle.serve_web.specs.Places.{job_in, place_behind, place_in, place_of}
use Rattle.page_pages.specs.declared.statement.Form.{Form}
use Rattle.page_pages.specs.declared.statement.Form.TheVariants.{Paper, Csv}
use Rattle.serve_web.specs.declared.asked.Months.{Months}
use Rattle.serve_web.specs.declared.place.Place.{Place}
use Rattle.serve_web.specs.declared.place.Place.TheVariants.{Room, Style, Script, Owner, Statement, Table, Print, Job}
use Rattle.serve_web.specs.PagePaths.{AsksByItsPath, IsOf, LeadsTo, PathsAreSpelled, PathsLead, SaysJob, place_for}

-- ---- options

first_or : {X : Type 0} (test : Bool) (first x : X) (others : Option X) → cond test (Some first) others ≡ Some x → ((test ≡ true) × (first ≡ x)) ⊎ (others ≡ Some x)
first_or true first x others said = inl (refl, same_Some first x said)
first_or false first x others said = inr said

mapped : {A B P : Type 0} (f : A → B) (o : Option A) (y : B) → option_map f o ≡ Some y → ((x : A) → o ≡ Some x → f x ≡ y → P) → P
mapped f None y said use_it = absurd (none-some y said)
mapped f (Some x) y said use_it = use_it x refl (same_Some (f x) y said)

-- ---- from the path to where it leads

job_is : (digits : List ℕ) (job : ℕ) → number_said digits ≡ Some job → SaysJob digits job
job_is digits job said =
    let it = cond_some (is_number 8 digits) (digits_value 10 digits) job said in
    let both = and_parts (nat_lt 0 (length digits)) (nat_le (length digits) 8 && list_all is_ascii_digit digits) it.0 in
    let rest = and_parts (nat_le (length digits) 8) (list_all is_ascii_digit digits) both.1 in
    record {
      least = ltb-true 0 (length digits) both.0;
      most = leb-true (length digits) 8 rest.0;
      are_digits = all_are IsDigit is_ascii_digit (within 48 57) digits rest.1;
      says = it.1;
    }

abbrev print_or : (account part : List ℕ) → Option Place
print_or account part = cond (bytes_eq part (codes "/print")) (Some (Print account)) (option_and_then (job_in account) (behind (codes "/") part))

abbrev table_or : (account part : List ℕ) → Option Place
table_or account part = cond (bytes_eq part (codes "/statement.csv")) (Some (Table account)) (print_or account part)

in_leads : (path account part : List ℕ) (place : Place) → IsName account → path ≡ codes "/" ++ (account ++ part) → place_in account part ≡ Some place → LeadsTo path place
in_leads path account part place name is said = owner (first_or (bytes_eq part (codes "")) (Owner account) place _ said)
  where
    with_part : (known : List ℕ) → part ≡ known → IsOf account known path
    with_part known same = record { account_is = name; is = is ∙ ap (λ (l : List ℕ). codes "/" ++ (account ++ l)) same }

    by_bytes : (known : List ℕ) → bytes_eq part known ≡ true → IsOf account known path
    by_bytes known same = with_part known ((bytes_eq-Decides part known).0 same)

    job : option_and_then (job_in account) (behind (codes "/") part) ≡ Some place → LeadsTo path place
    job told = option_and_then_some (job_in account) (behind (codes "/") part) place told (λ digits found counted.
        mapped (λ (n : ℕ). Job account n) (number_said digits) place counted (λ n number same.
        subst (LeadsTo path) same (digits, job_is digits n number, with_part (codes "/" ++ digits) (behind_is (codes "/") part digits found))))

    print : ((bytes_eq part (codes "/print") ≡ true) × (Print account ≡ place)) ⊎ (option_and_then (job_in account) (behind (codes "/") part) ≡ Some place) → LeadsTo path place
    print (inl same) = subst (LeadsTo path) same.1 (by_bytes (codes "/print") same.0)
    print (inr told) = job told

    table : ((bytes_eq part (codes "/statement.csv") ≡ true) × (Table account ≡ place)) ⊎ (print_or account part ≡ Some place) → LeadsTo path place
    table (inl same) = subst (LeadsTo path) same.1 (by_bytes (codes "/statement.csv") same.0)
    table (inr told) = print (first_or (bytes_eq part (codes "/print")) (Print account) place _ told)

    statement : ((bytes_eq part (codes "/statement") ≡ true) × (Statement account ≡ place)) ⊎ (table_or account part ≡ Some place) → LeadsTo path place
    statement (inl same) = subst (LeadsTo path) same.1 (by_bytes (codes "/statement") same.0)
    statement (inr told) = table (first_or (bytes_eq part (codes "/statement.csv")) (Table account) place _ told)

    owner : ((bytes_eq part (codes "") ≡ true) × (Owner account ≡ place)) ⊎ (cond (bytes_eq part (codes "/statement")) (Some (Statement account)) (table_or account part) ≡ Some place) → LeadsTo path place
    owner (inl same) = subst (LeadsTo path) same.1 (by_bytes (codes "") same.0)
    owner (inr told) = statement (first_or (bytes_eq part (codes "/statement")) (Statement account) place _ told)

behind_leads : (path rest : List ℕ) (place : Place) → path ≡ codes "/" ++ rest → place_behind rest ≡ Some place → LeadsTo path place
behind_leads path rest place is said = by (is_name (before 47 rest)) refl said
  where
    by : (named : Bool) → is_name (before 47 rest) ≡ named → cond named (place_in (before 47 rest) (from 47 rest)) None ≡ Some place → LeadsTo path place
    by true name told = in_leads path (before 47 rest) (from 47 rest) place (name_is (before 47 rest) name) (is ∙ ap (λ (l : List ℕ). codes "/" ++ l) (sym (whole 47 rest))) told
    by false name told = absurd (none-some place told)

abbrev of_account : (path : List ℕ) → Option Place
of_account path = option_and_then place_behind (behind (codes "/") path)

pub paths_are_spelled : PathsAreSpelled
paths_are_spelled path place said = room (first_or (bytes_eq path (codes "/")) Room place _ said)
  where
    account : of_account path ≡ Some place → LeadsTo path place
    account told = option_and_then_some place_behind (behind (codes "/") path) place told (λ rest found is. behind_leads path rest place (behind_is (codes "/") path rest found) is)

    script : ((bytes_eq path (codes "/page.js") ≡ true) × (Script ≡ place)) ⊎ (of_account path ≡ Some place) → LeadsTo path place
    script (inl same) = subst (LeadsTo path) same.1 ((bytes_eq-Decides path (codes "/page.js")).0 same.0)
    script (inr told) = account told

    style : ((bytes_eq path (codes "/style.css") ≡ true) × (Style ≡ place)) ⊎ (cond (bytes_eq path (codes "/page.js")) (Some Script) (of_account path) ≡ Some place) → LeadsTo path place
    style (inl same) = subst (LeadsTo path) same.1 ((bytes_eq-Decides path (codes "/style.css")).0 same.0)
    style (inr told) = script (first_or (bytes_eq path (codes "/page.js")) Script place _ told)

    room : ((bytes_eq path (codes "/") ≡ true) × (Room ≡ place)) ⊎ (cond (bytes_eq path (codes "/style.css")) (Some Style) (cond (bytes_eq path (codes "/page.js")) (Some Script) (of_account path)) ≡ Some place) → LeadsTo path place
    room (inl same) = subst (LeadsTo path) same.1 ((bytes_eq-Decides path (codes "/")).0 same.0)
    room (inr told) = style (first_or (bytes_eq path (codes "/style.css")) Style place _ told)

-- ---- from where it leads to the path

account_before : (account part : List ℕ) → IsName account → Begins 47 part → before 47 (account ++ part) ≡ account
account_before account part name begins =
    before_past 47 account part (name_free 47 no_slash account name)
    ∙ ap (λ (l : List ℕ). account ++ l) (before_begun 47 part begins)
    ∙ append-nil account

-- no path of an account is one of these
is_other : (account part other : List ℕ) → IsName account → Begins 47 part → is_name (before 47 other) ≡ false → bytes_eq (codes "/" ++ (account ++ part)) (codes "/" ++ other) ≡ false
is_other account part other name begins no_name = false_from_ne_true _ (λ same.
    let is = ap (λ (l : List ℕ). is_name (before 47 (drop 1 l))) ((bytes_eq-Decides (codes "/" ++ (account ++ part)) (codes "/" ++ other)).0 same) in
    false≢true (sym no_name ∙ sym is ∙ ap is_name (account_before account part name begins) ∙ name_again account name))

behind_again_in : (account part : List ℕ) → IsName account → Begins 47 part → place_behind (account ++ part) ≡ place_in account part
behind_again_in account part name begins =
    ap (λ (l : List ℕ). cond (is_name l) (place_in l (drop (length l) (account ++ part))) None) (account_before account part name begins)
    ∙ cond-true (is_name account) (place_in account (drop (length account) (account ++ part))) None (name_again account name)
    ∙ ap (place_in account) (drop_at account part (length account) refl)

of_account_again : (account part : List ℕ) → IsName account → Begins 47 part → place_of (codes "/" ++ (account ++ part)) ≡ place_in account part
of_account_again account part name begins =
    cond-false _ _ _ (is_other account part (codes "") name begins refl)
    ∙ cond-false _ _ _ (is_other account part (codes "style.css") name begins refl)
    ∙ cond-false _ _ _ (is_other account part (codes "page.js") name begins refl)
    ∙ ap (option_and_then place_behind) (behind_again (codes "/") (account ++ part))
    ∙ behind_again_in account part name begins

path_again : (account part path : List ℕ) (place : Place) → IsOf account part path → Begins 47 part → place_in account part ≡ Some place → place_of path ≡ Some place
path_again account part path place of begins is = ap place_of of.is ∙ of_account_again account part of.account_is begins ∙ is

digits_pass : (digits : List ℕ) (job : ℕ) → SaysJob digits job → list_all is_ascii_digit digits ≡ true
digits_pass digits job is = all_again IsDigit is_ascii_digit (within_again 48 57) digits is.are_digits

-- no number is one of these words
is_no_word : (digits word : List ℕ) → list_all is_ascii_digit digits ≡ true → list_all is_ascii_digit word ≡ false → bytes_eq (codes "/" ++ digits) (codes "/" ++ word) ≡ false
is_no_word digits word pass fails = false_from_ne_true _ (λ same.
    let is = ap (λ (l : List ℕ). list_all is_ascii_digit (drop 1 l)) ((bytes_eq-Decides (codes "/" ++ digits) (codes "/" ++ word)).0 same) in
    false≢true (sym fails ∙ sym is ∙ pass))

number_again : (digits : List ℕ) (job : ℕ) → SaysJob digits job → number_said digits ≡ Some job
number_again digits job is =
    cond-true (is_number 8 digits) (Some (digits_value 10 digits)) None
    (and_from (nat_lt 0 (length digits)) (nat_le (length digits) 8 && list_all is_ascii_digit digits) (lt-ltb 0 (length digits) is.least)
    (and_from (nat_le (length digits) 8) (list_all is_ascii_digit digits) (le-leb (length digits) 8 is.most) (digits_pass digits job is)))
    ∙ ap (λ (n : ℕ). Some n) is.says

job_again : (account digits : List ℕ) (job : ℕ) → SaysJob digits job → place_in account (codes "/" ++ digits) ≡ Some (Job account job)
job_again account digits job is =
    cond-false _ _ _ (is_no_word digits (codes "statement") (digits_pass digits job is) refl)
    ∙ cond-false _ _ _ (is_no_word digits (codes "statement.csv") (digits_pass digits job is) refl)
    ∙ cond-false _ _ _ (is_no_word digits (codes "print") (digits_pass digits job is) refl)
    ∙ ap (option_and_then (job_in account)) (behind_again (codes "/") digits)
    ∙ ap (option_map (λ (n : ℕ). Job account n)) (number_again digits job is)

pub paths_lead : PathsLead
paths_lead path Room is = ap place_of is
paths_lead path Style is = ap place_of is
paths_lead path Script is = ap place_of is
paths_lead path (Owner account) is = path_again account (codes "") path (Owner account) is tt refl
paths_lead path (Statement account) is = path_again account (codes "/statement") path (Statement account) is refl refl
paths_lead path (Table account) is = path_again account (codes "/statement.csv") path (Table account) is refl refl
paths_lead path (Print account) is = path_again account (codes "/print") path (Print account) is refl refl
paths_lead path (Job account job) is = path_again account (codes "/" ++ is.0) path (Job account job) is.2 refl (job_again account is.0 job is.1)

-- ---- what is asked there

room_is : (rest : Option (List ℕ)) → place_for (room_of rest) ≡ Room
room_is None = refl
room_is (Some rest) = refl

print_is : (account rest : List ℕ) (it : Asked) → counts_asked account rest ≡ Some it → place_for it ≡ Print account
print_is account rest it said =
    let pages = option_and_then pages_in (behind_value (codes "&pages=") rest) in
    option_and_then_some (print_of account pages) (copies_in (before 38 rest)) it said (λ copies found is.
    mapped (λ (count : Option ℕ). asked_is.Print account copies count) pages it is (λ count counted same. ap place_for (sym same)))

abbrev statement_place : (account : List ℕ) → Form → Place
statement_place account Paper = Statement account
statement_place account Csv = Table account

of_form : (account : List ℕ) (form : Form) (months : Option Months) → place_for (asked_is.Statement account form months) ≡ statement_place account form
of_form account Paper months = refl
of_form account Csv months = refl

statement_is : (account : List ℕ) (form : Form) (query : List ℕ) (it : Asked) → statement_asked account form query ≡ Some it → place_for it ≡ statement_place account form
statement_is account form query it said = by (first_or (bytes_eq query (codes "")) (asked_is.Statement account form None) it _ said)
  where
    by : ((bytes_eq query (codes "") ≡ true) × (asked_is.Statement account form None ≡ it)) ⊎ (option_map (λ (months : Months). asked_is.Statement account form (Some months)) (months_in query) ≡ Some it) → place_for it ≡ statement_place account form
    by (inl same) = ap place_for (sym same.1) ∙ of_form account form None
    by (inr told) = mapped (λ (months : Months). asked_is.Statement account form (Some months)) (months_in query) it told (λ months found same. ap place_for (sym same) ∙ of_form account form (Some months))

wished : (request : Request (List ℕ)) (place : Place) (it : Asked) → wish request place ≡ Some it → place_for it ≡ place
wished request Room it said = ap place_for (sym (same_Some (room_asked (query_of request)) it said)) ∙ room_is (behind (codes "front=") (query_of request))
wished request Style it said = ap place_for (sym (same_Some asked_is.Style it said))
wished request Script it said = ap place_for (sym (same_Some asked_is.Script it said))
wished request (Owner account) it said = ap place_for (sym (same_Some (owner_asked account (query_of request)) it said))
wished request (Statement account) it said = statement_is account Paper (query_of request) it said
wished request (Table account) it said = statement_is account Csv (query_of request) it said
wished request (Print account) it said =
    option_and_then_some (counts_asked account) (option_and_then (behind_value (codes "&copies=")) (behind (codes "name=") (query_of request))) it said (λ rest found is. print_is account rest it is)
wished request (Job account job) it said =
    mapped (λ act. asked_is.Act account act job) (act_in (body_of request)) it said (λ act found same. ap place_for (sym same))

judged_keeps : (request : Request (List ℕ)) (one : Asked) (P : Asked → Type 0) → P one → IfOk (judged request one) P
judged_keeps request one P holds = by (is_foreign request) (body_refusal request one)
  where
    by : (foreign : Bool) (refusal : Option Refusal) → IfOk (cond foreign (Err Forbidden) (unless refusal one)) P
    by true refusal = tt
    by false None = holds
    by false (Some refusal) = tt

at_place : (request : Request (List ℕ)) (place : Place) (path : List ℕ) → LeadsTo path place → IfOk (asked_at request place) (λ it. LeadsTo path (place_for it))
at_place request place path leads = by (takes place (head_of request).method) (wish request place) refl
  where
    by : (taken : Bool) (wanted : Option Asked) → wish request place ≡ wanted → IfOk (cond taken (judged_if request wanted) (Err (foreign_or request (other_method place)))) (λ it. LeadsTo path (place_for it))
    by false wanted is = tt
    by true None is = tt
    by true (Some one) is = judged_keeps request one (λ it. LeadsTo path (place_for it)) (subst (LeadsTo path) (sym (wished request place one is)) leads)

pub asks_by_its_path : AsksByItsPath
asks_by_its_path request = by (place_of path) refl
  where
    path : List ℕ
    path = uri_path (head_of request).uri

    by : (place : Option Place) → place_of path ≡ place → IfOk (asked_if request place) (λ it. LeadsTo path (place_for it))
    by None is = tt
    by (Some place) is = at_place request place path (paths_are_spelled path place is)
