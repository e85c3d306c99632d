-- What a reader of tags keeps of parts.
use Rattle.std.proofs.Common.{◌≡◌, ◌≤◌, ◌<◌, ◌+◌, ◌%◌, ◌^◌, ℕ, Bool, true, false, eqb, List, [], ◌∷◌, ◌++◌, take, drop, decimal, refl, inl, inr, sym, ap, ◌∙◌, arith, append_assoc}
use Rattle.std.proofs.lemmas.Bool.{cases_Bool, eqb-true}
use Rattle.std.proofs.lemmas.Fmt.{decimal_by_steps}
use Rattle.std.specs.Bool.{⊤}
use Rattle.std.specs.List.{AllByRecursion}
use Rattle.account_rules.specs.Limits.{last_job}
use Rattle.account_rules.specs.declared.job.Job.{Job}
use Rattle.page_pages.specs.Ended.{ended_job, ended_name}
use Rattle.page_markup.specs.Escaping.{escaped}
use Rattle.page_markup.specs.Laws.{IsMarkup}
use Rattle.page_markup.specs.Parts.{Part, Mark, Text, Number, Known, Moment, Ending, Month, MonthNumber, html, shown}
use Rattle.page_pages.specs.Tags.{NamesAreNoTags, kept, named, tags, inside_after}
use Rattle.page_pages.specs.Phases.{phase_of}
use Rattle.page_pages.specs.Waiting.{job_cells, job_name, job_row, name_words}
use Rattle.page_pages.specs.declared.offer.Terms.{Terms}
use Rattle.page_pages.specs.declared.phase.Phase.{Phase}
use Rattle.page_markup.proofs.Escapes.{clean_text}

-- ---- where a reader stands

abbrev after : (inside : Bool) → List ℕ → Bool
after inside [] = inside
after inside (byte ∷ more) = after (inside_after inside byte) more

after_append : (inside : Bool) (xs ys : List ℕ) → after inside (xs ++ ys) ≡ after (after inside xs) ys
after_append inside [] ys = refl
after_append inside (x ∷ xs) ys = after_append (inside_after inside x) xs ys

tags_append : (inside : Bool) (xs ys : List ℕ) → tags inside (xs ++ ys) ≡ tags inside xs ++ tags (after inside xs) ys
tags_append inside [] ys = refl
tags_append inside (x ∷ xs) ys = ap (λ (t : List ℕ). kept inside x ++ t) (tags_append (inside_after inside x) xs ys) ∙ sym (append_assoc (kept inside x) (tags (inside_after inside x) xs) (tags (after (inside_after inside x) xs) ys))

-- ---- texts

abbrev Clean : ℕ → Type 0
Clean byte = IsMarkup byte → ⊥

no_begin : (byte : ℕ) → Clean byte → eqb byte 60 ≡ false
no_begin byte clean =
    elim (cases_Bool (eqb byte 60)) [
      | inl is ↦ absurd (clean (inl (eqb-true byte 60 is)))
      | inr none ↦ none
    ]

no_end : (byte : ℕ) → Clean byte → eqb byte 62 ≡ false
no_end byte clean =
    elim (cases_Bool (eqb byte 62)) [
      | inl is ↦ absurd (clean (inr (inl (eqb-true byte 62 is))))
      | inr none ↦ none
    ]

stays : (inside : Bool) (byte : ℕ) → Clean byte → inside_after inside byte ≡ inside
stays true byte clean = rw (no_end byte clean) refl
stays false byte clean = no_begin byte clean

after_clean : (inside : Bool) (text : List ℕ) → AllByRecursion Clean text → after inside text ≡ inside
after_clean inside [] clean = refl
after_clean inside (byte ∷ text) clean = ap (λ (s : Bool). after s text) (stays inside byte clean.0) ∙ after_clean inside text clean.1

tags_clean : (text : List ℕ) → AllByRecursion Clean text → tags false text ≡ []
tags_clean [] clean = refl
tags_clean (byte ∷ text) clean = rw (no_begin byte clean.0) (tags_clean text clean.1)

-- ---- numbers

digit_clean : (digit : ℕ) → digit < 10 → Clean (48 + digit)
digit_clean digit low is = grind arith

clean_append : (xs ys : List ℕ) → AllByRecursion Clean xs → AllByRecursion Clean ys → AllByRecursion Clean (xs ++ ys)
clean_append [] ys first more = more
clean_append (x ∷ xs) ys first more = (first.0, clean_append xs ys first.1 more)

clean_decimal : (n : ℕ) → n < 2 ^ 64 → AllByRecursion Clean (decimal n)
clean_decimal n low =
    decimal_by_steps
    (λ _ digits. AllByRecursion Clean digits)
    (λ k small. (digit_clean k small, tt))
    (λ k digits big before. clean_append digits ((48 + k % 10) ∷ []) before (digit_clean (k % 10) (omega arith), tt))
    n
    low

-- ---- parts

-- parts that change nothing where a reader stands, but marks
abbrev IsQuiet : Part → Type 0
IsQuiet (Mark it) = ⊤
IsQuiet (Text it) = ⊤
IsQuiet (Number it) = it < 2 ^ 64
IsQuiet (Known it) = ⊥
IsQuiet (Moment at) = ⊥
IsQuiet (Ending at) = ⊥
IsQuiet (Month it) = ⊥
IsQuiet (MonthNumber it) = ⊥

abbrev past : (inside : Bool) → Part → Bool
past inside (Mark it) = after inside it
past inside (Text it) = inside
past inside (Number it) = inside
past inside (Known it) = inside
past inside (Moment at) = inside
past inside (Ending at) = inside
past inside (Month it) = inside
past inside (MonthNumber it) = inside

abbrev past_all : (inside : Bool) → List Part → Bool
past_all inside [] = inside
past_all inside (part ∷ parts) = past_all (past inside part) parts

after_part : (inside : Bool) (part : Part) → IsQuiet part → after inside (shown part) ≡ past inside part
after_part inside (Mark it) quiet = refl
after_part inside (Text it) quiet = after_clean inside (escaped it) (clean_text it)
after_part inside (Number it) quiet = after_clean inside (decimal it) (clean_decimal it quiet)
after_part inside (Known it) quiet = absurd quiet
after_part inside (Moment at) quiet = absurd quiet
after_part inside (Ending at) quiet = absurd quiet
after_part inside (Month it) quiet = absurd quiet
after_part inside (MonthNumber it) quiet = absurd quiet

after_html : (inside : Bool) (parts : List Part) → AllByRecursion IsQuiet parts → after inside (html parts) ≡ past_all inside parts
after_html inside [] quiet = refl
after_html inside (part ∷ parts) quiet =
    after_append inside (shown part) (html parts)
    ∙ (ap (λ (s : Bool). after s (html parts)) (after_part inside part quiet.0) ∙ after_html (past inside part) parts quiet.1)

html_append : (xs ys : List Part) → html (xs ++ ys) ≡ html xs ++ html ys
html_append [] ys = refl
html_append (x ∷ xs) ys = ap (λ (t : List ℕ). shown x ++ t) (html_append xs ys) ∙ sym (append_assoc (shown x) (html xs) (html ys))

-- a text that stands outside of tags is none
text_between : (front back : List Part) (text rest : List ℕ) → AllByRecursion IsQuiet front → past_all false front ≡ false
    → tags false (html (front ++ (Text text ∷ back)) ++ rest) ≡ tags false (html front) ++ tags false (html back ++ rest)
text_between front back text rest quiet outside =
    ap (λ (t : List ℕ). tags false (t ++ rest)) (html_append front (Text text ∷ back))
    ∙ (ap (tags false) (append_assoc (html front) (escaped text ++ html back) rest)
    ∙ (tags_append false (html front) ((escaped text ++ html back) ++ rest)
    ∙ (ap (λ (s : Bool). tags false (html front) ++ tags s ((escaped text ++ html back) ++ rest)) (after_html false front quiet ∙ outside)
    ∙ (ap (λ (t : List ℕ). tags false (html front) ++ tags false t) (append_assoc (escaped text) (html back) rest)
    ∙ ap (λ (t : List ℕ). tags false (html front) ++ t)
    (tags_append false (escaped text) (html back ++ rest)
    ∙ (ap (λ (t : List ℕ). t ++ tags (after false (escaped text)) (html back ++ rest)) (tags_clean (escaped text) (clean_text text))
    ∙ ap (λ (s : Bool). tags s (html back ++ rest)) (after_clean false (escaped text) (clean_text text))))))))

-- ---- rows

small : (n : ℕ) → n ≤ last_job → n < 2 ^ 64
small n low = omega arith

name_between : (number : ℕ) (name rest : List ℕ) → number ≤ last_job
    → tags false (html (job_name number name) ++ rest) ≡ tags false (html (take 7 (job_name number []))) ++ tags false (html (drop 8 (job_name number [])) ++ rest)
unfolding job_name
name_between number name rest low =
    text_between (take 7 (job_name number [])) (drop 8 (job_name number [])) name rest (tt, (tt, (tt, (small number low, (tt, (small number low, (tt, tt))))))) refl

cells_tags : (phase : Phase) (name rest : List ℕ) (terms : Terms) (job : Job) → job.job ≤ last_job
    → tags false (job_cells phase terms (named name job) ++ rest) ≡ tags false (job_cells phase terms (named [] job) ++ rest)
unfolding job_cells
cells_tags phase name rest terms job low =
    ap (tags false) (append_assoc (html (job_name job.job (name_words name))) _ rest)
    ∙ (name_between job.job (name_words name) _ low
    ∙ (sym (name_between job.job (name_words []) _ low) ∙ sym (ap (tags false) (append_assoc (html (job_name job.job (name_words []))) _ rest))))

row_tags : (account name rest : List ℕ) (terms : Terms) (job : Job) → job.job ≤ last_job
    → tags false (job_row account terms (named name job) ++ rest) ≡ tags false (job_row account terms (named [] job) ++ rest)
unfolding job_row
row_tags account name rest terms job low =
    ap (tags false) (append_assoc (job_cells (phase_of job) terms (named name job)) _ rest)
    ∙ (cells_tags (phase_of job) name _ terms job low
    ∙ sym (ap (tags false) (append_assoc (job_cells (phase_of job) terms (named [] job)) _ rest)))

ended_between : (number : ℕ) (name symbol state rest : List ℕ) → number ≤ last_job
    → tags false (html (ended_name number name symbol state) ++ rest) ≡ tags false (html (take 5 (ended_name number [] symbol state))) ++ tags false (html (drop 6 (ended_name number [] symbol state)) ++ rest)
unfolding ended_name
ended_between number name symbol state rest low =
    text_between (take 5 (ended_name number [] symbol state)) (drop 6 (ended_name number [] symbol state)) name rest (tt, (tt, (tt, (small number low, (tt, tt))))) refl

ended_tags : (name rest : List ℕ) (job : Job) → job.job ≤ last_job
    → tags false (ended_job (named name job) ++ rest) ≡ tags false (ended_job (named [] job) ++ rest)
unfolding ended_job
ended_tags name rest job low =
    ap (tags false) (append_assoc (html (ended_name job.job name _ _)) _ rest)
    ∙ (ended_between job.job name _ _ _ low
    ∙ (sym (ended_between job.job [] _ _ _ low) ∙ sym (ap (tags false) (append_assoc (html (ended_name job.job [] _ _)) _ rest))))

pub names_are_no_tags : NamesAreNoTags
names_are_no_tags = record {
  of_waiting = λ account name other rest terms job low. row_tags account name rest terms job low ∙ sym (row_tags account other rest terms job low);
  of_ended = λ name other rest job low. ended_tags name rest job low ∙ sym (ended_tags other rest job low);
}
