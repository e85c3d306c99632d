-- What is picked of a list by a flag for each.
use Rattle.std.proofs.Common.{append-nil, ◌≡◌, ◌<◌, ◌+◌, ℕ, zero, suc, Bool, true, false, cond, List, [], ◌∷◌, ◌++◌, length, map, filter, take, get_or, Option, refl, sym, ap, ◌∙◌, append_assoc, arith}
use Rattle.std.specs.List.{flat_map}
use Rattle.std.proofs.lemmas.Grind.{flat_map-append}
use Rattle.ipp_coding.specs.Spelling.{attribute_spelling, group_spelling}
use Rattle.account_rules.specs.declared.job.Job.{Job}
use Rattle.account_replies.specs.declared.job.JobAttribute.{JobAttribute}
use Rattle.account_replies.specs.JobAttributes.{job_attributes, job_group}
use Rattle.account_replies.specs.ProofJobPlaces.{job_row, selected_group, wanted_rows, picked_text}
use Rattle.account_replies.specs.Places.{PlainPlace}
use Rattle.account_replies.specs.Tables.{ShownRow, is_wanted, row_attribute}
use Rattle.account_replies.specs.ProofRowTexts.{picked, text_where}

-- flags that a test gives pick what passes it
picked_passing : {A : Type 0} (test : A → Bool) (xs : List A) → picked (map test xs) xs ≡ filter test xs
picked_passing test [] = refl
picked_passing {A} test (x ∷ xs) =
    elim (test x) as (λ b. cond b (x ∷ picked (map test xs) xs) (picked (map test xs) xs) ≡ cond b (x ∷ filter test xs) (filter test xs))
    [ true ↦ ap (λ (rest : List A). x ∷ rest) (picked_passing test xs) | false ↦ picked_passing test xs ]

pub selected_as_wanted : (at : PlainPlace) (job : Job) (flags : List Bool) (wanted : Option (List (List ℕ))) → flags ≡ wanted_rows wanted → selected_group at job flags ≡ job_group at job wanted
selected_as_wanted at job flags wanted are =
    ap (λ fs. selected_group at job fs) are
    ∙ ap (λ (rows : List (ShownRow Job)). record { tag = 0x02; attributes = map (row_attribute at job) rows }) (picked_passing (λ (row : ShownRow Job). is_wanted wanted row.name row.group) job_attributes)

-- one more flag, and what it is for
before_rest : {A : Type 0} (flag : Bool) (x : A) (rest : List A) → cond flag (x ∷ rest) rest ≡ cond flag (x ∷ []) [] ++ rest
before_rest true x rest = refl
before_rest false x rest = refl

one_more_picked : {A : Type 0} (flags : List Bool) (xs : List A) (i : ℕ) (df : Bool) (dx : A) → i < length flags → i < length xs →
    picked (take (suc i) flags) (take (suc i) xs) ≡ picked (take i flags) (take i xs) ++ cond (get_or flags i df) (get_or xs i dx ∷ []) []
one_more_picked [] xs i df dx f x = absurd (omega arith)
one_more_picked (flag ∷ flags) [] i df dx f x = absurd (omega arith)
one_more_picked (flag ∷ flags) (x ∷ xs) zero df dx fl xl = elim flag as (λ b. cond b (x ∷ []) [] ≡ [] ++ cond b (x ∷ []) []) [ true ↦ refl | false ↦ refl ]
one_more_picked {A} (flag ∷ flags) (x ∷ xs) (suc i) df dx fl xl =
    let rest = one_more_picked flags xs i df dx (omega arith) (omega arith) in
    before_rest flag x (picked (take (suc i) flags) (take (suc i) xs))
    ∙ ap (λ (r : List A). cond flag (x ∷ []) [] ++ r) rest
    ∙ sym (append_assoc (cond flag (x ∷ []) []) (picked (take i flags) (take i xs)) (cond (get_or flags i df) (get_or xs i dx ∷ []) []))
    ∙ ap (λ (front : List A). front ++ cond (get_or flags i df) (get_or xs i dx ∷ []) []) (sym (before_rest flag x (picked (take i flags) (take i xs))))

one_text : (at : PlainPlace) (job : Job) (flag : Bool) (a : JobAttribute) → flat_map (λ (b : JobAttribute). attribute_spelling (row_attribute at job (job_row b))) (cond flag (a ∷ []) []) ≡ text_where flag at job (job_row a)
one_text at job true a = append-nil (attribute_spelling (row_attribute at job (job_row a)))
one_text at job false a = refl

pub one_more_put : (at : PlainPlace) (job : Job) (flags : List Bool) (attributes : List JobAttribute) (i : ℕ) (df : Bool) (da : JobAttribute) (old mid new : List ℕ) → i < length flags → i < length attributes →
    mid ≡ old ++ picked_text at job (take i flags) (take i attributes) → new ≡ mid ++ text_where (get_or flags i df) at job (job_row (get_or attributes i da)) →
    new ≡ old ++ picked_text at job (take (i + 1) flags) (take (i + 1) attributes)
one_more_put at job flags attributes i df da old mid new inside below so_far put =
    let text = λ (a : JobAttribute). attribute_spelling (row_attribute at job (job_row a)) in
    let before = picked (take i flags) (take i attributes) in
    let next = text_where (get_or flags i df) at job (job_row (get_or attributes i da)) in
    let one_on : i + 1 ≡ suc i = omega arith in
    let step : picked_text at job (take (i + 1) flags) (take (i + 1) attributes) ≡ flat_map text before ++ next =
    ap (λ n. picked_text at job (take n flags) (take n attributes)) one_on
    ∙ ap (flat_map text) (one_more_picked flags attributes i df da inside below)
    ∙ flat_map-append text before (cond (get_or flags i df) (get_or attributes i da ∷ []) [])
    ∙ ap (λ (t : List ℕ). flat_map text before ++ t) (one_text at job (get_or flags i df) (get_or attributes i da)) in
    put ∙ ap (λ (t : List ℕ). t ++ next) so_far ∙ append_assoc old (flat_map text before) next ∙ ap (λ (t : List ℕ). old ++ t) (sym step)

-- the attributes of the program are the rows of the table
same_text : (at : PlainPlace) (job : Job) (flags : List Bool) (attributes : List JobAttribute) → picked_text at job flags attributes ≡ flat_map attribute_spelling (map (row_attribute at job) (picked flags (map job_row attributes)))
same_text at job [] attributes = refl
same_text at job (flag ∷ flags) [] = refl
same_text at job (flag ∷ flags) (a ∷ attributes) =
    let rest = same_text at job flags attributes in
    elim flag as (λ b.
    flat_map (λ (o : JobAttribute). attribute_spelling (row_attribute at job (job_row o))) (cond b (a ∷ picked flags attributes) (picked flags attributes))
    ≡ flat_map attribute_spelling (map (row_attribute at job) (cond b (job_row a ∷ picked flags (map job_row attributes)) (picked flags (map job_row attributes)))))
    [ true ↦ ap (λ (t : List ℕ). attribute_spelling (row_attribute at job (job_row a)) ++ t) rest | false ↦ rest ]

-- the group's tag, then what is picked
pub group_picked : (at : PlainPlace) (job : Job) (flags selected : List Bool) (attributes : List JobAttribute) (old tagged new : List ℕ) → map job_row attributes ≡ job_attributes → flags ≡ selected →
    tagged ≡ old ++ 2 ∷ [] → new ≡ tagged ++ picked_text at job flags attributes → new ≡ old ++ group_spelling (selected_group at job selected)
group_picked at job flags selected attributes old tagged new rows are begun appended =
    appended ∙ ap (λ (t : List ℕ). t ++ picked_text at job flags attributes) begun
    ∙ append_assoc old (2 ∷ []) (picked_text at job flags attributes)
    ∙ ap (λ (t : List ℕ). old ++ 2 ∷ t) (ap (λ (fs : List Bool). picked_text at job fs attributes) are ∙ same_text at job selected attributes
    ∙ ap (λ (rs : List (ShownRow Job)). flat_map attribute_spelling (map (row_attribute at job) (picked selected rs))) rows)
