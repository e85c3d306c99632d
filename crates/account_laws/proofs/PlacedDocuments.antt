-- The documents of one job in a map of documents, as one more comes.
use Rattle.std.proofs.Common.{◌≡◌, ◌≢◌, ℕ, zero, suc, ◌+◌, ◌<◌, ◌≤◌, true, false, cond, ◌==◌, ◌&&◌, List, [], ◌∷◌, ◌++◌, Option, Some, None, refl, sym, ap, ◌∙◌, inl, inr, arith, append_assoc, append-nil}
use Rattle.std.specs.List.{flat_map}
use Rattle.std.specs.Option.{option_to_list}
use Rattle.std.specs.FinMap.{FinMap, get, insert, get-insert}
use Rattle.std.proofs.lemmas.Bool.{cases_lt}
use Rattle.std.proofs.lemmas.Bool.Decides.{nat_tests}
use Rattle.account_rules.specs.declared.job.Document.{Document}
use Rattle.account_state.specs.Changes.{with_document}
use Rattle.account_state.specs.Documents.{document_numbers}
use Rattle.account_state.specs.Rooms.{place_cmp}
use Rattle.account_state.proofs.DocumentMaps.{place_cmp_total, pair_tie}

-- ---- what is found at numbers that count up

-- so many numbers from one on
abbrev pub counted : (from many : ℕ) → List ℕ
counted from zero = []
counted from (suc many) = from ∷ counted (from + 1) many

-- what there is at the numbers of a list
abbrev pub found : {X : Type 0} → (ℕ → Option X) → List ℕ → List X
found at = flat_map (λ number. option_to_list (at number))

-- where none is from some number on, none is found from there
pub none_found : {X : Type 0} (at : ℕ → Option X) (from many : ℕ) → ((k : ℕ) → from ≤ k → at k ≡ None) → found at (counted from many) ≡ []
none_found at from zero none = refl
none_found at from (suc many) none =
    ap (λ o. option_to_list o ++ found at (counted (from + 1) many)) (none from (omega arith)) ∙ none_found at (from + 1) many (λ k above. none k (omega arith))

-- one more after all that were there is found last
one_more_found : {X : Type 0} (before after : ℕ → Option X) (last : ℕ) (x : X) → after last ≡ Some x → ((k : ℕ) → k ≢ last → after k ≡ before k) → ((k : ℕ) → last ≤ k → before k ≡ None) →
    (from many : ℕ) → from ≤ last → last < from + many → found after (counted from many) ≡ found before (counted from many) ++ x ∷ []
one_more_found before after last x here others none from zero low high = absurd (omega arith)
one_more_found before after last x here others none from (suc many) low high =
    elim (cases_lt from last) [
      | inl less ↦
          ap (λ o. option_to_list o ++ found after (counted (from + 1) many)) (others from (omega arith))
          ∙ ap (λ rest. option_to_list (before from) ++ rest) (one_more_found before after last x here others none (from + 1) many (omega arith) (omega arith))
          ∙ sym (append_assoc (option_to_list (before from)) (found before (counted (from + 1) many)) (x ∷ []))
      | inr least ↦
          let same : from ≡ last = omega arith in
          ap (λ o. option_to_list o ++ found after (counted (from + 1) many)) (ap after same ∙ here)
          ∙ ap (λ rest. x ∷ rest) (none_found after (from + 1) many (λ k above. others k (omega arith) ∙ none k (omega arith)))
          ∙ sym (ap (λ rest. rest ++ x ∷ []) (none_found before from (suc many) (λ k above. none k (omega arith))))
    ]

-- ---- the documents of a job

-- those that a job has, by rising number
abbrev pub placed : (documents : FinMap place_cmp Document) (number : ℕ) → List Document
placed documents number = found (λ document. get documents (number, document)) document_numbers

-- a job with none at any number has none
pub none_placed : (documents : FinMap place_cmp Document) (number : ℕ) → ((k : ℕ) → get documents (number, k) ≡ None) → placed documents number ≡ []
none_placed documents number none = none_found (λ k. get documents (number, k)) 1 8 (λ k above. none k)

-- and they are the same where each number has the same
pub same_placed : (a b : FinMap place_cmp Document) (number : ℕ) → ((k : ℕ) → get a (number, k) ≡ get b (number, k)) → placed a number ≡ placed b number
same_placed a b number same = λ i. found (λ k. same k i) document_numbers

-- the document is the next of a job that had so many, or there is none
abbrev pub Follows : (number before after : ℕ) → Option Document → Type 0
Follows number before after None = after ≡ before
Follows number before after (Some document) = (document.job ≡ number) × (document.number ≡ before + 1) × (after ≡ before + 1) × (before < 8)

-- ---- a document more

same_place : (a b x y : ℕ) → a ≡ x → b ≡ y → ((a == x) && (b == y)) ≡ true
same_place a b x y p q = grind (arith, nat_tests)

other_number : (a b x y : ℕ) → b ≢ y → ((a == x) && (b == y)) ≡ false
other_number a b x y p = grind (arith, nat_tests)

other_job : (a b x y : ℕ) → a ≢ x → ((a == x) && (b == y)) ≡ false
other_job a b x y p = grind (arith, nat_tests)

-- what is at a place once a document is put at its own
at_place : (documents : FinMap place_cmp Document) (document : Document) (j n : ℕ) →
    get (insert documents (document.job, document.number) document) (j, n) ≡ cond ((document.job == j) && (document.number == n)) (Some document) (get documents (j, n))
at_place documents document j n =
    get-insert place_cmp_total documents (document.job, document.number) document (j, n) ∙ ap (λ b. cond b (Some document) (get documents (j, n))) (pair_tie j n document.job document.number)

-- it stands last among the documents of its job
pub placed_with : (documents : FinMap place_cmp Document) (number before after : ℕ) (document : Option Document) → Follows number before after document → ((k : ℕ) → before < k → get documents (number, k) ≡ None) →
    placed (with_document documents document) number ≡ placed documents number ++ option_to_list document
placed_with documents number before after None follows none = sym (append-nil (placed documents number))
placed_with documents number before after (Some document) follows none =
    one_more_found (λ k. get documents (number, k)) (λ k. get (insert documents (document.job, document.number) document) (number, k)) (before + 1) document
    (at_place documents document number (before + 1) ∙ ap (λ b. cond b (Some document) (get documents (number, before + 1))) (same_place document.job document.number number (before + 1) follows.0 follows.1))
    (λ k other. at_place documents document number k ∙ ap (λ b. cond b (Some document) (get documents (number, k))) (other_number document.job document.number number k (λ same. other (omega arith))))
    (λ k above. none k (omega arith)) 1 8 (omega arith) (omega arith)

-- and none stands after it
pub none_after : (documents : FinMap place_cmp Document) (number before after : ℕ) (document : Option Document) → Follows number before after document → ((k : ℕ) → before < k → get documents (number, k) ≡ None) →
    (k : ℕ) → after < k → get (with_document documents document) (number, k) ≡ None
none_after documents number before after None follows none k above = none k (omega arith)
none_after documents number before after (Some document) follows none k above =
    at_place documents document number k ∙ ap (λ b. cond b (Some document) (get documents (number, k))) (other_number document.job document.number number k (omega arith)) ∙ none k (omega arith)

-- those of the other jobs stay
pub others_stay : (documents : FinMap place_cmp Document) (number before after : ℕ) (document : Option Document) → Follows number before after document →
    (other : ℕ) → other ≢ number → (k : ℕ) → get (with_document documents document) (other, k) ≡ get documents (other, k)
others_stay documents number before after None follows other differs k = refl
others_stay documents number before after (Some document) follows other differs k =
    at_place documents document other k ∙ ap (λ b. cond b (Some document) (get documents (other, k))) (other_job document.job document.number other k (λ same. differs (omega arith)))
