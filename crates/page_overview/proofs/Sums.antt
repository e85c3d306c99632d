-- Sums that are told, one account after another.
use Rattle.std.proofs.Common.{◌≡◌, ℕ, ◌+◌, List, ◌∷◌, [], ◌++◌, ◌∙◌, ap, sym, arith}
use Rattle.std.specs.List.{sum_by}
use Rattle.std.proofs.lemmas.List.Sums.{sum_by_push}
use Rattle.page_overview.specs.Overviews.{Surveyed, sum_over}
use Rattle.page_overview.specs.Surveys.{told}
use Rattle.page_overview.specs.declared.survey.Survey.{Survey}

pub told_again : (a b : ℕ) → told (told a + b) ≡ told (a + b)
told_again a b = omega arith

pub one_more : (of : Survey → ℕ) (surveys : List Surveyed) (it : Surveyed) → told (sum_over of surveys + of it.1) ≡ sum_over of (surveys ++ it ∷ [])
one_more of surveys it = told_again (sum_by (λ (s : Surveyed). of s.1) surveys) (of it.1) ∙ ap told (sym (sum_by_push (λ (s : Surveyed). of s.1) surveys it))
