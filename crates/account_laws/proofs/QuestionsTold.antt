-- Questions are answered by what was told, since nothing else is kept.
use Rattle.account_laws.proofs.NothingElseKept.{nothing_else_is_kept}
use Rattle.account_laws.specs.QuestionsTold as law
use Rattle.account_questions.specs.Questions.{answer_to}

pub questions_tell_the_life : law.QuestionsTellTheLife
questions_tell_the_life life another room other devices known is was same question names =
    let alike = nothing_else_is_kept life another room other devices known is was same in
    λ i. answer_to question (alike.0 i) (alike.1 i) names
