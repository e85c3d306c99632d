use Rattle.std.specs.Prelude.{[]}
use Rattle.room_core.proofs.Rates.{all_are_rated}
use Rattle.example.proofs.machine.first_answers.Goals as goal

pub answer-requires-clause-rates : goal.answer-requires-clause-rates
answer-requires-clause-rates c = all_are_rated [] tt

pub answer-requires-2-clause-rates : goal.answer-requires-2-clause-rates
answer-requires-2-clause-rates c = all_are_rated [] tt

pub answer-requires-3-clause-rates : goal.answer-requires-3-clause-rates
answer-requires-3-clause-rates c = all_are_rated [] tt
