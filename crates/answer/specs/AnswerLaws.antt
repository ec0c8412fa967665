-- The number and the word count of an answer are document 01's.
use Rattle.std.specs.Prelude.{◌≡◌, refl}
use Rattle.model.specs.Calls as model
use Rattle.answer.specs.Answers.{number_of, written_of, answer_of}

pub number_of_lem : (a : model.Answer) → number_of (answer_of a) ≡ model.number_of a
number_of_lem (model.refusal n) = refl
number_of_lem (model.wrote ws) = refl

pub written_of_lem : (a : model.Answer) → written_of (answer_of a) ≡ model.written_of a
written_of_lem (model.refusal n) = refl
written_of_lem (model.wrote ws) = refl
