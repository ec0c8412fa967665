-- From a call's answer to the number that is returned. Assumes nothing.
use mathlib.Core.Path.{◌≡◌, refl, ◌∙◌, ap}
use mathlib.Core.Bool.{Bool}
use mathlib.Core.List.{List}
use Prim.Native.Nat.{ℕ, ◌*◌, ◌^◌}
use native.Mathlib.Omega.{arith}
use Rattle.std.specs.Prelude.{Option, Some, None, Result, Ok, Err}
use Rattle.refusal.specs.declared.Refusal.{Refusal}
use Rattle.refusal.specs.Numbers.{number_of, by_number}
use Rattle.model.specs.Calls as model
use Rattle.model.specs.Batch as batch
use Rattle.model.specs.Required as required
use Rattle.answer.specs.Answers.{Answer, Answered, answer_of}
use Rattle.required.specs.Answers as asked
use Rattle.questions.specs.Answers as told
use Rattle.register.specs.Answers.{in_force_of}
use Rattle.batch.specs.Answers.{batch_meant, Runs}
use Rattle.vierskof.specs.Answers.{in_one, itself, one_bit_of, none_or, returned, Writes, Batches, said, named}

-- ---- a refusal's number or 0, and a value or 0
refusal_alone : (n : ℕ) → n * 2 ^ 32 ≡ returned n 0
refusal_alone n = omega arith

value_alone : (n : ℕ) → n ≡ returned 0 n
value_alone n = omega arith

written_in_one : (a : model.Answer) → in_one itself (answer_of a) ≡ returned (model.number_of a) (model.written_of a)
written_in_one (model.refusal n) = refusal_alone n
written_in_one (model.wrote ws) = value_alone _

pub writes : {a : model.Answer} {before after : List ℕ} {r : Answer} {n : ℕ} → Answered a before after r → n ≡ in_one itself (by_number r) → Writes a before after n
writes {a} s e = record { answer = e ∙ ap (in_one itself) s.answer_is ∙ written_in_one a; output_is = s.output_is }

counted_in_one : (r : Result ℕ Refusal) → in_one itself (by_number r) ≡ returned (asked.number_of r) (asked.count_of r)
counted_in_one (Ok n) = value_alone n
counted_in_one (Err e) = refusal_alone (number_of e)

pub counts : {m : required.Required} {r : Result ℕ Refusal} {n : ℕ} → asked.Counted m r → n ≡ in_one itself (by_number r) → n ≡ returned m.number m.count
counts {m} {r} s e = e ∙ counted_in_one r ∙ (λ i. returned (s.number_is i) (s.count_is i))

pub told_in_one : (r : Result Bool Refusal) → in_one one_bit_of (by_number r) ≡ said (told.asked (by_number r))
told_in_one (Ok b) = value_alone (one_bit_of b)
told_in_one (Err e) = refusal_alone (number_of e)

pub named_in_one : (r : Result (Option ℕ) Refusal) → in_one none_or (by_number r) ≡ named (in_force_of r)
named_in_one (Ok (Some n)) = value_alone n
named_in_one (Ok None) = value_alone (none_or None)
named_in_one (Err e) = refusal_alone (number_of e)

-- From what a batch comes to.
batch_in_one : (b : batch.Batch) → in_one itself (batch_meant b) ≡ batch.batch_number b
batch_in_one (batch.turned_back n) = refl
batch_in_one (batch.answers rs) = refl

pub batches : {b : batch.Batch} {places places_after out out_after : List ℕ} {r : Result ℕ Refusal} {n : ℕ} → Runs b places places_after out out_after r → n ≡ in_one itself (by_number r) → Batches b places places_after out out_after n
batches {b} s e = record { answer = e ∙ ap (in_one itself) s.batch_is ∙ batch_in_one b; replies_are = s.replies_are; output_is = s.output_is }
