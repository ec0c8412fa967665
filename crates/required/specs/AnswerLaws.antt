-- An answer's number and count are those that the model requires, and a refusal is answered by its number.
use Rattle.std.specs.Prelude.{◌≡◌, refl, Bool, Result, Err, List, ℕ, zero, suc, ◌≤◌}
use Rattle.std.proofs.Common.{◌∙◌, ap, arith}
use Rattle.model.specs.Policy.{Policy, names}
use Rattle.model.specs.Record.{tree}
use Rattle.model.specs.Reading.{Parsed, refuse, got}
use Rattle.model.specs.Required as model
use Rattle.model.specs.Products.{Outcome, read_sheet, read_record, required_facts, required_residual_facts}
use Rattle.refusal.specs.declared.Refusal.{Refusal}
use Rattle.required.specs.Answers.{number_in, count_in, answer, required_of, Counted, Answered}

number_told : {A : Type 0} (q : Parsed A) (named : A → ℕ → Bool) → number_in (required_of (model.required_of q named)) ≡ (model.required_of q named).number
number_told (refuse zero) named = refl
number_told (refuse (suc n)) named = refl
number_told (got a ws) named = refl

count_told : {A : Type 0} (q : Parsed A) (named : A → ℕ → Bool) → count_in (required_of (model.required_of q named)) ≡ (model.required_of q named).count
count_told (refuse zero) named = refl
count_told (refuse (suc n)) named = refl
count_told (got a ws) named = refl

module _ {read : Parsed (Policy Outcome)} {before after : List ℕ} {r : Result ℕ Refusal} where
  counted : {A : Type 0} (q : Parsed A) (named : A → ℕ → Bool) → Answered (model.required_of q named) read before after r → Counted (model.required_of q named) r
  counted q named s = record { number_is = ap number_in s.answer_is ∙ number_told q named; count_is = ap count_in s.answer_is ∙ count_told q named }

  pub sheet_counted : (sheet : List ℕ) → Answered (required_facts sheet) read before after r → Counted (required_facts sheet) r
  sheet_counted sheet s = counted (read_sheet sheet) (λ t f. names f t) s

  pub record_counted : (rec : List ℕ) → Answered (required_residual_facts rec) read before after r → Counted (required_residual_facts rec) r
  record_counted rec s = counted (read_record rec) (λ x f. names f (tree x)) s

-- No refusal has the number 0.
pub refused_is : (number count : ℕ) → 1 ≤ number → Err number ≡ answer number count
refused_is zero count h = let z : ⊥ = omega arith in absurd z
refused_is (suc n) count h = refl
