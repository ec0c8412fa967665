-- What the calls return and leave in the output, by the model.
use Rattle.std.specs.Prelude.{◌≡◌, List, ℕ, length}
use Rattle.std.proofs.Math.Option.{none}
use Rattle.model.specs.Partial.{permits_first}
use Rattle.model.specs.Calls.{Answer, written_of, afterwards}
use Rattle.model.specs.Calls as calls
use Rattle.model.specs.Required.{one_bit, Required, Asked}
use Rattle.model.specs.Products.{evaluate_by, partial_evaluate_by, narrow_residual_by, complete_residual_by, required_facts, required_residual_facts, is_permit_constant, is_deny_constant, carries_obligation}
use Rattle.vectors.specs.declared.Call.{Call}
use Rattle.vectors.specs.declared.Call.TheVariants.{Evaluate, PartialEvaluate, NarrowResidual, CompleteResidual, RequiredFacts, RequiredResidualFacts, IsPermitConstant, IsDenyConstant, CarriesObligation}
use Rattle.vectors.specs.declared.Reply.{Reply}
use Rattle.vectors.specs.Words.{set_words}

-- The number of the refusal or 0, the call's value, and the output afterwards.
pub record Replies : Type 0 where
  pub number : ℕ
  pub value : ℕ
  pub output : List ℕ

abbrev pub writing : Answer → List ℕ → Replies
writing a before = record { number = calls.number_of a; value = written_of a; output = afterwards a before }

abbrev pub requiring : Required → List ℕ → Replies
requiring m before = record { number = m.number; value = m.count; output = set_words m.set before }

abbrev pub asking : Asked → List ℕ → Replies
asking a before = record { number = a.number; value = one_bit a.yes; output = before }

-- Each call by its number in a stored answer, and what it gives; with the sheet's number.
abbrev pub number_of : Call → ℕ
number_of Evaluate = 0
number_of PartialEvaluate = 1
number_of NarrowResidual = 2
number_of CompleteResidual = 3
number_of RequiredFacts = 4
number_of RequiredResidualFacts = 5
number_of IsPermitConstant = 6
number_of IsDenyConstant = 7
number_of CarriesObligation = 8

unfoldable pub reply_to : Call → ℕ → List ℕ → List ℕ → List ℕ → Replies
reply_to Evaluate sheet words table before = writing (evaluate_by none sheet words table (length before)) before
reply_to PartialEvaluate sheet words table before = writing (partial_evaluate_by none permits_first sheet words table (length before)) before
reply_to NarrowResidual sheet words table before = writing (narrow_residual_by none permits_first sheet words table (length before)) before
reply_to CompleteResidual sheet words table before = writing (complete_residual_by none sheet words table (length before)) before
reply_to RequiredFacts sheet words table before = requiring (required_facts words) before
reply_to RequiredResidualFacts sheet words table before = requiring (required_residual_facts words) before
reply_to IsPermitConstant sheet words table before = asking (is_permit_constant words) before
reply_to IsDenyConstant sheet words table before = asking (is_deny_constant words) before
reply_to CarriesObligation sheet words table before = asking (carries_obligation words) before

pub record Replied (m : Replies) (after : List ℕ) (r : Reply) : Type 0 where
  pub number_is : r.number ≡ m.number
  pub value_is : r.value ≡ m.value
  pub output_is : after ≡ m.output
