-- Whether a condition is satisfied, its facts aside.
use Rattle.std.specs.Prelude.{Bool, true, false}
use Rattle.model.specs.Condition.{ConditionEval, satisfied, unsatisfied}

abbrev pub is_satisfied : ConditionEval → Bool
is_satisfied (satisfied fs) = true
is_satisfied (unsatisfied fs) = false
