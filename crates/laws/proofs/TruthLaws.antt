-- The rules of conditions, of their truth alone. Assumes nothing.
use Rattle.std.specs.Prelude.{◌≡◌, refl, not, ◌&&◌, ◌||◌}
use Rattle.model.specs.Condition.{ConditionEval, satisfied, unsatisfied, flip, both, either}
use Rattle.laws.specs.Truth.{is_satisfied}

pub truth_both : (v w : ConditionEval) → is_satisfied (both v w) ≡ is_satisfied v && is_satisfied w
truth_both (unsatisfied fs) w = refl
truth_both (satisfied fs) (unsatisfied gs) = refl
truth_both (satisfied fs) (satisfied gs) = refl

pub truth_either : (v w : ConditionEval) → is_satisfied (either v w) ≡ is_satisfied v || is_satisfied w
truth_either (satisfied fs) w = refl
truth_either (unsatisfied fs) (satisfied gs) = refl
truth_either (unsatisfied fs) (unsatisfied gs) = refl

pub truth_flip : (v : ConditionEval) → is_satisfied (flip v) ≡ not (is_satisfied v)
truth_flip (satisfied fs) = refl
truth_flip (unsatisfied fs) = refl
