-- What an operation makes of two levels. Assumes nothing.
use mathlib.Core.Path.{◌≡◌, refl}
use mathlib.Core.Option.{some}
use Prim.Native.Nat.{ℕ}
use Rattle.model.specs.Levels.{OutcomeTable, meet_of, join_of}
use Rattle.outcome.specs.Carried.{operation_of, outcome_by}
use Rattle.outcome.specs.declared.Operation.{Operation}
use Rattle.outcome.specs.declared.Operation.TheVariants.{Meet, Join}

pub by_levels : (operation : Operation) (t : OutcomeTable) (a b : ℕ) → outcome_by operation (some t) a b ≡ operation_of operation t a b
unfolding meet_of join_of
by_levels Meet t a b = refl
by_levels Join t a b = refl
