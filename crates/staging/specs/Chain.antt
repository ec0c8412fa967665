-- Lists of narrowings, each by either order, over trees.
use Rattle.std.specs.Prelude.{◌≡◌, List, [], ◌∷◌}
use Rattle.model.specs.Facts.{Table}
use Rattle.model.specs.Outcome.{Outcomes}
use Rattle.model.specs.Partial.{Order, sheet_order}
use Rattle.model.specs.Record.{Record, narrowed}

-- A narrowing: its order, and its table.
pub record Step : Type 0 where
  pub order : Order
  pub table : Table

abbrev pub InOrder : Step → Type 0
InOrder s = s.order ≡ sheet_order

-- Every narrowing of the list has Q.
abbrev pub AllOf : (Step → Type 0) → List Step → Type 0
AllOf Q [] = Unit {0}
AllOf Q (s ∷ ss) = Q s × AllOf Q ss

-- A record narrowed by one after the other.
module _ (L : Outcomes) where
  abbrev pub run : Record L.O → List Step → Record L.O
  run r [] = r
  run r (s ∷ ss) = run (narrowed L s.order s.table r) ss
