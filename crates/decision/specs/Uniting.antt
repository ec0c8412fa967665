-- What appending does to a union. Apart from Answers, as a spec that names a struct with a ghost field can be cited in that struct's `impl` alone.
use Rattle.std.specs.Prelude.{◌≡◌, List, ◌++◌, ℕ, take, drop}
use Rattle.model.specs.Decision.{union_obligations}
use Rattle.model.specs.Reading.{obligation_count}
use Rattle.laws.specs.Lists.{Below}
use Rattle.decision.specs.declared.Union.{Union}
use Rattle.decision.specs.Meaning.{Appended}
use Rattle.decision.specs.Answers.{mask_from}
use Rattle.decision.specs.Room.{obligation_room}

-- The mask is that of the list os and of what was appended to it.
pub record Holding (os buf : List ℕ) (u : Union) : Type 0 where
  pub mask_is : u.mask ≡ mask_from 0 (os ++ take u.count buf)
  pub appended : Appended (take u.count buf)

-- Those of ps that were not held were appended, one by one, and what stands from the second room on stayed.
pub record Grown (ps before after : List ℕ) (u r : Union) : Type 0 where
  pub rest : drop obligation_room after ≡ drop obligation_room before
  pub holds : (os : List ℕ) → Below obligation_count ps → Holding os before u → Holding os after r
  pub grown : (os : List ℕ) → Below obligation_count ps → Holding os before u → os ++ take r.count after ≡ union_obligations (os ++ take u.count before) ps
