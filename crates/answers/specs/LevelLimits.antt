-- Rows of request 14 on the greatest table, apart from the others since they take long to compute.
use Rattle.std.specs.Prelude.{◌≡◌, refl, true, [], ◌∷◌}
use Rattle.model.specs.Levels.{meet_of, join_of, outcome_count, accepts}
use Rattle.model.specs.Worked.{refuses}
use Rattle.model.specs.WorkedLevels.{all_by, chain, accepted, decided}

-- 16 levels are accepted, and 16 is none of them.
pub limits : all_by (accepted (chain 16) ∷ decided (chain 16) (0x60000010 ∷ []) (refuses 8) ∷ []) ≡ true
unfolding accepts meet_of join_of outcome_count
limits = refl
