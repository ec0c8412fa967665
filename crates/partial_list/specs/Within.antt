-- Words laid at the front of an output, where the scratch that nodes pass through has room for as many.
use Rattle.std.specs.Prelude.{◌≡◌, List, ℕ, ◌≤◌}
use Rattle.sizes.specs.Laid.{capped, Laid}

-- `room` is what is left of the scratch. The size is right in any case.
pub record LaidWithin (room n : ℕ) (ws out : List ℕ) (r : ℕ) : Type 0 where
  pub size_is : r ≡ capped n
  pub laid : r ≤ room → Laid n ws out r
