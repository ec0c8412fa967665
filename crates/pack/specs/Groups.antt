-- Values of a list as one field, each in its low bits: so many from a first one on.
use Rattle.std.specs.Prelude.{ℕ, zero, suc, ◌+◌, ◌*◌, ◌%◌, ◌^◌}

unfoldable pub group : (ℕ → ℕ) → ℕ → ℕ → ℕ → ℕ
group f width first zero = 0
group f width first (suc n) = group f width first n * 2 ^ width + f (first + n) % 2 ^ width
