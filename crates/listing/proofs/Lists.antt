-- Room for one more of a list. Assumes nothing.
use mathlib.Core.Path.{◌≡◌}
use Prim.Native.Nat.{ℕ, suc, ◌+◌, ◌*◌, ◌≤◌, ◌<◌}
use native.Mathlib.Nat.{mul-suc, mul-le-mul_left}
use native.Mathlib.Omega.{arith}

-- Each takes at most m bytes, and there is room for them all.
pub room_left : (m i count n long : ℕ) → i < count → n ≤ 1 + m * i → 1 + m * count ≤ long → n + m ≤ long
room_left m i count n long h k room =
    let more : m * suc i ≡ m * i + m = mul-suc m i in
    let most : m * suc i ≤ m * count = mul-le-mul_left m (let l : suc i ≤ count = omega arith in l) in
    omega arith
