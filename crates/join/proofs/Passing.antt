-- A byte of each table is passed, and its marks join those so far. Assumes nothing.
use mathlib.Core.Path.{◌≡◌, ◌∙◌}
use mathlib.Core.Bool.{Bool, ◌&&◌, and_assoc}
use mathlib.Core.List.{List, []}
use Prim.Native.Nat.{ℕ, ◌+◌, ◌<◌}
use native.Mathlib.Numerals.{add-one}
use lib.Bits.{bit_or}
use lib.Dec.{eqb}
use lib.ListN.{length, drop, get_or}
use Rattle.model.specs.Facts.{table_fields}
use Rattle.facts.proofs.Faults.{or_zero}
use Rattle.join.specs.Joining.{agree, bytes_agree}
use Rattle.join.specs.JoiningLaws.{agree_end, agree_step}

pub pass_bytes : (ls ss : List ℕ) (i marked marks : ℕ) {total : Bool} → i < length ls →
    total ≡ (eqb marked 0 && agree (table_fields (drop i ls)) (table_fields (drop i ss))) → eqb marks 0 ≡ bytes_agree (get_or ls i 0) (get_or ss i 0) →
    total ≡ (eqb (bit_or marked marks) 0 && agree (table_fields (drop (i + 1) ls)) (table_fields (drop (i + 1) ss)))
pass_bytes ls ss i marked marks h t e = t ∙ rw (agree_step i ls ss, ← e, or_zero, and_assoc, add-one)

-- The same where the shorter table has ended.
pub pass_end : (ls : List ℕ) (i marked marks : ℕ) {total : Bool} → i < length ls →
    total ≡ (eqb marked 0 && agree (table_fields (drop i ls)) []) → eqb marks 0 ≡ bytes_agree (get_or ls i 0) 0 →
    total ≡ (eqb (bit_or marked marks) 0 && agree (table_fields (drop (i + 1) ls)) [])
pass_end ls i marked marks h t e = t ∙ rw (agree_end i ls, ← e, or_zero, and_assoc, add-one)
