-- The filler, and the first words of a node. Assumes nothing.
use mathlib.Core.Path.{◌≡◌, refl, sym, ◌∙◌, ap}
use mathlib.Core.Bool.{◌&&◌}
use mathlib.Core.List.{List, [], ◌∷◌}
use Prim.Native.Nat.{ℕ, zero, suc, ◌+◌, ◌-◌, ◌*◌, ◌^◌, ◌≤◌, ◌<◌}
use native.Mathlib.Omega.{arith}
use borrow.Author.Tests.{lt-ltb, le-ltb, ne_eqb}
use lib.Dec.{eqb, ltb}
use lib.Pow.{pow_pos}
use lib.ListN.{length, drop, get_or, set, length-drop}
use Rattle.std.specs.Prelude.{Option, None, Some}
use Rattle.model.specs.Fields.{joined}
use Rattle.model.specs.Tight.{zeros}
use Rattle.model.specs.Bits.{run_of}
use Rattle.laws.proofs.BitLaws.{Bits, length_run}
use Rattle.unpack.proofs.Fields.{bits_from}
use Rattle.packing.specs.Written.{Written}
use Rattle.packing.specs.WrittenLaws.{written_none, written_next, written_same}
use Rattle.unpack.specs.declared.Node.{Node}
use Rattle.unpack.specs.Nodes.{third_words, fixed_words}

-- The number that bits say is 0 exactly if they all are.
zeros_by : (bs : List ℕ) → Bits bs → eqb (joined 1 (length bs) bs) 0 ≡ zeros bs
zeros_by [] h = refl
zeros_by (zero ∷ bs) h = ap (λ x. eqb x 0) (let z : 0 * 2 ^ (1 * length bs) + joined 1 (length bs) bs ≡ joined 1 (length bs) bs = omega arith in z) ∙ zeros_by bs h.1
zeros_by (suc zero ∷ bs) h = let p : 0 < 2 ^ (1 * length bs) = pow_pos (1 * length bs) in ne_eqb (1 * 2 ^ (1 * length bs) + joined 1 (length bs) bs) 0 (λ e. omega arith)
zeros_by (suc (suc n) ∷ bs) h = let k = h.0 in let z : ⊥ = omega arith in absurd z

module _ (bytes : List ℕ) (at : ℕ) where
  abbrev left : ℕ
  left = length bytes * 8 - at

  abbrev after : List ℕ
  after = drop at (run_of bytes)

  left_is : left ≡ length after
  left_is = omega (arith, length_run bytes, length-drop at (run_of bytes))

  pub filled_few : (v : ℕ) → ((i : ℕ) → get_or bytes i 0 < 256) → left < 8 → v ≡ joined 1 left after → eqb v 0 ≡ (ltb (length after) 8 && zeros after)
  filled_few v octets few e =
      ap (λ x. eqb x 0) (e ∙ ap (λ n. joined 1 n after) left_is) ∙ zeros_by after (bits_from bytes octets at) ∙ sym (ap (λ b. b && zeros after) (lt-ltb (length after) 8 (omega (arith, left_is))))

  pub filled_many : 8 ≤ left → ltb left 8 ≡ (ltb (length after) 8 && zeros after)
  filled_many many = le-ltb left 8 many ∙ sym (ap (λ b. b && zeros after) (le-ltb (length after) 8 (omega (arith, left_is))))

-- ---- two words, or three
module _ (n : Node) (out : List ℕ) where
  first_two : 2 ≤ length out → Written (n.first ∷ n.second ∷ []) out (set (set out 0 n.first) 1 n.second) 2
  first_two h = written_next (written_next (written_none out) n.first (omega arith)) n.second (omega arith)

  pub two_words : n.third ≡ None → 2 ≤ length out → Written (fixed_words n) out (set (set out 0 n.first) 1 n.second) 2
  two_words e h = written_same (first_two h) (ap (λ t. n.first ∷ (n.second ∷ third_words t)) (sym e))

  pub three_words : (third : ℕ) → n.third ≡ Some third → 3 ≤ length out → Written (fixed_words n) out (set (set (set out 0 n.first) 1 n.second) 2 third) 3
  three_words third e h = written_same (written_next (first_two (omega arith)) third (omega arith)) (ap (λ t. n.first ∷ (n.second ∷ third_words t)) (sym e))

pub fixed_few : (n : Node) → length (fixed_words n) ≤ 3
fixed_few n = by n.third
  where
    by : (t : Option ℕ) → length (n.first ∷ (n.second ∷ third_words t)) ≤ 3
    by None = omega arith
    by (Some w) = omega arith
