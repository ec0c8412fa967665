-- What a list holds in each two of its words, as chunks of two: an odd word at the end holds nothing. Assumes nothing.
use Rattle.std.specs.Prelude.{◌≡◌, refl, List, [], ◌∷◌, map, ℕ, zero, suc, ◌/◌, length}
use Rattle.std.specs.Simd.{first_chunks}
use Rattle.std.proofs.Common.{sym, ap, ◌∙◌, arith}

module _ {A : Type 0} (one : List ℕ → A) (all : List ℕ → List A) (none : all [] ≡ []) (odd : (w : ℕ) → all (w ∷ []) ≡ []) (more : (w v : ℕ) (ws : List ℕ) → all (w ∷ v ∷ ws) ≡ one (w ∷ v ∷ []) ∷ all ws) where
  by_pairs : (ws : List ℕ) (n : ℕ) → n ≡ length ws / 2 → map one (first_chunks 2 n ws) ≡ all ws
  by_pairs [] zero h = sym none
  by_pairs [] (suc n) h = absurd (omega arith)
  by_pairs (w ∷ []) zero h = sym (odd w)
  by_pairs (w ∷ []) (suc n) h = absurd (omega arith)
  by_pairs (w ∷ v ∷ ws) zero h = absurd (omega arith)
  by_pairs (w ∷ v ∷ ws) (suc n) h = ap (λ l. one (w ∷ v ∷ []) ∷ l) (by_pairs ws n (omega arith)) ∙ sym (more w v ws)

  pub pairs_are : (ws : List ℕ) (ps : List (List ℕ)) → ps ≡ first_chunks 2 (length ws / 2) ws → map one ps ≡ all ws
  pairs_are ws ps h = ap (map one) h ∙ by_pairs ws (length ws / 2) refl
