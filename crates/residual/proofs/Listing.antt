-- A list that is made of nodes and of pending arms, which are moved up behind them. Assumes nothing.
use mathlib.Core.Path.{◌≡◌, ◌∙◌, ap, ap₂}
use mathlib.Core.List.{List, [], ◌∷◌, ◌++◌, append_assoc}
use Prim.Native.Nat.{ℕ, zero, suc, ◌+◌, ◌-◌, ◌≤◌}
use native.Mathlib.Omega.{arith}
use lib.ListN.{length, take, drop, get_or, set, length-drop, length-take}
use lib.Seq.{paste, take-add, take-suc, take_at, drop_at, length-take-le}
use borrow.Rule.Slice.PartMut.{put_mid}
use Rattle.std.proofs.lemmas.List.Edits.{length-paste}
use Rattle.std.proofs.lemmas.Slice.{take-put_mid, drop-put_mid}
use Rattle.sizes.specs.Laid.{capped}
use Rattle.residual.specs.Answers.{ListPut}

-- Another first word.
led : (lead n w : ℕ) (ws out : List ℕ) → take n out ≡ w ∷ ws → take n (set out 0 lead) ≡ lead ∷ ws
led lead zero w ws out e = cc
led lead (suc n) w ws [] e = cc
led lead (suc n) w ws (x ∷ out) e = ap (λ us. lead ∷ drop 1 us) e

module _ (lead kept size r k : ℕ) (front before mid part : List ℕ) (e : r ≡ capped (kept + size)) (some : 1 ≤ size) (room : kept + size ≤ length before) (there : kept ≤ length front)
    (moved : mid ≡ paste before (1 + kept) (drop 1 before) (size - 1)) (copied : part ≡ take kept front) (is : k ≡ kept) where
  pub list_put : ListPut lead front kept size before (set (put_mid 1 k mid part) 0 lead) r
  list_put = record {
    size_is = e;
    put = λ h l i.
        let n : ℕ = size - 1 in
        let arms : List ℕ = drop 1 before in
        let fits : n ≤ length arms = omega (arith, length-drop 1 before) in
        let long : length mid ≡ length before = ap length moved ∙ length-paste before (1 + kept) arms n (omega arith) fits in
        let many : length part ≡ kept = omega (arith, ap length copied, length-take kept front) in
        let behind : take n (drop (1 + kept) mid) ≡ take n arms =
        ap (λ us. take n (drop (1 + kept) us)) (moved ∙ append_assoc (take (1 + kept) before) (take n arms) (drop (1 + kept + n) before))
        ∙ ap (take n) (drop_at (take (1 + kept) before) (take n arms ++ drop (1 + kept + n) before) (1 + kept) (length-take-le (1 + kept) before (omega arith)))
        ∙ take_at (take n arms) (drop (1 + kept + n) before) n (length-take-le n arms fits) in
        let words : take (1 + kept + n) (put_mid 1 k mid part) ≡ get_or mid 0 0 ∷ (take kept front ++ take n arms) =
        take-add (1 + kept) n (put_mid 1 k mid part)
        ∙ ap₂ (λ us vs. us ++ vs) (take-put_mid 1 k mid part (1 + kept) (omega arith) (omega arith) ∙ ap₂ (λ us vs. us ++ vs) (take-suc mid 0 0 (omega arith)) copied)
        (ap (take n) (drop-put_mid 1 k mid part (1 + kept) (omega arith) (omega arith) (omega arith)) ∙ behind) in
        ap (λ i. take i (set (put_mid 1 k mid part) 0 lead)) (let z : r ≡ 1 + kept + n = omega arith in z) ∙ led lead (1 + kept + n) (get_or mid 0 0) (take kept front ++ take n arms) (put_mid 1 k mid part) words;
  }
