-- Words that were laid at the front of an output, when what stands behind them changes, when a word behind them is kept free, and when they are moved up.
-- Assumes nothing.
use mathlib.Core.Path.{◌≡◌, refl, sym, ◌∙◌, ap, ap₂}
use mathlib.Core.List.{List, [], ◌∷◌, ◌++◌, append_assoc}
use Prim.Native.Nat.{ℕ, suc, ◌+◌, ◌-◌, ◌≤◌, min}
use native.Mathlib.Omega.{arith}
use lib.ListN.{length, take, drop, get_or, length-append, length-take, length-drop}
use lib.Seq.{length-take-le, take-suc, take-take, take-add, take_at, drop_at}
use Rattle.sizes.specs.Laid.{most_words, capped, Laid}
use Rattle.sizes.specs.LaidLaws.{take_both}
use Rattle.partial_condition.specs.Holding.{MovedUp}

-- What comes back of an output whose tail was lent, from behind `used` words on.
pub record Returned (used from : ℕ) (mid part out : List ℕ) : Type 0 where
  pub from_is : from ≡ min used (length mid)
  pub part_long : length part ≡ length mid - from
  pub long : length out ≡ length mid
  pub back : out ≡ take from mid ++ (part ++ drop (length mid - from) (drop from mid))

pub returned : (used from : ℕ) (mid part : List ℕ) → from ≡ min used (length mid) → length (take from mid ++ (part ++ drop (length mid - from) (drop from mid))) ≡ length mid →
    Returned used from mid part (take from mid ++ (part ++ drop (length mid - from) (drop from mid)))
returned used from mid part e long =
    let rest = drop (length mid - from) (drop from mid) in
    record {
      from_is = e;
      part_long = omega (arith, length-append (take from mid) (part ++ rest), length-append part rest, length-take from mid, length-drop (length mid - from) (drop from mid), length-drop from mid);
      long = long;
      back = refl;
    }

-- Up to there it has not changed.
pub front_same : {used from : ℕ} {mid part out : List ℕ} → Returned used from mid part out → take from out ≡ take from mid
front_same {used} {from} {mid} {part} b =
    ap (take from) b.back ∙ take_at (take from mid) (part ++ drop (length mid - from) (drop from mid)) from (length-take-le from mid (omega (arith, b.from_is)))

pub laid_under : (from : ℕ) {n a : ℕ} {xs mid out : List ℕ} → Laid n xs mid a → length out ≡ length mid → take from out ≡ take from mid → (a ≤ most_words → a ≤ length mid → a ≤ from) → Laid n xs out a
laid_under from {n} {a} {xs} {mid} {out} l long e within =
    record {
      size_is = l.size_is;
      front = λ h room.
          let fits : a ≤ length mid = omega arith in
          let le : a ≤ from = within h fits in
          sym (take-take a from out le) ∙ ap (take a) e ∙ take-take a from mid le ∙ l.front h fits;
    }

-- A word that is kept free, alone or behind others.
pub laid_free : (out : List ℕ) → Laid 1 (get_or out 0 0 ∷ []) out 1
laid_free [] = record { size_is = refl; front = λ h k. absurd (omega arith) }
laid_free (x ∷ out) = record { size_is = refl; front = λ h k. refl }

pub laid_gap : {n a r : ℕ} {xs out : List ℕ} → Laid n xs out a → r ≡ capped (a + 1) → Laid (n + 1) (xs ++ get_or out a 0 ∷ []) out r
laid_gap {n} {a} {r} {xs} {out} l e =
    record {
      size_is = omega (arith, l.size_is);
      front = λ h room.
          let more : r ≡ suc a = omega arith in
          let fits : a ≤ length out = omega arith in
          ap (λ i. take i out) more ∙ take-suc out a 0 (omega arith) ∙ ap (λ ws. ws ++ get_or out a 0 ∷ []) (l.front (omega arith) fits);
    }

-- ---- words that are moved up by one, over the free word behind them
module _ (n m w : ℕ) (xs ys out : List ℕ) (long : length xs ≡ n) (fits : n + 1 + m ≤ length out) (is : take (n + 1 + m) out ≡ (xs ++ w ∷ []) ++ ys) where
  first_words : take n out ≡ xs
  first_words =
      sym (take-take n (n + 1 + m) out (omega arith)) ∙ ap (take n) (is ∙ append_assoc xs (w ∷ []) ys) ∙ take_at xs (w ∷ ys) n long

  last_words : take m (drop (n + 1) out) ≡ ys
  last_words =
      sym (drop_at (take (n + 1) out) (take m (drop (n + 1) out)) (n + 1) (length-take-le (n + 1) out (omega arith)))
      ∙ ap (drop (n + 1)) (sym (take-add (n + 1) m out) ∙ is)
      ∙ drop_at (xs ++ w ∷ []) ys (n + 1) (omega (arith, length-append xs (w ∷ [])))

  moved_words : take (1 + (n + m)) (take 1 out ++ (take n out ++ drop (n + 1) out)) ≡ get_or out 0 0 ∷ (xs ++ ys)
  moved_words =
      take_both (take 1 out) (take n out ++ drop (n + 1) out) 1 (n + m) (length-take-le 1 out (omega arith))
      ∙ ap₂ (λ us vs. us ++ vs) (take-suc out 0 0 (omega arith))
      (take_both (take n out) (drop (n + 1) out) n m (length-take-le n out (omega arith)) ∙ ap₂ (λ us vs. us ++ vs) first_words last_words)

pub laid_moved : (n m w : ℕ) (xs ys : List ℕ) {k r : ℕ} {before after : List ℕ} → length xs ≡ n → k ≡ capped n → Laid (n + 1 + m) ((xs ++ w ∷ []) ++ ys) before r → MovedUp k before after →
    Laid (1 + (n + m)) (get_or before 0 0 ∷ (xs ++ ys)) after r
laid_moved n m w xs ys {k} {r} {before} {after} long e l v =
    record {
      size_is = omega (arith, l.size_is);
      front = λ h room.
          let number : r ≡ n + 1 + m = omega (arith, l.size_is) in
          let same : r ≡ 1 + (n + m) = omega (arith, number) in
          let fits : n + 1 + m ≤ length before = omega (arith, v.long, number) in
          let few : k ≡ n = omega (arith, number) in
          let is : take (n + 1 + m) before ≡ (xs ++ w ∷ []) ++ ys = ap (λ i. take i before) (sym number) ∙ l.front h (omega (arith, v.long)) in
          ap₂ (λ i ws. take i ws) same (v.up (omega arith) ∙ ap (λ i. take 1 before ++ (take i before ++ drop (i + 1) before)) few)
          ∙ moved_words n m w xs ys before long fits is;
    }
