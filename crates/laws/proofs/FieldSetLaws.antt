-- One field of a word replaced, for fields of any width: the word changes by the difference of the two values at the field's place.
use Rattle.std.specs.Prelude.{◌≡◌, refl, List, [], ◌∷◌, ℕ, zero, suc, ◌+◌, ◌-◌, ◌*◌, ◌^◌, ◌≤◌, ◌<◌, length, get_or, set}
use Rattle.std.proofs.Common.{sym, ◌∙◌, ap, subst, append-nil, zero-mul, arith, length-set}
use Rattle.model.specs.Fields.{split, joined}
use Rattle.laws.specs.FieldAt.{padded, Narrow}
use Rattle.laws.proofs.WordLaws.{joined_small, split_joined, joined_split, length_split}
use Rattle.laws.proofs.UnpackedLaws.{narrow_unpacked}

padded_whole : (n : ℕ) (vs : List ℕ) → length vs ≡ n → padded n vs ≡ vs
padded_whole zero [] h = refl
padded_whole zero (v ∷ vs) h = absurd (omega arith)
padded_whole (suc n) [] h = absurd (omega arith)
padded_whole (suc n) (v ∷ vs) h = ap (λ l. v ∷ l) (padded_whole n vs (omega arith))

module _ (width : ℕ) where
  narrow_set : (vs : List ℕ) (k v : ℕ) → v < 2 ^ width → Narrow width vs → Narrow width (set vs k v)
  narrow_set [] k v h n = tt
  narrow_set (u ∷ us) zero v h n = (h, n.1)
  narrow_set (u ∷ us) (suc k) v h n = (n.0, narrow_set us k v h n.1)

  narrow_word : (n w : ℕ) → w < 2 ^ (width * n) → Narrow width (split width n w)
  narrow_word n w h = subst (Narrow width) (append-nil (split width n w)) (narrow_unpacked width n (w ∷ []) (h, tt))

  -- What one at place k counts.
  abbrev pub unit_at : ℕ → ℕ → ℕ
  unit_at n k = 2 ^ (width * (n - suc k))

  joined_set : (n k v : ℕ) (vs : List ℕ) → k < n → length vs ≡ n → joined width n (set vs k v) + get_or vs k 0 * unit_at n k ≡ joined width n vs + v * unit_at n k
  joined_set zero k v vs h e = absurd (omega arith)
  joined_set (suc n) k v [] h e = absurd (omega arith)
  joined_set (suc n) zero v (u ∷ us) h e =
      let same : unit_at (suc n) zero ≡ 2 ^ (width * n) = ap (λ m. 2 ^ (width * m)) (let z : suc n - 1 ≡ n = omega arith in z) in
      rw same (omega arith)
  joined_set (suc n) (suc k) v (u ∷ us) h e =
      let same : unit_at (suc n) (suc k) ≡ unit_at n k = ap (λ m. 2 ^ (width * m)) (let z : suc n - suc (suc k) ≡ n - suc k = omega arith in z) in
      rw same (omega (arith, joined_set n k v us (omega arith) (omega arith)))

-- The word with value v at place k.
pub record Replaced (width n k w v : ℕ) : Type 0 where
  pub held : get_or (split width n w) k 0 * unit_at width n k ≤ w
  pub fits : w - get_or (split width n w) k 0 * unit_at width n k + v * unit_at width n k < 2 ^ (width * n)
  pub fields : split width n (w - get_or (split width n w) k 0 * unit_at width n k + v * unit_at width n k) ≡ set (split width n w) k v

pub replaced : (width n k w v : ℕ) → k < suc n → w < 2 ^ (width * suc n) → v < 2 ^ width → Replaced width (suc n) k w v
replaced width n k w v h few small =
    let vs = split width (suc n) w in
    let old = get_or vs k 0 * unit_at width (suc n) k in
    let new = set vs k v in
    let long = length_split width (suc n) w in
    let whole = joined_split width n w in
    let less = joined_set width (suc n) k 0 vs h long in
    let zero_is = zero-mul (unit_at width (suc n) k) in
    let more = joined_set width (suc n) k v vs h long in
    let held : old ≤ w = omega arith in
    let is : w - old + v * unit_at width (suc n) k ≡ joined width (suc n) new = omega arith in
    let narrow : Narrow width new = narrow_set width vs k v small (narrow_word width (suc n) w few) in
    record {
      held = held;
      fits = subst (λ x. x < 2 ^ (width * suc n)) (sym is) (joined_small width (suc n) new narrow);
      fields = ap (split width (suc n)) is ∙ split_joined width (suc n) new narrow ∙ padded_whole (suc n) new (length-set vs k v ∙ long);
    }
