-- The fields of a word as one number: what is read of them at once, and the word that it makes. Assumes nothing.
use mathlib.Core.Path.{◌≡◌, refl, sym, ◌∙◌, ap, ap₂, subst}
use mathlib.Core.List.{List, [], ◌∷◌, map}
use Prim.Native.Nat.{ℕ, zero, suc, ◌+◌, ◌-◌, ◌*◌, ◌/◌, ◌%◌, ◌^◌, ◌≤◌, ◌<◌}
use native.Mathlib.Nat.{mul-suc}
use native.Mathlib.Omega.{arith}
use lib.ListN.{length, drop, get_or}
use lib.Pow.{pow_pos, pow_mono, shr_lt}
use lib.Seq.{drop-drop}
use Rattle.std.proofs.Common.{mul_assoc, add-mul, pow-add}
use Rattle.std.proofs.Math.Nat.{mul-add, mod-lt, mod-eq_of_lt}
use Rattle.std.proofs.lemmas.Nat.{div-mul-add, mod-mul-add}
use Rattle.std.proofs.lemmas.List.{drop-map}
use Rattle.model.specs.Fields.{joined, words_for, pack}
use Rattle.laws.specs.FieldAt.{Narrow}
use Rattle.laws.proofs.FieldAtLaws.{packed_word}
use Rattle.laws.proofs.WordLaws.{narrow_drop, joined_small}
use Rattle.laws.proofs.BitLaws.{Bits}
use Rattle.unpack.specs.Nodes.{fields_in, loose_entry}
use Rattle.unpack.specs.FieldLaws.{field_small}
use Rattle.unpack.specs.NormalLaws.{field_split}

-- ---- fields from one on
later : (w k : ℕ) (bs : List ℕ) → drop (w * k) (drop w bs) ≡ drop (w * suc k) bs
later w k bs = drop-drop (w * k) w bs ∙ ap (λ m. drop m bs) (let e = mul-suc w k in let z : w + w * k ≡ w * suc k = omega arith in z)

pub fields_from : (w k n : ℕ) (bs : List ℕ) → drop k (fields_in w n bs) ≡ fields_in w (n - k) (drop (w * k) bs)
unfolding fields_in
fields_from w zero n bs = (λ i. fields_in w ((let z : n ≡ n - 0 = omega arith in z) i) (drop ((let z : 0 ≡ w * 0 = omega arith in z) i) bs))
fields_from w (suc k) zero bs = ap (λ n. fields_in w n (drop (w * suc k) bs)) (let z : 0 ≡ 0 - suc k = omega arith in z)
fields_from w (suc k) (suc n) bs = fields_from w k n (drop w bs) ∙ ap₂ (λ m cs. fields_in w m cs) (let z : n - k ≡ suc n - suc k = omega arith in z) (later w k bs)

pub narrow_fields : (w n : ℕ) (bs : List ℕ) → Bits bs → Narrow w (fields_in w n bs)
unfolding fields_in
narrow_fields w zero bs h = tt
narrow_fields w (suc n) bs h = (field_small 0 w bs h, narrow_fields w n (drop w bs) (narrow_drop 1 w bs h))

-- ---- so many fields, read at once
joined_none : (w m : ℕ) → joined w m [] ≡ 0
joined_none w zero = refl
joined_none w (suc m) = refl

field_more : (w n : ℕ) (cs : List ℕ) → joined 1 (w + n) cs ≡ joined 1 w cs * 2 ^ n + joined 1 n (drop w cs)
field_more w n cs = field_split w 0 n cs ∙ ap (λ k. joined 1 w cs * 2 ^ n + joined 1 n (drop k cs)) (let z : 0 + w ≡ w = omega arith in z)

no_bits : (w : ℕ) (cs : List ℕ) → joined 1 (w * 0) cs ≡ 0
no_bits w cs = ap (λ k. joined 1 k cs) (let z : w * 0 ≡ 0 = omega arith in z)

-- Fewer than a word holds: they stand first, and 0 bits after them.
group_few : (w m n : ℕ) (cs : List ℕ) → n ≤ m → joined w m (fields_in w n cs) ≡ joined 1 (w * n) cs * 2 ^ (w * (m - n))
unfolding fields_in
group_few w m zero cs h = joined_none w m ∙ (let z : 0 ≡ 0 * 2 ^ (w * (m - 0)) = omega arith in z) ∙ ap (λ x. x * 2 ^ (w * (m - 0))) (sym (no_bits w cs))
group_few w zero (suc n) cs h = absurd (omega arith)
group_few w (suc m) (suc n) cs h =
    let x = joined 1 w cs in
    let y = joined 1 (w * n) (drop w cs) in
    let q = 2 ^ (w * (m - n)) in
    let apart : w * m ≡ w * n + w * (m - n) = ap (λ k. w * k) (let z : m ≡ n + (m - n) = omega arith in z) ∙ mul-add w n (m - n) in
    let long : w + w * n ≡ w * suc n = (let e = mul-suc w n in omega arith) in
    ap (λ z. x * 2 ^ (w * m) + z) (group_few w m n (drop w cs) (omega arith))
    ∙ ap (λ p. x * p + y * q) (ap (λ k. 2 ^ k) apart ∙ pow-add 2 (w * n) (w * (m - n)))
    ∙ distribute x (2 ^ (w * n)) q y
    ∙ ap (λ z. z * q) (sym (field_more w (w * n) cs) ∙ ap (λ k. joined 1 k cs) long)
    ∙ ap (λ k. joined 1 (w * suc n) cs * 2 ^ (w * k)) (let z : m - n ≡ suc m - suc n = omega arith in z)
  where
    distribute : (x p q y : ℕ) → x * (p * q) + y * q ≡ (x * p + y) * q
    distribute x p q y = ap (λ z. z + y * q) (sym (mul_assoc x p q)) ∙ sym (add-mul (x * p) y q)

-- As many as a word holds, or more.
group_full : (w m n : ℕ) (cs : List ℕ) → m ≤ n → joined w m (fields_in w n cs) ≡ joined 1 (w * m) cs
unfolding fields_in
group_full w zero n cs h = sym (no_bits w cs)
group_full w (suc m) zero cs h = absurd (omega arith)
group_full w (suc m) (suc n) cs h =
    ap (λ z. joined 1 w cs * 2 ^ (w * m) + z) (group_full w m n (drop w cs) (omega arith))
    ∙ sym (field_more w (w * m) cs)
    ∙ ap (λ k. joined 1 k cs) (let e = mul-suc w m in let z : w + w * m ≡ w * suc m = omega arith in z)

-- Field number k and those after it, by how many of them are read.
pub group_of : (w m n k f : ℕ) (bs : List ℕ) → f ≤ m → f ≤ n - k → (f < m → f ≡ n - k) → joined 1 (w * f) (drop (w * k) bs) * 2 ^ (w * (m - f)) ≡ joined w m (drop k (fields_in w n bs))
group_of w m n k f bs h g e = by (m - f) refl ∙ ap (joined w m) (sym (fields_from w k n bs))
  where
    by : (d : ℕ) → m - f ≡ d → joined 1 (w * f) (drop (w * k) bs) * 2 ^ (w * (m - f)) ≡ joined w m (fields_in w (n - k) (drop (w * k) bs))
    by zero z =
        let same : f ≡ m = omega arith in
        ap (λ d. joined 1 (w * f) (drop (w * k) bs) * 2 ^ (w * d)) z
        ∙ ap (λ d. joined 1 (w * f) (drop (w * k) bs) * 2 ^ d) (let z : w * 0 ≡ 0 = omega arith in z)
        ∙ (let z : joined 1 (w * f) (drop (w * k) bs) * 2 ^ 0 ≡ joined 1 (w * f) (drop (w * k) bs) = omega arith in z)
        ∙ ap (λ j. joined 1 (w * j) (drop (w * k) bs)) same
        ∙ sym (group_full w m (n - k) (drop (w * k) bs) (omega arith))
    by (suc d) z =
        let all = e (omega arith) in
        ap (λ j. joined 1 (w * j) (drop (w * k) bs) * 2 ^ (w * (m - j))) all ∙ sym (group_few w m (n - k) (drop (w * k) bs) (omega arith))

pub group_small : (w m n k : ℕ) (bs : List ℕ) → Bits bs → w * m ≤ 25 → joined w m (drop k (fields_in w n bs)) < 4294967296
group_small w m n k bs h l =
    let a = joined_small w m (drop k (fields_in w n bs)) (narrow_drop w k (fields_in w n bs) (narrow_fields w n bs h)) in
    let b : 2 ^ (w * m) ≤ 2 ^ 25 = pow_mono l in
    omega (arith, a, b)

-- ---- the word of a group
module _ (n : ℕ) (bs : List ℕ) (h : Bits bs) (j : ℕ) where
  abbrev pub owed : List ℕ
  owed = drop (j * 4) (fields_in 6 n bs)

  pub narrow_owed : Narrow 6 owed
  narrow_owed = narrow_drop 6 (j * 4) (fields_in 6 n bs) (narrow_fields 6 n bs h)

  pub owed_small : joined 6 4 owed < 2 ^ 24
  owed_small = joined_small 6 4 owed narrow_owed

  pub quad_word : j < words_for 4 (length (fields_in 6 n bs)) → joined 8 4 owed ≡ get_or (pack 8 (fields_in 6 n bs)) j 0
  quad_word inside = sym (packed_word 8 4 (words_for 4 (length (fields_in 6 n bs))) j (fields_in 6 n bs) inside)

module _ (w : ℕ) where
  two : (a b v : ℕ) → b < 2 ^ w → v ≡ a * 2 ^ w + b → loose_entry (v / 2 ^ w) * 65536 + loose_entry (v % 2 ^ w) ≡ loose_entry a * 65536 + loose_entry b
  two a b v h e = ap₂ (λ x y. loose_entry x * 65536 + loose_entry y) (ap (λ z. z / 2 ^ w) e ∙ div-mul-add a (2 ^ w) b h) (ap (λ z. z % 2 ^ w) e ∙ mod-mul-add a (2 ^ w) b h)

  spread_entries : (vs : List ℕ) → Narrow w vs → (v : ℕ) → v ≡ joined w 2 vs → loose_entry (v / 2 ^ w) * 65536 + loose_entry (v % 2 ^ w) ≡ joined 16 2 (map loose_entry vs)
  spread_entries [] h v e = two 0 0 v (pow_pos w) (e ∙ (let z : 0 ≡ 0 * 2 ^ w + 0 = omega arith in z))
  spread_entries (a ∷ []) h v e = two a 0 v (pow_pos w) (e ∙ ap (λ k. a * 2 ^ k + 0) (let z : w * 1 ≡ w = omega arith in z)) ∙ omega arith
  spread_entries (a ∷ b ∷ vs) h v e =
      two a b v h.1.0 (e ∙ ap₂ (λ k l. a * 2 ^ k + (b * 2 ^ l + 0)) (let z : w * 1 ≡ w = omega arith in z) (let z : w * 0 ≡ 0 = omega arith in z) ∙ (let z : a * 2 ^ w + (b * 2 ^ 0 + 0) ≡ a * 2 ^ w + b = omega arith in z))
      ∙ omega arith

  pub power : w ≤ 12 → 1 * 2 ^ w % 4294967296 ≡ 2 ^ w
  power l = let b : 2 ^ w ≤ 2 ^ 12 = pow_mono l in ap (λ x. x % 4294967296) (let z : 1 * 2 ^ w ≡ 2 ^ w = omega arith in z) ∙ mod-eq_of_lt (omega (arith, b))

  -- Each of two is below the power of its bits.
  pub pair_small : (n k : ℕ) (bs : List ℕ) (v : ℕ) → Bits bs → w ≤ 12 → v ≡ joined w 2 (drop k (fields_in w n bs)) → (v / 2 ^ w < 2 ^ 12) × (v % 2 ^ w < 2 ^ 12)
  pair_small n k bs v h l e =
      let a = joined_small w 2 (drop k (fields_in w n bs)) (narrow_drop w k (fields_in w n bs) (narrow_fields w n bs h)) in
      let both : v < 2 ^ (w + w) = subst (λ x. v < 2 ^ x) (let z : w * 2 ≡ w + w = omega arith in z) (omega (arith, e, a)) in
      let b : 2 ^ w ≤ 2 ^ 12 = pow_mono l in
      (omega (arith, shr_lt w w both, b), omega (arith, mod-lt v (pow_pos w), b))

  pub pair_word : (n : ℕ) (bs : List ℕ) (j v : ℕ) → Bits bs → j < words_for 2 (length (map loose_entry (fields_in w n bs))) → v ≡ joined w 2 (drop (j * 2) (fields_in w n bs)) →
      loose_entry (v / 2 ^ w) * 65536 + loose_entry (v % 2 ^ w) ≡ get_or (pack 16 (map loose_entry (fields_in w n bs))) j 0
  pair_word n bs j v h inside e =
      let vs = fields_in w n bs in
      spread_entries (drop (j * 2) vs) (narrow_drop w (j * 2) vs (narrow_fields w n bs h)) v e
      ∙ ap (joined 16 2) (sym (drop-map loose_entry (j * 2) vs))
      ∙ sym (packed_word 16 2 (words_for 2 (length (map loose_entry vs))) j (map loose_entry vs) inside)
