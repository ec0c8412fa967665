-- One field, put at a cursor: as it is computed, and where it leaves the cursor.
use Rattle.std.specs.Prelude.{◌≡◌, refl, List, [], ◌∷◌, ◌++◌, ℕ, zero, suc, ◌+◌, ◌-◌, ◌*◌, ◌/◌, ◌%◌, ◌^◌, ◌≤◌, ◌<◌, length, take, drop, replicate}
use Rattle.std.proofs.Common.{sym, ◌∙◌, ap, ap₂, subst, append_assoc, append-nil, mod-lt, mul_assoc, add-mul, mul-le-mul_right, suc-mul, arith, pow_pos, pow-add, shl_lt, shl_exact, shr_lt, length-append, length-drop, drop_of_length-le, take_at, take-take, length-take-le}
use Rattle.std.proofs.Math.Pow.{high}
use Rattle.std.proofs.lemmas.Nat.{shl-shr, mod-pow-add}
use Rattle.std.proofs.Math.Pow as pow
use Rattle.std.proofs.Math.Nat.{mul-mod_left}
use Rattle.std.proofs.Math.Seq.{take-append-add}
use Rattle.model.specs.Fields.{split}
use Rattle.model.specs.Bits.{bits_of, run_of}
use Rattle.laws.proofs.BitLaws.{length_bits_lem, length_run}
use Rattle.bits.specs.RunLaws.{bits_parted, bits_none, run_append, run_take, run_split}
use Rattle.bits.specs.Splice.{low, whole, Stored, Spliced}
use Rattle.bits.specs.SpliceLaws.{length_low, low_of, spliced_front}
use Rattle.bits.specs.declared.Cursor.{Cursor}
use Rattle.bits.specs.Cursors.{leading, Begun, FieldRoom, Put}

-- ---- fields that are the leading bits of 32
pub shl_low : (v a b : ℕ) → (v * 2 ^ b) % 2 ^ (a + b) ≡ v % 2 ^ a * 2 ^ b
shl_low v a b =
    let none : v * 2 ^ b % 2 ^ b ≡ 0 = mul-mod_left v (2 ^ b) in
    let top : v * 2 ^ b / 2 ^ b ≡ v = shl-shr v b in
    mod-pow-add (v * 2 ^ b) a b ∙ ap₂ (λ x y. x % 2 ^ a * 2 ^ b + y) top none ∙ omega arith

-- As it is computed in 64 bits.
pub leading_computed : (w v : ℕ) → w ≤ 32 → v < 2 ^ 32 → (v * 2 ^ (32 - w)) % 2 ^ 64 % 2 ^ 32 ≡ leading w v
leading_computed w v h k =
    ap (λ x. x % 2 ^ 32) (shl_exact {a = v} 32 (32 - w) 64 k (omega arith))
    ∙ ap (λ n. (v * 2 ^ (32 - w)) % 2 ^ n) (let e : 32 ≡ w + (32 - w) = omega arith in e)
    ∙ shl_low v w (32 - w)

-- Two fields as one number.
pub sum_fits : (a b x y : ℕ) → x < 2 ^ a → y < 2 ^ b → x * 2 ^ b + y < 2 ^ (a + b)
sum_fits a b x y h k =
    let top : suc x * 2 ^ b ≤ 2 ^ a * 2 ^ b = mul-le-mul_right (2 ^ b) h in
    let e : 2 ^ (a + b) ≡ 2 ^ a * 2 ^ b = pow-add 2 a b in
    let s : suc x * 2 ^ b ≡ x * 2 ^ b + 2 ^ b = suc-mul x (2 ^ b) in
    omega arith

shl_shl : (a i j : ℕ) → a * 2 ^ i * 2 ^ j ≡ a * 2 ^ (i + j)
shl_shl a i j = mul_assoc a (2 ^ i) (2 ^ j) ∙ ap (λ x. a * x) (sym (pow-add 2 i j))

take_zeros : (z k : ℕ) → z ≤ k → take {A = ℕ} z (replicate {A = ℕ} k 0) ≡ replicate {A = ℕ} z 0
take_zeros zero k h = refl
take_zeros (suc z) zero h = let x : ⊥ = omega arith in absurd x
take_zeros (suc z) (suc k) h = ap (λ l. 0 ∷ l) (take_zeros z k (omega arith))

-- A part of a list, in its first n and the others.
take_parted : (m n : ℕ) (l xs ys : List ℕ) → take m l ≡ xs ++ ys → length xs ≡ n → n ≤ m → take m l ≡ take n l ++ ys
take_parted m n l xs ys e k h = e ∙ ap (λ x. x ++ ys) (sym (sym (take-take n m l h) ∙ ap (take n) e ∙ take_at xs ys n k))

module _ (out : List ℕ) (cursor : Cursor) (w v : ℕ) (begun : Begun out cursor) (narrow : w ≤ 25) (room : cursor.at + w ≤ 8 * length out) where
  abbrev at : ℕ
  at = cursor.at

  abbrev i : ℕ
  i = at / 8

  abbrev s : ℕ
  s = at % 8

  -- The bits that stay in the byte, with the field behind them, as the first of 32 bits.
  abbrev kept : ℕ
  kept = begun.kept % 2 ^ s

  abbrev held : ℕ
  held = kept * 2 ^ w + v % 2 ^ w

  abbrev filled : ℕ
  filled = held * 2 ^ (32 - s - w)

  abbrev c : ℕ
  c = (s + w + 7) / 8

  kept_fits : kept < 2 ^ s
  kept_fits = mod-lt begun.kept (pow_pos s)

  held_fits : held < 2 ^ (s + w)
  held_fits = sum_fits s w kept (v % 2 ^ w) kept_fits (mod-lt v (pow_pos w))

  filled_fits : filled < 2 ^ 32
  filled_fits = subst (λ n. filled < 2 ^ n) (let e : s + w + (32 - s - w) ≡ 32 = omega arith in e) (shl_lt (s + w) (32 - s - w) held_fits)

  -- As it is computed: each part is in its place already.
  filled_computed : cursor.begun + leading w v / 2 ^ s ≡ filled
  filled_computed =
      let k = 32 - s - w in
      let u = v % 2 ^ w in
      let first : cursor.begun ≡ kept * 2 ^ w * 2 ^ k =
      begun.is ∙ ap (λ n. kept * 2 ^ n) (let e : 32 - s ≡ w + k = omega arith in e) ∙ sym (shl_shl kept w k) in
      let second : leading w v / 2 ^ s ≡ u * 2 ^ k =
      ap (λ y. y / 2 ^ s) (ap (λ n. u * 2 ^ n) (let e : 32 - w ≡ k + s = omega arith in e) ∙ sym (shl_shl u k s)) ∙ shl-shr (u * 2 ^ k) s in
      ap₂ (λ y z. y + z) first second ∙ sym (add-mul (kept * 2 ^ w) u (2 ^ k))

  -- The bits that stay, and the field.
  held_bits : bits_of (s + w) held ≡ bits_of s kept ++ low w v
  held_bits =
      bits_parted s w held held_fits
      ∙ ap₂ (λ x y. bits_of s x ++ bits_of w y) (high kept w (mod-lt v (pow_pos w))) (pow.low kept w (mod-lt v (pow_pos w)))
      ∙ ap (λ l. bits_of s kept ++ l) (sym (low_of w v))

  -- The 32 bits.
  all_bits : bits_of 32 filled ≡ (bits_of s kept ++ low w v) ++ replicate (32 - s - w) 0
  all_bits =
      let k = 32 - s - w in
      let e : 32 ≡ s + w + k = omega arith in
      ap (λ n. bits_of n filled) e
      ∙ bits_parted (s + w) k filled (subst (λ n. filled < 2 ^ n) e filled_fits)
      ∙ ap₂ (λ x y. bits_of (s + w) x ++ bits_of k y) (shl-shr held k) (mul-mod_left held (2 ^ k))
      ∙ ap₂ (λ x y. x ++ y) held_bits (bits_none k)

  before : take (8 * i) (run_of out) ++ bits_of s kept ≡ take at (run_of out)
  before = ap (λ l. take (8 * i) (run_of out) ++ l) (sym (low_of s begun.kept)) ∙ sym begun.run

  written : run_of (take c (split 8 4 filled)) ≡ (bits_of s kept ++ low w v) ++ replicate (8 * c - (s + w)) 0
  written =
      let x = bits_of s kept ++ low w v in
      let z = 8 * c - (s + w) in
      let k = 32 - s - w in
      let l : length x ≡ s + w = length-append (bits_of s kept) (low w v) ∙ ap₂ (λ a b. a + b) (length_bits_lem s kept) (length_low w v) in
      sym (run_take c (split 8 4 filled))
      ∙ ap (take (8 * c)) (run_split 4 filled filled_fits ∙ all_bits)
      ∙ ap (λ n. take n (x ++ replicate k 0)) (let e : 8 * c ≡ s + w + z = omega arith in e ∙ ap (λ n. n + z) (sym l))
      ∙ take-append-add x (replicate k 0) z
      ∙ ap (λ y. x ++ y) (take_zeros z k (omega arith))

  -- The bytes from the field's first on are `tail` now.
  put_spliced : (tail : List ℕ) → take c tail ≡ take c (split 8 4 filled) → length tail ≡ length out - i → Spliced out (take i out ++ tail) at (low w v) (at + w)
  put_spliced tail first long =
      let n = at + w in
      let z = 8 * c - (s + w) in
      let zs = replicate {A = ℕ} z 0 in
      let a = take (8 * i) (run_of out) in
      let t : length (take i out) ≡ i = length-take-le i out (omega arith) in
      record {
        next = ap (λ x. at + x) (sym (length_low w v));
        run =
            ap (λ x. take x (run_of (take i out ++ tail))) (let e : whole n ≡ 8 * (i + c) = omega arith in e)
            ∙ run_take (i + c) (take i out ++ tail)
            ∙ ap run_of (ap (λ x. take (x + c) (take i out ++ tail)) (sym t) ∙ take-append-add (take i out) tail c ∙ ap (λ l. take i out ++ l) first)
            ∙ run_append (take i out) (take c (split 8 4 filled))
            ∙ ap₂ (λ x y. x ++ y) (sym (run_take i out)) (written ∙ append_assoc (bits_of s kept) (low w v) zs)
            ∙ sym (append_assoc a (bits_of s kept) (low w v ++ zs))
            ∙ ap (λ l. l ++ (low w v ++ zs)) before
            ∙ ap (λ x. take at (run_of out) ++ (low w v ++ replicate x 0)) (let e : z ≡ whole n - n = omega arith in e);
        long = omega (arith, length-append (take i out) tail, t);
      }

  -- What is begun then: the bits that the whole bytes leave.
  abbrev n : ℕ
  n = (s + w) / 8

  abbrev s′ : ℕ
  s′ = (at + w) % 8

  begun_computed : (filled * 2 ^ (8 * n)) % 2 ^ 32 ≡ leading s′ held
  begun_computed =
      ap (λ x. x % 2 ^ 32) (shl_shl held (32 - s - w) (8 * n))
      ∙ ap₂ (λ x y. (held * 2 ^ x) % 2 ^ y) (let e : 32 - s - w + 8 * n ≡ 32 - s′ = omega arith in e) (let e : 32 ≡ s′ + (32 - s′) = omega arith in e)
      ∙ shl_low held s′ (32 - s′)

  begun_run : (after : List ℕ) → Spliced out after at (low w v) (at + w) → take (at + w) (run_of after) ≡ take (8 * ((at + w) / 8)) (run_of after) ++ low s′ held
  begun_run after p =
      let a = take (8 * i) (run_of out) in
      let b = bits_of (8 * n) (held / 2 ^ s′) in
      let e : s + w ≡ 8 * n + s′ = omega arith in
      let parts : bits_of (s + w) held ≡ b ++ low s′ held =
      ap (λ x. bits_of x held) e ∙ bits_parted (8 * n) s′ held (subst (λ x. held < 2 ^ x) e held_fits) ∙ ap (λ l. b ++ l) (sym (low_of s′ held)) in
      let whole_run : take (at + w) (run_of after) ≡ (a ++ b) ++ low s′ held =
      spliced_front p (omega arith)
      ∙ ap (λ l. l ++ low w v) (sym before)
      ∙ append_assoc a (bits_of s kept) (low w v)
      ∙ ap (λ l. a ++ l) (sym held_bits ∙ parts)
      ∙ sym (append_assoc a b (low s′ held)) in
      let long : length (a ++ b) ≡ 8 * ((at + w) / 8) =
      length-append a b ∙ ap₂ (λ x y. x + y) (length-take-le (8 * i) (run_of out) (omega (arith, length_run out))) (length_bits_lem (8 * n) (held / 2 ^ s′)) ∙ (let z : 8 * i + 8 * n ≡ 8 * ((at + w) / 8) = omega arith in z) in
      take_parted (at + w) (8 * ((at + w) / 8)) (run_of after) (a ++ b) (low s′ held) whole_run long (omega arith)

-- ---- the field, as it is computed
module _ (out : List ℕ) (cursor : Cursor) (w field : ℕ) (narrow : w ≤ 25) (r : FieldRoom w out cursor) where
  abbrev window : ℕ
  window = cursor.begun + field / 2 ^ (cursor.at % 8)

  pub window_fits : field < 2 ^ 32 → window < 2 ^ 32
  window_fits h =
      let s = cursor.at % 8 in
      let e : s + (32 - s) ≡ 32 = omega arith in
      let small : field / 2 ^ s < 2 ^ (32 - s) = shr_lt (32 - s) s (subst (λ x. field < 2 ^ x) (let z : 32 ≡ 32 - s + s = omega arith in z) h) in
      subst (λ x. x + field / 2 ^ s < 2 ^ 32) (sym r.begun.is)
      (subst (λ x. r.begun.kept % 2 ^ s * 2 ^ (32 - s) + field / 2 ^ s < 2 ^ x) e (sum_fits s (32 - s) (r.begun.kept % 2 ^ s) (field / 2 ^ s) (mod-lt r.begun.kept (pow_pos s)) small))

  -- The tail is lent as a part of the slice and comes back in its place.
  pub put_done : (tail : List ℕ) → Stored ((cursor.at % 8 + w + 7) / 8) window (take (length out - cursor.at / 8) (drop (cursor.at / 8) out)) tail →
      (to : Cursor) → to.at ≡ cursor.at + w → to.begun ≡ (window * 2 ^ ((cursor.at % 8 + w) / 8 * 8)) % 2 ^ 64 % 2 ^ 32 →
      (v : ℕ) → field ≡ leading w v → Put (low w v) out cursor (take (cursor.at / 8) out ++ (tail ++ drop (length out - cursor.at / 8) (drop (cursor.at / 8) out))) to
  put_done tail st to next carried v is =
      let j = cursor.at / 8 in
      let n = (cursor.at % 8 + w) / 8 in
      let k = (cursor.at % 8 + w + 7) / 8 in
      let long = length-drop j out in
      let none : drop (length out - j) (drop j out) ≡ [] = drop_of_length-le (drop j out) {i = length out - j} (omega (arith, r.fits)) in
      let l : length tail ≡ length out - j = st.long ∙ length-take-le (length out - j) (drop j out) (omega arith) in
      let f = filled out cursor w v r.begun narrow r.fits in
      let h = held out cursor w v r.begun narrow r.fits in
      let window_is : window ≡ f = ap (λ x. cursor.begun + x / 2 ^ (cursor.at % 8)) is ∙ filled_computed out cursor w v r.begun narrow r.fits in
      let after = take j out ++ tail in
      let after_is : after ≡ take j out ++ (tail ++ drop (length out - j) (drop j out)) = ap (λ x. take j out ++ x) (sym (ap (λ x. tail ++ x) none ∙ append-nil tail)) in
      let p : Spliced out after cursor.at (low w v) (cursor.at + w) = put_spliced out cursor w v r.begun narrow r.fits tail (st.first ∙ ap (λ x. take k (split 8 4 x)) window_is) l in
      let fits : f < 2 ^ 32 = filled_fits out cursor w v r.begun narrow r.fits in
      let begun : to.begun ≡ leading ((cursor.at + w) % 8) h =
      carried
      ∙ ap₂ (λ x y. (x * 2 ^ y) % 2 ^ 64 % 2 ^ 32) window_is (let e : n * 8 ≡ 8 * n = omega arith in e)
      ∙ ap (λ x. x % 2 ^ 32) (shl_exact {a = f} 32 (8 * n) 64 fits (omega arith))
      ∙ begun_computed out cursor w v r.begun narrow r.fits in
      let run = begun_run out cursor w v r.begun narrow r.fits after p in
      subst (λ x. Put (low w v) out cursor x to) after_is
      (record {
        spliced = subst (λ x. Spliced out after cursor.at (low w v) x) (sym next) p;
        begun = record {
          kept = h;
          is = subst (λ x. to.begun ≡ leading (x % 8) h) (sym next) begun;
          run = subst (λ x. take x (run_of after) ≡ take (8 * (x / 8)) (run_of after) ++ low (x % 8) h) (sym next) run;
        };
      })
