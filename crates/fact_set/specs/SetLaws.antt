-- A set of facts number by number: one fact put into it, and one asked for.
use Rattle.std.specs.Prelude.{◌≡◌, refl, Bool, true, false, ◌||◌, List, [], ◌∷◌, ◌++◌, eqb, length, drop, set, get_or, replicate}
use Rattle.std.proofs.Math.Path.{sym, ap₂}
use Rattle.std.proofs.Common.{◌∙◌, ap, subst, one-mul, mul-one, add-zero, zero-add, eq-eqb, ne_eqb, pow_pos, pow-add, drop_at}
use Rattle.std.proofs.Math.Bool.{or-false, or-true}
use Prim.Native.Nat.{ℕ, zero, suc, ◌+◌, ◌-◌, ◌*◌, ◌/◌, ◌%◌, ◌^◌, ◌≤◌, ◌<◌}
use Rattle.std.proofs.Math.Nat.{suc-mul}
use native.Mathlib.Omega.{arith}
use Rattle.std.proofs.Math.Pow.{pow-lt}
use Rattle.std.proofs.lemmas.Nat.{shl-shr, or_block}
use Rattle.std.specs.Int.Bits.{bit_or, or_zero_r}
use Rattle.model.specs.Fields.{joined, packed}
use Rattle.model.specs.Facts.{fact_count}
use Rattle.model.specs.Required.{one_bit, flags, fact_set}
use Rattle.laws.specs.FieldAt.{Narrow}
use Rattle.laws.proofs.WordLaws.{joined_small}
use Rattle.laws.proofs.FieldAtLaws.{packed_shift}
use Rattle.fact_set.specs.Sets.{Grown, Contained, numbers}

-- ---- one-bit fields
-- Flags that agree on so many facts.
flags_same : (a b : ℕ → Bool) (n from : ℕ) → ((f : ℕ) → from ≤ f → f < from + n → a f ≡ b f) → flags a from n ≡ flags b from n
flags_same a b zero from h = refl
flags_same a b (suc n) from h = ap₂ (λ x l. one_bit x ∷ l) (h from (omega arith) (omega arith)) (flags_same a b n (suc from) (λ f p q. h f (omega arith) (omega arith)))

length_flags : (a : ℕ → Bool) (n from : ℕ) → length (flags a from n) ≡ n
length_flags a zero from = refl
length_flags a (suc n) from = ap suc (length_flags a n (suc from))

-- A number of n + 1 flags: the first is the top bit.
top_flag : (n v : ℕ) (vs : List ℕ) → joined 1 (suc n) (v ∷ vs) ≡ v * 2 ^ n + joined 1 n vs
top_flag n v vs = ap (λ k. v * 2 ^ k + joined 1 n vs) (one-mul n)

small_bit : (b : Bool) → one_bit b < 2
small_bit true = omega arith
small_bit false = omega arith

pub narrow_flags : (a : ℕ → Bool) (n from : ℕ) → Narrow 1 (flags a from n)
narrow_flags a zero from = tt
narrow_flags a (suc n) from = (small_bit (a from), narrow_flags a n (suc from))

flags_small : (a : ℕ → Bool) (n from : ℕ) → joined 1 n (flags a from n) < 2 ^ n
flags_small a n from = subst (λ k. joined 1 n (flags a from n) < 2 ^ k) (one-mul n) (joined_small 1 n (flags a from n) (narrow_flags a n from))

-- ---- a set, number by number: m numbers of n facts each, from `from` on
pub flags_append : (a : ℕ → Bool) (n m from : ℕ) → flags a from (n + m) ≡ flags a from n ++ flags a (from + n) m
flags_append a zero m from = ap₂ (λ f k. flags a f k) (sym (add-zero from)) (zero-add m)
flags_append a (suc n) m from =
    ap (λ k. flags a from k) (let e : suc n + m ≡ suc (n + m) = omega arith in e)
    ∙ ap (λ l. one_bit (a from) ∷ l) (flags_append a n m (suc from) ∙ ap (λ f. flags a (suc from) n ++ flags a f m) (let e : suc from + n ≡ from + suc n = omega arith in e))

joined_front : (n : ℕ) (xs ys : List ℕ) → length xs ≡ n → joined 1 n (xs ++ ys) ≡ joined 1 n xs
joined_front zero xs ys h = refl
joined_front (suc n) [] ys h = let z : ⊥ = omega arith in absurd z
joined_front (suc n) (x ∷ xs) ys h = ap (λ r. x * 2 ^ (1 * n) + r) (joined_front n xs ys (omega arith))

packed_numbers : (named : ℕ → Bool) (n m from : ℕ) → packed 1 n m (flags named from (m * n)) ≡ numbers named n m from
unfolding numbers
packed_numbers named n zero from = refl
packed_numbers named n (suc m) from =
    let e : suc m * n ≡ n + m * n = omega (arith, suc-mul m n) in
    let fs : flags named from (suc m * n) ≡ flags named from n ++ flags named (from + n) (m * n) = ap (λ k. flags named from k) e ∙ flags_append named n (m * n) from in
    let l : length (flags named from n) ≡ n = length_flags named n from in
    ap (λ vs. joined 1 n vs ∷ packed 1 n m (drop n vs)) fs
    ∙ ap₂ (λ x vs. x ∷ packed 1 n m vs) (joined_front n (flags named from n) (flags named (from + n) (m * n)) l) (drop_at (flags named from n) (flags named (from + n) (m * n)) n l)
    ∙ ap (λ vs. joined 1 n (flags named from n) ∷ vs) (packed_numbers named n m (from + n))

pub set_numbers : (named : ℕ → Bool) → fact_set named ≡ numbers named 64 16 0
set_numbers named = packed_numbers named 64 16 0

numbers_same : (a b : ℕ → Bool) (n m from : ℕ) → ((f : ℕ) → from ≤ f → f < from + m * n → a f ≡ b f) → numbers a n m from ≡ numbers b n m from
unfolding numbers
numbers_same a b n zero from h = refl
numbers_same a b n (suc m) from h =
    let e : suc m * n ≡ n + m * n = omega (arith, suc-mul m n) in
    ap₂ (λ vs l. joined 1 n vs ∷ l) (flags_same a b n from (λ f p q. h f p (omega arith))) (numbers_same a b n m (from + n) (λ f p q. h f (omega arith) (omega arith)))

-- The empty set; and facts that are named alike make one set.
pub empty_set : replicate 16 0 ≡ fact_set (λ f. false)
empty_set = refl

pub same_set : (a b : ℕ → Bool) → ((f : ℕ) → f < fact_count → a f ≡ b f) → fact_set a ≡ fact_set b
same_set a b h = ap (λ l. packed 1 64 16 l) (flags_same a b fact_count 0 (λ f p q. h f (omega arith)))

-- ---- one fact more
or_one : (b : Bool) → bit_or (one_bit b) 1 ≡ 1
or_one true = refl
or_one false = refl

or_none : (b : Bool) → bit_or (one_bit b) 0 ≡ one_bit b
or_none true = refl
or_none false = refl

module _ (named : ℕ → Bool) (fact : ℕ) where
  abbrev more : ℕ → Bool
  more f = named f || eqb f fact

  other : (f : ℕ) → (f ≡ fact → ⊥) → more f ≡ named f
  other f h = ap (λ b. named f || b) (ne_eqb f fact h) ∙ or-false (named f)

  self : (f : ℕ) → f ≡ fact → more f ≡ true
  self f h = ap (λ b. named f || b) (eq-eqb f fact h) ∙ or-true (named f)

  -- The fact's bit, in a number of n facts of which it is the i-th.
  put_bit : (n i from : ℕ) → i < n → fact ≡ from + i → bit_or (joined 1 n (flags named from n)) (2 ^ (n - 1 - i)) ≡ joined 1 n (flags more from n)
  put_bit zero i from h e = let z : ⊥ = omega arith in absurd z
  put_bit (suc n) zero from h e =
      let r = joined 1 n (flags named (suc from) n) in
      let b = one_bit (named from) in
      let bit : 2 ^ (suc n - 1 - 0) ≡ 1 * 2 ^ n + 0 = ap (λ k. 2 ^ k) (let k : suc n - 1 - 0 ≡ n = omega arith in k) ∙ omega arith in
      let rest : flags named (suc from) n ≡ flags more (suc from) n = flags_same named more n (suc from) (λ f p q. sym (other f (λ x. let z : ⊥ = omega arith in z))) in
      ap₂ bit_or (top_flag n b (flags named (suc from) n)) bit
      ∙ or_block n b 1 r 0 (flags_small named n (suc from)) (pow_pos n)
      ∙ ap₂ (λ x y. x * 2 ^ n + y) (or_one (named from)) (or_zero_r r)
      ∙ ap₂ (λ x vs. one_bit x * 2 ^ n + joined 1 n vs) (sym (self from (let k : from ≡ fact = omega arith in k))) rest
      ∙ sym (top_flag n (one_bit (more from)) (flags more (suc from) n))
  put_bit (suc n) (suc i) from h e =
      let r = joined 1 n (flags named (suc from) n) in
      let b = one_bit (named from) in
      let p = 2 ^ (n - 1 - i) in
      let bit : 2 ^ (suc n - 1 - suc i) ≡ 0 * 2 ^ n + p = ap (λ k. 2 ^ k) (let k : suc n - 1 - suc i ≡ n - 1 - i = omega arith in k) ∙ omega arith in
      ap₂ bit_or (top_flag n b (flags named (suc from) n)) bit
      ∙ or_block n b 0 r p (flags_small named n (suc from)) (pow-lt (let k : n - 1 - i < n = omega arith in k))
      ∙ ap₂ (λ x y. x * 2 ^ n + y) (or_none (named from)) (put_bit n i (suc from) (omega arith) (omega arith))
      ∙ ap (λ x. one_bit x * 2 ^ n + joined 1 n (flags more (suc from) n)) (sym (other from (λ x. let z : ⊥ = omega arith in z)))
      ∙ sym (top_flag n (one_bit (more from)) (flags more (suc from) n))

  -- The fact's bit in its number, the k-th, and no other number changed.
  put_number : (n m k i from : ℕ) → k < m → i < n → fact ≡ from + k * n + i →
      set (numbers named n m from) k (bit_or (get_or (numbers named n m from) k 0) (2 ^ (n - 1 - i))) ≡ numbers more n m from
  unfolding numbers
  put_number n zero k i from hk hi e = let z : ⊥ = omega arith in absurd z
  put_number n (suc m) zero i from hk hi e =
      ap₂ (λ x l. x ∷ l) (put_bit n i from hi (omega arith)) (numbers_same named more n m (from + n) (λ f p q. sym (other f (λ x. let z : ⊥ = omega arith in z))))
  put_number n (suc m) (suc k) i from hk hi e =
      let s : suc k * n ≡ k * n + n = suc-mul k n in
      ap₂ (λ vs l. joined 1 n vs ∷ l) (flags_same named more n from (λ f p q. sym (other f (λ x. let z : ⊥ = omega arith in z))))
      (put_number n m k i (from + n) (omega arith) hi (omega arith))

-- The top bit of 64, so many places to the right.
bit_at : (i : ℕ) → i < 64 → 9223372036854775808 / 2 ^ i ≡ 2 ^ (64 - 1 - i)
bit_at i h =
    ap (λ k. 2 ^ k / 2 ^ i) (let e : 63 ≡ 64 - 1 - i + i = omega arith in e) ∙ ap (λ x. x / 2 ^ i) (pow-add 2 (64 - 1 - i) i) ∙ shl-shr (2 ^ (64 - 1 - i)) i

length_numbers : (named : ℕ → Bool) (n m from : ℕ) → length (numbers named n m from) ≡ m
unfolding numbers
length_numbers named n zero from = refl
length_numbers named n (suc m) from = ap suc (length_numbers named n m (from + n))

-- A fact is put into a set.
pub put_fact : (fact : ℕ) (before : List ℕ) → fact / 64 < length before →
    Grown (λ f. eqb f fact) before (set before (fact / 64) (bit_or (get_or before (fact / 64) 0) (9223372036854775808 / 2 ^ (fact % 64))))
put_fact fact before h = record {
  grown = λ named e.
      let s : before ≡ numbers named 64 16 0 = e ∙ set_numbers named in
      let l : length before ≡ 16 = ap length s ∙ length_numbers named 64 16 0 in
      ap₂ (λ b x. set b (fact / 64) (bit_or (get_or b (fact / 64) 0) x)) s (bit_at (fact % 64) (omega arith))
      ∙ put_number named fact 64 16 (fact / 64) (fact % 64) 0 (omega arith) (omega arith) (omega arith)
      ∙ sym (set_numbers (λ f. named f || eqb f fact));
}

-- A fact for which the set has no number is none of its facts.
pub no_fact : (fact : ℕ) (before : List ℕ) → length before ≤ fact / 64 → Grown (λ f. eqb f fact) before before
no_fact fact before h = record {
  grown = λ named e.
      let s : before ≡ numbers named 64 16 0 = e ∙ set_numbers named in
      let l : length before ≡ 16 = ap length s ∙ length_numbers named 64 16 0 in
      s ∙ numbers_same named (λ f. named f || eqb f fact) 64 16 0 (λ f p q. sym (other named fact f (λ x. let z : ⊥ = omega arith in z)))
      ∙ sym (set_numbers (λ f. named f || eqb f fact));
}

-- ---- a fact asked for
flag_at : (a : ℕ → Bool) (n from i : ℕ) → i < n → get_or (flags a from n) i 0 ≡ one_bit (a (from + i))
flag_at a zero from i h = absurd (omega arith)
flag_at a (suc n) from zero h = ap (λ f. one_bit (a f)) (let e : from ≡ from + zero = omega arith in e)
flag_at a (suc n) from (suc i) h = flag_at a n (suc from) i (omega arith) ∙ ap (λ f. one_bit (a f)) (let e : suc from + i ≡ from + suc i = omega arith in e)

one_is : (b : Bool) → eqb (one_bit b) 1 ≡ b
one_is true = refl
one_is false = refl

-- The fact's bit tells whether the set has it.
pub has_fact : (fact : ℕ) (set : List ℕ) → fact / 64 < length set → Contained fact set (eqb (get_or set (fact / 64) 0 / 2 ^ (63 - fact % 64) % 2) 1)
has_fact fact set h = record {
  is_named = λ named e p.
      let at = fact / 64 * 64 + fact % 64 in
      ap₂ (λ s k. eqb (get_or s (fact / 64) 0 / 2 ^ (63 - k) % 2) 1) e (sym (mul-one (fact % 64)))
      ∙ ap (λ x. eqb x 1) (packed_shift 1 63 16 (fact / 64) (fact % 64) (flags named 0 1024) (narrow_flags named 1024 0) (omega arith) (omega arith) ∙ flag_at named 1024 0 at (omega arith))
      ∙ one_is (named (0 + at))
      ∙ ap named (let k : 0 + at ≡ fact = omega arith in k);
  too_short = λ s. let z : ⊥ = omega arith in absurd z;
}
