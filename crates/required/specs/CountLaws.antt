-- The one bits of a set counted.
use Rattle.std.specs.Prelude.{◌≡◌, refl, Bool, true, false, cond, List, [], ◌∷◌, ◌++◌, ℕ, zero, suc, ◌+◌, ◌*◌, ◌/◌, ◌%◌, ◌^◌, ◌≤◌, ◌<◌, length, drop, get_or}
use Rattle.std.proofs.Common.{sym, ◌∙◌, ap, ap₂, one-mul, add_comm, div-add-mod', mod-lt, add-one, arith, pow_pos, shr_lt, drop_of_length-le, drop-cons}
use Rattle.std.specs.Int.Count as count
use Rattle.model.specs.Fields.{split, joined}
use Rattle.model.specs.Required.{one_bit, flags, fact_set, total, ones}
use Rattle.laws.specs.FieldAt.{padded}
use Rattle.laws.proofs.WordLaws.{split_joined}
use Rattle.fact_set.specs.Sets.{numbers}
use Rattle.fact_set.specs.SetLaws.{narrow_flags, flags_append, set_numbers}
use Rattle.required.specs.Sets.{named_from, how_many}

total_append : (xs ys : List ℕ) → total (xs ++ ys) ≡ total xs + total ys
total_append [] ys = omega arith
total_append (x ∷ xs) ys = omega (arith, total_append xs ys)

low_bit : (v : ℕ) → v < 2 → count.ones v ≡ v
unfolding count.ones
low_bit zero h = refl
low_bit (suc zero) h = refl
low_bit (suc (suc v)) h = let z : ⊥ = omega arith in absurd z

-- The one bits of a number are the total of its one-bit fields.
ones_total : (n w : ℕ) → w < 2 ^ n → count.ones w ≡ total (split 1 n w)
ones_total zero w h = ap count.ones (let e : w ≡ 0 = omega arith in e) ∙ low_bit 0 (omega arith)
ones_total (suc n) w h =
    let v = w / 2 ^ n in
    let r = w % 2 ^ n in
    let hv : v < 2 = shr_lt 1 n (let k : w < 2 ^ (1 + n) = rw (add_comm 1 n, add-one) h in k) in
    ap count.ones (sym (div-add-mod' w (2 ^ n)))
    ∙ count.ones_cat n v r (mod-lt w (pow_pos n))
    ∙ ap₂ (λ x y. x + y) (low_bit v hv) (ones_total n r (mod-lt w (pow_pos n)))
    ∙ ap (λ k. total (w / 2 ^ k ∷ split 1 n (w % 2 ^ k))) (sym (one-mul n))

padded_flags : (a : ℕ → Bool) (n from : ℕ) → padded n (flags a from n) ≡ flags a from n
padded_flags a zero from = refl
padded_flags a (suc n) from = ap (λ l. one_bit (a from) ∷ l) (padded_flags a n (suc from))

-- Flags are as many ones as there are named facts.
total_cond : (b : Bool) (from : ℕ) (l : List ℕ) → one_bit b + length l ≡ length (cond b (from ∷ l) l)
total_cond true from l = omega arith
total_cond false from l = omega arith

total_flags : (a : ℕ → Bool) (n from : ℕ) → total (flags a from n) ≡ length (named_from a from n)
unfolding named_from
total_flags a zero from = refl
total_flags a (suc n) from = ap (λ x. one_bit (a from) + x) (total_flags a n (suc from)) ∙ total_cond (a from) from (named_from a (suc from) n)

total_number : (a : ℕ → Bool) (n from : ℕ) → total (split 1 n (joined 1 n (flags a from n))) ≡ length (named_from a from n)
total_number a n from = ap total (split_joined 1 n (flags a from n) (narrow_flags a n from) ∙ padded_flags a n from) ∙ total_flags a n from

named_append : (a : ℕ → Bool) (n m from : ℕ) → length (named_from a from (n + m)) ≡ length (named_from a from n) + length (named_from a (from + n) m)
named_append a n m from =
    sym (total_flags a (n + m) from) ∙ ap total (flags_append a n m from) ∙ total_append (flags a from n) (flags a (from + n) m)
    ∙ ap₂ (λ x y. x + y) (total_flags a n from) (total_flags a m (from + n))

ones_numbers : (a : ℕ → Bool) (m from : ℕ) → ones (numbers a 64 m from) ≡ length (named_from a from (m * 64))
unfolding numbers named_from
ones_numbers a zero from = refl
ones_numbers a (suc m) from =
    ap₂ (λ x y. x + y) (total_number a 64 from) (ones_numbers a m (from + 64))
    ∙ sym (named_append a 64 (m * 64) from)
    ∙ ap (λ k. length (named_from a from k)) (let e : 64 + m * 64 ≡ suc m * 64 = omega arith in e)

-- The one bits of a set are as many as the facts that are named.
pub ones_named : (named : ℕ → Bool) → ones (fact_set named) ≡ how_many named
ones_named named = ap ones (set_numbers named) ∙ ones_numbers named 16 0

-- The numbers of a set are counted one after the other.
pub ones_next : (numbers : List ℕ) (i : ℕ) → i < length numbers → get_or numbers i 0 < 2 ^ 64 → ones (drop i numbers) ≡ count.ones (get_or numbers i 0) + ones (drop (i + 1) numbers)
ones_next numbers i h k =
    ap ones (drop-cons numbers i 0 h) ∙ ap₂ (λ x j. x + ones (drop j numbers)) (sym (ones_total 64 (get_or numbers i 0) k)) (sym (add-one i))

pub ones_end : (numbers : List ℕ) (i : ℕ) → length numbers ≤ i → ones (drop i numbers) ≡ 0
ones_end numbers i h = ap ones (drop_of_length-le numbers h)
