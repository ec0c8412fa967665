-- Bits that were put one after the other, and the bytes that they make.
use Rattle.std.specs.Prelude.{◌≡◌, refl, List, ◌++◌, ℕ, ◌+◌, ◌-◌, ◌*◌, ◌%◌, ◌^◌, ◌≤◌, ◌<◌, length, take}
use Rattle.std.proofs.Common.{sym, ◌∙◌, ap, subst, append_assoc, mod-eq_of_lt, arith, length-append, take_at, take-take, take_all, length-take-le}
use Rattle.model.specs.Fields.{words_for}
use Rattle.model.specs.Bits.{bits_of, run_of, bytes_of}
use Rattle.laws.specs.FieldAt.{Narrow}
use Rattle.laws.proofs.BitLaws.{length_bits_lem, length_run, same_bytes}
use Rattle.bits.specs.Splice.{low, whole, fill, Spliced}

pub length_low : (w v : ℕ) → length (low w v) ≡ w
unfolding low
length_low w v = length_bits_lem w (v % 2 ^ w)

pub low_is : (w v : ℕ) → v < 2 ^ w → low w v ≡ bits_of w v
unfolding low
low_is w v h = ap (bits_of w) (mod-eq_of_lt h)

pub low_of : (w v : ℕ) → low w v ≡ bits_of w (v % 2 ^ w)
unfolding low
low_of w v = refl

-- ---- bits, and then more bits
module _ {a b : List ℕ} {at r : ℕ} {bs : List ℕ} (s : Spliced a b at bs r) (h : at ≤ 8 * length a) where
  -- The bits up to where they end.
  pub spliced_front : take r (run_of b) ≡ take at (run_of a) ++ bs
  spliced_front =
      let front = take at (run_of a) ++ bs in
      let n = s.next in
      let l : length front ≡ r = length-append (take at (run_of a)) bs ∙ ap (λ x. x + length bs) (length-take-le at (run_of a) (omega (arith, length_run a))) ∙ sym n in
      sym (take-take r (whole r) (run_of b) (omega arith))
      ∙ ap (take r) (s.run ∙ sym (append_assoc (take at (run_of a)) bs (fill r)))
      ∙ take_at front (fill r) r l

  -- The last byte is filled with 0 bits.
  pub spliced_clear : take (whole r) (run_of b) ≡ take r (run_of b) ++ fill r
  spliced_clear = s.run ∙ sym (append_assoc (take at (run_of a)) bs (fill r)) ∙ ap (λ l. l ++ fill r) (sym spliced_front)

pub then_spliced : {a b c : List ℕ} {at r q : ℕ} {bs cs : List ℕ} → Spliced a b at bs r → Spliced b c r cs q → at ≤ 8 * length a → Spliced a c at (bs ++ cs) q
then_spliced {a} {b} {c} {at} {r} {q} {bs} {cs} s t h =
    let n = s.next in
    let m = t.next in
    record {
      next = omega (arith, length-append bs cs);
      run =
          t.run
          ∙ ap (λ l. l ++ (cs ++ fill q)) (spliced_front s h)
          ∙ append_assoc (take at (run_of a)) bs (cs ++ fill q)
          ∙ ap (λ l. take at (run_of a) ++ l) (sym (append_assoc bs cs (fill q)));
      long = t.long ∙ s.long;
    }

pub same_spliced : {a b : List ℕ} {at r : ℕ} {bs cs : List ℕ} → bs ≡ cs → Spliced a b at bs r → Spliced a b at cs r
same_spliced {a} {b} {at} {r} e s = subst (λ l. Spliced a b at l r) e s

-- The bytes of a whole run, where the output has just those.
pub all_spliced : (out after bs : List ℕ) (r : ℕ) → Narrow 8 after → length out ≡ words_for 8 (length bs) → Spliced out after 0 bs r → after ≡ bytes_of bs
all_spliced out after bs r k e s =
    let n = s.next in
    let l : length (run_of after) ≤ whole r = omega (arith, length_run after, s.long) in
    sym (same_bytes after bs (whole r - r) k (omega arith) (sym (take_all (whole r) (run_of after) l) ∙ s.run))
