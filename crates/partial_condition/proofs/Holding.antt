-- The arms that a list rule holds, from one arm to the next and at the end. Assumes nothing.
use mathlib.Core.Path.{◌≡◌, refl, sym, ◌∙◌, ap}
use mathlib.Core.List.{List, ◌∷◌, ◌++◌, append_assoc, append-nil}
use Prim.Native.Nat.{ℕ, suc, ◌+◌, ◌≤◌, min}
use native.Mathlib.Omega.{arith}
use lib.ListN.{length, get_or}
use Rattle.model.specs.Condition.{Condition, Conditions, cnil, ccons}
use Rattle.model.specs.Writing.{count_c, encode_c, encode_cs}
use Rattle.laws.specs.Size.{words_c, words_cs}
use Rattle.laws.proofs.Lengths.{length_encode_c}
use Rattle.sizes.specs.Laid.{capped, Laid}
use Rattle.sizes.specs.LaidLaws.{laid_as, laid_none, laid_then}
use Rattle.partial_condition.specs.declared.Kept.{Kept}
use Rattle.partial_condition.specs.Holding.{Holding, Keeps}
use Rattle.partial_condition.proofs.Laying.{Returned, front_same, laid_under, laid_gap, laid_moved}

-- ---- one arm more, at the end
abbrev pub snoc_c : Conditions → Condition → Conditions
snoc_c cnil c = ccons c cnil
snoc_c (ccons d ds) c = ccons d (snoc_c ds c)

words_snoc : (cs : Conditions) (c : Condition) → words_cs (snoc_c cs c) ≡ words_cs cs + words_c c
words_snoc cnil c = omega arith
words_snoc (ccons d ds) c = omega (arith, words_snoc ds c)

encode_snoc : (cs : Conditions) (c : Condition) → encode_cs (snoc_c cs c) ≡ encode_cs cs ++ encode_c c
encode_snoc cnil c = append-nil (encode_c c)
encode_snoc (ccons d ds) c = ap (λ ws. encode_c d ++ ws) (encode_snoc ds c) ∙ sym (append_assoc (encode_c d) (encode_cs ds) (encode_c c))

count_snoc : (cs : Conditions) (c : Condition) → count_c (snoc_c cs c) ≡ suc (count_c cs)
count_snoc cnil c = refl
count_snoc (ccons d ds) c = ap suc (count_snoc ds c)

-- ---- what is held after an arm
-- A known arm drops out, whatever it left in its part.
module _ (h : Kept) (from : ℕ) (mid part after : List ℕ) (b : Returned h.used from mid part after) where
  pub held_same : (cs : Conditions) → Holding cs mid h → Holding cs after h
  held_same cnil k = k
  held_same (ccons c cnil) k = (k.0, k.1, laid_under from k.2 b.long (front_same b) (λ h room. omega (arith, b.from_is, k.1)))
  held_same (ccons c (ccons d cs)) k = (k.0, record { free = k.1.free; laid = laid_under from k.1.laid b.long (front_same b) (λ h room. omega (arith, b.from_is)) })

-- One that is left stands behind those that are held.
module _ (h g : Kept) (n : ℕ) (from : ℕ) (mid part before after : List ℕ) (b : Returned h.used from mid part before) (e : Keeps h n before g after) where
  pub held_more : (cs : Conditions) (c : Condition) → Laid (words_c c) (encode_c c) part n → Holding cs mid h → Holding (snoc_c cs c) after g
  held_more cnil c l k =
      let size : n ≡ capped (0 + n) = omega (arith, l.size_is) in
      rw ((e.first_held k.0).0, (e.first_held k.0).1, b.back)
      (refl, refl, laid_as (omega arith) refl (laid_then (laid_none mid) l (b.from_is ∙ ap (λ n. min n (length mid)) k.1) b.part_long size))
  held_more (ccons d cnil) c l k =
      let a : h.first ≡ capped (words_c d) = k.2.size_is in
      let both = laid_then (laid_gap k.2 k.1) l b.from_is b.part_long refl in
      let moved = laid_moved (words_c d) (words_c c) (get_or mid h.first 0) (encode_c d) (encode_c c) (length_encode_c d) a (rw (sym b.back) at both) (e.second_held k.0).1 in
      rw (e.second_held k.0).0
      (omega (arith, k.0), record { free = get_or before 0 0; laid = laid_as (omega arith) (ap (λ ws. get_or before 0 0 ∷ (encode_c d ++ ws)) (sym (append-nil (encode_c c)))) moved })
  held_more (ccons d (ccons f ds)) c l k =
      let some : 2 ≤ h.count = omega (arith, k.0) in
      rw ((e.more_held some).0, (e.more_held some).1, b.back) (
        omega (arith, k.0, count_snoc ds c),
        record {
          free = k.1.free;
          laid = laid_as (omega (arith, words_snoc (ccons d (ccons f ds)) c)) (ap (λ ws. k.1.free ∷ ws) (sym (encode_snoc (ccons d (ccons f ds)) c))) (laid_then k.1.laid l b.from_is b.part_long refl);
        },
      )
