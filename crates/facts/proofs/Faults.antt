-- The first fault of a table, for a table of either kind. Assumes nothing.
use mathlib.Core.Path.{◌≡◌, refl, ap, ◌∙◌}
use mathlib.Core.Bool.{Bool, true, ◌&&◌, and_assoc}
use mathlib.Core.Option.{Option, none, some}
use mathlib.Core.List.{List, [], ◌∷◌, ◌++◌}
use Prim.Native.Nat.{ℕ, zero, suc, ◌+◌, ◌*◌, ◌/◌, ◌≤◌, ◌<◌}
use native.Mathlib.Numerals.{add-one}
use native.Mathlib.Omega.{arith}
use lib.Bits.{bit_and, bit_or, and_le_r, or_add_and}
use lib.Dec.{eqb, eqb-suc-zero}
use lib.ListN.{length, get_or, drop, drop_of_length-le}
use lib.Seq.{drop-cons}
use borrow.Author.Tests.{ne_eqb}
use Rattle.std.proofs.lemmas.Bool.{agree_below, agree_below_at}
use Rattle.model.specs.Fields.{split}
use Rattle.model.specs.Facts.{TableKind, partial_facts, known_facts, table_fields, field_fault, or_fault, first_fault}
use Rattle.laws.proofs.UnpackedLaws.{length_fields}
use Rattle.facts.specs.Answers.{no_fault}

-- ---- of two faults the first
or_assoc : (a b c : Option ℕ) → or_fault (or_fault a b) c ≡ or_fault a (or_fault b c)
or_assoc none b c = refl
or_assoc (some n) b c = refl

no_fault_or : (a b : Option ℕ) → no_fault (or_fault a b) ≡ (no_fault a && no_fault b)
no_fault_or none b = refl
no_fault_or (some n) b = refl

-- ---- the marks of a byte: none exactly where no field is at fault, computed for each byte and either kind of table
abbrev marks_of : TableKind → ℕ → ℕ
marks_of partial_facts b = bit_and (bit_and b (b / 2)) 85
marks_of known_facts b = bit_and b 170

abbrev unmarked : TableKind → ℕ → Bool
unmarked k b = eqb (marks_of k b) 0

abbrev flawless : TableKind → ℕ → Bool
flawless k b = no_fault (first_fault k (split 2 4 b))

each_byte : (k : TableKind) → agree_below (unmarked k) (flawless k) 256 ≡ true
each_byte partial_facts = refl
each_byte known_facts = refl

pub marks_say : (k : TableKind) (b : ℕ) → b < 256 → eqb (marks_of k b) 0 ≡ no_fault (first_fault k (split 2 4 b))
marks_say k b h = agree_below_at (unmarked k) (flawless k) 256 b (each_byte k) h

pub or_zero : (a b : ℕ) → eqb (bit_or a b) 0 ≡ (eqb a 0 && eqb b 0)
or_zero zero b = refl
or_zero (suc a) b = rw eqb-suc-zero (ne_eqb (bit_or (suc a) b) 0 (λ e. omega (arith, or_add_and (suc a) b, and_le_r (suc a) b)))

module _ (k : TableKind) where
  -- ---- byte by byte
  fault_append : (xs ys : List ℕ) → first_fault k (xs ++ ys) ≡ or_fault (first_fault k xs) (first_fault k ys)
  fault_append [] ys = refl
  fault_append (x ∷ xs) ys = rw (or_assoc, fault_append xs ys)

  byte_first :
      (b : ℕ) (bs : List ℕ) →
      no_fault (first_fault k (table_fields (b ∷ bs))) ≡ (no_fault (first_fault k (split 2 4 b)) && no_fault (first_fault k (table_fields bs)))
  byte_first b bs =
      ap no_fault (fault_append (split 2 4 b) (table_fields bs)) ∙ no_fault_or (first_fault k (split 2 4 b)) (first_fault k (table_fields bs))

  -- A byte is passed, and its marks join those so far.
  pub pass_byte :
      (bs : List ℕ) (i marked marks : ℕ) → i < length bs → eqb marks 0 ≡ no_fault (first_fault k (split 2 4 (get_or bs i 0))) →
      (eqb marked 0 && no_fault (first_fault k (table_fields (drop i bs)))) ≡
      (eqb (bit_or marked marks) 0 && no_fault (first_fault k (table_fields (drop (i + 1) bs))))
  pass_byte bs i marked marks h e = rw (drop-cons bs i 0, byte_first, ← e, or_zero, and_assoc, add-one)

  -- ---- field by field
  pub pass_field :
      (bs : List ℕ) (f field : ℕ) (fault : Option ℕ) →
      f < 4 * length bs → field ≡ get_or (table_fields bs) f 0 → fault ≡ field_fault k field →
      first_fault k (drop f (table_fields bs)) ≡ or_fault fault (first_fault k (drop (f + 1) (table_fields bs)))
  pass_field bs f field fault h e g =
      let p : f < length (table_fields bs) = omega (arith, length_fields bs) in
      rw (drop-cons (table_fields bs) f 0, g, e, add-one)

  pub no_field_left : (bs : List ℕ) (f : ℕ) → 4 * length bs ≤ f → first_fault k (drop f (table_fields bs)) ≡ none
  no_field_left bs f h =
      let p : length (table_fields bs) ≤ f = omega (arith, length_fields bs) in
      rw (drop_of_length-le (table_fields bs) p)
