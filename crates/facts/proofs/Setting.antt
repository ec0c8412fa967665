-- One field of a byte set: what the field counts is taken away, and what the new value counts added. Assumes nothing.
use mathlib.Core.Path.{◌≡◌, refl, sym, ◌∙◌, ap₂, subst}
use Prim.Native.Nat.{ℕ, zero, suc, ◌+◌, ◌-◌, ◌*◌, ◌/◌, ◌%◌, ◌^◌, ◌≤◌, ◌<◌}
use native.Mathlib.Omega.{arith}
use lib.Bits.{bit_and, and_high}
use lib.ListN.{get_or, set}
use Rattle.model.specs.Fields.{split}
use Rattle.laws.proofs.ShiftLaws.{split_shift}
use Rattle.laws.proofs.FieldSetLaws.{unit_at, replaced}

abbrev old_of : ℕ → ℕ → ℕ
old_of byte place = byte / 2 ^ (6 - place * 2) % 4

abbrev one_at : ℕ → ℕ
one_at place = 64 / 2 ^ (place * 2)

four : (P : ℕ → Type 0) → P 0 → P 1 → P 2 → P 3 → (n : ℕ) → n < 4 → P n
four P a b c d zero h = a
four P a b c d (suc zero) h = b
four P a b c d (suc (suc zero)) h = c
four P a b c d (suc (suc (suc zero))) h = d
four P a b c d (suc (suc (suc (suc n)))) h = absurd (omega arith)

one_is : (place : ℕ) → place < 4 → unit_at 2 4 place ≡ one_at place
one_is = four (λ k. unit_at 2 4 k ≡ one_at k) refl refl refl refl

-- What the bits of a field count in a byte.
abbrev pub in_field : ℕ → ℕ → ℕ
in_field byte place = bit_and byte (192 / 2 ^ (place * 2))

in_field_lem : (byte place : ℕ) → place < 4 → in_field byte place ≡ old_of byte place * one_at place
in_field_lem byte = four (λ k. in_field byte k ≡ old_of byte k * one_at k) (and_high byte 2 6) (and_high byte 2 4) (and_high byte 2 2) (and_high byte 2 0)

-- All four fields of 85 times a value are the value.
all_four : (place value : ℕ) → place < 4 → value < 4 → old_of (value * 85) place ≡ value
all_four place value p v =
    four (λ k. (n : ℕ) → n < 4 → old_of (n * 85) k ≡ n)
    (four (λ n. old_of (n * 85) 0 ≡ n) refl refl refl refl) (four (λ n. old_of (n * 85) 1 ≡ n) refl refl refl refl)
    (four (λ n. old_of (n * 85) 2 ≡ n) refl refl refl refl) (four (λ n. old_of (n * 85) 3 ≡ n) refl refl refl refl) place p value v

pub record Placed (byte place value : ℕ) : Type 0 where
  pub held : in_field byte place ≤ byte
  pub fits : byte - in_field byte place + in_field (value * 85) place < 256
  pub fields : split 2 4 (byte - in_field byte place + in_field (value * 85) place) ≡ set (split 2 4 byte) place value

pub placed : (byte place value : ℕ) → byte < 256 → place < 4 → value < 4 → Placed byte place value
placed byte place value b p v =
    let r = replaced 2 3 place byte value p b v in
    let old : get_or (split 2 4 byte) place 0 ≡ old_of byte place = sym (split_shift 2 3 place byte b (omega arith)) in
    let one = one_is place p in
    let taken : get_or (split 2 4 byte) place 0 * unit_at 2 4 place ≡ in_field byte place = ap₂ (λ x y. x * y) old one ∙ sym (in_field_lem byte place p) in
    let added : value * unit_at 2 4 place ≡ in_field (value * 85) place = ap₂ (λ x y. x * y) (sym (all_four place value p v)) one ∙ sym (in_field_lem (value * 85) place p) in
    record {
      held = subst (λ x. x ≤ byte) taken r.held;
      fits = subst (λ x. byte - x + in_field (value * 85) place < 256) taken (subst (λ y. byte - get_or (split 2 4 byte) place 0 * unit_at 2 4 place + y < 256) added r.fits);
      fields = sym (ap₂ (λ x y. split 2 4 (byte - x + y)) taken added) ∙ r.fields;
    }
