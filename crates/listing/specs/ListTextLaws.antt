-- Lists of fields: the listing's text grows by a comma and a field, and is as long as it may be.
use Rattle.std.specs.Prelude.{◌≡◌, Bool, true, false, cond, ℕ, zero, suc, ◌+◌, ◌*◌, ◌/◌, ◌%◌, ◌≤◌, ◌<◌, ltb, length, drop}
use Rattle.std.proofs.Math.Path.{refl, ap}
use Rattle.std.proofs.Common.{sym, ◌∙◌, subst, mul-one, mul-suc, arith, length-append}
use mathlib.Core.List.{List, [], ◌∷◌, ◌++◌, map, map-append, append_assoc, append-nil}
use Rattle.std.proofs.Math.ListN.{length-map}
use Rattle.model.specs.Facts.{Presence, absent, present, unknown, silent}
use Rattle.model.specs.Writing.{seen_in}
use Rattle.model.specs.Listing.{text, digits, decimal, commas, list_of, presence_text}
use Rattle.laws.specs.FieldAt.{field_at, firsts}
use Rattle.laws.proofs.FieldAtLaws.{length_firsts}
use Rattle.listing.specs.declared.Listed.{Listed}
use Rattle.listing.specs.declared.Listed.TheVariants.{Obligations, Facts, Consulted as Entries}
use Rattle.listing.specs.Texts.{width_of, most_of, field_text, fields_text}

-- ---- commas
commas_more : (xs : List (List ℕ)) (y : List ℕ) → commas (xs ++ y ∷ []) ≡ commas xs ++ 44 ∷ y
commas_more [] y = ap (λ l. 44 ∷ l) (append-nil y)
commas_more (x ∷ xs) y = ap (λ l. 44 ∷ (x ++ l)) (commas_more xs y) ∙ ap (λ l. 44 ∷ l) (sym (append_assoc x (commas xs) (44 ∷ y)))

list_more : (xs : List (List ℕ)) (y : List ℕ) → 0 < length xs → list_of (xs ++ y ∷ []) ≡ list_of xs ++ 44 ∷ y
list_more [] y h = let z : ⊥ = omega arith in absurd z
list_more (x ∷ xs) y h = ap (λ l. x ++ l) (commas_more xs y) ∙ sym (append_assoc x (commas xs) (44 ∷ y))

module _ (kind : Listed) (ws : List ℕ) (at : ℕ) where
  abbrev Field : ℕ → ℕ
  Field i = field_at (width_of kind) (drop at ws) i

  pub fields_none : fields_text kind ws at 0 ≡ text "-"
  unfolding fields_text firsts
  fields_none = refl

  pub fields_one : fields_text kind ws at 1 ≡ field_text kind (Field 0)
  unfolding fields_text firsts
  fields_one = append-nil (field_text kind (Field 0))

  pub fields_more : (n : ℕ) → 0 < n → fields_text kind ws at (suc n) ≡ fields_text kind ws at n ++ 44 ∷ field_text kind (Field n)
  unfolding fields_text firsts
  fields_more n h =
      ap list_of (map-append (field_text kind) (firsts (λ i. Field i) n) (Field n ∷ []))
      ∙ list_more (map (field_text kind) (firsts (λ i. Field i) n)) (field_text kind (Field n))
      (omega (arith, length-map (firsts (λ i. Field i) n) (field_text kind), length_firsts (λ i. Field i) n))

-- ---- lengths
pub length_digits : (base n v : ℕ) → length (digits base n v) ≡ n
length_digits base zero v = refl
length_digits base (suc n) v = omega (arith, length-append (digits base n (v / base)) (cond (ltb (v % base) 10) (48 + v % base) (55 + v % base) ∷ []), length_digits base n (v / base))

few_places : (a b c : Bool) → cond a 1 (cond b 2 (cond c 3 4)) ≤ 4
few_places true b c = omega arith
few_places false true c = omega arith
few_places false false true = omega arith
few_places false false false = omega arith

pub length_decimal : (v : ℕ) → length (decimal v) ≤ 4
length_decimal v =
    let n : ℕ = cond (ltb v 10) 1 (cond (ltb v 100) 2 (cond (ltb v 1000) 3 4)) in
    subst (λ k. k ≤ 4) (sym (length_digits 10 n v)) (few_places (ltb v 10) (ltb v 100) (ltb v 1000))

pub length_presence : (p : Presence) → length (presence_text p) ≤ 7
length_presence absent = omega arith
length_presence present = omega arith
length_presence unknown = omega arith
length_presence silent = omega arith

pub least_most : (kind : Listed) → (5 ≤ most_of kind) × (most_of kind ≤ 13)
least_most Obligations = (omega arith, omega arith)
least_most Facts = (omega arith, omega arith)
least_most Entries = (omega arith, omega arith)

pub length_field : (kind : Listed) (b : ℕ) → length (field_text kind b) < most_of kind
unfolding field_text
length_field Obligations b = omega (arith, length_decimal b)
length_field Facts b = omega (arith, length_decimal b)
length_field Entries b =
    omega (arith, length-append (decimal (b % 16384)) (61 ∷ presence_text (seen_in (b / 16384))), length_decimal (b % 16384), length_presence (seen_in (b / 16384)))

pub length_fields : (kind : Listed) (ws : List ℕ) (at n : ℕ) → length (fields_text kind ws at n) ≤ 1 + most_of kind * n
length_fields kind ws at zero = omega (arith, ap length (fields_none kind ws at))
length_fields kind ws at (suc zero) =
    let one : most_of kind * 1 ≡ most_of kind = mul-one (most_of kind) in
    omega (arith, ap length (fields_one kind ws at), length_field kind (field_at (width_of kind) (drop at ws) 0))
length_fields kind ws at (suc (suc n)) =
    let b = field_at (width_of kind) (drop at ws) (suc n) in
    let more : most_of kind * suc (suc n) ≡ most_of kind * suc n + most_of kind = mul-suc (most_of kind) (suc n) in
    omega (arith, ap length (fields_more kind ws at (suc n) (omega arith)), length-append (fields_text kind ws at (suc n)) (44 ∷ field_text kind b), length_field kind b, length_fields kind ws at (suc n))

pub length_named : (name : List ℕ) (kind : Listed) (ws : List ℕ) (at n : ℕ) → length (name ++ fields_text kind ws at n) ≤ length name + (1 + most_of kind * n)
length_named name kind ws at n = omega (arith, length-append name (fields_text kind ws at n), length_fields kind ws at n)
