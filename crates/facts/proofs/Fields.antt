-- A table by its bytes: fact f has the field at place f % 4 of byte f / 4, and past the last byte the table is silent. Assumes nothing.
use mathlib.Core.Path.{◌≡◌, refl, sym, ◌∙◌, ap}
use mathlib.Core.List.{List, [], ◌∷◌, ◌++◌}
use Prim.Native.Nat.{ℕ, zero, suc, ◌-◌, ◌*◌, ◌/◌, ◌%◌, ◌^◌, ◌≤◌, ◌<◌}
use native.Mathlib.Omega.{arith}
use lib.ListN.{length, get_or, set, get_or-eq_default}
use Rattle.model.specs.Fields.{split}
use Rattle.model.specs.Facts.{silent, presence, table_fields, observed, table_of}
use Rattle.laws.proofs.ShiftLaws.{split_shift, split_none}
use Rattle.laws.proofs.UnpackedLaws.{length_fields}
use Rattle.facts.specs.Answers.{is_present, is_settled}

field_at_lem : (bs : List ℕ) (f : ℕ) → get_or (table_fields bs) f 0 ≡ get_or (split 2 4 (get_or bs (f / 4) 0)) (f % 4) 0
field_at_lem [] f = sym (split_none 2 4 (f % 4))
field_at_lem (b ∷ bs) zero = refl
field_at_lem (b ∷ bs) (suc zero) = refl
field_at_lem (b ∷ bs) (suc (suc zero)) = refl
field_at_lem (b ∷ bs) (suc (suc (suc zero))) = refl
field_at_lem (b ∷ bs) (suc (suc (suc (suc f)))) =
    let q : suc (suc (suc (suc f))) / 4 ≡ suc (f / 4) = omega arith in
    let r : suc (suc (suc (suc f))) % 4 ≡ f % 4 = omega arith in
    rw (q, r, field_at_lem bs f)

pub field_by_shift : (bs : List ℕ) (f : ℕ) → get_or bs (f / 4) 0 < 256 → get_or bs (f / 4) 0 / 2 ^ (6 - f % 4 * 2) % 4 ≡ get_or (table_fields bs) f 0
field_by_shift bs f h = split_shift 2 3 (f % 4) (get_or bs (f / 4) 0) h (omega arith) ∙ sym (field_at_lem bs f)

pub field_past_end : (bs : List ℕ) (f : ℕ) → length bs ≤ f / 4 → get_or (table_fields bs) f 0 ≡ 0
field_past_end bs f h = field_at_lem bs f ∙ ap (λ b. get_or (split 2 4 b) (f % 4) 0) (get_or-eq_default bs 0 h) ∙ split_none 2 4 (f % 4)

-- ---- one field of a table set
pub fields_set : (bs : List ℕ) (f v r : ℕ) → f / 4 < length bs → split 2 4 r ≡ set (split 2 4 (get_or bs (f / 4) 0)) (f % 4) v → table_fields (set bs (f / 4) r) ≡ set (table_fields bs) f v
fields_set [] f v r h e = absurd (omega arith)
fields_set (b ∷ bs) zero v r h e = ap (λ l. l ++ table_fields bs) e
fields_set (b ∷ bs) (suc zero) v r h e = ap (λ l. l ++ table_fields bs) e
fields_set (b ∷ bs) (suc (suc zero)) v r h e = ap (λ l. l ++ table_fields bs) e
fields_set (b ∷ bs) (suc (suc (suc zero))) v r h e = ap (λ l. l ++ table_fields bs) e
fields_set (b ∷ bs) (suc (suc (suc (suc f)))) v r h e =
    let q : suc (suc (suc (suc f))) / 4 ≡ suc (f / 4) = omega arith in
    let m : suc (suc (suc (suc f))) % 4 ≡ f % 4 = omega arith in
    rw q (ap (λ l. split 2 4 b ++ l) (fields_set bs f v r (omega arith) (rw (q, m) at e)))

-- ---- a table says what the fact's field says, and past its end nothing
reads_in : (qs : List ℕ) (f : ℕ) → f < length qs → observed qs f ≡ presence (get_or qs f 0)
reads_in [] f h = absurd (omega arith)
reads_in (q ∷ qs) zero h = refl
reads_in (q ∷ qs) (suc f) h = reads_in qs f (omega arith)

reads_past : (qs : List ℕ) (f : ℕ) → length qs ≤ f → observed qs f ≡ silent
reads_past [] f h = refl
reads_past (q ∷ qs) zero h = absurd (omega arith)
reads_past (q ∷ qs) (suc f) h = reads_past qs f (omega arith)

pub table_in_lem : (bs : List ℕ) (f : ℕ) → f / 4 < length bs → table_of bs f ≡ presence (get_or (table_fields bs) f 0)
table_in_lem bs f h = reads_in (table_fields bs) f (omega (arith, length_fields bs))

pub table_past : (bs : List ℕ) (f : ℕ) → length bs ≤ f / 4 → table_of bs f ≡ silent
table_past bs f h = reads_past (table_fields bs) f (omega (arith, length_fields bs))

-- ---- whether it is Present, or settled, its field says past the end too
pub present_by : (qs : List ℕ) (f : ℕ) → is_present (presence (get_or qs f 0)) ≡ is_present (observed qs f)
present_by [] f = refl
present_by (q ∷ qs) zero = refl
present_by (q ∷ qs) (suc f) = present_by qs f

pub settled_by : (qs : List ℕ) (f : ℕ) → is_settled (presence (get_or qs f 0)) ≡ is_settled (observed qs f)
settled_by [] f = refl
settled_by (q ∷ qs) zero = refl
settled_by (q ∷ qs) (suc f) = settled_by qs f
