-- Tables joined, field by field: the order of two and the grouping of three make no difference, a clash included; which fields clash;
-- and what the result reads.
use Rattle.std.specs.Prelude.{◌≡◌, refl, ◌⊎◌, Bool, true, false, cond, ◌||◌, List, [], ◌∷◌, ℕ, zero, suc, ◌<◌, max, eqb, length, get_or}
use Rattle.std.proofs.Common.{sym, ◌∙◌, ap, ap₂, inl, inr, arith, eqb-true, eq-eqb}
use Rattle.std.proofs.Math.Bool.{or-true}
use Rattle.std.proofs.Math.Option.{none}
use Rattle.model.specs.Facts.{Presence, absent, present, partial_facts, table_fields, first_fault, presence}
use Rattle.model.specs.Join.{join_field, join_fields, clashes, joined_bytes}
use Rattle.laws.specs.Lists.{Below}
use Rattle.laws.proofs.ListLaws.{eqb_self, eqb_sym}
use Rattle.laws.specs.FieldAt.{Narrow}
use Rattle.laws.proofs.UnpackedLaws.{fields_packed, length_fields}

-- ---- two fields, any numbers: 2 is the unit, 3 absorbs
unit_right : (p : ℕ) → join_field p 2 ≡ p
unit_right p = by (eqb p 2) refl
  where
    by : (b : Bool) → eqb p 2 ≡ b → cond b 2 p ≡ p
    by true e = sym (eqb-true p 2 e)
    by false e = refl

absorbs_right : (p : ℕ) → join_field p 3 ≡ 3
absorbs_right p = by (eqb p 2) (eqb p 3) refl
  where
    by : (b c : Bool) → eqb p 3 ≡ c → cond b 3 (cond c p 3) ≡ 3
    by true c e = refl
    by false true e = eqb-true p 3 e
    by false false e = refl

-- Fields that are not Unknown stay where they are equal, and clash where they are not.
known_fields : (p q : ℕ) → eqb p 2 ≡ false → eqb q 2 ≡ false → join_field p q ≡ cond (eqb p q) p 3
known_fields p q e f = rw (e, f)

field_comm : (p q : ℕ) → join_field p q ≡ join_field q p
field_comm p q = by (eqb p 2) (eqb q 2) refl refl
  where
    same : (b : Bool) → eqb p q ≡ b → cond b p 3 ≡ cond (eqb q p) q 3
    same true e = let k = eqb-true p q e in rw (eq-eqb q p (sym k)) k
    same false e = rw (eqb_sym p q e)

    by : (b c : Bool) → eqb p 2 ≡ b → eqb q 2 ≡ c → cond b q (cond c p (cond (eqb p q) p 3)) ≡ cond c p (cond b q (cond (eqb q p) q 3))
    by true true e f = eqb-true q 2 f ∙ sym (eqb-true p 2 e)
    by true false e f = refl
    by false true e f = refl
    by false false e f = same (eqb p q) refl

absorbs_left : (p : ℕ) → join_field 3 p ≡ 3
absorbs_left p = field_comm 3 p ∙ absorbs_right p

module _ (p q r : ℕ) where
  abbrev Grouped : Type 0
  Grouped = join_field (join_field p q) r ≡ join_field p (join_field q r)

  -- None of the three is Unknown.
  apart : (b c : Bool) → eqb p q ≡ b → eqb q r ≡ c → eqb p 2 ≡ false → eqb q 2 ≡ false → eqb r 2 ≡ false → Grouped
  apart true true e f u v w =
      let k : p ≡ q = eqb-true p q e in
      let l : q ≡ r = eqb-true q r f in
      rw (known_fields p q u v, known_fields q r v w, e, f, known_fields p q u v, e, k, l, known_fields r r w w, eqb_self)
  apart true false e f u v w =
      let k : p ≡ q = eqb-true p q e in
      rw (known_fields p q u v, known_fields q r v w, e, f) (rw k (known_fields q r v w ∙ rw f (sym (absorbs_right q))))
  apart false true e f u v w =
      rw (known_fields p q u v, known_fields q r v w, e, f) (absorbs_left r ∙ sym (known_fields p q u v ∙ rw e refl))
  apart false false e f u v w = rw (known_fields p q u v, known_fields q r v w, e, f) (absorbs_left r ∙ sym (absorbs_right p))

  field_assoc : Grouped
  field_assoc = by (eqb p 2) (eqb q 2) (eqb r 2) refl refl refl
    where
      by : (b c d : Bool) → eqb p 2 ≡ b → eqb q 2 ≡ c → eqb r 2 ≡ d → Grouped
      by true c d u v w = rw (eqb-true p 2 u) refl
      by false true d u v w = rw (eqb-true q 2 v, unit_right p) refl
      by false false true u v w = rw (eqb-true r 2 w, unit_right (join_field p q), unit_right q) refl
      by false false false u v w = apart (eqb p q) (eqb q r) refl refl u v w

-- ---- lists of fields
pub fields_comm : (ps qs : List ℕ) → join_fields ps qs ≡ join_fields qs ps
fields_comm [] [] = refl
fields_comm [] (q ∷ qs) = ap₂ ◌∷◌ (field_comm 0 q) (fields_comm [] qs)
fields_comm (p ∷ ps) [] = ap₂ ◌∷◌ (field_comm p 0) (fields_comm ps [])
fields_comm (p ∷ ps) (q ∷ qs) = ap₂ ◌∷◌ (field_comm p q) (fields_comm ps qs)

pub fields_assoc : (ps qs rs : List ℕ) → join_fields (join_fields ps qs) rs ≡ join_fields ps (join_fields qs rs)
fields_assoc [] [] [] = refl
fields_assoc [] [] (r ∷ rs) = ap₂ ◌∷◌ (field_assoc 0 0 r) (fields_assoc [] [] rs)
fields_assoc [] (q ∷ qs) [] = ap₂ ◌∷◌ (field_assoc 0 q 0) (fields_assoc [] qs [])
fields_assoc [] (q ∷ qs) (r ∷ rs) = ap₂ ◌∷◌ (field_assoc 0 q r) (fields_assoc [] qs rs)
fields_assoc (p ∷ ps) [] [] = ap₂ ◌∷◌ (field_assoc p 0 0) (fields_assoc ps [] [])
fields_assoc (p ∷ ps) [] (r ∷ rs) = ap₂ ◌∷◌ (field_assoc p 0 r) (fields_assoc ps [] rs)
fields_assoc (p ∷ ps) (q ∷ qs) [] = ap₂ ◌∷◌ (field_assoc p q 0) (fields_assoc ps qs [])
fields_assoc (p ∷ ps) (q ∷ qs) (r ∷ rs) = ap₂ ◌∷◌ (field_assoc p q r) (fields_assoc ps qs rs)

one_stays : (q r : ℕ) (a b : Bool) → (a ≡ true → b ≡ true) → (eqb q 3 || a) ≡ true → (eqb (join_field q r) 3 || b) ≡ true
one_stays q r a b f = by (eqb q 3) refl
  where
    by : (t : Bool) → eqb q 3 ≡ t → (t || a) ≡ true → (eqb (join_field q r) 3 || b) ≡ true
    by true e h = ap (λ x. eqb x 3 || b) (ap (λ x. join_field x r) (eqb-true q 3 e) ∙ absorbs_left r)
    by false e h = ap (λ x. eqb (join_field q r) 3 || x) (f h) ∙ or-true (eqb (join_field q r) 3)

-- A clash stays, whatever is joined to it.
pub clash_stays : (ps rs : List ℕ) → clashes ps ≡ true → clashes (join_fields ps rs) ≡ true
clash_stays [] [] e = e
clash_stays [] (r ∷ rs) e = cc
clash_stays (p ∷ ps) [] e = one_stays p 0 (clashes ps) (clashes (join_fields ps [])) (clash_stays ps []) e
clash_stays (p ∷ ps) (r ∷ rs) e = one_stays p r (clashes ps) (clashes (join_fields ps rs)) (clash_stays ps rs) e

pub length_join : (ps qs : List ℕ) → length (join_fields ps qs) ≡ max (length ps) (length qs)
length_join [] [] = refl
length_join [] (q ∷ qs) = omega (arith, length_join [] qs)
length_join (p ∷ ps) [] = omega (arith, length_join ps [])
length_join (p ∷ ps) (q ∷ qs) = omega (arith, length_join ps qs)

-- Fact by fact.
pub join_at : (ps qs : List ℕ) (f : ℕ) → get_or (join_fields ps qs) f 0 ≡ join_field (get_or ps f 0) (get_or qs f 0)
join_at [] [] f = refl
join_at [] (q ∷ qs) zero = refl
join_at [] (q ∷ qs) (suc f) = join_at [] qs f
join_at (p ∷ ps) [] zero = refl
join_at (p ∷ ps) [] (suc f) = join_at ps [] f
join_at (p ∷ ps) (q ∷ qs) zero = refl
join_at (p ∷ ps) (q ∷ qs) (suc f) = join_at ps qs f

-- ---- fields without faults
pub clean : (qs : List ℕ) → first_fault partial_facts qs ≡ none → Below 3 qs
clean [] e = tt
clean (zero ∷ qs) e = (omega arith, clean qs e)
clean (suc zero ∷ qs) e = (omega arith, clean qs e)
clean (suc (suc zero) ∷ qs) e = (omega arith, clean qs e)
clean (suc (suc (suc q)) ∷ qs) e = let z : ◌≡◌ {A = ℕ} 0 1 = cc in absurd (omega arith)

field_narrow : (p q : ℕ) → p < 3 → q < 3 → join_field p q < 4
field_narrow p q h k = by (eqb p 2) (eqb q 2) (eqb p q)
  where
    by : (b c d : Bool) → cond b q (cond c p (cond d p 3)) < 4
    by true c d = omega arith
    by false true d = omega arith
    by false false true = omega arith
    by false false false = omega arith

pub narrow_join : (ps qs : List ℕ) → Below 3 ps → Below 3 qs → Narrow 2 (join_fields ps qs)
narrow_join [] [] h k = tt
narrow_join [] (q ∷ qs) h k = (field_narrow 0 q (omega arith) k.0, narrow_join [] qs h k.1)
narrow_join (p ∷ ps) [] h k = (field_narrow p 0 h.0 (omega arith), narrow_join ps [] h.1 k)
narrow_join (p ∷ ps) (q ∷ qs) h k = (field_narrow p q h.0 k.0, narrow_join ps qs h.1 k.1)

-- Fields that fit and don't clash are without faults.
pub no_clash : (qs : List ℕ) → Narrow 2 qs → clashes qs ≡ false → first_fault partial_facts qs ≡ none
no_clash [] h e = refl
no_clash (zero ∷ qs) h e = no_clash qs h.1 e
no_clash (suc zero ∷ qs) h e = no_clash qs h.1 e
no_clash (suc (suc zero) ∷ qs) h e = no_clash qs h.1 e
no_clash (suc (suc (suc zero)) ∷ qs) h e = cc
no_clash (suc (suc (suc (suc q))) ∷ qs) h e = let k : suc (suc (suc (suc q))) < 4 = h.0 in absurd (omega arith)

-- ---- a clash: some fact that one table reads Present and the other Absent
pub record ClashAt (qs : List ℕ) : Type 0 where
  pub fact : ℕ
  pub written : get_or qs fact 0 ≡ 3

pub clash_fact : (qs : List ℕ) → clashes qs ≡ true → ClashAt qs
clash_fact [] e = let z : ◌≡◌ {A = ℕ} 0 1 = cc in absurd (omega arith)
clash_fact (q ∷ qs) e = by (clash_fact qs) (eqb q 3) refl e
  where
    by : (clashes qs ≡ true → ClashAt qs) → (b : Bool) → eqb q 3 ≡ b → (b || clashes qs) ≡ true → ClashAt (q ∷ qs)
    by rest true k h = record { fact = 0; written = eqb-true q 3 k }
    by rest false k h = let c = rest h in record { fact = suc c.fact; written = c.written }

pub fact_clashes : (qs : List ℕ) (f : ℕ) → get_or qs f 0 ≡ 3 → clashes qs ≡ true
fact_clashes [] f e = absurd (omega (arith, e))
fact_clashes (q ∷ qs) zero e = ap (λ b. b || clashes qs) (eq-eqb q 3 e)
fact_clashes (q ∷ qs) (suc f) e = ap (λ b. eqb q 3 || b) (fact_clashes qs f e) ∙ or-true (eqb q 3)

abbrev pub Opposed : Presence → Presence → Type 0
Opposed p q = ((p ≡ present) × (q ≡ absent)) ⊎ ((p ≡ absent) × (q ≡ present))

pub clash_opposed : (p q : ℕ) → p < 3 → q < 3 → join_field p q ≡ 3 → Opposed (presence p) (presence q)
clash_opposed zero zero h k e = absurd (omega (arith, e))
clash_opposed zero (suc zero) h k e = inr (refl, refl)
clash_opposed zero (suc (suc zero)) h k e = absurd (omega (arith, e))
clash_opposed zero (suc (suc (suc q))) h k e = absurd (omega (arith, k))
clash_opposed (suc zero) zero h k e = inl (refl, refl)
clash_opposed (suc zero) (suc zero) h k e = absurd (omega (arith, e))
clash_opposed (suc zero) (suc (suc zero)) h k e = absurd (omega (arith, e))
clash_opposed (suc zero) (suc (suc (suc q))) h k e = absurd (omega (arith, k))
clash_opposed (suc (suc zero)) q h k e = absurd (omega (arith, k, e))
clash_opposed (suc (suc (suc p))) q h k e = absurd (omega (arith, h))

is_present_lem : (p : ℕ) → presence p ≡ present → p ≡ 1
is_present_lem zero e = cc
is_present_lem (suc zero) e = refl
is_present_lem (suc (suc p)) e = cc

is_absent : (p : ℕ) → presence p ≡ absent → p ≡ 0
is_absent zero e = refl
is_absent (suc zero) e = cc
is_absent (suc (suc p)) e = cc

pub opposed_clash : (p q : ℕ) → Opposed (presence p) (presence q) → join_field p q ≡ 3
opposed_clash p q (inl h) = ap₂ join_field (is_present_lem p h.0) (is_absent q h.1)
opposed_clash p q (inr h) = ap₂ join_field (is_absent p h.0) (is_present_lem q h.1)

pub below_at : (qs : List ℕ) (f : ℕ) → Below 3 qs → get_or qs f 0 < 3
below_at [] f h = omega arith
below_at (q ∷ qs) zero h = h.0
below_at (q ∷ qs) (suc f) h = below_at qs f h.1

-- ---- the result's fields
pub fields_joined : (a b : List ℕ) → first_fault partial_facts (table_fields a) ≡ none → first_fault partial_facts (table_fields b) ≡ none →
    table_fields (joined_bytes a b) ≡ join_fields (table_fields a) (table_fields b)
fields_joined a b h k =
    fields_packed (max (length a) (length b)) (join_fields (table_fields a) (table_fields b))
    (narrow_join (table_fields a) (table_fields b) (clean (table_fields a) h) (clean (table_fields b) k))
    (omega (arith, length_join (table_fields a) (table_fields b), length_fields a, length_fields b))
