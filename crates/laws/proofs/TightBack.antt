-- Policies in the tight form: what is written is read back.
use Rattle.std.specs.Prelude.{◌≡◌, refl, Bool, true, false, cond, List, [], ◌∷◌, ◌++◌, ℕ, zero, suc, ◌-◌, ◌^◌, ◌≤◌, ◌<◌, eqb, leb, length, replicate}
use Rattle.std.proofs.Common.{◌∙◌, ap, append_assoc, arith, le-leb}
use Rattle.std.proofs.Math.Option.{Option, none, some}
use Rattle.model.specs.Facts.{fact_bits}
use Rattle.model.specs.Outcome.{outcome_bits}
use Rattle.model.specs.Condition.{Condition}
use Rattle.model.specs.Decision.{Permit, Denial, permits, denies}
use Rattle.model.specs.Policy.{Grant, Policy, permit, deny, grant, all, any, or_else, stored, Policies, pnil, pcons}
use Rattle.model.specs.Writing.{count_bits, mark_bits, shape_bit, count}
use Rattle.model.specs.Reading.{Parsed, got, next, unless, many, shape_of, outcome_of, as_stored}
use Rattle.laws.specs.Lists.{Below}
use Rattle.laws.specs.Size.{SheetIf, SheetsIf}
use Rattle.laws.specs.Form.{IfThere, Countable, FormP, FormN, FormOf, FormsOf, depth_c, depth, depths}
use Rattle.model.specs.Bits.{bits_of, take_bits}
use Rattle.laws.proofs.BitLaws.{Fits, back_bits, back_run}
use Rattle.model.specs.Tight.{kind_bits, obligation_count_bits, obligation_tight_bits, optional, each, tight_c, numbers_of, tight, tights, take_optional, take_each, loose_c, denied_in, after8, after12, after13, facts12, obligations12, count12, label12, outcome12, counted12, fields12, obligations8, reason8, label8, outcome8, counted8, shape8, fields8, facts13, count13, reason13, label13, denied13, shape13, fields13, fields_p, loose}
use Rattle.laws.proofs.TightConditions.{back_c}
use Rattle.laws.proofs.NodeLaws.{unless_is, shape_back, shape_small, outcome_is}
use Rattle.laws.proofs.SheetIfLaws.{arms_if_all, arms_if_any, primary_if, fallback_if, first_if, rest_if}

-- ---- one part, and then the rest
module _ {A : Type 0} where
  pub step : (w v : ℕ) (xs bs : List ℕ) (k : ℕ → List ℕ → Parsed A) → v < 2 ^ w → next (take_bits w ((bits_of w v ++ xs) ++ bs)) k ≡ k v (xs ++ bs)
  step w v xs bs k h = ap (λ l. next (take_bits w l) k) (append_assoc (bits_of w v) xs bs) ∙ ap (λ p. next p k) (back_bits w v (xs ++ bs) h)

back_optional : (w : ℕ) (o : Option ℕ) (bs : List ℕ) → IfThere (λ v. v < 2 ^ w) o → take_optional w (optional w o ++ bs) ≡ got o bs
back_optional w none bs h = ap (λ p. next p (λ here cs. cond (eqb here 0) (got none cs) (next (take_bits w cs) (λ v ds. got (some v) ds)))) (back_bits 1 0 bs (omega arith))
back_optional w (some v) bs h =
    step 1 1 (bits_of w v) bs (λ here cs. cond (eqb here 0) (got none cs) (next (take_bits w cs) (λ v ds. got (some v) ds))) (omega arith)
    ∙ ap (λ p. next p (λ v ds. got (some v) ds)) (back_bits w v bs h)

module _ {A : Type 0} where
  step_optional : (w : ℕ) (o : Option ℕ) (xs bs : List ℕ) (k : Option ℕ → List ℕ → Parsed A) → IfThere (λ v. v < 2 ^ w) o → next (take_optional w ((optional w o ++ xs) ++ bs)) k ≡ k o (xs ++ bs)
  step_optional w o xs bs k h = ap (λ l. next (take_optional w l) k) (append_assoc (optional w o) xs bs) ∙ ap (λ p. next p k) (back_optional w o (xs ++ bs) h)

fits_each : (w n : ℕ) (vs : List ℕ) → n ≤ 2 ^ w → Below n vs → Fits (replicate (length vs) w) vs
fits_each w n [] h b = tt
fits_each w n (v ∷ vs) h b = (let k : v < n = b.0 in omega arith, fits_each w n vs h b.1)

module _ {A : Type 0} where
  step_each : (w n : ℕ) (vs xs bs : List ℕ) (k : List ℕ → List ℕ → Parsed A) → n ≤ 2 ^ w → Below n vs → next (take_each w (length vs) ((each w vs ++ xs) ++ bs)) k ≡ k vs (xs ++ bs)
  step_each w n vs xs bs k h b =
      ap (λ l. next (take_each w (length vs) l) k) (append_assoc (each w vs) xs bs) ∙ ap (λ p. next p k) (back_run (replicate (length vs) w) vs (xs ++ bs) (fits_each w n vs h b))

  last_each : (w n : ℕ) (vs bs : List ℕ) (k : List ℕ → List ℕ → Parsed A) → n ≤ 2 ^ w → Below n vs → next (take_each w (length vs) (each w vs ++ bs)) k ≡ k vs bs
  last_each w n vs bs k h b = ap (λ p. next p k) (back_run (replicate (length vs) w) vs bs (fits_each w n vs h b))

-- `number` writes an outcome in 16 bits, `value` reads it. G says which outcomes fit; B says what is asked of a grant's condition, and nothing here needs it.
module _ {O : Type 0} (G : O → Type 0) (B : Condition → Type 0) (number : O → ℕ) (value : ℕ → Option O)
    (small : (o : O) → G o → number o < 65536) (again : (o : O) → G o → value (number o) ≡ some o) where
  kind_then : (res : Bool) (d k : ℕ) (xs bs : List ℕ) → k < 16 → leb 6 k ≡ true → loose value res (suc d) ((bits_of kind_bits k ++ xs) ++ bs) ≡ fields_p value res (λ ds. loose_c d ds) (λ ds. loose value res d ds) (k - 6) (xs ++ bs)
  kind_then res d k xs bs h e =
      step 4 k xs bs (λ k cs. unless (leb 6 k) 5 (fields_p value res (λ ds. loose_c d ds) (λ ds. loose value res d ds) (k - 6) cs)) h
      ∙ unless_is 5 (fields_p value res (λ ds. loose_c d ds) (λ ds. loose value res d ds) (k - 6) (xs ++ bs)) e

  -- ---- the nodes with many fields
  pub back_12 : (p : Permit O) (bs : List ℕ) → FormP G Countable p → fields12 value (after12 number p ++ bs) ≡ got (permits p) bs
  back_12 p bs g =
      let n = length p.obligations in
      let o = p.outcome in
      let m = length p.facts in
      let x₅ = each fact_bits p.facts in
      let x₄ = each obligation_tight_bits p.obligations ++ x₅ in
      let x₃ = bits_of count_bits m ++ x₄ in
      let x₂ = optional mark_bits p.label ++ x₃ in
      step obligation_count_bits n (bits_of outcome_bits (number o) ++ x₂) bs (counted12 value) (omega (arith, g.1.0))
      ∙ step outcome_bits (number o) x₂ bs (outcome12 value n) (small o g.0)
      ∙ outcome_is value (λ o. next (take_optional mark_bits (x₂ ++ bs)) (label12 value n o)) (again o g.0)
      ∙ step_optional mark_bits p.label x₃ bs (label12 value n o) g.2
      ∙ step count_bits m x₄ bs (count12 value n o p.label) (omega (arith, g.3.0))
      ∙ step_each obligation_tight_bits 64 p.obligations x₅ bs (obligations12 value o p.label m) (omega arith) g.1.1
      ∙ last_each fact_bits 1024 p.facts bs (facts12 value o p.label p.obligations) (omega arith) g.3.1

  denied_back : {A : Type 0} (den : Option O) → IfThere G den → (k : Option O → Parsed A) → denied_in value (numbers_of number den) k ≡ k den
  denied_back none h k = refl
  denied_back (some o) h k = outcome_is value (λ o. k (some o)) (again o h)

  pub denied_small : (den : Option O) → IfThere G den → IfThere (λ v. v < 2 ^ outcome_bits) (numbers_of number den)
  denied_small none h = tt
  denied_small (some o) h = small o h

  pub back_13 : (d : Denial O) (bs : List ℕ) → FormN G d → fields13 value (after13 number d ++ bs) ≡ got (denies d) bs
  back_13 d bs g =
      let sh = shape_bit d.shape in
      let n = length d.facts in
      let x₄ = each fact_bits d.facts in
      let x₃ = bits_of count_bits n ++ x₄ in
      let x₂ = optional mark_bits d.reason ++ x₃ in
      let x₁ = optional mark_bits d.label ++ x₂ in
      step 1 sh (optional outcome_bits (numbers_of number d.denied) ++ x₁) bs (shape13 value) (shape_small d.shape)
      ∙ step_optional outcome_bits (numbers_of number d.denied) x₁ bs (denied13 value sh) (denied_small d.denied g.0)
      ∙ denied_back d.denied g.0 (λ den. next (take_optional mark_bits (x₁ ++ bs)) (label13 value sh den))
      ∙ step_optional mark_bits d.label x₂ bs (label13 value sh d.denied) g.2
      ∙ step_optional mark_bits d.reason x₃ bs (reason13 value sh d.denied d.label) g.3
      ∙ step count_bits n x₄ bs (count13 value sh d.denied d.label d.reason) (omega (arith, g.1.0))
      ∙ last_each fact_bits 1024 d.facts bs (facts13 value sh d.denied d.label d.reason) (omega arith) g.1.1
      ∙ ap (λ s. got (denies (record { denied = d.denied; facts = d.facts; label = d.label; reason = d.reason; shape = s })) bs) (shape_back d.shape)

  back_8 : (g : Grant O) (c : Condition) (depth : ℕ) (bs : List ℕ) → FormOf G B Countable (grant g c) → depth_c c ≤ depth → fields8 value (λ ds. loose_c depth ds) (after8 number g (tight_c c) ++ bs) ≡ got (grant g c) bs
  back_8 g c depth bs f h =
      let p : List ℕ → Parsed Condition = λ ds. loose_c depth ds in
      let sh = shape_bit g.shape in
      let n = length g.obligations in
      let o = g.outcome in
      let x₅ = tight_c c in
      let x₄ = each obligation_tight_bits g.obligations ++ x₅ in
      let x₃ = optional mark_bits g.reason ++ x₄ in
      let x₂ = optional mark_bits g.label ++ x₃ in
      let x₁ = bits_of outcome_bits (number o) ++ x₂ in
      step 1 sh (bits_of obligation_count_bits n ++ x₁) bs (shape8 value p) (shape_small g.shape)
      ∙ step obligation_count_bits n x₁ bs (counted8 value p sh) (omega (arith, f.0.1.0))
      ∙ unless_is 8 (next (take_bits outcome_bits (x₁ ++ bs)) (outcome8 value p sh n)) (le-leb n 64 f.0.1.0)
      ∙ step outcome_bits (number o) x₂ bs (outcome8 value p sh n) (small o f.0.0)
      ∙ outcome_is value (λ o. next (take_optional mark_bits (x₂ ++ bs)) (label8 value p sh n o)) (again o f.0.0)
      ∙ step_optional mark_bits g.label x₃ bs (label8 value p sh n o) f.0.2
      ∙ step_optional mark_bits g.reason x₄ bs (reason8 value p sh n o g.label) f.0.3
      ∙ step_each obligation_tight_bits 64 g.obligations x₅ bs (obligations8 value p sh o g.label g.reason) (omega arith) f.0.1.1
      ∙ ap (λ q. next q (λ c cs. got (grant (record { outcome = o; obligations = g.obligations; label = g.label; reason = g.reason; shape = shape_of sh }) c) cs)) (back_c c depth bs h f.1)
      ∙ ap (λ s. got (grant (record { outcome = o; obligations = g.obligations; label = g.label; reason = g.reason; shape = s }) c) bs) (shape_back g.shape)

  -- ---- trees
  mutual
    pub back_t : (t : Policy O) (res : Bool) (d : ℕ) (bs : List ℕ) → depth t ≤ d → FormOf G B Countable t → SheetIf res t → loose value res d (tight number t ++ bs) ≡ got t bs
    back_t (permit o) res zero bs h g s = let z : ⊥ = omega arith in absurd z
    back_t (permit o) res (suc d) bs h g s =
        kind_then res d 6 (bits_of outcome_bits (number o)) bs (omega arith) refl
        ∙ ap (λ p. next p (λ v cs. outcome_of value (value v) (λ o. got (permit o) cs))) (back_bits outcome_bits (number o) bs (small o g))
        ∙ outcome_is value (λ o. got (permit o) bs) (again o g)
    back_t deny res zero bs h g s = let z : ⊥ = omega arith in absurd z
    back_t deny res (suc d) bs h g s = kind_then res d 7 [] bs (omega arith) refl
    back_t (grant g c) res zero bs h f s = let z : ⊥ = omega arith in absurd z
    back_t (grant g c) res (suc d) bs h f s = kind_then res d 8 (after8 number g (tight_c c)) bs (omega arith) refl ∙ back_8 g c d bs f (omega arith)
    back_t (all ts) res zero bs h g s = let z : ⊥ = omega arith in absurd z
    back_t (all ts) res (suc d) bs h g s =
        kind_then res d 9 (bits_of count_bits (count ts) ++ tights number ts) bs (omega arith) refl
        ∙ step count_bits (count ts) (tights number ts) bs (λ n cs. next (many pnil pcons (λ ds. loose value res d ds) n cs) (λ ts ds. got (all ts) ds)) (omega (arith, g.0))
        ∙ ap (λ p. next p (λ ts ds. got (all ts) ds)) (back_ts ts res d bs (omega arith) g.1 (arms_if_all res ts s))
    back_t (any ts) res zero bs h g s = let z : ⊥ = omega arith in absurd z
    back_t (any ts) res (suc d) bs h g s =
        kind_then res d 10 (bits_of count_bits (count ts) ++ tights number ts) bs (omega arith) refl
        ∙ step count_bits (count ts) (tights number ts) bs (λ n cs. next (many pnil pcons (λ ds. loose value res d ds) n cs) (λ ts ds. got (any ts) ds)) (omega (arith, g.0))
        ∙ ap (λ p. next p (λ ts ds. got (any ts) ds)) (back_ts ts res d bs (omega arith) g.1 (arms_if_any res ts s))
    back_t (or_else a b) res zero bs h g s = let z : ⊥ = omega arith in absurd z
    back_t (or_else a b) res (suc d) bs h g s =
        kind_then res d 11 (tight number a ++ tight number b) bs (omega arith) refl
        ∙ ap (λ l. next (loose value res d l) (λ a cs. next (loose value res d cs) (λ b ds. got (or_else a b) ds))) (append_assoc (tight number a) (tight number b) bs)
        ∙ ap (λ p. next p (λ a cs. next (loose value res d cs) (λ b ds. got (or_else a b) ds))) (back_t a res d (tight number b ++ bs) (omega arith) g.0 (primary_if res a b s))
        ∙ ap (λ p. next p (λ b ds. got (or_else a b) ds)) (back_t b res d bs (omega arith) g.1 (fallback_if res a b s))
    back_t (stored (permits p)) res zero bs h g s = let z : ⊥ = omega arith in absurd z
    back_t (stored (permits p)) false (suc d) bs h g s = absurd s
    back_t (stored (permits p)) true (suc d) bs h g s = kind_then true d 12 (after12 number p) bs (omega arith) refl ∙ ap (as_stored value) (back_12 p bs g)
    back_t (stored (denies n)) res zero bs h g s = let z : ⊥ = omega arith in absurd z
    back_t (stored (denies n)) false (suc d) bs h g s = absurd s
    back_t (stored (denies n)) true (suc d) bs h g s = kind_then true d 13 (after13 number n) bs (omega arith) refl ∙ ap (as_stored value) (back_13 n bs g)

    back_ts : (ts : Policies O) (res : Bool) (d : ℕ) (bs : List ℕ) → depths ts ≤ d → FormsOf G B Countable ts → SheetsIf res ts → many pnil pcons (λ ds. loose value res d ds) (count ts) (tights number ts ++ bs) ≡ got ts bs
    back_ts pnil res d bs h g s = refl
    back_ts (pcons t ts) res d bs h g s =
        ap (λ l. many pnil pcons (λ ds. loose value res d ds) (suc (count ts)) l) (append_assoc (tight number t) (tights number ts) bs)
        ∙ ap (λ q. next q (λ a cs. next (many pnil pcons (λ ds. loose value res d ds) (count ts) cs) (λ xs ds. got (pcons a xs) ds))) (back_t t res d (tights number ts ++ bs) (omega arith) g.0 (first_if res t ts s))
        ∙ ap (λ q. next q (λ xs ds. got (pcons t xs) ds)) (back_ts ts res d bs (omega arith) g.1 (rest_if res t ts s))
