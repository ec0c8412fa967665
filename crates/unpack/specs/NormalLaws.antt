-- A node as it is read, field by field, is one test of its length: its normal form, by its kind.
use Rattle.std.specs.Prelude.{◌≡◌, refl, Bool, true, false, List, ℕ, zero, suc, ◌+◌, ◌*◌, ◌/◌, ◌%◌, ◌^◌, ◌≤◌, ◌<◌, eqb, leb, length, drop}
use Rattle.std.proofs.Common.{sym, ◌∙◌, ap₂, mul_assoc, add_assoc, add-mul, lt-ltb, pow-add}
use Rattle.std.proofs.Math.Path.{ap}
use Rattle.std.proofs.Math.Bool.{cond}
use Rattle.std.proofs.Math.Option.{Option, none, some}
use native.Mathlib.Omega.{arith}
use Rattle.std.proofs.Math.Pow.{pow_mono}
use Rattle.model.specs.Outcome.{product_sets}
use Rattle.model.specs.Condition.{Condition}
use Rattle.model.specs.Decision.{Permit, Denial, permits, denies}
use Rattle.model.specs.Policy.{Grant, grant}
use Rattle.model.specs.Reading.{Parsed, refuse, got, next, unless, shape_of, few_obligations, outcome_of}
use Rattle.model.specs.Products.{Outcome}
use Rattle.model.specs.Tight as tight
use Rattle.model.specs.Tight.{denied_in, obligations8, reason8, label8, outcome8, counted8, shape8, fields8, facts12, obligations12, count12, label12, outcome12, counted12, fields12, facts13, count13, reason13, label13, shape13, fields13}
use Rattle.model.specs.Bits.{take_bits}
use Rattle.laws.proofs.BitLaws.{Bits}
use Rattle.bits.specs.Widths.{mark_width, denied_width}
use Rattle.bits.specs.WidthLaws.{denied_few}
use Rattle.unpack.specs.Nodes.{field_in, fields_in, mark_in, grant_middle, grant_node, permit_middle, permit_node, deny_lead, deny_first, deny_before, deny_middle, deny_after, deny_node, node_length}
use Rattle.unpack.specs.FieldLaws.{need, step_bits, field_small, field_parts, option_of, step_mark, step_each}

abbrev pub value : ℕ → Option Outcome
value = product_sets.value

-- Two fields side by side are one.
pub field_split : (a s b : ℕ) (bs : List ℕ) → field_in s (a + b) bs ≡ field_in s a bs * 2 ^ b + field_in (s + a) b bs
field_split zero s b bs =
    ap (λ n. field_in s n bs) (let z : zero + b ≡ b = omega arith in z) ∙ ap (λ n. field_in n b bs) (let z : s ≡ s + 0 = omega arith in z) ∙ (let z : field_in (s + 0) b bs ≡ 0 * 2 ^ b + field_in (s + 0) b bs = omega arith in z)
field_split (suc a) s b bs =
    let x = field_in s 1 bs in
    let y = field_in (s + 1) a bs in
    let t = field_in (s + 1 + a) b bs in
    let p : 2 ^ (a + b) ≡ 2 ^ a * 2 ^ b = pow-add 2 a b in
    ap (λ n. field_in s n bs) (let z : suc a + b ≡ suc (a + b) = omega arith in z)
    ∙ field_parts s (a + b) bs
    ∙ ap₂ (λ q r. x * q + r) p (field_split a (s + 1) b bs)
    ∙ distribute x (2 ^ a) (2 ^ b) y t
    ∙ ap₂ (λ q r. q * 2 ^ b + field_in r b bs) (sym (field_parts s a bs)) (let z : s + 1 + a ≡ s + suc a = omega arith in z)
  where
    distribute : (x p q y t : ℕ) → x * (p * q) + (y * q + t) ≡ (x * p + y) * q + t
    distribute x p q y t =
        ap (λ z. z + (y * q + t)) (sym (mul_assoc x p q))
        ∙ sym (add_assoc (x * p * q) (y * q) t)
        ∙ ap (λ z. z + t) (sym (add-mul (x * p) y q))

-- An outcome of 16 bits stands for itself.
pub outcome_is : {A : Type 0} (v : ℕ) → v < 65536 → (k : ℕ → Parsed A) → outcome_of value (value v) k ≡ k v
outcome_is v h k = ap (λ b. outcome_of value (cond b (some v) none) k) (lt-ltb v 65536 h)

module _ (bs : List ℕ) (h : Bits bs) where
  -- ---- 12
  abbrev owed12_in : ℕ
  owed12_in = field_in 4 7 bs

  abbrev facts12_in : ℕ
  facts12_in = field_in (permit_middle bs) 12 bs

  abbrev pub permit_read : Permit Outcome
  permit_read =
      record {
        outcome = field_in 11 16 bs;
        obligations = fields_in 6 owed12_in (drop (permit_middle bs + 12) bs);
        label = option_of (mark_in 27 bs);
        facts = fields_in 10 facts12_in (drop (permit_middle bs + 12 + 6 * owed12_in) bs);
      }

  pub normal_12 : need 4 bs (fields12 value (drop 4 bs)) ≡ need (node_length (permit_node bs)) bs (got (permits permit_read) (drop (node_length (permit_node bs)) bs))
  unfolding permit_node
  normal_12 =
      let n = owed12_in in
      let v = field_in 11 16 bs in
      let l = option_of (mark_in 27 bs) in
      let mid = permit_middle bs in
      let m = facts12_in in
      let os = fields_in 6 n (drop (mid + 12) bs) in
      let fs = fields_in 10 m (drop (mid + 12 + 6 * n) bs) in
      step_bits 4 7 bs (counted12 value)
      ∙ step_bits 11 16 bs (outcome12 value n)
      ∙ ap (need 27 bs) (outcome_is v (field_small 11 16 bs h) (λ o. next (tight.take_optional 15 (drop 27 bs)) (label12 value n o)))
      ∙ step_mark 27 bs (label12 value n v) h
      ∙ step_bits mid 12 bs (count12 value n v l)
      ∙ step_each (mid + 12) 6 n bs (obligations12 value v l m)
      ∙ step_each (mid + 12 + 6 * n) 10 m bs (facts12 value v l os)
      ∙ ap (λ i. need i bs (got (permits (record { outcome = v; obligations = os; label = l; facts = fs })) (drop i bs))) (let z : mid + 12 + 6 * n + 10 * m ≡ mid + 12 + (6 * n + 10 * m) = omega arith in z)

  -- ---- 13: the denied outcome with its present bit
  abbrev shape_is : ℕ
  shape_is = field_in 4 1 bs

  abbrev pub here : ℕ
  here = field_in 5 1 bs

  lead_13 : field_in 0 6 bs % 2 ≡ here
  lead_13 =
      let e = field_split 5 0 1 bs in
      let s = field_small 5 1 bs h in
      omega arith

  pub denied_width_lem : denied_width (deny_lead bs) ≡ cond (eqb here 1) 16 0
  unfolding denied_width
  denied_width_lem = ap (λ x. cond (eqb x 1) 16 0) (let z : field_in 0 6 bs * 67108864 / 67108864 % 2 ≡ here = (let y = lead_13 in omega arith) in z)

  first_width : denied_width (deny_first bs) ≡ denied_width (deny_lead bs)
  unfolding denied_width deny_first
  first_width = ap (λ x. cond (eqb x 1) 16 0) (let s = low_part in let z : (deny_lead bs + field_in 6 (denied_width (deny_lead bs)) bs) / 67108864 % 2 ≡ deny_lead bs / 67108864 % 2 = omega arith in z)
    where
      low_part : field_in 6 (denied_width (deny_lead bs)) bs < 67108864
      low_part =
          let f = field_small 6 (denied_width (deny_lead bs)) bs h in
          let g : denied_width (deny_lead bs) ≤ 16 = denied_few (deny_lead bs) in
          let p : 2 ^ denied_width (deny_lead bs) ≤ 2 ^ 16 = pow_mono {i = denied_width (deny_lead bs)} {j = 16} g in
          omega arith

  before_13 : deny_before bs ≡ 6 + cond (eqb here 1) 16 0
  before_13 = ap (λ x. 6 + x) (first_width ∙ denied_width_lem)

  abbrev pub denied_read : Option Outcome
  denied_read = cond (eqb here 1) (some (field_in 6 16 bs)) none

  abbrev facts13_in : ℕ
  facts13_in = field_in (deny_after bs) 12 bs

  abbrev pub deny_read : Denial Outcome
  deny_read =
      record {
        denied = denied_read;
        facts = fields_in 10 facts13_in (drop (deny_after bs + 12) bs);
        label = option_of (mark_in (deny_before bs) bs);
        reason = option_of (mark_in (deny_middle bs) bs);
        shape = shape_of shape_is;
      }

  -- The optional outcome of 16 bits.
  step_denied : {A : Type 0} (k : Option Outcome → List ℕ → Parsed A)
      → need 5 bs (next (tight.take_optional 16 (drop 5 bs)) (λ x cs. denied_in value x (λ d. k d cs))) ≡ need (deny_before bs) bs (k denied_read (drop (deny_before bs) bs))
  step_denied k =
      ap (need 5 bs) (assoc (take_bits 1 (drop 5 bs)))
      ∙ step_bits 5 1 bs (λ x ds. next (cond (eqb x 0) (got none ds) (next (take_bits 16 ds) (λ v es. got (some v) es))) (λ y cs. denied_in value y (λ d. k d cs)))
      ∙ by here refl (field_small 5 1 bs h)
      ∙ ap (λ i. need i bs (k denied_read (drop i bs))) (sym before_13)
    where
      assoc : (p : Parsed ℕ) → next (next p (λ x ds. cond (eqb x 0) (got none ds) (next (take_bits 16 ds) (λ v es. got (some v) es)))) (λ y cs. denied_in value y (λ d. k d cs))
          ≡ next p (λ x ds. next (cond (eqb x 0) (got none ds) (next (take_bits 16 ds) (λ v es. got (some v) es))) (λ y cs. denied_in value y (λ d. k d cs)))
      assoc (refuse n) = refl
      assoc (got a cs) = refl

      assoc_2 : (p : Parsed ℕ) → next (next p (λ v es. got (some v) es)) (λ y cs. denied_in value y (λ d. k d cs)) ≡ next p (λ v es. denied_in value (some v) (λ d. k d es))
      assoc_2 (refuse n) = refl
      assoc_2 (got a cs) = refl

      by : (x : ℕ) → here ≡ x → x < 2
          → need 6 bs (next (cond (eqb x 0) (got none (drop 6 bs)) (next (take_bits 16 (drop 6 bs)) (λ v es. got (some v) es))) (λ y cs. denied_in value y (λ d. k d cs)))
          ≡ need (6 + cond (eqb x 1) 16 0) bs (k (cond (eqb x 1) (some (field_in 6 16 bs)) none) (drop (6 + cond (eqb x 1) 16 0) bs))
      by zero e l = refl
      by (suc zero) e l =
          ap (need 6 bs) (assoc_2 (take_bits 16 (drop 6 bs)))
          ∙ step_bits 6 16 bs (λ v es. denied_in value (some v) (λ d. k d es))
          ∙ ap (need 22 bs) (outcome_is (field_in 6 16 bs) (field_small 6 16 bs h) (λ o. k (some o) (drop 22 bs)))
      by (suc (suc x)) e l = let z : ⊥ = omega arith in absurd z

  pub normal_13 : need 4 bs (fields13 value (drop 4 bs)) ≡ need (node_length (deny_node bs)) bs (got (denies deny_read) (drop (node_length (deny_node bs)) bs))
  unfolding deny_node
  normal_13 =
      let sh = shape_is in
      let den = denied_read in
      let l = option_of (mark_in (deny_before bs) bs) in
      let m = option_of (mark_in (deny_middle bs) bs) in
      let n = facts13_in in
      let fs = fields_in 10 n (drop (deny_after bs + 12) bs) in
      step_bits 4 1 bs (shape13 value)
      ∙ step_denied (λ d cs. next (tight.take_optional 15 cs) (label13 value sh d))
      ∙ step_mark (deny_before bs) bs (label13 value sh den) h
      ∙ step_mark (deny_middle bs) bs (reason13 value sh den l) h
      ∙ step_bits (deny_after bs) 12 bs (count13 value sh den l m)
      ∙ step_each (deny_after bs + 12) 10 n bs (facts13 value sh den l m)
      ∙ ap (λ i. need i bs (got (denies (record { denied = den; facts = fs; label = l; reason = m; shape = shape_of sh })) (drop i bs))) (let z : deny_after bs + 12 + 10 * n ≡ deny_after bs + 12 + (6 * 0 + 10 * n) = omega arith in z)

  -- ---- 8
  abbrev pub owed8_in : ℕ
  owed8_in = field_in 5 7 bs

  abbrev pub grant_read : Grant Outcome
  grant_read =
      record {
        outcome = field_in 12 16 bs;
        obligations = fields_in 6 owed8_in (drop (grant_node bs).width bs);
        label = option_of (mark_in 28 bs);
        reason = option_of (mark_in (grant_middle bs) bs);
        shape = shape_of (field_in 4 1 bs);
      }

  pub owed_8 : (grant_node bs).obligations ≡ owed8_in
  unfolding grant_node
  owed_8 = let e = field_split 5 0 7 bs in let s = field_small 5 7 bs h in omega arith

  rest_8 : (p : List ℕ → Parsed Condition) → need 12 bs (next (take_bits 16 (drop 12 bs)) (outcome8 value p (field_in 4 1 bs) owed8_in)) ≡ need (node_length (grant_node bs)) bs (next (p (drop (node_length (grant_node bs)) bs)) (λ c cs. got (grant grant_read c) cs))
  unfolding grant_node
  rest_8 p =
      let sh = field_in 4 1 bs in
      let n = owed8_in in
      let v = field_in 12 16 bs in
      let l = option_of (mark_in 28 bs) in
      let m = option_of (mark_in (grant_middle bs) bs) in
      let w = grant_middle bs + mark_width (mark_in (grant_middle bs) bs) in
      step_bits 12 16 bs (outcome8 value p sh n)
      ∙ ap (need 28 bs) (outcome_is v (field_small 12 16 bs h) (λ o. next (tight.take_optional 15 (drop 28 bs)) (label8 value p sh n o)))
      ∙ step_mark 28 bs (label8 value p sh n v) h
      ∙ step_mark (grant_middle bs) bs (reason8 value p sh n v l) h
      ∙ step_each w 6 n bs (obligations8 value p sh v l m)
      ∙ ap (λ i. need i bs (obligations8 value p sh v l m (fields_in 6 n (drop w bs)) (drop i bs))) (ap (λ x. w + 6 * x) (sym owed_8) ∙ (let z : w + 6 * (grant_node bs).obligations ≡ w + (6 * (grant_node bs).obligations + 10 * 0) = omega arith in z))

  pub normal_8 : (p : List ℕ → Parsed Condition) → need 4 bs (fields8 value p (drop 4 bs)) ≡
      need 12 bs (unless (few_obligations owed8_in) 8 (need (node_length (grant_node bs)) bs (next (p (drop (node_length (grant_node bs)) bs)) (λ c cs. got (grant grant_read c) cs))))
  normal_8 p =
      let sh = field_in 4 1 bs in
      let n = owed8_in in
      step_bits 4 1 bs (shape8 value p)
      ∙ step_bits 5 7 bs (counted8 value p sh)
      ∙ by (few_obligations n)
    where
      inner : need 12 bs (need 12 bs (next (take_bits 16 (drop 12 bs)) (outcome8 value p (field_in 4 1 bs) owed8_in))) ≡ need 12 bs (next (take_bits 16 (drop 12 bs)) (outcome8 value p (field_in 4 1 bs) owed8_in))
      inner = twice (leb 12 (length bs)) (next (take_bits 16 (drop 12 bs)) (outcome8 value p (field_in 4 1 bs) owed8_in))
        where
          twice : {A : Type 0} (b : Bool) (q : Parsed A) → cond b (cond b q (refuse 19)) (refuse 19) ≡ cond b q (refuse 19)
          twice true q = refl
          twice false q = refl

      by : (b : Bool) → need 12 bs (unless b 8 (next (take_bits 16 (drop 12 bs)) (outcome8 value p (field_in 4 1 bs) owed8_in))) ≡
          need 12 bs (unless b 8 (need (node_length (grant_node bs)) bs (next (p (drop (node_length (grant_node bs)) bs)) (λ c cs. got (grant grant_read c) cs))))
      by false = refl
      by true = sym inner ∙ ap (need 12 bs) (rest_8 p)
