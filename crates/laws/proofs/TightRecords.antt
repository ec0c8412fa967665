-- Trees and records in the tight form: they are written in bits, and take at most 32 bits a word. Records are read back, and what was read is written again.
use Rattle.std.specs.Prelude.{◌≡◌, refl, true, List, [], ◌∷◌, ◌++◌, ℕ, zero, suc, ◌+◌, ◌-◌, ◌*◌, ◌^◌, ◌≤◌, ◌<◌, leb, length}
use Rattle.std.proofs.Common.{◌∙◌, ap, append_assoc, mul-suc, arith, leb-true, length-append}
use Rattle.std.proofs.Math.Option.{Option, none, some}
use Rattle.model.specs.Facts.{fact_bits}
use Rattle.model.specs.Outcome.{outcome_bits}
use Rattle.model.specs.Condition.{Condition, always, never, has, not_c, all_c, any_c, Conditions, cnil, ccons}
use Rattle.model.specs.Decision.{Shape, forbidden, hidden, Decision, permits, denies}
use Rattle.model.specs.Policy.{Policy, permit, deny, grant, all, any, or_else, stored, Policies, pnil, pcons}
use Rattle.model.specs.Partial.{ReducedPolicy, resolved, pending, as_residual}
use Rattle.model.specs.Consulted.{Consulted}
use Rattle.model.specs.Record.{Record, tree}
use Rattle.model.specs.Writing.{count_bits, sheet_bits, mark_bits, shape_bit, presence_field, seen_in, lead_kind, count_c, count}
use Rattle.model.specs.Reading.{Parsed, refuse, got, next, unless, by_kind, as_resolved}
use Rattle.model.specs.Bits.{bits_of, take_bits}
use Rattle.model.specs.Tight.{kind_bits, obligation_count_bits, obligation_tight_bits, optional, each, tight_c, tight_cs, tight_e, numbers_of, after12, after13, tight_d, tight, tights, tight_r, take_entries, UnderNumber, fields12, fields13, loose, resolved_in, pending_in, entries_r, count_r, number_r, fields_r, loose_r}
use Rattle.laws.specs.Lists.{Below}
use Rattle.laws.proofs.FieldLaws.{Holds, fine, nothing, if_holds, then_holds}
use Rattle.laws.proofs.FieldAtLaws.{presence_few, seen_back}
use Rattle.laws.specs.Size.{words, wordss, words_c, words_cs, words_r}
use Rattle.laws.specs.Form.{IfThere, FormC, FormCs, Countable, FormD, FormOf, FormsOf, Free, depth}
use Rattle.laws.proofs.ReadForm.{Named, seen_field}
use Rattle.laws.proofs.BitLaws.{Bits, bits_of_lem, bits_append, length_bits_lem, same_bits}
use Rattle.laws.proofs.TightBack.{step, back_12, back_13, back_t}
use Rattle.laws.proofs.TightRead.{glue, read_t, after, ReadD, read_12, read_13}
use Rattle.laws.proofs.NodeLaws.{kind_small}

-- ---- a tree of good form is written in bits
pub record InBits (l : List ℕ) : Type 0 where
  pub it : Bits l

infix_bits : (x y : List ℕ) → InBits x → InBits y → InBits (x ++ y)
infix_bits x y h k = record { it = bits_append x y h.it k.it }

one_field : (w v : ℕ) → v < 2 ^ w → InBits (bits_of w v)
one_field w v h = record { it = bits_of_lem w v h }

none_at_all : InBits []
none_at_all = record { it = tt }

bits_optional : (w : ℕ) (o : Option ℕ) → IfThere (λ v. v < 2 ^ w) o → InBits (optional w o)
bits_optional w none h = one_field 1 0 (omega arith)
bits_optional w (some v) h = infix_bits (bits_of 1 1) (bits_of w v) (one_field 1 1 (omega arith)) (one_field w v h)

bits_each : (w n : ℕ) (vs : List ℕ) → n ≤ 2 ^ w → Below n vs → InBits (each w vs)
bits_each w n [] h b = none_at_all
bits_each w n (v ∷ vs) h b = infix_bits (bits_of w v) (each w vs) (one_field w v (let k : v < n = b.0 in omega arith)) (bits_each w n vs h b.1)

bits_shape : (s : Shape) → InBits (bits_of 1 (shape_bit s))
bits_shape forbidden = one_field 1 0 (omega arith)
bits_shape hidden = one_field 1 1 (omega arith)

mutual
  bits_c : (c : Condition) → FormC c → InBits (tight_c c)
  bits_c always f = one_field 4 0 (omega arith)
  bits_c never f = one_field 4 1 (omega arith)
  bits_c (has n) f = infix_bits (bits_of 4 2) (bits_of 10 n) (one_field 4 2 (omega arith)) (one_field 10 n f)
  bits_c (not_c c) f = infix_bits (bits_of 4 3) (tight_c c) (one_field 4 3 (omega arith)) (bits_c c f)
  bits_c (all_c cs) f = infix_bits (bits_of 4 4) (bits_of 12 (count_c cs) ++ tight_cs cs) (one_field 4 4 (omega arith)) (infix_bits (bits_of 12 (count_c cs)) (tight_cs cs) (one_field 12 (count_c cs) (omega (arith, f.0))) (bits_cs cs f.1))
  bits_c (any_c cs) f = infix_bits (bits_of 4 5) (bits_of 12 (count_c cs) ++ tight_cs cs) (one_field 4 5 (omega arith)) (infix_bits (bits_of 12 (count_c cs)) (tight_cs cs) (one_field 12 (count_c cs) (omega (arith, f.0))) (bits_cs cs f.1))

  bits_cs : (cs : Conditions) → FormCs cs → InBits (tight_cs cs)
  bits_cs cnil f = none_at_all
  bits_cs (ccons c cs) f = infix_bits (tight_c c) (tight_cs cs) (bits_c c f.0) (bits_cs cs f.1)

module _ {O : Type 0} (G : O → Type 0) (B : Condition → Type 0) (number : O → ℕ) (small : (o : O) → G o → number o < 65536) where
  bits_denied : (den : Option O) → IfThere G den → InBits (optional outcome_bits (numbers_of number den))
  bits_denied none h = bits_optional outcome_bits none tt
  bits_denied (some o) h = bits_optional outcome_bits (some (number o)) (small o h)

  mutual
    pub bits_t : (t : Policy O) → FormOf G B Countable t → InBits (tight number t)
    bits_t (permit o) g = infix_bits (bits_of 4 6) (bits_of 16 (number o)) (one_field 4 6 (omega arith)) (one_field 16 (number o) (small o g))
    bits_t deny g = one_field 4 7 (omega arith)
    bits_t (grant r c) g =
        infix_bits (bits_of 4 8) _ (one_field 4 8 (omega arith))
        (infix_bits (bits_of 1 (shape_bit r.shape)) _ (bits_shape r.shape)
        (infix_bits (bits_of 7 (length r.obligations)) _ (one_field 7 (length r.obligations) (omega (arith, g.0.1.0)))
        (infix_bits (bits_of 16 (number r.outcome)) _ (one_field 16 (number r.outcome) (small r.outcome g.0.0))
        (infix_bits (optional 15 r.label) _ (bits_optional 15 r.label g.0.2)
        (infix_bits (optional 15 r.reason) _ (bits_optional 15 r.reason g.0.3)
        (infix_bits (each 6 r.obligations) (tight_c c) (bits_each 6 64 r.obligations (omega arith) g.0.1.1) (bits_c c g.1)))))))
    bits_t (all ts) g = infix_bits (bits_of 4 9) _ (one_field 4 9 (omega arith)) (infix_bits (bits_of 12 (count ts)) (tights number ts) (one_field 12 (count ts) (omega (arith, g.0))) (bits_ts ts g.1))
    bits_t (any ts) g = infix_bits (bits_of 4 10) _ (one_field 4 10 (omega arith)) (infix_bits (bits_of 12 (count ts)) (tights number ts) (one_field 12 (count ts) (omega (arith, g.0))) (bits_ts ts g.1))
    bits_t (or_else a b) g = infix_bits (bits_of 4 11) _ (one_field 4 11 (omega arith)) (infix_bits (tight number a) (tight number b) (bits_t a g.0) (bits_t b g.1))
    bits_t (stored (permits p)) g =
        infix_bits (bits_of 4 12) _ (one_field 4 12 (omega arith))
        (infix_bits (bits_of 7 (length p.obligations)) _ (one_field 7 (length p.obligations) (omega (arith, g.1.0)))
        (infix_bits (bits_of 16 (number p.outcome)) _ (one_field 16 (number p.outcome) (small p.outcome g.0))
        (infix_bits (optional 15 p.label) _ (bits_optional 15 p.label g.2)
        (infix_bits (bits_of 12 (length p.facts)) _ (one_field 12 (length p.facts) (omega (arith, g.3.0)))
        (infix_bits (each 6 p.obligations) (each 10 p.facts) (bits_each 6 64 p.obligations (omega arith) g.1.1) (bits_each 10 1024 p.facts (omega arith) g.3.1))))))
    bits_t (stored (denies d)) g =
        infix_bits (bits_of 4 13) _ (one_field 4 13 (omega arith))
        (infix_bits (bits_of 1 (shape_bit d.shape)) _ (bits_shape d.shape)
        (infix_bits (optional 16 (numbers_of number d.denied)) _ (bits_denied d.denied g.0)
        (infix_bits (optional 15 d.label) _ (bits_optional 15 d.label g.2)
        (infix_bits (optional 15 d.reason) _ (bits_optional 15 d.reason g.3)
        (infix_bits (bits_of 12 (length d.facts)) (each 10 d.facts) (one_field 12 (length d.facts) (omega (arith, g.1.0))) (bits_each 10 1024 d.facts (omega arith) g.1.1))))))

    bits_ts : (ts : Policies O) → FormsOf G B Countable ts → InBits (tights number ts)
    bits_ts pnil g = none_at_all
    bits_ts (pcons t ts) g = infix_bits (tight number t) (tights number ts) (bits_t t g.0) (bits_ts ts g.1)

-- ---- never longer than 32 bits a word
length_optional : (w : ℕ) (o : Option ℕ) → length (optional w o) ≤ 1 + w
length_optional w none = omega (arith, length_bits_lem 1 0)
length_optional w (some v) = omega (arith, length-append (bits_of 1 1) (bits_of w v), length_bits_lem 1 1, length_bits_lem w v)

pub length_each : (w : ℕ) (vs : List ℕ) → length (each w vs) ≡ w * length vs
length_each w [] = omega arith
length_each w (v ∷ vs) = length-append (bits_of w v) (each w vs) ∙ (let e = length_each w vs in let f = length_bits_lem w v in let g : w * suc (length vs) ≡ w * length vs + w = mul-suc w (length vs) in omega arith)

mutual
  short_c : (c : Condition) → length (tight_c c) ≤ 32 * words_c c
  short_c always = omega (arith, length_bits_lem 4 0)
  short_c never = omega (arith, length_bits_lem 4 1)
  short_c (has f) = omega (arith, length-append (bits_of 4 2) (bits_of 10 f), length_bits_lem 4 2, length_bits_lem 10 f)
  short_c (not_c c) = omega (arith, length-append (bits_of 4 3) (tight_c c), length_bits_lem 4 3, short_c c)
  short_c (all_c cs) = omega (arith, length-append (bits_of 4 4) (bits_of 12 (count_c cs) ++ tight_cs cs), length-append (bits_of 12 (count_c cs)) (tight_cs cs), length_bits_lem 4 4, length_bits_lem 12 (count_c cs), short_cs cs)
  short_c (any_c cs) = omega (arith, length-append (bits_of 4 5) (bits_of 12 (count_c cs) ++ tight_cs cs), length-append (bits_of 12 (count_c cs)) (tight_cs cs), length_bits_lem 4 5, length_bits_lem 12 (count_c cs), short_cs cs)

  short_cs : (cs : Conditions) → length (tight_cs cs) ≤ 32 * words_cs cs
  short_cs cnil = omega arith
  short_cs (ccons c cs) = omega (arith, length-append (tight_c c) (tight_cs cs), short_c c, short_cs cs)

short_e : (es : Consulted) → length (tight_e es) ≤ 12 * length es
short_e [] = omega arith
short_e (e ∷ es) =
    omega (arith, length-append (bits_of 2 (presence_field e.seen)) (bits_of 10 e.fact ++ tight_e es), length-append (bits_of 10 e.fact) (tight_e es), length_bits_lem 2 (presence_field e.seen), length_bits_lem 10 e.fact, short_e es)

module _ {O : Type 0} (number : O → ℕ) where
  mutual
    pub short_t : (t : Policy O) → length (tight number t) ≤ 32 * words t
    short_t (permit o) = omega (arith, length-append (bits_of 4 6) (bits_of 16 (number o)), length_bits_lem 4 6, length_bits_lem 16 (number o))
    short_t deny = omega (arith, length_bits_lem 4 7)
    short_t (grant g c) =
        let x₆ = tight_c c in
        let x₅ = each obligation_tight_bits g.obligations ++ x₆ in
        let x₄ = optional mark_bits g.reason ++ x₅ in
        let x₃ = optional mark_bits g.label ++ x₄ in
        let x₂ = bits_of outcome_bits (number g.outcome) ++ x₃ in
        let x₁ = bits_of obligation_count_bits (length g.obligations) ++ x₂ in
        let l₀ = length-append (bits_of 4 8) (bits_of 1 (shape_bit g.shape) ++ x₁) in
        let l₁ = length-append (bits_of 1 (shape_bit g.shape)) x₁ in
        let l₂ = length-append (bits_of obligation_count_bits (length g.obligations)) x₂ in
        let l₃ = length-append (bits_of outcome_bits (number g.outcome)) x₃ in
        let l₄ = length-append (optional mark_bits g.label) x₄ in
        let l₅ = length-append (optional mark_bits g.reason) x₅ in
        let l₆ = length-append (each obligation_tight_bits g.obligations) x₆ in
        omega (
          arith,
          length_bits_lem 4 8,
          length_bits_lem 1 (shape_bit g.shape),
          length_bits_lem 7 (length g.obligations),
          length_bits_lem 16 (number g.outcome),
          length_optional 15 g.label,
          length_optional 15 g.reason,
          length_each 6 g.obligations,
          short_c c,
        )
    short_t (all ts) = omega (arith, length-append (bits_of 4 9) (bits_of 12 (count ts) ++ tights number ts), length-append (bits_of 12 (count ts)) (tights number ts), length_bits_lem 4 9, length_bits_lem 12 (count ts), short_ts ts)
    short_t (any ts) = omega (arith, length-append (bits_of 4 10) (bits_of 12 (count ts) ++ tights number ts), length-append (bits_of 12 (count ts)) (tights number ts), length_bits_lem 4 10, length_bits_lem 12 (count ts), short_ts ts)
    short_t (or_else a b) = omega (arith, length-append (bits_of 4 11) (tight number a ++ tight number b), length-append (tight number a) (tight number b), length_bits_lem 4 11, short_t a, short_t b)
    short_t (stored (permits p)) =
        let x₅ = each fact_bits p.facts in
        let x₄ = each obligation_tight_bits p.obligations ++ x₅ in
        let x₃ = bits_of count_bits (length p.facts) ++ x₄ in
        let x₂ = optional mark_bits p.label ++ x₃ in
        let x₁ = bits_of outcome_bits (number p.outcome) ++ x₂ in
        let l₀ = length-append (bits_of 4 12) (bits_of obligation_count_bits (length p.obligations) ++ x₁) in
        let l₁ = length-append (bits_of obligation_count_bits (length p.obligations)) x₁ in
        let l₂ = length-append (bits_of outcome_bits (number p.outcome)) x₂ in
        let l₃ = length-append (optional mark_bits p.label) x₃ in
        let l₄ = length-append (bits_of count_bits (length p.facts)) x₄ in
        let l₅ = length-append (each obligation_tight_bits p.obligations) x₅ in
        omega (
          arith,
          length_bits_lem 4 12,
          length_bits_lem 7 (length p.obligations),
          length_bits_lem 16 (number p.outcome),
          length_optional 15 p.label,
          length_bits_lem 12 (length p.facts),
          length_each 6 p.obligations,
          length_each 10 p.facts,
        )
    short_t (stored (denies d)) =
        let x₅ = each fact_bits d.facts in
        let x₄ = bits_of count_bits (length d.facts) ++ x₅ in
        let x₃ = optional mark_bits d.reason ++ x₄ in
        let x₂ = optional mark_bits d.label ++ x₃ in
        let x₁ = optional outcome_bits (numbers_of number d.denied) ++ x₂ in
        let l₀ = length-append (bits_of 4 13) (bits_of 1 (shape_bit d.shape) ++ x₁) in
        let l₁ = length-append (bits_of 1 (shape_bit d.shape)) x₁ in
        let l₂ = length-append (optional outcome_bits (numbers_of number d.denied)) x₂ in
        let l₃ = length-append (optional mark_bits d.label) x₃ in
        let l₄ = length-append (optional mark_bits d.reason) x₄ in
        let l₅ = length-append (bits_of count_bits (length d.facts)) x₅ in
        omega (
          arith,
          length_bits_lem 4 13,
          length_bits_lem 1 (shape_bit d.shape),
          length_optional 16 (numbers_of number d.denied),
          length_optional 15 d.label,
          length_optional 15 d.reason,
          length_bits_lem 12 (length d.facts),
          length_each 10 d.facts,
        )

    short_ts : (ts : Policies O) → length (tights number ts) ≤ 32 * wordss ts
    short_ts pnil = omega arith
    short_ts (pcons t ts) = omega (arith, length-append (tight number t) (tights number ts), short_t t, short_ts ts)

  pub short_r : (n : ℕ) (r : Record O) → length (tight_r number n r) ≤ 32 * words_r r
  short_r n r =
      let x₃ = tight_e r.log ++ tight number (tree r) in
      let x₂ = bits_of count_bits (length r.log) ++ x₃ in
      let x₁ = bits_of sheet_bits n ++ x₂ in
      let k = lead_kind number r.body in
      let l₀ = length-append (bits_of kind_bits k) x₁ in
      let l₁ = length-append (bits_of sheet_bits n) x₂ in
      let l₂ = length-append (bits_of count_bits (length r.log)) x₃ in
      let l₃ = length-append (tight_e r.log) (tight number (tree r)) in
      omega (arith, length_bits_lem 4 k, length_bits_lem 16 n, length_bits_lem 12 (length r.log), short_e r.log, short_t (tree r))

-- ---- records
bits_e : (es : Consulted) → Named es → InBits (tight_e es)
bits_e [] h = none_at_all
bits_e (e ∷ es) h =
    infix_bits (bits_of 2 (presence_field e.seen)) _ (one_field 2 (presence_field e.seen) (presence_few e.seen))
    (infix_bits (bits_of 10 e.fact) (tight_e es) (one_field 10 e.fact h.0) (bits_e es h.1))

back_e : (es : Consulted) (bs : List ℕ) → Named es → take_entries (length es) (tight_e es ++ bs) ≡ got es bs
back_e [] bs h = refl
back_e (e ∷ es) bs h =
    let p = presence_field e.seen in
    step 2 p (bits_of 10 e.fact ++ tight_e es) bs (λ p cs. next (take_bits 10 cs) (λ f ds. next (take_entries (length es) ds) (λ xs us. got (record { fact = f; seen = seen_in p } ∷ xs) us))) (presence_few e.seen)
    ∙ step 10 e.fact (tight_e es) bs (λ f ds. next (take_entries (length es) ds) (λ xs us. got (record { fact = f; seen = seen_in p } ∷ xs) us)) h.0
    ∙ ap (λ q. next q (λ xs us. got (record { fact = e.fact; seen = seen_in p } ∷ xs) us)) (back_e es bs h.1)
    ∙ ap (λ s. got (record { fact = e.fact; seen = s } ∷ es) bs) (seen_back e.seen)

record ReadE (n : ℕ) (bs : List ℕ) (es : Consulted) (cs : List ℕ) : Type 0 where
  written : tight_e es ++ cs ≡ bs
  named : Named es
  many_as : length es ≡ n
  bits : Bits cs

read_e : (n : ℕ) (bs : List ℕ) → Bits bs → Holds (ReadE n bs) (take_entries n bs)
read_e zero bs h = fine (record { written = refl; named = tt; many_as = refl; bits = h })
read_e (suc n) bs h =
    then_holds (take_bits 2 bs) (λ p cs. next (take_bits 10 cs) (λ f ds. next (take_entries n ds) (λ xs us. got (record { fact = f; seen = seen_in p } ∷ xs) us))) (same_bits 2 bs h) (λ p cs s.
    then_holds (take_bits 10 cs) (λ f ds. next (take_entries n ds) (λ xs us. got (record { fact = f; seen = seen_in p } ∷ xs) us)) (same_bits 10 cs s.bits) (λ f ds t.
    then_holds (take_entries n ds) (λ xs us. got (record { fact = f; seen = seen_in p } ∷ xs) us) (read_e n ds t.bits) (λ xs us e.
    fine (record {
      written =
          glue (bits_of 2 (presence_field (seen_in p))) (bits_of 10 f ++ tight_e xs) us
          (glue (bits_of 10 f) (tight_e xs) us e.written t.written)
          (ap (λ x. bits_of 2 x ++ cs) (seen_field p s.fits) ∙ s.written);
      named = (t.fits, e.named);
      many_as = ap suc e.many_as;
      bits = e.bits;
    }))))

module _ {O : Type 0} (G : O → Type 0) (B : Condition → Type 0) (number : O → ℕ) (value : ℕ → Option O)
    (small : (o : O) → G o → number o < 65536) (again : (o : O) → G o → value (number o) ≡ some o) where
  pub bits_r : (n : ℕ) → n < 65536 → (r : Record O) → length r.log < 4096 → Named r.log → FormOf G B Countable (tree r) → InBits (tight_r number n r)
  bits_r n h r few f g =
      infix_bits (bits_of 4 (lead_kind number r.body)) _ (one_field 4 (lead_kind number r.body) (kind_small number r.body))
      (infix_bits (bits_of 16 n) _ (one_field 16 n h)
      (infix_bits (bits_of 12 (length r.log)) _ (one_field 12 (length r.log) few)
      (infix_bits (tight_e r.log) (tight number (tree r)) (bits_e r.log f) (bits_t G B number small (tree r) g))))

  back_resolved : (d : Decision O) (bs : List ℕ) → FormD G Countable d → resolved_in value (tight_d number d ++ bs) ≡ got (resolved d) bs
  back_resolved (permits p) bs f =
      step 4 12 (after12 number p) bs (λ k cs. unless (leb 12 k) 5 (by_kind (as_resolved value (fields12 value cs) ∷ as_resolved value (fields13 value cs) ∷ []) (k - 12))) (omega arith)
      ∙ ap (as_resolved value) (back_12 G B number value small again p bs f)
  back_resolved (denies d) bs f =
      step 4 13 (after13 number d) bs (λ k cs. unless (leb 12 k) 5 (by_kind (as_resolved value (fields12 value cs) ∷ as_resolved value (fields13 value cs) ∷ []) (k - 12))) (omega arith)
      ∙ ap (as_resolved value) (back_13 G B number value small again d bs f)

  back_fields : (p : List ℕ → Parsed (ReducedPolicy O)) (n : ℕ) → n < 65536 → (b : ReducedPolicy O) (es : Consulted) → length es < 4096 → Named es → (bs : List ℕ)
      → p (tight number (as_residual b) ++ bs) ≡ got b bs
      → fields_r value p ((bits_of 16 n ++ (bits_of 12 (length es) ++ (tight_e es ++ tight number (as_residual b)))) ++ bs) ≡ got (record { sheet = n; held = record { body = b; log = es } }) bs
  back_fields p n h b es few f bs e =
      let x₂ = tight_e es ++ tight number (as_residual b) in
      step 16 n (bits_of 12 (length es) ++ x₂) bs (number_r value p) h
      ∙ step 12 (length es) x₂ bs (count_r value p n) few
      ∙ ap (λ l. next (take_entries (length es) l) (entries_r value p n)) (append_assoc (tight_e es) (tight number (as_residual b)) bs)
      ∙ ap (λ q. next q (entries_r value p n)) (back_e es (tight number (as_residual b) ++ bs) f)
      ∙ ap (λ q. next q (λ b cs. got (record { sheet = n; held = record { body = b; log = es } }) cs)) e

  back_lead : (n : ℕ) → n < 65536 → (b : ReducedPolicy O) (es : Consulted) → length es < 4096 → Named es → FormOf G B Countable (as_residual b) → depth (as_residual b) ≤ 32 → (bs : List ℕ)
      → loose_r value (tight_r number n (record { body = b; log = es }) ++ bs) ≡ got (record { sheet = n; held = record { body = b; log = es } }) bs
  back_lead n h (resolved d) es few f g k bs =
      step 4 14 (bits_of 16 n ++ (bits_of 12 (length es) ++ (tight_e es ++ tight_d number d))) bs (λ k cs. unless (leb 14 k) 5 (by_kind (fields_r value (resolved_in value) cs ∷ fields_r value (pending_in value) cs ∷ []) (k - 14))) (omega arith)
      ∙ back_fields (resolved_in value) n h (resolved d) es few f bs (back_resolved d bs g)
  back_lead n h (pending t) es few f g k bs =
      step 4 15 (bits_of 16 n ++ (bits_of 12 (length es) ++ (tight_e es ++ tight number t))) bs (λ k cs. unless (leb 14 k) 5 (by_kind (fields_r value (resolved_in value) cs ∷ fields_r value (pending_in value) cs ∷ []) (k - 14))) (omega arith)
      ∙ back_fields (pending_in value) n h (pending t) es few f bs (ap (λ q. next q (λ x us. got (pending x) us)) (back_t G B number value small again t true 32 bs k g tt))

  pub back_r : (n : ℕ) → n < 65536 → (r : Record O) → length r.log < 4096 → Named r.log → FormOf G B Countable (tree r) → depth (tree r) ≤ 32 → (bs : List ℕ)
      → loose_r value (tight_r number n r ++ bs) ≡ got (record { sheet = n; held = r }) bs
  back_r n h r few f g k bs = back_lead n h r.body r.log few f g k bs

module _ {O : Type 0} (G : O → Type 0) (number : O → ℕ) (value : ℕ → Option O) (sound : (v : ℕ) → IfThere G (value v)) (only : (v : ℕ) → IfThere (λ o. number o ≡ v) (value v)) where
  record ReadB (k : ℕ) (bs : List ℕ) (b : ReducedPolicy O) (cs : List ℕ) : Type 0 where
    written : tight number (as_residual b) ++ cs ≡ bs
    form : FormOf G Free Countable (as_residual b)
    deep : depth (as_residual b) ≤ 32
    bits : Bits cs
    kind : lead_kind number b ≡ k

  node_read : (k : ℕ) (us bs : List ℕ) (q : Parsed (Decision O)) → bits_of kind_bits k ++ us ≡ bs → Holds (ReadD G number value sound only k us) q → Holds (ReadB 14 bs) (as_resolved value q)
  node_read k us bs (refuse n) e h = nothing
  node_read k us bs (got d cs) e h =
      let s = h.it in
      fine (record {
        written = ap (λ z. z ++ cs) s.kind ∙ glue (bits_of kind_bits k) (after G number value sound only d) cs s.written e;
        form = s.form;
        deep = omega arith;
        bits = s.bits;
        kind = refl;
      })

  resolved_by : (k : ℕ) (us bs : List ℕ) → bits_of kind_bits (12 + k) ++ us ≡ bs → Bits us → Holds (ReadB 14 bs) (by_kind (as_resolved value (fields12 value us) ∷ as_resolved value (fields13 value us) ∷ []) k)
  resolved_by zero us bs e h = node_read 12 us bs (fields12 value us) e (read_12 G number value sound only us h)
  resolved_by (suc zero) us bs e h = node_read 13 us bs (fields13 value us) e (read_13 G number value sound only us h)
  resolved_by (suc (suc k)) us bs e h = nothing

  read_resolved : (bs : List ℕ) → Bits bs → Holds (ReadB 14 bs) (resolved_in value bs)
  read_resolved bs h =
      then_holds (take_bits kind_bits bs) (λ k cs. unless (leb 12 k) 5 (by_kind (as_resolved value (fields12 value cs) ∷ as_resolved value (fields13 value cs) ∷ []) (k - 12))) (same_bits kind_bits bs h) (λ k cs s.
      if_holds (leb 12 k) 5 (by_kind (as_resolved value (fields12 value cs) ∷ as_resolved value (fields13 value cs) ∷ []) (k - 12)) (λ e.
      let twelve : 12 ≤ k = leb-true 12 k e in
      let same : 12 + (k - 12) ≡ k = omega arith in
      resolved_by (k - 12) cs bs (ap (λ x. bits_of kind_bits x ++ cs) same ∙ s.written) s.bits))

  read_pending : (bs : List ℕ) → Bits bs → Holds (ReadB 15 bs) (pending_in value bs)
  read_pending bs h =
      then_holds (loose value true 32 bs) (λ t cs. got (pending t) cs) (read_t G number value sound only true 32 bs h) (λ t cs s.
      fine (record { written = s.written; form = s.form; deep = s.deep; bits = s.bits; kind = refl }))

  pub record ReadR (bs : List ℕ) (u : UnderNumber O) (cs : List ℕ) : Type 0 where
    pub written : tight_r number u.sheet u.held ++ cs ≡ bs
    pub number_fits : u.sheet < 65536
    pub form : FormOf G Free Countable (tree u.held)
    pub deep : depth (tree u.held) ≤ 32
    pub named : Named u.held.log
    pub few : length u.held.log < 4096

  fields_read : (k : ℕ) (p : List ℕ → Parsed (ReducedPolicy O)) → ((us : List ℕ) → Bits us → Holds (ReadB k us) (p us)) → (us bs : List ℕ) → bits_of kind_bits k ++ us ≡ bs → Bits us → Holds (ReadR bs) (fields_r value p us)
  fields_read k p hp us bs e h =
      then_holds (take_bits 16 us) (number_r value p) (same_bits 16 us h) (λ n b₁ s₁.
      then_holds (take_bits 12 b₁) (count_r value p n) (same_bits 12 b₁ s₁.bits) (λ m b₂ s₂.
      then_holds (take_entries m b₂) (entries_r value p n) (read_e m b₂ s₂.bits) (λ es b₃ s₃.
      then_holds (p b₃) (λ b cs. got (record { sheet = n; held = record { body = b; log = es } }) cs) (hp b₃ s₃.bits) (λ b b₄ s₄.
      let l = s₃.many_as in
      let q = s₂.fits in
      let x₃ = tight number (as_residual b) in
      let x₂ = tight_e es ++ x₃ in
      let x₁ = bits_of 12 (length es) ++ x₂ in
      fine (record {
        written =
            glue (bits_of 4 (lead_kind number b)) (bits_of 16 n ++ x₁) b₄
            (glue (bits_of 16 n) x₁ b₄
            (glue (bits_of 12 (length es)) x₂ b₄
            (glue (tight_e es) x₃ b₄ s₄.written s₃.written)
            (ap (λ x. bits_of 12 x ++ b₂) l ∙ s₂.written))
            s₁.written)
            (ap (λ x. bits_of 4 x ++ us) s₄.kind ∙ e);
        number_fits = s₁.fits;
        form = s₄.form;
        deep = s₄.deep;
        named = s₃.named;
        few = omega arith;
      })))))

  record_by : (k : ℕ) (us bs : List ℕ) → bits_of kind_bits (14 + k) ++ us ≡ bs → Bits us → Holds (ReadR bs) (by_kind (fields_r value (resolved_in value) us ∷ fields_r value (pending_in value) us ∷ []) k)
  record_by zero us bs e h = fields_read 14 (resolved_in value) read_resolved us bs e h
  record_by (suc zero) us bs e h = fields_read 15 (pending_in value) read_pending us bs e h
  record_by (suc (suc k)) us bs e h = nothing

  pub read_r : (bs : List ℕ) → Bits bs → Holds (ReadR bs) (loose_r value bs)
  read_r bs h =
      then_holds (take_bits kind_bits bs) (λ k cs. unless (leb 14 k) 5 (by_kind (fields_r value (resolved_in value) cs ∷ fields_r value (pending_in value) cs ∷ []) (k - 14))) (same_bits kind_bits bs h) (λ k cs s.
      if_holds (leb 14 k) 5 (by_kind (fields_r value (resolved_in value) cs ∷ fields_r value (pending_in value) cs ∷ []) (k - 14)) (λ e.
      let fourteen : 14 ≤ k = leb-true 14 k e in
      let same : 14 + (k - 14) ≡ k = omega arith in
      record_by (k - 14) cs bs (ap (λ x. bits_of kind_bits x ++ cs) same ∙ s.written) s.bits))
