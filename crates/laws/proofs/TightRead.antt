-- Policies in the tight form: what was read is of good form, and is written again as the same bits.
use Rattle.std.specs.Prelude.{◌≡◌, refl, Bool, true, false, cond, ◌&&◌, List, [], ◌∷◌, ◌++◌, ℕ, zero, suc, ◌+◌, ◌-◌, ◌^◌, ◌≤◌, ◌<◌, eqb, leb, length, replicate}
use Rattle.std.proofs.Common.{sym, ◌∙◌, ap, subst, append_assoc, arith, leb-true}
use Rattle.std.proofs.Math.Option.{Option, none, some}
use Rattle.model.specs.Facts.{fact_bits}
use Rattle.model.specs.Outcome.{outcome_bits}
use Rattle.model.specs.Condition.{Condition}
use Rattle.model.specs.Decision.{Decision, permits, denies}
use Rattle.model.specs.Policy.{Policy, permit, deny, grant, all, any, or_else, stored, Policies, pnil, pcons}
use Rattle.model.specs.Writing.{count_bits, mark_bits, shape_bit, count}
use Rattle.model.specs.Reading.{Parsed, refuse, got, next, unless, many, few_obligations, shape_of, outcome_of, in_residual, as_stored, last_kind}
use Rattle.laws.specs.Lists.{Below}
use Rattle.laws.proofs.FieldLaws.{Holds, fine, nothing, if_holds, then_holds}
use Rattle.laws.specs.Size.{SheetIf, SheetsIf}
use Rattle.laws.specs.Form.{IfThere, Countable, FormD, FormOf, FormsOf, Free, depth, depths}
use Rattle.model.specs.Bits.{bits_of, run, take_bits, take_run}
use Rattle.laws.proofs.BitLaws.{Bits, Fits, Same, same_bits, SameRun, same_run}
use Rattle.model.specs.Tight.{kind_bits, obligation_count_bits, obligation_tight_bits, optional, each, tight_c, numbers_of, tight_d, tight, tights, take_optional, take_each, loose_c, denied_in, after12, after13, facts12, obligations12, count12, label12, outcome12, counted12, fields12, obligations8, reason8, label8, outcome8, counted8, shape8, fields8, facts13, count13, reason13, label13, denied13, shape13, fields13, fields_p, loose}
use Rattle.laws.proofs.TightConditions.{read_c_lem}
use Rattle.laws.proofs.NodeLaws.{shape_again, outcome_holds as outcome_of_holds, both_there}
use Rattle.laws.proofs.SheetIfLaws.{sheet_if, nil_if, cons_if, all_if, any_if, else_if}

-- Parts one after the other.
pub glue : (x y cs : List ℕ) {zs bs : List ℕ} → y ++ cs ≡ zs → x ++ zs ≡ bs → (x ++ y) ++ cs ≡ bs
glue x y cs e f = append_assoc x y cs ∙ ap (λ l. x ++ l) e ∙ f

-- ---- parts of a node
record ReadO (w : ℕ) (bs : List ℕ) (o : Option ℕ) (cs : List ℕ) : Type 0 where
  written : optional w o ++ cs ≡ bs
  fits : IfThere (λ v. v < 2 ^ w) o
  bits : Bits cs

optional_at : (w : ℕ) (bs : List ℕ) (here : ℕ) (cs : List ℕ) → Same 1 bs here cs → Holds (ReadO w bs) (cond (eqb here 0) (got none cs) (next (take_bits w cs) (λ v ds. got (some v) ds)))
optional_at w bs zero cs s = fine (record { written = s.written; fits = tt; bits = s.bits })
optional_at w bs (suc zero) cs s =
    then_holds (take_bits w cs) (λ v ds. got (some v) ds) (same_bits w cs s.bits) (λ v ds t.
    fine (record { written = glue (bits_of 1 1) (bits_of w v) ds t.written s.written; fits = t.fits; bits = t.bits }))
optional_at w bs (suc (suc n)) cs s = let k = s.fits in let z : ⊥ = omega arith in absurd z

read_optional : (w : ℕ) (bs : List ℕ) → Bits bs → Holds (ReadO w bs) (take_optional w bs)
read_optional w bs h = then_holds (take_bits 1 bs) (λ here cs. cond (eqb here 0) (got none cs) (next (take_bits w cs) (λ v ds. got (some v) ds))) (same_bits 1 bs h) (λ here cs s. optional_at w bs here cs s)

record ReadE (w n : ℕ) (bs vs cs : List ℕ) : Type 0 where
  written : each w vs ++ cs ≡ bs
  below : Below (2 ^ w) vs
  many_as : length vs ≡ n
  bits : Bits cs

fits_length : (w n : ℕ) (vs : List ℕ) → Fits (replicate n w) vs → length vs ≡ n
fits_length w zero [] f = refl
fits_length w zero (v ∷ vs) f = absurd f
fits_length w (suc n) [] f = absurd f
fits_length w (suc n) (v ∷ vs) f = ap suc (fits_length w n vs f.1)

fits_below : (w n : ℕ) (vs : List ℕ) → Fits (replicate n w) vs → Below (2 ^ w) vs
fits_below w zero [] f = tt
fits_below w zero (v ∷ vs) f = absurd f
fits_below w (suc n) [] f = absurd f
fits_below w (suc n) (v ∷ vs) f = (f.0, fits_below w n vs f.1)

read_each : (w n : ℕ) (bs : List ℕ) → Bits bs → Holds (ReadE w n bs) (take_each w n bs)
read_each w n bs h = each_at (take_run (replicate n w) bs) (same_run (replicate n w) bs h)
  where
    each_at : (p : Parsed (List ℕ)) → Holds (SameRun (replicate n w) bs) p → Holds (ReadE w n bs) p
    each_at (refuse e) k = nothing
    each_at (got vs cs) k =
        let s = k.it in
        let l = fits_length w n vs s.fits in
        fine (record { written = ap (λ m. run (replicate m w) vs ++ cs) l ∙ s.written; below = fits_below w n vs s.fits; many_as = l; bits = s.bits })

module _ {O : Type 0} (G : O → Type 0) (number : O → ℕ) (value : ℕ → Option O) (sound : (v : ℕ) → IfThere G (value v)) (only : (v : ℕ) → IfThere (λ o. number o ≡ v) (value v)) where
  module _ {A : Type 0} {Q : A → List ℕ → Type 0} where
    outcome_holds : (v : ℕ) (k : O → Parsed A) → ((o : O) → G o → number o ≡ v → Holds Q (k o)) → Holds Q (outcome_of value (value v) k)
    outcome_holds v k f = outcome_of_holds value (λ o. G o × (number o ≡ v)) (value v) k (both_there G (λ o. number o ≡ v) (value v) (sound v) (only v)) (λ o h. f o h.0 h.1)

    denied_holds : (here : Option ℕ) (k : Option O → Parsed A) → ((den : Option O) → IfThere G den → numbers_of number den ≡ here → Holds Q (k den)) → Holds Q (denied_in value here k)
    denied_holds none k f = f none tt refl
    denied_holds (some v) k f = outcome_holds v (λ o. k (some o)) (λ o g e. f (some o) g (ap some e))

  abbrev pub after : Decision O → List ℕ
  after (permits p) = after12 number p
  after (denies d) = after13 number d

  -- The decision of a node of kind k.
  pub record ReadD (k : ℕ) (bs : List ℕ) (d : Decision O) (cs : List ℕ) : Type 0 where
    pub written : after d ++ cs ≡ bs
    pub form : FormD G Countable d
    pub bits : Bits cs
    pub kind : tight_d number d ≡ bits_of kind_bits k ++ after d

  pub read_12 : (bs : List ℕ) → Bits bs → Holds (ReadD 12 bs) (fields12 value bs)
  read_12 bs h =
      then_holds (take_bits obligation_count_bits bs) (counted12 value) (same_bits obligation_count_bits bs h) (λ n b₁ s₁.
      then_holds (take_bits outcome_bits b₁) (outcome12 value n) (same_bits outcome_bits b₁ s₁.bits) (λ v b₂ s₂.
      outcome_holds v (λ o. next (take_optional mark_bits b₂) (label12 value n o)) (λ o go eo.
      then_holds (take_optional mark_bits b₂) (label12 value n o) (read_optional mark_bits b₂ s₂.bits) (λ l b₃ s₃.
      then_holds (take_bits count_bits b₃) (count12 value n o l) (same_bits count_bits b₃ s₃.bits) (λ m b₄ s₄.
      then_holds (take_each obligation_tight_bits n b₄) (obligations12 value o l m) (read_each obligation_tight_bits n b₄ s₄.bits) (λ os b₅ s₅.
      then_holds (take_each fact_bits m b₅) (facts12 value o l os) (read_each fact_bits m b₅ s₅.bits) (λ fs b₆ s₆.
      let e₁ = s₅.many_as in
      let e₂ = s₆.many_as in
      let k₁ = s₁.fits in
      let k₄ = s₄.fits in
      let x₅ = each fact_bits fs in
      let x₄ = each obligation_tight_bits os ++ x₅ in
      let x₃ = bits_of count_bits (length fs) ++ x₄ in
      let x₂ = optional mark_bits l ++ x₃ in
      let x₁ = bits_of outcome_bits (number o) ++ x₂ in
      fine (record {
        written =
            glue (bits_of obligation_count_bits (length os)) x₁ b₆
            (glue (bits_of outcome_bits (number o)) x₂ b₆
            (glue (optional mark_bits l) x₃ b₆
            (glue (bits_of count_bits (length fs)) x₄ b₆
            (glue (each obligation_tight_bits os) x₅ b₆ s₆.written s₅.written)
            (ap (λ x. bits_of count_bits x ++ b₄) e₂ ∙ s₄.written))
            s₃.written)
            (ap (λ x. bits_of outcome_bits x ++ b₂) eo ∙ s₂.written))
            (ap (λ x. bits_of obligation_count_bits x ++ b₁) e₁ ∙ s₁.written);
        form = (go, (omega arith, s₅.below), s₃.fits, (omega arith, s₆.below));
        bits = s₆.bits;
        kind = refl;
      }))))))))

  pub read_13 : (bs : List ℕ) → Bits bs → Holds (ReadD 13 bs) (fields13 value bs)
  read_13 bs h =
      then_holds (take_bits 1 bs) (shape13 value) (same_bits 1 bs h) (λ sh b₁ s₁.
      then_holds (take_optional outcome_bits b₁) (denied13 value sh) (read_optional outcome_bits b₁ s₁.bits) (λ here b₂ s₂.
      denied_holds here (λ den. next (take_optional mark_bits b₂) (label13 value sh den)) (λ den gd ed.
      then_holds (take_optional mark_bits b₂) (label13 value sh den) (read_optional mark_bits b₂ s₂.bits) (λ l b₃ s₃.
      then_holds (take_optional mark_bits b₃) (reason13 value sh den l) (read_optional mark_bits b₃ s₃.bits) (λ m b₄ s₄.
      then_holds (take_bits count_bits b₄) (count13 value sh den l m) (same_bits count_bits b₄ s₄.bits) (λ n b₅ s₅.
      then_holds (take_each fact_bits n b₅) (facts13 value sh den l m) (read_each fact_bits n b₅ s₅.bits) (λ fs b₆ s₆.
      let e = s₆.many_as in
      let k = s₅.fits in
      let x₅ = each fact_bits fs in
      let x₄ = bits_of count_bits (length fs) ++ x₅ in
      let x₃ = optional mark_bits m ++ x₄ in
      let x₂ = optional mark_bits l ++ x₃ in
      let x₁ = optional outcome_bits (numbers_of number den) ++ x₂ in
      fine (record {
        written =
            glue (bits_of 1 (shape_bit (shape_of sh))) x₁ b₆
            (glue (optional outcome_bits (numbers_of number den)) x₂ b₆
            (glue (optional mark_bits l) x₃ b₆
            (glue (optional mark_bits m) x₄ b₆
            (glue (bits_of count_bits (length fs)) x₅ b₆ s₆.written (ap (λ x. bits_of count_bits x ++ b₅) e ∙ s₅.written))
            s₄.written)
            s₃.written)
            (ap (λ x. optional outcome_bits x ++ b₂) ed ∙ s₂.written))
            (ap (λ x. bits_of 1 x ++ b₁) (shape_again sh s₁.fits) ∙ s₁.written);
        form = (gd, (omega arith, s₆.below), s₃.fits, s₄.fits);
        bits = s₆.bits;
        kind = refl;
      }))))))))

  -- ---- trees
  pub record ReadT (res : Bool) (d : ℕ) (bs : List ℕ) (t : Policy O) (cs : List ℕ) : Type 0 where
    pub written : tight number t ++ cs ≡ bs
    pub form : FormOf G Free Countable t
    pub deep : depth t ≤ d
    pub bits : Bits cs
    pub allowed : SheetIf res t

  record ReadTs (res : Bool) (d k : ℕ) (bs : List ℕ) (ts : Policies O) (cs : List ℕ) : Type 0 where
    written : tights number ts ++ cs ≡ bs
    form : FormsOf G Free Countable ts
    deep : depths ts ≤ d
    bits : Bits cs
    allowed : SheetsIf res ts
    many_as : count ts ≡ k

  read_8 : (res : Bool) (d : ℕ) (bs : List ℕ) → Bits bs → Holds (ReadT res (suc d) (bits_of kind_bits 8 ++ bs)) (fields8 value (λ ds. loose_c d ds) bs)
  read_8 res d bs h =
      let p : List ℕ → Parsed Condition = λ ds. loose_c d ds in
      then_holds (take_bits 1 bs) (shape8 value p) (same_bits 1 bs h) (λ sh b₁ s₁.
      then_holds (take_bits obligation_count_bits b₁) (counted8 value p sh) (same_bits obligation_count_bits b₁ s₁.bits) (λ n b₂ s₂.
      if_holds (few_obligations n) 8 (next (take_bits outcome_bits b₂) (outcome8 value p sh n)) (λ few.
      then_holds (take_bits outcome_bits b₂) (outcome8 value p sh n) (same_bits outcome_bits b₂ s₂.bits) (λ v b₃ s₃.
      outcome_holds v (λ o. next (take_optional mark_bits b₃) (label8 value p sh n o)) (λ o go eo.
      then_holds (take_optional mark_bits b₃) (label8 value p sh n o) (read_optional mark_bits b₃ s₃.bits) (λ l b₄ s₄.
      then_holds (take_optional mark_bits b₄) (reason8 value p sh n o l) (read_optional mark_bits b₄ s₄.bits) (λ m b₅ s₅.
      then_holds (take_each obligation_tight_bits n b₅) (obligations8 value p sh o l m) (read_each obligation_tight_bits n b₅ s₅.bits) (λ os b₆ s₆.
      then_holds (loose_c d b₆) (λ c cs. got (grant (record { outcome = o; obligations = os; label = l; reason = m; shape = shape_of sh }) c) cs) (read_c_lem d b₆ s₆.bits) (λ c b₇ s₇.
      let e = s₆.many_as in
      let q = s₇.deep in
      let k : n ≤ 64 = leb-true n 64 few in
      let x₆ = tight_c c in
      let x₅ = each obligation_tight_bits os ++ x₆ in
      let x₄ = optional mark_bits m ++ x₅ in
      let x₃ = optional mark_bits l ++ x₄ in
      let x₂ = bits_of outcome_bits (number o) ++ x₃ in
      let x₁ = bits_of obligation_count_bits (length os) ++ x₂ in
      fine (record {
        written =
            glue (bits_of kind_bits 8) (bits_of 1 (shape_bit (shape_of sh)) ++ x₁) b₇
            (glue (bits_of 1 (shape_bit (shape_of sh))) x₁ b₇
            (glue (bits_of obligation_count_bits (length os)) x₂ b₇
            (glue (bits_of outcome_bits (number o)) x₃ b₇
            (glue (optional mark_bits l) x₄ b₇
            (glue (optional mark_bits m) x₅ b₇
            (glue (each obligation_tight_bits os) x₆ b₇ s₇.written s₆.written)
            s₅.written)
            s₄.written)
            (ap (λ x. bits_of outcome_bits x ++ b₃) eo ∙ s₃.written))
            (ap (λ x. bits_of obligation_count_bits x ++ b₂) e ∙ s₂.written))
            (ap (λ x. bits_of 1 x ++ b₁) (shape_again sh s₁.fits) ∙ s₁.written))
            refl;
        form = ((go, (omega arith, s₆.below), s₄.fits, s₅.fits), s₇.form, tt);
        deep = omega arith;
        bits = s₇.bits;
        allowed = sheet_if res (grant (record { outcome = o; obligations = os; label = l; reason = m; shape = shape_of sh }) c) tt;
      }))))))))))

  module _ (res : Bool) (d : ℕ) (p : List ℕ → Parsed (Policy O)) (hp : (us : List ℕ) → Bits us → Holds (ReadT res d us) (p us)) where
    read_many : (k : ℕ) (us : List ℕ) → Bits us → Holds (ReadTs res d k us) (many pnil pcons p k us)
    read_many zero us h = fine (record { written = refl; form = tt; deep = omega arith; bits = h; allowed = nil_if O res; many_as = refl })
    read_many (suc k) us h =
        then_holds (p us) (λ a vs. next (many pnil pcons p k vs) (λ xs ts. got (pcons a xs) ts)) (hp us h) (λ a vs s.
        then_holds (many pnil pcons p k vs) (λ xs ts. got (pcons a xs) ts) (read_many k vs s.bits) (λ xs ts t.
        let e = s.deep in
        let f = t.deep in
        fine (record {
          written = glue (tight number a) (tights number xs) ts t.written s.written;
          form = (s.form, t.form);
          deep = omega arith;
          bits = t.bits;
          allowed = cons_if res a xs s.allowed t.allowed;
          many_as = ap suc t.many_as;
        })))

    list_read_lem : (mk : Policies O → Policy O) (k : ℕ) (us : List ℕ)
        → ((xs : Policies O) → tight number (mk xs) ≡ bits_of kind_bits k ++ (bits_of count_bits (count xs) ++ tights number xs))
        → ((xs : Policies O) → depth (mk xs) ≡ 1 + depths xs)
        → ((xs : Policies O) → count xs ≤ 4095 → FormsOf G Free Countable xs → FormOf G Free Countable (mk xs))
        → ((xs : Policies O) → SheetsIf res xs → SheetIf res (mk xs))
        → Bits us → Holds (ReadT res (suc d) (bits_of kind_bits k ++ us)) (next (take_bits count_bits us) (λ n cs. next (many pnil pcons p n cs) (λ xs ds. got (mk xs) ds)))
    list_read_lem mk k us w dp fm al h =
        then_holds (take_bits count_bits us) (λ n cs. next (many pnil pcons p n cs) (λ xs ds. got (mk xs) ds)) (same_bits count_bits us h) (λ n cs s.
        then_holds (many pnil pcons p n cs) (λ xs ds. got (mk xs) ds) (read_many n cs s.bits) (λ xs ds t.
        let e = t.deep in
        let g = dp xs in
        let m = t.many_as in
        let q = s.fits in
        fine (record {
          written =
              ap (λ z. z ++ ds) (w xs)
              ∙ glue (bits_of kind_bits k) (bits_of count_bits (count xs) ++ tights number xs) ds
              (glue (bits_of count_bits (count xs)) (tights number xs) ds t.written (ap (λ x. bits_of count_bits x ++ cs) m ∙ s.written))
              refl;
          form = fm xs (omega arith) t.form;
          deep = omega arith;
          bits = t.bits;
          allowed = al xs t.allowed;
        })))

    stored_read : (k : ℕ) (us : List ℕ) (q : Parsed (Decision O)) → res ≡ true → Holds (ReadD k us) q → Holds (ReadT res (suc d) (bits_of kind_bits k ++ us)) (as_stored value q)
    stored_read k us (refuse n) r h = nothing
    stored_read k us (got e cs) r h =
        let s = h.it in
        fine (record {
          written = ap (λ z. z ++ cs) s.kind ∙ glue (bits_of kind_bits k) (after e) cs s.written refl;
          form = s.form;
          deep = omega arith;
          bits = s.bits;
          allowed = subst (λ b. SheetIf b (stored e)) (sym r) tt;
        })

  stored_if : (res : Bool) (d k : ℕ) (us : List ℕ) (q : Parsed (Decision O)) → Holds (ReadD k us) q → Holds (ReadT res (suc d) (bits_of kind_bits k ++ us)) (in_residual value res (as_stored value q))
  stored_if true d k us q h = stored_read true d (λ vs. refuse 0) (λ vs b. nothing) k us q refl h
  stored_if false d k us q h = nothing

  read_node : (res : Bool) (d : ℕ) (p : List ℕ → Parsed (Policy O)) (hp : (us : List ℕ) → Bits us → Holds (ReadT res d us) (p us)) (k : ℕ) (us : List ℕ) → Bits us
      → Holds (ReadT res (suc d) (bits_of kind_bits (6 + k) ++ us)) (fields_p value res (λ ds. loose_c d ds) p k us)
  read_node res d p hp zero us h =
      then_holds (take_bits outcome_bits us) (λ v cs. outcome_of value (value v) (λ o. got (permit o) cs)) (same_bits outcome_bits us h) (λ v cs s.
      outcome_holds v (λ o. got (permit o) cs) (λ o go eo.
      fine (record { written = glue (bits_of kind_bits 6) (bits_of outcome_bits (number o)) cs (ap (λ x. bits_of outcome_bits x ++ cs) eo ∙ s.written) refl; form = go; deep = omega arith; bits = s.bits; allowed = sheet_if res (permit o) tt })))
  read_node res d p hp (suc zero) us h = fine (record { written = refl; form = tt; deep = omega arith; bits = h; allowed = sheet_if res deny tt })
  read_node res d p hp (suc (suc zero)) us h = read_8 res d us h
  read_node res d p hp (suc (suc (suc zero))) us h = list_read_lem res d p hp all 9 us (λ xs. refl) (λ xs. refl) (λ xs a b. (a, b)) (all_if res) h
  read_node res d p hp (suc (suc (suc (suc zero)))) us h = list_read_lem res d p hp any 10 us (λ xs. refl) (λ xs. refl) (λ xs a b. (a, b)) (any_if res) h
  read_node res d p hp (suc (suc (suc (suc (suc zero))))) us h =
      then_holds (p us) (λ a cs. next (p cs) (λ b ds. got (or_else a b) ds)) (hp us h) (λ a cs s.
      then_holds (p cs) (λ b ds. got (or_else a b) ds) (hp cs s.bits) (λ b ds t.
      let e = s.deep in
      let f = t.deep in
      fine (record {
        written = glue (bits_of kind_bits 11) (tight number a ++ tight number b) ds (glue (tight number a) (tight number b) ds t.written s.written) refl;
        form = (s.form, t.form);
        deep = omega arith;
        bits = t.bits;
        allowed = else_if res a b s.allowed t.allowed;
      })))
  read_node res d p hp (suc (suc (suc (suc (suc (suc zero)))))) us h = stored_if res d 12 us (fields12 value us) (read_12 us h)
  read_node res d p hp (suc (suc (suc (suc (suc (suc (suc zero))))))) us h = stored_if res d 13 us (fields13 value us) (read_13 us h)
  read_node res d p hp (suc (suc (suc (suc (suc (suc (suc (suc k)))))))) us h = nothing

  -- What was read is written again as the same bits, is of good form, and is no deeper than allowed.
  pub read_t : (res : Bool) (d : ℕ) (us : List ℕ) → Bits us → Holds (ReadT res d us) (loose value res d us)
  read_t res zero us h =
      then_holds (take_bits kind_bits us) (λ k cs. unless (leb 6 k && leb k (last_kind value res)) 5 (refuse 7)) (same_bits kind_bits us h) (λ k cs s. if_holds (leb 6 k && leb k (last_kind value res)) 5 (refuse 7) (λ _. nothing))
  read_t res (suc d) us h =
      then_holds (take_bits kind_bits us) (λ k cs. unless (leb 6 k) 5 (fields_p value res (λ ds. loose_c d ds) (λ ds. loose value res d ds) (k - 6) cs)) (same_bits kind_bits us h) (λ k cs s.
      if_holds (leb 6 k) 5 (fields_p value res (λ ds. loose_c d ds) (λ ds. loose value res d ds) (k - 6) cs) (λ e.
      let six : 6 ≤ k = leb-true 6 k e in
      let same : 6 + (k - 6) ≡ k = omega arith in
      subst (λ l. Holds (ReadT res (suc d) l) (fields_p value res (λ ds. loose_c d ds) (λ ds. loose value res d ds) (k - 6) cs)) (ap (λ x. bits_of kind_bits x ++ cs) same ∙ s.written)
      (read_node res d (λ ds. loose value res d ds) (λ vs b. read_t res d vs b) (k - 6) cs s.bits)))
