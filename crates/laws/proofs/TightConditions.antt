-- Conditions in the tight form: what is written is read back; what was read is of good form, and is written again as the same bits.
use Rattle.std.specs.Prelude.{◌≡◌, refl, List, ◌++◌, ℕ, zero, suc, ◌+◌, ◌≤◌, ◌<◌, ltb}
use Rattle.std.proofs.Common.{◌∙◌, ap, ap₂, subst, append_assoc, arith}
use Rattle.model.specs.Facts.{fact_bits}
use Rattle.model.specs.Condition.{Condition, always, never, has, not_c, all_c, any_c, Conditions, cnil, ccons}
use Rattle.model.specs.Writing.{count_bits, count_c}
use Rattle.model.specs.Reading.{Parsed, refuse, got, next, unless, many}
use Rattle.laws.proofs.FieldLaws.{Holds, fine, nothing, if_holds, then_holds}
use Rattle.laws.specs.Form.{FormC, FormCs, depth_c, depth_cs}
use Rattle.model.specs.Bits.{bits_of, take_bits}
use Rattle.laws.proofs.BitLaws.{Bits, back_bits, same_bits}
use Rattle.model.specs.Tight.{kind_bits, tight_c, tight_cs, fields_c, loose_c}

-- ---- read back
-- The kind, and then the fields that stand after it.
kind_back : (d k : ℕ) (bs : List ℕ) → k < 16 → loose_c (suc d) (bits_of kind_bits k ++ bs) ≡ fields_c (λ ds. loose_c d ds) k bs
kind_back d k bs h = ap (λ p. next p (λ x cs. fields_c (λ ds. loose_c d ds) x cs)) (back_bits 4 k bs h)

-- The same where more stands after the kind.
kind_then : (d k : ℕ) (xs bs : List ℕ) → k < 16 → loose_c (suc d) ((bits_of kind_bits k ++ xs) ++ bs) ≡ fields_c (λ ds. loose_c d ds) k (xs ++ bs)
kind_then d k xs bs h = ap (loose_c (suc d)) (append_assoc (bits_of kind_bits k) xs bs) ∙ kind_back d k (xs ++ bs) h

mutual
  pub back_c : (c : Condition) (d : ℕ) (bs : List ℕ) → depth_c c ≤ d → FormC c → loose_c d (tight_c c ++ bs) ≡ got c bs
  back_c always zero bs h f = let z : ⊥ = omega arith in absurd z
  back_c always (suc d) bs h f = kind_back d 0 bs (omega arith)
  back_c never zero bs h f = let z : ⊥ = omega arith in absurd z
  back_c never (suc d) bs h f = kind_back d 1 bs (omega arith)
  back_c (has n) zero bs h f = let z : ⊥ = omega arith in absurd z
  back_c (has n) (suc d) bs h f =
      kind_then d 2 (bits_of fact_bits n) bs (omega arith) ∙ ap (λ p. next p (λ x cs. got (has x) cs)) (back_bits fact_bits n bs f)
  back_c (not_c c) zero bs h f = let z : ⊥ = omega arith in absurd z
  back_c (not_c c) (suc d) bs h f =
      kind_then d 3 (tight_c c) bs (omega arith) ∙ ap (λ p. next p (λ x cs. got (not_c x) cs)) (back_c c d bs (omega arith) f)
  back_c (all_c cs) zero bs h f = let z : ⊥ = omega arith in absurd z
  back_c (all_c cs) (suc d) bs h f =
      kind_then d 4 (bits_of count_bits (count_c cs) ++ tight_cs cs) bs (omega arith)
      ∙ ap (λ l. next (take_bits count_bits l) (λ n us. next (many cnil ccons (λ vs. loose_c d vs) n us) (λ xs vs. got (all_c xs) vs))) (append_assoc (bits_of count_bits (count_c cs)) (tight_cs cs) bs)
      ∙ ap (λ p. next p (λ n us. next (many cnil ccons (λ vs. loose_c d vs) n us) (λ xs vs. got (all_c xs) vs))) (back_bits count_bits (count_c cs) (tight_cs cs ++ bs) (omega (arith, f.0)))
      ∙ ap (λ p. next p (λ xs vs. got (all_c xs) vs)) (back_cs cs d bs (omega arith) f.1)
  back_c (any_c cs) zero bs h f = let z : ⊥ = omega arith in absurd z
  back_c (any_c cs) (suc d) bs h f =
      kind_then d 5 (bits_of count_bits (count_c cs) ++ tight_cs cs) bs (omega arith)
      ∙ ap (λ l. next (take_bits count_bits l) (λ n us. next (many cnil ccons (λ vs. loose_c d vs) n us) (λ xs vs. got (any_c xs) vs))) (append_assoc (bits_of count_bits (count_c cs)) (tight_cs cs) bs)
      ∙ ap (λ p. next p (λ n us. next (many cnil ccons (λ vs. loose_c d vs) n us) (λ xs vs. got (any_c xs) vs))) (back_bits count_bits (count_c cs) (tight_cs cs ++ bs) (omega (arith, f.0)))
      ∙ ap (λ p. next p (λ xs vs. got (any_c xs) vs)) (back_cs cs d bs (omega arith) f.1)

  back_cs : (cs : Conditions) (d : ℕ) (bs : List ℕ) → depth_cs cs ≤ d → FormCs cs → many cnil ccons (λ vs. loose_c d vs) (count_c cs) (tight_cs cs ++ bs) ≡ got cs bs
  back_cs cnil d bs h f = refl
  back_cs (ccons c cs) d bs h f =
      ap (λ vs. many cnil ccons (λ us. loose_c d us) (suc (count_c cs)) vs) (append_assoc (tight_c c) (tight_cs cs) bs)
      ∙ ap (λ q. next q (λ a vs. next (many cnil ccons (λ us. loose_c d us) (count_c cs) vs) (λ xs us. got (ccons a xs) us))) (back_c c d (tight_cs cs ++ bs) (omega arith) f.0)
      ∙ ap (λ q. next q (λ xs us. got (ccons c xs) us)) (back_cs cs d bs (omega arith) f.1)

-- ---- what was read
pub record ReadC (d : ℕ) (bs : List ℕ) (c : Condition) (cs : List ℕ) : Type 0 where
  pub written : tight_c c ++ cs ≡ bs
  pub form : FormC c
  pub deep : depth_c c ≤ d
  pub bits : Bits cs

record ReadCs (d k : ℕ) (bs : List ℕ) (xs : Conditions) (cs : List ℕ) : Type 0 where
  written : tight_cs xs ++ cs ≡ bs
  form : FormCs xs
  deep : depth_cs xs ≤ d
  bits : Bits cs
  many_as : count_c xs ≡ k

module _ (d : ℕ) (p : List ℕ → Parsed Condition) (hp : (us : List ℕ) → Bits us → Holds (ReadC d us) (p us)) where
  read_many : (k : ℕ) (us : List ℕ) → Bits us → Holds (ReadCs d k us) (many cnil ccons p k us)
  read_many zero us h = fine (record { written = refl; form = tt; deep = omega arith; bits = h; many_as = refl })
  read_many (suc k) us h =
      then_holds (p us) (λ a vs. next (many cnil ccons p k vs) (λ xs ts. got (ccons a xs) ts)) (hp us h) (λ a vs s.
      then_holds (many cnil ccons p k vs) (λ xs ts. got (ccons a xs) ts) (read_many k vs s.bits) (λ xs ts t.
      let e = s.deep in
      let f = t.deep in
      fine (record {
        written = append_assoc (tight_c a) (tight_cs xs) ts ∙ ap (λ z. tight_c a ++ z) t.written ∙ s.written;
        form = (s.form, t.form);
        deep = omega arith;
        bits = t.bits;
        many_as = ap suc t.many_as;
      })))

  list_read_lem : (mk : Conditions → Condition) (k : ℕ) (us : List ℕ)
      → ((xs : Conditions) → tight_c (mk xs) ≡ bits_of kind_bits k ++ (bits_of count_bits (count_c xs) ++ tight_cs xs))
      → ((xs : Conditions) → depth_c (mk xs) ≡ 1 + depth_cs xs)
      → ((xs : Conditions) → count_c xs ≤ 4095 → FormCs xs → FormC (mk xs))
      → Bits us → Holds (ReadC (suc d) (bits_of kind_bits k ++ us)) (next (take_bits count_bits us) (λ n cs. next (many cnil ccons p n cs) (λ xs ds. got (mk xs) ds)))
  list_read_lem mk k us w dp fm h =
      then_holds (take_bits count_bits us) (λ n cs. next (many cnil ccons p n cs) (λ xs ds. got (mk xs) ds)) (same_bits count_bits us h) (λ n cs s.
      then_holds (many cnil ccons p n cs) (λ xs ds. got (mk xs) ds) (read_many n cs s.bits) (λ xs ds t.
      let e = t.deep in
      let g = dp xs in
      let m = t.many_as in
      let q = s.fits in
      fine (record {
        written =
            ap (λ z. z ++ ds) (w xs)
            ∙ append_assoc (bits_of kind_bits k) (bits_of count_bits (count_c xs) ++ tight_cs xs) ds
            ∙ ap (λ z. bits_of kind_bits k ++ z)
            (append_assoc (bits_of count_bits (count_c xs)) (tight_cs xs) ds
            ∙ ap₂ (λ x z. bits_of count_bits x ++ z) m t.written
            ∙ s.written);
        form = fm xs (omega arith) t.form;
        deep = omega arith;
        bits = t.bits;
      })))

  read_node : (k : ℕ) (us : List ℕ) → Bits us → Holds (ReadC (suc d) (bits_of kind_bits k ++ us)) (fields_c p k us)
  read_node zero us h = fine (record { written = refl; form = tt; deep = omega arith; bits = h })
  read_node (suc zero) us h = fine (record { written = refl; form = tt; deep = omega arith; bits = h })
  read_node (suc (suc zero)) us h =
      then_holds (take_bits fact_bits us) (λ f cs. got (has f) cs) (same_bits fact_bits us h) (λ f cs s.
      fine (record { written = append_assoc (bits_of kind_bits 2) (bits_of fact_bits f) cs ∙ ap (λ z. bits_of kind_bits 2 ++ z) s.written; form = s.fits; deep = omega arith; bits = s.bits }))
  read_node (suc (suc (suc zero))) us h =
      then_holds (p us) (λ c cs. got (not_c c) cs) (hp us h) (λ c cs s.
      let e = s.deep in
      fine (record { written = append_assoc (bits_of kind_bits 3) (tight_c c) cs ∙ ap (λ z. bits_of kind_bits 3 ++ z) s.written; form = s.form; deep = omega arith; bits = s.bits }))
  read_node (suc (suc (suc (suc zero)))) us h = list_read_lem all_c 4 us (λ xs. refl) (λ xs. refl) (λ xs a b. (a, b)) h
  read_node (suc (suc (suc (suc (suc zero))))) us h = list_read_lem any_c 5 us (λ xs. refl) (λ xs. refl) (λ xs a b. (a, b)) h
  read_node (suc (suc (suc (suc (suc (suc k)))))) us h = nothing

pub read_c_lem : (d : ℕ) (us : List ℕ) → Bits us → Holds (ReadC d us) (loose_c d us)
read_c_lem zero us h = then_holds (take_bits kind_bits us) (λ k cs. unless (ltb k 6) 5 (refuse 7)) (same_bits kind_bits us h) (λ k cs s. if_holds (ltb k 6) 5 (refuse 7) (λ _. nothing))
read_c_lem (suc d) us h =
    then_holds (take_bits kind_bits us) (λ k cs. fields_c (λ ds. loose_c d ds) k cs) (same_bits kind_bits us h) (λ k cs s.
    subst (λ l. Holds (ReadC (suc d) l) (fields_c (λ ds. loose_c d ds) k cs)) s.written (read_node d (λ ds. loose_c d ds) (λ vs b. read_c_lem d vs b) k cs s.bits))
