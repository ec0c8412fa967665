-- Words are read in one way only: what was read, written again, is the words that were read.
use Rattle.std.specs.Prelude.{◌≡◌, refl, Bool, true, false, cond, ◌&&◌, List, [], ◌∷◌, ◌++◌, map, ℕ, zero, suc, ◌+◌, ◌-◌, ◌*◌, ◌/◌, ◌%◌, ◌≤◌, ◌<◌, eqb, ltb, leb, T, length}
use Rattle.std.proofs.Common.{sym, ◌∙◌, ap, ap₂, subst, append_assoc, append-nil, arith, eqb-true, ltb-false, leb→le}
use Rattle.std.proofs.Math.Option.{Option, none, some}
use Rattle.std.proofs.Math.Nat.{div-div-eq-div-mul}
use Rattle.model.specs.Fields.{pack}
use Rattle.model.specs.Condition.{Condition, always, never, has, not_c, all_c, any_c, Conditions, cnil, ccons}
use Rattle.model.specs.Decision.{Decision, permits, denies}
use Rattle.model.specs.Policy.{Policy, permit, deny, grant, all, any, or_else, stored, Policies, pnil, pcons}
use Rattle.model.specs.Partial.{ReducedPolicy, resolved, pending, as_residual}
use Rattle.model.specs.Record.{Record}
use Rattle.model.specs.Writing.{obligation_bits, entry_bits, word, shape_bit, marked, entry_field, count_c, count, encode_c, encode_cs, denied_field, encode_d, encode, encodes, lead_kind, encode_r, numbered}
use Rattle.model.specs.Reading.{Parsed, refuse, got, next, unless, another, read_list, obligation, listed, consulted, many, node_c, read_condition, whole, mark, shape_of, outcome_of, denied_of, grant_more, grant_at, more12, at12, more13, at13, as_stored, in_residual, node_p, last_kind, read_policy, read_sheet, node14, parse14, parse15, rest, leads, read_lead, read_record, sheet_number, most_obligations}
use Rattle.laws.proofs.FieldLaws.{Holds, fine, nothing, if_holds, weaker, then_holds}
use Rattle.laws.specs.Form.{IfThere}
use Rattle.laws.proofs.ReadForm.{read_obligations, read_facts, read_entries}
use Rattle.laws.proofs.NodeLaws.{outcome_holds, another_holds, shape_again}
use Rattle.laws.specs.Canon.{SameR}

word_split : (w : ℕ) → word (w / 268435456) (w % 268435456) ≡ w
word_split w = omega arith

-- ---- conditions
abbrev SameC : List ℕ → Condition → List ℕ → Type 0
SameC us c vs = encode_c c ++ vs ≡ us

abbrev SameCs : ℕ → List ℕ → Conditions → List ℕ → Type 0
SameCs n us cs vs = (encode_cs cs ++ vs ≡ us) × (count_c cs ≡ n)

module _ (p : List ℕ → Parsed Condition) (hp : (us : List ℕ) → Holds (SameC us) (p us)) where
  same_many : (k : ℕ) (us : List ℕ) → Holds (SameCs k us) (many cnil ccons p k us)
  same_many zero us = fine (refl, refl)
  same_many (suc k) us =
      then_holds (p us) (λ a vs. next (many cnil ccons p k vs) (λ xs ts. got (ccons a xs) ts)) (hp us) (λ a vs s.
      then_holds (many cnil ccons p k vs) (λ xs ts. got (ccons a xs) ts) (same_many k vs) (λ xs ts t.
      fine (append_assoc (encode_c a) (encode_cs xs) ts ∙ ap (λ z. encode_c a ++ z) t.0 ∙ s, ap suc t.1)))

  same_node : (k r : ℕ) (us : List ℕ) → Holds (SameC (word k r ∷ us)) (node_c p k r us)
  same_node zero r us = if_holds (eqb r 0) 8 (got always us) (λ e. fine (ap (λ x. word 0 x ∷ us) (sym (eqb-true r 0 e))))
  same_node (suc zero) r us = if_holds (eqb r 0) 8 (got never us) (λ e. fine (ap (λ x. word 1 x ∷ us) (sym (eqb-true r 0 e))))
  same_node (suc (suc zero)) r us = if_holds (ltb r 1024) 8 (got (has r) us) (λ _. fine refl)
  same_node (suc (suc (suc zero))) r us =
      if_holds (eqb r 0) 8 (next (p us) (λ c vs. got (not_c c) vs)) (λ e.
      then_holds (p us) (λ c vs. got (not_c c) vs) (hp us) (λ c vs s. fine (ap₂ (λ x y. word 3 x ∷ y) (sym (eqb-true r 0 e)) s)))
  same_node (suc (suc (suc (suc zero)))) r us =
      if_holds (ltb r 4096) 8 (next (many cnil ccons p r us) (λ cs vs. got (all_c cs) vs)) (λ _.
      then_holds (many cnil ccons p r us) (λ cs vs. got (all_c cs) vs) (same_many r us) (λ cs vs s. fine (ap₂ (λ x y. word 4 x ∷ y) s.1 s.0)))
  same_node (suc (suc (suc (suc (suc zero))))) r us =
      if_holds (ltb r 4096) 8 (next (many cnil ccons p r us) (λ cs vs. got (any_c cs) vs)) (λ _.
      then_holds (many cnil ccons p r us) (λ cs vs. got (any_c cs) vs) (same_many r us) (λ cs vs s. fine (ap₂ (λ x y. word 5 x ∷ y) s.1 s.0)))
  same_node (suc (suc (suc (suc (suc (suc k)))))) r us = nothing

pub same_c : (d : ℕ) (us : List ℕ) → Holds (SameC us) (read_condition d us)
same_c zero [] = nothing
same_c zero (w ∷ us) = if_holds (ltb (w / 268435456) 6) 5 (refuse 7) (λ _. nothing)
same_c (suc d) [] = nothing
same_c (suc d) (w ∷ us) =
    let k = w / 268435456 in
    let r = w % 268435456 in
    weaker (node_c (λ vs. read_condition d vs) k r us) (λ c vs s. s ∙ ap (λ x. x ∷ us) (word_split w)) (same_node (λ vs. read_condition d vs) (λ vs. same_c d vs) k r us)

-- ---- labels and reasons
same_mark_at : (h : ℕ) (b : Bool) → ltb h 32768 ≡ b → Holds (λ l _. marked l ≡ h) (cond b (unless (eqb h 0) 8 (got none [])) (unless (ltb h 65536) 8 (got (some (h - 32768)) [])))
same_mark_at h true e = if_holds (eqb h 0) 8 (got none []) (λ z. fine (sym (eqb-true h 0 z)))
same_mark_at h false e = if_holds (ltb h 65536) 8 (got (some (h - 32768)) []) (λ _. fine (omega (arith, ltb-false h 32768 e)))

same_mark : (h : ℕ) → Holds (λ l _. marked l ≡ h) (mark h)
same_mark h = same_mark_at h (ltb h 32768) refl

-- the fields of a grant's, a 12 node's and a 13 node's first word
parts_of : (r : ℕ) → r / 134217728 * 134217728 + r / 1048576 % 128 * 1048576 + r / 65536 % 16 * 65536 + r % 65536 ≡ r
parts_of r =
    let p : r / 65536 / 16 ≡ r / 1048576 = div-div-eq-div-mul r 65536 16 in
    let q : r / 1048576 / 128 ≡ r / 134217728 = div-div-eq-div-mul r 1048576 128 in
    omega arith

parts_of_13 : (r : ℕ) → r / 134217728 * 134217728 + r / 67108864 % 2 * 67108864 + r / 65536 % 1024 * 65536 + r % 65536 ≡ r
parts_of_13 r =
    let p : r / 65536 / 1024 ≡ r / 67108864 = div-div-eq-div-mul r 65536 1024 in
    let q : r / 67108864 / 2 ≡ r / 134217728 = div-div-eq-div-mul r 67108864 2 in
    omega arith

-- ---- policies
module _ {O : Type 0} (number : O → ℕ) (value : ℕ → Option O) (only : (v : ℕ) → IfThere (λ o. number o ≡ v) (value v)) where
  abbrev SameT : List ℕ → Policy O → List ℕ → Type 0
  SameT us t vs = encode number t ++ vs ≡ us

  abbrev SameD : List ℕ → Decision O → List ℕ → Type 0
  SameD us t vs = encode_d number t ++ vs ≡ us

  same_grant : (p : List ℕ → Parsed Condition) → ((us : List ℕ) → Holds (SameC us) (p us)) → (r : ℕ) → r < 268435456 → (us : List ℕ) → Holds (SameT (word 8 r ∷ us)) (grant_at value p r us)
  same_grant p hp r hr us =
      let sh = r / 134217728 in
      let n = r / 1048576 % 128 in
      let z = r / 65536 % 16 in
      let v = r % 65536 in
      let sb = shape_again sh (omega arith) in
      let pr = parts_of r in
      if_holds (leb n most_obligations) 8 (unless (eqb z 0) 8 (outcome_of value (value v) (λ o. another us (λ w vs. grant_more value p sh n o (w / 65536) (w % 65536) vs)))) (λ _.
      if_holds (eqb z 0) 8 (outcome_of value (value v) (λ o. another us (λ w vs. grant_more value p sh n o (w / 65536) (w % 65536) vs))) (λ ez.
      outcome_holds value (λ o. number o ≡ v) (value v) (λ o. another us (λ w vs. grant_more value p sh n o (w / 65536) (w % 65536) vs)) (only v) (λ o eo.
      another_holds us (λ w vs. grant_more value p sh n o (w / 65536) (w % 65536) vs) (λ w vs ew.
      then_holds (mark (w / 65536)) (λ l _. next (mark (w % 65536)) (λ m _. next (read_list obligation obligation_bits n vs) (λ os ts. next (p ts) (λ c ss. got (grant (record { outcome = o; obligations = os; label = l; reason = m; shape = shape_of sh }) c) ss)))) (same_mark (w / 65536)) (λ l _ el.
      then_holds (mark (w % 65536)) (λ m _. next (read_list obligation obligation_bits n vs) (λ os ts. next (p ts) (λ c ss. got (grant (record { outcome = o; obligations = os; label = l; reason = m; shape = shape_of sh }) c) ss))) (same_mark (w % 65536)) (λ m _ em.
      then_holds (read_list obligation obligation_bits n vs) (λ os ts. next (p ts) (λ c ss. got (grant (record { outcome = o; obligations = os; label = l; reason = m; shape = shape_of sh }) c) ss)) (read_obligations n vs) (λ os ts eos.
      then_holds (p ts) (λ c ss. got (grant (record { outcome = o; obligations = os; label = l; reason = m; shape = shape_of sh }) c) ss) (hp ts) (λ c ss ec.
      let z0 : z ≡ 0 = eqb-true z 0 ez in
      let ln : length os ≡ n = eos.long in
      let head : shape_bit (shape_of sh) * 134217728 + length os * 1048576 + number o ≡ r = omega arith in
      let second : marked l * 65536 + marked m ≡ w = omega arith in
      fine (ap₂ (λ x y. word 8 x ∷ y) head
      (ap₂ (λ x y. x ∷ y) second (append_assoc (pack obligation_bits os) (encode_c c) ss ∙ ap (λ y. pack obligation_bits os ++ y) ec ∙ eos.were) ∙ sym ew))))))))))

  same_12 : (r : ℕ) → r < 268435456 → (us : List ℕ) → Holds (SameD (word 12 r ∷ us)) (at12 value r us)
  same_12 r hr us =
      let sh = r / 134217728 in
      let n = r / 1048576 % 128 in
      let z = r / 65536 % 16 in
      let v = r % 65536 in
      let pr = parts_of r in
      if_holds (eqb sh 0) 8 (unless (eqb z 0) 8 (outcome_of value (value v) (λ o. another us (λ w vs. more12 value n o (w / 65536) (w % 65536) vs)))) (λ es.
      if_holds (eqb z 0) 8 (outcome_of value (value v) (λ o. another us (λ w vs. more12 value n o (w / 65536) (w % 65536) vs))) (λ ez.
      outcome_holds value (λ o. number o ≡ v) (value v) (λ o. another us (λ w vs. more12 value n o (w / 65536) (w % 65536) vs)) (only v) (λ o eo.
      another_holds us (λ w vs. more12 value n o (w / 65536) (w % 65536) vs) (λ w vs ew.
      let m = w % 65536 in
      then_holds (mark (w / 65536)) (λ l _. unless (ltb m 4096) 8 (next (read_list obligation obligation_bits n vs) (λ os ts. next (read_list listed entry_bits m ts) (λ fs ss. got (permits (record { outcome = o; obligations = os; label = l; facts = fs })) ss)))) (same_mark (w / 65536)) (λ l _ el.
      if_holds (ltb m 4096) 8 (next (read_list obligation obligation_bits n vs) (λ os ts. next (read_list listed entry_bits m ts) (λ fs ss. got (permits (record { outcome = o; obligations = os; label = l; facts = fs })) ss))) (λ _.
      then_holds (read_list obligation obligation_bits n vs) (λ os ts. next (read_list listed entry_bits m ts) (λ fs ss. got (permits (record { outcome = o; obligations = os; label = l; facts = fs })) ss)) (read_obligations n vs) (λ os ts eos.
      then_holds (read_list listed entry_bits m ts) (λ fs ss. got (permits (record { outcome = o; obligations = os; label = l; facts = fs })) ss) (read_facts m ts) (λ fs ss efs.
      let s0 : sh ≡ 0 = eqb-true sh 0 es in
      let z0 : z ≡ 0 = eqb-true z 0 ez in
      let ln : length os ≡ n = eos.long in
      let lf : length fs ≡ m = efs.long in
      let head : length os * 1048576 + number o ≡ r = omega arith in
      let second : marked l * 65536 + length fs ≡ w = omega arith in
      fine (ap₂ (λ x y. word 12 x ∷ y) head
      (ap₂ (λ x y. x ∷ y) second (append_assoc (pack obligation_bits os) (pack entry_bits fs) ss ∙ ap (λ y. pack obligation_bits os ++ y) efs.were ∙ eos.were) ∙ sym ew))))))))))

  -- a denied outcome of which the present bit is h
  same_denied : {B : Type 0} {R : B → List ℕ → Type 0} (h v : ℕ) (k : Option O → Parsed B) → h ≤ 1 → ((x : Option O) → denied_field number x ≡ h * 67108864 + v → Holds R (k x)) → Holds R (denied_of value h v k)
  same_denied zero v k l f = if_holds (eqb v 0) 8 (k none) (λ e. f none (let z : v ≡ 0 = eqb-true v 0 e in omega arith))
  same_denied (suc zero) v k l f = outcome_holds value (λ o. number o ≡ v) (value v) (λ o. k (some o)) (only v) (λ o e. f (some o) (omega arith))
  same_denied (suc (suc h)) v k l f = let z : ⊥ = omega arith in absurd z

  same_13 : (r : ℕ) → r < 268435456 → (us : List ℕ) → Holds (SameD (word 13 r ∷ us)) (at13 value r us)
  same_13 r hr us =
      let sh = r / 134217728 in
      let h = r / 67108864 % 2 in
      let z = r / 65536 % 1024 in
      let v = r % 65536 in
      let sb = shape_again sh (omega arith) in
      let pr = parts_of_13 r in
      if_holds (eqb z 0) 8 (denied_of value h v (λ den. another us (λ w vs. more13 value sh den (w / 65536) (w % 65536) vs))) (λ ez.
      same_denied h v (λ den. another us (λ w vs. more13 value sh den (w / 65536) (w % 65536) vs)) (omega arith) (λ den ed.
      another_holds us (λ w vs. more13 value sh den (w / 65536) (w % 65536) vs) (λ w vs ew.
      then_holds (mark (w / 65536)) (λ l _. next (mark (w % 65536)) (λ m _. another vs (λ n ts. unless (ltb n 4096) 8 (next (read_list listed entry_bits n ts) (λ fs ss. got (denies (record { denied = den; facts = fs; label = l; reason = m; shape = shape_of sh })) ss))))) (same_mark (w / 65536)) (λ l _ el.
      then_holds (mark (w % 65536)) (λ m _. another vs (λ n ts. unless (ltb n 4096) 8 (next (read_list listed entry_bits n ts) (λ fs ss. got (denies (record { denied = den; facts = fs; label = l; reason = m; shape = shape_of sh })) ss)))) (same_mark (w % 65536)) (λ m _ em.
      another_holds vs (λ n ts. unless (ltb n 4096) 8 (next (read_list listed entry_bits n ts) (λ fs ss. got (denies (record { denied = den; facts = fs; label = l; reason = m; shape = shape_of sh })) ss))) (λ n ts en.
      if_holds (ltb n 4096) 8 (next (read_list listed entry_bits n ts) (λ fs ss. got (denies (record { denied = den; facts = fs; label = l; reason = m; shape = shape_of sh })) ss)) (λ _.
      then_holds (read_list listed entry_bits n ts) (λ fs ss. got (denies (record { denied = den; facts = fs; label = l; reason = m; shape = shape_of sh })) ss) (read_facts n ts) (λ fs ss efs.
      let z0 : z ≡ 0 = eqb-true z 0 ez in
      let head : shape_bit (shape_of sh) * 134217728 + denied_field number den ≡ r = omega arith in
      let second : marked l * 65536 + marked m ≡ w = omega arith in
      fine (ap₂ (λ x y. word 13 x ∷ y) head
      (ap₂ (λ x y. x ∷ y) second (ap₂ (λ x y. x ∷ y) efs.long efs.were ∙ sym en) ∙ sym ew))))))))))

  abbrev SameTs : ℕ → List ℕ → Policies O → List ℕ → Type 0
  SameTs n us ts vs = (encodes number ts ++ vs ≡ us) × (count ts ≡ n)

  module _ (res : Bool) (p : List ℕ → Parsed (Policy O)) (hp : (us : List ℕ) → Holds (SameT us) (p us)) where
    same_many_t : (k : ℕ) (us : List ℕ) → Holds (SameTs k us) (many pnil pcons p k us)
    same_many_t zero us = fine (refl, refl)
    same_many_t (suc k) us =
        then_holds (p us) (λ a vs. next (many pnil pcons p k vs) (λ xs ts. got (pcons a xs) ts)) (hp us) (λ a vs s.
        then_holds (many pnil pcons p k vs) (λ xs ts. got (pcons a xs) ts) (same_many_t k vs) (λ xs ts t.
        fine (append_assoc (encode number a) (encodes number xs) ts ∙ ap (λ z. encode number a ++ z) t.0 ∙ s, ap suc t.1)))

    same_stored : (b : Bool) (n r : ℕ) (us : List ℕ) (q : Parsed (Decision O)) → Holds (λ d vs. encode_d number d ++ vs ≡ word n r ∷ us) q → Holds (SameT (word n r ∷ us)) (in_residual value b (as_stored value q))
    same_stored false n r us q h = nothing
    same_stored true n r us q h = then_holds q (λ d ws. got (stored d) ws) h (λ d ws k. fine k)

    same_node_p : (pc : List ℕ → Parsed Condition) → ((us : List ℕ) → Holds (SameC us) (pc us)) → (k r : ℕ) → r < 268435456 → (us : List ℕ) → Holds (SameT (word (6 + k) r ∷ us)) (node_p value res pc p k r us)
    same_node_p pc hc zero r hr us =
        if_holds (eqb (r / 65536) 0) 8 (outcome_of value (value (r % 65536)) (λ o. got (permit o) us)) (λ e.
        outcome_holds value (λ o. number o ≡ r % 65536) (value (r % 65536)) (λ o. got (permit o) us) (only (r % 65536)) (λ o eo.
        let z : r / 65536 ≡ 0 = eqb-true (r / 65536) 0 e in
        let k : number o ≡ r = omega arith in
        fine (ap (λ x. word 6 x ∷ us) k)))
    same_node_p pc hc (suc zero) r hr us = if_holds (eqb r 0) 8 (got deny us) (λ e. fine (ap (λ x. word 7 x ∷ us) (sym (eqb-true r 0 e))))
    same_node_p pc hc (suc (suc zero)) r hr us = same_grant pc hc r hr us
    same_node_p pc hc (suc (suc (suc zero))) r hr us =
        if_holds (ltb r 4096) 8 (next (many pnil pcons p r us) (λ ts vs. got (all ts) vs)) (λ _.
        then_holds (many pnil pcons p r us) (λ ts vs. got (all ts) vs) (same_many_t r us) (λ ts vs s. fine (ap₂ (λ x y. word 9 x ∷ y) s.1 s.0)))
    same_node_p pc hc (suc (suc (suc (suc zero)))) r hr us =
        if_holds (ltb r 4096) 8 (next (many pnil pcons p r us) (λ ts vs. got (any ts) vs)) (λ _.
        then_holds (many pnil pcons p r us) (λ ts vs. got (any ts) vs) (same_many_t r us) (λ ts vs s. fine (ap₂ (λ x y. word 10 x ∷ y) s.1 s.0)))
    same_node_p pc hc (suc (suc (suc (suc (suc zero))))) r hr us =
        if_holds (eqb r 0) 8 (next (p us) (λ a vs. next (p vs) (λ b ts. got (or_else a b) ts))) (λ e.
        then_holds (p us) (λ a vs. next (p vs) (λ b ts. got (or_else a b) ts)) (hp us) (λ a vs s.
        then_holds (p vs) (λ b ts. got (or_else a b) ts) (hp vs) (λ b ts t.
        fine (ap₂ (λ x y. word 11 x ∷ y) (sym (eqb-true r 0 e)) (append_assoc (encode number a) (encode number b) ts ∙ ap (λ z. encode number a ++ z) t ∙ s)))))
    same_node_p pc hc (suc (suc (suc (suc (suc (suc zero)))))) r hr us = same_stored res 12 r us (at12 value r us) (same_12 r hr us)
    same_node_p pc hc (suc (suc (suc (suc (suc (suc (suc zero))))))) r hr us = same_stored res 13 r us (at13 value r us) (same_13 r hr us)
    same_node_p pc hc (suc (suc (suc (suc (suc (suc (suc (suc k)))))))) r hr us = nothing

  pub same_t : (res : Bool) (d : ℕ) (us : List ℕ) → Holds (SameT us) (read_policy value res d us)
  same_t res zero [] = nothing
  same_t res zero (w ∷ us) = if_holds (leb 6 (w / 268435456) && leb (w / 268435456) (last_kind value res)) 5 (refuse 7) (λ _. nothing)
  same_t res (suc d) [] = nothing
  same_t res (suc d) (w ∷ us) =
      let k = w / 268435456 in
      let r = w % 268435456 in
      if_holds (leb 6 k) 5 (node_p value res (λ vs. read_condition d vs) (λ vs. read_policy value res d vs) (k - 6) r us) (λ e.
      let h : 6 ≤ k = leb→le 6 k (subst T (sym e) tt) in
      let j : word (6 + (k - 6)) r ≡ w = omega arith in
      weaker (node_p value res (λ vs. read_condition d vs) (λ vs. read_policy value res d vs) (k - 6) r us) (λ t vs s. s ∙ ap (λ x. x ∷ us) j)
      (same_node_p res (λ vs. read_policy value res d vs) (λ vs. same_t res d vs) (λ vs. read_condition d vs) (λ vs. same_c d vs) (k - 6) r (omega arith) us))

  -- ---- records: the tree's words, and the lead's kind
  abbrev SameB : ℕ → List ℕ → ReducedPolicy O → List ℕ → Type 0
  SameB k us b vs = (encode number (as_residual b) ++ vs ≡ us) × (lead_kind number b ≡ k)

  same_node14 : (k r : ℕ) → r < 268435456 → (us : List ℕ) → Holds (SameB 14 (word (12 + k) r ∷ us)) (node14 value k r us)
  same_node14 zero r hr us = then_holds (at12 value r us) (λ d vs. got (resolved d) vs) (same_12 r hr us) (λ d vs h. fine (h, refl))
  same_node14 (suc zero) r hr us = then_holds (at13 value r us) (λ d vs. got (resolved d) vs) (same_13 r hr us) (λ d vs h. fine (h, refl))
  same_node14 (suc (suc k)) r hr us = nothing

  same_14 : (us : List ℕ) → Holds (SameB 14 us) (parse14 value us)
  same_14 us =
      another_holds us (λ w vs. unless (leb 12 (w / 268435456)) 5 (node14 value (w / 268435456 - 12) (w % 268435456) vs)) (λ w vs ew.
      let k = w / 268435456 in
      let r = w % 268435456 in
      if_holds (leb 12 k) 5 (node14 value (k - 12) r vs) (λ e.
      let h : 12 ≤ k = leb→le 12 k (subst T (sym e) tt) in
      let j : word (12 + (k - 12)) r ≡ w = omega arith in
      weaker (node14 value (k - 12) r vs) (λ b ts s. (s.0 ∙ ap (λ x. x ∷ vs) j ∙ sym ew, s.1)) (same_node14 (k - 12) r (omega arith) vs)))

  same_15 : (us : List ℕ) → Holds (SameB 15 us) (parse15 value us)
  same_15 us = then_holds (read_policy value true 32 us) (λ t vs. got (pending t) vs) (same_t true 32 us) (λ t vs h. fine (h, refl))

  same_rest : (k : ℕ) (p : List ℕ → Parsed (ReducedPolicy O)) → ((us : List ℕ) → Holds (SameB k us) (p us)) → (r : ℕ) (us : List ℕ) → Holds (SameR number (r / 4096) (word k r ∷ us)) (rest value p r us)
  same_rest k p hp r us =
      then_holds (read_list consulted entry_bits (r % 4096) us) (λ es vs. next (p vs) (λ b ts. got (record { body = b; log = es }) ts)) (read_entries (r % 4096) us) (λ es vs h.
      then_holds (p vs) (λ b ts. got (record { body = b; log = es }) ts) (hp vs) (λ b ts g.
      let few : length es < 4096 = omega (arith, h.long) in
      let k₁ : (lead_kind number b * 268435456 + length es) / 268435456 ≡ lead_kind number b = omega arith in
      let c₁ : r / 4096 * 4096 + (lead_kind number b * 268435456 + length es) % 4096 ≡ r = omega (arith, h.long) in
      fine ((λ i. word ((k₁ ∙ g.1) i) (c₁ i) ∷ ((pack entry_bits (map entry_field es) ++ encode number (as_residual b)) ++ ts)) ∙ ap (λ y. word k r ∷ y) (append_assoc (pack entry_bits (map entry_field es)) (encode number (as_residual b)) ts ∙ ap (λ y. pack entry_bits (map entry_field es) ++ y) g.0 ∙ h.were))))

  same_leads : (k r : ℕ) (us : List ℕ) → Holds (SameR number (r / 4096) (word (14 + k) r ∷ us)) (leads value k r us)
  same_leads zero r us = same_rest 14 (parse14 value) same_14 r us
  same_leads (suc zero) r us = same_rest 15 (parse15 value) same_15 r us
  same_leads (suc (suc k)) r us = nothing

  same_lead : (us : List ℕ) → Holds (SameR number (sheet_number us) us) (read_lead value us)
  same_lead us =
      another_holds us (λ w vs. unless (leb 14 (w / 268435456)) 5 (leads value (w / 268435456 - 14) (w % 268435456) vs)) (λ w vs ew.
      let k = w / 268435456 in
      let r = w % 268435456 in
      if_holds (leb 14 k) 5 (leads value (k - 14) r vs) (λ e.
      let h : 14 ≤ k = leb→le 14 k (subst T (sym e) tt) in
      let j : word (14 + (k - 14)) r ≡ w = omega arith in
      let m : sheet_number us ≡ r / 4096 = ap sheet_number ew ∙ omega arith in
      weaker (leads value (k - 14) r vs) (λ b ts s. ap (λ n. numbered n (encode_r number b) ++ ts) m ∙ s ∙ ap (λ x. x ∷ vs) j ∙ sym ew) (same_leads (k - 14) r vs)))

  whole_same : {A : Type 0} (enc : A → List ℕ) (us : List ℕ) (q : Parsed A) → Holds (λ a vs. enc a ++ vs ≡ us) q → Holds (λ a vs. enc a ≡ us) (whole q)
  whole_same enc us (refuse n) h = nothing
  whole_same enc us (got a []) h = fine (sym (append-nil (enc a)) ∙ h.it)
  whole_same enc us (got a (w ∷ ws)) h = nothing

  -- A sheet, a record, that is accepted is the words of what was read.
  pub same_sheet_lem : (ws : List ℕ) (t : Policy O) (vs : List ℕ) → read_sheet value ws ≡ got t vs → encode number t ≡ ws
  same_sheet_lem ws t vs e =
      (subst (Holds (λ x _. encode number x ≡ ws)) e
      (if_holds (leb 1 (length ws) && leb (length ws) 4096) 1 (whole (read_policy value false 32 ws)) (λ _. whole_same (encode number) ws (read_policy value false 32 ws) (same_t false 32 ws)))).it

  pub same_record : (ws : List ℕ) (r : Record O) (vs : List ℕ) → read_record value ws ≡ got r vs → numbered (sheet_number ws) (encode_r number r) ≡ ws
  same_record ws r vs e =
      (subst (Holds (λ x _. numbered (sheet_number ws) (encode_r number x) ≡ ws)) e
      (if_holds (leb 1 (length ws) && leb (length ws) 16384) 1 (whole (read_lead value ws)) (λ _. whole_same (λ x. numbered (sheet_number ws) (encode_r number x)) ws (read_lead value ws) (same_lead ws)))).it
