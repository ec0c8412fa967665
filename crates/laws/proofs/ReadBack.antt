-- What is written is read back: for a tree or record of good form, reading the words that it was written as gives it again.
use Rattle.std.specs.Prelude.{◌≡◌, refl, Bool, true, false, cond, List, [], ◌∷◌, ◌++◌, map, ℕ, zero, suc, ◌+◌, ◌-◌, ◌*◌, ◌/◌, ◌%◌, ◌^◌, ◌≤◌, ◌<◌, eqb, ltb, leb, length}
use Rattle.std.proofs.Common.{sym, ◌∙◌, ap, subst, append_assoc, append-nil, map-id, arith, lt-ltb, le-ltb, le-leb}
use Rattle.std.proofs.Math.Option.{Option, none, some}
use Rattle.std.proofs.lemmas.Bool.{and_from}
use Rattle.model.specs.Fields.{pack}
use Rattle.model.specs.Facts.{Presence}
use Rattle.model.specs.Condition.{Condition, always, never, has, not_c, all_c, any_c, Conditions, cnil, ccons}
use Rattle.model.specs.Decision.{Permit, Denial, Decision, permits, denies}
use Rattle.model.specs.Policy.{Grant, Policy, permit, deny, grant, all, any, or_else, stored, Policies, pnil, pcons}
use Rattle.model.specs.Partial.{ReducedPolicy, resolved, pending, as_residual}
use Rattle.model.specs.Consulted.{Entry, Consulted}
use Rattle.model.specs.Record.{Record, tree}
use Rattle.model.specs.Writing.{obligation_bits, entry_bits, word, shape_bit, marked, presence_field, entry_field, count_c, count, encode_c, encode_cs, denied_field, encode_d, encode, encodes, lead_kind, encode_r, numbered}
use Rattle.model.specs.Reading.{Parsed, got, next, unless, read_list, obligation, listed, consulted, many, node_c, read_condition, whole, mark, shape_of, outcome_of, denied_of, grant_more, parse_grant, grant_at, more12, parse12, at12, more13, parse13, at13, as_stored, node, read_policy, read_sheet, node14, parse14, parse15, rest, leads, read_lead, read_record, sheet_number, obligation_count, most_obligations}
use Rattle.laws.specs.Lists.{Below}
use Rattle.laws.specs.FieldAt.{Narrow}
use Rattle.laws.proofs.FieldLaws.{Passes, back_list}
use Rattle.laws.proofs.FieldAtLaws.{narrow_below, presence_few, seen_back, narrow_entries}
use Rattle.laws.specs.Size.{IsSheet, SheetIf, SheetsIf}
use Rattle.laws.specs.Form.{FormC, FormCs, IfThere, FormL, Countable, FormP, FormN, FormD, FormG, FormOf, FormsOf, depth_c, depth_cs, depth, depths}
use Rattle.laws.proofs.ReadForm.{Named}
use Rattle.laws.proofs.NodeLaws.{unless_is, shape_back, shape_small, marked_small, outcome_is}
use Rattle.laws.proofs.SheetIfLaws.{arms_if_all, arms_if_any, primary_if, fallback_if, first_if, rest_if}

-- ---- a word's kind and its other number
word_kind : (k r : ℕ) → r < 268435456 → word k r / 268435456 ≡ k
word_kind k r h = omega arith

word_rest : (k r : ℕ) → r < 268435456 → word k r % 268435456 ≡ r
word_rest k r h = omega arith

-- ---- conditions
parse_c_word : (d k r : ℕ) (ws : List ℕ) → r < 268435456 → read_condition (suc d) (word k r ∷ ws) ≡ node_c (λ vs. read_condition d vs) k r ws
parse_c_word d k r ws h = λ i. node_c (λ vs. read_condition d vs) (word_kind k r h i) (word_rest k r h i) ws

mutual
  pub back_c : (c : Condition) (d : ℕ) (ws : List ℕ) → depth_c c ≤ d → FormC c → read_condition d (encode_c c ++ ws) ≡ got c ws
  back_c always zero ws h f = let z : ⊥ = omega arith in absurd z
  back_c always (suc d) ws h f = parse_c_word d 0 0 ws (omega arith)
  back_c never zero ws h f = let z : ⊥ = omega arith in absurd z
  back_c never (suc d) ws h f = parse_c_word d 1 0 ws (omega arith)
  back_c (has n) zero ws h f = let z : ⊥ = omega arith in absurd z
  back_c (has n) (suc d) ws h f = parse_c_word d 2 n ws (omega arith) ∙ unless_is 8 (got (has n) ws) (lt-ltb n 1024 f)
  back_c (not_c c) zero ws h f = let z : ⊥ = omega arith in absurd z
  back_c (not_c c) (suc d) ws h f =
      parse_c_word d 3 0 (encode_c c ++ ws) (omega arith) ∙ ap (λ q. next q (λ x vs. got (not_c x) vs)) (back_c c d ws (omega arith) f)
  back_c (all_c cs) zero ws h f = let z : ⊥ = omega arith in absurd z
  back_c (all_c cs) (suc d) ws h f =
      parse_c_word d 4 (count_c cs) (encode_cs cs ++ ws) (omega (arith, f.0))
      ∙ unless_is 8 (next (many cnil ccons (λ vs. read_condition d vs) (count_c cs) (encode_cs cs ++ ws)) (λ xs vs. got (all_c xs) vs)) (lt-ltb (count_c cs) 4096 (omega (arith, f.0)))
      ∙ ap (λ q. next q (λ xs vs. got (all_c xs) vs)) (back_cs cs d ws (omega arith) f.1)
  back_c (any_c cs) zero ws h f = let z : ⊥ = omega arith in absurd z
  back_c (any_c cs) (suc d) ws h f =
      parse_c_word d 5 (count_c cs) (encode_cs cs ++ ws) (omega (arith, f.0))
      ∙ unless_is 8 (next (many cnil ccons (λ vs. read_condition d vs) (count_c cs) (encode_cs cs ++ ws)) (λ xs vs. got (any_c xs) vs)) (lt-ltb (count_c cs) 4096 (omega (arith, f.0)))
      ∙ ap (λ q. next q (λ xs vs. got (any_c xs) vs)) (back_cs cs d ws (omega arith) f.1)

  back_cs : (cs : Conditions) (d : ℕ) (ws : List ℕ) → depth_cs cs ≤ d → FormCs cs → many cnil ccons (λ vs. read_condition d vs) (count_c cs) (encode_cs cs ++ ws) ≡ got cs ws
  back_cs cnil d ws h f = refl
  back_cs (ccons c cs) d ws h f =
      ap (λ vs. many cnil ccons (λ us. read_condition d us) (suc (count_c cs)) vs) (append_assoc (encode_c c) (encode_cs cs) ws)
      ∙ ap (λ q. next q (λ a vs. next (many cnil ccons (λ us. read_condition d us) (count_c cs) vs) (λ xs us. got (ccons a xs) us))) (back_c c d (encode_cs cs ++ ws) (omega arith) f.0)
      ∙ ap (λ q. next q (λ xs us. got (ccons c xs) us)) (back_cs cs d ws (omega arith) f.1)

-- ---- obligations, facts, entries
abbrev self : ℕ → ℕ
self n = n

passes_obligations : (os sofar : List ℕ) → Below obligation_count os → Passes self obligation sofar os
passes_obligations [] sofar b = tt
passes_obligations (o ∷ os) sofar b = (unless_is 8 (got o []) (lt-ltb o obligation_count b.0), passes_obligations os (sofar ++ o ∷ []) b.1)

-- Numbers below n, as they are packed.
narrow : (width n : ℕ) (vs : List ℕ) → n ≤ 2 ^ width → Below n vs → Narrow width (map self vs)
narrow width n vs h b = subst (Narrow width) (sym (map-id vs)) (narrow_below width n vs h b)

passes_facts : (fs sofar : List ℕ) → Below 1024 fs → Passes self listed sofar fs
passes_facts [] sofar b = tt
passes_facts (f ∷ fs) sofar b = (unless_is 8 (got f []) (lt-ltb f 1024 b.0), passes_facts fs (sofar ++ f ∷ []) b.1)

back_obligations : (os : List ℕ) (ws : List ℕ) → Below obligation_count os → read_list obligation obligation_bits (length os) (pack obligation_bits os ++ ws) ≡ got os ws
back_obligations os ws f =
    ap (λ l. read_list obligation obligation_bits (length os) (pack obligation_bits l ++ ws)) (sym (map-id os))
    ∙ back_list self obligation obligation_bits 3 os ws refl (narrow obligation_bits obligation_count os (omega arith) f) (passes_obligations os [] f)

back_facts : (fs : List ℕ) (ws : List ℕ) → Below 1024 fs → read_list listed entry_bits (length fs) (pack entry_bits fs ++ ws) ≡ got fs ws
back_facts fs ws f =
    ap (λ l. read_list listed entry_bits (length fs) (pack entry_bits l ++ ws)) (sym (map-id fs))
    ∙ back_list self listed entry_bits 1 fs ws refl (narrow entry_bits 1024 fs (omega arith) f) (passes_facts fs [] f)

entry_at : (es : Consulted) (b f : ℕ) (p : Presence) → b % 16384 ≡ f → b / 16384 ≡ presence_field p → f < 1024 → consulted es b ≡ got (record { fact = f; seen = p }) []
entry_at es b f p lo hi h = rw (lo, hi, lt-ltb (presence_field p) 4 (presence_few p), lt-ltb f 1024 h, seen_back p)

entry_passes : (es : Consulted) (x : Entry) → x.fact < 1024 → consulted es (entry_field x) ≡ got x []
entry_passes es x h = entry_at es (entry_field x) x.fact x.seen (omega arith) (omega arith) h

passes_entries : (es sofar : Consulted) → Named es → Passes entry_field consulted sofar es
passes_entries [] sofar b = tt
passes_entries (x ∷ es) sofar b = (entry_passes sofar x b.0, passes_entries es (sofar ++ x ∷ []) b.1)

back_entries : (es : Consulted) (ws : List ℕ) → Named es → read_list consulted entry_bits (length es) (pack entry_bits (map entry_field es) ++ ws) ≡ got es ws
back_entries es ws f = back_list entry_field consulted entry_bits 1 es ws refl (narrow_entries es f) (passes_entries es [] f)

-- ---- labels, reasons, shapes
mark_back : (l : Option ℕ) → FormL l → mark (marked l) ≡ got l []
mark_back none f = refl
mark_back (some n) f =
    let e : 32768 + n - 32768 ≡ n = omega arith in
    (λ i. cond (le-ltb (32768 + n) 32768 (omega arith) i) (unless (eqb (32768 + n) 0) 8 (got none [])) (unless (ltb (32768 + n) 65536) 8 (got (some (32768 + n - 32768)) [])))
    ∙ unless_is 8 (got (some (32768 + n - 32768)) []) (lt-ltb (32768 + n) 65536 (omega arith))
    ∙ ap (λ x. got (some x) []) e

-- ---- policies. `number` writes an outcome in 16 bits, `value` reads it; B says what is asked of a grant's condition, and nothing here needs it.
module _ {O : Type 0} (G : O → Type 0) (B : Condition → Type 0) (number : O → ℕ) (value : ℕ → Option O)
    (small : (o : O) → G o → number o < 65536) (again : (o : O) → G o → value (number o) ≡ some o) where
  back_grant_more : (p : List ℕ → Parsed Condition) (g : Grant O) (c : Condition) (ws : List ℕ) → FormG G g → p (encode_c c ++ ws) ≡ got c ws
      → grant_more value p (shape_bit g.shape) (length g.obligations) g.outcome (marked g.label) (marked g.reason) (pack obligation_bits g.obligations ++ (encode_c c ++ ws)) ≡ got (grant g c) ws
  back_grant_more p g c ws f h =
      ap (λ q. next q (λ l _. next (mark (marked g.reason)) (λ m _. next (read_list obligation obligation_bits (length g.obligations) (pack obligation_bits g.obligations ++ (encode_c c ++ ws))) (λ os vs. next (p vs) (λ x us. got (grant (record { outcome = g.outcome; obligations = os; label = l; reason = m; shape = shape_of (shape_bit g.shape) }) x) us))))) (mark_back g.label f.2)
      ∙ ap (λ q. next q (λ m _. next (read_list obligation obligation_bits (length g.obligations) (pack obligation_bits g.obligations ++ (encode_c c ++ ws))) (λ os vs. next (p vs) (λ x us. got (grant (record { outcome = g.outcome; obligations = os; label = g.label; reason = m; shape = shape_of (shape_bit g.shape) }) x) us)))) (mark_back g.reason f.3)
      ∙ ap (λ q. next q (λ os vs. next (p vs) (λ x us. got (grant (record { outcome = g.outcome; obligations = os; label = g.label; reason = g.reason; shape = shape_of (shape_bit g.shape) }) x) us))) (back_obligations g.obligations (encode_c c ++ ws) f.1.1)
      ∙ ap (λ q. next q (λ x us. got (grant (record { outcome = g.outcome; obligations = g.obligations; label = g.label; reason = g.reason; shape = shape_of (shape_bit g.shape) }) x) us)) h
      ∙ ap (λ s. got (grant (record { outcome = g.outcome; obligations = g.obligations; label = g.label; reason = g.reason; shape = s }) c) ws) (shape_back g.shape)

  back_grant : (p : List ℕ → Parsed Condition) (g : Grant O) (c : Condition) (ws : List ℕ) → FormG G g → p (encode_c c ++ ws) ≡ got c ws
      → grant_at value p (shape_bit g.shape * 134217728 + length g.obligations * 1048576 + number g.outcome) ((marked g.label * 65536 + marked g.reason) ∷ (pack obligation_bits g.obligations ++ (encode_c c ++ ws))) ≡ got (grant g c) ws
  back_grant p g c ws f h =
      let n = length g.obligations in
      let sb = shape_bit g.shape in
      let o = number g.outcome in
      let r = sb * 134217728 + n * 1048576 + o in
      let w = marked g.label * 65536 + marked g.reason in
      let vs = pack obligation_bits g.obligations ++ (encode_c c ++ ws) in
      let few : length g.obligations ≤ most_obligations = f.1.0 in
      let so = small g.outcome f.0 in
      let ss = shape_small g.shape in
      let mr = marked_small g.reason f.3 in
      let e₁ : r / 134217728 ≡ sb = omega arith in
      let e₂ : r / 1048576 % 128 ≡ n = omega arith in
      let e₃ : r / 65536 % 16 ≡ 0 = omega arith in
      let e₄ : r % 65536 ≡ o = omega arith in
      let ml = marked_small g.label f.2 in
      let e₅ : w / 65536 ≡ marked g.label = omega arith in
      let e₆ : w % 65536 ≡ marked g.reason = omega arith in
      (λ i. parse_grant value p (e₁ i) (e₂ i) (e₃ i) (e₄ i) (w ∷ vs))
      ∙ unless_is 8 (outcome_of value (value o) (λ x. grant_more value p sb n x (w / 65536) (w % 65536) vs)) (le-leb n most_obligations few)
      ∙ outcome_is value (λ x. grant_more value p sb n x (w / 65536) (w % 65536) vs) (again g.outcome f.0)
      ∙ (λ i. grant_more value p sb n g.outcome (e₅ i) (e₆ i) vs)
      ∙ back_grant_more p g c ws f h

  back_12 : (q : Permit O) (ws : List ℕ) → FormP G Countable q
      → at12 value (length q.obligations * 1048576 + number q.outcome) ((marked q.label * 65536 + length q.facts) ∷ ((pack obligation_bits q.obligations ++ pack entry_bits q.facts) ++ ws)) ≡ got (permits q) ws
  back_12 q ws f =
      let n = length q.obligations in
      let m = length q.facts in
      let o = number q.outcome in
      let r = n * 1048576 + o in
      let w = marked q.label * 65536 + m in
      let vs = (pack obligation_bits q.obligations ++ pack entry_bits q.facts) ++ ws in
      let vs' = pack obligation_bits q.obligations ++ (pack entry_bits q.facts ++ ws) in
      let few = f.1.0 in
      let so = small q.outcome f.0 in
      let fm : m ≤ 4095 = f.3.0 in
      let e₁ : r / 134217728 ≡ 0 = omega arith in
      let e₂ : r / 1048576 % 128 ≡ n = omega arith in
      let e₃ : r / 65536 % 16 ≡ 0 = omega arith in
      let e₄ : r % 65536 ≡ o = omega arith in
      let ml = marked_small q.label f.2 in
      let e₅ : w / 65536 ≡ marked q.label = omega arith in
      let e₆ : w % 65536 ≡ m = omega arith in
      let mk : Option ℕ → List ℕ → List ℕ → List ℕ → Parsed (Decision O) = λ l os fs us. got (permits (record { outcome = q.outcome; obligations = os; label = l; facts = fs })) us in
      (λ i. parse12 value (e₁ i) (e₂ i) (e₃ i) (e₄ i) (w ∷ vs))
      ∙ outcome_is value (λ x. more12 value n x (w / 65536) (w % 65536) vs) (again q.outcome f.0)
      ∙ (λ i. more12 value n q.outcome (e₅ i) (e₆ i) (append_assoc (pack obligation_bits q.obligations) (pack entry_bits q.facts) ws i))
      ∙ ap (λ x. next x (λ l _. unless (ltb m 4096) 8 (next (read_list obligation obligation_bits n vs') (λ os us. next (read_list listed entry_bits m us) (λ fs ts. mk l os fs ts))))) (mark_back q.label f.2)
      ∙ unless_is 8 (next (read_list obligation obligation_bits n vs') (λ os us. next (read_list listed entry_bits m us) (λ fs ts. mk q.label os fs ts))) (lt-ltb m 4096 (omega arith))
      ∙ ap (λ x. next x (λ os us. next (read_list listed entry_bits m us) (λ fs ts. mk q.label os fs ts))) (back_obligations q.obligations (pack entry_bits q.facts ++ ws) f.1.1)
      ∙ ap (λ x. next x (λ fs ts. mk q.label q.obligations fs ts)) (back_facts q.facts ws f.3.1)

  -- the denied outcome, by its present bit
  abbrev here_bit : Option O → ℕ
  here_bit none = 0
  here_bit (some o) = 1

  abbrev here_bits : Option O → ℕ
  here_bits none = 0
  here_bits (some o) = number o

  denied_split : (x : Option O) → denied_field number x ≡ here_bit x * 67108864 + here_bits x
  denied_split none = omega arith
  denied_split (some o) = omega arith

  denied_small : (x : Option O) → IfThere G x → here_bits x < 65536
  denied_small none h = omega arith
  denied_small (some o) h = small o h

  here_small : (x : Option O) → here_bit x ≤ 1
  here_small none = omega arith
  here_small (some o) = omega arith

  denied_back : {A : Type 0} (x : Option O) → IfThere G x → (k : Option O → Parsed A) → denied_of value (here_bit x) (here_bits x) k ≡ k x
  denied_back none h k = refl
  denied_back (some o) h k = outcome_is value (λ y. k (some y)) (again o h)

  back_13 : (q : Denial O) (ws : List ℕ) → FormN G q
      → at13 value (shape_bit q.shape * 134217728 + denied_field number q.denied) ((marked q.label * 65536 + marked q.reason) ∷ length q.facts ∷ (pack entry_bits q.facts ++ ws)) ≡ got (denies q) ws
  back_13 q ws f =
      let m = length q.facts in
      let sb = shape_bit q.shape in
      let hb = here_bit q.denied in
      let v = here_bits q.denied in
      let r = sb * 134217728 + denied_field number q.denied in
      let w = marked q.label * 65536 + marked q.reason in
      let vs = pack entry_bits q.facts ++ ws in
      let ds = denied_split q.denied in
      let sv = denied_small q.denied f.0 in
      let sh = here_small q.denied in
      let ss = shape_small q.shape in
      let mr = marked_small q.reason f.3 in
      let fm : m ≤ 4095 = f.1.0 in
      let e₁ : r / 134217728 ≡ sb = omega arith in
      let e₂ : r / 67108864 % 2 ≡ hb = omega arith in
      let e₃ : r / 65536 % 1024 ≡ 0 = omega arith in
      let e₄ : r % 65536 ≡ v = omega arith in
      let ml = marked_small q.label f.2 in
      let e₅ : w / 65536 ≡ marked q.label = omega arith in
      let e₆ : w % 65536 ≡ marked q.reason = omega arith in
      let mk : Option ℕ → Option ℕ → List ℕ → List ℕ → Parsed (Decision O) = λ l e fs us. got (denies (record { denied = q.denied; facts = fs; label = l; reason = e; shape = shape_of sb })) us in
      (λ i. parse13 value (e₁ i) (e₂ i) (e₃ i) (e₄ i) (w ∷ m ∷ vs))
      ∙ denied_back q.denied f.0 (λ den. more13 value sb den (w / 65536) (w % 65536) (m ∷ vs))
      ∙ (λ i. more13 value sb q.denied (e₅ i) (e₆ i) (m ∷ vs))
      ∙ ap (λ x. next x (λ l _. next (mark (marked q.reason)) (λ e _. unless (ltb m 4096) 8 (next (read_list listed entry_bits m vs) (λ fs us. mk l e fs us))))) (mark_back q.label f.2)
      ∙ ap (λ x. next x (λ e _. unless (ltb m 4096) 8 (next (read_list listed entry_bits m vs) (λ fs us. mk q.label e fs us)))) (mark_back q.reason f.3)
      ∙ unless_is 8 (next (read_list listed entry_bits m vs) (λ fs us. mk q.label q.reason fs us)) (lt-ltb m 4096 (omega arith))
      ∙ ap (λ x. next x (λ fs us. mk q.label q.reason fs us)) (back_facts q.facts ws f.1.1)
      ∙ ap (λ s. got (denies (record { denied = q.denied; facts = q.facts; label = q.label; reason = q.reason; shape = s })) ws) (shape_back q.shape)

  -- ---- trees
  parse_word : (res : Bool) (d k r : ℕ) (ws : List ℕ) → r < 268435456 → read_policy value res (suc d) (word k r ∷ ws) ≡ node value res (λ vs. read_condition d vs) (λ vs. read_policy value res d vs) k r ws
  parse_word res d k r ws h = λ i. node value res (λ vs. read_condition d vs) (λ vs. read_policy value res d vs) (word_kind k r h i) (word_rest k r h i) ws

  back_d : (d : ℕ) (e : Decision O) (ws : List ℕ) → FormD G Countable e → read_policy value true (suc d) (encode_d number e ++ ws) ≡ got (stored e) ws
  back_d d (permits q) ws f =
      let few = f.1.0 in
      let so = small q.outcome f.0 in
      parse_word true d 12 (length q.obligations * 1048576 + number q.outcome) ((marked q.label * 65536 + length q.facts) ∷ ((pack obligation_bits q.obligations ++ pack entry_bits q.facts) ++ ws)) (omega arith)
      ∙ ap (as_stored value) (back_12 q ws f)
  back_d d (denies q) ws f =
      let ds = denied_split q.denied in
      let sv = denied_small q.denied f.0 in
      let sh = here_small q.denied in
      let ss = shape_small q.shape in
      parse_word true d 13 (shape_bit q.shape * 134217728 + denied_field number q.denied) ((marked q.label * 65536 + marked q.reason) ∷ length q.facts ∷ (pack entry_bits q.facts ++ ws)) (omega arith)
      ∙ ap (as_stored value) (back_13 q ws f)

  mutual
    pub back_t : (t : Policy O) (res : Bool) (d : ℕ) (ws : List ℕ) → depth t ≤ d → FormOf G B Countable t → SheetIf res t → read_policy value res d (encode number t ++ ws) ≡ got t ws
    back_t (permit o) res zero ws h f s = let z : ⊥ = omega arith in absurd z
    back_t (permit o) res (suc d) ws h f s =
        let so = small o f in
        let e₁ : number o / 65536 ≡ 0 = omega arith in
        let e₂ : number o % 65536 ≡ number o = omega arith in
        parse_word res d 6 (number o) ws (omega arith)
        ∙ (λ i. unless (eqb (e₁ i) 0) 8 (outcome_of value (value (e₂ i)) (λ x. got (permit x) ws)))
        ∙ outcome_is value (λ x. got (permit x) ws) (again o f)
    back_t deny res zero ws h f s = let z : ⊥ = omega arith in absurd z
    back_t deny res (suc d) ws h f s = parse_word res d 7 0 ws (omega arith)
    back_t (grant g c) res zero ws h f s = let z : ⊥ = omega arith in absurd z
    back_t (grant g c) res (suc d) ws h f s =
        let few : length g.obligations ≤ most_obligations = f.0.1.0 in
        let so = small g.outcome f.0.0 in
        let ss = shape_small g.shape in
        let r = shape_bit g.shape * 134217728 + length g.obligations * 1048576 + number g.outcome in
        let w = marked g.label * 65536 + marked g.reason in
        parse_word res d 8 r (w ∷ ((pack obligation_bits g.obligations ++ encode_c c) ++ ws)) (omega arith)
        ∙ ap (λ vs. grant_at value (λ us. read_condition d us) r (w ∷ vs)) (append_assoc (pack obligation_bits g.obligations) (encode_c c) ws)
        ∙ back_grant (λ us. read_condition d us) g c ws f.0 (back_c c d ws (omega arith) f.1)
    back_t (all ts) res zero ws h f s = let z : ⊥ = omega arith in absurd z
    back_t (all ts) res (suc d) ws h f s =
        parse_word res d 9 (count ts) (encodes number ts ++ ws) (omega (arith, f.0))
        ∙ unless_is 8 (next (many pnil pcons (λ vs. read_policy value res d vs) (count ts) (encodes number ts ++ ws)) (λ xs vs. got (all xs) vs)) (lt-ltb (count ts) 4096 (omega (arith, f.0)))
        ∙ ap (λ q. next q (λ xs vs. got (all xs) vs)) (back_ts ts res d ws (omega arith) f.1 (arms_if_all res ts s))
    back_t (any ts) res zero ws h f s = let z : ⊥ = omega arith in absurd z
    back_t (any ts) res (suc d) ws h f s =
        parse_word res d 10 (count ts) (encodes number ts ++ ws) (omega (arith, f.0))
        ∙ unless_is 8 (next (many pnil pcons (λ vs. read_policy value res d vs) (count ts) (encodes number ts ++ ws)) (λ xs vs. got (any xs) vs)) (lt-ltb (count ts) 4096 (omega (arith, f.0)))
        ∙ ap (λ q. next q (λ xs vs. got (any xs) vs)) (back_ts ts res d ws (omega arith) f.1 (arms_if_any res ts s))
    back_t (or_else a b) res zero ws h f s = let z : ⊥ = omega arith in absurd z
    back_t (or_else a b) res (suc d) ws h f s =
        parse_word res d 11 0 ((encode number a ++ encode number b) ++ ws) (omega arith)
        ∙ ap (λ us. next (read_policy value res d us) (λ x vs. next (read_policy value res d vs) (λ y ts. got (or_else x y) ts))) (append_assoc (encode number a) (encode number b) ws)
        ∙ ap (λ q. next q (λ x vs. next (read_policy value res d vs) (λ y ts. got (or_else x y) ts))) (back_t a res d (encode number b ++ ws) (omega arith) f.0 (primary_if res a b s))
        ∙ ap (λ q. next q (λ y ts. got (or_else a y) ts)) (back_t b res d ws (omega arith) f.1 (fallback_if res a b s))
    back_t (stored e) res zero ws h f s = let z : ⊥ = omega arith in absurd z
    back_t (stored e) true (suc d) ws h f s = back_d d e ws f
    back_t (stored e) false (suc d) ws h f s = absurd s

    back_ts : (ts : Policies O) (res : Bool) (d : ℕ) (ws : List ℕ) → depths ts ≤ d → FormsOf G B Countable ts → SheetsIf res ts → many pnil pcons (λ vs. read_policy value res d vs) (count ts) (encodes number ts ++ ws) ≡ got ts ws
    back_ts pnil res d ws h f s = refl
    back_ts (pcons t ts) res d ws h f s =
        ap (λ vs. many pnil pcons (λ us. read_policy value res d us) (suc (count ts)) vs) (append_assoc (encode number t) (encodes number ts) ws)
        ∙ ap (λ q. next q (λ a vs. next (many pnil pcons (λ us. read_policy value res d us) (count ts) vs) (λ xs us. got (pcons a xs) us))) (back_t t res d (encodes number ts ++ ws) (omega arith) f.0 (first_if res t ts s))
        ∙ ap (λ q. next q (λ xs us. got (pcons t xs) us)) (back_ts ts res d ws (omega arith) f.1 (rest_if res t ts s))

  -- A sheet of good form is read back from its words.
  pub back_sheet : (t : Policy O) → IsSheet t → FormOf G B Countable t → depth t ≤ 32 → length (encode number t) ≤ 4096 → 1 ≤ length (encode number t) → read_sheet value (encode number t) ≡ got t []
  back_sheet t s f d k m =
      unless_is 1 (whole (read_policy value false 32 (encode number t))) (and_from (leb 1 (length (encode number t))) (leb (length (encode number t)) 4096) (le-leb 1 (length (encode number t)) m) (le-leb (length (encode number t)) 4096 k))
      ∙ ap (λ us. whole (read_policy value false 32 us)) (sym (append-nil (encode number t)))
      ∙ ap whole (back_t t false 32 [] d f s)

  -- ---- records
  back_14 : (e : Decision O) (ws : List ℕ) → FormD G Countable e → parse14 value (encode_d number e ++ ws) ≡ got (resolved e) ws
  back_14 (permits q) ws f =
      let few = f.1.0 in
      let so = small q.outcome f.0 in
      let r = length q.obligations * 1048576 + number q.outcome in
      let hr : r < 268435456 = omega arith in
      let vs = (marked q.label * 65536 + length q.facts) ∷ ((pack obligation_bits q.obligations ++ pack entry_bits q.facts) ++ ws) in
      (λ i. unless (leb 12 (word_kind 12 r hr i)) 5 (node14 value (word_kind 12 r hr i - 12) (word_rest 12 r hr i) vs))
      ∙ ap (λ x. next x (λ d us. got (resolved d) us)) (back_12 q ws f)
  back_14 (denies q) ws f =
      let ds = denied_split q.denied in
      let sv = denied_small q.denied f.0 in
      let sh = here_small q.denied in
      let ss = shape_small q.shape in
      let r = shape_bit q.shape * 134217728 + denied_field number q.denied in
      let hr : r < 268435456 = omega arith in
      let vs = (marked q.label * 65536 + marked q.reason) ∷ length q.facts ∷ (pack entry_bits q.facts ++ ws) in
      (λ i. unless (leb 12 (word_kind 13 r hr i)) 5 (node14 value (word_kind 13 r hr i - 12) (word_rest 13 r hr i) vs))
      ∙ ap (λ x. next x (λ d us. got (resolved d) us)) (back_13 q ws f)

  back_rest : (p : List ℕ → Parsed (ReducedPolicy O)) (b : ReducedPolicy O) (es : Consulted) (vs ws : List ℕ) → length es < 4096 → Named es → p (vs ++ ws) ≡ got b ws
      → (sheet : ℕ) → rest value p (sheet * 4096 + length es) ((pack entry_bits (map entry_field es) ++ vs) ++ ws) ≡ got (record { body = b; log = es }) ws
  back_rest p b es vs ws n f h sheet =
      let m : (sheet * 4096 + length es) % 4096 ≡ length es = omega arith in
      ap (λ us. rest value p (sheet * 4096 + length es) us) (append_assoc (pack entry_bits (map entry_field es)) vs ws)
      ∙ ap (λ x. next (read_list consulted entry_bits x (pack entry_bits (map entry_field es) ++ (vs ++ ws))) (λ xs us. next (p us) (λ y ts. got (record { body = y; log = xs }) ts))) m
      ∙ ap (λ q. next q (λ xs us. next (p us) (λ y ts. got (record { body = y; log = xs }) ts))) (back_entries es (vs ++ ws) f)
      ∙ ap (λ q. next q (λ y ts. got (record { body = y; log = es }) ts)) h

  lead_word : (k : ℕ) (n : ℕ) (vs : List ℕ) → n < 268435456 → read_lead value (word k n ∷ vs) ≡ unless (leb 14 k) 5 (leads value (k - 14) n vs)
  lead_word k n vs h = λ i. unless (leb 14 (word_kind k n h i)) 5 (leads value (word_kind k n h i - 14) (word_rest k n h i) vs)

  -- The words of a record under a sheet's number.
  numbered_is : (sheet : ℕ) (b : ReducedPolicy O) (es : Consulted) → length es < 4096
      → numbered sheet (encode_r number (record { body = b; log = es })) ≡ word (lead_kind number b) (sheet * 4096 + length es) ∷ (pack entry_bits (map entry_field es) ++ encode number (as_residual b))
  numbered_is sheet b es n =
      let k = lead_kind number b in
      let kind : (k * 268435456 + length es) / 268435456 ≡ k = omega arith in
      let many : (k * 268435456 + length es) % 4096 ≡ length es = omega arith in
      λ i. word (kind i) (sheet * 4096 + many i) ∷ (pack entry_bits (map entry_field es) ++ encode number (as_residual b))

  back_lead : (sheet : ℕ) → sheet < 65536 → (b : ReducedPolicy O) (es : Consulted) (ws : List ℕ) → length es < 4096 → Named es → FormOf G B Countable (as_residual b) → depth (as_residual b) ≤ 32
      → read_lead value (word (lead_kind number b) (sheet * 4096 + length es) ∷ ((pack entry_bits (map entry_field es) ++ encode number (as_residual b)) ++ ws)) ≡ got (record { body = b; log = es }) ws
  back_lead sheet s (resolved e) es ws n f g h =
      lead_word 14 (sheet * 4096 + length es) ((pack entry_bits (map entry_field es) ++ encode_d number e) ++ ws) (omega arith)
      ∙ back_rest (parse14 value) (resolved e) es (encode_d number e) ws n f (back_14 e ws g) sheet
  back_lead sheet s (pending t) es ws n f g h =
      lead_word 15 (sheet * 4096 + length es) ((pack entry_bits (map entry_field es) ++ encode number t) ++ ws) (omega arith)
      ∙ back_rest (parse15 value) (pending t) es (encode number t) ws n f (ap (λ q. next q (λ x us. got (pending x) us)) (back_t t true 32 ws h g tt)) sheet

  -- A record of good form is read back from its words under a sheet's number, and the number is that one.
  pub back_r : (sheet : ℕ) → sheet < 65536 → (r : Record O) → length r.log < 4096 → Named r.log → FormOf G B Countable (tree r) → depth (tree r) ≤ 32 → length (encode_r number r) ≤ 16384
      → read_record value (numbered sheet (encode_r number r)) ≡ got r []
  back_r sheet s r n f g h k =
      let ws = numbered sheet (encode_r number r) in
      unless_is 1 (whole (read_lead value ws)) (and_from (leb 1 (length ws)) (leb (length ws) 16384) (le-leb 1 (length ws) (omega arith)) (le-leb (length ws) 16384 (omega arith)))
      ∙ ap (λ us. whole (read_lead value us)) (numbered_is sheet r.body r.log n ∙ sym (append-nil (word (lead_kind number r.body) (sheet * 4096 + length r.log) ∷ (pack entry_bits (map entry_field r.log) ++ encode number (tree r)))))
      ∙ ap whole (back_lead sheet s r.body r.log [] n f g h)

  pub back_number : (sheet : ℕ) → sheet < 65536 → (r : Record O) → sheet_number (numbered sheet (encode_r number r)) ≡ sheet
  back_number sheet s r = omega arith
