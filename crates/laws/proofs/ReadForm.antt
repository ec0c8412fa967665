-- What is read is of good form: a sheet or record that is accepted has fields that fit,
-- the nesting that was allowed, and as many words as were read.
use Rattle.std.specs.Prelude.{◌≡◌, refl, Bool, true, false, cond, ◌&&◌, List, [], ◌∷◌, ◌++◌, ℕ, zero, suc, ◌+◌, ◌-◌, ◌/◌, ◌%◌, ◌≤◌, ◌<◌, eqb, ltb, leb, length, map}
use Rattle.std.proofs.Common.{sym, ◌∙◌, ap, ap₂, subst, arith, ltb-true, leb-true, map-id, drop}
use Rattle.std.proofs.Math.Bool.{and-eq-true_iff}
use Rattle.std.proofs.Math.Option.{Option, none, some}
use Rattle.model.specs.Fields.{words_for, per_word, pack}
use Rattle.model.specs.Facts.{fact_count}
use Rattle.model.specs.Condition.{Condition, always, never, has, not_c, all_c, any_c, Conditions, cnil, ccons}
use Rattle.model.specs.Decision.{Decision, permits, denies}
use Rattle.model.specs.Policy.{Policy, permit, deny, grant, all, any, or_else, stored, Policies, pnil, pcons}
use Rattle.model.specs.Partial.{ReducedPolicy, resolved, pending, as_residual}
use Rattle.model.specs.Consulted.{Entry, Consulted}
use Rattle.model.specs.Record.{Record, tree}
use Rattle.model.specs.Writing.{obligation_bits, entry_bits, presence_field, seen_in, entry_field, count_c, count, most_listed}
use Rattle.model.specs.Reading.{Parsed, refuse, got, next, unless, another, read_list, obligation, listed, presence_count, consulted, kind_of, rest_of, counted, many, node_c, read_condition, record_length, whole, mark, shape_of, outcome_of, denied_of, grant_more, parse_grant, more12, at12, more13, at13, as_stored, in_residual, node_p, last_kind, read_policy, read_sheet, node14, parse14, parse15, rest, leads, read_lead, read_record, obligation_count, most_obligations}
use Rattle.laws.specs.Lists.{Below}
use Rattle.laws.proofs.ListLaws.{every_end}
use Rattle.laws.proofs.FieldLaws.{Holds, fine, nothing, if_holds, weaker, then_holds, both_hold, same_list_lem, kept_list}
use Rattle.laws.proofs.NodeLaws.{outcome_holds, another_holds}
use Rattle.laws.proofs.SheetIfLaws.{sheet_if, nil_if, cons_if, all_if, any_if, else_if}
use Rattle.laws.specs.Size.{words_c, words_cs, words_d, words, wordss, words_r, IsSheet, AreSheets, SheetIf, SheetsIf}
use Rattle.laws.specs.Form.{FormC, FormCs, IfThere, FormL, Countable, FewRepeats, FormD, FormOf, FormsOf, Few, Free, Form, depth_c, depth_cs, depth, depths}

-- ---- conditions: the form, the levels left, the words there were
abbrev OkC : ℕ → ℕ → Condition → List ℕ → Type 0
OkC d n c ws = FormC c × (depth_c c ≤ d) × (words_c c + length ws ≡ n)

abbrev OkCs : ℕ → ℕ → ℕ → Conditions → List ℕ → Type 0
OkCs d n k cs ws = FormCs cs × (depth_cs cs ≤ d) × (words_cs cs + length ws ≡ n) × (count_c cs ≡ k)

module _ (d : ℕ) (p : List ℕ → Parsed Condition) (hp : (ws : List ℕ) → Holds (OkC d (length ws)) (p ws)) where
  many_c : (k : ℕ) (ws : List ℕ) → Holds (OkCs d (length ws) k) (many cnil ccons p k ws)
  many_c zero ws = fine (tt, omega arith, omega arith, omega arith)
  many_c (suc k) ws =
      then_holds (p ws) (λ a vs. next (many cnil ccons p k vs) (λ xs us. got (ccons a xs) us)) (hp ws)
      (λ a vs h. then_holds (many cnil ccons p k vs) (λ xs us. got (ccons a xs) us) (many_c k vs)
      (λ xs us g. fine ((h.0, g.0), omega arith, omega arith, omega arith)))

  node_c_lem : (k r : ℕ) (ws : List ℕ) → Holds (OkC (suc d) (suc (length ws))) (node_c p k r ws)
  node_c_lem zero r ws = if_holds (eqb r 0) 8 (got always ws) (λ e. fine (tt, omega arith, omega arith))
  node_c_lem (suc zero) r ws = if_holds (eqb r 0) 8 (got never ws) (λ e. fine (tt, omega arith, omega arith))
  node_c_lem (suc (suc zero)) r ws = if_holds (ltb r 1024) 8 (got (has r) ws) (λ e. fine (ltb-true r 1024 e, omega arith, omega arith))
  node_c_lem (suc (suc (suc zero))) r ws =
      if_holds (eqb r 0) 8 (next (p ws) (λ c vs. got (not_c c) vs)) (λ e. then_holds (p ws) (λ c vs. got (not_c c) vs) (hp ws) (λ c vs h. fine (h.0, omega arith, omega arith)))
  node_c_lem (suc (suc (suc (suc zero)))) r ws =
      if_holds (ltb r 4096) 8 (next (many cnil ccons p r ws) (λ cs vs. got (all_c cs) vs))
      (λ e. then_holds (many cnil ccons p r ws) (λ cs vs. got (all_c cs) vs) (many_c r ws) (λ cs vs h. fine ((omega (arith, ltb-true r 4096 e), h.0), omega arith, omega arith)))
  node_c_lem (suc (suc (suc (suc (suc zero))))) r ws =
      if_holds (ltb r 4096) 8 (next (many cnil ccons p r ws) (λ cs vs. got (any_c cs) vs))
      (λ e. then_holds (many cnil ccons p r ws) (λ cs vs. got (any_c cs) vs) (many_c r ws) (λ cs vs h. fine ((omega (arith, ltb-true r 4096 e), h.0), omega arith, omega arith)))
  node_c_lem (suc (suc (suc (suc (suc (suc k)))))) r ws = nothing

pub ok_c : (d : ℕ) (ws : List ℕ) → Holds (OkC d (length ws)) (read_condition d ws)
ok_c zero [] = nothing
ok_c zero (w ∷ ws) = if_holds (ltb (w / 268435456) 6) 5 (refuse 7) (λ e. nothing)
ok_c (suc d) [] = nothing
ok_c (suc d) (w ∷ ws) = node_c_lem d (λ vs. read_condition d vs) (λ vs. ok_c d vs) (w / 268435456) (w % 268435456) ws

-- ---- obligations, facts, entries: a field that passes its check is what it stands for
pub same_obligation : (os : List ℕ) (b : ℕ) → Holds (λ a _. a ≡ b) (obligation os b)
same_obligation os b = if_holds (ltb b obligation_count) 8 (got b []) (λ _. fine refl)

pub same_listed : (fs : List ℕ) (b : ℕ) → Holds (λ a _. a ≡ b) (listed fs b)
same_listed fs b = if_holds (ltb b 1024) 8 (got b []) (λ _. fine refl)

obligation_keeps : (os : List ℕ) (b : ℕ) → Below obligation_count os → Holds (λ a _. Below obligation_count (os ++ a ∷ [])) (obligation os b)
obligation_keeps os b f = if_holds (ltb b obligation_count) 8 (got b []) (λ e. fine (every_end (λ o. o < obligation_count) os b f (ltb-true b obligation_count e)))

listed_keeps : (fs : List ℕ) (b : ℕ) → Below 1024 fs → Holds (λ a _. Below 1024 (fs ++ a ∷ [])) (listed fs b)
listed_keeps fs b f = if_holds (ltb b 1024) 8 (got b []) (λ e. fine (every_end (λ o. o < 1024) fs b f (ltb-true b 1024 e)))

-- A list of n numbers that was read, each below the bound; and what it left.
pub record ReadNumbers (width bound n : ℕ) (us xs vs : List ℕ) : Type 0 where
  pub below : Below bound xs
  pub long : length xs ≡ n
  pub were : pack width xs ++ vs ≡ us
  pub took_words : words_for (per_word width) n + length vs ≡ length us
  pub left : drop (words_for (per_word width) n) us ≡ vs

read_numbers : (bound : ℕ) (chk : List ℕ → ℕ → Parsed ℕ) → ((xs : List ℕ) (b : ℕ) → Below bound xs → Holds (λ a _. Below bound (xs ++ a ∷ [])) (chk xs b)) → ((xs : List ℕ) (b : ℕ) → Holds (λ a _. a ≡ b) (chk xs b)) →
    (width m n : ℕ) (us : List ℕ) → per_word width ≡ suc m → Holds (ReadNumbers width bound n us) (read_list chk width n us)
read_numbers bound chk keeps same width m n us whole =
    weaker (read_list chk width n us)
    (λ xs vs h. record { below = h.0; long = h.1.long; were = ap (λ l. pack width l ++ vs) (sym (map-id xs)) ∙ h.1.were; took_words = h.1.took_words; left = h.1.left })
    (both_hold (read_list chk width n us) (kept_list chk (Below bound) keeps width n us tt) (same_list_lem (λ x. x) chk same width m n us whole))

pub read_obligations : (n : ℕ) (us : List ℕ) → Holds (ReadNumbers obligation_bits obligation_count n us) (read_list obligation obligation_bits n us)
read_obligations n us = read_numbers obligation_count obligation obligation_keeps same_obligation obligation_bits 3 n us refl

pub read_facts : (n : ℕ) (us : List ℕ) → Holds (ReadNumbers entry_bits fact_count n us) (read_list listed entry_bits n us)
read_facts n us = read_numbers fact_count listed listed_keeps same_listed entry_bits 1 n us refl

-- Entries name facts.
abbrev pub Named : Consulted → Type 0
Named [] = Unit {0}
Named (e ∷ es) = (e.fact < fact_count) × Named es

named_end : (es : Consulted) (e : Entry) → Named es → e.fact < fact_count → Named (es ++ e ∷ [])
named_end [] e h k = (k, tt)
named_end (x ∷ es) e h k = (h.0, named_end es e h.1 k)

-- A presence is written as the number that it was read from.
pub seen_field : (k : ℕ) → k < presence_count → presence_field (seen_in k) ≡ k
seen_field zero h = refl
seen_field (suc zero) h = refl
seen_field (suc (suc zero)) h = refl
seen_field (suc (suc (suc zero))) h = refl
seen_field (suc (suc (suc (suc k)))) h = absurd (omega arith)

module _ (es : Consulted) (b : ℕ) where
  abbrev in_range : Bool
  in_range = ltb (b / 16384) 4 && ltb (b % 16384) 1024

  abbrev it : Entry
  it = record { fact = b % 16384; seen = seen_in (b / 16384) }

  consulted_keeps : Named es → Holds (λ a _. Named (es ++ a ∷ [])) (consulted es b)
  consulted_keeps h = if_holds in_range 8 (got it []) (λ e. fine (named_end es it h (ltb-true (b % 16384) 1024 ((and-eq-true_iff (ltb (b / 16384) 4) (ltb (b % 16384) 1024)).0 e).1)))

  pub same_consulted : Holds (λ a _. entry_field a ≡ b) (consulted es b)
  same_consulted = if_holds in_range 8 (got it []) (λ e. fine (omega (arith, seen_field (b / 16384) (ltb-true (b / 16384) 4 ((and-eq-true_iff (ltb (b / 16384) 4) (ltb (b % 16384) 1024)).0 e).0))))

pub record ReadEntries (n : ℕ) (us : List ℕ) (es : Consulted) (vs : List ℕ) : Type 0 where
  pub named : Named es
  pub long : length es ≡ n
  pub were : pack entry_bits (map entry_field es) ++ vs ≡ us
  pub took_words : words_for (per_word entry_bits) n + length vs ≡ length us
  pub left : drop (words_for (per_word entry_bits) n) us ≡ vs

pub read_entries : (n : ℕ) (us : List ℕ) → Holds (ReadEntries n us) (read_list consulted entry_bits n us)
read_entries n us =
    weaker (read_list consulted entry_bits n us) (λ es vs h. record { named = h.0; long = h.1.long; were = h.1.were; took_words = h.1.took_words; left = h.1.left })
    (both_hold (read_list consulted entry_bits n us) (kept_list consulted Named consulted_keeps entry_bits n us tt) (same_list_lem entry_field consulted same_consulted entry_bits 1 n us refl))

-- ---- labels and reasons
mark_at : (h : ℕ) (b : Bool) → ltb h 32768 ≡ b → Holds (λ l _. FormL l) (cond b (unless (eqb h 0) 8 (got none [])) (unless (ltb h 65536) 8 (got (some (h - 32768)) [])))
mark_at h true e = if_holds (eqb h 0) 8 (got none []) (λ _. fine tt)
mark_at h false e = if_holds (ltb h 65536) 8 (got (some (h - 32768)) []) (λ k. fine (omega (arith, ltb-true h 65536 k)))

ok_mark : (h : ℕ) → Holds (λ l _. FormL l) (mark h)
ok_mark h = mark_at h (ltb h 32768) refl

-- ---- policies
module _ {O : Type 0} (G : O → Type 0) (value : ℕ → Option O) (sound : (n : ℕ) → IfThere G (value n)) where
  denied_holds : {B : Type 0} {R : B → List ℕ → Type 0} (h v : ℕ) (k : Option O → Parsed B) → ((x : Option O) → IfThere G x → Holds R (k x)) → Holds R (denied_of value h v k)
  denied_holds zero v k f = if_holds (eqb v 0) 8 (k none) (λ e. f none tt)
  denied_holds (suc n) v k f = outcome_holds value G (value v) (λ o. k (some o)) (sound v) (λ o g. f (some o) g)

  -- ---- nodes 12 and 13
  abbrev OkD : ℕ → Decision O → List ℕ → Type 0
  OkD n d ws = FormD G Countable d × (words_d d + length ws ≡ n)

  ok_more12 : (n : ℕ) (o : O) (lab m : ℕ) (ws : List ℕ) → G o → n < 128 → Holds (OkD (2 + length ws)) (more12 value n o lab m ws)
  ok_more12 n o lab m ws g few =
      let made : Option ℕ → List ℕ → List ℕ → List ℕ → Parsed (Decision O) = λ l os fs us. got (permits (record { outcome = o; obligations = os; label = l; facts = fs })) us in
      then_holds (mark lab) (λ l _. counted m (next (read_list obligation obligation_bits n ws) (λ os vs. next (read_list listed entry_bits m vs) (made l os)))) (ok_mark lab) (λ l _ fl.
      if_holds (ltb m 4096) 8 (next (read_list obligation obligation_bits n ws) (λ os vs. next (read_list listed entry_bits m vs) (made l os))) (λ e.
      then_holds (read_list obligation obligation_bits n ws) (λ os vs. next (read_list listed entry_bits m vs) (made l os)) (read_obligations n ws) (λ os vs fo.
      then_holds (read_list listed entry_bits m vs) (made l os) (read_facts m vs) (λ fs us ff.
      let h : m < 4096 = ltb-true m 4096 e in
      let k : length os ≡ n = fo.long in
      let j : length fs ≡ m = ff.long in
      let u = fo.took_words in
      let v = ff.took_words in
      fine ((g, (omega arith, fo.below), fl, (omega arith, ff.below)), ap₂ (λ x y. 2 + words_for (per_word obligation_bits) x + words_for (per_word entry_bits) y + length us) k j ∙ omega arith)))))

  ok_12 : (r : ℕ) (ws : List ℕ) → Holds (OkD (suc (length ws))) (at12 value r ws)
  ok_12 r ws =
      let sh = r / 134217728 in
      let n = r / 1048576 % 128 in
      let more : O → ℕ → List ℕ → Parsed (Decision O) = λ o w vs. more12 value n o (w / 65536) (w % 65536) vs in
      if_holds (eqb sh 0) 8 (unless (eqb (r / 65536 % 16) 0) 8 (outcome_of value (value (r % 65536)) (λ o. another ws (more o)))) (λ _.
      if_holds (eqb (r / 65536 % 16) 0) 8 (outcome_of value (value (r % 65536)) (λ o. another ws (more o))) (λ _.
      outcome_holds value G (value (r % 65536)) (λ o. another ws (more o)) (sound (r % 65536)) (λ o g.
      another_holds ws (more o) (λ w vs e.
      let long = ap length e in
      weaker (more o w vs) (λ d us h. (h.0, h.1 ∙ omega arith)) (ok_more12 n o (w / 65536) (w % 65536) vs g (omega arith))))))

  ok_more13 : (sh : ℕ) (den : Option O) (lab rea : ℕ) (ws : List ℕ) → IfThere G den → Holds (OkD (2 + length ws)) (more13 value sh den lab rea ws)
  ok_more13 sh den lab rea ws g =
      let made : Option ℕ → Option ℕ → List ℕ → List ℕ → Parsed (Decision O) = λ l e fs us. got (denies (record { denied = den; facts = fs; label = l; reason = e; shape = shape_of sh })) us in
      then_holds (mark lab) (λ l _. next (mark rea) (λ e _. another ws (λ n vs. counted n (next (read_list listed entry_bits n vs) (made l e))))) (ok_mark lab) (λ l _ fl.
      then_holds (mark rea) (λ e _. another ws (λ n vs. counted n (next (read_list listed entry_bits n vs) (made l e)))) (ok_mark rea) (λ e _ fm.
      another_holds ws (λ n vs. counted n (next (read_list listed entry_bits n vs) (made l e))) (λ n vs more.
      let long = ap length more in
      if_holds (ltb n 4096) 8 (next (read_list listed entry_bits n vs) (made l e)) (λ fits.
      then_holds (read_list listed entry_bits n vs) (made l e) (read_facts n vs) (λ fs us ff.
      let h : n < 4096 = ltb-true n 4096 fits in
      let j : length fs ≡ n = ff.long in
      let v = ff.took_words in
      fine ((g, (omega arith, ff.below), fl, fm), ap (λ y. 3 + words_for (per_word entry_bits) y + length us) j ∙ omega arith))))))

  ok_13 : (r : ℕ) (ws : List ℕ) → Holds (OkD (suc (length ws))) (at13 value r ws)
  ok_13 r ws =
      let sh = r / 134217728 in
      let more : Option O → ℕ → List ℕ → Parsed (Decision O) = λ den w vs. more13 value sh den (w / 65536) (w % 65536) vs in
      if_holds (eqb (r / 65536 % 1024) 0) 8 (denied_of value (r / 67108864 % 2) (r % 65536) (λ den. another ws (more den))) (λ _.
      denied_holds (r / 67108864 % 2) (r % 65536) (λ den. another ws (more den)) (λ den g.
      another_holds ws (more den) (λ w vs e.
      let long = ap length e in
      weaker (more den w vs) (λ d us h. (h.0, h.1 ∙ omega arith)) (ok_more13 sh den (w / 65536) (w % 65536) vs g))))

  -- ---- trees
  -- What is asked of a grant's condition holds of one of at most m words.
  module _ (res : Bool) (B : Condition → Type 0) (m : ℕ) (bound : (c : Condition) → words_c c ≤ m → B c) where
    -- the form, the levels, the words there were
    abbrev OkT : ℕ → ℕ → Policy O → List ℕ → Type 0
    OkT d n t ws = FormOf G B Countable t × (depth t ≤ d) × (words t + length ws ≡ n) × SheetIf res t

    abbrev OkTs : ℕ → ℕ → ℕ → Policies O → List ℕ → Type 0
    OkTs d n k ts ws = FormsOf G B Countable ts × (depths ts ≤ d) × (wordss ts + length ws ≡ n) × (count ts ≡ k) × SheetsIf res ts

    ok_grant_more : (d : ℕ) (p : List ℕ → Parsed Condition) → ((ws : List ℕ) → Holds (OkC d (length ws)) (p ws)) → (sh n : ℕ) (o : O) (lab rea : ℕ) (ws : List ℕ) → G o → n ≤ most_obligations → length ws ≤ m
        → Holds (OkT (suc d) (suc (suc (length ws)))) (grant_more value p sh n o lab rea ws)
    ok_grant_more d p hp sh n o lab rea ws g few room =
        let made : Option ℕ → Option ℕ → List ℕ → Condition → List ℕ → Parsed (Policy O) = λ l e os c us. got (grant (record { outcome = o; obligations = os; label = l; reason = e; shape = shape_of sh }) c) us in
        then_holds (mark lab) (λ l _. next (mark rea) (λ e _. next (read_list obligation obligation_bits n ws) (λ os vs. next (p vs) (made l e os)))) (ok_mark lab) (λ l _ fl.
        then_holds (mark rea) (λ e _. next (read_list obligation obligation_bits n ws) (λ os vs. next (p vs) (made l e os))) (ok_mark rea) (λ e _ fm.
        then_holds (read_list obligation obligation_bits n ws) (λ os vs. next (p vs) (made l e os)) (read_obligations n ws) (λ os vs fo.
        then_holds (p vs) (made l e os) (hp vs) (λ c us fc.
        let k : length os ≡ n = fo.long in
        let u = fo.took_words in
        let v = fc.2 in
        fine (((g, (omega arith, fo.below), fl, fm), fc.0, bound c (omega arith)), omega arith, ap (λ x. 2 + words_for (per_word obligation_bits) x + words_c c + length us) k ∙ omega arith, sheet_if res (grant (record { outcome = o; obligations = os; label = l; reason = e; shape = shape_of sh }) c) tt)))))

    ok_grant : (d : ℕ) (p : List ℕ → Parsed Condition) → ((ws : List ℕ) → Holds (OkC d (length ws)) (p ws)) → (sh n z v : ℕ) (ws : List ℕ) → length ws ≤ m
        → Holds (OkT (suc d) (suc (length ws))) (parse_grant value p sh n z v ws)
    ok_grant d p hp sh n z v ws room =
        let more : O → ℕ → List ℕ → Parsed (Policy O) = λ o w vs. grant_more value p sh n o (w / 65536) (w % 65536) vs in
        if_holds (leb n most_obligations) 8 (unless (eqb z 0) 8 (outcome_of value (value v) (λ o. another ws (more o)))) (λ few.
        if_holds (eqb z 0) 8 (outcome_of value (value v) (λ o. another ws (more o))) (λ _.
        outcome_holds value G (value v) (λ o. another ws (more o)) (sound v) (λ o g.
        another_holds ws (more o) (λ w vs e.
        let long = ap length e in
        weaker (more o w vs) (λ t us h. (h.0, h.1, h.2 ∙ ap suc (sym long), h.3))
        (ok_grant_more d p hp sh n o (w / 65536) (w % 65536) vs g (leb-true n most_obligations few) (omega arith))))))

    module _ (d : ℕ) (p : List ℕ → Parsed (Policy O)) (hp : (ws : List ℕ) → length ws ≤ suc m → Holds (OkT d (length ws)) (p ws)) where
      many_t : (k : ℕ) (ws : List ℕ) → length ws ≤ suc m → Holds (OkTs d (length ws) k) (many pnil pcons p k ws)
      many_t zero ws room = fine (tt, omega arith, omega arith, omega arith, nil_if O res)
      many_t (suc k) ws room =
          then_holds (p ws) (λ a vs. next (many pnil pcons p k vs) (λ xs us. got (pcons a xs) us)) (hp ws room)
          (λ a vs h. then_holds (many pnil pcons p k vs) (λ xs us. got (pcons a xs) us) (many_t k vs (omega arith))
          (λ xs us g. fine ((h.0, g.0), omega arith, omega arith, omega arith, cons_if res a xs h.3 g.4)))

      stored_t : (b : Bool) (n : ℕ) (q : Parsed (Decision O)) → (b ≡ true → (t : Policy O) → SheetIf res t) → Holds (OkD n) q → Holds (OkT (suc d) n) (in_residual value b (as_stored value q))
      stored_t false n q f h = nothing
      stored_t true n q f h = then_holds q (λ e ws. got (stored e) ws) h (λ e ws k. fine (k.0, omega arith, k.1, f refl (stored e)))

      free_if : (b : Bool) → res ≡ b → b ≡ true → (t : Policy O) → SheetIf res t
      free_if b e f t = rw (e ∙ f) tt

      node_t : (pc : List ℕ → Parsed Condition) → ((ws : List ℕ) → Holds (OkC d (length ws)) (pc ws)) → (k r : ℕ) (ws : List ℕ) → length ws ≤ m
          → Holds (OkT (suc d) (suc (length ws))) (node_p value res pc p k r ws)
      node_t pc hc zero r ws room =
          if_holds (eqb (r / 65536) 0) 8 (outcome_of value (value (r % 65536)) (λ o. got (permit o) ws)) (λ _.
          outcome_holds value G (value (r % 65536)) (λ o. got (permit o) ws) (sound (r % 65536)) (λ o g. fine (g, omega arith, omega arith, sheet_if res (permit o) tt)))
      node_t pc hc (suc zero) r ws room = if_holds (eqb r 0) 8 (got deny ws) (λ _. fine (tt, omega arith, omega arith, sheet_if res deny tt))
      node_t pc hc (suc (suc zero)) r ws room = ok_grant d pc hc (r / 134217728) (r / 1048576 % 128) (r / 65536 % 16) (r % 65536) ws room
      node_t pc hc (suc (suc (suc zero))) r ws room =
          if_holds (ltb r 4096) 8 (next (many pnil pcons p r ws) (λ ts vs. got (all ts) vs)) (λ e.
          then_holds (many pnil pcons p r ws) (λ ts vs. got (all ts) vs) (many_t r ws (omega arith)) (λ ts vs h. fine ((omega (arith, ltb-true r 4096 e), h.0), omega arith, omega arith, all_if res ts h.4)))
      node_t pc hc (suc (suc (suc (suc zero)))) r ws room =
          if_holds (ltb r 4096) 8 (next (many pnil pcons p r ws) (λ ts vs. got (any ts) vs)) (λ e.
          then_holds (many pnil pcons p r ws) (λ ts vs. got (any ts) vs) (many_t r ws (omega arith)) (λ ts vs h. fine ((omega (arith, ltb-true r 4096 e), h.0), omega arith, omega arith, any_if res ts h.4)))
      node_t pc hc (suc (suc (suc (suc (suc zero))))) r ws room =
          if_holds (eqb r 0) 8 (next (p ws) (λ a vs. next (p vs) (λ b us. got (or_else a b) us))) (λ _.
          then_holds (p ws) (λ a vs. next (p vs) (λ b us. got (or_else a b) us)) (hp ws (omega arith)) (λ a vs h.
          then_holds (p vs) (λ b us. got (or_else a b) us) (hp vs (omega arith)) (λ b us g. fine ((h.0, g.0), omega arith, omega arith, else_if res a b h.3 g.3))))
      node_t pc hc (suc (suc (suc (suc (suc (suc zero)))))) r ws room = stored_t res (suc (length ws)) (at12 value r ws) (free_if res refl) (ok_12 r ws)
      node_t pc hc (suc (suc (suc (suc (suc (suc (suc zero))))))) r ws room = stored_t res (suc (length ws)) (at13 value r ws) (free_if res refl) (ok_13 r ws)
      node_t pc hc (suc (suc (suc (suc (suc (suc (suc (suc k)))))))) r ws room = nothing

    pub ok_t : (d : ℕ) (ws : List ℕ) → length ws ≤ suc m → Holds (OkT d (length ws)) (read_policy value res d ws)
    ok_t zero [] room = nothing
    ok_t zero (w ∷ ws) room = if_holds (leb 6 (kind_of w) && leb (kind_of w) (last_kind value res)) 5 (refuse 7) (λ _. nothing)
    ok_t (suc d) [] room = nothing
    ok_t (suc d) (w ∷ ws) room =
        if_holds (leb 6 (kind_of w)) 5 (node_p value res (λ vs. read_condition d vs) (λ vs. read_policy value res d vs) (kind_of w - 6) (rest_of w) ws) (λ _.
        node_t d (λ vs. read_policy value res d vs) (λ vs h. ok_t d vs h) (λ vs. read_condition d vs) (λ vs. ok_c d vs) (kind_of w - 6) (rest_of w) ws (omega arith))

  whole_holds : {A : Type 0} {Q R : A → List ℕ → Type 0} (q : Parsed A) → ((a : A) → Q a [] → R a []) → Holds Q q → Holds R (whole q)
  whole_holds (refuse n) f h = nothing
  whole_holds (got a []) f h = fine (f a h.it)
  whole_holds (got a (w ∷ ws)) f h = nothing

  -- A sheet has no node 12, so whatever is asked of one holds.
  mutual
    pub sheet_form : (B : Condition → Type 0) (R S : List ℕ → Type 0) (t : Policy O) → IsSheet t → FormOf G B R t → FormOf G B S t
    sheet_form B R S (permit o) s f = f
    sheet_form B R S deny s f = f
    sheet_form B R S (grant g c) s f = f
    sheet_form B R S (all ts) s f = (f.0, sheets_form B R S ts s f.1)
    sheet_form B R S (any ts) s f = (f.0, sheets_form B R S ts s f.1)
    sheet_form B R S (or_else a b) s f = (sheet_form B R S a s.0 f.0, sheet_form B R S b s.1 f.1)
    sheet_form B R S (stored d) s f = absurd s

    sheets_form : (B : Condition → Type 0) (R S : List ℕ → Type 0) (ts : Policies O) → AreSheets ts → FormsOf G B R ts → FormsOf G B S ts
    sheets_form B R S pnil s f = tt
    sheets_form B R S (pcons t ts) s f = (sheet_form B R S t s.0 f.0, sheets_form B R S ts s.1 f.1)

  -- A sheet that is read: of good form, nested at most 32 deep, with as many words as were given, at most 4,096.
  abbrev pub OkSheet : List ℕ → Policy O → List ℕ → Type 0
  OkSheet ws t vs = Form G t × (depth t ≤ 32) × (words t ≡ length ws) × IsSheet t × (words t ≤ 4096)

  pub ok_sheet : (ws : List ℕ) → Holds (OkSheet ws) (read_sheet value ws)
  ok_sheet ws =
      if_holds (leb 1 (length ws) && leb (length ws) 4096) 1 (whole (read_policy value false 32 ws)) (λ e.
      let room : length ws ≤ 4096 = leb-true (length ws) 4096 ((and-eq-true_iff (leb 1 (length ws)) (leb (length ws) 4096)).0 e).1 in
      whole_holds (read_policy value false 32 ws) (λ t h. (sheet_form Few Countable FewRepeats t h.3 h.0, h.1, omega arith, h.3, omega arith)) (ok_t false Few 4095 (λ c h. h) 32 ws room))

  -- ---- records
  -- A record that is read: a tree of good form, nested at most 32 deep, entries that name facts, and as many words as were given.
  pub record OkRecord (n : ℕ) (r : Record O) : Type 0 where
    pub form : FormOf G Free Countable (tree r)
    pub deep : depth (tree r) ≤ 32
    pub entries : Named r.log
    pub few : length r.log ≤ most_listed
    pub long : words_r r ≡ n

  abbrev OkB : ℕ → ReducedPolicy O → List ℕ → Type 0
  OkB n b ws = FormOf G Free Countable (as_residual b) × (depth (as_residual b) ≤ 32) × (words (as_residual b) + length ws ≡ n)

  ok_node14 : (k r : ℕ) (ws : List ℕ) → Holds (OkB (suc (length ws))) (node14 value k r ws)
  ok_node14 zero r ws = then_holds (at12 value r ws) (λ d vs. got (resolved d) vs) (ok_12 r ws) (λ d vs h. fine (h.0, omega arith, h.1))
  ok_node14 (suc zero) r ws = then_holds (at13 value r ws) (λ d vs. got (resolved d) vs) (ok_13 r ws) (λ d vs h. fine (h.0, omega arith, h.1))
  ok_node14 (suc (suc k)) r ws = nothing

  ok_14 : (ws : List ℕ) → Holds (OkB (length ws)) (parse14 value ws)
  ok_14 ws =
      another_holds ws (λ w vs. unless (leb 12 (kind_of w)) 5 (node14 value (kind_of w - 12) (rest_of w) vs)) (λ w vs e.
      let long = ap length e in
      if_holds (leb 12 (kind_of w)) 5 (node14 value (kind_of w - 12) (rest_of w) vs) (λ _.
      weaker (node14 value (kind_of w - 12) (rest_of w) vs) (λ b us h. (h.0, h.1, h.2 ∙ omega arith)) (ok_node14 (kind_of w - 12) (rest_of w) vs)))

  ok_15 : (ws : List ℕ) → Holds (OkB (length ws)) (parse15 value ws)
  ok_15 ws = then_holds (read_policy value true 32 ws) (λ t vs. got (pending t) vs) (ok_t true Free (length ws) (λ c h. tt) 32 ws (omega arith)) (λ t vs h. fine (h.0, h.1, h.2))

  ok_rest : (p : List ℕ → Parsed (ReducedPolicy O)) → ((ws : List ℕ) → Holds (OkB (length ws)) (p ws)) → (r : ℕ) (ws : List ℕ) → Holds (λ x vs. (vs ≡ [] → OkRecord (suc (length ws)) x)) (rest value p r ws)
  ok_rest p hp r ws =
      then_holds (read_list consulted entry_bits (r % 4096) ws) (λ es vs. next (p vs) (λ b us. got (record { body = b; log = es }) us)) (read_entries (r % 4096) ws) (λ es vs he.
      then_holds (p vs) (λ b us. got (record { body = b; log = es }) us) (hp vs) (λ b us hb.
      let n : length es ≡ r % 4096 = he.long in
      let u = he.took_words in
      let v = hb.2 in
      fine (λ none. record {
        form = hb.0;
        deep = hb.1;
        entries = he.named;
        few = omega arith;
        long = ap (λ x. 1 + words_for (per_word entry_bits) x + words (as_residual b)) n ∙ omega (arith, ap length none);
      })))

  ok_leads : (k r : ℕ) (ws : List ℕ) → Holds (λ x vs. (vs ≡ [] → OkRecord (suc (length ws)) x)) (leads value k r ws)
  ok_leads zero r ws = ok_rest (parse14 value) ok_14 r ws
  ok_leads (suc zero) r ws = ok_rest (parse15 value) ok_15 r ws
  ok_leads (suc (suc k)) r ws = nothing

  ok_lead : (ws : List ℕ) → Holds (λ x vs. (vs ≡ [] → OkRecord (length ws) x)) (read_lead value ws)
  ok_lead ws =
      another_holds ws (λ w vs. unless (leb 14 (kind_of w)) 5 (leads value (kind_of w - 14) (rest_of w) vs)) (λ w vs e.
      let long = ap length e in
      if_holds (leb 14 (kind_of w)) 5 (leads value (kind_of w - 14) (rest_of w) vs) (λ _.
      weaker (leads value (kind_of w - 14) (rest_of w) vs) (λ x us h none. subst (λ n. OkRecord n x) (sym long) (h none)) (ok_leads (kind_of w - 14) (rest_of w) vs)))

  pub ok_record : (ws : List ℕ) → Holds (λ r _. OkRecord (length ws) r) (read_record value ws)
  ok_record ws = if_holds (record_length ws) 1 (whole (read_lead value ws)) (λ _. whole_holds (read_lead value ws) (λ r h. h refl) (ok_lead ws))
