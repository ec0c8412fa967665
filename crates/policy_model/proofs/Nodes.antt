-- The checks of what follows the first word of a Grant, a PermitWithTrace and a DenyWithTrace. Assumes nothing.
use Rattle.std.specs.Prelude as prelude
use Rattle.std.specs.Prelude.{Result, Ok, Err}
use Rattle.std.proofs.Common.{Fits, w32}
use mathlib.Core.Path.{◌≡◌, refl, sym, ◌∙◌, ap, subst}
use mathlib.Core.Bool.{Bool, true, false, cond, ◌&&◌, ◌||◌, or-false, or-true}
use mathlib.Core.Option.{Option, none, some}
use mathlib.Core.List.{List, []}
use Prim.Native.Nat.{ℕ, ◌+◌, ◌-◌, ◌/◌, ◌%◌, ◌≤◌, ◌<◌}
use native.Mathlib.Omega.{arith}
use borrow.Author.Tests.{ltb-true, ltb-false, lt-ltb, le-ltb, le-leb, lt-leb}
use lib.Dec.{eqb, ltb, leb}
use lib.ListN.{length, drop, get_or}
use Rattle.model.specs.Decision.{Decision, permits, denies}
use Rattle.model.specs.Policy.{Policy, grant}
use Rattle.model.specs.Writing.{obligation_bits, entry_bits}
use Rattle.model.specs.Reading.{Parsed, refuse, got, next, unless, another, read_list, obligation, listed, mark, shape_of, read_condition}
use Rattle.model.specs.Products.{Outcome, grant_more, more12, more13}
use Rattle.laws.specs.Size.{quads, pairs, words_c, words_d, words}
use Rattle.policy_model.specs.Answers.{checked}
use Rattle.policy_model.specs.Lists.{mark_fits, marks_fit, checked_marks}
use Rattle.policy_model.specs.declared.DenyShape.{DenyShape}
use Rattle.policy_model.specs.Heads.{bit_of, denied_by, grant_node, permit_trace_node, deny_trace_node}
use Rattle.policy_model.proofs.Checking.{word_at, no_word, go_on, give_up, end_with}
use Rattle.policy_model.proofs.Quads.{obligations_leave}
use Rattle.policy_model.proofs.Pairs.{Judged, judge_unless}

-- ---- a label or reason
mark_at : (h : ℕ) → h < 65536 → (b : Bool) → ltb h 32768 ≡ b →
    Judged {A = Option ℕ} (eqb h 0 || leb 32768 h) (cond b (unless (eqb h 0) 8 (got none [])) (unless (ltb h 65536) 8 (got (some (h - 32768)) [])))
mark_at h lt true e =
    subst (λ t. Judged {A = Option ℕ} t (unless (eqb h 0) 8 (got none [])))
    (sym (ap (λ t. eqb h 0 || t) (lt-leb 32768 h (ltb-true h 32768 e)) ∙ or-false (eqb h 0))) (judge_unless (eqb h 0) none [])
mark_at h lt false e =
    subst (λ t. Judged t (unless (ltb h 65536) 8 (got (some (h - 32768)) [])))
    (lt-ltb h 65536 lt ∙ sym (ap (λ t. eqb h 0 || t) (le-leb 32768 h (ltb-false h 32768 e)) ∙ or-true (eqb h 0))) (judge_unless (ltb h 65536) (some (h - 32768)) [])

judge_mark : (h : ℕ) → h < 65536 → Judged (mark_fits h) (mark h)
unfolding mark_fits
judge_mark h lt = mark_at h lt (ltb h 32768) refl

module _ {C : Type 0} (size : C → ℕ) (at : ℕ) (r : Result ℕ ℕ) where
  -- A test that was passed, and one that wasn't.
  judged_passes : {A : Type 0} (t : Bool) (q : Parsed A) (k : A → List ℕ → Parsed C) → Judged t q → t ≡ true → ((a : A) (ws : List ℕ) → r ≡ checked size at (k a ws)) → r ≡ checked size at (next q k)
  judged_passes true (got a ws) k j e f = f a ws
  judged_passes true (refuse n) k j e f = absurd j.it
  judged_passes false q k j e f = cc

  judged_fails : {A : Type 0} (t : Bool) (q : Parsed A) (k : A → List ℕ → Parsed C) → Judged t q → t ≡ false → r ≡ Err 8 → r ≡ checked size at (next q k)
  unfolding checked
  judged_fails true q k j e h = cc
  judged_fails false (got a ws) k j e h = absurd j.it
  judged_fails false (refuse n) k j e h = h ∙ ap Err (sym j.it)

  test_passes : (t : Bool) (n : ℕ) (q : Parsed C) → t ≡ true → r ≡ checked size at q → r ≡ checked size at (unless t n q)
  test_passes t n q e h = h ∙ ap (λ b. checked size at (unless b n q)) (sym e)

  test_fails : (t : Bool) (n : ℕ) (q : Parsed C) → t ≡ false → r ≡ Err n → r ≡ checked size at (unless t n q)
  unfolding checked
  test_fails t n q e h = h ∙ ap (λ b. checked size at (unless b n q)) (sym e)

  mark_passes : (h : ℕ) (k : Option ℕ → List ℕ → Parsed C) → h < 65536 → mark_fits h ≡ true → ((l : Option ℕ) (ws : List ℕ) → r ≡ checked size at (k l ws)) → r ≡ checked size at (next (mark h) k)
  mark_passes h k lt e f = judged_passes (mark_fits h) (mark h) k (judge_mark h lt) e f

  mark_fails : (h : ℕ) (k : Option ℕ → List ℕ → Parsed C) → h < 65536 → mark_fits h ≡ false → r ≡ Err 8 → r ≡ checked size at (next (mark h) k)
  mark_fails h k lt e f = judged_fails (mark_fits h) (mark h) k (judge_mark h lt) e f

  both_true : (t u : Bool) → (t && u) ≡ true → (t ≡ true) × (u ≡ true)
  both_true true u e = (refl, e)
  both_true false u e = (e, cc)

  -- A label and a reason in one word.
  marks_pass : (w : ℕ) (k : Option ℕ → Option ℕ → Parsed C) → w < 4294967296 → marks_fit w ≡ true → ((l m : Option ℕ) → r ≡ checked size at (k l m)) →
      r ≡ checked size at (next (mark (w / 65536)) (λ l _. next (mark (w % 65536)) (λ m _. k l m)))
  unfolding marks_fit
  marks_pass w k lt e f =
      let both = both_true (mark_fits (w / 65536)) (mark_fits (w % 65536)) e in
      mark_passes (w / 65536) (λ l _. next (mark (w % 65536)) (λ m _. k l m)) (omega arith) both.0 (λ l _.
      mark_passes (w % 65536) (λ m _. k l m) (omega arith) both.1 (λ m _. f l m))

  marks_at : (w : ℕ) (k : Option ℕ → Option ℕ → Parsed C) → w < 4294967296 → (t : Bool) → mark_fits (w / 65536) ≡ t → (t && mark_fits (w % 65536)) ≡ false → r ≡ Err 8 →
      r ≡ checked size at (next (mark (w / 65536)) (λ l _. next (mark (w % 65536)) (λ m _. k l m)))
  marks_at w k lt true g e h =
      mark_passes (w / 65536) (λ l _. next (mark (w % 65536)) (λ m _. k l m)) (omega arith) g (λ l _.
      mark_fails (w % 65536) (λ m _. k l m) (omega arith) e h)
  marks_at w k lt false g e h = mark_fails (w / 65536) (λ l _. next (mark (w % 65536)) (λ m _. k l m)) (omega arith) g h

  marks_fail : (w : ℕ) (k : Option ℕ → Option ℕ → Parsed C) → w < 4294967296 → marks_fit w ≡ false → r ≡ Err 8 →
      r ≡ checked size at (next (mark (w / 65536)) (λ l _. next (mark (w % 65536)) (λ m _. k l m)))
  unfolding marks_fit
  marks_fail w k lt e h = marks_at w k lt (mark_fits (w / 65536)) refl e h

  -- One more word, or none.
  pub word_there : (words : List ℕ) (from : ℕ) (k : ℕ → List ℕ → Parsed C) → from < length words → r ≡ checked size at (k (get_or words from 0) (drop (from + 1) words)) →
      r ≡ checked size at (another (drop from words) k)
  word_there words from k lt h = h ∙ ap (λ us. checked size at (another us k)) (sym (word_at words from lt))

  word_missing : (words : List ℕ) (from : ℕ) (k : ℕ → List ℕ → Parsed C) → length words ≤ from → r ≡ Err 6 → r ≡ checked size at (another (drop from words) k)
  unfolding checked
  word_missing words from k lt h = h ∙ ap (λ us. checked size at (another us k)) (sym (no_word words from lt))

-- What the check of a label and a reason found: the word is there and holds them, or they are refused as they are read.
module _ (ws : List ℕ) (at n : ℕ) where
  abbrev Marked : Type 0
  Marked = (at < length ws) × (marks_fit (get_or ws at 0) ≡ true) × (n ≡ at + 1)

  fit_by : at < length ws → (t : Bool) → marks_fit (get_or ws at 0) ≡ t → ◌≡◌ {A = Result ℕ ℕ} (Ok n) (cond t (Ok (at + 1)) (Err 8)) → Marked
  fit_by lt true f e = (lt, f, cc)
  fit_by lt false f e = absurd cc

  marked_by : (t : Bool) → ltb at (length ws) ≡ t → Ok n ≡ checked_marks at (drop at ws) → Marked
  unfolding checked_marks
  marked_by true h e =
      let lt = ltb-true at (length ws) h in
      fit_by lt (marks_fit (get_or ws at 0)) refl (e ∙ ap (checked_marks at) (word_at ws at lt))
  marked_by false h e =
      let wrong : ◌≡◌ {A = Result ℕ ℕ} (Ok n) (Err 6) = e ∙ ap (checked_marks at) (no_word ws at (ltb-false at (length ws) h)) in
      absurd cc

  pub marked : Ok n ≡ checked_marks at (drop at ws) → Marked
  marked e = marked_by (ltb at (length ws)) refl e

  module _ (asked : Result ℕ ℕ) (short : length ws ≤ at → Err 6 ≡ asked) (unfit : at < length ws → marks_fit (get_or ws at 0) ≡ false → Err 8 ≡ asked) where
    unfit_by : at < length ws → (t : Bool) → marks_fit (get_or ws at 0) ≡ t → ◌≡◌ {A = Result ℕ ℕ} (Err n) (cond t (Ok (at + 1)) (Err 8)) → Err n ≡ asked
    unfit_by lt true f e = absurd cc
    unfit_by lt false f e = e ∙ unfit lt f

    unmarked_by : (t : Bool) → ltb at (length ws) ≡ t → Err n ≡ checked_marks at (drop at ws) → Err n ≡ asked
    unfolding checked_marks
    unmarked_by true h e =
        let lt = ltb-true at (length ws) h in
        unfit_by lt (marks_fit (get_or ws at 0)) refl (e ∙ ap (checked_marks at) (word_at ws at lt))
    unmarked_by false h e =
        let ends = ltb-false at (length ws) h in
        e ∙ ap (checked_marks at) (no_word ws at ends) ∙ short ends

    pub unmarked : Err n ≡ checked_marks at (drop at ws) → Err n ≡ asked
    unmarked e = unmarked_by (ltb at (length ws)) refl e

-- A word after the first one has 32 bits.
second_fits : (ws : List ℕ) (at : ℕ) → ((i : ℕ) → Fits w32 (get_or ws i 0)) → get_or ws (at + 1) 0 < 4294967296
second_fits ws at of_32 = omega (arith, of_32 (at + 1))

-- ---- Grant
module _ (ws : List ℕ) (at depth n : ℕ) (shape : DenyShape) (o : ℕ) where
  abbrev pub GrantAt : Result ℕ ℕ
  GrantAt = checked words at (grant_node (read_condition depth) shape n o (drop (at + 1) ws))

  pub grant_short : length ws ≤ at + 1 → Err 6 ≡ GrantAt
  unfolding grant_node
  grant_short lt = word_missing words at (Err 6) ws (at + 1) (λ w vs. grant_more (read_condition depth) (bit_of shape) n o (w / 65536) (w % 65536) vs) lt refl

  module _ (lt : at + 1 < length ws) (of_32 : (i : ℕ) → Fits w32 (get_or ws i 0)) where
    abbrev more : Option ℕ → Option ℕ → Parsed (Policy Outcome)
    more l m =
        next (read_list obligation obligation_bits n (drop (at + 1 + 1) ws)) (λ os vs.
        next (read_condition depth vs) (λ c us. got (grant (record { outcome = o; obligations = os; label = l; reason = m; shape = shape_of (bit_of shape) }) c) us))

    pub grant_marks : marks_fit (get_or ws (at + 1) 0) ≡ false → Err 8 ≡ GrantAt
    unfolding grant_node
    grant_marks e =
        word_there words at (Err 8) ws (at + 1) (λ w vs. grant_more (read_condition depth) (bit_of shape) n o (w / 65536) (w % 65536) vs) lt
        (marks_fail words at (Err 8) (get_or ws (at + 1) 0) more (second_fits ws at of_32) e refl)

    then_list : (r : Result ℕ ℕ) → marks_fit (get_or ws (at + 1) 0) ≡ true → ((l m : Option ℕ) → r ≡ checked words at (more l m)) → r ≡ GrantAt
    unfolding grant_node
    then_list r e f =
        word_there words at r ws (at + 1) (λ w vs. grant_more (read_condition depth) (bit_of shape) n o (w / 65536) (w % 65536) vs) lt
        (marks_pass words at r (get_or ws (at + 1) 0) more (second_fits ws at of_32) e f)

    pub grant_refused : (number : ℕ) → marks_fit (get_or ws (at + 1) 0) ≡ true → Err number ≡ checked quads (at + 1 + 1) (read_list obligation obligation_bits n (drop (at + 1 + 1) ws)) → Err number ≡ GrantAt
    grant_refused number e g = then_list (Err number) e (λ l m. give_up quads words ws (at + 1 + 1) at number (read_list obligation obligation_bits n (drop (at + 1 + 1) ws)) (λ os vs. next (read_condition depth vs) (λ c us. got (grant (record { outcome = o; obligations = os; label = l; reason = m; shape = shape_of (bit_of shape) }) c) us)) g)

    pub grant_goes_on : (r : Result ℕ ℕ) (after : ℕ) → marks_fit (get_or ws (at + 1) 0) ≡ true → Ok after ≡ checked quads (at + 1 + 1) (read_list obligation obligation_bits n (drop (at + 1 + 1) ws)) →
        r ≡ checked words_c after (read_condition depth (drop after ws)) → r ≡ GrantAt
    grant_goes_on r after e g h =
        then_list r e (λ l m.
        go_on quads words ws (at + 1 + 1) at after (read_list obligation obligation_bits n (drop (at + 1 + 1) ws)) (λ os vs. next (read_condition depth vs) (λ c us. got (grant (record { outcome = o; obligations = os; label = l; reason = m; shape = shape_of (bit_of shape) }) c) us)) r
        (obligations_leave n (drop (at + 1 + 1) ws)) g (λ os ends.
        h ∙ end_with words_c words after at (λ c. grant (record { outcome = o; obligations = os; label = l; reason = m; shape = shape_of (bit_of shape) }) c) (read_condition depth (drop after ws)) (λ c. omega arith)))

-- ---- PermitWithTrace
module _ (ws : List ℕ) (at n o : ℕ) where
  abbrev pub PermitAt : Result ℕ ℕ
  PermitAt = checked words_d at (permit_trace_node n o (drop (at + 1) ws))

  abbrev w₂ : ℕ
  w₂ = get_or ws (at + 1) 0

  abbrev permit_list : Option ℕ → List ℕ → List ℕ → Parsed (Decision Outcome)
  permit_list l os vs = next (read_list listed entry_bits (w₂ % 65536) vs) (λ fs us. got (permits (record { outcome = o; obligations = os; label = l; facts = fs })) us)

  abbrev permit_more : Option ℕ → Parsed (Decision Outcome)
  permit_more l = next (read_list obligation obligation_bits n (drop (at + 1 + 1) ws)) (permit_list l)

  pub permit_short : length ws ≤ at + 1 → Err 6 ≡ PermitAt
  unfolding permit_trace_node
  permit_short lt = word_missing words_d at (Err 6) ws (at + 1) (λ w vs. more12 n o (w / 65536) (w % 65536) vs) lt refl

  module _ (lt : at + 1 < length ws) (of_32 : (i : ℕ) → Fits w32 (get_or ws i 0)) where
    pub permit_mark : mark_fits (w₂ / 65536) ≡ false → Err 8 ≡ PermitAt
    unfolding permit_trace_node
    permit_mark e =
        word_there words_d at (Err 8) ws (at + 1) (λ w vs. more12 n o (w / 65536) (w % 65536) vs) lt
        (mark_fails words_d at (Err 8) (w₂ / 65536) (λ l _. unless (ltb (w₂ % 65536) 4096) 8 (permit_more l)) (omega (arith, second_fits ws at of_32)) e refl)

    permit_marked : (r : Result ℕ ℕ) → mark_fits (w₂ / 65536) ≡ true → ((l : Option ℕ) → r ≡ checked words_d at (unless (ltb (w₂ % 65536) 4096) 8 (permit_more l))) → r ≡ PermitAt
    unfolding permit_trace_node
    permit_marked r e f =
        word_there words_d at r ws (at + 1) (λ w vs. more12 n o (w / 65536) (w % 65536) vs) lt
        (mark_passes words_d at r (w₂ / 65536) (λ l _. unless (ltb (w₂ % 65536) 4096) 8 (permit_more l)) (omega (arith, second_fits ws at of_32)) e (λ l _. f l))

    pub permit_count : mark_fits (w₂ / 65536) ≡ true → 4096 ≤ w₂ % 65536 → Err 8 ≡ PermitAt
    permit_count e h = permit_marked (Err 8) e (λ l. test_fails words_d at (Err 8) (ltb (w₂ % 65536) 4096) 8 (permit_more l) (le-ltb (w₂ % 65536) 4096 h) refl)

    permit_counted : (r : Result ℕ ℕ) → mark_fits (w₂ / 65536) ≡ true → w₂ % 65536 < 4096 → ((l : Option ℕ) → r ≡ checked words_d at (permit_more l)) → r ≡ PermitAt
    permit_counted r e h f = permit_marked r e (λ l. test_passes words_d at r (ltb (w₂ % 65536) 4096) 8 (permit_more l) (lt-ltb (w₂ % 65536) 4096 h) (f l))

    pub permit_refused : (number : ℕ) → mark_fits (w₂ / 65536) ≡ true → w₂ % 65536 < 4096 →
        Err number ≡ checked quads (at + 1 + 1) (read_list obligation obligation_bits n (drop (at + 1 + 1) ws)) → Err number ≡ PermitAt
    permit_refused number e h g =
        permit_counted (Err number) e h (λ l. give_up quads words_d ws (at + 1 + 1) at number (read_list obligation obligation_bits n (drop (at + 1 + 1) ws)) (permit_list l) g)

    pub permit_goes_on : (r : Result ℕ ℕ) (after : ℕ) → mark_fits (w₂ / 65536) ≡ true → w₂ % 65536 < 4096 →
        Ok after ≡ checked quads (at + 1 + 1) (read_list obligation obligation_bits n (drop (at + 1 + 1) ws)) →
        r ≡ checked pairs after (read_list listed entry_bits (w₂ % 65536) (drop after ws)) → r ≡ PermitAt
    permit_goes_on r after e h g f =
        permit_counted r e h (λ l.
        go_on quads words_d ws (at + 1 + 1) at after (read_list obligation obligation_bits n (drop (at + 1 + 1) ws)) (permit_list l) r (obligations_leave n (drop (at + 1 + 1) ws)) g (λ os ends.
        f ∙ end_with pairs words_d after at (λ fs. permits (record { outcome = o; obligations = os; label = l; facts = fs })) (read_list listed entry_bits (w₂ % 65536) (drop after ws)) (λ fs. omega arith)))

-- ---- DenyWithTrace
module _ (ws : List ℕ) (at : ℕ) (shape : DenyShape) (denied : prelude.Option ℕ) where
  abbrev pub DenyAt : Result ℕ ℕ
  DenyAt = checked words_d at (deny_trace_node shape denied (drop (at + 1) ws))

  abbrev denial : Option ℕ → Option ℕ → List ℕ → Decision Outcome
  denial l m fs = denies (record { denied = denied_by denied; facts = fs; label = l; reason = m; shape = shape_of (bit_of shape) })

  abbrev deny_list : Option ℕ → Option ℕ → ℕ → List ℕ → Parsed (Decision Outcome)
  deny_list l m n vs = unless (ltb n 4096) 8 (next (read_list listed entry_bits n vs) (λ fs us. got (denial l m fs) us))

  abbrev deny_more : Option ℕ → Option ℕ → Parsed (Decision Outcome)
  deny_more l m = another (drop (at + 1 + 1) ws) (deny_list l m)

  abbrev u₂ : ℕ
  u₂ = get_or ws (at + 1) 0

  abbrev u₃ : ℕ
  u₃ = get_or ws (at + 1 + 1) 0

  pub deny_short : length ws ≤ at + 1 → Err 6 ≡ DenyAt
  unfolding deny_trace_node
  deny_short lt = word_missing words_d at (Err 6) ws (at + 1) (λ w vs. more13 (bit_of shape) (denied_by denied) (w / 65536) (w % 65536) vs) lt refl

  module _ (lt : at + 1 < length ws) (of_32 : (i : ℕ) → Fits w32 (get_or ws i 0)) where
    pub deny_marks : marks_fit u₂ ≡ false → Err 8 ≡ DenyAt
    unfolding deny_trace_node
    deny_marks e =
        word_there words_d at (Err 8) ws (at + 1) (λ w vs. more13 (bit_of shape) (denied_by denied) (w / 65536) (w % 65536) vs) lt
        (marks_fail words_d at (Err 8) u₂ deny_more (second_fits ws at of_32) e refl)

    deny_marked : (r : Result ℕ ℕ) → marks_fit u₂ ≡ true → ((l m : Option ℕ) → r ≡ checked words_d at (deny_more l m)) → r ≡ DenyAt
    unfolding deny_trace_node
    deny_marked r e f =
        word_there words_d at r ws (at + 1) (λ w vs. more13 (bit_of shape) (denied_by denied) (w / 65536) (w % 65536) vs) lt
        (marks_pass words_d at r u₂ deny_more (second_fits ws at of_32) e f)

    pub deny_short_third : marks_fit u₂ ≡ true → length ws ≤ at + 1 + 1 → Err 6 ≡ DenyAt
    deny_short_third e h = deny_marked (Err 6) e (λ l m. word_missing words_d at (Err 6) ws (at + 1 + 1) (deny_list l m) h refl)

    pub deny_count : marks_fit u₂ ≡ true → at + 1 + 1 < length ws → 4096 ≤ u₃ → Err 8 ≡ DenyAt
    deny_count e h g =
        deny_marked (Err 8) e (λ l m. word_there words_d at (Err 8) ws (at + 1 + 1) (deny_list l m) h
        (test_fails words_d at (Err 8) (ltb u₃ 4096) 8 (next (read_list listed entry_bits u₃ (drop (at + 1 + 1 + 1) ws)) (λ fs us. got (denial l m fs) us)) (le-ltb u₃ 4096 g) refl))

    pub deny_facts : (r : Result ℕ ℕ) → marks_fit u₂ ≡ true → at + 1 + 1 < length ws → u₃ < 4096 → r ≡ checked pairs (at + 1 + 1 + 1) (read_list listed entry_bits u₃ (drop (at + 1 + 1 + 1) ws)) → r ≡ DenyAt
    deny_facts r e h g f =
        deny_marked r e (λ l m. word_there words_d at r ws (at + 1 + 1) (deny_list l m) h
        (test_passes words_d at r (ltb u₃ 4096) 8 (next (read_list listed entry_bits u₃ (drop (at + 1 + 1 + 1) ws)) (λ fs us. got (denial l m fs) us)) (lt-ltb u₃ 4096 g)
        (f ∙ end_with pairs words_d (at + 1 + 1 + 1) at (λ fs. denial l m fs) (read_list listed entry_bits u₃ (drop (at + 1 + 1 + 1) ws)) (λ fs. omega arith))))
