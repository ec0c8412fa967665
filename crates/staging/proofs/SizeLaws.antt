-- Nothing that comes of a sheet takes more than three times its words.
use Rattle.std.specs.Prelude.{◌≡◌, Bool, true, false, cond, List, [], ◌∷◌, ◌++◌, ℕ, ◌+◌, ◌*◌, ◌≤◌, length}
use Rattle.std.proofs.Common.{arith, length-append}
use Rattle.std.proofs.Math.Option.{Option, none, some}
use Rattle.model.specs.Facts.{Presence, absent, present, unknown, silent, Table}
use Rattle.model.specs.Outcome.{Outcomes}
use Rattle.model.specs.Condition.{Condition, always, never, has, not_c, all_c, any_c, Conditions, cnil, ccons, ConditionEval, satisfied, unsatisfied, eval_has, flip, both, either, unless_none, eval_condition, eval_condition_all, eval_condition_any}
use Rattle.model.specs.Decision.{Permit, Denial, Decision, permits, denies, combined, held, insert, union_obligations, meet_permit, join_permit, meet_in, join_in}
use Rattle.model.specs.Policy.{Grant, Policy, permit, deny, grant, all, any, or_else, stored, Policies, pnil, pcons}
use Rattle.model.specs.Evaluate.{eval_grant, first_of, first_deny, all_end, all_from, any_end, any_from, eval_policy, eval_policies}
use Rattle.model.specs.Partial.{ReducedCondition, known, pending_c, reduce_has, flip_r, ConditionWalk, stopped, through, step_all_c, step_any_c, end_all_c, end_any_c, reduce_condition, reduce_condition_all, reduce_condition_any, ReducedPolicy, resolved, pending, as_residual, arms, kept, AllWalk, stop, go, step_all, walked_all, AnyWalk, parts, step_any, walked_any, up_to_deny, in_order, reduce_grant, reduce_or_else, end_all, end_any, Order, permits_first, sheet_order, all_of, any_of, reduce_policy, reduce_arms}
use Rattle.laws.specs.Size.{quads, words_c, words_cs, words_p, words_n, words_d, words, wordss}
use Rattle.staging.proofs.Arms.{up_to_deny_lem, ends_in_order}

-- The bound: what a tree may grow to when it is reduced, narrowed or completed, however often.
abbrev mutual
  pub most : {O : Type 0} → Policy O → ℕ
  most (permit o) = 3
  most deny = 3
  most (grant g c) = 3 * (2 + quads g.obligations + words_c c)
  most (all ts) = 3 + mosts ts
  most (any ts) = 3 + mosts ts
  most (or_else a b) = 3 + most a + most b
  most (stored d) = words_d d

  pub mosts : {O : Type 0} → Policies O → ℕ
  mosts pnil = 0
  mosts (pcons t ts) = most t + mosts ts

-- A choice is bounded where both branches are.
pick_le : {A : Type 0} (f : A → ℕ) (n : ℕ) (b : Bool) (x y : A) → f x ≤ n → f y ≤ n → f (cond b x y) ≤ n
pick_le f n true x y h k = h
pick_le f n false x y h k = k

-- ---- conditions
abbrev pub facts_v : ConditionEval → List ℕ
facts_v (satisfied fs) = fs
facts_v (unsatisfied fs) = fs

facts_reading : (f : ℕ) (p : Presence) → length (facts_v (eval_has f p)) ≤ 1
facts_reading f absent = omega arith
facts_reading f present = omega arith
facts_reading f unknown = omega arith
facts_reading f silent = omega arith

facts_flip : (v : ConditionEval) (n : ℕ) → length (facts_v v) ≤ n → length (facts_v (flip v)) ≤ n
facts_flip (satisfied fs) n h = h
facts_flip (unsatisfied fs) n h = h

facts_both : (v w : ConditionEval) (m n : ℕ) → length (facts_v v) ≤ m → length (facts_v w) ≤ n → length (facts_v (both v w)) ≤ m + n
facts_both (unsatisfied fs) w m n h k = omega arith
facts_both (satisfied fs) (unsatisfied gs) m n h k = omega arith
facts_both (satisfied fs) (satisfied gs) m n h k = rw length-append (omega arith)

facts_either : (v w : ConditionEval) (m n : ℕ) → length (facts_v v) ≤ m → length (facts_v w) ≤ n → length (facts_v (either v w)) ≤ m + n
facts_either (satisfied fs) w m n h k = omega arith
facts_either (unsatisfied fs) (satisfied gs) m n h k = omega arith
facts_either (unsatisfied fs) (unsatisfied gs) m n h k = rw length-append (omega arith)

facts_none : (cs : Conditions) (v : ConditionEval) (n : ℕ) → length (facts_v v) ≤ n → length (facts_v (unless_none cs (unsatisfied []) v)) ≤ n
facts_none cnil v n h = omega arith
facts_none (ccons c cs) v n h = h

mutual
  -- A condition names no more facts than it has words.
  pub facts_le : (T : Table) (c : Condition) → length (facts_v (eval_condition T c)) ≤ words_c c
  facts_le T always = omega arith
  facts_le T never = omega arith
  facts_le T (has f) = facts_reading f (T f)
  facts_le T (not_c c) = let h = facts_flip (eval_condition T c) (words_c c) (facts_le T c) in omega arith
  facts_le T (all_c cs) = let h = facts_none cs (eval_condition_all T cs) (words_cs cs) (facts_all T cs) in omega arith
  facts_le T (any_c cs) = let h = facts_any T cs in omega arith

  facts_all : (T : Table) (cs : Conditions) → length (facts_v (eval_condition_all T cs)) ≤ words_cs cs
  facts_all T cnil = omega arith
  facts_all T (ccons c cs) = facts_both (eval_condition T c) (eval_condition_all T cs) (words_c c) (words_cs cs) (facts_le T c) (facts_all T cs)

  facts_any : (T : Table) (cs : Conditions) → length (facts_v (eval_condition_any T cs)) ≤ words_cs cs
  facts_any T cnil = omega arith
  facts_any T (ccons c cs) = facts_either (eval_condition T c) (eval_condition_any T cs) (words_c c) (words_cs cs) (facts_le T c) (facts_any T cs)

-- What a reduction leaves of a condition.
abbrev pub words_rc : ReducedCondition → ℕ
words_rc (known b) = 0
words_rc (pending_c c) = words_c c

abbrev words_w : ConditionWalk → ℕ
words_w stopped = 0
words_w (through cs) = words_cs cs

size_reduced : (f : ℕ) (p : Presence) → words_rc (reduce_has f p) ≤ 1
size_reduced f absent = omega arith
size_reduced f present = omega arith
size_reduced f unknown = omega arith
size_reduced f silent = omega arith

size_flip : (r : ReducedCondition) → words_rc (flip_r r) ≤ 1 + words_rc r
size_flip (known b) = omega arith
size_flip (pending_c c) = omega arith

size_step_all : (r : ReducedCondition) (w : ConditionWalk) → words_w (step_all_c r w) ≤ words_rc r + words_w w
size_step_all (known false) w = omega arith
size_step_all (known true) w = omega arith
size_step_all (pending_c c) stopped = omega arith
size_step_all (pending_c c) (through cs) = omega arith

size_step_any : (r : ReducedCondition) (w : ConditionWalk) → words_w (step_any_c r w) ≤ words_rc r + words_w w
size_step_any (known true) w = omega arith
size_step_any (known false) w = omega arith
size_step_any (pending_c c) stopped = omega arith
size_step_any (pending_c c) (through cs) = omega arith

size_end_all : (w : ConditionWalk) → words_rc (end_all_c w) ≤ 1 + words_w w
size_end_all stopped = omega arith
size_end_all (through cnil) = omega arith
size_end_all (through (ccons c cnil)) = omega arith
size_end_all (through (ccons c (ccons d cs))) = omega arith

size_end_any : (w : ConditionWalk) → words_rc (end_any_c w) ≤ 1 + words_w w
size_end_any stopped = omega arith
size_end_any (through cnil) = omega arith
size_end_any (through (ccons c cnil)) = omega arith
size_end_any (through (ccons c (ccons d cs))) = omega arith

size_none : (cs : Conditions) (r : ReducedCondition) (n : ℕ) → words_rc r ≤ n → words_rc (unless_none cs (known false) r) ≤ n
size_none cnil r n h = omega arith
size_none (ccons c cs) r n h = h

mutual
  pub size_red_c : (P : Table) (c : Condition) → words_rc (reduce_condition P c) ≤ words_c c
  size_red_c P always = omega arith
  size_red_c P never = omega arith
  size_red_c P (has f) = size_reduced f (P f)
  size_red_c P (not_c c) = omega (arith, size_flip (reduce_condition P c), size_red_c P c)
  size_red_c P (all_c cs) = size_none cs (end_all_c (reduce_condition_all P cs)) (1 + words_cs cs) (omega (arith, size_end_all (reduce_condition_all P cs), size_red_all_c P cs))
  size_red_c P (any_c cs) = omega (arith, size_end_any (reduce_condition_any P cs), size_red_any_c P cs)

  size_red_all_c : (P : Table) (cs : Conditions) → words_w (reduce_condition_all P cs) ≤ words_cs cs
  size_red_all_c P cnil = omega arith
  size_red_all_c P (ccons c cs) = omega (arith, size_step_all (reduce_condition P c) (reduce_condition_all P cs), size_red_c P c, size_red_all_c P cs)

  size_red_any_c : (P : Table) (cs : Conditions) → words_w (reduce_condition_any P cs) ≤ words_cs cs
  size_red_any_c P cnil = omega arith
  size_red_any_c P (ccons c cs) = omega (arith, size_step_any (reduce_condition P c) (reduce_condition_any P cs), size_red_c P c, size_red_any_c P cs)

-- ---- folds
insert_length : (os : List ℕ) (o : ℕ) → length (insert os o) ≤ 1 + length os
insert_length os o = pick_le length (1 + length os) (held o os) os (os ++ o ∷ []) (omega arith) (rw length-append (omega arith))

unite_length : (os ps : List ℕ) → length (union_obligations os ps) ≤ length os + length ps
unite_length os [] = omega arith
unite_length os (p ∷ ps) = omega (arith, unite_length (insert os p) ps, insert_length os p)

module _ (L : Outcomes) where
  meet_p_words : (p q : Permit L.O) → words_p (meet_permit L p q) ≤ words_p p + words_p q
  meet_p_words p q =
      let o = L.meet p.outcome q.outcome in
      pick_le words_p (words_p p + words_p q) (L.same o p.outcome) p (cond (L.same o q.outcome) q (combined o [])) (omega arith)
      (pick_le words_p (words_p p + words_p q) (L.same o q.outcome) q (combined o []) (omega arith) (omega arith))

  join_p_words : (p q : Permit L.O) → words_p (join_permit L p q) ≤ words_p p + words_p q
  join_p_words p q =
      let o = L.join p.outcome q.outcome in
      let os = union_obligations p.obligations q.obligations in
      let pw : Permit L.O = record { outcome = p.outcome; obligations = os; label = p.label; facts = p.facts } in
      let u = unite_length p.obligations q.obligations in
      pick_le words_p (words_p p + words_p q) (L.same o p.outcome) (cond (L.same o q.outcome) pw p) (cond (L.same o q.outcome) q (combined o os))
      (pick_le words_p (words_p p + words_p q) (L.same o q.outcome) pw p (omega arith) (omega arith))
      (pick_le words_p (words_p p + words_p q) (L.same o q.outcome) q (combined o os) (omega arith) (omega arith))

  abbrev words_o : Option (Permit L.O) → ℕ
  words_o none = 0
  words_o (some p) = words_p p

  abbrev words_no : Option (Denial L.O) → ℕ
  words_no none = 0
  words_no (some d) = words_n d

  abbrev words_ds : List (Decision L.O) → ℕ
  words_ds [] = 0
  words_ds (d ∷ ds) = words_d d + words_ds ds

  meet_in_words : (sofar : Option (Permit L.O)) (q : Permit L.O) → words_p (meet_in L sofar q) ≤ words_o sofar + words_p q
  meet_in_words none q = omega arith
  meet_in_words (some p) q = meet_p_words p q

  join_in_words : (sofar : Option (Permit L.O)) (q : Permit L.O) → words_p (join_in L sofar q) ≤ words_o sofar + words_p q
  join_in_words none q = omega arith
  join_in_words (some p) q = join_p_words p q

  all_end_words : (sofar : Option (Permit L.O)) → words_d (all_end L sofar) ≤ 3 + words_o sofar
  all_end_words none = omega arith
  all_end_words (some p) = omega arith

  all_from_words : (sofar : Option (Permit L.O)) (ds : List (Decision L.O)) → words_d (all_from L sofar ds) ≤ 3 + words_o sofar + words_ds ds
  all_from_words sofar [] = omega (arith, all_end_words sofar)
  all_from_words sofar (permits q ∷ ds) = omega (arith, all_from_words (some (meet_in L sofar q)) ds, meet_in_words sofar q)
  all_from_words sofar (denies d ∷ ds) = omega arith

  any_end_words : (sofar : Option (Permit L.O)) (first : Option (Denial L.O)) → words_d (any_end L sofar first) ≤ 3 + words_o sofar + words_no first
  any_end_words (some p) first = omega arith
  any_end_words none (some d) = omega arith
  any_end_words none none = omega arith

  first_deny_words : (first : Option (Denial L.O)) (d : Denial L.O) → words_n (first_deny first d) ≤ words_no first + words_n d
  first_deny_words none d = omega arith
  first_deny_words (some c) d = omega arith

  any_from_words : (sofar : Option (Permit L.O)) (first : Option (Denial L.O)) (ds : List (Decision L.O)) → words_d (any_from L sofar first ds) ≤ 3 + words_o sofar + words_no first + words_ds ds
  any_from_words sofar first [] = omega (arith, any_end_words sofar first)
  any_from_words sofar first (permits q ∷ ds) = omega (arith, any_from_words (some (join_in L sofar q)) first ds, join_in_words sofar q)
  any_from_words sofar first (denies d ∷ ds) = omega (arith, any_from_words sofar (some (first_deny first d)) ds, first_deny_words first d)

  decide_words : (g : Grant L.O) (v : ConditionEval) (n : ℕ) → length (facts_v v) ≤ n → words_d (eval_grant g v) ≤ 3 * (2 + quads g.obligations + n)
  decide_words g (satisfied fs) n h = omega arith
  decide_words g (unsatisfied fs) n h = omega arith

  first_of_words : (d e : Decision L.O) → words_d (first_of d e) ≤ words_d d + words_d e
  first_of_words (permits p) e = omega arith
  first_of_words (denies d) e = omega arith

  -- ---- evaluating
  mutual
    pub eval_words : (T : Table) (t : Policy L.O) → words_d (eval_policy L T t) ≤ most t
    eval_words T (permit o) = omega arith
    eval_words T deny = omega arith
    eval_words T (grant g c) = decide_words g (eval_condition T c) (words_c c) (facts_le T c)
    eval_words T (all ts) = omega (arith, all_from_words none (eval_policies L T ts), evals_words T ts)
    eval_words T (any ts) = omega (arith, any_from_words none none (eval_policies L T ts), evals_words T ts)
    eval_words T (or_else a b) = omega (arith, first_of_words (eval_policy L T a) (eval_policy L T b), eval_words T a, eval_words T b)
    eval_words T (stored d) = omega arith

    evals_words : (T : Table) (ts : Policies L.O) → words_ds (eval_policies L T ts) ≤ mosts ts
    evals_words T pnil = omega arith
    evals_words T (pcons t ts) = omega (arith, eval_words T t, evals_words T ts)

  -- ---- reducing
  abbrev words_ps : List (Permit L.O) → ℕ
  words_ps [] = 0
  words_ps (p ∷ ps) = words_p p + words_ps ps

  abbrev most_all : AllWalk L.O → ℕ
  most_all (stop d) = words_n d
  most_all (go ps qs) = words_ps ps + mosts qs

  abbrev most_any : AnyWalk L.O → ℕ
  most_any (parts ps first qs) = words_ps ps + words_no first + mosts qs

  arms_most : (ps : List (Permit L.O)) (qs : Policies L.O) → mosts (arms ps qs) ≡ words_ps ps + mosts qs
  arms_most [] qs = omega arith
  arms_most (p ∷ ps) qs = omega (arith, arms_most ps qs)

  kept_most : (ps : List (Permit L.O)) (first : Option (Denial L.O)) (qs : Policies L.O) → mosts (kept ps first qs) ≤ words_ps ps + words_no first + mosts qs
  kept_most [] none qs = omega arith
  kept_most [] (some d) qs = omega arith
  kept_most (p ∷ ps) first qs = omega (arith, arms_most ps qs)

  step_all_most : (r : ReducedPolicy L.O) (w : AllWalk L.O) → most_all (step_all r w) ≤ most (as_residual r) + most_all w
  step_all_most (resolved (denies d)) w = omega arith
  step_all_most (resolved (permits p)) (stop d) = omega arith
  step_all_most (resolved (permits p)) (go ps qs) = omega arith
  step_all_most (pending q) (stop d) = omega arith
  step_all_most (pending q) (go ps qs) = omega arith

  step_any_most : (r : ReducedPolicy L.O) (w : AnyWalk L.O) → most_any (step_any r w) ≤ most (as_residual r) + most_any w
  step_any_most (resolved (denies d)) (parts ps first qs) = omega arith
  step_any_most (resolved (permits p)) (parts ps first qs) = omega arith
  step_any_most (pending q) (parts ps first qs) = omega arith

  end_all_most : (T : Table) (w : AllWalk L.O) → most (as_residual (end_all L T w)) ≤ 3 + most_all w
  end_all_most T (stop d) = omega arith
  end_all_most T (go ps pnil) = omega (arith, eval_words T (all (arms ps pnil)), arms_most ps pnil)
  end_all_most T (go ps (pcons q qs)) = omega (arith, arms_most ps (pcons q qs))

  end_any_most : (T : Table) (w : AnyWalk L.O) → most (as_residual (end_any L T w)) ≤ 3 + most_any w
  end_any_most T (parts ps first pnil) = omega (arith, eval_words T (any (kept ps first pnil)), kept_most ps first pnil)
  end_any_most T (parts ps first (pcons q qs)) = omega (arith, kept_most ps first (pcons q qs))

  red_grant_most : (g : Grant L.O) (v : ConditionEval) (r : ReducedCondition) (n : ℕ) → length (facts_v v) ≤ n → words_rc r ≤ n → most (as_residual (reduce_grant g v r)) ≤ 3 * (2 + quads g.obligations + n)
  red_grant_most g v (known b) n h k = decide_words g v n h
  red_grant_most g v (pending_c c) n h k = omega arith

  red_else_most : (a b : ReducedPolicy L.O) → most (as_residual (reduce_or_else a b)) ≤ 3 + most (as_residual a) + most (as_residual b)
  red_else_most (resolved (permits p)) b = omega arith
  red_else_most (resolved (denies d)) b = omega arith
  red_else_most (pending a) b = omega arith

  -- Lists under either order: no more than their arms, and 3 for an empty one that resolves.
  walked_all_most : (rs : List (ReducedPolicy L.O)) → most_all (walked_all rs) ≤ mosts (in_order rs)
  walked_all_most [] = omega arith
  walked_all_most (r ∷ rs) = omega (arith, step_all_most r (walked_all rs), walked_all_most rs)

  walked_any_most : (rs : List (ReducedPolicy L.O)) → most_any (walked_any rs) ≤ mosts (in_order rs)
  walked_any_most [] = omega arith
  walked_any_most (r ∷ rs) = omega (arith, step_any_most r (walked_any rs), walked_any_most rs)

  up_to_deny_most : (rs : List (ReducedPolicy L.O)) → mosts (in_order (up_to_deny rs)) ≤ mosts (in_order rs)
  up_to_deny_most rs = up_to_deny_lem (λ ts us. mosts ts ≤ mosts us) (λ ts. omega arith) (λ t ts us h. omega arith) rs

  all_of_most : (o : Order) (T : Table) (rs : List (ReducedPolicy L.O)) → most (as_residual (all_of L o T rs)) ≤ 3 + mosts (in_order rs)
  all_of_most permits_first T rs = omega (arith, end_all_most T (walked_all rs), walked_all_most rs)
  all_of_most sheet_order T rs =
      let n = up_to_deny_most rs in
      ends_in_order L (λ t. most t ≤ 3 + mosts (in_order rs)) all T (up_to_deny rs) (omega arith) (omega (arith, eval_words T (all (in_order (up_to_deny rs)))))

  any_of_most : (o : Order) (T : Table) (rs : List (ReducedPolicy L.O)) → most (as_residual (any_of L o T rs)) ≤ 3 + mosts (in_order rs)
  any_of_most permits_first T rs = omega (arith, end_any_most T (walked_any rs), walked_any_most rs)
  any_of_most sheet_order T rs = ends_in_order L (λ t. most t ≤ 3 + mosts (in_order rs)) any T rs (omega arith) (omega (arith, eval_words T (any (in_order rs))))

  module _ (o : Order) (P : Table) where
    mutual
      pub red_most : (t : Policy L.O) → most (as_residual (reduce_policy L o P t)) ≤ most t
      red_most (permit x) = omega arith
      red_most deny = omega arith
      red_most (grant g c) = red_grant_most g (eval_condition P c) (reduce_condition P c) (words_c c) (facts_le P c) (size_red_c P c)
      red_most (all ts) = omega (arith, all_of_most o P (reduce_arms L o P ts), red_arms_most ts)
      red_most (any ts) = omega (arith, any_of_most o P (reduce_arms L o P ts), red_arms_most ts)
      red_most (or_else a b) = omega (arith, red_else_most (reduce_policy L o P a) (reduce_policy L o P b), red_most a, red_most b)
      red_most (stored d) = omega arith

      red_arms_most : (ts : Policies L.O) → mosts (in_order (reduce_arms L o P ts)) ≤ mosts ts
      red_arms_most pnil = omega arith
      red_arms_most (pcons t ts) = omega (arith, red_most t, red_arms_most ts)

-- ---- words and the bound
mutual
  pub words_most : {O : Type 0} (t : Policy O) → words t ≤ most t
  words_most (permit o) = omega arith
  words_most deny = omega arith
  words_most (grant g c) = omega arith
  words_most (all ts) = omega (arith, wordss_mosts ts)
  words_most (any ts) = omega (arith, wordss_mosts ts)
  words_most (or_else a b) = omega (arith, words_most a, words_most b)
  words_most (stored d) = omega arith

  wordss_mosts : {O : Type 0} (ts : Policies O) → wordss ts ≤ mosts ts
  wordss_mosts pnil = omega arith
  wordss_mosts (pcons t ts) = omega (arith, words_most t, wordss_mosts ts)

mutual
  pub most_words_lem : {O : Type 0} (t : Policy O) → most t ≤ 3 * words t
  most_words_lem (permit o) = omega arith
  most_words_lem deny = omega arith
  most_words_lem (grant g c) = omega arith
  most_words_lem (all ts) = omega (arith, mosts_wordss ts)
  most_words_lem (any ts) = omega (arith, mosts_wordss ts)
  most_words_lem (or_else a b) = omega (arith, most_words_lem a, most_words_lem b)
  most_words_lem (stored d) = omega arith

  mosts_wordss : {O : Type 0} (ts : Policies O) → mosts ts ≤ 3 * wordss ts
  mosts_wordss pnil = omega arith
  mosts_wordss (pcons t ts) = omega (arith, most_words_lem t, mosts_wordss ts)

-- What is left of a tree takes at most three times its words.
pub reduced_words : (L : Outcomes) (o : Order) (P : Table) (t : Policy L.O) → words (as_residual (reduce_policy L o P t)) ≤ 3 * words t
reduced_words L o P t = omega (arith, words_most (as_residual (reduce_policy L o P t)), red_most L o P t, most_words_lem t)
