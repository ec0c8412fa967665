-- What is reduced, narrowed or completed from a tree of good form is of good form, and no deeper.
use Rattle.std.specs.Prelude.{◌≡◌, refl, Bool, true, false, cond, List, [], ◌∷◌, ℕ, ◌+◌, ◌≤◌, ◌<◌, max, length}
use Rattle.std.proofs.Common.{arith}
use Rattle.std.proofs.Math.Option.{Option, none, some}
use Rattle.model.specs.Facts.{Presence, absent, present, unknown, silent, Table}
use Rattle.model.specs.Outcome.{Outcomes}
use Rattle.model.specs.Condition.{Condition, always, never, has, not_c, all_c, any_c, Conditions, cnil, ccons, ConditionEval, satisfied, unsatisfied, eval_has, flip, both, either, unless_none, eval_condition, eval_condition_all, eval_condition_any}
use Rattle.model.specs.Decision.{Permit, Denial, Decision, permits, denies, combined, generic_deny, union_obligations, meet_permit, join_permit, meet_in, join_in}
use Rattle.model.specs.Policy.{Grant, Policy, permit, deny, grant, all, any, or_else, stored, Policies, pnil, pcons}
use Rattle.model.specs.Evaluate.{eval_grant, first_of, first_deny, all_end, all_from, any_end, any_from, eval_policy, eval_policies}
use Rattle.model.specs.Partial.{ReducedCondition, known, pending_c, reduce_has, flip_r, ConditionWalk, stopped, through, step_all_c, step_any_c, end_all_c, end_any_c, reduce_condition, reduce_condition_all, reduce_condition_any, ReducedPolicy, resolved, pending, as_residual, arms, kept, AllWalk, stop, go, step_all, walked_all, AnyWalk, parts, step_any, walked_any, up_to_deny, in_order, reduce_grant, reduce_or_else, end_all, end_any, Order, permits_first, sheet_order, all_of, any_of, reduce_policy, reduce_arms}
use Rattle.model.specs.Writing.{count_c, count}
use Rattle.model.specs.Reading.{obligation_count, most_obligations}
use Rattle.laws.specs.Lists.{Below}
use Rattle.laws.proofs.ListLaws.{every_append, unite_every, unite_repeats, repeats_few}
use Rattle.laws.specs.Size.{words_c}
use Rattle.laws.specs.Form.{FormC, FormCs, IfThere, FormF, FormO, FewRepeats, FormP, FormN, FormD, FormG, Form, Forms, depth_c, depth_cs, depth, depths}
use Rattle.staging.proofs.Arms.{up_to_deny_lem, ends_in_order}
use Rattle.staging.proofs.SizeLaws.{facts_v, facts_le, words_rc, size_red_c}

-- A choice has what both branches have.
pick_has : {A : Type 0} (Q : A → Type 0) (b : Bool) (x y : A) → Q x → Q y → Q (cond b x y)
pick_has Q true x y h k = h
pick_has Q false x y h k = k

-- ---- the facts that a condition names
small_reading : (f : ℕ) (p : Presence) → f < 1024 → Below 1024 (facts_v (eval_has f p))
small_reading f absent h = (h, tt)
small_reading f present h = (h, tt)
small_reading f unknown h = (h, tt)
small_reading f silent h = (h, tt)

small_flip : (v : ConditionEval) → Below 1024 (facts_v v) → Below 1024 (facts_v (flip v))
small_flip (satisfied fs) h = h
small_flip (unsatisfied fs) h = h

small_both : (v w : ConditionEval) → Below 1024 (facts_v v) → Below 1024 (facts_v w) → Below 1024 (facts_v (both v w))
small_both (unsatisfied fs) w h k = h
small_both (satisfied fs) (unsatisfied gs) h k = k
small_both (satisfied fs) (satisfied gs) h k = every_append (λ o. o < 1024) fs gs h k

small_either : (v w : ConditionEval) → Below 1024 (facts_v v) → Below 1024 (facts_v w) → Below 1024 (facts_v (either v w))
small_either (satisfied fs) w h k = h
small_either (unsatisfied fs) (satisfied gs) h k = k
small_either (unsatisfied fs) (unsatisfied gs) h k = every_append (λ o. o < 1024) fs gs h k

small_none : (cs : Conditions) (v : ConditionEval) → Below 1024 (facts_v v) → Below 1024 (facts_v (unless_none cs (unsatisfied []) v))
small_none cnil v h = tt
small_none (ccons c cs) v h = h

mutual
  small_facts : (T : Table) (c : Condition) → FormC c → Below 1024 (facts_v (eval_condition T c))
  small_facts T always h = tt
  small_facts T never h = tt
  small_facts T (has f) h = small_reading f (T f) h
  small_facts T (not_c c) h = small_flip (eval_condition T c) (small_facts T c h)
  small_facts T (all_c cs) h = small_none cs (eval_condition_all T cs) (small_all T cs h.1)
  small_facts T (any_c cs) h = small_any T cs h.1

  small_all : (T : Table) (cs : Conditions) → FormCs cs → Below 1024 (facts_v (eval_condition_all T cs))
  small_all T cnil h = tt
  small_all T (ccons c cs) h = small_both (eval_condition T c) (eval_condition_all T cs) (small_facts T c h.0) (small_all T cs h.1)

  small_any : (T : Table) (cs : Conditions) → FormCs cs → Below 1024 (facts_v (eval_condition_any T cs))
  small_any T cnil h = tt
  small_any T (ccons c cs) h = small_either (eval_condition T c) (eval_condition_any T cs) (small_facts T c h.0) (small_any T cs h.1)

-- ---- what is left of a condition
abbrev FormR : ReducedCondition → Type 0
FormR (known b) = Unit {0}
FormR (pending_c c) = FormC c

abbrev FormW : ConditionWalk → Type 0
FormW stopped = Unit {0}
FormW (through cs) = FormCs cs

abbrev count_w : ConditionWalk → ℕ
count_w stopped = 0
count_w (through cs) = count_c cs

form_reduced : (f : ℕ) (p : Presence) → f < 1024 → FormR (reduce_has f p)
form_reduced f absent h = tt
form_reduced f present h = tt
form_reduced f unknown h = h
form_reduced f silent h = tt

form_flip : (r : ReducedCondition) → FormR r → FormR (flip_r r)
form_flip (known b) h = tt
form_flip (pending_c c) h = h

form_step_all_c : (r : ReducedCondition) (w : ConditionWalk) → FormR r → FormW w → FormW (step_all_c r w)
form_step_all_c (known false) w h k = tt
form_step_all_c (known true) w h k = k
form_step_all_c (pending_c c) stopped h k = tt
form_step_all_c (pending_c c) (through cs) h k = (h, k)

form_step_any_c : (r : ReducedCondition) (w : ConditionWalk) → FormR r → FormW w → FormW (step_any_c r w)
form_step_any_c (known true) w h k = tt
form_step_any_c (known false) w h k = k
form_step_any_c (pending_c c) stopped h k = tt
form_step_any_c (pending_c c) (through cs) h k = (h, k)

count_step_all_c : (r : ReducedCondition) (w : ConditionWalk) → count_w (step_all_c r w) ≤ 1 + count_w w
count_step_all_c (known false) w = omega arith
count_step_all_c (known true) w = omega arith
count_step_all_c (pending_c c) stopped = omega arith
count_step_all_c (pending_c c) (through cs) = omega arith

count_step_any_c : (r : ReducedCondition) (w : ConditionWalk) → count_w (step_any_c r w) ≤ 1 + count_w w
count_step_any_c (known true) w = omega arith
count_step_any_c (known false) w = omega arith
count_step_any_c (pending_c c) stopped = omega arith
count_step_any_c (pending_c c) (through cs) = omega arith

count_red_all_c : (P : Table) (cs : Conditions) → count_w (reduce_condition_all P cs) ≤ count_c cs
count_red_all_c P cnil = omega arith
count_red_all_c P (ccons c cs) = omega (arith, count_step_all_c (reduce_condition P c) (reduce_condition_all P cs), count_red_all_c P cs)

count_red_any_c : (P : Table) (cs : Conditions) → count_w (reduce_condition_any P cs) ≤ count_c cs
count_red_any_c P cnil = omega arith
count_red_any_c P (ccons c cs) = omega (arith, count_step_any_c (reduce_condition P c) (reduce_condition_any P cs), count_red_any_c P cs)

form_end_all_c : (w : ConditionWalk) → count_w w ≤ 4095 → FormW w → FormR (end_all_c w)
form_end_all_c stopped n h = tt
form_end_all_c (through cnil) n h = tt
form_end_all_c (through (ccons c cnil)) n h = h.0
form_end_all_c (through (ccons c (ccons d cs))) n h = (n, h)

form_end_any_c : (w : ConditionWalk) → count_w w ≤ 4095 → FormW w → FormR (end_any_c w)
form_end_any_c stopped n h = tt
form_end_any_c (through cnil) n h = tt
form_end_any_c (through (ccons c cnil)) n h = h.0
form_end_any_c (through (ccons c (ccons d cs))) n h = (n, h)

form_none : (cs : Conditions) (r : ReducedCondition) → FormR r → FormR (unless_none cs (known false) r)
form_none cnil r h = tt
form_none (ccons c cs) r h = h

module _ (P : Table) where
  mutual
    form_red_c : (c : Condition) → FormC c → FormR (reduce_condition P c)
    form_red_c always h = tt
    form_red_c never h = tt
    form_red_c (has f) h = form_reduced f (P f) h
    form_red_c (not_c c) h = form_flip (reduce_condition P c) (form_red_c c h)
    form_red_c (all_c cs) h =
        form_none cs (end_all_c (reduce_condition_all P cs)) (form_end_all_c (reduce_condition_all P cs) (omega (arith, count_red_all_c P cs, h.0)) (form_red_all_c cs h.1))
    form_red_c (any_c cs) h = form_end_any_c (reduce_condition_any P cs) (omega (arith, count_red_any_c P cs, h.0)) (form_red_any_c cs h.1)

    form_red_all_c : (cs : Conditions) → FormCs cs → FormW (reduce_condition_all P cs)
    form_red_all_c cnil h = tt
    form_red_all_c (ccons c cs) h = form_step_all_c (reduce_condition P c) (reduce_condition_all P cs) (form_red_c c h.0) (form_red_all_c cs h.1)

    form_red_any_c : (cs : Conditions) → FormCs cs → FormW (reduce_condition_any P cs)
    form_red_any_c cnil h = tt
    form_red_any_c (ccons c cs) h = form_step_any_c (reduce_condition P c) (reduce_condition_any P cs) (form_red_c c h.0) (form_red_any_c cs h.1)

-- ---- nesting of what is left of a condition
abbrev depth_r : ReducedCondition → ℕ
depth_r (known b) = 1
depth_r (pending_c c) = depth_c c

abbrev depth_w : ConditionWalk → ℕ
depth_w stopped = 0
depth_w (through cs) = depth_cs cs

depth_reduced : (f : ℕ) (p : Presence) → depth_r (reduce_has f p) ≤ 1
depth_reduced f absent = omega arith
depth_reduced f present = omega arith
depth_reduced f unknown = omega arith
depth_reduced f silent = omega arith

depth_flip : (r : ReducedCondition) → depth_r (flip_r r) ≤ 1 + depth_r r
depth_flip (known b) = omega arith
depth_flip (pending_c c) = omega arith

depth_step_all_c : (r : ReducedCondition) (w : ConditionWalk) → depth_w (step_all_c r w) ≤ max (depth_r r) (depth_w w)
depth_step_all_c (known false) w = omega arith
depth_step_all_c (known true) w = omega arith
depth_step_all_c (pending_c c) stopped = omega arith
depth_step_all_c (pending_c c) (through cs) = omega arith

depth_step_any_c : (r : ReducedCondition) (w : ConditionWalk) → depth_w (step_any_c r w) ≤ max (depth_r r) (depth_w w)
depth_step_any_c (known true) w = omega arith
depth_step_any_c (known false) w = omega arith
depth_step_any_c (pending_c c) stopped = omega arith
depth_step_any_c (pending_c c) (through cs) = omega arith

depth_end_all_c : (w : ConditionWalk) → depth_r (end_all_c w) ≤ 1 + depth_w w
depth_end_all_c stopped = omega arith
depth_end_all_c (through cnil) = omega arith
depth_end_all_c (through (ccons c cnil)) = omega arith
depth_end_all_c (through (ccons c (ccons d cs))) = omega arith

depth_end_any_c : (w : ConditionWalk) → depth_r (end_any_c w) ≤ 1 + depth_w w
depth_end_any_c stopped = omega arith
depth_end_any_c (through cnil) = omega arith
depth_end_any_c (through (ccons c cnil)) = omega arith
depth_end_any_c (through (ccons c (ccons d cs))) = omega arith

depth_none : (cs : Conditions) (r : ReducedCondition) (n : ℕ) → depth_r r ≤ 1 + n → depth_r (unless_none cs (known false) r) ≤ 1 + n
depth_none cnil r n h = omega arith
depth_none (ccons c cs) r n h = h

module _ (P : Table) where
  mutual
    depth_red_c : (c : Condition) → depth_r (reduce_condition P c) ≤ depth_c c
    depth_red_c always = omega arith
    depth_red_c never = omega arith
    depth_red_c (has f) = depth_reduced f (P f)
    depth_red_c (not_c c) = omega (arith, depth_flip (reduce_condition P c), depth_red_c c)
    depth_red_c (all_c cs) = depth_none cs (end_all_c (reduce_condition_all P cs)) (depth_cs cs) (omega (arith, depth_end_all_c (reduce_condition_all P cs), depth_red_all_c cs))
    depth_red_c (any_c cs) = omega (arith, depth_end_any_c (reduce_condition_any P cs), depth_red_any_c cs)

    depth_red_all_c : (cs : Conditions) → depth_w (reduce_condition_all P cs) ≤ depth_cs cs
    depth_red_all_c cnil = omega arith
    depth_red_all_c (ccons c cs) = omega (arith, depth_step_all_c (reduce_condition P c) (reduce_condition_all P cs), depth_red_c c, depth_red_all_c cs)

    depth_red_any_c : (cs : Conditions) → depth_w (reduce_condition_any P cs) ≤ depth_cs cs
    depth_red_any_c cnil = omega arith
    depth_red_any_c (ccons c cs) = omega (arith, depth_step_any_c (reduce_condition P c) (reduce_condition_any P cs), depth_red_c c, depth_red_any_c cs)

-- ---- decisions
module _ (L : Outcomes) (G : L.O → Type 0) (meets : (a b : L.O) → G a → G b → G (L.meet a b)) (joins : (a b : L.O) → G a → G b → G (L.join a b)) where
  few : FormF []
  few = (omega arith, tt)

  -- Joining adds no repeat.
  form_unite : (os ps : List ℕ) → FormO FewRepeats os → FormO FewRepeats ps → FormO FewRepeats (union_obligations os ps)
  form_unite os ps h k = (omega (arith, unite_repeats os ps, h.0), unite_every (λ o. o < obligation_count) os ps h.1 k.1)

  no_obligations : FormO FewRepeats []
  no_obligations = (omega arith, tt)

  form_meet_p : (p q : Permit L.O) → FormP G FewRepeats p → FormP G FewRepeats q → FormP G FewRepeats (meet_permit L p q)
  form_meet_p p q h k =
      let o = L.meet p.outcome q.outcome in
      pick_has (FormP G FewRepeats) (L.same o p.outcome) p (cond (L.same o q.outcome) q (combined o [])) h
      (pick_has (FormP G FewRepeats) (L.same o q.outcome) q (combined o []) k (meets p.outcome q.outcome h.0 k.0, no_obligations, tt, few))

  form_join_p : (p q : Permit L.O) → FormP G FewRepeats p → FormP G FewRepeats q → FormP G FewRepeats (join_permit L p q)
  form_join_p p q h k =
      let o = L.join p.outcome q.outcome in
      let os = union_obligations p.obligations q.obligations in
      let u = form_unite p.obligations q.obligations h.1 k.1 in
      let pw : Permit L.O = record { outcome = p.outcome; obligations = os; label = p.label; facts = p.facts } in
      pick_has (FormP G FewRepeats) (L.same o p.outcome) (cond (L.same o q.outcome) pw p) (cond (L.same o q.outcome) q (combined o os))
      (pick_has (FormP G FewRepeats) (L.same o q.outcome) pw p (h.0, u, h.2, h.3) h)
      (pick_has (FormP G FewRepeats) (L.same o q.outcome) q (combined o os) k (joins p.outcome q.outcome h.0 k.0, u, tt, few))

  abbrev FormPO : Option (Permit L.O) → Type 0
  FormPO p = IfThere (FormP G FewRepeats) p

  abbrev FormNO : Option (Denial L.O) → Type 0
  FormNO d = IfThere (FormN G) d

  abbrev FormDs : List (Decision L.O) → Type 0
  FormDs [] = Unit {0}
  FormDs (d ∷ ds) = FormD G FewRepeats d × FormDs ds

  form_plain : FormN G generic_deny
  form_plain = (tt, few, tt, tt)

  form_meet_in : (sofar : Option (Permit L.O)) (q : Permit L.O) → FormPO sofar → FormP G FewRepeats q → FormP G FewRepeats (meet_in L sofar q)
  form_meet_in none q h k = k
  form_meet_in (some p) q h k = form_meet_p p q h k

  form_join_in : (sofar : Option (Permit L.O)) (q : Permit L.O) → FormPO sofar → FormP G FewRepeats q → FormP G FewRepeats (join_in L sofar q)
  form_join_in none q h k = k
  form_join_in (some p) q h k = form_join_p p q h k

  form_all_end : (sofar : Option (Permit L.O)) → FormPO sofar → FormD G FewRepeats (all_end L sofar)
  form_all_end none h = form_plain
  form_all_end (some p) h = h

  form_all_from : (sofar : Option (Permit L.O)) (ds : List (Decision L.O)) → FormPO sofar → FormDs ds → FormD G FewRepeats (all_from L sofar ds)
  form_all_from sofar [] h k = form_all_end sofar h
  form_all_from sofar (permits q ∷ ds) h k = form_all_from (some (meet_in L sofar q)) ds (form_meet_in sofar q h k.0) k.1
  form_all_from sofar (denies d ∷ ds) h k = k.0

  form_first_deny : (first : Option (Denial L.O)) (d : Denial L.O) → FormNO first → FormN G d → FormN G (first_deny first d)
  form_first_deny none d h k = k
  form_first_deny (some c) d h k = h

  form_any_end : (sofar : Option (Permit L.O)) (first : Option (Denial L.O)) → FormPO sofar → FormNO first → FormD G FewRepeats (any_end L sofar first)
  form_any_end (some p) first h k = h
  form_any_end none (some d) h k = k
  form_any_end none none h k = form_plain

  form_any_from : (sofar : Option (Permit L.O)) (first : Option (Denial L.O)) (ds : List (Decision L.O)) → FormPO sofar → FormNO first → FormDs ds → FormD G FewRepeats (any_from L sofar first ds)
  form_any_from sofar first [] h n k = form_any_end sofar first h n
  form_any_from sofar first (permits q ∷ ds) h n k = form_any_from (some (join_in L sofar q)) first ds (form_join_in sofar q h k.0) n k.1
  form_any_from sofar first (denies d ∷ ds) h n k = form_any_from sofar (some (first_deny first d)) ds h (form_first_deny first d n k.0) k.1

  form_decide : (g : Grant L.O) (v : ConditionEval) → FormG G g → FormF (facts_v v) → FormD G FewRepeats (eval_grant g v)
  form_decide g (satisfied fs) h k = (h.0, (repeats_few most_obligations g.obligations h.1.0 (omega arith), h.1.1), h.2, k)
  form_decide g (unsatisfied fs) h k = (h.0, k, h.2, h.3)

  form_first_of : (d e : Decision L.O) → FormD G FewRepeats d → FormD G FewRepeats e → FormD G FewRepeats (first_of d e)
  form_first_of (permits p) e h k = h
  form_first_of (denies d) e h k = k

  form_facts : (T : Table) (c : Condition) → FormC c → words_c c ≤ 4095 → FormF (facts_v (eval_condition T c))
  form_facts T c h n = (omega (arith, facts_le T c), small_facts T c h)

  mutual
    pub form_eval : (T : Table) (t : Policy L.O) → Form G t → FormD G FewRepeats (eval_policy L T t)
    form_eval T (permit o) h = (h, no_obligations, tt, few)
    form_eval T deny h = form_plain
    form_eval T (grant g c) h = form_decide g (eval_condition T c) h.0 (form_facts T c h.1 h.2)
    form_eval T (all ts) h = form_all_from none (eval_policies L T ts) tt (form_evals T ts h.1)
    form_eval T (any ts) h = form_any_from none none (eval_policies L T ts) tt tt (form_evals T ts h.1)
    form_eval T (or_else a b) h = form_first_of (eval_policy L T a) (eval_policy L T b) (form_eval T a h.0) (form_eval T b h.1)
    form_eval T (stored d) h = h

    form_evals : (T : Table) (ts : Policies L.O) → Forms G ts → FormDs (eval_policies L T ts)
    form_evals T pnil h = tt
    form_evals T (pcons t ts) h = (form_eval T t h.0, form_evals T ts h.1)

  -- ---- what is left of a policy
  abbrev FormPs : List (Permit L.O) → Type 0
  FormPs [] = Unit {0}
  FormPs (p ∷ ps) = FormP G FewRepeats p × FormPs ps

  abbrev FormAll : AllWalk L.O → Type 0
  FormAll (stop d) = FormN G d
  FormAll (go ps qs) = FormPs ps × Forms G qs

  abbrev FormAny : AnyWalk L.O → Type 0
  FormAny (parts ps first qs) = FormPs ps × FormNO first × Forms G qs

  abbrev count_all : AllWalk L.O → ℕ
  count_all (stop d) = 0
  count_all (go ps qs) = length ps + count qs

  abbrev one_if : Option (Denial L.O) → ℕ
  one_if none = 0
  one_if (some d) = 1

  abbrev count_any : AnyWalk L.O → ℕ
  count_any (parts ps first qs) = length ps + one_if first + count qs

  form_arms : (ps : List (Permit L.O)) (qs : Policies L.O) → FormPs ps → Forms G qs → Forms G (arms ps qs)
  form_arms [] qs h k = k
  form_arms (p ∷ ps) qs h k = (h.0, form_arms ps qs h.1 k)

  count_arms : (ps : List (Permit L.O)) (qs : Policies L.O) → count (arms ps qs) ≡ length ps + count qs
  count_arms [] qs = omega arith
  count_arms (p ∷ ps) qs = omega (arith, count_arms ps qs)

  form_kept : (ps : List (Permit L.O)) (first : Option (Denial L.O)) (qs : Policies L.O) → FormPs ps → FormNO first → Forms G qs → Forms G (kept ps first qs)
  form_kept [] none qs h n k = k
  form_kept [] (some d) qs h n k = (n, k)
  form_kept (p ∷ ps) first qs h n k = (h.0, form_arms ps qs h.1 k)

  count_kept : (ps : List (Permit L.O)) (first : Option (Denial L.O)) (qs : Policies L.O) → count (kept ps first qs) ≤ length ps + one_if first + count qs
  count_kept [] none qs = omega arith
  count_kept [] (some d) qs = omega arith
  count_kept (p ∷ ps) first qs = omega (arith, count_arms ps qs)

  form_step_all : (r : ReducedPolicy L.O) (w : AllWalk L.O) → Form G (as_residual r) → FormAll w → FormAll (step_all r w)
  form_step_all (resolved (denies d)) w h k = h
  form_step_all (resolved (permits p)) (stop d) h k = k
  form_step_all (resolved (permits p)) (go ps qs) h k = ((h, k.0), k.1)
  form_step_all (pending q) (stop d) h k = k
  form_step_all (pending q) (go ps qs) h k = (k.0, (h, k.1))

  count_step_all : (r : ReducedPolicy L.O) (w : AllWalk L.O) → count_all (step_all r w) ≤ 1 + count_all w
  count_step_all (resolved (denies d)) w = omega arith
  count_step_all (resolved (permits p)) (stop d) = omega arith
  count_step_all (resolved (permits p)) (go ps qs) = omega arith
  count_step_all (pending q) (stop d) = omega arith
  count_step_all (pending q) (go ps qs) = omega arith

  form_step_any : (r : ReducedPolicy L.O) (w : AnyWalk L.O) → Form G (as_residual r) → FormAny w → FormAny (step_any r w)
  form_step_any (resolved (denies d)) (parts ps first qs) h k = (k.0, h, k.2)
  form_step_any (resolved (permits p)) (parts ps first qs) h k = ((h, k.0), k.1, k.2)
  form_step_any (pending q) (parts ps first qs) h k = (k.0, k.1, (h, k.2))

  count_step_any : (r : ReducedPolicy L.O) (w : AnyWalk L.O) → count_any (step_any r w) ≤ 1 + count_any w
  count_step_any (resolved (denies d)) (parts ps first qs) = omega arith
  count_step_any (resolved (permits p)) (parts ps first qs) = omega arith
  count_step_any (pending q) (parts ps first qs) = omega arith

  count_walked_all : (rs : List (ReducedPolicy L.O)) → count_all (walked_all rs) ≤ count (in_order rs)
  count_walked_all [] = omega arith
  count_walked_all (r ∷ rs) = omega (arith, count_step_all r (walked_all rs), count_walked_all rs)

  count_walked_any : (rs : List (ReducedPolicy L.O)) → count_any (walked_any rs) ≤ count (in_order rs)
  count_walked_any [] = omega arith
  count_walked_any (r ∷ rs) = omega (arith, count_step_any r (walked_any rs), count_walked_any rs)

  form_walked_all : (rs : List (ReducedPolicy L.O)) → Forms G (in_order rs) → FormAll (walked_all rs)
  form_walked_all [] h = (tt, tt)
  form_walked_all (r ∷ rs) h = form_step_all r (walked_all rs) h.0 (form_walked_all rs h.1)

  form_walked_any : (rs : List (ReducedPolicy L.O)) → Forms G (in_order rs) → FormAny (walked_any rs)
  form_walked_any [] h = (tt, tt, tt)
  form_walked_any (r ∷ rs) h = form_step_any r (walked_any rs) h.0 (form_walked_any rs h.1)

  form_end_all : (T : Table) (w : AllWalk L.O) → count_all w ≤ 4095 → FormAll w → Form G (as_residual (end_all L T w))
  form_end_all T (stop d) n h = h
  form_end_all T (go ps pnil) n h = form_all_from none (eval_policies L T (arms ps pnil)) tt (form_evals T (arms ps pnil) (form_arms ps pnil h.0 tt))
  form_end_all T (go ps (pcons q qs)) n h = (omega (arith, count_arms ps (pcons q qs)), form_arms ps (pcons q qs) h.0 h.1)

  form_end_any : (T : Table) (w : AnyWalk L.O) → count_any w ≤ 4095 → FormAny w → Form G (as_residual (end_any L T w))
  form_end_any T (parts ps first pnil) n h =
      form_any_from none none (eval_policies L T (kept ps first pnil)) tt tt (form_evals T (kept ps first pnil) (form_kept ps first pnil h.0 h.1 tt))
  form_end_any T (parts ps first (pcons q qs)) n h =
      (omega (arith, count_kept ps first (pcons q qs)), form_kept ps first (pcons q qs) h.0 h.1 h.2)

  form_red_grant : (g : Grant L.O) (v : ConditionEval) (r : ReducedCondition) → FormG G g → FormF (facts_v v) → FormR r → words_rc r ≤ 4095 → Form G (as_residual (reduce_grant g v r))
  form_red_grant g v (known b) h k m n = form_decide g v h k
  form_red_grant g v (pending_c c) h k m n = (h, m, n)

  form_red_else : (a b : ReducedPolicy L.O) → Form G (as_residual a) → Form G (as_residual b) → Form G (as_residual (reduce_or_else a b))
  form_red_else (resolved (permits p)) b h k = h
  form_red_else (resolved (denies d)) b h k = k
  form_red_else (pending a) b h k = (h, k)

  -- Lists under either order: what is asked of the list that holds all arms.
  form_all_of : (o : Order) (T : Table) (rs : List (ReducedPolicy L.O)) → Form G (all (in_order rs)) → Form G (as_residual (all_of L o T rs))
  form_all_of permits_first T rs h = form_end_all T (walked_all rs) (omega (arith, count_walked_all rs, h.0)) (form_walked_all rs h.1)
  form_all_of sheet_order T rs h =
      let n = up_to_deny_lem (λ ts us. count ts ≤ count us) (λ ts. omega arith) (λ t ts us h. omega arith) rs in
      let f = up_to_deny_lem (λ ts us. Forms G us → Forms G ts) (λ ts h. tt) (λ t ts us k h. (h.0, k h.1)) rs h.1 in
      let held : Form G (all (in_order (up_to_deny rs))) = (omega (arith, h.0), f) in
      ends_in_order L (Form G) all T (up_to_deny rs) held (form_eval T (all (in_order (up_to_deny rs))) held)

  form_any_of : (o : Order) (T : Table) (rs : List (ReducedPolicy L.O)) → Form G (any (in_order rs)) → Form G (as_residual (any_of L o T rs))
  form_any_of permits_first T rs h = form_end_any T (walked_any rs) (omega (arith, count_walked_any rs, h.0)) (form_walked_any rs h.1)
  form_any_of sheet_order T rs h = ends_in_order L (Form G) any T rs h (form_eval T (any (in_order rs)) h)

  module _ (o : Order) (P : Table) where
    count_arms_red : (ts : Policies L.O) → count (in_order (reduce_arms L o P ts)) ≡ count ts
    count_arms_red pnil = refl
    count_arms_red (pcons t ts) = omega (arith, count_arms_red ts)

    mutual
      pub form_red : (t : Policy L.O) → Form G t → Form G (as_residual (reduce_policy L o P t))
      form_red (permit x) h = (h, no_obligations, tt, few)
      form_red deny h = form_plain
      form_red (grant g c) h =
          form_red_grant g (eval_condition P c) (reduce_condition P c) h.0 (form_facts P c h.1 h.2) (form_red_c P c h.1) (omega (arith, size_red_c P c, h.2))
      form_red (all ts) h = form_all_of o P (reduce_arms L o P ts) (omega (arith, count_arms_red ts, h.0), form_red_arms ts h.1)
      form_red (any ts) h = form_any_of o P (reduce_arms L o P ts) (omega (arith, count_arms_red ts, h.0), form_red_arms ts h.1)
      form_red (or_else a b) h = form_red_else (reduce_policy L o P a) (reduce_policy L o P b) (form_red a h.0) (form_red b h.1)
      form_red (stored d) h = h

      form_red_arms : (ts : Policies L.O) → Forms G ts → Forms G (in_order (reduce_arms L o P ts))
      form_red_arms pnil h = tt
      form_red_arms (pcons t ts) h = (form_red t h.0, form_red_arms ts h.1)

-- ---- nesting of what is left of a policy
module _ (L : Outcomes) where
  abbrev depth_all : AllWalk L.O → ℕ
  depth_all (stop d) = 0
  depth_all (go ps qs) = depths (arms ps qs)

  abbrev deep_if : Option (Denial L.O) → ℕ
  deep_if none = 0
  deep_if (some d) = 1

  abbrev depth_any : AnyWalk L.O → ℕ
  depth_any (parts ps first qs) = max (deep_if first) (depths (arms ps qs))

  depth_moved : (ps : List (Permit L.O)) (q : Policy L.O) (qs : Policies L.O) → depths (arms ps (pcons q qs)) ≤ max (depth q) (depths (arms ps qs))
  depth_moved [] q qs = omega arith
  depth_moved (p ∷ ps) q qs = omega (arith, depth_moved ps q qs)

  depth_kept : (ps : List (Permit L.O)) (first : Option (Denial L.O)) (qs : Policies L.O) → depths (kept ps first qs) ≤ max (deep_if first) (depths (arms ps qs))
  depth_kept [] none qs = omega arith
  depth_kept [] (some d) qs = omega arith
  depth_kept (p ∷ ps) first qs = omega arith

  depth_step_all : (r : ReducedPolicy L.O) (w : AllWalk L.O) → depth_all (step_all r w) ≤ max (depth (as_residual r)) (depth_all w)
  depth_step_all (resolved (denies d)) w = omega arith
  depth_step_all (resolved (permits p)) (stop d) = omega arith
  depth_step_all (resolved (permits p)) (go ps qs) = omega arith
  depth_step_all (pending q) (stop d) = omega arith
  depth_step_all (pending q) (go ps qs) = depth_moved ps q qs

  depth_step_any : (r : ReducedPolicy L.O) (w : AnyWalk L.O) → depth_any (step_any r w) ≤ max (depth (as_residual r)) (depth_any w)
  depth_step_any (resolved (denies d)) (parts ps first qs) = omega arith
  depth_step_any (resolved (permits p)) (parts ps first qs) = omega arith
  depth_step_any (pending q) (parts ps first qs) = omega (arith, depth_moved ps q qs)

  depth_end_all : (T : Table) (w : AllWalk L.O) → depth (as_residual (end_all L T w)) ≤ 1 + depth_all w
  depth_end_all T (stop d) = omega arith
  depth_end_all T (go ps pnil) = omega arith
  depth_end_all T (go ps (pcons q qs)) = omega arith

  depth_end_any : (T : Table) (w : AnyWalk L.O) → depth (as_residual (end_any L T w)) ≤ 1 + depth_any w
  depth_end_any T (parts ps first pnil) = omega arith
  depth_end_any T (parts ps first (pcons q qs)) = omega (arith, depth_kept ps first (pcons q qs))

  depth_red_grant : (g : Grant L.O) (v : ConditionEval) (r : ReducedCondition) → depth (as_residual (reduce_grant g v r)) ≤ 1 + depth_r r
  depth_red_grant g v (known b) = omega arith
  depth_red_grant g v (pending_c c) = omega arith

  depth_red_else : (a b : ReducedPolicy L.O) → depth (as_residual (reduce_or_else a b)) ≤ 1 + max (depth (as_residual a)) (depth (as_residual b))
  depth_red_else (resolved (permits p)) b = omega arith
  depth_red_else (resolved (denies d)) b = omega arith
  depth_red_else (pending a) b = omega arith

  depth_walked_all : (rs : List (ReducedPolicy L.O)) → depth_all (walked_all rs) ≤ depths (in_order rs)
  depth_walked_all [] = omega arith
  depth_walked_all (r ∷ rs) = omega (arith, depth_step_all r (walked_all rs), depth_walked_all rs)

  depth_walked_any : (rs : List (ReducedPolicy L.O)) → depth_any (walked_any rs) ≤ depths (in_order rs)
  depth_walked_any [] = omega arith
  depth_walked_any (r ∷ rs) = omega (arith, depth_step_any r (walked_any rs), depth_walked_any rs)

  -- Lists under either order.
  depth_all_of : (o : Order) (T : Table) (rs : List (ReducedPolicy L.O)) → depth (as_residual (all_of L o T rs)) ≤ 1 + depths (in_order rs)
  depth_all_of permits_first T rs = omega (arith, depth_end_all T (walked_all rs), depth_walked_all rs)
  depth_all_of sheet_order T rs =
      let n = up_to_deny_lem (λ ts us. depths ts ≤ depths us) (λ ts. omega arith) (λ t ts us h. omega arith) rs in
      ends_in_order L (λ t. depth t ≤ 1 + depths (in_order rs)) all T (up_to_deny rs) (omega arith) (omega arith)

  depth_any_of : (o : Order) (T : Table) (rs : List (ReducedPolicy L.O)) → depth (as_residual (any_of L o T rs)) ≤ 1 + depths (in_order rs)
  depth_any_of permits_first T rs = omega (arith, depth_end_any T (walked_any rs), depth_walked_any rs)
  depth_any_of sheet_order T rs = ends_in_order L (λ t. depth t ≤ 1 + depths (in_order rs)) any T rs (omega arith) (omega arith)

  module _ (o : Order) (P : Table) where
    mutual
      -- What is left is no deeper than the source.
      pub depth_red : (t : Policy L.O) → depth (as_residual (reduce_policy L o P t)) ≤ depth t
      depth_red (permit x) = omega arith
      depth_red deny = omega arith
      depth_red (grant g c) = omega (arith, depth_red_grant g (eval_condition P c) (reduce_condition P c), depth_red_c P c)
      depth_red (all ts) = omega (arith, depth_all_of o P (reduce_arms L o P ts), depth_red_arms ts)
      depth_red (any ts) = omega (arith, depth_any_of o P (reduce_arms L o P ts), depth_red_arms ts)
      depth_red (or_else a b) = omega (arith, depth_red_else (reduce_policy L o P a) (reduce_policy L o P b), depth_red a, depth_red b)
      depth_red (stored d) = omega arith

      depth_red_arms : (ts : Policies L.O) → depths (in_order (reduce_arms L o P ts)) ≤ depths ts
      depth_red_arms pnil = omega arith
      depth_red_arms (pcons t ts) = omega (arith, depth_red t, depth_red_arms ts)
