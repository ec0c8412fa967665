-- Reducing a condition keeps its truth under every known table that agrees; and what is left names only open facts.
use Rattle.std.specs.Prelude.{◌≡◌, refl, ◌⊎◌, Bool, true, false, not, ◌&&◌, ◌||◌, [], ℕ}
use Rattle.std.proofs.Common.{sym, ◌∙◌, ap, ap₂, inl, inr}
use Rattle.std.proofs.Math.Bool.{and-true, and-false, or-true, or-false}
use Rattle.model.specs.Facts.{Presence, absent, present, unknown, silent, Table, heard}
use Rattle.model.specs.Condition.{Condition, always, never, has, not_c, all_c, any_c, Conditions, cnil, ccons, ConditionEval, satisfied, unsatisfied, eval_has, unless_none, eval_condition, eval_condition_all, eval_condition_any}
use Rattle.model.specs.Partial.{ReducedCondition, known, pending_c, reduce_has, flip_r, ConditionWalk, stopped, through, step_all_c, step_any_c, end_all_c, end_any_c, reduce_condition, reduce_condition_all, reduce_condition_any}
use Rattle.laws.proofs.SilenceLaws.{has_heard}
use Rattle.laws.proofs.TruthLaws.{truth_both, truth_either, truth_flip}
use Rattle.laws.specs.Each.{EachC, EachCs, Agrees}
use Rattle.laws.specs.Truth.{is_satisfied}

-- Whether a condition came out true.
-- The truth of what a reduction gives, under the known table K.
abbrev pub truth_r : Table → ReducedCondition → Bool
truth_r K (known b) = b
truth_r K (pending_c c) = is_satisfied (eval_condition K c)

abbrev all_w : Table → ConditionWalk → Bool
all_w K stopped = false
all_w K (through cs) = is_satisfied (eval_condition_all K cs)

abbrev any_w : Table → ConditionWalk → Bool
any_w K stopped = true
any_w K (through cs) = is_satisfied (eval_condition_any K cs)

step_all_lem : (K : Table) (r : ReducedCondition) (w : ConditionWalk) → all_w K (step_all_c r w) ≡ truth_r K r && all_w K w
step_all_lem K (known false) w = refl
step_all_lem K (known true) w = refl
step_all_lem K (pending_c c) stopped = sym (and-false (is_satisfied (eval_condition K c)))
step_all_lem K (pending_c c) (through cs) = truth_both (eval_condition K c) (eval_condition_all K cs)

step_any_lem : (K : Table) (r : ReducedCondition) (w : ConditionWalk) → any_w K (step_any_c r w) ≡ truth_r K r || any_w K w
step_any_lem K (known true) w = refl
step_any_lem K (known false) w = refl
step_any_lem K (pending_c c) stopped = sym (or-true (is_satisfied (eval_condition K c)))
step_any_lem K (pending_c c) (through cs) = truth_either (eval_condition K c) (eval_condition_any K cs)

end_all_lem : (K : Table) (w : ConditionWalk) → truth_r K (end_all_c w) ≡ all_w K w
end_all_lem K stopped = refl
end_all_lem K (through cnil) = refl
end_all_lem K (through (ccons c cnil)) = sym (truth_both (eval_condition K c) (satisfied []) ∙ and-true (is_satisfied (eval_condition K c)))
end_all_lem K (through (ccons c (ccons d cs))) = refl

end_any_lem : (K : Table) (w : ConditionWalk) → truth_r K (end_any_c w) ≡ any_w K w
end_any_lem K stopped = refl
end_any_lem K (through cnil) = refl
end_any_lem K (through (ccons c cnil)) = sym (truth_either (eval_condition K c) (unsatisfied []) ∙ or-false (is_satisfied (eval_condition K c)))
end_any_lem K (through (ccons c (ccons d cs))) = refl

flip_truth : (K : Table) (r : ReducedCondition) → truth_r K (flip_r r) ≡ not (truth_r K r)
flip_truth K (known b) = refl
flip_truth K (pending_c c) = truth_flip (eval_condition K c)

-- Silence is Absent to a Has.
has_as : (f : ℕ) (p q : Presence) → heard p ≡ heard q → is_satisfied (eval_has f p) ≡ is_satisfied (eval_has f q)
has_as f p q e = ap is_satisfied (sym (has_heard f p) ∙ ap (eval_has f) e ∙ has_heard f q)

has_open : (K : Table) (f : ℕ) (p : Presence) → (p ≡ unknown) ⊎ (heard p ≡ heard (K f)) → truth_r K (reduce_has f p) ≡ is_satisfied (eval_has f (K f))
has_open K f absent (inr e) = has_as f absent (K f) e
has_open K f present (inr e) = has_as f present (K f) e
has_open K f unknown (inr e) = refl
has_open K f silent (inr e) = has_as f silent (K f) e
has_open K f absent (inl e) = cc
has_open K f present (inl e) = cc
has_open K f unknown (inl e) = refl
has_open K f silent (inl e) = cc

none_truth : (K : Table) (cs : Conditions) (r : ReducedCondition) (v : ConditionEval) → truth_r K r ≡ is_satisfied v → truth_r K (unless_none cs (known false) r) ≡ is_satisfied (unless_none cs (unsatisfied []) v)
none_truth K cnil r v e = refl
none_truth K (ccons c cs) r v e = e

module _ (K P : Table) where
  mutual
    -- Reducing keeps the truth under K.
    pub red_c_sound : (c : Condition) → EachC (Agrees K P) c → truth_r K (reduce_condition P c) ≡ is_satisfied (eval_condition K c)
    red_c_sound always h = refl
    red_c_sound never h = refl
    red_c_sound (has f) h = has_open K f (P f) h
    red_c_sound (not_c c) h = flip_truth K (reduce_condition P c) ∙ ap not (red_c_sound c h) ∙ sym (truth_flip (eval_condition K c))
    red_c_sound (all_c cs) h = none_truth K cs (end_all_c (reduce_condition_all P cs)) (eval_condition_all K cs) (end_all_lem K (reduce_condition_all P cs) ∙ red_all_c_sound cs h)
    red_c_sound (any_c cs) h = end_any_lem K (reduce_condition_any P cs) ∙ red_any_c_sound cs h

    red_all_c_sound : (cs : Conditions) → EachCs (Agrees K P) cs → all_w K (reduce_condition_all P cs) ≡ is_satisfied (eval_condition_all K cs)
    red_all_c_sound cnil h = refl
    red_all_c_sound (ccons c cs) h = step_all_lem K (reduce_condition P c) (reduce_condition_all P cs) ∙ ap₂ ◌&&◌ (red_c_sound c h.0) (red_all_c_sound cs h.1) ∙ sym (truth_both (eval_condition K c) (eval_condition_all K cs))

    red_any_c_sound : (cs : Conditions) → EachCs (Agrees K P) cs → any_w K (reduce_condition_any P cs) ≡ is_satisfied (eval_condition_any K cs)
    red_any_c_sound cnil h = refl
    red_any_c_sound (ccons c cs) h = step_any_lem K (reduce_condition P c) (reduce_condition_any P cs) ∙ ap₂ ◌||◌ (red_c_sound c h.0) (red_any_c_sound cs h.1) ∙ sym (truth_either (eval_condition K c) (eval_condition_any K cs))

-- What holds of every fact holds of those that a condition names.
mutual
  pub each_all : {Q : ℕ → Type 0} → ((f : ℕ) → Q f) → (c : Condition) → EachC Q c
  each_all q always = tt
  each_all q never = tt
  each_all q (has f) = q f
  each_all q (not_c c) = each_all q c
  each_all q (all_c cs) = eachs_all q cs
  each_all q (any_c cs) = eachs_all q cs

  eachs_all : {Q : ℕ → Type 0} → ((f : ℕ) → Q f) → (cs : Conditions) → EachCs Q cs
  eachs_all q cnil = tt
  eachs_all q (ccons c cs) = (each_all q c, eachs_all q cs)

-- A condition that is known, evaluated again from the same table, has that truth value.
pub known_again : (P : Table) (c : Condition) (b : Bool) → reduce_condition P c ≡ known b → is_satisfied (eval_condition P c) ≡ b
known_again P c b e = sym (red_c_sound P P c (each_all (λ f. inr refl) c)) ∙ ap (truth_r P) e

-- ---- what is left names only open facts
abbrev pub EachR : (ℕ → Type 0) → ReducedCondition → Type 0
EachR Q (known b) = Unit {0}
EachR Q (pending_c c) = EachC Q c

abbrev EachW : (ℕ → Type 0) → ConditionWalk → Type 0
EachW Q stopped = Unit {0}
EachW Q (through cs) = EachCs Q cs

module _ (Q : ℕ → Type 0) where
  each_step_all_lem : (r : ReducedCondition) (w : ConditionWalk) → EachR Q r → EachW Q w → EachW Q (step_all_c r w)
  each_step_all_lem (known false) w h k = tt
  each_step_all_lem (known true) w h k = k
  each_step_all_lem (pending_c c) stopped h k = tt
  each_step_all_lem (pending_c c) (through cs) h k = (h, k)

  each_step_any_lem : (r : ReducedCondition) (w : ConditionWalk) → EachR Q r → EachW Q w → EachW Q (step_any_c r w)
  each_step_any_lem (known true) w h k = tt
  each_step_any_lem (known false) w h k = k
  each_step_any_lem (pending_c c) stopped h k = tt
  each_step_any_lem (pending_c c) (through cs) h k = (h, k)

  each_end_all_lem : (w : ConditionWalk) → EachW Q w → EachR Q (end_all_c w)
  each_end_all_lem stopped h = tt
  each_end_all_lem (through cnil) h = tt
  each_end_all_lem (through (ccons c cnil)) h = h.0
  each_end_all_lem (through (ccons c (ccons d cs))) h = h

  each_end_any_lem : (w : ConditionWalk) → EachW Q w → EachR Q (end_any_c w)
  each_end_any_lem stopped h = tt
  each_end_any_lem (through cnil) h = tt
  each_end_any_lem (through (ccons c cnil)) h = h.0
  each_end_any_lem (through (ccons c (ccons d cs))) h = h

  each_flip : (r : ReducedCondition) → EachR Q r → EachR Q (flip_r r)
  each_flip (known b) h = tt
  each_flip (pending_c c) h = h

  each_none : (cs : Conditions) (r : ReducedCondition) → EachR Q r → EachR Q (unless_none cs (known false) r)
  each_none cnil r h = tt
  each_none (ccons c cs) r h = h

-- A fact of which Q holds, and which P leaves open.
abbrev pub Left : (ℕ → Type 0) → Table → ℕ → Type 0
Left Q P f = Q f × (P f ≡ unknown)

module _ (Q : ℕ → Type 0) (P : Table) where
  left_at : (f : ℕ) (p : Presence) → P f ≡ p → Q f → EachR (Left Q P) (reduce_has f p)
  left_at f absent e q = tt
  left_at f present e q = tt
  left_at f unknown e q = (q, e)
  left_at f silent e q = tt

  mutual
    -- T3 for conditions.
    pub red_c_left : (c : Condition) → EachC Q c → EachR (Left Q P) (reduce_condition P c)
    red_c_left always h = tt
    red_c_left never h = tt
    red_c_left (has f) h = left_at f (P f) refl h
    red_c_left (not_c c) h = each_flip (Left Q P) (reduce_condition P c) (red_c_left c h)
    red_c_left (all_c cs) h = each_none (Left Q P) cs (end_all_c (reduce_condition_all P cs)) (each_end_all_lem (Left Q P) (reduce_condition_all P cs) (red_all_c_left cs h))
    red_c_left (any_c cs) h = each_end_any_lem (Left Q P) (reduce_condition_any P cs) (red_any_c_left cs h)

    red_all_c_left : (cs : Conditions) → EachCs Q cs → EachW (Left Q P) (reduce_condition_all P cs)
    red_all_c_left cnil h = tt
    red_all_c_left (ccons c cs) h = each_step_all_lem (Left Q P) (reduce_condition P c) (reduce_condition_all P cs) (red_c_left c h.0) (red_all_c_left cs h.1)

    red_any_c_left : (cs : Conditions) → EachCs Q cs → EachW (Left Q P) (reduce_condition_any P cs)
    red_any_c_left cnil h = tt
    red_any_c_left (ccons c cs) h = each_step_any_lem (Left Q P) (reduce_condition P c) (reduce_condition_any P cs) (red_c_left c h.0) (red_any_c_left cs h.1)
