-- A table is asked nothing but its facts: tables that each Has reads alike evaluate alike, and resolve the same lists.
use Rattle.std.specs.Prelude.{◌≡◌, refl, cond, List, [], ◌∷◌, ℕ}
use Rattle.std.proofs.Common.{ap, ap₂}
use Rattle.std.proofs.Math.Option.{none}
use Rattle.model.specs.Facts.{Table}
use Rattle.model.specs.Outcome.{Outcomes}
use Rattle.model.specs.Condition.{Condition, always, never, has, not_c, all_c, any_c, Conditions, cnil, ccons, unsatisfied, eval_has, flip, both, either, unless_none, eval_condition, eval_condition_all, eval_condition_any}
use Rattle.model.specs.Policy.{Policy, permit, deny, grant, all, any, or_else, stored, Policies, pnil, pcons}
use Rattle.model.specs.Evaluate.{eval_grant, first_of, all_from, any_from, eval_policy, eval_policies}
use Rattle.model.specs.Partial.{ReducedPolicy, resolved, pending, arms, kept, AllWalk, stop, go, AnyWalk, parts, walked_all, walked_any, up_to_deny, in_order, any_pending, end_all, end_any, end_in_order, Order, permits_first, sheet_order, all_of, any_of}

module _ (T U : Table) (alike : (f : ℕ) → eval_has f (T f) ≡ eval_has f (U f)) where
  mutual
    -- A condition's value and the facts that it names.
    pub eval_alike : (c : Condition) → eval_condition T c ≡ eval_condition U c
    eval_alike always = refl
    eval_alike never = refl
    eval_alike (has f) = alike f
    eval_alike (not_c c) = ap flip (eval_alike c)
    eval_alike (all_c cs) = ap (unless_none cs (unsatisfied [])) (all_alike cs)
    eval_alike (any_c cs) = any_alike cs

    all_alike : (cs : Conditions) → eval_condition_all T cs ≡ eval_condition_all U cs
    all_alike cnil = refl
    all_alike (ccons c cs) = ap₂ both (eval_alike c) (all_alike cs)

    any_alike : (cs : Conditions) → eval_condition_any T cs ≡ eval_condition_any U cs
    any_alike cnil = refl
    any_alike (ccons c cs) = ap₂ either (eval_alike c) (any_alike cs)

  module _ (L : Outcomes) where
    mutual
      pub policy_alike : (t : Policy L.O) → eval_policy L T t ≡ eval_policy L U t
      policy_alike (permit o) = refl
      policy_alike deny = refl
      policy_alike (grant g c) = ap (eval_grant g) (eval_alike c)
      policy_alike (all ts) = ap (all_from L none) (policies_alike ts)
      policy_alike (any ts) = ap (any_from L none none) (policies_alike ts)
      policy_alike (or_else a b) = ap₂ first_of (policy_alike a) (policy_alike b)
      policy_alike (stored d) = refl

      policies_alike : (ts : Policies L.O) → eval_policies L T ts ≡ eval_policies L U ts
      policies_alike pnil = refl
      policies_alike (pcons t ts) = ap₂ ◌∷◌ (policy_alike t) (policies_alike ts)

    end_all_lem : (w : AllWalk L.O) → end_all L T w ≡ end_all L U w
    end_all_lem (stop d) = refl
    end_all_lem (go ps pnil) = ap resolved (policy_alike (all (arms ps pnil)))
    end_all_lem (go ps (pcons q qs)) = refl

    end_any_lem : (w : AnyWalk L.O) → end_any L T w ≡ end_any L U w
    end_any_lem (parts ps first pnil) = ap resolved (policy_alike (any (kept ps first pnil)))
    end_any_lem (parts ps first (pcons q qs)) = refl

    end_order : (list : Policies L.O → Policy L.O) (rs : List (ReducedPolicy L.O)) → end_in_order L list T rs ≡ end_in_order L list U rs
    end_order list rs = ap (λ d. cond (any_pending rs) (pending (list (in_order rs))) (resolved d)) (policy_alike (list (in_order rs)))

    -- A list, from its arms reduced.
    pub all_of_lem : (o : Order) (rs : List (ReducedPolicy L.O)) → all_of L o T rs ≡ all_of L o U rs
    all_of_lem permits_first rs = end_all_lem (walked_all rs)
    all_of_lem sheet_order rs = end_order all (up_to_deny rs)

    pub any_of_lem : (o : Order) (rs : List (ReducedPolicy L.O)) → any_of L o T rs ≡ any_of L o U rs
    any_of_lem permits_first rs = end_any_lem (walked_any rs)
    any_of_lem sheet_order rs = end_order any rs
