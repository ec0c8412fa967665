-- Reducing in sheet order keeps every decision but for its facts, under every known table that agrees. Assumes nothing of meet and join. Request 8.
use Rattle.std.specs.Prelude.{◌≡◌, refl, Bool, true, false, cond, List, [], ◌∷◌}
use Rattle.std.proofs.Common.{sym, ◌∙◌, ap, ap₂}
use Rattle.std.proofs.Math.Option.{Option, none, some}
use Rattle.model.specs.Facts.{Table}
use Rattle.model.specs.Outcome.{Outcomes}
use Rattle.model.specs.Condition.{Condition, eval_condition}
use Rattle.model.specs.Decision.{Permit, Decision, permits, denies, meet_in}
use Rattle.model.specs.Policy.{Grant, Policy, permit, deny, grant, all, any, or_else, stored, Policies, pnil, pcons}
use Rattle.model.specs.Evaluate.{eval_grant, first_of, all_from, any_from, eval_policy, eval_policies}
use Rattle.model.specs.Partial.{ReducedCondition, known, pending_c, reduce_condition, ReducedPolicy, resolved, pending, as_residual, reduce_grant, reduce_or_else, sheet_order, until_deny, up_to_deny, in_order, any_pending, end_in_order, reduce_policy, reduce_arms}
use Rattle.laws.specs.Each.{EachC, Each, Eachs, Agrees}
use Rattle.laws.specs.Truth.{is_satisfied}
use Rattle.staging.proofs.ConditionLaws.{truth_r, red_c_sound, known_again}
use Rattle.staging.specs.Bare.{bare}
use Rattle.staging.proofs.BareLaws.{bares, bare_all_from, bare_any_from, bare_grant, bare_first_of}

module _ (L : Outcomes) (K : Table) where
  -- What is left of a part, under the known table.
  abbrev pub decided : ReducedPolicy L.O → Decision L.O
  decided r = eval_policy L K (as_residual r)

  -- ---- grants and OrElse, whatever the order
  grant_at_lem : (P : Table) (g : Grant L.O) (c : Condition) (r : ReducedCondition) → reduce_condition P c ≡ r → truth_r K r ≡ is_satisfied (eval_condition K c) → bare (decided (reduce_grant g (eval_condition P c) r)) ≡ bare (eval_grant g (eval_condition K c))
  grant_at_lem P g c (known b) e h = bare_grant g (eval_condition P c) (eval_condition K c) (known_again P c b e ∙ h)
  grant_at_lem P g c (pending_c c') e h = bare_grant g (eval_condition K c') (eval_condition K c) h

  pub grant_decided : (P : Table) (g : Grant L.O) (c : Condition) → EachC (Agrees K P) c → bare (decided (reduce_grant g (eval_condition P c) (reduce_condition P c))) ≡ bare (eval_grant g (eval_condition K c))
  grant_decided P g c h = grant_at_lem P g c (reduce_condition P c) refl (red_c_sound K P c h)

  pub else_decided : (a b : ReducedPolicy L.O) → decided (reduce_or_else a b) ≡ first_of (decided a) (decided b)
  else_decided (resolved (permits p)) b = refl
  else_decided (resolved (denies d)) b = refl
  else_decided (pending a) b = refl

  -- ---- lists in sheet order
  -- Arms of which none is pending are evaluated alike under every table.
  arms_any_table : (T : Table) (rs : List (ReducedPolicy L.O)) → any_pending rs ≡ false → eval_policies L T (in_order rs) ≡ eval_policies L K (in_order rs)
  arms_any_table T [] e = refl
  arms_any_table T (resolved d ∷ rs) e = ap (λ ds. d ∷ ds) (arms_any_table T rs e)
  arms_any_table T (pending q ∷ rs) e = cc

  -- A list has the decision of its arms in order.
  module _ (list : Policies L.O → Policy L.O) (fold : List (Decision L.O) → Decision L.O) (evaluates : (T : Table) (ts : Policies L.O) → eval_policy L T (list ts) ≡ fold (eval_policies L T ts)) (T : Table) (rs : List (ReducedPolicy L.O)) where
    end_at : (b : Bool) → any_pending rs ≡ b → decided (cond b (pending (list (in_order rs))) (resolved (eval_policy L T (list (in_order rs))))) ≡ fold (eval_policies L K (in_order rs))
    end_at true e = evaluates K (in_order rs)
    end_at false e = evaluates T (in_order rs) ∙ ap fold (arms_any_table T rs e)

    end_decided : decided (end_in_order L list T rs) ≡ fold (eval_policies L K (in_order rs))
    end_decided = end_at (any_pending rs) refl

  -- Arms after a deny add nothing to All.
  one_more : (d : Decision L.O) (ds es : List (Decision L.O)) (sofar : Option (Permit L.O)) → ((q : Permit L.O) → all_from L (some q) ds ≡ all_from L (some q) es) → all_from L sofar (d ∷ ds) ≡ all_from L sofar (d ∷ es)
  one_more (permits q) ds es sofar h = h (meet_in L sofar q)
  one_more (denies d) ds es sofar h = refl

  until_deny_lem : (r : ReducedPolicy L.O) (rs : List (ReducedPolicy L.O)) (ds : List (Decision L.O)) (sofar : Option (Permit L.O))
      → ((s : Option (Permit L.O)) → all_from L s (bares (eval_policies L K (in_order rs))) ≡ all_from L s ds)
      → all_from L sofar (bares (eval_policies L K (in_order (until_deny r rs)))) ≡ all_from L sofar (bare (decided r) ∷ ds)
  until_deny_lem (resolved (denies d)) rs ds sofar h = refl
  until_deny_lem (resolved (permits p)) rs ds sofar h = one_more (bare (permits p)) (bares (eval_policies L K (in_order rs))) ds sofar (λ q. h (some q))
  until_deny_lem (pending q) rs ds sofar h = one_more (bare (eval_policy L K q)) (bares (eval_policies L K (in_order rs))) ds sofar (λ q. h (some q))

  module _ (P : Table) where
    mutual
      -- Reducing in sheet order keeps effect, outcome, denied outcome, obligations, label, reason and shape under K.
      pub ordered_sound : (t : Policy L.O) → Each (Agrees K P) t → bare (decided (reduce_policy L sheet_order P t)) ≡ bare (eval_policy L K t)
      ordered_sound (permit x) h = refl
      ordered_sound deny h = refl
      ordered_sound (grant g c) h = grant_decided P g c h
      ordered_sound (all ts) h =
          let rs = up_to_deny (reduce_arms L sheet_order P ts) in
          ap bare (end_decided all (all_from L none) (λ T ts. refl) P rs) ∙ bare_all_from L none (eval_policies L K (in_order rs)) ∙ all_sound ts h none ∙ sym (bare_all_from L none (eval_policies L K ts))
      ordered_sound (any ts) h =
          let rs = reduce_arms L sheet_order P ts in
          ap bare (end_decided any (any_from L none none) (λ T ts. refl) P rs) ∙ bare_any_from L none none (eval_policies L K (in_order rs)) ∙ ap (any_from L none none) (any_sound ts h) ∙ sym (bare_any_from L none none (eval_policies L K ts))
      ordered_sound (or_else a b) h =
          let x = reduce_policy L sheet_order P a in
          let y = reduce_policy L sheet_order P b in
          ap bare (else_decided x y) ∙ bare_first_of (decided x) (decided y) ∙ ap₂ first_of (ordered_sound a h.0) (ordered_sound b h.1) ∙ sym (bare_first_of (eval_policy L K a) (eval_policy L K b))
      ordered_sound (stored d) h = refl

      all_sound : (ts : Policies L.O) → Eachs (Agrees K P) ts → (sofar : Option (Permit L.O))
          → all_from L sofar (bares (eval_policies L K (in_order (up_to_deny (reduce_arms L sheet_order P ts))))) ≡ all_from L sofar (bares (eval_policies L K ts))
      all_sound pnil h sofar = refl
      all_sound (pcons t ts) h sofar =
          until_deny_lem (reduce_policy L sheet_order P t) (up_to_deny (reduce_arms L sheet_order P ts)) (bares (eval_policies L K ts)) sofar (λ s. all_sound ts h.1 s)
          ∙ ap (λ d. all_from L sofar (d ∷ bares (eval_policies L K ts))) (ordered_sound t h.0)

      any_sound : (ts : Policies L.O) → Eachs (Agrees K P) ts → bares (eval_policies L K (in_order (reduce_arms L sheet_order P ts))) ≡ bares (eval_policies L K ts)
      any_sound pnil h = refl
      any_sound (pcons t ts) h = ap₂ (λ d ds. d ∷ ds) (ordered_sound t h.0) (any_sound ts h.1)
