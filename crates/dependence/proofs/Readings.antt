-- Evaluation and completion look at the facts that the tree names, and at no other. Over trees, for any outcomes.
use Rattle.std.specs.Prelude.{◌≡◌, refl, [], ◌∷◌, ℕ}
use Rattle.std.proofs.Common.{◌∙◌, ap, ap₂}
use Rattle.std.proofs.Math.Option.{none}
use Rattle.model.specs.Facts.{Table}
use Rattle.model.specs.Outcome.{Outcomes}
use Rattle.model.specs.Condition.{Condition, always, never, has, not_c, all_c, any_c, Conditions, cnil, ccons, eval_has, flip, both, either, unless_none, unsatisfied, eval_condition, eval_condition_all, eval_condition_any}
use Rattle.model.specs.Policy.{Policy, permit, deny, grant, all, any, or_else, stored, Policies, pnil, pcons}
use Rattle.model.specs.Evaluate.{eval_grant, first_of, all_from, any_from, eval_policy, eval_policies}
use Rattle.model.specs.Partial.{ReducedPolicy, resolved, pending, as_residual}
use Rattle.model.specs.Consulted.{Consulted, consult, once, after_true, after_false, read_c, read_all_c, read_any_c, after_permit, after_deny, read, read_all, read_any}
use Rattle.model.specs.Record.{Record, tree, completed_from, completed}
use Rattle.laws.specs.Each.{EachC, EachCs, Each, Eachs}

module _ (K K' : Table) where
  -- Both tables give the fact the same reading.
  abbrev pub Same : ℕ → Type 0
  Same f = K f ≡ K' f

  mutual
    same_c : (c : Condition) → EachC Same c → eval_condition K c ≡ eval_condition K' c
    same_c always h = refl
    same_c never h = refl
    same_c (has f) h = ap (eval_has f) h
    same_c (not_c c) h = ap flip (same_c c h)
    same_c (all_c cs) h = ap (unless_none cs (unsatisfied [])) (same_all_c cs h)
    same_c (any_c cs) h = same_any_c cs h

    same_all_c : (cs : Conditions) → EachCs Same cs → eval_condition_all K cs ≡ eval_condition_all K' cs
    same_all_c cnil h = refl
    same_all_c (ccons c cs) h = ap₂ both (same_c c h.0) (same_all_c cs h.1)

    same_any_c : (cs : Conditions) → EachCs Same cs → eval_condition_any K cs ≡ eval_condition_any K' cs
    same_any_c cnil h = refl
    same_any_c (ccons c cs) h = ap₂ either (same_c c h.0) (same_any_c cs h.1)

  mutual
    log_c : (c : Condition) (l : Consulted) → EachC Same c → read_c K c l ≡ read_c K' c l
    log_c always l h = refl
    log_c never l h = refl
    log_c (has f) l h = ap (consult l f) h
    log_c (not_c c) l h = log_c c l h
    log_c (all_c cs) l h = log_all_c cs l h
    log_c (any_c cs) l h = log_any_c cs l h

    log_all_c : (cs : Conditions) (l : Consulted) → EachCs Same cs → read_all_c K cs l ≡ read_all_c K' cs l
    log_all_c cnil l h = refl
    log_all_c (ccons c cs) l h =
        ap₂ (λ v m. after_true v m (read_all_c K cs m)) (same_c c h.0) (log_c c l h.0) ∙ ap (after_true (eval_condition K' c) (read_c K' c l)) (log_all_c cs (read_c K' c l) h.1)

    log_any_c : (cs : Conditions) (l : Consulted) → EachCs Same cs → read_any_c K cs l ≡ read_any_c K' cs l
    log_any_c cnil l h = refl
    log_any_c (ccons c cs) l h =
        ap₂ (λ v m. after_false v m (read_any_c K cs m)) (same_c c h.0) (log_c c l h.0) ∙ ap (after_false (eval_condition K' c) (read_c K' c l)) (log_any_c cs (read_c K' c l) h.1)

  module _ (L : Outcomes) where
    mutual
      pub same_value : (t : Policy L.O) → Each Same t → eval_policy L K t ≡ eval_policy L K' t
      same_value (permit o) h = refl
      same_value deny h = refl
      same_value (grant g c) h = ap (eval_grant g) (same_c c h)
      same_value (all ts) h = ap (all_from L none) (same_values ts h)
      same_value (any ts) h = ap (any_from L none none) (same_values ts h)
      same_value (or_else a b) h = ap₂ first_of (same_value a h.0) (same_value b h.1)
      same_value (stored d) h = refl

      same_values : (ts : Policies L.O) → Eachs Same ts → eval_policies L K ts ≡ eval_policies L K' ts
      same_values pnil h = refl
      same_values (pcons t ts) h = ap₂ (λ d ds. d ∷ ds) (same_value t h.0) (same_values ts h.1)

    mutual
      pub same_log : (t : Policy L.O) (l : Consulted) → Each Same t → read L K t l ≡ read L K' t l
      same_log (permit o) l h = refl
      same_log deny l h = refl
      same_log (grant g c) l h = log_c c l h
      same_log (all ts) l h = log_all ts l h
      same_log (any ts) l h = log_any ts l h
      same_log (or_else a b) l h =
          ap₂ (λ v m. after_deny v m (read L K b m)) (same_value a h.0) (same_log a l h.0) ∙ ap (after_deny (eval_policy L K' a) (read L K' a l)) (same_log b (read L K' a l) h.1)
      same_log (stored d) l h = refl

      log_all : (ts : Policies L.O) (l : Consulted) → Eachs Same ts → read_all L K ts l ≡ read_all L K' ts l
      log_all pnil l h = refl
      log_all (pcons t ts) l h =
          ap₂ (λ v m. after_permit v m (read_all L K ts m)) (same_value t h.0) (same_log t l h.0) ∙ ap (after_permit (eval_policy L K' t) (read L K' t l)) (log_all ts (read L K' t l) h.1)

      log_any : (ts : Policies L.O) (l : Consulted) → Eachs Same ts → read_any L K ts l ≡ read_any L K' ts l
      log_any pnil l h = refl
      log_any (pcons t ts) l h = ap (read_any L K ts) (same_log t l h.0) ∙ log_any ts (read L K' t l) h.1

    same_from : (b : ReducedPolicy L.O) (l : Consulted) → Each Same (as_residual b) → completed_from L K b l ≡ completed_from L K' b l
    same_from (resolved d) l h = refl
    same_from (pending t) l h = ap₂ (λ d m. record { body = resolved d; log = m }) (same_value t h) (same_log t (once l) h)

    -- Completed with either table, a record is the same, trace and consulted list included.
    pub same_completed : (r : Record L.O) → Each Same (tree r) → completed L K r ≡ completed L K' r
    same_completed r h = same_from r.body r.log h
