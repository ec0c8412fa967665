-- Reducing permits first keeps a policy's effect and its products under every known table that agrees: arms may change places, since meet and join are commutative
-- and associative.
use Rattle.std.specs.Prelude.{◌≡◌, refl, List, [], ◌∷◌}
use Rattle.std.proofs.Common.{sym, ◌∙◌, ap, ap₂}
use Rattle.std.proofs.Math.Option.{Option, none, some}
use Rattle.model.specs.Facts.{Table}
use Rattle.model.specs.Outcome.{Outcomes}
use Rattle.model.specs.Condition.{eval_condition}
use Rattle.model.specs.Decision.{Permit, Denial, Decision, permits, denies, products, meet_in, join_in}
use Rattle.model.specs.Policy.{Policy, permit, deny, grant, all, any, or_else, stored, Policies, pnil, pcons}
use Rattle.model.specs.Evaluate.{eval_grant, first_of, first_deny, all_end, all_from, any_end, any_from, eval_policy, eval_policies}
use Rattle.model.specs.Partial.{reduce_condition, ReducedPolicy, resolved, pending, as_residual, arms, kept, AllWalk, stop, go, step_all, walked_all, AnyWalk, parts, step_any, walked_any, reduce_grant, reduce_or_else, end_all, end_any, permits_first, reduce_policy, reduce_arms}
use Rattle.laws.specs.Each.{Each, Eachs, Agrees}
use Rattle.laws.specs.Products.{Lawful}
use Rattle.laws.proofs.Folds.{meet_permit_outcome, join_permit_outcome}
use Rattle.staging.proofs.BareLaws.{same_products}
use Rattle.staging.proofs.OneSitting.{grant_decided, else_decided}

-- ---- an operation with a unit put on
module _ {A : Type 0} (op : A → A → A) where
  abbrev plus : Option A → Option A → Option A
  plus none y = y
  plus (some a) none = some a
  plus (some a) (some b) = some (op a b)

  plus_none : (x : Option A) → plus x none ≡ x
  plus_none none = refl
  plus_none (some a) = refl

  module _ (comm : (a b : A) → op a b ≡ op b a) (assoc : (a b c : A) → op (op a b) c ≡ op a (op b c)) where
    plus_comm : (x y : Option A) → plus x y ≡ plus y x
    plus_comm none y = sym (plus_none y)
    plus_comm (some a) none = refl
    plus_comm (some a) (some b) = ap some (comm a b)

    plus_assoc : (x y z : Option A) → plus (plus x y) z ≡ plus x (plus y z)
    plus_assoc none y z = refl
    plus_assoc (some a) none z = refl
    plus_assoc (some a) (some b) none = refl
    plus_assoc (some a) (some b) (some c) = ap some (assoc a b c)

    plus_swap : (x y z : Option A) → plus x (plus y z) ≡ plus y (plus x z)
    plus_swap x y z = sym (plus_assoc x y z) ∙ ap (λ w. plus w z) (plus_comm x y) ∙ plus_assoc y x z

-- ---- an operation with a zero put on: a deny in All
module _ {A : Type 0} (op : A → A → A) where
  abbrev times : Option A → Option A → Option A
  times none y = none
  times (some a) none = none
  times (some a) (some b) = some (op a b)

  module _ (comm : (a b : A) → op a b ≡ op b a) (assoc : (a b c : A) → op (op a b) c ≡ op a (op b c)) where
    times_comm : (x y : Option A) → times x y ≡ times y x
    times_comm none none = refl
    times_comm none (some b) = refl
    times_comm (some a) none = refl
    times_comm (some a) (some b) = ap some (comm a b)

    times_assoc : (x y z : Option A) → times (times x y) z ≡ times x (times y z)
    times_assoc none y z = refl
    times_assoc (some a) none z = refl
    times_assoc (some a) (some b) none = refl
    times_assoc (some a) (some b) (some c) = ap some (assoc a b c)

module _ (L : Outcomes) (lawful : Lawful L) where
  -- ---- Any as a sum of products
  abbrev ◌⊕◌ : Option L.O → Option L.O → Option L.O
  ◌⊕◌ x y = plus L.join x y

  infixr 40 ◌⊕◌
  abbrev any_sum : List (Decision L.O) → Option L.O
  any_sum [] = none
  any_sum (d ∷ ds) = products d ⊕ any_sum ds

  abbrev outs : Option (Permit L.O) → Option L.O
  outs none = none
  outs (some p) = some p.outcome

  join_in_out : (sofar : Option (Permit L.O)) (q : Permit L.O) → some (join_in L sofar q).outcome ≡ outs sofar ⊕ some q.outcome
  join_in_out none q = refl
  join_in_out (some p) q = ap some (join_permit_outcome L lawful p q)

  any_end_sum : (sofar : Option (Permit L.O)) (first : Option (Denial L.O)) → products (any_end L sofar first) ≡ outs sofar ⊕ none
  any_end_sum (some p) first = refl
  any_end_sum none (some d) = refl
  any_end_sum none none = refl

  any_from_sum : (sofar : Option (Permit L.O)) (first : Option (Denial L.O)) (ds : List (Decision L.O)) → products (any_from L sofar first ds) ≡ outs sofar ⊕ any_sum ds
  any_from_sum sofar first [] = any_end_sum sofar first
  any_from_sum sofar first (permits q ∷ ds) =
      any_from_sum (some (join_in L sofar q)) first ds
      ∙ ap (λ x. x ⊕ any_sum ds) (join_in_out sofar q)
      ∙ plus_assoc L.join lawful.join_comm lawful.join_assoc (outs sofar) (some q.outcome) (any_sum ds)
  any_from_sum sofar first (denies d ∷ ds) = any_from_sum sofar (some (first_deny first d)) ds

  -- ---- All as a sum: nothing yet, or the products so far
  abbrev ◌⊗◌ : Option (Option L.O) → Option (Option L.O) → Option (Option L.O)
  ◌⊗◌ x y = plus (times L.meet) x y

  infixr 40 ◌⊗◌
  ⊗-assoc : (x y z : Option (Option L.O)) → (x ⊗ y) ⊗ z ≡ x ⊗ (y ⊗ z)
  ⊗-assoc = plus_assoc (times L.meet) (times_comm L.meet lawful.meet_comm lawful.meet_assoc) (times_assoc L.meet lawful.meet_comm lawful.meet_assoc)

  ⊗-swap : (x y z : Option (Option L.O)) → x ⊗ (y ⊗ z) ≡ y ⊗ (x ⊗ z)
  ⊗-swap = plus_swap (times L.meet) (times_comm L.meet lawful.meet_comm lawful.meet_assoc) (times_assoc L.meet lawful.meet_comm lawful.meet_assoc)

  abbrev all_sum : List (Decision L.O) → Option (Option L.O)
  all_sum [] = none
  all_sum (d ∷ ds) = some (products d) ⊗ all_sum ds

  -- an empty All denies
  abbrev close : Option (Option L.O) → Option L.O
  close none = none
  close (some x) = x

  abbrev outs₂ : Option (Permit L.O) → Option (Option L.O)
  outs₂ none = none
  outs₂ (some p) = some (some p.outcome)

  meet_in_out : (sofar : Option (Permit L.O)) (q : Permit L.O) → some (some (meet_in L sofar q).outcome) ≡ outs₂ sofar ⊗ some (some q.outcome)
  meet_in_out none q = refl
  meet_in_out (some p) q = ap (λ o. some (some o)) (meet_permit_outcome L lawful p q)

  all_end_sum : (sofar : Option (Permit L.O)) → products (all_end L sofar) ≡ close (outs₂ sofar ⊗ none)
  all_end_sum none = refl
  all_end_sum (some p) = refl

  -- a deny decides
  deny_left : (y : Option (Option L.O)) → some none ⊗ y ≡ some none
  deny_left none = refl
  deny_left (some y) = refl

  times_none : (x : Option L.O) → times L.meet x none ≡ none
  times_none none = refl
  times_none (some x) = refl

  deny_right : (x : Option (Option L.O)) → close (x ⊗ some none) ≡ none
  deny_right none = refl
  deny_right (some x) = times_none x

  all_from_sum : (sofar : Option (Permit L.O)) (ds : List (Decision L.O)) → products (all_from L sofar ds) ≡ close (outs₂ sofar ⊗ all_sum ds)
  all_from_sum sofar [] = all_end_sum sofar
  all_from_sum sofar (permits q ∷ ds) =
      all_from_sum (some (meet_in L sofar q)) ds
      ∙ ap (λ x. close (x ⊗ all_sum ds)) (meet_in_out sofar q)
      ∙ ap close (⊗-assoc (outs₂ sofar) (some (some q.outcome)) (all_sum ds))
  all_from_sum sofar (denies d ∷ ds) = sym (ap (λ x. close (outs₂ sofar ⊗ x)) (deny_left (all_sum ds)) ∙ deny_right (outs₂ sofar))

  -- ---- the products of what a reduction gives, under the known table K
  module _ (K : Table) where
    abbrev value : ReducedPolicy L.O → Option L.O
    value r = products (eval_policy L K (as_residual r))

    abbrev all_value : AllWalk L.O → Option (Option L.O)
    all_value (stop d) = some none
    all_value (go ps qs) = all_sum (eval_policies L K (arms ps qs))

    abbrev any_value : AnyWalk L.O → Option L.O
    any_value (parts ps first qs) = any_sum (eval_policies L K (arms ps qs))

    -- a pending arm may be moved behind the permits
    all_moved : (ps : List (Permit L.O)) (q : Policy L.O) (qs : Policies L.O) → all_sum (eval_policies L K (arms ps (pcons q qs))) ≡ some (products (eval_policy L K q)) ⊗ all_sum (eval_policies L K (arms ps qs))
    all_moved [] q qs = refl
    all_moved (p ∷ ps) q qs =
        ap (λ x. some (some p.outcome) ⊗ x) (all_moved ps q qs)
        ∙ ⊗-swap (some (some p.outcome)) (some (products (eval_policy L K q))) (all_sum (eval_policies L K (arms ps qs)))

    any_moved : (ps : List (Permit L.O)) (q : Policy L.O) (qs : Policies L.O) → any_sum (eval_policies L K (arms ps (pcons q qs))) ≡ products (eval_policy L K q) ⊕ any_sum (eval_policies L K (arms ps qs))
    any_moved [] q qs = refl
    any_moved (p ∷ ps) q qs =
        ap (λ x. some p.outcome ⊕ x) (any_moved ps q qs)
        ∙ plus_swap L.join lawful.join_comm lawful.join_assoc (some p.outcome) (products (eval_policy L K q)) (any_sum (eval_policies L K (arms ps qs)))

    step_all_lem : (r : ReducedPolicy L.O) (w : AllWalk L.O) → all_value (step_all r w) ≡ some (value r) ⊗ all_value w
    step_all_lem (resolved (denies d)) w = sym (deny_left (all_value w))
    step_all_lem (resolved (permits p)) (stop d) = refl
    step_all_lem (resolved (permits p)) (go ps qs) = refl
    step_all_lem (pending q) (stop d) = sym (ap some (times_none (products (eval_policy L K q))))
    step_all_lem (pending q) (go ps qs) = all_moved ps q qs

    step_any_lem : (r : ReducedPolicy L.O) (w : AnyWalk L.O) → any_value (step_any r w) ≡ value r ⊕ any_value w
    step_any_lem (resolved (denies d)) (parts ps first qs) = refl
    step_any_lem (resolved (permits p)) (parts ps first qs) = refl
    step_any_lem (pending q) (parts ps first qs) = any_moved ps q qs

    -- arms that name nothing are evaluated alike under every table
    arms_any_table : (T : Table) (ps : List (Permit L.O)) → eval_policies L T (arms ps pnil) ≡ eval_policies L K (arms ps pnil)
    arms_any_table T [] = refl
    arms_any_table T (p ∷ ps) = ap (λ ds. permits p ∷ ds) (arms_any_table T ps)

    kept_sum : (T : Table) (ps : List (Permit L.O)) (first : Option (Denial L.O)) (qs : Policies L.O) → any_sum (eval_policies L T (kept ps first qs)) ≡ any_sum (eval_policies L T (arms ps qs))
    kept_sum T [] none qs = refl
    kept_sum T [] (some d) qs = refl
    kept_sum T (p ∷ ps) first qs = refl

    end_all_lem : (T : Table) (w : AllWalk L.O) → value (end_all L T w) ≡ close (all_value w)
    end_all_lem T (stop d) = refl
    end_all_lem T (go ps pnil) = all_from_sum none (eval_policies L T (arms ps pnil)) ∙ ap (λ ds. close (all_sum ds)) (arms_any_table T ps)
    end_all_lem T (go ps (pcons q qs)) = all_from_sum none (eval_policies L K (arms ps (pcons q qs)))

    end_any_lem : (T : Table) (w : AnyWalk L.O) → value (end_any L T w) ≡ any_value w
    end_any_lem T (parts ps first pnil) =
        any_from_sum none none (eval_policies L T (kept ps first pnil)) ∙ kept_sum T ps first pnil ∙ ap any_sum (arms_any_table T ps)
    end_any_lem T (parts ps first (pcons q qs)) =
        any_from_sum none none (eval_policies L K (kept ps first (pcons q qs))) ∙ kept_sum K ps first (pcons q qs)

    abbrev choose : Option L.O → Option L.O → Option L.O
    choose none y = y
    choose (some x) y = some x

    first_of_products : (d e : Decision L.O) → products (first_of d e) ≡ choose (products d) (products e)
    first_of_products (permits p) e = refl
    first_of_products (denies d) e = refl

    else_value : (a b : ReducedPolicy L.O) → value (reduce_or_else a b) ≡ choose (value a) (value b)
    else_value a b = ap products (else_decided L K a b) ∙ first_of_products (eval_policy L K (as_residual a)) (eval_policy L K (as_residual b))

    module _ (P : Table) where
      mutual
        -- Reducing keeps effect and products under K.
        pub red_sound : (t : Policy L.O) → Each (Agrees K P) t → value (reduce_policy L permits_first P t) ≡ products (eval_policy L K t)
        red_sound (permit x) h = refl
        red_sound deny h = refl
        red_sound (grant g c) h =
            same_products (eval_policy L K (as_residual (reduce_grant g (eval_condition P c) (reduce_condition P c)))) (eval_grant g (eval_condition K c)) (grant_decided L K P g c h)
        red_sound (all ts) h = end_all_lem P (walked_all (reduce_arms L permits_first P ts)) ∙ ap close (red_all_sound ts h) ∙ sym (all_from_sum none (eval_policies L K ts))
        red_sound (any ts) h = end_any_lem P (walked_any (reduce_arms L permits_first P ts)) ∙ red_any_sound ts h ∙ sym (any_from_sum none none (eval_policies L K ts))
        red_sound (or_else a b) h =
            else_value (reduce_policy L permits_first P a) (reduce_policy L permits_first P b) ∙ ap₂ choose (red_sound a h.0) (red_sound b h.1) ∙ sym (first_of_products (eval_policy L K a) (eval_policy L K b))
        red_sound (stored d) h = refl

        red_all_sound : (ts : Policies L.O) → Eachs (Agrees K P) ts → all_value (walked_all (reduce_arms L permits_first P ts)) ≡ all_sum (eval_policies L K ts)
        red_all_sound pnil h = refl
        red_all_sound (pcons t ts) h =
            step_all_lem (reduce_policy L permits_first P t) (walked_all (reduce_arms L permits_first P ts)) ∙ ap₂ (λ x y. some x ⊗ y) (red_sound t h.0) (red_all_sound ts h.1)

        red_any_sound : (ts : Policies L.O) → Eachs (Agrees K P) ts → any_value (walked_any (reduce_arms L permits_first P ts)) ≡ any_sum (eval_policies L K ts)
        red_any_sound pnil h = refl
        red_any_sound (pcons t ts) h =
            step_any_lem (reduce_policy L permits_first P t) (walked_any (reduce_arms L permits_first P ts)) ∙ ap₂ (λ x y. x ⊕ y) (red_sound t h.0) (red_any_sound ts h.1)
