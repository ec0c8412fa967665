-- Demand 3 at the level of trees.
use Rattle.std.specs.Prelude.{◌≡◌, refl, List, [], ◌∷◌, ℕ}
use Rattle.std.proofs.Common.{◌∙◌, ap}
use Rattle.std.proofs.Math.Option.{Option, none, some}
use Rattle.model.specs.Facts.{unknown, Table}
use Rattle.model.specs.Outcome.{Outcomes}
use Rattle.model.specs.Condition.{Condition, always, never, has, not_c, all_c, any_c, Conditions, cnil, ccons, ConditionEval, eval_condition}
use Rattle.model.specs.Decision.{Permit, Denial, Decision, permits, denies, products}
use Rattle.model.specs.Policy.{Grant, Policy, permit, deny, grant, all, any, or_else, stored, Policies, pnil, pcons}
use Rattle.model.specs.Evaluate.{eval_policy}
use Rattle.model.specs.Partial.{ReducedCondition, known, pending_c, reduce_condition, ReducedPolicy, resolved, pending, as_residual, arms, kept, AllWalk, stop, go, step_all, walked_all, AnyWalk, parts, step_any, walked_any, up_to_deny, in_order, reduce_grant, reduce_or_else, end_all, end_any, Order, permits_first, sheet_order, all_of, any_of, reduce_policy, reduce_arms}
use Rattle.model.specs.Consulted.{Consulted}
use Rattle.model.specs.Record.{Record, tree, reduced, narrowed_from, narrowed, completed_from, completed}
use Rattle.laws.specs.Each.{EachC, EachCs, Each, Eachs, Agrees}
use Rattle.laws.specs.Products.{Lawful}
use Rattle.staging.proofs.ConditionLaws.{each_all, EachR, Left, red_c_left}
use Rattle.staging.specs.Bare.{bare}
use Rattle.staging.proofs.BareLaws.{same_products}
use Rattle.staging.proofs.OneSitting.{ordered_sound}
use Rattle.staging.proofs.PolicyLaws.{red_sound}
use Rattle.staging.proofs.Arms.{up_to_deny_lem, ends_in_order}
use Rattle.staging.specs.Chain.{Step, InOrder, AllOf, run}

-- Where Q gives R, what has Q throughout has R throughout.
pub all_map : (Q R : Step → Type 0) (ss : List Step) → ((s : Step) → Q s → R s) → AllOf Q ss → AllOf R ss
all_map Q R [] f h = tt
all_map Q R (s ∷ ss) f h = (f s h.0, all_map Q R ss f h.1)

-- ---- what holds of each fact that a tree names
module _ {Q R : ℕ → Type 0} (f : (n : ℕ) → Q n → R n) where
  mutual
    each_c_map : (c : Condition) → EachC Q c → EachC R c
    each_c_map always h = tt
    each_c_map never h = tt
    each_c_map (has n) h = f n h
    each_c_map (not_c c) h = each_c_map c h
    each_c_map (all_c cs) h = each_cs_map cs h
    each_c_map (any_c cs) h = each_cs_map cs h

    each_cs_map : (cs : Conditions) → EachCs Q cs → EachCs R cs
    each_cs_map cnil h = tt
    each_cs_map (ccons c cs) h = (each_c_map c h.0, each_cs_map cs h.1)

  mutual
    pub each_map : {O : Type 0} (t : Policy O) → Each Q t → Each R t
    each_map (permit o) h = tt
    each_map deny h = tt
    each_map (grant g c) h = each_c_map c h
    each_map (all ts) h = eachs_map ts h
    each_map (any ts) h = eachs_map ts h
    each_map (or_else a b) h = (each_map a h.0, each_map b h.1)
    each_map (stored d) h = tt

    eachs_map : {O : Type 0} (ts : Policies O) → Eachs Q ts → Eachs R ts
    eachs_map pnil h = tt
    eachs_map (pcons t ts) h = (each_map t h.0, eachs_map ts h.1)

mutual
  pub each_every : {O : Type 0} {Q : ℕ → Type 0} → ((f : ℕ) → Q f) → (t : Policy O) → Each Q t
  each_every q (permit o) = tt
  each_every q deny = tt
  each_every q (grant g c) = each_all q c
  each_every q (all ts) = eachs_every q ts
  each_every q (any ts) = eachs_every q ts
  each_every q (or_else a b) = (each_every q a, each_every q b)
  each_every q (stored d) = tt

  eachs_every : {O : Type 0} {Q : ℕ → Type 0} → ((f : ℕ) → Q f) → (ts : Policies O) → Eachs Q ts
  eachs_every q pnil = tt
  eachs_every q (pcons t ts) = (each_every q t, eachs_every q ts)

-- ---- the walks
abbrev EachAll : {O : Type 0} → (ℕ → Type 0) → AllWalk O → Type 0
EachAll Q (stop d) = Unit {0}
EachAll Q (go ps qs) = Eachs Q qs

abbrev EachAny : {O : Type 0} → (ℕ → Type 0) → AnyWalk O → Type 0
EachAny Q (parts ps first qs) = Eachs Q qs

module _ (Q : ℕ → Type 0) {O : Type 0} where
  each_arms : (ps : List (Permit O)) (qs : Policies O) → Eachs Q qs → Eachs Q (arms ps qs)
  each_arms [] qs h = h
  each_arms (p ∷ ps) qs h = (tt, each_arms ps qs h)

  each_kept : (ps : List (Permit O)) (first : Option (Denial O)) (qs : Policies O) → Eachs Q qs → Eachs Q (kept ps first qs)
  each_kept [] none qs h = h
  each_kept [] (some d) qs h = (tt, h)
  each_kept (p ∷ ps) first qs h = (tt, each_arms ps qs h)

  each_step_all : (r : ReducedPolicy O) (w : AllWalk O) → Each Q (as_residual r) → EachAll Q w → EachAll Q (step_all r w)
  each_step_all (resolved (denies d)) w h k = tt
  each_step_all (resolved (permits p)) (stop d) h k = tt
  each_step_all (resolved (permits p)) (go ps qs) h k = k
  each_step_all (pending q) (stop d) h k = tt
  each_step_all (pending q) (go ps qs) h k = (h, k)

  each_step_any : (r : ReducedPolicy O) (w : AnyWalk O) → Each Q (as_residual r) → EachAny Q w → EachAny Q (step_any r w)
  each_step_any (resolved (denies d)) (parts ps first qs) h k = k
  each_step_any (resolved (permits p)) (parts ps first qs) h k = k
  each_step_any (pending q) (parts ps first qs) h k = (h, k)

  each_grant : (g : Grant O) (v : ConditionEval) (r : ReducedCondition) → EachR Q r → Each Q (as_residual (reduce_grant g v r))
  each_grant g v (known b) h = tt
  each_grant g v (pending_c c) h = h

  each_else : (a b : ReducedPolicy O) → Each Q (as_residual a) → Each Q (as_residual b) → Each Q (as_residual (reduce_or_else a b))
  each_else (resolved (permits p)) b h k = tt
  each_else (resolved (denies d)) b h k = k
  each_else (pending a) b h k = (h, k)

module _ (L : Outcomes) (Q : ℕ → Type 0) where
  each_end_all : (T : Table) (w : AllWalk L.O) → EachAll Q w → Each Q (as_residual (end_all L T w))
  each_end_all T (stop d) h = tt
  each_end_all T (go ps pnil) h = tt
  each_end_all T (go ps (pcons q qs)) h = each_arms Q ps (pcons q qs) h

  each_end_any : (T : Table) (w : AnyWalk L.O) → EachAny Q w → Each Q (as_residual (end_any L T w))
  each_end_any T (parts ps first pnil) h = tt
  each_end_any T (parts ps first (pcons q qs)) h = each_kept Q ps first (pcons q qs) h

  each_walked_all : (rs : List (ReducedPolicy L.O)) → Eachs Q (in_order rs) → EachAll Q (walked_all rs)
  each_walked_all [] h = tt
  each_walked_all (r ∷ rs) h = each_step_all Q r (walked_all rs) h.0 (each_walked_all rs h.1)

  each_walked_any : (rs : List (ReducedPolicy L.O)) → Eachs Q (in_order rs) → EachAny Q (walked_any rs)
  each_walked_any [] h = tt
  each_walked_any (r ∷ rs) h = each_step_any Q r (walked_any rs) h.0 (each_walked_any rs h.1)

  each_all_of : (o : Order) (T : Table) (rs : List (ReducedPolicy L.O)) → Eachs Q (in_order rs) → Each Q (as_residual (all_of L o T rs))
  each_all_of permits_first T rs h = each_end_all T (walked_all rs) (each_walked_all rs h)
  each_all_of sheet_order T rs h = ends_in_order L (Each Q) all T (up_to_deny rs) (up_to_deny_lem (λ ts us. Eachs Q us → Eachs Q ts) (λ ts h. tt) (λ t ts us k h. (h.0, k h.1)) rs h) tt

  each_any_of : (o : Order) (T : Table) (rs : List (ReducedPolicy L.O)) → Eachs Q (in_order rs) → Each Q (as_residual (any_of L o T rs))
  each_any_of permits_first T rs h = each_end_any T (walked_any rs) (each_walked_any rs h)
  each_any_of sheet_order T rs h = ends_in_order L (Each Q) any T rs h tt

module _ (L : Outcomes) (o : Order) (P : Table) (Q : ℕ → Type 0) where
  mutual
    -- What is left names only facts that the source names and that P reads as Unknown.
    pub red_left : (t : Policy L.O) → Each Q t → Each (Left Q P) (as_residual (reduce_policy L o P t))
    red_left (permit x) h = tt
    red_left deny h = tt
    red_left (grant g c) h = each_grant (Left Q P) g (eval_condition P c) (reduce_condition P c) (red_c_left Q P c h)
    red_left (all ts) h = each_all_of L (Left Q P) o P (reduce_arms L o P ts) (red_arms_left ts h)
    red_left (any ts) h = each_any_of L (Left Q P) o P (reduce_arms L o P ts) (red_arms_left ts h)
    red_left (or_else a b) h = each_else (Left Q P) (reduce_policy L o P a) (reduce_policy L o P b) (red_left a h.0) (red_left b h.1)
    red_left (stored d) h = tt

    red_arms_left : (ts : Policies L.O) → Eachs Q ts → Eachs (Left Q P) (in_order (reduce_arms L o P ts))
    red_arms_left pnil h = tt
    red_arms_left (pcons t ts) h = (red_left t h.0, red_arms_left ts h.1)

-- Reducing by either order keeps effect and products; in sheet order with no law of meet and join.
either_sound : (L : Outcomes) (lawful : Lawful L) (K : Table) (o : Order) (P : Table) (t : Policy L.O) → Each (Agrees K P) t → products (eval_policy L K (as_residual (reduce_policy L o P t))) ≡ products (eval_policy L K t)
either_sound L lawful K permits_first P t h = red_sound L lawful K P t h
either_sound L lawful K sheet_order P t h = same_products (eval_policy L K (as_residual (reduce_policy L sheet_order P t))) (eval_policy L K t) (ordered_sound L K P t h)

-- ---- the chain
module _ (L : Outcomes) where
  -- What a narrowing leaves names what the record names, and open facts only.
  narrow_left : (Q : ℕ → Type 0) (o : Order) (P : Table) (b : ReducedPolicy L.O) (l : Consulted) → Each Q (as_residual b) → Each (Left Q P) (tree (narrowed_from L o P b l))
  narrow_left Q o P (resolved d) l h = tt
  narrow_left Q o P (pending t) l h = red_left L o P Q t h

  pub narrow_keeps : (Q : ℕ → Type 0) (s : Step) (r : Record L.O) → Each Q (tree r) → Each Q (tree (narrowed L s.order s.table r))
  narrow_keeps Q s r h = each_map (λ n x. x.0) (tree (narrowed L s.order s.table r)) (narrow_left Q s.order s.table r.body r.log h)

  narrow_settles : (s : Step) (r : Record L.O) → Each (λ f. s.table f ≡ unknown) (tree (narrowed L s.order s.table r))
  narrow_settles s r =
      each_map (λ n x. x.1) (tree (narrowed L s.order s.table r)) (narrow_left (λ _. Unit {0}) s.order s.table r.body r.log (each_every (λ _. tt) (tree r)))

  run_keeps : (Q : ℕ → Type 0) (r : Record L.O) (ss : List Step) → Each Q (tree r) → Each Q (tree (run L r ss))
  run_keeps Q r [] h = h
  run_keeps Q r (s ∷ ss) h = run_keeps Q (narrowed L s.order s.table r) ss (narrow_keeps Q s r h)

  run_settles : (r : Record L.O) (ss : List Step) → AllOf (λ s. Each (λ f. s.table f ≡ unknown) (tree (run L r ss))) ss
  run_settles r [] = tt
  run_settles r (s ∷ ss) =
      let n = narrowed L s.order s.table r in
      (run_keeps (λ f. s.table f ≡ unknown) n ss (narrow_settles s r), run_settles n ss)

  -- ---- under a known table
  module _ (K : Table) where
    -- The tables of the list agree on what the tree names.
    abbrev AgreeOn : Policy L.O → List Step → Type 0
    AgreeOn t ss = AllOf (λ s. Each (Agrees K s.table) t) ss

    narrow_agrees : (s : Step) (r : Record L.O) (ss : List Step) → AgreeOn (tree r) ss → AgreeOn (tree (narrowed L s.order s.table r)) ss
    narrow_agrees s r ss h =
        all_map (λ u. Each (Agrees K u.table) (tree r)) (λ u. Each (Agrees K u.table) (tree (narrowed L s.order s.table r))) ss (λ u k. narrow_keeps (Agrees K u.table) s r k) h

    reduce_agrees : (o : Order) (P : Table) (t : Policy L.O) (ss : List Step) → AgreeOn t ss → AgreeOn (as_residual (reduce_policy L o P t)) ss
    reduce_agrees o P t ss h =
        all_map (λ s. Each (Agrees K s.table) t) (λ s. Each (Agrees K s.table) (as_residual (reduce_policy L o P t))) ss
        (λ s k. each_map (λ n x. x.0) (as_residual (reduce_policy L o P t)) (red_left L o P (Agrees K s.table) t k)) h

    -- Effect and products: by either order, and by both mixed.
    narrow_sound : Lawful L → (o : Order) (P : Table) (b : ReducedPolicy L.O) (l : Consulted) → Each (Agrees K P) (as_residual b) → products (eval_policy L K (tree (narrowed_from L o P b l))) ≡ products (eval_policy L K (as_residual b))
    narrow_sound lawful o P (resolved d) l h = refl
    narrow_sound lawful o P (pending t) l h = either_sound L lawful K o P t h

    run_sound : Lawful L → (r : Record L.O) (ss : List Step) → AgreeOn (tree r) ss → products (eval_policy L K (tree (run L r ss))) ≡ products (eval_policy L K (tree r))
    run_sound lawful r [] h = refl
    run_sound lawful r (s ∷ ss) h =
        run_sound lawful (narrowed L s.order s.table r) ss (narrow_agrees s r ss h.1) ∙ narrow_sound lawful s.order s.table r.body r.log h.0

    -- All but the facts: in sheet order.
    reduce_whole : (o : Order) (P : Table) (t : Policy L.O) → o ≡ sheet_order → Each (Agrees K P) t → bare (eval_policy L K (as_residual (reduce_policy L o P t))) ≡ bare (eval_policy L K t)
    reduce_whole o P t e h = ap (λ x. bare (eval_policy L K (as_residual (reduce_policy L x P t)))) e ∙ ordered_sound L K P t h

    narrow_whole : (o : Order) (P : Table) (b : ReducedPolicy L.O) (l : Consulted) → o ≡ sheet_order → Each (Agrees K P) (as_residual b) → bare (eval_policy L K (tree (narrowed_from L o P b l))) ≡ bare (eval_policy L K (as_residual b))
    narrow_whole o P (resolved d) l e h = refl
    narrow_whole o P (pending t) l e h = reduce_whole o P t e h

    run_whole : (r : Record L.O) (ss : List Step) → AllOf InOrder ss → AgreeOn (tree r) ss → bare (eval_policy L K (tree (run L r ss))) ≡ bare (eval_policy L K (tree r))
    run_whole r [] e h = refl
    run_whole r (s ∷ ss) e h =
        run_whole (narrowed L s.order s.table r) ss e.1 (narrow_agrees s r ss h.1) ∙ narrow_whole s.order s.table r.body r.log e.0 h.0

    -- Completing resolves, to what the record's tree decides under K.
    complete_is : (b : ReducedPolicy L.O) (l : Consulted) → (completed_from L K b l).body ≡ resolved (eval_policy L K (as_residual b))
    complete_is (resolved d) l = refl
    complete_is (pending t) l = refl

-- The whole list of calls, from a reduction of the sheet t by the order o with the table P, under the known table K.
pub record TreeStaged (L : Outcomes) (K : Table) (o : Order) (P : Table) (t : Policy L.O) (ss : List Step) : Type 0 where
  -- the completion is resolved, with direct evaluation's effect and products
  pub decision : Decision L.O
  pub completes : (completed L K (run L (reduced L o P t) ss)).body ≡ resolved decision
  pub same_products : Lawful L → products decision ≡ products (eval_policy L K t)
  -- in sheet order throughout, with its whole decision but for the facts
  pub same_but_facts : o ≡ sheet_order → AllOf InOrder ss → bare decision ≡ bare (eval_policy L K t)
  -- what is left names no fact that one of the tables reads as Present or Absent
  pub settled_first : Each (λ f. P f ≡ unknown) (tree (run L (reduced L o P t) ss))
  pub settled_later : AllOf (λ s. Each (λ f. s.table f ≡ unknown) (tree (run L (reduced L o P t) ss))) ss

pub staged : (L : Outcomes) (K : Table) (o : Order) (P : Table) (t : Policy L.O) (ss : List Step) → Each (Agrees K P) t → AllOf (λ s. Each (Agrees K s.table) t) ss → TreeStaged L K o P t ss
staged L K o P t ss h hs =
    let r₀ = reduced L o P t in
    let r = run L r₀ ss in
    let agree = reduce_agrees L K o P t ss hs in
    record {
      decision = eval_policy L K (tree r);
      completes = complete_is L K r.body r.log;
      same_products = λ lawful. run_sound L K lawful r₀ ss agree ∙ either_sound L lawful K o P t h;
      same_but_facts = λ e es. run_whole L K r₀ ss es agree ∙ reduce_whole L K o P t e h;
      settled_first = run_keeps L (λ f. P f ≡ unknown) r₀ ss (each_map (λ n x. x.1) (as_residual (reduce_policy L o P t)) (red_left L o P (Agrees K P) t h));
      settled_later = run_settles L r₀ ss;
    }
