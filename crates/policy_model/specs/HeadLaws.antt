-- A node read by its kind and its other bits is the node read by its head: for every walk over the words.
use Rattle.std.specs.Prelude as prelude
use Rattle.std.specs.Prelude.{◌≡◌, Bool, Some, None, ◌&&◌, List, ◌∷◌, eqb, ltb, leb, get_or}
use Rattle.std.proofs.Math.Logic.{◌⊎◌, inl, inr}
use Rattle.std.proofs.Math.Path.{refl}
use Rattle.std.proofs.Common.{sym, ◌∙◌, ap, eq-eqb, leb-true, ltb-true, lt-ltb, le-ltb}
use Rattle.std.proofs.Math.Bool.{true, false, cond}
use Rattle.std.proofs.Math.Option.{none, some}
use Prim.Native.Nat.{ℕ, zero, suc, ◌+◌, ◌-◌, ◌/◌, ◌%◌, ◌≤◌, ◌<◌}
use native.Mathlib.Omega.{arith}
use Rattle.std.proofs.lemmas.Bool.{lt-leb}
use Rattle.model.specs.Outcome.{below}
use Rattle.model.specs.Condition.{Condition}
use Rattle.model.specs.Decision.{Decision}
use Rattle.model.specs.Policy.{Policy, permit}
use Rattle.model.specs.Reading.{Parsed, refuse, got, next, unless, another, kind_of, rest_of, node_c, read_condition, in_residual, node, most_obligations}
use Rattle.model.specs.Reading as reading
use Rattle.model.specs.Products.{Outcome, grant_more, more12, more13, as_stored, last_kind, read_policy}
use Rattle.policy_model.specs.declared.ConditionHead.{ConditionHead}
use Rattle.policy_model.specs.declared.ConditionHead.TheVariants.{Always, Never, Has, Not}
use Rattle.policy_model.specs.declared.ConditionHead.TheVariants as condition
use Rattle.policy_model.specs.declared.PolicyHead.{PolicyHead}
use Rattle.policy_model.specs.declared.PolicyHead.TheVariants.{Permit, Deny, Grant, OrElse, PermitWithTrace, DenyWithTrace}
use Rattle.policy_model.specs.declared.PolicyHead.TheVariants as policy
use Rattle.policy_model.specs.Heads.{condition_heads, condition_head, condition_node, deep_condition, permit_head, grant_head, permit_trace_head, deny_trace_head, policy_heads, policy_head, within_most, shape_by, bit_of, permit_trace_node, deny_trace_node, grant_node, policy_node, deep_policy}

-- ---- conditions
module _ (p : List ℕ → Parsed Condition) (ws : List ℕ) where
  field_c : (b : Bool) (h : ConditionHead) → unless b 8 (condition_node p h ws) ≡ condition_node p (cond b h condition.BadField) ws
  unfolding condition_node
  field_c true h = refl
  field_c false h = refl

  condition_by_head : (k r : ℕ) → node_c p k r ws ≡ condition_node p (get_or (condition_heads r) k condition.BadKind) ws
  unfolding condition_node
  condition_by_head zero r = field_c (eqb r 0) Always
  condition_by_head (suc zero) r = field_c (eqb r 0) Never
  condition_by_head (suc (suc zero)) r = field_c (ltb r 1024) (Has r)
  condition_by_head (suc (suc (suc zero))) r = field_c (eqb r 0) Not
  condition_by_head (suc (suc (suc (suc zero)))) r = field_c (ltb r 4096) (condition.All r)
  condition_by_head (suc (suc (suc (suc (suc zero))))) r = field_c (ltb r 4096) (condition.Any r)
  condition_by_head (suc (suc (suc (suc (suc (suc k)))))) r = refl

-- A condition's first word at a level that is allowed, and below the last one.
pub condition_node_lem : (d w : ℕ) (ws : List ℕ) → read_condition (suc d) (w ∷ ws) ≡ condition_node (λ vs. read_condition d vs) (condition_head w) ws
unfolding condition_head
condition_node_lem d w ws = condition_by_head (λ vs. read_condition d vs) ws (kind_of w) (rest_of w)

deep_field_c : (b : Bool) (h : ConditionHead) → deep_condition h ≡ 7 → deep_condition (cond b h condition.BadField) ≡ 7
deep_field_c true h e = e
deep_field_c false h e = refl

deep_kind_c : (k r : ℕ) → unless {A = Condition} (ltb k 6) 5 (refuse 7) ≡ refuse (deep_condition (get_or (condition_heads r) k condition.BadKind))
deep_kind_c zero r = ap refuse (sym (deep_field_c (eqb r 0) Always refl))
deep_kind_c (suc zero) r = ap refuse (sym (deep_field_c (eqb r 0) Never refl))
deep_kind_c (suc (suc zero)) r = ap refuse (sym (deep_field_c (ltb r 1024) (Has r) refl))
deep_kind_c (suc (suc (suc zero))) r = ap refuse (sym (deep_field_c (eqb r 0) Not refl))
deep_kind_c (suc (suc (suc (suc zero)))) r = ap refuse (sym (deep_field_c (ltb r 4096) (condition.All r) refl))
deep_kind_c (suc (suc (suc (suc (suc zero))))) r = ap refuse (sym (deep_field_c (ltb r 4096) (condition.Any r) refl))
deep_kind_c (suc (suc (suc (suc (suc (suc k)))))) r = ap (λ b. unless {A = Condition} b 5 (refuse 7)) (le-ltb (suc (suc (suc (suc (suc (suc k)))))) 6 (omega arith))

pub condition_deep : (w : ℕ) (ws : List ℕ) → read_condition zero (w ∷ ws) ≡ refuse (deep_condition (condition_head w))
unfolding condition_head
condition_deep w ws = deep_kind_c (kind_of w) (rest_of w)

-- ---- policies

-- A field of one bit as a shape.
pub bit_is : (n : ℕ) → n < 2 → bit_of (shape_by (eqb n 1)) ≡ n
bit_is zero h = refl
bit_is (suc zero) h = refl
bit_is (suc (suc n)) h = let z : ⊥ = omega arith in absurd z

-- By a number of outcomes.
module _ (most : ℕ) (pc : List ℕ → Parsed Condition) (p : List ℕ → Parsed (Policy Outcome)) (ws : List ℕ) where
  abbrev NodeBy : PolicyHead → Parsed (Policy Outcome)
  NodeBy h = unless (within_most most h) 8 (policy_node pc p h ws)

  field_p : (b : Bool) (h : PolicyHead) (q : Parsed (Policy Outcome)) → q ≡ NodeBy h → unless b 8 q ≡ NodeBy (cond b h policy.BadField)
  unfolding policy_node
  field_p true h q e = e
  field_p false h q e = refl

  -- The outcome's field: a number below `most`.
  outcome_p : (b : Bool) (o : ℕ) (h : PolicyHead) (k : ℕ → Parsed (Policy Outcome)) → k o ≡ policy_node pc p h ws →
      reading.outcome_of (below most) (cond b (some o) none) k ≡ unless b 8 (policy_node pc p h ws)
  outcome_p true o h k e = e
  outcome_p false o h k e = refl

  outcome_d : (b : Bool) (o : ℕ) (h : PolicyHead) (k : ℕ → Parsed (Decision Outcome)) → as_stored (k o) ≡ policy_node pc p h ws →
      as_stored (reading.outcome_of (below most) (cond b (some o) none) k) ≡ unless b 8 (policy_node pc p h ws)
  outcome_d true o h k e = e
  outcome_d false o h k e = refl

  -- 6 Permit, 8 Grant
  permit_by_head : (r : ℕ) → reading.permit_at (below most) r ws ≡ NodeBy (permit_head r)
  unfolding policy_node permit_head
  permit_by_head r =
      let o = r % 65536 in
      let h = Permit o in
      field_p (eqb (r / 65536) 0) h (reading.outcome_of (below most) (below most o) (λ v. got (permit v) ws)) (outcome_p (ltb o most) o h (λ v. got (permit v) ws) refl)

  grant_by_head : (r : ℕ) → r < 268435456 → reading.grant_at (below most) pc r ws ≡ NodeBy (grant_head r)
  unfolding policy_node grant_head grant_node
  grant_by_head r hr =
      let sh = r / 134217728 in
      let n = r / 1048576 % 128 in
      let z = r / 65536 % 16 in
      let o = r % 65536 in
      let more : ℕ → ℕ → Parsed (Policy Outcome) = λ s v. another ws (λ w vs. grant_more pc s n v (w / 65536) (w % 65536) vs) in
      let h = Grant (shape_by (eqb sh 1)) n o in
      let q = reading.outcome_of (below most) (below most o) (more sh) in
      let given : q ≡ NodeBy h = outcome_p (ltb o most) o h (more sh) (ap (λ s. more s o) (sym (bit_is sh (omega arith)))) in
      field_p (leb n most_obligations) (cond (eqb z 0) h policy.BadField) (unless (eqb z 0) 8 q) (field_p (eqb z 0) h q given)

  -- 12 PermitWithTrace, 13 DenyWithTrace
  stored_field : (b : Bool) (q : Parsed (Decision Outcome)) → as_stored (unless b 8 q) ≡ unless b 8 (as_stored q)
  stored_field true q = refl
  stored_field false q = refl

  permit_trace_by_head : (r : ℕ) → as_stored (reading.at12 (below most) r ws) ≡ NodeBy (permit_trace_head r)
  unfolding policy_node permit_trace_head permit_trace_node
  permit_trace_by_head r =
      let sh = r / 134217728 in
      let n = r / 1048576 % 128 in
      let z = r / 65536 % 16 in
      let o = r % 65536 in
      let more : ℕ → Parsed (Decision Outcome) = λ v. another ws (λ w vs. more12 n v (w / 65536) (w % 65536) vs) in
      let q₃ = reading.outcome_of (below most) (below most o) more in
      let q₂ = unless (eqb z 0) 8 q₃ in
      let h₃ = PermitWithTrace n o in
      let h₂ = cond (eqb z 0) h₃ policy.BadField in
      let e₃ : as_stored q₃ ≡ NodeBy h₃ = outcome_d (ltb o most) o h₃ more refl in
      let e₂ : as_stored q₂ ≡ NodeBy h₂ = stored_field (eqb z 0) q₃ ∙ field_p (eqb z 0) h₃ (as_stored q₃) e₃ in
      stored_field (eqb sh 0) q₂ ∙ field_p (eqb sh 0) h₂ (as_stored q₂) e₂

  -- the denied outcome, by its present bit
  denied_by_head : (sh here r : ℕ) → sh < 2 → here < 2 →
      as_stored (reading.denied_of (below most) here (r % 65536) (λ den. another ws (λ w vs. more13 sh den (w / 65536) (w % 65536) vs)))
      ≡ NodeBy (cond (eqb here 1) (DenyWithTrace (shape_by (eqb sh 1)) (Some (r % 65536))) (cond (eqb (r % 65536) 0) (DenyWithTrace (shape_by (eqb sh 1)) None) policy.BadField))
  unfolding policy_node deny_trace_node
  denied_by_head sh zero r hs hh =
      let more : ℕ → Parsed (Decision Outcome) = λ s. another ws (λ w vs. more13 s none (w / 65536) (w % 65536) vs) in
      stored_field (eqb (r % 65536) 0) (more sh)
      ∙ field_p (eqb (r % 65536) 0) (DenyWithTrace (shape_by (eqb sh 1)) None) (as_stored (more sh)) (ap (λ s. as_stored (more s)) (sym (bit_is sh hs)))
  denied_by_head sh (suc zero) r hs hh =
      let more : ℕ → ℕ → Parsed (Decision Outcome) = λ s v. another ws (λ w vs. more13 s (some v) (w / 65536) (w % 65536) vs) in
      outcome_d (ltb (r % 65536) most) (r % 65536) (DenyWithTrace (shape_by (eqb sh 1)) (Some (r % 65536))) (more sh) (ap (λ s. as_stored (more s (r % 65536))) (sym (bit_is sh hs)))
  denied_by_head sh (suc (suc here)) r hs hh = let z : ⊥ = omega arith in absurd z

  deny_trace_by_head : (r : ℕ) → r < 268435456 → as_stored (reading.at13 (below most) r ws) ≡ NodeBy (deny_trace_head r)
  unfolding policy_node deny_trace_head
  deny_trace_by_head r hr =
      let sh = r / 134217728 in
      let here = r / 67108864 % 2 in
      let z = r / 65536 % 1024 in
      let q = reading.denied_of (below most) here (r % 65536) (λ den. another ws (λ w vs. more13 sh den (w / 65536) (w % 65536) vs)) in
      let h = cond (eqb here 1) (DenyWithTrace (shape_by (eqb sh 1)) (Some (r % 65536))) (cond (eqb (r % 65536) 0) (DenyWithTrace (shape_by (eqb sh 1)) None) policy.BadField) in
      stored_field (eqb z 0) q ∙ field_p (eqb z 0) h (as_stored q) (denied_by_head sh here r (omega arith) (omega arith))

  in_residual_lem : (res : Bool) (h : PolicyHead) (q : Parsed (Policy Outcome)) → q ≡ NodeBy h → in_residual (below most) res q ≡ NodeBy (cond res h policy.BadKind)
  unfolding policy_node
  in_residual_lem true h q e = e
  in_residual_lem false h q e = refl

  node_p_by_head : (res : Bool) (j r : ℕ) → r < 268435456 → reading.node_p (below most) res pc p j r ws ≡ NodeBy (get_or (policy_heads res r) j policy.BadKind)
  unfolding policy_node
  node_p_by_head res zero r hr = permit_by_head r
  node_p_by_head res (suc zero) r hr = field_p (eqb r 0) Deny (NodeBy Deny) refl
  node_p_by_head res (suc (suc zero)) r hr = grant_by_head r hr
  node_p_by_head res (suc (suc (suc zero))) r hr = field_p (ltb r 4096) (policy.All r) (NodeBy (policy.All r)) refl
  node_p_by_head res (suc (suc (suc (suc zero)))) r hr = field_p (ltb r 4096) (policy.Any r) (NodeBy (policy.Any r)) refl
  node_p_by_head res (suc (suc (suc (suc (suc zero))))) r hr = field_p (eqb r 0) OrElse (NodeBy OrElse) refl
  node_p_by_head res (suc (suc (suc (suc (suc (suc zero)))))) r hr = in_residual_lem res (permit_trace_head r) (as_stored (reading.at12 (below most) r ws)) (permit_trace_by_head r)
  node_p_by_head res (suc (suc (suc (suc (suc (suc (suc zero))))))) r hr = in_residual_lem res (deny_trace_head r) (as_stored (reading.at13 (below most) r ws)) (deny_trace_by_head r hr)
  node_p_by_head res (suc (suc (suc (suc (suc (suc (suc (suc j)))))))) r hr = refl

  kind_p : (b : Bool) (h : PolicyHead) (q : Parsed (Policy Outcome)) → q ≡ NodeBy h → unless b 5 q ≡ NodeBy (cond b h policy.BadKind)
  unfolding policy_node
  kind_p true h q e = e
  kind_p false h q e = refl

  policy_by_head : (res : Bool) (w : ℕ) → node (below most) res pc p (kind_of w) (rest_of w) ws ≡ NodeBy (policy_head w res)
  unfolding policy_head
  policy_by_head res w =
      kind_p (leb 6 (kind_of w)) (get_or (policy_heads res (rest_of w)) (kind_of w - 6) policy.BadKind) (reading.node_p (below most) res pc p (kind_of w - 6) (rest_of w) ws)
      (node_p_by_head res (kind_of w - 6) (rest_of w) (omega arith))

-- A policy's first word at a level that is allowed, by a number of outcomes: 8 where its outcome is none of them.
pub policy_node_by : (most : ℕ) (res : Bool) (d w : ℕ) (ws : List ℕ) →
    reading.read_policy (below most) res (suc d) (w ∷ ws)
    ≡ unless (within_most most (policy_head w res)) 8 (policy_node (λ vs. read_condition d vs) (λ vs. reading.read_policy (below most) res d vs) (policy_head w res) ws)
policy_node_by most res d w ws = policy_by_head most (λ vs. read_condition d vs) (λ vs. reading.read_policy (below most) res d vs) ws res w

-- What a policy's first word can say, by its kind.
pub record HeadCases (P : PolicyHead → Type 0) (w : ℕ) (res : Bool) : Type 0 where
  pub bad_kind_is : P policy.BadKind
  pub bad_field_is : P policy.BadField
  pub permit_is : kind_of w ≡ 6 → P (Permit (rest_of w % 65536))
  pub deny_is : kind_of w ≡ 7 → P Deny
  pub grant_is : kind_of w ≡ 8 → P (Grant (shape_by (eqb (rest_of w / 134217728) 1)) (rest_of w / 1048576 % 128) (rest_of w % 65536))
  pub all_is : kind_of w ≡ 9 → rest_of w < 4096 → P (policy.All (rest_of w))
  pub any_is : kind_of w ≡ 10 → rest_of w < 4096 → P (policy.Any (rest_of w))
  pub or_else_is : kind_of w ≡ 11 → P OrElse
  pub permit_trace_is : kind_of w ≡ 12 → res ≡ true → P (PermitWithTrace (rest_of w / 1048576 % 128) (rest_of w % 65536))
  pub deny_trace_is : kind_of w ≡ 13 → res ≡ true → (denied : prelude.Option ℕ) → denied ≡ None ⊎ denied ≡ Some (rest_of w % 65536) → P (DenyWithTrace (shape_by (eqb (rest_of w / 134217728) 1)) denied)

module _ (P : PolicyHead → Type 0) (w : ℕ) (res : Bool) (cases : HeadCases P w res) where
  if_field : (b : Bool) (h : PolicyHead) → (b ≡ true → P h) → P (cond b h policy.BadField)
  if_field true h f = f refl
  if_field false h f = cases.bad_field_is

  if_kind : (b : Bool) (h : PolicyHead) → (b ≡ true → P h) → P (cond b h policy.BadKind)
  if_kind true h f = f refl
  if_kind false h f = cases.bad_kind_is

  if_either : (b : Bool) (g h : PolicyHead) → P g → P h → P (cond b g h)
  if_either true g h x y = x
  if_either false g h x y = y

  by_kind : (j : ℕ) → kind_of w ≡ 6 + j → P (get_or (policy_heads res (rest_of w)) j policy.BadKind)
  unfolding permit_head grant_head permit_trace_head deny_trace_head
  by_kind zero e = if_field (eqb (rest_of w / 65536) 0) _ (λ _. cases.permit_is e)
  by_kind (suc zero) e = if_field (eqb (rest_of w) 0) Deny (λ _. cases.deny_is e)
  by_kind (suc (suc zero)) e = if_field (leb (rest_of w / 1048576 % 128) most_obligations) _ (λ _. if_field (eqb (rest_of w / 65536 % 16) 0) _ (λ _. cases.grant_is e))
  by_kind (suc (suc (suc zero))) e = if_field (ltb (rest_of w) 4096) _ (λ t. cases.all_is e (ltb-true (rest_of w) 4096 t))
  by_kind (suc (suc (suc (suc zero)))) e = if_field (ltb (rest_of w) 4096) _ (λ t. cases.any_is e (ltb-true (rest_of w) 4096 t))
  by_kind (suc (suc (suc (suc (suc zero))))) e = if_field (eqb (rest_of w) 0) OrElse (λ _. cases.or_else_is e)
  by_kind (suc (suc (suc (suc (suc (suc zero)))))) e =
      if_kind res (permit_trace_head (rest_of w)) (λ r. if_field (eqb (rest_of w / 134217728) 0) _ (λ _. if_field (eqb (rest_of w / 65536 % 16) 0) _ (λ _. cases.permit_trace_is e r)))
  by_kind (suc (suc (suc (suc (suc (suc (suc zero))))))) e =
      if_kind res (deny_trace_head (rest_of w)) (λ r. if_field (eqb (rest_of w / 65536 % 1024) 0) _ (λ _.
      if_either (eqb (rest_of w / 67108864 % 2) 1) _ _ (cases.deny_trace_is e r _ (inr refl))
      (if_field (eqb (rest_of w % 65536) 0) _ (λ _. cases.deny_trace_is e r _ (inl refl)))))
  by_kind (suc (suc (suc (suc (suc (suc (suc (suc j)))))))) e = cases.bad_kind_is

  pub head_cases : P (policy_head w res)
  unfolding policy_head
  head_cases = if_kind (leb 6 (kind_of w)) _ (λ t. let h : 6 ≤ kind_of w = leb-true 6 (kind_of w) t in by_kind (kind_of w - 6) (omega arith))

-- Sixteen bits stand for a set of products.
within_sets : (w : ℕ) (res : Bool) → within_most 65536 (policy_head w res) ≡ true
within_sets w res =
    let set : ltb (rest_of w % 65536) 65536 ≡ true = lt-ltb (rest_of w % 65536) 65536 (omega arith) in
    head_cases (λ h. within_most 65536 h ≡ true) w res (record {
      bad_kind_is = refl;
      bad_field_is = refl;
      permit_is = λ _. set;
      deny_is = λ _. refl;
      grant_is = λ _. set;
      all_is = λ _ _. refl;
      any_is = λ _ _. refl;
      or_else_is = λ _. refl;
      permit_trace_is = λ _ _. set;
      deny_trace_is = λ _ _ denied c. elim c [ inl e ↦ rw e | inr e ↦ rw e set ];
    })

-- And by sets of products; and below the last level.
pub policy_node_lem : (res : Bool) (d w : ℕ) (ws : List ℕ) → read_policy res (suc d) (w ∷ ws) ≡ policy_node (λ vs. read_condition d vs) (λ vs. read_policy res d vs) (policy_head w res) ws
policy_node_lem res d w ws =
    policy_node_by 65536 res d w ws ∙ ap (λ b. unless b 8 (policy_node (λ vs. read_condition d vs) (λ vs. read_policy res d vs) (policy_head w res) ws)) (within_sets w res)

deep_field_p : (b : Bool) (h : PolicyHead) → deep_policy h ≡ 7 → deep_policy (cond b h policy.BadField) ≡ 7
deep_field_p true h e = e
deep_field_p false h e = refl

deep_either : (b : Bool) (g h : PolicyHead) → deep_policy g ≡ 7 → deep_policy h ≡ 7 → deep_policy (cond b g h) ≡ 7
deep_either true g h e f = e
deep_either false g h e f = f

deep_permit : (r : ℕ) → deep_policy (permit_head r) ≡ 7
unfolding permit_head
deep_permit r = deep_field_p (eqb (r / 65536) 0) (Permit (r % 65536)) refl

deep_grant : (r : ℕ) → deep_policy (grant_head r) ≡ 7
unfolding grant_head
deep_grant r =
    let h = Grant (shape_by (eqb (r / 134217728) 1)) (r / 1048576 % 128) (r % 65536) in
    deep_field_p (leb (r / 1048576 % 128) most_obligations) (cond (eqb (r / 65536 % 16) 0) h policy.BadField) (deep_field_p (eqb (r / 65536 % 16) 0) h refl)

deep_permit_trace : (r : ℕ) → deep_policy (permit_trace_head r) ≡ 7
unfolding permit_trace_head
deep_permit_trace r =
    let h₃ = PermitWithTrace (r / 1048576 % 128) (r % 65536) in
    let h₂ = cond (eqb (r / 65536 % 16) 0) h₃ policy.BadField in
    deep_field_p (eqb (r / 134217728) 0) h₂ (deep_field_p (eqb (r / 65536 % 16) 0) h₃ refl)

deep_deny_trace : (r : ℕ) → deep_policy (deny_trace_head r) ≡ 7
unfolding deny_trace_head
deep_deny_trace r =
    let g = DenyWithTrace (shape_by (eqb (r / 134217728) 1)) (Some (r % 65536)) in
    let h = DenyWithTrace (shape_by (eqb (r / 134217728) 1)) None in
    let h₁ = cond (eqb (r % 65536) 0) h policy.BadField in
    deep_field_p (eqb (r / 65536 % 1024) 0) (cond (eqb (r / 67108864 % 2) 1) g h₁) (deep_either (eqb (r / 67108864 % 2) 1) g h₁ refl (deep_field_p (eqb (r % 65536) 0) h refl))

deep_kind_p : (res : Bool) (j r : ℕ) → unless {A = Policy Outcome} (leb (6 + j) (last_kind res)) 5 (refuse 7) ≡ refuse (deep_policy (get_or (policy_heads res r) j policy.BadKind))
deep_kind_p true zero r = ap refuse (sym (deep_permit r))
deep_kind_p true (suc zero) r = ap refuse (sym (deep_field_p (eqb r 0) Deny refl))
deep_kind_p true (suc (suc zero)) r = ap refuse (sym (deep_grant r))
deep_kind_p true (suc (suc (suc zero))) r = ap refuse (sym (deep_field_p (ltb r 4096) (policy.All r) refl))
deep_kind_p true (suc (suc (suc (suc zero)))) r = ap refuse (sym (deep_field_p (ltb r 4096) (policy.Any r) refl))
deep_kind_p true (suc (suc (suc (suc (suc zero))))) r = ap refuse (sym (deep_field_p (eqb r 0) OrElse refl))
deep_kind_p true (suc (suc (suc (suc (suc (suc zero)))))) r = ap refuse (sym (deep_permit_trace r))
deep_kind_p true (suc (suc (suc (suc (suc (suc (suc zero))))))) r = ap refuse (sym (deep_deny_trace r))
deep_kind_p true (suc (suc (suc (suc (suc (suc (suc (suc j)))))))) r = ap (λ b. unless {A = Policy Outcome} b 5 (refuse 7)) (lt-leb (6 + suc (suc (suc (suc (suc (suc (suc (suc j)))))))) 13 (omega arith))
deep_kind_p false zero r = ap refuse (sym (deep_permit r))
deep_kind_p false (suc zero) r = ap refuse (sym (deep_field_p (eqb r 0) Deny refl))
deep_kind_p false (suc (suc zero)) r = ap refuse (sym (deep_grant r))
deep_kind_p false (suc (suc (suc zero))) r = ap refuse (sym (deep_field_p (ltb r 4096) (policy.All r) refl))
deep_kind_p false (suc (suc (suc (suc zero)))) r = ap refuse (sym (deep_field_p (ltb r 4096) (policy.Any r) refl))
deep_kind_p false (suc (suc (suc (suc (suc zero))))) r = ap refuse (sym (deep_field_p (eqb r 0) OrElse refl))
deep_kind_p false (suc (suc (suc (suc (suc (suc zero)))))) r = refl
deep_kind_p false (suc (suc (suc (suc (suc (suc (suc zero))))))) r = refl
deep_kind_p false (suc (suc (suc (suc (suc (suc (suc (suc j)))))))) r = ap (λ b. unless {A = Policy Outcome} b 5 (refuse 7)) (lt-leb (6 + suc (suc (suc (suc (suc (suc (suc (suc j)))))))) 11 (omega arith))

deep_at : (res : Bool) (k r : ℕ) (b : Bool) → leb 6 k ≡ b → unless {A = Policy Outcome} (b && leb k (last_kind res)) 5 (refuse 7) ≡ refuse (deep_policy (cond b (get_or (policy_heads res r) (k - 6) policy.BadKind) policy.BadKind))
deep_at res k r true e =
    let h : 6 ≤ k = leb-true 6 k e in
    let j : k ≡ 6 + (k - 6) = omega arith in
    ap (λ n. unless {A = Policy Outcome} (leb n (last_kind res)) 5 (refuse 7)) j ∙ deep_kind_p res (k - 6) r
deep_at res k r false e = refl

pub policy_deep : (res : Bool) (w : ℕ) (ws : List ℕ) → read_policy res zero (w ∷ ws) ≡ refuse (deep_policy (policy_head w res))
unfolding policy_head
policy_deep res w ws = deep_at res (kind_of w) (rest_of w) (leb 6 (kind_of w)) refl

-- The outcome is not looked at.
pub policy_deep_by : (most : ℕ) (res : Bool) (w : ℕ) (ws : List ℕ) → reading.read_policy (below most) res zero (w ∷ ws) ≡ refuse (deep_policy (policy_head w res))
policy_deep_by most true w ws = policy_deep true w ws
policy_deep_by most false w ws = policy_deep false w ws

-- A word that one division shows to be a Permit.
pub permit_word : (w : ℕ) (res : Bool) → w / 65536 ≡ 24576 → Permit (w % 65536) ≡ policy_head w res
unfolding policy_head permit_head
permit_word w res e =
    let k : w / 268435456 ≡ 6 = omega arith in
    let none : (w % 268435456) / 65536 ≡ 0 = omega arith in
    let same : (w % 268435456) % 65536 ≡ w % 65536 = omega arith in
    rw (k, eq-eqb ((w % 268435456) / 65536) 0 none, same)

-- And to be an All, or an Any.
pub all_word : (w : ℕ) (res : Bool) → w / 4096 ≡ 589824 → policy.All (w % 4096) ≡ policy_head w res
unfolding policy_head
all_word w res e =
    let k : w / 268435456 ≡ 9 = omega arith in
    let same : w % 268435456 ≡ w % 4096 = omega arith in
    rw (k, same, lt-ltb (w % 4096) 4096 (omega arith))

pub any_word : (w : ℕ) (res : Bool) → w / 4096 ≡ 655360 → policy.Any (w % 4096) ≡ policy_head w res
unfolding policy_head
any_word w res e =
    let k : w / 268435456 ≡ 10 = omega arith in
    let same : w % 268435456 ≡ w % 4096 = omega arith in
    rw (k, same, lt-ltb (w % 4096) 4096 (omega arith))

-- The other words of the kinds All and Any: a bit above the count is 1.
pub all_field : (w : ℕ) (res : Bool) → w / 268435456 ≡ 9 → ¬ (w / 4096 ≡ 589824) → policy.BadField ≡ policy_head w res
unfolding policy_head
all_field w res k other = rw (k, le-ltb (w % 268435456) 4096 (omega arith))

pub any_field : (w : ℕ) (res : Bool) → w / 268435456 ≡ 10 → ¬ (w / 4096 ≡ 655360) → policy.BadField ≡ policy_head w res
unfolding policy_head
any_field w res k other = rw (k, le-ltb (w % 268435456) 4096 (omega arith))

-- A Grant without obligations.
no_obligations : (r : ℕ) → r % 134217728 < 65536 → r / 1048576 % 128 ≡ 0
no_obligations r h = omega arith

shape_bit_lem : (w : ℕ) → (w % 268435456) / 134217728 ≡ w / 134217728 % 2
shape_bit_lem w = omega arith

pub grant_word : (w : ℕ) (res : Bool) → w / 268435456 ≡ 8 → w / 65536 % 2048 ≡ 0 → Grant (shape_by (eqb (w / 134217728 % 2) 1)) 0 (w % 65536) ≡ policy_head w res
unfolding policy_head grant_head
grant_word w res e n =
    let low : w % 134217728 < 65536 = omega arith in
    let none : (w % 268435456) / 1048576 % 128 ≡ 0 = no_obligations (w % 268435456) (omega arith) in
    let clear : (w % 268435456) / 65536 % 16 ≡ 0 = omega arith in
    let same : (w % 268435456) % 65536 ≡ w % 65536 = omega arith in
    rw (e, none, clear, same, shape_bit_lem w)

-- A condition's word that one division shows to be a Has.
pub has_word : (w : ℕ) → w / 1024 ≡ 524288 → Has (w % 1024) ≡ condition_head w
unfolding condition_head
has_word w e =
    let k : w / 268435456 ≡ 2 = omega arith in
    let same : w % 268435456 ≡ w % 1024 = omega arith in
    rw (k, same, lt-ltb (w % 1024) 1024 (omega arith))
