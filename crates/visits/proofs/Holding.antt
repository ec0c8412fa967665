-- Whether a node holds and the nodes visited are the model's, whatever the outcomes. Assumes nothing.
use mathlib.Core.Path.{◌≡◌, refl, ◌∙◌, ap, ap₂}
use mathlib.Core.Bool.{Bool, true, false, cond, ◌||◌, beq}
use mathlib.Core.Option.{Option, none, some}
use mathlib.Core.List.{List, [], ◌∷◌}
use Prim.Native.Nat.{ℕ, ◌+◌, ◌≤◌}
use native.Mathlib.Omega.{arith}
use Rattle.model.specs.Facts.{Table}
use Rattle.model.specs.Outcome.{Outcomes}
use Rattle.model.specs.Condition.{Condition, always, never, has, not_c, all_c, any_c, Conditions, cnil, ccons, ConditionEval, satisfied, unsatisfied, both, either, eval_condition, eval_condition_all, eval_condition_any}
use Rattle.model.specs.Decision.{Permit, Denial, Decision, permits, denies, meet_in, join_in}
use Rattle.model.specs.Policy.{Grant, Policy, permit, deny, grant, all, any, or_else, stored, Policies, pnil, pcons}
use Rattle.model.specs.Evaluate.{eval_grant, first_of, first_deny, all_from, any_from, eval_policy, eval_policies}
use Rattle.model.specs.Visits.{if_true, if_false, if_permits, if_denies, visits_c, visits_all_c, visits_any_c, visits, visits_all, visits_any}
use Rattle.visits.specs.Holding.{is_permit, unless_none, holds_c, holds_cs, visits_cs, holds_p, holds_ps, holds_any, nodes_p, nodes_ps, nodes_any}
use Rattle.laws.specs.Truth.{is_satisfied}

-- ---- conditions
both_holds : (v w : ConditionEval) → is_satisfied (both v w) ≡ cond (beq (is_satisfied v) false) false (is_satisfied w)
both_holds (unsatisfied fs) w = refl
both_holds (satisfied fs) (unsatisfied gs) = refl
both_holds (satisfied fs) (satisfied gs) = refl

either_holds : (v w : ConditionEval) → is_satisfied (either v w) ≡ cond (beq (is_satisfied v) true) true (is_satisfied w)
either_holds (satisfied fs) w = refl
either_holds (unsatisfied fs) (satisfied gs) = refl
either_holds (unsatisfied fs) (unsatisfied gs) = refl

if_true_is : (v : ConditionEval) (n : ℕ) → if_true v n ≡ cond (beq (is_satisfied v) false) 0 n
if_true_is (satisfied fs) n = refl
if_true_is (unsatisfied fs) n = refl

if_false_is : (v : ConditionEval) (n : ℕ) → if_false v n ≡ cond (beq (is_satisfied v) true) 0 n
if_false_is (satisfied fs) n = refl
if_false_is (unsatisfied fs) n = refl

module _ (T : Table) where
  pub all_holds : (cs : Conditions) → is_satisfied (eval_condition_all T cs) ≡ holds_cs false T cs
  all_holds cnil = refl
  all_holds (ccons c cs) = both_holds (eval_condition T c) (eval_condition_all T cs) ∙ ap (λ v. cond (beq (holds_c T c) false) false v) (all_holds cs)

  pub any_holds : (cs : Conditions) → is_satisfied (eval_condition_any T cs) ≡ holds_cs true T cs
  any_holds cnil = refl
  any_holds (ccons c cs) = either_holds (eval_condition T c) (eval_condition_any T cs) ∙ ap (λ v. cond (beq (holds_c T c) true) true v) (any_holds cs)

  pub all_nodes : (cs : Conditions) → visits_all_c T cs ≡ visits_cs false T cs
  all_nodes cnil = refl
  all_nodes (ccons c cs) = ap (λ n. visits_c T c + n) (if_true_is (eval_condition T c) (visits_all_c T cs) ∙ ap (λ n. cond (beq (holds_c T c) false) 0 n) (all_nodes cs))

  pub any_nodes : (cs : Conditions) → visits_any_c T cs ≡ visits_cs true T cs
  any_nodes cnil = refl
  any_nodes (ccons c cs) = ap (λ n. visits_c T c + n) (if_false_is (eval_condition T c) (visits_any_c T cs) ∙ ap (λ n. cond (beq (holds_c T c) true) 0 n) (any_nodes cs))

  -- Every node counts.
  pub some_c : (c : Condition) → 1 ≤ visits_c T c
  some_c always = omega arith
  some_c never = omega arith
  some_c (has f) = omega arith
  some_c (not_c c) = omega arith
  some_c (all_c cs) = omega arith
  some_c (any_c cs) = omega arith

  pub some_p : {O : Type 0} (t : Policy O) → 1 ≤ nodes_p T t
  some_p (permit o) = omega arith
  some_p deny = omega arith
  some_p (grant g c) = omega arith
  some_p (all ts) = omega arith
  some_p (any ts) = omega arith
  some_p (or_else a b) = omega arith
  some_p (stored d) = omega arith

-- ---- policies
grant_permits : {O : Type 0} (g : Grant O) (v : ConditionEval) → is_permit (eval_grant g v) ≡ is_satisfied v
grant_permits g (satisfied fs) = refl
grant_permits g (unsatisfied fs) = refl

first_permits : {O : Type 0} (a b : Decision O) → is_permit (first_of a b) ≡ cond (beq (is_permit a) true) true (cond (beq (is_permit b) true) true false)
first_permits (permits p) b = refl
first_permits (denies d) (permits p) = refl
first_permits (denies d) (denies e) = refl

if_permits_is : {O : Type 0} (d : Decision O) (n : ℕ) → if_permits d n ≡ cond (beq (is_permit d) false) 0 n
if_permits_is (permits p) n = refl
if_permits_is (denies d) n = refl

none_more : (b : Bool) (n : ℕ) → n ≡ n + cond b 0 0
none_more true n = omega arith
none_more false n = omega arith

or_from : {O : Type 0} (d : Decision O) (a : Bool) → is_permit d ≡ a → (m n : ℕ) → m ≡ n → (b : Bool) → if_denies d m ≡ cond (beq a true) 0 (n + cond b 0 0)
or_from (permits p) a e m n q b = ap (λ x. cond (beq x true) 0 (n + cond b 0 0)) e
or_from (denies d) a e m n q b = q ∙ none_more b n ∙ ap (λ x. cond (beq x true) 0 (n + cond b 0 0)) e

module _ (L : Outcomes) (T : Table) where
  -- By the decisions of the arms.
  abbrev everyone : List (Decision L.O) → Bool
  everyone [] = true
  everyone (d ∷ ds) = cond (beq (is_permit d) false) false (everyone ds)

  abbrev anyone : Bool → List (Decision L.O) → Bool
  anyone sofar [] = sofar
  anyone sofar (d ∷ ds) = anyone (sofar || is_permit d) ds

  all_some : (p : Permit L.O) (ds : List (Decision L.O)) → is_permit (all_from L (some p) ds) ≡ everyone ds
  all_some p [] = refl
  all_some p (permits q ∷ ds) = all_some (meet_in L (some p) q) ds
  all_some p (denies d ∷ ds) = refl

  all_first : (d : Decision L.O) (ds : List (Decision L.O)) → is_permit (all_from L none (d ∷ ds)) ≡ everyone (d ∷ ds)
  all_first (permits p) ds = all_some p ds
  all_first (denies d) ds = refl

  all_from_lem : (ts : Policies L.O) → everyone (eval_policies L T ts) ≡ holds_ps false T ts → is_permit (all_from L none (eval_policies L T ts)) ≡ unless_none ts false (holds_ps false T ts)
  all_from_lem pnil e = refl
  all_from_lem (pcons t ts) e = all_first (eval_policy L T t) (eval_policies L T ts) ∙ e

  any_some : (p : Permit L.O) (first : Option (Denial L.O)) (ds : List (Decision L.O)) → is_permit (any_from L (some p) first ds) ≡ anyone true ds
  any_some p first [] = refl
  any_some p first (permits q ∷ ds) = any_some (join_in L (some p) q) first ds
  any_some p first (denies d ∷ ds) = any_some p (some (first_deny first d)) ds

  any_none : (first : Option (Denial L.O)) (ds : List (Decision L.O)) → is_permit (any_from L none first ds) ≡ anyone false ds
  any_none none [] = refl
  any_none (some d) [] = refl
  any_none first (permits q ∷ ds) = any_some q first ds
  any_none first (denies d ∷ ds) = any_none (some (first_deny first d)) ds

  mutual
    pub permits_is : (t : Policy L.O) → is_permit (eval_policy L T t) ≡ holds_p T t
    permits_is (permit o) = refl
    permits_is deny = refl
    permits_is (grant g c) = grant_permits g (eval_condition T c)
    permits_is (all ts) = all_from_lem ts (everyone_is ts)
    permits_is (any ts) = any_none none (eval_policies L T ts) ∙ anyone_is false ts
    permits_is (or_else a b) =
        first_permits (eval_policy L T a) (eval_policy L T b)
        ∙ ap₂ (λ x y. cond (beq x true) true (cond (beq y true) true false)) (permits_is a) (permits_is b)
    permits_is (stored d) = refl

    everyone_is : (ts : Policies L.O) → everyone (eval_policies L T ts) ≡ holds_ps false T ts
    everyone_is pnil = refl
    everyone_is (pcons t ts) = ap₂ (λ x y. cond (beq x false) false y) (permits_is t) (everyone_is ts)

    anyone_is : (sofar : Bool) (ts : Policies L.O) → anyone sofar (eval_policies L T ts) ≡ holds_any T sofar ts
    anyone_is sofar pnil = refl
    anyone_is sofar (pcons t ts) = ap (λ b. anyone (sofar || b) (eval_policies L T ts)) (permits_is t) ∙ anyone_is (sofar || holds_p T t) ts

  mutual
    pub visits_are : (t : Policy L.O) → visits L T t ≡ nodes_p T t
    visits_are (permit o) = refl
    visits_are deny = refl
    visits_are (grant g c) = refl
    visits_are (all ts) = ap (λ n. 1 + n) (all_are ts)
    visits_are (any ts) = ap (λ n. 1 + n) (any_are ts)
    visits_are (or_else a b) =
        ap₂ (λ m n. 1 + (m + n)) (visits_are a) (or_from (eval_policy L T a) (holds_p T a) (permits_is a) (visits L T b) (nodes_p T b) (visits_are b) (beq (holds_p T b) true))
    visits_are (stored d) = refl

    all_are : (ts : Policies L.O) → visits_all L T ts ≡ nodes_ps false T ts
    all_are pnil = refl
    all_are (pcons t ts) = ap₂ (λ m n. m + n) (visits_are t) (if_permits_is (eval_policy L T t) (visits_all L T ts) ∙ ap₂ (λ x n. cond (beq x false) 0 n) (permits_is t) (all_are ts))

    any_are : (ts : Policies L.O) → visits_any L T ts ≡ nodes_any T ts
    any_are pnil = refl
    any_are (pcons t ts) = ap₂ (λ m n. m + n) (visits_are t) (any_are ts)
