-- No fold looks at fact lists: decisions but for their facts are folded as the decisions are. Assumes nothing of meet and join.
use Rattle.std.specs.Prelude.{◌≡◌, refl, Bool, true, false, cond, List, [], ◌∷◌}
use Rattle.std.proofs.Common.{sym, ◌∙◌, ap, ap₂}
use Rattle.std.proofs.Math.Option.{Option, none, some}
use Rattle.model.specs.Outcome.{Outcomes}
use Rattle.model.specs.Condition.{ConditionEval, satisfied, unsatisfied}
use Rattle.model.specs.Decision.{Permit, Denial, Decision, permits, denies, products, combined, union_obligations, meet_permit, join_permit, meet_in, join_in}
use Rattle.model.specs.Policy.{Grant}
use Rattle.model.specs.Evaluate.{eval_grant, first_of, first_deny, all_end, all_from, any_end, any_from}
use Rattle.staging.specs.Bare.{bare_permit, bare_denial, bare}
use Rattle.laws.specs.Truth.{is_satisfied}

abbrev pub bares : {O : Type 0} → List (Decision O) → List (Decision O)
bares [] = []
bares (d ∷ ds) = bare d ∷ bares ds

bare_products : {O : Type 0} (d : Decision O) → products (bare d) ≡ products d
bare_products (permits p) = refl
bare_products (denies d) = refl

-- Decisions that differ in their facts at most have the same products.
pub same_products : {O : Type 0} (d e : Decision O) → bare d ≡ bare e → products d ≡ products e
same_products d e h = sym (bare_products d) ∙ ap products h ∙ bare_products e

-- ---- grants and OrElse
-- A grant's decision but for its facts goes by its condition's truth alone.
pub bare_grant : {O : Type 0} (g : Grant O) (v w : ConditionEval) → is_satisfied v ≡ is_satisfied w → bare (eval_grant g v) ≡ bare (eval_grant g w)
bare_grant g (satisfied fs) (satisfied gs) e = refl
bare_grant g (satisfied fs) (unsatisfied gs) e = cc
bare_grant g (unsatisfied fs) (satisfied gs) e = cc
bare_grant g (unsatisfied fs) (unsatisfied gs) e = refl

pub bare_first_of : {O : Type 0} (d e : Decision O) → bare (first_of d e) ≡ first_of (bare d) (bare e)
bare_first_of (permits p) e = refl
bare_first_of (denies d) e = refl

-- ---- lists
pick_map : {A B : Type 0} (f : A → B) (b : Bool) (x y : A) → f (cond b x y) ≡ cond b (f x) (f y)
pick_map f true x y = refl
pick_map f false x y = refl

abbrev bare_po : {O : Type 0} → Option (Permit O) → Option (Permit O)
bare_po none = none
bare_po (some p) = some (bare_permit p)

abbrev bare_do : {O : Type 0} → Option (Denial O) → Option (Denial O)
bare_do none = none
bare_do (some d) = some (bare_denial d)

module _ (L : Outcomes) where
  bare_meet : (p q : Permit L.O) → bare_permit (meet_permit L p q) ≡ meet_permit L (bare_permit p) (bare_permit q)
  bare_meet p q =
      let o = L.meet p.outcome q.outcome in
      pick_map bare_permit (L.same o p.outcome) p (cond (L.same o q.outcome) q (combined o []))
      ∙ ap (cond (L.same o p.outcome) (bare_permit p)) (pick_map bare_permit (L.same o q.outcome) q (combined o []))

  bare_join : (p q : Permit L.O) → bare_permit (join_permit L p q) ≡ join_permit L (bare_permit p) (bare_permit q)
  bare_join p q =
      let o = L.join p.outcome q.outcome in
      let os = union_obligations p.obligations q.obligations in
      let pw : Permit L.O = record { outcome = p.outcome; obligations = os; label = p.label; facts = p.facts } in
      pick_map bare_permit (L.same o p.outcome) (cond (L.same o q.outcome) pw p) (cond (L.same o q.outcome) q (combined o os))
      ∙ ap₂ (cond (L.same o p.outcome)) (pick_map bare_permit (L.same o q.outcome) pw p) (pick_map bare_permit (L.same o q.outcome) q (combined o os))

  bare_meet_in : (sofar : Option (Permit L.O)) (q : Permit L.O) → bare_permit (meet_in L sofar q) ≡ meet_in L (bare_po sofar) (bare_permit q)
  bare_meet_in none q = refl
  bare_meet_in (some p) q = bare_meet p q

  bare_join_in : (sofar : Option (Permit L.O)) (q : Permit L.O) → bare_permit (join_in L sofar q) ≡ join_in L (bare_po sofar) (bare_permit q)
  bare_join_in none q = refl
  bare_join_in (some p) q = bare_join p q

  bare_all_end : (sofar : Option (Permit L.O)) → bare (all_end L sofar) ≡ all_end L (bare_po sofar)
  bare_all_end none = refl
  bare_all_end (some p) = refl

  pub bare_all_from : (sofar : Option (Permit L.O)) (ds : List (Decision L.O)) → bare (all_from L sofar ds) ≡ all_from L (bare_po sofar) (bares ds)
  bare_all_from sofar [] = bare_all_end sofar
  bare_all_from sofar (permits q ∷ ds) = bare_all_from (some (meet_in L sofar q)) ds ∙ ap (λ p. all_from L (some p) (bares ds)) (bare_meet_in sofar q)
  bare_all_from sofar (denies d ∷ ds) = refl

  bare_first_deny : (first : Option (Denial L.O)) (d : Denial L.O) → bare_denial (first_deny first d) ≡ first_deny (bare_do first) (bare_denial d)
  bare_first_deny none d = refl
  bare_first_deny (some c) d = refl

  bare_any_end : (sofar : Option (Permit L.O)) (first : Option (Denial L.O)) → bare (any_end L sofar first) ≡ any_end L (bare_po sofar) (bare_do first)
  bare_any_end (some p) first = refl
  bare_any_end none (some d) = refl
  bare_any_end none none = refl

  pub bare_any_from : (sofar : Option (Permit L.O)) (first : Option (Denial L.O)) (ds : List (Decision L.O)) → bare (any_from L sofar first ds) ≡ any_from L (bare_po sofar) (bare_do first) (bares ds)
  bare_any_from sofar first [] = bare_any_end sofar first
  bare_any_from sofar first (permits q ∷ ds) =
      bare_any_from (some (join_in L sofar q)) first ds ∙ ap (λ p. any_from L (some p) (bare_do first) (bares ds)) (bare_join_in sofar q)
  bare_any_from sofar first (denies d ∷ ds) =
      bare_any_from sofar (some (first_deny first d)) ds ∙ ap (λ e. any_from L (bare_po sofar) (some e) (bares ds)) (bare_first_deny first d)
