-- What the decisions that the constructors make stand for. Assumes nothing.
use mathlib.Core.Path.{◌≡◌, refl, sym, ◌∙◌, ap, ap₂}
use mathlib.Core.Bool.{Bool, true, false, cond}
use mathlib.Core.Option.{some}
use mathlib.Core.List.{List, [], ◌++◌, append-nil}
use Prim.Native.Nat.{ℕ, ◌≤◌}
use lib.ListN.{drop}
use Rattle.std.specs.Prelude.{Option, None, Some}
use Rattle.model.specs.Facts.{Table}
use Rattle.model.specs.Outcome.{product_sets}
use Rattle.model.specs.Condition.{Condition, satisfied, unsatisfied, eval_condition}
use Rattle.model.specs.Decision.{Permit, Denial, permits, denies, combined, generic_deny}
use Rattle.model.specs.Policy.{Grant, Policy, grant, stored}
use Rattle.model.specs.Evaluate.{eval_grant}
use Rattle.model.specs.Reading.{got, levels}
use Rattle.model.specs.Products.{Outcome, read_policy}
use Rattle.laws.proofs.Deeper.{deeper, follows_got}
use Rattle.decision.specs.declared.Decision.{Decision}
use Rattle.decision.specs.Nodes.{reached, named, node_at, clause_read, obligations_read, clause_at, obligations_at}
use Rattle.decision.specs.Meaning.{denied_at, permitted_at, obligations_in, permit_of, decision_of, Names, Sound}
use Rattle.decision.proofs.Nodes.{none_held, no_clause}

-- ---- nodes
-- A node that reads inside a tree, with fewer levels left or in a sheet, reads so at its position.
pub node_reads : (words : List ℕ) (at d : ℕ) (res : Bool) (t : Policy Outcome) (vs : List ℕ) → d ≤ levels → read_policy res d (drop at words) ≡ got t vs → node_at words at ≡ got t vs
unfolding node_at
node_reads words at d res t vs h e = follows_got (deeper product_sets.value res d 32 (drop at words) h) e

-- ---- permits and denies
module _ (words : List ℕ) (T : Table) (buf : List ℕ) (d : Decision) where
  pub as_permit : d.permit ≡ true → decision_of words T buf d ≡ permits (permit_of words T buf d)
  unfolding decision_of
  as_permit e = ap (λ b. cond b (permits (permit_of words T buf d)) (denies (clause_at words T d.clause))) e

  pub as_deny : d.permit ≡ false → decision_of words T buf d ≡ denies (clause_at words T d.clause)
  unfolding decision_of
  as_deny e = ap (λ b. cond b (permits (permit_of words T buf d)) (denies (clause_at words T d.clause))) e

-- ---- the constructors
module _ (words : List ℕ) (T : Table) (buf : List ℕ) where
  pub denied_is : decision_of words T buf (denied_at None) ≡ denies generic_deny
  unfolding decision_of clause_at
  denied_is = refl

  -- A grant whose condition is false, and a stored deny.
  pub denied_grant : (at : ℕ) (g : Grant Outcome) (c : Condition) (vs fs : List ℕ) → node_at words at ≡ got (grant g c) vs → eval_condition T c ≡ unsatisfied fs →
      decision_of words T buf (denied_at (Some at)) ≡ eval_grant g (eval_condition T c)
  unfolding decision_of clause_at
  denied_grant at g c vs fs n e =
      ap (λ q. denies (clause_read T q)) n
      ∙ ap (λ ev. denies (record { denied = some g.outcome; facts = named ev; label = g.label; reason = g.reason; shape = g.shape })) e
      ∙ sym (ap (eval_grant g) e)

  pub denied_stored : (at : ℕ) (d : Denial Outcome) (vs : List ℕ) → node_at words at ≡ got (stored (denies d)) vs → decision_of words T buf (denied_at (Some at)) ≡ denies d
  unfolding decision_of clause_at
  denied_stored at d vs n = ap (λ q. denies (clause_read T q)) n

  pub permitted_is : (o : ℕ) → permit_of words T buf (permitted_at o None None 0) ≡ combined o []
  unfolding permit_of obligations_in clause_at obligations_at
  permitted_is o = refl

  -- One whose node the words don't reach.
  pub permitted_bare : (o : ℕ) (place : Option ℕ) → None ≡ reached words place → decision_of words T buf (permitted_at o place place 0) ≡ permits (combined o [])
  unfolding decision_of permit_of obligations_in
  permitted_bare o place e =
      ap₂ (λ os (c : Denial Outcome). permits (record { outcome = o; obligations = os; label = c.label; facts = c.facts }))
      (append-nil (obligations_at words place) ∙ none_held words place e) (no_clause words T place e)

  -- A grant whose condition is true, and a stored permit.
  pub permitted_grant : (at : ℕ) (g : Grant Outcome) (c : Condition) (vs fs : List ℕ) → node_at words at ≡ got (grant g c) vs → eval_condition T c ≡ satisfied fs →
      decision_of words T buf (permitted_at g.outcome (Some at) (Some at) 0) ≡ eval_grant g (eval_condition T c)
  unfolding decision_of permit_of obligations_in clause_at obligations_at
  permitted_grant at g c vs fs n e =
      ap (λ q. permits (record { outcome = g.outcome; obligations = obligations_read q ++ []; label = (clause_read T q).label; facts = (clause_read T q).facts })) n
      ∙ ap (λ os. permits (record { outcome = g.outcome; obligations = os; label = g.label; facts = named (eval_condition T c) })) (append-nil g.obligations)
      ∙ ap (λ ev. permits (record { outcome = g.outcome; obligations = g.obligations; label = g.label; facts = named ev })) e
      ∙ sym (ap (eval_grant g) e)

  pub permitted_stored : (at : ℕ) (p : Permit Outcome) (vs : List ℕ) → node_at words at ≡ got (stored (permits p)) vs → decision_of words T buf (permitted_at p.outcome (Some at) (Some at) 0) ≡ permits p
  unfolding decision_of permit_of obligations_in clause_at obligations_at
  permitted_stored at p vs n =
      ap (λ q. permits (record { outcome = p.outcome; obligations = obligations_read q ++ []; label = (clause_read T q).label; facts = (clause_read T q).facts })) n
      ∙ ap (λ os. permits (record { outcome = p.outcome; obligations = os; label = p.label; facts = p.facts })) (append-nil p.obligations)

-- ---- sound decisions
pub sound_denied : (words buf : List ℕ) (at : Option ℕ) → Names words at → Sound words buf (denied_at at)
sound_denied words buf at n = record { clause = n; held = tt; appended = (tt, tt); bare = λ _. refl }

pub sound_permitted : (words buf : List ℕ) (o : ℕ) (at : Option ℕ) → Names words at → Sound words buf (permitted_at o at at 0)
sound_permitted words buf o at n = record { clause = n; held = n; appended = (tt, tt); bare = λ _. refl }
