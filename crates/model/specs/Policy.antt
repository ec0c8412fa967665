-- Policies: the trees of sheets and residuals. Document 01, "What a call receives".
use Rattle.std.specs.Prelude.{Bool, false, ◌||◌, List, ℕ}
use Rattle.std.proofs.Math.Option.{Option}
use Rattle.model.specs.Condition.{Condition, names_c}
use Rattle.model.specs.Decision.{Shape, Decision}

-- A grant but for its condition.
pub record Grant (O : Type 0) : Type 0 where
  pub outcome : O
  pub obligations : List ℕ
  pub label : Option ℕ
  pub reason : Option ℕ
  pub shape : Shape

-- One type for sheets and residuals: a sheet has no `stored` node (12 PermitWithTrace, 13 DenyWithTrace).
mutual
  pub data Policy (O : Type 0) : Type 0 where
    permit : O → Policy O
    deny : Policy O
    grant : Grant O → Condition → Policy O
    all any : Policies O → Policy O
    or_else : Policy O → Policy O → Policy O
    stored : Decision O → Policy O

  pub data Policies (O : Type 0) : Type 0 where
    pnil : Policies O
    pcons : Policy O → Policies O → Policies O

-- A sheet or residual names a fact exactly when a Has in its tree carries it ("Stages"): as a test.
abbrev mutual
  pub names : {O : Type 0} → ℕ → Policy O → Bool
  names f (permit o) = false
  names f deny = false
  names f (grant g c) = names_c f c
  names f (all ts) = namess f ts
  names f (any ts) = namess f ts
  names f (or_else a b) = names f a || names f b
  names f (stored d) = false

  pub namess : {O : Type 0} → ℕ → Policies O → Bool
  namess f pnil = false
  namess f (pcons t ts) = names f t || namess f ts
