-- `decision::obligation_count` meets its contract. Assumes nothing.
use mathlib.Core.Logic.{inl, inr}
use mathlib.Core.Path.{◌≡◌, refl, sym, ◌∙◌, ap}
use Prim.Native.Nat.{ℕ}
use native.Mathlib.Omega.{arith}
use Rattle.policy_model.specs.declared.PolicyHead.TheVariants.{Grant, PermitWithTrace}
use Rattle.policy_model.specs.declared.DenyShape.{DenyShape}
use Rattle.policy_model.specs.declared.PolicyHead.{PolicyHead}
use Rattle.decision.specs.Nodes.{head_count, obligation_count_of}
use Rattle.decision.proofs.Nodes.{counted_as}
use Rattle.decision.proofs.obligation_count.Goals as goal

-- The variants with no obligations.
none_counted : (h : PolicyHead) → ((x : DenyShape) (n o : ℕ) → h ≡ Grant x n o → ⊥) → ((n o : ℕ) → h ≡ PermitWithTrace n o → ⊥) → head_count h ≡ 0
none_counted (Grant x n o) f g = absurd (f x n o refl)
none_counted (PermitWithTrace n o) f g = absurd (g n o refl)
none_counted h f g = refl

pub returns-in-Grant : goal.returns-in-Grant
returns-in-Grant c =
    elim c.in-Grant.is [
      | inl h ↦ counted_as _ _ (sym h.2 ∙ c.policy_head.ensures)
      | inr h ↦ counted_as _ _ (sym h.1 ∙ c.policy_head.ensures)
    ]

pub returns-in_default : goal.returns-in_default
unfolding obligation_count_of
returns-in_default c =
    (sym (none_counted c.policy_head.result c.in_default.not-Grant c.in_default.not-PermitWithTrace) ∙ ap head_count c.policy_head.ensures, omega arith)
