-- How many arms a policy has, and what stands before them, by what its first word says. Document 01, "What a call receives".
use Rattle.std.specs.Prelude.{false, List, ℕ}
use Rattle.model.specs.Condition.{Condition}
use Rattle.model.specs.Policy.{names}
use Rattle.model.specs.Reading.{Parsed, refuse}
use Rattle.laws.specs.Size.{words}
use Rattle.policy_model.specs.declared.PolicyHead.{PolicyHead}
use Rattle.policy_model.specs.declared.PolicyHead.TheVariants.{Permit, Deny, Grant, OrElse, PermitWithTrace, DenyWithTrace}
use Rattle.policy_model.specs.declared.PolicyHead.TheVariants as policy
use Rattle.policy_model.specs.Heads.{policy_node}
use Rattle.required.specs.Sets.{Walked, Collected}

-- The arms of a policy.
unfoldable pub policy_arms : PolicyHead → ℕ
policy_arms (Permit o) = 0
policy_arms Deny = 0
policy_arms (Grant shape n o) = 0
policy_arms (policy.All n) = n
policy_arms (policy.Any n) = n
policy_arms OrElse = 2
policy_arms (PermitWithTrace n o) = 0
policy_arms (DenyWithTrace shape denied) = 0
policy_arms policy.BadKind = 0
policy_arms policy.BadField = 0

-- A walk over a policy up to its arms: a policy without arms whole, of the others the first word.
unfoldable pub OwnFacts : (List ℕ → Parsed Condition) → PolicyHead → List ℕ → ℕ → List ℕ → List ℕ → ℕ → Type 0
OwnFacts pc (Permit o) ws at before after next = Collected words names at before after (policy_node pc (λ vs. refuse 5) (Permit o) ws) next
OwnFacts pc Deny ws at before after next = Collected words names at before after (policy_node pc (λ vs. refuse 5) Deny ws) next
OwnFacts pc (Grant shape n o) ws at before after next = Collected words names at before after (policy_node pc (λ vs. refuse 5) (Grant shape n o) ws) next
OwnFacts pc (policy.All n) ws at before after next = Walked at 1 next (λ f. false) before after
OwnFacts pc (policy.Any n) ws at before after next = Walked at 1 next (λ f. false) before after
OwnFacts pc OrElse ws at before after next = Walked at 1 next (λ f. false) before after
OwnFacts pc (PermitWithTrace n o) ws at before after next = Collected words names at before after (policy_node pc (λ vs. refuse 5) (PermitWithTrace n o) ws) next
OwnFacts pc (DenyWithTrace shape denied) ws at before after next = Collected words names at before after (policy_node pc (λ vs. refuse 5) (DenyWithTrace shape denied) ws) next
OwnFacts pc policy.BadKind ws at before after next = Unit {0}
OwnFacts pc policy.BadField ws at before after next = Unit {0}
