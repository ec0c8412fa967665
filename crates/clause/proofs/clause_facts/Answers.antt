-- `clause::clause_facts` meets its contract: each node by its head. Assumes nothing.
use mathlib.Core.Path.{refl, sym, ◌∙◌, ap}
use Prim.Native.Nat.{◌+◌, ◌%◌}
use Rattle.clause.proofs.Nodes.{facts_none, facts_grant, facts_permit, facts_deny}
use Rattle.clause.proofs.clause_facts.Goals as goal

pub returns-in-Grant : goal.returns-in-Grant
returns-in-Grant c =
    facts_grant _ _ _ _ _ _ _ _ _ _ c.in-Some.ensures (sym c.in-Grant.is ∙ c.policy_head.ensures) (ap (λ n. c.in-Some.at + n) c.before_condition_in.ensures) c.decisive_arm-named.ensures

pub returns-in-PermitWithTrace : goal.returns-in-PermitWithTrace
returns-in-PermitWithTrace c =
    facts_permit _ _ _ _ _ _ _ _ _ _ c.in-Some.ensures (sym c.in-PermitWithTrace.is ∙ c.policy_head.ensures) (ap (λ n. c.in-Some.at + 2 + n) c.obligation_words.ensures) (ap (λ w. w % 65536) c.word_at-count.ensures) c.load_facts.ensures

pub returns-in-DenyWithTrace : goal.returns-in-DenyWithTrace
returns-in-DenyWithTrace c =
    facts_deny _ _ _ _ _ _ _ _ _ _ c.in-Some.ensures (sym c.in-DenyWithTrace.is ∙ c.policy_head.ensures) refl c.word_at.ensures c.load_facts-in-DenyWithTrace.ensures

pub returns-in_default-policy_head : goal.returns-in_default-policy_head
returns-in_default-policy_head c =
    facts_none _ _ _ _ _ _ c.in-Some.ensures c.policy_head.ensures (record { no_grant = c.in_default-policy_head.not-Grant; no_permit = c.in_default-policy_head.not-PermitWithTrace; no_deny = c.in_default-policy_head.not-DenyWithTrace })
