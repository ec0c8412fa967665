-- `required::collect_policy_facts` meets its contract: what answers for the nodes from `next` on answers for the policy. The words that are left fall with each turn. Assumes nothing.
use mathlib.Core.Path.{refl}
use Rattle.required.proofs.Nodes.{toward_end, facts_from_none}
use Rattle.required.proofs.collect_policy_facts.Goals as goal

pub returns : goal.returns
returns c = facts_from_none _ _ _ refl (toward_end c.args.words.now c.args.at _ _ _ c.loop-next-test.false c.loop-next.invariant)
