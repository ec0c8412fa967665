-- `step` of Policies meets its contract. Assumes nothing.
use Rattle.std.proofs.Common.{◌-◌, true, sym, subst, arith}
use Rattle.refusal.specs.Numbers.{by_number}
use Rattle.unpack.specs.Answers.{one_policy, all_policies}
use Rattle.unpack.specs.Places.{Steps}
use Rattle.unpack.proofs.Steps.{residual_true, down}
use Rattle.unpack.proofs.PoliciesNodes.step.Goals as goal

pub returns-in-8 : goal.returns-in-8
returns-in-8 c =
    let p = c.args.place in
    let res = c.args.self.now.residual in
    down c.if-depth-eq0.false (λ d. Steps p d (one_policy res d) (all_policies res (c.args.depth - 1)) (by_number c.grant_step.result)) (c.grant_step.ensures res)

pub returns-in-12 : goal.returns-in-12
returns-in-12 c =
    let p = c.args.place in
    let r = residual_true c.args.self.now.residual (omega (arith, c.last_kind.ensures, c.if-kind-last_kind.false)) in
    subst (λ b. Steps p c.args.depth (one_policy b c.args.depth) (all_policies b (c.args.depth - 1)) (by_number c.stored_step.result)) (sym r)
    (down c.if-depth-eq0.false (λ d. Steps p d (one_policy true d) (all_policies true (c.args.depth - 1)) (by_number c.stored_step.result)) (c.stored_step.ensures (c.args.depth - 1)))
