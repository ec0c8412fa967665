-- `check` of Place meets its contract: what is asked of the nodes that are due, at this level and then at those above, is what is asked of the whole. Assumes nothing.
use Rattle.std.proofs.Common.{◌≡◌, ◌∙◌, sym, arith, rules, length-set, drop, Err}
use Rattle.unpack.specs.Places.{whole}
use Rattle.unpack.specs.LevelLaws.{one_due, opened, passed_stored, turned_back_lem, level_done, all_done}
use Rattle.unpack.proofs.Place.check.Goals as goal

pub loop-left-init : goal.loop-left-init
loop-left-init g c =
    record {
      asked = one_due (g.met.N.Nodes.lists c.args.nodes.now) _ _ _ _;
      level = omega arith;
      above = search rules;
      inside = c.args.self.now.inside;
      words = c.args.self.now.fewer;
      onward = omega arith;
    }

pub returns-then-level-eq0 : goal.returns-then-level-eq0
returns-then-level-eq0 g c =
    let i = c.loop-left.invariant in
    (sym (all_done (g.met.N.Nodes.lists c.args.nodes.now) _ _ _ _ _ _ c.if-left-eq0.true c.if-level-eq0.true ∙ i.asked), i.inside, i.words, i.onward)

pub loop-left-preserved-then-left-eq0 : goal.loop-left-preserved-then-left-eq0
loop-left-preserved-then-left-eq0 g c =
    let i = c.loop-left.invariant in
    record {
      asked = level_done (g.met.N.Nodes.lists c.args.nodes.now) _ _ _ _ _ _ c.if-left-eq0.true c.if-level-eq0.false ∙ i.asked;
      level = omega (arith, i.level);
      above = i.above;
      inside = i.inside;
      words = i.words;
      onward = i.onward;
    }

pub returns-in_err-step : goal.returns-in_err-step
returns-in_err-step g c =
    let e : c.from_residual.result ≡ Err c.in_err-step.field-0.0 = search rules in
    rw e (sym (turned_back_lem (g.met.N.Nodes.lists c.args.nodes.now) _ _ _ _ _ _ _ c.if-left-eq0.false (c.in_err-step.ensures) ∙ c.loop-left.invariant.asked))

pub loop-left-preserved-then-step-ne0 : goal.loop-left-preserved-then-step-ne0
loop-left-preserved-then-step-ne0 g c =
    let i = c.loop-left.invariant in
    let s = c.in_ok-step.ensures in
    record {
      asked = opened (g.met.N.Nodes.lists c.args.nodes.now) _ _ _ _ _ _ c.in_ok-step.step.found.words (drop c.in_ok-step.step.found.at (whole c.args.self.now.here)) c.in_ok-step.step.arms c.if-left-eq0.false (omega (arith, s.4, i.level, i.above, c.requires)) s.0 ∙ i.asked;
      level = omega (arith, s.4);
      above = simp length-set i.above;
      inside = s.1;
      words = s.3;
      onward = omega (arith, s.2, i.onward);
    }

pub loop-left-preserved : goal.loop-left-preserved
loop-left-preserved g c =
    let i = c.loop-left.invariant in
    let s = c.in_ok-step.ensures in
    record {
      asked = passed_stored (g.met.N.Nodes.lists c.args.nodes.now) _ _ _ _ _ _ c.in_ok-step.step.found.words (drop c.in_ok-step.step.found.at (whole c.args.self.now.here)) c.in_ok-step.step.arms c.if-left-eq0.false c.if-step-ne0.false s.0 ∙ i.asked;
      level = i.level;
      above = simp length-set i.above;
      inside = s.1;
      words = s.3;
      onward = omega (arith, s.2, i.onward);
    }
