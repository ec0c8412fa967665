-- `facts::check_fields` meets its contract. Assumes nothing.
use Rattle.std.proofs.Common.{sym, ◌∙◌, arith}
use Rattle.std.proofs.lemmas.Result.{err_from_is_err_and}
use Rattle.facts.specs.Answers.{kind_of}
use Rattle.facts.proofs.Faults.{pass_field, no_field_left}
use Rattle.facts.proofs.check_fields.Goals as goal

pub loop-fact-preserved : goal.loop-fact-preserved
loop-fact-preserved c =
    c.loop-fact.invariant
    ∙ pass_field (kind_of c.args.kind) c.args.facts.now c.loop-fact.fact c.field.result _ (omega arith) c.field.ensures c.in_ok-check_field.ensures

pub returns-in_err-check_field : goal.returns-in_err-check_field
returns-in_err-check_field c =
    let p = err_from_is_err_and c.from_residual.result c.from_residual.ensures.1 in
    rw (p.1, p.2)
    (sym
    (c.loop-fact.invariant
    ∙ pass_field (kind_of c.args.kind) c.args.facts.now c.loop-fact.fact c.field.result _ (omega arith) c.field.ensures c.in_err-check_field.ensures))

pub returns : goal.returns
returns c = sym (c.loop-fact.invariant ∙ no_field_left (kind_of c.args.kind) c.args.facts.now c.loop-fact.fact (omega arith))
