-- `facts::faultless` meets its contract. Assumes nothing.
use mathlib.Core.Path.{sym, ◌∙◌}
use mathlib.Core.Bool.{and-true}
use lib.ListN.{drop_of_length-le}
use Rattle.facts.specs.Answers.{kind_of}
use Rattle.facts.proofs.Faults.{pass_byte}
use Rattle.facts.proofs.faultless.Goals as goal

pub loop-byte-preserved : goal.loop-byte-preserved
loop-byte-preserved c =
    c.loop-byte.invariant
    ∙ pass_byte
    (kind_of c.args.kind)
    c.args.facts.now
    c.loop-byte.byte-index
    c.loop-byte.marked
    c.marks-marked.result
    c.loop-byte-test.true
    c.marks-marked.ensures

pub returns : goal.returns
returns c =
    sym
    (c.loop-byte.invariant
    ∙ rw (drop_of_length-le c.args.facts.now c.loop-byte-test.false, and-true))
