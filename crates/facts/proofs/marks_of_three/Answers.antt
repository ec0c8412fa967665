-- `facts::marks_of_three` meets its contract, by a test that is computed for each byte. Assumes nothing.
use native.Mathlib.Omega.{arith}
use Rattle.model.specs.Facts.{partial_facts}
use Rattle.facts.proofs.Faults.{marks_say}
use Rattle.facts.proofs.marks_of_three.Goals as goal

pub returns : goal.returns
returns c = marks_say partial_facts c.args.byte (omega arith)
