-- `facts::marks` meets its contract, by a test that is computed for each byte. Assumes nothing.
use native.Mathlib.Omega.{arith}
use Rattle.model.specs.Facts.{known_facts}
use Rattle.facts.proofs.Faults.{marks_say}
use Rattle.facts.proofs.marks.Goals as goal

pub returns-in-Known : goal.returns-in-Known
returns-in-Known c = rw c.in-Known.is (marks_say known_facts c.args.byte (omega arith))
