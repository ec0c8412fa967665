-- `grant_width` of Here meets its contract: by the present bits of both marks. Assumes nothing.
use Rattle.unpack.proofs.Fields.{no_mark, no_label, no_reason, both_marks}
use Rattle.unpack.proofs.Here.grant_width.Goals as goal

pub returns-then-marks-lt-MARKED-clause-is : goal.returns-then-marks-lt-MARKED-clause-is
returns-then-marks-lt-MARKED-clause-is c = no_mark c.args.self.now _ c.bits-marks.ensures.is c.if-marks-lt-MARKED.true

pub returns-then-marks-lt-HALF-clause-is : goal.returns-then-marks-lt-HALF-clause-is
returns-then-marks-lt-HALF-clause-is c = no_label c.args.self.now _ c.bits-marks.ensures.is c.if-marks-lt-MARKED.false c.if-marks-lt-HALF.true

pub returns-then-marks-eq0-clause-is : goal.returns-then-marks-eq0-clause-is
returns-then-marks-eq0-clause-is c = no_reason c.args.self.now _ c.bits-marks.ensures.is c.if-marks-lt-HALF.false c.if-marks-eq0.true

pub returns-else-marks-eq0-clause-is : goal.returns-else-marks-eq0-clause-is
returns-else-marks-eq0-clause-is c = both_marks c.args.self.now _ c.bits-marks.ensures.is c.if-marks-lt-HALF.false c.if-marks-eq0.false
