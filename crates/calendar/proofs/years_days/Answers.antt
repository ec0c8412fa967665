-- `calendar::years_days` meets its contract: by the closed form. Assumes nothing.
use native.Mathlib.Omega.{arith}
use Rattle.calendar.proofs.Parts.{years_closed}
use Rattle.calendar.proofs.years_days.Goals as goal

pub returns-then-years-gt200 : goal.returns-then-years-gt200
returns-then-years-gt200 c =
    let n = c.args.years in
    omega (arith, years_closed n (omega arith))

pub returns : goal.returns
returns c =
    let n = c.args.years in
    omega (arith, years_closed n (omega arith))
