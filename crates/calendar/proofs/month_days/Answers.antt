-- `calendar::month_days` meets its contract: by its table. Assumes nothing.
use mathlib.Core.Path.{◌≡◌, sym, ◌∙◌}
use mathlib.Core.Bool.{false, ◌&&◌, and-false}
use lib.Dec.{eqb}
use borrow.Author.Tests.{ne_eqb}
use Rattle.model.specs.Calendar.{leap}
use Rattle.calendar.proofs.Parts.{month_table, common_month}
use Rattle.calendar.proofs.month_days.Goals as goal
use Rattle.calendar.proofs.month_days.Goals.{else-month-eq2-via-then-month-eq2+else-is_leap, else-month-eq2-via-else-month-eq2}

pub returns-then-is_leap : goal.returns-then-is_leap
returns-then-is_leap c =
    let args = c.args in
    sym (month_table args.year args.month ∙ rw (c.if-month-eq2.true, sym c.is_leap.ensures ∙ c.if-is_leap.true))

pub returns-in-Some : goal.returns-in-Some
returns-in-Some c =
    let args = c.args in
    let common : (eqb args.month 2 && leap args.year) ≡ false = elim c.else-month-eq2.branch [
      | else-month-eq2-via-then-month-eq2+else-is_leap w ↦ rw (sym w.is_leap.ensures ∙ w.if-is_leap.false, and-false)
      | else-month-eq2-via-else-month-eq2 w ↦ rw (ne_eqb _ _ w.if-month-eq2.false)
    ] in
    c.in-Some.ensures.lookup.3.1 0 ∙ sym (common_month args.year args.month common)
