-- `calendar::Date::day_number` meets its contract: by its table and the closed form. Assumes nothing.
use mathlib.Core.Path.{◌≡◌, sym, ◌∙◌}
use mathlib.Core.Bool.{cond, ◌&&◌, and-false}
use Prim.Native.Nat.{ℕ}
use native.Mathlib.Omega.{arith}
use lib.Dec.{ltb}
use borrow.Author.Tests.{lt-ltb, le-ltb}
use Rattle.model.specs.Calendar.{leap}
use Rattle.calendar.specs.Answers.{date_of}
use Rattle.calendar.proofs.Parts.{counted}
use Rattle.calendar.proofs.Date.day_number.Goals.{else-month-gt2-via-then-month-gt2+else-is_leap, else-month-gt2-via-else-month-gt2}
use Rattle.calendar.proofs.Date.day_number.Goals as goal

pub bounds-month : goal.bounds-month
bounds-month c = omega (arith, counted (date_of c.args.self) c.requires)

pub overflow_add-number : goal.overflow_add-number
overflow_add-number c = omega (arith, counted (date_of c.args.self) c.requires, c.years_days.ensures)

pub overflow_add-number-2 : goal.overflow_add-number-2
overflow_add-number-2 c = omega (arith, counted (date_of c.args.self) c.requires, c.years_days.ensures)

pub overflow_add-result : goal.overflow_add-result
overflow_add-result c = omega (arith, counted (date_of c.args.self) c.requires, c.years_days.ensures)

pub returns-then-is_leap : goal.returns-then-is_leap
returns-then-is_leap c =
    let k = counted (date_of c.args.self) c.requires in
    let one : ◌≡◌ {A = ℕ} (cond (ltb 2 c.args.self.month && leap c.args.self.year) 1 0) 1 = rw (lt-ltb _ _ c.if-month-gt2.true, sym c.is_leap.ensures ∙ c.if-is_leap.true) in
    omega (arith, k, c.years_days.ensures)

pub returns : goal.returns
returns c =
    let k = counted (date_of c.args.self) c.requires in
    let none : ◌≡◌ {A = ℕ} (cond (ltb 2 c.args.self.month && leap c.args.self.year) 1 0) 0 =
    elim c.else-month-gt2.branch [
      | else-month-gt2-via-then-month-gt2+else-is_leap w ↦ rw (sym w.is_leap.ensures ∙ w.if-is_leap.false, and-false)
      | else-month-gt2-via-else-month-gt2 w ↦ rw (le-ltb _ _ w.if-month-gt2.false)
    ] in
    omega (arith, k, c.years_days.ensures)
