-- `calls::check_sheet` meets its contract: its words, and then its number. Assumes nothing.
use mathlib.Core.Path.{◌≡◌, refl, ap, ◌∙◌}
use mathlib.Core.Bool.{Bool, false}
use mathlib.Core.Option.{none, some}
use Prim.Native.Nat.{ℕ, ◌^◌}
use borrow.Author.Tests.{lt-ltb, le-ltb}
use Rattle.model.specs.Writing.{sheet_bits}
use Rattle.model.specs.Outcome.{below}
use Rattle.model.specs.Reading.{Parsed, refuse, got, read_sheet}
use Rattle.model.specs.Calls.{is_sheet_number}
use Rattle.policy_model.specs.Answers.{refusal}
use Rattle.policy_model.proofs.Checking.{sheet_passed_on}
use Rattle.calls.specs.Judged.{read_sheet_by, of_number}
use Rattle.calls.proofs.Judging.{right_number}
use Rattle.calls.proofs.check_sheet.Goals as goal

-- Words that are refused, and words that read.
refused_words : {A : Type 0} (n : ℕ) (right : Bool) (q : Parsed A) → some n ≡ refusal q → some n ≡ refusal (of_number right q)
refused_words n right (refuse m) e = e
refused_words n right (got x vs) e = cc

other_number : {A : Type 0} (right : Bool) (q : Parsed A) → right ≡ false → none ≡ refusal q → some 16 ≡ refusal (of_number right q)
other_number right (refuse m) o e = cc
other_number right (got x vs) o e = rw o refl

pub returns-in_err-check_sheet : goal.returns-in_err-check_sheet
returns-in_err-check_sheet c =
    let args = c.args in
    λ g e.
    sheet_passed_on _ _ c.from_residual.ensures.1
    ∙ refused_words _ (is_sheet_number args.number) (read_sheet_by g args.sheet.now) (c.in_err-check_sheet.ensures ∙ ap (λ m. refusal (read_sheet (below m) args.sheet.now)) e)

pub returns-then-number-lt-SHEET_NUMBERS : goal.returns-then-number-lt-SHEET_NUMBERS
returns-then-number-lt-SHEET_NUMBERS c =
    let args = c.args in
    λ g e.
    c.in_ok-check_sheet.ensures ∙ ap (λ m. refusal (read_sheet (below m) args.sheet.now)) e
    ∙ ap refusal (right_number (is_sheet_number args.number) (read_sheet_by g args.sheet.now) (lt-ltb args.number (2 ^ sheet_bits) c.if-number-lt-SHEET_NUMBERS.true))

pub returns-else-number-lt-SHEET_NUMBERS : goal.returns-else-number-lt-SHEET_NUMBERS
returns-else-number-lt-SHEET_NUMBERS c =
    let args = c.args in
    λ g e.
    other_number (is_sheet_number args.number) (read_sheet_by g args.sheet.now) (le-ltb args.number (2 ^ sheet_bits) c.if-number-lt-SHEET_NUMBERS.false)
    (c.in_ok-check_sheet.ensures ∙ ap (λ m. refusal (read_sheet (below m) args.sheet.now)) e)
