-- `calls::check_record` meets its contract: its words, and then its number. Assumes nothing.
use mathlib.Core.Path.{◌≡◌, refl, sym, ap, ◌∙◌}
use mathlib.Core.Bool.{Bool, false}
use mathlib.Core.List.{[]}
use Prim.Native.Nat.{ℕ}
use borrow.Author.Tests.{eq-eqb, ne_eqb}
use Rattle.model.specs.Record.{Record}
use Rattle.model.specs.Outcome.{below}
use Rattle.model.specs.Reading.{Parsed, refuse, got, sheet_number, read_record}
use Rattle.model.specs.Calls.{has_number}
use Rattle.model.specs.Products.{Outcome}
use Rattle.policy_model.specs.Answers.{Lead, lead_of}
use Rattle.policy_model.proofs.Checking.{lead_passed_on}
use Rattle.calls.specs.Judged.{read_record_by, of_number}
use Rattle.calls.proofs.Judging.{right_number}
use Rattle.calls.proofs.check_record.Goals as goal

-- Words that are refused, and words that read.
refused_words : (n : ℕ) (right : Bool) (q : Parsed (Record Outcome)) → refuse n ≡ lead_of q → refuse n ≡ lead_of (of_number right q)
unfolding lead_of
refused_words n right (refuse m) e = e
refused_words n right (got x vs) e = cc

other_number : (right : Bool) (l : Lead) (q : Parsed (Record Outcome)) → right ≡ false → got l [] ≡ lead_of q → refuse 16 ≡ lead_of (of_number right q)
unfolding lead_of
other_number right l (refuse m) o e = cc
other_number right l (got x vs) o e = rw o refl

pub returns-in_err-head : goal.returns-in_err-head
returns-in_err-head c =
    let args = c.args in
    λ g e.
    lead_passed_on _ _ c.from_residual.ensures.1
    ∙ refused_words _ (has_number args.words.now args.number) (read_record_by g args.words.now) (c.in_err-head.ensures ∙ ap (λ m. lead_of (read_record (below m) args.words.now)) e)

pub returns-then-sheet_number-number : goal.returns-then-sheet_number-number
returns-then-sheet_number-number c =
    let args = c.args in
    λ g e.
    c.in_ok-head.ensures ∙ ap (λ m. lead_of (read_record (below m) args.words.now)) e
    ∙ ap lead_of (right_number (has_number args.words.now args.number) (read_record_by g args.words.now) (eq-eqb (sheet_number args.words.now) args.number (sym c.sheet_number.ensures ∙ c.if-sheet_number-number.true)))

pub returns-else-sheet_number-number : goal.returns-else-sheet_number-number
returns-else-sheet_number-number c =
    let args = c.args in
    λ g e.
    other_number (has_number args.words.now args.number) _ (read_record_by g args.words.now) (ne_eqb (sheet_number args.words.now) args.number (λ e. c.if-sheet_number-number.false (c.sheet_number.ensures ∙ e)))
    (c.in_ok-head.ensures ∙ ap (λ m. lead_of (read_record (below m) args.words.now)) e)
