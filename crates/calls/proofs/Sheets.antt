-- The answers of a call that reads a sheet. Assumes nothing.
use mathlib.Core.Path.{◌≡◌, refl, ap}
use mathlib.Core.Bool.{false}
use mathlib.Core.Option.{Option, none, some}
use mathlib.Core.List.{List, []}
use Prim.Native.Nat.{ℕ, ◌≤◌}
use native.Mathlib.Omega.{arith}
use lib.ListN.{length, drop}
use Rattle.std.specs.Prelude.{Err}
use Rattle.model.specs.Facts.{TableKind, table_fault}
use Rattle.model.specs.Policy.{Policy}
use Rattle.model.specs.Consulted.{Consulted}
use Rattle.model.specs.Record.{Record}
use Rattle.model.specs.Reading.{Parsed, refuse, got, sheet_words, record_words, sheet_length}
use Rattle.model.specs.Calls as model
use Rattle.model.specs.Calls.{is_sheet_number}
use Rattle.model.specs.Levels.{OutcomeTable, outcome_count}
use Rattle.model.specs.Products.{Outcome, write}
use Rattle.laws.proofs.Deeper.{follows_got}
use Rattle.laws.proofs.Wider.{sheet_among}
use Rattle.laws.proofs.FieldLaws.{held_at}
use Rattle.policy_model.specs.Answers.{refusal}
use Rattle.policy_model.proofs.Records.{sheet_tree, was_read}
use Rattle.refusal.specs.declared.Refusal.{Refusal}
use Rattle.refusal.specs.Numbers.{number_of}
use Rattle.answer.specs.Answers.{Answer, Answered, Makes, Numbered}
use Rattle.calls.specs.Judged.{read_sheet_by, judged_sheet}
use Rattle.calls.proofs.Judging.{judged_got, by_judged, few_words_lem}

refused_by : (n : ℕ) (q : Parsed (Policy Outcome)) → some n ≡ refusal q → q ≡ refuse n
refused_by n (refuse m) e = ap refuse (let h : m ≡ n = cc in h)
refused_by n (got t ws) e = cc

module _ (g : Option OutcomeTable) (kind : TableKind) (number : ℕ) (sheet facts : List ℕ) where
  pub sheet_few : none ≡ refusal (judged_sheet g kind number sheet facts) → length sheet ≤ record_words
  sheet_few e =
      was_read (judged_sheet g kind number sheet facts) e (λ t vs e.
      omega (arith, few_words_lem (length sheet) sheet_words (judged_got (sheet_length sheet) (table_fault kind facts) (is_sheet_number number) (read_sheet_by g sheet) t vs e).0))

  -- The call makes a record of the tree, with nothing consulted before, and puts the number into it.
  module _ (made : Policy Outcome → Consulted → Record Outcome) (out : List ℕ) where
    abbrev Wrote : Policy Outcome → model.Answer
    Wrote t = model.under number (write (length out) (made t []))

    abbrev Call : model.Answer
    Call = model.unless_long (sheet_length sheet) (model.unless_fault (table_fault kind facts) (model.on_read (read_sheet_by g sheet) (λ t. model.unless_other (is_sheet_number number) (Wrote t))))

    pub sheet_refused : (cause : Refusal) → some (number_of cause) ≡ refusal (judged_sheet g kind number sheet facts) → Answered Call out out (Err cause)
    sheet_refused cause e =
        by_judged (sheet_length sheet) (table_fault kind facts) (is_sheet_number number) (read_sheet_by g sheet) Wrote (refuse (number_of cause)) (refused_by (number_of cause) (judged_sheet g kind number sheet facts) e)
        (record { answer_is = refl; output_is = refl })

    pub sheet_made : outcome_count g ≤ 65536 → none ≡ refusal (judged_sheet g kind number sheet facts) → {written after : List ℕ} {a r : Answer} → Makes made sheet 0 0 out written a → Numbered number written after a r → Answered Call out after r
    sheet_made few e m u =
        was_read (judged_sheet g kind number sheet facts) e (λ t vs e.
        let read = (judged_got (sheet_length sheet) (table_fault kind facts) (is_sheet_number number) (read_sheet_by g sheet) t vs e).2 in
        by_judged (sheet_length sheet) (table_fault kind facts) (is_sheet_number number) (read_sheet_by g sheet) Wrote (got t vs) e
        (u.numbers (write (length out) (made t [])) out (held_at (m.makes [] (drop 1 sheet) tt refl (omega arith) (omega arith) refl false) (held_at (sheet_tree sheet) (follows_got (sheet_among (outcome_count g) sheet few) read)))))
