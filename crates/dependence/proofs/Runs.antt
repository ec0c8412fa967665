-- The same of the calls that were run: a district that is sent the required facts alone completes as one that has all of them.
use Rattle.std.specs.Prelude.{◌≡◌, refl, cond, eqb, Result, Ok, Err, List, ℕ, length, take, replicate}
use Rattle.std.proofs.Common.{sym, ◌∙◌, ap, ap₂, subst}
use Rattle.std.proofs.Math.Option.{Option, none}
use Rattle.model.specs.Facts.{known_facts, table_fault}
use Rattle.model.specs.Outcome.{product_sets}
use Rattle.model.specs.Levels.{OutcomeTable}
use Rattle.model.specs.Decision.{Decision}
use Rattle.model.specs.Partial.{resolved}
use Rattle.model.specs.Record.{Record, tree}
use Rattle.model.specs.Reading.{got}
use Rattle.model.specs.Calls as model
use Rattle.model.specs.Products.{Outcome, read_record, complete_residual, required_residual_facts}
use Rattle.refusal.specs.declared.Refusal.{Refusal}
use Rattle.refusal.specs.declared.Refusal.TheVariants as cause
use Rattle.refusal.specs.Numbers.{number_of, by_number}
use Rattle.required.specs.Answers.{required_of}
use Rattle.answer.specs.Answers.{answer_of}
use Rattle.stages.specs.Runs.{Run, Completed, Asking, Asked}
use Rattle.stages.proofs.Guarantee.{wrote_words}
use Rattle.dependence.specs.Dependence.{Exactly, AlikeOn, SameRun}
use Rattle.dependence.proofs.SetLaws.{exactly, none_resolved}
use Rattle.dependence.proofs.Completion.{alike_of}

-- ---- a refusal by its number
abbrev cause_at : ℕ → Refusal
cause_at n =
    cond (eqb n 1) cause.Length (cond (eqb n 2) cause.TableLength (cond (eqb n 3) cause.TableField (cond (eqb n 4) cause.UnknownFact (cond (eqb n 5) cause.Kind (cond (eqb n 6) cause.WordsEnd (cond (eqb n 7) cause.Level (cond (eqb n 8) cause.Field (cond (eqb n 10) cause.WordsAfterTree (cond (eqb n 11) cause.Room (cond (eqb n 12) cause.Date (cond (eqb n 13) cause.Windows (cond (eqb n 14) cause.Clash (cond (eqb n 15) cause.Register (cond (eqb n 16) cause.SheetNumber (cond (eqb n 17) cause.Contradiction (cond (eqb n 18) cause.Allowance (cond (eqb n 19) cause.BitsEnd (cond (eqb n 20) cause.Filler (cause.OutcomeTable)))))))))))))))))))

same_cause : (e : Refusal) → cause_at (number_of e) ≡ e
same_cause cause.Length = refl
same_cause cause.TableLength = refl
same_cause cause.TableField = refl
same_cause cause.UnknownFact = refl
same_cause cause.Kind = refl
same_cause cause.WordsEnd = refl
same_cause cause.Level = refl
same_cause cause.Field = refl
same_cause cause.WordsAfterTree = refl
same_cause cause.Room = refl
same_cause cause.Date = refl
same_cause cause.Windows = refl
same_cause cause.Clash = refl
same_cause cause.Register = refl
same_cause cause.SheetNumber = refl
same_cause cause.Contradiction = refl
same_cause cause.Allowance = refl
same_cause cause.BitsEnd = refl
same_cause cause.Filler = refl
same_cause cause.OutcomeTable = refl

same_answer : (r r' : Result ℕ Refusal) → by_number r ≡ by_number r' → r ≡ r'
same_answer (Ok n) (Ok m) e = ap Ok (let h : n ≡ m = cc in h)
same_answer (Ok n) (Err d) e = cc
same_answer (Err c) (Ok m) e = cc
same_answer (Err c) (Err d) e = ap Err (sym (same_cause c) ∙ ap cause_at (let h : number_of c ≡ number_of d = cc in h) ∙ same_cause d)

wrote_same : (us vs : List ℕ) → model.wrote us ≡ model.wrote vs → us ≡ vs
wrote_same us vs e = cc

-- `asked` is a run of `required_residual_facts` on whatever words, with a set of sixteen numbers.
module _ (rec : List ℕ) (asked : Asking) (ran : Asked rec asked) (sixteen : length asked.before ≡ 16) where
  left : asked.after ≡ (required_residual_facts rec).set
  left = rw sixteen at ran.set_is

  -- Of words that read as a record it leaves exactly the facts that the tree carries, and of a Resolved one none.
  pub exactly_run : (r : Record Outcome) (ws : List ℕ) → read_record rec ≡ got r ws → Exactly asked.after (tree r)
  exactly_run r ws e = subst (λ s. Exactly s (tree r)) (sym left) (exactly product_sets rec r ws e)

  pub none_run : (r : Record Outcome) (ws : List ℕ) (d : Decision Outcome) → read_record rec ≡ got r ws → r.body ≡ resolved d → (asked.after ≡ replicate 16 0) × (asked.answer ≡ Ok 0)
  none_run r ws d e b =
      let none_of = none_resolved product_sets rec r ws d e b in
      (left ∙ ap (λ m. m.set) none_of, same_answer asked.answer (Ok 0) (ran.answer_is ∙ ap required_of none_of))

  -- Two runs of a completion, by the same outcome table or by none, on the same words under the same number, with outputs of equal length and with known tables without fault that read
  -- alike on each fact of the set, return the same and leave the same words.
  pub completes_alike : (g : Option OutcomeTable) (number : ℕ) (s s' : Run) → Completed g number rec s → Completed g number rec s' → length s.before ≡ length s'.before
      → table_fault known_facts s.facts ≡ none → table_fault known_facts s'.facts ≡ none → AlikeOn asked.after s.facts s'.facts → SameRun s s'
  completes_alike g number s s' c c' e k k' h =
      let answer = alike_of g number rec s.facts s'.facts (length s.before) k k' (subst (λ set. AlikeOn set s.facts s'.facts) left h) in
      let rooms : length s.before ≡ length s'.before = e in
      let same : complete_residual g number rec s.facts (length s.before) ≡ complete_residual g number rec s'.facts (length s'.before) = answer ∙ ap (complete_residual g number rec s'.facts) rooms in
      let equal : s.answer ≡ s'.answer = same_answer s.answer s'.answer (c.answer_is ∙ ap answer_of same ∙ sym c'.answer_is) in
      record {
        answers = equal;
        words = λ n w. wrote_same (take n s.after) (take n s'.after) (sym (wrote_words c n w) ∙ same ∙ wrote_words c' n (sym equal ∙ w));
        outputs = λ b. c.output_is ∙ ap₂ model.afterwards same b ∙ sym c'.output_is;
      }
