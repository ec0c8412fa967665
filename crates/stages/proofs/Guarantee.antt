-- Demand 3 of what the public functions return: whatever list of narrowings a caller runs under one number, of either pair, all by one outcome table or by none.
-- Assumes nothing.
use Rattle.std.specs.Prelude.{◌≡◌, refl, true, Ok, Err, List, [], ◌∷◌, map, ℕ, length, take, drop}
use Rattle.std.proofs.Common.{sym, ◌∙◌, ap, ap₂, subst, take_at}
use Rattle.std.proofs.Math.Option.{Option, none}
use Rattle.model.specs.Facts.{table_of, known_facts, table_fault}
use Rattle.model.specs.Outcome.{Outcomes}
use Rattle.model.specs.Levels.{OutcomeTable, outcomes_of, acceptable, by_table}
use Rattle.model.specs.Decision.{Decision, products}
use Rattle.model.specs.Policy.{Policy}
use Rattle.model.specs.Partial.{Order}
use Rattle.model.specs.Record.{tree, evaluated, completed}
use Rattle.model.specs.Reading.{got, sheet_number, read_sheet}
use Rattle.model.specs.Calls as model
use Rattle.model.specs.Products.{Outcome, eval_policy, reduced}
use Rattle.laws.proofs.LevelLaws.{table_wrote, by_accepted}
use Rattle.refusal.specs.declared.Refusal.{Refusal}
use Rattle.refusal.specs.declared.Refusal.TheVariants.{Contradiction}
use Rattle.refusal.specs.Numbers.{number_of, by_number}
use Rattle.answer.specs.Answers.{Answer, Answered, answer_of, number_of as cause_of, written_of}
use Rattle.staging.specs.Bare.{bare}
use Rattle.staging.specs.Chain.{Step, InOrder, AllOf, run}
use Rattle.staging.specs.Statement as staging
use Rattle.staging.specs.Statement.{Call, AgreesOn, Settled, Staged}
use Rattle.staging.proofs.Demand3.{demand3_of, outcomes_kept, evaluate_back_of}
use Rattle.stages.specs.Runs.{Run, Narrowing, Accepted, handed_on, record_after, step_of, if_accepted, steps_of, Evaluated, Reduced, Completed, NarrowedAll, read_by, ResolvedWith, Guaranteed}

-- ---- what an answer tells of the call
module _ {a : model.Answer} {before after : List ℕ} {r : Answer} (h : Answered a before after r) where
  written_words : (b : model.Answer) → a ≡ b → (n : ℕ) → r ≡ Ok n → b ≡ model.wrote (take n after)
  written_words (model.refusal m) e n q = let same : Err m ≡ Ok n = sym (h.answer_is ∙ ap answer_of e) ∙ ap by_number q in cc
  written_words (model.wrote ws) e n q =
      let same : length ws ≡ n = ap written_of (sym (h.answer_is ∙ ap answer_of e) ∙ ap by_number q) in
      ap model.wrote (sym (ap (take n) (h.output_is ∙ ap (λ x. model.afterwards x before) e) ∙ take_at ws (drop (length ws) before) n same))

  pub wrote_words : (n : ℕ) → r ≡ Ok n → a ≡ model.wrote (take n after)
  wrote_words n q = written_words a refl n q

  told_number : (b : model.Answer) → a ≡ b → (cause : Refusal) → r ≡ Err cause → b ≡ model.refusal (number_of cause)
  told_number (model.refusal k) e cause q = ap model.refusal (ap cause_of (sym (h.answer_is ∙ ap answer_of e) ∙ ap by_number q))
  told_number (model.wrote ws) e cause q = let same : Ok (length ws) ≡ Err (number_of cause) = sym (h.answer_is ∙ ap answer_of e) ∙ ap by_number q in cc

  pub refused_number : (cause : Refusal) → r ≡ Err cause → a ≡ model.refusal (number_of cause)
  refused_number cause q = told_number a refl cause q

  pub accepted_if : (ws : List ℕ) → a ≡ model.wrote ws → Accepted r
  accepted_if ws e = by r (h.answer_is ∙ ap answer_of e)
    where
      by : (x : Answer) → by_number x ≡ Ok (length ws) → Accepted x
      by (Ok n) k = tt
      by (Err cause) k = cc

-- ---- the list of narrowings that were run, as the list of calls of `Staged`
abbrev call_of : Narrowing → Call
call_of n = record { order = n.order; facts = n.ran.facts; out = n.ran.before }

same_next : (a : model.Answer) (given before after : List ℕ) (r : Answer) → Answered a before after r → staging.handed_on a given ≡ handed_on given r after
same_next (model.refusal n) given before after (Ok m) h = let z = h.answer_is in cc
same_next (model.refusal n) given before after (Err cause) h = refl
same_next (model.wrote ws) given before after (Ok m) h =
    let same : m ≡ length ws = ap written_of h.answer_is in
    sym (take_at ws (drop (length ws) before) m (sym same)) ∙ ap (take m) (sym h.output_is)
same_next (model.wrote ws) given before after (Err cause) h = let z = h.answer_is in cc

same_steps : (a : model.Answer) (s : Step) (ss : List Step) (before after : List ℕ) (r : Answer) → Answered a before after r → staging.if_wrote a s ss ≡ if_accepted r s ss
same_steps (model.refusal n) s ss before after (Ok m) h = let z = h.answer_is in cc
same_steps (model.refusal n) s ss before after (Err cause) h = refl
same_steps (model.wrote ws) s ss before after (Ok m) h = refl
same_steps (model.wrote ws) s ss before after (Err cause) h = let z = h.answer_is in cc

-- By an accepted table each run is one by its outcomes.
module _ (g : Option OutcomeTable) (ok : acceptable g ≡ true) where
  abbrev By : Outcomes
  By = outcomes_of g

  plainly : (call : Outcomes → model.Answer) {before after : List ℕ} {r : Answer} → Answered (by_table g call) before after r → Answered (call By) before after r
  plainly call {before} {after} {r} h = subst (λ a. Answered a before after r) (by_accepted g call ok) h

  module _ (number : ℕ) where
    abbrev narrowing : Order → List ℕ → Run → Outcomes → model.Answer
    narrowing o given s L = model.narrow_residual L o number given s.facts (length s.before)

    after_runs : (ns : List Narrowing) (given : List ℕ) → NarrowedAll g number given ns → staging.after By number given (map call_of ns) ≡ record_after given ns
    after_runs [] given h = refl
    after_runs (n ∷ ns) given h =
        let s = n.ran in
        let call = narrowing n.order given s in
        ap (λ v. staging.after By number v (map call_of ns)) (same_next (call By) given s.before s.after s.answer (plainly call h.0))
        ∙ after_runs ns (handed_on given s.answer s.after) h.1

    steps_run : (ns : List Narrowing) (given : List ℕ) → NarrowedAll g number given ns → staging.accepted By number given (map call_of ns) ≡ steps_of ns
    steps_run [] given h = refl
    steps_run (n ∷ ns) given h =
        let s = n.ran in
        let call = narrowing n.order given s in
        let ran = plainly call h.0 in
        ap (λ v. staging.if_wrote (call By) (step_of n) (staging.accepted By number v (map call_of ns))) (same_next (call By) given s.before s.after s.answer ran)
        ∙ ap (staging.if_wrote (call By) (step_of n)) (steps_run ns (handed_on given s.answer s.after) h.1)
        ∙ same_steps (call By) (step_of n) (steps_of ns) s.before s.after s.answer ran

    -- ---- the theorem
    module _ (sheet known : List ℕ) (t : Policy Outcome) (reads : read_sheet By.value sheet ≡ got t []) (knows : table_fault known_facts known ≡ none) where
      abbrev evaluating : Run → Outcomes → model.Answer
      evaluating s L = model.evaluate L number sheet s.facts (length s.before)

      evaluated_run : (s : Run) (n : ℕ) → s.facts ≡ known → Evaluated g number sheet s → s.answer ≡ Ok n → ResolvedWith g (λ d. d ≡ eval_policy g (table_of known) t) (take n s.after)
      evaluated_run s n e h q =
          record {
            decided = evaluated By (table_of known) t;
            reads = evaluate_back_of g ok number sheet t reads known (length s.before) (take n s.after)
                (ap (λ f. model.evaluate By number sheet f (length s.before)) (sym e) ∙ wrote_words (plainly (evaluating s) h) n q);
            decision = eval_policy g (table_of known) t;
            resolves = refl;
            same = refl;
          }

      module _ (o : Order) (first : Run) (n : ℕ) (ns : List Narrowing) (ran : Reduced g o number sheet first) (took : first.answer ≡ Ok n) (later : NarrowedAll g number (take n first.after) ns)
          (agrees : AgreesOn t (table_of known) (table_of first.facts)) (all-agree : AllOf (λ s. AgreesOn t (table_of known) s.table) (steps_of ns)) where
        abbrev Given : List ℕ
        Given = take n first.after

        steps_are : staging.accepted By number Given (map call_of ns) ≡ steps_of ns
        steps_are = steps_run ns Given later

        staged : Staged By number o sheet known first.facts Given (map call_of ns) t
        staged =
            demand3_of g number o sheet known first.facts Given (map call_of ns) t (length first.before) reads knows (wrote_words ran n took) agrees
            (subst (AllOf (λ s. AgreesOn t (table_of known) s.table)) (sym steps_are) all-agree)

        -- The record after the narrowings, as the calls left it.
        end_is : staging.after By number Given (map call_of ns) ≡ record_after Given ns
        end_is = after_runs ns Given later

        abbrev completing : Run → Outcomes → model.Answer
        completing s L = model.complete_residual L number (record_after Given ns) s.facts (length s.before)

        completes : (s : Run) → s.facts ≡ known → completing s By ≡ model.complete_residual By number (staging.after By number Given (map call_of ns)) known (length s.before)
        completes s e = ap₂ (λ v f. model.complete_residual By number v f (length s.before)) (sym end_is) e

        narrows : (by : Order) (s : Run) → narrowing by (record_after Given ns) s By ≡ narrowing by (staging.after By number Given (map call_of ns)) s By
        narrows by s = ap (λ v. narrowing by v s By) (sym end_is)

        completed_run : (AsSaid : Decision Outcome → Type 0) → AsSaid staged.decision → (s : Run) (m : ℕ) → s.facts ≡ known → Completed g number (record_after Given ns) s → s.answer ≡ Ok m → ResolvedWith g AsSaid (take m s.after)
        completed_run AsSaid is s m e h q =
            record {
              decided = completed By (table_of known) staged.last;
              reads = staged.completion_reads (length s.before) (take m s.after) (sym (completes s e) ∙ wrote_words (plainly (completing s) h) m q);
              decision = staged.decision;
              resolves = staged.resolves;
              same = is;
            }

        guaranteed_of : Guaranteed g number o sheet known t first Given ns
        guaranteed_of = record {
          residual = staged.last;
          reads = sym (ap (read_by g) end_is) ∙ staged.read_back;
          by_the_rules = staged.by_the_rules ∙ ap (run By (reduced g o (table_of first.facts) t)) steps_are;
          under = sym (ap sheet_number end_is) ∙ staged.under;
          settled_first = staged.settled_first;
          settled_later = subst (AllOf (λ s. Settled (tree staged.last) s.table)) steps_are staged.settled_later;
          evaluated = evaluated_run;
          completed = completed_run (λ d. products d ≡ products (eval_policy g (table_of known) t)) (outcomes_kept g ok staged);
          in_order = λ e es. completed_run (λ d. bare d ≡ bare (eval_policy g (table_of known) t)) (staged.same_but_facts e (subst (AllOf InOrder) (sym steps_are) es));
          room_evaluate = λ s e h a.
              accepted_if (plainly (evaluating s) a) _ (ap (λ f. model.evaluate By number sheet f (length s.before)) e ∙ staged.room_evaluate (length s.before) h);
          room_reduce = λ by s f h a.
              accepted_if (plainly (λ L. model.partial_evaluate L by number sheet s.facts (length s.before)) a) _ (staged.room_reduce by (length s.before) s.facts h f);
          untouched = λ by s agree a q.
              staged.never_17 by (length s.before) s.facts agree (sym (narrows by s) ∙ refused_number (plainly (narrowing by (record_after Given ns) s) a) Contradiction q);
          room_narrow = λ by s f agree h a.
              accepted_if (plainly (narrowing by (record_after Given ns) s) a) _ (narrows by s ∙ staged.room_narrow by (length s.before) s.facts h f agree);
          room_complete = λ s e h a. accepted_if (plainly (completing s) a) _ (completes s e ∙ staged.room_complete (length s.before) h);
        }

-- For every accepted sheet and known table, every accepted run of a reduction of the sheet, by either order, and every list of runs of narrowings, each by either
-- order, from its record on, all with one number and by one outcome table, or by none: if the reduction's table of facts and every accepted one agree with the
-- known table, demand 3 and requests 6 to 8 hold of the words that the calls left. That the reduction was accepted shows that the outcome table was.
pub guaranteed : (g : Option OutcomeTable) (number : ℕ) (sheet known : List ℕ) (t : Policy Outcome) → read_sheet (outcomes_of g).value sheet ≡ got t [] → table_fault known_facts known ≡ none
    → (o : Order) (first : Run) (n : ℕ) (ns : List Narrowing) → Reduced g o number sheet first → first.answer ≡ Ok n → NarrowedAll g number (take n first.after) ns
    → AgreesOn t (table_of known) (table_of first.facts) → AllOf (λ s. AgreesOn t (table_of known) s.table) (steps_of ns)
    → Guaranteed g number o sheet known t first (take n first.after) ns
guaranteed g number sheet known t reads knows o first n ns ran took later agrees all-agree =
    let ok = (table_wrote g (λ L. model.partial_evaluate L o number sheet first.facts (length first.before)) (take n first.after) (wrote_words ran n took)).0 in
    guaranteed_of g ok number sheet known t reads knows o first n ns ran took later agrees all-agree
