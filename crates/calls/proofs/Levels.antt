-- A call by an outcome table that is accepted, and by one that is not. Assumes nothing.
use mathlib.Core.Path.{◌≡◌, refl, sym, subst}
use mathlib.Core.Bool.{true, false}
use mathlib.Core.Option.{some}
use mathlib.Core.List.{List}
use Prim.Native.Nat.{ℕ}
use Rattle.std.specs.Prelude.{Err}
use Rattle.refusal.specs.declared.Refusal.{Refusal}
use Rattle.refusal.specs.declared.Refusal.TheVariants as refusal
use Rattle.model.specs.Outcome.{Outcomes}
use Rattle.model.specs.Levels.{OutcomeTable, outcomes_of, accepts, by_table}
use Rattle.model.specs.Calls as model
use Rattle.laws.proofs.LevelLaws.{by_accepted, by_refused}
use Rattle.answer.specs.Answers.{Answer, Answered}

module _ (call : Outcomes → model.Answer) (t : OutcomeTable) where
  pub with_table : {u : OutcomeTable} {before after : List ℕ} {r : Answer} → (u ≡ t) × (accepts t ≡ true) → Answered (call (outcomes_of (some u))) before after r → Answered (by_table (some t) call) before after r
  with_table {u} {before} {after} {r} e h =
      subst (λ a. Answered a before after r) (sym (by_accepted (some t) call e.1)) (subst (λ x. Answered (call (outcomes_of (some x))) before after r) e.0 h)

  pub table_refused : {cause : Refusal} {out : List ℕ} → (cause ≡ refusal.OutcomeTable) × (accepts t ≡ false) → Answered (by_table (some t) call) out out (Err cause)
  table_refused {cause} {out} e =
      subst (λ x. Answered (by_table (some t) call) out out (Err x)) (sym e.0)
      (subst (λ a. Answered a out out (Err refusal.OutcomeTable)) (sym (by_refused (some t) call e.1)) (record { answer_is = refl; output_is = refl }))
