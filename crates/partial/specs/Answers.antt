-- What reducing answers of a tree that is left. Document 01, "Reducing" and "How a request is turned back".
use Rattle.std.specs.Prelude.{◌≡◌, List, map, ℕ, ◌≤◌, length}
use Rattle.std.proofs.Math.Option.{Option}
use Rattle.model.specs.Policy.{Policy}
use Rattle.model.specs.Facts.{Table}
use Rattle.model.specs.Partial.{pending, Order}
use Rattle.model.specs.Consulted.{Consulted}
use Rattle.model.specs.Record.{Record}
use Rattle.model.specs.Writing.{entry_field}
use Rattle.model.specs.Levels.{OutcomeTable}
use Rattle.model.specs.Products.{Outcome, reduce_policy, walk, encode, write}
use Rattle.sizes.specs.Laid.{most_words, Laid}
use Rattle.residual.specs.Weight.{weight}
use Rattle.answer.specs.Answers.{Answer, Answered}

-- The Pending record of a tree that was laid, if its scratch has room for it, and of the consulted list, was written or refused.
pub record PutPending (entries scratch : List ℕ) (size : ℕ) (before after : List ℕ) (r : Answer) : Type 0 where
  pub put : (q : Policy Outcome) (l : Consulted) → Laid (weight q) (encode q) scratch size → (size ≤ most_words → size ≤ length scratch) → entries ≡ map entry_field l →
      Answered (write (length before) (record { body = pending q; log = l })) before after r

-- The record of a policy that is reduced, by the outcomes of a table or without one, after the facts that were consulted before.
abbrev pub reduced_after : Option OutcomeTable → Order → Table → Policy Outcome → Consulted → Record Outcome
reduced_after g o P t l = record { body = reduce_policy g o P t; log = walk g o P t l }
