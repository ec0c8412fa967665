-- What a completion depends on: two known tables that give the same reading on each required fact are answered alike. Request 13, for any outcomes, and so for
-- every outcome table and for none.
use Rattle.std.specs.Prelude.{◌≡◌, refl, Bool, true, false, List, ℕ}
use Rattle.std.proofs.Common.{sym, ◌∙◌, ap}
use Rattle.std.proofs.Math.Option.{Option, none}
use Rattle.model.specs.Facts.{table_of, known_facts, table_fault}
use Rattle.model.specs.Outcome.{Outcomes, product_sets}
use Rattle.model.specs.Levels.{OutcomeTable, outcome_count, outcomes_of, acceptable, by_table}
use Rattle.model.specs.Policy.{Policy}
use Rattle.model.specs.Record.{Record, tree, completed}
use Rattle.model.specs.Reading.{Parsed, refuse, got, record_length, read_record}
use Rattle.model.specs.Required.{required_residual_facts}
use Rattle.model.specs.Calls.{Answer, unless_long, unless_fault, on_read, unless_other, has_number, under, write, complete_residual}
use Rattle.laws.specs.Each.{Each}
use Rattle.laws.proofs.NameLaws.{each_of}
use Rattle.laws.proofs.Deeper.{follows_got}
use Rattle.laws.proofs.Wider.{record_among}
use Rattle.laws.proofs.LevelLaws.{few_outcomes, by_accepted, by_refused}
use Rattle.dependence.specs.Dependence.{Exactly, AlikeOn}
use Rattle.dependence.proofs.SetLaws.{exactly}
use Rattle.dependence.proofs.Readings.{Same, same_completed}

-- Alike on a set that holds exactly the facts of a tree, the tables read alike each fact that the tree names.
alike_each : {O : Type 0} (set one two : List ℕ) (t : Policy O) → Exactly set t → AlikeOn set one two → Each (Same (table_of one) (table_of two)) t
alike_each set one two t x h = each_of (Same (table_of one) (table_of two)) t (λ f n. h f (x.listed f n).0 (x.listed f n).1)

module _ (L : Outcomes) (number : ℕ) (rec one two : List ℕ) (room : ℕ) where
  -- What is answered, under the number, of a record that was read and completed.
  abbrev answer : Record L.O → Answer
  answer r = unless_other (has_number rec number) (under number (write L room r))

  abbrev answered : List ℕ → Record L.O → Answer
  answered known r = answer (completed L (table_of known) r)

  -- By what the words read as: a set that holds exactly the facts of the record's tree, if they are one.
  module _ (set : List ℕ) where
    alike_read : (q : Parsed (Record L.O)) → ((r : Record L.O) (ws : List ℕ) → q ≡ got r ws → Exactly set (tree r))
        → AlikeOn set one two → on_read q (answered one) ≡ on_read q (answered two)
    alike_read (refuse n) x h = refl
    alike_read (got r ws) x h = ap answer (same_completed (table_of one) (table_of two) L r (alike_each set one two (tree r) (x r ws refl) h))

    -- For any words, a record or not, any expected number and any room: if the tables have no fault of their own and read alike on each fact of the
    -- set, the answers are equal, word for word: decision, trace and consulted list, or the refusal.
    pub alike_on : ((r : Record L.O) (ws : List ℕ) → read_record L.value rec ≡ got r ws → Exactly set (tree r))
        → table_fault known_facts one ≡ none → table_fault known_facts two ≡ none → AlikeOn set one two
        → complete_residual L number rec one room ≡ complete_residual L number rec two room
    alike_on x k k' h =
        ap (unless_long (record_length rec))
        (ap (λ o. unless_fault o (on_read (read_record L.value rec) (answered one))) k
        ∙ alike_read (read_record L.value rec) x h
        ∙ sym (ap (λ o. unless_fault o (on_read (read_record L.value rec) (answered two))) k'))

  -- So of the required set.
  pub alike : table_fault known_facts one ≡ none → table_fault known_facts two ≡ none → AlikeOn (required_residual_facts L rec).set one two
      → complete_residual L number rec one room ≡ complete_residual L number rec two room
  alike k k' h = alike_on (required_residual_facts L rec).set (exactly L rec) k k' h

-- Two completions by the same outcome table, or by none. The required set takes no table: what reads by one reads by none, as the same tree.
module _ (g : Option OutcomeTable) (number : ℕ) (rec one two : List ℕ) (room : ℕ) where
  abbrev completing : List ℕ → Outcomes → Answer
  completing known L = complete_residual L number rec known room

  by_table_lem : acceptable g ≡ true → (r : Record ℕ) (ws : List ℕ) → read_record (outcomes_of g).value rec ≡ got r ws → Exactly (required_residual_facts product_sets rec).set (tree r)
  by_table_lem ok r ws e = exactly product_sets rec r ws (follows_got (record_among (outcome_count g) rec (few_outcomes g ok)) e)

  pub alike_of : table_fault known_facts one ≡ none → table_fault known_facts two ≡ none → AlikeOn (required_residual_facts product_sets rec).set one two
      → by_table g (completing one) ≡ by_table g (completing two)
  alike_of k k' h = by (acceptable g) refl
    where
      by : (b : Bool) → acceptable g ≡ b → by_table g (completing one) ≡ by_table g (completing two)
      by true ok =
          by_accepted g (completing one) ok
          ∙ alike_on (outcomes_of g) number rec one two room (required_residual_facts product_sets rec).set (by_table_lem ok) k k' h
          ∙ sym (by_accepted g (completing two) ok)
      by false e = by_refused g (completing one) e ∙ sym (by_refused g (completing two) e)
