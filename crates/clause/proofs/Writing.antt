-- The node that is written is that of the decision which the given one stands for. Assumes nothing.
use mathlib.Core.Path.{◌≡◌, sym, ◌∙◌, ap, ap₂}
use mathlib.Core.Bool.{true, false, cond}
use mathlib.Core.List.{List}
use Prim.Native.Nat.{ℕ, ◌+◌}
use lib.ListN.{length}
use Rattle.model.specs.Fields.{words_for}
use Rattle.model.specs.Facts.{Table}
use Rattle.model.specs.Decision.{Denial, permits, denies}
use Rattle.model.specs.Products.{Outcome}
use Rattle.decision.specs.declared.Decision.{Decision}
use Rattle.decision.specs.Nodes.{clause_at}
use Rattle.decision.specs.Meaning.{decision_of}
use Rattle.decision.specs.Meaning.{permit_of as permit_in}
use Rattle.packing.specs.Written.{Written}
use Rattle.packing.specs.WrittenLaws.{written_same}
use Rattle.record.specs.declared.Clause.{Clause}
use Rattle.record.specs.Nodes.{mark_of, denial_of, permit_of, decision_words}
use Rattle.clause.specs.Clauses.{decision_size}
use Rattle.clause.specs.Answers.{ClauseIs, Gathered, DecisionWritten}

module _ (words : List ℕ) (d : Decision) (os fs : List ℕ) (clause : Clause) (c : ClauseIs words d.clause clause) (before after : List ℕ) (r : ℕ) where
  permit_same : d.permit ≡ true → (T : Table) (buf : List ℕ) → Gathered words T buf d os fs → permit_of d.outcome clause.label os fs ≡ decision_of words T buf d
  unfolding decision_of permit_in
  permit_same e T buf g =
      let label : mark_of clause.label ≡ (clause_at words T d.clause).label = sym (ap (λ (q : Denial Outcome). q.label) (c.is T g.clause)) in
      ap (λ l. permits (record { outcome = d.outcome; obligations = os; label = l; facts = fs })) label
      ∙ ap₂ (λ xs ys. permits (record { outcome = d.outcome; obligations = xs; label = (clause_at words T d.clause).label; facts = ys })) (g.obligations e) g.facts
      ∙ sym (ap (λ b. cond b (permits (permit_in words T buf d)) (denies (clause_at words T d.clause))) e)

  pub permit_written : d.permit ≡ true → r ≡ 2 + words_for 4 (length os) + words_for 2 (length fs) →
      Written (decision_words (permit_of d.outcome clause.label os fs)) before after r → DecisionWritten words d os fs before after r
  permit_written e n w =
      record {
        number = n ∙ sym (ap (λ b. decision_size b (length os) (length fs)) e);
        written = λ T buf D is g. written_same w (ap decision_words (permit_same e T buf g ∙ is));
      }

  deny_same : d.permit ≡ false → (T : Table) (buf : List ℕ) → Gathered words T buf d os fs → denies (denial_of clause fs) ≡ decision_of words T buf d
  unfolding decision_of
  deny_same e T buf g =
      ap (λ xs. denies (denial_of clause xs)) g.facts
      ∙ ap denies (sym (c.is T g.clause))
      ∙ sym (ap (λ b. cond b (permits (permit_in words T buf d)) (denies (clause_at words T d.clause))) e)

  pub deny_written : d.permit ≡ false → r ≡ 3 + words_for 2 (length fs) →
      Written (decision_words (denies (denial_of clause fs))) before after r → DecisionWritten words d os fs before after r
  deny_written e n w =
      record {
        number = n ∙ sym (ap (λ b. decision_size b (length os) (length fs)) e);
        written = λ T buf D is g. written_same w (ap decision_words (deny_same e T buf g ∙ is));
      }
