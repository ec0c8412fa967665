-- The node of a resolved part: its size and its words. Assumes nothing.
use mathlib.Core.Path.{◌≡◌, refl, sym, ◌∙◌, ap}
use mathlib.Core.Bool.{Bool, true, false, cond}
use mathlib.Core.List.{List}
use Prim.Native.Nat.{ℕ, ◌≤◌, ◌<◌}
use native.Mathlib.Omega.{arith}
use lib.ListN.{length, take}
use Rattle.model.specs.Facts.{Table}
use Rattle.model.specs.Outcome.{product_sets}
use Rattle.model.specs.Decision.{Decision as Decided}
use Rattle.model.specs.Writing.{short_d}
use Rattle.model.specs.Products.{Outcome}
use Rattle.laws.specs.Size.{words_d}
use Rattle.laws.proofs.Lengths.{length_encode_d}
use Rattle.packing.specs.WrittenLaws.{written_front}
use Rattle.decision.specs.declared.Decision.{Decision}
use Rattle.decision.specs.Meaning.{decision_of, Sound}
use Rattle.decision.specs.Room.{list_room}
use Rattle.decision.specs.Answers.{Held}
use Rattle.clause.specs.Clauses.{decision_size, countable}
use Rattle.clause.specs.Answers.{ClauseFacts, DecisionWritten}
use Rattle.clause.proofs.AnswerLaws.{gathered, gathered_size, gathered_short, node_small, few_facts}
use Rattle.sizes.specs.Laid.{too_many}
use Rattle.residual.specs.Weight.{weight_d}
use Rattle.residual.specs.Answers.{NodeLaid}

-- ---- the node
weight_at : (b : Bool) (D : Decided Outcome) → short_d D ≡ b → weight_d D ≡ cond b (words_d D) too_many
weight_at b D e = ap (λ x. cond x (words_d D) too_many) e

module _ {W : List ℕ} {T : Table} {buf os : List ℕ} {d : Decision} {held : ℕ} {fs : List ℕ} {named : ℕ} (wide : list_room ≤ length os)
    (h : Held W d buf os held) (f : ClauseFacts W T d.clause fs named) where
  -- Its obligations or its facts can't be counted.
  pub node_long : (out : List ℕ) → countable d.permit held named ≡ false → NodeLaid W T d buf buf out too_many
  node_long out k = record {
    bound = omega arith;
    laid = λ s.
        let D = decision_of W T buf d in
        let w = weight_at false D (gathered_short s h wide f ∙ k) in
        record { size_is = omega (arith, w); front = λ l room. absurd (omega arith) };
    bytes = λ s. refl;
  }

  module _ (k : countable d.permit held named ≡ true) (size : ℕ) (e : size ≡ decision_size d.permit held named) where
    small : size ≤ 2100
    small = omega (arith, node_small d.permit held named h.few (few_facts d.permit held named k))

    node_size : Sound W buf d → size ≡ weight_d (decision_of W T buf d)
    node_size s =
        let D = decision_of W T buf d in
        e ∙ sym (gathered_size s h wide f) ∙ length_encode_d product_sets.number D ∙ sym (weight_at true D (gathered_short s h wide f ∙ k))

    -- There is no room for it.
    pub node_no_room : (out : List ℕ) → length out < size → NodeLaid W T d buf buf out size
    node_no_room out short = record {
      bound = omega (arith, small);
      laid = λ s. record { size_is = omega (arith, node_size s, small); front = λ l room. absurd (omega arith) };
      bytes = λ s. refl;
    }

    -- It was written.
    pub node_written : (out out' : List ℕ) → DecisionWritten W d (take held os) (take named fs) out out' size → NodeLaid W T d buf buf out' size
    node_written out out' w = record {
      bound = omega (arith, small);
      laid = λ s. record {
        size_is = omega (arith, node_size s, small);
        front = λ l room. written_front (w.written T buf (decision_of W T buf d) refl (gathered s h wide f));
      };
      bytes = λ s. refl;
    }
