-- A Resolved record that is measured and then written, or refused with 11. Assumes nothing.
use mathlib.Core.Path.{◌≡◌, refl, ◌∙◌, ap}
use mathlib.Core.Bool.{Bool, true, false}
use mathlib.Core.List.{List, ◌++◌, map}
use Prim.Native.Nat.{ℕ, ◌+◌, ◌-◌, ◌/◌, ◌≤◌, ◌<◌}
use native.Mathlib.Omega.{arith}
use lib.ListN.{length, take, drop, length-map}
use Rattle.model.specs.Facts.{Table}
use Rattle.model.specs.Outcome.{product_sets}
use Rattle.model.specs.Decision.{Decision as Decided}
use Rattle.model.specs.Partial.{resolved}
use Rattle.model.specs.Consulted.{Consulted}
use Rattle.model.specs.Record.{Record}
use Rattle.model.specs.Writing.{entry_field}
use Rattle.model.specs.Products.{Outcome}
use Rattle.laws.proofs.Lengths.{length_encode_d, length_encode_r}
use Rattle.packing.specs.Written as packing
use Rattle.packing.specs.WrittenLaws.{written_lent, written_same}
use Rattle.record.specs.Nodes.{front_words}
use Rattle.record.specs.NodeLaws.{record_words_lem}
use Rattle.policy_model.specs.declared.Status.TheVariants.{Resolved}
use Rattle.decision.specs.declared.Decision.{Decision}
use Rattle.decision.specs.Meaning.{decision_of, Sound}
use Rattle.decision.specs.Answers.{Held}
use Rattle.clause.specs.Clauses.{decision_size, countable}
use Rattle.clause.specs.Answers.{ClauseFacts, DecisionWritten}
use Rattle.clause.proofs.AnswerLaws.{gathered, gathered_size, gathered_short, node_small, few_facts}
use Rattle.std.specs.Prelude.{Ok, Err}
use Rattle.refusal.specs.declared.Refusal.TheVariants.{Room}
use Rattle.answer.specs.Answers.{Put}
use Rattle.answer.proofs.Writing.{words_of, no_room, long_list, written_record}
use Rattle.decision.specs.Room.{list_room}

-- The record of a decision and a consulted list, and how many words it takes.
abbrev record_of : Decided Outcome → Consulted → Record Outcome
record_of D l = record { body = resolved D; log = l }

pub size_small : (permit : Bool) (held named : ℕ) → held ≤ list_room → countable permit held named ≡ true → decision_size permit held named ≤ 2100
size_small permit held named h k = node_small permit held named h (few_facts permit held named k)

module _ {W : List ℕ} {T : Table} {buf : List ℕ} {d : Decision} {os : List ℕ} {held : ℕ} {fs : List ℕ} {named : ℕ} {entries : List ℕ}
    (h : Held W d buf os held) (wide : list_room ≤ length os) (f : ClauseFacts W T d.clause fs named) where
  size_is : Sound W buf d → (l : Consulted) → entries ≡ map entry_field l →
      length (words_of (record_of (decision_of W T buf d) l)) ≡ 1 + (length entries + 1) / 2 + decision_size d.permit held named
  size_is s l e =
      let D = decision_of W T buf d in
      omega (arith, length_encode_r product_sets.number (record_of D l), length_encode_d product_sets.number D, gathered_size s h wide f, ap length e, length-map l entry_field)

  module _ {out : List ℕ} where
    pub put_long : countable d.permit held named ≡ false → Put W T buf d entries out out (Err Room)
    put_long k = record { put = λ l s e. long_list (length out) (record_of (decision_of W T buf d) l) out (gathered_short s h wide f ∙ k) }

    pub put_no_room : (size : ℕ) → size ≡ decision_size d.permit held named → length out < 1 + (length entries + 1) / 2 + size → Put W T buf d entries out out (Err Room)
    put_no_room size z k = record { put = λ l s e. no_room (length out) (record_of (decision_of W T buf d) l) out (omega (arith, size_is s l e)) }

    pub put_written : {mid tail : List ℕ} {front rest : ℕ} (size : ℕ) → size ≡ decision_size d.permit held named → countable d.permit held named ≡ true → length entries ≤ 1024 → 1 + (length entries + 1) / 2 + size ≤ length out →
        packing.Written (front_words Resolved entries) out mid front → DecisionWritten W d (take held os) (take named fs) (take (length mid - front) (drop front mid)) tail rest →
        Put W T buf d entries out (take front mid ++ (tail ++ drop (length mid - front) (drop front mid))) (Ok (front + rest))
    put_written {mid} {tail} {front} {rest} size z k few room p w =
        record {
          put = λ l s e.
              let whole = written_same (written_lent p (w.written T buf (decision_of W T buf d) refl (gathered s h wide f))) (record_words_lem (record_of (decision_of W T buf d) l) Resolved entries refl e) in
              let n = size_is s l e in
              let small = size_small d.permit held named h.few k in
              written_record (length out) (front + rest) (record_of (decision_of W T buf d) l) out (take front mid ++ (tail ++ drop (length mid - front) (drop front mid)))
              (omega (arith, whole.number)) (omega (arith, whole.number)) (gathered_short s h wide f ∙ k) whole;
        }
