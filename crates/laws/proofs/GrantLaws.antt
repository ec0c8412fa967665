-- What is read of a grant, by the words after its first. Assumes nothing.
use Rattle.std.specs.Prelude.{◌≡◌, List, [], ◌∷◌, ℕ, ◌+◌, ◌/◌, ◌%◌, ◌≤◌, length, drop}
use Rattle.std.proofs.Common.{◌∙◌, ap, arith, refl}
use Rattle.std.proofs.Math.Option.{Option}
use Rattle.model.specs.Fields.{words_for, per_word}
use Rattle.model.specs.Condition.{Condition}
use Rattle.model.specs.Policy.{Grant, Policy, grant}
use Rattle.model.specs.Writing.{obligation_bits}
use Rattle.model.specs.Reading.{Parsed, got, another, mark, shape_of, read_list, obligation, grant_more}
use Rattle.laws.proofs.FieldLaws.{Holds, fine, nothing, then_holds, itself, anything}
use Rattle.laws.proofs.ReadForm.{read_obligations}

-- n obligations after its second word, then the condition.
pub record ReadsGrant {O : Type 0} (pc : List ℕ → Parsed Condition) (n : ℕ) (o : O) (ws : List ℕ) (t : Policy O) (rest : List ℕ) : Type 0 where
  pub clause : Grant O
  pub inner : Condition
  pub policy_is : t ≡ grant clause inner
  pub outcome_is : clause.outcome ≡ o
  pub long : length clause.obligations ≡ n
  pub fits : 1 + words_for (per_word obligation_bits) n ≤ length ws
  pub below : pc (drop (words_for (per_word obligation_bits) n) (drop 1 ws)) ≡ got inner rest

pub grant_read : {O : Type 0} (value : ℕ → Option O) (pc : List ℕ → Parsed Condition) (sh n : ℕ) (o : O) (ws : List ℕ) →
    Holds (ReadsGrant pc n o ws) (another ws (λ w vs. grant_more value pc sh n o (w / 65536) (w % 65536) vs))
grant_read value pc sh n o [] = nothing
grant_read value pc sh n o (w ∷ ws) =
    then_holds (mark (w / 65536)) _ (anything (mark (w / 65536))) (λ l _ _.
    then_holds (mark (w % 65536)) _ (anything (mark (w % 65536))) (λ m _ _.
    then_holds (read_list obligation obligation_bits n ws) _ (read_obligations n ws) (λ os vs h.
    then_holds (pc vs) _ (itself (pc vs)) (λ c us e.
    fine (record {
      clause = record { outcome = o; obligations = os; label = l; reason = m; shape = shape_of sh };
      inner = c;
      policy_is = refl;
      outcome_is = refl;
      long = h.long;
      fits = omega (arith, h.took_words);
      below = ap pc h.left ∙ e;
    })))))
