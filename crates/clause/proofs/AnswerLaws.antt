-- For callers: what is gathered for a decision, how many words its node takes, and whether its lists can be counted.
use Rattle.std.specs.Prelude.{◌≡◌, Bool, cond, Option, ◌&&◌, List, ℕ, ◌+◌, ◌≤◌, length, take}
use Rattle.std.proofs.Math.Path.{refl, ap, ap₂}
use Rattle.std.proofs.Common.{sym, ◌∙◌, arith, leb-true, length-take-le}
use Rattle.std.proofs.Math.Bool.{true, false}
use Rattle.std.proofs.Math.Dec.{leb}
use Rattle.std.proofs.lemmas.Bool.{and_parts}
use Rattle.model.specs.Fields.{words_for}
use Rattle.model.specs.Facts.{Table}
use Rattle.model.specs.Outcome.{product_sets}
use Rattle.model.specs.Decision.{permits, denies}
use Rattle.model.specs.Writing.{most_listed, most_held, short_d}
use Rattle.laws.specs.Size.{words_d}
use Rattle.laws.proofs.Lengths.{length_encode_d}
use Rattle.decision.specs.declared.Decision.{Decision}
use Rattle.decision.specs.Nodes.{clause_at}
use Rattle.decision.specs.Meaning.{obligations_in, permit_of, decision_of, Sound}
use Rattle.decision.specs.Answers.{Held}
use Rattle.record.specs.Nodes.{decision_words}
use Rattle.decision.specs.Room.{list_room}
use Rattle.clause.specs.Clauses.{decision_size, countable}
use Rattle.clause.specs.Answers.{ClauseFacts, Gathered}

-- As many obligations and facts as `decision::obligations` and `clause_facts` say.
pub held_taken : {words : List ℕ} {buf os : List ℕ} {d : Decision} {held : ℕ} → Held words d buf os held → list_room ≤ length os → length (take held os) ≡ held
held_taken {os = os} {held = held} h wide = length-take-le held os (omega (arith, h.few))

pub named_taken : {words : List ℕ} {T : Table} {node : Option ℕ} {fs : List ℕ} {count : ℕ} → ClauseFacts words T node fs count → length (take count fs) ≡ count
named_taken {fs = fs} {count = count} f = length-take-le count fs f.within

-- Of what is gathered for a decision: how many words its node takes, and whether its lists can be counted.
module _ {words : List ℕ} {T : Table} {buf os fs : List ℕ} {d : Decision} (g : Gathered words T buf d os fs) where
  facts_number : length (clause_at words T d.clause).facts ≡ length fs
  facts_number = ap length (sym g.facts)

  obligations_number : d.permit ≡ true → length (obligations_in words buf d) ≡ length os
  obligations_number e = ap length (sym (g.obligations e))

  size_by : (b : Bool) → d.permit ≡ b → words_d (cond b (permits (permit_of words T buf d)) (denies (clause_at words T d.clause))) ≡ decision_size b (length os) (length fs)
  unfolding permit_of
  size_by true e = ap₂ (λ n m. 2 + words_for 4 n + words_for 2 m) (obligations_number e) facts_number
  size_by false e = ap (λ m. 3 + words_for 2 m) facts_number

  -- As many words as `decision_words` says.
  pub decision_size_lem : length (decision_words (decision_of words T buf d)) ≡ decision_size d.permit (length os) (length fs)
  unfolding decision_of
  decision_size_lem = length_encode_d product_sets.number (decision_of words T buf d) ∙ size_by d.permit refl

  short_by : (b : Bool) → d.permit ≡ b → short_d (cond b (permits (permit_of words T buf d)) (denies (clause_at words T d.clause))) ≡ countable b (length os) (length fs)
  unfolding permit_of
  short_by true e = ap₂ (λ n m. leb m most_listed && leb n most_held) (obligations_number e) facts_number
  short_by false e = ap (λ m. leb m most_listed) facts_number

  -- Its lists can be counted where `countable` says so.
  pub decision_short : short_d (decision_of words T buf d) ≡ countable d.permit (length os) (length fs)
  unfolding decision_of
  decision_short = short_by d.permit refl

-- The same of what `decision::obligations` and `clause_facts` leave at the front of their buffers.
module _ {words : List ℕ} {T : Table} {buf os fs : List ℕ} {d : Decision} {held count : ℕ}
    (s : Sound words buf d) (h : Held words d buf os held) (wide : list_room ≤ length os) (f : ClauseFacts words T d.clause fs count) where
  pub gathered : Gathered words T buf d (take held os) (take count fs)
  gathered = record { clause = s.clause; obligations = λ _. h.front s.held; facts = f.front s.clause }

  pub gathered_size : length (decision_words (decision_of words T buf d)) ≡ decision_size d.permit held count
  gathered_size = decision_size_lem gathered ∙ ap₂ (decision_size d.permit) (held_taken h wide) (named_taken f)

  pub gathered_short : short_d (decision_of words T buf d) ≡ countable d.permit held count
  gathered_short = decision_short gathered ∙ ap₂ (countable d.permit) (held_taken h wide) (named_taken f)

-- What is countable is few.
pub few_facts : (b : Bool) (n m : ℕ) → countable b n m ≡ true → m ≤ most_listed
few_facts true n m e = leb-true m most_listed (and_parts (leb m most_listed) (leb n most_held) e).0
few_facts false n m e = leb-true m most_listed e

-- A bound for sums that must not wrap.
pub node_small : (b : Bool) (n m : ℕ) → n ≤ list_room → m ≤ most_listed → decision_size b n m ≤ 2100
node_small true n m h k = omega arith
node_small false n m h k = omega arith
