-- Reading a condition, and a list of them, at a position of the words, for any claim about what is read. Assumes nothing.
use mathlib.Core.Path.{◌≡◌, refl, sym, ap, ◌∙◌}
use mathlib.Core.List.{List}
use Prim.Native.Nat.{ℕ, zero, suc, ◌+◌, ◌-◌, ◌<◌}
use native.Mathlib.Numerals.{sub-one}
use lib.ListN.{length, drop, get_or}
use lib.Seq.{drop-drop}
use Rattle.model.specs.Condition.{Condition, Conditions, cnil, ccons}
use Rattle.model.specs.Reading.{Parsed, refuse, got, next, many, read_condition}
use Rattle.laws.proofs.FieldLaws.{Holds, fine, nothing, then_holds}
use Rattle.laws.specs.Size.{words_c}
use Rattle.policy_model.specs.declared.ConditionHead.{ConditionHead}
use Rattle.policy_model.specs.Heads.{condition_head, condition_node}
use Rattle.condition.proofs.Evaluating as evaluating
use Rattle.policy_model.proofs.Conditions.{condition_leaves}

-- ---- a condition
module _ {Q : Condition → List ℕ → Type 0} where
  -- No level is left.
  pub no_levels : (depth : ℕ) (ws : List ℕ) → depth ≡ 0 → Holds Q (read_condition depth ws)
  no_levels depth ws e = rw e (evaluating.no_levels ws)

  -- By what its first word says.
  pub by_head : (words : List ℕ) (at depth : ℕ) (h : ConditionHead) → at < length words → (depth ≡ 0 → ⊥) → h ≡ condition_head (get_or words at 0) →
      Holds Q (condition_node (read_condition (depth - 1)) h (drop (at + 1) words)) → Holds Q (read_condition depth (drop at words))
  by_head words at zero h lt f e g = absurd (f refl)
  by_head words at (suc depth) h lt f e g = evaluating.by_head words at depth h lt e (rw sub-one at g)

-- ---- a list: what is known of the first condition, which ends at `after`, and of the others from there says what is asked of them all
module _ {One : Condition → List ℕ → Type 0} {Others Whole : Conditions → List ℕ → Type 0} (words : List ℕ) (at after : ℕ)
    (ends : (c : Condition) (rest : List ℕ) → One c rest → after ≡ at + words_c c)
    (join : (c : Condition) (rest : List ℕ) (cs : Conditions) (us : List ℕ) → One c rest → Others cs us → Whole (ccons c cs) us) where
  others_after : (q : Parsed Condition) (k : List ℕ → Parsed Conditions) → Holds (λ c rest. drop (words_c c) (drop at words) ≡ rest) q → Holds One q →
      Holds Others (k (drop after words)) → Holds Whole (next q (λ c vs. next (k vs) (λ cs us. got (ccons c cs) us)))
  others_after (refuse n) k l s u = nothing
  others_after (got c rest) k l s u =
      let on : drop after words ≡ rest = ap (λ n. drop n words) (ends c rest s.it) ∙ sym (drop-drop (words_c c) at words) ∙ l.it in
      then_holds (k rest) (λ cs us. got (ccons c cs) us) (rw on at u) (λ cs us v. fine (join c rest cs us s.it v))

  pub first_arm : (depth count : ℕ) → (count ≡ 0 → ⊥) → Holds One (read_condition depth (drop at words)) → Holds Others (many cnil ccons (read_condition depth) (count - 1) (drop after words)) →
      Holds Whole (many cnil ccons (read_condition depth) count (drop at words))
  first_arm depth zero f s u = absurd (f refl)
  first_arm depth (suc count) f s u =
      others_after (read_condition depth (drop at words)) (λ vs. many cnil ccons (read_condition depth) count vs) (condition_leaves depth (drop at words)) s (rw sub-one at u)

-- Where some are read there is one.
abbrev pub Some : Conditions → Type 0
Some cnil = ⊥
Some (ccons c cs) = Unit {0}

pub some_arms : (p : List ℕ → Parsed Condition) (count : ℕ) (ws : List ℕ) → (count ≡ 0 → ⊥) → Holds (λ cs _. Some cs) (many cnil ccons p count ws)
some_arms p zero ws f = absurd (f refl)
some_arms p (suc count) ws f = one_first (p ws)
  where
    cons_first : (c : Condition) (q : Parsed Conditions) → Holds (λ cs _. Some cs) (next q (λ cs us. got (ccons c cs) us))
    cons_first c (refuse n) = nothing
    cons_first c (got cs us) = fine tt

    one_first : (q : Parsed Condition) → Holds (λ cs _. Some cs) (next q (λ c vs. next (many cnil ccons p count vs) (λ cs us. got (ccons c cs) us)))
    one_first (refuse n) = nothing
    one_first (got c vs) = cons_first c (many cnil ccons p count vs)
