-- The check of a condition by its first word. Assumes nothing.
use Rattle.std.specs.Prelude.{Result, Ok, Err}
use mathlib.Core.Path.{◌≡◌, refl, sym, ◌∙◌, ap}
use mathlib.Core.List.{List, ◌∷◌}
use Prim.Native.Nat.{ℕ, zero, suc, ◌+◌, ◌-◌, ◌≤◌, ◌<◌}
use native.Mathlib.Numerals.{sub-one}
use native.Mathlib.Omega.{arith}
use lib.ListN.{length, drop, get_or}
use Rattle.model.specs.Condition.{Condition, not_c, all_c, any_c, cnil, ccons}
use Rattle.model.specs.Writing.{encode_c}
use Rattle.model.specs.Reading.{Parsed, refuse, got, next, many, read_condition}
use Rattle.laws.specs.Size.{words_c, words_cs}
use Rattle.laws.proofs.Lengths.{length_encode_c}
use Rattle.laws.proofs.Canon.{same_c}
use Rattle.laws.proofs.NodeLaws.{condition_none}
use Rattle.policy_model.specs.declared.ConditionHead.{ConditionHead}
use Rattle.policy_model.specs.declared.ConditionHead.TheVariants.{Not, All, Any}
use Rattle.policy_model.specs.Answers.{checked, Lists}
use Rattle.policy_model.specs.Heads.{condition_head, condition_node, deep_condition}
use Rattle.policy_model.specs.HeadLaws.{condition_node_lem, condition_deep}
use Rattle.policy_model.proofs.Checking.{word_at, no_word, Leaves, leaves_of, end_with, many_first, many_none}

pub condition_leaves : (d : ℕ) (us : List ℕ) → Leaves words_c us (read_condition d us)
condition_leaves d us = leaves_of encode_c words_c length_encode_c us (read_condition d us) (same_c d us)

node_there : (depth w : ℕ) (ws : List ℕ) → (depth ≡ 0 → ⊥) → condition_node (read_condition (depth - 1)) (condition_head w) ws ≡ read_condition depth (w ∷ ws)
node_there zero w ws f = absurd (f refl)
node_there (suc depth) w ws f = rw sub-one (sym (condition_node_lem depth w ws))

module _ (words : List ℕ) (at depth : ℕ) where
  abbrev pub Asked : Result ℕ ℕ
  Asked = checked words_c at (read_condition depth (drop at words))

  pub no_condition : length words ≤ at → Err 6 ≡ Asked
  unfolding checked
  no_condition h = sym (ap (checked words_c at) (ap (read_condition depth) (no_word words at h) ∙ condition_none depth))

  pub too_deep : (n : ℕ) (h : ConditionHead) → at < length words → depth ≡ 0 → h ≡ condition_head (get_or words at 0) → n ≡ deep_condition h → Err n ≡ Asked
  unfolding checked
  too_deep n h lt z e f =
      sym (ap (checked words_c at) (ap (λ d. read_condition d (drop at words)) z ∙ ap (read_condition 0) (word_at words at lt) ∙ condition_deep (get_or words at 0) (drop (at + 1) words)
      ∙ ap refuse (ap deep_condition (sym e) ∙ sym f)))

  pub by_head : (h : ConditionHead) → at < length words → (depth ≡ 0 → ⊥) → h ≡ condition_head (get_or words at 0) →
      checked words_c at (condition_node (read_condition (depth - 1)) h (drop (at + 1) words)) ≡ Asked
  by_head h lt f e =
      ap (checked words_c at) (ap (λ x. condition_node (read_condition (depth - 1)) x (drop (at + 1) words)) e ∙ node_there depth (get_or words at 0) (drop (at + 1) words) f
      ∙ ap (read_condition depth) (sym (word_at words at lt)))

-- What follows the first word of a Not, an All, an Any.
module _ (p : List ℕ → Parsed Condition) (at : ℕ) (us : List ℕ) where
  -- The arm of a Not is read as a list of one.
  one_arm : (q : Parsed Condition) → checked words_cs (at + 1) (next q (λ c vs. got (ccons c cnil) vs)) ≡ checked words_c at (next q (λ c vs. got (not_c c) vs))
  unfolding checked
  one_arm (refuse n) = refl
  one_arm (got c vs) = ap Ok (omega arith)

  pub after_not : checked words_cs (at + 1) (many cnil ccons p 1 us) ≡ checked words_c at (condition_node p Not us)
  unfolding condition_node
  after_not = one_arm (p us)

  pub after_all : (n : ℕ) → checked words_cs (at + 1) (many cnil ccons p n us) ≡ checked words_c at (condition_node p (All n) us)
  unfolding condition_node
  after_all n = end_with words_cs words_c (at + 1) at all_c (many cnil ccons p n us) (λ cs. omega arith)

  pub after_any : (n : ℕ) → checked words_cs (at + 1) (many cnil ccons p n us) ≡ checked words_c at (condition_node p (Any n) us)
  unfolding condition_node
  after_any n = end_with words_cs words_c (at + 1) at any_c (many cnil ccons p n us) (λ cs. omega arith)

-- The list rule.
module _ (words : List ℕ) (depth : ℕ) where
  abbrev pub AskedAll : ℕ → ℕ → Result ℕ ℕ
  AskedAll at count = checked words_cs at (many cnil ccons (read_condition depth) count (drop at words))

pub condition_lists : (words : List ℕ) → Lists (λ d at. Asked words at d) (AskedAll words)
condition_lists words =
    record {
      first = λ d. many_first words_c words_cs cnil ccons (read_condition d) refl (λ a b. refl) (condition_leaves d) words;
      none = λ d. many_none words_c words_cs cnil ccons (read_condition d) refl (λ a b. refl) (condition_leaves d) words;
    }
