-- The check of a policy by its first word. Assumes nothing.
use Rattle.std.specs.Prelude as prelude
use Rattle.std.specs.Prelude.{Result, Ok, Err}
use mathlib.Core.Path.{◌≡◌, refl, sym, ◌∙◌, ap}
use mathlib.Core.Bool.{Bool, true, false, cond}
use mathlib.Core.Option.{none, some}
use mathlib.Core.List.{List, ◌∷◌}
use Prim.Native.Nat.{ℕ, zero, suc, ◌+◌, ◌-◌, ◌%◌, ◌≤◌, ◌<◌}
use native.Mathlib.Numerals.{sub-one}
use native.Mathlib.Omega.{arith}
use lib.Dec.{ltb}
use lib.ListN.{length, drop, get_or}
use Rattle.model.specs.Outcome.{product_sets, below}
use Rattle.model.specs.Condition.{Condition}
use Rattle.model.specs.Policy.{Policy, all, any, or_else, stored, pnil, pcons}
use Rattle.model.specs.Reading.{Parsed, refuse, got, next, unless, many, read_condition}
use Rattle.model.specs.Reading as reading
use Rattle.model.specs.Products.{Outcome, encode}
use Rattle.model.specs.Products as products
use Rattle.laws.specs.Size.{words_d, words, wordss}
use Rattle.laws.specs.Form.{IfThere}
use Rattle.laws.proofs.Lengths.{length_encode, some_words}
use Rattle.laws.proofs.Canon.{same_t}
use Rattle.laws.proofs.NodeLaws.{policy_none}
use Rattle.policy_model.specs.declared.DenyShape.{DenyShape}
use Rattle.policy_model.specs.declared.PolicyHead.{PolicyHead}
use Rattle.policy_model.specs.declared.PolicyHead.TheVariants.{All, Any, OrElse, PermitWithTrace, DenyWithTrace}
use Rattle.policy_model.specs.declared.Step.TheVariants.{Leaf}
use Rattle.policy_model.specs.Answers.{checked, Lists, Stepped}
use Rattle.policy_model.specs.Heads.{policy_head, within_most, policy_node, permit_trace_node, deny_trace_node, deep_policy}
use Rattle.policy_model.specs.HeadLaws.{policy_node_by, policy_deep_by}
use Rattle.policy_model.specs.Plain.{plain_grant}
use Rattle.policy_model.specs.PlainLaws.{plain_reads_by}
use Rattle.policy_model.proofs.Checking.{word_at, no_word, Leaves, leaves_of, end_with, many_first, many_none}

-- A number that stands for an outcome is its number.
only_at : (v : ℕ) (t : Bool) → IfThere (λ o. o ≡ v) (cond t (some v) none)
only_at v true = refl
only_at v false = tt

-- What is read of a policy by a number of outcomes, and of its parts, at the levels that are left below it.
abbrev pub read_by : ℕ → Bool → ℕ → List ℕ → Parsed (Policy Outcome)
read_by most = reading.read_policy (below most)

abbrev pub node_by : ℕ → Bool → ℕ → PolicyHead → List ℕ → Parsed (Policy Outcome)
node_by most res d h ws = policy_node (read_condition d) (read_by most res d) h ws

pub leaves_by : (most : ℕ) (res : Bool) (d : ℕ) (us : List ℕ) → Leaves words us (read_by most res d us)
leaves_by most res d us =
    leaves_of encode words (length_encode product_sets.number) us (read_by most res d us)
    (same_t product_sets.number (below most) (λ v. only_at v (ltb v most)) res d us)

-- And by sets of products.
abbrev pub node_of : Bool → ℕ → PolicyHead → List ℕ → Parsed (Policy Outcome)
node_of res d h ws = policy_node (read_condition d) (products.read_policy res d) h ws

pub policy_leaves : (res : Bool) (d : ℕ) (us : List ℕ) → Leaves words us (products.read_policy res d us)
policy_leaves = leaves_by 65536

node_there : (most : ℕ) (res : Bool) (depth w : ℕ) (ws : List ℕ) → (depth ≡ 0 → ⊥) →
    unless (within_most most (policy_head w res)) 8 (node_by most res (depth - 1) (policy_head w res) ws) ≡ read_by most res depth (w ∷ ws)
node_there most res zero w ws f = absurd (f refl)
node_there most res (suc depth) w ws f = rw sub-one (sym (policy_node_by most res depth w ws))

module _ (most : ℕ) (ws : List ℕ) (at depth : ℕ) (res : Bool) where
  abbrev pub Asked : Result ℕ ℕ
  Asked = checked words at (read_by most res depth (drop at ws))

  pub no_policy : length ws ≤ at → Err 6 ≡ Asked
  unfolding checked
  no_policy h = sym (ap (checked words at) (ap (read_by most res depth) (no_word ws at h) ∙ policy_none (below most) res depth))

  pub too_deep : (n : ℕ) (h : PolicyHead) → at < length ws → depth ≡ 0 → h ≡ policy_head (get_or ws at 0) res → n ≡ deep_policy h → Err n ≡ Asked
  unfolding checked
  too_deep n h lt z e f =
      sym (ap (checked words at) (ap (λ d. read_by most res d (drop at ws)) z ∙ ap (read_by most res 0) (word_at ws at lt)
      ∙ policy_deep_by most res (get_or ws at 0) (drop (at + 1) ws) ∙ ap refuse (ap deep_policy (sym e) ∙ sym f)))

  judged : (h : PolicyHead) (b : Bool) → at < length ws → (depth ≡ 0 → ⊥) → h ≡ policy_head (get_or ws at 0) res → b ≡ within_most most h →
      checked words at (unless b 8 (node_by most res (depth - 1) h (drop (at + 1) ws))) ≡ Asked
  judged h b lt f e g =
      ap (checked words at) (ap (λ t. unless t 8 (node_by most res (depth - 1) h (drop (at + 1) ws))) g
      ∙ ap (λ x. unless (within_most most x) 8 (node_by most res (depth - 1) x (drop (at + 1) ws))) e ∙ node_there most res depth (get_or ws at 0) (drop (at + 1) ws) f
      ∙ ap (read_by most res depth) (sym (word_at ws at lt)))

  pub by_head : (h : PolicyHead) → at < length ws → (depth ≡ 0 → ⊥) → h ≡ policy_head (get_or ws at 0) res → true ≡ within_most most h →
      checked words at (node_by most res (depth - 1) h (drop (at + 1) ws)) ≡ Asked
  by_head h lt f e g = judged h true lt f e g

  -- 8 where the outcome is none.
  pub not_within : (h : PolicyHead) → at < length ws → (depth ≡ 0 → ⊥) → h ≡ policy_head (get_or ws at 0) res → false ≡ within_most most h → Err 8 ≡ Asked
  unfolding checked
  not_within h lt f e g = judged h false lt f e g

-- What follows the first word.
module _ (pc : List ℕ → Parsed Condition) (p : List ℕ → Parsed (Policy Outcome)) (at : ℕ) (us : List ℕ) where
  pub after_all : (n : ℕ) → checked wordss (at + 1) (many pnil pcons p n us) ≡ checked words at (policy_node pc p (All n) us)
  unfolding policy_node
  after_all n = end_with wordss words (at + 1) at all (many pnil pcons p n us) (λ ts. omega arith)

  pub after_any : (n : ℕ) → checked wordss (at + 1) (many pnil pcons p n us) ≡ checked words at (policy_node pc p (Any n) us)
  unfolding policy_node
  after_any n = end_with wordss words (at + 1) at any (many pnil pcons p n us) (λ ts. omega arith)

  -- The two arms of an OrElse are read as a list of two.
  second_arm : (a : Policy Outcome) (q : Parsed (Policy Outcome)) →
      checked wordss (at + 1) (next (next q (λ b ts. got (pcons b pnil) ts)) (λ xs ts. got (pcons a xs) ts)) ≡ checked words at (next q (λ b ts. got (or_else a b) ts))
  unfolding checked
  second_arm a (refuse n) = refl
  second_arm a (got b ts) = ap Ok (omega arith)

  two_arms : (q : Parsed (Policy Outcome)) →
      checked wordss (at + 1) (next q (λ a vs. next (next (p vs) (λ b ts. got (pcons b pnil) ts)) (λ xs ts. got (pcons a xs) ts)))
      ≡ checked words at (next q (λ a vs. next (p vs) (λ b ts. got (or_else a b) ts)))
  unfolding checked
  two_arms (refuse n) = refl
  two_arms (got a vs) = second_arm a (p vs)

  pub after_or_else : checked wordss (at + 1) (many pnil pcons p 2 us) ≡ checked words at (policy_node pc p OrElse us)
  unfolding policy_node
  after_or_else = two_arms (p us)

  pub after_permit_lem : (n o : ℕ) → checked words_d at (permit_trace_node n o us) ≡ checked words at (policy_node pc p (PermitWithTrace n o) us)
  unfolding policy_node
  after_permit_lem n o = end_with words_d words at at stored (permit_trace_node n o us) (λ d. refl)

  pub after_deny_lem : (shape : DenyShape) (denied : prelude.Option ℕ) → checked words_d at (deny_trace_node shape denied us) ≡ checked words at (policy_node pc p (DenyWithTrace shape denied) us)
  unfolding policy_node
  after_deny_lem shape denied = end_with words_d words at at stored (deny_trace_node shape denied us) (λ d. refl)

-- The list rule.
module _ (most : ℕ) (ws : List ℕ) (depth : ℕ) (res : Bool) where
  abbrev pub AskedAll : ℕ → ℕ → Result ℕ ℕ
  AskedAll at count = checked wordss at (many pnil pcons (read_by most res depth) count (drop at ws))

pub policy_lists : (most : ℕ) (ws : List ℕ) (res : Bool) → Lists (λ d at. Asked most ws at d res) (λ d. AskedAll most ws d res)
policy_lists most ws res =
    record {
      first = λ d. many_first words wordss pnil pcons (read_by most res d) refl (λ a b. refl) (leaves_by most res d) ws;
      none = λ d. many_none words wordss pnil pcons (read_by most res d) refl (λ a b. refl) (leaves_by most res d) ws;
    }

-- A node that is passed ends later than it begins, since every policy takes a word.
ends_later : (at after : ℕ) (q : Parsed (Policy Outcome)) → Ok after ≡ checked words at q → at < after
unfolding checked
ends_later at after (refuse n) e = absurd cc
ends_later at after (got t vs) e =
    let long = some_words t in
    let ends : after ≡ at + words t = cc in
    omega arith

-- A whole node that is passed is a step.
pub whole_node : (most : ℕ) (ws : List ℕ) (at depth : ℕ) (res : Bool) (after : ℕ) → at < length ws → Ok after ≡ Asked most ws at depth res →
    Stepped ws at depth (Asked most ws at depth res) (AskedAll most ws (depth - 1) res (at + 1)) (Ok (Leaf after))
whole_node most ws at depth res after lt e = (e, lt, ends_later at after (read_by most res depth (drop at ws)) e)

-- A plain grant is passed, with a level below it for its condition, where its outcome is one.
pub plain_passed : (most : ℕ) (ws : List ℕ) (at depth : ℕ) (res : Bool) → get_or ws at 0 % 65536 < most → plain_grant (drop at ws) ≡ true → 2 ≤ depth → Ok (at + 3) ≡ Asked most ws at depth res
unfolding checked
plain_passed most ws at zero res m plain h = absurd (omega arith)
plain_passed most ws at (suc zero) res m plain h = absurd (omega arith)
plain_passed most ws at (suc (suc d)) res m plain h = sym (ap (checked words at) (plain_reads_by ws at plain most m res d))
