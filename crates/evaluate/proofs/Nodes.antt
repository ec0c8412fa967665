-- What is read of a grant and of a stored decision, and where its words end. Assumes nothing.
use mathlib.Core.Path.{◌≡◌, refl, sym, ◌∙◌, ap, subst}
use mathlib.Core.Bool.{Bool, true}
use mathlib.Core.Option.{Option}
use mathlib.Core.List.{List, [], ◌∷◌}
use Prim.Native.Nat.{ℕ, suc, ◌+◌, ◌/◌, ◌%◌, ◌≤◌, ◌<◌}
use native.Mathlib.Omega.{arith}
use borrow.Author.Tests.{ltb-true}
use lib.Dec.{ltb}
use lib.ListN.{length, drop, get_or}
use Rattle.std.specs.Prelude.{Option as Carried}
use Rattle.model.specs.Outcome.{product_sets}
use Rattle.model.specs.Decision.{Permit, Denial, Decision, permits, denies}
use Rattle.model.specs.Policy.{Policy, pnil, pcons}
use Rattle.model.specs.Writing.{obligation_bits, entry_bits}
use Rattle.model.specs.Reading.{Parsed, refuse, got, next, another, counted, read_list, obligation, listed, mark, shape_of}
use Rattle.model.specs.Products.{Outcome, read_policy, policy_at}
use Rattle.laws.proofs.FieldLaws.{Holds, fine, nothing, if_holds, weaker, then_holds, both_hold, itself, anything, held_at}
use Rattle.laws.proofs.Deeper.{deeper, follows_got}
use Rattle.laws.proofs.ReadForm.{read_obligations, read_facts}
use Rattle.policy_model.specs.declared.DenyShape.{DenyShape}
use Rattle.policy_model.specs.declared.PolicyHead.{PolicyHead}
use Rattle.policy_model.specs.Heads.{policy_head, bit_of, denied_by, permit_trace_node, deny_trace_node}
use Rattle.policy_model.specs.HeadLaws.{policy_node_lem}
use Rattle.policy_model.specs.Span.{Skipped}
use Rattle.laws.specs.Size.{words_d, words, wordss}
use Rattle.policy_model.proofs.Checking.{word_at}
use Rattle.policy_model.proofs.Policies.{node_of}

-- ---- reading
-- What holds of a policy where nodes 12 and 13 and more levels are allowed holds of it with fewer levels, and in a sheet.
pub in_fewer : {Q : Policy Outcome → List ℕ → Type 0} (d depth : ℕ) (ws : List ℕ) → d ≤ depth → Holds Q (read_policy true depth ws) → (res : Bool) →
    Holds Q (read_policy res d ws)
in_fewer d depth ws l h res =
    weaker (read_policy res d ws)
    (λ p rest e. held_at h (follows_got (deeper product_sets.value res d depth ws l) e))
    (itself (read_policy res d ws))

pub in_sheet : {Q : Policy Outcome → List ℕ → Type 0} (depth : ℕ) (ws : List ℕ) → Holds Q (read_policy true depth ws) → (res : Bool) → Holds Q (read_policy res depth ws)
in_sheet depth ws h res = in_fewer depth depth ws (omega arith) h res

-- A policy by its head, at its position.
module _ (W : List ℕ) (at depth : ℕ) (h : PolicyHead) (lt : at < length W) (e : h ≡ policy_head (get_or W at 0) true) where
  node_is : policy_at W at (suc depth) ≡ node_of true depth h (drop (at + 1) W)
  node_is =
      ap (read_policy true (suc depth)) (word_at W at lt)
      ∙ policy_node_lem true depth (get_or W at 0) (drop (at + 1) W)
      ∙ ap (λ x. node_of true depth x (drop (at + 1) W)) (sym e)

  pub node_holds : {Q : Policy Outcome → List ℕ → Type 0} → Holds Q (node_of true depth h (drop (at + 1) W)) → Holds Q (policy_at W at (suc depth))
  node_holds {Q} g = subst (Holds Q) (sym node_is) g

  pub node_knows : {Q : Policy Outcome → List ℕ → Type 0} → Holds Q (node_of true depth h (drop (at + 1) W)) →
      Holds (λ p rest. (policy_at W at (suc depth) ≡ got p rest) × Q p rest) (policy_at W at (suc depth))
  node_knows g = both_hold (policy_at W at (suc depth)) (itself (policy_at W at (suc depth))) (node_holds g)

-- ---- what a node holds, ws being the words after its first
-- A stored permit on an outcome, and a stored deny: n words, and those of the facts, which the word k counts.
pub record IsPermit (o n k : ℕ) (d : Decision Outcome) : Type 0 where
  pub was : Permit Outcome
  pub is : d ≡ permits was
  pub outcome_is : was.outcome ≡ o
  pub long : words_d d ≡ n + (k % 4096 + 1) / 2

pub permit_reads : (n o : ℕ) (ws : List ℕ) → Holds (λ d _. IsPermit o (2 + (n + 3) / 4) (get_or ws 0 0) d) (permit_trace_node n o ws)
unfolding permit_trace_node
permit_reads n o [] = nothing
permit_reads n o (w ∷ ws) =
    then_holds (mark (w / 65536)) _ (anything (mark (w / 65536))) (λ l _ _.
    if_holds (ltb (w % 65536) 4096) 8 _ (λ b.
    let small : w % 65536 < 4096 = ltb-true (w % 65536) 4096 b in
    then_holds (read_list obligation obligation_bits n ws) _ (read_obligations n ws) (λ os vs h.
    then_holds (read_list listed entry_bits (w % 65536) vs) _ (read_facts (w % 65536) vs) (λ fs us g.
    fine (record { was = record { outcome = o; obligations = os; label = l; facts = fs }; is = refl; outcome_is = refl; long = omega (arith, h.long, g.long) })))))

pub record IsDeny (k : ℕ) (d : Decision Outcome) : Type 0 where
  pub was : Denial Outcome
  pub is : d ≡ denies was
  pub long : words_d d ≡ 3 + (k % 4096 + 1) / 2

deny_facts : (shape : DenyShape) (denied : Carried ℕ) (l m : Option ℕ) (ws : List ℕ) →
    Holds (λ d vs. IsDeny (get_or ws 0 0) d)
    (another ws (λ n vs. counted n (next (read_list listed entry_bits n vs) (λ fs us. got (denies (record { denied = denied_by denied; facts = fs; label = l; reason = m; shape = shape_of (bit_of shape) })) us))))
deny_facts shape denied l m [] = nothing
deny_facts shape denied l m (n ∷ ws) =
    if_holds (ltb n 4096) 8 _ (λ b.
    let small : n < 4096 = ltb-true n 4096 b in
    then_holds (read_list listed entry_bits n ws) _ (read_facts n ws) (λ fs us g.
    fine (record { was = record { denied = denied_by denied; facts = fs; label = l; reason = m; shape = shape_of (bit_of shape) }; is = refl; long = omega (arith, g.long) })))

pub deny_reads : (shape : DenyShape) (denied : Carried ℕ) (ws : List ℕ) → Holds (λ d _. IsDeny (get_or ws 1 0) d) (deny_trace_node shape denied ws)
unfolding deny_trace_node
deny_reads shape denied [] = nothing
deny_reads shape denied (w ∷ ws) =
    then_holds (mark (w / 65536)) _ (anything (mark (w / 65536))) (λ l _ _.
    then_holds (mark (w % 65536)) _ (anything (mark (w % 65536))) (λ m _ _. deny_facts shape denied l m ws))

-- ---- what is passed over
pub skipped : {A : Type 0} (size : A → ℕ) (at n : ℕ) (q : Parsed A) → Skipped size at q n → Holds (λ a rest. n ≡ at + size a) q
unfolding Skipped
skipped size at n (refuse k) h = nothing
skipped size at n (got a rest) h = fine h

-- One policy.
pub one_passed : (at n : ℕ) (q : Parsed (Policy Outcome)) → Skipped wordss at (next q (λ p vs. next (got pnil vs) (λ ps us. got (pcons p ps) us))) n → Holds (λ p rest. n ≡ at + words p) q
unfolding Skipped
one_passed at n (refuse k) h = nothing
one_passed at n (got p rest) h = fine (omega (arith, h))
