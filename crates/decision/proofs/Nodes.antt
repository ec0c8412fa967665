-- A node that reads has the obligations that stand two words after its first, each below 64. Assumes nothing.
use mathlib.Core.Path.{◌≡◌, refl, sym, ◌∙◌, ap, subst}
use mathlib.Core.Bool.{Bool, true, false, cond}
use mathlib.Core.Option.{Option}
use mathlib.Core.List.{List, [], ◌∷◌, ◌++◌}
use Prim.Native.Nat.{ℕ, ◌+◌, ◌-◌, ◌/◌, ◌%◌, ◌≤◌, ◌<◌}
use native.Mathlib.Omega.{arith}
use borrow.Author.Tests.{ltb-true, ltb-false}
use lib.Dec.{ltb}
use lib.ListN.{length, take, drop, get_or, length-drop, drop_of_length-le}
use lib.Seq.{length-take-le, take_all, take_at}
use Rattle.std.specs.Prelude.{Option as Carried, None, Some}
use Rattle.model.specs.Facts.{Table}
use Rattle.model.specs.Condition.{Condition}
use Rattle.model.specs.Decision.{denies, generic_deny}
use Rattle.model.specs.Policy.{Policy, pnil, pcons}
use Rattle.model.specs.Writing.{obligation_bits, entry_bits, most_held}
use Rattle.model.specs.Reading.{Parsed, refuse, got, next, another, counted, read_list, obligation, listed, mark, many, shape_of, read_condition, obligation_count}
use Rattle.model.specs.Products.{Outcome, read_policy}
use Rattle.laws.specs.Lists.{Below}
use Rattle.laws.specs.FieldAt.{firsts}
use Rattle.laws.proofs.FieldAtLaws.{fields_held, narrow_below}
use Rattle.laws.proofs.FieldLaws.{Holds, fine, nothing, if_holds, weaker, then_holds, anything}
use Rattle.laws.proofs.ReadForm.{read_obligations as list_read}
use Rattle.policy_model.specs.declared.DenyShape.{DenyShape}
use Rattle.policy_model.specs.declared.PolicyHead.{PolicyHead}
use Rattle.policy_model.specs.declared.PolicyHead.TheVariants.{Permit, Deny, Grant, All, Any, OrElse, PermitWithTrace, DenyWithTrace, BadKind, BadField}
use Rattle.policy_model.specs.Heads.{policy_head, bit_of, denied_by, grant_node, permit_trace_node, deny_trace_node, policy_node}
use Rattle.policy_model.specs.HeadLaws.{policy_node_lem}
use Rattle.policy_model.proofs.Skipping.{grant_says, permit_says}
use Rattle.policy_model.proofs.Checking.{word_at}
use Rattle.decision.specs.Nodes.{reached, node_at, obligations_of_d, obligations_of, clause_read, obligations_read, clause_at, obligations_at, obligation_fields, head_count, obligation_count_of}
use Rattle.decision.specs.Meaning.{Stands, past, reads}
use Rattle.decision.specs.Answers.{Loaded}

-- A list that was read is the fields of its words.
abbrev ReadO : ℕ → List ℕ → List ℕ → List ℕ → Type 0
ReadO n ws os vs = Below obligation_count os × (os ≡ obligation_fields n ws)

read_obligations : (n : ℕ) (ws : List ℕ) → Holds (ReadO n ws) (read_list obligation obligation_bits n ws)
read_obligations n ws =
    weaker (read_list obligation obligation_bits n ws)
    (λ os vs h.
    let same : obligation_fields (length os) ws ≡ os = fields_held 8 3 ws os vs refl (sym h.were) (narrow_below 8 obligation_count os (omega arith) h.below) in
    (h.below, sym same ∙ ap (λ k. obligation_fields k ws) h.long))
    (list_read n ws)

-- What a node has, ws being the words after its first.
pub record Has (h : PolicyHead) (ws : List ℕ) (t : Policy Outcome) (vs : List ℕ) : Type 0 where
  pub below : Below obligation_count (obligations_of t)
  pub listed_there : obligations_of t ≡ obligation_fields (head_count h) (drop 1 ws)

none_has : (h : PolicyHead) (ws : List ℕ) (t : Policy Outcome) (vs : List ℕ) → obligations_of t ≡ [] → head_count h ≡ 0 → Has h ws t vs
unfolding firsts
none_has h ws t vs e k = record { below = subst (Below obligation_count) (sym e) tt; listed_there = e ∙ sym (ap (λ n. obligation_fields n (drop 1 ws)) k) }

module _ (pc : List ℕ → Parsed Condition) (p : List ℕ → Parsed (Policy Outcome)) where
  grant_has : (shape : DenyShape) (n o : ℕ) (ws : List ℕ) → Holds (Has (Grant shape n o) ws) (grant_node pc shape n o ws)
  unfolding grant_node
  grant_has shape n o [] = nothing
  grant_has shape n o (w ∷ ws) =
      then_holds (mark (w / 65536)) _ (anything (mark (w / 65536))) (λ l _ _.
      then_holds (mark (w % 65536)) _ (anything (mark (w % 65536))) (λ m _ _.
      then_holds (read_list obligation obligation_bits n ws) _ (read_obligations n ws) (λ os vs h.
      then_holds (pc vs) _ (anything (pc vs)) (λ c us _.
      fine (record { below = h.0; listed_there = h.1 })))))

  permit_has : (n o : ℕ) (ws : List ℕ) → Holds (λ d _. ReadO n (drop 1 ws) (obligations_of_d d) []) (permit_trace_node n o ws)
  unfolding permit_trace_node
  permit_has n o [] = nothing
  permit_has n o (w ∷ ws) =
      then_holds (mark (w / 65536)) _ (anything (mark (w / 65536))) (λ l _ _.
      if_holds (ltb (w % 65536) 4096) 8 _ (λ _.
      then_holds (read_list obligation obligation_bits n ws) _ (read_obligations n ws) (λ os vs h.
      then_holds (read_list listed entry_bits (w % 65536) vs) _ (anything (read_list listed entry_bits (w % 65536) vs)) (λ fs us _.
      fine h))))

  deny_has : (shape : DenyShape) (denied : Carried ℕ) (ws : List ℕ) → Holds (λ d _. obligations_of_d d ≡ []) (deny_trace_node shape denied ws)
  unfolding deny_trace_node
  deny_has shape denied [] = nothing
  deny_has shape denied (w ∷ ws) =
      then_holds (mark (w / 65536)) _ (anything (mark (w / 65536))) (λ l _ _.
      then_holds (mark (w % 65536)) _ (anything (mark (w % 65536))) (λ m _ _. facts_read l m ws))
    where
      facts_read : (l m : Option ℕ) (ws : List ℕ) → Holds (λ d _. obligations_of_d d ≡ []) (another ws (λ n vs. counted n (next (read_list listed entry_bits n vs) (λ fs us.
          got (denies (record { denied = denied_by denied; facts = fs; label = l; reason = m; shape = shape_of (bit_of shape) })) us))))
      facts_read l m [] = nothing
      facts_read l m (n ∷ ws) =
          if_holds (ltb n 4096) 8 _ (λ _. then_holds (read_list listed entry_bits n ws) _ (anything (read_list listed entry_bits n ws)) (λ fs us _. fine refl))

  pub node_has : (h : PolicyHead) (ws : List ℕ) → Holds (Has h ws) (policy_node pc p h ws)
  unfolding policy_node
  node_has (Permit o) ws = fine (none_has _ _ _ _ refl refl)
  node_has Deny ws = fine (none_has _ _ _ _ refl refl)
  node_has (Grant shape n o) ws = grant_has shape n o ws
  node_has (All n) ws = then_holds (many pnil pcons p n ws) _ (anything (many pnil pcons p n ws)) (λ ts vs _. fine (none_has _ _ _ _ refl refl))
  node_has (Any n) ws = then_holds (many pnil pcons p n ws) _ (anything (many pnil pcons p n ws)) (λ ts vs _. fine (none_has _ _ _ _ refl refl))
  node_has OrElse ws = then_holds (p ws) _ (anything (p ws)) (λ a vs _. then_holds (p vs) _ (anything (p vs)) (λ b us _. fine (none_has _ _ _ _ refl refl)))
  node_has (PermitWithTrace n o) ws =
      then_holds (permit_trace_node n o ws) _ (permit_has n o ws) (λ d vs h. fine (record { below = h.0; listed_there = h.1 }))
  node_has (DenyWithTrace shape denied) ws =
      then_holds (deny_trace_node shape denied ws) _ (deny_has shape denied ws) (λ d vs h. fine (none_has _ _ _ _ h refl))
  node_has BadKind ws = nothing
  node_has BadField ws = nothing

-- ---- by position
pub node_there : (words : List ℕ) (at : ℕ) → at < length words →
    node_at words at ≡ policy_node (λ vs. read_condition 31 vs) (λ vs. read_policy true 31 vs) (policy_head (get_or words at 0) true) (drop (at + 1) words)
unfolding node_at
node_there words at h = ap (read_policy true 32) (word_at words at h) ∙ policy_node_lem true 31 (get_or words at 0) (drop (at + 1) words)

node_past : (words : List ℕ) (at : ℕ) → length words ≤ at → node_at words at ≡ refuse 6
unfolding node_at
node_past words at h = ap (read_policy true 32) (drop_of_length-le words h)

-- ---- what is named, if the words reach it
by_end : (words : List ℕ) (at : ℕ) (b : Bool) → ltb at (length words) ≡ b → None ≡ cond b (Some at) None → length words ≤ at
by_end words at true e k = cc
by_end words at false e k = ltb-false at (length words) e

inside : (words : List ℕ) (place at : ℕ) (b : Bool) → ltb place (length words) ≡ b → Some at ≡ cond b (Some place) None → (Some place ≡ Some at) × (at < length words)
inside words place at true e k = let same : place ≡ at = cc in (cc, rw same at (ltb-true place (length words) e))
inside words place at false e k = cc

pub reached_is : (words : List ℕ) (named : Carried ℕ) (at : ℕ) → Some at ≡ reached words named → (named ≡ Some at) × (at < length words)
reached_is words None at e = cc
reached_is words (Some place) at e = inside words place at (ltb place (length words)) refl e

pub reached_inside : (words : List ℕ) (named : Carried ℕ) (at : ℕ) → Some at ≡ reached words named → at < length words
reached_inside words named at e = (reached_is words named at e).1

-- Past the end nothing is given.
none_past : (words : List ℕ) (at : ℕ) → length words ≤ at → obligations_at words (Some at) ≡ []
unfolding obligations_at
none_past words at h = ap obligations_read (node_past words at h)

pub none_held : (words : List ℕ) (named : Carried ℕ) → None ≡ reached words named → obligations_at words named ≡ []
unfolding obligations_at
none_held words None e = refl
none_held words (Some at) e = none_past words at (by_end words at (ltb at (length words)) refl e)

pub no_clause : (words : List ℕ) (T : Table) (named : Carried ℕ) → None ≡ reached words named → clause_at words T named ≡ generic_deny
unfolding clause_at
no_clause words T None e = refl
no_clause words T (Some at) e = ap (clause_read T) (node_past words at (by_end words at (ltb at (length words)) refl e))

-- Obligations that are read are below 64, and stand two words after the node's first.
below_read : (h : PolicyHead) (ws : List ℕ) (q : Parsed (Policy Outcome)) → Holds (Has h ws) q → Below obligation_count (obligations_read q)
below_read h ws (refuse n) k = tt
below_read h ws (got t vs) k = k.it.below

by_place : (words : List ℕ) (at : ℕ) (b : Bool) → ltb at (length words) ≡ b → Below obligation_count (obligations_at words (Some at))
unfolding obligations_at
by_place words at true e =
    let h = policy_head (get_or words at 0) true in
    let pc : List ℕ → Parsed Condition = λ vs. read_condition 31 vs in
    let p : List ℕ → Parsed (Policy Outcome) = λ vs. read_policy true 31 vs in
    let ws = drop (at + 1) words in
    subst (λ q. Below obligation_count (obligations_read q)) (sym (node_there words at (ltb-true at (length words) e))) (below_read h ws (policy_node pc p h ws) (node_has pc p h ws))
by_place words at false e = subst (Below obligation_count) (sym (none_past words at (ltb-false at (length words) e))) tt

pub obligations_below : (words : List ℕ) (named : Carried ℕ) → Below obligation_count (obligations_at words named)
unfolding obligations_at
obligations_below words None = tt
obligations_below words (Some at) = by_place words at (ltb at (length words)) refl

read_there : (h : PolicyHead) (ws : List ℕ) (q : Parsed (Policy Outcome)) (t : Policy Outcome) (vs : List ℕ) → Holds (Has h ws) q → q ≡ got t vs → obligation_fields (head_count h) (drop 1 ws) ≡ obligations_read q
read_there h ws (refuse n) t vs k e = let z : ◌≡◌ {A = ℕ} 0 1 = cc in absurd (omega arith)
read_there h ws (got s us) t vs k e = sym k.it.listed_there

pub obligations_there : (words : List ℕ) (at : ℕ) → at < length words → Stands words at →
    obligation_fields (obligation_count_of (get_or words at 0)) (drop 2 (drop at words)) ≡ obligations_at words (Some at)
unfolding obligations_at obligation_count_of
obligations_there words at h (past k) = let z : ⊥ = omega arith in absurd z
obligations_there words at h (reads t vs e) =
    let head = policy_head (get_or words at 0) true in
    let pc : List ℕ → Parsed Condition = λ us. read_condition 31 us in
    let p : List ℕ → Parsed (Policy Outcome) = λ us. read_policy true 31 us in
    let ws = drop (at + 1) words in
    ap (λ l. obligation_fields (head_count head) (drop 2 l)) (word_at words at h)
    ∙ read_there head ws (policy_node pc p head ws) t vs (node_has pc p head ws) (sym (node_there words at h) ∙ e)
    ∙ ap obligations_read (sym (node_there words at h))

-- ---- a head has at most 127 obligations, and at most as many as the field that counts them says
few_in : (w : ℕ) (h : PolicyHead) → h ≡ policy_head w true → (head_count h ≤ most_held) × (head_count h ≤ w / 1048576 % 128)
few_in w (Grant shape n o) e = let says = grant_says true w shape n o e in (omega (arith, says.0), omega (arith, says.0))
few_in w (PermitWithTrace n o) e = let says = permit_says true w n o e in (omega (arith, says.0), omega (arith, says.0))
few_in w h e = (omega arith, omega arith)

-- A word whose field says none has none, anything its node.
pub no_obligations : (w : ℕ) → w / 1048576 % 128 ≡ 0 → obligation_count_of w ≡ 0
unfolding obligation_count_of
no_obligations w e = omega (arith, (few_in w (policy_head w true) refl).1)

-- What the code counts and loads.
pub counted_as : (w : ℕ) (h : PolicyHead) → h ≡ policy_head w true → (head_count h ≡ obligation_count_of w) × (head_count h ≤ most_held)
unfolding obligation_count_of
counted_as w h e = (ap head_count e, (few_in w h e).0)

pub loaded_none : (words : List ℕ) (named : Carried ℕ) (out : List ℕ) → None ≡ reached words named → Loaded words named out 0
loaded_none words named out e = record { few = omega arith; front = λ _. sym (none_held words named e) }

-- The fields of the node's words are its obligations.
pub fields_there : (words : List ℕ) (at n : ℕ) → at < length words → n ≡ obligation_count_of (get_or words at 0) → Stands words at →
    obligation_fields n (drop 2 (take (length words - at) (drop at words))) ≡ obligations_at words (Some at)
fields_there words at n h e names =
    let part : take (length words - at) (drop at words) ≡ drop at words = take_all (length words - at) (drop at words) (omega (arith, length-drop at words)) in
    ap (λ ws. obligation_fields n (drop 2 ws)) part ∙ ap (λ k. obligation_fields k (drop 2 (drop at words))) e ∙ obligations_there words at h names

pub loaded : (words : List ℕ) (named : Carried ℕ) (at n : ℕ) (out own : List ℕ) → Some at ≡ reached words named → n ≡ obligation_count_of (get_or words at 0) → n ≤ most_held → n ≤ length out →
    length own ≡ length (take n out) → own ≡ obligation_fields (length (take n out)) (drop 2 (take (length words - at) (drop at words))) → Loaded words named (own ++ drop n out) n
loaded words named at n out own reach e few room same is =
    let r = reached_is words named at reach in
    let long : length (take n out) ≡ n = length-take-le n out room in
    rw r.0 (record {
      few = few;
      front = λ stands. take_at own (drop n out) n (same ∙ long) ∙ is ∙ ap (λ k. obligation_fields k (drop 2 (take (length words - at) (drop at words)))) long ∙ fields_there words at n r.1 e stands;
    })
