-- What a policy comes to and consults, by its head. Assumes nothing.
use mathlib.Core.Path.{◌≡◌, refl, sym, ◌∙◌, ap, ap₂, subst}
use mathlib.Core.Logic.{◌⊎◌, inl, inr}
use mathlib.Core.Bool.{Bool, true, false, cond}
use mathlib.Core.Option.{Option}
use mathlib.Core.List.{List, [], ◌∷◌}
use Prim.Native.Nat.{ℕ, zero, suc, ◌+◌, ◌-◌, ◌/◌, ◌%◌, ◌≤◌, ◌<◌}
use native.Mathlib.Numerals.{sub-one}
use native.Mathlib.Omega.{arith}
use lib.Dec.{eqb}
use lib.ListN.{length, drop, get_or, length-drop}
use lib.Seq.{drop-drop}
use Rattle.std.specs.Prelude.{Option as Carried, Some, None}
use Rattle.model.specs.Fields.{bits}
use Rattle.model.specs.Facts.{Table}
use Rattle.model.specs.Condition.{Condition, satisfied, unsatisfied, eval_condition}
use Rattle.model.specs.Condition as model
use Rattle.model.specs.Consulted.{read_c}
use Rattle.model.specs.Policy.{Policy, Grant as Clause, grant, stored}
use Rattle.model.specs.Levels.{OutcomeTable}
use Rattle.model.specs.Decision.{permits, denies}
use Rattle.model.specs.Decision.{Decision as Decided}
use Rattle.model.specs.Evaluate.{eval_grant}
use Rattle.model.specs.Reading.{Parsed, got, next, few_obligations, read_condition}
use Rattle.model.specs.Products.{Outcome, read, eval_policy, read_policy, policy_at}
use Rattle.model.specs.Outcome.{product_sets}
use Rattle.laws.proofs.FieldLaws.{Holds, fine, nothing, weaker, then_holds, held_at}
use Rattle.laws.proofs.NodeLaws.{policy_none}
use Rattle.laws.proofs.GrantLaws.{grant_read}
use Rattle.laws.specs.Size.{words_c, words_d, words}
use Rattle.laws.specs.Truth.{is_satisfied}
use Rattle.policy_model.specs.declared.DenyShape.{DenyShape}
use Rattle.policy_model.specs.declared.PolicyHead.{PolicyHead}
use Rattle.policy_model.specs.declared.PolicyHead.TheVariants.{Permit, Deny, Grant, PermitWithTrace, DenyWithTrace, BadKind, BadField}
use Rattle.policy_model.specs.Heads.{shape_by, policy_head, grant_head, policy_node, permit_trace_node, deny_trace_node, bit_of, grant_node}
use Rattle.policy_model.proofs.Policies.{node_of}
use Rattle.policy_model.specs.HeadLaws.{policy_deep, permit_word}
use Rattle.policy_model.proofs.Checking.{no_word}
use Rattle.policy_model.proofs.Skipping.{grant_says, permit_owns, deny_owns}
use Rattle.grant.specs.Fields.{outcome_at, obligations_at}
use Rattle.condition.specs.declared.ConditionEval.{ConditionEval}
use Rattle.consulted.specs.Listing.{Lent}
use Rattle.condition.specs.Evaluating.{Evaluated, EvaluatesC}
use Rattle.consulted.proofs.Listing.{consults_none, consults_as}
use Rattle.decision.specs.declared.Decision.{Decision}
use Rattle.decision.specs.Nodes.{node_at}
use Rattle.decision.specs.Meaning.{denied_at, permitted_at, granted_at, decision_of, reads, Sound}
use Rattle.decision.proofs.Standing.{node_reads, as_permit, denied_is, denied_grant, denied_stored, permitted_is, permitted_grant, permitted_stored, sound_denied, sound_permitted}
use Rattle.evaluate.specs.declared.PolicyEval.{PolicyEval}
use Rattle.evaluate.specs.Evaluating.{eval_of, Answers, EvaluatesP, after_node, EvaluatesBy}
use Rattle.evaluate.proofs.Nodes.{in_sheet, node_holds, node_knows, IsPermit, permit_reads, IsDeny, deny_reads}
use Rattle.decision.specs.Room.{obligation_room, Few}

-- The answer to a policy at `at`.
abbrev pub Answered : Option OutcomeTable → Table → List ℕ → ℕ → Lent → PolicyEval → Lent → List ℕ → Policy Outcome → List ℕ → Type 0
Answered g T W at s r t buf p rest = Answers T W (eval_policy g T p) (at + words p) (read g T p) s r t buf

pub no_levels : {Q : Policy Outcome → List ℕ → Type 0} (res : Bool) (ws : List ℕ) → Holds Q (read_policy res zero ws)
no_levels res [] = nothing
no_levels res (w ∷ ws) = rw (policy_deep res w ws) nothing

pub one_level : {Q : Policy Outcome → List ℕ → Type 0} (depth : ℕ) (ws : List ℕ) → (depth ≡ 0 → ⊥) →
    Holds Q (read_policy true (suc (depth - 1)) ws) → Holds Q (read_policy true depth ws)
one_level zero ws f h = absurd (f refl)
one_level (suc depth) ws f h = rw sub-one at h

-- ---- a policy by its head
module _ {g : Option OutcomeTable} {T : Table} {W : List ℕ} {at depth : ℕ} {s : Lent} {r : PolicyEval} {t : Lent} {buf : List ℕ} {h k : PolicyHead} where
  pub by_head : (depth ≡ 0 → ⊥) → k ≡ h → k ≡ policy_head (get_or W at 0) true → EvaluatesBy g h T W at (depth - 1) s r t buf → EvaluatesP g T W at depth s r t buf
  by_head f is e a = record { few = a.few; says = in_sheet depth (drop at W) (one_level depth (drop at W) f (a.says (sym is ∙ e))) }

-- ---- words that don't read, and nodes without parts
module _ {g : Option OutcomeTable} {T : Table} {W : List ℕ} {at depth : ℕ} {next : ℕ} {s : Lent} {buf : List ℕ} where
  pub eval_end : length W ≤ at → EvaluatesP g T W at depth s (eval_of (denied_at None) next) s buf
  eval_end h = record {
    few = omega arith;
    says = λ res. rw (no_word W at h, policy_none product_sets.value res depth) nothing;
  }

  pub eval_limit : depth ≡ 0 → EvaluatesP g T W at depth s (eval_of (denied_at None) next) s buf
  eval_limit z = record { few = omega arith; says = λ res. rw z (no_levels res (drop at W)) }

  module _ (lt : at < length W) where
    pub eval_bad : {h : PolicyHead} → (h ≡ BadKind) ⊎ (h ≡ BadField) → EvaluatesBy g h T W at depth s (eval_of (denied_at None) next) s buf
    unfolding policy_node
    eval_bad (inl e) = rw e (record { few = omega arith; says = λ e. node_holds W at depth BadKind lt e nothing })
    eval_bad (inr e) = rw e (record { few = omega arith; says = λ e. node_holds W at depth BadField lt e nothing })

    pub eval_permit : {o : ℕ} → next ≡ at + 1 → EvaluatesBy g (Permit o) T W at depth s (eval_of (permitted_at o None None 0) next) s buf
    unfolding policy_node
    eval_permit {o} n = record {
      few = omega arith;
      says = λ e. node_holds W at depth (Permit o) lt e (fine (record {
        decision_is = as_permit W T buf (permitted_at o None None 0) refl ∙ ap permits (permitted_is W T buf o);
        sound = sound_permitted W buf o None tt;
        next_is = n;
        log = consults_as (λ l. refl) consults_none;
      }));
    }

    pub eval_deny : next ≡ at + 1 → EvaluatesBy g Deny T W at depth s (eval_of (denied_at None) next) s buf
    unfolding policy_node
    eval_deny n = record {
      few = omega arith;
      says = λ e. node_holds W at depth Deny lt e (fine (record {
        decision_is = denied_is W T buf;
        sound = sound_denied W buf None tt;
        next_is = n;
        log = consults_as (λ l. refl) consults_none;
      }));
    }

-- A word that one division shows to be a Permit.
pub eval_permit_word : (g : Option OutcomeTable) (T : Table) (W : List ℕ) (at depth : ℕ) (s : Lent) (buf : List ℕ) → at < length W → get_or W at 0 / 65536 ≡ 24576 →
    EvaluatesP g T W at depth s (eval_of (permitted_at (get_or W at 0 % 65536) None None 0) (at + 1)) s buf
eval_permit_word g T W at zero s buf lt e = record { few = omega arith; says = λ res. no_levels res (drop at W) }
eval_permit_word g T W at (suc depth) s buf lt e =
    by_head (λ z. omega arith) refl (permit_word (get_or W at 0) true e) (eval_permit lt refl)

-- ---- a grant
-- A word of a Grant's kind: what answers for each Grant answers for it, as of a word that doesn't read nothing is said.
module _ {g : Option OutcomeTable} {T : Table} {W : List ℕ} {at depth : ℕ} {s : Lent} {r : PolicyEval} {t : Lent} {buf : List ℕ} (lt : at < length W) (deep : depth ≡ 0 → ⊥)
    (each : (shape : DenyShape) (n o : ℕ) → EvaluatesBy g (Grant shape n o) T W at (depth - 1) s r t buf) where
  unread : Few r.decision → EvaluatesBy g BadField T W at (depth - 1) s r t buf
  unfolding policy_node
  unread few = record { few = few; says = λ e. node_holds W at (depth - 1) BadField lt e nothing }

  by_grant : (b c : Bool) (shape : DenyShape) (n o : ℕ) → cond b (cond c (Grant shape n o) BadField) BadField ≡ policy_head (get_or W at 0) true → EvaluatesP g T W at depth s r t buf
  by_grant true true shape n o e = by_head deep refl e (each shape n o)
  by_grant true false shape n o e = by_head deep refl e (unread (each shape n o).few)
  by_grant false c shape n o e = by_head deep refl e (unread (each shape n o).few)

  pub eval_grant_word : get_or W at 0 / 268435456 ≡ 8 → EvaluatesP g T W at depth s r t buf
  unfolding policy_head grant_head
  eval_grant_word e =
      let r = get_or W at 0 % 268435456 in
      by_grant (few_obligations (bits 20 7 r)) (eqb (bits 16 4 r) 0) (shape_by (eqb (r / 134217728) 1)) (bits 20 7 r) (r % 65536) (rw e refl)

-- The answer to a grant at `at`, by the answer to its condition.
module _ (T : Table) (W : List ℕ) (at : ℕ) (buf : List ℕ) (k : Clause Outcome) (c : Condition) (rest : List ℕ) (node : node_at W at ≡ got (grant k c) rest) where
  pub granted_is : (b : Bool) (x : model.ConditionEval) → eval_condition T c ≡ x → b ≡ is_satisfied x → decision_of W T buf (granted_at b k.outcome at) ≡ eval_grant k (eval_condition T c)
  granted_is true (satisfied fs) e y = permitted_grant W T buf at k c rest fs node e
  granted_is true (unsatisfied fs) e y = cc
  granted_is false (satisfied fs) e y = cc
  granted_is false (unsatisfied fs) e y = denied_grant W T buf at k c rest fs node e

  pub granted_sound : (b : Bool) → Sound W buf (granted_at b k.outcome at)
  granted_sound true = sound_permitted W buf k.outcome (Some at) (reads (grant k c) rest node)
  granted_sound false = sound_denied W buf (Some at) (reads (grant k c) rest node)

  granted_answers : (g : Option OutcomeTable) (a : ConditionEval) (s t : Lent) (end : ℕ) → Evaluated (is_satisfied (eval_condition T c)) end (read_c T c) s a t → end ≡ at + words (grant k c) →
      Answered g T W at s (eval_of (granted_at a.satisfied k.outcome at) a.next) t buf (grant k c) rest
  granted_answers g a s t end h e = record {
    decision_is = granted_is a.satisfied (eval_condition T c) refl h.satisfied_is;
    sound = granted_sound a.satisfied;
    next_is = h.next_is ∙ e;
    log = consults_as (λ l. refl) h.log;
  }

pub granted_few : (b : Bool) (o at : ℕ) → (granted_at b o at).united ≤ obligation_room
granted_few true o at = omega arith
granted_few false o at = omega arith

module _ (g : Option OutcomeTable) (T : Table) (W : List ℕ) (at depth : ℕ) (shape : DenyShape) (n o : ℕ) (lt : at < length W) (deep : depth < 32) where
  -- A grant that ends early.
  pub grant_short : (s : Lent) (r : PolicyEval) (buf : List ℕ) → r.decision.united ≤ obligation_room → length W - at < 2 + (n + 3) / 4 → EvaluatesBy g (Grant shape n o) T W at depth s r s buf
  unfolding policy_node grant_node
  grant_short s r buf few h = record {
    few = few;
    says = λ e. node_holds W at depth (Grant shape n o) lt e
        (weaker _ (λ p rest f. absurd (omega (arith, f.fits, length-drop (at + 1) W))) (grant_read product_sets.value (read_condition depth) (bit_of shape) n o (drop (at + 1) W)));
  }

  -- What is known of the grant, given the answer to its condition.
  record Granted (a : ConditionEval) (s t : Lent) (p : Policy Outcome) (rest : List ℕ) : Type 0 where
    clause : Clause Outcome
    inner : Condition
    policy_is : p ≡ grant clause inner
    outcome_is : clause.outcome ≡ o
    node : node_at W at ≡ got (grant clause inner) rest
    words_are : at + words (grant clause inner) ≡ at + (2 + (n + 3) / 4) + words_c inner
    answer : Evaluated (is_satisfied (eval_condition T inner)) (at + (2 + (n + 3) / 4) + words_c inner) (read_c T inner) s a t

  grant_known : (a : ConditionEval) (s t : Lent) → EvaluatesC T W (at + (2 + (n + 3) / 4)) depth s a t → Grant shape n o ≡ policy_head (get_or W at 0) true →
      Holds (Granted a s t) (policy_at W at (suc depth))
  unfolding policy_node grant_node
  grant_known a s t c e =
      weaker (policy_at W at (suc depth)) (λ p rest h.
      let f = h.1 in
      let k = (n + 3) / 4 in
      let from : drop k (drop 1 (drop (at + 1) W)) ≡ drop (at + (2 + k)) W =
      ap (drop k) (drop-drop 1 (at + 1) W) ∙ drop-drop k (at + 1 + 1) W ∙ ap (λ i. drop i W) (let z : at + 1 + 1 + k ≡ at + (2 + k) = omega arith in z) in
      record {
        clause = f.clause;
        inner = f.inner;
        policy_is = f.policy_is;
        outcome_is = f.outcome_is;
        node = node_reads W at (suc depth) true (grant f.clause f.inner) rest (omega arith) (h.0 ∙ ap (λ x. got x rest) f.policy_is);
        words_are = omega (arith, f.long);
        answer = held_at c.says (ap (read_condition depth) (sym from) ∙ f.below);
      })
      (node_knows W at depth (Grant shape n o) lt e (grant_read product_sets.value (read_condition depth) (bit_of shape) n o (drop (at + 1) W)))

  pub grant_decides : (a : ConditionEval) (s t : Lent) (buf : List ℕ) → EvaluatesC T W (at + (2 + (n + 3) / 4)) depth s a t →
      EvaluatesBy g (Grant shape n o) T W at depth s (eval_of (granted_at a.satisfied o at) a.next) t buf
  grant_decides a s t buf c = record {
    few = granted_few a.satisfied o at;
    says = λ e. weaker (policy_at W at (suc depth)) (λ p rest f.
        let clause = f.clause in
        subst (λ q. Answered g T W at s (eval_of (granted_at a.satisfied o at) a.next) t buf q rest) (sym f.policy_is)
        (subst (λ i. Answered g T W at s (eval_of (granted_at a.satisfied i at) a.next) t buf (grant clause f.inner) rest) f.outcome_is
        (granted_answers T W at buf clause f.inner rest f.node g a s t _ f.answer (sym f.words_are)))) (grant_known a s t c e);
  }

-- The answer to a grant by its first word is the answer to it by its head.
pub grant_by_word : {g : Option OutcomeTable} {T : Table} {W : List ℕ} {at depth : ℕ} {s : Lent} {r : PolicyEval} {t : Lent} {buf : List ℕ} (shape : DenyShape) (n o : ℕ) →
    EvaluatesBy g (Grant shape (obligations_at W at) (outcome_at W at)) T W at depth s r t buf → EvaluatesBy g (Grant shape n o) T W at depth s r t buf
grant_by_word {W = W} {at} shape n o a = record {
  few = a.few;
  says = λ e. let f = grant_says true (get_or W at 0) shape n o e in a.says (sym (ap₂ (λ i j. Grant shape i j) f.0 f.1) ∙ e);
}

-- ---- stored decisions
record OfStored (Is : Decided Outcome → Type 0) (p : Policy Outcome) (rest : List ℕ) : Type 0 where
  was : Decided Outcome
  policy_is : p ≡ stored was
  is : Is was

module _ {g : Option OutcomeTable} {T : Table} {W : List ℕ} {at depth : ℕ} (lt : at < length W) (deep : depth < 32) {s : Lent} {buf : List ℕ} where
  -- The node of the head h, which q reads, and the code's decision d, which stands for what is read.
  stored_node : (h : PolicyHead) (q : Parsed (Decided Outcome)) (Is : Decided Outcome → Type 0) (d : Decision) → node_of true depth h (drop (at + 1) W) ≡ next q (λ x vs. got (stored x) vs) → Holds (λ x _. Is x) q → Few d →
      ((x : Decided Outcome) (rest : List ℕ) → h ≡ policy_head (get_or W at 0) true → Is x → node_at W at ≡ got (stored x) rest → (at + words_d x ≡ after_node W at) × (decision_of W T buf d ≡ x) × Sound W buf d) → EvaluatesBy g h T W at depth s (eval_of d (after_node W at)) s buf
  stored_node h q Is d read_is is few stands = record {
    few = few;
    says = λ e. weaker (policy_at W at (suc depth)) (λ p rest f.
        let k = f.1 in
        let v = stands k.was rest e k.is (node_reads W at (suc depth) true (stored k.was) rest (omega arith) (f.0 ∙ ap (λ x. got x rest) k.policy_is)) in
        record {
          decision_is = v.1 ∙ sym (ap (eval_policy g T) k.policy_is);
          sound = v.2;
          next_is = sym v.0 ∙ ap (λ n. at + n) (sym (ap (words {O = Outcome}) k.policy_is));
          log = consults_as (λ l. ap (λ x. read g T x l) k.policy_is) consults_none;
        })
        (node_knows W at depth h lt e (subst (Holds (OfStored Is)) (sym read_is) (then_holds q _ is (λ x vs i. fine (record { was = x; policy_is = refl; is = i })))));
  }

  pub permit_stored : {n o : ℕ} → EvaluatesBy g (PermitWithTrace n o) T W at depth s (eval_of (permitted_at o (Some at) (Some at) 0) (after_node W at)) s buf
  unfolding policy_node
  permit_stored {n} {o} =
      let h = PermitWithTrace n o in
      let ws = drop (at + 1) W in
      stored_node h (permit_trace_node n o ws) (IsPermit o (2 + (n + 3) / 4) (get_or ws 0 0)) (permitted_at o (Some at) (Some at) 0) refl (permit_reads n o ws) (omega arith)
      (λ x rest e k node.
      let there : node_at W at ≡ got (stored (permits k.was)) rest = node ∙ ap (λ d. got (stored d) rest) k.is in
      (omega (arith, k.long, permit_owns true (get_or W at 0) n o ws e), ap (λ z. decision_of W T buf (permitted_at z (Some at) (Some at) 0)) (sym k.outcome_is) ∙ permitted_stored W T buf at k.was rest there ∙ sym k.is, sound_permitted W buf o (Some at) (reads (stored x) rest node)))

  pub deny_stored : {shape : DenyShape} {denied : Carried ℕ} → EvaluatesBy g (DenyWithTrace shape denied) T W at depth s (eval_of (denied_at (Some at)) (after_node W at)) s buf
  unfolding policy_node
  deny_stored {shape} {denied} =
      let h = DenyWithTrace shape denied in
      let ws = drop (at + 1) W in
      stored_node h (deny_trace_node shape denied ws) (IsDeny (get_or ws 1 0)) (denied_at (Some at)) refl (deny_reads shape denied ws) (omega arith)
      (λ x rest e k node.
      let there : node_at W at ≡ got (stored (denies k.was)) rest = node ∙ ap (λ d. got (stored d) rest) k.is in
      (omega (arith, k.long, deny_owns true (get_or W at 0) shape denied ws e), denied_stored W T buf at k.was rest there ∙ sym k.is, sound_denied W buf (Some at) (reads (stored x) rest node)))
