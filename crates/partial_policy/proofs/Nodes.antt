-- What a policy reduces to and consults, by its head: grants, and what is evaluated. Assumes nothing.
use mathlib.Core.Path.{◌≡◌, refl, sym, ◌∙◌, ap, ap₂, subst}
use mathlib.Core.Bool.{Bool, true}
use mathlib.Core.Option.{Option}
use mathlib.Core.List.{List, [], ◌∷◌, ◌++◌, append_assoc}
use Prim.Native.Nat.{ℕ, zero, suc, ◌+◌, ◌-◌, ◌/◌, ◌%◌, ◌≤◌, ◌<◌, min}
use native.Mathlib.Omega.{arith}
use denote.Enum.Declared.{tag_of}
use types.Run.{OneOf, miss}
use Rattle.std.specs.Prelude.{None}
use lib.ListN.{length, take, drop, get_or, length-take, length-drop}
use lib.Seq.{take_at, drop-drop}
use Rattle.model.specs.Fields.{pack}
use Rattle.model.specs.Facts.{Table}
use Rattle.model.specs.Outcome.{product_sets}
use Rattle.model.specs.Levels.{OutcomeTable}
use Rattle.model.specs.Condition.{Condition, eval_has, eval_condition}
use Rattle.model.specs.Consulted.{Consulted, walk_c}
use Rattle.model.specs.Policy.{Policy, Grant as Clause, grant}
use Rattle.model.specs.Partial.{known, pending_c, reduce_condition, resolved, Order, reduce_grant}
use Rattle.model.specs.Partial as model
use Rattle.model.specs.Writing.{obligation_bits, encode_c}
use Rattle.model.specs.Reading.{Parsed, got, read_condition}
use Rattle.model.specs.Products.{Outcome, read, walk, eval_policy, reduce_policy, encode, read_policy, policy_at}
use Rattle.laws.proofs.FieldLaws.{Holds, fine, nothing, weaker, then_holds, both_hold, held_at, anything}
use Rattle.laws.specs.Size.{words_c, words}
use Rattle.laws.specs.Truth.{is_satisfied}
use Rattle.laws.proofs.Lengths.{length_pack}
use Rattle.laws.proofs.Canon.{same_t}
use Rattle.laws.proofs.ProductLaws.{written_products}
use Rattle.laws.proofs.NodeLaws.{policy_none}
use Rattle.laws.proofs.GrantLaws.{grant_read}
use Rattle.staging.proofs.ConditionLaws.{known_again}
use Rattle.facts.specs.AnswerLaws.{settled_known, settled_consulted}
use Rattle.policy_model.specs.contracts.PolicyHead.{the_type}
use Rattle.policy_model.specs.declared.DenyShape.{DenyShape}
use Rattle.policy_model.specs.declared.PolicyHead.{PolicyHead}
use Rattle.policy_model.specs.declared.PolicyHead.TheVariants.{Permit, Deny, Grant, All, Any, OrElse, PermitWithTrace, DenyWithTrace, BadKind, BadField}
use Rattle.policy_model.specs.Heads.{policy_head, permit_trace_node, deny_trace_node, policy_node, bit_of, grant_node}
use Rattle.policy_model.specs.HeadLaws.{head_cases, permit_word}
use Rattle.policy_model.specs.PlainLaws.{plain_reads}
use Rattle.policy_model.proofs.Checking.{no_word}
use Rattle.policy_model.proofs.Skipping.{grant_says}
use Rattle.grant.specs.Fields.{outcome_at, obligations_at}
use Rattle.condition.specs.Evaluating.{EvaluatesHas}
use Rattle.consulted.specs.Listing.{Lent}
use Rattle.consulted.proofs.Listing.{consults_as}
use Rattle.decision.specs.Nodes.{node_at}
use Rattle.decision.specs.Meaning.{permitted_at, granted_at}
use Rattle.decision.proofs.Standing.{node_reads}
use Rattle.evaluate.specs.declared.PolicyEval.{PolicyEval}
use Rattle.evaluate.specs.Evaluating.{EvaluatesP}
use Rattle.evaluate.proofs.Nodes.{in_fewer, in_sheet, node_holds, node_knows}
use Rattle.evaluate.proofs.Evaluating.{no_levels, one_level, eval_permit_word, granted_is, granted_sound, granted_few}
use Rattle.sizes.specs.Laid.{capped, Laid}
use Rattle.sizes.specs.LaidLaws.{laid_then, laid_as}
use Rattle.partial_condition.specs.declared.Reduced.TheVariants.{Known, Pending}
use Rattle.partial_condition.specs.declared.ReducedCondition.{ReducedCondition}
use Rattle.partial_condition.specs.Reducing as condition
use Rattle.partial_condition.proofs.Arms.{not_both}
use Rattle.residual.specs.Weight.{weight}
use Rattle.partial_list.specs.declared.ReducedPolicy.{ReducedPolicy}
use Rattle.partial_list.specs.declared.Reduced.TheVariants.{Resolved}
use Rattle.partial_list.specs.declared.Reduced.TheVariants as list
use Rattle.partial_list.specs.WithinLaws.{within}
use Rattle.partial_list.specs.Answers.{resolved_to, Result, Fit}
use Rattle.partial_policy.specs.Reducing.{ReducedTo, ReducesP, ReducesBy, ReducesConstant, SettledGrant}

-- ---- a policy by its head
module _ {g : Option OutcomeTable} {order : Order} (P : Table) (W : List ℕ) (at depth : ℕ) (s : Lent) (r : ReducedPolicy) (t : Lent) (buf : List ℕ) (room : ℕ) (out : List ℕ) where
  pub by_head : (h : PolicyHead) → (depth ≡ 0 → ⊥) → h ≡ policy_head (get_or W at 0) true → ReducesBy g order h P W at (depth - 1) s r t buf room out → ReducesP g order P W at depth s r t buf room out
  by_head h f e a = record { fit = a.fit; says = in_sheet depth (drop at W) (one_level depth (drop at W) f (a.says e)) }

  -- Words that don't read.
  pub reduce_end : t ≡ s → Fit r.to → length W ≤ at → ReducesP g order P W at depth s r t buf room out
  reduce_end e fit h = rw e (record { fit = fit; says = λ res. rw (no_word W at h, policy_none product_sets.value res depth) nothing })

  pub reduce_limit : t ≡ s → Fit r.to → depth ≡ 0 → ReducesP g order P W at depth s r t buf room out
  reduce_limit e fit z = rw e (record { fit = fit; says = λ res. rw z (no_levels res (drop at W)) })

-- ---- what is evaluated: the tags of its heads
abbrev constants : List ℕ
constants = 0 ∷ 1 ∷ 6 ∷ 7 ∷ 8 ∷ 9 ∷ []

record Constant (g : Option OutcomeTable) (order : Order) (P : Table) (p : Policy Outcome) (rest : List ℕ) : Type 0 where
  value_is : reduce_policy g order P p ≡ resolved (eval_policy g P p)
  read_is : (l : Consulted) → walk g order P p l ≡ read g P p l

constant_there : {g : Option OutcomeTable} {order : Order} (pc : List ℕ → Parsed Condition) (p : List ℕ → Parsed (Policy Outcome)) (P : Table) (h : PolicyHead) (ws : List ℕ) → OneOf constants (tag_of the_type h) → Holds (Constant g order P) (policy_node pc p h ws)
unfolding policy_node
constant_there pc p P (Permit o) ws k = fine (record { value_is = refl; read_is = λ l. refl })
constant_there pc p P Deny ws k = fine (record { value_is = refl; read_is = λ l. refl })
constant_there pc p P (Grant shape n o) ws k = absurd (miss constants 2 tt k)
constant_there pc p P (All n) ws k = absurd (miss constants 3 tt k)
constant_there pc p P (Any n) ws k = absurd (miss constants 4 tt k)
constant_there pc p P OrElse ws k = absurd (miss constants 5 tt k)
constant_there pc p P (PermitWithTrace n o) ws k = then_holds (permit_trace_node n o ws) _ (anything (permit_trace_node n o ws)) (λ d vs _. fine (record { value_is = refl; read_is = λ l. refl }))
constant_there pc p P (DenyWithTrace shape denied) ws k =
    then_holds (deny_trace_node shape denied ws) _ (anything (deny_trace_node shape denied ws)) (λ d vs _. fine (record { value_is = refl; read_is = λ l. refl }))
constant_there pc p P BadKind ws k = nothing
constant_there pc p P BadField ws k = nothing

-- The answer is that of evaluation.
evaluated : {g : Option OutcomeTable} {order : Order} (P : Table) (W : List ℕ) (at depth : ℕ) (s : Lent) (e : PolicyEval) (t : Lent) (buf : List ℕ) (room : ℕ) (out : List ℕ) → EvaluatesP g P W at depth s e t buf →
    Holds (Constant g order P) (policy_at W at depth) → ReducesP g order P W at depth s (resolved_to e.decision e.next) t buf room out
evaluated P W at depth s e t buf room out answers c = record {
  fit = answers.few;
  says = in_sheet depth (drop at W)
      (weaker (policy_at W at depth) (λ p rest h.
      record {
        result = rw h.1.value_is (record { decision_is = h.0.decision_is; sound = h.0.sound });
        next_is = h.0.next_is;
        log = consults_as h.1.read_is h.0.log;
      })
      (both_hold (policy_at W at depth) (answers.says true) c));
}

pub reduce_constant : {g : Option OutcomeTable} {order : Order} (P : Table) (W : List ℕ) (at depth : ℕ) (s : Lent) (r : ReducedPolicy) (t : Lent) (buf : List ℕ) (room : ℕ) (out : List ℕ) (h : PolicyHead) → at < length W → (depth ≡ 0 → ⊥) → h ≡ policy_head (get_or W at 0) true →
    OneOf constants (tag_of the_type h) → ReducesConstant g P W at depth s r t buf → ReducesP g order P W at depth s r t buf room out
reduce_constant P W at depth s r t buf room out h lt f e k c =
    rw c.is
    (evaluated P W at depth s c.eval t buf room out c.evaluates
    (one_level depth (drop at W) f (node_holds W at (depth - 1) h lt e (constant_there (read_condition (depth - 1)) (read_policy true (depth - 1)) P h (drop (at + 1) W) k))))

-- ---- a list has at most 4,095 arms
abbrev FewArms : PolicyHead → Type 0
FewArms (Permit o) = Unit {0}
FewArms Deny = Unit {0}
FewArms (Grant shape n o) = Unit {0}
FewArms (All n) = n < 4096
FewArms (Any n) = n < 4096
FewArms OrElse = Unit {0}
FewArms (PermitWithTrace n o) = Unit {0}
FewArms (DenyWithTrace shape denied) = Unit {0}
FewArms BadKind = Unit {0}
FewArms BadField = Unit {0}

few_arms : (w : ℕ) (h : PolicyHead) → h ≡ policy_head w true → FewArms h
few_arms w h e =
    subst FewArms (sym e) (head_cases FewArms w true (record {
      bad_kind_is = tt;
      bad_field_is = tt;
      permit_is = λ _. tt;
      deny_is = λ _. tt;
      grant_is = λ _. tt;
      all_is = λ _ few. few;
      any_is = λ _ few. few;
      or_else_is = λ _. tt;
      permit_trace_is = λ _ _. tt;
      deny_trace_is = λ _ _ _ _. tt;
    }))

pub all_below : (w n : ℕ) → All n ≡ policy_head w true → n < 4096
all_below w n e = few_arms w (All n) e

pub any_below : (w n : ℕ) → Any n ≡ policy_head w true → n < 4096
any_below w n e = few_arms w (Any n) e

-- ---- a grant
-- A known answer has one value.
same_known : {v b : Bool} → Known v ≡ Known b → v ≡ b
same_known e = cc

-- Its own words are those that would be written for it: they don't depend on its condition.
own_front : (x y k : ℕ) (os cs rest ds : List ℕ) → length os ≡ k → take (2 + k) ((x ∷ y ∷ (os ++ cs)) ++ rest) ++ ds ≡ x ∷ y ∷ (os ++ ds)
own_front x y k os cs rest ds size =
    let two : 2 + k ≡ suc (suc k) = omega arith in
    ap (λ m. take m ((x ∷ y ∷ (os ++ cs)) ++ rest) ++ ds) two
    ∙ ap (λ us. x ∷ y ∷ (us ++ ds)) (ap (take k) (append_assoc os cs rest) ∙ take_at os (cs ++ rest) k size)

own_words : (g : Clause Outcome) (c d : Condition) (rest : List ℕ) (n : ℕ) → length g.obligations ≡ n →
    take (2 + (n + 3) / 4) (encode (grant g c) ++ rest) ++ encode_c d ≡ encode (grant g d)
own_words g c d rest n long =
    own_front _ _ ((n + 3) / 4) (pack obligation_bits g.obligations) (encode_c c) rest (encode_c d) (length_pack obligation_bits g.obligations ∙ ap (λ m. (m + 3) / 4) long)

-- They were laid from `at` to `to`.
pub own_laid : (W mid : List ℕ) (at to own : ℕ) → to - at ≡ own → own ≤ length W - at →
    Laid (length (take (to - at) (drop at W))) (take (to - at) (drop at W)) mid (length (take (to - at) (drop at W))) → Laid own (take own (drop at W)) mid own
own_laid W mid at to own e h l =
    let long : length (take own (drop at W)) ≡ own = omega (arith, length-take own (drop at W), length-drop at W) in
    rw long at (rw e at l)

module _ (P : Table) (W : List ℕ) (at depth : ℕ) (shape : DenyShape) (n o own : ℕ) (lt : at < length W) (deep : depth < 32) (own_is : own ≡ 2 + (n + 3) / 4) where
  -- A grant that ends early.
  pub grant_short : {g : Option OutcomeTable} {order : Order} (s : Lent) (r : ReducedPolicy) (buf : List ℕ) (room : ℕ) (out : List ℕ) → Fit r.to → length W - at < own → ReducesBy g order (Grant shape n o) P W at depth s r s buf room out
  unfolding policy_node grant_node
  grant_short s r buf room out fit h = record {
    fit = fit;
    says = λ e. node_holds W at depth (Grant shape n o) lt e
        (weaker _ (λ p rest g. absurd (omega (arith, g.fits, length-drop (at + 1) W))) (grant_read product_sets.value (read_condition depth) (bit_of shape) n o (drop (at + 1) W)));
  }

  -- What is known of the grant, given the answer to its condition.
  record Granted (a : ReducedCondition) (s t : Lent) (part : List ℕ) (p : Policy Outcome) (rest : List ℕ) : Type 0 where
    clause : Clause Outcome
    inner : Condition
    policy_is : p ≡ grant clause inner
    outcome_is : clause.outcome ≡ o
    long : length clause.obligations ≡ n
    node : node_at W at ≡ got (grant clause inner) rest
    were : encode (grant clause inner) ++ rest ≡ drop at W
    words_are : at + words (grant clause inner) ≡ at + own + words_c inner
    answer : condition.ReducedTo (reduce_condition P inner) (at + own + words_c inner) (walk_c P inner) s a t part

  grant_known : (a : ReducedCondition) (s t : Lent) (part : List ℕ) → condition.ReducesC P W (at + own) depth s a t part → Grant shape n o ≡ policy_head (get_or W at 0) true →
      Holds (Granted a s t part) (policy_at W at (suc depth))
  unfolding policy_node grant_node
  grant_known a s t part c e =
      weaker (policy_at W at (suc depth)) (λ p rest h.
      let g = h.1 in
      let k = (n + 3) / 4 in
      let from : drop k (drop 1 (drop (at + 1) W)) ≡ drop (at + own) W =
      ap (drop k) (drop-drop 1 (at + 1) W) ∙ drop-drop k (at + 1 + 1) W ∙ ap (λ i. drop i W) (let z : at + 1 + 1 + k ≡ at + own = omega arith in z) in
      record {
        clause = g.clause;
        inner = g.inner;
        policy_is = g.policy_is;
        outcome_is = g.outcome_is;
        long = g.long;
        node = node_reads W at (suc depth) true (grant g.clause g.inner) rest (omega arith) (h.0 ∙ ap (λ x. got x rest) g.policy_is);
        were = held_at (same_t product_sets.number product_sets.value written_products.only true (suc depth) (drop at W)) (h.0 ∙ ap (λ x. got x rest) g.policy_is);
        words_are = omega (arith, g.long);
        answer = held_at c.says (ap (read_condition depth) (sym from) ∙ g.below);
      })
      (node_knows W at depth (Grant shape n o) lt e (grant_read product_sets.value (read_condition depth) (bit_of shape) n o (drop (at + 1) W)))

  module _ (buf : List ℕ) (room : ℕ) (out part : List ℕ) (a : ReducedCondition) (c : Condition) (g : Clause Outcome) (rest : List ℕ) (node : node_at W at ≡ got (grant g c) rest) (is : g.outcome ≡ o) where
    -- The value that the reduction found is that of evaluation.
    value_is : (b : Bool) → reduce_condition P c ≡ known b → b ≡ is_satisfied (eval_condition P c)
    value_is b e = sym (known_again P c b e)

    decides_at : (x : model.ReducedCondition) (v : Bool) → reduce_condition P c ≡ x → condition.Left x a.to part → a.to ≡ Known v →
        Result (reduce_grant g (eval_condition P c) x) P W buf room out (Resolved (granted_at v o at))
    decides_at (known b) v e l p = subst (λ i. Result (reduce_grant g (eval_condition P c) (known b)) P W buf room out (Resolved (granted_at v i at))) is (record {
      decision_is = granted_is P W at buf g c rest node v (eval_condition P c) refl (same_known (sym p ∙ l) ∙ value_is b e);
      sound = granted_sound P W at buf g c rest node v;
    })
    decides_at (pending_c d) v e l p = not_both (sym p ∙ l.0)

    open_at : (mid : List ℕ) (from size n' : ℕ) → length g.obligations ≡ n → encode (grant g c) ++ rest ≡ drop at W → Laid own (take own (drop at W)) mid own → from ≡ min own (length mid) → length part ≡ length mid - from → size ≡ capped (own + n') →
        out ≡ take from mid ++ (part ++ drop (length mid - from) (drop from mid)) → (x : model.ReducedCondition) → condition.Left x a.to part → a.to ≡ Pending n' →
        Result (reduce_grant g (eval_condition P c) x) P W buf room out (list.Pending size)
    open_at mid from size n' long were l f m e z (known b) x p = not_both (sym x ∙ p)
    open_at mid from size n' long were l f m e z (pending_c d) x p =
        within (rw z (laid_as (let w : own + words_c d ≡ weight (grant g d) = omega arith in w)
        (ap₂ (λ k us. take k us ++ encode_c d) own_is (sym were) ∙ own_words g c d rest n long) (laid_then l (rw p at x.1) f m e)))

  -- Its answer, by the condition's.
  module _ (a : ReducedCondition) (s t : Lent) (part : List ℕ) (buf : List ℕ) (room : ℕ) (out : List ℕ) (c : condition.ReducesC P W (at + own) depth s a t part) where
    granted : {g : Option OutcomeTable} {order : Order} (r : ReducedPolicy) → Fit r.to → r.next ≡ a.next →
        ((d : Condition) (k : Clause Outcome) (rest : List ℕ) → node_at W at ≡ got (grant k d) rest → k.outcome ≡ o → length k.obligations ≡ n → encode (grant k d) ++ rest ≡ drop at W → condition.Left (reduce_condition P d) a.to part →
        Result (reduce_policy g order P (grant k d)) P W buf room out r.to) →
        ReducesBy g order (Grant shape n o) P W at depth s r t buf room out
    granted {g} {order} r fit e f = record {
      fit = fit;
      says = λ h. weaker (policy_at W at (suc depth)) (λ p rest k.
          subst (λ q. ReducedTo (reduce_policy g order P q) (at + words q) (walk g order P q) P W s r t buf room out) (sym k.policy_is) (record {
            result = f k.inner k.clause rest k.node k.outcome_is k.long k.were k.answer.left;
            next_is = e ∙ k.answer.next_is ∙ sym k.words_are;
            log = consults_as (λ l. refl) k.answer.log;
          })) (grant_known a s t part c h);
    }

    pub grant_decides : {g : Option OutcomeTable} {order : Order} (v : Bool) → a.to ≡ Known v → ReducesBy g order (Grant shape n o) P W at depth s (resolved_to (granted_at v o at) a.next) t buf room out
    grant_decides v p =
        granted (resolved_to (granted_at v o at) a.next) (granted_few v o at) refl (λ d k rest node is long were l.
        decides_at buf room out part a d k rest node is (reduce_condition P d) v refl l p)

    pub grant_pending : {g : Option OutcomeTable} {order : Order} (mid : List ℕ) (from size n' : ℕ) → a.to ≡ Pending n' → Laid own (take own (drop at W)) mid own → from ≡ min own (length mid) → length part ≡ length mid - from → size ≡ capped (own + n') →
        out ≡ take from mid ++ (part ++ drop (length mid - from) (drop from mid)) → ReducesBy g order (Grant shape n o) P W at depth s (record { to = list.Pending size; next = a.next }) t buf room out
    grant_pending mid from size n' p l f m e z =
        granted (record { to = list.Pending size; next = a.next }) (omega arith) refl (λ d k rest node is long were x. open_at buf room out part a d k rest node is mid from size n' long were l f m e z (reduce_condition P d) x p)

-- The answer to a grant by its first word is the answer to it by its head.
pub grant_by_word : {g : Option OutcomeTable} {order : Order} {P : Table} {W : List ℕ} {at depth : ℕ} {s : Lent} {r : ReducedPolicy} {t : Lent} {buf : List ℕ} {room : ℕ} {out : List ℕ} (shape : DenyShape) (n o : ℕ) →
    ReducesBy g order (Grant shape (obligations_at W at) (outcome_at W at)) P W at depth s r t buf room out → ReducesBy g order (Grant shape n o) P W at depth s r t buf room out
grant_by_word {W = W} {at} shape n o a = record {
  fit = a.fit;
  says = λ e. let f = grant_says true (get_or W at 0) shape n o e in a.says (sym (ap₂ (λ i j. Grant shape i j) f.0 f.1) ∙ e);
}

-- ---- arms that a list rule answers by itself
permit_constant : {g : Option OutcomeTable} {order : Order} (P : Table) (W : List ℕ) (at depth : ℕ) → at < length W → get_or W at 0 / 65536 ≡ 24576 → Holds (Constant g order P) (policy_at W at depth)
unfolding policy_node
permit_constant P W at zero lt e = no_levels true (drop at W)
permit_constant P W at (suc depth) lt e = node_holds W at depth (Permit (get_or W at 0 % 65536)) lt (permit_word (get_or W at 0) true e) (fine (record { value_is = refl; read_is = λ l. refl }))

pub reduce_permit : {g : Option OutcomeTable} {order : Order} (P : Table) (W : List ℕ) (at depth : ℕ) (s : Lent) (buf : List ℕ) (room : ℕ) (out : List ℕ) → at < length W → get_or W at 0 / 65536 ≡ 24576 →
    ReducesP g order P W at depth s (resolved_to (permitted_at (get_or W at 0 % 65536) None None 0) (at + 1)) s buf room out
reduce_permit P W at depth s buf room out lt e =
    evaluated P W at depth s _ s buf room out (eval_permit_word _ P W at depth s buf lt e) (permit_constant P W at depth lt e)

-- A grant on one settled fact, at every level: with too few levels for its condition it isn't read.
pub reduce_plain : {g : Option OutcomeTable} {order : Order} (P : Table) (W : List ℕ) (at depth : ℕ) (s : Lent) (v : Bool) (t : Lent) (buf : List ℕ) (room : ℕ) (out : List ℕ) → SettledGrant P W at → EvaluatesHas P (get_or W (at + 2) 0 % 1024) s v t →
    ReducesP g order P W at depth s (resolved_to (granted_at v (get_or W at 0 % 65536) at) (at + 3)) t buf room out
reduce_plain P W at depth s v t buf room out k h =
    let f = get_or W (at + 2) 0 % 1024 in
    let rest = drop (at + 3) W in
    let node = node_reads W at 2 true _ rest (omega arith) (plain_reads W at k.plain true 0) in
    let r = Resolved (granted_at v (get_or W at 0 % 65536) at) in
    record {
      fit = granted_few v (get_or W at 0 % 65536) at;
      says = in_fewer depth (suc (suc depth)) (drop at W) (omega arith)
          (rw (plain_reads W at k.plain true depth)
          (fine (record {
            result = subst (λ x. Result x P W buf room out r) (sym (ap (reduce_grant _ (eval_has f (P f))) (settled_known f (P f) k.known)))
                (record { decision_is = granted_is P W at buf _ _ rest node v _ refl h.satisfied_is; sound = granted_sound P W at buf _ _ rest node v });
            next_is = refl;
            log = consults_as (λ l. settled_consulted l f (P f) k.known) h.log;
          })));
    }
