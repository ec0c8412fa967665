-- The span of words is what the trees take that are read of them. Assumes nothing.
use Rattle.std.specs.Prelude as prelude
use mathlib.Core.Path.{◌≡◌, refl, sym, ◌∙◌, ap, ap₂, subst}
use mathlib.Core.Bool.{Bool, true, false, cond}
use mathlib.Core.Option.{Option}
use mathlib.Core.List.{List, [], ◌∷◌, ◌++◌, map}
use Prim.Native.Nat.{ℕ, zero, suc, ◌+◌, ◌-◌, ◌/◌, ◌%◌, ◌≤◌, ◌<◌}
use native.Mathlib.Omega.{arith}
use borrow.Author.Tests.{ltb-true}
use lib.Dec.{eqb, ltb}
use lib.ListN.{length, drop, get_or, length-map, length-drop}
use lib.Seq.{drop-drop}
use Rattle.model.specs.Fields.{words_for, per_word, pack}
use Rattle.model.specs.Condition.{Condition, not_c, all_c, any_c, cnil, ccons}
use Rattle.model.specs.Decision.{Decision, permits, denies}
use Rattle.model.specs.Policy.{Policy, grant, all, any, or_else, stored, pnil, pcons}
use Rattle.model.specs.Writing.{obligation_bits, entry_bits}
use Rattle.model.specs.Reading.{Parsed, refuse, got, next, unless, many, read_list, obligation, listed, mark, shape_of, read_condition}
use Rattle.model.specs.Products.{Outcome, read_policy}
use Rattle.laws.specs.Size.{quads, pairs, words_c, words_cs, words_d, words, wordss}
use Rattle.laws.proofs.FieldLaws.{Holds, fine, nothing, if_holds, weaker, then_holds, same_list_lem, anything}
use Rattle.laws.proofs.Lengths.{length_pack}
use Rattle.laws.proofs.ReadForm.{same_obligation, same_listed}
use Rattle.laws.proofs.NodeLaws.{count_of}
use Rattle.policy_model.specs.declared.ConditionHead.{ConditionHead}
use Rattle.policy_model.specs.declared.ConditionHead.TheVariants.{Always, Never, Has, Not}
use Rattle.policy_model.specs.declared.ConditionHead.TheVariants as condition
use Rattle.policy_model.specs.declared.DenyShape.{DenyShape}
use Rattle.policy_model.specs.declared.PolicyHead.{PolicyHead}
use Rattle.policy_model.specs.declared.PolicyHead.TheVariants.{Permit, Deny, Grant, OrElse, PermitWithTrace, DenyWithTrace}
use Rattle.policy_model.specs.declared.PolicyHead.TheVariants as policy
use Rattle.policy_model.specs.Heads.{condition_heads, condition_head, condition_node, policy_head, bit_of, denied_by, permit_trace_node, deny_trace_node, grant_node, policy_node}
use Rattle.policy_model.specs.HeadLaws.{head_cases, condition_node_lem, condition_deep, policy_node_lem, policy_deep}
use Rattle.policy_model.specs.Span.{arms_by, arms_of, own_by, own_of, span, Skipped, SkippedConditions}
use Rattle.policy_model.proofs.Checking.{word_at, no_word}

-- ---- what a first word opens
-- Its arms, and its own words after it.
pub record Opens (w arms : ℕ) (own : List ℕ → ℕ) : Type 0 where
  pub arms_are : arms_of w ≡ arms
  own_are : (ws : List ℕ) → own_of w ws ≡ own ws

opens_at : (w k : ℕ) → w / 268435456 ≡ k → Opens w (get_or (arms_by (w % 4096)) k 0) (λ ws. get_or (own_by (w / 1048576 % 128) ws) k 0)
unfolding arms_of own_of
opens_at w k e = record { arms_are = ap (λ n. get_or (arms_by (w % 4096)) n 0) e; own_are = λ ws. ap (λ n. get_or (own_by (w / 1048576 % 128) ws) n 0) e }

opens_as : (w a b : ℕ) (own : List ℕ → ℕ) → a ≡ b → Opens w a own → Opens w b own
opens_as w a b own e o = record { arms_are = o.arms_are ∙ e; own_are = o.own_are }

abbrev pub none_own : List ℕ → ℕ
none_own ws = 0

-- By the head of a condition.
abbrev pub OpensC : ℕ → ConditionHead → Type 0
OpensC w Always = Opens w 0 none_own
OpensC w Never = Opens w 0 none_own
OpensC w (Has f) = Opens w 0 none_own
OpensC w Not = Opens w 1 none_own
OpensC w (condition.All n) = Opens w n none_own
OpensC w (condition.Any n) = Opens w n none_own
OpensC w condition.BadKind = Unit {0}
OpensC w condition.BadField = Unit {0}

when_c : (w : ℕ) (b : Bool) (h : ConditionHead) → (b ≡ true → OpensC w h) → OpensC w (cond b h condition.BadField)
when_c w true h f = f refl
when_c w false h f = tt

small_count : (w : ℕ) → ltb (w % 268435456) 4096 ≡ true → w % 4096 ≡ w % 268435456
small_count w e = let h : w % 268435456 < 4096 = ltb-true (w % 268435456) 4096 e in omega arith

opens_kind_c : (w k : ℕ) → w / 268435456 ≡ k → OpensC w (get_or (condition_heads (w % 268435456)) k condition.BadKind)
opens_kind_c w zero e = when_c w (eqb (w % 268435456) 0) Always (λ _. opens_at w 0 e)
opens_kind_c w (suc zero) e = when_c w (eqb (w % 268435456) 0) Never (λ _. opens_at w 1 e)
opens_kind_c w (suc (suc zero)) e = when_c w (ltb (w % 268435456) 1024) (Has (w % 268435456)) (λ _. opens_at w 2 e)
opens_kind_c w (suc (suc (suc zero))) e = when_c w (eqb (w % 268435456) 0) Not (λ _. opens_at w 3 e)
opens_kind_c w (suc (suc (suc (suc zero)))) e = when_c w (ltb (w % 268435456) 4096) (condition.All (w % 268435456)) (λ t. opens_as w (w % 4096) (w % 268435456) none_own (small_count w t) (opens_at w 4 e))
opens_kind_c w (suc (suc (suc (suc (suc zero))))) e = when_c w (ltb (w % 268435456) 4096) (condition.Any (w % 268435456)) (λ t. opens_as w (w % 4096) (w % 268435456) none_own (small_count w t) (opens_at w 5 e))
opens_kind_c w (suc (suc (suc (suc (suc (suc k)))))) e = tt

opens_c : (w : ℕ) → OpensC w (condition_head w)
unfolding condition_head
opens_c w = opens_kind_c w (w / 268435456) refl

-- By the head of a policy. A grant's and a stored permit's obligation count and outcome are those of the word.
abbrev Says : ℕ → ℕ → ℕ → Type 0
Says w n o = (n ≡ w / 1048576 % 128) × (o ≡ w % 65536)

abbrev OpensP : ℕ → PolicyHead → Type 0
OpensP w (Permit o) = Opens w 0 none_own
OpensP w Deny = Opens w 0 none_own
OpensP w (Grant shape n o) = Opens w 1 (λ ws. suc (words_for 4 n)) × Says w n o
OpensP w (policy.All n) = Opens w n none_own
OpensP w (policy.Any n) = Opens w n none_own
OpensP w OrElse = Opens w 2 none_own
OpensP w (PermitWithTrace n o) = Opens w 0 (λ ws. suc (words_for 4 n + words_for 2 (get_or ws 0 0 % 4096))) × Says w n o
OpensP w (DenyWithTrace shape denied) = Opens w 0 (λ ws. suc (suc (words_for 2 (get_or ws 1 0 % 4096))))
OpensP w policy.BadKind = Unit {0}
OpensP w policy.BadField = Unit {0}

opens_p : (res : Bool) (w : ℕ) → OpensP w (policy_head w res)
opens_p res w =
    let says : Says w (w % 268435456 / 1048576 % 128) (w % 268435456 % 65536) = (sym (count_of w), omega arith) in
    head_cases (OpensP w) w res (record {
      bad_kind_is = tt;
      bad_field_is = tt;
      permit_is = λ e. opens_at w 6 e;
      deny_is = λ e. opens_at w 7 e;
      grant_is = λ e. (subst (λ m. Opens w 1 (λ ws. suc (words_for 4 m))) (count_of w) (opens_at w 8 e), says);
      all_is = λ e h. opens_as w (w % 4096) (w % 268435456) none_own (omega arith) (opens_at w 9 e);
      any_is = λ e h. opens_as w (w % 4096) (w % 268435456) none_own (omega arith) (opens_at w 10 e);
      or_else_is = λ e. opens_at w 11 e;
      permit_trace_is = λ e _. (subst (λ m. Opens w 0 (λ ws. suc (words_for 4 m + words_for 2 (get_or ws 0 0 % 4096)))) (count_of w) (opens_at w 12 e), says);
      deny_trace_is = λ e _ _ _. opens_at w 13 e;
    })

pub grant_says : (res : Bool) (w : ℕ) (shape : DenyShape) (n o : ℕ) → Grant shape n o ≡ policy_head w res → Says w n o
grant_says res w shape n o e = (subst (OpensP w) (sym e) (opens_p res w)).1

pub permit_says : (res : Bool) (w n o : ℕ) → PermitWithTrace n o ≡ policy_head w res → Says w n o
permit_says res w n o e = (subst (OpensP w) (sym e) (opens_p res w)).1

-- The own words of a stored decision.
pub permit_owns : (res : Bool) (w n o : ℕ) (ws : List ℕ) → PermitWithTrace n o ≡ policy_head w res →
    own_of w ws ≡ suc (words_for 4 n + words_for 2 (get_or ws 0 0 % 4096))
permit_owns res w n o ws e = (subst (OpensP w) (sym e) (opens_p res w)).0.own_are ws

pub deny_owns : (res : Bool) (w : ℕ) (shape : DenyShape) (denied : prelude.Option ℕ) (ws : List ℕ) → DenyWithTrace shape denied ≡ policy_head w res →
    own_of w ws ≡ suc (suc (words_for 2 (get_or ws 1 0 % 4096)))
deny_owns res w shape denied ws e = (subst (OpensP w) (sym e) (opens_p res w)).own_are ws

-- ---- the span
span_word : (w : ℕ) (ws : List ℕ) (nodes a : ℕ) (own : List ℕ → ℕ) → Opens w a own → span (w ∷ ws) 0 (suc nodes) ≡ suc (span ws (own ws) (a + nodes))
unfolding span
span_word w ws nodes a own o = ap₂ (λ m n. suc (span ws m (n + nodes))) (o.own_are ws) o.arms_are

span_zero : (ws : List ℕ) → span ws 0 0 ≡ 0
unfolding span
span_zero [] = refl
span_zero (w ∷ ws) = refl

-- Words that are passed.
span_suc : (w : ℕ) (ws : List ℕ) (passed nodes : ℕ) → span (w ∷ ws) (suc passed) nodes ≡ suc (span ws passed nodes)
unfolding span
span_suc w ws passed nodes = refl

span_over : (xs ws : List ℕ) (passed nodes : ℕ) → span (xs ++ ws) (length xs + passed) nodes ≡ length xs + span ws passed nodes
span_over [] ws passed nodes = ap (λ m. span ws m nodes) (let e : 0 + passed ≡ passed = omega arith in e) ∙ omega arith
span_over (x ∷ xs) ws passed nodes =
    let e : suc (length xs) + passed ≡ suc (length xs + passed) = omega arith in
    ap (λ m. span (x ∷ (xs ++ ws)) m nodes) e ∙ span_suc x (xs ++ ws) (length xs + passed) nodes ∙ omega (arith, span_over xs ws passed nodes)

-- A leaf, and a node of its word alone.
span_leaf : (w : ℕ) (ws : List ℕ) (nodes : ℕ) → Opens w 0 none_own → span (w ∷ ws) 0 (suc nodes) ≡ 1 + span ws 0 nodes
span_leaf w ws nodes o =
    let e : span ws 0 (0 + nodes) ≡ span ws 0 nodes = ap (span ws 0) (omega arith) in
    omega (arith, span_word w ws nodes 0 none_own o, e)

-- ---- conditions
abbrev SpanC : List ℕ → Condition → List ℕ → Type 0
SpanC us c vs = (nodes : ℕ) → span us 0 (suc nodes) ≡ words_c c + span vs 0 nodes

-- So many trees, one after the other.
module _ {A B : Type 0} (size_a : A → ℕ) (size_b : B → ℕ) (nil : B) (cons : A → B → B) (p : List ℕ → Parsed A)
    (size-nil : size_b nil ≡ 0) (size-cons : (a : A) (b : B) → size_b (cons a b) ≡ size_a a + size_b b)
    (spans : (us : List ℕ) → Holds (λ a vs. (nodes : ℕ) → span us 0 (suc nodes) ≡ size_a a + span vs 0 nodes) (p us)) where
  span_many : (count : ℕ) (us : List ℕ) → Holds (λ b vs. (nodes : ℕ) → span us 0 (count + nodes) ≡ size_b b + span vs 0 nodes) (many nil cons p count us)
  span_many zero us = fine (λ nodes. ap (span us 0) (let e : 0 + nodes ≡ nodes = omega arith in e) ∙ omega (arith, size-nil))
  span_many (suc count) us =
      then_holds (p us) (λ a vs. next (many nil cons p count vs) (λ b ts. got (cons a b) ts)) (spans us) (λ a vs h.
      then_holds (many nil cons p count vs) (λ b ts. got (cons a b) ts) (span_many count vs) (λ b ts g.
      fine (λ nodes.
      let e : suc count + nodes ≡ suc (count + nodes) = omega arith in
      ap (span us 0) e ∙ omega (arith, h (count + nodes), g nodes, size-cons a b))))

  -- The position after them.
  skipped_at : (count at r : ℕ) (us : List ℕ) (q : Parsed B) → r ≡ at + span us 0 count → Holds (λ b vs. (nodes : ℕ) → span us 0 (count + nodes) ≡ size_b b + span vs 0 nodes) q → Skipped size_b at q r
  unfolding Skipped
  skipped_at count at r us (refuse n) e h = tt
  skipped_at count at r us (got b vs) e h =
      let z : span us 0 (count + 0) ≡ span us 0 count = ap (span us 0) (omega arith) in
      omega (arith, h.it 0, z, span_zero vs)

  skipped_many : (count at r : ℕ) (us : List ℕ) → r ≡ at + span us 0 count → Skipped size_b at (many nil cons p count us) r
  skipped_many count at r us e = skipped_at count at r us (many nil cons p count us) e (span_many count us)

module _ (p : List ℕ → Parsed Condition) (spans : (us : List ℕ) → Holds (SpanC us) (p us)) where
  spans_all : (count : ℕ) (us : List ℕ) → Holds (λ cs vs. (nodes : ℕ) → span us 0 (count + nodes) ≡ words_cs cs + span vs 0 nodes) (many cnil ccons p count us)
  spans_all = span_many words_c words_cs cnil ccons p refl (λ a b. refl) spans

  span_node_c : (w : ℕ) (ws : List ℕ) (h : ConditionHead) → OpensC w h → Holds (SpanC (w ∷ ws)) (condition_node p h ws)
  unfolding condition_node
  span_node_c w ws Always o = fine (λ nodes. span_leaf w ws nodes o)
  span_node_c w ws Never o = fine (λ nodes. span_leaf w ws nodes o)
  span_node_c w ws (Has f) o = fine (λ nodes. span_leaf w ws nodes o)
  span_node_c w ws Not o =
      then_holds (p ws) (λ c vs. got (not_c c) vs) (spans ws) (λ c vs h. fine (λ nodes.
      let e : span ws 0 (1 + nodes) ≡ span ws 0 (suc nodes) = ap (span ws 0) (omega arith) in
      omega (arith, span_word w ws nodes 1 none_own o, e, h nodes)))
  span_node_c w ws (condition.All n) o =
      then_holds (many cnil ccons p n ws) (λ cs vs. got (all_c cs) vs) (spans_all n ws) (λ cs vs h. fine (λ nodes. omega (arith, span_word w ws nodes n none_own o, h nodes)))
  span_node_c w ws (condition.Any n) o =
      then_holds (many cnil ccons p n ws) (λ cs vs. got (any_c cs) vs) (spans_all n ws) (λ cs vs h. fine (λ nodes. omega (arith, span_word w ws nodes n none_own o, h nodes)))
  span_node_c w ws condition.BadKind o = nothing
  span_node_c w ws condition.BadField o = nothing

span_c : (d : ℕ) (us : List ℕ) → Holds (SpanC us) (read_condition d us)
span_c zero [] = nothing
span_c zero (w ∷ ws) = subst (Holds (SpanC (w ∷ ws))) (sym (condition_deep w ws)) nothing
span_c (suc d) [] = nothing
span_c (suc d) (w ∷ ws) =
    subst (Holds (SpanC (w ∷ ws))) (sym (condition_node_lem d w ws)) (span_node_c (λ vs. read_condition d vs) (λ vs. span_c d vs) w ws (condition_head w) (opens_c w))

-- ---- lists of fields
abbrev SpanL : {A : Type 0} → ℕ → ℕ → List ℕ → List A → List ℕ → Type 0
SpanL width k us xs vs = (length xs ≡ k) × ((passed nodes : ℕ) → span us (words_for (per_word width) k + passed) nodes ≡ words_for (per_word width) k + span vs passed nodes)

span_list : {A : Type 0} (e : A → ℕ) (chk : List A → ℕ → Parsed A) → ((s : List A) (b : ℕ) → Holds (λ a _. e a ≡ b) (chk s b)) → (width n k : ℕ) (us : List ℕ) → per_word width ≡ suc n →
    Holds (SpanL width k us) (read_list chk width k us)
span_list e chk same width n k us whole =
    weaker (read_list chk width k us) (λ xs vs h.
    let l : length (pack width (map e xs)) ≡ words_for (per_word width) k = length_pack width (map e xs) ∙ ap (words_for (per_word width)) (length-map xs e ∙ h.long) in (
      h.long,
      λ passed nodes.
          ap₂ (λ ts m. span ts (m + passed) nodes) (sym h.were) (sym l)
          ∙ span_over (pack width (map e xs)) vs passed nodes
          ∙ ap (λ m. m + span vs passed nodes) l,
    ))
    (same_list_lem e chk same width n k us whole)

span_obligations : (k : ℕ) (us : List ℕ) → Holds (SpanL obligation_bits k us) (read_list obligation obligation_bits k us)
span_obligations k us = span_list (λ o. o) obligation same_obligation obligation_bits 3 k us refl

span_facts : (k : ℕ) (us : List ℕ) → Holds (SpanL entry_bits k us) (read_list listed entry_bits k us)
span_facts k us = span_list (λ f. f) listed same_listed entry_bits 1 k us refl

-- ---- policies
abbrev SpanP : List ℕ → Policy Outcome → List ℕ → Type 0
SpanP us t vs = (nodes : ℕ) → span us 0 (suc nodes) ≡ words t + span vs 0 nodes

abbrev SpanD : List ℕ → Decision Outcome → List ℕ → Type 0
SpanD us d vs = (nodes : ℕ) → span us 0 (suc nodes) ≡ words_d d + span vs 0 nodes

module _ (pc : List ℕ → Parsed Condition) (spans-C : (us : List ℕ) → Holds (SpanC us) (pc us)) where
  span_grant : (w : ℕ) (ws : List ℕ) (shape : DenyShape) (n o : ℕ) → Opens w 1 (λ us. suc (words_for 4 n)) → Holds (SpanP (w ∷ ws)) (grant_node pc shape n o ws)
  unfolding grant_node
  span_grant w [] shape n o op = nothing
  span_grant w (w₂ ∷ ws) shape n o op =
      then_holds (mark (w₂ / 65536)) (λ l _. next (mark (w₂ % 65536)) (λ m _. next (read_list obligation obligation_bits n ws) (λ os vs. next (pc vs) (λ c us. got (made l m os c) us)))) (anything (mark (w₂ / 65536))) (λ l _ _.
      then_holds (mark (w₂ % 65536)) (λ m _. next (read_list obligation obligation_bits n ws) (λ os vs. next (pc vs) (λ c us. got (made l m os c) us))) (anything (mark (w₂ % 65536))) (λ m _ _.
      then_holds (read_list obligation obligation_bits n ws) (λ os vs. next (pc vs) (λ c us. got (made l m os c) us)) (span_obligations n ws) (λ os vs h.
      then_holds (pc vs) (λ c us. got (made l m os c) us) (spans-C vs) (λ c us g.
      fine (λ nodes.
      let e₁ = span_word w (w₂ ∷ ws) nodes 1 (λ ts. suc (words_for 4 n)) op in
      let e₂ = span_suc w₂ ws (words_for 4 n) (1 + nodes) in
      let e₀ : span ws (words_for 4 n) (1 + nodes) ≡ span ws (words_for 4 n + 0) (1 + nodes) = ap (λ m. span ws m (1 + nodes)) (omega arith) in
      let e₃ : span vs 0 (1 + nodes) ≡ span vs 0 (suc nodes) = ap (span vs 0) (omega arith) in
      let e₄ : quads os ≡ words_for 4 n = ap (words_for 4) h.0 in
      omega (arith, e₁, e₂, e₀, h.1 0 (1 + nodes), e₃, g nodes, e₄))))))
    where
      made : Option ℕ → Option ℕ → List ℕ → Condition → Policy Outcome
      made l m os c = grant (record { outcome = o; obligations = os; label = l; reason = m; shape = shape_of (bit_of shape) }) c

span_permit_trace : (w : ℕ) (ws : List ℕ) (n o : ℕ) → Opens w 0 (λ us. suc (words_for 4 n + words_for 2 (get_or us 0 0 % 4096))) → Holds (SpanD (w ∷ ws)) (permit_trace_node n o ws)
unfolding permit_trace_node
span_permit_trace w [] n o op = nothing
span_permit_trace w (w₂ ∷ ws) n o op =
    then_holds (mark (w₂ / 65536)) (λ l _. unless (ltb f 4096) 8 (next (read_list obligation obligation_bits n ws) (λ os vs. next (read_list listed entry_bits f vs) (λ fs us. got (made l os fs) us)))) (anything (mark (w₂ / 65536))) (λ l _ _.
    if_holds (ltb f 4096) 8 (next (read_list obligation obligation_bits n ws) (λ os vs. next (read_list listed entry_bits f vs) (λ fs us. got (made l os fs) us))) (λ t.
    then_holds (read_list obligation obligation_bits n ws) (λ os vs. next (read_list listed entry_bits f vs) (λ fs us. got (made l os fs) us)) (span_obligations n ws) (λ os vs h.
    then_holds (read_list listed entry_bits f vs) (λ fs us. got (made l os fs) us) (span_facts f vs) (λ fs us g.
    fine (λ nodes.
    let small : f < 4096 = ltb-true f 4096 t in
    let same : w₂ % 4096 ≡ f = omega arith in
    let m : words_for 2 (w₂ % 4096) ≡ words_for 2 f + 0 = ap (words_for 2) same ∙ omega arith in
    let e₁ = span_word w (w₂ ∷ ws) nodes 0 (λ ts. suc (words_for 4 n + words_for 2 (get_or ts 0 0 % 4096))) op in
    let e₂ = span_suc w₂ ws (words_for 4 n + words_for 2 (w₂ % 4096)) (0 + nodes) in
    let e₃ = h.1 (words_for 2 (w₂ % 4096)) (0 + nodes) in
    let e₄ : span vs (words_for 2 (w₂ % 4096)) (0 + nodes) ≡ span vs (words_for 2 f + 0) nodes = ap₂ (λ a b. span vs a b) m (omega arith) in
    let e₅ = g.1 0 nodes in
    let e₆ : quads os ≡ words_for 4 n = ap (words_for 4) h.0 in
    let e₇ : pairs fs ≡ words_for 2 f = ap (words_for 2) g.0 in
    omega (arith, e₁, e₂, e₃, e₄, e₅, e₆, e₇))))))
  where
    f : ℕ
    f = w₂ % 65536

    made : Option ℕ → List ℕ → List ℕ → Decision Outcome
    made l os fs = permits (record { outcome = o; obligations = os; label = l; facts = fs })

span_deny_trace : (w : ℕ) (ws : List ℕ) (shape : DenyShape) (denied : prelude.Option ℕ) → Opens w 0 (λ us. suc (suc (words_for 2 (get_or us 1 0 % 4096)))) → Holds (SpanD (w ∷ ws)) (deny_trace_node shape denied ws)
unfolding deny_trace_node
span_deny_trace w [] shape denied op = nothing
span_deny_trace w (w₂ ∷ []) shape denied op =
    then_holds (mark (w₂ / 65536)) (λ l _. next (mark (w₂ % 65536)) (λ m _. refuse 6)) (anything (mark (w₂ / 65536))) (λ l _ _.
    then_holds (mark (w₂ % 65536)) (λ m _. refuse 6) (anything (mark (w₂ % 65536))) (λ m _ _. nothing))
span_deny_trace w (w₂ ∷ (w₃ ∷ ws)) shape denied op =
    then_holds (mark (w₂ / 65536)) (λ l _. next (mark (w₂ % 65536)) (λ m _. unless (ltb w₃ 4096) 8 (next (read_list listed entry_bits w₃ ws) (λ fs us. got (made l m fs) us)))) (anything (mark (w₂ / 65536))) (λ l _ _.
    then_holds (mark (w₂ % 65536)) (λ m _. unless (ltb w₃ 4096) 8 (next (read_list listed entry_bits w₃ ws) (λ fs us. got (made l m fs) us))) (anything (mark (w₂ % 65536))) (λ m _ _.
    if_holds (ltb w₃ 4096) 8 (next (read_list listed entry_bits w₃ ws) (λ fs us. got (made l m fs) us)) (λ t.
    then_holds (read_list listed entry_bits w₃ ws) (λ fs us. got (made l m fs) us) (span_facts w₃ ws) (λ fs us g.
    fine (λ nodes.
    let small : w₃ < 4096 = ltb-true w₃ 4096 t in
    let same : w₃ % 4096 ≡ w₃ = omega arith in
    let k : words_for 2 (w₃ % 4096) ≡ words_for 2 w₃ + 0 = ap (words_for 2) same ∙ omega arith in
    let e₁ = span_word w (w₂ ∷ (w₃ ∷ ws)) nodes 0 (λ ts. suc (suc (words_for 2 (get_or ts 1 0 % 4096)))) op in
    let e₂ = span_suc w₂ (w₃ ∷ ws) (suc (words_for 2 (w₃ % 4096))) (0 + nodes) in
    let e₃ = span_suc w₃ ws (words_for 2 (w₃ % 4096)) (0 + nodes) in
    let e₄ : span ws (words_for 2 (w₃ % 4096)) (0 + nodes) ≡ span ws (words_for 2 w₃ + 0) nodes = ap₂ (λ a b. span ws a b) k (omega arith) in
    let e₅ = g.1 0 nodes in
    let e₆ : pairs fs ≡ words_for 2 w₃ = ap (words_for 2) g.0 in
    omega (arith, e₁, e₂, e₃, e₄, e₅, e₆))))))
  where
    made : Option ℕ → Option ℕ → List ℕ → Decision Outcome
    made l m fs = denies (record { denied = denied_by denied; facts = fs; label = l; reason = m; shape = shape_of (bit_of shape) })

module _ (pc : List ℕ → Parsed Condition) (spans-C : (us : List ℕ) → Holds (SpanC us) (pc us)) (p : List ℕ → Parsed (Policy Outcome)) (spans : (us : List ℕ) → Holds (SpanP us) (p us)) where
  spans_p : (count : ℕ) (us : List ℕ) → Holds (λ ts vs. (nodes : ℕ) → span us 0 (count + nodes) ≡ wordss ts + span vs 0 nodes) (many pnil pcons p count us)
  spans_p = span_many words wordss pnil pcons p refl (λ a b. refl) spans

  span_node_p : (w : ℕ) (ws : List ℕ) (h : PolicyHead) → OpensP w h → Holds (SpanP (w ∷ ws)) (policy_node pc p h ws)
  unfolding policy_node
  span_node_p w ws (Permit o) op = fine (λ nodes. span_leaf w ws nodes op)
  span_node_p w ws Deny op = fine (λ nodes. span_leaf w ws nodes op)
  span_node_p w ws (Grant shape n o) op = span_grant pc spans-C w ws shape n o op.0
  span_node_p w ws (policy.All n) op =
      then_holds (many pnil pcons p n ws) (λ ts vs. got (all ts) vs) (spans_p n ws) (λ ts vs h. fine (λ nodes. omega (arith, span_word w ws nodes n none_own op, h nodes)))
  span_node_p w ws (policy.Any n) op =
      then_holds (many pnil pcons p n ws) (λ ts vs. got (any ts) vs) (spans_p n ws) (λ ts vs h. fine (λ nodes. omega (arith, span_word w ws nodes n none_own op, h nodes)))
  span_node_p w ws OrElse op =
      then_holds (p ws) (λ a vs. next (p vs) (λ b us. got (or_else a b) us)) (spans ws) (λ a vs h.
      then_holds (p vs) (λ b us. got (or_else a b) us) (spans vs) (λ b us g. fine (λ nodes.
      let e : span ws 0 (2 + nodes) ≡ span ws 0 (suc (suc nodes)) = ap (span ws 0) (omega arith) in
      omega (arith, span_word w ws nodes 2 none_own op, e, h (suc nodes), g nodes))))
  span_node_p w ws (PermitWithTrace n o) op = then_holds (permit_trace_node n o ws) (λ d vs. got (stored d) vs) (span_permit_trace w ws n o op.0) (λ d vs h. fine h)
  span_node_p w ws (DenyWithTrace shape denied) op = then_holds (deny_trace_node shape denied ws) (λ d vs. got (stored d) vs) (span_deny_trace w ws shape denied op) (λ d vs h. fine h)
  span_node_p w ws policy.BadKind op = nothing
  span_node_p w ws policy.BadField op = nothing

span_p : (res : Bool) (d : ℕ) (us : List ℕ) → Holds (SpanP us) (read_policy res d us)
span_p res zero [] = nothing
span_p res zero (w ∷ ws) = subst (Holds (SpanP (w ∷ ws))) (sym (policy_deep res w ws)) nothing
span_p res (suc d) [] = nothing
span_p res (suc d) (w ∷ ws) =
    subst (Holds (SpanP (w ∷ ws))) (sym (policy_node_lem res d w ws))
    (span_node_p (λ vs. read_condition d vs) (λ vs. span_c d vs) (λ vs. read_policy res d vs) (λ vs. span_p res d vs) w ws (policy_head w res) (opens_p res w))

-- ---- the position after so many conditions, or policies, that read
pub skipped_conditions : (words : List ℕ) (at count r : ℕ) → r ≡ at + span (drop at words) 0 count → SkippedConditions words at count r
skipped_conditions words at count r e = record {
  onward = omega arith;
  ends = λ depth.
      weaker (many cnil ccons (read_condition depth) count (drop at words))
      (λ cs vs h. let z : span (drop at words) 0 (count + 0) ≡ span (drop at words) 0 count = ap (span (drop at words) 0) (omega arith) in omega (arith, h 0, z, span_zero vs))
      (spans_all (λ us. read_condition depth us) (λ us. span_c depth us) count (drop at words));
}

pub skipped_policies : (depth : ℕ) (res : Bool) (count at r : ℕ) (us : List ℕ) → r ≡ at + span us 0 count → Skipped wordss at (many pnil pcons (read_policy res depth) count us) r
skipped_policies depth res = skipped_many words wordss pnil pcons (read_policy res depth) refl (λ a b. refl) (span_p res depth)

-- ---- the loop: one node more, and its ends
span_passed : (ws : List ℕ) (passed nodes : ℕ) → passed ≤ length ws → span ws passed nodes ≡ passed + span (drop passed ws) 0 nodes
span_passed ws zero nodes h = omega arith
span_passed [] (suc passed) nodes h = let z : ⊥ = omega arith in absurd z
span_passed (w ∷ ws) (suc passed) nodes h = span_suc w ws passed nodes ∙ omega (arith, span_passed ws passed nodes (omega arith))

-- With as many passed or open as words are left, all words are theirs.
span_full : (ws : List ℕ) (passed nodes : ℕ) → length ws ≤ passed + nodes → span ws passed nodes ≡ length ws
unfolding span
span_full [] passed nodes h = refl
span_full (w ∷ ws) zero zero h = absurd (omega arith)
span_full (w ∷ ws) zero (suc nodes) h = ap suc (span_full ws (own_of w ws) (arms_of w + nodes) (omega arith))
span_full (w ∷ ws) (suc passed) nodes h = ap suc (span_full ws passed nodes (omega arith))

module _ (ws : List ℕ) (at : ℕ) where
  one_node : (nodes a own : ℕ) → at < length ws → (nodes ≡ 0 → ⊥) → a ≡ arms_of (get_or ws at 0) → own ≡ own_of (get_or ws at 0) (drop (at + 1) ws) →
      at + 1 + span (drop (at + 1) ws) own (nodes - 1 + a) ≡ at + span (drop at ws) 0 nodes
  unfolding span
  one_node zero a own lt f e g = absurd (f refl)
  one_node (suc nodes) a own lt f e g =
      let d : span (drop at ws) 0 (suc nodes) ≡ suc (span (drop (at + 1) ws) (own_of (get_or ws at 0) (drop (at + 1) ws)) (arms_of (get_or ws at 0) + nodes)) = ap (λ us. span us 0 (suc nodes)) (word_at ws at lt) in
      let n : suc nodes - 1 + a ≡ arms_of (get_or ws at 0) + nodes = omega arith in
      let s : span (drop (at + 1) ws) own (suc nodes - 1 + a) ≡ span (drop (at + 1) ws) (own_of (get_or ws at 0) (drop (at + 1) ws)) (arms_of (get_or ws at 0) + nodes) = ap₂ (λ x y. span (drop (at + 1) ws) x y) g n in
      omega (arith, d, s)

  pub goes_on : (nodes a own : ℕ) → at < length ws → (nodes ≡ 0 → ⊥) → a ≡ arms_of (get_or ws at 0) → own ≡ own_of (get_or ws at 0) (drop (at + 1) ws) → at + 1 + own ≤ length ws →
      at + 1 + own + span (drop (at + 1 + own) ws) 0 (nodes - 1 + a) ≡ at + span (drop at ws) 0 nodes
  goes_on nodes a own lt f e g h =
      let p = span_passed (drop (at + 1) ws) own (nodes - 1 + a) (omega (arith, length-drop (at + 1) ws)) in
      let d : span (drop own (drop (at + 1) ws)) 0 (nodes - 1 + a) ≡ span (drop (at + 1 + own) ws) 0 (nodes - 1 + a) = ap (λ us. span us 0 (nodes - 1 + a)) (drop-drop own (at + 1) ws) in
      omega (arith, p, d, one_node nodes a own lt f e g)

  pub runs_out : (nodes a own : ℕ) → at < length ws → (nodes ≡ 0 → ⊥) → a ≡ arms_of (get_or ws at 0) → own ≡ own_of (get_or ws at 0) (drop (at + 1) ws) → length ws < at + 1 + own →
      length ws ≡ at + span (drop at ws) 0 nodes
  runs_out nodes a own lt f e g h =
      let l = length-drop (at + 1) ws in
      let p = span_full (drop (at + 1) ws) own (nodes - 1 + a) (omega arith) in
      omega (arith, p, one_node nodes a own lt f e g)

  pub all_words : (nodes : ℕ) → at ≤ length ws → length ws - at ≤ nodes → length ws ≡ at + span (drop at ws) 0 nodes
  all_words nodes h few = let l = length-drop at ws in omega (arith, span_full (drop at ws) 0 nodes (omega arith))

  pub no_word_left : (nodes : ℕ) → length ws ≤ at → at ≡ at + span (drop at ws) 0 nodes
  unfolding span
  no_word_left nodes h = let z : span (drop at ws) 0 nodes ≡ 0 = ap (λ us. span us 0 nodes) (no_word ws at h) in omega arith

  pub no_node_left : (nodes : ℕ) → nodes ≡ 0 → at ≡ at + span (drop at ws) 0 nodes
  no_node_left nodes e = let z : span (drop at ws) 0 nodes ≡ 0 = ap (span (drop at ws) 0) e ∙ span_zero (drop at ws) in omega arith

pub ruleset skips = (goes_on, runs_out, all_words, no_word_left, no_node_left)
