-- The facts of a policy, from its own and those of its arms. Assumes nothing.
use Rattle.std.specs.Prelude as prelude
use mathlib.Core.Path.{◌≡◌, refl, sym, ◌∙◌, ap, subst}
use mathlib.Core.Bool.{Bool, true, false, cond}
use mathlib.Core.List.{List, [], ◌∷◌}
use Prim.Native.Nat.{ℕ, suc, ◌+◌, ◌/◌, ◌%◌, ◌≤◌, ◌<◌}
use native.Mathlib.Numerals.{add-one}
use native.Mathlib.Omega.{arith}
use borrow.Author.Tests.{ltb-true}
use lib.Dec.{eqb, ltb, leb}
use lib.ListN.{length, drop, get_or}
use lib.Seq.{drop-cons, drop-drop}
use Rattle.model.specs.Fields.{words_for}
use Rattle.model.specs.Condition.{Condition, names_c}
use Rattle.model.specs.Decision.{Decision}
use Rattle.model.specs.Policy.{stored, names}
use Rattle.model.specs.Writing.{obligation_bits, entry_bits}
use Rattle.model.specs.Reading.{Parsed, refuse, got, next, read_list, obligation, listed, mark, levels, read_condition, most_obligations}
use Rattle.model.specs.Products.{Outcome, read_policy, policy_at}
use Rattle.laws.proofs.FieldLaws.{Holds, fine, nothing, if_holds, weaker, then_holds, anything}
use Rattle.laws.specs.Size.{words_c, words_d, words}
use Rattle.laws.proofs.ReadForm.{read_obligations, read_facts}
use Rattle.laws.proofs.NodeLaws.{another_holds}
use Rattle.policy_model.specs.declared.DenyShape.{DenyShape}
use Rattle.policy_model.specs.declared.PolicyHead.{PolicyHead}
use Rattle.policy_model.specs.declared.PolicyHead.TheVariants.{Grant}
use Rattle.policy_model.specs.declared.PolicyHead.TheVariants as policy
use Rattle.policy_model.specs.Heads.{shape_by, permit_trace_node, deny_trace_node, grant_node, grant_head, policy_head, policy_node}
use Rattle.policy_model.specs.HeadLaws.{head_cases, policy_node_lem}
use Rattle.policy_model.specs.Span.{own_of}
use Rattle.policy_model.proofs.Skipping.{permit_owns, deny_owns}
use Rattle.required.specs.Sets.{Walked, Collected}
use Rattle.required.specs.Nodes.{OwnFacts}
use Rattle.required.proofs.Arms.{grown_none}

-- ---- what stands before a policy's arms
-- The words after the one at an index.
module _ (sheet : List ℕ) (at w : ℕ) (vs : List ℕ) (e : drop at sheet ≡ w ∷ vs) where
  words_after : vs ≡ drop (at + 1) sheet
  words_after = ap (drop 1) (sym e) ∙ drop-drop 1 at sheet

-- A grant: two words, its obligations, its condition.
module _ (sheet : List ℕ) (at end n : ℕ) (s t : List ℕ) where
  collected_of : {A : Type 0} (size : A → ℕ) (named : ℕ → A → Bool) (from : ℕ) (q : Parsed A) → Holds (λ a vs. Walked from (size a) end (λ f. named f a) s t) q → Collected size named from s t q end
  unfolding Collected
  collected_of size named from (refuse k) h = tt
  collected_of size named from (got a vs) h = h.it

  holds_of : {A : Type 0} (size : A → ℕ) (named : ℕ → A → Bool) (from : ℕ) (q : Parsed A) → Collected size named from s t q end → Holds (λ a vs. Walked from (size a) end (λ f. named f a) s t) q
  unfolding Collected
  holds_of size named from (refuse k) c = nothing
  holds_of size named from (got a vs) c = fine c

  grant_facts : (pc : List ℕ → Parsed Condition) (shape : DenyShape) (o : ℕ) → Collected words_c names_c (at + 2 + (n + 3) / 4) s t (pc (drop (at + 2 + (n + 3) / 4) sheet)) end →
      Collected words names at s t (grant_node pc shape n o (drop (at + 1) sheet)) end
  unfolding grant_node
  grant_facts pc shape o c =
      let start = at + 2 + (n + 3) / 4 in
      collected_of words names at (grant_node pc shape n o (drop (at + 1) sheet))
      (another_holds (drop (at + 1) sheet) _ (λ w vs ew.
      then_holds (mark (w / 65536)) _ (anything (mark (w / 65536))) (λ l _ _.
      then_holds (mark (w % 65536)) _ (anything (mark (w % 65536))) (λ m _ _.
      then_holds (read_list obligation obligation_bits n vs) _ (read_obligations n vs) (λ os us r.
      let e : us ≡ drop start sheet =
      sym r.left ∙ ap (drop ((n + 3) / 4)) (words_after sheet (at + 1) w vs ew) ∙ drop-drop ((n + 3) / 4) (at + 1 + 1) sheet
      ∙ ap (λ k. drop k sheet) (let k : at + 1 + 1 + (n + 3) / 4 ≡ start = omega arith in k) in
      let l : length os ≡ n = r.long in
      then_holds (pc us) _ (holds_of words_c names_c start (pc us) (subst (λ x. Collected words_c names_c start s t (pc x) end) (sym e) c)) (λ c _ v.
      fine (record { ends = omega (arith, v.ends); adds = v.adds })))))))

-- Nodes 12 and 13: their words are counted by what their lists hold.
permit_trace_long : (n o : ℕ) (ws : List ℕ) → Holds (λ d vs. words_d d ≡ 2 + (words_for 4 n + words_for 2 (get_or ws 0 0 % 4096))) (permit_trace_node n o ws)
unfolding permit_trace_node
permit_trace_long n o [] = nothing
permit_trace_long n o (w ∷ vs) =
    then_holds (mark (w / 65536)) _ (anything (mark (w / 65536))) (λ l _ _.
    if_holds (ltb (w % 65536) 4096) 8 _ (λ t.
    then_holds (read_list obligation obligation_bits n vs) _ (read_obligations n vs) (λ os us r.
    then_holds (read_list listed entry_bits (w % 65536) us) _ (read_facts (w % 65536) us) (λ fs _ k.
    let few : w % 65536 < 4096 = ltb-true (w % 65536) 4096 t in
    let lf = k.long in
    let lo : length os ≡ n = r.long in
    fine (omega arith)))))

deny_trace_long : (shape : DenyShape) (denied : prelude.Option ℕ) (ws : List ℕ) → Holds (λ d vs. words_d d ≡ 3 + words_for 2 (get_or ws 1 0 % 4096)) (deny_trace_node shape denied ws)
unfolding deny_trace_node
deny_trace_long shape denied [] = nothing
deny_trace_long shape denied (w ∷ vs) =
    then_holds (mark (w / 65536)) _ (anything (mark (w / 65536))) (λ l _ _.
    then_holds (mark (w % 65536)) _ (anything (mark (w % 65536))) (λ m _ _.
    another_holds vs _ (λ n us en.
    let counted : get_or (w ∷ vs) 1 0 ≡ n = ap (λ l. get_or (w ∷ l) 1 0) en in
    if_holds (ltb n 4096) 8 _ (λ t.
    then_holds (read_list listed entry_bits n us) _ (read_facts n us) (λ fs _ k.
    let few : n < 4096 = ltb-true n 4096 t in
    let lf = k.long in
    fine (omega arith))))))

-- They name nothing.
stored_facts : (at end : ℕ) (s : List ℕ) (q : Parsed (Decision Outcome)) → Holds (λ d vs. end ≡ at + words_d d) q → Collected words names at s s (next q (λ d vs. got (stored d) vs)) end
unfolding Collected
stored_facts at end s (refuse k) h = tt
stored_facts at end s (got d vs) h = record { ends = h.it; adds = grown_none s }

-- ---- what stands at `at`
pub policy_here : (sheet : List ℕ) (at : ℕ) → at < length sheet →
    policy_at sheet at levels
    ≡ policy_node (λ vs. read_condition 31 vs) (λ vs. read_policy true 31 vs) (policy_head (get_or sheet at 0) true) (drop (at + 1) sheet)
policy_here sheet at h = rw (add-one, drop-cons sheet at 0) (policy_node_lem true 31 (get_or sheet at 0) (drop (suc at) sheet))

-- ---- what stands before the arms, by the kind of the first word
module _ (pc : List ℕ → Parsed Condition) (sheet : List ℕ) (at : ℕ) (s : List ℕ) where
  one_word : Walked at 1 (at + 1) (λ f. false) s s
  one_word = record { ends = refl; adds = grown_none s }

  module _ (t : List ℕ) (end : ℕ) where
    -- A field that is not as it must be: nothing is said.
    own_if : (b : Bool) (h : PolicyHead) → OwnFacts pc h (drop (at + 1) sheet) at s t end → OwnFacts pc (cond b h policy.BadField) (drop (at + 1) sheet) at s t end
    unfolding OwnFacts
    own_if true h v = v
    own_if false h v = tt

  module _ (w : ℕ) where
    pub own_word : w / 268435456 < 12 → (w / 268435456 ≡ 8 → ⊥) → OwnFacts pc (policy_head w true) (drop (at + 1) sheet) at s s (at + 1)
    unfolding OwnFacts Collected policy_node
    own_word h f =
        head_cases (λ q. OwnFacts pc q (drop (at + 1) sheet) at s s (at + 1)) w true (record {
          bad_kind_is = tt;
          bad_field_is = tt;
          permit_is = λ _. one_word;
          deny_is = λ _. one_word;
          grant_is = λ e. absurd (f e);
          all_is = λ _ _. one_word;
          any_is = λ _ _. one_word;
          or_else_is = λ _. one_word;
          permit_trace_is = λ e _. absurd (omega arith);
          deny_trace_is = λ e _ _ _. absurd (omega arith);
        })

    pub own_grant : (t : List ℕ) (start end : ℕ) → w / 268435456 ≡ 8 → start ≡ at + (2 + (w / 1048576 % 128 + 3) / 4) →
        Collected words_c names_c start s t (pc (drop start sheet)) end → OwnFacts pc (policy_head w true) (drop (at + 1) sheet) at s t end
    unfolding OwnFacts policy_node policy_head grant_head
    own_grant t start end e f c =
        let r = w % 268435456 in
        let n = r / 1048576 % 128 in
        let count : w / 1048576 % 128 ≡ n = omega arith in
        let same : start ≡ at + 2 + (n + 3) / 4 = omega arith in
        let shape = shape_by (eqb (r / 134217728) 1) in
        let o = r % 65536 in
        let g : OwnFacts pc (Grant shape n o) (drop (at + 1) sheet) at s t end =
        grant_facts sheet at end n s t pc shape o (subst (λ k. Collected words_c names_c k s t (pc (drop k sheet)) end) same c) in
        rw e (own_if t end (leb n most_obligations) _ (own_if t end (eqb (r / 65536 % 16) 0) (Grant shape n o) g))

    -- Kinds 12 and 13; from 14 on there is no policy.
    pub own_stored : (own : ℕ) → own ≡ own_of w (drop (at + 1) sheet) → 12 ≤ w / 268435456 → OwnFacts pc (policy_head w true) (drop (at + 1) sheet) at s s (at + 1 + own)
    unfolding OwnFacts policy_node
    own_stored own o h =
        let ws = drop (at + 1) sheet in
        let n = w % 268435456 / 1048576 % 128 in
        head_cases (λ q. q ≡ policy_head w true → OwnFacts pc q ws at s s (at + 1 + own)) w true (record {
          bad_kind_is = λ _. tt;
          bad_field_is = λ _. tt;
          permit_is = λ e _. absurd (omega arith);
          deny_is = λ e _. absurd (omega arith);
          grant_is = λ e _. absurd (omega arith);
          all_is = λ e _ _. absurd (omega arith);
          any_is = λ e _ _. absurd (omega arith);
          or_else_is = λ e _. absurd (omega arith);
          permit_trace_is = λ _ _ here.
              stored_facts at (at + 1 + own) s (permit_trace_node n _ ws) (weaker (permit_trace_node n _ ws) (λ d vs l. omega (arith, o, permit_owns true w n _ ws here)) (permit_trace_long n _ ws));
          deny_trace_is = λ _ _ denied _ here.
              stored_facts at (at + 1 + own) s (deny_trace_node _ denied ws) (weaker (deny_trace_node _ denied ws) (λ d vs l. omega (arith, o, deny_owns true w _ denied ws here)) (deny_trace_long _ denied ws));
        })
        refl

pub ruleset own_words = (own_word, own_grant, own_stored)
