-- What a policy's first word says of the tree that reads there: its kind and the obligation of the node itself; and a tree read as a flat list of nodes.
-- Assumes nothing.
use Rattle.std.specs.Prelude as prelude
use mathlib.Core.Path.{◌≡◌, refl, sym, ◌∙◌, ap, ap₂, subst}
use mathlib.Core.Bool.{Bool, true, false, cond, ◌||◌, ◌&&◌, or-false, or_assoc}
use mathlib.Core.List.{List, [], ◌∷◌}
use Prim.Native.Nat.{ℕ, zero, suc, ◌+◌, ◌/◌, ◌%◌, ◌<◌}
use native.Mathlib.Omega.{arith}
use borrow.Author.Tests.{ne_eqb, ltb-true}
use lib.Dec.{eqb, ltb, leb}
use lib.ListN.{length, drop, get_or}
use lib.Seq.{drop-drop}
use Rattle.model.specs.Fields.{words_for}
use Rattle.model.specs.Condition.{Condition, cnil, ccons}
use Rattle.model.specs.Decision.{permits, denies}
use Rattle.model.specs.Policy.{Policy, permit, deny, grant, all, any, or_else, stored, Policies, pnil, pcons}
use Rattle.model.specs.Writing.{obligation_bits, entry_bits}
use Rattle.model.specs.Reading.{Parsed, refuse, got, next, many, read_list, obligation, listed, mark, kind_of, node_c, read_condition, obligation_count}
use Rattle.model.specs.Required.{some?, obliges, obligess}
use Rattle.model.specs.Products.{Outcome, last_kind, read_policy}
use Rattle.laws.proofs.FieldLaws.{Holds, fine, nothing, if_holds, weaker, then_holds, held_at}
use Rattle.laws.proofs.ReadForm.{ReadNumbers, read_obligations, read_facts}
use Rattle.laws.proofs.NodeLaws.{another_holds, count_of}
use Rattle.policy_model.specs.declared.DenyShape.{DenyShape}
use Rattle.policy_model.specs.Heads.{policy_node, grant_node, permit_trace_node, deny_trace_node}
use Rattle.policy_model.specs.HeadLaws.{head_cases, policy_node_lem}
use Rattle.policy_model.specs.Span.{own_by, own_of}
use Rattle.policy_model.proofs.Records.{next_is}
use Rattle.questions.specs.Nodes.{kind_at, obligation_at, words_oblige}
use Rattle.questions.specs.Answers.{Stands}
use Rattle.questions.proofs.Walking.{oblige_pass, oblige_first, none_after, has_one, goes_on}

-- ---- a node and its arms
abbrev pub own : Policy Outcome → Bool
own (permit o) = false
own deny = false
own (grant g c) = some? g.obligations
own (all ts) = false
own (any ts) = false
own (or_else a b) = false
own (stored (permits p)) = some? p.obligations
own (stored (denies d)) = false

abbrev pub arms : Policy Outcome → Policies Outcome
arms (permit o) = pnil
arms deny = pnil
arms (grant g c) = pnil
arms (all ts) = ts
arms (any ts) = ts
arms (or_else a b) = pcons a (pcons b pnil)
arms (stored d) = pnil

pub own_or_arms : (t : Policy Outcome) → obliges t ≡ (own t || obligess (arms t))
own_or_arms (permit o) = refl
own_or_arms deny = refl
own_or_arms (grant g c) = sym (or-false (some? g.obligations))
own_or_arms (all ts) = refl
own_or_arms (any ts) = refl
own_or_arms (or_else a b) = ap (λ x. obliges a || x) (sym (or-false (obliges b)))
own_or_arms (stored (permits p)) = sym (or-false (some? p.obligations))
own_or_arms (stored (denies d)) = refl

-- The tree t that reads of w and ws, up to vs: its kind, its own obligation, and what the words after its own say.
pub record Node (w : ℕ) (ws : List ℕ) (t : Policy Outcome) (vs : List ℕ) : Type 0 where
  pub kind_is : w / 268435456 ≡ kind_at t
  pub own_is : obligation_at w ≡ own t
  pub rest_is : words_oblige ws (own_of w ws) ≡ (obligess (arms t) || words_oblige vs 0)

-- The words of a tree that was read, and those after it.
abbrev pub Obliges : List ℕ → Policy Outcome → List ℕ → Type 0
Obliges us t vs = words_oblige us 0 ≡ (obliges t || words_oblige vs 0)

node_obliges : (w : ℕ) (ws : List ℕ) (t : Policy Outcome) (vs : List ℕ) → Node w ws t vs → Obliges (w ∷ ws) t vs
node_obliges w ws t vs n =
    oblige_first w ws
    ∙ ap₂ (λ a b. a || b) n.own_is n.rest_is
    ∙ sym (or_assoc (own t) (obligess (arms t)) (words_oblige vs 0))
    ∙ ap (λ b. b || words_oblige vs 0) (sym (own_or_arms t))

-- ---- parts that were read
after_word : (n w : ℕ) (ws us : List ℕ) → ws ≡ w ∷ us → words_oblige ws (suc n) ≡ words_oblige us n
unfolding words_oblige
after_word n w ws us e = ap (λ l. words_oblige l (suc n)) e

after_list : (n : ℕ) (us vs : List ℕ) → drop n us ≡ vs → words_oblige us n ≡ words_oblige vs 0
after_list n us vs e = oblige_pass us n ∙ ap (λ l. words_oblige l 0) e

after_lists : (n m : ℕ) (us vs xs : List ℕ) → drop n us ≡ vs → drop m vs ≡ xs → words_oblige us (n + m) ≡ words_oblige xs 0
after_lists n m us vs xs e f = after_list (n + m) us xs (sym (drop-drop m n us) ∙ ap (drop m) e ∙ f)

-- ---- by the kind
obligation_by : (w k : ℕ) → w / 268435456 ≡ k → obligation_at w ≡ cond (eqb (w / 1048576 % 128) 0) false (eqb k 8 || eqb k 12)
unfolding obligation_at
obligation_by w k e = ap (λ n. cond (eqb (w / 1048576 % 128) 0) false (eqb n 8 || eqb n 12)) e

own_by_lem : (w k : ℕ) (ws : List ℕ) → w / 268435456 ≡ k → own_of w ws ≡ get_or (own_by (w / 1048576 % 128) ws) k 0
unfolding own_of
own_by_lem w k ws e = ap (λ n. get_or (own_by (w / 1048576 % 128) ws) n 0) e

neither : (b : Bool) → cond b false false ≡ false
neither true = refl
neither false = refl

none_at : (w k : ℕ) → w / 268435456 ≡ k → (eqb k 8 || eqb k 12) ≡ false → obligation_at w ≡ false
none_at w k e f = obligation_by w k e ∙ ap (λ b. cond (eqb (w / 1048576 % 128) 0) false b) f ∙ neither (eqb (w / 1048576 % 128) 0)

some_of_lem : (os : List ℕ) (n : ℕ) → length os ≡ n → cond (eqb n 0) false true ≡ some? os
some_of_lem [] n e = ap (λ m. cond (eqb m 0) false true) (sym e)
some_of_lem (o ∷ os) n e = ap (λ b. cond b false true) (ne_eqb n 0 (λ z. let y : ⊥ = omega arith in y))

-- ---- conditions have no obligations
module _ (p : List ℕ → Parsed Condition) (passed : (us : List ℕ) → Holds (λ c vs. words_oblige us 0 ≡ words_oblige vs 0) (p us)) where
  all_passed : (n : ℕ) (us : List ℕ) → Holds (λ cs vs. words_oblige us 0 ≡ words_oblige vs 0) (many cnil ccons p n us)
  all_passed zero us = fine refl
  all_passed (suc n) us = then_holds (p us) _ (passed us) (λ c vs h. then_holds (many cnil ccons p n vs) _ (all_passed n vs) (λ cs xs g. fine (h ∙ g)))

  module _ (w : ℕ) (ws : List ℕ) where
    one_word : (k : ℕ) → w / 268435456 ≡ k → (eqb k 8 || eqb k 12) ≡ false → get_or (own_by (w / 1048576 % 128) ws) k 0 ≡ 0 → words_oblige (w ∷ ws) 0 ≡ words_oblige ws 0
    one_word k e f z = oblige_first w ws ∙ ap₂ (λ a b. a || words_oblige ws b) (none_at w k e f) (own_by_lem w k ws e ∙ z)

    condition_passed : (k : ℕ) → w / 268435456 ≡ k → Holds (λ c vs. words_oblige (w ∷ ws) 0 ≡ words_oblige vs 0) (node_c p k (w % 268435456) ws)
    condition_passed zero e = if_holds (eqb (w % 268435456) 0) 8 _ (λ _. fine (one_word 0 e refl refl))
    condition_passed (suc zero) e = if_holds (eqb (w % 268435456) 0) 8 _ (λ _. fine (one_word 1 e refl refl))
    condition_passed (suc (suc zero)) e = if_holds (ltb (w % 268435456) 1024) 8 _ (λ _. fine (one_word 2 e refl refl))
    condition_passed (suc (suc (suc zero))) e = if_holds (eqb (w % 268435456) 0) 8 _ (λ _. then_holds (p ws) _ (passed ws) (λ c vs h. fine (one_word 3 e refl refl ∙ h)))
    condition_passed (suc (suc (suc (suc zero)))) e =
        if_holds (ltb (w % 268435456) 4096) 8 _ (λ _. then_holds (many cnil ccons p (w % 268435456) ws) _ (all_passed (w % 268435456) ws) (λ cs vs h. fine (one_word 4 e refl refl ∙ h)))
    condition_passed (suc (suc (suc (suc (suc zero))))) e =
        if_holds (ltb (w % 268435456) 4096) 8 _ (λ _. then_holds (many cnil ccons p (w % 268435456) ws) _ (all_passed (w % 268435456) ws) (λ cs vs h. fine (one_word 5 e refl refl ∙ h)))
    condition_passed (suc (suc (suc (suc (suc (suc k)))))) e = nothing

passed_c : (d : ℕ) (us : List ℕ) → Holds (λ c vs. words_oblige us 0 ≡ words_oblige vs 0) (read_condition d us)
passed_c zero [] = nothing
passed_c zero (w ∷ ws) = if_holds (ltb (kind_of w) 6) 5 (refuse 7) (λ _. nothing)
passed_c (suc d) [] = nothing
passed_c (suc d) (w ∷ ws) = condition_passed (λ us. read_condition d us) (λ us. passed_c d us) w ws (w / 268435456) refl

-- ---- policies
module _ (d w : ℕ) (ws : List ℕ) where
  abbrev r : ℕ
  r = w % 268435456

  abbrev n : ℕ
  n = w / 1048576 % 128

  abbrev reader : List ℕ → Parsed (Policy Outcome)
  reader = read_policy true d

  -- A node of one word.
  plain : {t : Policy Outcome} {vs : List ℕ} (k : ℕ) → w / 268435456 ≡ k → k ≡ kind_at t → (eqb k 8 || eqb k 12) ≡ false → false ≡ own t → get_or (own_by n ws) k 0 ≡ 0 →
      words_oblige ws 0 ≡ (obligess (arms t) || words_oblige vs 0) → Node w ws t vs
  plain k e kind f none z rest = record { kind_is = e ∙ kind; own_is = none_at w k e f ∙ none; rest_is = ap (words_oblige ws) (own_by_lem w k ws e ∙ z) ∙ rest }

  -- A node with obligations: as many as its word says.
  counted : (os us vs : List ℕ) → ReadNumbers obligation_bits obligation_count (r / 1048576 % 128) us os vs → (cond (eqb n 0) false true ≡ some? os) × (drop (words_for 4 n) us ≡ vs)
  counted os us vs h = (some_of_lem os n (h.long ∙ sym (count_of w)), ap (λ m. drop (words_for 4 m) us) (count_of w) ∙ h.left)

  grant_reads : (shape : DenyShape) (o : ℕ) → w / 268435456 ≡ 8 → Holds (Node w ws) (grant_node (λ vs. read_condition d vs) shape (r / 1048576 % 128) o ws)
  unfolding grant_node
  grant_reads shape o e =
      another_holds ws _ (λ w₂ us q.
      next_is (mark (w₂ / 65536)) _ (λ l _ _.
      next_is (mark (w₂ % 65536)) _ (λ m _ _.
      then_holds (read_list obligation obligation_bits (r / 1048576 % 128) us) _ (read_obligations (r / 1048576 % 128) us) (λ os vs h.
      then_holds (read_condition d vs) _ (passed_c d vs) (λ c xs g.
      let has = counted os us vs h in
      fine (record {
        kind_is = e;
        own_is = obligation_by w 8 e ∙ has.0;
        rest_is = ap (words_oblige ws) (own_by_lem w 8 ws e) ∙ after_word (words_for 4 n) w₂ ws us q ∙ after_list (words_for 4 n) us vs has.1 ∙ g;
      }))))))

  permit_reads : (o : ℕ) → w / 268435456 ≡ 12 → Holds (λ x vs. Node w ws (stored x) vs) (permit_trace_node (r / 1048576 % 128) o ws)
  unfolding permit_trace_node
  permit_reads o e =
      another_holds ws _ (λ w₂ us q.
      next_is (mark (w₂ / 65536)) _ (λ l _ _.
      if_holds (ltb (w₂ % 65536) 4096) 8 _ (λ t.
      then_holds (read_list obligation obligation_bits (r / 1048576 % 128) us) _ (read_obligations (r / 1048576 % 128) us) (λ os vs h.
      then_holds (read_list listed entry_bits (w₂ % 65536) vs) _ (read_facts (w₂ % 65536) vs) (λ fs xs g.
      let has = counted os us vs h in
      let small : w₂ % 65536 < 4096 = ltb-true (w₂ % 65536) 4096 t in
      let few : get_or ws 0 0 % 4096 ≡ w₂ % 65536 = ap (λ l. get_or l 0 0 % 4096) q ∙ omega arith in
      fine (record {
        kind_is = e;
        own_is = obligation_by w 12 e ∙ has.0;
        rest_is =
            ap (words_oblige ws) (own_by_lem w 12 ws e ∙ ap (λ m. suc (words_for 4 n + words_for 2 m)) few)
            ∙ after_word (words_for 4 n + words_for 2 (w₂ % 65536)) w₂ ws us q
            ∙ after_lists (words_for 4 n) (words_for 2 (w₂ % 65536)) us vs xs has.1 g.left;
      }))))))

  deny_reads : (shape : DenyShape) (denied : prelude.Option ℕ) → w / 268435456 ≡ 13 → Holds (λ x vs. Node w ws (stored x) vs) (deny_trace_node shape denied ws)
  unfolding deny_trace_node
  deny_reads shape denied e =
      another_holds ws _ (λ w₂ us q.
      next_is (mark (w₂ / 65536)) _ (λ l _ _.
      next_is (mark (w₂ % 65536)) _ (λ m _ _.
      another_holds us _ (λ c ts p.
      if_holds (ltb c 4096) 8 _ (λ t.
      then_holds (read_list listed entry_bits c ts) _ (read_facts c ts) (λ fs xs g.
      let small : c < 4096 = ltb-true c 4096 t in
      let few : get_or ws 1 0 % 4096 ≡ c = ap (λ l. get_or l 1 0 % 4096) (q ∙ ap (λ l. w₂ ∷ l) p) ∙ omega arith in
      fine (record {
        kind_is = e;
        own_is = obligation_by w 13 e ∙ neither (eqb n 0);
        rest_is =
            ap (words_oblige ws) (own_by_lem w 13 ws e ∙ ap (λ m. suc (suc (words_for 2 m))) few)
            ∙ after_word (suc (words_for 2 c)) w₂ ws us q
            ∙ after_word (words_for 2 c) c us ts p
            ∙ after_list (words_for 2 c) ts xs g.left;
      })))))))

  module _ (below : (us : List ℕ) → Holds (Obliges us) (reader us)) where
    many_below : (count : ℕ) (us : List ℕ) → Holds (λ ts vs. words_oblige us 0 ≡ (obligess ts || words_oblige vs 0)) (many pnil pcons reader count us)
    many_below zero us = fine refl
    many_below (suc count) us =
        then_holds (reader us) _ (below us) (λ t vs h.
        then_holds (many pnil pcons reader count vs) _ (many_below count vs) (λ ts xs g.
        fine (h ∙ ap (λ b. obliges t || b) g ∙ sym (or_assoc (obliges t) (obligess ts) (words_oblige xs 0)))))

    -- All or Any.
    list_reads : (k : ℕ) (node : Policies Outcome → Policy Outcome) → w / 268435456 ≡ k → (eqb k 8 || eqb k 12) ≡ false → get_or (own_by n ws) k 0 ≡ 0 →
        ((ts : Policies Outcome) → k ≡ kind_at (node ts)) → ((ts : Policies Outcome) → false ≡ own (node ts)) → ((ts : Policies Outcome) → ts ≡ arms (node ts)) →
        Holds (Node w ws) (next (many pnil pcons reader r ws) (λ ts vs. got (node ts) vs))
    list_reads k node e f z kind owns is =
        then_holds (many pnil pcons reader r ws) _ (many_below r ws) (λ ts vs h.
        fine (plain k e (kind ts) f (owns ts) z (h ∙ ap (λ xs. obligess xs || words_oblige vs 0) (is ts))))

    or_else_reads : w / 268435456 ≡ 11 → Holds (Node w ws) (next (reader ws) (λ a vs. next (reader vs) (λ b us. got (or_else a b) us)))
    or_else_reads e =
        then_holds (reader ws) _ (below ws) (λ a vs f.
        then_holds (reader vs) _ (below vs) (λ b us g.
        fine (plain 11 e refl refl refl refl
        (f ∙ ap (λ x. obliges a || x) (g ∙ ap (λ x. x || words_oblige us 0) (sym (or-false (obliges b))))
        ∙ sym (or_assoc (obliges a) (obliges b || false) (words_oblige us 0))))))

    node_below : Holds (Node w ws) (read_policy true (suc d) (w ∷ ws))
    unfolding policy_node
    node_below =
        subst (Holds (Node w ws)) (sym (policy_node_lem true d w ws))
        (head_cases (λ h. Holds (Node w ws) (policy_node (λ vs. read_condition d vs) (λ vs. read_policy true d vs) h ws)) w true (record {
          bad_kind_is = nothing;
          bad_field_is = nothing;
          permit_is = λ e. fine (plain 6 e refl refl refl refl refl);
          deny_is = λ e. fine (plain 7 e refl refl refl refl refl);
          grant_is = λ e. grant_reads _ _ e;
          all_is = λ e small. list_reads 9 all e refl refl (λ ts. refl) (λ ts. refl) (λ ts. refl);
          any_is = λ e small. list_reads 10 any e refl refl (λ ts. refl) (λ ts. refl) (λ ts. refl);
          or_else_is = λ e. or_else_reads e;
          permit_trace_is = λ e _. then_holds (permit_trace_node _ _ ws) _ (permit_reads _ e) (λ x vs h. fine h);
          deny_trace_is = λ e _ denied _. then_holds (deny_trace_node _ denied ws) _ (deny_reads _ denied e) (λ x vs h. fine h);
        }))

no_level : (w : ℕ) (ws : List ℕ) {Q : Policy Outcome → List ℕ → Type 0} → Holds Q (read_policy true 0 (w ∷ ws))
no_level w ws = if_holds (leb 6 (kind_of w) && leb (kind_of w) (last_kind true)) 5 (refuse 7) (λ _. nothing)

obliges_p : (d : ℕ) (us : List ℕ) → Holds (Obliges us) (read_policy true d us)
obliges_p zero [] = nothing
obliges_p zero (w ∷ ws) = no_level w ws
obliges_p (suc d) [] = nothing
obliges_p (suc d) (w ∷ ws) = weaker (read_policy true (suc d) (w ∷ ws)) (λ t vs n. node_obliges w ws t vs n) (node_below d w ws (λ us. obliges_p d us))

pub node_holds : (depth w : ℕ) (ws : List ℕ) → Holds (Node w ws) (read_policy true depth (w ∷ ws))
node_holds zero w ws = no_level w ws
node_holds (suc d) w ws = node_below d w ws (λ us. obliges_p d us)

-- No policy reads of no words.
pub nothing_reads : {G : Type 0} (d : ℕ) (t : Policy Outcome) (vs : List ℕ) → read_policy true d [] ≡ got t vs → G
nothing_reads zero t vs e = absurd cc
nothing_reads (suc d) t vs e = absurd cc

-- A tree to the last word.
pub tree_obliges : (ws : List ℕ) (at : ℕ) (t : Policy Outcome) → Stands ws at t → words_oblige (drop at ws) 0 ≡ obliges t
unfolding words_oblige
tree_obliges ws at t s = held_at (obliges_p s.depth (drop at ws)) s.reads ∙ or-false (obliges t)

-- What the walk asks.
pub ruleset walks = (tree_obliges, none_after, has_one, goes_on)
