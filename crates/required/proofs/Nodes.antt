-- Policies node by node, to the last word. Assumes nothing.
use mathlib.Core.Path.{◌≡◌, refl, sym, ◌∙◌, ap, subst}
use mathlib.Core.Bool.{Bool, true, false, cond, ◌||◌, or-false, or_assoc}
use mathlib.Core.List.{List, [], ◌∷◌}
use Prim.Native.Nat.{ℕ, zero, suc, ◌+◌, ◌-◌, ◌≤◌, ◌<◌}
use native.Mathlib.Nat.{zero-add}
use native.Mathlib.Omega.{arith}
use lib.Dec.{eqb}
use lib.ListN.{length, drop, get_or, drop_of_length-le, replicate}
use lib.Seq.{drop-cons, drop-drop}
use Rattle.model.specs.Outcome.{product_sets}
use Rattle.model.specs.Policy.{Policy, permit, deny, all, any, or_else, Policies, pnil, pcons, names, namess}
use Rattle.model.specs.Reading.{Parsed, refuse, got, next, many, levels, read_condition}
use Rattle.model.specs.Required.{ones}
use Rattle.model.specs.Products.{Outcome, read_policy}
use Rattle.laws.proofs.Deeper.{Follows, deeper, refused}
use Rattle.laws.specs.Size.{words}
use Rattle.policy_model.specs.declared.PolicyHead.{PolicyHead}
use Rattle.policy_model.specs.declared.PolicyHead.TheVariants.{Permit, Deny, Grant, OrElse, PermitWithTrace, DenyWithTrace}
use Rattle.policy_model.specs.declared.PolicyHead.TheVariants as policy
use Rattle.policy_model.specs.Heads.{policy_head, policy_node}
use Rattle.policy_model.proofs.Checking.{Leaves}
use Rattle.policy_model.proofs.Policies.{policy_leaves}
use Rattle.fact_set.specs.Sets.{Grown}
use Rattle.fact_set.specs.SetLaws.{empty_set}
use Rattle.required.specs.Sets.{Walked, Collected, ToTheEnd}
use Rattle.required.specs.Nodes.{policy_arms, OwnFacts}
use Rattle.required.specs.Arms.{Toward}
use Rattle.required.specs.Answers.{set_after, SetOf, FactsOf}
use Rattle.required.proofs.Arms.{grown_none, grown_as, grown_then}
use Rattle.required.proofs.Policies.{policy_here}

-- The arms of a list are read with a level less.
abbrev P : List ℕ → Parsed (Policy Outcome)
P ws = read_policy true 31 ws

abbrev Q : List ℕ → Parsed (Policy Outcome)
Q ws = read_policy true levels ws

abbrev consed : Policy Outcome → Parsed (Policies Outcome) → Parsed (Policies Outcome)
consed a q = next q (λ xs us. got (pcons a xs) us)

-- n more policies after one.
abbrev and_more : ℕ → Parsed (Policy Outcome) → Parsed (Policies Outcome)
and_more n q = next q (λ a vs. consed a (many pnil pcons Q n vs))

-- ---- facts added before, and what follows what was read
end_then : {A : Type 0} (named : ℕ → A → Bool) (q : Parsed A) (s t u : List ℕ) → Grown (λ f. false) s t → ToTheEnd named q t u → ToTheEnd named q s u
unfolding ToTheEnd
end_then named (refuse n) s t u g h = tt
end_then named (got a []) s t u g h = grown_then g h
end_then named (got a (w ∷ ws)) s t u g h = tt

end_follows : {A : Type 0} (named : ℕ → A → Bool) (p q : Parsed A) (s u : List ℕ) → Follows p q → ToTheEnd named q s u → ToTheEnd named p s u
unfolding ToTheEnd
end_follows named (refuse n) q s u f h = tt
end_follows named (got a []) q s u f h = subst (λ x. ToTheEnd named x s u) f.it h
end_follows named (got a (w ∷ ws)) q s u f h = tt

end_cons : (a : Policy Outcome) (q : Parsed (Policies Outcome)) (s t u : List ℕ) → Grown (λ f. names f a) s t → ToTheEnd namess q t u → ToTheEnd namess (consed a q) s u
unfolding ToTheEnd
end_cons a (refuse n) s t u g h = tt
end_cons a (got ts []) s t u g h = grown_then g h
end_cons a (got ts (w ∷ ws)) s t u g h = tt

-- ---- the arms of a list, at the level of the list
abbrev join : Policies Outcome → Policies Outcome → Policies Outcome
join pnil us = us
join (pcons t ts) us = pcons t (join ts us)

names_join : (f : ℕ) (ts us : Policies Outcome) → namess f (join ts us) ≡ (namess f ts || namess f us)
names_join f pnil us = refl
names_join f (pcons t ts) us = ap (λ b. names f t || b) (names_join f ts us) ∙ sym (or_assoc (names f t) (namess f ts) (namess f us))

abbrev joined : Policies Outcome → Parsed (Policies Outcome) → Parsed (Policies Outcome)
joined ts q = next q (λ us zs. got (join ts us) zs)

join_none : (q : Parsed (Policies Outcome)) → Follows (joined pnil q) q
join_none (refuse n) = refused
join_none (got us zs) = record { it = refl }

join_last : (a : Policy Outcome) (ts : Policies Outcome) (m z : Parsed (Policies Outcome)) → Follows (joined ts m) z → Follows (joined (pcons a ts) m) (consed a z)
join_last a ts (refuse n) z h = refused
join_last a ts (got us zs) z h = record { it = ap (consed a) h.it }

join_more : (a : Policy Outcome) (n : ℕ) (y z : Parsed (Policies Outcome)) → Follows (next y (λ ts vs. joined ts (many pnil pcons Q n vs))) z → Follows (next (consed a y) (λ ts vs. joined ts (many pnil pcons Q n vs))) (consed a z)
join_more a n (refuse k) z h = refused
join_more a n (got ts vs) z h = join_last a ts (many pnil pcons Q n vs) z h

join_first : (k n : ℕ) → ((vs : List ℕ) → Follows (next (many pnil pcons P k vs) (λ ts us. joined ts (many pnil pcons Q n us))) (many pnil pcons Q (k + n) vs)) → (x y : Parsed (Policy Outcome)) → Follows x y →
    Follows (next (next x (λ a vs. consed a (many pnil pcons P k vs))) (λ ts vs. joined ts (many pnil pcons Q n vs))) (next y (λ a vs. consed a (many pnil pcons Q (k + n) vs)))
join_first k n more (refuse j) y h = refused
join_first k n more (got a vs) y h =
    subst (λ q. Follows (next (consed a (many pnil pcons P k vs)) (λ ts us. joined ts (many pnil pcons Q n us))) (next q (λ b us. consed b (many pnil pcons Q (k + n) us)))) (sym h.it)
    (join_more a n (many pnil pcons P k vs) (many pnil pcons Q (k + n) vs) (more vs))

join_arms : (k n : ℕ) (ws : List ℕ) → Follows (next (many pnil pcons P k ws) (λ ts vs. joined ts (many pnil pcons Q n vs))) (many pnil pcons Q (k + n) ws)
join_arms zero n ws = rw (zero-add n) (join_none (many pnil pcons Q n ws))
join_arms (suc k) n ws =
    let e : suc k + n ≡ suc (k + n) = omega arith in
    rw e (join_first k n (join_arms k n) (P ws) (Q ws) (deeper product_sets.value true 31 levels ws (omega arith)))

-- ---- one node and its arms
module _ (t u : List ℕ) (n : ℕ) where
  -- All or Any.
  end_list : (node : Policies Outcome → Policy Outcome) (ts : Policies Outcome) (q : Parsed (Policies Outcome)) → ((f : ℕ) → namess f ts ≡ names f (node ts)) → ToTheEnd namess (joined ts q) t u → ToTheEnd namess (consed (node ts) q) t u
  unfolding ToTheEnd
  end_list node ts (refuse k) e h = tt
  end_list node ts (got us []) e h = grown_as (λ f. names_join f ts us ∙ ap (λ b. b || namess f us) (e f)) h
  end_list node ts (got us (w ∷ ws)) e h = tt

  end_arms : (node : Policies Outcome → Policy Outcome) → ((f : ℕ) (ts : Policies Outcome) → namess f ts ≡ names f (node ts)) → (x : Parsed (Policies Outcome)) →
      ToTheEnd namess (next x (λ ts vs. joined ts (many pnil pcons Q n vs))) t u → ToTheEnd namess (and_more n (next x (λ ts vs. got (node ts) vs))) t u
  unfolding ToTheEnd
  end_arms node e (refuse k) h = tt
  end_arms node e (got ts vs) h = end_list node ts (many pnil pcons Q n vs) (λ f. e f ts) h

  -- OrElse.
  end_both : (a b : Policy Outcome) (q : Parsed (Policies Outcome)) → ToTheEnd namess (joined (pcons a (pcons b pnil)) q) t u → ToTheEnd namess (consed (or_else a b) q) t u
  unfolding ToTheEnd
  end_both a b (refuse k) h = tt
  end_both a b (got us []) h = grown_as (λ f. sym (or_assoc (names f a) (names f b) (namess f us))) h
  end_both a b (got us (w ∷ ws)) h = tt

  end_second : (a : Policy Outcome) (x : Parsed (Policy Outcome)) → ToTheEnd namess (next (consed a (next x (λ b us. got (pcons b pnil) us))) (λ ts vs. joined ts (many pnil pcons Q n vs))) t u →
      ToTheEnd namess (and_more n (next x (λ b us. got (or_else a b) us))) t u
  unfolding ToTheEnd
  end_second a (refuse k) h = tt
  end_second a (got b us) h = end_both a b (many pnil pcons Q n us) h

  end_two : (x : Parsed (Policy Outcome)) → ToTheEnd namess (next (next x (λ a vs. consed a (next (P vs) (λ b us. got (pcons b pnil) us)))) (λ ts vs. joined ts (many pnil pcons Q n vs))) t u →
      ToTheEnd namess (and_more n (next x (λ a vs. next (P vs) (λ b us. got (or_else a b) us)))) t u
  unfolding ToTheEnd
  end_two (refuse k) h = tt
  end_two (got a vs) h = end_second a (P vs) h

module _ (sheet : List ℕ) (at mid : ℕ) (s t : List ℕ) where
  abbrev here : List ℕ
  here = drop (at + 1) sheet

  -- A node without arms.
  end_first : (n : ℕ) (u : List ℕ) (q : Parsed (Policy Outcome)) → Leaves words (drop at sheet) q → Collected words names at s t q mid → ToTheEnd namess (many pnil pcons Q (0 + n) (drop mid sheet)) t u →
      ToTheEnd namess (and_more n q) s u
  unfolding ToTheEnd Collected
  end_first n u (refuse k) h v w = tt
  end_first n u (got a vs) h v w =
      let e : drop mid sheet ≡ vs = ap (λ k. drop k sheet) v.ends ∙ sym (drop-drop (words a) at sheet) ∙ h.it in
      end_cons a (many pnil pcons Q n vs) s t u v.adds (subst (λ ws. ToTheEnd namess (many pnil pcons Q n ws) t u) e (subst (λ k. ToTheEnd namess (many pnil pcons Q k (drop mid sheet)) t u) (zero-add n) w))

  -- The arms come after the first word.
  end_opened : (k n : ℕ) (u : List ℕ) → Walked at 1 mid (λ f. false) s t → ToTheEnd namess (many pnil pcons Q (k + n) (drop mid sheet)) t u →
      ToTheEnd namess (next (many pnil pcons P k here) (λ ts vs. joined ts (many pnil pcons Q n vs))) s u
  end_opened k n u v w =
      end_then namess (next (many pnil pcons P k here) (λ ts vs. joined ts (many pnil pcons Q n vs))) s t u v.adds
      (end_follows namess (next (many pnil pcons P k here) (λ ts vs. joined ts (many pnil pcons Q n vs))) (many pnil pcons Q (k + n) here) t u (join_arms k n here)
      (subst (λ i. ToTheEnd namess (many pnil pcons Q (k + n) (drop i sheet)) t u) v.ends w))

  end_node : (h : PolicyHead) (n : ℕ) (u : List ℕ) → Leaves words (drop at sheet) (policy_node (λ vs. read_condition 31 vs) P h here) →
      OwnFacts (λ vs. read_condition 31 vs) h here at s t mid → ToTheEnd namess (many pnil pcons Q (policy_arms h + n) (drop mid sheet)) t u →
      ToTheEnd namess (and_more n (policy_node (λ vs. read_condition 31 vs) P h here)) s u
  unfolding ToTheEnd OwnFacts policy_node policy_arms
  end_node (Permit o) n u l v w = end_first n u (got (permit o) here) l v w
  end_node Deny n u l v w = end_first n u (got deny here) l v w
  end_node (Grant shape k o) n u l v w = end_first n u (policy_node (λ vs. read_condition 31 vs) P (Grant shape k o) here) l v w
  end_node (policy.All k) n u l v w = end_arms s u n all (λ f ts. refl) (many pnil pcons P k here) (end_opened k n u v w)
  end_node (policy.Any k) n u l v w = end_arms s u n any (λ f ts. refl) (many pnil pcons P k here) (end_opened k n u v w)
  end_node OrElse n u l v w = end_two s u n (P here) (end_opened 2 n u v w)
  end_node (PermitWithTrace k o) n u l v w = end_first n u (policy_node (λ vs. read_condition 31 vs) P (PermitWithTrace k o) here) l v w
  end_node (DenyWithTrace shape denied) n u l v w = end_first n u (policy_node (λ vs. read_condition 31 vs) P (DenyWithTrace shape denied) here) l v w
  end_node policy.BadKind n u l v w = tt
  end_node policy.BadField n u l v w = tt

  module _ (inside : at < length sheet) (own : OwnFacts (λ vs. read_condition 31 vs) (policy_head (get_or sheet at 0) true) here at s t mid) where
    -- Words that go on after the last node.
    no_node : (u : List ℕ) → ToTheEnd namess (many pnil pcons Q 0 (drop at sheet)) s u
    unfolding ToTheEnd
    no_node u = rw (drop-cons sheet at 0 inside) tt

    -- One more turn of the loop.
    pass : (n : ℕ) (u : List ℕ) → ToTheEnd namess (many pnil pcons Q (policy_arms (policy_head (get_or sheet at 0) true) + (n - 1)) (drop mid sheet)) t u → ToTheEnd namess (many pnil pcons Q n (drop at sheet)) s u
    pass zero u w = no_node u
    pass (suc n) u w =
        let h = policy_head (get_or sheet at 0) true in
        let e = policy_here sheet at inside in
        let one : suc n - 1 ≡ n = omega arith in
        subst (λ q. ToTheEnd namess (and_more n q) s u) (sym e)
        (end_node h n u (subst (λ q. Leaves words (drop at sheet) q) e (policy_leaves true levels (drop at sheet))) own
        (subst (λ k. ToTheEnd namess (many pnil pcons Q (policy_arms h + k) (drop mid sheet)) t u) one w))

    pub toward_more : (from : ℕ) (r : List ℕ) → Toward sheet from r at s → Toward sheet from r mid t
    toward_more from r o = record { nodes = policy_arms (policy_head (get_or sheet at 0) true) + (o.nodes - 1); toward = λ u w. o.toward u (pass o.nodes u w) }

-- ---- the walk begins with one node, and ends with the words
one_node : (q : Parsed (Policy Outcome)) (s u : List ℕ) → ToTheEnd namess (and_more 0 q) s u → ToTheEnd names q s u
unfolding ToTheEnd
one_node (refuse n) s u h = tt
one_node (got a []) s u h = grown_as (λ f. or-false (names f a)) h
one_node (got a (w ∷ ws)) s u h = tt

pub toward_start : (sheet : List ℕ) (at : ℕ) (s : List ℕ) → Toward sheet at s at s
toward_start sheet at s = record { nodes = 1; toward = λ u h. one_node (Q (drop at sheet)) s u h }

no_words : (n : ℕ) (s : List ℕ) → ToTheEnd namess (many pnil pcons Q n []) s s
unfolding ToTheEnd
no_words zero s = grown_none s
no_words (suc n) s = tt

pub toward_end : (sheet : List ℕ) (from at : ℕ) (s t : List ℕ) → length sheet ≤ at → Toward sheet from s at t → ToTheEnd names (Q (drop from sheet)) s t
toward_end sheet from at s t h o = o.toward t (subst (λ ws. ToTheEnd namess (many pnil pcons Q o.nodes ws) t t) (sym (drop_of_length-le sheet h)) (no_words o.nodes t))

-- ---- a policy's facts, from an empty set on
pub facts_from_none : (q : Parsed (Policy Outcome)) (none facts : List ℕ) → none ≡ replicate 16 0 → ToTheEnd names q none facts → SetOf q facts
unfolding ToTheEnd SetOf
facts_from_none (refuse n) none facts e h = tt
facts_from_none (got t []) none facts e h = h.grown (λ f. false) (e ∙ empty_set)
facts_from_none (got t (w ∷ ws)) none facts e h = tt

-- The facts of the policy replace those that the set had in between.
cleared : (b : Bool) (before none facts : List ℕ) → eqb (length before) 16 ≡ b → length none ≡ 16 → set_after (cond b none before) facts ≡ cond b facts before
cleared true before none facts e h = rw h
cleared false before none facts e h = rw e

pub facts_over : (q : Parsed (Policy Outcome)) (before none after : List ℕ) (count : ℕ) → length none ≡ 16 → FactsOf q (set_after before none) after count → FactsOf q before after count
unfolding FactsOf
facts_over (refuse n) before none after count h g = tt
facts_over (got t []) before none after count h g = record { counted = g.counted; set_is = g.set_is ∙ cleared (eqb (length before) 16) before none _ refl h }
facts_over (got t (w ∷ ws)) before none after count h g = tt

pub facts_given : (q : Parsed (Policy Outcome)) (facts before after : List ℕ) (count : ℕ) → SetOf q facts → after ≡ set_after before facts → count ≡ ones facts → FactsOf q before after count
unfolding SetOf FactsOf
facts_given (refuse n) facts before after count e s k = tt
facts_given (got t []) facts before after count e s k = record { counted = k ∙ ap ones e; set_is = s ∙ ap (set_after before) e }
facts_given (got t (w ∷ ws)) facts before after count e s k = tt

-- What the walk asks.
pub ruleset policy_walks = (toward_start, toward_more)
