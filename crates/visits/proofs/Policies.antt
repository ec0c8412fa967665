-- Counts of policies in a sheet: a node by its head, and arms. Assumes nothing.
use mathlib.Core.Path.{◌≡◌, refl, sym, ◌∙◌, ap, subst}
use mathlib.Core.Bool.{Bool, true, false, not, cond, ◌||◌, beq}
use mathlib.Core.List.{List, [], ◌∷◌}
use Rattle.std.specs.Prelude.{Option, Some, None}
use Prim.Native.Nat.{ℕ, zero, suc, ◌+◌, ◌-◌, ◌/◌, ◌%◌, ◌≤◌, ◌<◌}
use native.Mathlib.Omega.{arith}
use borrow.Author.Tests.{le-leb, lt-leb}
use lib.ListN.{length, drop, get_or}
use lib.Seq.{drop-drop}
use Rattle.model.specs.Fields.{words_for}
use Rattle.model.specs.Facts.{Table}
use Rattle.model.specs.Outcome.{product_sets}
use Rattle.model.specs.Policy.{Policy, permit, deny, all, any, or_else, pnil, pcons}
use Rattle.model.specs.Visits.{visits_c}
use Rattle.model.specs.Reading.{Parsed, refuse, got, next, whole, many, sheet_length, read_condition}
use Rattle.model.specs.Levels.{outcomes_of}
use Rattle.model.specs.Products.{Outcome, read_policy}
use Rattle.laws.proofs.FieldLaws.{Holds, fine, nothing, if_holds, weaker, itself, held_at}
use Rattle.laws.specs.Size.{words_c, words, wordss}
use Rattle.laws.proofs.Deeper.{deeper, follows_got}
use Rattle.laws.proofs.GrantLaws.{grant_read}
use Rattle.laws.proofs.NodeLaws.{policy_none}
use Rattle.facts.specs.Answers.{is_present}
use Rattle.facts.specs.AnswerLaws.{has_value}
use Rattle.policy_model.specs.declared.DenyShape.{DenyShape}
use Rattle.policy_model.specs.declared.PolicyHead.{PolicyHead}
use Rattle.policy_model.specs.declared.PolicyHead.TheVariants.{Permit, Deny, Grant as GrantHead, All, Any, OrElse, PermitWithTrace, DenyWithTrace, BadKind, BadField}
use Rattle.policy_model.specs.Heads.{policy_head, bit_of, grant_node, policy_node}
use Rattle.policy_model.specs.HeadLaws.{head_cases, policy_node_lem, policy_deep, permit_word}
use Rattle.policy_model.specs.Plain.{plain_grant, plain_policy}
use Rattle.policy_model.specs.PlainLaws.{plain_reads}
use Rattle.policy_model.specs.Span.{Skipped}
use Rattle.policy_model.proofs.Checking.{word_at, no_word}
use Rattle.policy_model.proofs.Policies.{policy_leaves}
use Rattle.policy_model.proofs.Skipping.{grant_says}
use Rattle.grant.specs.Fields.{obligations_at, before_condition_at}
use Rattle.visits.specs.declared.Visit.{Visit}
use Rattle.visits.specs.Holding.{holds_c, holds_p, holds_ps, holds_any, nodes_p, nodes_ps, nodes_any}
use Rattle.visits.specs.Counting.{counted_by, Counts, visits_within, CountsSheet}
use Rattle.visits.proofs.Holding.{some_p, visits_are}
use Rattle.visits.proofs.Counting.{counted_as, over_is, was_within, was_over, refused, none_left, leaf, below, some_arm, arms_none, arm_first, arm_over, arms_passed}
use Rattle.visits.proofs.Conditions.{go_on_at, stops_at}

-- ---- reading
-- In a sheet no head is that of a 12 or a 13.
abbrev OfSheet : PolicyHead → Type 0
OfSheet (Permit o) = Unit {0}
OfSheet Deny = Unit {0}
OfSheet (GrantHead shape n o) = Unit {0}
OfSheet (All n) = Unit {0}
OfSheet (Any n) = Unit {0}
OfSheet OrElse = Unit {0}
OfSheet (PermitWithTrace n o) = ⊥
OfSheet (DenyWithTrace shape denied) = ⊥
OfSheet BadKind = Unit {0}
OfSheet BadField = Unit {0}

of_sheet : (w : ℕ) (h : PolicyHead) → h ≡ policy_head w false → OfSheet h
of_sheet w h e =
    subst OfSheet (sym e) (head_cases OfSheet w false (record {
      bad_kind_is = tt;
      bad_field_is = tt;
      permit_is = λ _. tt;
      deny_is = λ _. tt;
      grant_is = λ _. tt;
      all_is = λ _ _. tt;
      any_is = λ _ _. tt;
      or_else_is = λ _. tt;
      permit_trace_is = λ _ z. absurd cc;
      deny_trace_is = λ _ z _ _. absurd cc;
    }))

module _ (T : Table) (W : List ℕ) (at allowance n : ℕ) where
  -- The answer to the policy at `at`, of so many levels; and to arms.
  abbrev pub CountsP : ℕ → Option Visit → Type 0
  CountsP depth r = Counts words (holds_p T) (nodes_p T) at allowance n (read_policy false depth (drop at W)) r

  abbrev pub CountsPs : Bool → ℕ → ℕ → Option Visit → Type 0
  CountsPs stop depth arms r = Counts wordss (holds_ps stop T) (nodes_ps stop T) at allowance n (many pnil pcons (read_policy false depth) arms (drop at W)) r

  abbrev pub CountsAny : Bool → ℕ → ℕ → Option Visit → Type 0
  CountsAny sofar depth arms r = Counts wordss (holds_any T sofar) (nodes_any T) at allowance n (many pnil pcons (read_policy false depth) arms (drop at W)) r

  -- ---- no word, no level, no node left
  pub no_words : (depth : ℕ) (r : Option Visit) → length W ≤ at → CountsP depth r
  no_words depth r h = refused words (holds_p T) (nodes_p T) at allowance n (read_policy false depth (drop at W)) (ap (read_policy false depth) (no_word W at h) ∙ policy_none product_sets.value false depth)

  pub no_levels : (depth : ℕ) (r : Option Visit) → at < length W → depth ≡ 0 → CountsP depth r
  no_levels depth r lt z =
      refused words (holds_p T) (nodes_p T) at allowance n (read_policy false depth (drop at W))
      (ap (λ d. read_policy false d (drop at W)) z ∙ ap (read_policy false 0) (word_at W at lt) ∙ policy_deep false (get_or W at 0) (drop (at + 1) W))

  pub no_nodes : (depth : ℕ) → allowance ≤ n → CountsP depth None
  no_nodes depth h = none_left words (holds_p T) (nodes_p T) at allowance n (read_policy false depth (drop at W)) (some_p T) h

  -- ---- a node by its head
  module _ (depth : ℕ) (lt : at < length W) (some : depth ≡ 0 → ⊥) where
    abbrev Node : PolicyHead → Parsed (Policy Outcome)
    Node h = policy_node (λ vs. read_condition (depth - 1) vs) (λ vs. read_policy false (depth - 1) vs) h (drop (at + 1) W)

    node_is : (h : PolicyHead) → h ≡ policy_head (get_or W at 0) false → read_policy false depth (drop at W) ≡ Node h
    node_is h e = ap (read_policy false depth) (word_at W at lt) ∙ level depth some ∙ ap Node (sym e)
      where
        at_level : ℕ → Parsed (Policy Outcome)
        at_level d = policy_node (λ vs. read_condition d vs) (λ vs. read_policy false d vs) (policy_head (get_or W at 0) false) (drop (at + 1) W)

        level : (d : ℕ) → (d ≡ 0 → ⊥) → read_policy false d (get_or W at 0 ∷ drop (at + 1) W) ≡ at_level (d - 1)
        level zero f = absurd (f refl)
        level (suc d) f = policy_node_lem false d (get_or W at 0) (drop (at + 1) W) ∙ ap at_level (let e : d ≡ suc d - 1 = omega arith in e)

    by_head : (h : PolicyHead) (r : Option Visit) → h ≡ policy_head (get_or W at 0) false → Counts words (holds_p T) (nodes_p T) at allowance n (Node h) r → CountsP depth r
    by_head h r e c = subst (λ q. Counts words (holds_p T) (nodes_p T) at allowance n q r) (sym (node_is h e)) c

    pub permit_counted : (o : ℕ) (r : Option Visit) → Permit o ≡ policy_head (get_or W at 0) false → r ≡ counted_by allowance (n + 1) true (at + 1) → CountsP depth r
    unfolding policy_node
    permit_counted o r e p = by_head (Permit o) r e (leaf words (holds_p T) (nodes_p T) at allowance n (permit o) (drop (at + 1) W) true (Node (Permit o)) r refl p refl refl refl)

    -- A word that one division shows to be a Permit.
    pub permit_word_counted : (r : Option Visit) → get_or W at 0 / 65536 ≡ 24576 → r ≡ counted_by allowance (n + 1) true (at + 1) → CountsP depth r
    permit_word_counted r e p = permit_counted (get_or W at 0 % 65536) r (permit_word (get_or W at 0) false e) p

    pub deny_counted : (r : Option Visit) → Deny ≡ policy_head (get_or W at 0) false → r ≡ counted_by allowance (n + 1) false (at + 1) → CountsP depth r
    unfolding policy_node
    deny_counted r e p = by_head Deny r e (leaf words (holds_p T) (nodes_p T) at allowance n deny (drop (at + 1) W) false (Node Deny) r refl p refl refl refl)

    -- A grant counts besides its condition.
    pub grant_counted : (shape : DenyShape) (k o c : ℕ) (r : Option Visit) → GrantHead shape k o ≡ policy_head (get_or W at 0) false → c ≡ at + before_condition_at W at →
        Counts words_c (holds_c T) (visits_c T) c allowance (n + 1) (read_condition (depth - 1) (drop c W)) r → CountsP depth r
    unfolding policy_node grant_node
    grant_counted shape k o c r e p a =
        let owed : words_for 4 k ≡ words_for 4 (obligations_at W at) = ap (words_for 4) (grant_says false (get_or W at 0) shape k o e).0 in
        by_head (GrantHead shape k o) r e (record {
          says = weaker (Node (GrantHead shape k o)) (λ t rest g.
              let there : drop ((k + 3) / 4) (drop 1 (drop (at + 1) W)) ≡ drop c W =
              drop-drop ((k + 3) / 4) 1 (drop (at + 1) W) ∙ drop-drop (1 + (k + 3) / 4) (at + 1) W ∙ ap (λ i. drop i W) (let s : at + 1 + (1 + (k + 3) / 4) ≡ c = omega arith in s) in
              let told = held_at a.says (ap (read_condition (depth - 1)) (sym there) ∙ g.below) in
              told ∙ counted_as allowance (omega (arith, ap (nodes_p T) g.policy_is)) (sym (ap (holds_p T) g.policy_is)) (omega (arith, ap words g.policy_is, g.long)))
              (grant_read product_sets.value (read_condition (depth - 1)) (bit_of shape) k o (drop (at + 1) W));
        })

    -- Without arms All is false; with arms it is what they come to.
    pub all_none : (arms : ℕ) (r : Option Visit) → All arms ≡ policy_head (get_or W at 0) false → arms ≡ 0 → r ≡ counted_by allowance (n + 1) false (at + 1) → CountsP depth r
    unfolding policy_node
    all_none arms r e z p = by_head (All arms) r e (rw z (leaf words (holds_p T) (nodes_p T) at allowance n (all pnil) (drop (at + 1) W) false (Node (All 0)) r refl p refl refl refl))

    pub all_counted : (arms : ℕ) (r : Option Visit) → All arms ≡ policy_head (get_or W at 0) false → (arms ≡ 0 → ⊥) →
        Counts wordss (holds_ps false T) (nodes_ps false T) (at + 1) allowance (n + 1) (many pnil pcons (read_policy false (depth - 1)) arms (drop (at + 1) W)) r → CountsP depth r
    unfolding policy_node
    all_counted arms r e f c =
        let one : List ℕ → Parsed (Policy Outcome) = λ vs. read_policy false (depth - 1) vs in
        by_head (All arms) r e
        (below wordss (holds_ps false T) (nodes_ps false T) words (holds_p T) (nodes_p T) at allowance n (many pnil pcons one arms (drop (at + 1) W)) all r
        (λ ts vs q. (some_arm pnil pcons one (λ l. holds_p T (all l) ≡ holds_ps false T l) (λ t l. refl) arms (drop (at + 1) W) f ts vs q, (refl, refl))) c)

    pub any_counted : (arms : ℕ) (r : Option Visit) → Any arms ≡ policy_head (get_or W at 0) false →
        Counts wordss (holds_any T false) (nodes_any T) (at + 1) allowance (n + 1) (many pnil pcons (read_policy false (depth - 1)) arms (drop (at + 1) W)) r → CountsP depth r
    unfolding policy_node
    any_counted arms r e c =
        by_head (Any arms) r e
        (below wordss (holds_any T false) (nodes_any T) words (holds_p T) (nodes_p T) at allowance n (many pnil pcons (λ vs. read_policy false (depth - 1) vs) arms (drop (at + 1) W)) any r
        (λ ts vs q. (refl, (refl, refl))) c)

    -- An OrElse is a list of two, up to a permit.
    or_second : (a : Policy Outcome) (q : Parsed (Policy Outcome)) (r : Option Visit) →
        Counts wordss (holds_ps true T) (nodes_ps true T) (at + 1) allowance (n + 1) (next (next q (λ b us. got (pcons b pnil) us)) (λ ts us. got (pcons a ts) us)) r →
        Counts words (holds_p T) (nodes_p T) at allowance n (next q (λ b us. got (or_else a b) us)) r
    or_second a (refuse m) r c = record { says = nothing }
    or_second a (got b us) r c = record { says = fine (c.says.it ∙ counted_as allowance (omega arith) refl (omega arith)) }

    or_first_lem : (q : Parsed (Policy Outcome)) (k : List ℕ → Parsed (Policy Outcome)) (r : Option Visit) →
        Counts wordss (holds_ps true T) (nodes_ps true T) (at + 1) allowance (n + 1) (next q (λ a vs. next (next (k vs) (λ b us. got (pcons b pnil) us)) (λ ts us. got (pcons a ts) us))) r →
        Counts words (holds_p T) (nodes_p T) at allowance n (next q (λ a vs. next (k vs) (λ b us. got (or_else a b) us))) r
    or_first_lem (refuse m) k r c = record { says = nothing }
    or_first_lem (got a vs) k r c = or_second a (k vs) r c

    pub or_counted : (r : Option Visit) → OrElse ≡ policy_head (get_or W at 0) false →
        Counts wordss (holds_ps true T) (nodes_ps true T) (at + 1) allowance (n + 1) (many pnil pcons (read_policy false (depth - 1)) 2 (drop (at + 1) W)) r → CountsP depth r
    unfolding policy_node
    or_counted r e c = by_head OrElse r e (or_first_lem (read_policy false (depth - 1) (drop (at + 1) W)) (λ vs. read_policy false (depth - 1) vs) r c)

    pub no_permit_trace : (k o : ℕ) (r : Option Visit) → PermitWithTrace k o ≡ policy_head (get_or W at 0) false → CountsP depth r
    no_permit_trace k o r e = absurd (of_sheet (get_or W at 0) (PermitWithTrace k o) e)

    pub no_deny_trace : (shape : DenyShape) (denied : Option ℕ) (r : Option Visit) → DenyWithTrace shape denied ≡ policy_head (get_or W at 0) false → CountsP depth r
    no_deny_trace shape denied r e = absurd (of_sheet (get_or W at 0) (DenyWithTrace shape denied) e)

    pub bad_kind : (r : Option Visit) → BadKind ≡ policy_head (get_or W at 0) false → CountsP depth r
    unfolding policy_node
    bad_kind r e = by_head BadKind r e (record { says = nothing })

    pub bad_field : (r : Option Visit) → BadField ≡ policy_head (get_or W at 0) false → CountsP depth r
    unfolding policy_node
    bad_field r e = by_head BadField r e (record { says = nothing })

  -- ---- a Grant of three words: two nodes
  module _ (plain : plain_grant (drop at W) ≡ true) where
    plain_says : (r : Option Visit) → ((v : Bool) → v ≡ is_present (T (get_or W (at + 2) 0 % 1024)) → r ≡ counted_by allowance (n + 2) v (at + 3)) → (depth : ℕ) → CountsP depth r
    plain_says r p depth = record {
      says = weaker (read_policy false depth (drop at W)) (λ t rest e.
          let reads = follows_got (deeper product_sets.value false depth (suc (suc depth)) (drop at W) (omega arith)) e in
          let is : t ≡ plain_policy (get_or W at 0) (get_or W (at + 2) 0) = (let both = sym reads ∙ plain_reads W at plain true depth in let s : t ≡ plain_policy (get_or W at 0) (get_or W (at + 2) 0) = cc in s) in
          p (is_present (T (get_or W (at + 2) 0 % 1024))) refl
          ∙ counted_as allowance (omega (arith, ap (nodes_p T) is)) (has_value (get_or W (at + 2) 0 % 1024) (T (get_or W (at + 2) 0 % 1024)) ∙ sym (ap (holds_p T) is)) (omega (arith, ap words is)))
          (itself (read_policy false depth (drop at W)));
    }

    pub plain_counted : (v : Bool) (r : Option Visit) → v ≡ is_present (T (get_or W (at + 2) 0 % 1024)) → r ≡ counted_by allowance (n + 2) v (at + 3) → (depth : ℕ) → CountsP depth r
    plain_counted v r i p = plain_says r (λ w j. p ∙ counted_as allowance refl (i ∙ sym j) refl)

    pub plain_over : allowance < n + 2 → (depth : ℕ) → CountsP depth None
    plain_over h = plain_says None (λ v j. over_is allowance (n + 2) v (at + 3) h)

-- ---- arms
skipped : {A : Type 0} (size : A → ℕ) (at n : ℕ) (q : Parsed A) → Skipped size at q n → Holds (λ a rest. n ≡ at + size a) q
unfolding Skipped
skipped size at n (refuse k) h = nothing
skipped size at n (got a rest) h = fine h

module _ (stop : Bool) (T : Table) (W : List ℕ) (depth allowance : ℕ) where
  pub policies_none : (at arms n : ℕ) (r : Option Visit) → arms ≡ 0 → r ≡ counted_by allowance n (not stop) at → CountsPs T W at allowance n stop depth arms r
  policies_none at arms n r z e =
      arms_none pnil pcons words wordss (holds_p T) (nodes_p T) refl (λ a b. refl) (read_policy false depth) (policy_leaves false depth) W allowance (holds_ps stop T) (nodes_ps stop T) at arms n z refl r e

  module _ (at arms n : ℕ) (some : arms ≡ 0 → ⊥) where
    pub policies_over : CountsP T W at allowance n depth None → CountsPs T W at allowance n stop depth arms None
    policies_over c =
        arm_over pnil pcons words wordss (holds_p T) (nodes_p T) refl (λ a b. refl) (read_policy false depth) (policy_leaves false depth) W allowance (holds_ps stop T) (nodes_ps stop T) at arms n some
        (λ a b. omega arith) c

    module _ (w : Visit) (r : Option Visit) (first : CountsP T W at allowance n depth (Some w)) where
      pub policies_more : beq w.holds stop ≡ false → CountsPs T W w.next allowance w.nodes stop depth (arms - 1) r → CountsPs T W at allowance n stop depth arms r
      policies_more d rest =
          arm_first pnil pcons words wordss (holds_p T) (nodes_p T) refl (λ a b. refl) (read_policy false depth) (policy_leaves false depth) W allowance
          (holds_ps stop T) (holds_ps stop T) (nodes_ps stop T) (nodes_ps stop T) at arms n w r some first
          (λ a b v. go_on_at (holds_p T a) w.holds stop (nodes_p T a) (nodes_ps stop T b) (holds_ps stop T b) v d) rest

      pub policies_stop : beq w.holds stop ≡ true → (end : ℕ) → ((depth : ℕ) (res : Bool) → Skipped wordss w.next (many pnil pcons (read_policy res depth) (arms - 1) (drop w.next W)) end) →
          r ≡ counted_by allowance w.nodes stop end → CountsPs T W at allowance n stop depth arms r
      policies_stop d end k p =
          arm_first pnil pcons words wordss (holds_p T) (nodes_p T) refl (λ a b. refl) (read_policy false depth) (policy_leaves false depth) W allowance
          (holds_ps stop T) (λ _. stop) (nodes_ps stop T) (λ _. 0) at arms n w r some first
          (λ a b v. stops_at (holds_p T a) w.holds stop (nodes_p T a) (nodes_ps stop T b) (holds_ps stop T b) v d)
          (arms_passed pnil pcons words wordss (holds_p T) (nodes_p T) refl (λ a b. refl) (read_policy false depth) (policy_leaves false depth) W allowance stop w.next (arms - 1) w.nodes end r p
          (skipped wordss w.next end (many pnil pcons (read_policy false depth) (arms - 1) (drop w.next W)) (k depth false)))

-- Every arm of an Any.
module _ (T : Table) (W : List ℕ) (depth allowance : ℕ) where
  pub any_none : (sofar : Bool) (at arms n : ℕ) (r : Option Visit) → arms ≡ 0 → r ≡ counted_by allowance n sofar at → CountsAny T W at allowance n sofar depth arms r
  any_none sofar at arms n r z e =
      arms_none pnil pcons words wordss (holds_p T) (nodes_p T) refl (λ a b. refl) (read_policy false depth) (policy_leaves false depth) W allowance (holds_any T sofar) (nodes_any T) at arms n z refl r e

  pub any_over : (sofar : Bool) (at arms n : ℕ) → (arms ≡ 0 → ⊥) → CountsP T W at allowance n depth None → CountsAny T W at allowance n sofar depth arms None
  any_over sofar at arms n some c =
      arm_over pnil pcons words wordss (holds_p T) (nodes_p T) refl (λ a b. refl) (read_policy false depth) (policy_leaves false depth) W allowance (holds_any T sofar) (nodes_any T) at arms n some
      (λ a b. omega arith) c

  pub any_more : (sofar : Bool) (at arms n : ℕ) → (arms ≡ 0 → ⊥) → (w : Visit) (r : Option Visit) → CountsP T W at allowance n depth (Some w) → (now : Bool) → now ≡ (sofar || w.holds) →
      CountsAny T W w.next allowance w.nodes now depth (arms - 1) r → CountsAny T W at allowance n sofar depth arms r
  any_more sofar at arms n some w r first now is rest =
      arm_first pnil pcons words wordss (holds_p T) (nodes_p T) refl (λ a b. refl) (read_policy false depth) (policy_leaves false depth) W allowance
      (holds_any T sofar) (holds_any T now) (nodes_any T) (nodes_any T) at arms n w r some first
      (λ a b v. (refl, ap (λ x. holds_any T (sofar || x) b) v ∙ ap (λ x. holds_any T x b) (sym is))) rest

-- ---- a sheet
whole_holds : {Q : Policy Outcome → List ℕ → Type 0} (q : Parsed (Policy Outcome)) → ((t : Policy Outcome) → Q t [] → Q t []) → Holds Q q → Holds (λ t _. Q t []) (whole q)
whole_holds (refuse n) f h = nothing
whole_holds (got t []) f h = fine h.it
whole_holds (got t (w ∷ ws)) f h = nothing

module _ (T : Table) (W : List ℕ) (allowance : ℕ) (r : Option ℕ) where
  sheet_says : ((t : Policy Outcome) (rest : List ℕ) → read_policy false 32 W ≡ got t rest → r ≡ visits_within allowance (nodes_p T t)) → CountsSheet T W allowance r
  sheet_says f = record {
    says = λ g. if_holds (sheet_length W) 1 (whole (read_policy false 32 W)) (λ _.
        weaker (whole (read_policy false 32 W)) (λ t rest e. e ∙ ap (visits_within allowance) (sym (visits_are (outcomes_of g) T t)))
        (whole_holds {Q = λ t _. r ≡ visits_within allowance (nodes_p T t)} (read_policy false 32 W) (λ t e. e) (weaker (read_policy false 32 W) f (itself (read_policy false 32 W)))));
  }

  pub sheet_within : (w : Visit) → CountsP T W 0 allowance 0 32 (Some w) → r ≡ Some w.nodes → CountsSheet T W allowance r
  sheet_within w c p = sheet_says (λ t rest q.
      let was = was_within allowance w (holds_p T t) (0 + words t) (0 + nodes_p T t) (held_at c.says q) in
      let same : w.nodes ≡ nodes_p T t = omega (arith, was.nodes_are) in
      p ∙ ap Some same ∙ sym (ap (λ b. cond b (Some (nodes_p T t)) None) (le-leb (nodes_p T t) allowance (omega (arith, was.fits)))))

  pub sheet_over : CountsP T W 0 allowance 0 32 None → r ≡ None → CountsSheet T W allowance r
  sheet_over c p = sheet_says (λ t rest q.
      p ∙ sym (ap (λ b. cond b (Some (nodes_p T t)) None) (lt-leb (nodes_p T t) allowance (omega (arith, was_over allowance (0 + nodes_p T t) (holds_p T t) (0 + words t) (held_at c.says q))))))
