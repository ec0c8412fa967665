-- The clause of a node that reads, by its head and its words: a grant's, a stored decision's, and none. Assumes nothing.
use mathlib.Core.Path.{◌≡◌, refl, sym, ◌∙◌, ap, ap₂, subst}
use mathlib.Core.Bool.{Bool, true, false}
use mathlib.Core.Option.{none, some}
use mathlib.Core.List.{List, [], ◌∷◌}
use Prim.Native.Nat.{ℕ, suc, ◌+◌, ◌/◌, ◌%◌, ◌≤◌, ◌<◌}
use native.Mathlib.Omega.{arith}
use borrow.Author.Tests.{ltb-true}
use lib.Dec.{ltb}
use lib.ListN.{length, take, drop, get_or}
use lib.Seq.{length-take-le, drop-drop, get_or-drop}
use Rattle.std.specs.Prelude as prelude
use Rattle.model.specs.Fields.{words_for}
use Rattle.model.specs.Facts.{Table}
use Rattle.model.specs.Condition.{Condition, eval_condition}
use Rattle.model.specs.Decision.{Denial, permits, denies, generic_deny}
use Rattle.model.specs.Decision.{Decision as Decided}
use Rattle.model.specs.Policy.{Policy, grant, pnil, pcons}
use Rattle.model.specs.Writing.{obligation_bits, entry_bits, most_listed}
use Rattle.model.specs.Reading.{Parsed, got, read_list, obligation, listed, mark, many, shape_of, read_condition}
use Rattle.model.specs.Products.{Outcome, read_policy}
use Rattle.laws.proofs.FieldLaws.{Holds, fine, nothing, if_holds, weaker, then_holds, itself, anything}
use Rattle.laws.proofs.ReadForm.{read_obligations}
use Rattle.policy_model.specs.declared.DenyShape.{DenyShape}
use Rattle.policy_model.specs.declared.DenyShape.TheVariants.{Forbidden}
use Rattle.policy_model.specs.declared.PolicyHead.{PolicyHead}
use Rattle.policy_model.specs.declared.PolicyHead.TheVariants.{Permit, Deny, Grant, All, Any, OrElse, PermitWithTrace, DenyWithTrace, BadKind, BadField}
use Rattle.policy_model.specs.Heads.{policy_head, bit_of, denied_by, grant_node, permit_trace_node, deny_trace_node, policy_node}
use Rattle.policy_model.proofs.Skipping.{grant_says}
use Rattle.grant.specs.Fields.{obligations_at, before_condition_at}
use Rattle.decision.specs.Nodes.{reached, named, clause_of_d, clause_of, clause_read, clause_at}
use Rattle.decision.specs.Meaning.{Stands, past, reads, Names}
use Rattle.decision.proofs.Nodes.{node_there, reached_is, no_clause}
use Rattle.decisive.specs.declared.Named.{Named}
use Rattle.decisive.specs.Naming.{eval_of, Decisive}
use Rattle.decisive.specs.NamingLaws.{told}
use Rattle.record.specs.Nodes.{mark_in, denial_of}
use Rattle.record.specs.NodeLaws.{mark_in_read}
use Rattle.record.specs.declared.Clause.{Clause}
use Rattle.clause.specs.Clauses.{clause_by}
use Rattle.clause.specs.Answers.{FactsListed, ClauseFacts, ClauseIs}

-- ---- what was read

-- A grant, a stored permit and a stored deny, by the words after the first one.
pub record GrantThere (pc : List ℕ → Parsed Condition) (shape : DenyShape) (o n : ℕ) (ws : List ℕ) (t : Policy Outcome) (us : List ℕ) : Type 0 where
  pub condition : Condition
  pub obligations : List ℕ
  pub is : t ≡ grant (record { outcome = o; obligations = obligations; label = mark_in (get_or ws 0 0 / 65536); reason = mark_in (get_or ws 0 0 % 65536); shape = shape_of (bit_of shape) }) condition
  pub read : pc (drop (suc (words_for 4 n)) ws) ≡ got condition us

pub record PermitThere (o n : ℕ) (ws : List ℕ) (d : Decided Outcome) (us : List ℕ) : Type 0 where
  pub obligations : List ℕ
  pub facts : List ℕ
  pub is : d ≡ permits (record { outcome = o; obligations = obligations; label = mark_in (get_or ws 0 0 / 65536); facts = facts })
  pub few : get_or ws 0 0 % 65536 ≤ most_listed
  pub read : read_list listed entry_bits (get_or ws 0 0 % 65536) (drop (suc (words_for 4 n)) ws) ≡ got facts us

pub record DenyThere (shape : DenyShape) (denied : prelude.Option ℕ) (ws : List ℕ) (d : Decided Outcome) (us : List ℕ) : Type 0 where
  pub facts : List ℕ
  pub is : d ≡ denies (clause_by (get_or ws 0 0 / 65536) (get_or ws 0 0 % 65536) shape (denied_by denied) facts)
  pub few : get_or ws 1 0 ≤ most_listed
  pub read : read_list listed entry_bits (get_or ws 1 0) (drop 2 ws) ≡ got facts us

grant_there : (pc : List ℕ → Parsed Condition) (shape : DenyShape) (n o : ℕ) (ws : List ℕ) → Holds (GrantThere pc shape o n ws) (grant_node pc shape n o ws)
unfolding grant_node
grant_there pc shape n o [] = nothing
grant_there pc shape n o (w ∷ ws) =
    then_holds (mark (w / 65536)) _ (mark_in_read (w / 65536)) (λ l _ el.
    then_holds (mark (w % 65536)) _ (mark_in_read (w % 65536)) (λ m _ em.
    then_holds (read_list obligation obligation_bits n ws) _ (read_obligations n ws) (λ os vs ev.
    then_holds (pc vs) _ (itself (pc vs)) (λ c us ec.
    fine (record {
      condition = c;
      obligations = os;
      is = ap₂ (λ x y. grant (record { outcome = o; obligations = os; label = x; reason = y; shape = shape_of (bit_of shape) }) c) (sym el) (sym em);
      read = ap pc ev.left ∙ ec;
    })))))

permit_there : (n o : ℕ) (ws : List ℕ) → Holds (PermitThere o n ws) (permit_trace_node n o ws)
unfolding permit_trace_node
permit_there n o [] = nothing
permit_there n o (w ∷ ws) =
    then_holds (mark (w / 65536)) _ (mark_in_read (w / 65536)) (λ l _ el.
    if_holds (ltb (w % 65536) 4096) 8 _ (λ few.
    then_holds (read_list obligation obligation_bits n ws) _ (read_obligations n ws) (λ os vs ev.
    then_holds (read_list listed entry_bits (w % 65536) vs) _ (itself (read_list listed entry_bits (w % 65536) vs)) (λ fs us ef.
    fine (record {
      obligations = os;
      facts = fs;
      is = ap (λ x. permits (record { outcome = o; obligations = os; label = x; facts = fs })) (sym el);
      few = omega (arith, ltb-true (w % 65536) 4096 few);
      read = ap (read_list listed entry_bits (w % 65536)) ev.left ∙ ef;
    })))))

deny_there : (shape : DenyShape) (denied : prelude.Option ℕ) (ws : List ℕ) → Holds (DenyThere shape denied ws) (deny_trace_node shape denied ws)
unfolding deny_trace_node
deny_there shape denied [] = nothing
deny_there shape denied (w ∷ []) =
    then_holds (mark (w / 65536)) _ (anything (mark (w / 65536))) (λ l _ _. then_holds (mark (w % 65536)) _ (anything (mark (w % 65536))) (λ m _ _. nothing))
deny_there shape denied (w ∷ n ∷ ws) =
    then_holds (mark (w / 65536)) _ (mark_in_read (w / 65536)) (λ l _ el.
    then_holds (mark (w % 65536)) _ (mark_in_read (w % 65536)) (λ m _ em.
    if_holds (ltb n 4096) 8 _ (λ few.
    then_holds (read_list listed entry_bits n ws) _ (itself (read_list listed entry_bits n ws)) (λ fs us ef.
    fine (record {
      facts = fs;
      is = ap₂ (λ x y. denies (record { denied = denied_by denied; facts = fs; label = x; reason = y; shape = shape_of (bit_of shape) })) (sym el) (sym em);
      few = omega (arith, ltb-true n 4096 few);
      read = ef;
    })))))

-- The other nodes name nothing.
pub record Nameless (h : PolicyHead) : Type 0 where
  pub no_grant : (shape : DenyShape) (n o : ℕ) → h ≡ Grant shape n o → ⊥
  pub no_permit : (n o : ℕ) → h ≡ PermitWithTrace n o → ⊥
  pub no_deny : (shape : DenyShape) (denied : prelude.Option ℕ) → h ≡ DenyWithTrace shape denied → ⊥

none_there : (pc : List ℕ → Parsed Condition) (p : List ℕ → Parsed (Policy Outcome)) (T : Table) (h : PolicyHead) (ws : List ℕ) → Nameless h →
    Holds (λ t _. generic_deny ≡ clause_of T t) (policy_node pc p h ws)
unfolding policy_node
none_there pc p T (Permit o) ws k = fine refl
none_there pc p T Deny ws k = fine refl
none_there pc p T (Grant shape n o) ws k = absurd (k.no_grant shape n o refl)
none_there pc p T (All n) ws k = then_holds (many pnil pcons p n ws) _ (anything (many pnil pcons p n ws)) (λ ts vs _. fine refl)
none_there pc p T (Any n) ws k = then_holds (many pnil pcons p n ws) _ (anything (many pnil pcons p n ws)) (λ ts vs _. fine refl)
none_there pc p T OrElse ws k = then_holds (p ws) _ (anything (p ws)) (λ a vs _. then_holds (p vs) _ (anything (p vs)) (λ b us _. fine refl))
none_there pc p T (PermitWithTrace n o) ws k = absurd (k.no_permit n o refl)
none_there pc p T (DenyWithTrace shape denied) ws k = absurd (k.no_deny shape denied refl)
none_there pc p T BadKind ws k = nothing
none_there pc p T BadField ws k = nothing

-- ---- by position
abbrev condition_below : List ℕ → Parsed Condition
condition_below vs = read_condition 31 vs

abbrev policy_below : List ℕ → Parsed (Policy Outcome)
policy_below vs = read_policy true 31 vs

-- What holds of the clause of every node that reads with this head holds of the clause there.
clause_there : (words : List ℕ) (at : ℕ) (T : Table) (h : PolicyHead) (Q : Denial Outcome → Type 0) → at < length words → h ≡ policy_head (get_or words at 0) true →
    Holds (λ t _. Q (clause_of T t)) (policy_node condition_below policy_below h (drop (at + 1) words)) → Stands words at → Q (clause_at words T (prelude.Some at))
unfolding clause_at
clause_there words at T h Q here e k (past p) = let z : ⊥ = omega arith in absurd z
clause_there words at T h Q here e k (reads t vs r) =
    let there : policy_node condition_below policy_below h (drop (at + 1) words) ≡ got t vs =
    ap (λ x. policy_node condition_below policy_below x (drop (at + 1) words)) e ∙ sym (node_there words at here) ∙ r in
    let k₁ : Holds (λ t _. Q (clause_of T t)) (got t vs) = subst (Holds (λ t _. Q (clause_of T t))) there k in
    subst (λ q. Q (clause_read T q)) (sym r) k₁.it

clause_has : (words : List ℕ) (place : prelude.Option ℕ) (at : ℕ) (T : Table) (h : PolicyHead) (Q : Denial Outcome → Type 0) → prelude.Some at ≡ reached words place →
    h ≡ policy_head (get_or words at 0) true → Holds (λ t _. Q (clause_of T t)) (policy_node condition_below policy_below h (drop (at + 1) words)) → Names words place → Q (clause_at words T place)
clause_has words place at T h Q reach e k =
    let r = reached_is words place at reach in
    rw r.0 (clause_there words at T h Q r.1 e k)

-- Words after the first ones.
later : (words : List ℕ) (at m k : ℕ) → at + 1 + suc m ≡ k → drop (suc m) (drop (at + 1) words) ≡ drop k words
later words at m k e = drop-drop (suc m) (at + 1) words ∙ ap (λ i. drop i words) e

word_later : (words : List ℕ) (at i k : ℕ) → at + 1 + i ≡ k → get_or (drop (at + 1) words) i 0 ≡ get_or words k 0
word_later words at i k e = get_or-drop (at + 1) words i 0 ∙ ap (λ j. get_or words j 0) e

-- ---- facts
pub counted : (words : List ℕ) (T : Table) (place : prelude.Option ℕ) (out : List ℕ) (r : ℕ) → r ≤ length out → (Names words place → take r out ≡ (clause_at words T place).facts) → ClauseFacts words T place out r
counted words T place out r h f = record { within = h; front = f; number = λ n. sym (length-take-le r out h) ∙ ap length (f n) }

named_of : (b : Bool) (fs : List ℕ) → named (eval_of b fs) ≡ fs
named_of true fs = refl
named_of false fs = refl

module _ (words : List ℕ) (T : Table) (place : prelude.Option ℕ) (out : List ℕ) where
  pub facts_past : prelude.None ≡ reached words place → ClauseFacts words T place out 0
  facts_past e = counted words T place out 0 (omega arith) (λ _. ap (λ (d : Denial Outcome). d.facts) (sym (no_clause words T place e)))

  module _ (at : ℕ) (h : PolicyHead) (here : prelude.Some at ≡ reached words place) (head : h ≡ policy_head (get_or words at 0) true) where
    pub facts_none : Nameless h → ClauseFacts words T place out 0
    facts_none k =
        counted words T place out 0 (omega arith)
        (clause_has words place at T h (λ d. [] ≡ d.facts) here head
        (weaker (policy_node condition_below policy_below h (drop (at + 1) words)) (λ t vs e. ap (λ (d : Denial Outcome). d.facts) e) (none_there condition_below policy_below T h (drop (at + 1) words) k)))

  pub facts_grant : (at : ℕ) (shape : DenyShape) (n o start : ℕ) (r : Named) → prelude.Some at ≡ reached words place → Grant shape n o ≡ policy_head (get_or words at 0) true → start ≡ at + before_condition_at words at →
      Decisive T start (read_condition 31 (drop start words)) out r → ClauseFacts words T place out r.count
  unfolding policy_node
  facts_grant at shape n o start r here head s d =
      let words_of : words_for 4 n ≡ words_for 4 (obligations_at words at) = ap (words_for 4) (grant_says true (get_or words at 0) shape n o head).0 in
      counted words T place out r.count d.within
      (clause_has words place at T (Grant shape n o) (λ q. take r.count out ≡ q.facts) here head
      (weaker (grant_node condition_below shape n o (drop (at + 1) words))
      (λ t us g.
      let place : read_condition 31 (drop start words) ≡ got g.condition us = ap (read_condition 31) (sym (later words at (words_for 4 n) start (omega arith))) ∙ g.read in
      sym (ap (λ x. (clause_of T x).facts) g.is ∙ ap named (told g.condition us place d).value_is ∙ named_of r.satisfied (take r.count out)))
      (grant_there condition_below shape n o (drop (at + 1) words))))

  -- A stored decision's list was read where the code reads it.
  list_is : (start count r : ℕ) (fs us : List ℕ) → FactsListed words start count out r → count ≤ most_listed → read_list listed entry_bits count (drop start words) ≡ got fs us → take r out ≡ fs
  list_is start count r fs us l few e = (subst (Holds (λ gs _. take r out ≡ gs)) e (l.front few)).it

  pub facts_permit : (at n o start count r : ℕ) → prelude.Some at ≡ reached words place → PermitWithTrace n o ≡ policy_head (get_or words at 0) true → start ≡ at + 2 + words_for 4 n → count ≡ get_or words (at + 1) 0 % 65536 →
      FactsListed words start count out r → ClauseFacts words T place out r
  unfolding policy_node
  facts_permit at n o start count r here head s e l =
      let second : get_or (drop (at + 1) words) 0 0 % 65536 ≡ count = ap (λ w. w % 65536) (word_later words at 0 (at + 1) (omega arith)) ∙ sym e in
      counted words T place out r l.within
      (clause_has words place at T (PermitWithTrace n o) (λ q. take r out ≡ q.facts) here head
      (then_holds (permit_trace_node n o (drop (at + 1) words)) _ (permit_there n o (drop (at + 1) words))
      (λ d us g.
      let place : read_list listed entry_bits count (drop start words) ≡ got g.facts us =
      ap₂ (read_list listed entry_bits) (sym second) (sym (later words at (words_for 4 n) start (omega arith))) ∙ g.read in
      let few : count ≤ most_listed = omega (arith, g.few) in
      fine (list_is start count r g.facts us l few place ∙ sym (ap (λ x. (clause_of_d x).facts) g.is)))))

  pub facts_deny : (at : ℕ) (shape : DenyShape) (denied : prelude.Option ℕ) (start count r : ℕ) → prelude.Some at ≡ reached words place → DenyWithTrace shape denied ≡ policy_head (get_or words at 0) true → start ≡ at + 3 → count ≡ get_or words (at + 2) 0 →
      FactsListed words start count out r → ClauseFacts words T place out r
  unfolding policy_node
  facts_deny at shape denied start count r here head s e l =
      let third : get_or (drop (at + 1) words) 1 0 ≡ count = word_later words at 1 (at + 2) (omega arith) ∙ sym e in
      counted words T place out r l.within
      (clause_has words place at T (DenyWithTrace shape denied) (λ q. take r out ≡ q.facts) here head
      (then_holds (deny_trace_node shape denied (drop (at + 1) words)) _ (deny_there shape denied (drop (at + 1) words))
      (λ d us g.
      let place : read_list listed entry_bits count (drop start words) ≡ got g.facts us =
      ap₂ (read_list listed entry_bits) (sym third) (sym (later words at 1 start (omega arith))) ∙ g.read in
      let few : count ≤ most_listed = omega (arith, g.few) in
      fine (list_is start count r g.facts us l few place ∙ sym (ap (λ x. (clause_of_d x).facts) g.is)))))

-- ---- the clause but for its facts
module _ (words : List ℕ) (place : prelude.Option ℕ) (r : Clause) where
  -- Its facts are its own.
  with_facts_lem : (d : Denial Outcome) (fs : List ℕ) → d ≡ denial_of r fs → d ≡ denial_of r d.facts
  with_facts_lem d fs e = e ∙ ap (denial_of r) (sym (ap (λ (q : Denial Outcome). q.facts) e))

  clause_none : ((fs : List ℕ) → denial_of r fs ≡ clause_by 0 0 Forbidden none fs) → (d : Denial Outcome) → generic_deny ≡ d → d ≡ denial_of r d.facts
  clause_none c d e = with_facts_lem d [] (sym e ∙ sym (c []))

  pub clause_past : prelude.None ≡ reached words place → ((fs : List ℕ) → denial_of r fs ≡ clause_by 0 0 Forbidden none fs) → ClauseIs words place r
  clause_past h c = record { is = λ T _. clause_none c (clause_at words T place) (sym (no_clause words T place h)) }

  module _ (at : ℕ) (here : prelude.Some at ≡ reached words place) where
    pub clause_other : (h : PolicyHead) → h ≡ policy_head (get_or words at 0) true → Nameless h →
        ((fs : List ℕ) → denial_of r fs ≡ clause_by 0 0 Forbidden none fs) → ClauseIs words place r
    clause_other h head k c =
        record {
          is = λ T.
              clause_has words place at T h (λ d. d ≡ denial_of r d.facts) here head
              (weaker (policy_node condition_below policy_below h (drop (at + 1) words)) (λ t vs e. clause_none c (clause_of T t) e) (none_there condition_below policy_below T h (drop (at + 1) words) k));
        }

    pub clause_grant : (shape : DenyShape) (n o marks : ℕ) → Grant shape n o ≡ policy_head (get_or words at 0) true → marks ≡ get_or words (at + 1) 0 →
        ((fs : List ℕ) → denial_of r fs ≡ clause_by (marks / 65536) (marks % 65536) shape (some o) fs) → ClauseIs words place r
    unfolding policy_node
    clause_grant shape n o marks head e c =
        let second : get_or (drop (at + 1) words) 0 0 ≡ marks = word_later words at 0 (at + 1) (omega arith) ∙ sym e in
        record {
          is = λ T.
              clause_has words place at T (Grant shape n o) (λ d. d ≡ denial_of r d.facts) here head
              (weaker (grant_node condition_below shape n o (drop (at + 1) words))
              (λ t us g.
              let fs = named (eval_condition T g.condition) in
              with_facts_lem (clause_of T t) fs (ap (clause_of T) g.is ∙ ap (λ w. clause_by (w / 65536) (w % 65536) shape (some o) fs) second ∙ sym (c fs)))
              (grant_there condition_below shape n o (drop (at + 1) words)));
        }

    pub clause_permit : (n o marks : ℕ) → PermitWithTrace n o ≡ policy_head (get_or words at 0) true → marks ≡ get_or words (at + 1) 0 →
        ((fs : List ℕ) → denial_of r fs ≡ clause_by (marks / 65536) 0 Forbidden none fs) → ClauseIs words place r
    unfolding policy_node
    clause_permit n o marks head e c =
        let second : get_or (drop (at + 1) words) 0 0 ≡ marks = word_later words at 0 (at + 1) (omega arith) ∙ sym e in
        record {
          is = λ T.
              clause_has words place at T (PermitWithTrace n o) (λ d. d ≡ denial_of r d.facts) here head
              (then_holds (permit_trace_node n o (drop (at + 1) words)) _ (permit_there n o (drop (at + 1) words))
              (λ d us g. fine (with_facts_lem (clause_of_d d) g.facts (ap clause_of_d g.is ∙ ap (λ w. clause_by (w / 65536) 0 Forbidden none g.facts) second ∙ sym (c g.facts)))));
        }

    pub clause_deny : (shape : DenyShape) (denied : prelude.Option ℕ) (marks : ℕ) → DenyWithTrace shape denied ≡ policy_head (get_or words at 0) true → marks ≡ get_or words (at + 1) 0 →
        ((fs : List ℕ) → denial_of r fs ≡ clause_by (marks / 65536) (marks % 65536) shape (denied_by denied) fs) → ClauseIs words place r
    unfolding policy_node
    clause_deny shape denied marks head e c =
        let second : get_or (drop (at + 1) words) 0 0 ≡ marks = word_later words at 0 (at + 1) (omega arith) ∙ sym e in
        record {
          is = λ T.
              clause_has words place at T (DenyWithTrace shape denied) (λ d. d ≡ denial_of r d.facts) here head
              (then_holds (deny_trace_node shape denied (drop (at + 1) words)) _ (deny_there shape denied (drop (at + 1) words))
              (λ d us g. fine (with_facts_lem (clause_of_d d) g.facts (ap clause_of_d g.is ∙ ap (λ w. clause_by (w / 65536) (w % 65536) shape (denied_by denied) g.facts) second ∙ sym (c g.facts)))));
        }
