-- What a condition reduces to and what it consults, from what is known of its parts. Assumes nothing.
use mathlib.Core.Path.{◌≡◌, refl, sym, ap, subst, ◌∙◌}
use mathlib.Core.Bool.{Bool, true, false}
use mathlib.Core.List.{List}
use mathlib.Core.Logic.{◌⊎◌, ⊎_elim}
use Prim.Native.Nat.{ℕ, zero, suc, ◌+◌, ◌-◌, ◌/◌, ◌%◌, ◌≤◌, ◌<◌}
use native.Mathlib.Omega.{arith}
use lib.ListN.{length, drop, get_or, set}
use Rattle.model.specs.Facts.{unknown, Table}
use Rattle.model.specs.Condition.{not_c, all_c, any_c, Conditions, cnil, ccons}
use Rattle.model.specs.Partial.{known, pending_c, reduce_has, flip_r, end_all_c, reduce_condition, reduce_condition_all}
use Rattle.model.specs.Partial as model
use Rattle.model.specs.Writing.{word}
use Rattle.model.specs.Reading.{got, many, read_condition}
use Rattle.laws.proofs.FieldLaws.{fine, nothing, then_holds, both_hold}
use Rattle.policy_model.specs.declared.ConditionHead.TheVariants.{Always, Never, Has, Not, All, Any, BadKind, BadField}
use Rattle.policy_model.specs.Heads.{condition_head, condition_node}
use Rattle.policy_model.specs.HeadLaws.{has_word}
use Rattle.facts.specs.Answers.{is_settled}
use Rattle.facts.specs.AnswerLaws.{settled_known, settled_consulted, has_value}
use Rattle.consulted.specs.Listing.{Lent}
use Rattle.consulted.proofs.Listing.{consults_as, consults_none}
use Rattle.decisive.proofs.Positions.{no_levels, by_head, Some, some_arms}
use Rattle.sizes.specs.Laid.{too_many}
use Rattle.sizes.specs.LaidLaws.{laid_word, laid_lead, laid_then}
use Rattle.condition.specs.Evaluating.{EvaluatesHas}
use Rattle.condition.proofs.Evaluating.{no_words}
use Rattle.partial_condition.specs.declared.Reduced.{Reduced}
use Rattle.partial_condition.specs.declared.Reduced.TheVariants.{Known, Pending}
use Rattle.partial_condition.specs.declared.ReducedCondition.{ReducedCondition}
use Rattle.partial_condition.specs.Reducing.{size_of, Left, ReducesC, ReducesHas, ReducesList}
use Rattle.partial_condition.specs.Holding.{Negates}
use Rattle.partial_condition.proofs.Laying.{Returned, laid_free}

-- ---- a condition that reads no fact
module _ (P : Table) (words : List ℕ) (at depth : ℕ) (s : Lent) (r : ReducedCondition) (out : List ℕ) (bound : size_of r.to ≤ too_many) where
  pub reduce_end : (length words ≤ at) ⊎ ((at < length words) × (depth ≡ 0)) → ReducesC P words at depth s r s out
  reduce_end h = record { bound = bound; says = ⊎_elim (λ e. no_words words at depth e) (λ z. no_levels depth (drop at words) z.1) h }

  module _ (lt : at < length words) (deep : depth ≡ 0 → ⊥) where
    pub reduce_bad_kind : BadKind ≡ condition_head (get_or words at 0) → ReducesC P words at depth s r s out
    unfolding condition_node
    reduce_bad_kind e = record { bound = bound; says = by_head words at depth BadKind lt deep e nothing }

    pub reduce_bad_field : BadField ≡ condition_head (get_or words at 0) → ReducesC P words at depth s r s out
    unfolding condition_node
    reduce_bad_field e = record { bound = bound; says = by_head words at depth BadField lt deep e nothing }

-- ---- a Has
-- A settled fact is known, and consulted.
pub has_settled : (P : Table) (f : ℕ) (s t : Lent) (value : Bool) (out : List ℕ) → is_settled (P f) ≡ true → EvaluatesHas P f s value t → ReducesHas P f s (Known value) t out
has_settled P f s t value out e a = record {
  bound = omega arith;
  left = subst (λ q. Left q (Known value) out) (sym (settled_known f (P f) e)) (ap Known (a.satisfied_is ∙ sym (has_value f (P f))));
  log = consults_as (λ l. settled_consulted l f (P f) e) a.log;
}

-- An Unknown fact is what is left, and isn't consulted.
pub has_unknown : (P : Table) (f : ℕ) (s : Lent) (before out : List ℕ) → P f ≡ unknown → out ≡ set before 0 (word 2 f) → ReducesHas P f s (Pending 1) s out
has_unknown P f s before out e w = record {
  bound = omega arith;
  left = subst (λ p. Left (reduce_has f p) (Pending 1) out) (sym e) (refl, rw w (laid_word (word 2 f) before));
  log = simp e consults_none;
}

-- ---- a Not: its word stands before what is left of the condition in it
not_left : (q : model.ReducedCondition) (a r : Reduced) (from : ℕ) (mid part before out : List ℕ) → Returned 1 from mid part before → Negates a before r out → Left q a part → Left (flip_r q) r out
not_left (known b) a r from mid part before out k n l = n.flips b l
not_left (pending_c c) a r from mid part before out k n l =
    let w = n.wraps (size_of a) l.0 in
    let behind = laid_then (laid_free mid) l.1 k.from_is k.part_long refl in
    rw w.0 (refl, rw w.1 (laid_lead (word 3 0) before (omega arith) (rw (sym k.back) at behind)))

-- ---- a condition by its head
module _ (P : Table) (words : List ℕ) (at depth : ℕ) (s : Lent) (lt : at < length words) (deep : depth ≡ 0 → ⊥) where
  module _ (r : Reduced) (t : Lent) (out : List ℕ) where
    abbrev Here : Type 0
    Here = ReducesC P words at depth s (record { to = r; next = at + 1 }) t out

    pub reduce_always : Always ≡ condition_head (get_or words at 0) → r ≡ Known true → t ≡ s → Here
    unfolding condition_node
    reduce_always e v n = rw (v, n) (record {
      bound = omega arith;
      says = by_head words at depth Always lt deep e (fine (record { left = refl; next_is = refl; log = consults_as (λ l. refl) consults_none }));
    })

    pub reduce_never : Never ≡ condition_head (get_or words at 0) → r ≡ Known false → t ≡ s → Here
    unfolding condition_node
    reduce_never e v n = rw (v, n) (record {
      bound = omega arith;
      says = by_head words at depth Never lt deep e (fine (record { left = refl; next_is = refl; log = consults_as (λ l. refl) consults_none }));
    })

    pub reduce_has_lem : (f : ℕ) → Has f ≡ condition_head (get_or words at 0) → ReducesHas P f s r t out → Here
    unfolding condition_node
    reduce_has_lem f e a = record { bound = a.bound; says = by_head words at depth (Has f) lt deep e (fine (record { left = a.left; next_is = refl; log = consults_as (λ l. refl) a.log })) }

    pub reduce_no_arms : All 0 ≡ condition_head (get_or words at 0) → r ≡ Known false → t ≡ s → Here
    unfolding condition_node
    reduce_no_arms e v n = rw (v, n) (record {
      bound = omega arith;
      says = by_head words at depth (All 0) lt deep e (fine (record { left = refl; next_is = refl; log = consults_as (λ l. refl) consults_none }));
    })

  module _ (r : ReducedCondition) (t : Lent) (out : List ℕ) where
    pub reduce_not : (a : ReducedCondition) (from : ℕ) (mid part before : List ℕ) → Not ≡ condition_head (get_or words at 0) → Returned 1 from mid part before → Negates a.to before r.to out → r.next ≡ a.next →
        ReducesC P words (at + 1) (depth - 1) s a t part → ReducesC P words at depth s r t out
    unfolding condition_node
    reduce_not a from mid part before e k n next inner = record {
      bound = n.bound;
      says = by_head words at depth Not lt deep e
          (then_holds (read_condition (depth - 1) (drop (at + 1) words)) (λ c vs. got (not_c c) vs) inner.says (λ c vs i. fine (record {
            left = not_left (reduce_condition P c) a.to r.to from mid part before out k n i.left;
            next_is = omega (arith, next, i.next_is);
            log = consults_as (λ l. refl) i.log;
          })));
    }

    with_arms : (cs : Conditions) → Some cs → Left (end_all_c (reduce_condition_all P cs)) r.to out → Left (reduce_condition P (all_c cs)) r.to out
    with_arms cnil k l = absurd k
    with_arms (ccons c cs) k l = l

    pub reduce_all : (n : ℕ) → All n ≡ condition_head (get_or words at 0) → (n ≡ 0 → ⊥) → ReducesList false P words (at + 1) (depth - 1) n s r t out → ReducesC P words at depth s r t out
    unfolding condition_node
    reduce_all n e f a = record {
      bound = a.bound;
      says = by_head words at depth (All n) lt deep e
          (then_holds (many cnil ccons (read_condition (depth - 1)) n (drop (at + 1) words)) (λ cs vs. got (all_c cs) vs)
          (both_hold (many cnil ccons (read_condition (depth - 1)) n (drop (at + 1) words)) a.says (some_arms (read_condition (depth - 1)) n (drop (at + 1) words) f)) (λ cs vs i.
          fine (record { left = with_arms cs i.1 i.0.left; next_is = omega (arith, i.0.next_is); log = consults_as (λ l. refl) i.0.log })));
    }

    pub reduce_any : (n : ℕ) → Any n ≡ condition_head (get_or words at 0) → ReducesList true P words (at + 1) (depth - 1) n s r t out → ReducesC P words at depth s r t out
    unfolding condition_node
    reduce_any n e a = record {
      bound = a.bound;
      says = by_head words at depth (Any n) lt deep e
          (then_holds (many cnil ccons (read_condition (depth - 1)) n (drop (at + 1) words)) (λ cs vs. got (any_c cs) vs) a.says (λ cs vs i.
          fine (record { left = i.left; next_is = omega (arith, i.next_is); log = consults_as (λ l. refl) i.log })));
    }

-- A word that one division shows to be a Has, of however many levels.
pub reduce_has_word : (P : Table) (words : List ℕ) (at depth : ℕ) (s : Lent) (r : Reduced) (t : Lent) (out : List ℕ) → at < length words → get_or words at 0 / 1024 ≡ 524288 →
    ReducesHas P (get_or words at 0 % 1024) s r t out → ReducesC P words at depth s (record { to = r; next = at + 1 }) t out
reduce_has_word P words at zero s r t out lt e a = record { bound = a.bound; says = no_levels 0 (drop at words) refl }
reduce_has_word P words at (suc depth) s r t out lt e a = reduce_has_lem P words at (suc depth) s lt (λ z. omega arith) r t out (get_or words at 0 % 1024) (has_word (get_or words at 0) e) a
