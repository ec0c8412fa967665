-- A walk over a condition in one loop: whatever answers it after a step answers it before. Assumes nothing.
use mathlib.Core.Path.{◌≡◌, refl, sym, ap, ◌∙◌}
use mathlib.Core.Bool.{Bool, true, false, not, cond, beq}
use mathlib.Core.List.{List, [], ◌∷◌}
use Prim.Native.Nat.{ℕ, zero, suc, ◌+◌, ◌-◌, ◌≤◌, ◌<◌}
use Rattle.std.specs.Prelude.{Option, None, Some}
use native.Mathlib.Numerals.{add-one}
use native.Mathlib.Omega.{arith}
use lib.ListN.{length, drop, get_or, set}
use lib.Seq.{drop-drop, get_or-set_same, get_or-set_other}
use Rattle.model.specs.Facts.{Table}
use Rattle.model.specs.Condition.{Condition, not_c, all_c, any_c, Conditions, cnil, ccons, satisfied, unsatisfied, both, either, eval_condition, eval_condition_all, eval_condition_any}
use Rattle.model.specs.Condition as model
use Rattle.model.specs.Consulted.{Consulted, after_true, after_false, read_c, read_all_c, read_any_c}
use Rattle.model.specs.Reading.{got, next, many, read_condition}
use Rattle.laws.proofs.FieldLaws.{Holds, fine, weaker, then_holds, both_hold}
use Rattle.laws.proofs.TruthLaws.{truth_flip}
use Rattle.laws.specs.Size.{words_c, words_cs}
use Rattle.laws.specs.Truth.{is_satisfied}
use Rattle.policy_model.specs.declared.ConditionHead.{ConditionHead}
use Rattle.policy_model.specs.declared.ConditionHead.TheVariants.{Always, Never, Has, Not, All, Any, BadKind, BadField}
use Rattle.policy_model.specs.Heads.{condition_head, condition_node}
use Rattle.policy_model.specs.Span.{SkippedConditions}
use Rattle.policy_model.proofs.Conditions.{condition_leaves}
use Rattle.condition.specs.declared.ConditionEval.{ConditionEval}
use Rattle.condition.specs.declared.OpenNode.{OpenNode}
use Rattle.condition.specs.declared.OpenNode.TheVariants.{Not as not_node, Arms}
use Rattle.condition.specs.declared.Node.TheVariants.{Value, Open}
use Rattle.condition.specs.declared.Node.TheVariants as node
use Rattle.consulted.specs.Listing.{Lent, Consults}
use Rattle.condition.specs.Evaluating.{answer_of, EvaluatesC, EvaluatesHas}
use Rattle.condition.specs.Walking.{node_of, opens, list_value, list_read, value_on, read_on, Known, Unread, Settles}
use Rattle.consulted.proofs.Listing.{consults_none, consults_then, consults_as}
use Rattle.condition.proofs.Evaluating.{no_levels, no_words, by_head, eval_value, eval_has_lem}

-- ---- a list rule by its first arm and the others
value_both : (x y : model.ConditionEval) → cond (beq (is_satisfied x) false) (is_satisfied x) (is_satisfied y) ≡ is_satisfied (both x y)
value_both (satisfied fs) (satisfied gs) = refl
value_both (satisfied fs) (unsatisfied gs) = refl
value_both (unsatisfied fs) y = refl

value_either : (x y : model.ConditionEval) → cond (beq (is_satisfied x) true) (is_satisfied x) (is_satisfied y) ≡ is_satisfied (either x y)
value_either (satisfied fs) y = refl
value_either (unsatisfied fs) (satisfied gs) = refl
value_either (unsatisfied fs) (unsatisfied gs) = refl

read_both : (x : model.ConditionEval) (here on : Consulted) → after_true x here on ≡ cond (beq (is_satisfied x) false) here on
read_both (satisfied fs) here on = refl
read_both (unsatisfied fs) here on = refl

read_either : (x : model.ConditionEval) (here on : Consulted) → after_false x here on ≡ cond (beq (is_satisfied x) true) here on
read_either (satisfied fs) here on = refl
read_either (unsatisfied fs) here on = refl

module _ (T : Table) (c : Condition) (cs : Conditions) where
  first_value : (stop : Bool) → value_on stop T (is_satisfied (eval_condition T c)) cs ≡ list_value stop T (ccons c cs)
  first_value false = value_both (eval_condition T c) (eval_condition_all T cs)
  first_value true = value_either (eval_condition T c) (eval_condition_any T cs)

  first_read : (stop : Bool) (l : Consulted) → list_read stop T (ccons c cs) l ≡ read_on stop T (is_satisfied (eval_condition T c)) cs (read_c T c l)
  first_read false l = read_both (eval_condition T c) (read_c T c l) (read_all_c T cs (read_c T c l))
  first_read true l = read_either (eval_condition T c) (read_c T c l) (read_any_c T cs (read_c T c l))

-- ---- what was consulted before
module _ (T : Table) (words : List ℕ) (r : ConditionEval) (t : Lent) where
  -- A walk from u is one from s, if `h` is consulted on the way from s to u.
  known_from : {s u : Lent} {h : Consulted → Consulted} → Consults h s u → (fs : List OpenNode) (d : ℕ) (v : Bool) (next : ℕ) (f g : Consulted → Consulted) → ((l : Consulted) → f l ≡ g (h l)) →
      Known T words u r t d fs v next g → Known T words s r t d fs v next f
  unfolding Known
  known_from a [] d v next f g e k = record { satisfied_is = k.satisfied_is; next_is = k.next_is; log = consults_as e (consults_then a k.log) }
  known_from a (not_node ∷ fs) d v next f g e k = known_from a fs (suc d) (not v) next f g e k
  known_from a (Arms stop n ∷ fs) d v next f g e k =
      weaker (many cnil ccons (read_condition d) n (drop next words)) (λ cs rest i.
      known_from a fs (suc d) (value_on stop T v cs) (next + words_cs cs) (λ l. read_on stop T v cs (f l)) (λ l. read_on stop T v cs (g l)) (λ l. ap (read_on stop T v cs) (e l)) i) k

  -- A condition that has its answer at once.
  pub at_once : {s u : Lent} {a : ConditionEval} (fs : List OpenNode) (d next : ℕ) → EvaluatesC T words next d s a u →
      Known T words u r t d fs a.satisfied a.next (λ l. l) → Unread T words s r t d fs next
  unfolding Unread
  at_once fs d next a k =
      weaker (read_condition d (drop next words)) (λ c rest i.
      known_from i.log fs d (is_satisfied (eval_condition T c)) (next + words_c c) (λ l. read_c T c l) (λ l. l) (λ l. refl) (rw (i.satisfied_is, i.next_is) at k)) a.says

-- ---- a list that is open
-- No arm leaves the value of the one before it, and consults nothing.
none_value : (T : Table) (v stop : Bool) → value_on stop T v cnil ≡ v
none_value T true true = refl
none_value T true false = refl
none_value T false true = refl
none_value T false false = refl

none_read : (T : Table) (v stop : Bool) (l : Consulted) → read_on stop T v cnil l ≡ l
none_read T true true l = refl
none_read T true false l = refl
none_read T false true l = refl
none_read T false false l = refl

module _ (T : Table) (words : List ℕ) (s : Lent) (r : ConditionEval) (t : Lent) (fs : List OpenNode) (d : ℕ) (stop : Bool) where
  -- Its next arm is to be read, with m after it: what is asked of a rule that has this value, and consults so, of a first arm and the others.
  module _ (value : Conditions → Bool) (read : Conditions → Consulted → Consulted)
      (value_is : (c : Condition) (cs : Conditions) → value_on stop T (is_satisfied (eval_condition T c)) cs ≡ value (ccons c cs))
      (read_is : (c : Condition) (cs : Conditions) (l : Consulted) → read (ccons c cs) l ≡ read_on stop T (is_satisfied (eval_condition T c)) cs (read_c T c l)) where
    first_of_lem : (at : ℕ) (c : Condition) (cs : Conditions) →
        Known T words s r t (suc d) fs (value_on stop T (is_satisfied (eval_condition T c)) cs) (at + words_c c + words_cs cs) (λ l. read_on stop T (is_satisfied (eval_condition T c)) cs (read_c T c l)) →
        Known T words s r t (suc d) fs (value (ccons c cs)) (at + words_cs (ccons c cs)) (λ l. read (ccons c cs) l)
    first_of_lem at c cs k =
        let end : at + words_c c + words_cs cs ≡ at + (words_c c + words_cs cs) = omega arith in
        known_from T words r t consults_none fs (suc d) (value (ccons c cs)) (at + words_cs (ccons c cs)) (λ l. read (ccons c cs) l)
        (λ l. read_on stop T (is_satisfied (eval_condition T c)) cs (read_c T c l)) (read_is c cs) (rw (value_is c cs, end) at k)

    arms_from : (m at : ℕ) → Unread T words s r t d (Arms stop m ∷ fs) at →
        Holds (λ cs rest. Known T words s r t (suc d) fs (value cs) (at + words_cs cs) (λ l. read cs l)) (many cnil ccons (read_condition d) (suc m) (drop at words))
    unfolding Known Unread
    arms_from m at k =
        then_holds (read_condition d (drop at words)) (λ c vs. next (many cnil ccons (read_condition d) m vs) (λ cs us. got (ccons c cs) us))
        (both_hold (read_condition d (drop at words)) k (condition_leaves d (drop at words))) (λ c vs h.
        let after : drop (at + words_c c) words ≡ vs = sym (drop-drop (words_c c) at words) ∙ h.1 in
        then_holds (many cnil ccons (read_condition d) m vs) (λ cs us. got (ccons c cs) us)
        (rw after at h.0) (λ cs us i. fine (first_of_lem at c cs i)))

  module _ (v : Bool) (at : ℕ) where
    -- An arm that decides: those after it are passed over.
    decided : (n end : ℕ) → beq v stop ≡ true → SkippedConditions words at n end → Known T words s r t (suc d) fs v end (λ l. l) → Known T words s r t d (Arms stop n ∷ fs) v at (λ l. l)
    unfolding Known
    decided n end e a k = weaker (many cnil ccons (read_condition d) n (drop at words)) (λ cs rest i. rw e (rw i at k)) (a.ends d)

    -- One that does not, and no arm after it; or more.
    ended : (end : ℕ) → SkippedConditions words at 0 end → Known T words s r t (suc d) fs v end (λ l. l) → Known T words s r t d (Arms stop 0 ∷ fs) v at (λ l. l)
    unfolding Known
    ended end a k =
        fine (known_from T words r t consults_none fs (suc d) (value_on stop T v cnil) (at + 0) (λ l. read_on stop T v cnil l) (λ l. l) (none_read T v stop)
        (rw (none_value T v stop) (rw (a.ends d).it at k)))

    more : (m : ℕ) → beq v stop ≡ false → Unread T words s r t d (Arms stop m ∷ fs) at → Known T words s r t d (Arms stop (suc m) ∷ fs) v at (λ l. l)
    unfolding Known
    more m e k = rw e (arms_from (list_value stop T) (list_read stop T) (λ c cs. first_value T c cs stop) (λ c cs. first_read T c cs stop) m at k)

-- ---- an open node whose arm has its value
module _ (words : List ℕ) (v : Bool) (at : ℕ) where
  pub settles_not : (m : OpenNode) → Settles words not_node v at m (Some (answer_of (not v) at))
  unfolding Known
  settles_not m = record { onward = omega arith; goes = λ T s r t d fs k. k }

  module _ (stop : Bool) (n : ℕ) where
    module _ (m : OpenNode) (end : ℕ) (a : SkippedConditions words at n end) where
      pub settles_decided : beq v stop ≡ true → Settles words (Arms stop n) v at m (Some (answer_of v end))
      settles_decided e = record { onward = a.onward; goes = λ T s r t d fs k. decided T words s r t fs d stop v at n end e a k }

      pub settles_ended : n ≡ 0 → Settles words (Arms stop n) v at m (Some (answer_of v end))
      settles_ended z = record { onward = a.onward; goes = λ T s r t d fs k. rw z (ended T words s r t fs d stop v at end (rw z at a) k) }

    pub settles_more : beq v stop ≡ false → (n ≡ 0 → ⊥) → Settles words (Arms stop n) v at (Arms stop (n - 1)) None
    settles_more e f = record {
      onward = omega arith;
      goes = λ T s r t d fs k. let one : n ≡ suc (n - 1) = omega arith in rw one (more T words s r t fs d stop v at (n - 1) e k);
    }

-- ---- a condition that opens a node
module _ (T : Table) (words : List ℕ) (s : Lent) (r : ConditionEval) (t : Lent) (fs : List OpenNode) (d at : ℕ) (lt : at < length words) where
  open_not : Not ≡ condition_head (get_or words at 0) → Unread T words s r t d (not_node ∷ fs) (at + 1) → Unread T words s r t (suc d) fs at
  unfolding condition_node Known Unread
  open_not e k =
      by_head words at d Not lt e (then_holds (read_condition d (drop (at + 1) words)) (λ c vs. got (not_c c) vs) k (λ c vs i.
      let end : at + 1 + words_c c ≡ at + (1 + words_c c) = omega arith in
      fine (rw (sym (truth_flip (eval_condition T c)), end) at i)))

  open_list : (h : ConditionHead) (stop : Bool) (rule : Conditions → Condition) (m : ℕ) → h ≡ condition_head (get_or words at 0) →
      condition_node (λ vs. read_condition d vs) h (drop (at + 1) words) ≡ next (many cnil ccons (read_condition d) (suc m) (drop (at + 1) words)) (λ cs vs. got (rule cs) vs) →
      ((cs : Conditions) → words_c (rule cs) ≡ 1 + words_cs cs) →
      ((c : Condition) (cs : Conditions) → value_on stop T (is_satisfied (eval_condition T c)) cs ≡ is_satisfied (eval_condition T (rule (ccons c cs)))) →
      ((c : Condition) (cs : Conditions) (l : Consulted) → read_c T (rule (ccons c cs)) l ≡ read_on stop T (is_satisfied (eval_condition T c)) cs (read_c T c l)) →
      Unread T words s r t d (Arms stop m ∷ fs) (at + 1) → Unread T words s r t (suc d) fs at
  unfolding Unread
  open_list h stop rule m e node size value_is read_is k =
      by_head words at d h lt e (rw node (then_holds (many cnil ccons (read_condition d) (suc m) (drop (at + 1) words)) (λ cs vs. got (rule cs) vs)
      (arms_from T words s r t fs d stop (λ cs. is_satisfied (eval_condition T (rule cs))) (λ cs l. read_c T (rule cs) l) value_is read_is m (at + 1) k) (λ cs vs i.
      let end : at + 1 + words_cs cs ≡ at + words_c (rule cs) = omega (arith, size cs) in
      fine (rw end at i))))

  pub opened : (h : ConditionHead) (n : OpenNode) → Open n ≡ node_of h → h ≡ condition_head (get_or words at 0) → Unread T words s r t d (n ∷ fs) (at + 1) → Unread T words s r t (suc d) fs at
  unfolding condition_node
  opened Always n is e k = absurd (cc)
  opened Never n is e k = absurd (cc)
  opened (Has f) n is e k = absurd (cc)
  opened Not n is e k = let i : n ≡ not_node = cc in open_not e (rw i at k)
  opened (All zero) n is e k = absurd (cc)
  opened (All (suc m)) n is e k =
      let i : n ≡ Arms false m = cc in
      open_list (All (suc m)) false all_c m e refl (λ cs. refl) (λ c cs. first_value T c cs false) (λ c cs. first_read T c cs false) (rw i at k)
  opened (Any zero) n is e k = absurd (cc)
  opened (Any (suc m)) n is e k =
      let i : n ≡ Arms true m = cc in
      open_list (Any (suc m)) true any_c m e refl (λ cs. refl) (λ c cs. first_value T c cs true) (λ c cs. first_read T c cs true) (rw i at k)
  opened BadKind n is e k = absurd (cc)
  opened BadField n is e k = absurd (cc)

-- ---- the open nodes in an array
opens_below : (above : List OpenNode) (i : ℕ) (n : OpenNode) (level : ℕ) → level ≤ i → opens (set above i n) level ≡ opens above level
unfolding opens
opens_below above i n zero h = refl
opens_below above i n (suc level) h = rw (get_or-set_other above i level n not_node (λ e. omega arith), opens_below above i n level (omega arith)) refl

opens_last : (above : List OpenNode) (level : ℕ) → opens above (level + 1) ≡ get_or above level not_node ∷ opens above level
unfolding opens
opens_last above level = rw add-one refl

opens_put : (above : List OpenNode) (n : OpenNode) (level : ℕ) → level < length above → opens (set above level n) (level + 1) ≡ n ∷ opens above level
opens_put above n level h = rw (opens_last (set above level n) level, get_or-set_same above level n not_node h, opens_below above level n level (omega arith)) refl

-- What is asked where the walk stands before `next`: the value there is known, or a condition is to be read.
abbrev pub Standing : Option Bool → Table → List ℕ → ℕ → List OpenNode → ℕ → ℕ → Lent → ConditionEval → Lent → Type 0
Standing (Some v) T words depth above level next s r t = Known T words s r t (depth - level) (opens above level) v next (λ l. l)
Standing None T words depth above level next s r t = Unread T words s r t (depth - level) (opens above level) next

-- A known value is one step of the measure.
abbrev pub known_step : Option Bool → ℕ
known_step (Some v) = 1
known_step None = 0

-- ---- the turns of the loop
pub has_head : (h : ConditionHead) (f : ℕ) → node.Has f ≡ node_of h → Has f ≡ h
has_head Always f e = absurd (cc)
has_head Never f e = absurd (cc)
has_head (Has g) f e = cc
has_head Not f e = absurd (cc)
has_head (All zero) f e = absurd (cc)
has_head (All (suc m)) f e = absurd (cc)
has_head (Any zero) f e = absurd (cc)
has_head (Any (suc m)) f e = absurd (cc)
has_head BadKind f e = absurd (cc)
has_head BadField f e = absurd (cc)

module _ (T : Table) (words : List ℕ) (depth : ℕ) (above : List OpenNode) where
  pub walk_begins : (at : ℕ) (s : Lent) (r : ConditionEval) (t : Lent) → Unread T words s r t (depth - 0) (opens above 0) at → EvaluatesC T words at depth s r t
  unfolding opens Known Unread
  walk_begins at s r t k = let e : depth - 0 ≡ depth = omega arith in record { says = rw e at k }

  module _ (level : ℕ) where
    pub walk_ends : (s : Lent) (r : ConditionEval) → level ≡ 0 → Known T words s r s (depth - level) (opens above level) r.satisfied r.next (λ l. l)
    unfolding opens Known
    walk_ends s r z = rw z (record { satisfied_is = refl; next_is = refl; log = consults_none })

    module _ (at : ℕ) (s : Lent) (r : ConditionEval) (t : Lent) where
      pub no_word : length words ≤ at → Unread T words s r t (depth - level) (opens above level) at
      unfolding Unread
      no_word h = no_words words at (depth - level) h

      pub no_level : depth ≤ level → Unread T words s r t (depth - level) (opens above level) at
      unfolding Unread
      no_level h = let e : depth - level ≡ 0 = omega arith in rw e (no_levels (drop at words))

      -- The innermost node is closed, or goes on.
      module _ (inner : ℕ) (i : level ≡ inner + 1) (v : Bool) where
        pub node_closed : (m : OpenNode) (w : Bool) (end : ℕ) → level ≤ depth → Settles words (get_or above inner not_node) v at m (Some (answer_of w end)) →
            Known T words s r t (depth - inner) (opens (set above inner m) inner) w end (λ l. l) → Known T words s r t (depth - level) (opens above level) v at (λ l. l)
        node_closed m w end h a k =
            let e : depth - inner ≡ suc (depth - (inner + 1)) = omega arith in
            rw (i, opens_last above inner) (a.goes T s r t (depth - (inner + 1)) (opens above inner) (rw (e, opens_below above inner m inner (omega arith)) at k))

        pub node_more : (n : OpenNode) → inner < length above → Settles words (get_or above inner not_node) v at n None →
            Unread T words s r t (depth - level) (opens (set above inner n) level) at → Known T words s r t (depth - level) (opens above level) v at (λ l. l)
        node_more n h a k = rw (i, opens_last above inner) (a.goes T s r t (depth - (inner + 1)) (opens above inner) (rw (i, opens_put above n inner h) at k))

      -- A condition is read.
      module _ (lt : at < length words) (deep : level < depth) where
        levels : depth - level ≡ suc (depth - (level + 1))
        levels = omega arith

        pub node_value : (w : Bool) → Value w ≡ node_of (condition_head (get_or words at 0)) →
            Known T words s r t (depth - level) (opens above level) w (at + 1) (λ l. l) → Unread T words s r t (depth - level) (opens above level) at
        node_value w e k =
            let a : ConditionEval = answer_of w (at + 1) in
            rw levels (at_once T words r t (opens above level) (suc (depth - (level + 1))) at
            (eval_value T words at (depth - (level + 1)) s a lt refl (condition_head (get_or words at 0)) w e refl refl) (rw levels at k))

        pub node_has : (f : ℕ) (v : Bool) (u : Lent) → node.Has f ≡ node_of (condition_head (get_or words at 0)) → EvaluatesHas T f s v u →
            Known T words u r t (depth - level) (opens above level) v (at + 1) (λ l. l) → Unread T words s r t (depth - level) (opens above level) at
        node_has f v u e h k =
            rw levels (at_once T words r t (opens above level) (suc (depth - (level + 1))) at
            (eval_has_lem T words at (depth - (level + 1)) s v u lt f (has_head (condition_head (get_or words at 0)) f e) h) (rw levels at k))

        pub node_open : (n : OpenNode) → level < length above → Open n ≡ node_of (condition_head (get_or words at 0)) →
            Unread T words s r t (depth - (level + 1)) (opens (set above level n) (level + 1)) (at + 1) → Unread T words s r t (depth - level) (opens above level) at
        node_open n h e k = rw levels (opened T words s r t (opens above level) (depth - (level + 1)) at lt (condition_head (get_or words at 0)) n e refl (rw (opens_put above n level h) at k))
