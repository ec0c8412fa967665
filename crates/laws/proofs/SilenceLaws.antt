-- Silence is Absent to every decision. A table, and the same table with silence read as Absent, decide alike, and leave the same;
-- their records differ in nothing but the entries of the facts that the table ended before. With silence read as Absent, a record is what the call gave
-- while a fact past the end was Absent (`heard_table`), and it takes as many words.
use Rattle.std.specs.Prelude.{◌≡◌, refl, Bool, true, false, cond, ◌&&◌, ◌||◌, List, [], ◌∷◌, ◌++◌, ℕ, zero, suc, ◌+◌, eqb, leb, length, get_or}
use Rattle.std.proofs.Common.{sym, ◌∙◌, ap, ap₂}
use Rattle.std.proofs.lemmas.List.{length-map}
use Rattle.model.specs.Fields.{words_for, per_word}
use Rattle.model.specs.Facts.{Presence, absent, present, unknown, silent, Table, presence, table_fields, observed, table_of, heard}
use Rattle.model.specs.Outcome.{Outcomes}
use Rattle.model.specs.Condition.{Condition, always, never, has, not_c, all_c, any_c, Conditions, cnil, ccons, ConditionEval, satisfied, unsatisfied, eval_has, unless_none, eval_condition}
use Rattle.model.specs.Decision.{Decision, permits, denies}
use Rattle.model.specs.Policy.{Policy, permit, deny, grant, all, any, or_else, stored, Policies, pnil, pcons}
use Rattle.model.specs.Evaluate.{eval_policy}
use Rattle.model.specs.Partial.{ReducedCondition, known, pending_c, reduce_has, flip_r, step_all_c, step_any_c, end_all_c, end_any_c, reduce_condition, reduce_condition_all, reduce_condition_any, ReducedPolicy, resolved, pending, reduce_grant, reduce_or_else, Order, all_of, any_of, reduce_policy, reduce_arms}
use Rattle.model.specs.Consulted.{Entry, Consulted, is_consulted, consult, consult_known, once_from, once, after_true, after_false, after_permit, after_deny, unless_false, unless_true, unless_denied, unless_permitted, read_c, read_all_c, read_any_c, walk_c, walk_all_c, walk_any_c, read, read_all, read_any, walk, walk_all, walk_any}
use Rattle.model.specs.Record.{Record, tree, evaluated, reduced, narrowed_from, narrowed, completed_from, completed}
use Rattle.model.specs.Writing.{entry_bits, encode_r, short}
use Rattle.model.specs.Reading.{record_words}
use Rattle.model.specs.Calls.{fits}
use Rattle.laws.proofs.Lengths.{length_encode_r}
use Rattle.laws.specs.Size.{words}
use Rattle.laws.proofs.Alike.{eval_alike, policy_alike, all_of_lem, any_of_lem}
use Rattle.laws.specs.Silence.{heard_by, hear, hear_all, hear_r}

-- ---- what a table said of a fact while silence was Absent: its field, 0 past the end
heard_presence : (q : ℕ) → heard (presence q) ≡ presence q
heard_presence zero = refl
heard_presence (suc zero) = refl
heard_presence (suc (suc q)) = refl

heard_observed : (qs : List ℕ) (f : ℕ) → heard (observed qs f) ≡ presence (get_or qs f 0)
heard_observed [] f = refl
heard_observed (q ∷ qs) zero = heard_presence q
heard_observed (q ∷ qs) (suc f) = heard_observed qs f

pub heard_field : (bs : List ℕ) (f : ℕ) → heard (table_of bs f) ≡ presence (get_or (table_fields bs) f 0)
heard_field bs f = heard_observed (table_fields bs) f

pub heard_table : (bs : List ℕ) → heard_by (table_of bs) ≡ (λ f. presence (get_or (table_fields bs) f 0))
heard_table bs = λ i f. heard_field bs f i

-- ---- conditions
pub has_heard : (f : ℕ) (p : Presence) → eval_has f (heard p) ≡ eval_has f p
has_heard f absent = refl
has_heard f present = refl
has_heard f unknown = refl
has_heard f silent = refl

left_heard : (f : ℕ) (p : Presence) → reduce_has f (heard p) ≡ reduce_has f p
left_heard f absent = refl
left_heard f present = refl
left_heard f unknown = refl
left_heard f silent = refl

module _ (T : Table) where
  has_alike : (f : ℕ) → eval_has f (heard_by T f) ≡ eval_has f (T f)
  has_alike f = has_heard f (T f)

  pub eval_heard : (c : Condition) → eval_condition (heard_by T) c ≡ eval_condition T c
  eval_heard c = eval_alike (heard_by T) T has_alike c

  mutual
    pub reduce_heard : (c : Condition) → reduce_condition (heard_by T) c ≡ reduce_condition T c
    reduce_heard always = refl
    reduce_heard never = refl
    reduce_heard (has f) = left_heard f (T f)
    reduce_heard (not_c c) = ap flip_r (reduce_heard c)
    reduce_heard (all_c cs) = ap (λ w. unless_none cs (known false) (end_all_c w)) (reduce_all_heard cs)
    reduce_heard (any_c cs) = ap end_any_c (reduce_any_heard cs)

    reduce_all_heard : (cs : Conditions) → reduce_condition_all (heard_by T) cs ≡ reduce_condition_all T cs
    reduce_all_heard cnil = refl
    reduce_all_heard (ccons c cs) = ap₂ step_all_c (reduce_heard c) (reduce_all_heard cs)

    reduce_any_heard : (cs : Conditions) → reduce_condition_any (heard_by T) cs ≡ reduce_condition_any T cs
    reduce_any_heard cnil = refl
    reduce_any_heard (ccons c cs) = ap₂ step_any_c (reduce_heard c) (reduce_any_heard cs)

-- ---- policies
module _ (L : Outcomes) (T : Table) where
  pub policy_heard : (t : Policy L.O) → eval_policy L (heard_by T) t ≡ eval_policy L T t
  policy_heard t = policy_alike (heard_by T) T (has_alike T) L t

  module _ (o : Order) where
    mutual
      pub reduction_heard : (t : Policy L.O) → reduce_policy L o (heard_by T) t ≡ reduce_policy L o T t
      reduction_heard (permit x) = refl
      reduction_heard deny = refl
      reduction_heard (grant g c) = ap₂ (λ v x. reduce_grant g v x) (eval_heard T c) (reduce_heard T c)
      reduction_heard (all ts) = all_of_lem (heard_by T) T (has_alike T) L o (reduce_arms L o (heard_by T) ts) ∙ ap (all_of L o T) (arms_heard ts)
      reduction_heard (any ts) = any_of_lem (heard_by T) T (has_alike T) L o (reduce_arms L o (heard_by T) ts) ∙ ap (any_of L o T) (arms_heard ts)
      reduction_heard (or_else a b) = ap₂ reduce_or_else (reduction_heard a) (reduction_heard b)
      reduction_heard (stored d) = refl

      arms_heard : (ts : Policies L.O) → reduce_arms L o (heard_by T) ts ≡ reduce_arms L o T ts
      arms_heard pnil = refl
      arms_heard (pcons t ts) = ap₂ ◌∷◌ (reduction_heard t) (arms_heard ts)

-- ---- consulted
listed_heard : (f : ℕ) (l : Consulted) → is_consulted f (hear_all l) ≡ is_consulted f l
listed_heard f [] = refl
listed_heard f (e ∷ l) = ap (λ b. eqb f e.fact || b) (listed_heard f l)

end_heard : (l : Consulted) (e : Entry) → hear_all (l ++ e ∷ []) ≡ hear_all l ++ hear e ∷ []
end_heard [] e = refl
end_heard (x ∷ l) e = ap (λ k. hear x ∷ k) (end_heard l e)

consult_by : (l : Consulted) (e : Entry) (b : Bool) → hear_all (cond b l (l ++ e ∷ [])) ≡ cond b (hear_all l) (hear_all l ++ hear e ∷ [])
consult_by l e true = refl
consult_by l e false = end_heard l e

consult_heard : (l : Consulted) (f : ℕ) (p : Presence) → hear_all (consult l f p) ≡ consult (hear_all l) f (heard p)
consult_heard l f p =
    consult_by l (record { fact = f; seen = p }) (is_consulted f l)
    ∙ ap (λ b. cond b (hear_all l) (hear_all l ++ record { fact = f; seen = heard p } ∷ [])) (sym (listed_heard f l))

known_heard : (l : Consulted) (f : ℕ) (p : Presence) → hear_all (consult_known l f p) ≡ consult_known (hear_all l) f (heard p)
known_heard l f absent = consult_heard l f absent
known_heard l f present = consult_heard l f present
known_heard l f unknown = refl
known_heard l f silent = consult_heard l f silent

from_heard : (l es : Consulted) → hear_all (once_from l es) ≡ once_from (hear_all l) (hear_all es)
from_heard l [] = refl
from_heard l (e ∷ es) = from_heard (consult l e.fact e.seen) es ∙ ap (λ k. once_from k (hear_all es)) (consult_heard l e.fact e.seen)

true_heard : (v : ConditionEval) (a b : Consulted) → hear_all (after_true v a b) ≡ after_true v (hear_all a) (hear_all b)
true_heard (satisfied fs) a b = refl
true_heard (unsatisfied fs) a b = refl

false_heard : (v : ConditionEval) (a b : Consulted) → hear_all (after_false v a b) ≡ after_false v (hear_all a) (hear_all b)
false_heard (satisfied fs) a b = refl
false_heard (unsatisfied fs) a b = refl

stop_false : (r : ReducedCondition) (a b : Consulted) → hear_all (unless_false r a b) ≡ unless_false r (hear_all a) (hear_all b)
stop_false (known false) a b = refl
stop_false (known true) a b = refl
stop_false (pending_c c) a b = refl

stop_true : (r : ReducedCondition) (a b : Consulted) → hear_all (unless_true r a b) ≡ unless_true r (hear_all a) (hear_all b)
stop_true (known true) a b = refl
stop_true (known false) a b = refl
stop_true (pending_c c) a b = refl

module _ (T : Table) where
  mutual
    read_c_heard : (c : Condition) (l : Consulted) → hear_all (read_c T c l) ≡ read_c (heard_by T) c (hear_all l)
    read_c_heard always l = refl
    read_c_heard never l = refl
    read_c_heard (has f) l = consult_heard l f (T f)
    read_c_heard (not_c c) l = read_c_heard c l
    read_c_heard (all_c cs) l = read_all_c_heard cs l
    read_c_heard (any_c cs) l = read_any_c_heard cs l

    read_all_c_heard : (cs : Conditions) (l : Consulted) → hear_all (read_all_c T cs l) ≡ read_all_c (heard_by T) cs (hear_all l)
    read_all_c_heard cnil l = refl
    read_all_c_heard (ccons c cs) l =
        true_heard (eval_condition T c) (read_c T c l) (read_all_c T cs (read_c T c l))
        ∙ ap₂ (λ a b. after_true (eval_condition T c) a b) (read_c_heard c l) (read_all_c_heard cs (read_c T c l) ∙ ap (read_all_c (heard_by T) cs) (read_c_heard c l))
        ∙ ap (λ v. after_true v (read_c (heard_by T) c (hear_all l)) (read_all_c (heard_by T) cs (read_c (heard_by T) c (hear_all l)))) (sym (eval_heard T c))

    read_any_c_heard : (cs : Conditions) (l : Consulted) → hear_all (read_any_c T cs l) ≡ read_any_c (heard_by T) cs (hear_all l)
    read_any_c_heard cnil l = refl
    read_any_c_heard (ccons c cs) l =
        false_heard (eval_condition T c) (read_c T c l) (read_any_c T cs (read_c T c l))
        ∙ ap₂ (λ a b. after_false (eval_condition T c) a b) (read_c_heard c l) (read_any_c_heard cs (read_c T c l) ∙ ap (read_any_c (heard_by T) cs) (read_c_heard c l))
        ∙ ap (λ v. after_false v (read_c (heard_by T) c (hear_all l)) (read_any_c (heard_by T) cs (read_c (heard_by T) c (hear_all l)))) (sym (eval_heard T c))

  mutual
    walk_c_heard : (c : Condition) (l : Consulted) → hear_all (walk_c T c l) ≡ walk_c (heard_by T) c (hear_all l)
    walk_c_heard always l = refl
    walk_c_heard never l = refl
    walk_c_heard (has f) l = known_heard l f (T f)
    walk_c_heard (not_c c) l = walk_c_heard c l
    walk_c_heard (all_c cs) l = walk_all_c_heard cs l
    walk_c_heard (any_c cs) l = walk_any_c_heard cs l

    walk_all_c_heard : (cs : Conditions) (l : Consulted) → hear_all (walk_all_c T cs l) ≡ walk_all_c (heard_by T) cs (hear_all l)
    walk_all_c_heard cnil l = refl
    walk_all_c_heard (ccons c cs) l =
        stop_false (reduce_condition T c) (walk_c T c l) (walk_all_c T cs (walk_c T c l))
        ∙ ap₂ (λ a b. unless_false (reduce_condition T c) a b) (walk_c_heard c l) (walk_all_c_heard cs (walk_c T c l) ∙ ap (walk_all_c (heard_by T) cs) (walk_c_heard c l))
        ∙ ap (λ v. unless_false v (walk_c (heard_by T) c (hear_all l)) (walk_all_c (heard_by T) cs (walk_c (heard_by T) c (hear_all l)))) (sym (reduce_heard T c))

    walk_any_c_heard : (cs : Conditions) (l : Consulted) → hear_all (walk_any_c T cs l) ≡ walk_any_c (heard_by T) cs (hear_all l)
    walk_any_c_heard cnil l = refl
    walk_any_c_heard (ccons c cs) l =
        stop_true (reduce_condition T c) (walk_c T c l) (walk_any_c T cs (walk_c T c l))
        ∙ ap₂ (λ a b. unless_true (reduce_condition T c) a b) (walk_c_heard c l) (walk_any_c_heard cs (walk_c T c l) ∙ ap (walk_any_c (heard_by T) cs) (walk_c_heard c l))
        ∙ ap (λ v. unless_true v (walk_c (heard_by T) c (hear_all l)) (walk_any_c (heard_by T) cs (walk_c (heard_by T) c (hear_all l)))) (sym (reduce_heard T c))

permit_heard : {O : Type 0} (d : Decision O) (a b : Consulted) → hear_all (after_permit d a b) ≡ after_permit d (hear_all a) (hear_all b)
permit_heard (permits p) a b = refl
permit_heard (denies d) a b = refl

deny_heard : {O : Type 0} (d : Decision O) (a b : Consulted) → hear_all (after_deny d a b) ≡ after_deny d (hear_all a) (hear_all b)
deny_heard (permits p) a b = refl
deny_heard (denies d) a b = refl

denied_heard : {O : Type 0} (r : ReducedPolicy O) (a b : Consulted) → hear_all (unless_denied r a b) ≡ unless_denied r (hear_all a) (hear_all b)
denied_heard (resolved (permits p)) a b = refl
denied_heard (resolved (denies d)) a b = refl
denied_heard (pending t) a b = refl

permitted_heard : {O : Type 0} (r : ReducedPolicy O) (a b : Consulted) → hear_all (unless_permitted r a b) ≡ unless_permitted r (hear_all a) (hear_all b)
permitted_heard (resolved (permits p)) a b = refl
permitted_heard (resolved (denies d)) a b = refl
permitted_heard (pending t) a b = refl

-- ---- the lists, under the table as it is and with silence read as Absent
module _ (L : Outcomes) (T : Table) where
  mutual
    pub read_heard : (t : Policy L.O) (l : Consulted) → hear_all (read L T t l) ≡ read L (heard_by T) t (hear_all l)
    read_heard (permit o) l = refl
    read_heard deny l = refl
    read_heard (grant g c) l = read_c_heard T c l
    read_heard (all ts) l = read_all_heard ts l
    read_heard (any ts) l = read_any_heard ts l
    read_heard (or_else a b) l =
        deny_heard (eval_policy L T a) (read L T a l) (read L T b (read L T a l))
        ∙ ap₂ (λ x y. after_deny (eval_policy L T a) x y) (read_heard a l) (read_heard b (read L T a l) ∙ ap (read L (heard_by T) b) (read_heard a l))
        ∙ ap (λ d. after_deny d (read L (heard_by T) a (hear_all l)) (read L (heard_by T) b (read L (heard_by T) a (hear_all l)))) (sym (policy_heard L T a))
    read_heard (stored d) l = refl

    read_all_heard : (ts : Policies L.O) (l : Consulted) → hear_all (read_all L T ts l) ≡ read_all L (heard_by T) ts (hear_all l)
    read_all_heard pnil l = refl
    read_all_heard (pcons t ts) l =
        permit_heard (eval_policy L T t) (read L T t l) (read_all L T ts (read L T t l))
        ∙ ap₂ (λ x y. after_permit (eval_policy L T t) x y) (read_heard t l) (read_all_heard ts (read L T t l) ∙ ap (read_all L (heard_by T) ts) (read_heard t l))
        ∙ ap (λ d. after_permit d (read L (heard_by T) t (hear_all l)) (read_all L (heard_by T) ts (read L (heard_by T) t (hear_all l)))) (sym (policy_heard L T t))

    read_any_heard : (ts : Policies L.O) (l : Consulted) → hear_all (read_any L T ts l) ≡ read_any L (heard_by T) ts (hear_all l)
    read_any_heard pnil l = refl
    read_any_heard (pcons t ts) l = read_any_heard ts (read L T t l) ∙ ap (read_any L (heard_by T) ts) (read_heard t l)

  -- ---- records: with silence read as Absent, each is the record of the table with silence read as Absent
  abbrev record_of : ReducedPolicy L.O → Consulted → Record L.O
  record_of x l = record { body = x; log = l }

  pub evaluated_heard : (t : Policy L.O) → hear_r (evaluated L T t) ≡ evaluated L (heard_by T) t
  evaluated_heard t = ap₂ (λ d l. record_of (resolved d) l) (sym (policy_heard L T t)) (read_heard t [])

  completed_by : (b : ReducedPolicy L.O) (l : Consulted) → hear_r (completed_from L T b l) ≡ completed_from L (heard_by T) b (hear_all l)
  completed_by (resolved d) l = refl
  completed_by (pending t) l = ap₂ (λ d k. record_of (resolved d) k) (sym (policy_heard L T t)) (read_heard t (once l) ∙ ap (read L (heard_by T) t) (from_heard [] l))

  pub completed_heard : (r : Record L.O) → hear_r (completed L T r) ≡ completed L (heard_by T) (hear_r r)
  completed_heard r = completed_by r.body r.log

  module _ (o : Order) where
    mutual
      pub walk_heard : (t : Policy L.O) (l : Consulted) → hear_all (walk L o T t l) ≡ walk L o (heard_by T) t (hear_all l)
      walk_heard (permit x) l = refl
      walk_heard deny l = refl
      walk_heard (grant g c) l = walk_c_heard T c l
      walk_heard (all ts) l = walk_all_heard ts l
      walk_heard (any ts) l = walk_any_heard ts l
      walk_heard (or_else a b) l =
          permitted_heard (reduce_policy L o T a) (walk L o T a l) (walk L o T b (walk L o T a l))
          ∙ ap₂ (λ x y. unless_permitted (reduce_policy L o T a) x y) (walk_heard a l) (walk_heard b (walk L o T a l) ∙ ap (walk L o (heard_by T) b) (walk_heard a l))
          ∙ ap (λ d. unless_permitted d (walk L o (heard_by T) a (hear_all l)) (walk L o (heard_by T) b (walk L o (heard_by T) a (hear_all l)))) (sym (reduction_heard L T o a))
      walk_heard (stored d) l = refl

      walk_all_heard : (ts : Policies L.O) (l : Consulted) → hear_all (walk_all L o T ts l) ≡ walk_all L o (heard_by T) ts (hear_all l)
      walk_all_heard pnil l = refl
      walk_all_heard (pcons t ts) l =
          denied_heard (reduce_policy L o T t) (walk L o T t l) (walk_all L o T ts (walk L o T t l))
          ∙ ap₂ (λ x y. unless_denied (reduce_policy L o T t) x y) (walk_heard t l) (walk_all_heard ts (walk L o T t l) ∙ ap (walk_all L o (heard_by T) ts) (walk_heard t l))
          ∙ ap (λ d. unless_denied d (walk L o (heard_by T) t (hear_all l)) (walk_all L o (heard_by T) ts (walk L o (heard_by T) t (hear_all l)))) (sym (reduction_heard L T o t))

      walk_any_heard : (ts : Policies L.O) (l : Consulted) → hear_all (walk_any L o T ts l) ≡ walk_any L o (heard_by T) ts (hear_all l)
      walk_any_heard pnil l = refl
      walk_any_heard (pcons t ts) l = walk_any_heard ts (walk L o T t l) ∙ ap (walk_any L o (heard_by T) ts) (walk_heard t l)

    pub reduced_heard : (t : Policy L.O) → hear_r (reduced L o T t) ≡ reduced L o (heard_by T) t
    reduced_heard t = ap₂ record_of (sym (reduction_heard L T o t)) (walk_heard t [])

    narrowed_by : (b : ReducedPolicy L.O) (l : Consulted) → hear_r (narrowed_from L o T b l) ≡ narrowed_from L o (heard_by T) b (hear_all l)
    narrowed_by (resolved d) l = refl
    narrowed_by (pending t) l = ap₂ record_of (sym (reduction_heard L T o t)) (walk_heard t (once l) ∙ ap (walk L o (heard_by T) t) (from_heard [] l))

    pub narrowed_heard : (r : Record L.O) → hear_r (narrowed L o T r) ≡ narrowed L o (heard_by T) (hear_r r)
    narrowed_heard r = narrowed_by r.body r.log

-- ---- both take as many words, so that 11 is given for the one as for the other
module _ (L : Outcomes) where
  pub length_heard : (r : Record L.O) → length (encode_r L.number (hear_r r)) ≡ length (encode_r L.number r)
  length_heard r =
      length_encode_r L.number (hear_r r)
      ∙ ap (λ n. 1 + words_for (per_word entry_bits) n + words (tree r)) (length-map r.log hear)
      ∙ sym (length_encode_r L.number r)

  pub fits_heard : (room : ℕ) (r : Record L.O) → fits L room (hear_r r) ≡ fits L room r
  fits_heard room r = ap (λ n. leb n room && (leb 1 n && leb n record_words) && short (tree r)) (length_heard r)
