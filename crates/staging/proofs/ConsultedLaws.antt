-- A consulted list holds each fact once, and only facts that the tree names: so it has at most 1,024 entries, and no more than there were and the tree has words.
use Rattle.std.specs.Prelude.{◌≡◌, refl, Bool, true, false, cond, ◌||◌, List, [], ◌∷◌, ◌++◌, ℕ, ◌+◌, ◌≤◌, ◌<◌, eqb, length}
use Rattle.std.proofs.Common.{◌∙◌, ap, arith, length-append}
use Rattle.model.specs.Facts.{Presence, absent, present, unknown, silent, Table}
use Rattle.model.specs.Outcome.{Outcomes}
use Rattle.model.specs.Condition.{Condition, always, never, has, not_c, all_c, any_c, Conditions, cnil, ccons, ConditionEval, satisfied, unsatisfied, eval_condition}
use Rattle.model.specs.Decision.{Decision, permits, denies, held, insert}
use Rattle.model.specs.Policy.{Policy, permit, deny, grant, all, any, or_else, stored, Policies, pnil, pcons}
use Rattle.model.specs.Evaluate.{eval_policy}
use Rattle.model.specs.Partial.{ReducedCondition, known, pending_c, reduce_condition, ReducedPolicy, resolved, pending, Order, reduce_policy}
use Rattle.model.specs.Consulted.{Entry, Consulted, is_consulted, consult, consult_known, once_from, once, after_true, after_false, read_c, read_all_c, read_any_c, after_permit, after_deny, unless_false, unless_true, walk_c, walk_all_c, walk_any_c, unless_denied, unless_permitted, read, read_all, read_any, walk, walk_all, walk_any}
use Rattle.laws.specs.Lists.{Distinct, Every}
use Rattle.laws.proofs.ListLaws.{insert_distinct, insert_every, pigeon}
use Rattle.laws.specs.Size.{words_c, words_cs, words, wordss}
use Rattle.laws.specs.Each.{EachC, EachCs, Each, Eachs}

abbrev pub consulted_facts : Consulted → List ℕ
consulted_facts [] = []
consulted_facts (e ∷ es) = e.fact ∷ consulted_facts es

logged_held : (f : ℕ) (l : Consulted) → is_consulted f l ≡ held f (consulted_facts l)
logged_held f [] = refl
logged_held f (e ∷ es) = ap (λ b. eqb f e.fact || b) (logged_held f es)

facts_of_end : (l : Consulted) (e : Entry) → consulted_facts (l ++ e ∷ []) ≡ consulted_facts l ++ e.fact ∷ []
facts_of_end [] e = refl
facts_of_end (d ∷ l) e = ap (λ fs. d.fact ∷ fs) (facts_of_end l e)

facts_of_cond : (b : Bool) (l m : Consulted) → consulted_facts (cond b l m) ≡ cond b (consulted_facts l) (consulted_facts m)
facts_of_cond true l m = refl
facts_of_cond false l m = refl

note_facts : (l : Consulted) (f : ℕ) (p : Presence) → consulted_facts (consult l f p) ≡ insert (consulted_facts l) f
note_facts l f p =
    let e : Entry = record { fact = f; seen = p } in
    facts_of_cond (is_consulted f l) l (l ++ e ∷ [])
    ∙ ap (λ fs. cond (is_consulted f l) (consulted_facts l) fs) (facts_of_end l e)
    ∙ ap (λ b. cond b (consulted_facts l) (consulted_facts l ++ f ∷ [])) (logged_held f l)

length_facts : (l : Consulted) → length (consulted_facts l) ≡ length l
length_facts [] = omega arith
length_facts (e ∷ l) = omega (arith, length_facts l)

-- What holds of both lists holds of the one that is taken.
module _ (R : Consulted → Type 0) where
  either_after_true : (v : ConditionEval) (l m : Consulted) → R l → R m → R (after_true v l m)
  either_after_true (satisfied fs) l m h k = k
  either_after_true (unsatisfied fs) l m h k = h

  either_after_false : (v : ConditionEval) (l m : Consulted) → R l → R m → R (after_false v l m)
  either_after_false (satisfied fs) l m h k = h
  either_after_false (unsatisfied fs) l m h k = k

  either_unless_false : (r : ReducedCondition) (l m : Consulted) → R l → R m → R (unless_false r l m)
  either_unless_false (known false) l m h k = h
  either_unless_false (known true) l m h k = k
  either_unless_false (pending_c c) l m h k = k

  either_unless_true : (r : ReducedCondition) (l m : Consulted) → R l → R m → R (unless_true r l m)
  either_unless_true (known true) l m h k = h
  either_unless_true (known false) l m h k = k
  either_unless_true (pending_c c) l m h k = k

  either_after_permit : {O : Type 0} (d : Decision O) (l m : Consulted) → R l → R m → R (after_permit d l m)
  either_after_permit (permits p) l m h k = k
  either_after_permit (denies d) l m h k = h

  either_after_deny : {O : Type 0} (d : Decision O) (l m : Consulted) → R l → R m → R (after_deny d l m)
  either_after_deny (permits p) l m h k = h
  either_after_deny (denies d) l m h k = k

  either_unless_denied : {O : Type 0} (r : ReducedPolicy O) (l m : Consulted) → R l → R m → R (unless_denied r l m)
  either_unless_denied (resolved (permits p)) l m h k = k
  either_unless_denied (resolved (denies d)) l m h k = h
  either_unless_denied (pending t) l m h k = k

  either_unless_permitted : {O : Type 0} (r : ReducedPolicy O) (l m : Consulted) → R l → R m → R (unless_permitted r l m)
  either_unless_permitted (resolved (permits p)) l m h k = h
  either_unless_permitted (resolved (denies d)) l m h k = k
  either_unless_permitted (pending t) l m h k = k

-- What is kept when a fact with Q is consulted is kept by the walk of a reduction, over whatever names only such facts.
module _ (R : Consulted → Type 0) (Q : ℕ → Type 0) (P : Table) (keeps : (l : Consulted) (f : ℕ) → Q f → R l → R (consult_known l f (P f))) where
  mutual
    walk_c_keeps : (c : Condition) (l : Consulted) → EachC Q c → R l → R (walk_c P c l)
    walk_c_keeps always l q h = h
    walk_c_keeps never l q h = h
    walk_c_keeps (has f) l q h = keeps l f q h
    walk_c_keeps (not_c c) l q h = walk_c_keeps c l q h
    walk_c_keeps (all_c cs) l q h = walk_all_c_keeps cs l q h
    walk_c_keeps (any_c cs) l q h = walk_any_c_keeps cs l q h

    walk_all_c_keeps : (cs : Conditions) (l : Consulted) → EachCs Q cs → R l → R (walk_all_c P cs l)
    walk_all_c_keeps cnil l q h = h
    walk_all_c_keeps (ccons c cs) l q h =
        either_unless_false R (reduce_condition P c) (walk_c P c l) (walk_all_c P cs (walk_c P c l)) (walk_c_keeps c l q.0 h) (walk_all_c_keeps cs (walk_c P c l) q.1 (walk_c_keeps c l q.0 h))

    walk_any_c_keeps : (cs : Conditions) (l : Consulted) → EachCs Q cs → R l → R (walk_any_c P cs l)
    walk_any_c_keeps cnil l q h = h
    walk_any_c_keeps (ccons c cs) l q h =
        either_unless_true R (reduce_condition P c) (walk_c P c l) (walk_any_c P cs (walk_c P c l)) (walk_c_keeps c l q.0 h) (walk_any_c_keeps cs (walk_c P c l) q.1 (walk_c_keeps c l q.0 h))

  module _ (L : Outcomes) (o : Order) where
    mutual
      pub walk_keeps : (t : Policy L.O) (l : Consulted) → Each Q t → R l → R (walk L o P t l)
      walk_keeps (permit x) l q h = h
      walk_keeps deny l q h = h
      walk_keeps (grant g c) l q h = walk_c_keeps c l q h
      walk_keeps (all ts) l q h = walk_all_keeps ts l q h
      walk_keeps (any ts) l q h = walk_any_keeps ts l q h
      walk_keeps (or_else a b) l q h =
          either_unless_permitted R (reduce_policy L o P a) (walk L o P a l) (walk L o P b (walk L o P a l)) (walk_keeps a l q.0 h) (walk_keeps b (walk L o P a l) q.1 (walk_keeps a l q.0 h))
      walk_keeps (stored d) l q h = h

      walk_all_keeps : (ts : Policies L.O) (l : Consulted) → Eachs Q ts → R l → R (walk_all L o P ts l)
      walk_all_keeps pnil l q h = h
      walk_all_keeps (pcons t ts) l q h =
          either_unless_denied R (reduce_policy L o P t) (walk L o P t l) (walk_all L o P ts (walk L o P t l)) (walk_keeps t l q.0 h) (walk_all_keeps ts (walk L o P t l) q.1 (walk_keeps t l q.0 h))

      walk_any_keeps : (ts : Policies L.O) (l : Consulted) → Eachs Q ts → R l → R (walk_any L o P ts l)
      walk_any_keeps pnil l q h = h
      walk_any_keeps (pcons t ts) l q h = walk_any_keeps ts (walk L o P t l) q.1 (walk_keeps t l q.0 h)

-- Each fact once, and each with Q.
abbrev pub Good : (ℕ → Type 0) → Consulted → Type 0
Good Q l = Distinct (consulted_facts l) × Every Q (consulted_facts l)

module _ (Q : ℕ → Type 0) where
  good_note : (l : Consulted) (f : ℕ) (p : Presence) → Good Q l → Q f → Good Q (consult l f p)
  good_note l f p h q = rw note_facts (insert_distinct (consulted_facts l) f h.0, insert_every Q (consulted_facts l) f h.1 q)

  good_note_known : (l : Consulted) (f : ℕ) (p : Presence) → Good Q l → Q f → Good Q (consult_known l f p)
  good_note_known l f absent h q = good_note l f absent h q
  good_note_known l f present h q = good_note l f present h q
  good_note_known l f unknown h q = h
  good_note_known l f silent h q = good_note l f silent h q

  good_once_from : (l es : Consulted) → Good Q l → Every Q (consulted_facts es) → Good Q (once_from l es)
  good_once_from l [] h k = h
  good_once_from l (e ∷ es) h k = good_once_from (consult l e.fact e.seen) es (good_note l e.fact e.seen h k.0) k.1

  pub good_once : (l : Consulted) → Every Q (consulted_facts l) → Good Q (once l)
  good_once l h = good_once_from [] l (tt, tt) h

  module _ (T : Table) where
    mutual
      good_read_c : (c : Condition) (l : Consulted) → EachC Q c → Good Q l → Good Q (read_c T c l)
      good_read_c always l q h = h
      good_read_c never l q h = h
      good_read_c (has f) l q h = good_note l f (T f) h q
      good_read_c (not_c c) l q h = good_read_c c l q h
      good_read_c (all_c cs) l q h = good_read_all_c cs l q h
      good_read_c (any_c cs) l q h = good_read_any_c cs l q h

      good_read_all_c : (cs : Conditions) (l : Consulted) → EachCs Q cs → Good Q l → Good Q (read_all_c T cs l)
      good_read_all_c cnil l q h = h
      good_read_all_c (ccons c cs) l q h =
          either_after_true (Good Q) (eval_condition T c) (read_c T c l) (read_all_c T cs (read_c T c l)) (good_read_c c l q.0 h) (good_read_all_c cs (read_c T c l) q.1 (good_read_c c l q.0 h))

      good_read_any_c : (cs : Conditions) (l : Consulted) → EachCs Q cs → Good Q l → Good Q (read_any_c T cs l)
      good_read_any_c cnil l q h = h
      good_read_any_c (ccons c cs) l q h =
          either_after_false (Good Q) (eval_condition T c) (read_c T c l) (read_any_c T cs (read_c T c l)) (good_read_c c l q.0 h) (good_read_any_c cs (read_c T c l) q.1 (good_read_c c l q.0 h))

  module _ (L : Outcomes) (T : Table) where
    mutual
      pub good_read : (t : Policy L.O) (l : Consulted) → Each Q t → Good Q l → Good Q (read L T t l)
      good_read (permit o) l q h = h
      good_read deny l q h = h
      good_read (grant g c) l q h = good_read_c T c l q h
      good_read (all ts) l q h = good_read_all ts l q h
      good_read (any ts) l q h = good_read_any ts l q h
      good_read (or_else a b) l q h =
          either_after_deny (Good Q) (eval_policy L T a) (read L T a l) (read L T b (read L T a l)) (good_read a l q.0 h) (good_read b (read L T a l) q.1 (good_read a l q.0 h))
      good_read (stored d) l q h = h

      good_read_all : (ts : Policies L.O) (l : Consulted) → Eachs Q ts → Good Q l → Good Q (read_all L T ts l)
      good_read_all pnil l q h = h
      good_read_all (pcons t ts) l q h =
          either_after_permit (Good Q) (eval_policy L T t) (read L T t l) (read_all L T ts (read L T t l)) (good_read t l q.0 h) (good_read_all ts (read L T t l) q.1 (good_read t l q.0 h))

      good_read_any : (ts : Policies L.O) (l : Consulted) → Eachs Q ts → Good Q l → Good Q (read_any L T ts l)
      good_read_any pnil l q h = h
      good_read_any (pcons t ts) l q h = good_read_any ts (read L T t l) q.1 (good_read t l q.0 h)

  pub good_walk : (L : Outcomes) (o : Order) (T : Table) (t : Policy L.O) (l : Consulted) → Each Q t → Good Q l → Good Q (walk L o T t l)
  good_walk L o T t l q h = walk_keeps (Good Q) Q T (λ k f w g. good_note_known k f (T f) g w) L o t l q h

-- ---- no more entries come than the tree has words
consult_at : (l : Consulted) (f : ℕ) (p : Presence) (b : Bool) → is_consulted f l ≡ b → length (consult l f p) ≤ length l + 1
consult_at l f p true e = rw e (omega arith)
consult_at l f p false e = let k : Entry = record { fact = f; seen = p } in rw e (omega (arith, length-append l (k ∷ [])))

consult_length : (l : Consulted) (f : ℕ) (p : Presence) → length (consult l f p) ≤ length l + 1
consult_length l f p = consult_at l f p (is_consulted f l) refl

known_length : (l : Consulted) (f : ℕ) (p : Presence) → length (consult_known l f p) ≤ length l + 1
known_length l f absent = consult_length l f absent
known_length l f present = consult_length l f present
known_length l f unknown = omega arith
known_length l f silent = consult_length l f silent

once_from_length : (l es : Consulted) → length (once_from l es) ≤ length l + length es
once_from_length l [] = omega arith
once_from_length l (e ∷ es) = omega (arith, once_from_length (consult l e.fact e.seen) es, consult_length l e.fact e.seen)

pub once_length : (es : Consulted) → length (once es) ≤ length es
once_length es = omega (arith, once_from_length [] es)

-- Of two walks, one after the other, and the first alone.
module _ (l m n : Consulted) (i j : ℕ) (h : length m ≤ length l + i) (k : length n ≤ length m + j) where
  pub both_walks : length n ≤ length l + (i + j)
  both_walks = omega arith

  pub first_walk : length m ≤ length l + (i + j)
  first_walk = omega arith

module _ (T : Table) where
  mutual
    read_c_length : (c : Condition) (l : Consulted) → length (read_c T c l) ≤ length l + words_c c
    read_c_length always l = omega arith
    read_c_length never l = omega arith
    read_c_length (has f) l = consult_length l f (T f)
    read_c_length (not_c c) l = omega (arith, read_c_length c l)
    read_c_length (all_c cs) l = omega (arith, read_all_c_length cs l)
    read_c_length (any_c cs) l = omega (arith, read_any_c_length cs l)

    read_all_c_length : (cs : Conditions) (l : Consulted) → length (read_all_c T cs l) ≤ length l + words_cs cs
    read_all_c_length cnil l = omega arith
    read_all_c_length (ccons c cs) l =
        let m = read_c T c l in
        let n = read_all_c T cs m in
        let h = read_c_length c l in
        let k = read_all_c_length cs m in
        either_after_true (λ k. length k ≤ length l + (words_c c + words_cs cs)) (eval_condition T c) m n (first_walk l m n (words_c c) (words_cs cs) h k) (both_walks l m n (words_c c) (words_cs cs) h k)

    read_any_c_length : (cs : Conditions) (l : Consulted) → length (read_any_c T cs l) ≤ length l + words_cs cs
    read_any_c_length cnil l = omega arith
    read_any_c_length (ccons c cs) l =
        let m = read_c T c l in
        let n = read_any_c T cs m in
        let h = read_c_length c l in
        let k = read_any_c_length cs m in
        either_after_false (λ k. length k ≤ length l + (words_c c + words_cs cs)) (eval_condition T c) m n (first_walk l m n (words_c c) (words_cs cs) h k) (both_walks l m n (words_c c) (words_cs cs) h k)

  mutual
    walk_c_length : (c : Condition) (l : Consulted) → length (walk_c T c l) ≤ length l + words_c c
    walk_c_length always l = omega arith
    walk_c_length never l = omega arith
    walk_c_length (has f) l = known_length l f (T f)
    walk_c_length (not_c c) l = omega (arith, walk_c_length c l)
    walk_c_length (all_c cs) l = omega (arith, walk_all_c_length cs l)
    walk_c_length (any_c cs) l = omega (arith, walk_any_c_length cs l)

    walk_all_c_length : (cs : Conditions) (l : Consulted) → length (walk_all_c T cs l) ≤ length l + words_cs cs
    walk_all_c_length cnil l = omega arith
    walk_all_c_length (ccons c cs) l =
        let m = walk_c T c l in
        let n = walk_all_c T cs m in
        let h = walk_c_length c l in
        let k = walk_all_c_length cs m in
        either_unless_false (λ k. length k ≤ length l + (words_c c + words_cs cs)) (reduce_condition T c) m n (first_walk l m n (words_c c) (words_cs cs) h k) (both_walks l m n (words_c c) (words_cs cs) h k)

    walk_any_c_length : (cs : Conditions) (l : Consulted) → length (walk_any_c T cs l) ≤ length l + words_cs cs
    walk_any_c_length cnil l = omega arith
    walk_any_c_length (ccons c cs) l =
        let m = walk_c T c l in
        let n = walk_any_c T cs m in
        let h = walk_c_length c l in
        let k = walk_any_c_length cs m in
        either_unless_true (λ k. length k ≤ length l + (words_c c + words_cs cs)) (reduce_condition T c) m n (first_walk l m n (words_c c) (words_cs cs) h k) (both_walks l m n (words_c c) (words_cs cs) h k)

module _ (L : Outcomes) (T : Table) where
  mutual
    pub read_length : (t : Policy L.O) (l : Consulted) → length (read L T t l) ≤ length l + words t
    read_length (permit o) l = omega arith
    read_length deny l = omega arith
    read_length (grant g c) l = omega (arith, read_c_length T c l)
    read_length (all ts) l = omega (arith, read_all_length ts l)
    read_length (any ts) l = omega (arith, read_any_length ts l)
    read_length (or_else a b) l =
        let m = read L T a l in
        let n = read L T b m in
        let h = read_length a l in
        let k = read_length b m in
        either_after_deny (λ k. length k ≤ length l + (1 + words a + words b)) (eval_policy L T a) m n (omega arith) (omega arith)
    read_length (stored d) l = omega arith

    read_all_length : (ts : Policies L.O) (l : Consulted) → length (read_all L T ts l) ≤ length l + wordss ts
    read_all_length pnil l = omega arith
    read_all_length (pcons t ts) l =
        let m = read L T t l in
        let n = read_all L T ts m in
        let h = read_length t l in
        let k = read_all_length ts m in
        either_after_permit (λ k. length k ≤ length l + (words t + wordss ts)) (eval_policy L T t) m n (first_walk l m n (words t) (wordss ts) h k) (both_walks l m n (words t) (wordss ts) h k)

    read_any_length : (ts : Policies L.O) (l : Consulted) → length (read_any L T ts l) ≤ length l + wordss ts
    read_any_length pnil l = omega arith
    read_any_length (pcons t ts) l = omega (arith, read_length t l, read_any_length ts (read L T t l))

module _ (L : Outcomes) (o : Order) (T : Table) where
  mutual
    pub walk_length : (t : Policy L.O) (l : Consulted) → length (walk L o T t l) ≤ length l + words t
    walk_length (permit x) l = omega arith
    walk_length deny l = omega arith
    walk_length (grant g c) l = omega (arith, walk_c_length T c l)
    walk_length (all ts) l = omega (arith, walk_all_length ts l)
    walk_length (any ts) l = omega (arith, walk_any_length ts l)
    walk_length (or_else a b) l =
        let m = walk L o T a l in
        let n = walk L o T b m in
        let h = walk_length a l in
        let k = walk_length b m in
        either_unless_permitted (λ k. length k ≤ length l + (1 + words a + words b)) (reduce_policy L o T a) m n (omega arith) (omega arith)
    walk_length (stored d) l = omega arith

    walk_all_length : (ts : Policies L.O) (l : Consulted) → length (walk_all L o T ts l) ≤ length l + wordss ts
    walk_all_length pnil l = omega arith
    walk_all_length (pcons t ts) l =
        let m = walk L o T t l in
        let n = walk_all L o T ts m in
        let h = walk_length t l in
        let k = walk_all_length ts m in
        either_unless_denied (λ k. length k ≤ length l + (words t + wordss ts)) (reduce_policy L o T t) m n (first_walk l m n (words t) (wordss ts) h k) (both_walks l m n (words t) (wordss ts) h k)

    walk_any_length : (ts : Policies L.O) (l : Consulted) → length (walk_any L o T ts l) ≤ length l + wordss ts
    walk_any_length pnil l = omega arith
    walk_any_length (pcons t ts) l = omega (arith, walk_length t l, walk_any_length ts (walk L o T t l))

-- A consulted list of facts below 1,024, each once, has at most 1,024 entries.
pub log_length : (l : Consulted) → Good (λ f. f < 1024) l → length l ≤ 1024
log_length l h = omega (arith, length_facts l, pigeon 1024 (consulted_facts l) h.0 h.1)
