-- Laws of the state that the list rule in sheet order carries: one arm more, an arm that ends the list, the end of the list, and words and sizes.
use Rattle.std.specs.Prelude.{◌≡◌, refl, true, false, List, [], ◌∷◌, ◌++◌, ℕ, ◌+◌}
use Rattle.std.proofs.Common.{sym, ◌∙◌, ap, append-nil, append_assoc, arith}
use Rattle.std.proofs.Math.Option.{Option, none, some}
use Rattle.std.proofs.Math.Seq.{append_snoc}
use Rattle.model.specs.Facts.{Table}
use Rattle.model.specs.Levels.{OutcomeTable}
use Rattle.model.specs.Decision.{Denial, Decision, permits, denies}
use Rattle.model.specs.Policy.{Policy, all, any, Policies, pnil, pcons}
use Rattle.model.specs.Partial.{ReducedPolicy, resolved, pending, as_residual, sheet_order, in_order, any_pending}
use Rattle.model.specs.Writing.{word, count}
use Rattle.model.specs.Products.{Outcome, all_from, any_from, eval_policies, end_in_order, reduce_policy, reduce_arms, encode, encodes}
use Rattle.evaluate.specs.Folding.{or_denied, meet_next, all_of, join_next, any_of}
use Rattle.evaluate.specs.FoldingLaws.{all_is, any_is}
use Rattle.residual.specs.Weight.{weight, weights}
use Rattle.partial_list.specs.declared.ListKind.{ListKind}
use Rattle.partial_list.specs.declared.ListKind.TheVariants.{All, Any}
use Rattle.partial_list.specs.Keeping.{stops, list_of, list_kind, value_by, fold_next}
use Rattle.partial_list.specs.KeepingLaws.{deny_without}
use Rattle.partial_list.specs.Holding.{held_of, left_of, decisions_of, value_of, NoDeny}

-- A list of no arms yet is the list.
pub left_start : (kind : ListKind) (g : Option OutcomeTable) (P : Table) (ts : Policies Outcome) → left_of kind g P [] ts ≡ reduce_policy g sheet_order P (list_of kind ts)
left_start All g P ts = refl
left_start Any g P ts = refl

-- ---- an arm that does not end the list
held_more : (kind : ListKind) (x : ReducedPolicy Outcome) (rs : List (ReducedPolicy Outcome)) → stops kind x ≡ false → held_of kind (x ∷ rs) ≡ x ∷ held_of kind rs
held_more All (resolved (permits p)) rs e = refl
held_more All (resolved (denies d)) rs e = cc
held_more All (pending q) rs e = refl
held_more Any x rs e = refl

pub left_more : (kind : ListKind) (g : Option OutcomeTable) (P : Table) (k : List (ReducedPolicy Outcome)) (t : Policy Outcome) (ts : Policies Outcome) → stops kind (reduce_policy g sheet_order P t) ≡ false
    → left_of kind g P k (pcons t ts) ≡ left_of kind g P (k ++ reduce_policy g sheet_order P t ∷ []) ts
left_more kind g P k t ts e =
    let x = reduce_policy g sheet_order P t in
    let rs = reduce_arms g sheet_order P ts in
    ap (λ us. end_in_order g (list_of kind) P (k ++ us)) (held_more kind x rs e)
    ∙ ap (end_in_order g (list_of kind) P) (sym (append_snoc k x (held_of kind rs)))

-- ---- an arm that ends it: the others are not held, nor read
held_last : (kind : ListKind) (x : ReducedPolicy Outcome) (rs : List (ReducedPolicy Outcome)) → stops kind x ≡ true → held_of kind (x ∷ rs) ≡ x ∷ []
held_last All (resolved (permits p)) rs e = cc
held_last All (resolved (denies d)) rs e = refl
held_last All (pending q) rs e = cc
held_last Any x rs e = cc

pub left_last : (kind : ListKind) (g : Option OutcomeTable) (P : Table) (k : List (ReducedPolicy Outcome)) (t : Policy Outcome) (ts : Policies Outcome) → stops kind (reduce_policy g sheet_order P t) ≡ true
    → left_of kind g P k (pcons t ts) ≡ end_in_order g (list_of kind) P (k ++ reduce_policy g sheet_order P t ∷ [])
left_last kind g P k t ts e =
    ap (λ us. end_in_order g (list_of kind) P (k ++ us)) (held_last kind (reduce_policy g sheet_order P t) (reduce_arms g sheet_order P ts) e)

-- ---- the end: no arm is left
pub left_none : (kind : ListKind) (g : Option OutcomeTable) (P : Table) (k : List (ReducedPolicy Outcome)) → left_of kind g P k pnil ≡ end_in_order g (list_of kind) P k
left_none All g P k = ap (end_in_order g all P) (append-nil k)
left_none Any g P k = ap (end_in_order g any P) (append-nil k)

-- Where an arm is pending, the arms are held.
pub end_pending : (kind : ListKind) (g : Option OutcomeTable) (T : Table) (k : List (ReducedPolicy Outcome)) → any_pending k ≡ true → end_in_order g (list_of kind) T k ≡ pending (list_of kind (in_order k))
end_pending kind g T k e = rw e

evals_are : (g : Option OutcomeTable) (T : Table) (k : List (ReducedPolicy Outcome)) → any_pending k ≡ false → eval_policies g T (in_order k) ≡ decisions_of k
evals_are g T [] e = refl
evals_are g T (resolved d ∷ k) e = ap (λ ds. d ∷ ds) (evals_are g T k e)
evals_are g T (pending q ∷ k) e = cc

pub end_value : (kind : ListKind) (g : Option OutcomeTable) (T : Table) (k : List (ReducedPolicy Outcome)) → any_pending k ≡ false → end_in_order g (list_of kind) T k ≡ resolved (or_denied (value_of kind g k))
end_value All g T k e = rw e (ap resolved (ap (all_from g none) (evals_are g T k e) ∙ all_is g (decisions_of k) ∙ deny_without All g (decisions_of k)))
end_value Any g T k e = rw e (ap resolved (ap (any_from g none none) (evals_are g T k e) ∙ any_is g (decisions_of k) ∙ deny_without Any g (decisions_of k)))

-- One decision more: the fold goes on while no arm is pending.
decisions_more : (k : List (ReducedPolicy Outcome)) (d : Decision Outcome) → decisions_of (k ++ resolved d ∷ []) ≡ decisions_of k ++ d ∷ []
decisions_more [] d = refl
decisions_more (resolved c ∷ k) d = ap (λ ds. c ∷ ds) (decisions_more k d)
decisions_more (pending q ∷ k) d = decisions_more k d

all_snoc : (g : Option OutcomeTable) (x : Decision Outcome) (k : List (ReducedPolicy Outcome)) (d : Decision Outcome) → NoDeny All k → any_pending k ≡ false → meet_next g (some (all_of g (some x) (decisions_of k))) d ≡ all_of g (some x) (decisions_of k ++ d ∷ [])
all_snoc g (permits p) [] (permits q) n e = refl
all_snoc g (permits p) [] (denies d) n e = refl
all_snoc g (denies c) [] (permits q) n e = refl
all_snoc g (denies c) [] (denies d) n e = refl
all_snoc g x (resolved (permits p) ∷ k) d n e = all_snoc g (meet_next g (some x) (permits p)) k d n e
all_snoc g x (resolved (denies c) ∷ k) d n e = absurd n
all_snoc g x (pending q ∷ k) d n e = all_snoc g x k d n (cc)

any_snoc : (g : Option OutcomeTable) (x : Decision Outcome) (ds : List (Decision Outcome)) (d : Decision Outcome) → join_next g (some (any_of g (some x) ds)) d ≡ any_of g (some x) (ds ++ d ∷ [])
any_snoc g x [] d = refl
any_snoc g x (c ∷ ds) d = any_snoc g (join_next g (some x) c) ds d

all_more : (g : Option OutcomeTable) (k : List (ReducedPolicy Outcome)) (d : Decision Outcome) → NoDeny All k → any_pending k ≡ false → some (fold_next All g (value_of All g k) d) ≡ value_by All g (decisions_of k ++ d ∷ [])
all_more g [] (permits p) n e = refl
all_more g [] (denies d) n e = refl
all_more g (resolved (permits p) ∷ k) d n e = ap some (all_snoc g (permits p) k d n e)
all_more g (resolved (denies c) ∷ k) d n e = absurd n
all_more g (pending q ∷ k) d n e = cc

any_more : (g : Option OutcomeTable) (k : List (ReducedPolicy Outcome)) (d : Decision Outcome) → any_pending k ≡ false → some (fold_next Any g (value_of Any g k) d) ≡ value_by Any g (decisions_of k ++ d ∷ [])
any_more g [] d e = refl
any_more g (resolved c ∷ k) d e = ap some (any_snoc g c (decisions_of k) d)
any_more g (pending q ∷ k) d e = cc

pub value_more : (kind : ListKind) (g : Option OutcomeTable) (k : List (ReducedPolicy Outcome)) (d : Decision Outcome) → NoDeny kind k → any_pending k ≡ false → some (fold_next kind g (value_of kind g k) d) ≡ value_of kind g (k ++ resolved d ∷ [])
value_more All g k d n e = all_more g k d n e ∙ ap (value_by All g) (sym (decisions_more k d))
value_more Any g k d n e = any_more g k d e ∙ ap (value_by Any g) (sym (decisions_more k d))

-- A deny that ends an All of which no arm is pending is its answer.
deny_last : (g : Option OutcomeTable) (x : Option (Decision Outcome)) (d : Denial Outcome) → fold_next All g x (denies d) ≡ denies d
deny_last g none d = refl
deny_last g (some (permits p)) d = refl
deny_last g (some (denies c)) d = refl

pub value_last : (g : Option OutcomeTable) (k : List (ReducedPolicy Outcome)) (d : Denial Outcome) → NoDeny All k → any_pending k ≡ false → value_of All g (k ++ resolved (denies d) ∷ []) ≡ some (denies d)
value_last g k d n e = sym (value_more All g k (denies d) n e) ∙ ap some (deny_last g (value_of All g k) d)

-- ---- whether an arm is pending, words and sizes, with one arm more
pub pending_more : (k : List (ReducedPolicy Outcome)) (d : Decision Outcome) → any_pending (k ++ resolved d ∷ []) ≡ any_pending k
pending_more [] d = refl
pending_more (resolved c ∷ k) d = pending_more k d
pending_more (pending q ∷ k) d = refl

pub pending_open : (k : List (ReducedPolicy Outcome)) (q : Policy Outcome) → any_pending (k ++ pending q ∷ []) ≡ true
pending_open [] q = refl
pending_open (resolved c ∷ k) q = pending_open k q
pending_open (pending p ∷ k) q = refl

pub weights_more : (k : List (ReducedPolicy Outcome)) (x : ReducedPolicy Outcome) → weights (in_order (k ++ x ∷ [])) ≡ weights (in_order k) + weight (as_residual x)
weights_more [] x = omega arith
weights_more (r ∷ k) x = omega (arith, weights_more k x)

pub words_more : (k : List (ReducedPolicy Outcome)) (x : ReducedPolicy Outcome) → encodes (in_order (k ++ x ∷ [])) ≡ encodes (in_order k) ++ encode (as_residual x)
words_more [] x = append-nil (encode (as_residual x))
words_more (r ∷ k) x =
    ap (λ ws. encode (as_residual r) ++ ws) (words_more k x)
    ∙ sym (append_assoc (encode (as_residual r)) (encodes (in_order k)) (encode (as_residual x)))

pub count_more : (k : List (ReducedPolicy Outcome)) (x : ReducedPolicy Outcome) → count (in_order (k ++ x ∷ [])) ≡ count (in_order k) + 1
count_more [] x = refl
count_more (r ∷ k) x = omega (arith, count_more k x)

-- The words of the list: its lead, then the arms as they were laid.
pub list_words : (kind : ListKind) (k : List (ReducedPolicy Outcome)) (n : ℕ) → n ≡ count (in_order k) → encode (list_of kind (in_order k)) ≡ word (list_kind kind) n ∷ encodes (in_order k)
list_words All k n e = ap (λ m. word 9 m ∷ encodes (in_order k)) (sym e)
list_words Any k n e = ap (λ m. word 10 m ∷ encodes (in_order k)) (sym e)

-- An arm that does not end the list.
pub going_more : (kind : ListKind) (k : List (ReducedPolicy Outcome)) (x : ReducedPolicy Outcome) → NoDeny kind k → stops kind x ≡ false → NoDeny kind (k ++ x ∷ [])
going_more All [] (resolved (permits p)) g e = tt
going_more All [] (resolved (denies d)) g e = cc
going_more All [] (pending q) g e = tt
going_more All (resolved (permits p) ∷ k) x g e = going_more All k x g e
going_more All (resolved (denies d) ∷ k) x g e = absurd g
going_more All (pending q ∷ k) x g e = going_more All k x g e
going_more Any k x g e = tt
