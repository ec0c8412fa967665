-- Laws of the state that the list rules carry: one arm more, an arm that stops, the end of the list, and the sizes and words of what it keeps.
use Rattle.std.specs.Prelude.{◌≡◌, refl, true, false, List, [], ◌∷◌, ◌++◌, ℕ, ◌+◌, length}
use Rattle.std.proofs.Common.{sym, ◌∙◌, ap, ap₂, append-nil, append_assoc, arith}
use Rattle.std.proofs.Math.Option.{Option, none, some}
use Rattle.std.proofs.Math.Seq.{append_snoc}
use Rattle.model.specs.Facts.{Table}
use Rattle.model.specs.Levels.{OutcomeTable}
use Rattle.model.specs.Decision.{Permit, Denial, Decision, permits, denies}
use Rattle.model.specs.Policy.{Policy, all, any, stored, Policies, pnil, pcons}
use Rattle.model.specs.Evaluate.{first_deny}
use Rattle.model.specs.Partial.{ReducedPolicy, resolved, pending, Order, permits_first, arms, kept, AllWalk, stop, go, step_all, walked_all, AnyWalk, parts, step_any, walked_any}
use Rattle.model.specs.Consulted.{Consulted, unless_denied}
use Rattle.model.specs.Writing.{word, count}
use Rattle.model.specs.Products.{Outcome, join_permit, eval_policy, eval_policies, end_all, end_any, reduce_policy, reduce_arms, walk, walk_all, encode_d, encode, encodes}
use Rattle.evaluate.specs.Folding.{or_denied, meet_next, all_of, join_next, any_of}
use Rattle.evaluate.specs.FoldingLaws.{all_is, any_is}
use Rattle.residual.specs.Weight.{weight_d, weight, weights}
use Rattle.partial_list.specs.declared.ListKind.{ListKind}
use Rattle.partial_list.specs.declared.ListKind.TheVariants.{All, Any}
use Rattle.partial_list.specs.Keeping.{Walked, walked, append, with_arm, stops, then_all, or_first, then_any, left_of, read_of, list_of, list_kind, as_decisions, kept_of, list_value, value_by, sofar_value, fold_next, is_open, nodes_of, with_nodes, end_of, weights_d, encodes_d}

-- ---- the arms that are left
append_one : (qs : Policies Outcome) (q : Policy Outcome) (rs : Policies Outcome) → append qs (pcons q rs) ≡ append (append qs (pcons q pnil)) rs
append_one pnil q rs = refl
append_one (pcons p qs) q rs = ap (pcons p) (append_one qs q rs)

append_none : (qs : Policies Outcome) → append qs pnil ≡ qs
append_none pnil = refl
append_none (pcons q qs) = ap (pcons q) (append_none qs)

all_step : (k : Walked) (x : ReducedPolicy Outcome) (w : AllWalk Outcome) → stops All x ≡ false → then_all k.permitted k.pend (step_all x w) ≡ then_all (with_arm k x).permitted (with_arm k x).pend w
all_step k (resolved (permits p)) (stop d) e = refl
all_step k (resolved (permits p)) (go os rs) e = ap (λ ps. go ps (append k.pend rs)) (sym (append_snoc k.permitted p os))
all_step k (resolved (denies d)) w e = cc
all_step k (pending q) (stop d) e = refl
all_step k (pending q) (go os rs) e = ap (go (k.permitted ++ os)) (append_one k.pend q rs)

first_more : (first : Option (Denial Outcome)) (d : Denial Outcome) (second : Option (Denial Outcome)) → or_first first (some d) ≡ or_first (some (first_deny first d)) second
first_more none d second = refl
first_more (some c) d second = refl

any_step : (k : Walked) (x : ReducedPolicy Outcome) (w : AnyWalk Outcome) →
    then_any k.permitted k.denied k.pend (step_any x w) ≡ then_any (with_arm k x).permitted (with_arm k x).denied (with_arm k x).pend w
any_step k (resolved (permits p)) (parts os second rs) = ap (λ ps. parts ps (or_first k.denied second) (append k.pend rs)) (sym (append_snoc k.permitted p os))
any_step k (resolved (denies d)) (parts os second rs) = ap (λ first. parts (k.permitted ++ os) first (append k.pend rs)) (first_more k.denied d second)
any_step k (pending q) (parts os second rs) = ap (parts (k.permitted ++ os) (or_first k.denied second)) (append_one k.pend q rs)

pub left_more : (kind : ListKind) (g : Option OutcomeTable) (P : Table) (k : Walked) (p : Policy Outcome) (ts : Policies Outcome) → stops kind (reduce_policy g permits_first P p) ≡ false →
    left_of kind g P k (pcons p ts) ≡ left_of kind g P (with_arm k (reduce_policy g permits_first P p)) ts
left_more All g P k p ts e = ap (end_all g P) (all_step k (reduce_policy g permits_first P p) (walked_all (reduce_arms g permits_first P ts)) e)
left_more Any g P k p ts e = ap (end_any g P) (any_step k (reduce_policy g permits_first P p) (walked_any (reduce_arms g permits_first P ts)))

on_read_lem : (x : ReducedPolicy Outcome) (here on : Consulted) → stops All x ≡ false → unless_denied x here on ≡ on
on_read_lem (resolved (permits p)) here on e = refl
on_read_lem (resolved (denies d)) here on e = cc
on_read_lem (pending q) here on e = refl

pub read_more : (kind : ListKind) (g : Option OutcomeTable) (o : Order) (P : Table) (p : Policy Outcome) (ts : Policies Outcome) (l : Consulted) → stops kind (reduce_policy g o P p) ≡ false →
    read_of kind g o P (pcons p ts) l ≡ read_of kind g o P ts (walk g o P p l)
read_more All g o P p ts l e = on_read_lem (reduce_policy g o P p) (walk g o P p l) (walk_all g o P ts (walk g o P p l)) e
read_more Any g o P p ts l e = refl

-- An arm that stops All is what it comes to.
stop_step : (g : Option OutcomeTable) (k : Walked) (x : ReducedPolicy Outcome) (w : AllWalk Outcome) (T : Table) → stops All x ≡ true → end_all g T (then_all k.permitted k.pend (step_all x w)) ≡ x
stop_step g k (resolved (permits p)) w T e = cc
stop_step g k (resolved (denies d)) w T e = refl
stop_step g k (pending q) w T e = cc

stop_read : (x : ReducedPolicy Outcome) (here on : Consulted) → stops All x ≡ true → unless_denied x here on ≡ here
stop_read (resolved (permits p)) here on e = cc
stop_read (resolved (denies d)) here on e = refl
stop_read (pending q) here on e = cc

pub left_stop : (kind : ListKind) (g : Option OutcomeTable) (P : Table) (k : Walked) (p : Policy Outcome) (ts : Policies Outcome) → stops kind (reduce_policy g permits_first P p) ≡ true →
    left_of kind g P k (pcons p ts) ≡ reduce_policy g permits_first P p
left_stop All g P k p ts e = stop_step g k (reduce_policy g permits_first P p) (walked_all (reduce_arms g permits_first P ts)) P e
left_stop Any g P k p ts e = cc

pub read_stop : (kind : ListKind) (g : Option OutcomeTable) (o : Order) (P : Table) (p : Policy Outcome) (ts : Policies Outcome) (l : Consulted) → stops kind (reduce_policy g o P p) ≡ true →
    read_of kind g o P (pcons p ts) l ≡ walk g o P p l
read_stop All g o P p ts l e = stop_read (reduce_policy g o P p) (walk g o P p l) (walk_all g o P ts (walk g o P p l)) e
read_stop Any g o P p ts l e = cc

pub read_none : (kind : ListKind) (g : Option OutcomeTable) (o : Order) (P : Table) (l : Consulted) → read_of kind g o P pnil l ≡ l
read_none All g o P l = refl
read_none Any g o P l = refl

pub read_start : (kind : ListKind) (g : Option OutcomeTable) (o : Order) (P : Table) (ts : Policies Outcome) (l : Consulted) → walk g o P (list_of kind ts) l ≡ read_of kind g o P ts l
read_start All g o P ts l = refl
read_start Any g o P ts l = refl

-- ---- the decision of the resolved arms so far
all_snoc : (g : Option OutcomeTable) (x : Decision Outcome) (ps : List (Permit Outcome)) (p : Permit Outcome) → meet_next g (some (all_of g (some x) (as_decisions ps))) (permits p) ≡ all_of g (some x) (as_decisions (ps ++ p ∷ []))
all_snoc g x [] p = refl
all_snoc g x (q ∷ ps) p = all_snoc g (meet_next g (some x) (permits q)) ps p

any_snoc : (g : Option OutcomeTable) (x : Decision Outcome) (ps : List (Permit Outcome)) (p : Permit Outcome) → join_next g (some (any_of g (some x) (as_decisions ps))) (permits p) ≡ any_of g (some x) (as_decisions (ps ++ p ∷ []))
any_snoc g x [] p = refl
any_snoc g x (q ∷ ps) p = any_snoc g (join_next g (some x) (permits q)) ps p

any_denied : (g : Option OutcomeTable) (p : Permit Outcome) (ps : List (Permit Outcome)) (d : Denial Outcome) → join_next g (some (any_of g (some (permits p)) (as_decisions ps))) (denies d) ≡ any_of g (some (permits p)) (as_decisions ps)
any_denied g p [] d = refl
any_denied g p (q ∷ ps) d = any_denied g (join_permit g p q) ps d

all_more : (g : Option OutcomeTable) (ps : List (Permit Outcome)) (p : Permit Outcome) → some (fold_next All g (value_by All g (as_decisions ps)) (permits p)) ≡ value_by All g (as_decisions (ps ++ p ∷ []))
all_more g [] p = refl
all_more g (q ∷ ps) p = ap some (all_snoc g (permits q) ps p)

any_permit_more : (g : Option OutcomeTable) (ps : List (Permit Outcome)) (first : Option (Denial Outcome)) (p : Permit Outcome) → some (fold_next Any g (value_by Any g (kept_of ps first)) (permits p)) ≡ value_by Any g (kept_of (ps ++ p ∷ []) first)
any_permit_more g [] none p = refl
any_permit_more g [] (some d) p = refl
any_permit_more g (q ∷ ps) first p = ap some (any_snoc g (permits q) ps p)

any_deny_more : (g : Option OutcomeTable) (ps : List (Permit Outcome)) (first : Option (Denial Outcome)) (d : Denial Outcome) → some (fold_next Any g (value_by Any g (kept_of ps first)) (denies d)) ≡ value_by Any g (kept_of ps (some (first_deny first d)))
any_deny_more g [] none d = refl
any_deny_more g [] (some c) d = refl
any_deny_more g (q ∷ ps) first d = ap some (any_denied g q ps d)

pub value_more : (kind : ListKind) (g : Option OutcomeTable) (k : Walked) (d : Decision Outcome) → stops kind (resolved d) ≡ false → some (fold_next kind g (sofar_value kind g k) d) ≡ sofar_value kind g (with_arm k (resolved d))
value_more All g k (permits p) e = all_more g k.permitted p
value_more All g k (denies d) e = cc
value_more Any g k (permits p) e = any_permit_more g k.permitted k.denied p
value_more Any g k (denies d) e = any_deny_more g k.permitted k.denied d

-- What a list comes to is the decision of its arms, and without arms a deny.
pub deny_without : (kind : ListKind) (g : Option OutcomeTable) (ds : List (Decision Outcome)) → list_value kind g ds ≡ or_denied (value_by kind g ds)
deny_without All g [] = refl
deny_without Any g [] = refl
deny_without kind g (d ∷ ds) = refl

-- ---- the end of a list
pub open_more : (qs : Policies Outcome) (q : Policy Outcome) → is_open (append qs (pcons q pnil)) ≡ true
open_more pnil q = refl
open_more (pcons p qs) q = refl

arms_are : (ps : List (Permit Outcome)) (qs : Policies Outcome) → arms ps qs ≡ with_nodes (as_decisions ps) qs
arms_are [] qs = refl
arms_are (p ∷ ps) qs = ap (pcons (stored (permits p))) (arms_are ps qs)

kept_are : (ps : List (Permit Outcome)) (first : Option (Denial Outcome)) (qs : Policies Outcome) → kept ps first qs ≡ with_nodes (kept_of ps first) qs
kept_are [] none qs = refl
kept_are [] (some d) qs = refl
kept_are (p ∷ ps) first qs = arms_are (p ∷ ps) qs

nodes_value : (g : Option OutcomeTable) (T : Table) (ds : List (Decision Outcome)) → eval_policies g T (with_nodes ds pnil) ≡ ds
nodes_value g T [] = refl
nodes_value g T (d ∷ ds) = ap (λ es. d ∷ es) (nodes_value g T ds)

first_last : (first : Option (Denial Outcome)) → or_first first none ≡ first
first_last none = refl
first_last (some d) = refl

pub left_none : (kind : ListKind) (g : Option OutcomeTable) (P : Table) (k : Walked) → left_of kind g P k pnil ≡ end_of kind g P k
left_none All g P k = ap₂ (λ ps qs. end_all g P (go ps qs)) (append-nil k.permitted) (append_none k.pend)
left_none Any g P k =
    ap₂ (λ ps qs. end_any g P (parts ps (or_first k.denied none) qs)) (append-nil k.permitted) (append_none k.pend)
    ∙ ap (λ first. end_any g P (parts k.permitted first k.pend)) (first_last k.denied)

none_at : (kind : ListKind) (g : Option OutcomeTable) (P : Table) (ps : List (Permit Outcome)) (first : Option (Denial Outcome)) (qs : Policies Outcome) → is_open qs ≡ false →
    end_of kind g P (walked ps first qs) ≡ resolved (or_denied (sofar_value kind g (walked ps first qs)))
none_at kind g P ps first (pcons q qs) e = cc
none_at All g P ps first pnil e =
    ap (λ ts. resolved (eval_policy g P (all ts))) (arms_are ps pnil)
    ∙ ap resolved (all_is g (eval_policies g P (with_nodes (as_decisions ps) pnil)) ∙ ap (list_value All g) (nodes_value g P (as_decisions ps)) ∙ deny_without All g (as_decisions ps))
none_at Any g P ps first pnil e =
    ap (λ ts. resolved (eval_policy g P (any ts))) (kept_are ps first pnil)
    ∙ ap resolved (any_is g (eval_policies g P (with_nodes (kept_of ps first) pnil)) ∙ ap (list_value Any g) (nodes_value g P (kept_of ps first)) ∙ deny_without Any g (kept_of ps first))

pub end_none : (kind : ListKind) (g : Option OutcomeTable) (P : Table) (k : Walked) → is_open k.pend ≡ false → end_of kind g P k ≡ resolved (or_denied (sofar_value kind g k))
end_none kind g P k e = none_at kind g P k.permitted k.denied k.pend e

some_at : (kind : ListKind) (g : Option OutcomeTable) (P : Table) (ps : List (Permit Outcome)) (first : Option (Denial Outcome)) (qs : Policies Outcome) → is_open qs ≡ true →
    end_of kind g P (walked ps first qs) ≡ pending (list_of kind (with_nodes (nodes_of kind (walked ps first qs)) qs))
some_at kind g P ps first pnil e = cc
some_at All g P ps first (pcons q qs) e = ap (λ ts. pending (all ts)) (arms_are ps (pcons q qs))
some_at Any g P ps first (pcons q qs) e = ap (λ ts. pending (any ts)) (kept_are ps first (pcons q qs))

pub end_some : (kind : ListKind) (g : Option OutcomeTable) (P : Table) (k : Walked) → is_open k.pend ≡ true → end_of kind g P k ≡ pending (list_of kind (with_nodes (nodes_of kind k) k.pend))
end_some kind g P k e = some_at kind g P k.permitted k.denied k.pend e

-- ---- sizes and words of nodes and of pending arms
pub nodes_more : (ps : List (Permit Outcome)) (p : Permit Outcome) → weights_d (as_decisions (ps ++ p ∷ [])) ≡ weights_d (as_decisions ps) + weight_d (permits p)
nodes_more [] p = omega arith
nodes_more (q ∷ ps) p = omega (arith, nodes_more ps p)

pub node_words_more : (ps : List (Permit Outcome)) (p : Permit Outcome) → encodes_d (as_decisions (ps ++ p ∷ [])) ≡ encodes_d (as_decisions ps) ++ encode_d (permits p)
node_words_more [] p = append-nil (encode_d (permits p))
node_words_more (q ∷ ps) p =
    ap (λ ws. encode_d (permits q) ++ ws) (node_words_more ps p)
    ∙ sym (append_assoc (encode_d (permits q)) (encodes_d (as_decisions ps)) (encode_d (permits p)))

pub node_count_more : (ps : List (Permit Outcome)) (p : Permit Outcome) → length (as_decisions (ps ++ p ∷ [])) ≡ length (as_decisions ps) + 1
node_count_more [] p = omega arith
node_count_more (q ∷ ps) p = omega (arith, node_count_more ps p)

pub pend_more : (qs : Policies Outcome) (q : Policy Outcome) → weights (append qs (pcons q pnil)) ≡ weights qs + weight q
pend_more pnil q = omega arith
pend_more (pcons p qs) q = omega (arith, pend_more qs q)

pub pend_words_more : (qs : Policies Outcome) (q : Policy Outcome) → encodes (append qs (pcons q pnil)) ≡ encodes qs ++ encode q
pend_words_more pnil q = append-nil (encode q)
pend_words_more (pcons p qs) q =
    ap (λ ws. encode p ++ ws) (pend_words_more qs q)
    ∙ sym (append_assoc (encode p) (encodes qs) (encode q))

pub pend_count_more : (qs : Policies Outcome) (q : Policy Outcome) → count (append qs (pcons q pnil)) ≡ count qs + 1
pend_count_more pnil q = omega arith
pend_count_more (pcons p qs) q = omega (arith, pend_count_more qs q)

whole_weight : (ds : List (Decision Outcome)) (qs : Policies Outcome) → weights (with_nodes ds qs) ≡ weights_d ds + weights qs
whole_weight [] qs = omega arith
whole_weight (d ∷ ds) qs = omega (arith, whole_weight ds qs)

whole_words : (ds : List (Decision Outcome)) (qs : Policies Outcome) → encodes (with_nodes ds qs) ≡ encodes_d ds ++ encodes qs
whole_words [] qs = refl
whole_words (d ∷ ds) qs =
    ap (λ ws. encode_d d ++ ws) (whole_words ds qs) ∙ sym (append_assoc (encode_d d) (encodes_d ds) (encodes qs))

whole_count : (ds : List (Decision Outcome)) (qs : Policies Outcome) → count (with_nodes ds qs) ≡ length ds + count qs
whole_count [] qs = omega arith
whole_count (d ∷ ds) qs = omega (arith, whole_count ds qs)

pub list_weight : (kind : ListKind) (ds : List (Decision Outcome)) (qs : Policies Outcome) → weight (list_of kind (with_nodes ds qs)) ≡ weights_d ds + (1 + weights qs)
list_weight All ds qs = omega (arith, whole_weight ds qs)
list_weight Any ds qs = omega (arith, whole_weight ds qs)

pub list_words : (kind : ListKind) (ds : List (Decision Outcome)) (qs : Policies Outcome) (n : ℕ) → n ≡ length ds + count qs →
    encode (list_of kind (with_nodes ds qs)) ≡ word (list_kind kind) n ∷ (encodes_d ds ++ encodes qs)
list_words All ds qs n e = ap₂ (λ m ws. word 9 m ∷ ws) (whole_count ds qs ∙ sym e) (whole_words ds qs)
list_words Any ds qs n e = ap₂ (λ m ws. word 10 m ∷ ws) (whole_count ds qs ∙ sym e) (whole_words ds qs)
