-- A list rule by its first arm and the others, and an OrElse by its two policies. Assumes nothing.
use mathlib.Core.Path.{◌≡◌, refl, sym, ◌∙◌, ap, subst}
use mathlib.Core.Bool.{Bool, true, false}
use mathlib.Core.Option.{Option, none}
use Rattle.std.specs.Prelude.{None}
use mathlib.Core.List.{List, [], ◌∷◌, ◌++◌, append-nil}
use Prim.Native.Nat.{ℕ, ◌+◌, ◌-◌, ◌≤◌, ◌<◌, min}
use native.Mathlib.Omega.{arith}
use lib.ListN.{length, take, drop, get_or, length-append, length-take, length-drop, drop_of_length-le}
use lib.Seq.{drop-drop, drop_at, length-take-le}
use Rattle.model.specs.Facts.{Table}
use Rattle.model.specs.Levels.{OutcomeTable}
use Rattle.model.specs.Decision.{permits, denies}
use Rattle.model.specs.Decision.{Decision as Decided}
use Rattle.model.specs.Policy.{Policy, or_else, Policies, pnil, pcons}
use Rattle.model.specs.Partial.{resolved, pending, Order, permits_first, AllWalk, stop, go, walked_all, AnyWalk, parts, walked_any, reduce_or_else}
use Rattle.model.specs.Partial as model
use Rattle.model.specs.Consulted.{Consulted, unless_permitted}
use Rattle.model.specs.Writing.{count}
use Rattle.model.specs.Reading.{Parsed, got, next, many}
use Rattle.model.specs.Products.{Outcome, end_all, end_any, reduce_policy, reduce_arms, walk, encode_d, encode, read_policy}
use Rattle.laws.proofs.FieldLaws.{Holds, fine, weaker, then_holds, both_hold}
use Rattle.laws.specs.Size.{words, wordss}
use Rattle.policy_model.specs.declared.PolicyHead.TheVariants.{OrElse}
use Rattle.policy_model.specs.Heads.{policy_node}
use Rattle.policy_model.specs.Span.{Skipped}
use Rattle.policy_model.proofs.Policies.{policy_leaves}
use Rattle.consulted.specs.Listing.{Lent}
use Rattle.consulted.proofs.Listing.{consults_none, consults_then, consults_as}
use Rattle.decision.proofs.Buffers.{deny_decision, deny_sound}
use Rattle.evaluate.proofs.Nodes.{node_holds, skipped, one_passed}
use Rattle.evaluate.proofs.Arms.{arms_more}
use Rattle.sizes.specs.Laid.{capped, Laid}
use Rattle.sizes.specs.LaidLaws.{laid_as, laid_none}
use Rattle.residual.specs.Weight.{weight_d, weight, weights}
use Rattle.decision.specs.declared.Decision.{Decision}
use Rattle.partial_list.specs.declared.ListKind.{ListKind}
use Rattle.partial_list.specs.declared.ListKind.TheVariants.{All, Any}
use Rattle.partial_list.specs.declared.Reduced.{Reduced}
use Rattle.partial_list.specs.declared.Reduced.TheVariants.{Resolved, Pending}
use Rattle.partial_list.specs.declared.ReducedPolicy.{ReducedPolicy}
use Rattle.partial_list.specs.declared.Sofar.{Sofar}
use Rattle.partial_list.specs.Keeping.{Walked, walked, append, with_arm, stops, then_all, then_any, left_of, read_of, list_of, as_decisions, sofar_value, is_open, arms_with, end_of, weights_d, encodes_d}
use Rattle.partial_list.specs.KeepingLaws.{left_more, read_more, left_stop, read_stop, read_none, read_start, value_more, open_more, left_none, end_none, end_some, nodes_more, node_words_more, node_count_more, pend_more, pend_words_more, pend_count_more}
use Rattle.partial_list.specs.Within.{LaidWithin}
use Rattle.partial_list.specs.WithinLaws.{within, within_less, within_as, within_then, within_still, laid_still}
use Rattle.partial_list.specs.Answers.{resolved_to, Resolves, Decides, Result, Fit, none_yet, with_pending, Bounded, SofarIs, DecisionAdded, ListEnds}
use Rattle.partial_policy.specs.Reducing.{ReducedTo, ReducesP, ReducesBy, list_head, stopped_at, OrElsePut}
use Rattle.partial_list.proofs.Adding.{clash, decided_as, lent_decides, lent_resolves, resolves_or_denied}
use Rattle.decision.specs.Room.{obligation_room}

-- ---- what comes back of a slice whose tail was lent
abbrev pub back : ℕ → List ℕ → List ℕ → List ℕ
back from mid part = take from mid ++ (part ++ drop (length mid - from) (drop from mid))

back_long : (from : ℕ) (mid part : List ℕ) → from ≤ length mid → length part ≡ length mid - from → length (back from mid part) ≡ length mid
back_long from mid part h long =
    let rest = drop (length mid - from) (drop from mid) in
    omega (arith, length-append (take from mid) (part ++ rest), length-append part rest, length-take from mid, length-drop (length mid - from) (drop from mid), length-drop from mid)

back_part : (from : ℕ) (mid part : List ℕ) → from ≤ length mid → drop from (back from mid part) ≡ part
back_part from mid part h =
    let none_left : drop (length mid - from) (drop from mid) ≡ [] = drop_of_length-le (drop from mid) {i = length mid - from} (omega (arith, length-drop from mid)) in
    drop_at (take from mid) (part ++ drop (length mid - from) (drop from mid)) from (length-take-le from mid h) ∙ ap (λ us. part ++ us) none_left ∙ append-nil part

-- ---- whether an arm stops the list
-- It does if it is resolved, and denies, under All.
abbrev pub stops_list : ListKind → Reduced → Bool
stops_list kind (Resolved d) = stopped_at kind d
stops_list kind (Pending n) = false

pub settled_as : (T : Table) (W buf : List ℕ) (room : ℕ) (out : List ℕ) (a : Reduced) (x : model.ReducedPolicy Outcome) → Result x T W buf room out a → (kind : ListKind) → stops kind x ≡ stops_list kind a
settled_as T W buf room out (Resolved d) (resolved (permits p)) h All = rw (decided_as T W buf d (permits p) h) refl
settled_as T W buf room out (Resolved d) (resolved (denies c)) h All = rw (decided_as T W buf d (denies c) h) refl
settled_as T W buf room out (Resolved d) (resolved D) h Any = refl
settled_as T W buf room out (Resolved d) (pending q) h kind = absurd h
settled_as T W buf room out (Pending n) (resolved D) h kind = absurd h
settled_as T W buf room out (Pending n) (pending q) h All = refl
settled_as T W buf room out (Pending n) (pending q) h Any = refl

-- ---- one more arm
value_open : (kind : ListKind) (g : Option OutcomeTable) (k : Walked) (q : Policy Outcome) → sofar_value kind g k ≡ sofar_value kind g (with_arm k (pending q))
value_open All g k q = refl
value_open Any g k q = refl

module _ (kind : ListKind) (g : Option OutcomeTable) (T : Table) (W : List ℕ) (v : Sofar) (buf part front fpart out opart : List ℕ) (behind from room : ℕ)
    (f : behind ≡ min v.kept (length front)) (o : from ≡ min v.size (length out)) (bounds : Bounded v) (wide : obligation_room ≤ length buf)
    (long : length fpart ≡ length front - behind) (rooms : room ≡ length front - behind) (olong : length opart ≡ length out - from) where
  abbrev beyond : List ℕ
  beyond = drop (length buf - obligation_room) (drop obligation_room buf)

  -- What was kept so far, with one arm more: a pending one,
  pub sofar_open : (n : ℕ) (k : Walked) (x : model.ReducedPolicy Outcome) → SofarIs kind g T W k v buf front out → Result x T W part room opart (Pending n) →
      SofarIs kind g T W (with_arm k x) (with_pending v n) (back obligation_room buf part) (back behind front fpart) (back from out opart)
  sofar_open n k (resolved D) s x = absurd x
  sofar_open n k (pending q) s x = record {
    decided = lent_decides T W buf part beyond v.decision (sofar_value kind g (with_arm k (pending q))) wide bounds.few (subst (Decides T W buf v.decision) (value_open kind g k q) s.decided);
    nodes = laid_still fpart s.nodes f long;
    free = s.free;
    left = within_as (let z : 1 + weights k.pend + weight q ≡ 1 + weights (append k.pend (pcons q pnil)) = omega (arith, pend_more k.pend q) in z)
        (ap (λ us. s.free ∷ us) (sym (pend_words_more k.pend q)))
        (within_then (within_less (omega (arith, back_long behind front fpart (omega arith) long)) s.left) (within_less (omega (arith, back_long behind front fpart (omega arith) long)) x) o olong refl);
    arms_are = omega (arith, s.arms_are, pend_count_more k.pend q);
    pending_is = sym (open_more k.pend q);
  }

  -- or a resolved one.
  module _ (d : Decision) (buf' front' : List ℕ) (v' : Sofar)
      (added : DecisionAdded kind g T W v d (back obligation_room buf part) (back behind front fpart) buf' front' v') (few : d.united ≤ length part) where
    known_more_arm : (k : Walked) (D : Decided Outcome) → SofarIs kind g T W k v buf front out → Resolves T W D part d → stops kind (resolved D) ≡ false → length front' ≡ length front →
        Laid (weights_d (as_decisions (with_arm k (resolved D)).permitted)) (encodes_d (as_decisions (with_arm k (resolved D)).permitted)) front' v'.kept →
        v'.arms ≡ length (as_decisions (with_arm k (resolved D)).permitted) + count k.pend →
        (kind ≡ All → d.permit ≡ true) → (with_arm k (resolved D)).pend ≡ k.pend →
        SofarIs kind g T W (with_arm k (resolved D)) v' buf' front' (back from out opart)
    known_more_arm k D s x e flong nodes arms q p =
        record {
          decided = subst (Decides T W buf' v'.decision) (value_more kind g k D e)
              (added.folds T (sofar_value kind g k) D (lent_decides T W buf part beyond v.decision (sofar_value kind g k) wide bounds.few s.decided) (lent_resolves buf part beyond wide few x) q);
          nodes = nodes;
          free = s.free;
          left = rw (p, added.size_is) (within_less (omega (arith, added.more)) (within_still opart s.left o olong));
          arms_are = arms ∙ ap (λ (qs : Policies Outcome). length (as_decisions (with_arm k (resolved D)).permitted) + count qs) (sym p);
          pending_is = added.pending_is ∙ s.pending_is ∙ ap is_open (sym p);
        }

    permit_arm : (k : Walked) (p : _) → SofarIs kind g T W k v buf front out → Resolves T W (permits p) part d → length front' ≡ length front →
        SofarIs kind g T W (with_arm k (resolved (permits p))) v' buf' front' (back from out opart)
    permit_arm k p s x flong =
        let permit = decided_as T W part d (permits p) x in
        let y = lent_resolves buf part beyond wide few x in
        let D = y.decision_is in
        known_more_arm k (permits p) s x (no_stop kind p) flong
        (laid_as (ap (λ y. weights_d (as_decisions k.permitted) + weight_d y) D ∙ sym (nodes_more k.permitted p)) (ap (λ y. encodes_d (as_decisions k.permitted) ++ encode_d y) D ∙ sym (node_words_more k.permitted p))
        (added.node permit (weights_d (as_decisions k.permitted)) (encodes_d (as_decisions k.permitted)) y.sound (laid_still fpart s.nodes f long)))
        (omega (arith, added.arms_are, ap (λ b. arms_with b v.arms) permit, s.arms_are, node_count_more k.permitted p)) (λ _. permit) refl
      where
        no_stop : (kind : ListKind) (p : _) → stops kind (resolved (permits p)) ≡ false
        no_stop All p = refl
        no_stop Any p = refl

    deny_arm : (k : Walked) (c : _) → SofarIs kind g T W k v buf front out → Resolves T W (denies c) part d → stops kind (resolved (denies c)) ≡ false → length front' ≡ length front →
        SofarIs kind g T W (with_arm k (resolved (denies c))) v' buf' front' (back from out opart)
    deny_arm k c s x e flong =
        let denied = decided_as T W part d (denies c) x in
        let None-more = added.none denied in
        known_more_arm k (denies c) s x e flong
        (rw (None-more.0, None-more.1) (laid_still fpart s.nodes f long))
        (added.arms_are ∙ ap (λ b. arms_with b v.arms) denied ∙ s.arms_are) (λ t. clash true refl (sym (ap (λ b. stops b (resolved (denies c))) t) ∙ e)) refl

    pub sofar_known : length front' ≡ length front → (k : Walked) (x : model.ReducedPolicy Outcome) → SofarIs kind g T W k v buf front out → Result x T W part room opart (Resolved d) → stops kind x ≡ false →
        SofarIs kind g T W (with_arm k x) v' buf' front' (back from out opart)
    sofar_known flong k (resolved (permits p)) s x e = permit_arm k p s x flong
    sofar_known flong k (resolved (denies c)) s x e = deny_arm k c s x e flong
    sofar_known flong k (pending q) s x e = absurd x

-- ---- arms
-- The answer for the arms that are left, given what is kept so far. Of arms that don't read only the bounds are said.
pub record ArmsLeft (kind : ListKind) (g : Option OutcomeTable) (P : Table) (W : List ℕ) (v : Sofar) (buf front out : List ℕ) (at depth arms : ℕ) (s : Lent) (r : ReducedPolicy) (t : Lent) (buf' out' : List ℕ) : Type 0 where
  pub fit : Fit r.to
  pub says : (k : Walked) → SofarIs kind g P W k v buf front out →
      Holds (λ ts rest. ReducedTo (left_of kind g P k ts) (at + wordss ts) (read_of kind g permits_first P ts) P W s r t buf' (length front) out') (many pnil pcons (read_policy true depth) arms (drop at W))

module _ (kind : ListKind) (g : Option OutcomeTable) (P : Table) (W : List ℕ) (depth : ℕ) (s m t : Lent) (a r : ReducedPolicy) (v : Sofar) (buf front out part opart : List ℕ) (room : ℕ) (buf' out' : List ℕ) (at arms : ℕ) (some : arms ≡ 0 → ⊥)
    (first : ReducesP g permits_first P W at depth s a m part room opart) where
  abbrev Whole : Walked → Policy Outcome → Policies Outcome → List ℕ → Type 0
  Whole k p ts rest = ReducedTo (left_of kind g P k (pcons p ts)) (at + wordss (pcons p ts)) (read_of kind g permits_first P (pcons p ts)) P W s r t buf' (length front) out'

  -- By the answer a to the first arm.
  arm_first : Fit r.to →
      ((k : Walked) (p : Policy Outcome) → SofarIs kind g P W k v buf front out → ReducedTo (reduce_policy g permits_first P p) (at + words p) (walk g permits_first P p) P W s a m part room opart →
      Holds (Whole k p) (many pnil pcons (read_policy true depth) (arms - 1) (drop a.next W))) →
      ArmsLeft kind g P W v buf front out at depth arms s r t buf' out'
  arm_first fit f =
      let one = read_policy true depth in
      record {
        fit = fit;
        says = λ k z. rw (arms_more one arms (drop at W) some)
            (then_holds (one (drop at W)) (λ p vs. next (many pnil pcons one (arms - 1) vs) (λ ps us. got (pcons p ps) us))
            (both_hold (one (drop at W)) (first.says true) (policy_leaves true depth (drop at W))) (λ p vs h.
            let after : drop a.next W ≡ vs = ap (λ n. drop n W) h.0.next_is ∙ sym (drop-drop (words p) at W) ∙ h.1 in
            then_holds (many pnil pcons one (arms - 1) vs) (λ ps us. got (pcons p ps) us)
            (subst (λ ws. Holds (Whole k p) (many pnil pcons one (arms - 1) ws)) after (f k p z h.0)) (λ ps us h. fine h)));
      }

  -- An arm that does not stop the list: the others go on from what is kept with it.
  pub arm_goes : (v' : Sofar) (mid front' omid : List ℕ) → length front' ≡ length front →
      ((k : Walked) (x : model.ReducedPolicy Outcome) → SofarIs kind g P W k v buf front out → Result x P W part room opart a.to → stops kind x ≡ false → SofarIs kind g P W (with_arm k x) v' mid front' omid) →
      stops_list kind a.to ≡ false →
      ArmsLeft kind g P W v' mid front' omid a.next depth (arms - 1) m r t buf' out' → ArmsLeft kind g P W v buf front out at depth arms s r t buf' out'
  arm_goes v' mid front' omid long more e rest =
      arm_first rest.fit (λ k p z h.
      let x = reduce_policy g permits_first P p in
      let on : stops kind x ≡ false = settled_as P W part room opart a.to x h.result kind ∙ e in
      weaker (many pnil pcons (read_policy true depth) (arms - 1) (drop a.next W)) (λ ts us i. record {
        result = subst (λ n. Result (left_of kind g P k (pcons p ts)) P W buf' n out' r.to) long
            (subst (λ y. Result y P W buf' (length front') out' r.to) (sym (left_more kind g P k p ts on)) i.result);
        next_is = omega (arith, h.next_is, i.next_is);
        log = consults_as (λ l. read_more kind g permits_first P p ts l on) (consults_then h.log i.log);
      })
      (rest.says (with_arm k x) (more k x z h.result on)))

-- An arm that stops the list is its answer; the others are passed over.
stopped_by : (kind : ListKind) (P : Table) (W part mid : List ℕ) (room : ℕ) (opart out' : List ℕ) (d : Decision) (n : ℕ) (x : model.ReducedPolicy Outcome) → stops kind x ≡ true → Result x P W part room opart (Resolved d) → Result x P W mid n out' (Resolved d)
stopped_by Any P W part mid room opart out' d n x e h = clash true refl (sym e)
stopped_by All P W part mid room opart out' d n (resolved (permits p)) e h = clash true refl (sym e)
stopped_by All P W part mid room opart out' d n (resolved (denies c)) e h =
    let denied = decided_as P W part d (denies c) h in
    record {
      decision_is = deny_decision W part mid d denied h.sound P ∙ h.decision_is;
      sound = deny_sound W part mid d denied h.sound;
    }
stopped_by All P W part mid room opart out' d n (pending q) e h = clash true refl (sym e)

pub arm_stops : (kind : ListKind) (g : Option OutcomeTable) (P : Table) (W : List ℕ) (depth : ℕ) (s m : Lent) (a : ReducedPolicy) (d : Decision) (v : Sofar) (buf front out part opart : List ℕ) (room : ℕ) (mid out' : List ℕ) (at arms end : ℕ) → (arms ≡ 0 → ⊥) →
    ReducesP g permits_first P W at depth s a m part room opart → a.to ≡ Resolved d → stops_list kind (Resolved d) ≡ true →
    ((depth : ℕ) (res : Bool) → Skipped wordss a.next (many pnil pcons (read_policy res depth) (arms - 1) (drop a.next W)) end) →
    ArmsLeft kind g P W v buf front out at depth arms s (resolved_to d end) m mid out'
arm_stops kind g P W depth s m a d v buf front out part opart room mid out' at arms end some first is e k =
    arm_first kind g P W depth s m m a (resolved_to d end) v buf front out part opart room mid out' at arms some first (rw is at first.fit) (λ w p z h.
    let x = reduce_policy g permits_first P p in
    let result = rw is at h.result in
    let stop-here : stops kind x ≡ true = settled_as P W part room opart (Resolved d) x result kind ∙ e in
    weaker (many pnil pcons (read_policy true depth) (arms - 1) (drop a.next W)) (λ ts us i. record {
      result = subst (λ y. Result y P W mid (length front) out' (Resolved d)) (sym (left_stop kind g P w p ts stop-here))
          (stopped_by kind P W part mid room opart out' d (length front) x stop-here result);
      next_is = omega (arith, h.next_is, i);
      log = consults_as (λ l. read_stop kind g permits_first P p ts l stop-here) h.log;
    })
    (skipped wordss a.next end (many pnil pcons (read_policy true depth) (arms - 1) (drop a.next W)) (k depth true)))

-- No arm is left.
ended_as : (kind : ListKind) (g : Option OutcomeTable) (P : Table) (W : List ℕ) (v : Sofar) (buf front out buf' out' : List ℕ) (r : Reduced) (k : Walked) (b : Bool) → v.pending ≡ b → SofarIs kind g P W k v buf front out →
    ListEnds kind P W v buf front out buf' out' r → Result (end_of kind g P k) P W buf' (length front) out' r
ended_as kind g P W v buf front out buf' out' r k true p s e =
    subst (λ y. Result y P W buf' (length front) out' r) (sym (end_some kind g P k (sym s.pending_is ∙ p))) (e.pending_is p g k s)
ended_as kind g P W v buf front out buf' out' r k false p s e =
    let is = e.resolved_is p in
    subst (λ y. Result y P W buf' (length front) out' r) (sym (end_none kind g P k (sym s.pending_is ∙ p)))
    (rw (is.0, is.1) (resolves_or_denied P W buf v.decision (sofar_value kind g k) s.decided))

pub arms_end : (kind : ListKind) (g : Option OutcomeTable) (P : Table) (W : List ℕ) (v : Sofar) (buf front out : List ℕ) (at depth arms : ℕ) (s : Lent) (r : Reduced) (buf' out' : List ℕ) → arms ≡ 0 →
    ListEnds kind P W v buf front out buf' out' r → ArmsLeft kind g P W v buf front out at depth arms s (record { to = r; next = at }) s buf' out'
arms_end kind g P W v buf front out at depth arms s r buf' out' z e =
    rw z (record {
      fit = e.fit;
      says = λ k i. fine (record {
        result = subst (λ y. Result y P W buf' (length front) out' r) (sym (left_none kind g P k)) (ended_as kind g P W v buf front out buf' out' r k v.pending refl i e);
        next_is = omega arith;
        log = consults_as (read_none kind g permits_first P) consults_none;
      });
    })

-- ---- the node that has the arms
pub first_word : {room : ℕ} (out : List ℕ) → LaidWithin room 1 (get_or out 0 0 ∷ []) out 1
first_word [] = within (record { size_is = refl; front = λ few fits. absurd (omega arith) })
first_word (x ∷ out) = within (record { size_is = refl; front = λ few fits. refl })

start_all : (w : AllWalk Outcome) → then_all [] pnil w ≡ w
start_all (stop d) = refl
start_all (go ps qs) = refl

start_any : (w : AnyWalk Outcome) → then_any [] none pnil w ≡ w
start_any (parts ps first qs) = refl

start_left : (kind : ListKind) (g : Option OutcomeTable) (P : Table) (ts : Policies Outcome) → left_of kind g P (walked [] none pnil) ts ≡ reduce_policy g permits_first P (list_of kind ts)
start_left All g P ts = ap (end_all g P) (start_all (walked_all (reduce_arms g permits_first P ts)))
start_left Any g P ts = ap (end_any g P) (start_any (walked_any (reduce_arms g permits_first P ts)))

pub start_words : (kind : ListKind) (ts : Policies Outcome) → words (list_of kind ts) ≡ 1 + wordss ts
start_words All ts = refl
start_words Any ts = refl

start_decides : (kind : ListKind) (g : Option OutcomeTable) (T : Table) (W buf : List ℕ) → Decides T W buf None (sofar_value kind g (walked [] none pnil))
start_decides All g T W buf = tt
start_decides Any g T W buf = tt

pub list_reads : (kind : ListKind) (pc : _) (p : List ℕ → Parsed (Policy Outcome)) (n : ℕ) (ws : List ℕ) → policy_node pc p (list_head kind n) ws ≡ next (many pnil pcons p n ws) (λ ts vs. got (list_of kind ts) vs)
unfolding policy_node
list_reads All pc p n ws = refl
list_reads Any pc p n ws = refl

module _ (kind : ListKind) (g : Option OutcomeTable) (P : Table) (W : List ℕ) (at depth n : ℕ) (s : Lent) (r : ReducedPolicy) (t : Lent) (buf front out buf' out' : List ℕ) (lt : at < length W) where
  none_kept : SofarIs kind g P W (walked [] none pnil) none_yet buf front out
  none_kept = record {
    decided = start_decides kind g P W buf;
    nodes = laid_none front;
    free = get_or out 0 0;
    left = first_word out;
    arms_are = refl;
    pending_is = refl;
  }

  pub list_node_lem : ArmsLeft kind g P W none_yet buf front out (at + 1) depth n s r t buf' out' → ReducesBy g permits_first (list_head kind n) P W at depth s r t buf' (length front) out'
  list_node_lem a = record {
    fit = a.fit;
    says = λ e. node_holds W at depth (list_head kind n) lt e (rw (list_reads kind _ (read_policy true depth) n (drop (at + 1) W))
        (then_holds (many pnil pcons (read_policy true depth) n (drop (at + 1) W)) (λ ts vs. got (list_of kind ts) vs) (a.says (walked [] none pnil) none_kept) (λ ts rest h. fine (record {
          result = subst (λ x. Result x P W buf' (length front) out' r.to) (start_left kind g P ts) h.result;
          next_is = omega (arith, h.next_is, start_words kind ts);
          log = consults_as (read_start kind g permits_first P ts) h.log;
        }))));
  }

-- ---- a loop over arms: what was lent first and what is now; what answers for the arms that are left answers for all
pub record Going (Left Whole : ReducedPolicy → Lent → List ℕ → List ℕ → Type 0) (v : Sofar) (arms left : ℕ) : Type 0 where
  pub bounds : Bounded v
  pub arms_left : v.arms + left ≤ arms
  pub goes : (r : ReducedPolicy) (t : Lent) (buf' out' : List ℕ) → Left r t buf' out' → Whole r t buf' out'

-- Before the first arm,
pub going_first : {Left Whole : ReducedPolicy → Lent → List ℕ → List ℕ → Type 0} {arms : ℕ} (left : ℕ) → left ≤ arms → ((r : ReducedPolicy) (t : Lent) (buf' out' : List ℕ) → Left r t buf' out' → Whole r t buf' out') → Going Left Whole none_yet arms left
going_first left h f = record { bounds = record { few = tt; kept_most = omega arith; size_most = omega arith; size_some = omega arith }; arms_left = omega arith; goes = f }

-- after a pending one,
pub going_open : {Left Left' Whole : ReducedPolicy → Lent → List ℕ → List ℕ → Type 0} {v : Sofar} {arms left : ℕ} (n : ℕ) → Going Left Whole v arms left → (left ≡ 0 → ⊥) → ((r : ReducedPolicy) (t : Lent) (buf' out' : List ℕ) → Left' r t buf' out' → Left r t buf' out') →
    Going Left' Whole (with_pending v n) arms (left - 1)
going_open n g some f = record {
  bounds = record { few = g.bounds.few; kept_most = g.bounds.kept_most; size_most = omega arith; size_some = omega (arith, g.bounds.size_some) };
  arms_left = omega (arith, g.arms_left);
  goes = λ r t buf out e. g.goes r t buf out (f r t buf out e);
}

-- and after a resolved one, which has been bounded.
pub going_known : {Left Left' Whole : ReducedPolicy → Lent → List ℕ → List ℕ → Type 0} {v v' : Sofar} {arms left : ℕ} → Going Left Whole v arms left → (left ≡ 0 → ⊥) → Bounded v' → v'.arms ≤ v.arms + 1 → ((r : ReducedPolicy) (t : Lent) (buf' out' : List ℕ) → Left' r t buf' out' → Left r t buf' out') →
    Going Left' Whole v' arms (left - 1)
going_known g some b more f = record { bounds = b; arms_left = omega (arith, g.arms_left); goes = λ r t buf out e. g.goes r t buf out (f r t buf out e) }

pub arms_with_most : (permit : Bool) (n : ℕ) → arms_with permit n ≤ n + 1
arms_with_most true n = omega arith
arms_with_most false n = omega arith

-- ---- OrElse
module _ {g : Option OutcomeTable} {order : Order} (P : Table) (W : List ℕ) (at depth : ℕ) (s m : Lent) (a : ReducedPolicy) (mid : List ℕ) (room : ℕ) (opart : List ℕ) (lt : at < length W) (first : ReducesP g order P W (at + 1) depth s a m mid room opart) where
  abbrev one : List ℕ → Parsed (Policy Outcome)
  one = read_policy true depth

  -- By the answer a to the primary.
  or_first_lem : (r : ReducedPolicy) (t : Lent) (buf : List ℕ) (n : ℕ) (out : List ℕ) → Fit r.to →
      ((x : Policy Outcome) → ReducedTo (reduce_policy g order P x) (at + 1 + words x) (walk g order P x) P W s a m mid room opart →
      Holds (λ y rest. ReducedTo (reduce_policy g order P (or_else x y)) (at + words (or_else x y)) (walk g order P (or_else x y)) P W s r t buf n out) (one (drop a.next W))) →
      ReducesBy g order OrElse P W at depth s r t buf n out
  unfolding policy_node
  or_first_lem r t buf n out fit f = record {
    fit = fit;
    says = λ e. node_holds W at depth OrElse lt e
        (then_holds (one (drop (at + 1) W)) (λ x vs. next (one vs) (λ y us. got (or_else x y) us))
        (both_hold (one (drop (at + 1) W)) (first.says true) (policy_leaves true depth (drop (at + 1) W))) (λ x vs h.
        let after : drop a.next W ≡ vs = ap (λ i. drop i W) h.0.next_is ∙ sym (drop-drop (words x) (at + 1) W) ∙ h.1 in
        then_holds (one vs) (λ y us. got (or_else x y) us)
        (subst (λ ws. Holds (λ y rest. ReducedTo (reduce_policy g order P (or_else x y)) (at + words (or_else x y)) (walk g order P (or_else x y)) P W s r t buf n out) (one ws)) after (f x h.0)) (λ y us i. fine i)));
  }

  -- A resolved permit is the answer, and the fallback is passed over.
  module _ (d : Decision) (is : a.to ≡ Resolved d) where
    abbrev First : model.ReducedPolicy Outcome → Type 0
    First x = Result x P W mid room opart (Resolved d)

    permits_first_lem : (x y : model.ReducedPolicy Outcome) (n : ℕ) (out : List ℕ) → First x → d.permit ≡ true → Result (reduce_or_else x y) P W mid n out (Resolved d)
    permits_first_lem (resolved (permits p)) y n out h q = record { decision_is = h.decision_is; sound = h.sound }
    permits_first_lem (resolved (denies c)) y n out h q = clash d.permit q (decided_as P W mid d (denies c) h)
    permits_first_lem (pending z) y n out h q = absurd h

    permits_read : (x : model.ReducedPolicy Outcome) (here on : Consulted) → First x → d.permit ≡ true → unless_permitted x here on ≡ here
    permits_read (resolved (permits p)) here on h q = refl
    permits_read (resolved (denies c)) here on h q = clash d.permit q (decided_as P W mid d (denies c) h)
    permits_read (pending z) here on h q = absurd h

    pub or_permits : (end n : ℕ) (out : List ℕ) → d.permit ≡ true →
        ((depth : ℕ) (res : Bool) → Skipped wordss a.next (many pnil pcons (read_policy res depth) 1 (drop a.next W)) end) →
        ReducesBy g order OrElse P W at depth s (resolved_to d end) m mid n out
    or_permits end n out q k =
        or_first_lem (resolved_to d end) m mid n out (rw is at first.fit) (λ x h.
        let result = rw is at h.result in
        weaker (one (drop a.next W)) (λ y rest i. record {
          result = permits_first_lem (reduce_policy g order P x) (reduce_policy g order P y) n out result q;
          next_is = omega (arith, h.next_is, i);
          log = consults_as (λ l. permits_read (reduce_policy g order P x) (walk g order P x l) (walk g order P y (walk g order P x l)) result q) h.log;
        })
        (one_passed a.next end (one (drop a.next W)) (k depth true)))

    -- After a resolved deny the fallback is the answer.
    denies_first : (b : Reduced) (buf : List ℕ) (x y : model.ReducedPolicy Outcome) (n : ℕ) (out : List ℕ) → First x → d.permit ≡ false → Result y P W buf n out b → Result (reduce_or_else x y) P W buf n out b
    denies_first b buf (resolved (permits p)) y n out h q i = clash d.permit (decided_as P W mid d (permits p) h) q
    denies_first b buf (resolved (denies c)) y n out h q i = i
    denies_first b buf (pending z) y n out h q i = absurd h

    denies_read : (x : model.ReducedPolicy Outcome) (here on : Consulted) → First x → d.permit ≡ false → unless_permitted x here on ≡ on
    denies_read (resolved (permits p)) here on h q = clash d.permit (decided_as P W mid d (permits p) h) q
    denies_read (resolved (denies c)) here on h q = refl
    denies_read (pending z) here on h q = refl

    pub or_denies : (t : Lent) (b : ReducedPolicy) (buf : List ℕ) (n : ℕ) (out : List ℕ) → d.permit ≡ false → (n' : ℕ) → ReducesP g order P W a.next depth m b t buf n' out → n' ≡ n → ReducesBy g order OrElse P W at depth s b t buf n out
    or_denies t b buf n out q n' second₀ z =
        let second : ReducesP g order P W a.next depth m b t buf n out = subst (λ i. ReducesP g order P W a.next depth m b t buf i out) z second₀ in
        or_first_lem b t buf n out second.fit (λ x h.
        let result = rw is at h.result in
        weaker (one (drop a.next W)) (λ y rest i. record {
          result = denies_first b.to buf (reduce_policy g order P x) (reduce_policy g order P y) n out result q i.result;
          next_is = omega (arith, h.next_is, i.next_is);
          log = consults_as (λ l. denies_read (reduce_policy g order P x) (walk g order P x l) (walk g order P y (walk g order P x l)) result q) (consults_then h.log i.log);
        })
        (second.says true))

  -- With a pending primary both are kept.
  module _ (left : ℕ) (is : a.to ≡ Pending left) where
    open_read : (x : model.ReducedPolicy Outcome) (here on : Consulted) → Result x P W mid room opart (Pending left) → unless_permitted x here on ≡ on
    open_read (resolved D) here on h = absurd h
    open_read (pending z) here on h = refl

    open_first : (b : Reduced) (buf : List ℕ) (x y : model.ReducedPolicy Outcome) (out opart₂ buf' out' : List ℕ) (from behind used size : ℕ) → from ≡ min 1 (length out) → length opart ≡ length out - from → used ≡ capped (1 + left) →
        behind ≡ min used (length (back from out opart)) → length opart₂ ≡ length (back from out opart) - behind → OrElsePut P W used b buf (back behind (back from out opart) opart₂) out' size →
        Result x P W mid room opart (Pending left) → Result y P W buf room opart₂ b → Result (reduce_or_else x y) P W buf' room out' (Pending size)
    open_first b buf (resolved D) y out opart₂ buf' out' from behind used size f long u w long₂ k h i = absurd h
    open_first b buf (pending q) y out opart₂ buf' out' from behind used size f long u w long₂ k h i =
        let out₁ = back from out opart in
        let one_word : LaidWithin room 1 (get_or out 0 0 ∷ []) out 1 = first_word out in
        let two : LaidWithin room (1 + weight q) (get_or out 0 0 ∷ encode q) out₁ used = within_then one_word h f long u in
        let stays : LaidWithin room (1 + weight q) (get_or out 0 0 ∷ encode q) (back behind out₁ opart₂) used = within_still opart₂ two w long₂ in
        let there : opart₂ ≡ drop (min used (length (back behind out₁ opart₂))) (back behind out₁ opart₂) =
        sym (ap (λ i. drop i (back behind out₁ opart₂)) (ap (min used) (back_long behind out₁ opart₂ (omega arith) long₂) ∙ sym w) ∙ back_part behind out₁ opart₂ (omega arith)) in
        k.put (weight q) (get_or out 0 0) room (encode q) y stays (subst (λ us. Result y P W buf room us b) there i)

    pub or_open : (t : Lent) (b : ReducedPolicy) (buf : List ℕ) (out opart₂ buf' out' : List ℕ) (from behind used size : ℕ) → from ≡ min 1 (length out) → length opart ≡ length out - from → used ≡ capped (1 + left) →
        behind ≡ min used (length (back from out opart)) → length opart₂ ≡ length (back from out opart) - behind → (room' : ℕ) → ReducesP g order P W a.next depth m b t buf room' opart₂ → room' ≡ room →
        OrElsePut P W used b.to buf (back behind (back from out opart) opart₂) out' size → ReducesBy g order OrElse P W at depth s (record { to = Pending size; next = b.next }) t buf' room out'
    or_open t b buf out opart₂ buf' out' from behind used size f long u w long₂ room' second₀ z k =
        let second : ReducesP g order P W a.next depth m b t buf room opart₂ = subst (λ i. ReducesP g order P W a.next depth m b t buf i opart₂) z second₀ in
        or_first_lem (record { to = Pending size; next = b.next }) t buf' room out' k.bound (λ x h.
        let result = rw is at h.result in
        weaker (one (drop a.next W)) (λ y rest i. record {
          result = open_first b.to buf (reduce_policy g order P x) (reduce_policy g order P y) out opart₂ buf' out' from behind used size f long u w long₂ k result i.result;
          next_is = omega (arith, h.next_is, i.next_is);
          log = consults_as (λ l. open_read (reduce_policy g order P x) (walk g order P x l) (walk g order P y (walk g order P x l)) result) (consults_then h.log i.log);
        })
        (second.says true))
