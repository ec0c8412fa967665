-- The list rule in sheet order by its first arm and the others. Assumes nothing.
use mathlib.Core.Path.{◌≡◌, refl, sym, ◌∙◌, ap, subst}
use mathlib.Core.Bool.{Bool, true, false}
use mathlib.Core.Option.{Option}
use mathlib.Core.List.{List, [], ◌∷◌, ◌++◌}
use Prim.Native.Nat.{ℕ, ◌+◌, ◌-◌, ◌≤◌, ◌<◌, min}
use native.Mathlib.Omega.{arith}
use lib.ListN.{length, drop, get_or}
use lib.Seq.{drop-drop}
use Rattle.model.specs.Facts.{Table}
use Rattle.model.specs.Levels.{OutcomeTable}
use Rattle.model.specs.Decision.{Denial, permits, denies}
use Rattle.model.specs.Decision.{Decision as Decided}
use Rattle.model.specs.Policy.{Policy, Policies, pnil, pcons}
use Rattle.model.specs.Partial.{resolved, pending, sheet_order, in_order, any_pending}
use Rattle.model.specs.Partial as model
use Rattle.model.specs.Reading.{got, next, many}
use Rattle.model.specs.Products.{Outcome, end_in_order, reduce_policy, walk, read_policy}
use Rattle.laws.proofs.FieldLaws.{Holds, fine, weaker, then_holds, both_hold}
use Rattle.laws.specs.Size.{words, wordss}
use Rattle.policy_model.specs.Span.{Skipped}
use Rattle.policy_model.proofs.Policies.{policy_leaves}
use Rattle.consulted.specs.Listing.{Lent}
use Rattle.consulted.proofs.Listing.{consults_none, consults_then, consults_as}
use Rattle.decision.specs.Room.{obligation_room}
use Rattle.decision.proofs.Buffers.{deny_decision, deny_sound}
use Rattle.evaluate.specs.Folding.{or_denied}
use Rattle.evaluate.proofs.Nodes.{node_holds, skipped}
use Rattle.evaluate.proofs.Arms.{arms_more}
use Rattle.residual.specs.Weight.{weight, weights}
use Rattle.decision.specs.declared.Decision.{Decision}
use Rattle.partial_list.specs.declared.ListKind.{ListKind}
use Rattle.partial_list.specs.declared.ListKind.TheVariants.{All, Any}
use Rattle.partial_list.specs.declared.Reduced.{Reduced}
use Rattle.partial_list.specs.declared.Reduced.TheVariants.{Resolved, Pending}
use Rattle.partial_list.specs.declared.ReducedPolicy.{ReducedPolicy}
use Rattle.partial_list.specs.declared.Sofar.{Sofar}
use Rattle.partial_list.specs.Keeping.{stops, list_of, read_of}
use Rattle.partial_list.specs.KeepingLaws.{read_more, read_stop, read_none, read_start}
use Rattle.partial_list.specs.Holding.{left_of, value_of, NoDeny}
use Rattle.partial_list.specs.HoldingLaws.{left_start, left_more, left_last, left_none, end_pending, end_value, value_last, pending_more, pending_open, weights_more, words_more, count_more, going_more}
use Rattle.partial_list.specs.WithinLaws.{within_as, within_then, within_still}
use Rattle.partial_list.specs.Answers.{Resolves, Result, Fit, none_yet, with_pending, Bounded}
use Rattle.partial_policy.specs.Reducing.{ReducedTo, ReducesP, ReducesBy, list_head}
use Rattle.partial_list.specs.InOrder.{InOrderIs, DecisionHeld, OrderEnds, DenyEnds}
use Rattle.partial_list.proofs.Holding.{order_more}
use Rattle.partial_list.proofs.Adding.{clash, decided_as, lent_decides, lent_resolves, resolves_or_denied}
use Rattle.partial_policy.proofs.Arms.{back, stops_list, settled_as, first_word, list_reads, start_words}

-- ---- one more arm
module _ (kind : ListKind) (g : Option OutcomeTable) (T : Table) (W : List ℕ) (v : Sofar) (buf part out opart : List ℕ) (from room : ℕ)
    (o : from ≡ min v.size (length out)) (bounds : Bounded v) (wide : obligation_room ≤ length buf) (olong : length opart ≡ length out - from) where
  -- What was kept so far, with one arm more: a pending one,
  pub order_open : (n : ℕ) (k : List (model.ReducedPolicy Outcome)) (x : model.ReducedPolicy Outcome) → InOrderIs kind g T W k v buf room out → Result x T W part room opart (Pending n) →
      InOrderIs kind g T W (k ++ x ∷ []) (with_pending v n) (back obligation_room buf part) room (back from out opart)
  order_open n k (resolved D) s x = absurd x
  order_open n k (pending q) s x = record {
    pending_is = sym (pending_open k q);
    decided = λ w. clash (any_pending (k ++ pending q ∷ [])) (pending_open k q) w;
    free = s.free;
    left = within_as (let z : 1 + weights (in_order k) + weight q ≡ 1 + weights (in_order (k ++ pending q ∷ [])) = omega (arith, weights_more k (pending q)) in z)
        (ap (λ us. s.free ∷ us) (sym (words_more k (pending q)))) (within_then s.left x o olong refl);
    arms_are = omega (arith, s.arms_are, count_more k (pending q));
  }

  -- none, where only the tails were lent,
  pub order_lent : (k : List (model.ReducedPolicy Outcome)) → InOrderIs kind g T W k v buf room out → InOrderIs kind g T W k v (back obligation_room buf part) room (back from out opart)
  order_lent k s = record {
    pending_is = s.pending_is;
    decided = λ w. lent_decides T W buf part (drop (length buf - obligation_room) (drop obligation_room buf)) v.decision (value_of kind g k) wide bounds.few (s.decided w);
    free = s.free;
    left = within_still opart s.left o olong;
    arms_are = s.arms_are;
  }

  -- or a resolved one.
  module _ (d : Decision) (few : d.united ≤ length part) where
    arm_lent : {D : Decided Outcome} → Resolves T W D part d → Resolves T W D (drop obligation_room (back obligation_room buf part)) d
    arm_lent x = lent_resolves buf part (drop (length buf - obligation_room) (drop obligation_room buf)) wide few x

    pub order_known : (buf' out' : List ℕ) (v' : Sofar) → DecisionHeld kind g T W v d (back obligation_room buf part) (back from out opart) buf' out' v' →
        (k : List (model.ReducedPolicy Outcome)) (x : model.ReducedPolicy Outcome) → InOrderIs kind g T W k v buf room out → Result x T W part room opart (Resolved d) → (any_pending k ≡ false → NoDeny kind k × (stops kind x ≡ false)) →
        InOrderIs kind g T W (k ++ x ∷ []) v' buf' room out'
    order_known buf' out' v' h k (resolved D) s x n = order_more h k D (order_lent k s) (arm_lent x) n
    order_known buf' out' v' h k (pending q) s x n = absurd x

-- ---- arms
-- The answer for the arms that are left, given what is kept so far. Of arms that don't read only the bounds are said.
pub record HeldLeft (kind : ListKind) (g : Option OutcomeTable) (P : Table) (W : List ℕ) (v : Sofar) (buf : List ℕ) (room : ℕ) (out : List ℕ) (at depth arms : ℕ) (s : Lent) (r : ReducedPolicy) (t : Lent) (buf' out' : List ℕ) : Type 0 where
  pub fit : Fit r.to
  pub says : (k : List (model.ReducedPolicy Outcome)) → NoDeny kind k → InOrderIs kind g P W k v buf room out →
      Holds (λ ts rest. ReducedTo (left_of kind g P k ts) (at + wordss ts) (read_of kind g sheet_order P ts) P W s r t buf' room out') (many pnil pcons (read_policy true depth) arms (drop at W))

module _ (kind : ListKind) (g : Option OutcomeTable) (P : Table) (W : List ℕ) (depth : ℕ) (s m t : Lent) (a r : ReducedPolicy) (v : Sofar) (buf out part opart : List ℕ) (room : ℕ) (buf' out' : List ℕ) (at arms : ℕ) (some : arms ≡ 0 → ⊥)
    (room₀ : ℕ) (first₀ : ReducesP g sheet_order P W at depth s a m part room₀ opart) (same : room₀ ≡ room) where
  first : ReducesP g sheet_order P W at depth s a m part room opart
  first = subst (λ n. ReducesP g sheet_order P W at depth s a m part n opart) same first₀

  abbrev Whole : List (model.ReducedPolicy Outcome) → Policy Outcome → Policies Outcome → List ℕ → Type 0
  Whole k p ts rest = ReducedTo (left_of kind g P k (pcons p ts)) (at + wordss (pcons p ts)) (read_of kind g sheet_order P (pcons p ts)) P W s r t buf' room out'

  held_first : Fit r.to →
      ((k : List (model.ReducedPolicy Outcome)) (p : Policy Outcome) → NoDeny kind k → InOrderIs kind g P W k v buf room out → ReducedTo (reduce_policy g sheet_order P p) (at + words p) (walk g sheet_order P p) P W s a m part room opart →
      Holds (Whole k p) (many pnil pcons (read_policy true depth) (arms - 1) (drop a.next W))) →
      HeldLeft kind g P W v buf room out at depth arms s r t buf' out'
  held_first fit f =
      let one = read_policy true depth in
      record {
        fit = fit;
        says = λ k n z. rw (arms_more one arms (drop at W) some)
            (then_holds (one (drop at W)) (λ p vs. next (many pnil pcons one (arms - 1) vs) (λ ps us. got (pcons p ps) us))
            (both_hold (one (drop at W)) (first.says true) (policy_leaves true depth (drop at W))) (λ p vs h.
            let after : drop a.next W ≡ vs = ap (λ n. drop n W) h.0.next_is ∙ sym (drop-drop (words p) at W) ∙ h.1 in
            then_holds (many pnil pcons one (arms - 1) vs) (λ ps us. got (pcons p ps) us)
            (subst (λ ws. Holds (Whole k p) (many pnil pcons one (arms - 1) ws)) after (f k p n z h.0)) (λ ps us i. fine i)));
      }

  -- An arm that does not end the list: the others go on from what is kept with it.
  pub held_goes : (v' : Sofar) (mid omid : List ℕ) →
      ((k : List (model.ReducedPolicy Outcome)) (x : model.ReducedPolicy Outcome) → InOrderIs kind g P W k v buf room out → Result x P W part room opart a.to → (any_pending k ≡ false → NoDeny kind k × (stops kind x ≡ false)) → InOrderIs kind g P W (k ++ x ∷ []) v' mid room omid) →
      stops_list kind a.to ≡ false →
      HeldLeft kind g P W v' mid room omid a.next depth (arms - 1) m r t buf' out' → HeldLeft kind g P W v buf room out at depth arms s r t buf' out'
  held_goes v' mid omid more e rest =
      held_first rest.fit (λ k p n z h.
      let x = reduce_policy g sheet_order P p in
      let on : stops kind x ≡ false = settled_as P W part room opart a.to x h.result kind ∙ e in
      weaker (many pnil pcons (read_policy true depth) (arms - 1) (drop a.next W)) (λ ts us i. record {
        result = subst (λ y. Result y P W buf' room out' r.to) (sym (left_more kind g P k p ts on)) i.result;
        next_is = omega (arith, h.next_is, i.next_is);
        log = consults_as (λ l. read_more kind g sheet_order P p ts l on) (consults_then h.log i.log);
      })
      (rest.says (k ++ x ∷ []) (going_more kind k x n on) (more k x z h.result (λ _. (n, on)))))

-- An arm that ends the list, the others being passed over: by what the list comes to with it.
module _ (kind : ListKind) (g : Option OutcomeTable) (P : Table) (W : List ℕ) (depth : ℕ) (s m : Lent) (a : ReducedPolicy) (d : Decision) (v : Sofar) (buf out part opart : List ℕ) (room : ℕ) (mid out' : List ℕ) (at arms end : ℕ) (some : arms ≡ 0 → ⊥)
    (room₀ : ℕ) (first : ReducesP g sheet_order P W at depth s a m part room₀ opart) (same : room₀ ≡ room) (is : a.to ≡ Resolved d) (e : stops_list kind (Resolved d) ≡ true)
    (pass : (depth : ℕ) (res : Bool) → Skipped wordss a.next (many pnil pcons (read_policy res depth) (arms - 1) (drop a.next W)) end) where
  abbrev Last : model.ReducedPolicy Outcome → Type 0
  Last x = Result x P W part room opart (Resolved d)

  held_by_lem : (r : Reduced) → Fit r →
      ((k : List (model.ReducedPolicy Outcome)) (x : model.ReducedPolicy Outcome) → NoDeny kind k → InOrderIs kind g P W k v buf room out → Last x → stops kind x ≡ true → Result (end_in_order g (list_of kind) P (k ++ x ∷ [])) P W mid room out' r) →
      HeldLeft kind g P W v buf room out at depth arms s (record { to = r; next = end }) m mid out'
  held_by_lem r fit f =
      held_first kind g P W depth s m m a (record { to = r; next = end }) v buf out part opart room mid out' at arms some room₀ first same fit (λ k p n z h.
      let x = reduce_policy g sheet_order P p in
      let result = rw is at h.result in
      let stop-here : stops kind x ≡ true = settled_as P W part room opart (Resolved d) x result kind ∙ e in
      weaker (many pnil pcons (read_policy true depth) (arms - 1) (drop a.next W)) (λ ts us i. record {
        result = subst (λ y. Result y P W mid room out' r) (sym (left_last kind g P k p ts stop-here)) (f k x n z result stop-here);
        next_is = omega (arith, h.next_is, i);
        log = consults_as (λ l. read_stop kind g sheet_order P p ts l stop-here) h.log;
      })
      (skipped wordss a.next end (many pnil pcons (read_policy true depth) (arms - 1) (drop a.next W)) (pass depth true)))

  -- Where no arm is pending it is the answer, and where one is, it is the last arm that is held.
  module _ (from : ℕ) (o : from ≡ min v.size (length out)) (bounds : Bounded v) (wide : obligation_room ≤ length buf) (olong : length opart ≡ length out - from) (few : d.united ≤ length part)
      (r : Reduced) (ends : DenyEnds P W v d (back obligation_room buf part) (back from out opart) mid out' r) where
    ends_at : (k : List (model.ReducedPolicy Outcome)) (c : Denial Outcome) (b : Bool) → v.pending ≡ b → NoDeny All k → InOrderIs All g P W k v buf room out → Resolves P W (denies c) part d →
        Result (end_in_order g (list_of All) P (k ++ resolved (denies c) ∷ [])) P W mid room out' r
    ends_at k c false p n z h =
        let w : any_pending k ≡ false = sym z.pending_is ∙ p in
        let denied = decided_as P W part d (denies c) h in
        subst (λ y. Result y P W mid room out' r) (sym (end_value All g P (k ++ resolved (denies c) ∷ []) (pending_more k (denies c) ∙ w) ∙ ap (λ x. resolved (or_denied x)) (value_last g k c n w)))
        (rw (ends.resolved_is p).0
        (record {
          decision_is = deny_decision W part mid d denied h.sound P ∙ h.decision_is;
          sound = deny_sound W part mid d denied h.sound;
        }))
    ends_at k c true p n z h =
        subst (λ y. Result y P W mid room out' r) (sym (end_pending All g P (k ++ resolved (denies c) ∷ []) (pending_more k (denies c) ∙ sym z.pending_is ∙ p)))
        (ends.pending_is p g k room (denies c) (order_lent All g P W v buf part out opart from room o bounds wide olong k z) (arm_lent All g P W v buf part out opart from room o bounds wide olong d few h))

    ends_with : (i : ListKind) (k : List (model.ReducedPolicy Outcome)) (x : model.ReducedPolicy Outcome) → NoDeny i k → InOrderIs i g P W k v buf room out → Last x → stops i x ≡ true → Result (end_in_order g (list_of i) P (k ++ x ∷ [])) P W mid room out' r
    ends_with Any k x n z h q = clash true refl (sym q)
    ends_with All k (resolved (permits p)) n z h q = clash true refl (sym q)
    ends_with All k (resolved (denies c)) n z h q = ends_at k c v.pending refl n z h
    ends_with All k (pending x) n z h q = clash true refl (sym q)

    pub held_ends : HeldLeft kind g P W v buf room out at depth arms s (record { to = r; next = end }) m mid out'
    held_ends = held_by_lem r ends.fit (λ k x n z h stop-here. ends_with kind k x n z h stop-here)

-- No arm is left.
ended_as : (kind : ListKind) (g : Option OutcomeTable) (P : Table) (W : List ℕ) (v : Sofar) (buf out out' : List ℕ) (room : ℕ) (r : Reduced) (k : List (model.ReducedPolicy Outcome)) (b : Bool) → v.pending ≡ b → InOrderIs kind g P W k v buf room out →
    OrderEnds kind P W v buf out out' r → Result (end_in_order g (list_of kind) P k) P W buf room out' r
ended_as kind g P W v buf out out' room r k true p s e =
    subst (λ y. Result y P W buf room out' r) (sym (end_pending kind g P k (sym s.pending_is ∙ p))) (e.pending_is p g k room s)
ended_as kind g P W v buf out out' room r k false p s e =
    let w = sym s.pending_is ∙ p in
    subst (λ y. Result y P W buf room out' r) (sym (end_value kind g P k w)) (rw (e.resolved_is p) (resolves_or_denied P W buf v.decision (value_of kind g k) (s.decided w)))

pub held_end : (kind : ListKind) (g : Option OutcomeTable) (P : Table) (W : List ℕ) (v : Sofar) (buf : List ℕ) (room : ℕ) (out : List ℕ) (at depth arms : ℕ) (s : Lent) (r : Reduced) (out' : List ℕ) → arms ≡ 0 →
    OrderEnds kind P W v buf out out' r → HeldLeft kind g P W v buf room out at depth arms s (record { to = r; next = at }) s buf out'
held_end kind g P W v buf room out at depth arms s r out' z e =
    rw z (record {
      fit = e.fit;
      says = λ k n i. fine (record {
        result = subst (λ y. Result y P W buf room out' r) (sym (left_none kind g P k)) (ended_as kind g P W v buf out out' room r k v.pending refl i e);
        next_is = omega arith;
        log = consults_as (read_none kind g sheet_order P) consults_none;
      });
    })

-- ---- the node that has the arms
start_going : (kind : ListKind) → NoDeny kind []
start_going All = tt
start_going Any = tt

module _ (kind : ListKind) (g : Option OutcomeTable) (P : Table) (W : List ℕ) (at depth n : ℕ) (s : Lent) (r : ReducedPolicy) (t : Lent) (buf : List ℕ) (room : ℕ) (out buf' out' : List ℕ) (lt : at < length W) where
  none_held : InOrderIs kind g P W [] none_yet buf room out
  none_held = record {
    pending_is = refl;
    decided = λ _. tt;
    free = get_or out 0 0;
    left = first_word out;
    arms_are = refl;
  }

  pub order_node : HeldLeft kind g P W none_yet buf room out (at + 1) depth n s r t buf' out' → ReducesBy g sheet_order (list_head kind n) P W at depth s r t buf' room out'
  order_node a = record {
    fit = a.fit;
    says = λ e. node_holds W at depth (list_head kind n) lt e (rw (list_reads kind _ (read_policy true depth) n (drop (at + 1) W))
        (then_holds (many pnil pcons (read_policy true depth) n (drop (at + 1) W)) (λ ts vs. got (list_of kind ts) vs) (a.says [] (start_going kind) none_held) (λ ts rest h. fine (record {
          result = subst (λ x. Result x P W buf' room out' r.to) (left_start kind g P ts) h.result;
          next_is = omega (arith, h.next_is, start_words kind ts);
          log = consults_as (read_start kind g sheet_order P ts) h.log;
        }))));
  }
