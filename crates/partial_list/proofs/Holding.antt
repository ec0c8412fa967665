-- A list in sheet order with one more arm that was resolved, and its end at a deny. Assumes nothing.
use mathlib.Core.Path.{◌≡◌, refl, sym, ◌∙◌, ap, subst}
use mathlib.Core.Bool.{true, false}
use mathlib.Core.Option.{Option}
use mathlib.Core.List.{List, [], ◌∷◌, ◌++◌}
use Prim.Native.Nat.{ℕ, ◌+◌, ◌≤◌}
use native.Mathlib.Omega.{arith}
use lib.ListN.{drop}
use Rattle.model.specs.Facts.{Table}
use Rattle.model.specs.Levels.{OutcomeTable}
use Rattle.model.specs.Decision.{permits, denies}
use Rattle.model.specs.Decision.{Decision as Decided}
use Rattle.model.specs.Partial.{resolved, in_order, any_pending}
use Rattle.model.specs.Partial as model
use Rattle.model.specs.Products.{Outcome, encode_d, encodes}
use Rattle.decision.specs.declared.Decision.{Decision}
use Rattle.decision.specs.Room.{obligation_room, Few}
use Rattle.evaluate.proofs.Arms.{decides}
use Rattle.sizes.specs.Laid.{capped, Laid}
use Rattle.sizes.specs.LaidLaws.{laid_as}
use Rattle.residual.specs.Weight.{weights, weight_d}
use Rattle.partial_list.specs.declared.ListKind.{ListKind}
use Rattle.partial_list.specs.declared.ListKind.TheVariants.{All}
use Rattle.partial_list.specs.declared.Reduced.{Reduced}
use Rattle.partial_list.specs.declared.Reduced.TheVariants.{Resolved}
use Rattle.partial_list.specs.declared.Sofar.{Sofar}
use Rattle.partial_list.specs.Keeping.{stops}
use Rattle.partial_list.specs.Holding.{value_of, NoDeny}
use Rattle.partial_list.specs.HoldingLaws.{value_more, pending_more, weights_more, words_more, count_more}
use Rattle.partial_list.specs.Within.{LaidWithin}
use Rattle.partial_list.specs.Answers.{Decides, Resolves, NodeBehind, sofar_of}
use Rattle.partial_list.specs.InOrder.{InOrderIs, DecisionHeld, OrderEnds, DenyEnds}
use Rattle.partial_list.proofs.Adding.{clash, decided_as}

-- The arms with one more, whose node was laid behind them.
words_held : (k : List (model.ReducedPolicy Outcome)) (D : Decided Outcome) (free : ℕ) {room before after : ℕ} {out out' : List ℕ} → LaidWithin room (1 + weights (in_order k)) (free ∷ encodes (in_order k)) out before → before ≤ after → after ≡ capped (before + weight_d D) →
    ((n : ℕ) (ws : List ℕ) → Laid n ws out before → Laid (n + weight_d D) (ws ++ encode_d D) out' after) →
    LaidWithin room (1 + weights (in_order (k ++ resolved D ∷ []))) (free ∷ encodes (in_order (k ++ resolved D ∷ []))) out' after
words_held k D free l more e node =
    record {
      size_is = omega (arith, l.size_is, weights_more k (resolved D));
      laid = λ fits. laid_as (let z : 1 + weights (in_order k) + weight_d D ≡ 1 + weights (in_order (k ++ resolved D ∷ [])) = omega (arith, weights_more k (resolved D)) in z) (ap (λ us. free ∷ us) (sym (words_more k (resolved D))))
          (node (1 + weights (in_order k)) (free ∷ encodes (in_order k)) (l.laid (omega arith)));
    }

-- A permit does not end a list, and under All every arm that goes on permits.
no_stop : (D : Decided Outcome) → stops All (resolved D) ≡ false → decides D ≡ true
no_stop (permits p) e = refl
no_stop (denies c) e = clash true refl e

pub order_more : {kind : ListKind} {g : Option OutcomeTable} {T : Table} {W : List ℕ} {v v' : Sofar} {d : Decision} {buf out buf' out' : List ℕ} {room : ℕ} → DecisionHeld kind g T W v d buf out buf' out' v' → (k : List (model.ReducedPolicy Outcome)) (D : Decided Outcome) →
    InOrderIs kind g T W k v buf room out → Resolves T W D (drop obligation_room buf) d → (any_pending k ≡ false → NoDeny kind k × (stops kind (resolved D) ≡ false)) → InOrderIs kind g T W (k ++ resolved D ∷ []) v' buf' room out'
order_more {kind} {g} {T} {W} {v} {v'} {d} {buf} {buf' = buf'} h k D s x going =
    let before : any_pending (k ++ resolved D ∷ []) ≡ false → any_pending k ≡ false = λ w. sym (pending_more k D) ∙ w in
    let permit : stops kind (resolved D) ≡ false → kind ≡ All → d.permit ≡ true = λ e t. decided_as T W (drop obligation_room buf) d D x ∙ no_stop D (sym (ap (λ i. stops i (resolved D)) t) ∙ e) in
    record {
      pending_is = h.pending_is ∙ s.pending_is ∙ sym (pending_more k D);
      decided = λ w.
          let z = before w in
          subst (Decides T W buf' v'.decision) (value_more kind g k D (going z).0 z) (h.folds (s.pending_is ∙ z) T (value_of kind g k) D (s.decided z) x (permit (going z).1));
      free = s.free;
      left = words_held k D s.free s.left h.more (rw x.decision_is at h.size_is x.sound) (λ n ws l. rw x.decision_is at h.node n ws x.sound l);
      arms_are = omega (arith, h.arms_are, s.arms_are, count_more k (resolved D));
    }

-- ---- the end at a deny
pub deny_answers : {T : Table} {W : List ℕ} {v : Sofar} {d : Decision} (buf out : List ℕ) → Few d → v.pending ≡ false → DenyEnds T W v d buf out buf out (Resolved d)
deny_answers {v = v} buf out few p = record { fit = few; resolved_is = λ _. (refl, refl); pending_is = λ q. clash v.pending q p }

pub deny_kept : {T : Table} {W : List ℕ} {v : Sofar} {d : Decision} {buf out buf' mid out' : List ℕ} {size arms : ℕ} {r : Reduced} → v.pending ≡ true → NodeBehind T W d v.size buf out buf' mid size → arms ≡ v.arms + 1 →
    OrderEnds All T W (sofar_of v.decision v.kept size arms v.pending) buf' mid out' r → DenyEnds T W v d buf out buf' out' r
deny_kept {T} {W} {v} {d} {buf} {out} {buf'} {mid} {size = size} {arms} p n a e = record {
  fit = e.fit;
  resolved_is = λ q. clash v.pending p q;
  pending_is = λ _ g k room D s x. e.pending_is p g (k ++ resolved D ∷ []) room (held g k room D s x);
} where
  held : (g : Option OutcomeTable) (k : List (model.ReducedPolicy Outcome)) (room : ℕ) (D : Decided Outcome) → InOrderIs All g T W k v buf room out → Resolves T W D (drop obligation_room buf) d →
      InOrderIs All g T W (k ++ resolved D ∷ []) (sofar_of v.decision v.kept size arms v.pending) buf' room mid
  held g k room D s x = record {
    pending_is = s.pending_is ∙ sym (pending_more k D);
    decided = λ w. clash v.pending p (s.pending_is ∙ sym (pending_more k D) ∙ w);
    free = s.free;
    left = words_held k D s.free s.left n.more (rw x.decision_is at n.size_is x.sound) (λ m ws l. rw x.decision_is at n.node m ws x.sound l);
    arms_are = omega (arith, s.arms_are, count_more k (resolved D));
  }
