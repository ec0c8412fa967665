-- What the list rule in sheet order keeps, and what its parts answer. Request 8.
use Rattle.std.specs.Prelude.{◌≡◌, true, false, is_some, unwrap_or, None, List, [], ◌∷◌, ◌++◌, ℕ, ◌+◌, ◌≤◌, drop}
use Rattle.std.proofs.Math.Option.{Option, some}
use Rattle.model.specs.Facts.{Table}
use Rattle.model.specs.Levels.{OutcomeTable}
use Rattle.model.specs.Decision.{Decision as Decided}
use Rattle.model.specs.Partial.{resolved, pending, in_order, any_pending}
use Rattle.model.specs.Partial as model
use Rattle.model.specs.Writing.{count}
use Rattle.model.specs.Products.{Outcome, encode_d, encodes}
use Rattle.decision.specs.declared.Decision.{Decision}
use Rattle.decision.specs.Meaning.{denied_at, decision_of, Sound}
use Rattle.decision.specs.Room.{obligation_room}
use Rattle.sizes.specs.Laid.{capped, Laid}
use Rattle.residual.specs.Weight.{weights, weight_d}
use Rattle.partial_list.specs.declared.ListKind.{ListKind}
use Rattle.partial_list.specs.declared.ListKind.TheVariants.{All}
use Rattle.partial_list.specs.declared.Reduced.{Reduced}
use Rattle.partial_list.specs.declared.Reduced.TheVariants.{Resolved}
use Rattle.partial_list.specs.declared.Sofar.{Sofar}
use Rattle.partial_list.specs.Keeping.{fold_next, list_of}
use Rattle.partial_list.specs.Within.{LaidWithin}
use Rattle.partial_list.specs.Answers.{Decides, Resolves, Fit, Result, Bounded}
use Rattle.partial_list.specs.Holding.{value_of}

-- What is kept so far stands for the arms so far: their words behind a free one and, while none is pending, their decision.
pub record InOrderIs (kind : ListKind) (g : Option OutcomeTable) (T : Table) (W : List ℕ) (k : List (model.ReducedPolicy Outcome)) (v : Sofar) (buf : List ℕ) (room : ℕ) (out : List ℕ) : Type 0 where
  pub pending_is : v.pending ≡ any_pending k
  pub decided : any_pending k ≡ false → Decides T W buf v.decision (value_of kind g k)
  pub free : ℕ
  pub left : LaidWithin room (1 + weights (in_order k)) (free ∷ encodes (in_order k)) out v.size
  pub arms_are : v.arms ≡ count (in_order k)

-- One more arm that was resolved: its node was laid behind those before it, and its decision folded on while none is pending.
pub record DecisionHeld (kind : ListKind) (g : Option OutcomeTable) (T : Table) (W : List ℕ) (v : Sofar) (d : Decision) (buf out buf' out' : List ℕ) (r : Sofar) : Type 0 where
  pub bounds : Bounded r
  pub arms_are : r.arms ≡ v.arms + 1
  pub more : v.size ≤ r.size
  pub pending_is : r.pending ≡ v.pending
  pub size_is : Sound W (drop obligation_room buf) d → r.size ≡ capped (v.size + weight_d (decision_of W T (drop obligation_room buf) d))
  pub node : (n : ℕ) (ws : List ℕ) → Sound W (drop obligation_room buf) d → Laid n ws out v.size →
      Laid (n + weight_d (decision_of W T (drop obligation_room buf) d)) (ws ++ encode_d (decision_of W T (drop obligation_room buf) d)) out' r.size
  pub begun : v.pending ≡ false → is_some r.decision ≡ true
  pub folds : v.pending ≡ false → (P : Table) (X : Option (Decided Outcome)) (D : Decided Outcome) → Decides P W buf v.decision X → Resolves P W D (drop obligation_room buf) d → (kind ≡ All → d.permit ≡ true) →
      Decides P W buf' r.decision (some (fold_next kind g X D))

-- A list whose arms are all read: without arms it denies.
pub record OrderEnds (kind : ListKind) (T : Table) (W : List ℕ) (v : Sofar) (buf out out' : List ℕ) (r : Reduced) : Type 0 where
  pub fit : Fit r
  pub resolved_is : v.pending ≡ false → r ≡ Resolved (unwrap_or v.decision (denied_at None))
  pub pending_is : v.pending ≡ true → (g : Option OutcomeTable) (k : List (model.ReducedPolicy Outcome)) (room : ℕ) → InOrderIs kind g T W k v buf room out → Result (pending (list_of kind (in_order k))) T W buf room out' r

-- An All that a deny ends, whose buffer starts at the second room: the deny is its decision, or the last arm that is kept.
pub record DenyEnds (T : Table) (W : List ℕ) (v : Sofar) (d : Decision) (buf out buf' out' : List ℕ) (r : Reduced) : Type 0 where
  pub fit : Fit r
  pub resolved_is : v.pending ≡ false → (r ≡ Resolved d) × (buf' ≡ buf)
  pub pending_is : v.pending ≡ true → (g : Option OutcomeTable) (k : List (model.ReducedPolicy Outcome)) (room : ℕ) (D : Decided Outcome) → InOrderIs All g T W k v buf room out → Resolves T W D (drop obligation_room buf) d →
      Result (pending (list_of All (in_order (k ++ resolved D ∷ [])))) T W buf' room out' r
