-- What the list rule with its permits first keeps, and what its parts answer. Document 01, "Reducing".
use Rattle.std.specs.Prelude.{◌≡◌, Bool, true, false, Option as OptionOf, Some, None, is_some, IfSome, unwrap_or, List, ◌∷◌, ◌++◌, ℕ, ◌+◌, ◌-◌, ◌≤◌, length, take, drop}
use Rattle.std.proofs.Math.Option.{Option, none, some}
use Rattle.model.specs.Facts.{Table}
use Rattle.model.specs.Levels.{OutcomeTable}
use Rattle.model.specs.Decision.{Decision as Decided}
use Rattle.model.specs.Partial.{resolved, pending}
use Rattle.model.specs.Partial as model
use Rattle.model.specs.Writing.{count}
use Rattle.model.specs.Products.{Outcome, encode_d, encode, encodes}
use Rattle.decision.specs.declared.Decision.{Decision}
use Rattle.decision.specs.Meaning.{denied_at, decision_of, Sound}
use Rattle.sizes.specs.Laid.{too_many, capped, Laid}
use Rattle.residual.specs.Weight.{weight, weights, weight_d}
use Rattle.decision.specs.Room.{obligation_room, Few}
use Rattle.partial_list.specs.declared.ListKind.{ListKind}
use Rattle.partial_list.specs.declared.ListKind.TheVariants.{All}
use Rattle.partial_list.specs.declared.Reduced.{Reduced}
use Rattle.partial_list.specs.declared.ReducedPolicy.{ReducedPolicy}
use Rattle.partial_list.specs.declared.Reduced.TheVariants.{Resolved, Pending}
use Rattle.partial_list.specs.declared.Sofar.{Sofar}
use Rattle.partial_list.specs.Keeping.{Walked, as_decisions, sofar_value, fold_next, is_open, arms_with, nodes_of, weights_d, encodes_d, list_of, with_nodes}
use Rattle.partial_list.specs.Within.{LaidWithin}

-- Resolved: the decision. Pending: what is left, laid at the front of the output. `room` is the length of the scratch for nodes.
pub record Resolves (T : Table) (W : List ℕ) (D : Decided Outcome) (buf : List ℕ) (d : Decision) : Type 0 where
  pub decision_is : decision_of W T buf d ≡ D
  pub sound : Sound W buf d

abbrev pub Result : model.ReducedPolicy Outcome → Table → List ℕ → List ℕ → ℕ → List ℕ → Reduced → Type 0
Result (resolved D) T W buf room out (Resolved d) = Resolves T W D buf d
Result (resolved D) T W buf room out (Pending n) = ⊥
Result (pending q) T W buf room out (Resolved d) = ⊥
Result (pending q) T W buf room out (Pending n) = LaidWithin room (weight q) (encode q) out n

-- The decision so far, if there is one, stands for what the resolved arms came to.
abbrev pub Decides : Table → List ℕ → List ℕ → OptionOf Decision → Option (Decided Outcome) → Type 0
Decides T W buf None none = Unit {0}
Decides T W buf None (some D) = ⊥
Decides T W buf (Some d) none = ⊥
Decides T W buf (Some d) (some D) = Resolves T W D buf d

-- The answer of a policy that is resolved.
abbrev pub resolved_to : Decision → ℕ → ReducedPolicy
resolved_to decision next = record { to = Resolved decision; next = next }

-- Whatever it is, it has few united obligations, and a size up to the limit.
abbrev pub Fit : Reduced → Type 0
Fit (Resolved d) = Few d
Fit (Pending n) = n ≤ too_many

abbrev pub sofar_of : OptionOf Decision → ℕ → ℕ → ℕ → Bool → Sofar
sofar_of decision kept size arms left = record { decision = decision; kept = kept; size = size; arms = arms; pending = left }

-- What is kept before the first arm.
abbrev pub none_yet : Sofar
none_yet = sofar_of None 0 1 0 false

-- One pending arm more, of size n, laid behind those before it.
abbrev pub with_pending : Sofar → ℕ → Sofar
with_pending v n = sofar_of v.decision v.kept (capped (v.size + n)) (v.arms + 1) true

-- The bounds of what a list keeps so far.
pub record Bounded (v : Sofar) : Type 0 where
  pub few : IfSome v.decision Few
  pub kept_most : v.kept ≤ too_many
  pub size_most : v.size ≤ too_many
  pub size_some : 1 ≤ v.size

-- What a list keeps so far stands for what its arms came to: the decision of those that were resolved, the nodes of the permits among them in `front`,
-- and the pending ones behind a free word in `out`.
pub record SofarIs (kind : ListKind) (g : Option OutcomeTable) (T : Table) (W : List ℕ) (k : Walked) (v : Sofar) (buf front out : List ℕ) : Type 0 where
  pub decided : Decides T W buf v.decision (sofar_value kind g k)
  pub nodes : Laid (weights_d (as_decisions k.permitted)) (encodes_d (as_decisions k.permitted)) front v.kept
  pub free : ℕ
  pub left : LaidWithin (length front - v.kept) (1 + weights k.pend) (free ∷ encodes k.pend) out v.size
  pub arms_are : v.arms ≡ length (as_decisions k.permitted) + count k.pend
  pub pending_is : v.pending ≡ is_open k.pend

-- The node of a decision, whose buffer starts at the second room, was laid behind the words that are kept.
pub record NodeBehind (T : Table) (W : List ℕ) (d : Decision) (kept : ℕ) (buf out buf' out' : List ℕ) (r : ℕ) : Type 0 where
  pub bound : r ≤ too_many
  pub more : kept ≤ r
  pub size_is : Sound W (drop obligation_room buf) d → r ≡ capped (kept + weight_d (decision_of W T (drop obligation_room buf) d))
  pub node : (n : ℕ) (ws : List ℕ) → Sound W (drop obligation_room buf) d → Laid n ws out kept →
      Laid (n + weight_d (decision_of W T (drop obligation_room buf) d)) (ws ++ encode_d (decision_of W T (drop obligation_room buf) d)) out' r
  pub front_bytes : take obligation_room buf' ≡ take obligation_room buf
  pub bytes : Sound W (drop obligation_room buf) d → take d.united (drop obligation_room buf') ≡ take d.united (drop obligation_room buf)

-- One more arm that was resolved. Its buffer starts at the second room. Its node is laid behind those that are kept, where it permits.
pub record NodeKept (T : Table) (W : List ℕ) (d : Decision) (kept : ℕ) (buf front buf' front' : List ℕ) (r : ℕ) : Type 0 where
  pub bound : r ≤ too_many
  pub more : kept ≤ r
  pub none : d.permit ≡ false → (r ≡ kept) × (front' ≡ front)
  pub node : d.permit ≡ true → (n : ℕ) (ws : List ℕ) → Sound W (drop obligation_room buf) d → Laid n ws front kept →
      Laid (n + weight_d (decision_of W T (drop obligation_room buf) d)) (ws ++ encode_d (decision_of W T (drop obligation_room buf) d)) front' r
  pub front_bytes : take obligation_room buf' ≡ take obligation_room buf
  pub bytes : Sound W (drop obligation_room buf) d → take d.united (drop obligation_room buf') ≡ take d.united (drop obligation_room buf)

-- One more arm that was resolved: its node is kept, where it permits, and its decision folded on.
pub record DecisionAdded (kind : ListKind) (g : Option OutcomeTable) (T : Table) (W : List ℕ) (v : Sofar) (d : Decision) (buf front buf' front' : List ℕ) (r : Sofar) : Type 0 where
  pub bounds : Bounded r
  pub size_is : r.size ≡ v.size
  pub pending_is : r.pending ≡ v.pending
  pub begun : is_some r.decision ≡ true
  pub more : v.kept ≤ r.kept
  pub arms_are : r.arms ≡ arms_with d.permit v.arms
  pub none : d.permit ≡ false → (r.kept ≡ v.kept) × (front' ≡ front)
  pub node : d.permit ≡ true → (n : ℕ) (ws : List ℕ) → Sound W (drop obligation_room buf) d → Laid n ws front v.kept →
      Laid (n + weight_d (decision_of W T (drop obligation_room buf) d)) (ws ++ encode_d (decision_of W T (drop obligation_room buf) d)) front' r.kept
  pub folds : (P : Table) (X : Option (Decided Outcome)) (D : Decided Outcome) → Decides P W buf v.decision X → Resolves P W D (drop obligation_room buf) d → (kind ≡ All → d.permit ≡ true) →
      Decides P W buf' r.decision (some (fold_next kind g X D))

-- The nodes that a list with pending arms keeps, those that were kept so far or the first deny.
pub record NodesAre (kind : ListKind) (k : Walked) (v : Sofar) (front : List ℕ) (r : Sofar) : Type 0 where
  pub laid : Laid (weights_d (nodes_of kind k)) (encodes_d (nodes_of kind k)) front r.kept
  pub arms_are : r.arms ≡ length (nodes_of kind k) + count k.pend
  pub more : v.kept ≤ r.kept

pub record NodesEnd (kind : ListKind) (T : Table) (W : List ℕ) (v : Sofar) (buf front front' : List ℕ) (r : Sofar) : Type 0 where
  pub bounds : Bounded r
  pub size_is : r.size ≡ v.size
  pub arms_most : r.arms ≤ v.arms + 1
  pub nodes : (g : Option OutcomeTable) (k : Walked) (out : List ℕ) → SofarIs kind g T W k v buf front out → NodesAre kind k v front' r

-- A list whose arms are all read: without arms it denies.
pub record ListEnds (kind : ListKind) (T : Table) (W : List ℕ) (v : Sofar) (buf front out buf' out' : List ℕ) (r : Reduced) : Type 0 where
  pub fit : Fit r
  pub resolved_is : v.pending ≡ false → (r ≡ Resolved (unwrap_or v.decision (denied_at None))) × (buf' ≡ buf)
  pub pending_is : v.pending ≡ true → (g : Option OutcomeTable) (k : Walked) → SofarIs kind g T W k v buf front out → Result (pending (list_of kind (with_nodes (nodes_of kind k) k.pend))) T W buf' (length front) out' r
