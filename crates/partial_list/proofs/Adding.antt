-- One more arm of a list: its node, its decision, its words. Assumes nothing.
use mathlib.Core.Path.{◌≡◌, refl, sym, ◌∙◌, ap, ap₂, subst}
use mathlib.Core.Bool.{Bool, true, false}
use mathlib.Core.Option.{Option, none, some}
use Rattle.std.specs.Prelude.{Option as OptionOf, Some, None, IfSome, unwrap_or}
use mathlib.Core.List.{List, ◌++◌}
use Prim.Native.Nat.{ℕ, ◌+◌, ◌-◌, ◌≤◌, min}
use native.Mathlib.Omega.{arith}
use lib.ListN.{length, take, drop}
use lib.Seq.{take-take}
use mir.Val.{bool_byte}
use Rattle.model.specs.Facts.{Table}
use Rattle.model.specs.Levels.{OutcomeTable}
use Rattle.model.specs.Decision.{Decision as Decided}
use Rattle.model.specs.Products.{Outcome}
use Rattle.decision.specs.declared.Decision.{Decision}
use Rattle.decision.specs.Meaning.{denied_at}
use Rattle.decision.proofs.Standing.{denied_is, sound_denied}
use Rattle.decision.proofs.Buffers.{same_decision, same_sound, lent_front, lent_back, lent_tail}
use Rattle.evaluate.specs.Evaluating.{Folds}
use Rattle.evaluate.specs.Folding.{or_denied}
use Rattle.evaluate.proofs.Arms.{decides, decides_as}
use Rattle.sizes.specs.Laid.{too_many, capped}
use Rattle.sizes.specs.LaidLaws.{laid_then}
use Rattle.residual.specs.Answers.{NodeLaid}
use Rattle.decision.specs.Room.{obligation_room, Few}
use Rattle.partial_list.specs.declared.ListKind.{ListKind}
use Rattle.partial_list.specs.declared.Sofar.{Sofar}
use Rattle.partial_list.specs.Keeping.{arms_with, fold_next}
use Rattle.partial_list.specs.InOrder.{DecisionHeld}
use Rattle.partial_list.specs.Answers.{Resolves, Decides, sofar_of, Bounded, NodeBehind, NodeKept, DecisionAdded}

pub clash : {G : Type 0} (b : Bool) → b ≡ true → b ≡ false → G
clash b p q = absurd (cc)

-- ---- the node
module _ {T : Table} {W : List ℕ} {d : Decision} {kept : ℕ} where
  pub node_behind : (buf out bpart opart : List ℕ) (from size r : ℕ) → kept ≤ too_many → obligation_room ≤ length buf → d.united ≤ length bpart →
      NodeLaid W T d (take (length buf - obligation_room) (drop obligation_room buf)) bpart opart size → from ≡ min kept (length out) → length opart ≡ length out - from → r ≡ capped (kept + size) →
      NodeBehind T W d kept buf out (take obligation_room buf ++ (bpart ++ drop (length buf - obligation_room) (drop obligation_room buf))) (take from out ++ (opart ++ drop (length out - from) (drop from out))) r
  node_behind buf out bpart opart from size r most room few l f long e =
      let n : NodeLaid W T d (drop obligation_room buf) bpart opart size = subst (λ us. NodeLaid W T d us bpart opart size) (lent_tail buf) l in
      record {
        bound = omega arith;
        more = omega arith;
        size_is = λ s. omega (arith, (n.laid s).size_is);
        node = λ m ws s k. laid_then k (n.laid s) f long e;
        front_bytes = lent_front buf bpart (drop (length buf - obligation_room) (drop obligation_room buf)) room obligation_room (omega arith);
        bytes = λ s. lent_back buf bpart (drop (length buf - obligation_room) (drop obligation_room buf)) room d.united few ∙ n.bytes s;
      }

-- ---- the decision
pub decided_as : (T : Table) (W buf : List ℕ) (d : Decision) (D : Decided Outcome) → Resolves T W D buf d → d.permit ≡ decides D
decided_as T W buf d D x = sym (decides_as W T buf d) ∙ ap decides x.decision_is

-- A decision stands for the same where its bytes do.
pub resolves_same : {T : Table} {W : List ℕ} {D : Decided Outcome} {d : Decision} (before after : List ℕ) → take d.united after ≡ take d.united before → Resolves T W D before d → Resolves T W D after d
resolves_same {T} {W} {d = d} before after e r = record { decision_is = same_decision W before after d e T ∙ r.decision_is; sound = same_sound W before after d e r.sound }

front_same : (n : ℕ) (before after : List ℕ) → n ≤ obligation_room → take obligation_room after ≡ take obligation_room before → take n after ≡ take n before
front_same n before after h e = sym (take-take n obligation_room after h) ∙ ap (take n) e ∙ take-take n obligation_room before h

pub decides_same : (T : Table) (W before after : List ℕ) (o : OptionOf Decision) (X : Option (Decided Outcome)) → IfSome o Few → take obligation_room after ≡ take obligation_room before → Decides T W before o X → Decides T W after o X
decides_same T W before after None none few e s = tt
decides_same T W before after None (some D) few e s = absurd s
decides_same T W before after (Some d) none few e s = absurd s
decides_same T W before after (Some d) (some D) few e s = resolves_same before after (front_same d.united before after few e) s

-- What the decision so far and one more stand for is folded.
folded_on : {fold : Option (Decided Outcome) → Decided Outcome → Decided Outcome} {T : Table} {W before part after : List ℕ} {incoming r : Decision} {D : Decided Outcome} (sofar : OptionOf Decision) (X : Option (Decided Outcome)) →
    Folds fold W sofar before incoming part r after → Decides T W before sofar X → Resolves T W D part incoming → Resolves T W (fold X D) after r
folded_on {fold} {T} None none f s x = record { decision_is = f.folded tt x.sound T ∙ ap (fold none) x.decision_is; sound = f.sound tt x.sound }
folded_on None (some C) f s x = absurd s
folded_on (Some d) none f s x = absurd s
folded_on {fold} {T} (Some d) (some C) f s x = record {
  decision_is = f.folded s.sound x.sound T ∙ ap₂ (λ c d. fold (some c) d) s.decision_is x.decision_is;
  sound = f.sound s.sound x.sound;
}

-- A permit is one arm more.
pub one_more : (permit : Bool) (n : ℕ) → n + bool_byte permit ≡ arms_with permit n
one_more true n = refl
one_more false n = omega arith

pub decision_added : {kind : ListKind} {g : Option OutcomeTable} {T : Table} {W : List ℕ} {v : Sofar} {d now : Decision} {buf front mid buf' front' : List ℕ} {kept arms : ℕ} →
    Bounded v → NodeKept T W d v.kept buf front mid front' kept → Folds (fold_next kind g) W v.decision mid d (drop obligation_room mid) now buf' → arms ≡ arms_with d.permit v.arms →
    DecisionAdded kind g T W v d buf front buf' front' (sofar_of (Some now) kept v.size arms v.pending)
decision_added {v = v} {d} {buf = buf} {mid = mid} b n f a = record {
  bounds = record { few = f.few; kept_most = n.bound; size_most = b.size_most; size_some = b.size_some };
  size_is = refl;
  pending_is = refl;
  begun = refl;
  more = n.more;
  arms_are = a;
  none = n.none;
  node = n.node;
  folds = λ P X D s x _. folded_on v.decision X f (decides_same _ _ buf mid v.decision X b.few n.front_bytes s) (resolves_same (drop obligation_room buf) (drop obligation_room mid) (n.bytes x.sound) x);
}

-- The same of a list in sheet order, while no arm is pending.
pub held_folded : {kind : ListKind} {g : Option OutcomeTable} {T : Table} {W : List ℕ} {v : Sofar} {d now : Decision} {buf out mid buf' out' : List ℕ} {size : ℕ} → Bounded v →
    NodeBehind T W d v.size buf out mid out' size → Folds (fold_next kind g) W v.decision mid d (drop obligation_room mid) now buf' →
    DecisionHeld kind g T W v d buf out buf' out' (sofar_of (Some now) v.kept size (v.arms + 1) v.pending)
held_folded {v = v} {buf = buf} {mid = mid} b n f = record {
  bounds = record { few = f.few; kept_most = b.kept_most; size_most = n.bound; size_some = omega (arith, b.size_some, n.more) };
  arms_are = refl;
  more = n.more;
  pending_is = refl;
  size_is = n.size_is;
  node = n.node;
  begun = λ _. refl;
  folds = λ _ P X D s x _. folded_on v.decision X f (decides_same _ _ buf mid v.decision X b.few n.front_bytes s) (resolves_same (drop obligation_room buf) (drop obligation_room mid) (n.bytes x.sound) x);
}

-- ---- where the tail of the buffer was lent to the arm
pub lent_decides : (T : Table) (W buf part rest : List ℕ) (o : OptionOf Decision) (X : Option (Decided Outcome)) → obligation_room ≤ length buf → IfSome o Few → Decides T W buf o X → Decides T W (take obligation_room buf ++ (part ++ rest)) o X
lent_decides T W buf part rest o X room few s = decides_same T W buf (take obligation_room buf ++ (part ++ rest)) o X few (lent_front buf part rest room obligation_room (omega arith)) s

pub lent_resolves : {T : Table} {W : List ℕ} {D : Decided Outcome} {d : Decision} (buf part rest : List ℕ) → obligation_room ≤ length buf → d.united ≤ length part → Resolves T W D part d → Resolves T W D (drop obligation_room (take obligation_room buf ++ (part ++ rest))) d
lent_resolves {d = d} buf part rest room few r = resolves_same part (drop obligation_room (take obligation_room buf ++ (part ++ rest))) (lent_back buf part rest room d.united few) r

-- ---- a list without arms denies
pub resolves_or_denied : (T : Table) (W buf : List ℕ) (o : OptionOf Decision) (X : Option (Decided Outcome)) → Decides T W buf o X → Resolves T W (or_denied X) buf (unwrap_or o (denied_at None))
resolves_or_denied T W buf None none s = record { decision_is = denied_is W T buf; sound = sound_denied W buf None tt }
resolves_or_denied T W buf None (some D) s = absurd s
resolves_or_denied T W buf (Some d) none s = absurd s
resolves_or_denied T W buf (Some d) (some D) s = s
