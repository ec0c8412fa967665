-- One more arm's decision folded into the decision so far. Assumes nothing.
use mathlib.Core.Path.{◌≡◌, refl, sym, ◌∙◌, ap, ap₂, subst}
use mathlib.Core.Bool.{true, false}
use mathlib.Core.Option.{Option, none, some}
use mathlib.Core.List.{List, ◌++◌}
use Prim.Native.Nat.{ℕ, ◌≤◌}
use lib.ListN.{length, take, drop}
use Rattle.std.specs.Prelude.{Option as Sofar, Some, None, IfSome}
use Rattle.model.specs.Facts.{Table}
use Rattle.model.specs.Levels.{OutcomeTable}
use Rattle.model.specs.Decision.{Permit, Denial, permits, denies}
use Rattle.model.specs.Decision.{Decision as Decided}
use Rattle.model.specs.Products.{Outcome, meet_permit, join_permit}
use Rattle.decision.specs.declared.Decision.{Decision}
use Rattle.decision.specs.Nodes.{clause_at}
use Rattle.decision.specs.Meaning.{permit_of, decision_of, Sound}
use Rattle.decision.specs.Answers.{Kept, Folded}
use Rattle.decision.proofs.Standing.{as_permit, as_deny}
use Rattle.decision.proofs.Buffers.{same_decision, same_sound, kept_decision, kept_sound, lent_front, lent_back}
use Rattle.decision.specs.Room.{obligation_room, Few}
use Rattle.evaluate.specs.Folding.{meet_next, join_next}
use Rattle.evaluate.specs.Evaluating.{sofar_of, Folds}

abbrev Fold : Type 0
Fold = Option (Decided Outcome) → Decided Outcome → Decided Outcome

after_deny : (g : Option OutcomeTable) (c : Denial Outcome) (y : Decided Outcome) → meet_next g (some (denies c)) y ≡ y
after_deny g c (permits q) = refl
after_deny g c (denies d) = refl

deny_taken : (g : Option OutcomeTable) (x : Decided Outcome) {y : Decided Outcome} {d : Denial Outcome} → y ≡ denies d → meet_next g (some x) y ≡ y
deny_taken g (permits p) e = ap (meet_next g (some (permits p))) e ∙ sym e
deny_taken g (denies c) e = after_deny g c _

module _ {W before after : List ℕ} {incoming r : Decision} where
  -- ---- the incoming decision is taken
  takes : {fold : Fold} {sofar : Sofar Decision} → Few incoming → Kept incoming before after r →
      ((T : Table) → fold (sofar_of W T before sofar) (decision_of W T (drop obligation_room before) incoming) ≡ decision_of W T (drop obligation_room before) incoming) →
      Folds fold W sofar before incoming (drop obligation_room before) r after
  takes few k f = record {
    few = subst Few (sym k.same) few;
    sound = λ _ s. kept_sound W before after incoming r k s;
    folded = λ _ _ T. kept_decision W before after incoming r k T ∙ sym (f T);
  }

  -- The first arm's, whatever the rule.
  pub first_folds : {fold : Fold} → ((d : Decided Outcome) → fold none d ≡ d) → Few incoming → Kept incoming before after r → Folds fold W None before incoming (drop obligation_room before) r after
  first_folds is few k = takes few k (λ T. is (decision_of W T (drop obligation_room before) incoming))

  module _ {sofar : Decision} where
    -- ---- two permits are folded
    folds_permits : {fold : Fold} {fold_p : Permit Outcome → Permit Outcome → Permit Outcome} → ((p q : Permit Outcome) → fold (some (permits p)) (permits q) ≡ permits (fold_p p q)) →
        sofar.permit ≡ true → incoming.permit ≡ true → Folded fold_p W before after sofar incoming r → Folds fold W (Some sofar) before incoming (drop obligation_room before) r after
    folds_permits {fold} is p q f = record {
      few = f.few;
      sound = f.sound;
      folded = λ s i T.
          as_permit W T after r (f.permit p q)
          ∙ ap permits (f.folded s i T)
          ∙ sym (is (permit_of W T before sofar) (permit_of W T (drop obligation_room before) incoming))
          ∙ sym (ap₂ (λ x y. fold (some x) y) (as_permit W T before sofar p) (as_permit W T (drop obligation_room before) incoming q));
    }

    pub met_permits : (g : Option OutcomeTable) → sofar.permit ≡ true → incoming.permit ≡ true → Folded (meet_permit g) W before after sofar incoming r → Folds (meet_next g) W (Some sofar) before incoming (drop obligation_room before) r after
    met_permits g p q f = folds_permits {fold = meet_next g} (λ _ _. refl) p q f

    pub joined_permits : (g : Option OutcomeTable) → sofar.permit ≡ true → incoming.permit ≡ true → Folded (join_permit g) W before after sofar incoming r → Folds (join_next g) W (Some sofar) before incoming (drop obligation_room before) r after
    joined_permits g p q f = folds_permits {fold = join_next g} (λ _ _. refl) p q f

    -- ---- under All one more arm is taken where it or what was before it is a deny
    pub met_first : (g : Option OutcomeTable) → Few incoming → sofar.permit ≡ false → Kept incoming before after r → Folds (meet_next g) W (Some sofar) before incoming (drop obligation_room before) r after
    met_first g few p k = takes {fold = meet_next g} few k (λ T.
        ap (λ x. meet_next g (some x) (decision_of W T (drop obligation_room before) incoming)) (as_deny W T before sofar p)
        ∙ after_deny g (clause_at W T sofar.clause) (decision_of W T (drop obligation_room before) incoming))

    pub met_deny : (g : Option OutcomeTable) → Few incoming → incoming.permit ≡ false → Kept incoming before after r → Folds (meet_next g) W (Some sofar) before incoming (drop obligation_room before) r after
    met_deny g few q k = takes {fold = meet_next g} few k (λ T. deny_taken g (decision_of W T before sofar) (as_deny W T (drop obligation_room before) incoming q))

    -- ---- under Any a permit is taken after a deny
    pub joined_first : (g : Option OutcomeTable) → Few incoming → sofar.permit ≡ false → incoming.permit ≡ true → Kept incoming before after r → Folds (join_next g) W (Some sofar) before incoming (drop obligation_room before) r after
    joined_first g few p q k = takes {fold = join_next g} few k (λ T.
        ap₂ (λ x y. join_next g (some x) y) (as_deny W T before sofar p) (as_permit W T (drop obligation_room before) incoming q)
        ∙ sym (as_permit W T (drop obligation_room before) incoming q))

-- ---- under Any a deny after another arm changes nothing
join_deny_at : (g : Option OutcomeTable) (x y : Decided Outcome) (c : Denial Outcome) → y ≡ denies c → join_next g (some x) y ≡ x
join_deny_at g (permits p) y c e = ap (join_next g (some (permits p))) e
join_deny_at g (denies d) y c e = ap (join_next g (some (denies d))) e

pub joined_deny : (g : Option OutcomeTable) {W before : List ℕ} {sofar incoming : Decision} → Few sofar → incoming.permit ≡ false →
    Folds (join_next g) W (Some sofar) before incoming (drop obligation_room before) sofar before
joined_deny g {W} {before} {sofar} {incoming} few q = record {
  few = few;
  sound = λ s _. s;
  folded = λ _ _ T. sym (join_deny_at g (decision_of W T before sofar) (decision_of W T (drop obligation_room before) incoming) (clause_at W T incoming.clause) (as_deny W T (drop obligation_room before) incoming q));
}

-- ---- where the tail of the buffer was lent to the arm
-- The decision so far stands for the same in a buffer with the same front.
module _ (W buf back : List ℕ) (same : (n : ℕ) → n ≤ obligation_room → take n back ≡ take n buf) where
  same_sofar : (sofar : Sofar Decision) → IfSome sofar Few → (T : Table) → sofar_of W T back sofar ≡ sofar_of W T buf sofar
  same_sofar None few T = refl
  same_sofar (Some d) few T = ap some (same_decision W buf back d (same d.united few) T)

  sound_sofar : (sofar : Sofar Decision) → IfSome sofar Few → IfSome sofar (Sound W buf) → IfSome sofar (Sound W back)
  sound_sofar None few s = s
  sound_sofar (Some d) few s = same_sound W buf back d (same d.united few) s

module _ {W buf part after : List ℕ} {sofar : Sofar Decision} {incoming r : Decision} (rest : List ℕ) (room : obligation_room ≤ length buf) (few : IfSome sofar Few) (fits : incoming.united ≤ length part) where
  pub lent_folds : {fold : Fold} →
      Folds fold W sofar (take obligation_room buf ++ (part ++ rest)) incoming (drop obligation_room (take obligation_room buf ++ (part ++ rest))) r after → Folds fold W sofar buf incoming part r after
  lent_folds {fold} f =
      let back = take obligation_room buf ++ (part ++ rest) in
      let front : (n : ℕ) → n ≤ obligation_room → take n back ≡ take n buf = lent_front buf part rest room in
      let tail : take incoming.united (drop obligation_room back) ≡ take incoming.united part = lent_back buf part rest room incoming.united fits in
      let sound : IfSome sofar (Sound W buf) → IfSome sofar (Sound W back) = sound_sofar W buf back front sofar few in
      let sound_part : Sound W part incoming → Sound W (drop obligation_room back) incoming = same_sound W part (drop obligation_room back) incoming tail in
      record {
        few = f.few;
        sound = λ s i. f.sound (sound s) (sound_part i);
        folded = λ s i T.
            f.folded (sound s) (sound_part i) T
            ∙ ap₂ fold (same_sofar W buf back front sofar few T) (same_decision W part (drop obligation_room back) incoming tail T);
      }
