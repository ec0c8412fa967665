-- The folds of permits, case by case. Assumes nothing.
use mathlib.Core.Path.{◌≡◌, refl, sym, ◌∙◌, ap, ap₂}
use mathlib.Core.Bool.{Bool, true, false, cond}
use mathlib.Core.Option.{Option}
use mathlib.Core.List.{List, []}
use Prim.Native.Nat.{ℕ, ◌≤◌}
use native.Mathlib.Omega.{arith}
use borrow.Author.Tests.{eqb-true}
use lib.Dec.{eqb}
use lib.ListN.{drop}
use Rattle.std.specs.Prelude.{Option as Place, None}
use Rattle.model.specs.Facts.{Table}
use Rattle.model.specs.Levels.{OutcomeTable, meet_of, join_of}
use Rattle.model.specs.Decision.{Permit, combined, union_obligations}
use Rattle.model.specs.Products.{Outcome, meet_permit, join_permit}
use Rattle.decision.specs.declared.Decision.{Decision}
use Rattle.decision.specs.Nodes.{clause_at}
use Rattle.decision.specs.Meaning.{permitted_at, obligations_in, permit_of, Names, Sound}
use Rattle.decision.specs.Answers.{Unobliged, Both, Kept, Folded}
use Rattle.decision.proofs.Standing.{permitted_is, sound_permitted}
use Rattle.decision.proofs.Buffers.{same_permit, same_sound}
use Rattle.decision.specs.Room.{obligation_room}

-- ---- a fold that keeps one of the two, or makes a permit with nothing but its outcome
module _ (fold : Permit Outcome → Permit Outcome → Permit Outcome) (words before : List ℕ) (sofar incoming : Decision) where
  keeps_first : sofar.united ≤ obligation_room → ((T : Table) → fold (permit_of words T before sofar) (permit_of words T (drop obligation_room before) incoming) ≡ permit_of words T before sofar) →
      Folded fold words before before sofar incoming sofar
  keeps_first few f = record { few = few; permit = λ p _. p; sound = λ s _. s; folded = λ _ _ T. sym (f T) }

  keeps_second : (after : List ℕ) (r : Decision) → incoming.united ≤ obligation_room → Kept incoming before after r →
      ((T : Table) → fold (permit_of words T before sofar) (permit_of words T (drop obligation_room before) incoming) ≡ permit_of words T (drop obligation_room before) incoming) →
      Folded fold words before after sofar incoming r
  keeps_second after r few k f =
      rw k.same (record {
        few = few;
        permit = λ _ p. p;
        sound = λ _ s. same_sound words (drop obligation_room before) after incoming k.front s;
        folded = λ _ _ T. same_permit words (drop obligation_room before) after incoming k.front T ∙ sym (f T);
      })

-- ---- meet
module _ (g : Option OutcomeTable) (p q : Permit Outcome) (o : ℕ) (is : o ≡ meet_of g p.outcome q.outcome) where
  meet_by_lem : (b c : Bool) → eqb o p.outcome ≡ b → eqb o q.outcome ≡ c → meet_permit g p q ≡ cond b p (cond c q (combined o []))
  meet_by_lem b c e f =
      ap (λ m. cond (eqb m p.outcome) p (cond (eqb m q.outcome) q (combined m []))) (sym is)
      ∙ ap₂ (λ x y. cond x p (cond y q (combined o []))) e f

module _ (g : Option OutcomeTable) (words before : List ℕ) (sofar incoming : Decision) (o : ℕ) (is : o ≡ meet_of g sofar.outcome incoming.outcome) where
  meets : (T : Table) (b c : Bool) → eqb o sofar.outcome ≡ b → eqb o incoming.outcome ≡ c →
      meet_permit g (permit_of words T before sofar) (permit_of words T (drop obligation_room before) incoming)
      ≡ cond b (permit_of words T before sofar) (cond c (permit_of words T (drop obligation_room before) incoming) (combined o []))
  unfolding permit_of
  meets T b c e f = meet_by_lem g (permit_of words T before sofar) (permit_of words T (drop obligation_room before) incoming) o is b c e f

  pub meet_first : sofar.united ≤ obligation_room → eqb o sofar.outcome ≡ true → Folded (meet_permit g) words before before sofar incoming sofar
  meet_first few e =
      keeps_first (meet_permit g) words before sofar incoming few (λ T. meets T true (eqb o incoming.outcome) e refl)

  pub meet_second : (after : List ℕ) (r : Decision) → incoming.united ≤ obligation_room → Kept incoming before after r → eqb o sofar.outcome ≡ false → eqb o incoming.outcome ≡ true →
      Folded (meet_permit g) words before after sofar incoming r
  meet_second after r few k n e =
      keeps_second (meet_permit g) words before sofar incoming after r few k (λ T. meets T false true n e)

  pub meet_neither : (r : Decision) → r ≡ permitted_at o None None 0 → eqb o sofar.outcome ≡ false → eqb o incoming.outcome ≡ false →
      Folded (meet_permit g) words before before sofar incoming r
  meet_neither r e n m =
      rw e (record {
        few = omega arith;
        permit = λ _ _. refl;
        sound = λ _ _. sound_permitted words before o None tt;
        folded = λ _ _ T. permitted_is words T before o ∙ sym (meets T false false n m);
      })

-- ---- join
abbrev with_obligations : Permit Outcome → List ℕ → Permit Outcome
with_obligations p os = record { outcome = p.outcome; obligations = os; label = p.label; facts = p.facts }

module _ (g : Option OutcomeTable) (p q : Permit Outcome) (o : ℕ) (is : o ≡ join_of g p.outcome q.outcome) where
  join_by_lem : (b c : Bool) → eqb o p.outcome ≡ b → eqb o q.outcome ≡ c →
      join_permit g p q ≡
      cond b (cond c (with_obligations p (union_obligations p.obligations q.obligations)) p) (cond c q (combined o (union_obligations p.obligations q.obligations)))
  join_by_lem b c e f =
      let os = union_obligations p.obligations q.obligations in
      ap (λ m. cond (eqb m p.outcome) (cond (eqb m q.outcome) (with_obligations p os) p) (cond (eqb m q.outcome) q (combined m os))) (sym is)
      ∙ ap₂ (λ x y. cond x (cond y (with_obligations p os) p) (cond y q (combined o os))) e f

module _ (g : Option OutcomeTable) (words before : List ℕ) (sofar incoming : Decision) (o : ℕ) (is : o ≡ join_of g sofar.outcome incoming.outcome) where
  abbrev union : List ℕ
  union = union_obligations (obligations_in words before sofar) (obligations_in words (drop obligation_room before) incoming)

  joins : (T : Table) (b c : Bool) → eqb o sofar.outcome ≡ b → eqb o incoming.outcome ≡ c →
      join_permit g (permit_of words T before sofar) (permit_of words T (drop obligation_room before) incoming)
      ≡ cond b (cond c (with_obligations (permit_of words T before sofar) union) (permit_of words T before sofar)) (cond c (permit_of words T (drop obligation_room before) incoming) (combined o union))
  unfolding permit_of
  joins T b c e f = join_by_lem g (permit_of words T before sofar) (permit_of words T (drop obligation_room before) incoming) o is b c e f

  pub join_first : sofar.united ≤ obligation_room → eqb o sofar.outcome ≡ true → eqb o incoming.outcome ≡ false → Folded (join_permit g) words before before sofar incoming sofar
  join_first few e n =
      keeps_first (join_permit g) words before sofar incoming few (λ T. joins T true false e n)

  pub join_second : (after : List ℕ) (r : Decision) → incoming.united ≤ obligation_room → Kept incoming before after r → eqb o sofar.outcome ≡ false → eqb o incoming.outcome ≡ true →
      Folded (join_permit g) words before after sofar incoming r
  join_second after r few k n e =
      keeps_second (join_permit g) words before sofar incoming after r few k (λ T. joins T false true n e)

  -- the permit with the obligations of the permit so far and those that were appended
  united : (after : List ℕ) (at : Place ℕ) (n : ℕ) → Both words sofar incoming before after n → (T : Table) → Sound words before sofar → Sound words (drop obligation_room before) incoming →
      permit_of words T after (permitted_at o at sofar.obligations n) ≡ record { outcome = o; obligations = union; label = (clause_at words T at).label; facts = (clause_at words T at).facts }
  unfolding permit_of obligations_in
  united after at n u T s t = ap (λ os. record { outcome = o; obligations = os; label = (clause_at words T at).label; facts = (clause_at words T at).facts }) (u.united s t)

  united_sound : (after : List ℕ) (at : Place ℕ) (n : ℕ) → Both words sofar incoming before after n → Names words at → Sound words before sofar → Sound words (drop obligation_room before) incoming →
      Sound words after (permitted_at o at sofar.obligations n)
  united_sound after at n u names s t =
      record { clause = names; held = s.held; appended = u.appended s t; bare = λ e. let z : ◌≡◌ {A = ℕ} 0 1 = cc in absurd (omega arith) }

  pub join_both : (after : List ℕ) (n : ℕ) (r : Decision) → r ≡ permitted_at o sofar.clause sofar.obligations n → Both words sofar incoming before after n →
      eqb o sofar.outcome ≡ true → eqb o incoming.outcome ≡ true → Folded (join_permit g) words before after sofar incoming r
  unfolding permit_of
  join_both after n r e u m k =
      rw e (record {
        few = u.few;
        permit = λ _ _. refl;
        sound = λ s t. united_sound after sofar.clause n u s.clause s t;
        folded = λ s t T.
            united after sofar.clause n u T s t
            ∙ ap (λ x. record { outcome = x; obligations = union; label = (clause_at words T sofar.clause).label; facts = (clause_at words T sofar.clause).facts }) (eqb-true o sofar.outcome m)
            ∙ sym (joins T true true m k);
      })

  pub join_unobliged : sofar.united ≤ obligation_room → eqb o sofar.outcome ≡ true → eqb o incoming.outcome ≡ true → Unobliged words incoming → Folded (join_permit g) words before before sofar incoming sofar
  unfolding permit_of
  join_unobliged few m k u =
      record {
        few = few;
        permit = λ p _. p;
        sound = λ s _. s;
        folded = λ s t T.
            sym (joins T true true m k
            ∙ ap (λ os. with_obligations (permit_of words T before sofar) (union_obligations (obligations_in words before sofar) os)) (u.none t.held (drop obligation_room before)));
      }

  pub join_neither : (after : List ℕ) (n : ℕ) (r : Decision) → r ≡ permitted_at o None sofar.obligations n → Both words sofar incoming before after n →
      eqb o sofar.outcome ≡ false → eqb o incoming.outcome ≡ false → Folded (join_permit g) words before after sofar incoming r
  unfolding clause_at
  join_neither after n r e u m k =
      rw e (record {
        few = u.few;
        permit = λ _ _. refl;
        sound = λ s t. united_sound after None n u tt s t;
        folded = λ s t T.
            united after None n u T s t
            ∙ sym (joins T false false m k);
      })
