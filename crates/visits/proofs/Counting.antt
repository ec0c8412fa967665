-- Counts of a node and of arms one after the other, of conditions and of policies alike. Assumes nothing.
use mathlib.Core.Path.{◌≡◌, refl, sym, ◌∙◌, ap, subst}
use mathlib.Core.Bool.{Bool, true, false, not, cond}
use mathlib.Core.List.{List}
use Rattle.std.specs.Prelude.{Option, Some, None}
use Prim.Native.Nat.{ℕ, zero, suc, ◌+◌, ◌-◌, ◌≤◌, ◌<◌}
use native.Mathlib.Numerals.{sub-one}
use native.Mathlib.Omega.{arith}
use borrow.Author.Tests.{le-leb, lt-leb, leb-true, leb-false}
use lib.Dec.{leb}
use lib.ListN.{drop}
use lib.Seq.{drop-drop}
use Rattle.model.specs.Reading.{Parsed, refuse, got, next, many}
use Rattle.laws.proofs.FieldLaws.{Holds, fine, nothing, weaker, then_holds, both_hold, anything}
use Rattle.policy_model.proofs.Checking.{Leaves}
use Rattle.visits.specs.declared.Visit.{Visit}
use Rattle.visits.specs.Counting.{counted_by, Counts}

-- ---- what an answer says
pub counted_as : (allowance : ℕ) {m n : ℕ} {v w : Bool} {d e : ℕ} → m ≡ n → v ≡ w → d ≡ e → counted_by allowance m v d ≡ counted_by allowance n w e
counted_as allowance p q r = λ i. counted_by allowance (p i) (q i) (r i)

abbrev pub visit : Bool → ℕ → ℕ → Visit
visit v e n = record { holds = v; next = e; nodes = n }

abbrev pub within : Bool → ℕ → ℕ → Option Visit
within v e n = Some (visit v e n)

pub over_is : (allowance n : ℕ) (v : Bool) (e : ℕ) → allowance < n → None ≡ counted_by allowance n v e
unfolding counted_by
over_is allowance n v e h = sym (ap (λ b. cond b (within v e n) None) (lt-leb n allowance h))

pub within_is : (allowance n : ℕ) (v : Bool) (e : ℕ) → n ≤ allowance → within v e n ≡ counted_by allowance n v e
unfolding counted_by
within_is allowance n v e h = sym (ap (λ b. cond b (within v e n) None) (le-leb n allowance h))

-- Not flips.
abbrev pub flipped : Option Visit → Option Visit
flipped (Some w) = within (not w.holds) w.next w.nodes
flipped None = None

pub flipped_is : (allowance n : ℕ) (v : Bool) (e : ℕ) → flipped (counted_by allowance n v e) ≡ counted_by allowance n (not v) e
unfolding counted_by
flipped_is allowance n v e = by (leb n allowance)
  where
    by : (b : Bool) → flipped (cond b (within v e n) None) ≡ cond b (within (not v) e n) None
    by true = refl
    by false = refl

pub record WasWithin (allowance : ℕ) (w : Visit) (v : Bool) (e n : ℕ) : Type 0 where
  pub value_is : v ≡ w.holds
  pub end_is : w.next ≡ e
  pub nodes_are : w.nodes ≡ n
  pub fits : n ≤ allowance

pub was_within : (allowance : ℕ) (w : Visit) (v : Bool) (e n : ℕ) → Some w ≡ counted_by allowance n v e → WasWithin allowance w v e n
unfolding counted_by
was_within allowance w v e n p = by (leb n allowance) refl p
  where
    by : (b : Bool) → leb n allowance ≡ b → Some w ≡ cond b (within v e n) None → WasWithin allowance w v e n
    by true l p =
        let q : w ≡ visit v e n = cc in
        record { value_is = sym (ap (λ (x : Visit). x.holds) q); end_is = ap (λ (x : Visit). x.next) q; nodes_are = ap (λ (x : Visit). x.nodes) q; fits = leb-true n allowance l }
    by false l p = let z : ◌≡◌ {A = ℕ} 0 1 = cc in absurd (omega arith)

pub was_over : (allowance n : ℕ) (v : Bool) (e : ℕ) → None ≡ counted_by allowance n v e → allowance < n
unfolding counted_by
was_over allowance n v e p = by (leb n allowance) refl p
  where
    by : (b : Bool) → leb n allowance ≡ b → None ≡ cond b (within v e n) None → allowance < n
    by true l p = let z : ◌≡◌ {A = ℕ} 0 1 = cc in absurd (omega arith)
    by false l p = leb-false n allowance l

-- ---- nodes
module _ {A : Type 0} (size : A → ℕ) (value : A → Bool) (nodes : A → ℕ) (at allowance n : ℕ) where
  -- Words that don't read.
  pub refused : {r : Option Visit} {m : ℕ} (q : Parsed A) → q ≡ refuse m → Counts size value nodes at allowance n q r
  refused q e = record { says = rw e nothing }

  -- No node is left, and each counts.
  pub none_left : (q : Parsed A) → ((a : A) → 1 ≤ nodes a) → allowance ≤ n → Counts size value nodes at allowance n q None
  none_left (refuse m) some h = record { says = nothing }
  none_left (got a ws) some h = record { says = fine (over_is allowance (n + nodes a) (value a) (at + size a) (omega (arith, some a))) }

  -- A node of one word.
  pub leaf : (a : A) (ws : List ℕ) (v : Bool) (q : Parsed A) (r : Option Visit) → q ≡ got a ws → r ≡ counted_by allowance (n + 1) v (at + 1) → v ≡ value a → nodes a ≡ 1 → size a ≡ 1 →
      Counts size value nodes at allowance n q r
  leaf a ws v q r e p f g h = record { says = rw e (fine (p ∙ counted_as allowance (omega arith) f (omega arith))) }

-- A node whose first word is followed by what was counted.
pub below : {A B : Type 0} (size_a : A → ℕ) (value_a : A → Bool) (nodes_a : A → ℕ) (size : B → ℕ) (value : B → Bool) (nodes : B → ℕ) (at allowance n : ℕ) (q : Parsed A) (make : A → B) (r : Option Visit) →
    ((a : A) (ws : List ℕ) → q ≡ got a ws → (value (make a) ≡ value_a a) × ((nodes (make a) ≡ 1 + nodes_a a) × (size (make a) ≡ 1 + size_a a))) →
    Counts size_a value_a nodes_a (at + 1) allowance (n + 1) q r → Counts size value nodes at allowance n (next q (λ a ws. got (make a) ws)) r
below size_a value_a nodes_a size value nodes at allowance n (refuse m) make r f c = record { says = nothing }
below size_a value_a nodes_a size value nodes at allowance n (got a ws) make r f c =
    let g = f a ws refl in
    record { says = fine (c.says.it ∙ counted_as allowance (omega (arith, g.1.0)) (sym g.0) (omega (arith, g.1.1))) }

-- ---- arms that are read by p
module _ {A B : Type 0} (nil : B) (cons : A → B → B) (p : List ℕ → Parsed A) where
  pub arms_more : (arms : ℕ) (ws : List ℕ) → (arms ≡ 0 → ⊥) → many nil cons p arms ws ≡ next (p ws) (λ a vs. next (many nil cons p (arms - 1) vs) (λ b us. got (cons a b) us))
  arms_more zero ws f = absurd (f refl)
  arms_more (suc arms) ws f = rw sub-one

  -- With an arm the list is not empty.
  pub some_arm : (P : B → Type 0) → ((a : A) (b : B) → P (cons a b)) → (arms : ℕ) (ws : List ℕ) → (arms ≡ 0 → ⊥) → (b : B) (vs : List ℕ) → many nil cons p arms ws ≡ got b vs → P b
  some_arm P h arms ws f b vs e = first (p ws) (sym (arms_more arms ws f) ∙ e)
    where
      rest : (a : A) (q : Parsed B) → next q (λ c us. got (cons a c) us) ≡ got b vs → P b
      rest a (refuse m) e = let z : ◌≡◌ {A = ℕ} 0 1 = cc in absurd (omega arith)
      rest a (got c us) e = subst P (let s : cons a c ≡ b = cc in s) (h a c)

      first : (q : Parsed A) → next q (λ a us. next (many nil cons p (arms - 1) us) (λ c us. got (cons a c) us)) ≡ got b vs → P b
      first (refuse m) e = let z : ◌≡◌ {A = ℕ} 0 1 = cc in absurd (omega arith)
      first (got a us) e = rest a (many nil cons p (arms - 1) us) e

module _ {A B : Type 0} (nil : B) (cons : A → B → B) (size : A → ℕ) (sizes : B → ℕ) (value : A → Bool) (nodes : A → ℕ)
    (size-nil : sizes nil ≡ 0) (size-cons : (a : A) (b : B) → sizes (cons a b) ≡ size a + sizes b)
    (p : List ℕ → Parsed A) (leaves : (us : List ℕ) → Leaves size us (p us)) (W : List ℕ) (allowance : ℕ) where
  -- No arm is left.
  pub arms_none : (values : B → Bool) (count : B → ℕ) (at arms n : ℕ) → arms ≡ 0 → count nil ≡ 0 → (r : Option Visit) → r ≡ counted_by allowance n (values nil) at →
      Counts sizes values count at allowance n (many nil cons p arms (drop at W)) r
  arms_none values count at arms n z c r e = record { says = rw z (fine (e ∙ counted_as allowance (omega arith) refl (omega arith))) }

  -- The first arm, and what answers for those after it.
  pub arm_first : (values others : B → Bool) (count after : B → ℕ) (at arms n : ℕ) (w : Visit) (r : Option Visit) → (arms ≡ 0 → ⊥) →
      Counts size value nodes at allowance n (p (drop at W)) (Some w) →
      ((a : A) (b : B) → value a ≡ w.holds → (count (cons a b) ≡ nodes a + after b) × (values (cons a b) ≡ others b)) →
      Counts sizes others after w.next allowance w.nodes (many nil cons p (arms - 1) (drop w.next W)) r → Counts sizes values count at allowance n (many nil cons p arms (drop at W)) r
  arm_first values others count after at arms n w r f first leads rest = record {
    says = rw (arms_more nil cons p arms (drop at W) f)
        (then_holds (p (drop at W)) (λ a vs. next (many nil cons p (arms - 1) vs) (λ b us. got (cons a b) us))
        (both_hold (p (drop at W)) first.says (leaves (drop at W))) (λ a vs x.
        let was = was_within allowance w (value a) (at + size a) (n + nodes a) x.0 in
        let there : drop w.next W ≡ vs = ap (λ k. drop k W) was.end_is ∙ sym (drop-drop (size a) at W) ∙ x.1 in
        then_holds (many nil cons p (arms - 1) vs) (λ b us. got (cons a b) us)
        (subst (λ ws. Holds (λ b _. r ≡ counted_by allowance (w.nodes + after b) (others b) (w.next + sizes b)) (many nil cons p (arms - 1) ws)) there rest.says) (λ b us g.
        let l = leads a b was.value_is in
        fine (g ∙ counted_as allowance (omega (arith, was.nodes_are, l.0)) (sym l.1) (omega (arith, was.end_is, size-cons a b))))));
  }

  -- The allowance doesn't hold the first arm.
  pub arm_over : (values : B → Bool) (count : B → ℕ) (at arms n : ℕ) → (arms ≡ 0 → ⊥) → ((a : A) (b : B) → nodes a ≤ count (cons a b)) →
      Counts size value nodes at allowance n (p (drop at W)) None → Counts sizes values count at allowance n (many nil cons p arms (drop at W)) None
  arm_over values count at arms n f more first = record {
    says = rw (arms_more nil cons p arms (drop at W) f)
        (then_holds (p (drop at W)) (λ a vs. next (many nil cons p (arms - 1) vs) (λ b us. got (cons a b) us)) first.says (λ a vs x.
        then_holds (many nil cons p (arms - 1) vs) (λ b us. got (cons a b) us) (anything (many nil cons p (arms - 1) vs)) (λ b us _.
        fine (over_is allowance (n + count (cons a b)) (values (cons a b)) (at + sizes (cons a b)) (omega (arith, was_over allowance (n + nodes a) (value a) (at + size a) x, more a b))))));
  }

  -- The arms after the one that decides are passed over.
  pub arms_passed : (v : Bool) (at arms n end : ℕ) (r : Option Visit) → r ≡ counted_by allowance n v end → Holds (λ b rest. end ≡ at + sizes b) (many nil cons p arms (drop at W)) →
      Counts sizes (λ _. v) (λ _. 0) at allowance n (many nil cons p arms (drop at W)) r
  arms_passed v at arms n end r e k = record { says = weaker (many nil cons p arms (drop at W)) (λ b rest g. e ∙ counted_as allowance (omega arith) refl g) k }

-- A loop: what answers for the arms that are left answers for all.
pub record Going (Left Whole : Option Visit → Type 0) : Type 0 where
  pub goes : (r : Option Visit) → Left r → Whole r
