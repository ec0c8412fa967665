-- Facts added one after the other, and a walk over arms, of conditions and of policies alike. Assumes nothing.
use mathlib.Core.Path.{◌≡◌, refl, sym, ◌∙◌, ap, subst}
use mathlib.Core.Bool.{Bool, true, false, ◌||◌, or-false, or_assoc}
use mathlib.Core.List.{List}
use Prim.Native.Nat.{ℕ, zero, suc, ◌+◌, ◌-◌}
use native.Mathlib.Omega.{arith}
use lib.ListN.{drop}
use lib.Seq.{drop-drop}
use Rattle.model.specs.Reading.{Parsed, refuse, got, next, unless, many}
use Rattle.model.specs.Required.{fact_set}
use Rattle.fact_set.specs.Sets.{Grown}
use Rattle.required.specs.Sets.{Walked, Collected}
use Rattle.required.specs.Arms.{Onward}
use Rattle.policy_model.proofs.Checking.{Leaves}

pub grown_none : (s : List ℕ) → Grown (λ f. false) s s
grown_none s = record { grown = λ named e. e ∙ ap fact_set (λ i f. sym (or-false (named f)) i) }

pub grown_as : {a b : ℕ → Bool} {s t : List ℕ} → ((f : ℕ) → a f ≡ b f) → Grown a s t → Grown b s t
grown_as h g = record { grown = λ named e. g.grown named e ∙ ap fact_set (λ i f. named f || h f i) }

pub grown_then : {a b : ℕ → Bool} {s t u : List ℕ} → Grown a s t → Grown b t u → Grown (λ f. a f || b f) s u
grown_then {a} {b} g h = record { grown = λ named e. h.grown (λ f. named f || a f) (g.grown named e) ∙ ap fact_set (λ i f. or_assoc (named f) (a f) (b f) i) }

-- One walk after another.
pub walked_then : {at n m mid end : ℕ} {a b : ℕ → Bool} {s t u : List ℕ} → Walked at n mid a s t → Walked mid m end b t u → Walked at (n + m) end (λ f. a f || b f) s u
walked_then v w = record { ends = omega arith; adds = grown_then v.adds w.adds }

pub walked_as : {at n m end : ℕ} {a b : ℕ → Bool} {s t : List ℕ} → n ≡ m → ((f : ℕ) → a f ≡ b f) → Walked at n end a s t → Walked at m end b s t
walked_as e h w = record { ends = omega arith; adds = grown_as h w.adds }

pub walked_none : (at : ℕ) (s : List ℕ) → Walked at 0 at (λ f. false) s s
walked_none at s = record { ends = omega arith; adds = grown_none s }

-- Of a refusal, of whichever of two numbers, nothing is said.
pub refused_either : {A : Type 0} (size : A → ℕ) (names : ℕ → A → Bool) (at end : ℕ) (s t : List ℕ) (b : Bool) (n m : ℕ) → Collected size names at s t (unless b n (refuse m)) end
unfolding Collected
refused_either size names at end s t true n m = tt
refused_either size names at end s t false n m = tt

-- Arms that are read by p, the words of each and the facts that it names; and the same of a list of arms.
module _ {A B : Type 0} (nil : B) (cons : A → B → B) (size : A → ℕ) (sizes : B → ℕ) (names : ℕ → A → Bool) (namess : ℕ → B → Bool)
    (size-nil : sizes nil ≡ 0) (size-cons : (a : A) (b : B) → sizes (cons a b) ≡ size a + sizes b)
    (names-nil : (f : ℕ) → namess f nil ≡ false) (names-cons : (f : ℕ) (a : A) (b : B) → namess f (cons a b) ≡ (names f a || namess f b))
    (p : List ℕ → Parsed A) (left : (us : List ℕ) → Leaves size us (p us)) (sheet : List ℕ) where
  -- No arm.
  arms_none : (n at : ℕ) (s : List ℕ) → n ≡ 0 → Collected sizes namess at s s (many nil cons p n (drop at sheet)) at
  unfolding Collected
  arms_none zero at s e = walked_as (sym size-nil) (λ f. sym (names-nil f)) (walked_none at s)
  arms_none (suc n) at s e = let z : ⊥ = omega arith in absurd z

  -- An arm and those after it.
  arms_cons : (at mid end : ℕ) (s t u : List ℕ) (a : A) (q : Parsed B) → Walked at (size a) mid (λ f. names f a) s t → Collected sizes namess mid t u q end →
      Collected sizes namess at s u (next q (λ xs us. got (cons a xs) us)) end
  unfolding Collected
  arms_cons at mid end s t u a (refuse n) v w = tt
  arms_cons at mid end s t u a (got xs us) v w = walked_as (sym (size-cons a xs)) (λ f. sym (names-cons f a xs)) (walked_then v w)

  arms_first : (n at mid end : ℕ) (s t u : List ℕ) (q : Parsed A) → Leaves size (drop at sheet) q → Collected size names at s t q mid →
      Collected sizes namess mid t u (many nil cons p n (drop mid sheet)) end → Collected sizes namess at s u (next q (λ a vs. next (many nil cons p n vs) (λ xs us. got (cons a xs) us))) end
  unfolding Collected
  arms_first n at mid end s t u (refuse k) h v w = tt
  arms_first n at mid end s t u (got a vs) h v w =
      let e : drop mid sheet ≡ vs = ap (λ k. drop k sheet) v.ends ∙ sym (drop-drop (size a) at sheet) ∙ h.it in
      arms_cons at mid end s t u a (many nil cons p n vs) v (subst (λ ws. Collected sizes namess mid t u (many nil cons p n ws) end) e w)

  arms_more : (n at mid : ℕ) (s t : List ℕ) → (n ≡ 0 → ⊥) → Collected size names at s t (p (drop at sheet)) mid → (u : List ℕ) (end : ℕ) →
      Collected sizes namess mid t u (many nil cons p (n - 1) (drop mid sheet)) end → Collected sizes namess at s u (many nil cons p n (drop at sheet)) end
  arms_more zero at mid s t f v u end w = absurd (f refl)
  arms_more (suc n) at mid s t f v u end w =
      let e : suc n - 1 ≡ n = omega arith in
      arms_first n at mid end s t u (p (drop at sheet)) (left (drop at sheet)) v (subst (λ k. Collected sizes namess mid t u (many nil cons p k (drop mid sheet)) end) e w)

  -- One more turn of the loop, and its end.
  pub onward_more : (from count : ℕ) (s : List ℕ) (at left : ℕ) (t u : List ℕ) (mid : ℕ) → (left ≡ 0 → ⊥) → Collected size names at t u (p (drop at sheet)) mid →
      Onward sizes namess (many nil cons p) sheet from count s at left t → Onward sizes namess (many nil cons p) sheet from count s mid (left - 1) u
  onward_more from count s at left t u mid f v o = record { onward = λ x end w. o.onward x end (arms_more left at mid t u f v x end w) }

  pub onward_end : (from count : ℕ) (s : List ℕ) (at left : ℕ) (t : List ℕ) → left ≡ 0 → Onward sizes namess (many nil cons p) sheet from count s at left t →
      Collected sizes namess from s t (many nil cons p count (drop from sheet)) at
  onward_end from count s at left t z o = o.onward t at (arms_none left at t z)
