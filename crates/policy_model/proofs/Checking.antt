-- Checking one part after the other: the positions are those of what is read. Assumes nothing.
use Rattle.std.specs.Prelude.{Result, Ok, Err, IsErrAnd}
use mathlib.Core.Path.{◌≡◌, refl, sym, ◌∙◌, ap}
use mathlib.Core.Option.{some}
use mathlib.Core.List.{List, [], ◌∷◌, ◌++◌}
use Prim.Native.Nat.{ℕ, zero, suc, ◌+◌, ◌-◌, ◌≤◌, ◌<◌}
use native.Mathlib.Numerals.{add-one, sub-one}
use native.Mathlib.Omega.{arith}
use lib.ListN.{length, drop, get_or, drop_of_length-le}
use lib.Seq.{drop-cons, drop-drop, drop_at}
use Rattle.model.specs.Reading.{Parsed, refuse, got, next, many}
use Rattle.laws.proofs.FieldLaws.{Holds, weaker}
use Rattle.refusal.specs.declared.Refusal.{Refusal}
use Rattle.refusal.specs.Numbers.{number_of, by_number, refused}
use Rattle.policy_model.specs.declared.Step.{Step}
use Rattle.policy_model.specs.declared.RecordHead.{RecordHead}
use Rattle.policy_model.specs.Answers.{checked, and_then, Stepped, record_lead}

-- A word is there, or the words have ended.
pub word_at : (words : List ℕ) (at : ℕ) → at < length words → drop at words ≡ get_or words at 0 ∷ drop (at + 1) words
word_at words at h = rw (add-one, drop-cons words at 0)

pub no_word : (words : List ℕ) (at : ℕ) → length words ≤ at → drop at words ≡ []
no_word words at h = drop_of_length-le words h

-- A refusal is passed on as it is.
pub passed_on : {A : Type 0} (r : Result A Refusal) (e : Refusal) → IsErrAnd r (λ d. d ≡ e) → by_number r ≡ Err (number_of e)
passed_on (Ok a) e h = absurd h
passed_on (Err d) e h = ap (λ x. Err (number_of x)) h

pub sheet_passed_on : {A : Type 0} (r : Result A Refusal) (e : Refusal) → IsErrAnd r (λ d. d ≡ e) → refused r ≡ some (number_of e)
sheet_passed_on (Ok a) e h = absurd h
sheet_passed_on (Err d) e h = ap (λ x. some (number_of x)) h

pub lead_passed_on : (r : Result RecordHead Refusal) (e : Refusal) → IsErrAnd r (λ d. d ≡ e) → record_lead r ≡ refuse (number_of e)
lead_passed_on (Ok a) e h = absurd h
lead_passed_on (Err d) e h = ap (λ x. refuse (number_of x)) h

pub step_refused : (ws : List ℕ) (at depth : ℕ) (asked : Result ℕ ℕ) (arms : ℕ → Result ℕ ℕ) (r : Result Step Refusal) (e : Refusal) → IsErrAnd r (λ d. d ≡ e) → Err (number_of e) ≡ asked → Stepped ws at depth asked arms r
step_refused ws at depth asked arms (Ok s) e h f = absurd h
step_refused ws at depth asked arms (Err d) e h f = ap (λ x. Err (number_of x)) h ∙ f

-- What reading leaves is what stands after what was read.
abbrev pub Leaves : {A : Type 0} → (A → ℕ) → List ℕ → Parsed A → Type 0
Leaves size us q = Holds (λ a vs. drop (size a) us ≡ vs) q

pub leaves_of : {A : Type 0} (enc : A → List ℕ) (size : A → ℕ) → ((a : A) → length (enc a) ≡ size a) → (us : List ℕ) (q : Parsed A) → Holds (λ a vs. enc a ++ vs ≡ us) q → Leaves size us q
leaves_of enc size long us q h = weaker q (λ a vs e. ap (drop (size a)) (sym e) ∙ drop_at (enc a) vs (size a) (long a)) h

module _ {A C : Type 0} (size_a : A → ℕ) (size_c : C → ℕ) (words : List ℕ) (from at : ℕ) where
  -- A part was read up to `after`, and the rest is read from there.
  pub go_on : (after : ℕ) (q : Parsed A) (k : A → List ℕ → Parsed C) (r : Result ℕ ℕ) → Leaves size_a (drop from words) q → Ok after ≡ checked size_a from q →
      ((a : A) → after ≡ from + size_a a → r ≡ checked size_c at (k a (drop after words))) → r ≡ checked size_c at (next q k)
  unfolding checked
  go_on after (refuse n) k r l e f = absurd cc
  go_on after (got a vs) k r l e f =
      let ends : after ≡ from + size_a a = cc in
      let rest : drop after words ≡ vs = ap (λ n. drop n words) ends ∙ sym (drop-drop (size_a a) from words) ∙ l.it in
      f a ends ∙ ap (λ us. checked size_c at (k a us)) rest

  pub give_up : (n : ℕ) (q : Parsed A) (k : A → List ℕ → Parsed C) → Err n ≡ checked size_a from q → Err n ≡ checked size_c at (next q k)
  unfolding checked
  give_up n (refuse m) k e = e
  give_up n (got a vs) k e = absurd cc

-- The last part.
module _ {A C : Type 0} (size_a : A → ℕ) (size_c : C → ℕ) (from at : ℕ) where
  pub end_with : (f : A → C) (q : Parsed A) → ((a : A) → from + size_a a ≡ at + size_c (f a)) → checked size_a from q ≡ checked size_c at (next q (λ a vs. got (f a) vs))
  unfolding checked
  end_with f (refuse n) e = refl
  end_with f (got a vs) e = ap Ok (e a)

-- So many parts, one after the other.
module _ {A B : Type 0} (size_a : A → ℕ) (size_b : B → ℕ) (nil : B) (cons : A → B → B) (p : List ℕ → Parsed A)
    (size-nil : size_b nil ≡ 0) (size-cons : (a : A) (b : B) → size_b (cons a b) ≡ size_a a + size_b b)
    (leaves : (us : List ℕ) → Leaves size_a us (p us)) (words : List ℕ) where
  more_than_none : (count : ℕ) (us : List ℕ) → (count ≡ 0 → ⊥) → many nil cons p count us ≡ next (p us) (λ a vs. next (many nil cons p (count - 1) vs) (λ b ts. got (cons a b) ts))
  more_than_none zero us f = absurd (f refl)
  more_than_none (suc count) us f = rw sub-one

  -- The first part, and then the others.
  first_then : (at : ℕ) (q : Parsed A) (rest : List ℕ → Parsed B) → Leaves size_a (drop at words) q →
      and_then (checked size_a at q) (λ after. checked size_b after (rest (drop after words))) ≡ checked size_b at (next q (λ a vs. next (rest vs) (λ b ts. got (cons a b) ts)))
  unfolding checked
  first_then at (refuse n) rest l = refl
  first_then at (got a vs) rest l =
      ap (λ us. checked size_b (at + size_a a) (rest us)) (sym (drop-drop (size_a a) at words) ∙ l.it)
      ∙ end_with size_b size_b (at + size_a a) at (cons a) (rest vs) (λ b. omega (arith, size-cons a b))

  pub many_first : (count at : ℕ) → (count ≡ 0 → ⊥) →
      and_then (checked size_a at (p (drop at words))) (λ after. checked size_b after (many nil cons p (count - 1) (drop after words))) ≡ checked size_b at (many nil cons p count (drop at words))
  many_first count at f =
      first_then at (p (drop at words)) (many nil cons p (count - 1)) (leaves (drop at words)) ∙ ap (checked size_b at) (sym (more_than_none count (drop at words) f))

  pub many_none : (count at : ℕ) → count ≡ 0 → Ok at ≡ checked size_b at (many nil cons p count (drop at words))
  unfolding checked
  many_none count at e = rw e (ap Ok (omega (arith, size-nil)))
