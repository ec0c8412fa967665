-- What is judged, and a call by what was judged. Assumes nothing.
use mathlib.Core.Path.{◌≡◌, refl, sym, ◌∙◌, ap, subst}
use mathlib.Core.Bool.{Bool, true, false, ◌&&◌, and-eq-true_iff}
use mathlib.Core.Option.{Option, none, some}
use mathlib.Core.List.{List}
use Prim.Native.Nat.{ℕ, ◌≤◌}
use borrow.Author.Tests.{leb-true}
use lib.Dec.{leb}
use Rattle.model.specs.Reading.{Parsed, refuse, got}
use Rattle.model.specs.Calls as model
use Rattle.std.specs.Prelude.{Ok, Err, IsErrAnd}
use Rattle.refusal.specs.declared.Refusal.{Refusal}
use Rattle.answer.specs.Answers.{Answer, Answered}
use Rattle.calls.specs.Judged.{judged, of_number}

-- ---- words of the right number, and others
pub right_number : {A : Type 0} (b : Bool) (q : Parsed A) → b ≡ true → q ≡ of_number b q
right_number b (refuse n) e = refl
right_number b (got x vs) e = rw e

number_got : {A : Type 0} (b : Bool) (q : Parsed A) (x : A) (vs : List ℕ) → of_number b q ≡ got x vs → (b ≡ true) × (q ≡ got x vs)
number_got b (refuse n) x vs e = cc
number_got true (got y us) x vs e = (refl, e)
number_got false (got y us) x vs e = cc

-- ---- what was judged fine
module _ {A : Type 0} (long : Bool) (fault : Option ℕ) (right : Bool) (q : Parsed A) where
  pub judged_got : (x : A) (vs : List ℕ) → judged long fault (of_number right q) ≡ got x vs → (long ≡ true) × (right ≡ true) × (q ≡ got x vs)
  judged_got x vs = by long fault
    where
      by : (b : Bool) (o : Option ℕ) → judged b o (of_number right q) ≡ got x vs → (b ≡ true) × (right ≡ true) × (q ≡ got x vs)
      by true none e = let read = number_got right q x vs e in (refl, read.0, read.1)
      by true (some m) e = cc
      by false o e = cc

  -- A call answers what was judged.
  pub by_judged : (k : A → model.Answer) (p : Parsed A) → judged long fault (of_number right q) ≡ p → {before after : List ℕ} {r : Answer} → Answered (model.on_read p k) before after r →
      Answered (model.unless_long long (model.unless_fault fault (model.on_read q (λ x. model.unless_other right (k x))))) before after r
  by_judged k p e {before} {after} {r} h = subst (λ x. Answered x before after r) (sym (ap (λ x. model.on_read x k) e) ∙ same long fault) h
    where
      same_number : (b : Bool) (p : Parsed A) → model.on_read (of_number b p) k ≡ model.on_read p (λ x. model.unless_other b (k x))
      same_number b (refuse n) = refl
      same_number true (got x vs) = refl
      same_number false (got x vs) = refl

      same : (b : Bool) (o : Option ℕ) → model.on_read (judged b o (of_number right q)) k ≡ model.unless_long b (model.unless_fault o (model.on_read q (λ x. model.unless_other right (k x))))
      same true none = same_number right q
      same true (some m) = refl
      same false o = refl

pub few_words_lem : (n most : ℕ) → (leb 1 n && leb n most) ≡ true → n ≤ most
few_words_lem n most e = leb-true n most ((and-eq-true_iff (leb 1 n) (leb n most)).0 e).1

-- A refusal is passed on as it is.
pub passed_on : {a : model.Answer} {before after : List ℕ} (r : Answer) (cause : Refusal) → IsErrAnd r (λ e. e ≡ cause) → Answered a before after (Err cause) → Answered a before after r
passed_on (Ok n) cause h k = absurd h
passed_on {a} {before} {after} (Err e) cause h k = subst (λ x. Answered a before after (Err x)) (sym h) k
