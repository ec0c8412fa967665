-- The parts of a node, as both forms read them, and words that have ended. Assumes nothing.
use Rattle.std.specs.Prelude.{◌≡◌, refl, Bool, true, List, [], ◌∷◌, ℕ, zero, suc, ◌/◌, ◌%◌, ◌<◌}
use Rattle.std.proofs.Common.{ap, arith}
use Rattle.std.proofs.Math.Option.{Option, none, some}
use Rattle.model.specs.Decision.{Shape, forbidden, hidden}
use Rattle.model.specs.Partial.{ReducedPolicy, resolved, pending}
use Rattle.model.specs.Writing.{shape_bit, marked, lead_kind}
use Rattle.model.specs.Reading.{Parsed, refuse, unless, another, shape_of, outcome_of, read_condition, read_policy}
use Rattle.laws.specs.Form.{IfThere, FormL}
use Rattle.laws.proofs.FieldLaws.{Holds, nothing}

-- ---- a test that passes
pub unless_is : {A : Type 0} {b : Bool} (n : ℕ) (p : Parsed A) → b ≡ true → unless b n p ≡ p
unless_is n p e = ap (λ x. unless x n p) e

-- ---- shapes, labels and reasons, kinds
pub shape_back : (s : Shape) → shape_of (shape_bit s) ≡ s
shape_back forbidden = refl
shape_back hidden = refl

pub shape_small : (s : Shape) → shape_bit s < 2
shape_small forbidden = omega arith
shape_small hidden = omega arith

pub shape_again : (n : ℕ) → n < 2 → shape_bit (shape_of n) ≡ n
shape_again zero h = refl
shape_again (suc zero) h = refl
shape_again (suc (suc n)) h = let z : ⊥ = omega arith in absurd z

pub marked_small : (l : Option ℕ) → FormL l → marked l < 65536
marked_small none f = omega arith
marked_small (some n) f = omega arith

pub kind_small : {O : Type 0} (number : O → ℕ) (b : ReducedPolicy O) → lead_kind number b < 16
kind_small number (resolved d) = omega arith
kind_small number (pending t) = omega arith

-- The obligation count is the same of the word and of its 28 bits.
pub count_of : (w : ℕ) → w / 1048576 % 128 ≡ w % 268435456 / 1048576 % 128
count_of w = omega arith

-- ---- outcomes: `value` reads one
pub both_there : {O : Type 0} (P Q : O → Type 0) (x : Option O) → IfThere P x → IfThere Q x → IfThere (λ o. P o × Q o) x
both_there P Q none p q = tt
both_there P Q (some o) p q = (p, q)

module _ {O A : Type 0} (value : ℕ → Option O) where
  pub outcome_is : {x : Option O} {o : O} (k : O → Parsed A) → x ≡ some o → outcome_of value x k ≡ k o
  outcome_is k e = ap (λ x. outcome_of value x k) e

  pub outcome_holds : {R : A → List ℕ → Type 0} (Q : O → Type 0) (x : Option O) (k : O → Parsed A) → IfThere Q x → ((o : O) → Q o → Holds R (k o)) → Holds R (outcome_of value x k)
  outcome_holds Q none k q f = nothing
  outcome_holds Q (some o) k q f = f o q

-- ---- the next word, and none
pub another_holds : {A : Type 0} {R : A → List ℕ → Type 0} (ws : List ℕ) (k : ℕ → List ℕ → Parsed A) → ((w : ℕ) (vs : List ℕ) → ws ≡ w ∷ vs → Holds R (k w vs)) → Holds R (another ws k)
another_holds [] k f = nothing
another_holds (w ∷ ws) k f = f w ws refl

pub condition_none : (depth : ℕ) → read_condition depth [] ≡ refuse 6
condition_none zero = refl
condition_none (suc depth) = refl

pub policy_none : {O : Type 0} (value : ℕ → Option O) (res : Bool) (depth : ℕ) → read_policy value res depth [] ≡ refuse 6
policy_none value res zero = refl
policy_none value res (suc depth) = refl
