-- Sets of products are outcomes whose meet and join do not care for order or grouping. What a list permits is the union,
-- or the intersection, of what its permits permit, from no product or from all sixteen on.
use Rattle.std.specs.Prelude.{◌≡◌, refl, Bool, true, false, cond, ℕ, zero, suc, ◌+◌, ◌*◌, ◌/◌, ◌%◌, ◌^◌, ◌≤◌, ◌<◌, max, ltb}
use Rattle.std.proofs.Common.{sym, ◌∙◌, ap, ap₂, arith, eqb-true, lt-ltb, ltb-true}
use Rattle.std.proofs.Math.Option.{none, some}
use Rattle.std.specs.Int.Bits.{bit_or, or_step, or_zero_l, and_lt}
use Rattle.std.proofs.lemmas.Nat.{and_comm, and_assoc, or_comm, or_lt}
use Rattle.model.specs.Outcome.{outcome_bits, below, product_sets}
use Rattle.laws.specs.Form.{IfThere}
use Rattle.laws.specs.Products.{Lawful, Written, InRange}

or_half : (a b : ℕ) → bit_or a b / 2 ≡ bit_or (a / 2) (b / 2)
or_half a b = omega (arith, or_step a b)

or_odd : (a b : ℕ) → bit_or a b % 2 ≡ max (a % 2) (b % 2)
or_odd a b = omega (arith, or_step a b)

or_assoc_up : (a b c : ℕ) → bit_or (bit_or (a / 2) (b / 2)) (c / 2) ≡ bit_or (a / 2) (bit_or (b / 2) (c / 2)) → bit_or (bit_or a b) c ≡ bit_or a (bit_or b c)
or_assoc_up a b c h =
    or_step (bit_or a b) c
    ∙ ap₂ (λ x y. bit_or x (c / 2) * 2 + max y (c % 2)) (or_half a b) (or_odd a b)
    ∙ omega arith
    ∙ sym (ap₂ (λ x y. bit_or (a / 2) x * 2 + max (a % 2) y) (or_half b c) (or_odd b c))
    ∙ sym (or_step a (bit_or b c))

or_assoc_to : (n a b c : ℕ) → a ≤ n → bit_or (bit_or a b) c ≡ bit_or a (bit_or b c)
or_assoc_to zero a b c h =
    let e : a ≡ 0 = omega arith in
    ap (λ x. bit_or (bit_or x b) c) e ∙ ap (λ x. bit_or x c) (or_zero_l b) ∙ sym (or_zero_l (bit_or b c)) ∙ sym (ap (λ x. bit_or x (bit_or b c)) e)
or_assoc_to (suc n) a b c h = or_assoc_up a b c (or_assoc_to n (a / 2) (b / 2) (c / 2) (omega arith))

pub lawful_products : Lawful product_sets
lawful_products = record {
  same_sound = eqb-true;
  meet_comm = and_comm;
  join_comm = or_comm;
  meet_assoc = λ a b c. and_assoc c a b;
  join_assoc = λ a b c. or_assoc_to a a b c (omega arith);
}

pub below_again : (n o : ℕ) → o < n → below n o ≡ some o
below_again n o h = ap (λ b. cond b (some o) none) (lt-ltb o n h)

pub below_at : (n o : ℕ) (Q : ℕ → Type 0) (b : Bool) → (b ≡ true → Q o) → IfThere Q (cond b (some o) none)
below_at n o Q true q = q refl
below_at n o Q false q = tt

pub written_products : Written product_sets InRange
written_products = record {
  meets = λ a b h k. and_lt outcome_bits a b h k;
  joins = λ a b h k. or_lt outcome_bits a b h k;
  small = λ o h. h;
  again = λ o h. below_again (2 ^ outcome_bits) o h;
  sound = λ n. below_at (2 ^ outcome_bits) n InRange (ltb n (2 ^ outcome_bits)) (λ e. ltb-true n (2 ^ outcome_bits) e);
  only = λ n. below_at (2 ^ outcome_bits) n (λ o. o ≡ n) (ltb n (2 ^ outcome_bits)) (λ _. refl);
}
