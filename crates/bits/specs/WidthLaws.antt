-- The widths, case by case.
use Rattle.std.specs.Prelude.{◌≡◌, refl, ℕ, zero, suc, ◌≤◌, ◌<◌}
use Rattle.std.proofs.Common.{sym, ap, arith, lt-ltb, le-ltb, eq-eqb, ne_eqb}
use Rattle.model.specs.Fields.{bits}
use Rattle.bits.specs.Widths.{plain_width, mark_width, denied_width}

-- By the kind.
pub plain_by : (kind k : ℕ) → kind ≡ k → plain_width k ≡ plain_width kind
plain_by kind k e = ap plain_width (sym e)

pub plain_none : (kind : ℕ) → (kind ≡ 2 → ⊥) → (kind ≡ 4 → ⊥) → (kind ≡ 5 → ⊥) → (kind ≡ 6 → ⊥) → (kind ≡ 9 → ⊥) → (kind ≡ 10 → ⊥) → 0 ≡ plain_width kind
unfolding plain_width
plain_none zero a b c d e f = refl
plain_none (suc zero) a b c d e f = refl
plain_none (suc (suc zero)) a b c d e f = absurd (a refl)
plain_none (suc (suc (suc zero))) a b c d e f = refl
plain_none (suc (suc (suc (suc zero)))) a b c d e f = absurd (b refl)
plain_none (suc (suc (suc (suc (suc zero))))) a b c d e f = absurd (c refl)
plain_none (suc (suc (suc (suc (suc (suc zero)))))) a b c d e f = absurd (d refl)
plain_none (suc (suc (suc (suc (suc (suc (suc zero))))))) a b c d e f = refl
plain_none (suc (suc (suc (suc (suc (suc (suc (suc zero)))))))) a b c d e f = refl
plain_none (suc (suc (suc (suc (suc (suc (suc (suc (suc zero))))))))) a b c d e f = absurd (e refl)
plain_none (suc (suc (suc (suc (suc (suc (suc (suc (suc (suc zero)))))))))) a b c d e f = absurd (f refl)
plain_none (suc (suc (suc (suc (suc (suc (suc (suc (suc (suc (suc n))))))))))) a b c d e f = refl

pub plain_few : (kind : ℕ) → plain_width kind ≤ 16
unfolding plain_width
plain_few kind = grind arith

pub mark_absent : (half : ℕ) → half < 32768 → 1 ≡ mark_width half
unfolding mark_width
mark_absent half h = rw (lt-ltb half 32768 h)

pub mark_there : (half : ℕ) → 32768 ≤ half → 16 ≡ mark_width half
unfolding mark_width
mark_there half h = rw (le-ltb half 32768 h)

pub mark_few : (half : ℕ) → mark_width half ≤ 16
unfolding mark_width
mark_few half = grind arith

pub denied_there : (word : ℕ) → bits 26 1 word ≡ 1 → 16 ≡ denied_width word
unfolding denied_width
denied_there word h = rw (eq-eqb (bits 26 1 word) 1 h)

pub denied_absent : (word : ℕ) → (bits 26 1 word ≡ 1 → ⊥) → 0 ≡ denied_width word
unfolding denied_width
denied_absent word h = rw (ne_eqb (bits 26 1 word) 1 h)

pub denied_few : (word : ℕ) → denied_width word ≤ 16
unfolding denied_width
denied_few word = grind arith
