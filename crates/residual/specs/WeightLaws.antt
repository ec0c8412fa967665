-- Laws of a residual's weight: where each list can be counted it is the tree's words, and of a tree that fits a record each list can.
use Rattle.std.specs.Prelude.{◌≡◌, refl, Bool, true, false, cond, ℕ, ◌+◌, ◌≤◌, ◌<◌}
use Rattle.std.proofs.Common.{ap, ap₂, arith}
use Rattle.std.proofs.lemmas.Bool.{and_parts, and_from}
use Rattle.model.specs.Policy.{Policy, permit, deny, grant, all, any, or_else, stored, Policies, pnil, pcons}
use Rattle.model.specs.Writing.{short_d, short, shorts}
use Rattle.laws.specs.Size.{words_d, words, wordss}
use Rattle.sizes.specs.Laid.{most_words, too_many}
use Rattle.residual.specs.Weight.{weight, weights}

-- ---- where each list can be counted, it is the tree's words
weight_short_at : (b : Bool) (n : ℕ) → b ≡ true → cond b n too_many ≡ n
weight_short_at b n e = rw e

mutual
  weight_short : {O : Type 0} (q : Policy O) → short q ≡ true → weight q ≡ words q
  weight_short (permit o) e = refl
  weight_short deny e = refl
  weight_short (grant g c) e = refl
  weight_short (all ts) e = ap (λ n. 1 + n) (weights_short ts e)
  weight_short (any ts) e = ap (λ n. 1 + n) (weights_short ts e)
  weight_short (or_else a b) e = ap₂ (λ n m. 1 + n + m) (weight_short a (and_parts (short a) (short b) e).0) (weight_short b (and_parts (short a) (short b) e).1)
  weight_short (stored d) e = weight_short_at (short_d d) (words_d d) e

  weights_short : {O : Type 0} (ts : Policies O) → shorts ts ≡ true → weights ts ≡ wordss ts
  weights_short pnil e = refl
  weights_short (pcons t ts) e = ap₂ (λ n m. n + m) (weight_short t (and_parts (short t) (shorts ts) e).0) (weights_short ts (and_parts (short t) (shorts ts) e).1)

-- ---- and of a tree that fits a record they can
few_at : (b : Bool) (n : ℕ) → cond b n too_many ≤ most_words → b ≡ true
few_at true n h = refl
few_at false n h = absurd (omega arith)

mutual
  weight_few : {O : Type 0} (q : Policy O) → weight q ≤ most_words → short q ≡ true
  weight_few (permit o) h = refl
  weight_few deny h = refl
  weight_few (grant g c) h = refl
  weight_few (all ts) h = weights_few ts (omega arith)
  weight_few (any ts) h = weights_few ts (omega arith)
  weight_few (or_else a b) h = and_from (short a) (short b) (weight_few a (omega arith)) (weight_few b (omega arith))
  weight_few (stored d) h = few_at (short_d d) (words_d d) h

  weights_few : {O : Type 0} (ts : Policies O) → weights ts ≤ most_words → shorts ts ≡ true
  weights_few pnil h = refl
  weights_few (pcons t ts) h = and_from (short t) (shorts ts) (weight_few t (omega arith)) (weights_few ts (omega arith))

-- What fits a record: as many words as it has, and each list can be counted.
pub weight_fits : {O : Type 0} (q : Policy O) → weight q ≤ most_words → (weight q ≡ words q) × (short q ≡ true)
weight_fits q h = (weight_short q (weight_few q h), weight_few q h)

-- What does not: it has more words, or a list in it can't be counted.
pub weight_many : {O : Type 0} (q : Policy O) → most_words < weight q → short q ≡ true → most_words < words q
weight_many q h e = omega (arith, weight_short q e)
