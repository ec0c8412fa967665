-- What the theory asks of outcomes. Sets of products are such outcomes (`ProductLaws`).
use Rattle.std.specs.Prelude.{◌≡◌, true, ℕ, ◌^◌, ◌<◌}
use Rattle.std.proofs.Math.Option.{some}
use Rattle.model.specs.Outcome.{Outcomes, outcome_bits}
use Rattle.laws.specs.Form.{IfThere}

-- What the theory asks of outcomes: a sound test for equality, and a meet and a join that are commutative and associative.
-- (A lattice's other laws, idempotence and absorption, are not used.)
pub record Lawful (L : Outcomes) : Type 0 where
  pub same_sound : (a b : L.O) → L.same a b ≡ true → a ≡ b
  pub meet_comm : (a b : L.O) → L.meet a b ≡ L.meet b a
  pub join_comm : (a b : L.O) → L.join a b ≡ L.join b a
  pub meet_assoc : (a b c : L.O) → L.meet (L.meet a b) c ≡ L.meet a (L.meet b c)
  pub join_assoc : (a b c : L.O) → L.join (L.join a b) c ≡ L.join a (L.join b c)

-- What writing and reading ask of them: those with G fit 16 bits and are read back, what is read has G, and meet and join keep G;
-- a number that is read is that of its outcome.
pub record Written (L : Outcomes) (G : L.O → Type 0) : Type 0 where
  pub meets : (a b : L.O) → G a → G b → G (L.meet a b)
  pub joins : (a b : L.O) → G a → G b → G (L.join a b)
  pub small : (o : L.O) → G o → L.number o < 2 ^ outcome_bits
  pub again : (o : L.O) → G o → L.value (L.number o) ≡ some o
  pub sound : (n : ℕ) → IfThere G (L.value n)
  pub only : (n : ℕ) → IfThere (λ o. L.number o ≡ n) (L.value n)

-- The products that there are.
abbrev pub InRange : ℕ → Type 0
InRange o = o < 2 ^ outcome_bits
