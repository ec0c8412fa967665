-- What is asked of an outcome table: the laws of a lattice, among its levels.
use Rattle.std.specs.Prelude.{◌≡◌, ℕ, ◌*◌, ◌≤◌, ◌<◌, length}
use Rattle.std.proofs.Math.Option.{Option}
use Rattle.model.specs.Levels.{OutcomeTable, meet_by, join_by, outcome_count}

-- The laws among the levels below n.
pub record Lattice (n : ℕ) (meet join : ℕ → ℕ → ℕ) : Type 0 where
  pub meet_stays : (a b : ℕ) → a < n → b < n → meet a b < n
  pub join_stays : (a b : ℕ) → a < n → b < n → join a b < n
  pub meet_commutes : (a b : ℕ) → a < n → b < n → meet a b ≡ meet b a
  pub join_commutes : (a b : ℕ) → a < n → b < n → join a b ≡ join b a
  pub meet_associates : (a b c : ℕ) → a < n → b < n → c < n → meet (meet a b) c ≡ meet a (meet b c)
  pub join_associates : (a b c : ℕ) → a < n → b < n → c < n → join (join a b) c ≡ join a (join b c)
  pub meet_absorbs : (a b : ℕ) → a < n → b < n → meet a (join a b) ≡ a
  pub join_absorbs : (a b : ℕ) → a < n → b < n → join a (meet a b) ≡ a

-- The count, the length and the laws: what acceptance says, and no more.
pub record Good (t : OutcomeTable) : Type 0 where
  pub some_levels : 1 ≤ t.levels
  pub few_levels : t.levels ≤ 16
  pub long : length t.bytes ≡ 2 * (t.levels * t.levels)
  pub laws : Lattice t.levels (meet_by t) (join_by t)

-- The outcomes that there are: levels, or sets of products.
abbrev pub InTable : Option OutcomeTable → ℕ → Type 0
InTable g o = o < outcome_count g
