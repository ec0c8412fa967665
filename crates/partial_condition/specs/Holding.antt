-- The pending arms that a list rule holds in the output while it walks: one stands by itself, since it may be all that is left; more stand behind a
-- word that is free for the list's lead. Behind a single arm a word is free too, so that it can be moved up by one.
use Rattle.std.specs.Prelude.{◌≡◌, Bool, true, false, not, List, ◌∷◌, ◌++◌, ℕ, ◌+◌, ◌≤◌, ◌<◌, length, take, drop, set}
use Rattle.model.specs.Condition.{Conditions, cnil, ccons}
use Rattle.model.specs.Partial.{through}
use Rattle.model.specs.Writing.{word, count_c, encode_c, encode_cs}
use Rattle.laws.specs.Size.{words_c, words_cs}
use Rattle.sizes.specs.Laid.{too_many, capped, Laid}
use Rattle.partial_condition.specs.declared.Reduced.{Reduced}
use Rattle.partial_condition.specs.declared.Reduced.TheVariants.{Known, Pending}
use Rattle.partial_condition.specs.declared.Kept.{Kept}
use Rattle.partial_condition.specs.Reducing.{size_of, Left, end_of}

abbrev pub kept_of : ℕ → ℕ → ℕ → Kept
kept_of count first used = record { count = count; first = first; used = used }

-- 4 All, 5 Any.
abbrev pub list_kind : Bool → ℕ
list_kind false = 4
list_kind true = 5

-- Words laid behind a free one.
pub record Behind (n : ℕ) (ws out : List ℕ) (r : ℕ) : Type 0 where
  pub free : ℕ
  pub laid : Laid (1 + n) (free ∷ ws) out r

-- These arms are held.
abbrev pub Holding : Conditions → List ℕ → Kept → Type 0
Holding cnil out h = (h.count ≡ 0) × (h.used ≡ 0)
Holding (ccons c cnil) out h = (h.count ≡ 1) × (h.used ≡ capped (h.first + 1)) × Laid (words_c c) (encode_c c) out h.first
Holding (ccons c (ccons d cs)) out h = (h.count ≡ count_c (ccons c (ccons d cs))) × Behind (words_cs (ccons c (ccons d cs))) (encode_cs (ccons c (ccons d cs))) out h.used

-- The first k words were moved up by one, if there is room.
pub record MovedUp (k : ℕ) (before after : List ℕ) : Type 0 where
  pub long : length after ≡ length before
  pub up : k < length before → after ≡ take 1 before ++ (take k before ++ drop (k + 1) before)

-- One arm more is held, of size n, which stands behind what was held.
pub record Keeps (h : Kept) (n : ℕ) (before : List ℕ) (g : Kept) (after : List ℕ) : Type 0 where
  pub few : g.count ≤ h.count + 1
  pub first_most : g.first ≤ too_many
  pub used_most : g.used ≤ too_many
  pub first_held : h.count ≡ 0 → (g ≡ kept_of 1 n (capped (n + 1))) × (after ≡ before)
  pub second_held : h.count ≡ 1 → (g ≡ kept_of (h.count + 1) h.first (capped (h.used + n))) × MovedUp h.first before after
  pub more_held : 2 ≤ h.count → (g ≡ kept_of (h.count + 1) h.first (capped (h.used + n))) × (after ≡ before)

-- Not flips a known condition, and its word goes before what is left of another.
pub record Negates (inner : Reduced) (before : List ℕ) (r : Reduced) (after : List ℕ) : Type 0 where
  pub bound : size_of r ≤ too_many
  pub flips : (b : Bool) → inner ≡ Known b → r ≡ Known (not b)
  pub wraps : (n : ℕ) → inner ≡ Pending n → (r ≡ Pending (capped (1 + n))) × (after ≡ set before 0 (word 3 0))

-- The answer of a list rule that no arm decided, by the arms that it holds.
pub record Ends (stop : Bool) (h : Kept) (before : List ℕ) (r : Reduced) (after : List ℕ) : Type 0 where
  pub bound : size_of r ≤ too_many
  pub ends : (cs : Conditions) → Holding cs before h → Left (end_of stop (through cs)) r after
