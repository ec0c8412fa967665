-- What the functions over decisions and their obligations answer, before and after being the buffer's bytes at entry and at exit.
use Rattle.std.specs.Prelude.{◌≡◌, true, Option, List, [], ◌∷◌, ◌++◌, ℕ, ◌^◌, ◌≤◌, take, drop}
use Rattle.std.specs.Int.Bits.{bit_or}
use Rattle.model.specs.Facts.{Table}
use Rattle.model.specs.Decision.{Permit, union_obligations}
use Rattle.model.specs.Writing.{most_held}
use Rattle.model.specs.Products.{Outcome}
use Rattle.model.specs.Reading.{obligation_count}
use Rattle.laws.specs.Lists.{Below}
use Rattle.decision.specs.Room.{obligation_room, list_room, Few}
use Rattle.decision.specs.declared.Decision.{Decision}
use Rattle.decision.specs.Nodes.{obligations_at}
use Rattle.decision.specs.Meaning.{obligations_in, Appended, permit_of, Names, Sound}

-- The obligations of the node that is named stand at the front.
pub record Loaded (words : List ℕ) (named : Option ℕ) (out : List ℕ) (r : ℕ) : Type 0 where
  pub few : r ≤ most_held
  pub front : Names words named → take r out ≡ obligations_at words named

-- A decision's obligations stand at the front.
pub record Held (words : List ℕ) (d : Decision) (buf out : List ℕ) (r : ℕ) : Type 0 where
  pub few : r ≤ list_room
  pub front : Names words d.obligations → take r out ≡ obligations_in words buf d

-- ---- masks
-- A list of numbers as a mask, one bit each, with those that a mask had before.
abbrev pub mask_from : ℕ → List ℕ → ℕ
mask_from m [] = m
mask_from m (x ∷ xs) = mask_from (bit_or m (2 ^ x)) xs

pub record Masked (m : ℕ) (os : List ℕ) (r : ℕ) : Type 0 where
  pub is : Below obligation_count os → r ≡ mask_from m os

-- A decision has no obligations, whatever its buffer holds.
pub record Unobliged (words : List ℕ) (d : Decision) : Type 0 where
  pub none : Names words d.obligations → (buf : List ℕ) → obligations_in words buf d ≡ []

-- Those of a second decision, its buffer from the second room on, were appended to those of the first.
pub record Both (words : List ℕ) (sofar incoming : Decision) (before after : List ℕ) (r : ℕ) : Type 0 where
  pub few : r ≤ obligation_room
  pub united : Sound words before sofar → Sound words (drop obligation_room before) incoming →
      obligations_at words sofar.obligations ++ take r after ≡ union_obligations (obligations_in words before sofar) (obligations_in words (drop obligation_room before) incoming)
  pub appended : Sound words before sofar → Sound words (drop obligation_room before) incoming → Appended (take r after)

-- The incoming decision, its bytes from the second room on brought to the front.
pub record Kept (incoming : Decision) (before after : List ℕ) (r : Decision) : Type 0 where
  pub same : r ≡ incoming
  pub front : take incoming.united after ≡ take incoming.united (drop obligation_room before)

-- A permit so far, its buffer at the front, and an incoming one, its buffer from the second room on, come to r, its buffer at the front.
pub record Folded (fold : Permit Outcome → Permit Outcome → Permit Outcome) (words before after : List ℕ) (sofar incoming r : Decision) : Type 0 where
  pub few : Few r
  pub permit : sofar.permit ≡ true → incoming.permit ≡ true → r.permit ≡ true
  pub sound : Sound words before sofar → Sound words (drop obligation_room before) incoming → Sound words after r
  pub folded : Sound words before sofar → Sound words (drop obligation_room before) incoming → (T : Table) → permit_of words T after r ≡ fold (permit_of words T before sofar) (permit_of words T (drop obligation_room before) incoming)
