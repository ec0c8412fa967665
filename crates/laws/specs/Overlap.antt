-- Request 12: a list of windows in another order, and what the rule between windows of one fact was before.
use Rattle.std.specs.Prelude.{◌≡◌, Bool, true, false, cond, not, ◌&&◌, ◌||◌, List, [], ◌∷◌, ℕ, zero, suc, ◌<◌, eqb, leb, get_or}
use Rattle.model.specs.Fields.{packed}
use Rattle.model.specs.Facts.{Presence, absent, present, unknown, fact_count, table_bytes, table_fields}
use Rattle.model.specs.Writing.{presence_field}
use Rattle.model.specs.Calls.{Answer, refusal, wrote, unless_fault}
use Rattle.model.specs.Calendar.{Date, unknown_date}
use Rattle.model.specs.Windows.{Window, windows_of, verdict, holds_age, closed_holds, some_of, named, set_fields, windows_fault}

-- ---- order
-- The windows at places n and n + 1 of a list of words change places: two words each, from an even word on. A list that is too short stays.
abbrev pub swap_at : ℕ → List ℕ → List ℕ
swap_at zero [] = []
swap_at zero (a ∷ []) = a ∷ []
swap_at zero (a ∷ b ∷ []) = a ∷ b ∷ []
swap_at zero (a ∷ b ∷ c ∷ []) = a ∷ b ∷ c ∷ []
swap_at zero (a ∷ b ∷ c ∷ d ∷ rest) = c ∷ d ∷ a ∷ b ∷ rest
swap_at (suc n) [] = []
swap_at (suc n) (a ∷ []) = a ∷ []
swap_at (suc n) (a ∷ b ∷ rest) = a ∷ b ∷ swap_at n rest

-- Neighbours swapped any number of times, at these places.
abbrev pub reordered : List ℕ → List ℕ → List ℕ
reordered [] list = list
reordered (n ∷ ns) list = swap_at n (reordered ns list)

-- ---- the former rule
module _ (reading today : Date) where
  -- The first listed window of the fact that holds the age decides; Absent if none does.
  abbrev pub first_listed : List Window → ℕ → Presence
  first_listed [] f = absent
  first_listed (w ∷ ws) f = cond (eqb f w.fact && holds_age reading today w) (verdict w.opens) (first_listed ws f)

  -- The first window of the fact that holds the age is open, and a later one that holds it is closed.
  abbrev pub overruled : List Window → ℕ → Bool
  overruled [] f = false
  overruled (w ∷ ws) f = cond (eqb f w.fact && holds_age reading today w) (w.opens && some_of (closed_holds reading today) ws f) (overruled ws f)

  abbrev pub is_unknown : Bool
  is_unknown = unknown_date reading || unknown_date today

  -- Which facts become something else than before: with an unknown date none.
  abbrev pub changes : List Window → ℕ → Bool
  changes ws f = not is_unknown && overruled ws f

  abbrev pub formerly : List Window → ℕ → Presence
  formerly ws f = cond is_unknown unknown (first_listed ws f)

abbrev pub former_table : List ℕ → Date → Date → List ℕ → List ℕ
former_table list reading today table = packed 2 4 table_bytes (set_fields (named (windows_of list)) (formerly reading today (windows_of list)) 0 (table_fields table))

abbrev pub former_windows : List ℕ → Date → Date → List ℕ → ℕ → Answer
former_windows list reading today table room =
    unless_fault (windows_fault list reading today table)
    (cond (leb table_bytes room) (wrote (former_table list reading today table)) (refusal 11))

-- ---- what changes
-- Where it does Present has become Absent, elsewhere the field is the same.
abbrev pub FieldChanges : Bool → ℕ → ℕ → Type 0
FieldChanges true was is = (was ≡ presence_field present) × (is ≡ presence_field absent)
FieldChanges false was is = is ≡ was

-- A refusal stays; in a table that is written the fields of these facts change, and no other.
abbrev pub Changes : (ℕ → Bool) → Answer → Answer → Type 0
Changes which (refusal n) (refusal m) = m ≡ n
Changes which (refusal n) (wrote bytes) = ⊥
Changes which (wrote before) (refusal m) = ⊥
Changes which (wrote before) (wrote after) = (f : ℕ) → f < fact_count → FieldChanges (which f) (get_or (table_fields before) f 0) (get_or (table_fields after) f 0)
