-- What the loops do: every field of a table becomes a function of its fact and of what it was.
use Rattle.std.specs.Prelude.{◌≡◌, Bool, true, false, cond, not, ◌&&◌, List, [], ◌∷◌, ℕ, suc, leb, get_or, Option, Some, None}
use Rattle.std.specs.List.{list_all}
use Rattle.model.specs.Fields.{bits}
use Rattle.model.specs.Writing.{presence_field}
use Rattle.model.specs.Facts.{fact_bits}
use Rattle.model.specs.Windows.{Window, zero_bits, window_of, right_window, verdict, some_of}
use Rattle.windows.specs.declared.Ages.{Ages}
use Rattle.windows.specs.declared.Unit.{Unit}
use Rattle.windows.specs.declared.Unit.TheVariants.{Days, Years}
use Rattle.windows.specs.declared.Verdict.{Verdict}
use Rattle.windows.specs.declared.Verdict.TheVariants.{Closed, Open}
use Rattle.windows.specs.declared.Window.{Window as Listed}

-- A verdict and a unit as the flags that they are in the model.
abbrev pub is_open : Verdict → Bool
is_open Closed = false
is_open Open = true

abbrev pub are_years : Unit → Bool
are_years Days = false
are_years Years = true

-- What the field of a fact becomes by a verdict.
abbrev pub field_of : Verdict → ℕ
field_of v = presence_field (verdict (is_open v))

-- The window that is meant, the one of two words, and how the code's reads: with its zero field.
abbrev pub window_meant : Listed → Window
window_meant w = record { opens = is_open w.verdict; in_years = are_years w.unit; fact = w.fact; first = w.first; last = w.last }

abbrev pub window_in : List ℕ → Window
window_in ws = window_of (get_or ws 0 0) (get_or ws 1 0)

pub record Reads (ws : List ℕ) (w : Listed) : Type 0 where
  pub meant : window_meant w ≡ window_in ws
  pub zero_is : w.zero ≡ bits fact_bits zero_bits (get_or ws 0 0)

abbrev pub right_in : List ℕ → Bool
right_in ws = right_window (get_or ws 0 0) (get_or ws 1 0)

abbrev pub all_right : List (List ℕ) → Bool
all_right = list_all right_in

-- The age that is counted in a unit.
abbrev pub counted_in : Unit → Ages → Option ℕ
counted_in unit ages = cond (are_years unit) ages.years ages.days

-- An age as it is compared: none is above every last one.
abbrev pub or_above : Option ℕ → ℕ
or_above (Some age) = age
or_above None = 4294967296

-- Both ends are included. None stands for an age below 0, which lies in no window.
abbrev pub between : ℕ → ℕ → Option ℕ → Bool
between first last (Some age) = leb first age && leb age last
between first last None = false

abbrev pub held_by : Ages → Window → Bool
held_by ages w = between w.first w.last (cond w.in_years ages.years ages.days)

-- A window of this verdict holds the age.
abbrev pub held_as : Verdict → Ages → Window → Bool
held_as Open ages w = w.opens && held_by ages w
held_as Closed ages w = not w.opens && held_by ages w

-- The fields from fact f on, each by its fact and by what it was.
abbrev pub fields_by : (ℕ → ℕ → ℕ) → ℕ → List ℕ → List ℕ
fields_by g f [] = []
fields_by g f (q ∷ qs) = g f q ∷ fields_by g (suc f) qs

-- One value for every fact of which some window is such a one.
abbrev pub set_where : (Window → Bool) → ℕ → List Window → ℕ → ℕ → ℕ
set_where such value ws f q = cond (some_of such ws f) value q

-- One value for every named fact.
abbrev pub marked : ℕ → List Window → ℕ → ℕ → ℕ
marked value ws = set_where (λ w. true) value ws
