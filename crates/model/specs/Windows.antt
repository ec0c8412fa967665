-- Retention windows: facts set by age. Request 1; the rule between windows of one fact is request 12's.
use Rattle.std.specs.Prelude.{Bool, true, false, cond, not, ◌&&◌, ◌||◌, List, [], ◌∷◌, ℕ, suc, ◌*◌, eqb, leb, length, ℤ, pos, negsuc}
use Rattle.std.proofs.Math.Option.{Option, none, some}
use Rattle.model.specs.Fields.{bits, packed}
use Rattle.model.specs.Facts.{Presence, absent, present, unknown, fact_bits, partial_facts, table_fields, table_bytes, or_fault, first_fault}
use Rattle.model.specs.Writing.{presence_field}
use Rattle.model.specs.Calls.{Answer, refusal, wrote, unless_fault}
use Rattle.model.specs.Calendar.{Date, exists, unknown_date, age_in_days, age_in_years}

-- ---- a window: two words
pub record Window : Type 0 where
  pub opens : Bool
  pub in_years : Bool
  pub fact : ℕ
  pub first : ℕ
  pub last : ℕ

abbrev pub age_bits : ℕ
age_bits = 16

abbrev pub zero_bits : ℕ
zero_bits = 20

-- Verdict (1; 0 closed, 1 open), unit (1; 0 days, 1 completed years), zero (20), fact (10); first and last age (16 each).
abbrev pub window_of : ℕ → ℕ → Window
window_of lead ages = record { opens = eqb (bits 31 1 lead) 1; in_years = eqb (bits 30 1 lead) 1; fact = bits 0 fact_bits lead; first = bits age_bits age_bits ages; last = bits 0 age_bits ages }

abbrev pub windows_of : List ℕ → List Window
windows_of [] = []
windows_of (w ∷ []) = []
windows_of (w ∷ v ∷ rest) = window_of w v ∷ windows_of rest

-- The zero field is 0, and the first age isn't above the last.
abbrev pub right_window : ℕ → ℕ → Bool
right_window lead ages = eqb (bits fact_bits zero_bits lead) 0 && leb (bits age_bits age_bits ages) (bits 0 age_bits ages)

-- An even number of words, and each window is right.
abbrev pub right_windows : List ℕ → Bool
right_windows [] = true
right_windows (w ∷ []) = false
right_windows (w ∷ v ∷ rest) = right_window w v && right_windows rest

abbrev pub most_windows : ℕ
most_windows = 32

-- ---- what a fact becomes
-- Some window of a fact is such a one.
abbrev pub some_of : (Window → Bool) → List Window → ℕ → Bool
some_of such [] f = false
some_of such (w ∷ ws) f = (eqb f w.fact && such w) || some_of such ws f

abbrev pub named : List Window → ℕ → Bool
named ws = some_of (λ w. true) ws

-- Both ends are included. A negative age lies in no window.
abbrev pub within : ℕ → ℕ → ℤ → Bool
within first last (pos n) = leb first n && leb n last
within first last (negsuc n) = false

abbrev pub verdict : Bool → Presence
verdict true = present
verdict false = absent

module _ (reading today : Date) where
  -- A window holds the age, taken in its own unit.
  abbrev pub holds_age : Window → Bool
  holds_age w = within w.first w.last (cond w.in_years (age_in_years reading today) (age_in_days reading today))

  abbrev pub open_holds : Window → Bool
  open_holds w = w.opens && holds_age w

  abbrev pub closed_holds : Window → Bool
  closed_holds w = not w.opens && holds_age w

  -- The rule between the windows of one fact: Present if some open one holds the age and no closed one does, else Absent. Request 12.
  abbrev pub decided : List Window → ℕ → Presence
  decided ws f = verdict (some_of open_holds ws f && not (some_of closed_holds ws f))

  -- What a named fact becomes: Unknown if either date is.
  abbrev pub becomes : List Window → ℕ → Presence
  becomes ws f = cond (unknown_date reading || unknown_date today) unknown (decided ws f)

-- The fields from fact f on: a named fact has what it becomes, every other fact keeps its field.
abbrev pub set_fields : (ℕ → Bool) → (ℕ → Presence) → ℕ → List ℕ → List ℕ
set_fields is_named says f [] = []
set_fields is_named says f (q ∷ qs) = cond (is_named f) (presence_field (says f)) q ∷ set_fields is_named says (suc f) qs

-- ---- the call
abbrev pub fault_if : Bool → ℕ → Option ℕ
fault_if true n = some n
fault_if false n = none

abbrev pub bad_date : Date → Bool
bad_date d = not (unknown_date d || exists d)

abbrev pub bad_list : List ℕ → Bool
bad_list list = not (right_windows list && leb (length list) (2 * most_windows))

-- 12 for a date, then 13 for the list or a table that isn't 256 bytes, then 3 for a field; whether or not anything depends on them.
abbrev pub windows_fault : List ℕ → Date → Date → List ℕ → Option ℕ
windows_fault list reading today table =
    or_fault (fault_if (bad_date reading || bad_date today) 12)
    (or_fault (fault_if (bad_list list || not (eqb (length table) table_bytes)) 13)
    (first_fault partial_facts (table_fields table)))

-- The table's 256 bytes with the named facts set; 11 for an output that is shorter.
abbrev pub windowed_table : List ℕ → Date → Date → List ℕ → List ℕ
windowed_table list reading today table = packed 2 4 table_bytes (set_fields (named (windows_of list)) (becomes reading today (windows_of list)) 0 (table_fields table))

abbrev pub apply_windows : List ℕ → Date → Date → List ℕ → ℕ → Answer
apply_windows list reading today table room =
    unless_fault (windows_fault list reading today table)
    (cond (leb table_bytes room) (wrote (windowed_table list reading today table)) (refusal 11))
