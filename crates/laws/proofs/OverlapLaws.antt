-- Request 12: the order of windows doesn't matter, and what the rule changed.
use Rattle.std.specs.Prelude.{◌≡◌, refl, Bool, true, false, cond, not, ◌&&◌, ◌||◌, List, [], ◌∷◌, ℕ, zero, suc, ◌*◌, ◌<◌, eqb, leb, length, get_or}
use Rattle.std.proofs.Common.{sym, ◌∙◌, ap, ap₂, subst}
use Rattle.std.proofs.Math.Option.{Option, none, some}
use Rattle.model.specs.Fields.{packed}
use Rattle.model.specs.Facts.{Presence, absent, present, unknown, fact_count, table_bytes, partial_facts, table_fields, or_fault, first_fault}
use Rattle.model.specs.Writing.{presence_field}
use Rattle.model.specs.Calls.{refusal, wrote, unless_fault}
use Rattle.model.specs.Calendar.{Date, unknown_date}
use Rattle.model.specs.Windows.{Window, window_of, windows_of, right_window, right_windows, most_windows, verdict, holds_age, open_holds, closed_holds, some_of, decided, becomes, named, fault_if, bad_date, bad_list, windows_fault, windowed_table, apply_windows}
use Rattle.laws.proofs.InForceLaws.{either_exchanged}
use Rattle.laws.proofs.WindowLaws.{Judged, judged, set_fields_same, field_written}
use Rattle.laws.specs.Overlap.{swap_at, reordered, first_listed, overruled, changes, formerly, former_table, former_windows, FieldChanges, Changes}

-- ---- two neighbours change places
length_swapped : (n : ℕ) (list : List ℕ) → length (swap_at n list) ≡ length list
length_swapped zero [] = refl
length_swapped zero (a ∷ []) = refl
length_swapped zero (a ∷ b ∷ []) = refl
length_swapped zero (a ∷ b ∷ c ∷ []) = refl
length_swapped zero (a ∷ b ∷ c ∷ d ∷ rest) = refl
length_swapped (suc n) [] = refl
length_swapped (suc n) (a ∷ []) = refl
length_swapped (suc n) (a ∷ b ∷ rest) = ap (λ m. suc (suc m)) (length_swapped n rest)

pub both_exchanged : (a b c : Bool) → (a && (b && c)) ≡ (b && (a && c))
both_exchanged true b c = refl
both_exchanged false true c = refl
both_exchanged false false c = refl

right_swapped : (n : ℕ) (list : List ℕ) → right_windows (swap_at n list) ≡ right_windows list
right_swapped zero [] = refl
right_swapped zero (a ∷ []) = refl
right_swapped zero (a ∷ b ∷ []) = refl
right_swapped zero (a ∷ b ∷ c ∷ []) = refl
right_swapped zero (a ∷ b ∷ c ∷ d ∷ rest) = both_exchanged (right_window c d) (right_window a b) (right_windows rest)
right_swapped (suc n) [] = refl
right_swapped (suc n) (a ∷ []) = refl
right_swapped (suc n) (a ∷ b ∷ rest) = ap (λ x. right_window a b && x) (right_swapped n rest)

bad_swapped : (n : ℕ) (list : List ℕ) → bad_list (swap_at n list) ≡ bad_list list
bad_swapped n list = ap₂ (λ r m. not (r && leb m (2 * most_windows))) (right_swapped n list) (length_swapped n list)

module _ (such : Window → Bool) (f : ℕ) where
  abbrev one : ℕ → ℕ → Bool
  one lead ages = eqb f (window_of lead ages).fact && such (window_of lead ages)

  some_swapped : (n : ℕ) (list : List ℕ) → some_of such (windows_of (swap_at n list)) f ≡ some_of such (windows_of list) f
  some_swapped zero [] = refl
  some_swapped zero (a ∷ []) = refl
  some_swapped zero (a ∷ b ∷ []) = refl
  some_swapped zero (a ∷ b ∷ c ∷ []) = refl
  some_swapped zero (a ∷ b ∷ c ∷ d ∷ rest) = either_exchanged (one c d) (one a b) (some_of such (windows_of rest) f)
  some_swapped (suc n) [] = refl
  some_swapped (suc n) (a ∷ []) = refl
  some_swapped (suc n) (a ∷ b ∷ rest) = ap (λ x. one a b || x) (some_swapped n rest)

module _ (reading today : Date) (table : List ℕ) (room : ℕ) where
  becomes_swapped : (n : ℕ) (list : List ℕ) (f : ℕ) → becomes reading today (windows_of (swap_at n list)) f ≡ becomes reading today (windows_of list) f
  becomes_swapped n list f =
      ap₂ (λ o c. cond (unknown_date reading || unknown_date today) unknown (verdict (o && not c)))
      (some_swapped (open_holds reading today) f n list) (some_swapped (closed_holds reading today) f n list)

  swapped : (n : ℕ) (list : List ℕ) → apply_windows (swap_at n list) reading today table room ≡ apply_windows list reading today table room
  swapped n list =
      ap₂ (λ bad fields.
      unless_fault
      (or_fault (fault_if (bad_date reading || bad_date today) 12)
      (or_fault (fault_if (bad || not (eqb (length table) table_bytes)) 13) (first_fault partial_facts (table_fields table))))
      (cond (leb table_bytes room) (wrote (packed 2 4 table_bytes fields)) (refusal 11)))
      (bad_swapped n list)
      (set_fields_same (λ f. some_swapped (λ w. true) f n list) (becomes_swapped n list) 0 (table_fields table))

  -- The order of the windows doesn't matter, for a refusal neither.
  pub any_order : (places list : List ℕ) → apply_windows (reordered places list) reading today table room ≡ apply_windows list reading today table room
  any_order [] list = refl
  any_order (n ∷ places) list = swapped n (reordered places list) ∙ any_order places list

-- ---- what the rule changed
abbrev RuleChanges : Bool → Presence → Presence → Type 0
RuleChanges true was is = (was ≡ present) × (is ≡ absent)
RuleChanges false was is = is ≡ was

-- One window more: is it the fact's, does it hold the age, is it open; and what the rest says of open and of closed windows.
one_more : (its holds opens rest_open rest_closed over : Bool) (was : Presence) → RuleChanges over was (verdict (rest_open && not rest_closed)) →
    RuleChanges (cond (its && holds) (opens && rest_closed) over) (cond (its && holds) (verdict opens) was) (verdict (((its && (opens && holds)) || rest_open) && not ((its && (not opens && holds)) || rest_closed)))
one_more false holds opens rest_open rest_closed over was k = k
one_more true false true rest_open rest_closed over was k = k
one_more true false false rest_open rest_closed over was k = k
one_more true true true rest_open true over was k = (refl, refl)
one_more true true true rest_open false over was k = refl
one_more true true false true rest_closed over was k = refl
one_more true true false false rest_closed over was k = refl

module _ (reading today : Date) (f : ℕ) where
  rule_changes : (ws : List Window) → RuleChanges (overruled reading today ws f) (first_listed reading today ws f) (decided reading today ws f)
  rule_changes [] = refl
  rule_changes (w ∷ ws) =
      one_more (eqb f w.fact) (holds_age reading today w) w.opens
      (some_of (open_holds reading today) ws f) (some_of (closed_holds reading today) ws f)
      (overruled reading today ws f) (first_listed reading today ws f) (rule_changes ws)

  -- A fact that no window names isn't overruled.
  not_overruled : (ws : List Window) → named ws f ≡ false → overruled reading today ws f ≡ false
  not_overruled [] h = refl
  not_overruled (w ∷ ws) h = by (eqb f w.fact) h (not_overruled ws)
    where
      by : (its : Bool) → ((its && true) || named ws f) ≡ false → (named ws f ≡ false → overruled reading today ws f ≡ false) →
          cond (its && holds_age reading today w) (w.opens && some_of (closed_holds reading today) ws f) (overruled reading today ws f) ≡ false
      by true k rest = cc
      by false k rest = rest k

-- A field before and after: is the fact named, is a date unknown.
field_changes : (is_named is_unknown over : Bool) (was is : Presence) (q : ℕ) → RuleChanges over was is → (is_named ≡ false → over ≡ false) →
    FieldChanges (not is_unknown && over) (cond is_named (presence_field (cond is_unknown unknown was)) q) (cond is_named (presence_field (cond is_unknown unknown is)) q)
field_changes true true over was is q k n = refl
field_changes false true over was is q k n = refl
field_changes true false true was is q k n = (ap presence_field k.0, ap presence_field k.1)
field_changes true false false was is q k n = ap presence_field k
field_changes false false true was is q k n = let z : true ≡ false = n refl in (cc, cc)
field_changes false false false was is q k n = refl

-- A fact's field differs exactly if the first window of it that holds the age is open and a later one that holds it is closed.
module _ (list : List ℕ) (reading today : Date) (table : List ℕ) where
  abbrev ws : List Window
  ws = windows_of list

  written_changes : Judged list reading today table → (f : ℕ) → f < fact_count → FieldChanges (changes reading today ws f) (get_or (table_fields (former_table list reading today table)) f 0) (get_or (table_fields (windowed_table list reading today table)) f 0)
  written_changes judge f h =
      subst (λ was. FieldChanges (changes reading today ws f) was (get_or (table_fields (windowed_table list reading today table)) f 0)) (sym (field_written (named ws) (formerly reading today ws) judge f h))
      (subst (λ is. FieldChanges (changes reading today ws f) (cond (named ws f) (presence_field (formerly reading today ws f)) (get_or (table_fields table) f 0)) is) (sym (field_written (named ws) (becomes reading today ws) judge f h))
      (field_changes (named ws f) (unknown_date reading || unknown_date today) (overruled reading today ws f) (first_listed reading today ws f) (decided reading today ws f) (get_or (table_fields table) f 0) (rule_changes reading today f ws) (not_overruled reading today f ws)))

  pub what_changes : (room : ℕ) → Changes (changes reading today ws) (former_windows list reading today table room) (apply_windows list reading today table room)
  what_changes room = by (windows_fault list reading today table) refl (leb table_bytes room)
    where
      by : (o : Option ℕ) → windows_fault list reading today table ≡ o → (b : Bool) →
          Changes (changes reading today ws) (unless_fault o (cond b (wrote (former_table list reading today table)) (refusal 11))) (unless_fault o (cond b (wrote (windowed_table list reading today table)) (refusal 11)))
      by (some n) e b = refl
      by none e false = refl
      by none e true = written_changes (judged list reading today table e)

-- ---- the former rule worked through, and where it is overruled
abbrev today : Date
today = record { year = 2026; month = 11; day = 15 }

abbrev was : List ℕ → Date → Presence → Bool → Bool
was list reading p true = eqb (presence_field (first_listed reading today (windows_of list) 6)) (presence_field p) && overruled reading today (windows_of list) 6
was list reading p false = eqb (presence_field (first_listed reading today (windows_of list) 6)) (presence_field p) && not (overruled reading today (windows_of list) 6)

abbrev fortnight : Date
fortnight = record { year = 2026; month = 11; day = 1 }

abbrev summer : Date
summer = record { year = 2025; month = 6; day = 1 }

pub former_rows :
    (was (0x80000006 ∷ 0x0000005A ∷ 0x00000006 ∷ 0x000A0014 ∷ []) fortnight present true
    && was (0x00000006 ∷ 0x000A0014 ∷ 0x80000006 ∷ 0x0000005A ∷ []) fortnight absent false
    && was (0x80000006 ∷ 0x0000005A ∷ 0x00000006 ∷ 0x005B0064 ∷ []) fortnight present false
    && was (0xC0000006 ∷ 0x00000009 ∷ 0x00000006 ∷ 0x016D02DA ∷ []) summer present true
    && was (0x80000006 ∷ 0x0000005A ∷ 0x80000006 ∷ 0x0005001E ∷ 0x00000006 ∷ 0x000E000E ∷ []) fortnight present true)
    ≡ true
former_rows = refl
