-- Retention windows: which numbers a refusal has, what each fact's field is afterwards, and that a reading after today leaves every named fact Absent.
use Rattle.std.specs.Prelude.{◌≡◌, refl, Bool, true, false, cond, not, ◌&&◌, ◌||◌, List, [], ◌∷◌, ℕ, zero, suc, ◌+◌, ◌<◌, eqb, leb, length, get_or, ℤ, pos, negsuc}
use Rattle.std.proofs.Common.{sym, ◌∙◌, ap, ap₂, arith, eqb-true, le-leb}
use Rattle.std.proofs.Math.Bool.{and-false}
use Rattle.std.proofs.Math.Option.{Option, none, some}
use Rattle.std.proofs.lemmas.Bool.{not-false}
use Rattle.std.specs.Int.Signed.{le_z}
use Rattle.model.specs.Fields.{packed}
use Rattle.model.specs.Facts.{Presence, absent, unknown, fact_count, table_bytes, partial_facts, table_fields, field_fault, or_fault, first_fault}
use Rattle.model.specs.Writing.{presence_field}
use Rattle.model.specs.Calls.{Answer, refusal, wrote, unless_fault}
use Rattle.model.specs.Calendar.{Date, exists, unknown_date, before, age_in_days, age_in_years}
use Rattle.model.specs.Windows.{Window, windows_of, within, open_holds, closed_holds, some_of, verdict, decided, becomes, named, set_fields, fault_if, bad_date, bad_list, windows_fault, windowed_table, apply_windows}
use Rattle.laws.specs.FieldAt.{Narrow}
use Rattle.laws.proofs.WordLaws.{length_packed}
use Rattle.laws.proofs.FieldAtLaws.{presence_few}
use Rattle.laws.proofs.UnpackedLaws.{fields_packed, length_fields}
use Rattle.laws.proofs.CalendarLaws.{real, ahead}

-- ---- refusals: 3, 11, 12 and 13 alone, and 256 bytes where there is none
abbrev pub of_windows : ℕ → Bool
of_windows n = eqb n 3 || (eqb n 11 || (eqb n 12 || eqb n 13))

abbrev pub WindowsTold : Answer → Type 0
WindowsTold (refusal n) = of_windows n ≡ true
WindowsTold (wrote bytes) = length bytes ≡ table_bytes

abbrev FaultTold : Option ℕ → Type 0
FaultTold none = Unit {0}
FaultTold (some n) = of_windows n ≡ true

or_told : (a b : Option ℕ) → FaultTold a → FaultTold b → FaultTold (or_fault a b)
or_told none b h g = g
or_told (some n) b h g = h

if_told : (b : Bool) (n : ℕ) → of_windows n ≡ true → FaultTold (fault_if b n)
if_told true n h = h
if_told false n h = tt

field_told : (q : ℕ) → FaultTold (field_fault partial_facts q)
field_told zero = tt
field_told (suc zero) = tt
field_told (suc (suc zero)) = tt
field_told (suc (suc (suc q))) = refl

table_told : (qs : List ℕ) → FaultTold (first_fault partial_facts qs)
table_told [] = tt
table_told (q ∷ qs) = or_told (field_fault partial_facts q) (first_fault partial_facts qs) (field_told q) (table_told qs)

pub windows_told : (list : List ℕ) (reading today : Date) (table : List ℕ) (room : ℕ) → WindowsTold (apply_windows list reading today table room)
windows_told list reading today table room = by (windows_fault list reading today table) fault (leb table_bytes room)
  where
    fault : FaultTold (windows_fault list reading today table)
    fault =
        or_told (fault_if (bad_date reading || bad_date today) 12) _ (if_told (bad_date reading || bad_date today) 12 refl)
        (or_told (fault_if (bad_list list || not (eqb (length table) table_bytes)) 13) _ (if_told (bad_list list || not (eqb (length table) table_bytes)) 13 refl) (table_told (table_fields table)))

    by : (o : Option ℕ) → FaultTold o → (b : Bool) → WindowsTold (unless_fault o (cond b (wrote (windowed_table list reading today table)) (refusal 11)))
    by none h true = length_packed 2 4 table_bytes (set_fields (named (windows_of list)) (becomes reading today (windows_of list)) 0 (table_fields table))
    by none h false = refl
    by (some n) h b = h

-- ---- what each field is afterwards
no_fault_lem : (a b : Option ℕ) → or_fault a b ≡ none → (a ≡ none) × (b ≡ none)
no_fault_lem none b h = (refl, h)
no_fault_lem (some n) b h = (h, cc)

neither : (a b : Bool) (n : ℕ) → fault_if (a || b) n ≡ none → (a ≡ false) × (b ≡ false)
neither true b n h = (cc, cc)
neither false true n h = (cc, cc)
neither false false n h = (refl, refl)

-- What a call that is turned back for nothing but its room was given.
pub record Judged (list : List ℕ) (reading today : Date) (table : List ℕ) : Type 0 where
  pub right_reading : bad_date reading ≡ false
  pub right_today : bad_date today ≡ false
  pub long : length table ≡ table_bytes
  pub faultless : first_fault partial_facts (table_fields table) ≡ none

pub judged : (list : List ℕ) (reading today : Date) (table : List ℕ) → windows_fault list reading today table ≡ none → Judged list reading today table
judged list reading today table h =
    let a = no_fault_lem (fault_if (bad_date reading || bad_date today) 12) _ h in
    let b = no_fault_lem (fault_if (bad_list list || not (eqb (length table) table_bytes)) 13) _ a.1 in
    let dates = neither (bad_date reading) (bad_date today) 12 a.0 in
    let rest = neither (bad_list list) (not (eqb (length table) table_bytes)) 13 b.0 in
    record {
      right_reading = dates.0;
      right_today = dates.1;
      long = eqb-true (length table) table_bytes (not-false (eqb (length table) table_bytes) rest.1);
      faultless = b.1;
    }

accepted : (list : List ℕ) (reading today : Date) (table : List ℕ) (room : ℕ) (bytes : List ℕ) → apply_windows list reading today table room ≡ wrote bytes → (windows_fault list reading today table ≡ none) × (bytes ≡ windowed_table list reading today table)
accepted list reading today table room bytes e = by (windows_fault list reading today table) refl (leb table_bytes room) e
  where
    by : (o : Option ℕ) → windows_fault list reading today table ≡ o → (b : Bool) → unless_fault o (cond b (wrote (windowed_table list reading today table)) (refusal 11)) ≡ wrote bytes → (windows_fault list reading today table ≡ none) × (bytes ≡ windowed_table list reading today table)
    by (some n) f b h = let z : ◌≡◌ {A = ℕ} 0 1 = cc in absurd (omega arith)
    by none f false h = let z : ◌≡◌ {A = ℕ} 0 1 = cc in absurd (omega arith)
    by none f true h = (f, cc)

few_field : (q : ℕ) → field_fault partial_facts q ≡ none → q < 4
few_field zero h = omega arith
few_field (suc zero) h = omega arith
few_field (suc (suc zero)) h = omega arith
few_field (suc (suc (suc q))) h = let z : ◌≡◌ {A = ℕ} 0 1 = cc in absurd (omega arith)

module _ (is_named : ℕ → Bool) (says : ℕ → Presence) where
  pub length_set_fields : (f : ℕ) (qs : List ℕ) → length (set_fields is_named says f qs) ≡ length qs
  length_set_fields f [] = refl
  length_set_fields f (q ∷ qs) = ap suc (length_set_fields (suc f) qs)

  narrow_one : (b : Bool) (p : Presence) (q : ℕ) → q < 4 → cond b (presence_field p) q < 4
  narrow_one true p q h = omega (arith, presence_few p)
  narrow_one false p q h = h

  pub narrow_set_fields : (f : ℕ) (qs : List ℕ) → first_fault partial_facts qs ≡ none → Narrow 2 (set_fields is_named says f qs)
  narrow_set_fields f [] h = tt
  narrow_set_fields f (q ∷ qs) h =
      let k = no_fault_lem (field_fault partial_facts q) _ h in
      (narrow_one (is_named f) (says f) q (few_field q k.0), narrow_set_fields (suc f) qs k.1)

  set_fields_at : (f : ℕ) (qs : List ℕ) (k g : ℕ) → f + k ≡ g → k < length qs → get_or (set_fields is_named says f qs) k 0 ≡ cond (is_named g) (presence_field (says g)) (get_or qs k 0)
  set_fields_at f [] k g e h = absurd (omega arith)
  set_fields_at f (q ∷ qs) zero g e h = ap (λ n. cond (is_named n) (presence_field (says n)) q) (let z : f ≡ g = omega arith in z)
  set_fields_at f (q ∷ qs) (suc k) g e h = set_fields_at (suc f) qs k g (omega arith) (omega arith)

  -- In the table that is written each named fact has the field of what is said of it, every other fact the table's.
  pub field_written : {list : List ℕ} {reading today : Date} {table : List ℕ} → Judged list reading today table → (f : ℕ) → f < fact_count →
      get_or (table_fields (packed 2 4 table_bytes (set_fields is_named says 0 (table_fields table)))) f 0 ≡ cond (is_named f) (presence_field (says f)) (get_or (table_fields table) f 0)
  field_written {list} {reading} {today} {table} judge f h =
      let long = length_fields table in
      let all = length_set_fields 0 (table_fields table) in
      ap (λ l. get_or l f 0) (fields_packed table_bytes (set_fields is_named says 0 (table_fields table)) (narrow_set_fields 0 (table_fields table) judge.faultless) (omega (arith, judge.long)))
      ∙ set_fields_at 0 (table_fields table) f f (omega arith) (omega (arith, judge.long))

pub set_fields_same : {one_named two_named : ℕ → Bool} {one two : ℕ → Presence} → ((f : ℕ) → one_named f ≡ two_named f) → ((f : ℕ) → one f ≡ two f) → (f : ℕ) (qs : List ℕ) → set_fields one_named one f qs ≡ set_fields two_named two f qs
set_fields_same n s f [] = refl
set_fields_same n s f (q ∷ qs) = ap₂ (λ x l. x ∷ l) (ap₂ (λ b p. cond b (presence_field p) q) (n f) (s f)) (set_fields_same n s (suc f) qs)

module _ (list : List ℕ) (reading today : Date) (table : List ℕ) (room : ℕ) (bytes : List ℕ) (e : apply_windows list reading today table room ≡ wrote bytes) where
  abbrev ws : List Window
  ws = windows_of list

  -- A named fact has the field of what it becomes, every other fact the table's.
  pub field_afterwards : (f : ℕ) → f < fact_count → get_or (table_fields bytes) f 0 ≡ cond (named ws f) (presence_field (becomes reading today ws f)) (get_or (table_fields table) f 0)
  field_afterwards f h =
      let a = accepted list reading today table room bytes e in
      ap (λ l. get_or (table_fields l) f 0) a.1 ∙ field_written (named ws) (becomes reading today ws) (judged list reading today table a.0) f h

  pub keeps : (f : ℕ) → f < fact_count → named ws f ≡ false → get_or (table_fields bytes) f 0 ≡ get_or (table_fields table) f 0
  keeps f h n = field_afterwards f h ∙ ap (λ b. cond b (presence_field (becomes reading today ws f)) (get_or (table_fields table) f 0)) n

-- ---- a negative age lies in no window
pub negative_in_none : (first last : ℕ) (z : ℤ) → le_z (pos 0) z ≡ false → within first last z ≡ false
negative_in_none first last (pos n) h = let z : true ≡ false = sym (le-leb 0 n (omega arith)) ∙ h in cc
negative_in_none first last (negsuc n) h = refl

known : (d : Date) → exists d ≡ true → unknown_date d ≡ false
known d h = by (eqb d.year 0) refl
  where
    by : (b : Bool) → eqb d.year 0 ≡ b → (b && eqb d.month 0 && eqb d.day 0) ≡ false
    by true e = absurd (omega (arith, eqb-true d.year 0 e, (real d h).from_first))
    by false e = refl

-- So the facts that a list names are Absent for a reading after today.
module _ (reading today : Date) (r : exists reading ≡ true) (t : exists today ≡ true) (later : before today reading ≡ true) where
  none_holds : (w : Window) (b : Bool) → within w.first w.last (cond b (age_in_years reading today) (age_in_days reading today)) ≡ false
  none_holds w true = negative_in_none w.first w.last (age_in_years reading today) (ahead reading today (real reading r) (real today t) later).1
  none_holds w false = negative_in_none w.first w.last (age_in_days reading today) (ahead reading today (real reading r) (real today t) later).0

  none_of : (such : Window → Bool) → ((w : Window) → such w ≡ false) → (ws : List Window) (f : ℕ) → some_of such ws f ≡ false
  none_of such h [] f = refl
  none_of such h (w ∷ ws) f = ap₂ (λ a b. a || b) (ap (λ b. eqb f w.fact && b) (h w) ∙ and-false (eqb f w.fact)) (none_of such h ws f)

  pub ahead_is_absent : (ws : List Window) (f : ℕ) → decided reading today ws f ≡ absent
  ahead_is_absent ws f =
      ap (λ b. verdict (b && not (some_of (closed_holds reading today) ws f)))
      (none_of (open_holds reading today) (λ w. ap (λ b. w.opens && b) (none_holds w w.in_years) ∙ and-false w.opens) ws f)

  -- Neither date is unknown, so this is what each of them becomes ..
  becomes_absent : (ws : List Window) (f : ℕ) → becomes reading today ws f ≡ absent
  becomes_absent ws f = ap₂ (λ u v. cond (u || v) unknown (decided reading today ws f)) (known reading r) (known today t) ∙ ahead_is_absent ws f

  -- .. and is in the table afterwards.
  pub ahead_afterwards :
      (list table : List ℕ) (room : ℕ) (bytes : List ℕ) → apply_windows list reading today table room ≡ wrote bytes →
      (f : ℕ) → f < fact_count → named (windows_of list) f ≡ true → get_or (table_fields bytes) f 0 ≡ presence_field absent
  ahead_afterwards list table room bytes e f h n =
      field_afterwards list reading today table room bytes e f h
      ∙ ap₂ (λ b p. cond b (presence_field p) (get_or (table_fields table) f 0)) n (becomes_absent (windows_of list) f)
