-- The fields of a window's words as code reads them, and a turn of each loop. Assumes nothing.
use mathlib.Core.Path.{◌≡◌, refl, sym, ◌∙◌, ap, ap₂, subst}
use mathlib.Core.Bool.{Bool, true, false, cond, not, ◌&&◌, ◌||◌, and-true, and-false}
use mathlib.Core.Option.{none}
use mathlib.Core.List.{List, [], ◌∷◌, ◌++◌, map, append_assoc, reverse}
use Prim.Native.Nat.{ℕ, zero, suc, ◌/◌, ◌%◌, ◌≤◌, ◌<◌}
use native.Mathlib.Omega.{arith}
use lib.Dec.{eqb, leb}
use borrow.Author.Tests.{le-leb, lt-leb, not-false}
use lib.ListN.{length, drop, set}
use Rattle.std.proofs.lemmas.List.{map-append, reverse-append}
use Rattle.std.specs.Borrow.{Bor}
use Rattle.model.specs.Fields.{packed}
use Rattle.model.specs.Facts.{Presence, unknown, table_bytes, table_fields}
use Rattle.model.specs.Writing.{presence_field}
use Rattle.model.specs.Windows.{Window, windows_of, right_window, right_windows, decided, becomes, named, set_fields, bad_date, bad_list, windows_fault, windowed_table, apply_windows}
use Rattle.model.specs.Calls.{refusal, wrote, unless_fault}
use Rattle.model.specs.Calendar.{Date, exists, unknown_date}
use Rattle.laws.proofs.Pairs.{pairs_are}
use Rattle.laws.proofs.WordLaws.{length_packed}
use Rattle.laws.proofs.UnpackedLaws.{fields_packed, packed_fields, length_fields}
use Rattle.laws.proofs.WindowLaws.{Judged, length_set_fields, narrow_set_fields}
use Rattle.laws.proofs.OverlapLaws.{both_exchanged}
use Rattle.std.specs.Prelude.{Ok, Option, Some, None}
use Rattle.std.specs.Simd.{first_chunks}
use Rattle.answer.specs.Answers.{Answered}
use Rattle.windows.specs.Setting.{window_in, all_right, or_above, between, held_as, fields_by, set_where, marked}
use Rattle.windows.specs.declared.Ages.{Ages}
use Rattle.windows.specs.declared.Verdict.TheVariants.{Closed, Open}
use Rattle.windows.specs.SettingLaws.{by_same, by_none, set_fields_by, ages_of, decided_fields, set_by, then_set, set_one, set_none}

-- ---- a list by the two words of each window
pub windows_are : (list : List ℕ) (ps : List (List ℕ)) → ps ≡ first_chunks 2 (length list / 2) list → map window_in ps ≡ windows_of list
windows_are = pairs_are window_in windows_of refl (λ w. refl) (λ w v list. refl)

right_pairs : (list : List ℕ) (n : ℕ) → n ≡ length list / 2 → right_windows list ≡ (eqb (length list % 2) 0 && all_right (first_chunks 2 n list))
right_pairs [] zero h = refl
right_pairs [] (suc n) h = absurd (omega arith)
right_pairs (w ∷ []) n h = refl
right_pairs (w ∷ v ∷ list) zero h = absurd (omega arith)
right_pairs (w ∷ v ∷ list) (suc n) h =
    let same : length (w ∷ v ∷ list) % 2 ≡ length list % 2 = omega arith in
    rw (same, right_pairs list n (omega arith)) (both_exchanged (right_window w v) (eqb (length list % 2) 0) (all_right (first_chunks 2 n list)))

pub long_bad : (list : List ℕ) → 64 < length list → true ≡ bad_list list
long_bad list h = sym (ap (λ b. not (right_windows list && b)) (lt-leb (length list) 64 h) ∙ ap not (and-false (right_windows list)))

module _ (list : List ℕ) (ps : List (List ℕ)) (are : ps ≡ first_chunks 2 (length list / 2) list) where
  bad_by : bad_list list ≡ not ((eqb (length list % 2) 0 && all_right ps) && leb (length list) 64)
  bad_by = ap (λ b. not (b && leb (length list) 64)) (right_pairs list (length list / 2) refl ∙ ap (λ x. eqb (length list % 2) 0 && all_right x) (sym are))

  pub odd_bad : eqb (length list % 2) 0 ≡ false → true ≡ bad_list list
  odd_bad h = sym (bad_by ∙ ap (λ b. not ((b && all_right ps) && leb (length list) 64)) h)

  pub bad_rest : eqb (length list % 2) 0 ≡ true → length list ≤ 64 → not (all_right ps) ≡ bad_list list
  bad_rest h k = sym (bad_by ∙ ap₂ (λ a b. not ((a && all_right ps) && b)) h (le-leb (length list) 64 k) ∙ ap not (and-true (all_right ps)))

-- ---- an age against the ages of a window
pub held_number : (first last : ℕ) (age : Option ℕ) → last < 4294967296 → (leb first (or_above age) && leb (or_above age) last) ≡ between first last age
held_number first last (Some n) h = refl
held_number first last None h = ap (λ b. leb first 4294967296 && b) (lt-leb 4294967296 last h) ∙ and-false (leb first 4294967296)

-- ---- a turn of a loop from the last window to the first
-- The windows that were yielded, in the list's order.
abbrev pub yielded_last : List (Bor (List ℕ)) → List (List ℕ)
yielded_last ys = reverse (map (λ y. y.now) ys)

yielded_next : (ys : List (Bor (List ℕ))) (y : Bor (List ℕ)) → yielded_last (ys ++ (y ∷ [])) ≡ y.now ∷ yielded_last ys
yielded_next ys y = ap reverse (map-append (λ y. y.now) ys (y ∷ [])) ∙ reverse-append (map (λ y. y.now) ys) (y.now ∷ [])

pub still_all : (ys : List (Bor (List ℕ))) (y : Bor (List ℕ)) (rest left all : List (List ℕ)) → rest ≡ left ++ (y.now ∷ []) → rest ++ yielded_last ys ≡ all → left ++ yielded_last (ys ++ (y ∷ [])) ≡ all
still_all ys y rest left all e h = ap (λ ps. left ++ ps) (yielded_next ys y) ∙ sym (append_assoc left (y.now ∷ []) (yielded_last ys)) ∙ ap (λ l. l ++ yielded_last ys) (sym e) ∙ h

pub none_left : (rest ps all : List (List ℕ)) → length rest ≡ 0 → rest ++ ps ≡ all → ps ≡ all
none_left [] ps all h e = e
none_left (p ∷ rest) ps all h e = absurd (omega arith)

module _ (such : Window → Bool) (value : ℕ) (fields : List ℕ) where
  -- The facts of these windows are set, where the windows are such.
  abbrev pub SetBy : List (List ℕ) → List ℕ → Type 0
  SetBy ps now = now ≡ fields_by (set_where such value (map window_in ps)) 0 fields

  pub none_set : SetBy [] fields
  none_set = sym (by_none (set_where such value []) 0 (λ f q _. refl) fields)

  module _ (ys : List (Bor (List ℕ))) (y : Bor (List ℕ)) (w : Window) (is : w ≡ window_in y.now) where
    abbrev Ws : List Window
    Ws = map window_in (yielded_last ys)

    next : w ∷ Ws ≡ map window_in (yielded_last (ys ++ (y ∷ [])))
    next = ap (λ x. x ∷ Ws) is ∙ sym (ap (map window_in) (yielded_next ys y))

    pub one_set : {now new : List ℕ} {b : Bool} → b ≡ such w → b ≡ true → SetBy (yielded_last ys) now → new ≡ set now w.fact value → SetBy (yielded_last (ys ++ (y ∷ []))) new
    one_set told so so_far turn =
        turn
        ∙ ap (λ l. set l w.fact value) so_far
        ∙ set_by (set_where such value Ws) w.fact value fields
        ∙ by_same (then_set (set_where such value Ws) w.fact value) (set_where such value (w ∷ Ws)) (set_one such value w Ws (sym told ∙ so)) 0 fields
        ∙ ap (λ l. fields_by (set_where such value l) 0 fields) next

    pub none_more : {now : List ℕ} {b : Bool} → b ≡ such w → b ≡ false → SetBy (yielded_last ys) now → SetBy (yielded_last (ys ++ (y ∷ []))) now
    none_more told not_so so_far =
        so_far
        ∙ by_same (set_where such value Ws) (set_where such value (w ∷ Ws)) (set_none such value w Ws (sym told ∙ not_so)) 0 fields
        ∙ ap (λ l. fields_by (set_where such value l) 0 fields) next

-- ---- the table that is written
-- A date that was judged and isn't unknown exists.
pub known_exists : (d : Date) → bad_date d ≡ false → unknown_date d ≡ false → exists d ≡ true
known_exists d h k = not-false (exists d) (ap (λ b. not (b || exists d)) (sym k) ∙ h)

same_table : (xs ys : List ℕ) → length xs ≡ length ys → table_fields xs ≡ table_fields ys → xs ≡ ys
same_table xs ys l e = sym (packed_fields xs) ∙ ap₂ (λ n fs. packed 2 4 n fs) l e ∙ packed_fields ys

module _ (list : List ℕ) (reading today : Date) (table : List ℕ) (j : Judged list reading today table) where
  abbrev ws : List Window
  ws = windows_of list

  abbrev says : ℕ → Presence
  says = becomes reading today ws

  abbrev new : List ℕ
  new = set_fields (named ws) says 0 (table_fields table)

  -- Each field of the table is set by its fact.
  pub finished : {after : List ℕ} (g : ℕ → ℕ → ℕ) → length after ≡ table_bytes → table_fields after ≡ fields_by g 0 (table_fields table) →
      ((f q : ℕ) → g f q ≡ cond (named ws f) (presence_field (says f)) q) → after ≡ windowed_table list reading today table
  finished {after} g long told each =
      same_table after (windowed_table list reading today table) (long ∙ sym (length_packed 2 4 table_bytes new))
      (told
      ∙ by_same g (λ f q. cond (named ws f) (presence_field (says f)) q) each 0 (table_fields table)
      ∙ sym (set_fields_by (named ws) says 0 (table_fields table))
      ∙ sym (fields_packed table_bytes new (narrow_set_fields (named ws) says 0 (table_fields table) j.faultless) (omega (arith, length_set_fields (named ws) says 0 (table_fields table), count))))
    where
      count : length (table_fields table) ≡ 1024
      count = omega (arith, length_fields table, j.long)

  -- With an unknown date the value is Unknown; with two known ones Absent first, and then what the windows say.
  pub unknown_marked : (unknown_date reading || unknown_date today) ≡ true → (f q : ℕ) → marked 2 ws f q ≡ cond (named ws f) (presence_field (says f)) q
  unknown_marked h f q = ap (λ b. cond (named ws f) (presence_field (cond b unknown (decided reading today ws f))) q) (sym h)

  -- What the loops leave, one after the other.
  pub all_loops : (ages : Ages) → ages ≡ ages_of reading today → (unknown_date reading || unknown_date today) ≡ false →
      (f q : ℕ) → set_where (held_as Closed ages) 0 ws f (set_where (held_as Open ages) 1 ws f (marked 0 ws f q)) ≡ cond (named ws f) (presence_field (says f)) q
  all_loops ages e h f q =
      ap (λ a. set_where (held_as Closed a) 0 ws f (set_where (held_as Open a) 1 ws f (marked 0 ws f q))) e
      ∙ decided_fields reading today ws f q
      ∙ ap (λ b. cond (named ws f) (presence_field (cond b unknown (decided reading today ws f))) q) (sym h)

-- ---- the answer
module _ (list : List ℕ) (reading today : Date) (table out : List ℕ) where
  module _ (e : windows_fault list reading today table ≡ none) where
    accepted : (b : Bool) → leb table_bytes (length out) ≡ b → apply_windows list reading today table (length out) ≡ cond b (wrote (windowed_table list reading today table)) (refusal 11)
    accepted b h = ap₂ (λ o c. unless_fault o (cond c (wrote (windowed_table list reading today table)) (refusal 11))) e h

    pub room_enough : {written : List ℕ} → table_bytes ≤ length out → written ≡ windowed_table list reading today table → Answered (apply_windows list reading today table (length out)) out (written ++ drop table_bytes out) (Ok table_bytes)
    room_enough {written} h w =
        let long : length (windowed_table list reading today table) ≡ table_bytes = length_packed 2 4 table_bytes (set_fields (named (windows_of list)) (becomes reading today (windows_of list)) 0 (table_fields table)) in
        subst (λ a. Answered a out (written ++ drop table_bytes out) (Ok table_bytes)) (sym (accepted true (le-leb table_bytes (length out) h)))
        (record { answer_is = ap Ok (sym long); output_is = ap₂ (λ l n. l ++ drop n out) w (sym long) })
