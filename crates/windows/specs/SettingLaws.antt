-- Fields set one by one, and all of them at once.
use Rattle.std.specs.Prelude.{◌≡◌, refl, Bool, true, false, cond, not, ◌&&◌, ◌||◌, List, [], ◌∷◌, ◌++◌, ℕ, zero, suc, ◌+◌, ◌*◌, ◌≤◌, ◌<◌, eqb, ℤ, pos, negsuc, length, drop, get_or, set}
use Rattle.std.proofs.Common.{sym, ◌∙◌, ap, ap₂, arith, eq-eqb, ne_eqb, length-drop, drop-cons}
use Rattle.std.proofs.Math.Bool.{and-true, and-false}
use Rattle.model.specs.Facts.{Presence}
use Rattle.model.specs.Writing.{presence_field}
use Rattle.model.specs.Calendar.{Date, age_in_days, age_in_years}
use Rattle.model.specs.Windows.{Window, window_of, windows_of, within, holds_age, open_holds, closed_holds, verdict, decided, some_of, named, set_fields}
use Rattle.calendar.specs.Answers.{shown}
use Rattle.windows.specs.declared.Ages.{Ages}
use Rattle.windows.specs.declared.Verdict.TheVariants.{Closed, Open}
use Rattle.windows.specs.Setting.{between, held_by, held_as, fields_by, set_where, marked}

-- ---- every field by its fact
module _ (g h : ℕ → ℕ → ℕ) where
  pub by_same : ((f q : ℕ) → g f q ≡ h f q) → (a : ℕ) (qs : List ℕ) → fields_by g a qs ≡ fields_by h a qs
  by_same e a [] = refl
  by_same e a (q ∷ qs) = ap₂ (λ x l. x ∷ l) (e a q) (by_same e (suc a) qs)

  pub by_both : (a : ℕ) (qs : List ℕ) → fields_by g a (fields_by h a qs) ≡ fields_by (λ f q. g f (h f q)) a qs
  by_both a [] = refl
  by_both a (q ∷ qs) = ap (λ l. g a (h a q) ∷ l) (by_both (suc a) qs)

module _ (g : ℕ → ℕ → ℕ) where
  pub by_none : (a : ℕ) → ((f q : ℕ) → a ≤ f → g f q ≡ q) → (qs : List ℕ) → fields_by g a qs ≡ qs
  by_none a e [] = refl
  by_none a e (q ∷ qs) = ap₂ (λ x l. x ∷ l) (e a q (omega arith)) (by_none (suc a) (λ f p k. e f p (omega arith)) qs)

  pub by_append : (a b : ℕ) (xs ys : List ℕ) → a + length xs ≡ b → fields_by g a (xs ++ ys) ≡ fields_by g a xs ++ fields_by g b ys
  by_append a b [] ys e = ap (λ n. fields_by g n ys) (let z : a ≡ b = omega arith in z)
  by_append a b (x ∷ xs) ys e = ap (λ l. g a x ∷ l) (by_append (suc a) b xs ys (omega arith))

  -- One field set after the others.
  abbrev pub then_set : ℕ → ℕ → ℕ → ℕ → ℕ
  then_set n v f q = cond (eqb f n) v (g f q)

  set_past : (n v a : ℕ) → n < a → (qs : List ℕ) → fields_by g a qs ≡ fields_by (then_set n v) a qs
  set_past n v a h [] = refl
  set_past n v a h (q ∷ qs) = ap₂ (λ x l. x ∷ l) (rw (ne_eqb a n (λ e. omega arith))) (set_past n v (suc a) (omega arith) qs)

  set_from : (n v a k : ℕ) (qs : List ℕ) → a + k ≡ n → set (fields_by g a qs) k v ≡ fields_by (then_set n v) a qs
  set_from n v a k [] e = refl
  set_from n v a zero (q ∷ qs) e = ap₂ (λ x l. x ∷ l) (rw (eq-eqb a n (omega arith))) (set_past n v (suc a) (omega arith) qs)
  set_from n v a (suc k) (q ∷ qs) e = ap₂ (λ x l. x ∷ l) (rw (ne_eqb a n (λ z. omega arith))) (set_from n v (suc a) k qs (omega arith))

  pub set_by : (n v : ℕ) (qs : List ℕ) → set (fields_by g 0 qs) n v ≡ fields_by (then_set n v) 0 qs
  set_by n v qs = set_from n v 0 n qs (omega arith)

pub set_fields_by : (is_named : ℕ → Bool) (says : ℕ → Presence) (a : ℕ) (qs : List ℕ) → set_fields is_named says a qs ≡ fields_by (λ f q. cond (is_named f) (presence_field (says f)) q) a qs
set_fields_by is_named says a [] = refl
set_fields_by is_named says a (q ∷ qs) = ap (λ l. cond (is_named a) (presence_field (says a)) q ∷ l) (set_fields_by is_named says (suc a) qs)

-- ---- the windows of a list, from the last
pub last_windows : (list : List ℕ) (i : ℕ) → length list < i * 2 + 2 → windows_of (drop (i * 2) list) ≡ []
last_windows list i h = few (drop (i * 2) list) (omega (arith, length-drop (i * 2) list))
  where
    few : (l : List ℕ) → length l < 2 → windows_of l ≡ []
    few [] k = refl
    few (w ∷ []) k = refl
    few (w ∷ v ∷ l) k = absurd (omega arith)

pub next_window : (list : List ℕ) (i : ℕ) → i * 2 + 1 < length list → windows_of (drop (i * 2) list) ≡ window_of (get_or list (i * 2) 0) (get_or list (i * 2 + 1) 0) ∷ windows_of (drop ((i + 1) * 2) list)
next_window list i h =
    ap windows_of (drop-cons list (i * 2) 0 (omega arith) ∙ ap (λ l. get_or list (i * 2) 0 ∷ l) (drop-cons list (suc (i * 2)) 0 (omega arith)))
    ∙ ap₂ (λ a b. window_of (get_or list (i * 2) 0) (get_or list a 0) ∷ windows_of (drop b list))
    (let z : suc (i * 2) ≡ i * 2 + 1 = omega arith in z) (let z : suc (suc (i * 2)) ≡ (i + 1) * 2 = omega arith in z)

-- ---- one window more
cond_or : (a b : Bool) {A : Type 0} (v q : A) → cond a v (cond b v q) ≡ cond (a || b) v q
cond_or true b v q = refl
cond_or false b v q = refl

module _ (such : Window → Bool) (value : ℕ) (w : Window) (ws : List Window) where
  pub set_one : such w ≡ true → (f q : ℕ) → then_set (set_where such value ws) w.fact value f q ≡ set_where such value (w ∷ ws) f q
  set_one h f q =
      cond_or (eqb f w.fact) (some_of such ws f) value q
      ∙ ap (λ b. cond (b || some_of such ws f) value q) (sym (and-true (eqb f w.fact)) ∙ ap (λ b. eqb f w.fact && b) (sym h))

  pub set_none : such w ≡ false → (f q : ℕ) → set_where such value ws f q ≡ set_where such value (w ∷ ws) f q
  set_none h f q = ap (λ b. cond (b || some_of such ws f) value q) (sym (and-false (eqb f w.fact)) ∙ ap (λ b. eqb f w.fact && b) (sym h))

-- ---- the rule of the model
between_is : (first last : ℕ) (z : ℤ) → between first last (shown z) ≡ within first last z
between_is first last (pos n) = refl
between_is first last (negsuc n) = refl

shown_either : (b : Bool) (x y : ℤ) → cond b (shown x) (shown y) ≡ shown (cond b x y)
shown_either true x y = refl
shown_either false x y = refl

some_same : (such also : Window → Bool) → ((w : Window) → such w ≡ also w) → (ws : List Window) (f : ℕ) → some_of such ws f ≡ some_of also ws f
some_same such also h [] f = refl
some_same such also h (w ∷ ws) f = ap₂ (λ a b. (eqb f w.fact && a) || b) (h w) (some_same such also h ws f)

-- Of a fact that isn't named no window says anything.
none_named : (such : Window → Bool) (ws : List Window) (f : ℕ) → named ws f ≡ false → some_of such ws f ≡ false
none_named such [] f h = refl
none_named such (w ∷ ws) f h = by (eqb f w.fact) h (none_named such ws f)
  where
    by : (its : Bool) → ((its && true) || named ws f) ≡ false → (named ws f ≡ false → some_of such ws f ≡ false) → ((its && such w) || some_of such ws f) ≡ false
    by true k rest = cc
    by false k rest = rest k

-- Absent for a named fact, then Present where an open window says it, then Absent where a closed one does.
in_turn : (is_named opened closed : Bool) (q : ℕ) → (is_named ≡ false → opened ≡ false) → (is_named ≡ false → closed ≡ false) → cond closed 0 (cond opened 1 (cond is_named 0 q)) ≡ cond is_named (presence_field (verdict (opened && not closed))) q
in_turn true true true q o c = refl
in_turn true true false q o c = refl
in_turn true false true q o c = refl
in_turn true false false q o c = refl
in_turn false true closed q o c = let z : true ≡ false = o refl in cc
in_turn false false true q o c = let z : true ≡ false = c refl in cc
in_turn false false false q o c = refl

module _ (reading today : Date) where
  abbrev pub ages_of : Ages
  ages_of = record { days = shown (age_in_days reading today); years = shown (age_in_years reading today) }

  held_is : (w : Window) → held_by ages_of w ≡ holds_age reading today w
  held_is w =
      ap (between w.first w.last) (shown_either w.in_years (age_in_years reading today) (age_in_days reading today))
      ∙ between_is w.first w.last (cond w.in_years (age_in_years reading today) (age_in_days reading today))

  pub decided_fields : (ws : List Window) (f q : ℕ) →
      set_where (held_as Closed ages_of) 0 ws f (set_where (held_as Open ages_of) 1 ws f (marked 0 ws f q)) ≡ cond (named ws f) (presence_field (decided reading today ws f)) q
  decided_fields ws f q =
      ap₂ (λ c o. cond c 0 (cond o 1 (marked 0 ws f q)))
      (some_same (held_as Closed ages_of) (closed_holds reading today) (λ w. ap (λ b. not w.opens && b) (held_is w)) ws f)
      (some_same (held_as Open ages_of) (open_holds reading today) (λ w. ap (λ b. w.opens && b) (held_is w)) ws f)
      ∙ in_turn (named ws f) (some_of (open_holds reading today) ws f) (some_of (closed_holds reading today) ws f) q (none_named (open_holds reading today) ws f) (none_named (closed_holds reading today) ws f)
