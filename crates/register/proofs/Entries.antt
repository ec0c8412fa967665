-- The entries by their two words or from a word on, a turn of each loop over them, and a register's length. Assumes nothing.
use mathlib.Core.Path.{◌≡◌, refl, sym, ◌∙◌, ap}
use mathlib.Core.Bool.{Bool, true, not, ◌&&◌, ◌||◌, or_assoc}
use mathlib.Core.List.{List, [], ◌∷◌, map}
use Prim.Native.Nat.{ℕ, zero, suc, ◌+◌, ◌/◌, ◌%◌, ◌≤◌, ◌<◌}
use native.Mathlib.Omega.{arith}
use lib.Dec.{eqb, leb}
use lib.ListN.{length, drop, get_or}
use lib.Seq.{drop-cons}
use borrow.Author.Tests.{leb-true}
use Rattle.std.specs.Simd.{first_chunks}
use Rattle.std.proofs.lemmas.Bool.{and_parts}
use Rattle.model.specs.Register.{Entry, entry_of, entries_of, same_sheet, is_among, faultless, register_words, is_register}
use Rattle.laws.proofs.Pairs.{pairs_are}
use Rattle.register.specs.Answers.{entry_in}

-- ---- an odd word at the end is no entry
pub entries_are : (ws : List ℕ) (ps : List (List ℕ)) → ps ≡ first_chunks 2 (length ws / 2) ws → map entry_in ps ≡ entries_of ws
entries_are = pairs_are entry_in entries_of refl (λ w. refl) (λ w d ws. refl)

-- ---- a register has few words
pub few : (ws : List ℕ) → is_register ws ≡ true → length ws ≤ register_words
few ws h = leb-true (length ws) register_words (and_parts (eqb (length ws % 2) 0) (leb (length ws) register_words) (and_parts (eqb (length ws % 2) 0 && leb (length ws) register_words) (faultless (entries_of ws)) h).0).1

-- ---- the one whose words stand there and those after it, or none
next_entry : (ws : List ℕ) (i : ℕ) → i + 1 < length ws → entries_of (drop i ws) ≡ entry_of (get_or ws i 0) (get_or ws (i + 1) 0) ∷ entries_of (drop (i + 2) ws)
next_entry ws i h =
    let one : suc i ≡ i + 1 = omega arith in
    let two : suc (suc i) ≡ i + 2 = omega arith in
    let second : drop (suc i) ws ≡ get_or ws (suc i) 0 ∷ drop (suc (suc i)) ws = drop-cons ws (suc i) 0 (omega arith) in
    ap entries_of (drop-cons ws i 0 (omega arith) ∙ ap (λ l. get_or ws i 0 ∷ l) second)
    ∙ ap (λ j. entry_of (get_or ws i 0) (get_or ws j 0) ∷ entries_of (drop (suc (suc i)) ws)) one
    ∙ ap (λ j. entry_of (get_or ws i 0) (get_or ws (i + 1) 0) ∷ entries_of (drop j ws)) two

pub no_entry_lem : (ws : List ℕ) (i : ℕ) → length ws ≤ i + 1 → entries_of (drop i ws) ≡ []
no_entry_lem [] zero h = refl
no_entry_lem [] (suc i) h = refl
no_entry_lem (w ∷ []) zero h = refl
no_entry_lem (w ∷ d ∷ ws) zero h = absurd (omega arith)
no_entry_lem (w ∷ ws) (suc i) h = no_entry_lem ws i (omega arith)

-- ---- a turn of each loop, at the entry `a` whose words stand there
module _ (ws : List ℕ) (i : ℕ) (a : Entry) (h : i + 1 < length ws) (k : a ≡ entry_of (get_or ws i 0) (get_or ws (i + 1) 0)) where
  left : entries_of (drop i ws) ≡ a ∷ entries_of (drop (i + 2) ws)
  left = next_entry ws i h ∙ ap (λ e. e ∷ entries_of (drop (i + 2) ws)) (sym k)

  pub among_next :
      (e : Entry) (met same : Bool) → same ≡ same_sheet a e →
      (met || is_among e (entries_of (drop i ws))) ≡ ((met || same) || is_among e (entries_of (drop (i + 2) ws)))
  among_next e met same s = ap (λ es. met || is_among e es) left ∙ rw (s, or_assoc)

  pub faultless_next :
      (zeros repeated : Bool) → eqb a.zero 0 ≡ zeros → is_among a (entries_of (drop (i + 2) ws)) ≡ repeated →
      faultless (entries_of (drop i ws)) ≡ (zeros && not repeated && faultless (entries_of (drop (i + 2) ws)))
  faultless_next zeros repeated z r = ap faultless left ∙ rw (z, r)
