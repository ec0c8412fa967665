-- The sheets handed over, and a turn of each loop over them. Assumes nothing.
use mathlib.Core.Path.{◌≡◌, refl, ◌∙◌, ap}
use mathlib.Core.Bool.{Bool, true, false, cond}
use mathlib.Core.Option.{Option, none, some}
use mathlib.Core.List.{List, [], ◌∷◌}
use Prim.Native.Nat.{ℕ, zero, suc, ◌/◌, ◌%◌, ◌^◌, ◌≤◌}
use native.Mathlib.Omega.{arith}
use lib.Dec.{leb}
use lib.ListN.{length, take, drop, length-drop}
use borrow.Author.Tests.{le-leb, ne_eqb}
use Rattle.model.specs.Writing.{sheet_bits}
use Rattle.model.specs.Batch.{Handed, and_then, handed_by, handed_over, sheet_of}
use Rattle.std.specs.Prelude.{Option as Maybe}
use Rattle.std.specs.Borrow.{Bor}
use Rattle.batch.specs.Answers.{handed, is_whole, whole_by, whole_sheets, found_of, Finds}

-- ---- no list has more sheets than words
by_any : (n m : ℕ) (ws : List ℕ) → length ws ≤ n → length ws ≤ m → handed_by n ws ≡ handed_by m ws
by_any zero zero [] h k = refl
by_any zero (suc m) [] h k = refl
by_any (suc n) zero [] h k = refl
by_any (suc n) (suc m) [] h k = refl
by_any zero m (w ∷ ws) h k = absurd (omega arith)
by_any (suc n) zero (w ∷ ws) h k = absurd (omega arith)
by_any (suc n) (suc m) (w ∷ ws) h k =
    let c = w % 2 ^ sheet_bits in
    ap (λ o. cond (leb c (length ws)) (and_then (handed (w / 2 ^ sheet_bits) (take c ws)) o) none)
    (by_any n m (drop c ws) (omega (arith, length-drop c ws)) (omega (arith, length-drop c ws)))

whole_by_any : (n m : ℕ) (ws : List ℕ) → length ws ≤ n → length ws ≤ m → whole_by n ws ≡ whole_by m ws
whole_by_any zero zero ws h k = refl
whole_by_any zero (suc m) [] h k = refl
whole_by_any (suc n) zero [] h k = refl
whole_by_any (suc n) (suc m) [] h k = refl
whole_by_any zero (suc m) (w ∷ ws) h k = absurd (omega arith)
whole_by_any (suc n) zero (w ∷ ws) h k = absurd (omega arith)
whole_by_any (suc n) (suc m) (w ∷ ws) h k =
    let c = w % 2 ^ sheet_bits in
    ap (λ hs. cond (leb c (length ws)) (handed (w / 2 ^ sheet_bits) (take c ws) ∷ hs) [])
    (whole_by_any n m (drop c ws) (omega (arith, length-drop c ws)) (omega (arith, length-drop c ws)))

-- ---- the sheet whose lead stands first and those after it
module _ (lead : ℕ) (ws : List ℕ) where
  abbrev Count : ℕ
  Count = lead % 2 ^ sheet_bits

  abbrev First : Handed
  First = handed (lead / 2 ^ sheet_bits) (take Count ws)

  module _ (h : Count ≤ length ws) where
    few : length (drop Count ws) ≤ length ws
    few = omega (arith, length-drop Count ws)

    pub next_sheet : handed_over (lead ∷ ws) ≡ and_then First (handed_over (drop Count ws))
    next_sheet = ap (λ b. cond b (and_then First (handed_by (length ws) (drop Count ws))) none) (le-leb Count (length ws) h) ∙ ap (and_then First) (by_any (length ws) (length (drop Count ws)) (drop Count ws) few (omega arith))

    pub next_whole : whole_sheets (lead ∷ ws) ≡ First ∷ whole_sheets (drop Count ws)
    next_whole = ap (λ b. cond b (First ∷ whole_by (length ws) (drop Count ws)) []) (le-leb Count (length ws) h) ∙ ap (λ hs. First ∷ hs) (whole_by_any (length ws) (length (drop Count ws)) (drop Count ws) few (omega arith))

-- ---- whether the list is whole
pub whole_after : (h : Handed) (o : Option (List Handed)) → is_whole (and_then h o) ≡ is_whole o
whole_after h none = refl
whole_after h (some hs) = refl

-- Of a list that is whole all sheets are.
all_whole : (n : ℕ) (ws : List ℕ) (hs : List Handed) → handed_by n ws ≡ some hs → whole_by n ws ≡ hs
all_whole zero [] hs e = cc
all_whole zero (w ∷ ws) hs e = cc
all_whole (suc n) [] hs e = cc
all_whole (suc n) (w ∷ ws) hs e =
    by (leb (w % 2 ^ sheet_bits) (length ws)) (handed_by n (drop (w % 2 ^ sheet_bits) ws)) (all_whole n (drop (w % 2 ^ sheet_bits) ws)) e
  where
    first : Handed
    first = handed (w / 2 ^ sheet_bits) (take (w % 2 ^ sheet_bits) ws)

    by : {ks : List Handed} (b : Bool) (o : Option (List Handed)) → ((js : List Handed) → o ≡ some js → ks ≡ js) → cond b (and_then first o) none ≡ some hs → cond b (first ∷ ks) [] ≡ hs
    by true none f k = cc
    by true (some js) f k = let all : first ∷ js ≡ hs = cc in ap (λ l. first ∷ l) (f js refl) ∙ all
    by false o f k = cc

pub found : {sheets : List ℕ} {number : ℕ} {r : Maybe (Bor (List ℕ))} → Finds sheets number r → (hs : List Handed) → handed_over sheets ≡ some hs → found_of number r ≡ sheet_of number hs
found {sheets} {number} f hs e = f.finds ∙ ap (sheet_of number) (all_whole (length sheets) sheets hs e)

-- ---- the first of a number
pub sought_later : (number : ℕ) (h : Handed) (hs : List Handed) → (h.number ≡ number → ⊥) → sheet_of number (h ∷ hs) ≡ sheet_of number hs
sought_later number h hs ne = ap (λ b. cond b (some h) (sheet_of number hs)) (ne_eqb h.number number ne)
