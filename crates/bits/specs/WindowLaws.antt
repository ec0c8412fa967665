-- A field of a run of bits, seen through four bytes, with 0 bits past the end.
use Rattle.std.specs.Prelude.{◌≡◌, refl, List, [], ◌∷◌, ◌++◌, ℕ, zero, suc, ◌+◌, ◌-◌, ◌*◌, ◌/◌, ◌%◌, ◌^◌, ◌≤◌, ◌<◌, drop, get_or, replicate}
use Rattle.std.proofs.Common.{sym, ◌∙◌, ap, subst, append_assoc, append-nil, mod-lt, arith, pow_pos, shr_lt, shl_exact, drop_at, drop-drop}
use Rattle.std.proofs.Math.Pow.{field}
use Rattle.std.proofs.Math.Seq.{drop-nil}
use Rattle.model.specs.Fields.{split, joined}
use Rattle.model.specs.Bits.{bits_of, run_of}
use Rattle.laws.proofs.BitLaws.{joined_front, joined_bits, length_bits_lem}
use Rattle.bits.specs.RunLaws.{bits_parted, bits_none, run_drop, run_split, run_append}

-- Four bytes as one number, 0 past the end; and that they are bytes.
abbrev pub window : List ℕ → ℕ
window cs = get_or cs 0 0 * 16777216 + get_or cs 1 0 * 65536 + get_or cs 2 0 * 256 + get_or cs 3 0

abbrev pub Bytes4 : List ℕ → Type 0
Bytes4 cs = (get_or cs 0 0 < 256) × (get_or cs 1 0 < 256) × (get_or cs 2 0 < 256) × (get_or cs 3 0 < 256)

-- The field of w bits with s bits before it and l after it.
pub field_of : (s w l v : ℕ) (rest : List ℕ) → v < 2 ^ (s + (w + l)) → joined 1 w (drop s (bits_of (s + (w + l)) v ++ rest)) ≡ v / 2 ^ l % 2 ^ w
field_of s w l v rest h =
    let top = v / 2 ^ (w + l) in
    let lower = v % 2 ^ (w + l) in
    let inside : lower < 2 ^ (w + l) = mod-lt v (pow_pos (w + l)) in
    let small : lower / 2 ^ l < 2 ^ w = shr_lt w l inside in
    ap (λ z. joined 1 w (drop s (z ++ rest))) (bits_parted s (w + l) v h)
    ∙ ap (λ z. joined 1 w (drop s z)) (append_assoc (bits_of s top) (bits_of (w + l) lower) rest)
    ∙ ap (joined 1 w) (drop_at (bits_of s top) (bits_of (w + l) lower ++ rest) s (length_bits_lem s top))
    ∙ ap (λ z. joined 1 w (z ++ rest)) (bits_parted w l lower inside)
    ∙ ap (joined 1 w) (append_assoc (bits_of w (lower / 2 ^ l)) (bits_of l (lower % 2 ^ l)) rest)
    ∙ joined_front w (bits_of w (lower / 2 ^ l)) (bits_of l (lower % 2 ^ l) ++ rest) (let e = length_bits_lem w (lower / 2 ^ l) in omega arith)
    ∙ joined_bits w (lower / 2 ^ l) small
    ∙ field v w l

-- ---- 0 bits past the end change no field
joined_none : (w k : ℕ) → joined 1 w (replicate k 0) ≡ 0
joined_none zero k = refl
joined_none (suc w) zero = refl
joined_none (suc w) (suc k) = ap (λ x. 0 * 2 ^ (1 * w) + x) (joined_none w k) ∙ omega arith

joined_filled : (w : ℕ) (bs : List ℕ) (k : ℕ) → joined 1 w (bs ++ replicate k 0) ≡ joined 1 w bs
joined_filled zero bs k = refl
joined_filled (suc w) [] k = joined_none (suc w) k
joined_filled (suc w) (b ∷ bs) k = ap (λ x. b * 2 ^ (1 * w) + x) (joined_filled w bs k)

drop_filled : (s : ℕ) (bs : List ℕ) (k w : ℕ) → joined 1 w (drop s (bs ++ replicate k 0)) ≡ joined 1 w (drop s bs)
drop_filled zero bs k w = joined_filled w bs k
drop_filled (suc s) [] zero w = refl
drop_filled (suc s) [] (suc k) w = drop_filled s [] k w ∙ ap (joined 1 w) (drop-nil s)
drop_filled (suc s) (b ∷ bs) k w = drop_filled s bs k w

more : (cs : List ℕ) (s w : ℕ) → joined 1 w (drop s (run_of (cs ++ 0 ∷ []))) ≡ joined 1 w (drop s (run_of cs))
more cs s w = ap (λ l. joined 1 w (drop s l)) (run_append cs (0 ∷ []) ∙ ap (λ l. run_of cs ++ l) (append-nil (bits_of 8 0) ∙ bits_none 8)) ∙ drop_filled s (run_of cs) 8 w

in_four : (a b c d : ℕ) (rest : List ℕ) (s w : ℕ) → a < 256 → b < 256 → c < 256 → d < 256 → s + w ≤ 32
    → joined 1 w (drop s (run_of (a ∷ b ∷ c ∷ d ∷ rest))) ≡ (a * 16777216 + b * 65536 + c * 256 + d) / 2 ^ (32 - s - w) % 2 ^ w
in_four a b c d rest s w ha hb hc hd h =
    let v = a * 16777216 + b * 65536 + c * 256 + d in
    let l = 32 - s - w in
    let e : 32 ≡ s + (w + l) = omega arith in
    let small : v < 2 ^ 32 = omega arith in
    let e₀ : v / 16777216 ≡ a = omega arith in
    let e₁ : v % 16777216 / 65536 ≡ b = omega arith in
    let e₂ : v % 16777216 % 65536 / 256 ≡ c = omega arith in
    let e₃ : v % 16777216 % 65536 % 256 ≡ d = omega arith in
    let four : split 8 4 v ≡ a ∷ b ∷ c ∷ d ∷ [] = λ i. e₀ i ∷ e₁ i ∷ e₂ i ∷ (over_one (v % 16777216 % 65536 % 256) ∙ e₃) i ∷ [] in
    ap (λ l. joined 1 w (drop s l)) (run_append (a ∷ b ∷ c ∷ d ∷ []) rest ∙ ap (λ l. l ++ run_of rest) (ap run_of (sym four) ∙ run_split 4 v small))
    ∙ ap (λ n. joined 1 w (drop s (bits_of n v ++ run_of rest))) e
    ∙ field_of s w l v (run_of rest) (subst (λ n. v < 2 ^ n) e small)
  where
    over_one : (n : ℕ) → n / 1 ≡ n
    over_one n = omega arith

pub in_window : (cs : List ℕ) (s w : ℕ) → Bytes4 cs → s + w ≤ 32 → joined 1 w (drop s (run_of cs)) ≡ window cs / 2 ^ (32 - s - w) % 2 ^ w
in_window [] s w p h =
    sym (more (0 ∷ 0 ∷ 0 ∷ []) s w ∙ more (0 ∷ 0 ∷ []) s w ∙ more (0 ∷ []) s w ∙ more [] s w) ∙ in_four 0 0 0 0 [] s w (omega arith) (omega arith) (omega arith) (omega arith) h
in_window (a ∷ []) s w p h =
    sym (more (a ∷ 0 ∷ 0 ∷ []) s w ∙ more (a ∷ 0 ∷ []) s w ∙ more (a ∷ []) s w) ∙ in_four a 0 0 0 [] s w p.0 (omega arith) (omega arith) (omega arith) h
in_window (a ∷ b ∷ []) s w p h =
    sym (more (a ∷ b ∷ 0 ∷ []) s w ∙ more (a ∷ b ∷ []) s w) ∙ in_four a b 0 0 [] s w p.0 p.1 (omega arith) (omega arith) h
in_window (a ∷ b ∷ c ∷ []) s w p h = sym (more (a ∷ b ∷ c ∷ []) s w) ∙ in_four a b c 0 [] s w p.0 p.1 p.2 (omega arith) h
in_window (a ∷ b ∷ c ∷ d ∷ rest) s w p h = in_four a b c d rest s w p.0 p.1 p.2 p.3 h

-- At any place.
pub at_window : (bs : List ℕ) (at w : ℕ) → Bytes4 (drop (at / 8) bs) → w ≤ 25 → window (drop (at / 8) bs) / 2 ^ (32 - at % 8 - w) % 2 ^ w ≡ joined 1 w (drop at (run_of bs))
at_window bs at w p k =
    let i = at / 8 in
    let e : at ≡ 8 * i + at % 8 = omega arith in
    sym
    (ap (λ m. joined 1 w (drop m (run_of bs))) e
    ∙ ap (joined 1 w) (sym (drop-drop (at % 8) (8 * i) (run_of bs)) ∙ ap (drop (at % 8)) (run_drop i bs))
    ∙ in_window (drop i bs) (at % 8) w p (omega arith))

-- The power by which a field is cut, as it is computed in 64 bits.
pub power : (w : ℕ) → w ≤ 32 → (1 * 2 ^ w) % 2 ^ 64 ≡ 2 ^ w
power w h = shl_exact {a = 1} 1 w 64 (omega arith) (omega arith) ∙ (let e : 1 * 2 ^ w ≡ 2 ^ w = omega arith in e)
