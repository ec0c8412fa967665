-- The bytes of words, one word after the other. Assumes nothing.
use mathlib.Core.Path.{◌≡◌, refl, sym, ◌∙◌, ap}
use mathlib.Core.List.{List, [], ◌∷◌, ◌++◌, append_assoc, append-nil}
use Prim.Native.Nat.{ℕ, suc, ◌+◌, ◌*◌, ◌/◌, ◌%◌, ◌^◌, ◌≤◌, ◌<◌}
use native.Mathlib.Omega.{arith}
use lib.ListN.{length, take, drop, get_or, length-append, length-drop, take-append-drop}
use lib.Seq.{take-suc, take-take, take-append-le, take_at, length-take-le}
use Rattle.std.specs.Int.{w32, to_be_bytes}
use Rattle.model.specs.Fields.{split}
use Rattle.model.specs.Batch.{bytes_of, table_in}

pub bytes_append : (a b : List ℕ) → bytes_of (a ++ b) ≡ bytes_of a ++ bytes_of b
bytes_append [] b = refl
bytes_append (w ∷ a) b = ap (λ l. split 8 4 w ++ l) (bytes_append a b) ∙ sym (append_assoc (split 8 4 w) (bytes_of a) (bytes_of b))

pub length_bytes : (ws : List ℕ) → length (bytes_of ws) ≡ 4 * length ws
length_bytes [] = refl
length_bytes (w ∷ ws) = omega (arith, length-append (split 8 4 w) (bytes_of ws), length_bytes ws)

-- A word more.
pub bytes_next : (ws : List ℕ) (i : ℕ) → i < length ws → bytes_of (take (i + 1) ws) ≡ bytes_of (take i ws) ++ split 8 4 (get_or ws i 0)
bytes_next ws i h =
    let one : i + 1 ≡ suc i = omega arith in
    ap (λ j. bytes_of (take j ws)) one ∙ ap bytes_of (take-suc ws i 0 h) ∙ bytes_append (take i ws) (get_or ws i 0 ∷ []) ∙ ap (λ l. bytes_of (take i ws) ++ l) (append-nil (split 8 4 (get_or ws i 0)))

pub put_length : (bytes after : List ℕ) (at w : ℕ) → at + 4 ≤ length bytes → after ≡ take at bytes ++ (split 8 4 w ++ drop (at + 4) bytes) → length after ≡ length bytes
put_length bytes after at w room put =
    let tail = drop (at + 4) bytes in
    omega (arith, ap length put, length-append (take at bytes) (split 8 4 w ++ tail), length-append (split 8 4 w) tail, length-take-le at bytes (omega arith), length-drop (at + 4) bytes)

-- What stands at the start once a word was put after the others.
pub put_next : (bytes after ws : List ℕ) (i w : ℕ) → 4 * i + 4 ≤ length bytes → i < length ws → w ≡ get_or ws i 0 → take (4 * i) bytes ≡ bytes_of (take i ws) →
    after ≡ take (4 * i) bytes ++ (split 8 4 w ++ drop (4 * i + 4) bytes) → take (4 * (i + 1)) after ≡ bytes_of (take (i + 1) ws)
put_next bytes after ws i w room h e sofar put =
    let head = take (4 * i) bytes in
    let long = length-take-le (4 * i) bytes (omega arith) in
    let whole : length (head ++ split 8 4 w) ≡ 4 * (i + 1) = omega (arith, length-append head (split 8 4 w)) in
    ap (take (4 * (i + 1))) (put ∙ sym (append_assoc head (split 8 4 w) (drop (4 * i + 4) bytes)))
    ∙ take_at (head ++ split 8 4 w) (drop (4 * i + 4) bytes) (4 * (i + 1)) whole
    ∙ ap (λ l. l ++ split 8 4 w) sofar
    ∙ ap (λ v. bytes_of (take i ws) ++ split 8 4 v) e
    ∙ sym (bytes_next ws i h)

-- The table once its bytes are there.
pub loaded : (bytes ws : List ℕ) (n i : ℕ) → n ≤ 4 * i → i ≤ length ws → take (4 * i) bytes ≡ bytes_of (take i ws) → take n bytes ≡ table_in n ws
loaded bytes ws n i h k e =
    let few = length-take-le i ws k in
    let head = bytes_of (take i ws) in
    let long : length head ≡ 4 * i = omega (arith, length_bytes (take i ws)) in
    let parts : bytes_of ws ++ 0 ∷ [] ≡ head ++ (bytes_of (drop i ws) ++ 0 ∷ []) =
    ap (λ l. bytes_of l ++ 0 ∷ []) (sym (take-append-drop i ws)) ∙ ap (λ l. l ++ 0 ∷ []) (bytes_append (take i ws) (drop i ws)) ∙ append_assoc head (bytes_of (drop i ws)) (0 ∷ []) in
    sym (take-take n (4 * i) bytes h) ∙ ap (take n) e ∙ sym (ap (take n) parts ∙ take-append-le n head (bytes_of (drop i ws) ++ 0 ∷ []) (omega arith))

-- ---- the bytes of a word
bytes_of_lem : (w : ℕ) → split 8 4 w ≡ w / 16777216 ∷ w % 16777216 / 65536 ∷ w % 65536 / 256 ∷ w % 256 ∷ []
bytes_of_lem w =
    let third : w % 16777216 % 65536 ≡ w % 65536 = omega arith in
    let fourth : w % 16777216 % 65536 % 256 ≡ w % 256 = omega arith in
    ap (λ v. w / 16777216 ∷ w % 16777216 / 65536 ∷ v / 256 ∷ w % 16777216 % 65536 % 256 / 1 ∷ []) third
    ∙ ap (λ v. w / 16777216 ∷ w % 16777216 / 65536 ∷ w % 65536 / 256 ∷ v ∷ []) (let last : w % 16777216 % 65536 % 256 / 1 ≡ w % 256 = omega arith in last)

pub word_bytes : (w : ℕ) → w < 2 ^ 32 → to_be_bytes w32 w ≡ split 8 4 w
word_bytes w h =
    let first : w / 16777216 % 256 ≡ w / 16777216 = omega arith in
    let second : w / 65536 % 256 ≡ w % 16777216 / 65536 = omega arith in
    let third : w / 256 % 256 ≡ w % 65536 / 256 = omega arith in
    (λ i. first i ∷ second i ∷ third i ∷ w % 256 ∷ []) ∙ sym (bytes_of_lem w)
