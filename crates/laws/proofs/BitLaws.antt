-- Fields of any width in a run of bits: what is written is read back, what was read is written again as the same bits, and bytes are the bits that they hold.
use Rattle.std.specs.Prelude.{◌≡◌, refl, Bool, true, false, cond, List, [], ◌∷◌, ◌++◌, ℕ, zero, suc, ◌+◌, ◌-◌, ◌*◌, ◌%◌, ◌^◌, ◌≤◌, ◌<◌, leb, length, take, drop, replicate}
use Rattle.std.proofs.Common.{sym, ◌∙◌, ap, ap₂, subst, append_assoc, div-lt_iff_lt-mul, mod-lt, pow_pos, pow-add, arith, leb-true, le-leb, length-append, take-append-drop, drop_at, take_at}
use Rattle.std.proofs.lemmas.List.{length-replicate}
use Rattle.std.proofs.Math.Seq.{drop-nil}
use Rattle.model.specs.Fields.{joined, packed, words_for}
use Rattle.model.specs.Reading.{refuse, got, next}
use Rattle.laws.proofs.WordLaws.{split_joined, joined_split, joined_small, joined_padded}
use Rattle.laws.proofs.FieldLaws.{Holds, fine, nothing, then_holds}
use Rattle.laws.specs.FieldAt.{padded, Narrow}
use Rattle.model.specs.Bits.{bits_of, run, bytes_of, run_of, take_bits, take_run}

-- Bits: each is 0 or 1.
abbrev pub Bits : List ℕ → Type 0
Bits bs = Narrow 1 bs

-- Each value fits its width.
abbrev pub Fits : List ℕ → List ℕ → Type 0
Fits [] [] = Unit {0}
Fits [] (v ∷ vs) = ⊥
Fits (w ∷ ws) [] = ⊥
Fits (w ∷ ws) (v ∷ vs) = (v < 2 ^ w) × Fits ws vs

pub length_bits_lem : (w v : ℕ) → length (bits_of w v) ≡ w
length_bits_lem zero v = refl
length_bits_lem (suc w) v = ap suc (length_bits_lem w (v % 2 ^ (1 * w)))

-- ---- the first bits of a longer run
pub joined_front : (w : ℕ) (bs cs : List ℕ) → w ≤ length bs → joined 1 w (bs ++ cs) ≡ joined 1 w bs
joined_front zero bs cs h = refl
joined_front (suc w) [] cs h = let z : ⊥ = omega arith in absurd z
joined_front (suc w) (b ∷ bs) cs h = ap (λ x. b * 2 ^ (1 * w) + x) (joined_front w bs cs (omega arith))

padded_take : (w : ℕ) (bs : List ℕ) → w ≤ length bs → padded w bs ≡ take w bs
padded_take zero bs h = refl
padded_take (suc w) [] h = let z : ⊥ = omega arith in absurd z
padded_take (suc w) (b ∷ bs) h = ap (λ l. b ∷ l) (padded_take w bs (omega arith))

-- ---- one field
pub joined_bits : (w v : ℕ) → v < 2 ^ w → joined 1 w (bits_of w v) ≡ v
joined_bits zero v h = let e : 2 ^ 0 ≡ 1 = refl in omega arith
joined_bits (suc w) v h = joined_split 1 w v

-- What was written is read back, whatever follows.
pub back_bits : (w v : ℕ) (bs : List ℕ) → v < 2 ^ w → take_bits w (bits_of w v ++ bs) ≡ got v bs
back_bits w v bs h =
    let l = length_bits_lem w v in
    let m = length-append (bits_of w v) bs in
    let enough : leb w (length (bits_of w v ++ bs)) ≡ true = le-leb w (length (bits_of w v ++ bs)) (omega arith) in
    ap (λ t. cond t (got (joined 1 w (bits_of w v ++ bs)) (drop w (bits_of w v ++ bs))) (refuse 19)) enough
    ∙ ap₂ got (joined_front w (bits_of w v) bs (omega arith) ∙ joined_bits w v h) (drop_at (bits_of w v) bs w l)

-- What was read is written again as the same bits, and fits.
pub record Same (w : ℕ) (bs : List ℕ) (v : ℕ) (cs : List ℕ) : Type 0 where
  pub written : bits_of w v ++ cs ≡ bs
  pub fits : v < 2 ^ w
  pub bits : Bits cs

bits_drop : (n : ℕ) (bs : List ℕ) → Bits bs → Bits (drop n bs)
bits_drop zero bs h = h
bits_drop (suc n) [] h = tt
bits_drop (suc n) (b ∷ bs) h = bits_drop n bs h.1

same_at : (w : ℕ) (bs : List ℕ) (t : Bool) → leb w (length bs) ≡ t → Bits bs → Holds (Same w bs) (cond t (got (joined 1 w bs) (drop w bs)) (refuse 19))
same_at w bs false e h = nothing
same_at w bs true e h =
    let enough : w ≤ length bs = leb-true w (length bs) e in
    let one : 1 * w ≡ w = omega arith in
    fine (record {
      written = ap (λ l. l ++ drop w bs) (split_joined 1 w bs h ∙ padded_take w bs enough) ∙ take-append-drop w bs;
      fits = subst (λ x. joined 1 w bs < 2 ^ x) one (joined_small 1 w bs h);
      bits = bits_drop w bs h;
    })

pub same_bits : (w : ℕ) (bs : List ℕ) → Bits bs → Holds (Same w bs) (take_bits w bs)
same_bits w bs h = same_at w bs (leb w (length bs)) refl h

-- ---- a run of fields of given widths
pub back_run : (ws vs bs : List ℕ) → Fits ws vs → take_run ws (run ws vs ++ bs) ≡ got vs bs
back_run [] [] bs f = refl
back_run [] (v ∷ vs) bs f = absurd f
back_run (w ∷ ws) [] bs f = absurd f
back_run (w ∷ ws) (v ∷ vs) bs f =
    ap (λ l. next (take_bits w l) (λ x cs. next (take_run ws cs) (λ xs ds. got (x ∷ xs) ds))) (append_assoc (bits_of w v) (run ws vs) bs)
    ∙ ap (λ p. next p (λ x cs. next (take_run ws cs) (λ xs ds. got (x ∷ xs) ds))) (back_bits w v (run ws vs ++ bs) f.0)
    ∙ ap (λ p. next p (λ xs ds. got (v ∷ xs) ds)) (back_run ws vs bs f.1)

pub record SameRun (ws bs vs cs : List ℕ) : Type 0 where
  pub written : run ws vs ++ cs ≡ bs
  pub fits : Fits ws vs
  pub bits : Bits cs

pub same_run : (ws bs : List ℕ) → Bits bs → Holds (SameRun ws bs) (take_run ws bs)
same_run [] bs h = fine (record { written = refl; fits = tt; bits = h })
same_run (w ∷ ws) bs h =
    then_holds (take_bits w bs) (λ v cs. next (take_run ws cs) (λ vs ds. got (v ∷ vs) ds)) (same_bits w bs h) (λ v cs s.
    then_holds (take_run ws cs) (λ vs ds. got (v ∷ vs) ds) (same_run ws cs s.bits) (λ vs ds r.
    fine (record {
      written = append_assoc (bits_of w v) (run ws vs) ds ∙ ap (λ l. bits_of w v ++ l) r.written ∙ s.written;
      fits = (s.fits, r.fits);
      bits = r.bits;
    })))

-- ---- bytes
-- A byte's bits are bits.
pub bits_of_lem : (w v : ℕ) → v < 2 ^ w → Bits (bits_of w v)
bits_of_lem zero v h = tt
bits_of_lem (suc w) v h =
    let p : 2 ^ (1 * w) ≡ 2 ^ w = ap (λ x. 2 ^ x) (let e : 1 * w ≡ w = omega arith in e) in
    let q : 2 ^ suc w ≡ 2 * 2 ^ w = ap (λ x. 2 ^ x) (let e : suc w ≡ 1 + w = omega arith in e) ∙ pow-add 2 1 w in
    let k : v < 2 * 2 ^ (1 * w) = omega arith in (
      (div-lt_iff_lt-mul {k = 2 ^ (1 * w)} {x = v} {y = 2} (pow_pos (1 * w))).1 k,
      bits_of_lem w (v % 2 ^ (1 * w)) (subst (λ x. v % 2 ^ (1 * w) < x) p (mod-lt v (pow_pos (1 * w)))),
    )

pub bits_append : (bs cs : List ℕ) → Bits bs → Bits cs → Bits (bs ++ cs)
bits_append [] cs h k = k
bits_append (b ∷ bs) cs h k = (h.0, bits_append bs cs h.1 k)

pub bits_run : (bs : List ℕ) → Narrow 8 bs → Bits (run_of bs)
bits_run [] h = tt
bits_run (b ∷ bs) h = bits_append (bits_of 8 b) (run_of bs) (bits_of_lem 8 b h.0) (bits_run bs h.1)

pub length_run : (bs : List ℕ) → length (run_of bs) ≡ 8 * length bs
length_run [] = refl
length_run (b ∷ bs) = omega (arith, length-append (bits_of 8 b) (run_of bs), length_bits_lem 8 b, length_run bs)

-- The first n values, and those after them; a list that is no longer than n has zeros after it.
padded_add : (n m : ℕ) (vs : List ℕ) → padded (n + m) vs ≡ padded n vs ++ padded m (drop n vs)
padded_add zero m vs = ap (λ k. padded k vs) (let e : zero + m ≡ m = omega arith in e)
padded_add (suc n) m [] = ap (λ k. padded k []) (let e : suc n + m ≡ suc (n + m) = omega arith in e) ∙ ap (λ l. 0 ∷ l) (padded_add n m [] ∙ ap (λ l. padded n [] ++ padded m l) (drop-nil n))
padded_add (suc n) m (v ∷ vs) = ap (λ k. padded k (v ∷ vs)) (let e : suc n + m ≡ suc (n + m) = omega arith in e) ∙ ap (λ l. v ∷ l) (padded_add n m vs)

length_padded : (n : ℕ) (vs : List ℕ) → length (padded n vs) ≡ n
length_padded zero vs = refl
length_padded (suc n) [] = ap suc (length_padded n [])
length_padded (suc n) (v ∷ vs) = ap suc (length_padded n vs)

padded_zeros : (k : ℕ) → padded k [] ≡ replicate k 0
padded_zeros zero = refl
padded_zeros (suc k) = ap (λ l. 0 ∷ l) (padded_zeros k)

pub padded_filled : (bs : List ℕ) (k : ℕ) → padded (length bs + k) bs ≡ bs ++ replicate k 0
padded_filled [] k = ap (λ n. padded n []) (let e : 0 + k ≡ k = omega arith in e) ∙ padded_zeros k
padded_filled (b ∷ bs) k = ap (λ n. padded n (b ∷ bs)) (let e : suc (length bs) + k ≡ suc (length bs + k) = omega arith in e) ∙ ap (λ l. b ∷ l) (padded_filled bs k)

run_packed : (m : ℕ) (bs : List ℕ) → Bits bs → run_of (packed 1 8 m bs) ≡ padded (8 * m) bs
run_packed zero bs h = refl
run_packed (suc m) bs h =
    ap₂ (λ l r. l ++ r) (split_joined 1 8 bs h) (run_packed m (drop 8 bs) (bits_drop 8 bs h))
    ∙ sym (padded_add 8 (8 * m) bs)
    ∙ ap (λ n. padded n bs) (let e : 8 + 8 * m ≡ 8 * suc m = omega arith in e)

-- The filler: how many bits are missing to a whole byte.
abbrev pub filler : List ℕ → ℕ
filler bs = 8 * words_for 8 (length bs) - length bs

pub filler_few : (bs : List ℕ) → filler bs < 8
filler_few bs = omega arith

-- The bits of a run that stands in bytes: the run, and the filler.
pub back_bytes : (bs : List ℕ) → Bits bs → run_of (bytes_of bs) ≡ bs ++ replicate (filler bs) 0
back_bytes bs h =
    run_packed (words_for 8 (length bs)) bs h
    ∙ ap (λ n. padded n bs) (let e : 8 * words_for 8 (length bs) ≡ length bs + filler bs = omega arith in e)
    ∙ padded_filled bs (filler bs)

-- The bytes that hold a run and a filler of fewer than eight zeros are those that the run is written as.
cut : (n : ℕ) (xs ys us vs : List ℕ) → length xs ≡ n → length ys ≡ n → xs ++ us ≡ ys ++ vs → (xs ≡ ys) × (us ≡ vs)
cut n xs ys us vs h k e = (sym (take_at xs us n h) ∙ ap (take n) e ∙ take_at ys vs n k, sym (drop_at xs us n h) ∙ ap (drop n) e ∙ drop_at ys vs n k)

same_packed : (cs bs : List ℕ) → Narrow 8 cs → padded (8 * length cs) bs ≡ run_of cs → packed 1 8 (length cs) bs ≡ cs
same_packed [] bs h e = refl
same_packed (c ∷ cs) bs h e =
    let n : 8 * suc (length cs) ≡ 8 + 8 * length cs = omega arith in
    let both : padded 8 bs ++ padded (8 * length cs) (drop 8 bs) ≡ bits_of 8 c ++ run_of cs = sym (padded_add 8 (8 * length cs) bs) ∙ ap (λ k. padded k bs) (sym n) ∙ e in
    let parts = cut 8 (padded 8 bs) (bits_of 8 c) (padded (8 * length cs) (drop 8 bs)) (run_of cs) (length_padded 8 bs) (length_bits_lem 8 c) both in
    ap₂ (λ x l. x ∷ l)
    (sym (joined_padded 1 8 bs) ∙ ap (joined 1 8) parts.0 ∙ joined_split 1 7 c)
    (same_packed cs (drop 8 bs) h.1 parts.1)

pub same_bytes : (cs bs : List ℕ) (k : ℕ) → Narrow 8 cs → k < 8 → run_of cs ≡ bs ++ replicate k 0 → bytes_of bs ≡ cs
same_bytes cs bs k h few e =
    let l : length (run_of cs) ≡ length bs + k = ap length e ∙ length-append bs (replicate k 0) ∙ ap (λ n. length bs + n) (length-replicate k 0) in
    let r : 8 * length cs ≡ length bs + k = sym (length_run cs) ∙ l in
    let m : words_for 8 (length bs) ≡ length cs = omega arith in
    ap (λ n. packed 1 8 n bs) m
    ∙ same_packed cs bs h (ap (λ n. padded n bs) r ∙ padded_filled bs k ∙ sym e)
