-- Numbers, words and bytes of the input are read exactly when their bytes are there. Assumes nothing.
use Rattle.std.specs.Prelude.{◌≡◌, refl, List, [], ◌∷◌, ◌++◌, ℕ, zero, suc, ◌+◌, ◌*◌, ◌≤◌, ◌<◌, length, take, drop, get_or}
use Rattle.std.proofs.Common.{sym, ◌∙◌, ap, ap₂, arith, drop-cons}
use Rattle.model.specs.Reading.{refuse, got, next}
use Rattle.model.specs.Listing.{number_from, words_from, bytes_from}
use Rattle.laws.specs.FieldAt.{firsts}
use Rattle.laws.proofs.FieldAtLaws.{firsts_same}
use Rattle.listing.specs.Inputs.{word_in, words_in}

-- ---- numbers
pub number_short : (s n : ℕ) (bs : List ℕ) → length bs < n → number_from s n bs ≡ refuse 6
number_short s zero bs h = let z : ⊥ = omega arith in absurd z
number_short s (suc n) [] h = refl
number_short s (suc n) (b ∷ bs) h = number_short (s * 256 + b) n bs (omega arith)

-- One byte of a number that stands at a position.
number_step : (s n at : ℕ) (bs : List ℕ) → at < length bs → number_from s (suc n) (drop at bs) ≡ number_from (s * 256 + get_or bs at 0) n (drop (at + 1) bs)
number_step s n at bs h =
    ap (number_from s (suc n)) (drop-cons bs at 0 h)
    ∙ ap (λ i. number_from (s * 256 + get_or bs at 0) n (drop i bs)) (let e : suc at ≡ at + 1 = omega arith in e)

pub number_two : (at : ℕ) (bs : List ℕ) → at + 2 ≤ length bs → number_from 0 2 (drop at bs) ≡ got (get_or bs at 0 * 256 + get_or bs (at + 1) 0) (drop (at + 2) bs)
number_two at bs h =
    number_step 0 1 at bs (omega arith)
    ∙ number_step (0 * 256 + get_or bs at 0) 0 (at + 1) bs (omega arith)
    ∙ ap₂ (λ v i. got v (drop i bs))
    (let v : (0 * 256 + get_or bs at 0) * 256 + get_or bs (at + 1) 0 ≡ get_or bs at 0 * 256 + get_or bs (at + 1) 0 = omega arith in v)
    (let e : at + 1 + 1 ≡ at + 2 = omega arith in e)

number_four : (at : ℕ) (bs : List ℕ) → at + 4 ≤ length bs → number_from 0 4 (drop at bs) ≡ got (word_in bs at) (drop (at + 4) bs)
number_four at bs h =
    let a = get_or bs at 0 in
    let b = get_or bs (at + 1) 0 in
    number_step 0 3 at bs (omega arith)
    ∙ number_step (0 * 256 + a) 2 (at + 1) bs (omega arith)
    ∙ ap₂ (λ v i. number_from v 2 (drop i bs)) (let v : (0 * 256 + a) * 256 + b ≡ a * 256 + b = omega arith in v) (let e : at + 1 + 1 ≡ at + 2 = omega arith in e)
    ∙ number_step (a * 256 + b) 1 (at + 2) bs (omega arith)
    ∙ ap (λ i. number_from ((a * 256 + b) * 256 + get_or bs (at + 2) 0) 1 (drop i bs)) (let e : at + 2 + 1 ≡ at + 3 = omega arith in e)
    ∙ number_step ((a * 256 + b) * 256 + get_or bs (at + 2) 0) 0 (at + 3) bs (omega arith)
    ∙ ap (λ i. got (word_in bs at) (drop i bs)) (let e : at + 3 + 1 ≡ at + 4 = omega arith in e)

-- ---- words
firsts_front : (f : ℕ → ℕ) (n : ℕ) → firsts f (suc n) ≡ f 0 ∷ firsts (λ k. f (suc k)) n
unfolding firsts
firsts_front f zero = refl
firsts_front f (suc n) = ap (λ l. l ++ f (suc n) ∷ []) (firsts_front f n)

words_in_front : (bs : List ℕ) (at n : ℕ) → words_in bs at (suc n) ≡ word_in bs at ∷ words_in bs (at + 4) n
words_in_front bs at n =
    firsts_front (λ k. word_in bs (at + 4 * k)) n
    ∙ ap₂ (λ x l. word_in bs x ∷ l) (let e : at + 4 * 0 ≡ at = omega arith in e)
    (firsts_same (λ k. word_in bs (at + 4 * suc k)) (λ k. word_in bs (at + 4 + 4 * k)) n (λ k h. ap (word_in bs) (let e : at + 4 * suc k ≡ at + 4 + 4 * k = omega arith in e)))

pub words_there : (n at : ℕ) (bs : List ℕ) → at + 4 * n ≤ length bs → words_from n (drop at bs) ≡ got (words_in bs at n) (drop (at + 4 * n) bs)
unfolding firsts
words_there zero at bs h = ap (λ i. got [] (drop i bs)) (let e : at ≡ at + 4 * 0 = omega arith in e)
words_there (suc n) at bs h =
    ap (λ q. next q (λ a vs. next (words_from n vs) (λ xs us. got (a ∷ xs) us))) (number_four at bs (omega arith))
    ∙ ap (λ q. next q (λ xs us. got (word_in bs at ∷ xs) us)) (words_there n (at + 4) bs (omega arith))
    ∙ ap₂ (λ l i. got l (drop i bs)) (sym (words_in_front bs at n)) (let e : at + 4 + 4 * n ≡ at + 4 * suc n = omega arith in e)

pub words_short : (n : ℕ) (bs : List ℕ) → length bs < 4 * n → words_from n bs ≡ refuse 6
words_short zero bs h = let z : ⊥ = omega arith in absurd z
words_short (suc n) [] h = refl
words_short (suc n) (a ∷ []) h = refl
words_short (suc n) (a ∷ b ∷ []) h = refl
words_short (suc n) (a ∷ b ∷ c ∷ []) h = refl
words_short (suc n) (a ∷ b ∷ c ∷ d ∷ bs) h = ap (λ q. next q (λ xs us. got (((((0 * 256 + a) * 256 + b) * 256 + c) * 256 + d) ∷ xs) us)) (words_short n bs (omega arith))

-- ---- bytes
pub bytes_short : (n : ℕ) (bs : List ℕ) → length bs < n → bytes_from n bs ≡ refuse 6
bytes_short zero bs h = let z : ⊥ = omega arith in absurd z
bytes_short (suc n) [] h = refl
bytes_short (suc n) (b ∷ bs) h = ap (λ q. next q (λ xs us. got ((0 * 256 + b) ∷ xs) us)) (bytes_short n bs (omega arith))

pub bytes_there : (n : ℕ) (bs : List ℕ) → n ≤ length bs → bytes_from n bs ≡ got (take n bs) (drop n bs)
bytes_there zero bs h = refl
bytes_there (suc n) [] h = let z : ⊥ = omega arith in absurd z
bytes_there (suc n) (b ∷ bs) h =
    ap (λ q. next q (λ xs us. got ((0 * 256 + b) ∷ xs) us)) (bytes_there n bs (omega arith))
    ∙ ap (λ x. got (x ∷ take n bs) (drop n bs)) (let e : 0 * 256 + b ≡ b = omega arith in e)
