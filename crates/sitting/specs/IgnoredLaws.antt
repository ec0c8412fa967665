-- Later bytes are ignored: a request's first bytes, as many as one that is read whole may have, give its listing. Document 01, "Listing".
use Rattle.std.specs.Prelude.{◌≡◌, refl, Bool, true, false, ◌&&◌, List, [], ◌∷◌, ℕ, zero, suc, ◌+◌, ◌-◌, ◌*◌, ◌≤◌, leb, take}
use Rattle.std.proofs.Common.{◌∙◌, ap, arith, leb-true}
use Rattle.std.proofs.lemmas.Bool.{and_parts}
use Rattle.model.specs.Facts.{table_bytes, known_facts, table_fault}
use Rattle.model.specs.Reading.{Parsed, refuse, got, next, many}
use Rattle.model.specs.Listing.{number_from, words_from, bytes_from, checked, on_bytes, unless_refused, sitting}
use Rattle.sitting.specs.Requests.{from_table, request_bytes}

-- What was read, with no more than m of the bytes after it.
abbrev cut : {A : Type 0} → ℕ → Parsed A → Parsed A
cut m (refuse n) = refuse n
cut m (got a bs) = got a (take m bs)

-- ---- reading n bytes takes no notice of more than n
number_cut : (s n m : ℕ) (bs : List ℕ) → number_from s n (take (n + m) bs) ≡ cut m (number_from s n bs)
number_cut s zero m bs = ap (λ i. got s (take i bs)) (let e : 0 + m ≡ m = omega arith in e)
number_cut s (suc n) m [] = ap (λ i. number_from s (suc n) (take i [])) (let e : suc n + m ≡ suc (n + m) = omega arith in e)
number_cut s (suc n) m (b ∷ bs) =
    ap (λ i. number_from s (suc n) (take i (b ∷ bs))) (let e : suc n + m ≡ suc (n + m) = omega arith in e)
    ∙ number_cut (s * 256 + b) n m bs

next_cut : {A B : Type 0} (q : Parsed A) (k : A → List ℕ → Parsed B) (m i : ℕ) → ((a : A) (bs : List ℕ) → k a (take i bs) ≡ cut m (k a bs)) → next (cut i q) k ≡ cut m (next q k)
next_cut (refuse n) k m i h = refl
next_cut (got a bs) k m i h = h a bs

module _ (width : ℕ) where
  abbrev list : ℕ → List ℕ → Parsed (List ℕ)
  list n bs = many [] ◌∷◌ (number_from 0 width) n bs

  list_cut : (n m : ℕ) (bs : List ℕ) → list n (take (width * n + m) bs) ≡ cut m (list n bs)
  list_cut zero m bs = ap (λ i. got [] (take i bs)) (let e : width * 0 + m ≡ m = omega arith in e)
  list_cut (suc n) m bs =
      ap (λ i. list (suc n) (take i bs)) (let e : width * suc n + m ≡ width + (width * n + m) = omega arith in e)
      ∙ ap (λ q. next q (λ a vs. next (list n vs) (λ xs us. got (a ∷ xs) us))) (number_cut 0 width (width * n + m) bs)
      ∙ next_cut (number_from 0 width bs) (λ a vs. next (list n vs) (λ xs us. got (a ∷ xs) us)) m (width * n + m)
      (λ a vs. ap (λ q. next q (λ xs us. got (a ∷ xs) us)) (list_cut n m vs) ∙ next_cut (list n vs) (λ xs us. got (a ∷ xs) us) m m (λ xs us. refl))

-- ---- the listing
on_cut : {A : Type 0} (m : ℕ) (q : Parsed A) (k l : A → List ℕ → List ℕ) → ((a : A) (bs : List ℕ) → k a (take m bs) ≡ l a bs) → on_bytes (cut m q) k ≡ on_bytes q l
on_cut m (refuse n) k l h = refl
on_cut m (got a bs) k l h = h a bs

unless_same : (b : Bool) (n : ℕ) (xs ys : List ℕ) → (b ≡ true → xs ≡ ys) → unless_refused b n xs ≡ unless_refused b n ys
unless_same true n xs ys h = h refl
unless_same false n xs ys h = refl

-- From the table's length on, 258 bytes matter.
table_cut : (sheet : List ℕ) (m : ℕ) (bs : List ℕ) → 258 ≤ m → from_table sheet (take m bs) ≡ from_table sheet bs
table_cut sheet m bs h =
    ap (λ i. from_table sheet (take i bs)) (let e : m ≡ 2 + (m - 2) = omega arith in e)
    ∙ ap (λ q. on_bytes q listed) (number_cut 0 2 (m - 2) bs)
    ∙ on_cut (m - 2) (number_from 0 2 bs) listed listed (λ size vs. unless_same (leb size 256) 2 (decided size (take (m - 2) vs)) (decided size vs) (λ few. in_table size vs (leb-true size 256 few)))
  where
    decided : ℕ → List ℕ → List ℕ
    decided size vs = on_bytes (bytes_from size vs) (λ facts _. checked (table_fault known_facts facts) sheet facts)

    listed : ℕ → List ℕ → List ℕ
    listed size vs = unless_refused (leb size table_bytes) 2 (decided size vs)

    in_table : (size : ℕ) (vs : List ℕ) → size ≤ 256 → decided size (take (m - 2) vs) ≡ decided size vs
    in_table size vs few =
        ap (λ i. decided size (take i vs)) (let e : m - 2 ≡ 1 * size + (m - 2 - size) = omega arith in e)
        ∙ ap (λ q. on_bytes q (λ facts _. checked (table_fault known_facts facts) sheet facts)) (list_cut 1 size (m - 2 - size) vs)
        ∙ on_cut (m - 2 - size) (bytes_from size vs) (λ facts _. checked (table_fault known_facts facts) sheet facts) (λ facts _. checked (table_fault known_facts facts) sheet facts) (λ facts us. refl)

pub later_ignored : (input : List ℕ) → sitting (take request_bytes input) ≡ sitting input
later_ignored input =
    ap (λ q. on_bytes q listed) (number_cut 0 2 16642 input)
    ∙ on_cut 16642 (number_from 0 2 input) listed listed (λ count vs. unless_same (leb 1 count && leb count 4096) 1 (read count (take 16642 vs)) (read count vs)
    (λ few. in_words count vs (leb-true count 4096 (and_parts (leb 1 count) (leb count 4096) few).1)))
  where
    read : ℕ → List ℕ → List ℕ
    read count vs = on_bytes (words_from count vs) from_table

    listed : ℕ → List ℕ → List ℕ
    listed count vs = unless_refused (leb 1 count && leb count 4096) 1 (read count vs)

    in_words : (count : ℕ) (vs : List ℕ) → count ≤ 4096 → read count (take 16642 vs) ≡ read count vs
    in_words count vs few =
        ap (λ i. read count (take i vs)) (let e : 16642 ≡ 4 * count + (16642 - 4 * count) = omega arith in e)
        ∙ ap (λ q. on_bytes q from_table) (list_cut 4 count (16642 - 4 * count) vs)
        ∙ on_cut (16642 - 4 * count) (words_from count vs) from_table from_table (λ sheet us. table_cut sheet (16642 - 4 * count) us (omega arith))
