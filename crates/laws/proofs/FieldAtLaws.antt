-- A field by its number, for any width: its place in a word as a shift, the fields of a list that was packed, and which lists can be.
use Rattle.std.specs.Prelude.{◌≡◌, refl, List, [], ◌∷◌, ◌++◌, map, length, take, drop}
use Rattle.std.proofs.Common.{sym, ◌∙◌, ap₂, zero-mul, suc-mul, add_comm, div-add-mod', le-div_iff_mul-le, le_trans, arith, length-append, length-drop, take-suc, drop-drop, get_or-drop}
use Rattle.std.proofs.Math.Path.{ap}
use Prim.Native.Nat.{ℕ, zero, suc, ◌+◌, ◌-◌, ◌*◌, ◌/◌, ◌%◌, ◌^◌, ◌≤◌, ◌<◌}
use Rattle.std.proofs.Math.Nat.{mod-lt}
use Rattle.std.proofs.Math.ListN.{get_or, get_or-append, get_or-eq_default}
use Rattle.std.proofs.lemmas.List.{length-map}
use Rattle.std.proofs.Math.Seq.{take-length}
use Rattle.model.specs.Fields.{split, joined, packed, words_for, per_word, pack}
use Rattle.model.specs.Facts.{Presence, absent, present, unknown, silent, fact_count}
use Rattle.model.specs.Consulted.{Entry, Consulted}
use Rattle.model.specs.Writing.{entry_bits, presence_field, seen_in, entry_field}
use Rattle.model.specs.Reading.{presence_count}
use Rattle.laws.specs.Lists.{Below}
use Rattle.laws.specs.FieldAt.{field_at, firsts, padded, Narrow}
use Rattle.laws.proofs.WordLaws.{padded_none, narrow_drop, joined_small, split_joined, length_packed}
use Rattle.laws.proofs.Lengths.{length_pack}
use Rattle.laws.proofs.ReadForm.{Named}
use Rattle.laws.proofs.ShiftLaws.{split_none, split_shift}

-- ---- a field by its number
module _ (width n : ℕ) (whole : per_word width ≡ suc n) where
  pub field_by_shift : (ws : List ℕ) (at i : ℕ) → get_or ws (at + i / suc n) 0 < 2 ^ (width * suc n) →
      get_or ws (at + i / suc n) 0 / 2 ^ (width * n - i % suc n * width) % 2 ^ width ≡ field_at width (drop at ws) i
  unfolding field_at
  field_by_shift ws at i h =
      split_shift width n (i % suc n) (get_or ws (at + i / suc n) 0) h (omega (arith, mod-lt i {m = suc n} (omega arith)))
      ∙ ap (λ w. get_or (split width (suc n) w) (i % suc n) 0) (sym (get_or-drop at ws (i / suc n) 0))
      ∙ ap (λ p. get_or (split width p (get_or (drop at ws) (i / p) 0)) (i % p) 0) (sym whole)

  pub field_past : (ws : List ℕ) (i : ℕ) → length ws ≤ i / suc n → field_at width ws i ≡ 0
  unfolding field_at
  field_past ws i h =
      ap (λ p. get_or (split width p (get_or ws (i / p) 0)) (i % p) 0) whole
      ∙ ap (λ w. get_or (split width (suc n) w) (i % suc n) 0) (get_or-eq_default ws 0 h)
      ∙ split_none width (suc n) (i % suc n)

-- ---- what was packed
pub later : (n m : ℕ) (vs : List ℕ) → drop (m * n) (drop n vs) ≡ drop (suc m * n) vs
later n m vs = drop-drop (m * n) n vs ∙ ap (λ k. drop k vs) (add_comm n (m * n) ∙ sym (suc-mul m n))

module _ (width n : ℕ) where
  -- Word j.
  pub packed_word : (m j : ℕ) (vs : List ℕ) → j < m → get_or (packed width n m vs) j 0 ≡ joined width n (drop (j * n) vs)
  packed_word zero j vs h = absurd (omega arith)
  packed_word (suc m) zero vs h = ap (λ k. joined width n (drop k vs)) (sym (zero-mul n))
  packed_word (suc m) (suc j) vs h = packed_word m j (drop n vs) (omega arith) ∙ ap (joined width n) (later n j vs)

padded_at : (n k : ℕ) (vs : List ℕ) → k < n → get_or (padded n vs) k 0 ≡ get_or vs k 0
padded_at zero k vs h = absurd (omega arith)
padded_at (suc n) k [] h = padded_none (suc n) k
padded_at (suc n) zero (v ∷ vs) h = refl
padded_at (suc n) (suc k) (v ∷ vs) h = padded_at n k vs (omega arith)

-- Place i of word k.
pub packed_split : (width n m k i : ℕ) (vs : List ℕ) → Narrow width vs → k < m → i < suc n → get_or (split width (suc n) (get_or (packed width (suc n) m vs) k 0)) i 0 ≡ get_or vs (k * suc n + i) 0
packed_split width n m k i vs h inside few =
    ap (λ w. get_or (split width (suc n) w) i 0) (packed_word width (suc n) m k vs inside)
    ∙ ap (λ l. get_or l i 0) (split_joined width (suc n) (drop (k * suc n) vs) (narrow_drop width (k * suc n) vs h))
    ∙ padded_at (suc n) i (drop (k * suc n) vs) few
    ∙ get_or-drop (k * suc n) vs i 0

pub packed_shift : (width n m k i : ℕ) (vs : List ℕ) → Narrow width vs → k < m → i ≤ n → get_or (packed width (suc n) m vs) k 0 / 2 ^ (width * n - i * width) % 2 ^ width ≡ get_or vs (k * suc n + i) 0
packed_shift width n m k i vs h inside few =
    let small = joined_small width (suc n) (drop (k * suc n) vs) (narrow_drop width (k * suc n) vs h) in
    split_shift width n i (get_or (packed width (suc n) m vs) k 0) (rw (packed_word width (suc n) m k vs inside) small) few
    ∙ packed_split width n m k i vs h inside (omega arith)

word_of : (n k i : ℕ) → i < k → i / suc n < words_for (suc n) k
word_of n k i h =
    let a : i / suc n * suc n + i % suc n ≡ i = div-add-mod' i (suc n) in
    let s : suc (i / suc n) * suc n ≡ i / suc n * suc n + suc n = suc-mul (i / suc n) (suc n) in
    (le-div_iff_mul-le {k = suc n} {x = suc (i / suc n)} {y = k + (suc n - 1)} (omega arith)).1 (omega arith)

-- Field number i of a list that was packed, whatever follows.
pub packed_field : (width n : ℕ) (vs rest : List ℕ) (i : ℕ) → per_word width ≡ suc n → Narrow width vs → i < length vs → field_at width (pack width vs ++ rest) i ≡ get_or vs i 0
unfolding field_at
packed_field width n vs rest i e h k =
    let m = words_for (suc n) (length vs) in
    let inside : i / suc n < m = word_of n (length vs) i k in
    (λ j. get_or (split width (e j) (get_or (packed width (e j) (words_for (e j) (length vs)) vs ++ rest) (i / e j) 0)) (i % e j) 0)
    ∙ ap (λ w. get_or (split width (suc n) w) (i % suc n) 0)
    (get_or-append (packed width (suc n) m vs) rest 0 (i / suc n) (rw length_packed inside))
    ∙ packed_split width n m (i / suc n) (i % suc n) vs h inside (mod-lt i (omega arith))
    ∙ ap (λ x. get_or vs x 0) (div-add-mod' i (suc n))

-- ---- the first values
pub length_firsts : (f : ℕ → ℕ) (n : ℕ) → length (firsts f n) ≡ n
unfolding firsts
length_firsts f zero = refl
length_firsts f (suc n) = omega (arith, length-append (firsts f n) (f n ∷ []), length_firsts f n)

pub firsts_same : (f g : ℕ → ℕ) (n : ℕ) → ((i : ℕ) → i < n → f i ≡ g i) → firsts f n ≡ firsts g n
unfolding firsts
firsts_same f g zero h = refl
firsts_same f g (suc n) h = ap₂ (λ l x. l ++ x ∷ []) (firsts_same f g n (λ i k. h i (omega arith))) (h n (omega arith))

firsts_take : (xs : List ℕ) (n : ℕ) → n ≤ length xs → firsts (λ i. get_or xs i 0) n ≡ take n xs
unfolding firsts
firsts_take xs zero h = refl
firsts_take xs (suc n) h = ap (λ l. l ++ get_or xs n 0 ∷ []) (firsts_take xs n (omega arith)) ∙ sym (take-suc xs n 0 (omega arith))

-- Where a list's words stand, its fields are the list.
pub fields_held : (width n : ℕ) (ws vs rest : List ℕ) → per_word width ≡ suc n → ws ≡ pack width vs ++ rest → Narrow width vs → firsts (field_at width ws) (length vs) ≡ vs
fields_held width n ws vs rest whole here h =
    firsts_same (field_at width ws) (λ i. get_or vs i 0) (length vs) (λ i k. ap (λ l. field_at width l i) here ∙ packed_field width n vs rest i whole h k)
    ∙ firsts_take vs (length vs) (omega arith)
    ∙ take-length vs

-- ---- lists of numbers, and of consulted entries
pub narrow_below : (width n : ℕ) (vs : List ℕ) → n ≤ 2 ^ width → Below n vs → Narrow width vs
narrow_below width n [] h b = tt
narrow_below width n (v ∷ vs) h b = (let k : v < n = b.0 in le_trans k h, narrow_below width n vs h b.1)

pub presence_few : (p : Presence) → presence_field p < presence_count
presence_few absent = omega arith
presence_few present = omega arith
presence_few unknown = omega arith
presence_few silent = omega arith

pub seen_back : (p : Presence) → seen_in (presence_field p) ≡ p
seen_back absent = refl
seen_back present = refl
seen_back unknown = refl
seen_back silent = refl

pub narrow_entries : (es : Consulted) → Named es → Narrow entry_bits (map entry_field es)
narrow_entries [] h = tt
narrow_entries (e ∷ es) h = (omega (arith, presence_few e.seen, h.0), narrow_entries es h.1)

pub fact_field : (fs rest ws : List ℕ) (i : ℕ) → Below fact_count fs → i < length fs → pack entry_bits fs ++ rest ≡ ws → field_at entry_bits ws i ≡ get_or fs i 0
fact_field fs rest ws i b k e = ap (λ l. field_at entry_bits l i) (sym e) ∙ packed_field entry_bits 1 fs rest i refl (narrow_below entry_bits fact_count fs (omega arith) b) k

pub entry_field_lem : (es : Consulted) (rest ws : List ℕ) (i : ℕ) → Named es → i < length es → pack entry_bits (map entry_field es) ++ rest ≡ ws → field_at entry_bits ws i ≡ get_or (map entry_field es) i 0
entry_field_lem es rest ws i h k e =
    ap (λ l. field_at entry_bits l i) (sym e)
    ∙ packed_field entry_bits 1 (map entry_field es) rest i refl (narrow_entries es h) (let l = length-map es entry_field in omega arith)

-- ---- an entry by its field
abbrev pub no_entry : Entry
no_entry = record { fact = 0; seen = absent }

field_of : (es : Consulted) (i : ℕ) → i < length es → get_or (map entry_field es) i 0 ≡ entry_field (get_or es i no_entry)
field_of [] i h = absurd (omega arith)
field_of (e ∷ es) zero h = refl
field_of (e ∷ es) (suc i) h = field_of es i (omega arith)

names_fact : (es : Consulted) (i : ℕ) → Named es → i < length es → (get_or es i no_entry).fact < fact_count
names_fact [] i n h = absurd (omega arith)
names_fact (e ∷ es) zero n h = n.0
names_fact (e ∷ es) (suc i) n h = names_fact es i n.1 (omega arith)

-- What a field says is the entry of a fact: the fact, and how it was seen.
pub record EntryIn (field : ℕ) (e : Entry) : Type 0 where
  pub fact_is : field % fact_count ≡ e.fact
  pub seen_is : seen_in (field / 16384) ≡ e.seen

entry_of : (b : ℕ) (e : Entry) → e.fact < fact_count → b ≡ entry_field e → EntryIn b e
entry_of b e h is = record { fact_is = omega arith; seen_is = ap seen_in (let k : b / 16384 ≡ presence_field e.seen = omega arith in k) ∙ seen_back e.seen }

-- Where entries stand, the field of each says it.
pub entry_at : (es : Consulted) (rest ws : List ℕ) (i b : ℕ) → Named es → i < length es → pack entry_bits (map entry_field es) ++ rest ≡ ws → b ≡ field_at entry_bits ws i → EntryIn b (get_or es i no_entry)
entry_at es rest ws i b n h were e = entry_of b (get_or es i no_entry) (names_fact es i n h) (e ∙ entry_field_lem es rest ws i n h were ∙ field_of es i h)

-- Words don't end before the entries that stand after their first.
pub entries_there : (es : Consulted) (rest words : List ℕ) (i : ℕ) → i < length es → pack entry_bits (map entry_field es) ++ rest ≡ drop 1 words → 1 + i / 2 < length words
entries_there es rest words i h were =
    let long : length (pack entry_bits (map entry_field es)) ≡ (length es + 1) / 2 = length_pack entry_bits (map entry_field es) ∙ ap (λ m. (m + 1) / 2) (length-map es entry_field) in
    omega (arith, long, ap length were, length-append (pack entry_bits (map entry_field es)) rest, length-drop 1 words)
