-- A list of obligations, word by word: how many are to come. Assumes nothing.
use Rattle.std.specs.Prelude.{Result, Ok, Err}
use mathlib.Core.Path.{◌≡◌, refl, sym, ◌∙◌, ap, ap₂}
use mathlib.Core.Bool.{Bool, true, false, cond, ◌&&◌}
use mathlib.Core.List.{List, [], ◌∷◌}
use Prim.Native.Nat.{ℕ, zero, suc, ◌+◌, ◌-◌, ◌*◌, ◌/◌, ◌%◌, ◌≤◌, ◌<◌}
use Prim.Native.Nat.{min}
use lib.Bits.{bit_and}
use native.Mathlib.Nat.{div-one}
use native.Mathlib.Numerals.{sub-one}
use native.Mathlib.Omega.{arith}
use borrow.Author.Tests.{ltb-true, ltb-false, eq-eqb, ne_eqb}
use Rattle.std.proofs.lemmas.Nat.{and_mask, and_block}
use Rattle.std.proofs.lemmas.Nat.Bits.{and_high}
use lib.Dec.{eqb, ltb, eqb-suc-zero}
use lib.ListN.{length, drop, get_or}
use Rattle.model.specs.Fields.{split, words_for}
use Rattle.model.specs.Writing.{obligation_bits}
use Rattle.model.specs.Reading.{got, unless, Fields, bad, ok, put, take_field, take_fields, read_words, read_list, obligation, obligation_count}
use Rattle.laws.specs.Size.{quads}
use Rattle.laws.proofs.FieldLaws.{bad_words_lem}
use Rattle.laws.proofs.WordLaws.{words_for_none, words_for_more}
use Rattle.laws.proofs.ReadForm.{same_obligation}
use Rattle.policy_model.specs.Answers.{checked}
use Rattle.policy_model.specs.Lists.{seen_one, seen_all}
use Rattle.policy_model.proofs.Checking.{word_at, no_word, passed_on, Leaves}
use Rattle.policy_model.proofs.Fields.{up_to, left, list_ends, list_leaves}
use Rattle.policy_model.proofs.Fields.{Left as ToCome}

-- ---- fields
-- What was taken: how many are to come.
abbrev state_of : Fields ℕ → Result ℕ ℕ
state_of (bad n) = Err n
state_of (ok xs k) = Ok k

last_zero : (xs : List ℕ) (t : Bool) → cond t (Ok 0) (Err 8) ≡ state_of (cond t (ok xs zero) (bad 8))
last_zero xs true = refl
last_zero xs false = refl

one_seen : (xs : List ℕ) (k b : ℕ) (t : Bool) → cond t (Ok k) (Err 8) ≡ state_of (put xs k (unless t 8 (got b [])))
one_seen xs k b true = refl
one_seen xs k b false = refl

seen_one_lem : (t : Fields ℕ) (b : ℕ) → seen_one (state_of t) b ≡ state_of (take_field obligation t b)
unfolding seen_one
seen_one_lem (bad n) b = refl
seen_one_lem (ok xs zero) b = last_zero xs (eqb b 0)
seen_one_lem (ok xs (suc k)) b = rw (eqb-suc-zero k, sub-one) (one_seen xs k b (ltb b obligation_count))

seen_all_lem : (bs : List ℕ) (t : Fields ℕ) → seen_all (state_of t) bs ≡ state_of (take_fields obligation t bs)
unfolding seen_all
seen_all_lem [] t = refl
seen_all_lem (b ∷ bs) t = ap (λ s. seen_all s bs) (seen_one_lem t b) ∙ seen_all_lem bs (take_field obligation t b)

-- ---- words
-- The words of a list, by how many are to come.
unfoldable pub walk : ℕ → List ℕ → Result ℕ ℕ → Result ℕ ℕ
walk at [] (Err n) = Err n
walk at [] (Ok zero) = Ok at
walk at [] (Ok (suc k)) = Err 6
walk at (w ∷ ws) (Err n) = Err n
walk at (w ∷ ws) (Ok zero) = Ok at
walk at (w ∷ ws) (Ok (suc k)) = walk (at + 1) ws (seen_all (Ok (suc k)) (split obligation_bits 4 w))

abbrev to_come : Fields ℕ → ℕ
to_come (bad n) = 0
to_come (ok xs k) = k

-- After a word the list ends where it did.
same_end : (at k : ℕ) (ws : List ℕ) (t : Fields ℕ) → ToCome obligation (suc k - 4) t →
    up_to (at + 1 + words_for 4 (to_come t)) (read_words obligation obligation_bits 4 ws t) ≡ up_to (at + words_for 4 (suc k)) (read_words obligation obligation_bits 4 ws t)
same_end at k ws (bad n) h = rw (bad_words_lem obligation obligation_bits 4 ws n)
same_end at k ws (ok xs m) h =
    let e : m ≡ k - 3 = h.it ∙ omega arith in
    let f : words_for 4 m ≡ words_for 4 (k - 3) = ap (words_for 4) e in
    let g : at + 1 + words_for 4 m ≡ at + words_for 4 (suc k) = omega (arith, words_for_more 3 k) in
    ap (λ n. up_to n (read_words obligation obligation_bits 4 ws (ok xs m))) g

ended : (at : ℕ) → ◌≡◌ {A = Result ℕ ℕ} (Ok at) (Ok (at + words_for 4 0))
ended at = ap Ok (omega (arith, words_for_none 3))

walk_is : (ws : List ℕ) (at : ℕ) (t : Fields ℕ) → walk at ws (state_of t) ≡ up_to (at + words_for 4 (to_come t)) (read_words obligation obligation_bits 4 ws t)
unfolding walk
walk_is [] at (bad n) = refl
walk_is [] at (ok xs zero) = ended at
walk_is [] at (ok xs (suc k)) = refl
walk_is (w ∷ ws) at (bad n) = refl
walk_is (w ∷ ws) at (ok xs zero) = ended at
walk_is (w ∷ ws) at (ok xs (suc k)) =
    let bs = split obligation_bits 4 w in
    let t = take_fields obligation (ok xs (suc k)) bs in
    ap (walk (at + 1) ws) (seen_all_lem bs (ok xs (suc k))) ∙ walk_is ws (at + 1) t ∙ same_end at k ws t (left obligation bs xs (suc k))

-- The loop over the words: a word more, and its three ends.
one_word : (at w k : ℕ) (ws : List ℕ) → (k ≡ 0 → ⊥) → walk (at + 1) ws (seen_all (Ok k) (split obligation_bits 4 w)) ≡ walk at (w ∷ ws) (Ok k)
unfolding walk
one_word at w zero ws f = absurd (f refl)
one_word at w (suc k) ws f = refl

no_word_left : (at k : ℕ) → (k ≡ 0 → ⊥) → Err 6 ≡ walk at [] (Ok k)
unfolding walk
no_word_left at zero f = absurd (f refl)
no_word_left at (suc k) f = refl

all_seen : (at : ℕ) (ws : List ℕ) → Ok at ≡ walk at ws (Ok 0)
unfolding walk
all_seen at [] = refl
all_seen at (w ∷ ws) = refl

refused_at : (at n : ℕ) (ws : List ℕ) → Err n ≡ walk at ws (Err n)
unfolding walk
refused_at at n [] = refl
refused_at at n (w ∷ ws) = refl

module _ (words : List ℕ) (at left : ℕ) where
  pub walk_word : (s : Result ℕ ℕ) → at < length words → (left ≡ 0 → ⊥) → s ≡ seen_all (Ok left) (split obligation_bits 4 (get_or words at 0)) →
      walk (at + 1) (drop (at + 1) words) s ≡ walk at (drop at words) (Ok left)
  walk_word s h f e =
      ap (walk (at + 1) (drop (at + 1) words)) e
      ∙ one_word at (get_or words at 0) left (drop (at + 1) words) f
      ∙ ap (λ us. walk at us (Ok left)) (sym (word_at words at h))

  pub walk_refused : (n : ℕ) → at < length words → (left ≡ 0 → ⊥) → Err n ≡ seen_all (Ok left) (split obligation_bits 4 (get_or words at 0)) →
      Err n ≡ walk at (drop at words) (Ok left)
  walk_refused n h f e = refused_at (at + 1) n (drop (at + 1) words) ∙ walk_word (Err n) h f e

  pub walk_short : length words ≤ at → (left ≡ 0 → ⊥) → Err 6 ≡ walk at (drop at words) (Ok left)
  walk_short h f = no_word_left at left f ∙ ap (λ us. walk at us (Ok left)) (sym (no_word words at h))

  pub walk_done : left ≡ 0 → Ok at ≡ walk at (drop at words) (Ok left)
  walk_done e = all_seen at (drop at words) ∙ ap (λ k. walk at (drop at words) (Ok k)) (sym e)

-- A word that was passed has four of the count.
left_over : (n m : ℕ) (t : Fields ℕ) → ToCome obligation m t → ◌≡◌ {A = Result ℕ ℕ} (Ok n) (state_of t) → n ≡ m
left_over n m (bad e) h f = absurd cc
left_over n m (ok xs k) h f = let same : n ≡ k = cc in same ∙ h.it

pub four_passed : (left n w : ℕ) → ◌≡◌ {A = Result ℕ ℕ} (Ok n) (seen_all (Ok left) (split obligation_bits 4 w)) → n ≡ left - 4
four_passed k n w e =
    let bs = split obligation_bits 4 w in
    left_over n (k - 4) (take_fields obligation (ok [] k) bs) (left obligation bs [] k) (e ∙ seen_all_lem bs (ok [] k))

-- The walk from the first word on is the check of the list.
pub walk_list : (words : List ℕ) (at k : ℕ) → walk at (drop at words) (Ok k) ≡ checked quads at (read_list obligation obligation_bits k (drop at words))
walk_list words at k = walk_is (drop at words) at (ok [] k) ∙ sym (list_ends (λ o. o) obligation same_obligation obligation_bits 3 refl at k (drop at words))

pub obligations_leave : (k : ℕ) (us : List ℕ) → Leaves quads us (read_list obligation obligation_bits k us)
obligations_leave k us = list_leaves (λ o. o) obligation same_obligation obligation_bits 3 refl k us

-- The four fields of a word.
four_fields : (w : ℕ) → split obligation_bits 4 w ≡ w / 16777216 ∷ w % 16777216 / 65536 ∷ w % 65536 / 256 ∷ w % 256 ∷ []
four_fields w =
    let a : w % 16777216 % 65536 ≡ w % 65536 = omega arith in
    let b : w % 16777216 % 65536 % 256 ≡ w % 256 = omega arith in
    ap₂ (λ x y. w / 16777216 ∷ w % 16777216 / 65536 ∷ x ∷ y ∷ []) (ap (λ n. n / 256) a) (div-one (w % 16777216 % 65536 % 256) ∙ b)

-- A field by how many are to come: whether it is accepted, and the bits of it that must be 0.
abbrev good : ℕ → ℕ → Bool
good zero b = eqb b 0
good (suc k) b = ltb b 64

abbrev outside : ℕ → ℕ
outside zero = 255
outside (suc k) = 192

unfoldable all_good : ℕ → List ℕ → Bool
all_good k [] = true
all_good k (b ∷ bs) = good k b && all_good (k - 1) bs

field_by : (k b : ℕ) → seen_one (Ok k) b ≡ cond (good k b) (Ok (k - 1)) (Err 8)
unfolding seen_one
field_by zero b = refl
field_by (suc k) b = rw (eqb-suc-zero k)

refused_on : (n : ℕ) (bs : List ℕ) → seen_all (Err n) bs ≡ Err n
unfolding seen_all seen_one
refused_on n [] = refl
refused_on n (b ∷ bs) = refused_on n bs

by_first : (k : ℕ) (bs : List ℕ) (t : Bool) → seen_all (Ok (k - 1)) bs ≡ cond (all_good (k - 1) bs) (Ok (k - 1 - length bs)) (Err 8) →
    seen_all (cond t (Ok (k - 1)) (Err 8)) bs ≡ cond (t && all_good (k - 1) bs) (Ok (k - suc (length bs))) (Err 8)
by_first k bs true h = h ∙ ap (λ n. cond (all_good (k - 1) bs) (Ok n) (Err 8)) (omega arith)
by_first k bs false h = refused_on 8 bs

fields_by : (k : ℕ) (bs : List ℕ) → seen_all (Ok k) bs ≡ cond (all_good k bs) (Ok (k - length bs)) (Err 8)
unfolding seen_all all_good
fields_by k [] = ap Ok (omega arith)
fields_by k (b ∷ bs) = ap (λ s. seen_all s bs) (field_by k b) ∙ by_first k bs (good k b) (fields_by (k - 1) bs)

-- The bits that must be 0, field by field.
high_zero : (b : ℕ) (t : Bool) → ltb b 64 ≡ t → b < 256 → eqb (b / 64 % 4 * 64) 0 ≡ t
high_zero b true e h = let small : b < 64 = ltb-true b 64 e in eq-eqb (b / 64 % 4 * 64) 0 (omega arith)
high_zero b false e h = let big : 64 ≤ b = ltb-false b 64 e in ne_eqb (b / 64 % 4 * 64) 0 (λ z. omega arith)

bits_zero : (k b : ℕ) → b < 256 → eqb (bit_and b (outside k)) 0 ≡ good k b
bits_zero zero b h = ap (λ n. eqb n 0) (and_mask b 8 ∙ omega arith)
bits_zero (suc k) b h = ap (λ n. eqb n 0) (and_high b 2 6) ∙ high_zero b (ltb b 64) refl h

sum_zero : (x y : ℕ) → eqb (x * 256 + y) 0 ≡ (eqb x 0 && eqb y 0)
sum_zero zero y = ap (λ n. eqb n 0) (omega arith)
sum_zero (suc x) y = ne_eqb (suc x * 256 + y) 0 (λ z. omega arith) ∙ rw (eqb-suc-zero x)

in_order : (x y z t : Bool) → (((x && y) && z) && t) ≡ (x && (y && (z && (t && true))))
in_order true true true true = refl
in_order true true true false = refl
in_order true true false t = refl
in_order true false z t = refl
in_order false y z t = refl

module _ (k a b c d : ℕ) (of_a : a < 256) (of_b : b < 256) (of_c : c < 256) (of_d : d < 256) where
  abbrev outside_all : ℕ
  outside_all = ((outside k * 256 + outside (k - 1)) * 256 + outside (k - 1 - 1)) * 256 + outside (k - 1 - 1 - 1)

  few : (n : ℕ) → outside n < 256
  few zero = omega arith
  few (suc n) = omega arith

  by_fields : bit_and (((a * 256 + b) * 256 + c) * 256 + d) outside_all ≡ ((bit_and a (outside k) * 256 + bit_and b (outside (k - 1))) * 256 + bit_and c (outside (k - 1 - 1))) * 256 + bit_and d (outside (k - 1 - 1 - 1))
  by_fields =
      and_block 8 ((a * 256 + b) * 256 + c) ((outside k * 256 + outside (k - 1)) * 256 + outside (k - 1 - 1)) d (outside (k - 1 - 1 - 1)) of_d (few (k - 1 - 1 - 1))
      ∙ ap (λ n. n * 256 + bit_and d (outside (k - 1 - 1 - 1)))
      (and_block 8 (a * 256 + b) (outside k * 256 + outside (k - 1)) c (outside (k - 1 - 1)) of_c (few (k - 1 - 1))
      ∙ ap (λ n. n * 256 + bit_and c (outside (k - 1 - 1))) (and_block 8 a (outside k) b (outside (k - 1)) of_b (few (k - 1))))

  four_zero : eqb (bit_and (((a * 256 + b) * 256 + c) * 256 + d) outside_all) 0 ≡ all_good k (a ∷ b ∷ c ∷ d ∷ [])
  unfolding all_good
  four_zero =
      ap (λ n. eqb n 0) by_fields
      ∙ sum_zero ((bit_and a (outside k) * 256 + bit_and b (outside (k - 1))) * 256 + bit_and c (outside (k - 1 - 1))) (bit_and d (outside (k - 1 - 1 - 1)))
      ∙ ap (λ t. t && eqb (bit_and d (outside (k - 1 - 1 - 1))) 0)
      (sum_zero (bit_and a (outside k) * 256 + bit_and b (outside (k - 1))) (bit_and c (outside (k - 1 - 1)))
      ∙ ap (λ t. t && eqb (bit_and c (outside (k - 1 - 1))) 0) (sum_zero (bit_and a (outside k)) (bit_and b (outside (k - 1)))))
      ∙ rw (bits_zero k a of_a, bits_zero (k - 1) b of_b, bits_zero (k - 1 - 1) c of_c, bits_zero (k - 1 - 1 - 1) d of_d)
      (in_order (good k a) (good (k - 1) b) (good (k - 1 - 1) c) (good (k - 1 - 1 - 1) d))

-- The bits of the table.
abbrev table : List ℕ
table = 4294967295 ∷ 3238002687 ∷ 3233873919 ∷ 3233857791 ∷ 3233857728 ∷ []

tabled : (k m : ℕ) → m ≡ min k 4 → get_or table m 0 ≡ ((outside k * 256 + outside (k - 1)) * 256 + outside (k - 1 - 1)) * 256 + outside (k - 1 - 1 - 1)
tabled zero m e = let z : m ≡ 0 = omega arith in rw z
tabled (suc zero) m e = let z : m ≡ 1 = omega arith in rw z
tabled (suc (suc zero)) m e = let z : m ≡ 2 = omega arith in rw z
tabled (suc (suc (suc zero))) m e = let z : m ≡ 3 = omega arith in rw z
tabled (suc (suc (suc (suc k)))) m e = let z : m ≡ 4 = omega arith in rw (z, sub-one, sub-one, sub-one)

word_is : (w : ℕ) → ((w / 16777216 * 256 + w % 16777216 / 65536) * 256 + w % 65536 / 256) * 256 + w % 256 ≡ w
word_is w = omega arith

pub word_seen : (k m w : ℕ) (t : Bool) → w < 4294967296 → m ≡ min k 4 → eqb (bit_and w (get_or table m 0)) 0 ≡ t → cond t (Ok (k - 4)) (Err 8) ≡ seen_all (Ok k) (split obligation_bits 4 w)
word_seen k m w t h e f =
    let a = w / 16777216 in
    let b = w % 16777216 / 65536 in
    let c = w % 65536 / 256 in
    let d = w % 256 in
    let zero_by : eqb (bit_and (((a * 256 + b) * 256 + c) * 256 + d) (((outside k * 256 + outside (k - 1)) * 256 + outside (k - 1 - 1)) * 256 + outside (k - 1 - 1 - 1))) 0 ≡ all_good k (a ∷ b ∷ c ∷ d ∷ []) =
    four_zero k a b c d (omega arith) (omega arith) (omega arith) (omega arith) in
    ap (λ x. cond x (Ok (k - 4)) (Err 8)) (sym f ∙ ap (λ n. eqb (bit_and w n) 0) (tabled k m e) ∙ rw (word_is w) at zero_by)
    ∙ sym (fields_by k (a ∷ b ∷ c ∷ d ∷ []))
    ∙ ap (seen_all (Ok k)) (sym (four_fields w))

-- What the loop over the words asks.
pub ruleset walks = (passed_on, walk_word, walk_refused, walk_short, walk_done, walk_list, four_passed)
