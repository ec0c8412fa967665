-- Lists of facts and of consulted entries: a test of each word decides. Assumes nothing.
use Rattle.std.specs.Prelude.{Result, Ok, Err}
use mathlib.Core.Path.{◌≡◌, refl, sym, ◌∙◌, ap, subst}
use mathlib.Core.Bool.{Bool, true, false, cond, ◌&&◌}
use mathlib.Core.List.{List, [], ◌∷◌, ◌++◌}
use Prim.Native.Nat.{ℕ, zero, suc, ◌+◌, ◌-◌, ◌/◌, ◌%◌, ◌≤◌, ◌<◌}
use native.Mathlib.Nat.{div-one}
use native.Mathlib.Numerals.{sub-one}
use native.Mathlib.Omega.{arith}
use borrow.Author.Tests.{le-ltb, ltb-true, ltb-false}
use lib.Dec.{eqb, ltb, eqb-suc-zero, eqb-suc-suc}
use lib.ListN.{length, drop, get_or}
use Rattle.model.specs.Fields.{split, words_for}
use Rattle.model.specs.Consulted.{Consulted}
use Rattle.model.specs.Writing.{entry_bits, seen_in, entry_field}
use Rattle.model.specs.Reading.{Parsed, refuse, got, unless, bad, ok, put, take_field, take_fields, read_words, read_list, listed, presence_count, consulted}
use Rattle.laws.specs.Size.{pairs}
use Rattle.laws.proofs.FieldLaws.{bad_words_lem, Holds, weaker, same_list_lem}
use Rattle.laws.proofs.WordLaws.{words_for_none, words_for_more}
use Rattle.laws.proofs.ReadForm.{same_listed, same_consulted}
use Rattle.policy_model.specs.Answers.{checked}
use Rattle.policy_model.specs.Lists.{entry_fits, pair_fits, checked_pairs}
use Rattle.policy_model.proofs.Checking.{word_at, no_word, Leaves}
use Rattle.policy_model.proofs.Fields.{up_to, list_ends, list_leaves}

-- A test decides whether a field is accepted; what isn't gives 8.
abbrev JudgedAt : {A : Type 0} → Bool → Parsed A → Type 0
JudgedAt true (got a ws) = Unit {0}
JudgedAt true (refuse n) = ⊥
JudgedAt false (got a ws) = ⊥
JudgedAt false (refuse n) = n ≡ 8

pub record Judged {A : Type 0} (t : Bool) (q : Parsed A) : Type 0 where
  pub it : JudgedAt t q

pub judge_unless : {A : Type 0} (t : Bool) (a : A) (ws : List ℕ) → Judged t (unless t 8 (got a ws))
judge_unless true a ws = record { it = tt }
judge_unless false a ws = record { it = refl }

module _ {A : Type 0} (presences : ℕ) (chk : List A → ℕ → Parsed A) (judge : (xs : List A) (b : ℕ) → Judged (entry_fits presences b) (chk xs b)) where
  refused_here : (end : ℕ) (ws : List ℕ) (e : ℕ) → e ≡ 8 → Err 8 ≡ up_to end (read_words chk entry_bits 2 ws (bad e))
  refused_here end ws e h = ap Err (sym h) ∙ sym (ap (up_to end) (bad_words_lem chk entry_bits 2 ws e))

  last_field : (end : ℕ) (ws : List ℕ) (xs : List A) (t : Bool) (r : Result ℕ ℕ) → r ≡ up_to end (read_words chk entry_bits 2 ws (ok xs zero)) →
      cond t r (Err 8) ≡ up_to end (read_words chk entry_bits 2 ws (cond t (ok xs zero) (bad 8)))
  last_field end ws xs true r h = h
  last_field end ws xs false r h = refused_here end ws 8 refl

  second_field : (end k : ℕ) (ws : List ℕ) (xs : List A) (t : Bool) (q : Parsed A) (r : Result ℕ ℕ) → Judged t q →
      ((ys : List A) → r ≡ up_to end (read_words chk entry_bits 2 ws (ok ys k))) → cond t r (Err 8) ≡ up_to end (read_words chk entry_bits 2 ws (put xs k q))
  second_field end k ws xs true (got a vs) r j h = h (xs ++ a ∷ [])
  second_field end k ws xs true (refuse e) r j h = absurd j.it
  second_field end k ws xs false (got a vs) r j h = absurd j.it
  second_field end k ws xs false (refuse e) r j h = refused_here end ws e j.it

  -- the first field, and then the second: an entry, or 0 after the last one
  first_field : (end k : ℕ) (ws : List ℕ) (xs : List A) (t u : Bool) (b : ℕ) (q : Parsed A) (r : Result ℕ ℕ) → Judged t q →
      ((ys : List A) → cond u r (Err 8) ≡ up_to end (read_words chk entry_bits 2 ws (take_field chk (ok ys k) b))) →
      cond (t && u) r (Err 8) ≡ up_to end (read_words chk entry_bits 2 ws (take_field chk (put xs k q) b))
  first_field end k ws xs true u b (got a vs) r j h = h (xs ++ a ∷ [])
  first_field end k ws xs true u b (refuse e) r j h = absurd j.it
  first_field end k ws xs false u b (got a vs) r j h = absurd j.it
  first_field end k ws xs false u b (refuse e) r j h = refused_here end ws e j.it

  both_fields : (end k a b : ℕ) (ws : List ℕ) (xs : List A) (r : Result ℕ ℕ) → ((ys : List A) → r ≡ up_to end (read_words chk entry_bits 2 ws (ok ys (k - 1)))) →
      cond (entry_fits presences a && cond (eqb (suc k) 1) (eqb b 0) (entry_fits presences b)) r (Err 8)
      ≡ up_to end (read_words chk entry_bits 2 ws (take_fields chk (ok xs (suc k)) (a ∷ b ∷ [])))
  both_fields end zero a b ws xs r h =
      first_field end zero ws xs (entry_fits presences a) (eqb b 0) b (chk xs a) r (judge xs a) (λ ys. last_field end ws ys (eqb b 0) r (h ys))
  both_fields end (suc k) a b ws xs r h =
      ap (λ t. cond (entry_fits presences a && cond t (eqb b 0) (entry_fits presences b)) r (Err 8)) (eqb-suc-suc (suc k) 0 ∙ eqb-suc-zero k)
      ∙ first_field end (suc k) ws xs (entry_fits presences a) (entry_fits presences b) b (chk xs a) r (judge xs a)
      (λ ys. second_field end k ws ys (entry_fits presences b) (chk ys b) r (judge ys b) (λ zs. h zs ∙ ap (λ n. up_to end (read_words chk entry_bits 2 ws (ok zs n))) (sub-one (suc k))))

  two_fields : (w : ℕ) → split entry_bits 2 w ≡ w / 65536 ∷ w % 65536 ∷ []
  two_fields w = ap (λ b. w / 65536 ∷ b ∷ []) (div-one (w % 65536))

  ended : (at : ℕ) → ◌≡◌ {A = Result ℕ ℕ} (Ok at) (Ok (at + words_for 2 0))
  ended at = ap Ok (omega (arith, words_for_none 1))

  pairs_are : (ws : List ℕ) (at k : ℕ) (xs : List A) → checked_pairs presences at ws k ≡ up_to (at + words_for 2 k) (read_words chk entry_bits 2 ws (ok xs k))
  unfolding checked_pairs pair_fits
  pairs_are [] at zero xs = ended at
  pairs_are [] at (suc k) xs = refl
  pairs_are (w ∷ ws) at zero xs = ended at
  pairs_are (w ∷ ws) at (suc k) xs =
      let end : at + 1 + words_for 2 (k - 1) ≡ at + words_for 2 (suc k) = omega (arith, words_for_more 1 k) in
      both_fields (at + words_for 2 (suc k)) k (w / 65536) (w % 65536) ws xs (checked_pairs presences (at + 1) ws (k - 1))
      (λ ys. pairs_are ws (at + 1) (k - 1) ys ∙ ap (λ n. up_to n (read_words chk entry_bits 2 ws (ok ys (k - 1)))) end)
      ∙ ap (λ bs. up_to (at + words_for 2 (suc k)) (read_words chk entry_bits 2 ws (take_fields chk (ok xs (suc k)) bs))) (sym (two_fields w))

-- ---- listed facts: presence 0; consulted entries: presence 0 to 3
fits_one : (b : ℕ) → ltb b 1024 ≡ entry_fits 1 b
unfolding entry_fits
fits_one b = by_presence (ltb (b / 16384) 1) refl
  where
    by_presence : (t : Bool) → ltb (b / 16384) 1 ≡ t → ltb b 1024 ≡ (t && ltb (b % 16384) 1024)
    by_presence true e =
        let z : b / 16384 < 1 = ltb-true (b / 16384) 1 e in
        ap (λ n. ltb n 1024) (let same : b ≡ b % 16384 = omega arith in same)
    by_presence false e =
        let z : 1 ≤ b / 16384 = ltb-false (b / 16384) 1 e in
        le-ltb b 1024 (omega arith)

judge_listed : (fs : List ℕ) (b : ℕ) → Judged (entry_fits 1 b) (listed fs b)
judge_listed fs b = subst (λ t. Judged t (listed fs b)) (fits_one b) (judge_unless (ltb b 1024) b [])

judge_consulted : (es : Consulted) (b : ℕ) → Judged (entry_fits presence_count b) (consulted es b)
unfolding entry_fits
judge_consulted es b = judge_unless (ltb (b / 16384) 4 && ltb (b % 16384) 1024) (record { fact = b % 16384; seen = seen_in (b / 16384) }) []

pub facts_checked : (at k : ℕ) (us : List ℕ) → checked_pairs 1 at us k ≡ checked pairs at (read_list listed entry_bits k us)
facts_checked at k us = pairs_are 1 listed judge_listed us at k [] ∙ sym (list_ends (λ f. f) listed same_listed entry_bits 1 refl at k us)

pub entries_checked : (at k : ℕ) (us : List ℕ) → checked_pairs presence_count at us k ≡ checked pairs at (read_list consulted entry_bits k us)
entries_checked at k us = pairs_are presence_count consulted judge_consulted us at k [] ∙ sym (list_ends entry_field consulted same_consulted entry_bits 1 refl at k us)

pub entries_leave : (k : ℕ) (us : List ℕ) → Leaves pairs us (read_list consulted entry_bits k us)
entries_leave k us = list_leaves entry_field consulted same_consulted entry_bits 1 refl k us

pub entries_long : (k : ℕ) (us : List ℕ) → Holds (λ es vs. length es ≡ k) (read_list consulted entry_bits k us)
entries_long k us = weaker (read_list consulted entry_bits k us) (λ es vs h. h.long) (same_list_lem entry_field consulted same_consulted entry_bits 1 k us refl)

-- ---- the loop over the words: a word more, and its ends
one_word : (presences at w k : ℕ) (ws : List ℕ) → (k ≡ 0 → ⊥) → cond (pair_fits presences k w) (checked_pairs presences (at + 1) ws (k - 2)) (Err 8) ≡ checked_pairs presences at (w ∷ ws) k
unfolding checked_pairs
one_word presences at w zero ws f = absurd (f refl)
one_word presences at w (suc k) ws f = ap (λ n. cond (pair_fits presences (suc k) w) (checked_pairs presences (at + 1) ws n) (Err 8)) (let e : suc k - 2 ≡ k - 1 = omega arith in e)

no_word_left : (presences at k : ℕ) → (k ≡ 0 → ⊥) → Err 6 ≡ checked_pairs presences at [] k
unfolding checked_pairs
no_word_left presences at zero f = absurd (f refl)
no_word_left presences at (suc k) f = refl

all_there : (presences at : ℕ) (ws : List ℕ) → Ok at ≡ checked_pairs presences at ws 0
unfolding checked_pairs
all_there presences at [] = refl
all_there presences at (w ∷ ws) = refl

module _ (words : List ℕ) (at left presences : ℕ) where
  by_word : at < length words → (left ≡ 0 → ⊥) → (t : Bool) → pair_fits presences left (get_or words at 0) ≡ t →
      cond t (checked_pairs presences (at + 1) (drop (at + 1) words) (left - 2)) (Err 8) ≡ checked_pairs presences at (drop at words) left
  by_word h f t e =
      ap (λ b. cond b (checked_pairs presences (at + 1) (drop (at + 1) words) (left - 2)) (Err 8)) (sym e)
      ∙ one_word presences at (get_or words at 0) left (drop (at + 1) words) f
      ∙ ap (λ us. checked_pairs presences at us left) (sym (word_at words at h))

  pub pair_fits_lem : at < length words → (left ≡ 0 → ⊥) → pair_fits presences left (get_or words at 0) ≡ true →
      checked_pairs presences (at + 1) (drop (at + 1) words) (left - 2) ≡ checked_pairs presences at (drop at words) left
  pair_fits_lem h f e = by_word h f true e

  pub pair_refused : at < length words → (left ≡ 0 → ⊥) → pair_fits presences left (get_or words at 0) ≡ false → Err 8 ≡ checked_pairs presences at (drop at words) left
  pair_refused h f e = by_word h f false e

  pub pairs_short : length words ≤ at → (left ≡ 0 → ⊥) → Err 6 ≡ checked_pairs presences at (drop at words) left
  pairs_short h f = no_word_left presences at left f ∙ ap (λ us. checked_pairs presences at us left) (sym (no_word words at h))

  pub pairs_done : left ≡ 0 → Ok at ≡ checked_pairs presences at (drop at words) left
  pairs_done e = all_there presences at (drop at words) ∙ ap (checked_pairs presences at (drop at words)) (sym e)

pub ruleset pair_walks = (pair_fits_lem, pair_refused, pairs_short, pairs_done)
