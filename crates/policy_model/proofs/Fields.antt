-- Lists of fields, word by word: what is left to come, and where the list ends. For fields of any width. Assumes nothing.
use Rattle.std.specs.Prelude.{Result, Ok, Err}
use mathlib.Core.Path.{◌≡◌, refl, sym, ◌∙◌, ap, subst}
use mathlib.Core.Bool.{Bool, true, false, cond}
use mathlib.Core.List.{List, [], ◌∷◌, ◌++◌, map}
use Prim.Native.Nat.{ℕ, zero, suc, ◌+◌, ◌-◌}
use native.Mathlib.Omega.{arith}
use lib.Dec.{eqb}
use lib.ListN.{length, drop, length-map}
use lib.Seq.{drop_at}
use Rattle.model.specs.Fields.{words_for, per_word, pack}
use Rattle.model.specs.Reading.{Parsed, refuse, got, Fields, bad, ok, put, take_fields, read_list}
use Rattle.laws.proofs.FieldLaws.{bad_fields, Holds, weaker, same_list_lem}
use Rattle.laws.proofs.Lengths.{length_pack}
use Rattle.policy_model.specs.Answers.{checked}
use Rattle.policy_model.proofs.Checking.{Leaves}

-- A list that was read ends at `end`.
abbrev pub up_to : {A : Type 0} → ℕ → Parsed A → Result ℕ ℕ
up_to end (refuse n) = Err n
up_to end (got a ws) = Ok end

module _ {A : Type 0} (chk : List A → ℕ → Parsed A) where
  abbrev pub LeftAt : ℕ → Fields A → Type 0
  LeftAt m (bad e) = Unit {0}
  LeftAt m (ok xs k) = k ≡ m

  -- Of what is taken, m are left to come.
  pub record Left (m : ℕ) (t : Fields A) : Type 0 where
    pub it : LeftAt m t

  left_same : (m n : ℕ) (t : Fields A) → m ≡ n → Left m t → Left n t
  left_same m n t e h = subst (λ x. Left x t) e h

  left_bad : (m e : ℕ) (bs : List ℕ) → Left m (take_fields chk (bad e) bs)
  left_bad m e bs = subst (Left m) (sym (bad_fields chk bs e)) (record { it = tt })

  left_zero : (bs : List ℕ) (xs : List A) (t : Bool) → Left (0 - length bs) (take_fields chk (ok xs zero) bs) → Left (0 - suc (length bs)) (take_fields chk (cond t (ok xs zero) (bad 8)) bs)
  left_zero bs xs true h = left_same (0 - length bs) (0 - suc (length bs)) (take_fields chk (ok xs zero) bs) (omega arith) h
  left_zero bs xs false h = left_bad (0 - suc (length bs)) 8 bs

  left_put : (bs : List ℕ) (xs : List A) (k : ℕ) (q : Parsed A) → ((ys : List A) → Left (k - length bs) (take_fields chk (ok ys k) bs)) → Left (suc k - suc (length bs)) (take_fields chk (put xs k q) bs)
  left_put bs xs k (refuse e) h = left_bad (suc k - suc (length bs)) e bs
  left_put bs xs k (got a vs) h = left_same (k - length bs) (suc k - suc (length bs)) (take_fields chk (ok (xs ++ a ∷ []) k) bs) (omega arith) (h (xs ++ a ∷ []))

  pub left : (bs : List ℕ) (xs : List A) (k : ℕ) → Left (k - length bs) (take_fields chk (ok xs k) bs)
  left [] xs k = record { it = omega arith }
  left (b ∷ bs) xs zero = left_zero bs xs (eqb b 0) (left bs xs zero)
  left (b ∷ bs) xs (suc k) = left_put bs xs k (chk xs b) (λ ys. left bs ys k)

-- What a list that was read says of its words.
module _ {A : Type 0} (e : A → ℕ) (chk : List A → ℕ → Parsed A) (same : (s : List A) (b : ℕ) → Holds (λ a _. e a ≡ b) (chk s b)) (width n : ℕ) (whole : per_word width ≡ suc n) where
  ends_at : (at k : ℕ) (q : Parsed (List A)) → Holds (λ xs vs. length xs ≡ k) q → checked (λ xs. words_for (per_word width) (length xs)) at q ≡ up_to (at + words_for (per_word width) k) q
  unfolding checked
  ends_at at k (refuse m) h = refl
  ends_at at k (got xs vs) h = ap (λ l. Ok (at + words_for (per_word width) l)) h.it

  pub list_ends : (at k : ℕ) (us : List ℕ) → checked (λ xs. words_for (per_word width) (length xs)) at (read_list chk width k us) ≡ up_to (at + words_for (per_word width) k) (read_list chk width k us)
  list_ends at k us = ends_at at k (read_list chk width k us) (weaker (read_list chk width k us) (λ xs vs h. h.long) (same_list_lem e chk same width n k us whole))

  pub list_leaves : (k : ℕ) (us : List ℕ) → Leaves (λ xs. words_for (per_word width) (length xs)) us (read_list chk width k us)
  list_leaves k us =
      weaker (read_list chk width k us)
      (λ xs vs h. ap (drop (words_for (per_word width) (length xs))) (sym h.were) ∙ drop_at (pack width (map e xs)) vs (words_for (per_word width) (length xs)) (length_pack width (map e xs) ∙ ap (words_for (per_word width)) (length-map xs e)))
      (same_list_lem e chk same width n k us whole)
