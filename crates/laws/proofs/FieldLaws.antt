-- Lists of fields of any width: a list is read back from its words.
use Rattle.std.specs.Prelude.{◌≡◌, refl, Bool, true, false, cond, List, [], ◌∷◌, ◌++◌, map, ℕ, zero, suc, ◌+◌, ◌-◌, ◌≤◌, min, eqb, length, take, drop}
use Rattle.std.proofs.Common.{sym, ◌∙◌, ap, ap₂, subst, append_assoc, append-nil, arith, eqb-true, length-append, length-drop, take-append-drop, drop_of_length-le, drop_at}
use Rattle.std.proofs.lemmas.List.{map-append, length-map}
use Rattle.std.proofs.Math.Seq.{take-nil, drop-nil, drop-append_seam}
use Rattle.model.specs.Fields.{split, joined, packed, words_for, per_word, pack}
use Rattle.model.specs.Reading.{Parsed, refuse, got, next, unless, Fields, bad, ok, put, take_field, take_fields, read_words, read_list, rest}
use Rattle.laws.specs.FieldAt.{padded, Narrow}
use Rattle.laws.proofs.WordLaws.{joined_padded, joined_split, length_packed, length_split, narrow_drop, split_joined, split_le, words_for_more, words_for_none}

-- The first fields of a longer list.
padded_front : (n : ℕ) (ys zs : List ℕ) → n ≤ length ys → padded n (ys ++ zs) ≡ padded n ys
padded_front zero ys zs h = refl
padded_front (suc n) [] zs h = let z : ⊥ = omega arith in absurd z
padded_front (suc n) (y ∷ ys) zs h = ap (λ l. y ∷ l) (padded_front n ys zs (omega arith))

map_drop : {A : Type 0} (e : A → ℕ) (n : ℕ) (xs : List A) → drop n (map e xs) ≡ map e (drop n xs)
map_drop e zero xs = refl
map_drop e (suc n) [] = refl
map_drop e (suc n) (x ∷ xs) = map_drop e n xs

-- ---- lists of fields
module _ {A : Type 0} (e : A → ℕ) (chk : List A → ℕ → Parsed A) where
  -- Each of the list passes its check after those before it.
  abbrev pub Passes : List A → List A → Type 0
  Passes sofar [] = Unit {0}
  Passes sofar (x ∷ xs) = (chk sofar (e x) ≡ got x []) × Passes (sofar ++ x ∷ []) xs

  passes_drop : (n : ℕ) (sofar xs : List A) → Passes sofar xs → Passes (sofar ++ take n xs) (drop n xs)
  passes_drop zero sofar xs h = subst (λ s. Passes s xs) (sym (append-nil sofar)) h
  passes_drop (suc n) sofar [] h = tt
  passes_drop (suc n) sofar (x ∷ xs) h = subst (λ s. Passes s (drop n xs)) (append_assoc sofar (x ∷ []) (take n xs)) (passes_drop n (sofar ++ x ∷ []) xs h.1)

  take_fields_lem : (n : ℕ) (xs sofar : List A) → Passes sofar xs → take_fields chk (ok sofar (length xs)) (padded n (map e xs)) ≡ ok (sofar ++ take n xs) (length (drop n xs))
  take_fields_lem zero xs sofar h = ap (λ s. ok s (length xs)) (sym (append-nil sofar))
  take_fields_lem (suc n) [] sofar h = take_fields_lem n [] sofar h ∙ ap₂ (λ s t. ok (sofar ++ s) (length t)) (take-nil n) (drop-nil n)
  take_fields_lem (suc n) (x ∷ xs) sofar h =
      ap (λ q. take_fields chk (put sofar (length xs) q) (padded n (map e xs))) h.0
      ∙ take_fields_lem n xs (sofar ++ x ∷ []) h.1
      ∙ ap (λ s. ok s (length (drop n xs))) (append_assoc sofar (x ∷ []) (take n xs))

  pub done : (width n : ℕ) (ws : List ℕ) (s : List A) → read_words chk width n ws (ok s zero) ≡ got s ws
  done width n [] s = refl
  done width n (v ∷ ws) s = refl

  module _ (width n : ℕ) where
    back_words : (m : ℕ) (xs sofar : List A) (ws : List ℕ) → m ≡ words_for (suc n) (length xs) → Narrow width (map e xs) → Passes sofar xs
        → read_words chk width (suc n) (packed width (suc n) m (map e xs) ++ ws) (ok sofar (length xs)) ≡ got (sofar ++ xs) ws
    back_words zero [] sofar ws k h p = done width (suc n) ws sofar ∙ ap (λ s. got s ws) (sym (append-nil sofar))
    back_words (suc m) [] sofar ws k h p = let z : ⊥ = omega (arith, k ∙ words_for_none n) in absurd z
    back_words zero (x ∷ xs) sofar ws k h p = let z : ⊥ = omega (arith, k ∙ words_for_more n (length xs)) in absurd z
    back_words (suc m) (x ∷ xs) sofar ws k h p =
        let all = x ∷ xs in
        let rest = drop n xs in
        let more : m ≡ words_for (suc n) (length rest) = (let q : suc m ≡ suc (words_for (suc n) (length xs - n)) = k ∙ words_for_more n (length xs) in let q₁ : m ≡ words_for (suc n) (length xs - n) = omega arith in q₁) ∙ ap (words_for (suc n)) (sym (length-drop n xs)) in
        ap (λ fs. read_words chk width (suc n) (packed width (suc n) m (drop (suc n) (map e all)) ++ ws) (take_fields chk (ok sofar (length all)) fs)) (split_joined width (suc n) (map e all) h)
        ∙ ap (read_words chk width (suc n) (packed width (suc n) m (drop (suc n) (map e all)) ++ ws)) (take_fields_lem (suc n) all sofar p)
        ∙ ap (λ l. read_words chk width (suc n) (packed width (suc n) m l ++ ws) (ok (sofar ++ take (suc n) all) (length rest))) (map_drop e n xs)
        ∙ back_words m rest (sofar ++ take (suc n) all) ws more (subst (Narrow width) (map_drop e n xs) (narrow_drop width (suc n) (map e all) h)) (passes_drop (suc n) sofar all p)
        ∙ ap (λ s. got s ws) (append_assoc sofar (take (suc n) all) rest ∙ ap (λ s. sofar ++ s) (take-append-drop (suc n) all))

  -- A list is read back from its words.
  pub back_list : (width n : ℕ) (xs : List A) (ws : List ℕ) → per_word width ≡ suc n → Narrow width (map e xs) → Passes [] xs
      → read_list chk width (length xs) (pack width (map e xs) ++ ws) ≡ got xs ws
  back_list width n xs ws k h p =
      ap (λ i. read_words chk width i (packed width i (words_for i (length (map e xs))) (map e xs) ++ ws) (ok [] (length xs))) k
      ∙ back_words width n (words_for (suc n) (length (map e xs))) xs [] ws (ap (words_for (suc n)) (length-map xs e)) h p

-- ---- what was read
-- What was read, if anything, has Q.
abbrev pub HoldsAt : {A : Type 0} → (A → List ℕ → Type 0) → Parsed A → Type 0
HoldsAt Q (refuse n) = Unit {0}
HoldsAt Q (got a ws) = Q a ws

pub record Holds {A : Type 0} (Q : A → List ℕ → Type 0) (p : Parsed A) : Type 0 where
  pub it : HoldsAt Q p

module _ {A : Type 0} {Q : A → List ℕ → Type 0} where
  pub fine : {a : A} {ws : List ℕ} → Q a ws → Holds Q (got a ws)
  fine h = record { it = h }

  pub nothing : {n : ℕ} → Holds Q (refuse n)
  nothing = record { it = tt }

  pub if_holds : (b : Bool) (n : ℕ) (p : Parsed A) → (b ≡ true → Holds Q p) → Holds Q (unless b n p)
  if_holds true n p h = h refl
  if_holds false n p h = nothing

  pub weaker : {R : A → List ℕ → Type 0} (p : Parsed A) → ((a : A) (ws : List ℕ) → Q a ws → R a ws) → Holds Q p → Holds R p
  weaker (refuse n) f h = record { it = tt }
  weaker (got a ws) f h = record { it = f a ws h.it }

module _ {A B : Type 0} {Q : A → List ℕ → Type 0} {R : B → List ℕ → Type 0} where
  pub then_holds : (p : Parsed A) (k : A → List ℕ → Parsed B) → Holds Q p → ((a : A) (ws : List ℕ) → Q a ws → Holds R (k a ws)) → Holds R (next p k)
  then_holds (refuse n) k h f = record { it = tt }
  then_holds (got a ws) k h f = f a ws h.it

pub both_hold : {A : Type 0} {Q R : A → List ℕ → Type 0} (p : Parsed A) → Holds Q p → Holds R p → Holds (λ a ws. Q a ws × R a ws) p
both_hold (refuse n) h k = nothing
both_hold (got a ws) h k = fine (h.it, k.it)

-- What was read is what it was read as; and anything at all.
pub itself : {A : Type 0} (q : Parsed A) → Holds (λ a ws. q ≡ got a ws) q
itself (refuse n) = nothing
itself (got a ws) = fine refl

pub anything : {A : Type 0} (q : Parsed A) → Holds (λ _ _. Unit {0}) q
anything (refuse n) = nothing
anything (got a ws) = fine tt

pub held_at : {A : Type 0} {Q : A → List ℕ → Type 0} {q : Parsed A} {a : A} {ws : List ℕ} → Holds Q q → q ≡ got a ws → Q a ws
held_at {Q = Q} h e = (subst (Holds Q) e h).it

-- What is refused stays so.
module _ {A : Type 0} (chk : List A → ℕ → Parsed A) where
  pub bad_fields : (bs : List ℕ) (n : ℕ) → take_fields chk (bad n) bs ≡ bad n
  bad_fields [] n = refl
  bad_fields (b ∷ bs) n = bad_fields bs n

  pub bad_words_lem : (width n : ℕ) (vs : List ℕ) (m : ℕ) → read_words chk width n vs (bad m) ≡ refuse m
  bad_words_lem width n [] m = refl
  bad_words_lem width n (v ∷ vs) m = refl

-- The same of fields that were taken.
abbrev TakenAt : {A : Type 0} → (List A → ℕ → Type 0) → Fields A → Type 0
TakenAt Q (bad n) = Unit {0}
TakenAt Q (ok xs n) = Q xs n

record Taken {A : Type 0} (Q : List A → ℕ → Type 0) (s : Fields A) : Type 0 where
  it : TakenAt Q s

taken_map : {A : Type 0} {Q R : List A → ℕ → Type 0} (s : Fields A) → ((xs : List A) (k : ℕ) → Q xs k → R xs k) → Taken Q s → Taken R s
taken_map (bad n) f h = record { it = tt }
taken_map (ok xs k) f h = record { it = f xs k h.it }

module _ {A : Type 0} (e : A → ℕ) (chk : List A → ℕ → Parsed A) (same : (s : List A) (b : ℕ) → Holds (λ a _. e a ≡ b) (chk s b)) where
  -- Since s, of k fields to come, the fields bs were taken.
  record Since (s : List A) (k : ℕ) (bs : List ℕ) (xs : List A) (m : ℕ) : Type 0 where
    new : List A
    all : xs ≡ s ++ new
    were : padded (length bs) (map e new) ≡ bs
    few : length new ≡ min k (length bs)
    to_come : m ≡ k - length bs

  nil_of : (l : List A) → length l ≡ 0 → l ≡ []
  nil_of [] h = refl
  nil_of (a ∷ l) h = let z : ⊥ = omega arith in absurd z

  one_more : (s : List A) (k b : ℕ) (bs : List ℕ) (a : A) → e a ≡ b → (xs : List A) (m : ℕ) → Since (s ++ a ∷ []) k bs xs m → Since s (suc k) (b ∷ bs) xs m
  one_more s k b bs a h xs m t =
      let f = t.few in
      let c = t.to_come in
      record {
        new = a ∷ t.new;
        all = t.all ∙ append_assoc s (a ∷ []) t.new;
        were = ap₂ (λ x l. x ∷ l) h t.were;
        few = omega arith;
        to_come = omega arith;
      }

  a_zero : (s : List A) (b : ℕ) (bs : List ℕ) → b ≡ 0 → (xs : List A) (m : ℕ) → Since s 0 bs xs m → Since s 0 (b ∷ bs) xs m
  a_zero s b bs h xs m t =
      let f = t.few in
      let c = t.to_come in
      let none : t.new ≡ [] = nil_of t.new (omega arith) in
      record {
        new = [];
        all = t.all ∙ ap (λ l. s ++ l) none;
        were = ap₂ (λ x l. x ∷ l) (sym h) (ap (λ l. padded (length bs) (map e l)) (sym none) ∙ t.were);
        few = omega arith;
        to_come = omega arith;
      }

  took_zero : (bs : List ℕ) (s : List A) (b : ℕ) (t : Bool) → eqb b 0 ≡ t → Taken (Since s 0 bs) (take_fields chk (ok s zero) bs)
      → Taken (Since s 0 (b ∷ bs)) (take_fields chk (cond t (ok s zero) (bad 8)) bs)
  took_zero bs s b true h ih = taken_map (take_fields chk (ok s zero) bs) (a_zero s b bs (eqb-true b 0 h)) ih
  took_zero bs s b false h ih = subst (Taken (Since s 0 (b ∷ bs))) (sym (bad_fields chk bs 8)) (record { it = tt })

  took_one : (bs : List ℕ) (s : List A) (k b : ℕ) (q : Parsed A) → Holds (λ a _. e a ≡ b) q → ((s' : List A) → Taken (Since s' k bs) (take_fields chk (ok s' k) bs))
      → Taken (Since s (suc k) (b ∷ bs)) (take_fields chk (put s k q) bs)
  took_one bs s k b (refuse n) h ih = subst (Taken (Since s (suc k) (b ∷ bs))) (sym (bad_fields chk bs n)) (record { it = tt })
  took_one bs s k b (got a ws) h ih = taken_map (take_fields chk (ok (s ++ a ∷ []) k) bs) (one_more s k b bs a h.it) (ih (s ++ a ∷ []))

  took : (bs : List ℕ) (s : List A) (k : ℕ) → Taken (Since s k bs) (take_fields chk (ok s k) bs)
  took [] s k = record { it = record { new = []; all = sym (append-nil s); were = refl; few = omega arith; to_come = omega arith } }
  took (b ∷ bs) s zero = took_zero bs s b (eqb b 0) refl (took bs s zero)
  took (b ∷ bs) s (suc k) = took_one bs s k b (chk s b) (same s b) (λ s'. took bs s' k)

  module _ (width n : ℕ) where
    -- Since s, of k fields to come, the words us were read up to vs.
    pub record Read (s : List A) (k : ℕ) (us : List ℕ) (xs : List A) (vs : List ℕ) : Type 0 where
      pub new : List A
      pub all : xs ≡ s ++ new
      pub long : length new ≡ k
      pub were : packed width (suc n) (words_for (suc n) k) (map e new) ++ vs ≡ us

    none_read : (s : List A) (us : List ℕ) → Read s 0 us s us
    none_read s us = record { new = []; all = sym (append-nil s); long = refl; were = ap (λ m. packed width (suc n) m [] ++ us) (words_for_none n) }

    -- The fields of a word and then others.
    front_word : (w k : ℕ) (ys zs : List A) → padded (suc n) (map e ys) ≡ split width (suc n) w → length ys ≡ min (suc k) (suc n) → length zs ≡ suc k - suc n
        → packed width (suc n) (words_for (suc n) (suc k)) (map e (ys ++ zs)) ≡ w ∷ packed width (suc n) (words_for (suc n) (k - n)) (map e zs)
    front_word w k ys zs h few rest =
        ap (λ m. packed width (suc n) m (map e (ys ++ zs))) (words_for_more n k)
        ∙ ap₂ (λ x l. x ∷ packed width (suc n) (words_for (suc n) (k - n)) l) whole_word others
      where
        short_or_full : {X : Type 0} → (length ys ≡ suc n → X) → (zs ≡ [] → length ys ≤ suc n → X) → X
        short_or_full f g = split_le (suc n) (suc k) (λ h. f (omega arith)) (λ h. g (nil_of zs (omega arith)) (omega arith))

        same_front : padded (suc n) (map e (ys ++ zs)) ≡ padded (suc n) (map e ys)
        same_front =
            short_or_full
            (λ f. ap (padded (suc n)) (map-append e ys zs) ∙ padded_front (suc n) (map e ys) (map e zs) (omega (arith, length-map ys e)))
            (λ z f. ap (λ l. padded (suc n) (map e (ys ++ l))) z ∙ ap (λ l. padded (suc n) (map e l)) (append-nil ys))

        whole_word : joined width (suc n) (map e (ys ++ zs)) ≡ w
        whole_word =
            sym (joined_padded width (suc n) (map e (ys ++ zs)))
            ∙ ap (joined width (suc n)) (same_front ∙ h)
            ∙ joined_split width n w

        others : drop (suc n) (map e (ys ++ zs)) ≡ map e zs
        others =
            map_drop e (suc n) (ys ++ zs)
            ∙ ap (map e) (short_or_full
            (λ f. ap (λ i. drop i (ys ++ zs)) (sym f) ∙ drop-append_seam ys zs)
            (λ z f. ap (λ l. drop (suc n) (ys ++ l)) z ∙ ap (drop (suc n)) (append-nil ys) ∙ drop_of_length-le ys f ∙ sym z))

    same_rest : (us : List ℕ) (w : ℕ) (s : List A) (k : ℕ) (t : Fields A) → Taken (Since s (suc k) (split width (suc n) w)) t
        → ((xs : List A) (m : ℕ) → Holds (Read xs m us) (read_words chk width (suc n) us (ok xs m)))
        → Holds (Read s (suc k) (w ∷ us)) (read_words chk width (suc n) us t)
    same_rest us w s k (bad m) h ih = subst (Holds (Read s (suc k) (w ∷ us))) (sym (bad_words_lem chk width (suc n) us m)) nothing
    same_rest us w s k (ok xs m) h ih =
        let g = h.it in
        let l = length_split width (suc n) w in
        weaker (read_words chk width (suc n) us (ok xs m)) (λ zs vs r.
        let e₁ : length g.new ≡ min (suc k) (suc n) = g.few ∙ ap (min (suc k)) l in
        let e₂ : m ≡ suc k - suc n = g.to_come ∙ ap (λ x. suc k - x) l in
        let e₃ : padded (suc n) (map e g.new) ≡ split width (suc n) w = ap (λ x. padded x (map e g.new)) (sym l) ∙ g.were in
        let e₄ : m ≡ k - n = e₂ ∙ omega arith in
        record {
          new = g.new ++ r.new;
          all = r.all ∙ ap (λ x. x ++ r.new) g.all ∙ append_assoc s g.new r.new;
          long = length-append g.new r.new ∙ omega (arith, r.long);
          were =
              ap (λ x. x ++ vs) (front_word w k g.new r.new e₃ e₁ (r.long ∙ e₂))
              ∙ ap (λ x. w ∷ (packed width (suc n) (words_for (suc n) x) (map e r.new) ++ vs)) (sym e₄)
              ∙ ap (λ x. w ∷ x) r.were;
        })
        (ih xs m)

    -- What was read is written again as the same words.
    same_words_lem : (us : List ℕ) (s : List A) (k : ℕ) → Holds (Read s k us) (read_words chk width (suc n) us (ok s k))
    same_words_lem [] s zero = fine (none_read s [])
    same_words_lem [] s (suc k) = nothing
    same_words_lem (w ∷ us) s zero = fine (none_read s (w ∷ us))
    same_words_lem (w ∷ us) s (suc k) =
        same_rest us w s k (take_fields chk (ok s (suc k)) (split width (suc n) w)) (took (split width (suc n) w) s (suc k)) (λ xs m. same_words_lem us xs m)

  -- A list of k fields that was read: its length, the words that it took, that they are its own, and what it left.
  pub record ReadList (width k : ℕ) (us : List ℕ) (xs : List A) (vs : List ℕ) : Type 0 where
    pub long : length xs ≡ k
    pub were : pack width (map e xs) ++ vs ≡ us
    pub took_words : words_for (per_word width) k + length vs ≡ length us
    pub left : drop (words_for (per_word width) k) us ≡ vs

  pub same_list_lem : (width n k : ℕ) (us : List ℕ) → per_word width ≡ suc n → Holds (ReadList width k us) (read_list chk width k us)
  same_list_lem width n k us h =
      subst (λ i. Holds (ReadList width k us) (read_words chk width i us (ok [] k))) (sym h)
      (weaker (read_words chk width (suc n) us (ok [] k)) (λ xs vs r.
      let e₁ : length xs ≡ k = ap length r.all ∙ r.long in
      let e₂ : pack width (map e xs) ++ vs ≡ us = (λ i. packed width (h i) (words_for (h i) (length-map xs e i)) (map e xs) ++ vs) ∙ ap₂ (λ x l. packed width (suc n) (words_for (suc n) x) (map e l) ++ vs) e₁ r.all ∙ r.were in
      let e₃ : words_for (per_word width) k + length vs ≡ length us =
      ap (λ x. words_for x k + length vs) h
      ∙ ap (λ x. x + length vs) (sym (length_packed width (suc n) (words_for (suc n) k) (map e r.new)))
      ∙ sym (length-append (packed width (suc n) (words_for (suc n) k) (map e r.new)) vs)
      ∙ ap length r.were in
      let e₄ : length (pack width (map e xs)) ≡ words_for (per_word width) k =
      length_packed width (per_word width) (words_for (per_word width) (length (map e xs))) (map e xs) ∙ ap (words_for (per_word width)) (length-map xs e ∙ e₁) in
      record { long = e₁; were = e₂; took_words = e₃; left = ap (drop (words_for (per_word width) k)) (sym e₂) ∙ drop_at (pack width (map e xs)) vs (words_for (per_word width) k) e₄ })
      (same_words_lem width n us [] k))

-- What holds of the fields so far and is kept by each check holds of the list that was read.
module _ {A : Type 0} (chk : List A → ℕ → Parsed A) (I : List A → Type 0) (keeps : (xs : List A) (b : ℕ) → I xs → Holds (λ a _. I (xs ++ a ∷ [])) (chk xs b)) where
  abbrev Sofar : Fields A → Type 0
  Sofar s = Taken (λ xs _. I xs) s

  kept_put : (xs : List A) (k : ℕ) (q : Parsed A) → Holds (λ a _. I (xs ++ a ∷ [])) q → Sofar (put xs k q)
  kept_put xs k (refuse n) h = record { it = tt }
  kept_put xs k (got a ws) h = record { it = h.it }

  kept_zero : (xs : List A) (t : Bool) → I xs → Sofar (cond t (ok xs zero) (bad 8))
  kept_zero xs true h = record { it = h }
  kept_zero xs false h = record { it = tt }

  kept_field : (s : Fields A) (b : ℕ) → Sofar s → Sofar (take_field chk s b)
  kept_field (bad n) b h = record { it = tt }
  kept_field (ok xs zero) b h = kept_zero xs (eqb b 0) h.it
  kept_field (ok xs (suc k)) b h = kept_put xs k (chk xs b) (keeps xs b h.it)

  kept_fields : (bs : List ℕ) (s : Fields A) → Sofar s → Sofar (take_fields chk s bs)
  kept_fields [] s h = h
  kept_fields (b ∷ bs) s h = kept_fields bs (take_field chk s b) (kept_field s b h)

  kept_words : (width n : ℕ) (us : List ℕ) (s : Fields A) → Sofar s → Holds (λ xs _. I xs) (read_words chk width n us s)
  kept_words width n [] (bad e) h = nothing
  kept_words width n [] (ok xs zero) h = fine h.it
  kept_words width n [] (ok xs (suc k)) h = nothing
  kept_words width n (w ∷ us) (bad e) h = nothing
  kept_words width n (w ∷ us) (ok xs zero) h = fine h.it
  kept_words width n (w ∷ us) (ok xs (suc k)) h = kept_words width n us (take_fields chk (ok xs (suc k)) (split width n w)) (kept_fields (split width n w) (ok xs (suc k)) h)

  pub kept_list : (width k : ℕ) (us : List ℕ) → I [] → Holds (λ xs _. I xs) (read_list chk width k us)
  kept_list width k us h = kept_words width (per_word width) us (ok [] k) (record { it = h })
