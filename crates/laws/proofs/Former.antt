-- Lists of obligations that were accepted while none could stand twice are read as they were. Request 3.
use Rattle.std.specs.Prelude.{◌≡◌, refl, Bool, true, false, cond, not, List, [], ◌∷◌, ℕ, zero, suc, eqb, ltb}
use Rattle.std.proofs.Common.{◌∙◌, ap}
use Rattle.model.specs.Fields.{split, per_word}
use Rattle.model.specs.Decision.{held}
use Rattle.model.specs.Writing.{obligation_bits}
use Rattle.model.specs.Reading.{Parsed, refuse, got, unless, Fields, bad, ok, put, take_field, take_fields, read_words, read_list, obligation_count, obligation}
use Rattle.laws.proofs.Deeper.{Follows}

-- Where the first goes on, the second goes on alike.
abbrev GoesOn : {A : Type 0} → Fields A → Fields A → Type 0
GoesOn (bad n) t = Unit {0}
GoesOn (ok xs n) t = t ≡ ok xs n

module _ {A : Type 0} (chk chk' : List A → ℕ → Parsed A) (f : (xs : List A) (b : ℕ) → Follows (chk xs b) (chk' xs b)) where
  put_alike : (xs : List A) (n : ℕ) (p q : Parsed A) → Follows p q → GoesOn (put xs n p) (put xs n q)
  put_alike xs n (refuse e) q h = tt
  put_alike xs n (got a ws) q h = ap (put xs n) h.it

  itself : (s : Fields A) → GoesOn s s
  itself (bad n) = tt
  itself (ok xs n) = refl

  field_alike : (s t : Fields A) (b : ℕ) → GoesOn s t → GoesOn (take_field chk s b) (take_field chk' t b)
  field_alike (bad n) t b h = tt
  field_alike (ok xs zero) t b h = on_ends (eqb b 0) refl
    where
      on_ends : (e : Bool) → eqb b 0 ≡ e → GoesOn (cond e (ok xs zero) (bad 8)) (take_field chk' t b)
      on_ends true e = ap (λ u. take_field chk' u b) h ∙ ap (λ x. cond x (ok xs zero) (bad 8)) e
      on_ends false e = tt
  field_alike (ok xs (suc n)) t b h = onward (put xs n (chk xs b)) (put_alike xs n (chk xs b) (chk' xs b) (f xs b))
    where
      onward : (s : Fields A) → GoesOn s (put xs n (chk' xs b)) → GoesOn s (take_field chk' t b)
      onward (bad m) g = tt
      onward (ok ys m) g = ap (λ u. take_field chk' u b) h ∙ g

  fields_alike : (bs : List ℕ) (s t : Fields A) → GoesOn s t → GoesOn (take_fields chk s bs) (take_fields chk' t bs)
  fields_alike [] s t h = h
  fields_alike (b ∷ bs) s t h = fields_alike bs (take_field chk s b) (take_field chk' t b) (field_alike s t b h)

  words_alike : (width n : ℕ) (ws : List ℕ) (s t : Fields A) → GoesOn s t → Follows (read_words chk width n ws s) (read_words chk' width n ws t)
  words_alike width n [] (bad e) t h = record { it = tt }
  words_alike width n [] (ok xs zero) t h = record { it = ap (read_words chk' width n []) h }
  words_alike width n [] (ok xs (suc k)) t h = record { it = tt }
  words_alike width n (w ∷ ws) (bad e) t h = record { it = tt }
  words_alike width n (w ∷ ws) (ok xs zero) t h = record { it = ap (read_words chk' width n (w ∷ ws)) h }
  words_alike width n (w ∷ ws) (ok xs (suc k)) t h =
      onward (read_words chk width n ws (take_fields chk (ok xs (suc k)) (split width n w)))
      (words_alike width n ws (take_fields chk (ok xs (suc k)) (split width n w)) (take_fields chk' (ok xs (suc k)) (split width n w)) (fields_alike (split width n w) (ok xs (suc k)) (ok xs (suc k)) refl))
    where
      onward : (p : Parsed (List A)) → Follows p (read_words chk' width n ws (take_fields chk' (ok xs (suc k)) (split width n w))) → Follows p (read_words chk' width n (w ∷ ws) t)
      onward (refuse e) g = record { it = tt }
      onward (got a vs) g = record { it = ap (read_words chk' width n (w ∷ ws)) h ∙ g.it }

  pub list_alike : (width k : ℕ) (ws : List ℕ) → Follows (read_list chk width k ws) (read_list chk' width k ws)
  list_alike width k ws = words_alike width (per_word width) ws (ok [] k) (ok [] k) refl

-- The check while none could stand twice.
abbrev pub obligation_once : List ℕ → ℕ → Parsed ℕ
obligation_once os b = unless (ltb b obligation_count) 8 (unless (not (held b os)) 9 (got b []))

once_alike : (os : List ℕ) (b : ℕ) → Follows (obligation_once os b) (obligation os b)
once_alike os b = on_tests (ltb b obligation_count) (not (held b os))
  where
    on_tests : (a c : Bool) → Follows (unless a 8 (unless c 9 (got b []))) (unless a 8 (got b []))
    on_tests true true = record { it = refl }
    on_tests true false = record { it = tt }
    on_tests false c = record { it = tt }

pub read_as_before : (k : ℕ) (ws : List ℕ) → Follows (read_list obligation_once obligation_bits k ws) (read_list obligation obligation_bits k ws)
read_as_before k ws = list_alike obligation_once obligation once_alike obligation_bits k ws
