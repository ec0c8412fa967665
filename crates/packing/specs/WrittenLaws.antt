-- Words that were written, and those after them: at once, or one by one.
use Rattle.std.specs.Prelude.{◌≡◌, refl, List, [], ◌∷◌, ◌++◌, ℕ, suc, ◌+◌, ◌-◌, ◌≤◌, ◌<◌, length, take, drop, get_or, set}
use Rattle.std.proofs.Common.{sym, ◌∙◌, ap, ap₂, append_assoc, append-nil, add-one, arith, length-append, length-drop, length-set, length-take, drop_of_length-le, take_all, take_at, drop_at, take-suc, drop-cons, drop-drop}
use Rattle.std.proofs.Math.Seq.{take-length, drop-length, append_snoc}
use Rattle.std.proofs.lemmas.List.{set_at}
use Rattle.packing.specs.Written.{Written, Sofar}

pub written_none : (out : List ℕ) → Written [] out out 0
written_none out = record { number = refl; output = refl }

module _ {words out after : List ℕ} {n : ℕ} (s : Written words out after n) where
  -- The output is as long as it was.
  pub written_long : n ≤ length out → length after ≡ length out
  written_long h = ap length s.output ∙ omega (arith, length-append words (drop n out), length-drop n out, s.number)

  pub written_front : take n after ≡ words
  written_front = ap (take n) s.output ∙ take_at words (drop n out) n (sym s.number)

  pub written_rest : drop n after ≡ drop n out
  written_rest = ap (drop n) s.output ∙ drop_at words (drop n out) n (sym s.number)

  -- Words, and then those that were written into the tail that was lent.
  pub written_then : {more tail : List ℕ} {m : ℕ} → Written more (drop n after) tail m → Written (words ++ more) out (take n after ++ tail) (n + m)
  written_then {more} {tail} {m} t =
      record {
        number = omega (arith, s.number, t.number, length-append words more);
        output =
            ap₂ (λ x y. x ++ y) written_front
            (t.output ∙ ap (λ l. more ++ l) (ap (drop m) written_rest ∙ drop-drop m n out))
            ∙ sym (append_assoc words more (drop (n + m) out));
      }

  -- The same where the tail is lent as a part of the slice and comes back in its place.
  pub written_lent : {more tail : List ℕ} {m : ℕ} →
      Written more (take (length after - n) (drop n after)) tail m →
      Written (words ++ more) out (take n after ++ (tail ++ drop (length after - n) (drop n after))) (n + m)
  written_lent {more} {tail} {m} t =
      let long = length-drop n after in
      let all : take (length after - n) (drop n after) ≡ drop n after = take_all (length after - n) (drop n after) (omega arith) in
      let none : drop (length after - n) (drop n after) ≡ [] = drop_of_length-le (drop n after) {i = length after - n} (omega arith) in
      rw (none, append-nil) (written_then (rw all at t))

  -- One word after them.
  pub written_next : (w : ℕ) → n < length out → Written (words ++ w ∷ []) out (set after n w) (n + 1)
  written_next w h =
      record {
        number = omega (arith, s.number, length-append words (w ∷ []));
        output =
            ap (λ l. set l n w) (s.output ∙ ap (λ l. words ++ l) (drop-cons out n 0 h))
            ∙ set_at words (get_or out n 0) (drop (suc n) out) w n (sym s.number)
            ∙ sym (append_snoc words w (drop (suc n) out))
            ∙ ap (λ i. (words ++ w ∷ []) ++ drop i out) (sym (add-one n));
      }

  -- The same words, said in another way.
  pub written_same : {others : List ℕ} → words ≡ others → Written others out after n
  written_same e = record { number = s.number ∙ ap length e; output = s.output ∙ ap (λ l. l ++ drop n out) e }

-- A lead word, written after the words behind it.
pub written_lead : (w : ℕ) {words tail : List ℕ} (out : List ℕ) {m : ℕ} → 0 < length out →
    Written words (take (length out - 1) (drop 1 out)) tail m →
    Written (w ∷ words) out (set (take 1 out ++ (tail ++ drop (length out - 1) (drop 1 out))) 0 w) (1 + m)
written_lead w [] h s = absurd (omega arith)
written_lead w {words} {tail} (x ∷ out) {m} h s =
    let one : length (x ∷ out) - 1 ≡ length out = omega arith in
    let more : 1 + m ≡ suc m = omega arith in
    let s₁ : Written words out tail m = rw (one, take-length) at s in
    rw (one, drop-length, append-nil, more) (record { number = ap suc s₁.number; output = ap (λ l. w ∷ l) s₁.output })

pub sofar_more : (words out after : List ℕ) (j w : ℕ) → Sofar words out after j → j < length words → length words ≤ length out → w ≡ get_or words j 0 → Sofar words out (set after j w) (j + 1)
sofar_more words out after j w s h room e =
    record {
      few = omega arith;
      long = length-set after j w ∙ s.long;
      output =
          ap (λ l. set l j w) (s.output ∙ ap (λ l. take j words ++ l) (drop-cons out j 0 (omega arith)))
          ∙ set_at (take j words) (get_or out j 0) (drop (suc j) out) w j (length-take j words ∙ omega arith)
          ∙ ap (λ x. take j words ++ x ∷ drop (suc j) out) e
          ∙ sym (append_snoc (take j words) (get_or words j 0) (drop (suc j) out))
          ∙ ap (λ l. l ++ drop (suc j) out) (sym (take-suc words j 0 h))
          ∙ ap (λ i. take i words ++ drop i out) (sym (add-one j));
    }

pub sofar_all : {words out after : List ℕ} {j n : ℕ} → Sofar words out after j → length words ≡ n → n ≤ j → Written words out after n
sofar_all {words} {out} {after} {j} {n} s e h =
    let f = s.few in
    let k : j ≡ n = omega arith in
    record { number = sym e; output = s.output ∙ ap (λ i. take i words ++ drop i out) k ∙ ap (λ l. l ++ drop n out) (take_all n words (omega arith)) }
