-- Laws of words laid at the front of an output: said in another way, led by another word, one run after another.
use Rattle.std.specs.Prelude.{◌≡◌, refl, List, [], ◌∷◌, ◌++◌, ℕ, zero, suc, ◌+◌, ◌-◌, ◌≤◌, ◌<◌, min, length, take, drop, set}
use Rattle.std.proofs.Common.{sym, ◌∙◌, ap, ap₂, append-nil, arith, length-append, length-drop, length-take, drop_of_length-le, length-take-le}
use Rattle.std.proofs.Math.Seq.{take-append-add}
use Rattle.sizes.specs.Laid.{most_words, capped, Laid}

-- The same words, said in another way.
pub laid_as : {n m r : ℕ} {ws vs out : List ℕ} → n ≡ m → ws ≡ vs → Laid n ws out r → Laid m vs out r
laid_as e d l = record { size_is = l.size_is ∙ ap capped e; front = λ h k. l.front h k ∙ d }

pub laid_none : (out : List ℕ) → Laid 0 [] out 0
laid_none out = record { size_is = refl; front = λ h k. refl }

-- One word.
pub laid_word : (w : ℕ) (out : List ℕ) → Laid 1 (w ∷ []) (set out 0 w) 1
laid_word w [] = record { size_is = refl; front = λ h k. absurd (omega arith) }
laid_word w (x ∷ out) = record { size_is = refl; front = λ h k. refl }

-- Another lead word before the same words.
pub laid_lead : (v : ℕ) {w n r : ℕ} {ws : List ℕ} (out : List ℕ) → 0 < n → Laid n (w ∷ ws) out r → Laid n (v ∷ ws) (set out 0 v) r
laid_lead v [] p l = record { size_is = l.size_is; front = λ h k. absurd (omega (arith, l.size_is)) }
laid_lead v {r = zero} (x ∷ out) p l = absurd (omega (arith, l.size_is))
laid_lead v {r = suc r} (x ∷ out) p l = record { size_is = l.size_is; front = λ h k. ap (λ us. v ∷ drop 1 us) (l.front h k) }

-- The first list, and the first words of the second.
pub take_both : (xs ys : List ℕ) (a b : ℕ) → length xs ≡ a → take (a + b) (xs ++ ys) ≡ xs ++ take b ys
take_both xs ys a b e = ap (λ i. take (i + b) (xs ++ ys)) (sym e) ∙ take-append-add xs ys b

laid_both : {n m a b r : ℕ} {xs ys mid part : List ℕ} →
    Laid n xs mid a → Laid m ys part b → r ≡ capped (a + b) → r ≤ most_words → r ≤ length mid → a + length part ≡ length mid → take r (take a mid ++ part) ≡ xs ++ ys
laid_both {n} {m} {a} {b} {r} {xs} {ys} {mid} {part} l k e h room long =
    let sum : r ≡ a + b = omega arith in
    ap (λ i. take i (take a mid ++ part)) sum
    ∙ take_both (take a mid) part a b (length-take-le a mid (omega arith))
    ∙ ap₂ (λ us vs. us ++ vs) (l.front (omega arith) (omega arith)) (k.front (omega arith) (omega arith))

-- Words, and then those that were laid into the tail that was lent, which comes back in its place.
pub laid_then : {n m a b from r : ℕ} {xs ys mid part : List ℕ} →
    Laid n xs mid a → Laid m ys part b → from ≡ min a (length mid) → length part ≡ length mid - from → r ≡ capped (a + b) →
    Laid (n + m) (xs ++ ys) (take from mid ++ (part ++ drop (length mid - from) (drop from mid))) r
laid_then {n} {m} {a} {b} {from} {r} {xs} {ys} {mid} {part} l k f long e =
    let none : drop (length mid - from) (drop from mid) ≡ [] = drop_of_length-le (drop from mid) {i = length mid - from} (omega (arith, length-drop from mid)) in
    let whole : take from mid ++ (part ++ drop (length mid - from) (drop from mid)) ≡ take from mid ++ part = ap (λ us. take from mid ++ us) (ap (λ us. part ++ us) none ∙ append-nil part) in
    rw whole
    (record {
      size_is = omega (arith, l.size_is, k.size_is);
      front = λ h room.
          let fits : r ≤ length mid = omega (arith, length-append (take from mid) part, length-take from mid) in
          let all : from ≡ a = omega (arith, l.size_is, k.size_is) in
          ap (λ i. take r (take i mid ++ part)) all ∙ laid_both l k e h fits (omega arith);
    })
