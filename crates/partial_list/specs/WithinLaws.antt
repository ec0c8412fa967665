-- Laws of words laid within a scratch: with less room, said in another way, one run after another, and left alone where only the tail behind them changes.
use Rattle.std.specs.Prelude.{◌≡◌, List, ◌++◌, ℕ, ◌+◌, ◌-◌, ◌≤◌, min, length, take, drop}
use Rattle.std.proofs.Common.{◌∙◌, ap, arith, length-append, length-take, length-drop, length-take-le, take-take}
use Rattle.std.proofs.lemmas.List.{take-append-le}
use Rattle.sizes.specs.Laid.{capped, Laid}
use Rattle.sizes.specs.LaidLaws.{laid_then, laid_as}
use Rattle.partial_list.specs.Within.{LaidWithin}

pub within : {room n r : ℕ} {ws out : List ℕ} → Laid n ws out r → LaidWithin room n ws out r
within l = record { size_is = l.size_is; laid = λ h. l }

pub within_less : {room less n r : ℕ} {ws out : List ℕ} → less ≤ room → LaidWithin room n ws out r → LaidWithin less n ws out r
within_less h l = record { size_is = l.size_is; laid = λ k. l.laid (omega arith) }

pub within_as : {room n m r : ℕ} {ws vs out : List ℕ} → n ≡ m → ws ≡ vs → LaidWithin room n ws out r → LaidWithin room m vs out r
within_as e d l = record { size_is = l.size_is ∙ ap capped e; laid = λ h. laid_as e d (l.laid h) }

-- Words, and then those that were laid into the tail that was lent.
pub within_then : {room n m a b from r : ℕ} {xs ys mid part : List ℕ} →
    LaidWithin room n xs mid a → LaidWithin room m ys part b → from ≡ min a (length mid) → length part ≡ length mid - from → r ≡ capped (a + b) →
    LaidWithin room (n + m) (xs ++ ys) (take from mid ++ (part ++ drop (length mid - from) (drop from mid))) r
within_then {room} {n} {m} {a} {b} {from} {r} l k f long e =
    let size : r ≡ capped (n + m) = omega (arith, l.size_is, k.size_is) in
    record {
      size_is = size;
      laid = λ h. record {
        size_is = size;
        front = λ few fits. (laid_then (l.laid (omega arith)) (k.laid (omega arith)) f long e).front few fits;
      };
    }

-- Words stay where only the tail behind them changes.
still_at : (mid part rest : List ℕ) (from a : ℕ) → a ≤ from → from ≤ length mid → take a (take from mid ++ (part ++ rest)) ≡ take a mid
still_at mid part rest from a h k = take-append-le a (take from mid) (part ++ rest) (omega (arith, length-take-le from mid k)) ∙ take-take a from mid h

pub laid_still : {n a from : ℕ} {xs mid : List ℕ} (part : List ℕ) → Laid n xs mid a → from ≡ min a (length mid) → length part ≡ length mid - from →
    Laid n xs (take from mid ++ (part ++ drop (length mid - from) (drop from mid))) a
laid_still {n} {a} {from} {xs} {mid} part l f long =
    let rest = drop (length mid - from) (drop from mid) in
    let none = length-drop (length mid - from) (drop from mid) in
    let less = length-drop from mid in
    let whole : length (take from mid ++ (part ++ rest)) ≡ length mid = omega (arith, length-append (take from mid) (part ++ rest), length-append part rest, length-take from mid) in
    record {
      size_is = l.size_is;
      front = λ few fits. still_at mid part rest from a (omega arith) (omega arith) ∙ l.front few (omega arith);
    }

pub within_still : {room n a from : ℕ} {xs mid : List ℕ} (part : List ℕ) → LaidWithin room n xs mid a → from ≡ min a (length mid) → length part ≡ length mid - from →
    LaidWithin room n xs (take from mid ++ (part ++ drop (length mid - from) (drop from mid))) a
within_still part l f long = record { size_is = l.size_is; laid = λ h. laid_still part (l.laid h) f long }
