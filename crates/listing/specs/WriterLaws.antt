-- Writers one after the other, each into the part of the output that begins where the last one ended.
use Rattle.std.specs.Prelude.{◌≡◌, List, [], ◌++◌, ℕ, ◌+◌, ◌-◌, ◌≤◌, length, take, drop}
use Rattle.std.proofs.Common.{sym, ◌∙◌, ap, ap₂, append_assoc, append-nil, arith, length-append, length-drop, drop_of_length-le, take_all, take_at, drop_at, drop-drop}
use Rattle.std.proofs.Math.Seq.{take-length}
use Rattle.listing.specs.Texts.{Wrote}

-- A copy is the bytes that were copied.
pub copied : (xs : List ℕ) {before after : List ℕ} {r : ℕ} → r ≡ length xs → after ≡ take (length xs) xs ++ drop (length xs) before → Wrote xs before after r
copied xs {before} e h = record { output = h ∙ ap (λ l. l ++ drop (length xs) before) (take-length xs); count = e }

-- So are bytes that were copied whole.
pub copied_whole : (xs : List ℕ) {before after : List ℕ} {r : ℕ} → r ≡ length xs → after ≡ xs ++ drop (length xs) before → Wrote xs before after r
copied_whole xs e h = record { output = h; count = e }

-- The same bytes by another name.
pub wrote_as : {xs ys before after : List ℕ} {r : ℕ} → xs ≡ ys → Wrote xs before after r → Wrote ys before after r
wrote_as {xs} {ys} {before} e w = record { output = w.output ∙ ap (λ l. l ++ drop (length l) before) e; count = w.count ∙ ap length e }

-- The next writer gets the part of the output that begins where the last one ended.
pub wrote_then : {xs ys before mid part : List ℕ} {n k : ℕ} → Wrote xs before mid n → Wrote ys (take (length mid - n) (drop n mid)) part k
    → Wrote (xs ++ ys) before (take n mid ++ (part ++ drop (length mid - n) (drop n mid))) (n + k)
wrote_then {xs} {ys} {before} {mid} {part} {n} {k} w v =
    let tail = drop n mid in
    let long : length tail ≡ length mid - n = length-drop n mid in
    let front : take n mid ≡ xs = ap (take n) w.output ∙ take_at xs (drop (length xs) before) n (sym w.count) in
    let back : take (length mid - n) tail ≡ drop (length xs) before =
    take_all (length mid - n) tail (omega arith) ∙ ap (drop n) w.output ∙ drop_at xs (drop (length xs) before) n (sym w.count) in
    let end : drop (length mid - n) tail ≡ [] = drop_of_length-le tail {i = length mid - n} (omega arith) in
    let both : length xs + length ys ≡ length (xs ++ ys) = sym (length-append xs ys) in
    record {
      output =
          ap₂ (λ a b. a ++ b) front (ap (λ l. part ++ l) end ∙ append-nil part ∙ v.output ∙ ap (λ l. ys ++ drop (length ys) l) back)
          ∙ ap (λ l. xs ++ (ys ++ l)) (drop-drop (length ys) (length xs) before ∙ ap (λ i. drop i before) both)
          ∙ sym (append_assoc xs ys (drop (length (xs ++ ys)) before));
      count = omega (arith, w.count, v.count);
    }

-- The bytes that are counted are there.
pub wrote_there : {xs before after : List ℕ} {r : ℕ} → Wrote xs before after r → r ≤ length after
wrote_there {xs} {before} w = omega (arith, w.count, ap length w.output, length-append xs (drop (length xs) before))
