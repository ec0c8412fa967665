-- What the definitions ask of every level and every byte, as chains test it. Assumes nothing.
use Rattle.std.specs.Prelude.{◌≡◌, refl, Bool, true, false, map, ◌&&◌, List, [], ◌∷◌, ◌++◌, ℕ, zero, suc}
use Rattle.std.specs.List.{list_all, range_with_len}
use Rattle.std.proofs.Common.{sym, ◌∙◌, ap, arith, add-one}
use Rattle.std.proofs.lemmas.List.Folds.{list_all-append, list_all-map}
use Rattle.std.proofs.lemmas.List.FromFn.{map-range_with_len_more}
use Rattle.model.specs.Levels.{every_below, every_byte}

and_true : (a b : Bool) → (a && (b && true)) ≡ (a && b)
and_true a true = refl
and_true a false = refl

pub below_is : (n : ℕ) (p : ℕ → Bool) → list_all p (range_with_len 0 n) ≡ every_below n p
below_is zero p = refl
below_is (suc n) p =
    let more : map p (range_with_len 0 (suc n)) ≡ map p (range_with_len 0 n) ++ (p n ∷ []) = rw (add-one n) at (map-range_with_len_more p 0 n n (omega arith)) in
    sym (list_all-map (λ b. b) p (range_with_len 0 (suc n)))
    ∙ ap (list_all (λ b. b)) more
    ∙ list_all-append (λ b. b) (map p (range_with_len 0 n)) (p n ∷ [])
    ∙ and_true _ (p n)
    ∙ ap (λ b. b && p n) (list_all-map (λ b. b) p (range_with_len 0 n) ∙ below_is n p)

pub bytes_are : (p : ℕ → Bool) (bs : List ℕ) → list_all p bs ≡ every_byte p bs
bytes_are p [] = refl
bytes_are p (b ∷ bs) = ap (λ x. p b && x) (bytes_are p bs)
