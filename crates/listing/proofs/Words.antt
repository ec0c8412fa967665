-- Words that are stored one after the other. Assumes nothing.
use mathlib.Core.Path.{◌≡◌, sym, ◌∙◌, ap}
use mathlib.Core.List.{List, [], ◌∷◌, ◌++◌, append_assoc}
use Prim.Native.Nat.{ℕ, suc, ◌+◌, ◌<◌}
use native.Mathlib.Omega.{arith}
use lib.ListN.{length, drop, get_or, set}
use lib.Seq.{drop-cons, set_at}
use Rattle.laws.specs.FieldAt.{firsts}
use Rattle.laws.proofs.FieldAtLaws.{length_firsts}

pub store_next : (f : ℕ → ℕ) (i : ℕ) (out before : List ℕ) → i < length before → out ≡ firsts f i ++ drop i before → set out i (f i) ≡ firsts f (i + 1) ++ drop (i + 1) before
unfolding firsts
store_next f i out before h e =
    let one : suc i ≡ i + 1 = omega arith in
    ap (λ l. set l i (f i)) (e ∙ ap (λ l. firsts f i ++ l) (drop-cons before i 0 h))
    ∙ set_at (firsts f i) (get_or before i 0) (drop (suc i) before) (f i) i (length_firsts f i)
    ∙ sym (append_assoc (firsts f i) (f i ∷ []) (drop (suc i) before))
    ∙ ap (λ n. firsts f n ++ drop n before) one
