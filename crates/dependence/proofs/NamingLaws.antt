-- The test `names`, which the calls' definitions compute, and the proposition `Names`, in which demand 3 speaks, are the same.
use Rattle.std.specs.Prelude.{◌≡◌, refl, ◌⊎◌, Bool, true, false, ◌||◌, ℕ}
use Rattle.std.proofs.Common.{inl, inr, eqb-true, eq-eqb}
use Rattle.std.proofs.lemmas.Bool.{false≢true}
use Rattle.model.specs.Condition.{Condition, always, never, has, not_c, all_c, any_c, Conditions, cnil, ccons, names_c, names_cs}
use Rattle.model.specs.Policy.{Policy, permit, deny, grant, all, any, or_else, stored, Policies, pnil, pcons, names, namess}
use Rattle.laws.specs.Names.{NamesC, NamesCs, Names, Namess}

-- Of two tests that one is true, what either tells.
or_tells : {A B : Type 0} (a b : Bool) → (a ≡ true → A) → (b ≡ true → B) → (a || b) ≡ true → A ⊎ B
or_tells true b f g e = inl (f refl)
or_tells false b f g e = inr (g e)

or_told : {A B : Type 0} (a b : Bool) → (A → a ≡ true) → (B → b ≡ true) → A ⊎ B → (a || b) ≡ true
or_told true b f g n = refl
or_told false b f g (inl n) = absurd (false≢true (f n))
or_told false b f g (inr n) = g n

module _ (f : ℕ) where
  mutual
    named_c : (c : Condition) → names_c f c ≡ true → NamesC f c
    named_c always e = absurd (false≢true e)
    named_c never e = absurd (false≢true e)
    named_c (has g) e = eqb-true f g e
    named_c (not_c c) e = named_c c e
    named_c (all_c cs) e = named_cs cs e
    named_c (any_c cs) e = named_cs cs e

    named_cs : (cs : Conditions) → names_cs f cs ≡ true → NamesCs f cs
    named_cs cnil e = absurd (false≢true e)
    named_cs (ccons c cs) e = or_tells (names_c f c) (names_cs f cs) (λ h. named_c c h) (λ h. named_cs cs h) e

  mutual
    -- What the test finds is named ..
    pub named : {O : Type 0} (t : Policy O) → names f t ≡ true → Names f t
    named (permit o) e = absurd (false≢true e)
    named deny e = absurd (false≢true e)
    named (grant g c) e = named_c c e
    named (all ts) e = nameds ts e
    named (any ts) e = nameds ts e
    named (or_else a b) e = or_tells (names f a) (names f b) (λ h. named a h) (λ h. named b h) e
    named (stored d) e = absurd (false≢true e)

    nameds : {O : Type 0} (ts : Policies O) → namess f ts ≡ true → Namess f ts
    nameds pnil e = absurd (false≢true e)
    nameds (pcons t ts) e = or_tells (names f t) (namess f ts) (λ h. named t h) (λ h. nameds ts h) e

  mutual
    found_c : (c : Condition) → NamesC f c → names_c f c ≡ true
    found_c always n = absurd n
    found_c never n = absurd n
    found_c (has g) n = eq-eqb f g n
    found_c (not_c c) n = found_c c n
    found_c (all_c cs) n = found_cs cs n
    found_c (any_c cs) n = found_cs cs n

    found_cs : (cs : Conditions) → NamesCs f cs → names_cs f cs ≡ true
    found_cs cnil n = absurd n
    found_cs (ccons c cs) n = or_told (names_c f c) (names_cs f cs) (λ h. found_c c h) (λ h. found_cs cs h) n

  mutual
    -- .. and what is named the test finds.
    pub found : {O : Type 0} (t : Policy O) → Names f t → names f t ≡ true
    found (permit o) n = absurd n
    found deny n = absurd n
    found (grant g c) n = found_c c n
    found (all ts) n = founds ts n
    found (any ts) n = founds ts n
    found (or_else a b) n = or_told (names f a) (names f b) (λ h. found a h) (λ h. found b h) n
    found (stored d) n = absurd n

    founds : {O : Type 0} (ts : Policies O) → Namess f ts → namess f ts ≡ true
    founds pnil n = absurd n
    founds (pcons t ts) n = or_told (names f t) (namess f ts) (λ h. found t h) (λ h. founds ts h) n
