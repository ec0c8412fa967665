-- What is said of every Has of a tree (`Each`) is said of each fact that the tree names, and the other way round.
use Rattle.std.specs.Prelude.{refl, ℕ}
use Rattle.std.proofs.Common.{sym, subst, inl, inr}
use Rattle.model.specs.Condition.{Condition, always, never, has, not_c, all_c, any_c, Conditions, cnil, ccons}
use Rattle.model.specs.Policy.{Policy, permit, deny, grant, all, any, or_else, stored, Policies, pnil, pcons}
use Rattle.laws.specs.Each.{EachC, EachCs, Each, Eachs}
use Rattle.laws.specs.Names.{NamesC, NamesCs, Names, Namess}

module _ (Q : ℕ → Type 0) where
  mutual
    each_c_of : (c : Condition) → ((f : ℕ) → NamesC f c → Q f) → EachC Q c
    each_c_of always h = tt
    each_c_of never h = tt
    each_c_of (has g) h = h g refl
    each_c_of (not_c c) h = each_c_of c h
    each_c_of (all_c cs) h = each_cs_of cs h
    each_c_of (any_c cs) h = each_cs_of cs h

    each_cs_of : (cs : Conditions) → ((f : ℕ) → NamesCs f cs → Q f) → EachCs Q cs
    each_cs_of cnil h = tt
    each_cs_of (ccons c cs) h = (each_c_of c (λ f n. h f (inl n)), each_cs_of cs (λ f n. h f (inr n)))

  mutual
    pub each_of : {O : Type 0} (t : Policy O) → ((f : ℕ) → Names f t → Q f) → Each Q t
    each_of (permit o) h = tt
    each_of deny h = tt
    each_of (grant g c) h = each_c_of c h
    each_of (all ts) h = eachs_of ts h
    each_of (any ts) h = eachs_of ts h
    each_of (or_else a b) h = (each_of a (λ f n. h f (inl n)), each_of b (λ f n. h f (inr n)))
    each_of (stored d) h = tt

    eachs_of : {O : Type 0} (ts : Policies O) → ((f : ℕ) → Namess f ts → Q f) → Eachs Q ts
    eachs_of pnil h = tt
    eachs_of (pcons t ts) h = (each_of t (λ f n. h f (inl n)), eachs_of ts (λ f n. h f (inr n)))

  mutual
    of_c_each : (c : Condition) → EachC Q c → (f : ℕ) → NamesC f c → Q f
    of_c_each always h f n = absurd n
    of_c_each never h f n = absurd n
    of_c_each (has g) h f n = subst Q (sym n) h
    of_c_each (not_c c) h f n = of_c_each c h f n
    of_c_each (all_c cs) h f n = of_cs_each cs h f n
    of_c_each (any_c cs) h f n = of_cs_each cs h f n

    of_cs_each : (cs : Conditions) → EachCs Q cs → (f : ℕ) → NamesCs f cs → Q f
    of_cs_each cnil h f n = absurd n
    of_cs_each (ccons c cs) h f (inl n) = of_c_each c h.0 f n
    of_cs_each (ccons c cs) h f (inr n) = of_cs_each cs h.1 f n

  mutual
    pub of_each : {O : Type 0} (t : Policy O) → Each Q t → (f : ℕ) → Names f t → Q f
    of_each (permit o) h f n = absurd n
    of_each deny h f n = absurd n
    of_each (grant g c) h f n = of_c_each c h f n
    of_each (all ts) h f n = ofs_each ts h f n
    of_each (any ts) h f n = ofs_each ts h f n
    of_each (or_else a b) h f (inl n) = of_each a h.0 f n
    of_each (or_else a b) h f (inr n) = of_each b h.1 f n
    of_each (stored d) h f n = absurd n

    ofs_each : {O : Type 0} (ts : Policies O) → Eachs Q ts → (f : ℕ) → Namess f ts → Q f
    ofs_each pnil h f n = absurd n
    ofs_each (pcons t ts) h f (inl n) = of_each t h.0 f n
    ofs_each (pcons t ts) h f (inr n) = ofs_each ts h.1 f n
