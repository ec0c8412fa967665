-- Request 7: a table that agrees contradicts no entry of a record on the way, since each entry says what the known table says, silence being Absent, of a fact
-- that the sheet names.
use Rattle.std.specs.Prelude.{◌≡◌, refl, ◌⊎◌, Bool, true, false, cond, List, [], ◌∷◌, ◌++◌, ℕ}
use Rattle.std.proofs.Common.{sym, ◌∙◌, inl, inr, arith}
use Rattle.std.proofs.lemmas.Bool.{or_from}
use Rattle.model.specs.Facts.{Presence, absent, present, unknown, silent, Table, heard}
use Rattle.model.specs.Outcome.{Outcomes}
use Rattle.model.specs.Policy.{Policy}
use Rattle.model.specs.Partial.{ReducedPolicy, resolved, pending, Order, as_residual, reduce_policy}
use Rattle.model.specs.Consulted.{Entry, Consulted, is_consulted, consult, consult_known, contradicts, any_contradicted, once_from, once, walk}
use Rattle.model.specs.Record.{Record, tree, reduced, narrowed_from, narrowed}
use Rattle.laws.specs.Each.{Each, Agrees}
use Rattle.laws.specs.Names.{Names}
use Rattle.laws.proofs.NameLaws.{each_of}
use Rattle.staging.proofs.ConsultedLaws.{walk_keeps}
use Rattle.staging.proofs.Stages.{each_map, red_left, narrow_keeps}
use Rattle.staging.specs.Chain.{Step, AllOf, run}

-- Each entry has R.
abbrev pub EachEntry : (ℕ → Presence → Type 0) → Consulted → Type 0
EachEntry R [] = Unit {0}
EachEntry R (e ∷ es) = R e.fact e.seen × EachEntry R es

module _ (R : ℕ → Presence → Type 0) where
  entry_end : (l : Consulted) (e : Entry) → EachEntry R l → R e.fact e.seen → EachEntry R (l ++ e ∷ [])
  entry_end [] e h k = (k, tt)
  entry_end (d ∷ l) e h k = (h.0, entry_end l e h.1 k)

  consult_by : (l : Consulted) (f : ℕ) (p : Presence) (b : Bool) → EachEntry R l → R f p → EachEntry R (cond b l (l ++ record { fact = f; seen = p } ∷ []))
  consult_by l f p true h k = h
  consult_by l f p false h k = entry_end l (record { fact = f; seen = p }) h k

  entry_consult : (l : Consulted) (f : ℕ) (p : Presence) → EachEntry R l → R f p → EachEntry R (consult l f p)
  entry_consult l f p h k = consult_by l f p (is_consulted f l) h k

  entry_once_from : (l es : Consulted) → EachEntry R l → EachEntry R es → EachEntry R (once_from l es)
  entry_once_from l [] h k = h
  entry_once_from l (e ∷ es) h k = entry_once_from (consult l e.fact e.seen) es (entry_consult l e.fact e.seen h k.0) k.1

-- ---- the chain, of a sheet t under the known table K
module _ (L : Outcomes) (K : Table) (t : Policy L.O) where
  abbrev Said : ℕ → Presence → Type 0
  Said f p = (heard p ≡ heard (K f)) × Names f t

  -- What a table that agrees adds: it does not say Unknown where the list is added to.
  said_known : (l : Consulted) (f : ℕ) (p : Presence) → Names f t → (p ≡ unknown) ⊎ (heard p ≡ heard (K f)) → EachEntry Said l → EachEntry Said (consult_known l f p)
  said_known l f unknown n e h = h
  said_known l f absent n (inl e) h = let z : ◌≡◌ {A = ℕ} 0 1 = cc in absurd (omega arith)
  said_known l f absent n (inr e) h = entry_consult Said l f absent h (e, n)
  said_known l f present n (inl e) h = let z : ◌≡◌ {A = ℕ} 0 1 = cc in absurd (omega arith)
  said_known l f present n (inr e) h = entry_consult Said l f present h (e, n)
  said_known l f silent n (inl e) h = let z : ◌≡◌ {A = ℕ} 0 1 = cc in absurd (omega arith)
  said_known l f silent n (inr e) h = entry_consult Said l f silent h (e, n)

  abbrev AgreesThere : Table → Type 0
  AgreesThere P = (f : ℕ) → Names f t → Agrees K P f

  -- Each entry says what the known table says, and no fact is named but by the sheet.
  pub record Faithful (r : Record L.O) : Type 0 where
    pub entries : EachEntry Said r.log
    pub names : Each (λ f. Names f t) (tree r)

  module _ (o : Order) (P : Table) (agrees : AgreesThere P) where
    said_walk : (s : Policy L.O) (l : Consulted) → Each (λ f. Names f t) s → EachEntry Said l → EachEntry Said (walk L o P s l)
    said_walk s l n h = walk_keeps (EachEntry Said) (λ f. Names f t) P (λ k f m g. said_known k f (P f) m (agrees f m) g) L o s l n h

    pub faithful_reduced : Faithful (reduced L o P t)
    faithful_reduced =
        let named = each_of (λ f. Names f t) t (λ f n. n) in
        record {
          entries = said_walk t [] named tt;
          names = each_map (λ f x. x.0) (as_residual (reduce_policy L o P t)) (red_left L o P (λ f. Names f t) t named);
        }

    narrowed_entries : (b : ReducedPolicy L.O) (l : Consulted) → EachEntry Said l → Each (λ f. Names f t) (as_residual b) → EachEntry Said (narrowed_from L o P b l).log
    narrowed_entries (resolved d) l h n = h
    narrowed_entries (pending s) l h n = said_walk s (once l) n (entry_once_from Said [] l tt h)

  pub faithful_run : (r : Record L.O) (ss : List Step) → AllOf (λ s. AgreesThere s.table) ss → Faithful r → Faithful (run L r ss)
  faithful_run r [] hs h = h
  faithful_run r (s ∷ ss) hs h =
      let entries = narrowed_entries s.order s.table hs.0 r.body r.log h.entries h.names in
      faithful_run (narrowed L s.order s.table r) ss hs.1 (record { entries = entries; names = narrow_keeps L (λ f. Names f t) s r h.names })

  -- ---- no contradiction
  no_clash : (p q : Presence) (f : ℕ) → heard p ≡ heard (K f) → (q ≡ unknown) ⊎ (heard q ≡ heard (K f)) → contradicts p q ≡ false
  no_clash absent absent f e h = refl
  no_clash absent present f e (inl u) = cc
  no_clash absent present f e (inr u) = let same : absent ≡ present = e ∙ sym u in cc
  no_clash absent unknown f e h = refl
  no_clash absent silent f e h = refl
  no_clash present absent f e (inl u) = cc
  no_clash present absent f e (inr u) = let same : absent ≡ present = u ∙ sym e in cc
  no_clash present present f e h = refl
  no_clash present unknown f e h = refl
  no_clash present silent f e h = refl
  no_clash unknown q f e h = refl
  no_clash silent q f e h = refl

  module _ (P : Table) (agrees : AgreesThere P) where
    pub no_contradiction : (l : Consulted) → EachEntry Said l → any_contradicted P l ≡ false
    no_contradiction [] h = refl
    no_contradiction (e ∷ es) h =
        or_from (contradicts e.seen (P e.fact)) (any_contradicted P es)
        (no_clash e.seen (P e.fact) e.fact h.0.0 (agrees e.fact h.0.1)) (no_contradiction es h.1)
