-- The entries of a record, listed one after the other. Assumes nothing.
use mathlib.Core.Path.{◌≡◌, refl, sym, ◌∙◌, ap, ap₂}
use mathlib.Core.List.{List, [], ◌∷◌, ◌++◌, map}
use Prim.Native.Nat.{ℕ, ◌+◌, ◌/◌, ◌%◌, ◌≤◌, ◌<◌}
use native.Mathlib.Numerals.{add-one}
use native.Mathlib.Omega.{arith}
use lib.ListN.{length, take, drop, get_or}
use lib.Seq.{take-suc, take_all}
use Rattle.model.specs.Fields.{pack}
use Rattle.model.specs.Facts.{Presence}
use Rattle.model.specs.Consulted.{Entry, Consulted, consult, once_from}
use Rattle.model.specs.Writing.{entry_bits, seen_in, entry_field}
use Rattle.laws.specs.FieldAt.{field_at}
use Rattle.laws.proofs.FieldAtLaws.{no_entry, EntryIn, entry_at, entries_there}
use Rattle.laws.proofs.ReadForm.{Named}
use Rattle.consulted.specs.Listing.{Lent, Consults, Recorded}
use Rattle.consulted.proofs.Listing.{consults_then, consults_as}
use Rattle.completion.specs.Answers.{LoadsConsulted}

-- ---- one entry more
once_end : (l es : Consulted) (e : Entry) → once_from l (es ++ e ∷ []) ≡ consult (once_from l es) e.fact e.seen
once_end l [] e = refl
once_end l (x ∷ es) e = once_end (consult l x.fact x.seen) es e

-- The first i entries are listed.
pub record Loading (words : List ℕ) (count : ℕ) (s t : Lent) (i : ℕ) : Type 0 where
  pub within : i ≤ count
  pub log : (es : Consulted) (rest : List ℕ) → Named es → count ≡ length es → pack entry_bits (map entry_field es) ++ rest ≡ drop 1 words → Consults (λ l. once_from l (take i es)) s t

module _ (words : List ℕ) (count : ℕ) (s : Lent) where
  entry_listed : (t u : Lent) (i b f : ℕ) (p : Presence) (es : Consulted) → i < length es → EntryIn b (get_or es i no_entry) → f ≡ b % 1024 → p ≡ seen_in (b / 16384) →
      Recorded f p t u → Consults (λ l. once_from l (take i es)) s t → Consults (λ l. once_from l (take (i + 1) es)) s u
  entry_listed t u i b f p es h here ef ep r k =
      let e = get_or es i no_entry in
      consults_as (λ l.
      ap (λ j. once_from l (take j es)) (add-one i) ∙ ap (once_from l) (take-suc es i no_entry h) ∙ once_end l (take i es) e
      ∙ ap₂ (λ g q. consult (once_from l (take i es)) g q) (sym (ef ∙ here.fact_is)) (sym (ep ∙ here.seen_is)))
      (consults_then k r.log)

  pub load_more : (t u : Lent) (i b f : ℕ) (p : Presence) → i < count → Loading words count s t i → b ≡ field_at entry_bits (drop 1 words) i → f ≡ b % 1024 → p ≡ seen_in (b / 16384) →
      Recorded f p t u → Loading words count s u (i + 1)
  load_more t u i b f p h k eb ef ep r =
      record {
        within = omega arith;
        log = λ es rest n c were.
            let here : i < length es = omega arith in
            entry_listed t u i b f p es here (entry_at es rest (drop 1 words) i b n here were eb) ef ep r (k.log es rest n c were);
      }

  pub load_all : (t : Lent) (i : ℕ) → count ≤ i → Loading words count s t i → LoadsConsulted words count s t
  load_all t i h k =
      record {
        log = λ es rest n c were. consults_as (λ l. ap (once_from l) (sym (take_all i es (omega arith)))) (k.log es rest n c were);
      }

  -- Words that end before their entries do hold none.
  pub load_cut : (t : Lent) (i : ℕ) → i < count → length words ≤ 1 + i / 2 → LoadsConsulted words count s t
  load_cut t i h short = record { log = λ es rest n c were. let z : ⊥ = omega (arith, entries_there es rest words i (omega arith) were) in absurd z }
