-- The entries of a record, each looked at in its turn. Assumes nothing.
use mathlib.Core.Path.{◌≡◌, refl, sym, ◌∙◌, ap, ap₂}
use mathlib.Core.Bool.{Bool, ◌||◌}
use mathlib.Core.List.{List, ◌∷◌, ◌++◌, map}
use Prim.Native.Nat.{ℕ, zero, suc, ◌+◌, ◌-◌, ◌*◌, ◌/◌, ◌%◌, ◌≤◌, ◌<◌, min}
use native.Mathlib.Numerals.{add-one}
use native.Mathlib.Omega.{arith}
use lib.ListN.{length, drop, get_or}
use lib.Seq.{drop-cons}
use Rattle.std.specs.List.{list_any, range_with_len}
use Rattle.std.proofs.Common.{drop_of_length-le}
use Rattle.std.proofs.Math.Nat.{min-eq_left}
use Rattle.model.specs.Fields.{pack}
use Rattle.model.specs.Facts.{Table}
use Rattle.model.specs.Consulted.{Consulted, contradicts, any_contradicted}
use Rattle.model.specs.Writing.{entry_bits, seen_in, entry_field}
use Rattle.laws.specs.FieldAt.{field_at}
use Rattle.laws.proofs.FieldAtLaws.{no_entry, entry_at, entries_there}
use Rattle.laws.proofs.ReadForm.{Named}
use Rattle.contradiction.specs.Contradicted.{Contradicted}

module _ (P : Table) (words : List ℕ) where
  -- Whether the table contradicts what stands at a place after the first word.
  abbrev pub contradicted_at : ℕ → Bool
  contradicted_at i = contradicts (seen_in (field_at entry_bits (drop 1 words) i / 16384)) (P (field_at entry_bits (drop 1 words) i % 1024))

  module _ (es : Consulted) (rest : List ℕ) (n : Named es) (were : pack entry_bits (map entry_field es) ++ rest ≡ drop 1 words) where
    at_entry : (i : ℕ) → i < length es → contradicted_at i ≡ contradicts (get_or es i no_entry).seen (P (get_or es i no_entry).fact)
    at_entry i h =
        let e = entry_at es rest (drop 1 words) i (field_at entry_bits (drop 1 words) i) n h were refl in ap₂ contradicts e.seen_is (ap P e.fact_is)

    from : (k i : ℕ) → i + k ≡ length es → list_any contradicted_at (range_with_len i k) ≡ any_contradicted P (drop i es)
    from zero i h = ap (any_contradicted P) (sym (drop_of_length-le es {i = i} (omega arith)))
    from (suc k) i h =
        let here : i < length es = omega arith in
        ap₂ (λ p q. p || q) (at_entry i here) (from k (i + 1) (omega arith))
        ∙ ap (λ j. any_contradicted P (get_or es i no_entry ∷ drop j es)) (add-one i)
        ∙ ap (any_contradicted P) (sym (drop-cons es i no_entry here))

  pub any_is : (count : ℕ) (r : Bool) → r ≡ list_any contradicted_at (range_with_len 0 count) → Contradicted P words count r
  any_is count r e = record { says = λ es rest n c were. e ∙ from es rest n were count 0 (omega arith) }

  all_fit : (es : Consulted) (rest : List ℕ) → pack entry_bits (map entry_field es) ++ rest ≡ drop 1 words → (n : ℕ) → n ≡ length es → n ≤ 2 * (length words - 1)
  all_fit es rest were zero e = omega arith
  all_fit es rest were (suc k) e = omega (arith, entries_there es rest words k (omega arith) were)

  -- Where the entries stand, so many words hold them: none is left out.
  pub there_is : (count there : ℕ) (r : Bool) → there ≡ min count (2 * (length words - 1)) → r ≡ list_any contradicted_at (range_with_len 0 there) → Contradicted P words count r
  there_is count there r few e =
      record {
        says = λ es rest n c were.
            let all : there ≡ count = few ∙ min-eq_left (all_fit es rest were count c) in
            (any_is there r e).says es rest n (all ∙ c) were;
      }
