-- A list of facts that is copied field by field is the list that reads there. Assumes nothing.
use mathlib.Core.Path.{◌≡◌, sym, ◌∙◌}
use mathlib.Core.List.{List}
use Prim.Native.Nat.{ℕ, ◌-◌, ◌≤◌, ◌<◌}
use native.Mathlib.Omega.{arith}
use lib.ListN.{length, take, drop, get_or, length-drop}
use lib.Seq.{length-take-le, get_or-take, ext_get_or}
use Rattle.model.specs.Fields.{words_for}
use Rattle.model.specs.Writing.{entry_bits}
use Rattle.model.specs.Reading.{read_list, listed}
use Rattle.laws.specs.FieldAt.{field_at}
use Rattle.laws.proofs.FieldAtLaws.{fact_field}
use Rattle.laws.proofs.FieldLaws.{weaker}
use Rattle.laws.proofs.ReadForm.{read_facts}
use Rattle.clause.specs.Answers.{FactsListed}

-- The first i fields stand at the front.
pub record Loading (words : List ℕ) (at count : ℕ) (before after : List ℕ) (i : ℕ) : Type 0 where
  pub within : i ≤ count
  pub long : length after ≡ length before
  pub fields : (k : ℕ) → k < i → get_or after k 0 ≡ field_at entry_bits (drop at words) k

module _ (words : List ℕ) (at count : ℕ) where
  pub load_all : (before after : List ℕ) (i : ℕ) → count ≤ length before → Loading words at count before after i → count ≤ i → FactsListed words at count after count
  load_all before after i room l h =
      let there : count ≤ length after = omega (arith, l.long) in
      record {
        within = there;
        front = λ few.
            weaker (read_list listed entry_bits count (drop at words))
            (λ fs vs r.
            let many : length fs ≡ count = r.long in
            ext_get_or 0 (take count after) fs (length-take-le count after there ∙ sym many)
            (λ k below.
            let in_list : k < length fs = omega (arith, length-take-le count after there) in
            get_or-take count after k 0 (omega arith) ∙ l.fields k (omega arith) ∙ fact_field fs vs (drop at words) k r.below in_list r.were))
            (read_facts count (drop at words));
      }

  -- Nothing is copied: the words end in the list.
  pub list_cut : (out : List ℕ) → length words - at < words_for 2 count → FactsListed words at count out 0
  list_cut out h =
      record {
        within = omega arith;
        front = λ few.
            weaker (read_list listed entry_bits count (drop at words))
            (λ fs vs r. let z : ⊥ = omega (arith, r.took_words, length-drop at words) in absurd z)
            (read_facts count (drop at words));
      }
