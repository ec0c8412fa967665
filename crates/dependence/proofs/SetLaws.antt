-- The required set of a record holds exactly the facts that a Has in its tree carries. For any outcomes.
use Rattle.std.specs.Prelude.{◌≡◌, refl, List, [], ℕ, ◌<◌, eqb, length, replicate}
use Rattle.std.proofs.Common.{sym, ◌∙◌, ap, subst, arith, eqb-true, eq-eqb}
use Rattle.std.proofs.Math.Option.{Option, none, some}
use Rattle.model.specs.Facts.{fact_count}
use Rattle.model.specs.Outcome.{Outcomes}
use Rattle.model.specs.Decision.{Decision}
use Rattle.model.specs.Policy.{Policy, names}
use Rattle.model.specs.Partial.{resolved, as_residual}
use Rattle.model.specs.Record.{Record, tree}
use Rattle.model.specs.Reading.{got, read_record}
use Rattle.model.specs.Required.{fact_set, required_of, required_residual_facts}
use Rattle.laws.proofs.FieldLaws.{Holds}
use Rattle.laws.specs.Each.{Each}
use Rattle.laws.proofs.NameLaws.{of_each}
use Rattle.laws.specs.Form.{IfThere, Free, Countable}
use Rattle.laws.proofs.ReadForm.{OkRecord, ok_record}
use Rattle.fact_set.specs.SetLaws.{has_fact}
use Rattle.staging.proofs.Bound.{small_t}
use Rattle.dependence.specs.Dependence.{bit_of, Exactly}
use Rattle.dependence.proofs.NamingLaws.{named, found}

module _ {O : Type 0} (t : Policy O) where
  -- The bit of a fact in the set of a tree tells whether the tree names it.
  is_named : (f : ℕ) → f < fact_count → eqb (bit_of (fact_set (λ g. names g t)) f) 1 ≡ names f t
  is_named f h = (has_fact f (fact_set (λ g. names g t)) (omega arith)).is_named (λ g. names g t) refl h

  exactly_tree : Each (λ f. f < fact_count) t → Exactly (fact_set (λ f. names f t)) t
  exactly_tree small = record {
    carried = λ f h b. named f t (sym (is_named f h) ∙ eq-eqb (bit_of (fact_set (λ g. names g t)) f) 1 b);
    listed = λ f n.
        let h : f < fact_count = of_each (λ g. g < fact_count) t small f n in
        (h, eqb-true (bit_of (fact_set (λ g. names g t)) f) 1 (is_named f h ∙ found f t n));
  }

-- ---- records
module _ (L : Outcomes) (rec : List ℕ) where
  -- Nothing is asked of the outcomes.
  abbrev Any : L.O → Type 0
  Any o = Unit {0}

  any_there : (o : Option L.O) → IfThere Any o
  any_there none = tt
  any_there (some o) = tt

  any_value_lem : (n : ℕ) → IfThere Any (L.value n)
  any_value_lem n = any_there (L.value n)

  -- A record that is read names facts below 1,024.
  small_record : (r : Record L.O) (ws : List ℕ) → read_record L.value rec ≡ got r ws → Each (λ f. f < fact_count) (tree r)
  small_record r ws e =
      let ok = subst (Holds (λ x _. OkRecord Any L.value any_value_lem (length rec) x)) e (ok_record Any L.value any_value_lem rec) in
      small_t Any Free Countable (tree r) ok.it.form

  pub exactly : (r : Record L.O) (ws : List ℕ) → read_record L.value rec ≡ got r ws → Exactly (required_residual_facts L rec).set (tree r)
  exactly r ws e =
      subst (λ q. Exactly (required_of q (λ x f. names f (tree x))).set (tree r)) (sym e)
      (exactly_tree (tree r) (small_record r ws e))

  -- A Resolved record requires nothing.
  pub none_resolved : (r : Record L.O) (ws : List ℕ) (d : Decision L.O) → read_record L.value rec ≡ got r ws → r.body ≡ resolved d
      → required_residual_facts L rec ≡ record { number = 0; set = replicate 16 0; count = 0 }
  none_resolved r ws d e b = ap (λ q. required_of q (λ x f. names f (tree x))) e ∙ ap (λ x. required_of (got x []) (λ y f. names f (as_residual y))) b
