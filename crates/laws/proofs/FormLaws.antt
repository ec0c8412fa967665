-- What comes of a sheet has no obligation list over what a node 12 can count. Request 3: "which neither a sheet nor a record of demand 3's chains can bring about".
use Rattle.std.specs.Prelude.{List, ℕ}
use Rattle.std.proofs.Common.{arith}
use Rattle.model.specs.Decision.{permits, denies}
use Rattle.model.specs.Policy.{Policy, permit, deny, grant, all, any, or_else, stored, Policies, pnil, pcons}
use Rattle.model.specs.Reading.{obligation_count}
use Rattle.laws.proofs.ListLaws.{most_repeated}
use Rattle.laws.specs.Form.{FormO, Countable, FewRepeats, FormOf, FormsOf, Few, Form, Forms}

-- Fewer than 64 stand again, and at most 64 others.
pub few_countable : (os : List ℕ) → FormO FewRepeats os → Countable os
few_countable os f = omega (arith, f.0, most_repeated obligation_count os f.1)

mutual
  pub countable_form : {O : Type 0} (G : O → Type 0) (t : Policy O) → Form G t → FormOf G Few Countable t
  countable_form G (permit o) f = f
  countable_form G deny f = f
  countable_form G (grant g c) f = f
  countable_form G (all ts) f = (f.0, countable_forms G ts f.1)
  countable_form G (any ts) f = (f.0, countable_forms G ts f.1)
  countable_form G (or_else a b) f = (countable_form G a f.0, countable_form G b f.1)
  countable_form G (stored (permits p)) f = (f.0, (few_countable p.obligations f.1, f.1.1), f.2, f.3)
  countable_form G (stored (denies d)) f = f

  countable_forms : {O : Type 0} (G : O → Type 0) (ts : Policies O) → Forms G ts → FormsOf G Few Countable ts
  countable_forms G pnil f = f
  countable_forms G (pcons t ts) f = (countable_form G t f.0, countable_forms G ts f.1)
