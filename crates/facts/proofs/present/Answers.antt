-- `facts::present` meets its contract. Assumes nothing.
use mathlib.Core.Path.{◌≡◌, refl, ap, ◌∙◌}
use Prim.Native.Nat.{ℕ, zero, suc}
use lib.Dec.{eqb, eqb-suc-suc, eqb-suc-zero}
use Rattle.model.specs.Facts.{presence, table_fields}
use Rattle.facts.specs.Answers.{is_present}
use Rattle.facts.proofs.Fields.{present_by}
use Rattle.facts.proofs.present.Goals as goal

-- Of the fields only 1 reads Present.
one_is : (field : ℕ) → eqb field 1 ≡ is_present (presence field)
one_is zero = refl
one_is (suc zero) = refl
one_is (suc (suc field)) = rw (eqb-suc-suc, eqb-suc-zero)

pub returns : goal.returns
returns c = one_is c.field.result ∙ ap (λ (n : ℕ). is_present (presence n)) c.field.ensures ∙ present_by (table_fields c.args.facts.now) c.args.fact
