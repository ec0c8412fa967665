-- `facts::settled` meets its contract. Assumes nothing.
use mathlib.Core.Path.{◌≡◌, refl, ap, ◌∙◌}
use Prim.Native.Nat.{ℕ, zero, suc}
use native.Mathlib.Omega.{arith}
use lib.Dec.{ltb}
use borrow.Author.Tests.{le-ltb}
use Rattle.model.specs.Facts.{presence, table_fields}
use Rattle.facts.specs.Answers.{is_settled}
use Rattle.facts.proofs.Fields.{settled_by}
use Rattle.facts.proofs.settled.Goals as goal

-- Of the fields 0 and 1 alone don't read Unknown.
below_two : (field : ℕ) → ltb field 2 ≡ is_settled (presence field)
below_two zero = refl
below_two (suc zero) = refl
below_two (suc (suc field)) = le-ltb (suc (suc field)) 2 (omega arith)

pub returns : goal.returns
returns c = below_two c.field.result ∙ ap (λ (n : ℕ). is_settled (presence n)) c.field.ensures ∙ settled_by (table_fields c.args.facts.now) c.args.fact
