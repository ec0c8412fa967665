-- `outcome_table::closed` meets its contract. Assumes nothing.
use Rattle.std.specs.Prelude.{Bool, ℕ, ltb}
use Rattle.std.proofs.Common.{rules, ◌∙◌}
use borrow.Author.Tests.{tests}
use Rattle.std.proofs.lemmas.Iterator.{YieldsList-from_slice}
use Rattle.std.proofs.lemmas.Iterator.Search.{all_from_yields_List}
use Rattle.outcome_table.proofs.Every.{bytes_are}
use Rattle.outcome_table.proofs.closed.Goals as goal

pub returns : goal.returns
returns c =
    let p : ℕ → Bool = λ b. ltb b c.args.table.levels in
    all_from_yields_List p _ _ _ c.all.ensures.ran (YieldsList-from_slice c.args.table.bytes.now cc) (λ x b q k. search (rules, tests)) ∙ bytes_are p c.args.table.bytes.now
