-- `outcome_table::lawful` meets its contract. Assumes nothing.
use Rattle.std.specs.Prelude.{Bool, ℕ, refl}
use Rattle.std.proofs.Common.{rules, sym, ◌∙◌, arith}
use Rattle.std.proofs.lemmas.Iterator.{YieldsList-from_range}
use Rattle.std.proofs.lemmas.Iterator.Search.{all_from_yields_List}
use Rattle.model.specs.Levels.{every_below, lawful_pair}
use Rattle.outcome.specs.Carried.{table_of}
use Rattle.outcome_table.proofs.Every.{below_is}
use Rattle.outcome_table.proofs.lawful.Goals as goal

pub returns-then-closed : goal.returns-then-closed
returns-then-closed c =
    let n = c.args.table.levels in
    let p : ℕ → Bool = λ a. every_below n (lawful_pair (table_of c.args.table) a) in
    rw (sym c.closed.ensures ∙ c.if-closed.true)
    (all_from_yields_List p _ _ _ c.all.ensures.ran (YieldsList-from_range 0 n n refl (omega arith)) (λ x b q k. search rules) ∙ below_is n p)
