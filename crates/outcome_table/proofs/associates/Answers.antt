-- `outcome_table::associates` meets its contract. Assumes nothing.
use Rattle.std.specs.Prelude.{refl}
use Rattle.std.proofs.Common.{rules, ◌∙◌, arith}
use Rattle.std.proofs.lemmas.Iterator.{YieldsList-from_range}
use Rattle.std.proofs.lemmas.Iterator.Search.{all_from_yields_List}
use Rattle.model.specs.Levels.{associate}
use Rattle.outcome.specs.Carried.{table_of, operation_of}
use Rattle.outcome_table.proofs.Every.{below_is}
use Rattle.outcome_table.proofs.associates.Goals as goal

pub returns : goal.returns
returns c =
    let n = c.args.table.levels in
    let p = associate (operation_of c.args.op (table_of c.args.table)) c.args.a c.args.b in
    all_from_yields_List p _ _ _ c.all.ensures.ran (YieldsList-from_range 0 n n refl (omega arith)) (λ x b q k. search rules) ∙ below_is n p
