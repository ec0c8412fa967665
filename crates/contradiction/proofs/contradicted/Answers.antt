-- `contradiction::contradicted` meets its contract. Assumes nothing.
use Rattle.std.proofs.Common.{rules, arith, ap, ◌∙◌}
use Prim.Native.Nat.{◌*◌, min}
use Rattle.std.proofs.lemmas.Iterator.{YieldsList-from_range}
use Rattle.std.proofs.lemmas.Iterator.Search.{any_from_yields_List}
use Rattle.model.specs.Facts.{table_of}
use Rattle.contradiction.proofs.Contradicting.{contradicted_at, there_is}
use Rattle.contradiction.proofs.contradicted.Goals as goal

pub returns : goal.returns
returns c =
    let args = c.args in
    let P = table_of args.facts.now in
    let words = args.words.now in
    there_is P words args.consulted c.min-there.result _ (c.min-there.ensures ∙ ap (λ n. min args.consulted (2 * n)) c.saturating_sub.ensures)
    (any_from_yields_List (contradicted_at P words) _ _ _ c.any.ensures.ran (YieldsList-from_range 0 c.min-there.result c.min-there.result (search rules) (omega arith)) (λ x b q k. search rules))
