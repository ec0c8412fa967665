-- `vectors::expect` meets its contract. Assumes nothing.
use mathlib.Core.Path.{ap, ◌∙◌}
use mathlib.Core.List.{◌++◌}
use native.Mathlib.Omega.{arith}
use lib.ListN.{drop}
use Rattle.listing.specs.Inputs.{words_in}
use Rattle.vectors.proofs.Reading.{words_stand}
use Rattle.vectors.proofs.expect.Goals as goal

pub returns : goal.returns
returns c =
    let args = c.args in
    words_stand c.read_words.result args.case.now args.at args.count _ _ (omega arith) (omega arith) c.read_words.ensures
    ∙ ap (λ l. words_in args.case.now args.at args.count ++ drop args.count l) c.fill.ensures
