-- `windows::all_right` meets its contract. Assumes nothing.
use Rattle.std.proofs.Common.{rules}
use Rattle.std.proofs.lemmas.Iterator.{YieldsList-from_slice}
use Rattle.std.proofs.lemmas.Iterator.Search.{all_from_yields_List}
use Rattle.windows.specs.Setting.{right_in}
use Rattle.windows.proofs.all_right.Goals as goal

pub returns : goal.returns
returns c = all_from_yields_List right_in _ _ _ c.all.ensures.ran (YieldsList-from_slice c.args.windows.now cc) (λ x b q k. search rules)
