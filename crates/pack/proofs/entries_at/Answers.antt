-- `pack::entries_at` meets its contract. Assumes nothing.
use Rattle.std.proofs.Common.{drop}
use Rattle.pack.specs.Flat.{entry_in}
use Rattle.pack.proofs.Fields.{pair}
use Rattle.pack.proofs.entries_at.Goals as goal

pub returns : goal.returns
returns c = pair (entry_in (drop c.args.at c.args.words.now)) c.args.index c.args.width c.requires.1 c.entry_at.ensures c.entry_at-2.ensures
