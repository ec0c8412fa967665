-- `pack::obligations_at` meets its contract. Assumes nothing.
use Rattle.std.proofs.Common.{drop}
use Rattle.model.specs.Writing.{obligation_bits}
use Rattle.laws.specs.FieldAt.{field_at}
use Rattle.pack.proofs.Fields.{four}
use Rattle.pack.proofs.obligations_at.Goals as goal

pub returns : goal.returns
returns c = four (field_at obligation_bits (drop c.args.at c.args.words.now)) c.args.index c.obligation_at-first.ensures c.obligation_at-second.ensures c.obligation_at-third.ensures c.obligation_at-fourth.ensures
