-- `stored_step` of Place meets its contract. Assumes nothing.
use Rattle.std.proofs.Common.{◌≡◌, Ok, Err, rules}
use Rattle.refusal.specs.Numbers.{number_of}
use Rattle.unpack.proofs.Steps.{stored_as}
use Rattle.unpack.proofs.Place.stored_step.Goals as goal

pub returns-in_err-after : goal.returns-in_err-after
returns-in_err-after c =
    let e : c.from_residual.result ≡ Err c.in_err-after.field-0.0 = search rules in
    rw e (λ depth. stored_as c.args.self.now c.args.kind c.requires.0 c.requires.1 c.requires.2 depth _ c.node-node.ensures.is (Err (number_of c.in_err-after.field-0.0)) _ _ c.node_bits.ensures.is c.node_words.ensures.is c.in_err-after.ensures)

pub returns : goal.returns
returns c = λ depth.
    stored_as c.args.self.now c.args.kind c.requires.0 c.requires.1 c.requires.2 depth _ c.node-node.ensures.is (Ok c.in_ok-after.field-0) _ _ c.node_bits.ensures.is c.node_words.ensures.is c.in_ok-after.ensures
