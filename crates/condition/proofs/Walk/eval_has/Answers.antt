-- `Walk::eval_has` meets its contract: by what the table says of the fact, and by what is listed then: nothing more where the fact is in the set. Assumes nothing.
use Rattle.model.specs.Facts.{table_of}
use Rattle.consulted.proofs.Listing.{recorded_again}
use Rattle.condition.proofs.Evaluating.{has_answer}
use Rattle.condition.proofs.Walk.eval_has.Goals as goal
use Rattle.condition.proofs.Walk.eval_has.Goals.{then-not-lists, else-not-lists}

pub returns : goal.returns
returns c =
    has_answer (table_of c.args.self.now.facts.now) _ _ _ _ c.present.ensures
    (elim c.if-not-lists.branch [
      | then-not-lists w ↦ rw w.consulted-is (rw w.of.ensures.seen at w.consult.ensures)
      | else-not-lists w ↦ rw w.consulted-is (recorded_again _ _ _ c.requires (rw w.if-not-lists.false at c.lists.ensures))
    ])
