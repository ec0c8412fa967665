-- `visits::Walk::visit_plain` meets its contract. Assumes nothing.
use native.Mathlib.Omega.{arith}
use Rattle.model.specs.Facts.{table_of}
use Rattle.visits.proofs.Policies.{plain_counted, plain_over}
use Rattle.visits.proofs.Walk.visit_plain.Goals as goal

pub returns-then-self-nodes-lt2 : goal.returns-then-self-nodes-lt2
returns-then-self-nodes-lt2 c =
    let a = c.args in
    let s = a.self.now in
    plain_over (table_of s.facts.now) s.words.now a.at s.allowance a.nodes c.requires.0 (omega (arith, c.if-self-nodes-lt2.true, c.requires.1))

pub returns : goal.returns
returns c =
    let a = c.args in
    let s = a.self.now in
    plain_counted (table_of s.facts.now) s.words.now a.at s.allowance a.nodes c.requires.0 _ _ c.present.ensures c.counted.ensures
