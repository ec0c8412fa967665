-- `register::repeated` meets its contract. The loop's invariant: an entry is among those from `from` on exactly where it has been met or is among
-- those left. The measure is how many words are left. Assumes nothing.
use mathlib.Core.Path.{sym, ◌∙◌, ap}
use mathlib.Core.Bool.{◌||◌, or-false}
use borrow.Author.Rules.{rules}
use Rattle.model.specs.Register.{is_among}
use Rattle.register.specs.Answers.{entry_meant}
use Rattle.register.proofs.Entries.{among_next, no_entry_lem}
use Rattle.register.proofs.repeated.Goals as goal

pub loop-at-preserved : goal.loop-at-preserved
loop-at-preserved c =
    let start = c.args in (
      search rules,
      c.loop-at.invariant.1
          ∙ among_next start.entries.now c.loop-at.at (entry_meant c.at.result) c.loop-at-test.true c.at.ensures
          (entry_meant start.entry) c.loop-at.met c.same_sheet-met.result c.same_sheet-met.ensures,
    )

pub returns : goal.returns
returns c =
    let start = c.args in
    sym
    (c.loop-at.invariant.1
    ∙ ap (λ es. c.loop-at.met || is_among (entry_meant start.entry) es) (no_entry_lem start.entries.now c.loop-at.at c.loop-at-test.false)
    ∙ or-false c.loop-at.met)
