-- `register::entries_faultless` meets its contract. The loop's invariant: the entries are faultless exactly where those left are.
-- The measure is how many words are left. Assumes nothing.
use mathlib.Core.Path.{refl, sym, ◌∙◌, ap}
use mathlib.Core.Bool.{true, false}
use Prim.Native.Nat.{◌+◌}
use lib.ListN.{drop}
use borrow.Author.Rules.{rules}
use borrow.Author.Tests.{eq-eqb, ne_eqb}
use Rattle.model.specs.Register.{entries_of, is_among, faultless}
use Rattle.register.specs.Answers.{entry_meant}
use Rattle.register.proofs.Entries.{faultless_next, no_entry_lem}
use Rattle.register.proofs.entries_faultless.Goals as goal

pub returns-then-entry-ne0 : goal.returns-then-entry-ne0
returns-then-entry-ne0 c =
    let start = c.args in
    let entry = c.at-entry.result in
    sym
    (c.loop-next.invariant.1
    ∙ faultless_next start.entries.now c.loop-next.next (entry_meant entry) c.loop-next-test.true c.at-entry.ensures
    false (is_among (entry_meant entry) (entries_of (drop (c.loop-next.next + 2) start.entries.now))) (ne_eqb entry.zero 0 c.if-entry-ne0.true) refl)

pub returns-then-repeated : goal.returns-then-repeated
returns-then-repeated c =
    let start = c.args in
    let entry = c.at-entry.result in
    sym
    (c.loop-next.invariant.1
    ∙ faultless_next start.entries.now c.loop-next.next (entry_meant entry) c.loop-next-test.true c.at-entry.ensures
    true true (eq-eqb entry.zero 0 c.if-entry-ne0.false) (sym c.repeated.ensures ∙ c.if-repeated.true))

pub loop-next-preserved : goal.loop-next-preserved
loop-next-preserved c =
    let start = c.args in
    let entry = c.at-entry.result in (
      search rules,
      c.loop-next.invariant.1
          ∙ faultless_next start.entries.now c.loop-next.next (entry_meant entry) c.loop-next-test.true c.at-entry.ensures
          true false (eq-eqb entry.zero 0 c.if-entry-ne0.false) (sym c.repeated.ensures ∙ c.if-repeated.false),
    )

pub returns : goal.returns
returns c =
    sym
    (c.loop-next.invariant.1
    ∙ ap faultless (no_entry_lem c.args.entries.now c.loop-next.next c.loop-next-test.false))
