-- `register::is_register` meets its contract. Assumes nothing.
use mathlib.Core.Path.{◌∙◌}
use Prim.Native.Nat.{◌%◌}
use native.Mathlib.Omega.{arith}
use lib.ListN.{length}
use borrow.Author.Tests.{eq-eqb, ne_eqb, le-leb, lt-leb}
use Rattle.register.proofs.is_register.Goals as goal

pub returns-then-entries-ne0 : goal.returns-then-entries-ne0
returns-then-entries-ne0 c =
    let words = length c.args.entries.now in
    rw (ne_eqb (words % 2) 0 c.if-entries-ne0.true)

pub returns-then-entries-gt-REGISTER_WORDS : goal.returns-then-entries-gt-REGISTER_WORDS
returns-then-entries-gt-REGISTER_WORDS c =
    let words = length c.args.entries.now in
    rw (eq-eqb (words % 2) 0 c.if-entries-ne0.false, lt-leb words 512 (omega arith))

pub returns : goal.returns
returns c =
    let words = length c.args.entries.now in
    c.entries_faultless.ensures ∙ rw (eq-eqb (words % 2) 0 c.if-entries-ne0.false, le-leb words 512 (omega arith))
