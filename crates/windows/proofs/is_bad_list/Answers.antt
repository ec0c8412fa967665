-- `windows::is_bad_list` meets its contract. Assumes nothing.
use mathlib.Core.Path.{sym, ap, ◌∙◌}
use mathlib.Core.Bool.{not}
use lib.Dec.{eqb}
use Rattle.windows.proofs.Parts.{long_bad, odd_bad, bad_rest}
use Rattle.windows.proofs.is_bad_list.Goals as goal
use Rattle.windows.proofs.is_bad_list.Goals.{then-list-gt-LIST_WORDS-via-then-list-gt-LIST_WORDS, then-list-gt-LIST_WORDS-via-else-list-gt-LIST_WORDS+then-not-is_empty}

pub returns-then-list-gt-LIST_WORDS : goal.returns-then-list-gt-LIST_WORDS
returns-then-list-gt-LIST_WORDS c =
    let list = c.args.list.now in
    let chunks = c.as_chunks.ensures in
    elim c.then-list-gt-LIST_WORDS.branch [
      | then-list-gt-LIST_WORDS-via-then-list-gt-LIST_WORDS w ↦ long_bad list w.if-list-gt-LIST_WORDS.true
      | then-list-gt-LIST_WORDS-via-else-list-gt-LIST_WORDS+then-not-is_empty w ↦
          odd_bad list _ chunks.front (ap (λ n. eqb n 0) (sym chunks.back_len) ∙ sym w.is_empty.ensures ∙ w.if-not-is_empty.true)
    ]

pub returns : goal.returns
returns c =
    let list = c.args.list.now in
    let chunks = c.as_chunks.ensures in
    ap not c.all_right.ensures ∙ bad_rest list _ chunks.front (ap (λ n. eqb n 0) (sym chunks.back_len) ∙ sym c.is_empty.ensures ∙ c.if-not-is_empty.false) c.if-list-gt-LIST_WORDS.false
