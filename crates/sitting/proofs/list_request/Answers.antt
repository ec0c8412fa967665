-- `sitting::list_request` meets its contract: step by step. Assumes nothing.
use mathlib.Core.Path.{◌≡◌, sym, ◌∙◌, ap, ap₂}
use mathlib.Core.List.{List}
use Prim.Native.Nat.{ℕ, ◌-◌, ◌*◌, ◌≤◌}
use native.Mathlib.Omega.{arith}
use lib.ListN.{length, take, drop, replicate, length-drop}
use lib.Seq.{length-take-le, take_all, take_at, drop-drop}
use Rattle.sitting.specs.Requests.{from_table}
use Rattle.listing.specs.WriterLaws.{wrote_as}
use Rattle.sitting.proofs.Requesting.{no_count, no_words, many_words, words_cut, words_read, words_long}
use borrow.Author.Rules.{rules}
use Rattle.sitting.proofs.list_request.Goals as goal
use Rattle.sitting.proofs.list_request.Goals.{then-count-eq0-via-then-count-eq0, then-count-eq0-via-else-count-eq0+then-count-gt-SHEET_WORDS}

pub returns-then-input-lt2 : goal.returns-then-input-lt2
returns-then-input-lt2 c = wrote_as (sym (no_count c.args.input.now c.if-input-lt2.true)) c.list_refusal.ensures

pub returns-then-count-eq0 : goal.returns-then-count-eq0
returns-then-count-eq0 c =
    let input = c.args.input.now in
    let read = c.number_at-count.ensures.0 in
    let listed = c.list_refusal-then-count-eq0.ensures in
    elim c.then-count-eq0.branch [
      | then-count-eq0-via-then-count-eq0 w ↦ wrote_as (sym (no_words input read w.if-count-eq0.true)) listed
      | then-count-eq0-via-else-count-eq0+then-count-gt-SHEET_WORDS w ↦ wrote_as (sym (many_words input read w.if-count-gt-SHEET_WORDS.true)) listed
    ]

-- The words stand after the count's two bytes, and there is room for them in the sheet.
after_count : (input : List ℕ) → 2 ≤ length input → take (length input - 2) (drop 2 input) ≡ drop 2 input
after_count input h = take_all (length input - 2) (drop 2 input) (omega (arith, length-drop 2 input))

abbrev zeros : List ℕ
zeros = replicate 4096 0

room : (count : ℕ) → count ≤ 4096 → length (take count zeros) ≡ count
room count h = length-take-le count zeros (omega arith)

pub list_table-requires : goal.list_table-requires
list_table-requires c =
    let input = c.args.input.now in
    let count = c.number_at-count.result in
    let few : length (take count zeros) ≡ count = room count c.if-count-gt-SHEET_WORDS.false in
    let long = words_long (drop 2 input) (take count zeros) c.read_words.new.out _ (rw (after_count input c.if-input-lt2.false) at c.read_words.ensures) c.if-read_words.true in
    let there = take_at c.read_words.new.out (drop count zeros) count (c.read_words.auto.out ∙ few) in
    (omega (arith, ap length there, c.read_words.auto.out, few), omega (arith, ap length there, c.read_words.auto.out, few), omega (arith, length-drop 2 input, few, long), search rules)

pub returns-then-read_words : goal.returns-then-read_words
returns-then-read_words c =
    let input = c.args.input.now in
    let count = c.number_at-count.result in
    let few : length (take count zeros) ≡ count = room count c.if-count-gt-SHEET_WORDS.false in
    let read = words_read input c.number_at-count.ensures.0 (omega (arith, c.if-count-eq0.false)) c.if-count-gt-SHEET_WORDS.false c.read_words.result _ _ few (rw (after_count input c.if-input-lt2.false) at c.read_words.ensures) c.if-read_words.true in
    wrote_as (sym (read ∙ ap₂ from_table (sym (take_at c.read_words.new.out (drop count zeros) count (c.read_words.auto.out ∙ few))) (drop-drop (4 * count) 2 input))) c.list_table.ensures

pub returns : goal.returns
returns c =
    let input = c.args.input.now in
    wrote_as (sym (words_cut input c.number_at-count.ensures.0 (omega (arith, c.if-count-eq0.false)) c.if-count-gt-SHEET_WORDS.false c.read_words.result _ _ (room c.number_at-count.result c.if-count-gt-SHEET_WORDS.false) (rw (after_count input c.if-input-lt2.false) at c.read_words.ensures) c.if-read_words.false)) c.list_refusal-2.ensures
