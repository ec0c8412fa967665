-- `sitting::list_table` meets its contract: step by step. Assumes nothing.
use mathlib.Core.Path.{sym}
use Prim.Native.Nat.{◌+◌, ◌-◌}
use native.Mathlib.Omega.{arith}
use lib.ListN.{drop, length-drop}
use Rattle.listing.specs.WriterLaws.{wrote_as}
use Rattle.sitting.proofs.Requesting.{no_size, long_table, table_cut, table_read}
use Rattle.sitting.proofs.list_table.Goals as goal

pub returns-then-input-at-lt2 : goal.returns-then-input-at-lt2
returns-then-input-at-lt2 c = wrote_as (sym (no_size c.args.sheet.now (drop c.args.at c.args.input.now) (omega (arith, length-drop c.args.at c.args.input.now, c.if-input-at-lt2.true)))) c.list_refusal.ensures

pub returns-then-size-gt-TABLE_BYTES : goal.returns-then-size-gt-TABLE_BYTES
returns-then-size-gt-TABLE_BYTES c = wrote_as (sym (long_table c.args.sheet.now (drop c.args.at c.args.input.now) c.number_at-size.ensures.0 c.if-size-gt-TABLE_BYTES.true)) c.list_refusal-then-size-gt-TABLE_BYTES.ensures

pub returns-then-input-start : goal.returns-then-input-start
returns-then-input-start c = wrote_as (sym (table_cut c.args.sheet.now (drop c.args.at c.args.input.now) c.number_at-size.ensures.0 c.if-size-gt-TABLE_BYTES.false (omega (arith, length-drop (c.args.at + 2) c.args.input.now, c.if-input-start.true)))) c.list_refusal-then-input-start.ensures

pub returns : goal.returns
returns c = wrote_as (sym (table_read c.args.sheet.now (drop c.args.at c.args.input.now) c.number_at-size.ensures.0 c.if-size-gt-TABLE_BYTES.false (c.args.at + 2 + c.number_at-size.result - (c.args.at + 2)) (omega arith) (omega (arith, length-drop (c.args.at + 2) c.args.input.now, c.if-input-start.false)))) c.list_decision.ensures
