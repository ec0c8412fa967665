-- `pack::pack_sheet` meets its contract. Assumes nothing.
use Rattle.std.proofs.Common.{◌≡◌, Err, rules, arith}
use Rattle.pack.proofs.Whole.{sheet_refused, sheet_length_lem, sheet_packed}
use Rattle.pack.proofs.pack_sheet.Goals as goal

pub returns-in_err-check_sheet : goal.returns-in_err-check_sheet
returns-in_err-check_sheet c =
    let e : c.from_residual.result ≡ Err c.in_err-check_sheet.field-0.0 = search rules in
    rw e (sheet_refused c.args.words.now c.args.out.now c.args.out.now _ c.in_err-check_sheet.ensures)

pub invariant_of-pack : goal.invariant_of-pack
invariant_of-pack c = record { inside = omega arith; few = sheet_length_lem c.args.words.now c.args.out.now c.args.out.now c.in_ok-check_sheet.ensures }

pub returns : goal.returns
returns c = sheet_packed c.args.words.now c.args.out.now c.pack.new.out c.pack.result c.in_ok-check_sheet.ensures c.pack.ensures
