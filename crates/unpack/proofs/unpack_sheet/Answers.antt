-- `unpack::unpack_sheet` meets its contract: each answer from what the check found. Assumes nothing.
use Rattle.std.proofs.Common.{◌≡◌, ◌-◌, Err, rules, arith}
use Rattle.model.specs.Bits.{run_of}
use Rattle.unpack.specs.Nodes.{restored}
use Rattle.unpack.proofs.Fields.{bits_known}
use Rattle.unpack.proofs.Whole.{sheets, sheet_restored, misjudged, room_for, done}
use Rattle.unpack.proofs.unpack_sheet.Goals as goal

pub returns-in_err-judge : goal.returns-in_err-judge
returns-in_err-judge c =
    let e : c.from_residual-in_err-judge.result ≡ Err c.in_err-judge.field-0.0 = search rules in
    rw e (misjudged sheets c.args.bytes.now c.args.out.now (omega (arith, c.if-bytes-gt-TIGHT_BYTES.false)) c.in_ok-found.found c.in_ok-found.ensures.0 c.in_err-judge.field-0.0 c.in_err-judge.ensures)

pub restore-requires : goal.restore-requires
restore-requires c =
    let bytes = c.args.bytes.now in
    let f = c.in_ok-found.found in
    let says = c.in_ok-found.ensures in
    let room = room_for sheets bytes c.args.out.now (omega (arith, c.if-bytes-gt-TIGHT_BYTES.false)) f says.0 c.in_ok-judge.ensures (restored (run_of bytes) 0 (f.at - 0)) (sheet_restored (run_of bytes) f.at (bits_known bytes (λ i. omega (arith, c.type_inv.bytes i))) says.1) in
    (omega (arith, c.if-bytes-gt-TIGHT_BYTES.false), omega arith, says.1, room)

pub returns : goal.returns
returns c =
    let bytes = c.args.bytes.now in
    let f = c.in_ok-found.found in
    let says = c.in_ok-found.ensures in
    done sheets bytes c.args.out.now (omega (arith, c.if-bytes-gt-TIGHT_BYTES.false)) f says.0 c.in_ok-judge.ensures (restored (run_of bytes) 0 (f.at - 0)) (sheet_restored (run_of bytes) f.at (bits_known bytes (λ i. omega (arith, c.type_inv.bytes i))) says.1) c.restore.ensures
