-- `unpack::check_record` meets its contract. Assumes nothing.
use Rattle.std.proofs.Common.{◌≡◌, ◌+◌, ◌*◌, sym, ◌∙◌, ap, Err, rules, arith}
use Rattle.refusal.specs.Numbers.{by_number}
use Rattle.model.specs.Bits.{run_of}
use Rattle.model.specs.Reading.{refuse}
use Rattle.unpack.specs.StepLaws.{kind_first}
use Rattle.unpack.specs.RecordLaws.{record_short}
use Rattle.unpack.proofs.Fields.{bits_known}
use Rattle.unpack.proofs.Records.{says_resolved, says_pending}
use Rattle.unpack.proofs.Steps.{run_ended, run_there}
use Rattle.unpack.proofs.check_record.Goals as goal

pub returns-in_err-inside-3 : goal.returns-in_err-inside-3
returns-in_err-inside-3 c =
    let run = run_of c.args.bytes.now in
    let bits = bits_known c.args.bytes.now (λ i. omega (arith, c.type_inv.bytes i)) in
    let x = run_ended run _ _ c.in_err-inside-3.ensures in
    let e : c.from_residual-in_err-inside-3.result ≡ Err c.in_err-inside-3.field-0.0 = search rules in
    rw e (record_short run bits (omega (arith, c.bits-kind.ensures.is, kind_first run bits, c.if-kind-lt-KIND_RESOLVED.false)) (omega (arith, x.1, c.bits-count.ensures.is)) ∙ ap refuse (sym x.0))

pub returns-then-kind-eq-KIND_RESOLVED : goal.returns-then-kind-eq-KIND_RESOLVED
returns-then-kind-eq-KIND_RESOLVED c =
    let run = run_of c.args.bytes.now in
    let bits = bits_known c.args.bytes.now (λ i. omega (arith, c.type_inv.bytes i)) in
    let count = c.bits-count.ensures.is in
    says_resolved run bits (32 + 12 * c.bits-count.result) (1 + c.entry_words.result) (omega (arith, count)) (omega (arith, count, c.entry_words.ensures)) (omega (arith, run_there run _ c.in_ok-inside-3.ensures, count)) (by_number c.check_resolved.result)
    (omega (arith, c.bits-kind.ensures.is, kind_first run bits, c.if-kind-eq-KIND_RESOLVED.true)) c.check_resolved.ensures

pub returns : goal.returns
returns c =
    let run = run_of c.args.bytes.now in
    let bits = bits_known c.args.bytes.now (λ i. omega (arith, c.type_inv.bytes i)) in
    let kind = c.bits-kind.ensures.is ∙ sym (kind_first run bits) in
    let count = c.bits-count.ensures.is in
    says_pending run bits (32 + 12 * c.bits-count.result) (1 + c.entry_words.result) (omega (arith, count)) (omega (arith, count, c.entry_words.ensures)) (omega (arith, run_there run _ c.in_ok-inside-3.ensures, count)) (by_number c.check.result)
    (omega (arith, kind, c.if-kind-lt-KIND_RESOLVED.false)) (λ k. c.if-kind-eq-KIND_RESOLVED.false (kind ∙ k)) c.check.ensures
