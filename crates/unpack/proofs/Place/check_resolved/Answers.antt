-- `check_resolved` of Place meets its contract. Assumes nothing.
use Rattle.std.proofs.Common.{sym, subst, arith}
use Rattle.refusal.specs.Numbers.{by_number}
use Rattle.unpack.specs.Answers.{Says}
use Rattle.unpack.specs.Places.{whole, rest}
use Rattle.unpack.specs.RecordLaws.{resolved_is}
use Rattle.unpack.proofs.Fields.{bits_here}
use Rattle.unpack.proofs.Steps.{lead_kind}
use Rattle.unpack.proofs.Place.check_resolved.Goals as goal

pub returns : goal.returns
returns c =
    let p = c.args.self.now in
    subst (λ q. Says (whole p.here) p.here.at q (by_number c.check.result)) (sym (resolved_is (rest p.here) (bits_here p.here) p.words (omega (arith, lead_kind p _ c.in_ok-lead.ensures, c.if-lead-lt-KIND_PERMIT_WITH_TRACE.false)))) c.check.ensures
