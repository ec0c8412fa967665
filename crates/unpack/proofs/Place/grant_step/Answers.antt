-- `grant_step` of Place meets its contract. Assumes nothing.
use Rattle.std.proofs.Common.{◌≡◌, ◌∙◌, ◌+◌, ap, Ok, Err, rules}
use Rattle.refusal.specs.Numbers.{number_of}
use Rattle.unpack.proofs.Steps.{lead_owed, grant_length, grant_count, after_inside, grant_short, grant_owing, grant_ended, grant_fewer, grant_ends}
use Rattle.unpack.proofs.Place.grant_step.Goals as goal

pub returns-in_err-inside : goal.returns-in_err-inside
returns-in_err-inside c =
    let e : c.from_residual.result ≡ Err c.in_err-inside.field-0.0 = search rules in
    rw e (λ res. grant_short c.args.self.now c.args.depth c.requires.1 res _ c.in_err-inside.ensures)

pub returns-then-obligations-gt-MOST_OBLIGATIONS : goal.returns-then-obligations-gt-MOST_OBLIGATIONS
returns-then-obligations-gt-MOST_OBLIGATIONS c = λ res. grant_owing c.args.self.now c.args.depth c.requires.1 res c.in_ok-inside.ensures _ (lead_owed c.args.self.now c.args.lead c.requires.2) c.if-obligations-gt-MOST_OBLIGATIONS.true

pub returns-in_err-at : goal.returns-in_err-at
returns-in_err-at c =
    let e : c.from_residual-in_err-at.result ≡ Err c.in_err-at.field-0.0 = search rules in
    let n = grant_length c.args.self.now c.args.lead c.requires.2 _ c.grant_width.ensures.is in
    let m = ap (λ n. 2 + n) c.obligation_words.ensures ∙ grant_count c.args.self.now c.args.lead c.requires.2 in
    rw e (λ res. grant_ended c.args.self.now c.args.depth c.requires.1 res c.in_ok-inside.ensures _ (lead_owed c.args.self.now c.args.lead c.requires.2) c.if-obligations-gt-MOST_OBLIGATIONS.false _ _ n m _ c.in_err-at.ensures)

pub invariant_of-condition-2 : goal.invariant_of-condition-2
invariant_of-condition-2 c =
    let p = c.args.self.now in
    let n = grant_length c.args.self.now c.args.lead c.requires.2 _ c.grant_width.ensures.is in
    let m = ap (λ n. 2 + n) c.obligation_words.ensures ∙ grant_count c.args.self.now c.args.lead c.requires.2 in
    record { short = p.short; inside = after_inside p _ _ _ c.in_ok-at.ensures; fewer = grant_fewer p _ _ n m _ c.in_ok-at.ensures }

pub returns-in_err-check : goal.returns-in_err-check
returns-in_err-check c =
    let e : c.from_residual-in_err-check.result ≡ Err c.in_err-check.field-0.0 = search rules in
    let n = grant_length c.args.self.now c.args.lead c.requires.2 _ c.grant_width.ensures.is in
    let m = ap (λ n. 2 + n) c.obligation_words.ensures ∙ grant_count c.args.self.now c.args.lead c.requires.2 in
    rw e (λ res. grant_ends c.args.self.now c.args.depth c.requires.1 res c.in_ok-inside.ensures _ (lead_owed c.args.self.now c.args.lead c.requires.2) c.if-obligations-gt-MOST_OBLIGATIONS.false _ _ n m c.in_ok-at.field-0 c.in_ok-at.ensures (Err (number_of c.in_err-check.field-0.0)) c.in_err-check.ensures)

pub returns : goal.returns
returns c =
    let n = grant_length c.args.self.now c.args.lead c.requires.2 _ c.grant_width.ensures.is in
    let m = ap (λ n. 2 + n) c.obligation_words.ensures ∙ grant_count c.args.self.now c.args.lead c.requires.2 in
    λ res. grant_ends c.args.self.now c.args.depth c.requires.1 res c.in_ok-inside.ensures _ (lead_owed c.args.self.now c.args.lead c.requires.2) c.if-obligations-gt-MOST_OBLIGATIONS.false _ _ n m c.in_ok-at.field-0 c.in_ok-at.ensures (Ok c.in_ok-check.field-0) c.in_ok-check.ensures
