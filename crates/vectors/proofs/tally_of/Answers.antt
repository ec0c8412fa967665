-- `vectors::tally_of` meets its contract. The loop's invariant: what is left gives what all give. Assumes nothing.
use borrow.Author.Rules.{rules}
use Rattle.std.specs.Prelude.{None}
use mathlib.Core.Path.{◌≡◌, ap}
use Prim.Native.Nat.{◌+◌, ◌-◌}
use native.Mathlib.Omega.{arith}
use lib.ListN.{length}
use Rattle.vectors.specs.Tallies.{tally_from}
use Rattle.vectors.proofs.Reading.{sized_of}
use Rattle.vectors.proofs.Tallying.{sofar_done, sofar_fits, sofar_end, sofar_next}
use Rattle.vectors.proofs.tally_of.Goals as goal

pub loop-before-init : goal.loop-before-init
loop-before-init c =
    let cases = c.args.cases.now in
    let all : length cases - 0 ≡ length cases = omega arith in
    record {
      within = search rules;
      places = search rules;
      replayed = search rules;
      differ = search rules;
      rest = ap (λ n. tally_from n c.args.call cases 1 (record { replayed = 0; differ = 0; first = None })) all;
    }

pub returns-in_default : goal.returns-in_default
returns-in_default c = sofar_end _ _ _ _ _ _ c.loop-before.invariant (omega arith) c.in_default.ensures

pub step-tally-requires : goal.step-tally-requires
step-tally-requires c =
    let sofar = c.loop-before.invariant in
    ((sized_of _ c.in-Some.ensures).whole, omega (arith, sofar.within, sofar.places, sofar.replayed), sofar.differ)

pub overflow_add-at : goal.overflow_add-at
overflow_add-at c = omega (arith, sofar_fits _ _ _ _ _ _ c.loop-before.invariant c.in-Some.ensures)

pub loop-before-preserved : goal.loop-before-preserved
loop-before-preserved c =
    let at = c.loop-before in
    let one_less : length c.args.cases.now - (at.before + 1) ≡ length c.args.cases.now - at.before - 1 = omega arith in
    rw one_less (sofar_next _ _ _ _ _ _ at.invariant _ _ (omega (arith, c.loop-before-test)) c.in-Some.ensures c.step-tally.ensures)

pub returns : goal.returns
returns c = sofar_done _ _ _ _ _ _ c.loop-before.invariant (omega arith)
