-- `listing::put_digits` meets its contract. The loop's invariant: the digits that are left, before what stands from there on, are what is to
-- stand in the output. Assumes nothing.
use mathlib.Core.Path.{◌≡◌}
use mathlib.Core.List.{◌++◌}
use lib.ListN.{drop}
use Rattle.model.specs.Listing.{digits}
use Rattle.listing.proofs.put_digits.Given as goal

abbrev pub invariant-loop-left : goal.invariant-loop-left
invariant-loop-left l =
    (digits l.base l.left l.rest ++ drop l.left l.out ≡ digits l.base l.count l.value ++ drop l.count l.initial.out)
