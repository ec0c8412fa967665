-- The definitions answer as the original does, on a sample of its answers; and, where it has no call, as an independent program does.
use Rattle.std.specs.Prelude.{◌≡◌, refl, true}
use Rattle.model.specs.Worked.{all_hold}
use Rattle.answers.specs.Original as original
use Rattle.answers.specs.Narrowing as narrowing
use Rattle.answers.specs.InOrder as in_order

-- Evaluated, reduced and completed by the original; refusals by document 01's reader on the Rust side.
pub original_agrees : all_hold original.rows ≡ true
original_agrees = refl

-- Narrowed by a plain implementation of its own.
pub narrowing_agrees : all_hold narrowing.rows ≡ true
narrowing_agrees = refl

-- Reduced and narrowed in sheet order by that implementation.
pub in_order_agrees : all_hold in_order.rows ≡ true
in_order_agrees = refl
