-- `partial::put_pending` meets its contract. Assumes nothing.
use mathlib.Core.Path.{◌≡◌}
use Prim.Native.Nat.{◌-◌}
use native.Mathlib.Omega.{arith}
use Rattle.partial.proofs.Putting.{put_too_long, put_no_room, put_written}
use Rattle.partial.proofs.put_pending.Goals as goal

pub returns-then-total-gt-LIMIT : goal.returns-then-total-gt-LIMIT
returns-then-total-gt-LIMIT c = put_too_long (rw c.entry_words.ensures at c.if-total-gt-LIMIT.true)

pub returns-then-out-total : goal.returns-then-out-total
returns-then-out-total c = put_no_room (rw c.entry_words.ensures at c.if-total-gt-LIMIT.false) (rw c.entry_words.ensures at c.if-out-total.true)

pub returns : goal.returns
returns c =
    let left = c.in-Some.ensures.lookup.0 in
    let all : c.args.size - 0 ≡ c.args.size = omega arith in
    let front = c.write_front-behind.ensures in
    let words = c.entry_words.ensures in
    rw words
    (put_written (rw words at c.if-total-gt-LIMIT.false) (rw words at c.if-out-total.false) left.1 (rw all at left.2) front.0 front.1 (omega arith) c.copy_from_slice.ensures.after)
