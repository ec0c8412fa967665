-- `pack::put_list` meets its contract: one field more in each turn. Assumes nothing.
use Rattle.std.proofs.Common.{◌≡◌, ℕ, ◌+◌, ◌*◌, ◌≤◌, length}
use Rattle.bits.specs.Cursors.{Begun, Put}
use Rattle.pack.specs.Flat.{list_run}
use Rattle.pack.specs.Groups.{group}
use Rattle.pack.proofs.put_list.Given as goal

abbrev pub invariant-loop-j : goal.invariant-loop-j
invariant-loop-j g l = record {
  next : l.to.at ≡ l.fn.from.at + l.width * (l.j * l.per);
  long : length l.out ≡ length l.initial.out;
  begun : Begun l.out l.to;
  put : (f : ℕ → ℕ) → ((i r : ℕ) → i ≤ l.count → goal.F-post g l.field i r → r ≡ group f l.width i l.per) → Put (list_run f l.width (l.j * l.per)) l.initial.out l.fn.from l.out l.to;
}
