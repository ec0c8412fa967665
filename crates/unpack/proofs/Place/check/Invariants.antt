-- `check` of Place meets its contract: what is asked of the nodes that are due, at this level and then at those above, is what is asked of the whole. Assumes nothing.
use Rattle.std.proofs.Common.{◌≡◌, ◌+◌, ◌-◌, ◌*◌, ◌≤◌, length, drop}
use Rattle.unpack.specs.Places.{whole, rest}
use Rattle.unpack.specs.Levels.{Due}
use Rattle.unpack.proofs.Place.check.Given as goal

abbrev pub invariant-loop-left : goal.invariant-loop-left
invariant-loop-left g l = record {
  asked : Due (g.N.Nodes.all l.nodes) l.depth l.above l.level l.left l.found.words (drop l.found.at (whole l.self.here)) ≡ g.N.Nodes.one l.nodes l.depth l.self.words (rest l.self.here);
  level : l.level ≤ l.depth;
  above : length l.above ≡ 32;
  inside : l.found.at ≤ length (whole l.self.here);
  words : l.found.words ≤ l.found.at;
  onward : l.self.here.at ≤ l.found.at;
}

abbrev pub decreases-loop-left : goal.decreases-loop-left
decreases-loop-left g l = 2 * (length (whole l.self.here) - l.found.at) + l.level
