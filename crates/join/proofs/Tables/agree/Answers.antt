-- `join::Tables::agree` meets its contract: as far as both have bytes, and then. Assumes nothing.
use Rattle.std.proofs.Common.{◌≤◌, ◌-◌, length, drop, length-drop, arith, take_all}
use Rattle.join.specs.JoiningLaws.{clean_rest}
use Rattle.join.proofs.Tables.agree.Goals as goal

pub agree_after-requires : goal.agree_after-requires
agree_after-requires c =
    let longer = c.args.self.now.longer.now in
    let n = length c.args.self.now.shorter.now in
    let all : length (drop n longer) ≤ length longer - n = omega (arith, length-drop n longer) in
    rw take_all (clean_rest n longer c.args.self.now.longer_clean)
