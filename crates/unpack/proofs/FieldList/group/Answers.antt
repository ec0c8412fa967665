-- `group` of FieldList meets its contract: what it reads and moves up is the fields' number. Assumes nothing.
use Rattle.std.proofs.Common.{◌≡◌, ◌∙◌, ◌≤◌, ◌<◌, ◌-◌, ◌*◌, ◌^◌, ◌%◌, ap, arith}
use Rattle.std.proofs.Math.Nat.{mod-eq_of_lt}
use Rattle.unpack.specs.Places.{rest}
use Rattle.unpack.proofs.Fields.{bits_here}
use Rattle.unpack.proofs.Groups.{group_of, group_small}
use Rattle.unpack.proofs.FieldList.group.Goals as goal
use Rattle.unpack.proofs.FieldList.group.Goals.{then-left-most, else-left-most}

pub returns : goal.returns
returns c =
    let s = c.args.self.now in
    let w = s.width in
    let m = c.args.most in
    let f = c.if-left-most.fields in
    let few : (f ≤ m) × (f ≤ s.count - c.args.first) × (f < m → f ≡ s.count - c.args.first) = elim c.if-left-most.branch [
      | then-left-most v ↦ (omega (arith, v.fields-is, v.if-left-most.true), omega (arith, v.fields-is), λ l. omega (arith, v.fields-is))
      | else-left-most v ↦ (omega (arith, v.fields-is), omega (arith, v.fields-is, v.if-left-most.false), λ l. omega (arith, v.fields-is, l))
    ] in
    let e = ap (λ x. x * 2 ^ (w * (m - f))) c.bits.ensures.is ∙ group_of w m s.count c.args.first f (rest s.here) few.0 few.1 few.2 in
    ap (λ x. x % 4294967296) e ∙ mod-eq_of_lt (group_small w m s.count c.args.first (rest s.here) (bits_here s.here) c.requires.1)
