-- `pack::pack_record` meets its contract. Assumes nothing.
use Rattle.std.proofs.Common.{◌≡◌, Err, rules}
use Rattle.policy_model.specs.Answers.{kind_by}
use Rattle.pack.proofs.Whole.{record_refused, record_bounds, record_packed}
use Rattle.pack.proofs.pack_record.Goals as goal

pub returns-in_err-head : goal.returns-in_err-head
returns-in_err-head c =
    let e : c.from_residual.result ≡ Err c.in_err-head.field-0.0 = search rules in
    rw e (record_refused c.args.words.now c.args.out.now c.args.out.now _ c.in_err-head.ensures)

pub invariant_of-tree : goal.invariant_of-tree
invariant_of-tree c =
    let h = c.in_ok-head.head in
    let b = record_bounds c.args.words.now c.args.out.now c.args.out.now (record { kind = kind_by h.status; consulted = h.consulted; tree = h.tree }) c.in_ok-head.ensures in
    record { inside = b.inside; few = b.few }

pub invariant_of-pack : goal.invariant_of-pack
invariant_of-pack c =
    let h = c.in_ok-head.head in
    let b = record_bounds c.args.words.now c.args.out.now c.args.out.now (record { kind = kind_by h.status; consulted = h.consulted; tree = h.tree }) c.in_ok-head.ensures in
    record { some = b.some_words; listed = b.consulted }

pub returns : goal.returns
returns c =
    let h = c.in_ok-head.head in
    record_packed c.args.words.now c.args.out.now c.pack.new.out (record { kind = kind_by h.status; consulted = h.consulted; tree = h.tree }) c.in_ok-head.ensures c.pack.result c.pack.ensures
