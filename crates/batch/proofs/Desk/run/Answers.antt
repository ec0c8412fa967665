-- `batch::Desk::run` meets its contract. The loop's invariant: what stands afterwards is what stands so far, and the replies to the requests still to come.
-- Assumes nothing.
use mathlib.Core.Path.{◌≡◌, ◌∙◌, sym, ap, subst}
use mathlib.Core.List.{[], map}
use Prim.Native.Nat.{◌-◌}
use native.Mathlib.Omega.{arith}
use lib.ListN.{length, take, drop, get_or, length-drop, length-set}
use lib.Seq.{length-take-le}
use Rattle.model.specs.Levels.{outcomes_of}
use Rattle.model.specs.Register.{entries_of}
use Rattle.model.specs.Batch.{handed_over, request_of, request_count, replies, answers}
use Rattle.outcome.specs.Carried.{carried}
use Rattle.refusal.specs.Numbers.{by_number}
use Rattle.std.specs.Prelude.{Ok}
use Rattle.batch.specs.Answers.{Runs}
use Rattle.batch.proofs.Running.{requests_are, no_more, next, finished, Fits, fits}
use Rattle.batch.proofs.Desk.run.Goals as goal
use Rattle.batch.proofs.Desk.run.Goals.{After-reply_to-reply}

-- What was left of the output is lent whole, and the reply fits in it.
fit : (c : After-reply_to-reply) → let loop = c.loop-i in Fits loop.unspent (length loop.out - loop.used) (by_number c.reply_to-reply.result)
fit c =
    let s = c.args.self.now in
    let loop = c.loop-i in
    let room = length loop.out - loop.used in
    let lent : length (take room (drop loop.used loop.out)) ≡ room = length-take-le room (drop loop.used loop.out) (omega (arith, length-drop loop.used loop.out)) in
    subst (λ n. Fits loop.unspent n (by_number c.reply_to-reply.result)) lent
    (fits (outcomes_of (carried s.outcomes)) (entries_of s.entries.now) loop.unspent _ (request_of (get_or c.as_chunks.result.0.now loop.i [])) (handed_over s.sheets.now) c.requires.1 c.reply_to-reply.ensures)

pub number_of-requires : goal.number_of-requires
number_of-requires c = (fit (goal.at.number_of-requires c).After-reply_to-reply).few

pub overflow_sub-unspent : goal.overflow_sub-unspent
overflow_sub-unspent c = let took = ap (λ d. d.nodes) c.taken-decided.ensures in omega (arith, (fit (goal.at.overflow_sub-unspent c).After-reply_to-reply).nodes)

pub overflow_add-used : goal.overflow_add-used
overflow_add-used c = let took = ap (λ d. d.words) c.taken-decided.ensures in omega (arith, (fit (goal.at.overflow_add-used c).After-reply_to-reply).words)

pub loop-i-preserved : goal.loop-i-preserved
loop-i-preserved c =
    let loop = c.loop-i in
    let args = c.args in
    let s = args.self.now in
    let number = c.number_of in
    let took = c.taken-decided in
    let reply_at = (goal.at.loop-i-preserved c).After-reply_to-reply in
    let words = ap (λ d. d.words) took.ensures in
    let same = c.reply_to-reply.auto.out in
    let places = length-set loop.replies loop.i number.result in
    record {
      inside = omega (arith, same, (fit reply_at).words);
      same_out = omega (arith, same, loop.invariant.same_out);
      same_places = omega (arith, places, loop.invariant.same_places);
      sofar = λ hs e. next (outcomes_of (carried s.outcomes)) (entries_of s.entries.now) hs c.as_chunks.result.0.now loop.out loop.unspent loop.used loop.i
          _ args.replies.now args.out.now loop.replies (loop.invariant.sofar hs e) (omega (arith, c.loop-i-test)) (omega (arith, c.as_chunks.ensures.front_len, c.requires.2, loop.invariant.same_places, c.loop-i-test)) loop.invariant.inside
          number.result took.result (c.reply_to-reply.ensures hs e) number.ensures took.ensures;
    }

pub returns : goal.returns
returns c =
    let args = c.args in
    let s = args.self.now in
    let loop = c.loop-i in
    let chunks = c.as_chunks in
    let requests = requests_are (request_count args.requests.now) args.requests.now ∙ ap (map request_of) (sym chunks.ensures.front) in
    λ hs e.
    subst
    (λ qs. Runs (answers (replies (outcomes_of (carried s.outcomes)) (entries_of s.entries.now) hs args.allowance (length args.out.now) qs)) args.replies.now loop.replies args.out.now loop.out (Ok loop.used))
    (sym requests)
    (finished (loop.invariant.sofar hs e) (no_more (outcomes_of (carried s.outcomes)) (entries_of s.entries.now) hs chunks.result.0.now loop.out loop.unspent loop.used loop.i (omega arith)))
