-- `windows::set_each` meets its contract. Assumes nothing.
use Rattle.std.proofs.Common.{◌≡◌, ap, subst, ◌∙◌, append-nil}
use Rattle.std.specs.Slice.Iter.{iter_rest}
use Rattle.std.specs.Iterator.Adapters.{rev_source}
use Rattle.model.specs.Facts.{table_fields}
use Rattle.facts.specs.Answers.{presence_number}
use Rattle.windows.specs.Setting.{window_meant}
use Rattle.windows.proofs.Parts.{yielded_last, still_all, none_left, SetBy, none_set, one_set, none_more}
use Rattle.windows.proofs.set_each.Goals as goal

pub loop-words-init : goal.loop-words-init
loop-words-init g c =
    let rest : iter_rest (rev_source c.into_iter-words-iterator.result) ≡ c.args.windows.now = ap (λ s. iter_rest (rev_source s)) c.into_iter-words-iterator.ensures.into_iter_gives ∙ ap iter_rest c.rev-words-items.ensures.source ∙ c.iter.ensures.rest in
    (append-nil _ ∙ rest, λ f h. none_set f (presence_number c.args.value) (table_fields c.args.out.now))

pub loop-words-preserved-then-such : goal.loop-words-preserved-then-such
loop-words-preserved-then-such g c =
    let loop = c.loop-words in
    let y = c.in-Some.words in
    let w = c.of-window.result in (
      still_all loop.yielded y _ _ _ c.in-Some.ensures.steps loop.invariant.0,
      λ f h. one_set f (presence_number c.args.value) (table_fields c.args.out.now) loop.yielded y (window_meant w) c.of-window.ensures.meant
          (h w c.such.result c.such.ensures) c.if-such.true (loop.invariant.1 f h) c.set_presence.ensures,
    )

pub loop-words-preserved : goal.loop-words-preserved
loop-words-preserved g c =
    let loop = c.loop-words in
    let y = c.in-Some.words in
    let w = c.of-window.result in (
      still_all loop.yielded y _ _ _ c.in-Some.ensures.steps loop.invariant.0,
      λ f h. none_more f (presence_number c.args.value) (table_fields c.args.out.now) loop.yielded y (window_meant w) c.of-window.ensures.meant
          (h w c.such.result c.such.ensures) c.if-such.false (loop.invariant.1 f h),
    )

pub returns : goal.returns
returns g c = λ f h.
    let loop = c.loop-words in
    subst (λ ps. SetBy f (presence_number c.args.value) (table_fields c.args.out.now) ps (table_fields loop.out))
    (none_left _ (yielded_last loop.yielded) c.args.windows.now c.in-None.ensures.steps.0 loop.invariant.0) (loop.invariant.1 f h)
