-- `vectors::run` meets its contract: the call is given what is stored. Assumes nothing.
use mathlib.Core.Path.{◌≡◌, ap, ap₂, ◌∙◌}
use Prim.Native.Nat.{◌+◌, ◌-◌, ◌*◌}
use native.Mathlib.Omega.{arith}
use lib.ListN.{length, take, drop}
use Rattle.listing.specs.Inputs.{words_in}
use Rattle.vectors.specs.Words.{marks}
use Rattle.vectors.specs.Stored.{number_bytes, number_in, answer_at}
use Rattle.vectors.proofs.Reading.{words_fill}
use Rattle.vectors.proofs.Agreeing.{replied_in, expected_same}
use Rattle.vectors.proofs.run.Goals as goal

pub returns : goal.returns
returns c =
    let bs = c.args.case.now in
    let fitted = c.requires in
    let bytes = c.number_in-start.result in
    let start = c.number_in-start.ensures.0 in
    let size : number_bytes + bytes - number_bytes ≡ number_in bs 2 = omega (arith, start) in
    let end : number_bytes + bytes + 4 * length c.read_words.new.out ≡ answer_at bs = omega (arith, start, fitted.words_fit, c.read_words.auto) in
    record {
      expected_is = expected_same c.args.call bs _ _ _ _ end c.number_in.ensures.0 fitted.expected_fits c.expect.ensures;
      given =
          replied_in c.args.call bs _ _ _ _ _ _ c.number_in-sheet.ensures.0
          (words_fill c.read_words.result bs _ c.args.words.now _ (omega (arith, start, fitted.words_fit, fitted.whole)) c.read_words.ensures ∙ ap₂ (words_in bs) (ap (λ n. number_bytes + n) start) fitted.words_fit)
          (ap (λ n. take n (drop number_bytes bs)) size)
          (c.fill.ensures ∙ ap marks fitted.out_fits)
          c.answer.ensures;
    }
