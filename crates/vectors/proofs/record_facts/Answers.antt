-- `vectors::record_facts` meets its contract: the set as words. Assumes nothing.
use borrow.Author.Rules.{rules}
use mathlib.Core.Path.{ap, ◌∙◌}
use Rattle.answer.specs.Answers.{number_of, written_of}
use Rattle.refusal.specs.Numbers.{by_number}
use Rattle.required.specs.AnswerLaws.{record_counted}
use Rattle.vectors.specs.Words.{set_words}
use Rattle.vectors.proofs.Replying.{same_count}
use Rattle.vectors.proofs.record_facts.Goals as goal

pub returns : goal.returns
returns c =
    let args = c.args in
    let required = c.required_residual_facts-facts.ensures in
    let facts = record_counted args.words.now required in
    let counted = same_count c.required_residual_facts-facts.result c.map.result c.map.ensures.cases (λ x y p. search rules) in
    record {
      number_is = c.replied.ensures.0 ∙ ap (λ r. number_of (by_number r)) counted ∙ facts.number_is;
      value_is = c.replied.ensures.1 ∙ ap (λ r. written_of (by_number r)) counted ∙ facts.count_is;
      output_is = c.put_set.ensures ∙ ap (λ l. set_words l args.out.now) required.set_is;
    }
