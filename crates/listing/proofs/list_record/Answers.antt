-- `listing::list_record` meets its contract: what was written is the record's text, which is the listing of what was read. Assumes nothing.
use mathlib.Core.Path.{◌∙◌, ap}
use mathlib.Core.List.{◌++◌}
use Prim.Native.Nat.{◌+◌, ◌%◌}
use Rattle.model.specs.Fields.{words_for}
use Rattle.model.specs.Listing.{text, newline}
use Rattle.listing.specs.declared.Listed.TheVariants.{Consulted}
use Rattle.listing.specs.Texts.{Wrote, fields_text, decision_text, record_text}
use Rattle.listing.specs.WriterLaws.{wrote_as, wrote_then}
use Rattle.listing.specs.RecordTextLaws.{record_listed}
use Rattle.listing.proofs.list_record.Goals as goal

pub returns-clause-listing : goal.returns-clause-listing
unfolding record_text
returns-clause-listing c =
    let words = c.args.words.now in
    let wrote : Wrote (record_text words) c.args.out.now _ _ =
    wrote_as
    (ap
    (λ k. decision_text words (1 + k) ++ ((text "\nconsulted " ++ fields_text Consulted words 1 (c.word_at-consulted.result % 4096)) ++ newline))
    c.entry_words.ensures
    ∙ ap (λ w. decision_text words (1 + words_for 2 (w % 4096)) ++ ((text "\nconsulted " ++ fields_text Consulted words 1 (w % 4096)) ++ newline)) c.word_at-consulted.ensures)
    (wrote_then c.put_decision-n.ensures c.put_consulted.ensures) in record_listed words _ _ _ wrote
