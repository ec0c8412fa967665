-- `listing::Node::put_permit_lists` meets its contract. Assumes nothing.
use mathlib.Core.Path.{◌≡◌, ◌∙◌, ap, ap₂}
use Prim.Native.Nat.{◌+◌, ◌%◌}
use native.Mathlib.Omega.{arith}
use lib.ListN.{get_or, length-take, length-drop}
use Rattle.model.specs.Fields.{words_for}
use Rattle.model.specs.Listing.{text}
use Rattle.listing.specs.declared.Listed.TheVariants.{Obligations, Facts}
use Rattle.listing.specs.Texts.{fields_text, obligations_in, list_lines, permit_lists}
use Rattle.listing.specs.WriterLaws.{wrote_as, wrote_then}
use Rattle.listing.specs.ListTextLaws.{length_named}
use Rattle.listing.proofs.Node.put_permit_lists.Goals as goal

pub put_facts-requires : goal.put_facts-requires
put_facts-requires c =
    let args = c.args in
    let count = c.obligations_of-count.result in (
      omega arith,
      simp (length-take, length-drop)
          (omega (arith, length_named (text "\nshape -\nobligations ") Obligations args.self.now.words.now (args.self.now.at + 2) count)),
    )

pub returns : goal.returns
unfolding permit_lists
returns c =
    let args = c.args in
    let words = args.self.now.words.now in
    let at = args.self.now.at in
    let first : c.word.result ≡ get_or words at 0 = c.word.ensures ∙ ap (λ i. get_or words i 0) (omega arith) in
    let past : at + (2 + c.obligation_words-after.result) ≡ at + 2 + words_for 4 c.obligations_of-count.result = omega (arith, c.obligation_words-after.ensures) in
    wrote_as
    (ap
    (λ p. list_lines (fields_text Obligations words (at + 2) c.obligations_of-count.result) (fields_text Facts words p (c.word-2.result % 4096)))
    past
    ∙ ap₂ (λ n v. list_lines (fields_text Obligations words (at + 2) n) (fields_text Facts words (at + 2 + words_for 4 n) (v % 4096)))
    (c.obligations_of-count.ensures ∙ ap obligations_in first)
    c.word-2.ensures)
    (wrote_then c.put_named-n.ensures c.put_facts.ensures)
