-- `listing::put_consulted` meets its contract. Assumes nothing.
use native.Mathlib.Omega.{arith}
use lib.ListN.{length-take, length-drop}
use Rattle.model.specs.Listing.{text, newline}
use Rattle.listing.specs.declared.Listed.TheVariants.{Consulted}
use Rattle.listing.specs.WriterLaws.{copied_whole, wrote_then}
use Rattle.listing.specs.ListTextLaws.{length_named}
use Rattle.listing.proofs.put_consulted.Goals as goal

pub copy-requires : goal.copy-requires
copy-requires c =
    let args = c.args in
    simp (length-take, length-drop) (omega (arith, length_named (text "\nconsulted ") Consulted args.words.now 1 args.count))

pub returns : goal.returns
returns c =
    wrote_then c.put_named-n.ensures (copied_whole newline c.copy.ensures.count c.copy.ensures.copied)
