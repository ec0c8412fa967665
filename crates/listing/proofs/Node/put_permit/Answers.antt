-- `listing::Node::put_permit` meets its contract. Assumes nothing.
use mathlib.Core.Path.{◌≡◌, ◌∙◌, ap}
use mathlib.Core.List.{◌++◌}
use Prim.Native.Nat.{◌%◌}
use native.Mathlib.Omega.{arith}
use lib.ListN.{get_or}
use Rattle.model.specs.Listing.{text, digits}
use Rattle.listing.specs.Texts.{permit_lists, permit_text}
use Rattle.listing.specs.WriterLaws.{wrote_as, wrote_then}
use Rattle.listing.proofs.Node.put_permit.Goals as goal

pub returns : goal.returns
unfolding permit_text
returns c =
    let words = c.args.self.now.words.now in
    let at = c.args.self.now.at in
    let first : c.word.result ≡ get_or words at 0 = c.word.ensures ∙ ap (λ i. get_or words i 0) (omega arith) in
    wrote_as
    (ap (λ w. (text "effect permit\nproducts " ++ digits 16 4 (w % 65536)) ++ permit_lists words at) first)
    (wrote_then c.put_products-n.ensures c.put_permit_lists.ensures)
