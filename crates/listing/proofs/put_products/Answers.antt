-- `listing::put_products` meets its contract. Assumes nothing.
use Rattle.model.specs.Listing.{text}
use Rattle.listing.specs.WriterLaws.{copied_whole, wrote_then}
use Rattle.listing.proofs.put_products.Goals as goal

pub returns : goal.returns
returns c =
    wrote_then (copied_whole (text "effect permit\nproducts ") c.copy-n.ensures.count c.copy-n.ensures.copied) c.put_digits.ensures
