-- What was packed is unpacked as it was, and what was unpacked is packed as it was: the other half, and sets of products. Request 11.
use Rattle.std.specs.Prelude.{◌≡◌, List, ℕ, ◌≤◌, length}
use Rattle.model.specs.Outcome.{product_sets}
use Rattle.model.specs.Calls.{wrote}
use Rattle.model.specs.Tight.{pack_sheet, pack_record, unpack_sheet, unpack_record}
use Rattle.laws.specs.FieldAt.{Narrow}
use Rattle.laws.specs.Products.{InRange}
use Rattle.laws.proofs.ProductLaws.{written_products}
use Rattle.laws.proofs.TightTrips.{record_back_and_there, record_there_and_back, sheet_back_and_there, sheet_there_and_back}

-- ---- by sets of products, as the calls go by them
module _ (ws bs : List ℕ) (r q : ℕ) where
  pub sheet_there_and_back_products : pack_sheet product_sets ws r ≡ wrote bs → length ws ≤ q → unpack_sheet product_sets bs q ≡ wrote ws
  sheet_there_and_back_products = sheet_there_and_back product_sets InRange written_products ws r q bs

  pub sheet_back_and_there_products : Narrow 8 bs → unpack_sheet product_sets bs q ≡ wrote ws → length bs ≤ r → pack_sheet product_sets ws r ≡ wrote bs
  sheet_back_and_there_products = sheet_back_and_there product_sets InRange written_products bs q r ws

  pub record_there_and_back_products : pack_record product_sets ws r ≡ wrote bs → length ws ≤ q → unpack_record product_sets bs q ≡ wrote ws
  record_there_and_back_products = record_there_and_back product_sets InRange written_products ws r q bs

  pub record_back_and_there_products : Narrow 8 bs → unpack_record product_sets bs q ≡ wrote ws → length bs ≤ r → pack_record product_sets ws r ≡ wrote bs
  record_back_and_there_products = record_back_and_there product_sets InRange written_products bs q r ws
