-- `listing::Fields::put_fields` meets its contract. The loop's invariant: the output holds the text of the fields passed, where it began with the
-- first one's. Assumes nothing.
use mathlib.Core.Path.{◌≡◌}
use mathlib.Core.List.{List}
use Prim.Native.Nat.{ℕ}
use lib.ListN.{length, drop}
use Rattle.laws.specs.FieldAt.{field_at}
use Rattle.listing.specs.Texts.{Wrote, width_of, field_text, fields_text}
use Rattle.listing.proofs.Fields.put_fields.Given as goal

abbrev pub invariant-loop-i : goal.invariant-loop-i
invariant-loop-i l =
    (l.n ≡ length (fields_text l.self.kind l.self.words.now l.self.at l.i))
    × ((before : List ℕ) → Wrote (field_text l.self.kind (field_at (width_of l.self.kind) (drop l.self.at l.self.words.now) 0)) before l.initial.out l.initial.n → Wrote (fields_text l.self.kind l.self.words.now l.self.at l.i) before l.out l.n)
