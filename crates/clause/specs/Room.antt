-- Room for the facts of one clause: one a word for those of a condition, and two a word, up to the longest list, for stored ones.
use Rattle.std.specs.Prelude.{List, ℕ, ◌*◌, ◌≤◌, min, length}
use Rattle.model.specs.Writing.{most_listed}

abbrev pub RoomToName : List ℕ → List ℕ → Type 0
RoomToName words named = (length words ≤ length named) × (min (2 * length words) most_listed ≤ length named)
