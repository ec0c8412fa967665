-- Room for obligations.
use Rattle.std.specs.Prelude.{List, ℕ, ◌+◌, ◌*◌, ◌≤◌, length}
use Rattle.model.specs.Writing.{most_held}
use Rattle.model.specs.Reading.{obligation_count}
use Rattle.decision.specs.declared.Decision.{Decision}

-- Those that joins appended take so many bytes of a buffer at most, since none is appended twice.
abbrev pub obligation_room : ℕ
obligation_room = obligation_count

-- All of a decision: those of its node, and those that were appended.
abbrev pub list_room : ℕ
list_room = most_held + obligation_room

-- A buffer has room for what so many decisions appended.
abbrev pub RoomToUnite : ℕ → List ℕ → Type 0
RoomToUnite n buf = obligation_room * n ≤ length buf

-- The bytes of a decision fit in the room for one.
abbrev pub Few : Decision → Type 0
Few d = d.united ≤ obligation_room
