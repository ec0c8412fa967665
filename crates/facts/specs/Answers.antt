-- What the answers stand for: document 01's readings of a fact, their numbers, and its refusal numbers.
use Rattle.std.specs.Prelude.{◌≡◌, Bool, true, false, ℕ}
use Rattle.std.proofs.Math.Option.{Option, none, some}
use Rattle.model.specs.Facts as model
use Rattle.model.specs.Consulted.{Entry}
use Rattle.model.specs.Writing.{presence_field}
use Rattle.facts.specs.declared.Presence.{Presence}
use Rattle.facts.specs.declared.Presence.TheVariants.{Absent, Present, Unknown, Silent}
use Rattle.facts.specs.declared.TableKind.{TableKind}
use Rattle.facts.specs.declared.TableKind.TheVariants.{Partial, Known}

abbrev pub presence_of : Presence → model.Presence
presence_of Absent = model.absent
presence_of Present = model.present
presence_of Unknown = model.unknown
presence_of Silent = model.silent

-- Its number in a consulted entry.
abbrev pub presence_number : Presence → ℕ
presence_number Absent = 0
presence_number Present = 1
presence_number Unknown = 2
presence_number Silent = 3

-- An answer reads as p: it is that case, and has its number.
pub record Reads (r : Presence) (p : model.Presence) : Type 0 where
  pub seen : presence_of r ≡ p
  pub number : presence_number r ≡ presence_field p

-- A fact as it was read.
abbrev pub entry_of : ℕ → Presence → Entry
entry_of f p = record { fact = f; seen = presence_of p }

abbrev pub is_present : model.Presence → Bool
is_present model.absent = false
is_present model.present = true
is_present model.unknown = false
is_present model.silent = false

abbrev pub is_settled : model.Presence → Bool
is_settled model.absent = true
is_settled model.present = true
is_settled model.unknown = false
is_settled model.silent = true

abbrev pub kind_of : TableKind → model.TableKind
kind_of Partial = model.partial_facts
kind_of Known = model.known_facts

-- Whether there is no fault.
abbrev pub no_fault : Option ℕ → Bool
no_fault none = true
no_fault (some n) = false
