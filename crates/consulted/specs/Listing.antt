-- The consulted list as it is lent down a walk.
use Rattle.std.specs.Prelude.{◌≡◌, List, map, ℕ, ◌≤◌, length, take}
use Rattle.model.specs.Facts.{Presence}
use Rattle.model.specs.Consulted.{Entry, Consulted, is_consulted, consult}
use Rattle.model.specs.Writing.{entry_field}
use Rattle.model.specs.Required.{fact_set}
use Rattle.consulted.specs.declared.Consulted as code

-- A fact as it was read.
abbrev pub entry_of : ℕ → Presence → Entry
entry_of f p = record { fact = f; seen = p }

-- What is lent: how many entries are in use, the entries, and the set of the facts that are listed.
pub record Lent : Type 0 where
  pub count : ℕ
  pub entries : List ℕ
  pub seen : List ℕ

abbrev pub lent : ℕ → List ℕ → List ℕ → Lent
lent count entries seen = record { count = count; entries = entries; seen = seen }

-- What the list of the code holds.
abbrev pub held : code.Consulted → Lent
held c = lent c.length c.entries.now c.seen.now

-- What is lent holds the list l: its entries in order, and the set of its facts.
pub record Listed (l : Consulted) (s : Lent) : Type 0 where
  pub long : s.count ≡ length l
  pub in_order : take s.count s.entries ≡ map entry_field l
  pub facts_are : s.seen ≡ fact_set (λ f. is_consulted f l)

-- Whatever list s held, t holds what `read` makes of it, if that fits in as many entries.
pub record Consults (read : Consulted → Consulted) (s t : Lent) : Type 0 where
  pub same_room : length t.entries ≡ length s.entries
  pub grows : (l : Consulted) → length l ≤ length (read l)
  pub lists : (l : Consulted) → Listed l s → length (read l) ≤ length s.entries → Listed (read l) t

-- A fact was recorded.
pub record Recorded (f : ℕ) (p : Presence) (s t : Lent) : Type 0 where
  pub log : Consults (λ l. consult l f p) s t
