-- Silence read as Absent: in a table, an entry, a list and a record. Request 9.
use Rattle.std.specs.Prelude.{map}
use Rattle.model.specs.Facts.{Table, heard}
use Rattle.model.specs.Consulted.{Entry, Consulted}
use Rattle.model.specs.Record.{Record}

abbrev pub heard_by : Table → Table
heard_by T f = heard (T f)

abbrev pub hear : Entry → Entry
hear e = record { fact = e.fact; seen = heard e.seen }

abbrev pub hear_all : Consulted → Consulted
hear_all l = map hear l

abbrev pub hear_r : {O : Type 0} → Record O → Record O
hear_r r = record { body = r.body; log = hear_all r.log }
