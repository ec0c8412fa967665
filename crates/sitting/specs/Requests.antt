-- The request from the table's length on, and how many bytes of a request matter. Document 01, "Listing".
use Rattle.std.specs.Prelude.{List, ℕ, ◌+◌, ◌*◌, leb}
use Rattle.model.specs.Facts.{table_bytes, known_facts, table_fault}
use Rattle.model.specs.Listing.{number_from, bytes_from, checked, on_bytes, unless_refused}

-- The listing from the bytes after the words: a table length and a known table.
abbrev pub from_table : List ℕ → List ℕ → List ℕ
from_table sheet rest =
    on_bytes (number_from 0 2 rest) (λ size table.
    unless_refused (leb size table_bytes) 2 (
    on_bytes (bytes_from size table) (λ facts _.
    checked (table_fault known_facts facts) sheet facts)))

-- Two counts of two bytes each, 4,096 words and 256 bytes: a request that is read whole has no more.
abbrev pub request_bytes : ℕ
request_bytes = 2 + 4 * 4096 + 2 + table_bytes
