-- The listing's bytes as its writers put them down, from any words; and what a writer leaves. Document 01, "Listing".
use Rattle.std.specs.Prelude.{◌≡◌, cond, List, ◌++◌, map, ℕ, ◌+◌, ◌/◌, ◌%◌, ◌^◌, eqb, length, drop, get_or}
use Rattle.model.specs.Fields.{bits, words_for}
use Rattle.model.specs.Facts.{fact_bits}
use Rattle.model.specs.Outcome.{outcome_bits}
use Rattle.model.specs.Decision.{Shape, forbidden, hidden}
use Rattle.model.specs.Partial.{ReducedPolicy, resolved, pending}
use Rattle.model.specs.Consulted.{Consulted}
use Rattle.model.specs.Record.{Record}
use Rattle.model.specs.Writing.{obligation_bits, entry_bits, seen_in, count_bits}
use Rattle.model.specs.Reading.{Parsed, refuse, got, kind_of, shape_of}
use Rattle.model.specs.Listing.{text, newline, digits, decimal, list_of, presence_text, listing}
use Rattle.model.specs.Products.{Outcome}
use Rattle.laws.specs.FieldAt.{field_at, firsts}
use Rattle.listing.specs.declared.Listed.{Listed}
use Rattle.listing.specs.declared.Listed.TheVariants.{Obligations, Facts, Consulted as Entries}

-- What a writer leaves of an output that was `before`: the bytes, then what stood there. It answers how many bytes they are.
pub record Wrote (bytes before after : List ℕ) (r : ℕ) : Type 0 where
  pub output : after ≡ bytes ++ drop (length bytes) before
  pub count : r ≡ length bytes

-- Room for any listing: its last line has up to 4,095 entries of 13 bytes, its facts up to 4,095 of 5, its obligations up to 127 of 5.
abbrev pub facts_room : ℕ  -- a decision's facts
facts_room = 20992

abbrev pub lists_room : ℕ  -- a permit's obligations and facts
lists_room = 24000

abbrev pub decision_room : ℕ  -- the lines but for the last
decision_room = 24576

abbrev pub consulted_room : ℕ  -- the last line
consulted_room = 53248

abbrev pub listing_room : ℕ
listing_room = 81920

-- ---- lists of fields

-- The width of a list's fields, and the most bytes that one of them takes in the listing, its comma too.
abbrev pub width_of : Listed → ℕ
width_of Obligations = obligation_bits
width_of Facts = entry_bits
width_of Entries = entry_bits

abbrev pub most_of : Listed → ℕ
most_of Obligations = 5
most_of Facts = 5
most_of Entries = 13

-- An obligation and a fact in decimal; of a consulted entry the fact, `=` and the presence.
unfoldable pub field_text : Listed → ℕ → List ℕ
field_text Obligations b = decimal b
field_text Facts b = decimal b
field_text Entries b = decimal (b % 2 ^ (4 + fact_bits)) ++ (text "=" ++ presence_text (seen_in (b / 2 ^ (4 + fact_bits))))

unfoldable pub fields_text : Listed → List ℕ → ℕ → ℕ → List ℕ
fields_text kind ws at n = list_of (map (field_text kind) (firsts (field_at (width_of kind) (drop at ws)) n))

-- ---- the lines, from the words of a node 12 or 13 at a position

-- The count in a word's last twelve bits.
abbrev pub count_in : ℕ → ℕ
count_in w = w % 2 ^ count_bits

abbrev pub obligations_in : ℕ → ℕ
obligations_in w = bits (4 + outcome_bits) 7 w

-- A permit's lines up to the facts: its products, obligations and facts. A deny's: its shape and facts.
abbrev pub list_lines : List ℕ → List ℕ → List ℕ
list_lines obligations facts = (text "\nshape -\nobligations " ++ obligations) ++ (text "\nfacts " ++ facts)

abbrev pub permit_lines : ℕ → List ℕ → List ℕ → List ℕ
permit_lines o obligations facts = (text "effect permit\nproducts " ++ digits 16 4 o) ++ list_lines obligations facts

abbrev pub deny_head : Shape → List ℕ
deny_head forbidden = text "effect deny\nproducts ----\nshape forbidden\nobligations -"
deny_head hidden = text "effect deny\nproducts ----\nshape hidden\nobligations -"

abbrev pub deny_lines : Shape → List ℕ → List ℕ
deny_lines shape facts = deny_head shape ++ (text "\nfacts " ++ facts)

unfoldable pub permit_lists : List ℕ → ℕ → List ℕ
permit_lists ws at =
    list_lines
    (fields_text Obligations ws (at + 2) (obligations_in (get_or ws at 0)))
    (fields_text Facts ws (at + 2 + words_for 4 (obligations_in (get_or ws at 0))) (count_in (get_or ws (at + 1) 0)))

unfoldable pub permit_text : List ℕ → ℕ → List ℕ
permit_text ws at = (text "effect permit\nproducts " ++ digits 16 4 (get_or ws at 0 % 2 ^ outcome_bits)) ++ permit_lists ws at

unfoldable pub deny_text : List ℕ → ℕ → List ℕ
deny_text ws at = deny_lines (shape_of (bits (1 + 10 + outcome_bits) 1 (get_or ws at 0))) (fields_text Facts ws (at + 3) (count_in (get_or ws (at + 2) 0)))

unfoldable pub decision_text : List ℕ → ℕ → List ℕ
decision_text ws at = cond (eqb (kind_of (get_or ws at 0)) 12) (permit_text ws at) (deny_text ws at)

-- A record: its decision stands after the consulted entries, and is listed before them.
unfoldable pub record_text : List ℕ → List ℕ
record_text ws =
    decision_text ws (1 + words_for 2 (count_in (get_or ws 0 0)))
    ++ ((text "\nconsulted " ++ fields_text Entries ws 1 (count_in (get_or ws 0 0)))
    ++ newline)

-- ---- what is listed of a record that was read: of a Resolved one the decision and the consulted facts
abbrev pub ListedBody : (List ℕ → Type 0) → ReducedPolicy Outcome → Consulted → Type 0
ListedBody Q (resolved d) l = Q (listing d l)
ListedBody Q (pending t) l = Unit {0}

abbrev pub ListedAs : (List ℕ → Type 0) → Parsed (Record Outcome) → Type 0
ListedAs Q (refuse n) = Unit {0}
ListedAs Q (got r ws) = ListedBody Q r.body r.log
