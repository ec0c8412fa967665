-- The tight form of words node by node, with no levels: kinds of conditions and policies are disjoint, so words that were checked are a flat list of nodes.
-- Request 11.
use Rattle.std.specs.Prelude.{◌≡◌, cond, List, [], ◌∷◌, ◌++◌, ℕ, zero, suc, ◌+◌, ◌*◌, ◌/◌, ◌%◌, ◌^◌, eqb, drop, get_or}
use Rattle.model.specs.Fields.{bits, words_for}
use Rattle.model.specs.Facts.{fact_bits}
use Rattle.model.specs.Outcome.{outcome_bits}
use Rattle.model.specs.Writing.{count_bits, mark_bits, obligation_bits, entry_bits}
use Rattle.model.specs.Reading.{kind_of}
use Rattle.model.specs.Tight.{kind_bits, obligation_count_bits, obligation_tight_bits}
use Rattle.laws.specs.FieldAt.{field_at}
use Rattle.policy_model.specs.Span.{own_of}
use Rattle.bits.specs.Widths.{plain_width, mark_width, denied_width}
use Rattle.bits.specs.Splice.{low}

-- A list of n values, each in so many bits.
unfoldable pub list_run : (ℕ → ℕ) → ℕ → ℕ → List ℕ
list_run f width zero = []
list_run f width (suc n) = list_run f width n ++ low width (f n)

-- A fact or a consulted entry without its zero bits; and value i of those that these words begin with.
abbrev pub tight_entry : ℕ → ℕ
tight_entry e = e / 2 ^ (4 + fact_bits) * 2 ^ fact_bits + e % 2 ^ fact_bits

unfoldable pub entry_in : List ℕ → ℕ → ℕ
entry_in ws i = tight_entry (field_at entry_bits ws i)

abbrev pub owed_in : ℕ → ℕ
owed_in w = bits (4 + outcome_bits) obligation_count_bits w

abbrev pub mark_run : ℕ → List ℕ
mark_run half = low (mark_width half) half

-- A node by its first words and those of its lists.
abbrev pub grant_run : ℕ → ℕ → List ℕ → List ℕ
grant_run w v os =
    low 12 (w / 2 ^ (4 + outcome_bits)) ++ (low outcome_bits w ++ (mark_run (v / 2 ^ (1 + mark_bits)) ++ (mark_run (v % 2 ^ (1 + mark_bits)) ++ list_run (field_at obligation_bits os) obligation_tight_bits (owed_in w))))

abbrev pub permit_run : ℕ → ℕ → List ℕ → List ℕ
permit_run w v os =
    low 11 (12 * 2 ^ obligation_count_bits + owed_in w) ++ (low outcome_bits w ++ (mark_run (v / 2 ^ (4 + count_bits)) ++ (low count_bits v
    ++ (list_run (field_at obligation_bits os) obligation_tight_bits (owed_in w) ++ list_run (entry_in (drop (words_for 4 (owed_in w)) os)) fact_bits (v % 2 ^ count_bits)))))

abbrev pub deny_run : ℕ → ℕ → ℕ → List ℕ → List ℕ
deny_run w v t fs =
    low 6 (w / 2 ^ (10 + outcome_bits)) ++ (low (denied_width w) w ++ (mark_run (v / 2 ^ (1 + mark_bits)) ++ (mark_run (v % 2 ^ (1 + mark_bits)) ++ (low count_bits t
    ++ list_run (entry_in fs) fact_bits (t % 2 ^ count_bits)))))

abbrev pub plain_run : ℕ → List ℕ
plain_run w = low (kind_bits + plain_width (kind_of w)) (kind_of w * 2 ^ plain_width (kind_of w) + w % 2 ^ plain_width (kind_of w))

-- The node at a position, by its kind.
abbrev pub node_by : ℕ → List ℕ → ℕ → List ℕ
node_by kind ws at =
    cond (eqb kind 8) (grant_run (get_or ws at 0) (get_or ws (at + 1) 0) (drop (at + 2) ws))
    (cond (eqb kind 12) (permit_run (get_or ws at 0) (get_or ws (at + 1) 0) (drop (at + 2) ws))
    (cond (eqb kind 13) (deny_run (get_or ws at 0) (get_or ws (at + 1) 0) (get_or ws (at + 2) 0) (drop (at + 3) ws))
    (plain_run (get_or ws at 0))))

-- A first word whose node has no lists.
abbrev pub Plain : ℕ → Type 0
Plain w = (kind_of w ≡ 8 → ⊥) × (kind_of w ≡ 12 → ⊥) × (kind_of w ≡ 13 → ⊥)

unfoldable pub node_run : List ℕ → ℕ → List ℕ
node_run ws at = node_by (kind_of (get_or ws at 0)) ws at

-- All nodes, after so many words that are passed.
unfoldable pub flat : List ℕ → ℕ → List ℕ
flat [] passed = []
flat (w ∷ ws) (suc passed) = flat ws passed
flat (w ∷ ws) zero = node_run (w ∷ ws) 0 ++ flat ws (own_of w ws)

-- A record: its lead, the consulted entries, the tree from `tree` on.
unfoldable pub record_run : List ℕ → ℕ → ℕ → List ℕ
record_run ws count tree =
    low 16 (get_or ws 0 0 / 2 ^ 16) ++ (low 16 (get_or ws 0 0) ++ (list_run (entry_in (drop 1 ws)) (2 + fact_bits) count ++ flat (drop tree ws) 0))
