-- A node of the tight form, from its bits, with 0 bits past the end; and the words that it restores to. Request 11.
use Rattle.std.specs.Prelude.{cond, Option, None, Some, List, [], ◌∷◌, ◌++◌, map, ℕ, zero, suc, ◌+◌, ◌-◌, ◌*◌, ◌/◌, ◌%◌, ◌^◌, ◌≤◌, ◌<◌, eqb, length, drop}
use Rattle.model.specs.Fields.{joined, words_for, pack}
use Rattle.model.specs.Facts.{fact_bits}
use Rattle.model.specs.Outcome.{outcome_bits}
use Rattle.model.specs.Writing.{rest_bits, count_bits, mark_bits, obligation_bits, entry_bits}
use Rattle.model.specs.Tight.{kind_bits, obligation_count_bits, obligation_tight_bits}
use Rattle.bits.specs.Widths.{has_lists, plain_width, mark_width, denied_width}
use Rattle.unpack.specs.declared.Node.{Node}

-- The field of so many bits at an offset; and n fields, one after the other.
abbrev pub field_in : ℕ → ℕ → List ℕ → ℕ
field_in at width bs = joined 1 width (drop at bs)

unfoldable pub fields_in : ℕ → ℕ → List ℕ → List ℕ
fields_in width zero bs = []
fields_in width (suc n) bs = joined 1 width bs ∷ fields_in width n (drop width bs)

-- A label or reason with its present bit, 0 if it is absent.
unfoldable pub mark_in : ℕ → List ℕ → ℕ
mark_in at bs = cond (eqb (field_in at 1 bs) 0) 0 (field_in at (1 + mark_bits) bs)

-- A fact or consulted entry with its zero bits.
abbrev pub loose_entry : ℕ → ℕ
loose_entry v = v / 2 ^ fact_bits * 2 ^ (4 + fact_bits) + v % 2 ^ fact_bits

-- The word of a node without lists, from its first 20 bits.
abbrev pub lead_kind_of : ℕ → ℕ
lead_kind_of lead = lead / 2 ^ outcome_bits

unfoldable pub plain_word : ℕ → ℕ
plain_word lead = lead_kind_of lead * 2 ^ rest_bits + lead % 2 ^ outcome_bits / 2 ^ (outcome_bits - plain_width (lead_kind_of lead))

-- Nodes with lists.
abbrev pub grant_middle : List ℕ → ℕ
grant_middle bs = 28 + mark_width (mark_in 28 bs)

unfoldable pub grant_node : List ℕ → Node
grant_node bs =
    record {
      first = field_in 0 12 bs * 2 ^ (4 + outcome_bits) + field_in 12 outcome_bits bs;
      second = mark_in 28 bs * 2 ^ (1 + mark_bits) + mark_in (grant_middle bs) bs;
      third = None;
      width = grant_middle bs + mark_width (mark_in (grant_middle bs) bs);
      obligations = field_in 0 12 bs % 2 ^ obligation_count_bits;
      facts = 0;
    }

abbrev pub permit_middle : List ℕ → ℕ
permit_middle bs = 27 + mark_width (mark_in 27 bs)

unfoldable pub permit_node : List ℕ → Node
permit_node bs =
    record {
      first = 12 * 2 ^ rest_bits + field_in 4 obligation_count_bits bs * 2 ^ (4 + outcome_bits) + field_in 11 outcome_bits bs;
      second = mark_in 27 bs * 2 ^ (4 + count_bits) + field_in (permit_middle bs) count_bits bs;
      third = None;
      width = permit_middle bs + count_bits;
      obligations = field_in 4 obligation_count_bits bs;
      facts = field_in (permit_middle bs) count_bits bs;
    }

-- The first word of a DenyWithTrace.
abbrev pub deny_lead : List ℕ → ℕ
deny_lead bs = field_in 0 6 bs * 2 ^ (10 + outcome_bits)

unfoldable pub deny_first : List ℕ → ℕ
deny_first bs = deny_lead bs + field_in 6 (denied_width (deny_lead bs)) bs

abbrev pub deny_before : List ℕ → ℕ
deny_before bs = 6 + denied_width (deny_first bs)

abbrev pub deny_middle : List ℕ → ℕ
deny_middle bs = deny_before bs + mark_width (mark_in (deny_before bs) bs)

abbrev pub deny_after : List ℕ → ℕ
deny_after bs = deny_middle bs + mark_width (mark_in (deny_middle bs) bs)

unfoldable pub deny_node : List ℕ → Node
deny_node bs =
    record {
      first = deny_first bs;
      second = mark_in (deny_before bs) bs * 2 ^ (1 + mark_bits) + mark_in (deny_middle bs) bs;
      third = Some (field_in (deny_after bs) count_bits bs);
      width = deny_after bs + count_bits;
      obligations = 0;
      facts = field_in (deny_after bs) count_bits bs;
    }

-- By the kind: 8, 12, or 13.
unfoldable pub list_node : ℕ → List ℕ → Node
list_node kind bs = cond (eqb kind 8) (grant_node bs) (cond (eqb kind 12) (permit_node bs) (deny_node bs))

-- How many bits and words a node with lists takes.
abbrev pub node_length : Node → ℕ
node_length n = n.width + (obligation_tight_bits * n.obligations + fact_bits * n.facts)

abbrev pub third_words : Option ℕ → List ℕ
third_words None = []
third_words (Some w) = w ∷ []

abbrev pub fixed_words : Node → List ℕ
fixed_words n = n.first ∷ (n.second ∷ third_words n.third)

abbrev pub node_count : Node → ℕ
node_count n = length (fixed_words n) + words_for 4 n.obligations + words_for 2 n.facts

-- No field is over what its bits can say.
pub record Small (n : Node) : Type 0 where
  pub bits : n.width ≤ 128
  pub owed : n.obligations < 128
  pub named : n.facts < 4096

-- Its words: the first ones, obligations, facts.
abbrev pub obligation_words : ℕ → List ℕ → List ℕ
obligation_words n bs = pack obligation_bits (fields_in obligation_tight_bits n bs)

abbrev pub entry_words : ℕ → ℕ → List ℕ → List ℕ
entry_words width n bs = pack entry_bits (map loose_entry (fields_in width n bs))

unfoldable pub node_words : Node → List ℕ → List ℕ
node_words n bs =
    fixed_words n
    ++ (obligation_words n.obligations (drop n.width bs) ++ entry_words fact_bits n.facts (drop (n.width + obligation_tight_bits * n.obligations) bs))

-- The words and the length of any node.
abbrev pub lead_in : List ℕ → ℕ
lead_in bs = field_in 0 (kind_bits + outcome_bits) bs

abbrev pub kind_in : List ℕ → ℕ
kind_in bs = lead_kind_of (lead_in bs)

unfoldable pub restored_node : List ℕ → List ℕ
restored_node bs = cond (has_lists (kind_in bs)) (node_words (list_node (kind_in bs) bs) bs) (plain_word (lead_in bs) ∷ [])

unfoldable pub node_bits : List ℕ → ℕ
node_bits bs = cond (has_lists (kind_in bs)) (node_length (list_node (kind_in bs) bs)) (kind_bits + plain_width (kind_in bs))

-- All nodes of so many bits, after so many that are passed.
unfoldable pub restored : List ℕ → ℕ → ℕ → List ℕ
restored [] passed left = []
restored (b ∷ bs) passed zero = []
restored (b ∷ bs) (suc passed) (suc left) = restored bs passed left
restored (b ∷ bs) zero (suc left) = restored_node (b ∷ bs) ++ restored bs (node_bits (b ∷ bs) - 1) left

-- A record: the lead, the consulted entries, the tree to bit `end`.
abbrev pub count_in : List ℕ → ℕ
count_in run = field_in 20 count_bits run

abbrev pub tree_at : List ℕ → ℕ
tree_at run = 32 + 12 * count_in run

unfoldable pub restored_record : List ℕ → ℕ → List ℕ
restored_record run end =
    (field_in 0 16 run * 2 ^ 16 + field_in 16 16 run) ∷ (entry_words 12 (count_in run) (drop 32 run) ++ restored (drop (tree_at run) run) 0 (end - tree_at run))
