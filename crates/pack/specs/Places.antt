-- A node at its place among the words: its first words, 0 past their end, and its bits in the tight form. And a tree at its place: the bits of its nodes.
use Rattle.std.specs.Prelude.{List, ℕ, ◌+◌, drop, get_or}
use Rattle.model.specs.Writing.{obligation_bits}
use Rattle.model.specs.Tight.{obligation_tight_bits}
use Rattle.laws.specs.FieldAt.{field_at}
use Rattle.policy_model.specs.Span.{own_of}
use Rattle.pack.specs.Flat.{list_run, owed_in, grant_run, permit_run, deny_run, plain_run, node_run, flat}
use Rattle.pack.specs.declared.Node.{Node}
use Rattle.pack.specs.declared.Tree.{Tree}

abbrev pub first : Node → ℕ
first n = get_or n.words.now n.at 0

abbrev pub second : Node → ℕ
second n = get_or n.words.now (n.at + 1) 0

abbrev pub third : Node → ℕ
third n = get_or n.words.now (n.at + 2) 0

-- The words that follow so many of its own.
abbrev pub after : Node → ℕ → List ℕ
after n count = drop (n.at + count) n.words.now

-- Its own words after the first one.
abbrev pub own : Node → ℕ
own n = own_of (first n) (after n 1)

-- Its bits as a Grant, a PermitWithTrace, a DenyWithTrace and a node without lists, and as what its kind says.
abbrev pub grant : Node → List ℕ
grant n = grant_run (first n) (second n) (after n 2)

abbrev pub permit : Node → List ℕ
permit n = permit_run (first n) (second n) (after n 2)

abbrev pub deny : Node → List ℕ
deny n = deny_run (first n) (second n) (third n) (after n 3)

abbrev pub plain : Node → List ℕ
plain n = plain_run (first n)

abbrev pub run : Node → List ℕ
run n = node_run n.words.now n.at

-- The bits of the obligations of a Grant or a PermitWithTrace.
abbrev pub obligations : Node → List ℕ
obligations n = list_run (field_at obligation_bits (after n 2)) obligation_tight_bits (owed_in (first n))

-- The bits of a tree's nodes.
abbrev pub nodes : Tree → List ℕ
nodes t = flat (drop t.from t.words.now) 0
