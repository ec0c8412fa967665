-- The consulted list with one more entry. Document 01, "Each fact is consulted once, at first reading".
use Rattle.std.specs.Prelude.{Bool, cond, List, ℕ, ◌+◌, set}
use denote.Ref.{at_last}
use Rattle.consulted.specs.declared.Consulted.{Consulted}

-- At the end, unless its fact is listed: the entries, and how many are in use.
abbrev pub entries_with : List ℕ → ℕ → Bool → ℕ → List ℕ
entries_with entries n already entry = cond already entries (set entries n entry)

abbrev pub length_with : ℕ → Bool → ℕ
length_with n already = cond already n (n + 1)

-- The list that holds them: the same borrow, at those entries.
abbrev pub list_with : Consulted → Bool → ℕ → Consulted
list_with l already entry = record { entries = at_last l.entries (entries_with l.entries.now l.length already entry); seen = l.seen; length = length_with l.length already }
