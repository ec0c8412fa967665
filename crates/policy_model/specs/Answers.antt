-- What the checks answer, from what is read of the words. Document 01, "How a request is turned back".
use Rattle.std.specs.Prelude.{◌≡◌, cond, Result, Ok, Err, List, [], ℕ, ◌+◌, ◌-◌, ◌≤◌, ◌<◌, ltb, length, get_or}
use Rattle.std.proofs.Math.Option.{Option, none, some}
use Rattle.model.specs.Partial.{ReducedPolicy, as_residual}
use Rattle.model.specs.Record.{Record}
use Rattle.model.specs.Outcome.{below}
use Rattle.model.specs.Reading.{Parsed, refuse, got, parse14, parse15}
use Rattle.model.specs.Products.{Outcome, lead_kind}
use Rattle.laws.specs.Size.{pairs, words}
use Rattle.refusal.specs.declared.Refusal.{Refusal}
use Rattle.refusal.specs.Numbers.{number_of}
use Rattle.policy_model.specs.declared.Step.{Step}
use Rattle.policy_model.specs.declared.Step.TheVariants.{Leaf, Arms}
use Rattle.policy_model.specs.declared.Status.{Status}
use Rattle.policy_model.specs.declared.Status.TheVariants.{Resolved, Pending}
use Rattle.policy_model.specs.declared.RecordHead.{RecordHead}

-- The word at a position, or 6 where the words have ended.
abbrev pub WordOrEnd : List ℕ → ℕ → Result ℕ Refusal → Type 0
WordOrEnd ws at (Ok w) = (at < length ws) × (w ≡ get_or ws at 0)
WordOrEnd ws at (Err e) = (length ws ≤ at) × (number_of e ≡ 6)

-- The position after what was read from `at`, or the refusal. `size` is how many words it takes.
unfoldable pub checked : {A : Type 0} → (A → ℕ) → ℕ → Parsed A → Result ℕ ℕ
checked size at (refuse n) = Err n
checked size at (got a ws) = Ok (at + size a)

-- What is asked next, unless the check refuses.
abbrev pub and_then : Result ℕ ℕ → (ℕ → Result ℕ ℕ) → Result ℕ ℕ
and_then (Err n) k = Err n
and_then (Ok at) k = k at

-- What is asked of a node at so many levels, and of so many nodes, one after the other: of the first, and then of the others.
pub record Lists (one : ℕ → ℕ → Result ℕ ℕ) (all : ℕ → ℕ → ℕ → Result ℕ ℕ) : Type 0 where
  pub first : (d n at : ℕ) → (n ≡ 0 → ⊥) → and_then (one d at) (λ after. all d after (n - 1)) ≡ all d at n
  pub none : (d n at : ℕ) → n ≡ 0 → Ok at ≡ all d at n

-- What a step says of the node at `at`, with so many levels left: the check goes on after a word or more; it is the check of n arms, a level below; or it refuses.
abbrev pub Stepped : List ℕ → ℕ → ℕ → Result ℕ ℕ → (ℕ → Result ℕ ℕ) → Result Step Refusal → Type 0
Stepped ws at depth asked arms (Ok (Leaf after)) = (Ok after ≡ asked) × (at < length ws) × (at < after)
Stepped ws at depth asked arms (Ok (Arms n)) = (arms n ≡ asked) × (at < length ws) × (0 < depth)
Stepped ws at depth asked arms (Err e) = Err (number_of e) ≡ asked

-- Words after what was checked: 10.
unfoldable pub at_end : ℕ → Result ℕ ℕ → Result ℕ ℕ
at_end length (Err n) = Err n
at_end length (Ok n) = cond (ltb n length) (Err 10) (Ok n)

-- ---- sheets: the number of the refusal, if there is one
abbrev pub refusal : {A : Type 0} → Parsed A → Option ℕ
refusal (refuse n) = some n
refusal (got a ws) = none

-- ---- records

-- What stands after the consulted entries, by a number of outcomes: under 15 a residual tree, under 14 one node 12 or 13.
unfoldable pub body_at : ℕ → Status → List ℕ → Parsed (ReducedPolicy Outcome)
body_at most Pending ws = parse15 (below most) ws
body_at most Resolved ws = parse14 (below most) ws

abbrev pub words_b : ReducedPolicy Outcome → ℕ
words_b b = words (as_residual b)

-- A record's lead: its kind (14 Resolved, 15 Pending) and consulted count; and the position where its tree begins.
pub record Lead : Type 0 where
  pub kind : ℕ
  pub consulted : ℕ
  pub tree : ℕ

-- Of a record that was read, and as `check_record` says it: that, or the number of the refusal.
unfoldable pub lead_of : Parsed (Record Outcome) → Parsed Lead
lead_of (refuse n) = refuse n
lead_of (got r ws) = got (record { kind = lead_kind r.body; consulted = length r.log; tree = 1 + pairs r.log }) []

abbrev pub kind_by : Status → ℕ
kind_by Resolved = 14
kind_by Pending = 15

abbrev pub record_lead : Result RecordHead Refusal → Parsed Lead
record_lead (Ok h) = got (record { kind = kind_by h.status; consulted = h.consulted; tree = h.tree }) []
record_lead (Err e) = refuse (number_of e)
