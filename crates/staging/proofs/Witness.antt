-- The theorem is not empty: concrete chains to which it applies.
use Rattle.std.specs.Prelude.{◌≡◌, refl, List, [], ◌∷◌, ℕ, length, replicate}
use Rattle.std.proofs.Common.{sym, ◌∙◌, ap, inl, inr, arith}
use Rattle.std.proofs.Math.Option.{none}
use Rattle.model.specs.Facts.{absent, silent, table_of, heard, known_facts, table_fault}
use Rattle.model.specs.Outcome.{product_sets}
use Rattle.model.specs.Levels.{meet_of, join_of, outcome_count}
use Rattle.model.specs.Condition.{has}
use Rattle.model.specs.Decision.{Decision, permits, denies, forbidden, hidden}
use Rattle.model.specs.Policy.{Policy, permit, grant, all, any, pnil, pcons}
use Rattle.model.specs.Evaluate.{eval_policy}
use Rattle.model.specs.Partial.{ReducedPolicy, resolved, pending, Order, permits_first, sheet_order}
use Rattle.model.specs.Record.{Record}
use Rattle.model.specs.Reading.{Parsed, refuse, got, read_sheet}
use Rattle.model.specs.Calls.{refusal, wrote, evaluate, partial_evaluate, complete_residual}
use Rattle.staging.specs.Bare.{bare}
use Rattle.staging.specs.Chain.{AllOf}
use Rattle.staging.specs.Statement.{Call, AgreesOn, answer_to, after, accepted, Staged}
use Rattle.staging.proofs.Demand3.{demand3_of}

-- The theorem of chains without an outcome table.
without : (number : ℕ) (o : Order) (sheet known facts given : List ℕ) (calls : List Call) (t : Policy ℕ) (room : ℕ)
    → read_sheet product_sets.value sheet ≡ got t [] → table_fault known_facts known ≡ none
    → partial_evaluate product_sets o number sheet facts room ≡ wrote given
    → AgreesOn t (table_of known) (table_of facts)
    → AllOf (λ s. AgreesOn t (table_of known) s.table) (accepted product_sets number given calls)
    → Staged product_sets number o sheet known facts given calls t
unfolding meet_of join_of outcome_count
without = demand3_of none

-- Sheet D, reduced under number 7 with fact 5 Unknown; then a narrowing refused for a field 3 in its table, one refused for want of room,
-- one accepted that leaves 5 open, one accepted that reads 5 as Present, and one refused by 17, since it reads 5 as Absent.
abbrev sheet_d : List ℕ
sheet_d = 0x88000003 ∷ 0 ∷ 0x20000005 ∷ []

abbrev tree_d : Policy ℕ
tree_d = grant (record { outcome = 3; obligations = []; label = none; reason = none; shape = hidden }) (has 5)

abbrev known_d : List ℕ
known_d = 0 ∷ 0x10 ∷ []

abbrev open_d : List ℕ
open_d = 0 ∷ 0x20 ∷ []

abbrev other_d : List ℕ
other_d = 0 ∷ 0 ∷ []

abbrev given_d : List ℕ
given_d = 0xF0007000 ∷ 0x88000003 ∷ 0 ∷ 0x20000005 ∷ []

abbrev calls_d : List Call
calls_d =
    record { order = permits_first; facts = 0 ∷ 0x30 ∷ []; out = replicate 100 0 }
    ∷ record { order = permits_first; facts = known_d; out = replicate 2 7 }
    ∷ record { order = permits_first; facts = open_d; out = replicate 4 1 }
    ∷ record { order = permits_first; facts = known_d; out = replicate 522 0 }
    ∷ record { order = permits_first; facts = other_d; out = replicate 522 0 }
    ∷ []

-- Fact 5 is the only one that the sheet names.
open_agrees : AgreesOn tree_d (table_of known_d) (table_of open_d)
open_agrees f n = inl (ap (table_of open_d) n)

known_agrees : AgreesOn tree_d (table_of known_d) (table_of known_d)
known_agrees f n = inr refl

pub chain_d : Staged product_sets 7 permits_first sheet_d known_d open_d given_d calls_d tree_d
chain_d = without 7 permits_first sheet_d known_d open_d given_d calls_d tree_d 4 refl refl refl open_agrees (open_agrees, (known_agrees, tt))

-- What the list comes to: three of its calls are refused, and the record after it is Resolved.
pub accepted_d : length (accepted product_sets 7 given_d calls_d) ≡ 2
accepted_d = refl

pub after_d : after product_sets 7 given_d calls_d ≡ 0xE0007001 ∷ 0x40050000 ∷ 0xC0000003 ∷ 1 ∷ 0x00050000 ∷ []
after_d = refl

-- The last call, refused.
pub contradicted_d : answer_to product_sets 7 (after product_sets 7 given_d calls_d) (record { order = permits_first; facts = other_d; out = replicate 522 0 }) ≡ refusal 17
contradicted_d = refl

-- Any of a grant of product 1 on fact 0 and a grant of product 2 on fact 1: the relay knows neither, the district brings fact 0,
-- the archive completes with both. One sitting permits both products, and so do the stages.
abbrev sheet_r : List ℕ
sheet_r = 0xA0000002 ∷ 0x80000001 ∷ 0 ∷ 0x20000000 ∷ 0x80000002 ∷ 0 ∷ 0x20000001 ∷ []

abbrev tree_r : Policy ℕ
tree_r =
    any (pcons (grant (record { outcome = 1; obligations = []; label = none; reason = none; shape = forbidden }) (has 0))
    (pcons (grant (record { outcome = 2; obligations = []; label = none; reason = none; shape = forbidden }) (has 1)) pnil))

abbrev relay : List ℕ
relay = 0xA0 ∷ []

abbrev district : List ℕ
district = 0x60 ∷ []

abbrev archive : List ℕ
archive = 0x50 ∷ []

abbrev given_r : List ℕ
given_r = 0xF0000000 ∷ sheet_r

relay_agrees : AgreesOn tree_r (table_of archive) (table_of relay)
relay_agrees f (inl n) = inl (ap (table_of relay) n)
relay_agrees f (inr (inl n)) = inl (ap (table_of relay) n)
relay_agrees f (inr (inr n)) = absurd n

district_agrees : AgreesOn tree_r (table_of archive) (table_of district)
district_agrees f (inl n) = inr (ap (λ g. heard (table_of district g)) n ∙ sym (ap (λ g. heard (table_of archive g)) n))
district_agrees f (inr (inl n)) = inl (ap (table_of district) n)
district_agrees f (inr (inr n)) = absurd n

pub chain_r : Staged product_sets 0 permits_first sheet_r archive relay given_r (record { order = permits_first; facts = district; out = replicate 534 0 } ∷ []) tree_r
chain_r = without 0 permits_first sheet_r archive relay given_r (record { order = permits_first; facts = district; out = replicate 534 0 } ∷ []) tree_r 8 refl refl refl relay_agrees (district_agrees, tt)

pub completed_r : complete_residual product_sets 0 (after product_sets 0 given_r (record { order = permits_first; facts = district; out = replicate 534 0 } ∷ [])) archive 534 ≡ wrote (0xE0000002 ∷ 0x40004001 ∷ 0xC0000003 ∷ 0 ∷ [])
completed_r = refl

-- All of a grant on fact 5, with obligation 7, and a permit of the same product; fact 5 is Unknown at first, then Present. One sitting owes obligation 7: the
-- grant's permit comes first.
abbrev sheet_h : List ℕ
sheet_h = 0x90000002 ∷ 0x80100001 ∷ 0 ∷ 0x07000000 ∷ 0x20000005 ∷ 0x60000001 ∷ []

abbrev tree_h : Policy ℕ
tree_h = all (pcons (grant (record { outcome = 1; obligations = 7 ∷ []; label = none; reason = none; shape = forbidden }) (has 5)) (pcons (permit 1) pnil))

abbrev given_h : List ℕ
given_h = 0xF0000000 ∷ 0x90000002 ∷ 0x80100001 ∷ 0 ∷ 0x07000000 ∷ 0x20000005 ∷ 0xC0000001 ∷ 0 ∷ []

open_h_agrees : AgreesOn tree_h (table_of known_d) (table_of open_d)
open_h_agrees f (inl n) = inl (ap (table_of open_d) n)
open_h_agrees f (inr (inl n)) = absurd n
open_h_agrees f (inr (inr n)) = absurd n

pub sitting_h : evaluate product_sets 0 sheet_h known_d 531 ≡ wrote (0xE0000001 ∷ 0x40050000 ∷ 0xC0100001 ∷ 1 ∷ 0x07000000 ∷ 0x00050000 ∷ [])
sitting_h = refl

-- In sheet order throughout, with a refused narrowing of the first pair between: completed to the clause of one sitting.
abbrev calls_h : List Call
calls_h = record { order = permits_first; facts = open_d; out = replicate 7 0 } ∷ record { order = sheet_order; facts = open_d; out = replicate 8 0 } ∷ []

pub chain_h : Staged product_sets 0 sheet_order sheet_h known_d open_d given_h calls_h tree_h
chain_h = without 0 sheet_order sheet_h known_d open_d given_h calls_h tree_h 8 refl refl refl open_h_agrees (open_h_agrees, tt)

pub one_sitting_h : bare chain_h.decision ≡ bare (eval_policy product_sets (table_of known_d) tree_h)
one_sitting_h = chain_h.same_but_facts refl (refl, tt)

pub completed_h : complete_residual product_sets 0 (after product_sets 0 given_h calls_h) known_d 531 ≡ wrote (0xE0000001 ∷ 0x40050000 ∷ 0xC0100001 ∷ 1 ∷ 0x07000000 ∷ 0x00050000 ∷ [])
completed_h = refl

-- With an accepted narrowing of the first pair between, the permit moves before the grant, and the completion owes nothing: effect and products alone are kept.
abbrev mixed_h : List Call
mixed_h = record { order = permits_first; facts = open_d; out = replicate 8 0 } ∷ []

pub chain_mixed : Staged product_sets 0 sheet_order sheet_h known_d open_d given_h mixed_h tree_h
chain_mixed = without 0 sheet_order sheet_h known_d open_d given_h mixed_h tree_h 8 refl refl refl open_h_agrees (open_h_agrees, tt)

pub completed_mixed : complete_residual product_sets 0 (after product_sets 0 given_h mixed_h) known_d 531 ≡ wrote (0xE0000001 ∷ 0x40050000 ∷ 0xC0000001 ∷ 0 ∷ [])
completed_mixed = refl

-- What a decision owes.
abbrev owes : Decision ℕ → List ℕ
owes (permits p) = p.obligations
owes (denies d) = []

abbrev owes_in : ReducedPolicy ℕ → List ℕ
owes_in (resolved d) = owes d
owes_in (pending t) = []

abbrev owes_read : Parsed (Record ℕ) → List ℕ
owes_read (refuse n) = []
owes_read (got r ws) = owes_in r.body

owes_bare : (d : Decision ℕ) → owes (bare d) ≡ owes d
owes_bare (permits p) = refl
owes_bare (denies d) = refl

pub mixed_differs : bare chain_mixed.decision ≡ bare (eval_policy product_sets (table_of known_d) tree_h) → ⊥
mixed_differs e =
    let none-owed : [] ≡ owes chain_mixed.decision = ap owes_read (chain_mixed.completion_reads 531 (0xE0000001 ∷ 0x40050000 ∷ 0xC0000001 ∷ 0 ∷ []) completed_mixed) ∙ ap owes_in chain_mixed.resolves in
    let seven-owed : owes chain_mixed.decision ≡ 7 ∷ [] = sym (owes_bare chain_mixed.decision) ∙ ap owes e in
    let lengths : ◌≡◌ {A = ℕ} 0 1 = ap length (none-owed ∙ seven-owed) in
    omega arith

-- Any of a grant of product 1 on fact 0 and a grant of product 2 on fact 5. The relay leaves fact 0 open, and its table ends before fact 5, which the archive
-- entered as Absent: they agree, though they don't read alike. Completed in either order, the stages decide as one sitting; the entry of fact 5 alone
-- tells them apart.
abbrev sheet_s : List ℕ
sheet_s = 0xA0000002 ∷ 0x80000001 ∷ 0 ∷ 0x20000000 ∷ 0x80000002 ∷ 0 ∷ 0x20000005 ∷ []

abbrev tree_s : Policy ℕ
tree_s =
    any (pcons (grant (record { outcome = 1; obligations = []; label = none; reason = none; shape = forbidden }) (has 0))
    (pcons (grant (record { outcome = 2; obligations = []; label = none; reason = none; shape = forbidden }) (has 5)) pnil))

abbrev relay_s : List ℕ
relay_s = 0x80 ∷ []

abbrev archive_s : List ℕ
archive_s = 0x40 ∷ 0 ∷ []

pub relay_silent : table_of relay_s 5 ≡ silent
relay_silent = refl

pub archive_entered : table_of archive_s 5 ≡ absent
archive_entered = refl

silent_agrees : AgreesOn tree_s (table_of archive_s) (table_of relay_s)
silent_agrees f (inl n) = inl (ap (table_of relay_s) n)
silent_agrees f (inr (inl n)) = inr (ap (λ g. heard (table_of relay_s g)) n ∙ sym (ap (λ g. heard (table_of archive_s g)) n))
silent_agrees f (inr (inr n)) = absurd n

abbrev given_s : List ℕ
given_s = 0xF0000001 ∷ 0xC0050000 ∷ 0xA0000002 ∷ 0xD4000002 ∷ 0 ∷ 1 ∷ 0x00050000 ∷ 0x80000001 ∷ 0 ∷ 0x20000000 ∷ []

pub chain_s : Staged product_sets 0 permits_first sheet_s archive_s relay_s given_s [] tree_s
chain_s = without 0 permits_first sheet_s archive_s relay_s given_s [] tree_s 10 refl refl refl silent_agrees tt

abbrev ordered_s : List ℕ
ordered_s = 0xF0000001 ∷ 0xC0050000 ∷ 0xA0000002 ∷ 0x80000001 ∷ 0 ∷ 0x20000000 ∷ 0xD4000002 ∷ 0 ∷ 1 ∷ 0x00050000 ∷ []

pub chain_ordered_s : Staged product_sets 0 sheet_order sheet_s archive_s relay_s ordered_s [] tree_s
chain_ordered_s = without 0 sheet_order sheet_s archive_s relay_s ordered_s [] tree_s 10 refl refl refl silent_agrees tt

pub one_sitting_s : bare chain_ordered_s.decision ≡ bare (eval_policy product_sets (table_of archive_s) tree_s)
one_sitting_s = chain_ordered_s.same_but_facts refl tt

abbrev decided_s : ℕ → List ℕ
decided_s entries = 0xE0000002 ∷ entries ∷ 0xC0000001 ∷ 1 ∷ 0 ∷ []

pub completed_s : complete_residual product_sets 0 given_s archive_s 534 ≡ wrote (decided_s 0xC0054000)
completed_s = refl

pub completed_ordered_s : complete_residual product_sets 0 ordered_s archive_s 534 ≡ wrote (decided_s 0xC0054000)
completed_ordered_s = refl

pub sitting_s : evaluate product_sets 0 sheet_s archive_s 534 ≡ wrote (decided_s 0x40000005)
sitting_s = refl
