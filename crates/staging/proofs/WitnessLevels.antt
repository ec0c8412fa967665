-- The theorem by an outcome table: sheet S by M3, three levels between a least and a greatest. And two tables in one chain, of which it says nothing.
use Rattle.std.specs.Prelude.{◌≡◌, refl, List, [], ◌∷◌, ℕ, get_or}
use Rattle.std.proofs.Common.{sym, ◌∙◌, ap, inl, inr, arith}
use Rattle.std.proofs.Math.Option.{none}
use Rattle.model.specs.Facts.{table_of, heard}
use Rattle.model.specs.Condition.{has}
use Rattle.model.specs.Decision.{products, forbidden}
use Rattle.model.specs.Policy.{Policy, permit, grant, any, pnil, pcons}
use Rattle.model.specs.Evaluate.{eval_policy}
use Rattle.model.specs.Partial.{permits_first}
use Rattle.model.specs.Calls.{Answer, refusal, wrote}
use Rattle.model.specs.Levels.{meet_of, join_of, outcome_count, outcomes_of, accepts}
use Rattle.model.specs.WorkedLevels.{C3, M3}
use Rattle.model.specs.Products.{evaluate, complete_residual}
use Rattle.staging.specs.Statement.{AgreesOn, Staged}
use Rattle.staging.proofs.Demand3.{demand3_of, outcomes_kept}

-- Any of a grant of level 1 on fact 5, a grant of level 2 on fact 6, and level 3; fact 5 is Unknown at first, then Present.
abbrev sheet_m : List ℕ
sheet_m = 0xA0000003 ∷ 0x80000001 ∷ 0 ∷ 0x20000005 ∷ 0x80000002 ∷ 0 ∷ 0x20000006 ∷ 0x60000003 ∷ []

abbrev tree_m : Policy ℕ
tree_m =
    any (pcons (grant (record { outcome = 1; obligations = []; label = none; reason = none; shape = forbidden }) (has 5))
    (pcons (grant (record { outcome = 2; obligations = []; label = none; reason = none; shape = forbidden }) (has 6)) (pcons (permit 3) pnil)))

abbrev known_m : List ℕ
known_m = 0 ∷ 0x14 ∷ []

abbrev open_m : List ℕ
open_m = 0 ∷ 0x24 ∷ []

abbrev given_m : List ℕ
given_m = 0xF0000001 ∷ 0x40060000 ∷ 0xA0000003 ∷ 0xC0000002 ∷ 1 ∷ 0x00060000 ∷ 0xC0000003 ∷ 0 ∷ 0x80000001 ∷ 0 ∷ 0x20000005 ∷ []

open_m_agrees : AgreesOn tree_m (table_of known_m) (table_of open_m)
open_m_agrees f (inl n) = inl (ap (table_of open_m) n)
open_m_agrees f (inr (inl n)) = inr (ap (λ g. heard (table_of open_m g)) n ∙ sym (ap (λ g. heard (table_of known_m g)) n))
open_m_agrees f (inr (inr (inl n))) = absurd n
open_m_agrees f (inr (inr (inr n))) = absurd n

pub chain_m : Staged (outcomes_of M3) 0 permits_first sheet_m known_m open_m given_m [] tree_m
unfolding accepts meet_of join_of outcome_count
chain_m = demand3_of M3 0 permits_first sheet_m known_m open_m given_m [] tree_m 11 refl refl refl open_m_agrees tt

pub kept_m : products chain_m.decision ≡ products (eval_policy (outcomes_of M3) (table_of known_m) tree_m)
unfolding accepts
kept_m = outcomes_kept M3 refl chain_m

-- Both come to level 4, the join of any two of the three.
pub sitting_m : evaluate M3 0 sheet_m known_m 537 ≡ wrote (0xE0000002 ∷ 0x40054006 ∷ 0xC0000004 ∷ 0 ∷ [])
unfolding accepts meet_of join_of outcome_count
sitting_m = refl

pub completed_m : complete_residual M3 0 given_m known_m 537 ≡ wrote (0xE0000002 ∷ 0x40064005 ∷ 0xC0000004 ∷ 0 ∷ [])
unfolding accepts meet_of join_of outcome_count
completed_m = refl

-- Completed without a table the same record comes to the union of 1, 2 and 3, which is 3; by another table it is refused.
pub completed_by_none : complete_residual none 0 given_m known_m 537 ≡ wrote (0xE0000002 ∷ 0x40064005 ∷ 0xC0000003 ∷ 0 ∷ [])
unfolding meet_of join_of outcome_count
completed_by_none = refl

pub completed_by_other : complete_residual C3 0 given_m known_m 537 ≡ refusal 8
unfolding accepts meet_of join_of outcome_count
completed_by_other = refl

-- So a chain's calls must all have the same table.
abbrev third : Answer → ℕ
third (refusal n) = 0
third (wrote ws) = get_or ws 2 0

pub tables_differ : complete_residual none 0 given_m known_m 537 ≡ complete_residual M3 0 given_m known_m 537 → ⊥
tables_differ e = let z : ◌≡◌ {A = ℕ} 0xC0000003 0xC0000004 = ap third (sym completed_by_none ∙ e ∙ completed_m) in omega arith
