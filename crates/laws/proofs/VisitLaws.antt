-- The nodes that direct evaluation visits: at least one, and never more than the tree's words, nor than the sheet's. Request 10. Assumes nothing.
use Rattle.std.proofs.Math.Option.{Option, none, some}
use Rattle.std.specs.Prelude.{List, ℕ, ◌≤◌, ◌<◌, length}
use Rattle.std.proofs.Common.{arith}
use Rattle.model.specs.Facts.{Table}
use Rattle.model.specs.Outcome.{Outcomes}
use Rattle.model.specs.Condition.{Condition, always, never, has, not_c, all_c, any_c, Conditions, cnil, ccons, ConditionEval, satisfied, unsatisfied, eval_condition}
use Rattle.model.specs.Decision.{Decision, permits, denies}
use Rattle.model.specs.Policy.{Policy, permit, deny, grant, all, any, or_else, stored, Policies, pnil, pcons}
use Rattle.model.specs.Evaluate.{eval_policy}
use Rattle.model.specs.Reading.{Parsed, refuse, got, read_sheet}
use Rattle.model.specs.Visits.{if_true, if_false, if_permits, if_denies, visits_c, visits_all_c, visits_any_c, visits, visits_all, visits_any}
use Rattle.model.specs.Batch.{visited}
use Rattle.laws.proofs.FieldLaws.{Holds}
use Rattle.laws.specs.Size.{words_c, words_cs, words, wordss}
use Rattle.laws.specs.Form.{IfThere}
use Rattle.laws.proofs.ReadForm.{OkSheet, ok_sheet}

if_true_le : (v : ConditionEval) (n : ℕ) → if_true v n ≤ n
if_true_le (satisfied fs) n = omega arith
if_true_le (unsatisfied fs) n = omega arith

if_false_le : (v : ConditionEval) (n : ℕ) → if_false v n ≤ n
if_false_le (satisfied fs) n = omega arith
if_false_le (unsatisfied fs) n = omega arith

if_permits_le : {O : Type 0} (d : Decision O) (n : ℕ) → if_permits d n ≤ n
if_permits_le (permits p) n = omega arith
if_permits_le (denies d) n = omega arith

if_denies_le : {O : Type 0} (d : Decision O) (n : ℕ) → if_denies d n ≤ n
if_denies_le (permits p) n = omega arith
if_denies_le (denies d) n = omega arith

module _ (T : Table) where
  mutual
    visits_c_words : (c : Condition) → visits_c T c ≤ words_c c
    visits_c_words always = omega arith
    visits_c_words never = omega arith
    visits_c_words (has f) = omega arith
    visits_c_words (not_c c) = omega (arith, visits_c_words c)
    visits_c_words (all_c cs) = omega (arith, visits_all_c_words cs)
    visits_c_words (any_c cs) = omega (arith, visits_any_c_words cs)

    visits_all_c_words : (cs : Conditions) → visits_all_c T cs ≤ words_cs cs
    visits_all_c_words cnil = omega arith
    visits_all_c_words (ccons c cs) = omega (arith, visits_c_words c, visits_all_c_words cs, if_true_le (eval_condition T c) (visits_all_c T cs))

    visits_any_c_words : (cs : Conditions) → visits_any_c T cs ≤ words_cs cs
    visits_any_c_words cnil = omega arith
    visits_any_c_words (ccons c cs) = omega (arith, visits_c_words c, visits_any_c_words cs, if_false_le (eval_condition T c) (visits_any_c T cs))

  module _ (L : Outcomes) where
    mutual
      pub visits_words : (t : Policy L.O) → visits L T t ≤ words t
      visits_words (permit o) = omega arith
      visits_words deny = omega arith
      visits_words (grant g c) = omega (arith, visits_c_words c)
      visits_words (all ts) = omega (arith, visits_all_words ts)
      visits_words (any ts) = omega (arith, visits_any_words ts)
      visits_words (or_else a b) = omega (arith, visits_words a, visits_words b, if_denies_le (eval_policy L T a) (visits L T b))
      visits_words (stored (permits p)) = omega arith
      visits_words (stored (denies d)) = omega arith

      visits_all_words : (ts : Policies L.O) → visits_all L T ts ≤ wordss ts
      visits_all_words pnil = omega arith
      visits_all_words (pcons t ts) = omega (arith, visits_words t, visits_all_words ts, if_permits_le (eval_policy L T t) (visits_all L T ts))

      visits_any_words : (ts : Policies L.O) → visits_any L T ts ≤ wordss ts
      visits_any_words pnil = omega arith
      visits_any_words (pcons t ts) = omega (arith, visits_words t, visits_any_words ts)

    -- Every tree has a node that is visited: its first.
    pub some_visits : (t : Policy L.O) → 0 < visits L T t
    some_visits (permit o) = omega arith
    some_visits deny = omega arith
    some_visits (grant g c) = omega arith
    some_visits (all ts) = omega arith
    some_visits (any ts) = omega arith
    some_visits (or_else a b) = omega arith
    some_visits (stored d) = omega arith

    -- Of a sheet there are at most as many as it has words.
    there : (o : Option L.O) → IfThere (λ _. Unit {0}) o
    there none = tt
    there (some o) = tt

    visited_at : (sheet : List ℕ) (q : Parsed (Policy L.O)) → Holds (OkSheet (λ _. Unit {0}) L.value (λ n. there (L.value n)) sheet) q → visited L q T ≤ length sheet
    visited_at sheet (refuse n) h = omega arith
    visited_at sheet (got t ws) h = omega (arith, visits_words t, h.it.2)

    pub visited_words : (sheet : List ℕ) → visited L (read_sheet L.value sheet) T ≤ length sheet
    visited_words sheet = visited_at sheet (read_sheet L.value sheet) (ok_sheet (λ _. Unit {0}) L.value (λ n. there (L.value n)) sheet)
