-- Decisions, and how permits are folded. Document 01, "Folds".
use Rattle.std.specs.Prelude.{Bool, false, cond, ◌||◌, List, [], ◌∷◌, ◌++◌, ℕ, eqb}
use Rattle.std.proofs.Math.Option.{Option, none, some}
use Rattle.model.specs.Outcome.{Outcomes}

pub data Shape : Type 0 where
  forbidden hidden : Shape

-- A permit: its outcome, obligations, label and decisive facts (node 12).
pub record Permit (O : Type 0) : Type 0 where
  pub outcome : O
  pub obligations : List ℕ
  pub label : Option ℕ
  pub facts : List ℕ

-- A deny's clause: the outcome that it denied, the decisive facts, label, reason and shape (node 13).
pub record Denial (O : Type 0) : Type 0 where
  pub denied : Option O
  pub facts : List ℕ
  pub label : Option ℕ
  pub reason : Option ℕ
  pub shape : Shape

pub data Decision (O : Type 0) : Type 0 where
  permits : Permit O → Decision O
  denies : Denial O → Decision O

-- A permit with no label and no facts; and the deny, Forbidden, with nothing named.
abbrev pub combined : {O : Type 0} → O → List ℕ → Permit O
combined o os = record { outcome = o; obligations = os; label = none; facts = [] }

abbrev pub generic_deny : {O : Type 0} → Denial O
generic_deny = record { denied = none; facts = []; label = none; reason = none; shape = forbidden }

-- Effect and products of a decision: a deny has no products, whatever outcome it denied.
abbrev pub products : {O : Type 0} → Decision O → Option O
products (permits p) = some p.outcome
products (denies d) = none

-- Is the obligation held? Append it if not. Append those of a list that are not held, one by one.
abbrev pub held : ℕ → List ℕ → Bool
held o [] = false
held o (p ∷ ps) = eqb o p || held o ps

abbrev pub insert : List ℕ → ℕ → List ℕ
insert os o = cond (held o os) os (os ++ o ∷ [])

abbrev pub union_obligations : List ℕ → List ℕ → List ℕ
union_obligations os [] = os
union_obligations os (p ∷ ps) = union_obligations (insert os p) ps

module _ (L : Outcomes) where
  -- Meet: a result equal to the earlier outcome keeps the earlier permit whole; else equal to the incoming keeps that;
  -- else no obligations, no label, no facts.
  abbrev pub meet_permit : Permit L.O → Permit L.O → Permit L.O
  meet_permit p q =
      let o = L.meet p.outcome q.outcome in
      cond (L.same o p.outcome) p (cond (L.same o q.outcome) q (combined o []))

  -- Join: equal to both keeps the earlier and appends incoming obligations not held; equal to the incoming alone keeps that;
  -- equal to the earlier alone keeps it; else the union of outcomes and of obligations, no label, no facts.
  abbrev pub join_permit : Permit L.O → Permit L.O → Permit L.O
  join_permit p q =
      let o = L.join p.outcome q.outcome in
      let os = union_obligations p.obligations q.obligations in
      cond (L.same o p.outcome)
      (cond (L.same o q.outcome) (record { outcome = p.outcome; obligations = os; label = p.label; facts = p.facts }) p)
      (cond (L.same o q.outcome) q (combined o os))

  -- The permit so far, if any, and one more.
  abbrev pub meet_in : Option (Permit L.O) → Permit L.O → Permit L.O
  meet_in none q = q
  meet_in (some p) q = meet_permit p q

  abbrev pub join_in : Option (Permit L.O) → Permit L.O → Permit L.O
  join_in none q = q
  join_in (some p) q = join_permit p q
