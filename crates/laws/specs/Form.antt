-- What document 01 asks of a tree that stands in a sheet or a record: each field fits its bits,
-- no list is longer than its count can say, and the nesting.
use Rattle.std.specs.Prelude.{List, ℕ, ◌+◌, ◌^◌, ◌≤◌, ◌<◌, max, length}
use Rattle.std.proofs.Math.Option.{Option, none, some}
use Rattle.model.specs.Facts.{fact_count}
use Rattle.model.specs.Condition.{Condition, always, never, has, not_c, all_c, any_c, Conditions, cnil, ccons}
use Rattle.model.specs.Decision.{Permit, Denial, Decision, permits, denies}
use Rattle.model.specs.Policy.{Grant, Policy, permit, deny, grant, all, any, or_else, stored, Policies, pnil, pcons}
use Rattle.model.specs.Writing.{mark_bits, count_c, count, most_listed, most_held}
use Rattle.model.specs.Reading.{obligation_count, most_obligations}
use Rattle.laws.specs.Lists.{Below, repeats}
use Rattle.laws.specs.Size.{words_c}

abbrev mutual
  pub FormC : Condition → Type 0
  FormC always = Unit {0}
  FormC never = Unit {0}
  FormC (has f) = f < fact_count
  FormC (not_c c) = FormC c
  FormC (all_c cs) = (count_c cs ≤ most_listed) × FormCs cs
  FormC (any_c cs) = (count_c cs ≤ most_listed) × FormCs cs

  pub FormCs : Conditions → Type 0
  FormCs cnil = Unit {0}
  FormCs (ccons c cs) = FormC c × FormCs cs

-- What is there has Q.
abbrev pub IfThere : {A : Type 0} → (A → Type 0) → Option A → Type 0
IfThere Q none = Unit {0}
IfThere Q (some a) = Q a

-- A label or a reason.
abbrev pub FormL : Option ℕ → Type 0
FormL l = IfThere (λ n. n < 2 ^ mark_bits) l

-- Facts in a list: they may repeat.
abbrev pub FormF : List ℕ → Type 0
FormF fs = (length fs ≤ most_listed) × Below fact_count fs

-- Obligations: they may repeat, and R says how many there may be.
abbrev pub FormO : (List ℕ → Type 0) → List ℕ → Type 0
FormO R os = R os × Below obligation_count os

-- In a Grant at most 64. In a node 12 at most 127, and in what comes of a sheet fewer than 64 that stand again, since joining adds no repeat.
abbrev pub Granted : List ℕ → Type 0
Granted os = length os ≤ most_obligations

abbrev pub Countable : List ℕ → Type 0
Countable os = length os ≤ most_held

abbrev pub FewRepeats : List ℕ → Type 0
FewRepeats os = repeats os < most_obligations

-- G says which outcomes fit.
module _ {O : Type 0} (G : O → Type 0) where
  abbrev pub FormP : (List ℕ → Type 0) → Permit O → Type 0
  FormP R p = G p.outcome × FormO R p.obligations × FormL p.label × FormF p.facts

  abbrev pub FormN : Denial O → Type 0
  FormN d = IfThere G d.denied × FormF d.facts × FormL d.label × FormL d.reason

  abbrev pub FormD : (List ℕ → Type 0) → Decision O → Type 0
  FormD R (permits p) = FormP R p
  FormD R (denies d) = FormN d

  abbrev pub FormG : Grant O → Type 0
  FormG g = G g.outcome × FormO Granted g.obligations × FormL g.label × FormL g.reason

-- B says what is asked of a grant's condition, R of a node 12's obligations.
module _ {O : Type 0} (G : O → Type 0) (B : Condition → Type 0) (R : List ℕ → Type 0) where
  abbrev mutual
    pub FormOf : Policy O → Type 0
    FormOf (permit o) = G o
    FormOf deny = Unit {0}
    FormOf (grant g c) = FormG G g × FormC c × B c
    FormOf (all ts) = (count ts ≤ most_listed) × FormsOf ts
    FormOf (any ts) = (count ts ≤ most_listed) × FormsOf ts
    FormOf (or_else a b) = FormOf a × FormOf b
    FormOf (stored d) = FormD G R d

    pub FormsOf : Policies O → Type 0
    FormsOf pnil = Unit {0}
    FormsOf (pcons t ts) = FormOf t × FormsOf ts

-- In a sheet, and in what comes of one, a condition names at most 4,095 facts, so that their list can be counted. In a record nothing is asked.
abbrev pub Few : Condition → Type 0
Few c = words_c c ≤ most_listed

abbrev pub Free : Condition → Type 0
Free c = Unit {0}

abbrev pub Form : {O : Type 0} → (O → Type 0) → Policy O → Type 0
Form G t = FormOf G Few FewRepeats t

abbrev pub Forms : {O : Type 0} → (O → Type 0) → Policies O → Type 0
Forms G ts = FormsOf G Few FewRepeats ts

-- Nesting, grant and condition together.
abbrev mutual
  pub depth_c : Condition → ℕ
  depth_c always = 1
  depth_c never = 1
  depth_c (has f) = 1
  depth_c (not_c c) = 1 + depth_c c
  depth_c (all_c cs) = 1 + depth_cs cs
  depth_c (any_c cs) = 1 + depth_cs cs

  pub depth_cs : Conditions → ℕ
  depth_cs cnil = 0
  depth_cs (ccons c cs) = max (depth_c c) (depth_cs cs)

abbrev mutual
  pub depth : {O : Type 0} → Policy O → ℕ
  depth (permit o) = 1
  depth deny = 1
  depth (grant g c) = 1 + depth_c c
  depth (all ts) = 1 + depths ts
  depth (any ts) = 1 + depths ts
  depth (or_else a b) = 1 + max (depth a) (depth b)
  depth (stored d) = 1

  pub depths : {O : Type 0} → Policies O → ℕ
  depths pnil = 0
  depths (pcons t ts) = max (depth t) (depths ts)
