-- Required facts, and the questions about a record. Document 01, "Required facts" and the end of "How a request is turned back".
use Rattle.std.specs.Prelude.{Bool, true, false, ◌||◌, List, [], ◌∷◌, ℕ, zero, suc, ◌+◌, replicate}
use Rattle.model.specs.Fields.{split, packed}
use Rattle.model.specs.Facts.{fact_count}
use Rattle.model.specs.Outcome.{Outcomes}
use Rattle.model.specs.Decision.{permits, denies}
use Rattle.model.specs.Policy.{Policy, permit, deny, grant, all, any, or_else, stored, Policies, pnil, pcons, names}
use Rattle.model.specs.Record.{tree}
use Rattle.model.specs.Reading.{Parsed, refuse, got, read_sheet, read_record}

-- ---- required facts: the set is sixteen 64-bit numbers, fact 0 the top bit of the first

-- One bit for each fact from `from` on.
abbrev pub one_bit : Bool → ℕ
one_bit true = 1
one_bit false = 0

abbrev pub flags : (ℕ → Bool) → ℕ → ℕ → List ℕ
flags named from zero = []
flags named from (suc n) = one_bit (named from) ∷ flags named (suc from) n

abbrev pub fact_set : (ℕ → Bool) → List ℕ
fact_set named = packed 1 64 16 (flags named 0 fact_count)

-- The count is the number of one bits in the set.
abbrev pub total : List ℕ → ℕ
total [] = 0
total (n ∷ ns) = n + total ns

abbrev pub ones : List ℕ → ℕ
ones [] = 0
ones (n ∷ ns) = total (split 1 64 n) + ones ns

-- The number of a refusal or 0, the set and its count.
pub record Required : Type 0 where
  pub number : ℕ
  pub set : List ℕ
  pub count : ℕ

abbrev pub requires : (ℕ → Bool) → Required
requires named = record { number = 0; set = fact_set named; count = ones (fact_set named) }

-- Refused: empty and 0.
abbrev pub required_of : {A : Type 0} → Parsed A → (A → ℕ → Bool) → Required
required_of (refuse n) named = record { number = n; set = replicate 16 0; count = 0 }
required_of (got a ws) named = requires (named a)

-- ---- the questions: the number of a refusal or 0, and the answer (refused: no)
pub record Asked : Type 0 where
  pub number : ℕ
  pub yes : Bool

abbrev pub asked_of : {A : Type 0} → Parsed A → (A → Bool) → Asked
asked_of (refuse n) q = record { number = n; yes = false }
asked_of (got a ws) q = record { number = 0; yes = q a }

-- The top node is 6 or 12; 7 or 13.
abbrev pub permit_on_top : {O : Type 0} → Policy O → Bool
permit_on_top (permit o) = true
permit_on_top deny = false
permit_on_top (grant g c) = false
permit_on_top (all ts) = false
permit_on_top (any ts) = false
permit_on_top (or_else a b) = false
permit_on_top (stored (permits p)) = true
permit_on_top (stored (denies d)) = false

abbrev pub deny_on_top : {O : Type 0} → Policy O → Bool
deny_on_top (permit o) = false
deny_on_top deny = true
deny_on_top (grant g c) = false
deny_on_top (all ts) = false
deny_on_top (any ts) = false
deny_on_top (or_else a b) = false
deny_on_top (stored (permits p)) = false
deny_on_top (stored (denies d)) = true

-- Any 8 or 12 in the tree with obligations.
abbrev pub some? : List ℕ → Bool
some? [] = false
some? (o ∷ os) = true

abbrev mutual
  pub obliges : {O : Type 0} → Policy O → Bool
  obliges (permit o) = false
  obliges deny = false
  obliges (grant g c) = some? g.obligations
  obliges (all ts) = obligess ts
  obliges (any ts) = obligess ts
  obliges (or_else a b) = obliges a || obliges b
  obliges (stored (permits p)) = some? p.obligations
  obliges (stored (denies d)) = false

  pub obligess : {O : Type 0} → Policies O → Bool
  obligess pnil = false
  obligess (pcons t ts) = obliges t || obligess ts

-- ---- the calls
module _ (L : Outcomes) where
  abbrev pub required_facts : List ℕ → Required
  required_facts sheet = required_of (read_sheet L.value sheet) (λ t f. names f t)

  abbrev pub required_residual_facts : List ℕ → Required
  required_residual_facts rec = required_of (read_record L.value rec) (λ r f. names f (tree r))

  abbrev pub is_permit_constant : List ℕ → Asked
  is_permit_constant rec = asked_of (read_record L.value rec) (λ r. permit_on_top (tree r))

  abbrev pub is_deny_constant : List ℕ → Asked
  is_deny_constant rec = asked_of (read_record L.value rec) (λ r. deny_on_top (tree r))

  abbrev pub carries_obligation : List ℕ → Asked
  carries_obligation rec = asked_of (read_record L.value rec) (λ r. obliges (tree r))
