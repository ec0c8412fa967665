-- Outcome tables. Request 14: levels in place of sets of products.
use Rattle.std.specs.Prelude.{Bool, true, cond, ◌&&◌, List, [], ◌∷◌, ℕ, zero, suc, ◌+◌, ◌*◌, ◌^◌, eqb, ltb, leb, length, get_or}
use Rattle.std.proofs.Math.Option.{Option, none, some}
use Rattle.std.specs.Int.Bits.{bit_and, bit_or}
use Rattle.model.specs.Outcome.{Outcomes, outcome_bits, below}
use Rattle.model.specs.Calls.{Answer, refusal}

-- A table as it is given: how many levels, and a byte for each ordered pair's meet, first level slowest, and then so for join.
pub record OutcomeTable : Type 0 where
  pub levels : ℕ
  pub bytes : List ℕ

-- The byte of a pair from a place on. Of what is no level there is none: the number of levels, which is no level either, stands for it.
abbrev pub entry_from : OutcomeTable → ℕ → ℕ → ℕ → ℕ
entry_from t from a b = cond (ltb a t.levels && ltb b t.levels) (get_or t.bytes (from + a * t.levels + b) 0) t.levels

abbrev pub meet_by : OutcomeTable → ℕ → ℕ → ℕ
meet_by t a b = entry_from t 0 a b

abbrev pub join_by : OutcomeTable → ℕ → ℕ → ℕ
join_by t a b = entry_from t (t.levels * t.levels) a b

-- ---- the outcomes of a call: by the table that it is given, or sets of products
unfoldable pub meet_of : Option OutcomeTable → ℕ → ℕ → ℕ
meet_of none a b = bit_and a b
meet_of (some t) a b = meet_by t a b

unfoldable pub join_of : Option OutcomeTable → ℕ → ℕ → ℕ
join_of none a b = bit_or a b
join_of (some t) a b = join_by t a b

-- Outcomes are the numbers below it.
unfoldable pub outcome_count : Option OutcomeTable → ℕ
outcome_count none = 2 ^ outcome_bits
outcome_count (some t) = t.levels

abbrev pub outcomes_of : Option OutcomeTable → Outcomes
outcomes_of g = record { O = ℕ; same = eqb; meet = meet_of g; join = join_of g; number = λ o. o; value = below (outcome_count g) }

-- ---- which tables are accepted

-- Every number below n passes; every byte does.
abbrev pub every_below : ℕ → (ℕ → Bool) → Bool
every_below zero p = true
every_below (suc n) p = every_below n p && p n

abbrev pub every_byte : (ℕ → Bool) → List ℕ → Bool
every_byte p [] = true
every_byte p (b ∷ bs) = p b && every_byte p bs

-- Every two levels pass.
abbrev pub pairwise : ℕ → (ℕ → ℕ → Bool) → Bool
pairwise n p = every_below n (λ a. every_below n (p a))

abbrev pub commutes : (ℕ → ℕ → ℕ) → ℕ → ℕ → Bool
commutes op a b = eqb (op a b) (op b a)

abbrev pub associate : (ℕ → ℕ → ℕ) → ℕ → ℕ → ℕ → Bool
associate op a b c = eqb (op (op a b) c) (op a (op b c))

abbrev pub associates : ℕ → (ℕ → ℕ → ℕ) → ℕ → ℕ → Bool
associates n op a b = every_below n (associate op a b)

abbrev pub absorbs : (ℕ → ℕ → ℕ) → (ℕ → ℕ → ℕ) → ℕ → ℕ → Bool
absorbs op other a b = eqb (op a (other a b)) a

-- The count is in range, the length twice its square; the operations stay among the levels; and what is asked of each pair.
abbrev pub sized : OutcomeTable → Bool
sized t = leb 1 t.levels && (leb t.levels 16 && eqb (length t.bytes) (2 * (t.levels * t.levels)))

abbrev pub closed : OutcomeTable → Bool
closed t = every_byte (λ b. ltb b t.levels) t.bytes

abbrev pub lawful_pair : OutcomeTable → ℕ → ℕ → Bool
lawful_pair t a b =
    (commutes (meet_by t) a b && commutes (join_by t) a b)
    && ((absorbs (meet_by t) (join_by t) a b && absorbs (join_by t) (meet_by t) a b)
    && (associates t.levels (meet_by t) a b && associates t.levels (join_by t) a b))

unfoldable pub accepts : OutcomeTable → Bool
accepts t = sized t && (closed t && pairwise t.levels (lawful_pair t))

-- None, or one that is accepted.
abbrev pub acceptable : Option OutcomeTable → Bool
acceptable none = true
acceptable (some t) = accepts t

-- 21 when the table is not accepted, before every other cause; else the call, by its outcomes.
abbrev pub by_table : Option OutcomeTable → (Outcomes → Answer) → Answer
by_table g call = cond (acceptable g) (call (outcomes_of g)) (refusal 21)
