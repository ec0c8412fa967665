-- Conditions, and what they say under a table. Document 01, "Conditions".
use Rattle.std.specs.Prelude.{Bool, false, ◌||◌, List, [], ◌∷◌, ◌++◌, ℕ, eqb}
use Rattle.model.specs.Facts.{Presence, absent, present, unknown, silent, Table}

-- A condition, and a list of conditions.
mutual
  pub data Condition : Type 0 where
    always never : Condition
    has : ℕ → Condition
    not_c : Condition → Condition
    all_c any_c : Conditions → Condition

  pub data Conditions : Type 0 where
    cnil : Conditions
    ccons : Condition → Conditions → Conditions

-- Whether it is satisfied, with the facts that it names.
pub data ConditionEval : Type 0 where
  satisfied unsatisfied : List ℕ → ConditionEval

-- Has is true on Present alone, and names its fact, Unknown or not.
abbrev pub eval_has : ℕ → Presence → ConditionEval
eval_has f absent = unsatisfied (f ∷ [])
eval_has f present = satisfied (f ∷ [])
eval_has f unknown = unsatisfied (f ∷ [])
eval_has f silent = unsatisfied (f ∷ [])

-- Not flips, and keeps the names.
abbrev pub flip : ConditionEval → ConditionEval
flip (satisfied fs) = unsatisfied fs
flip (unsatisfied fs) = satisfied fs

-- An arm of All, and the arms after it: a false All names the first false arm's facts, a true one all arms' facts.
abbrev pub both : ConditionEval → ConditionEval → ConditionEval
both (unsatisfied fs) later = unsatisfied fs
both (satisfied fs) (unsatisfied gs) = unsatisfied gs
both (satisfied fs) (satisfied gs) = satisfied (fs ++ gs)

-- An arm of Any: the other way about.
abbrev pub either : ConditionEval → ConditionEval → ConditionEval
either (satisfied fs) later = satisfied fs
either (unsatisfied fs) (satisfied gs) = satisfied gs
either (unsatisfied fs) (unsatisfied gs) = unsatisfied (fs ++ gs)

-- Without arms the first, else the second.
abbrev pub unless_none {ℓ} : {A : Type ℓ} → Conditions → A → A → A
unless_none cnil a b = a
unless_none (ccons c cs) a b = b

-- Always and Never name nothing. Empty All and empty Any are both false.
abbrev mutual
  pub eval_condition : Table → Condition → ConditionEval
  eval_condition T always = satisfied []
  eval_condition T never = unsatisfied []
  eval_condition T (has f) = eval_has f (T f)
  eval_condition T (not_c c) = flip (eval_condition T c)
  eval_condition T (all_c cs) = unless_none cs (unsatisfied []) (eval_condition_all T cs)
  eval_condition T (any_c cs) = eval_condition_any T cs

  pub eval_condition_all : Table → Conditions → ConditionEval
  eval_condition_all T cnil = satisfied []
  eval_condition_all T (ccons c cs) = both (eval_condition T c) (eval_condition_all T cs)

  pub eval_condition_any : Table → Conditions → ConditionEval
  eval_condition_any T cnil = unsatisfied []
  eval_condition_any T (ccons c cs) = either (eval_condition T c) (eval_condition_any T cs)

-- A condition names a fact exactly when a Has in it carries the fact: as a test.
abbrev mutual
  pub names_c : ℕ → Condition → Bool
  names_c f always = false
  names_c f never = false
  names_c f (has g) = eqb f g
  names_c f (not_c c) = names_c f c
  names_c f (all_c cs) = names_cs f cs
  names_c f (any_c cs) = names_cs f cs

  pub names_cs : ℕ → Conditions → Bool
  names_cs f cnil = false
  names_cs f (ccons c cs) = names_c f c || names_cs f cs
