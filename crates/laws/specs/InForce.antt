-- What the entry in force is, said of any list of entries: it stands in the list, it qualifies, and every entry that qualifies comes no later; and what
-- the call's answer tells of its words. Request 5.
use Rattle.std.specs.Prelude.{◌≡◌, ◌⊎◌, true, false, List, [], ◌∷◌, ℕ, ◌≤◌, ◌<◌}
use Rattle.std.proofs.Math.Option.{Option, none, some}
use Rattle.model.specs.Register.{Entry, entries_of, is_register, qualifies, InForce, refusal, sheet, no_sheet, value_of}

-- e stands in the list.
abbrev pub IsIn : Entry → List Entry → Type 0
IsIn e [] = ⊥
IsIn e (a ∷ es) = (e ≡ a) ⊎ IsIn e es

-- a comes no later than b: by day, and on equal days by number.
pub record NoLater (a b : Entry) : Type 0 where
  pub days : a.day ≤ b.day
  pub numbers : a.day ≡ b.day → a.number ≤ b.number

module _ (group day : ℕ) where
  pub record Latest (es : List Entry) (b : Entry) : Type 0 where
    pub listed : IsIn b es
    pub qualified : qualifies group day b ≡ true
    pub latest : (e : Entry) → IsIn e es → qualifies group day e ≡ true → NoLater e b

  pub record NoneOf (es : List Entry) : Type 0 where
    pub none_qualifies : (e : Entry) → IsIn e es → qualifies group day e ≡ false

  -- The entry found, or none: one of the two holds of every list.
  abbrev pub Found : List Entry → Option Entry → Type 0
  Found es none = NoneOf es
  Found es (some b) = Latest es b

-- Two lists with the same entries, in whatever order.
pub record SameEntries (es fs : List Entry) : Type 0 where
  pub to : (e : Entry) → IsIn e es → IsIn e fs
  pub from : (e : Entry) → IsIn e fs → IsIn e es

-- ---- what the call's answer tells: a refusal is 15, for what is no register; else the words are one, and the answer is the number of the latest entry
-- that qualifies, never the number that says none, or none and no entry qualifies
module _ (ws : List ℕ) (group day : ℕ) where
  pub record SheetTold (n : ℕ) : Type 0 where
    pub register : is_register ws ≡ true
    pub it : Entry
    pub in_force : Latest group day (entries_of ws) it
    pub numbered : it.number ≡ n
    pub below : n < value_of no_sheet

  abbrev pub Told : InForce → Type 0
  Told (refusal n) = (n ≡ 15) × (is_register ws ≡ false)
  Told (sheet n) = SheetTold n
  Told no_sheet = (is_register ws ≡ true) × NoneOf group day (entries_of ws)
