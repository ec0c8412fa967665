-- Where nodes 12 and 13 may not stand: what a list and an OrElse ask of their parts, and what the parts give. Assumes nothing.
use Rattle.std.specs.Prelude.{Bool, true, false}
use Rattle.model.specs.Policy.{Policy, all, any, or_else, Policies, pnil, pcons}
use Rattle.laws.specs.Size.{IsSheet, SheetIf, SheetsIf}

pub nil_if : (O : Type 0) (res : Bool) → SheetsIf {O = O} res pnil
nil_if O true = tt
nil_if O false = tt

module _ {O : Type 0} where
  -- ---- of the parts
  pub arms_if_all : (res : Bool) (ts : Policies O) → SheetIf res (all ts) → SheetsIf res ts
  arms_if_all true ts s = tt
  arms_if_all false ts s = s

  pub arms_if_any : (res : Bool) (ts : Policies O) → SheetIf res (any ts) → SheetsIf res ts
  arms_if_any true ts s = tt
  arms_if_any false ts s = s

  pub primary_if : (res : Bool) (a b : Policy O) → SheetIf res (or_else a b) → SheetIf res a
  primary_if true a b s = tt
  primary_if false a b s = s.0

  pub fallback_if : (res : Bool) (a b : Policy O) → SheetIf res (or_else a b) → SheetIf res b
  fallback_if true a b s = tt
  fallback_if false a b s = s.1

  pub first_if : (res : Bool) (t : Policy O) (ts : Policies O) → SheetsIf res (pcons t ts) → SheetIf res t
  first_if true t ts s = tt
  first_if false t ts s = s.0

  pub rest_if : (res : Bool) (t : Policy O) (ts : Policies O) → SheetsIf res (pcons t ts) → SheetsIf res ts
  rest_if true t ts s = tt
  rest_if false t ts s = s.1

  -- ---- from the parts
  pub sheet_if : (res : Bool) (t : Policy O) → IsSheet t → SheetIf res t
  sheet_if true t h = tt
  sheet_if false t h = h

  pub cons_if : (res : Bool) (t : Policy O) (ts : Policies O) → SheetIf res t → SheetsIf res ts → SheetsIf res (pcons t ts)
  cons_if true t ts h k = tt
  cons_if false t ts h k = (h, k)

  pub all_if : (res : Bool) (ts : Policies O) → SheetsIf res ts → SheetIf res (all ts)
  all_if true ts h = tt
  all_if false ts h = h

  pub any_if : (res : Bool) (ts : Policies O) → SheetsIf res ts → SheetIf res (any ts)
  any_if true ts h = tt
  any_if false ts h = h

  pub else_if : (res : Bool) (a b : Policy O) → SheetIf res a → SheetIf res b → SheetIf res (or_else a b)
  else_if true a b h k = tt
  else_if false a b h k = (h, k)
