-- Tallies: how many stored answers of a call were replayed and how many differ.
use Rattle.std.specs.Prelude.{Bool, true, false, cond, List, ℕ, zero, suc, ◌+◌, eqb, length, drop, Option, Some, None}
use Rattle.vectors.specs.declared.Call.{Call}
use Rattle.vectors.specs.declared.Tally.{Tally}
use Rattle.vectors.specs.Replies.{number_of}
use Rattle.vectors.specs.Stored.{number_in, whole_size, is_whole, agrees_in}

-- One more was replayed; the place of the first that differs stays.
abbrev pub first_of : Option ℕ → ℕ → Option ℕ
first_of (Some first) place = Some first
first_of None place = Some place

abbrev pub noted_in : Tally → Bool → ℕ → Tally
noted_in t true place = record { replayed = t.replayed + 1; differ = t.differ; first = t.first }
noted_in t false place = record { replayed = t.replayed + 1; differ = t.differ + 1; first = first_of t.first place }

-- The stored answer at the front, if it is one of the call.
unfoldable pub step_of : Call → List ℕ → ℕ → Tally → Tally
step_of call bs place t = cond (eqb (number_in bs 0) (number_of call)) (noted_in t (agrees_in call bs) place) t

-- All of them, one after the other, while they are whole.
unfoldable pub tally_from : ℕ → Call → List ℕ → ℕ → Tally → Tally
tally_from zero call bs place t = t
tally_from (suc n) call bs place t = cond (is_whole bs) (tally_from n call (drop (whole_size bs) bs) (place + 1) (step_of call bs place t)) t

abbrev pub tally_of : Call → List ℕ → Tally
tally_of call bs = tally_from (length bs) call bs 1 (record { replayed = 0; differ = 0; first = None })
