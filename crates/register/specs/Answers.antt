-- What the code's values stand for: the entry that is meant, and the call's answer, to which the model gives a number and a value.
use Rattle.std.proofs.Math.Option.{Option as Maybe, none, some}
use Rattle.std.specs.Prelude.{List, ℕ, ◌+◌, get_or, Option, Some, None, Result, Ok, Err}
use Rattle.model.specs.Register as model
use Rattle.refusal.specs.declared.Refusal.{Refusal}
use Rattle.refusal.specs.Numbers.{number_of}
use Rattle.register.specs.declared.Entry.{Entry}

abbrev pub entry_meant : Entry → model.Entry
entry_meant e =
    record {
      group = e.group;
      withdrawn = e.withdrawn;
      zero = e.zero;
      number = e.number;
      day = e.day;
    }

-- The entry of its two words.
abbrev pub entry_in : List ℕ → model.Entry
entry_in ws = model.entry_of (get_or ws 0 0) (get_or ws 1 0)

-- The entry whose words stand at a place.
abbrev pub entry_at : List ℕ → ℕ → model.Entry
entry_at ws at = model.entry_of (get_or ws at 0) (get_or ws (at + 1) 0)

abbrev pub latest_of : Option Entry → Maybe model.Entry
latest_of (Some e) = some (entry_meant e)
latest_of None = none

abbrev pub in_force_of : Result (Option ℕ) Refusal → model.InForce
in_force_of (Ok (Some n)) = model.sheet n
in_force_of (Ok None) = model.no_sheet
in_force_of (Err e) = model.refusal (number_of e)
