-- The numbers of the causes: document 01, "How a request is turned back", and the requests after it.
use Rattle.std.specs.Prelude.{ℕ, Result, Ok, Err}
use Rattle.std.proofs.Math.Option.{Option, none, some}
use Rattle.refusal.specs.declared.Refusal.{Refusal}
use Rattle.refusal.specs.declared.Refusal.TheVariants as refusal

abbrev pub number_of : Refusal → ℕ
number_of refusal.Length = 1
number_of refusal.TableLength = 2
number_of refusal.TableField = 3
number_of refusal.UnknownFact = 4
number_of refusal.Kind = 5
number_of refusal.WordsEnd = 6
number_of refusal.Level = 7
number_of refusal.Field = 8
number_of refusal.WordsAfterTree = 10
number_of refusal.Room = 11
number_of refusal.Date = 12
number_of refusal.Windows = 13
number_of refusal.Clash = 14
number_of refusal.Register = 15
number_of refusal.SheetNumber = 16
number_of refusal.Contradiction = 17
number_of refusal.Allowance = 18
number_of refusal.BitsEnd = 19
number_of refusal.Filler = 20
number_of refusal.OutcomeTable = 21

-- An answer with its refusal as a number.
abbrev pub by_number : {A : Type 0} → Result A Refusal → Result A ℕ
by_number (Ok a) = Ok a
by_number (Err e) = Err (number_of e)

-- The number of the refusal, if there is one.
abbrev pub refused : {A : Type 0} → Result A Refusal → Option ℕ
refused (Ok a) = none
refused (Err e) = some (number_of e)
