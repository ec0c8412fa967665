-- `windows::set_each` meets its contract. The loop's invariant: the windows that were yielded, the list's last, have set their facts where they are such.
-- Assumes nothing.
use Rattle.std.proofs.Common.{◌≡◌, ◌++◌, Bool}
use Rattle.std.specs.Slice.Iter.{iter_rest}
use Rattle.std.specs.Iterator.Adapters.{rev_source}
use Rattle.model.specs.Facts.{table_fields}
use Rattle.model.specs.Windows.{Window}
use Rattle.facts.specs.Answers.{presence_number}
use Rattle.windows.specs.declared.Window.{Window as Listed}
use Rattle.windows.specs.Setting.{window_meant}
use Rattle.windows.proofs.Parts.{yielded_last, SetBy}
use Rattle.windows.proofs.set_each.Given as goal

abbrev pub invariant-loop-words : goal.invariant-loop-words
invariant-loop-words g l =
    (iter_rest (rev_source l.words-iterator) ++ yielded_last l.yielded ≡ l.windows) ×
    ((f : Window → Bool) → ((w : Listed) (r : Bool) → goal.F-post g l.such w r → r ≡ f (window_meant w)) → SetBy f (presence_number l.value) (table_fields l.initial.out) (yielded_last l.yielded) (table_fields l.out))
