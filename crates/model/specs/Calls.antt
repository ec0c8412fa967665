-- The calls over words, bytes and an output. Document 01, "How a request is turned back", and requests 6 and 7.
-- Order of the causes: 1, 2, the table's fields (3 or 4), the words from the first (5 to 8), 10, the sheet's number (16), a reading that
-- contradicts the record (17), then 11.
use Rattle.std.specs.Prelude.{Bool, true, false, cond, ◌&&◌, List, ◌++◌, ℕ, ◌^◌, eqb, ltb, leb, length, drop}
use Rattle.std.proofs.Math.Option.{Option, none, some}
use Rattle.model.specs.Facts.{table_of, partial_facts, known_facts, table_fault}
use Rattle.model.specs.Outcome.{Outcomes}
use Rattle.model.specs.Partial.{Order}
use Rattle.model.specs.Consulted.{any_contradicted}
use Rattle.model.specs.Record.{Record, tree, evaluated, reduced, narrowed, completed}
use Rattle.model.specs.Writing.{sheet_bits, encode_r, numbered, short}
use Rattle.model.specs.Reading.{Parsed, refuse, got, sheet_length, record_length, sheet_number, read_sheet, read_record}

-- A refusal's number, or the words written.
pub data Answer : Type 0 where
  refusal : ℕ → Answer
  wrote : List ℕ → Answer

-- What is returned: the number (0 when accepted) and how many words were written (0 when refused).
abbrev pub number_of : Answer → ℕ
number_of (refusal n) = n
number_of (wrote ws) = 0

abbrev pub written_of : Answer → ℕ
written_of (refusal n) = 0
written_of (wrote ws) = length ws

-- The output afterwards: refused, as it was; accepted, the words written and then what stood there.
abbrev pub afterwards : Answer → List ℕ → List ℕ
afterwards (refusal n) out = out
afterwards (wrote ws) out = ws ++ drop (length ws) out

-- ---- steps of a call
abbrev pub unless_long : Bool → Answer → Answer
unless_long true a = a
unless_long false a = refusal 1

abbrev pub unless_fault : Option ℕ → Answer → Answer
unless_fault none a = a
unless_fault (some n) a = refusal n

abbrev pub on_read : {A : Type 0} → Parsed A → (A → Answer) → Answer
on_read (refuse n) k = refusal n
on_read (got a ws) k = k a

-- 16 when the number that is given is not the record's: of a record that was read, or of the one to be written, whose lead must be able to say it.
abbrev pub unless_other : Bool → Answer → Answer
unless_other true a = a
unless_other false a = refusal 16

abbrev pub has_number : List ℕ → ℕ → Bool
has_number rec number = eqb (sheet_number rec) number

abbrev pub is_sheet_number : ℕ → Bool
is_sheet_number number = ltb number (2 ^ sheet_bits)

-- 17 when the table contradicts an entry of the record.
abbrev pub unless_contradicted : Bool → Answer → Answer
unless_contradicted false a = a
unless_contradicted true a = refusal 17

-- What is written carries the number.
abbrev pub under : ℕ → Answer → Answer
under number (refusal n) = refusal n
under number (wrote ws) = wrote (numbered number ws)

module _ (L : Outcomes) where
  -- 11 when the resulting record is longer than the output or 16,384 words, or a list in it is over what its count can say: 4,095 facts, 127 obligations.
  abbrev pub fits : ℕ → Record L.O → Bool
  fits room r = leb (length (encode_r L.number r)) room && record_length (encode_r L.number r) && short (tree r)

  abbrev pub write : ℕ → Record L.O → Answer
  write room r = cond (fits room r) (wrote (encode_r L.number r)) (refusal 11)

  -- ---- the calls: the sheet's number, words, table bytes, and the room of the output in words. Reduction and narrowing by permits first are the calls of
  -- document 01, in sheet order those of request 8.
  abbrev pub evaluate : ℕ → List ℕ → List ℕ → ℕ → Answer
  evaluate number sheet facts room =
      unless_long (sheet_length sheet) (unless_fault (table_fault known_facts facts)
      (on_read (read_sheet L.value sheet) (λ t. unless_other (is_sheet_number number) (under number (write room (evaluated L (table_of facts) t))))))

  abbrev pub partial_evaluate : Order → ℕ → List ℕ → List ℕ → ℕ → Answer
  partial_evaluate o number sheet facts room =
      unless_long (sheet_length sheet) (unless_fault (table_fault partial_facts facts)
      (on_read (read_sheet L.value sheet) (λ t. unless_other (is_sheet_number number) (under number (write room (reduced L o (table_of facts) t))))))

  abbrev pub narrow_residual : Order → ℕ → List ℕ → List ℕ → ℕ → Answer
  narrow_residual o number rec facts room =
      unless_long (record_length rec) (unless_fault (table_fault partial_facts facts)
      (on_read (read_record L.value rec) (λ r. unless_other (has_number rec number)
      (unless_contradicted (any_contradicted (table_of facts) r.log) (under number (write room (narrowed L o (table_of facts) r)))))))

  abbrev pub complete_residual : ℕ → List ℕ → List ℕ → ℕ → Answer
  complete_residual number rec facts room =
      unless_long (record_length rec) (unless_fault (table_fault known_facts facts)
      (on_read (read_record L.value rec) (λ r. unless_other (has_number rec number) (under number (write room (completed L (table_of facts) r))))))
