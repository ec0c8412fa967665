-- Runs of bits, most significant first, and fields of any width in them. Request 11.
-- A bit is a field of width 1: the bits of a field are `split 1`, and the number that bits say is `joined 1`.
use Rattle.std.specs.Prelude.{cond, List, [], ◌∷◌, ◌++◌, ℕ, leb, length, drop}
use Rattle.model.specs.Fields.{split, joined, packed, words_for}
use Rattle.model.specs.Reading.{Parsed, refuse, got, next}

-- The bits of a field; and a run of fields, each with its width.
abbrev pub bits_of : ℕ → ℕ → List ℕ
bits_of width v = split 1 width v

abbrev pub run : List ℕ → List ℕ → List ℕ
run [] vs = []
run (w ∷ ws) [] = []
run (w ∷ ws) (v ∷ vs) = bits_of w v ++ run ws vs

-- A run of bits as bytes, the last byte filled with 0 bits; and the bits of bytes.
abbrev pub bytes_of : List ℕ → List ℕ
bytes_of bs = packed 1 8 (words_for 8 (length bs)) bs

abbrev pub run_of : List ℕ → List ℕ
run_of [] = []
run_of (b ∷ bs) = bits_of 8 b ++ run_of bs

-- The next field of so many bits: 19 when the bits end before it is complete.
abbrev pub take_bits : ℕ → List ℕ → Parsed ℕ
take_bits width bs = cond (leb width (length bs)) (got (joined 1 width bs) (drop width bs)) (refuse 19)

abbrev pub take_run : List ℕ → List ℕ → Parsed (List ℕ)
take_run [] bs = got [] bs
take_run (w ∷ ws) bs = next (take_bits w bs) (λ v cs. next (take_run ws cs) (λ vs ds. got (v ∷ vs) ds))
