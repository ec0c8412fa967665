-- The bits from a place on, and what a check answers there.
use Rattle.std.specs.Prelude.{◌≡◌, cond, List, ℕ, ◌+◌, ◌≤◌, ◌<◌, ltb, length, drop, Result, Ok, Err}
use Rattle.model.specs.Bits.{run_of}
use Rattle.model.specs.Reading.{Parsed, refuse}
use Rattle.model.specs.Tight.{kind_bits}
use Rattle.policy_model.specs.Span.{arms_of}
use Rattle.bits.specs.Widths.{plain_width}
use Rattle.unpack.specs.Nodes.{lead_kind_of, plain_word}
use Rattle.unpack.specs.declared.Found.{Found}
use Rattle.unpack.specs.declared.Here.{Here}
use Rattle.unpack.specs.declared.Place.{Place}
use Rattle.unpack.specs.declared.Step.{Step}

-- All bits of the bytes, and those from bit `at` on.
abbrev pub whole : Here → List ℕ
whole h = run_of h.bytes.now

abbrev pub rest : Here → List ℕ
rest h = drop h.at (whole h)

-- What is found after so many bits, if they are there, and so many words.
abbrev pub after : Place → ℕ → ℕ → Result Found ℕ
after p width words = cond (ltb (length (rest p.here)) width) (Err 19) (Ok (record { at = p.here.at + width; words = p.words + words }))

-- The same as a step, where so many arms follow.
abbrev pub step_of : ℕ → Result Found ℕ → Result Step ℕ
step_of arms (Ok f) = Ok (record { found = f; arms = arms })
step_of arms (Err n) = Err n

-- A node without lists, from its first bits.
abbrev pub plain_length : ℕ → ℕ
plain_length lead = kind_bits + plain_width (lead_kind_of lead)

abbrev pub plain_step : Place → ℕ → Result Step ℕ
plain_step p lead = step_of (arms_of (plain_word lead)) (after p (plain_length lead) 1)

-- What a check of one node says, by what is asked of it and of its arms.
abbrev pub Steps : Place → ℕ → (ℕ → List ℕ → Parsed ℕ) → (ℕ → List ℕ → ℕ → Parsed ℕ) → Result Step ℕ → Type 0
Steps p depth one arms (Ok s) =
    (one p.words (rest p.here) ≡ arms s.found.words (drop s.found.at (whole p.here)) s.arms) × (s.found.at ≤ length (whole p.here)) × (p.here.at < s.found.at) × (s.found.words ≤ s.found.at) × (0 < depth)
Steps p depth one arms (Err n) = one p.words (rest p.here) ≡ refuse n
