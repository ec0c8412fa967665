-- What the writers are given, as the definitions have it, and the words of each node by its parts. Document 01, "What a call receives".
use Rattle.std.specs.Prelude.{cond, List, [], ◌∷◌, ◌++◌, ℕ, ◌+◌, ◌%◌, ◌^◌, leb, length}
use Rattle.std.specs.Prelude as prelude
use Rattle.std.proofs.Math.Option.{Option, none, some}
use Rattle.model.specs.Fields.{above, pack}
use Rattle.model.specs.Outcome.{outcome_bits}
use Rattle.model.specs.Decision.{Decision, Denial, permits}
use Rattle.model.specs.Writing.{count_bits, mark_bits, entry_bits, word, shape_bit, marked}
use Rattle.model.specs.Reading.{shape_of}
use Rattle.model.specs.Products.{Outcome, denied_field, encode_d}
use Rattle.policy_model.specs.declared.Status.{Status}
use Rattle.policy_model.specs.declared.Status.TheVariants.{Resolved, Pending}
use Rattle.policy_model.specs.Heads.{bit_of, denied_by}
use Rattle.record.specs.declared.Clause.{Clause}

-- A label or a reason: if present, fifteen bits.
abbrev pub mark_of : prelude.Option ℕ → Option ℕ
mark_of prelude.None = none
mark_of (prelude.Some n) = some (n % 2 ^ mark_bits)

-- What 16 bits say of one: present (1), then 15 bits.
abbrev pub mark_in : ℕ → Option ℕ
mark_in half = cond (leb (2 ^ mark_bits) half) (some (half % 2 ^ mark_bits)) none

abbrev pub permit_of : ℕ → prelude.Option ℕ → List ℕ → List ℕ → Decision Outcome
permit_of outcome label os fs = permits (record { outcome = outcome; obligations = os; label = mark_of label; facts = fs })

-- The clause with these facts.
abbrev pub denial_of : Clause → List ℕ → Denial Outcome
denial_of c fs = record { denied = denied_by c.denied; facts = fs; label = mark_of c.label; reason = mark_of c.reason; shape = shape_of (bit_of c.shape) }

-- A decision's words.
abbrev pub decision_words : Decision Outcome → List ℕ
decision_words d = encode_d d

-- 12 PermitWithTrace: its first two words, with n obligations and m facts.
abbrev pub permit_front : ℕ → ℕ → prelude.Option ℕ → ℕ → List ℕ
permit_front outcome n label m = word 12 (above (4 + outcome_bits) n + outcome) ∷ (above (4 + count_bits) (marked (mark_of label)) + m) ∷ []

-- 13 DenyWithTrace: its first three words, with m facts.
abbrev pub deny_front : Clause → ℕ → List ℕ
deny_front c m =
    word 13 (above (1 + 10 + outcome_bits) (shape_bit (shape_of (bit_of c.shape))) + denied_field (denied_by c.denied))
    ∷ (above (1 + mark_bits) (marked (mark_of c.label)) + marked (mark_of c.reason))
    ∷ m
    ∷ []

-- The lead of a record: 14 Resolved, 15 Pending; and its front, the lead and the consulted entries.
abbrev pub lead_of : Status → ℕ
lead_of Resolved = 14
lead_of Pending = 15

abbrev pub front_words : Status → List ℕ → List ℕ
front_words status es = word (lead_of status) (length es) ∷ pack entry_bits es
