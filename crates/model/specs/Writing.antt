-- Trees and records as words of 32 bits. Document 01, "What a call receives" and "Writing".
use Rattle.std.specs.Prelude.{Bool, true, ◌&&◌, List, [], ◌∷◌, ◌++◌, map, ℕ, suc, ◌+◌, ◌-◌, ◌/◌, ◌%◌, ◌^◌, zero, leb, length}
use Rattle.std.proofs.Math.Option.{Option, none, some}
use Rattle.model.specs.Fields.{above, pack}
use Rattle.model.specs.Facts.{Presence, absent, present, unknown, silent, fact_bits}
use Rattle.model.specs.Outcome.{outcome_bits}
use Rattle.model.specs.Condition.{Condition, always, never, has, not_c, all_c, any_c, Conditions, cnil, ccons}
use Rattle.model.specs.Decision.{Shape, forbidden, hidden, Decision, permits, denies}
use Rattle.model.specs.Policy.{Policy, permit, deny, grant, all, any, or_else, stored, Policies, pnil, pcons}
use Rattle.model.specs.Partial.{ReducedPolicy, resolved, pending}
use Rattle.model.specs.Consulted.{Entry}
use Rattle.model.specs.Record.{Record, tree}

-- Widths, in bits.
abbrev pub rest_bits : ℕ  -- a word but for its kind (4)
rest_bits = 28

abbrev pub count_bits : ℕ  -- a count of arms, of facts or of consulted entries
count_bits = 12

abbrev pub sheet_bits : ℕ  -- a sheet's number
sheet_bits = 16

abbrev pub mark_bits : ℕ  -- a label or a reason
mark_bits = 15

abbrev pub obligation_bits : ℕ  -- an obligation's field in a list, and a listed fact's or a consulted entry's
obligation_bits = 8

abbrev pub entry_bits : ℕ
entry_bits = 16

-- A word: its kind in the top four bits, and the rest.
abbrev pub word : ℕ → ℕ → ℕ
word kind rest = above rest_bits kind + rest

-- Shape: 0 Forbidden, 1 Hidden.
abbrev pub shape_bit : Shape → ℕ
shape_bit forbidden = 0
shape_bit hidden = 1

-- A label or reason: a present bit, then 15 bits; an absent one is 0.
abbrev pub marked : Option ℕ → ℕ
marked none = 0
marked (some n) = above mark_bits 1 + n

-- A consulted entry: presence (2; 3 is silence, request 9), zero (4), fact (10).
abbrev pub presence_field : Presence → ℕ
presence_field absent = 0
presence_field present = 1
presence_field unknown = 2
presence_field silent = 3

-- What an entry's presence stands for. A table's field is read by `presence`, which knows no silence.
abbrev pub seen_in : ℕ → Presence
seen_in zero = absent
seen_in (suc zero) = present
seen_in (suc (suc zero)) = unknown
seen_in (suc (suc (suc n))) = silent

abbrev pub entry_field : Entry → ℕ
entry_field e = above (4 + fact_bits) (presence_field e.seen) + e.fact

-- How many arms a list has.
abbrev pub count_c : Conditions → ℕ
count_c cnil = 0
count_c (ccons c cs) = suc (count_c cs)

abbrev pub count : {O : Type 0} → Policies O → ℕ
count pnil = 0
count (pcons t ts) = suc (count ts)

-- One tree in preorder. Conditions: 0 Always, 1 Never, 2 Has, 3 Not, 4 All, 5 Any.
abbrev mutual
  pub encode_c : Condition → List ℕ
  encode_c always = word 0 0 ∷ []
  encode_c never = word 1 0 ∷ []
  encode_c (has f) = word 2 f ∷ []
  encode_c (not_c c) = word 3 0 ∷ encode_c c
  encode_c (all_c cs) = word 4 (count_c cs) ∷ encode_cs cs
  encode_c (any_c cs) = word 5 (count_c cs) ∷ encode_cs cs

  pub encode_cs : Conditions → List ℕ
  encode_cs cnil = []
  encode_cs (ccons c cs) = encode_c c ++ encode_cs cs

module _ {O : Type 0} (number : O → ℕ) where
  -- Denied present (1), zero (10), outcome (16).
  abbrev pub denied_field : Option O → ℕ
  denied_field none = 0
  denied_field (some o) = above (10 + outcome_bits) 1 + number o

  -- 12 PermitWithTrace: kind, shape 0 (1), obligation count (7), zero (4), outcome (16); label (1, 15), zero (4), satisfied count (12);
  -- obligations, then facts.
  -- 13 DenyWithTrace: kind, shape (1), the denied outcome (27); label, reason (16 each); zero (20), unsatisfied count (12); facts.
  abbrev pub encode_d : Decision O → List ℕ
  encode_d (permits p) =
      word 12 (above (4 + outcome_bits) (length p.obligations) + number p.outcome)
      ∷ (above (4 + count_bits) (marked p.label) + length p.facts)
      ∷ (pack obligation_bits p.obligations ++ pack entry_bits p.facts)
  encode_d (denies d) =
      word 13 (above (1 + 10 + outcome_bits) (shape_bit d.shape) + denied_field d.denied)
      ∷ (above (1 + mark_bits) (marked d.label) + marked d.reason)
      ∷ length d.facts
      ∷ pack entry_bits d.facts

  -- 6 Permit, 7 Deny, 8 Grant, 9 All, 10 Any, 11 OrElse.
  -- 8 Grant: kind, shape (1), obligation count (7), zero (4), outcome (16); label, reason (16 each); obligations; one condition.
  abbrev mutual
    pub encode : Policy O → List ℕ
    encode (permit o) = word 6 (number o) ∷ []
    encode deny = word 7 0 ∷ []
    encode (grant g c) =
        word 8 (above (7 + 4 + outcome_bits) (shape_bit g.shape) + above (4 + outcome_bits) (length g.obligations) + number g.outcome)
        ∷ (above (1 + mark_bits) (marked g.label) + marked g.reason)
        ∷ (pack obligation_bits g.obligations ++ encode_c c)
    encode (all ts) = word 9 (count ts) ∷ encodes ts
    encode (any ts) = word 10 (count ts) ∷ encodes ts
    encode (or_else a b) = word 11 0 ∷ (encode a ++ encode b)
    encode (stored d) = encode_d d

    pub encodes : Policies O → List ℕ
    encodes pnil = []
    encodes (pcons t ts) = encode t ++ encodes ts

  -- 14 Resolved or 15 Pending: kind, the sheet's number (16), here 0, consulted count (12); the entries; one residual tree.
  abbrev pub lead_kind : ReducedPolicy O → ℕ
  lead_kind (resolved d) = 14
  lead_kind (pending t) = 15

  abbrev pub encode_r : Record O → List ℕ
  encode_r r = word (lead_kind r.body) (length r.log) ∷ (pack entry_bits (map entry_field r.log) ++ encode (tree r))

-- A record's words under its sheet's number, which stands in the lead between kind and count. Request 6.
abbrev pub numbered : ℕ → List ℕ → List ℕ
numbered n [] = []
numbered n (w ∷ ws) = word (w / 2 ^ rest_bits) (above count_bits n + w % 2 ^ count_bits) ∷ ws

-- No list of the tree is over what its count can say: 4,095 facts, 127 obligations.
abbrev pub most_listed : ℕ
most_listed = 2 ^ count_bits - 1

abbrev pub short_list : List ℕ → Bool
short_list fs = leb (length fs) most_listed

abbrev pub most_held : ℕ
most_held = 2 ^ 7 - 1

abbrev pub short_d : {O : Type 0} → Decision O → Bool
short_d (permits p) = short_list p.facts && leb (length p.obligations) most_held
short_d (denies d) = short_list d.facts

abbrev mutual
  pub short : {O : Type 0} → Policy O → Bool
  short (permit o) = true
  short deny = true
  short (grant g c) = true
  short (all ts) = shorts ts
  short (any ts) = shorts ts
  short (or_else a b) = short a && short b
  short (stored d) = short_d d

  pub shorts : {O : Type 0} → Policies O → Bool
  shorts pnil = true
  shorts (pcons t ts) = short t && shorts ts
