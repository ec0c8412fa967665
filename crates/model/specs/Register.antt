-- The register of sheets: which sheet is in force for a group on a day. Request 5.
use Rattle.std.specs.Prelude.{Bool, true, false, cond, not, ◌&&◌, ◌||◌, List, [], ◌∷◌, ℕ, ◌+◌, ◌/◌, ◌%◌, ◌^◌, eqb, ltb, leb, length}
use Rattle.std.proofs.Math.Option.{Option, none, some}
use Rattle.model.specs.Fields.{bits}
use Rattle.model.specs.Writing.{sheet_bits}

-- ---- an entry: group (8), withdrawn (1), zero (7), sheet number (16); then effective day (32), days since 1900-01-01
abbrev pub zero_bits : ℕ
zero_bits = 7

pub record Entry : Type 0 where
  pub group : ℕ
  pub withdrawn : Bool
  pub zero : ℕ
  pub number : ℕ
  pub day : ℕ

abbrev pub entry_of : ℕ → ℕ → Entry
entry_of lead day =
    record {
      group = lead / 2 ^ (1 + zero_bits + sheet_bits);
      withdrawn = eqb (bits (zero_bits + sheet_bits) 1 lead) 1;
      zero = bits sheet_bits zero_bits lead;
      number = lead % 2 ^ sheet_bits;
      day = day;
    }

-- Two words an entry; an odd word at the end is none.
abbrev pub entries_of : List ℕ → List Entry
entries_of [] = []
entries_of (lead ∷ []) = []
entries_of (lead ∷ day ∷ ws) = entry_of lead day ∷ entries_of ws

-- ---- a register: an even word count up to 512, every zero field 0, and no group and number twice
abbrev pub register_words : ℕ
register_words = 512

abbrev pub same_sheet : Entry → Entry → Bool
same_sheet a b = eqb a.group b.group && eqb a.number b.number

abbrev pub is_among : Entry → List Entry → Bool
is_among e [] = false
is_among e (a ∷ es) = same_sheet a e || is_among e es

abbrev pub faultless : List Entry → Bool
faultless [] = true
faultless (e ∷ es) = eqb e.zero 0 && not (is_among e es) && faultless es

abbrev pub is_register : List ℕ → Bool
is_register ws = eqb (length ws % 2) 0 && leb (length ws) register_words && faultless (entries_of ws)

-- ---- the entry in force: of the group, not withdrawn, its effective day not after that day, and the latest such;
-- on equal days the greater sheet number supersedes
abbrev pub qualifies : ℕ → ℕ → Entry → Bool
qualifies group day e = eqb e.group group && not e.withdrawn && leb e.day day

abbrev pub supersedes : Entry → Entry → Bool
supersedes b a = ltb a.day b.day || (eqb a.day b.day && ltb a.number b.number)

abbrev pub later : Option Entry → Entry → Option Entry
later none b = some b
later (some a) b = some (cond (supersedes b a) b a)

abbrev pub in_force_from : ℕ → ℕ → Option Entry → List Entry → Option Entry
in_force_from group day best [] = best
in_force_from group day best (e ∷ es) = in_force_from group day (cond (qualifies group day e) (later best e) best) es

abbrev pub in_force : ℕ → ℕ → List Entry → Option Entry
in_force group day es = in_force_from group day none es

-- ---- the call: 15 for what is no register, before any search; else the sheet number of the entry in force, or none
pub data InForce : Type 0 where
  refusal : ℕ → InForce
  sheet : ℕ → InForce
  no_sheet : InForce

abbrev pub sheet_of : Option Entry → InForce
sheet_of none = no_sheet
sheet_of (some e) = sheet e.number

abbrev pub sheet_in_force : List ℕ → ℕ → ℕ → InForce
sheet_in_force register group day = cond (is_register register) (sheet_of (in_force group day (entries_of register))) (refusal 15)

-- The number of the refusal or 0; and the value: the sheet's number, or for none the number after the last that a sheet can have.
abbrev pub number_of : InForce → ℕ
number_of (refusal n) = n
number_of (sheet n) = 0
number_of no_sheet = 0

abbrev pub value_of : InForce → ℕ
value_of (refusal n) = 0
value_of (sheet n) = n
value_of no_sheet = 2 ^ sheet_bits
