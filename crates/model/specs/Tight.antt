-- The tight form: every field of a sheet or record in order, without zero fields, as one run of bits. Request 11.
use Rattle.std.specs.Prelude.{Bool, true, false, cond, ◌&&◌, List, [], ◌∷◌, ◌++◌, ℕ, zero, suc, ◌-◌, eqb, ltb, leb, length, replicate}
use Rattle.std.proofs.Math.Option.{Option, none, some}
use Rattle.model.specs.Facts.{fact_bits}
use Rattle.model.specs.Outcome.{Outcomes, outcome_bits}
use Rattle.model.specs.Condition.{Condition, always, never, has, not_c, all_c, any_c, Conditions, cnil, ccons}
use Rattle.model.specs.Decision.{Permit, Denial, Decision, permits, denies}
use Rattle.model.specs.Policy.{Grant, Policy, permit, deny, grant, all, any, or_else, stored, Policies, pnil, pcons}
use Rattle.model.specs.Partial.{ReducedPolicy, pending}
use Rattle.model.specs.Consulted.{Consulted}
use Rattle.model.specs.Record.{Record, tree}
use Rattle.model.specs.Writing.{count_bits, sheet_bits, mark_bits, shape_bit, presence_field, seen_in, count_c, count, encode, encode_r, numbered, lead_kind}
use Rattle.model.specs.Reading.{Parsed, refuse, got, next, unless, by_kind, many, levels, sheet_words, record_words, sheet_number, last_kind, few_obligations, shape_of, outcome_of, in_residual, as_stored, as_resolved, read_sheet, read_record}
use Rattle.model.specs.Calls.{Answer, refusal, wrote, unless_long, on_read}
use Rattle.model.specs.Bits.{bits_of, run, bytes_of, run_of, take_bits, take_run}

-- Widths, in bits: a kind, a count of obligations, an obligation, the presence of a consulted entry.
abbrev pub kind_bits : ℕ
kind_bits = 4

abbrev pub obligation_count_bits : ℕ
obligation_count_bits = 7

abbrev pub obligation_tight_bits : ℕ
obligation_tight_bits = 6

abbrev pub presence_bits : ℕ
presence_bits = 2

-- A present bit, and the value only if it is there.
abbrev pub optional : ℕ → Option ℕ → List ℕ
optional width none = bits_of 1 0
optional width (some v) = bits_of 1 1 ++ bits_of width v

-- A list of fields of one width.
abbrev pub each : ℕ → List ℕ → List ℕ
each width vs = run (replicate (length vs) width) vs

abbrev mutual
  pub tight_c : Condition → List ℕ
  tight_c always = bits_of kind_bits 0
  tight_c never = bits_of kind_bits 1
  tight_c (has f) = bits_of kind_bits 2 ++ bits_of fact_bits f
  tight_c (not_c c) = bits_of kind_bits 3 ++ tight_c c
  tight_c (all_c cs) = bits_of kind_bits 4 ++ (bits_of count_bits (count_c cs) ++ tight_cs cs)
  tight_c (any_c cs) = bits_of kind_bits 5 ++ (bits_of count_bits (count_c cs) ++ tight_cs cs)

  pub tight_cs : Conditions → List ℕ
  tight_cs cnil = []
  tight_cs (ccons c cs) = tight_c c ++ tight_cs cs

abbrev pub numbers_of : {O : Type 0} → (O → ℕ) → Option O → Option ℕ
numbers_of number none = none
numbers_of number (some o) = some (number o)

-- A consulted entry: presence (2), fact (10).
abbrev pub tight_e : Consulted → List ℕ
tight_e [] = []
tight_e (e ∷ es) = bits_of presence_bits (presence_field e.seen) ++ (bits_of fact_bits e.fact ++ tight_e es)

module _ {O : Type 0} (number : O → ℕ) where
  -- What follows the kind of an 8, a 12 and a 13. A 12 node has no shape bit.
  abbrev pub after8 : Grant O → List ℕ → List ℕ
  after8 g condition =
      bits_of 1 (shape_bit g.shape) ++ (bits_of obligation_count_bits (length g.obligations) ++ (bits_of outcome_bits (number g.outcome)
      ++ (optional mark_bits g.label ++ (optional mark_bits g.reason ++ (each obligation_tight_bits g.obligations ++ condition)))))

  abbrev pub after12 : Permit O → List ℕ
  after12 p =
      bits_of obligation_count_bits (length p.obligations) ++ (bits_of outcome_bits (number p.outcome) ++ (optional mark_bits p.label
      ++ (bits_of count_bits (length p.facts) ++ (each obligation_tight_bits p.obligations ++ each fact_bits p.facts))))

  abbrev pub after13 : Denial O → List ℕ
  after13 d =
      bits_of 1 (shape_bit d.shape) ++ (optional outcome_bits (numbers_of number d.denied) ++ (optional mark_bits d.label
      ++ (optional mark_bits d.reason ++ (bits_of count_bits (length d.facts) ++ each fact_bits d.facts))))

  abbrev pub tight_d : Decision O → List ℕ
  tight_d (permits p) = bits_of kind_bits 12 ++ after12 p
  tight_d (denies d) = bits_of kind_bits 13 ++ after13 d

  abbrev mutual
    pub tight : Policy O → List ℕ
    tight (permit o) = bits_of kind_bits 6 ++ bits_of outcome_bits (number o)
    tight deny = bits_of kind_bits 7
    tight (grant g c) = bits_of kind_bits 8 ++ after8 g (tight_c c)
    tight (all ts) = bits_of kind_bits 9 ++ (bits_of count_bits (count ts) ++ tights ts)
    tight (any ts) = bits_of kind_bits 10 ++ (bits_of count_bits (count ts) ++ tights ts)
    tight (or_else a b) = bits_of kind_bits 11 ++ (tight a ++ tight b)
    tight (stored d) = tight_d d

    pub tights : Policies O → List ℕ
    tights pnil = []
    tights (pcons t ts) = tight t ++ tights ts

  -- The lead: kind, sheet number (16), consulted count (12); the entries; one residual tree.
  abbrev pub tight_r : ℕ → Record O → List ℕ
  tight_r sheet r =
      bits_of kind_bits (lead_kind number r.body) ++ (bits_of sheet_bits sheet ++ (bits_of count_bits (length r.log) ++ (tight_e r.log ++ tight (tree r))))

-- ---- reading: field by field, 19 when the bits end before it, then the check of its own value
abbrev pub take_optional : ℕ → List ℕ → Parsed (Option ℕ)
take_optional width bs = next (take_bits 1 bs) (λ here cs. cond (eqb here 0) (got none cs) (next (take_bits width cs) (λ v ds. got (some v) ds)))

abbrev pub take_each : ℕ → ℕ → List ℕ → Parsed (List ℕ)
take_each width n bs = take_run (replicate n width) bs

abbrev pub take_entries : ℕ → List ℕ → Parsed Consulted
take_entries zero bs = got [] bs
take_entries (suc n) bs =
    next (take_bits presence_bits bs) (λ p cs.
    next (take_bits fact_bits cs) (λ f ds.
    next (take_entries n ds) (λ es us. got (record { fact = f; seen = seen_in p } ∷ es) us)))

-- A record and the number of its sheet.
pub record UnderNumber (O : Type 0) : Type 0 where
  pub sheet : ℕ
  pub held : Record O

-- By kind: 0 Always, 1 Never, 2 Has, 3 Not, 4 All, 5 Any.
abbrev pub fields_c : (List ℕ → Parsed Condition) → ℕ → List ℕ → Parsed Condition
fields_c p k bs =
    by_kind
    (got always bs
    ∷ got never bs
    ∷ next (take_bits fact_bits bs) (λ f cs. got (has f) cs)
    ∷ next (p bs) (λ c cs. got (not_c c) cs)
    ∷ next (take_bits count_bits bs) (λ n cs. next (many cnil ccons p n cs) (λ xs ds. got (all_c xs) ds))
    ∷ next (take_bits count_bits bs) (λ n cs. next (many cnil ccons p n cs) (λ xs ds. got (any_c xs) ds))
    ∷ [])
    k

-- With so many levels left: kind (19, then 5), level (7), its fields.
abbrev pub loose_c : ℕ → List ℕ → Parsed Condition
loose_c zero bs = next (take_bits kind_bits bs) (λ k cs. unless (ltb k 6) 5 (refuse 7))
loose_c (suc d) bs = next (take_bits kind_bits bs) (λ k cs. fields_c (λ ds. loose_c d ds) k cs)

module _ {O : Type 0} (value : ℕ → Option O) where
  abbrev pub denied_in : {A : Type 0} → Option ℕ → (Option O → Parsed A) → Parsed A
  denied_in none k = k none
  denied_in (some v) k = outcome_of value (value v) (λ o. k (some o))

  -- 8 Grant: shape, obligation count (over 64: 8), outcome, label, reason, obligations, condition. A stage for each field, after what was read before it.
  module _ (p : List ℕ → Parsed Condition) where
    abbrev pub obligations8 : ℕ → O → Option ℕ → Option ℕ → List ℕ → List ℕ → Parsed (Policy O)
    obligations8 sh o l m os bs = next (p bs) (λ c cs. got (grant (record { outcome = o; obligations = os; label = l; reason = m; shape = shape_of sh }) c) cs)

    abbrev pub reason8 : ℕ → ℕ → O → Option ℕ → Option ℕ → List ℕ → Parsed (Policy O)
    reason8 sh n o l m bs = next (take_each obligation_tight_bits n bs) (obligations8 sh o l m)

    abbrev pub label8 : ℕ → ℕ → O → Option ℕ → List ℕ → Parsed (Policy O)
    label8 sh n o l bs = next (take_optional mark_bits bs) (reason8 sh n o l)

    abbrev pub outcome8 : ℕ → ℕ → ℕ → List ℕ → Parsed (Policy O)
    outcome8 sh n v bs = outcome_of value (value v) (λ o. next (take_optional mark_bits bs) (label8 sh n o))

    abbrev pub counted8 : ℕ → ℕ → List ℕ → Parsed (Policy O)
    counted8 sh n bs = unless (few_obligations n) 8 (next (take_bits outcome_bits bs) (outcome8 sh n))

    abbrev pub shape8 : ℕ → List ℕ → Parsed (Policy O)
    shape8 sh bs = next (take_bits obligation_count_bits bs) (counted8 sh)

    abbrev pub fields8 : List ℕ → Parsed (Policy O)
    fields8 bs = next (take_bits 1 bs) shape8

  -- 12: obligation count, outcome, label, count of facts, obligations, facts. A stage for each field, after what was read before it.
  abbrev pub facts12 : O → Option ℕ → List ℕ → List ℕ → List ℕ → Parsed (Decision O)
  facts12 o l os fs bs = got (permits (record { outcome = o; obligations = os; label = l; facts = fs })) bs

  abbrev pub obligations12 : O → Option ℕ → ℕ → List ℕ → List ℕ → Parsed (Decision O)
  obligations12 o l m os bs = next (take_each fact_bits m bs) (facts12 o l os)

  abbrev pub count12 : ℕ → O → Option ℕ → ℕ → List ℕ → Parsed (Decision O)
  count12 n o l m bs = next (take_each obligation_tight_bits n bs) (obligations12 o l m)

  abbrev pub label12 : ℕ → O → Option ℕ → List ℕ → Parsed (Decision O)
  label12 n o l bs = next (take_bits count_bits bs) (count12 n o l)

  abbrev pub outcome12 : ℕ → ℕ → List ℕ → Parsed (Decision O)
  outcome12 n v bs = outcome_of value (value v) (λ o. next (take_optional mark_bits bs) (label12 n o))

  abbrev pub counted12 : ℕ → List ℕ → Parsed (Decision O)
  counted12 n bs = next (take_bits outcome_bits bs) (outcome12 n)

  abbrev pub fields12 : List ℕ → Parsed (Decision O)
  fields12 bs = next (take_bits obligation_count_bits bs) counted12

  -- 13: shape, denied outcome, label, reason, count of facts, facts.
  abbrev pub facts13 : ℕ → Option O → Option ℕ → Option ℕ → List ℕ → List ℕ → Parsed (Decision O)
  facts13 sh den l m fs bs = got (denies (record { denied = den; facts = fs; label = l; reason = m; shape = shape_of sh })) bs

  abbrev pub count13 : ℕ → Option O → Option ℕ → Option ℕ → ℕ → List ℕ → Parsed (Decision O)
  count13 sh den l m n bs = next (take_each fact_bits n bs) (facts13 sh den l m)

  abbrev pub reason13 : ℕ → Option O → Option ℕ → Option ℕ → List ℕ → Parsed (Decision O)
  reason13 sh den l m bs = next (take_bits count_bits bs) (count13 sh den l m)

  abbrev pub label13 : ℕ → Option O → Option ℕ → List ℕ → Parsed (Decision O)
  label13 sh den l bs = next (take_optional mark_bits bs) (reason13 sh den l)

  abbrev pub denied13 : ℕ → Option ℕ → List ℕ → Parsed (Decision O)
  denied13 sh here bs = denied_in here (λ den. next (take_optional mark_bits bs) (label13 sh den))

  abbrev pub shape13 : ℕ → List ℕ → Parsed (Decision O)
  shape13 sh bs = next (take_optional outcome_bits bs) (denied13 sh)

  abbrev pub fields13 : List ℕ → Parsed (Decision O)
  fields13 bs = next (take_bits 1 bs) shape13

  abbrev pub fields_p : Bool → (List ℕ → Parsed Condition) → (List ℕ → Parsed (Policy O)) → ℕ → List ℕ → Parsed (Policy O)
  fields_p res pc p k bs =
      by_kind
      (next (take_bits outcome_bits bs) (λ v cs. outcome_of value (value v) (λ o. got (permit o) cs))
      ∷ got deny bs
      ∷ fields8 pc bs
      ∷ next (take_bits count_bits bs) (λ n cs. next (many pnil pcons p n cs) (λ ts ds. got (all ts) ds))
      ∷ next (take_bits count_bits bs) (λ n cs. next (many pnil pcons p n cs) (λ ts ds. got (any ts) ds))
      ∷ next (p bs) (λ a cs. next (p cs) (λ b ds. got (or_else a b) ds))
      ∷ in_residual value res (as_stored value (fields12 bs))
      ∷ in_residual value res (as_stored value (fields13 bs))
      ∷ [])
      k

  abbrev pub loose : Bool → ℕ → List ℕ → Parsed (Policy O)
  loose res zero bs = next (take_bits kind_bits bs) (λ k cs. unless (leb 6 k && leb k (last_kind value res)) 5 (refuse 7))
  loose res (suc d) bs = next (take_bits kind_bits bs) (λ k cs. unless (leb 6 k) 5 (fields_p res (λ ds. loose_c d ds) (λ ds. loose res d ds) (k - 6) cs))

  -- ---- records: under 14 one node 12 or 13, under 15 a residual tree
  abbrev pub resolved_in : List ℕ → Parsed (ReducedPolicy O)
  resolved_in bs =
      next (take_bits kind_bits bs) (λ k cs.
      unless (leb 12 k) 5 (by_kind (as_resolved value (fields12 cs) ∷ as_resolved value (fields13 cs) ∷ []) (k - 12)))

  abbrev pub pending_in : List ℕ → Parsed (ReducedPolicy O)
  pending_in bs = next (loose true levels bs) (λ t cs. got (pending t) cs)

  -- The lead: kind (5), sheet number, consulted count; the entries; the tree, read by p. A stage for each field.
  module _ (p : List ℕ → Parsed (ReducedPolicy O)) where
    abbrev pub entries_r : ℕ → Consulted → List ℕ → Parsed (UnderNumber O)
    entries_r n es bs = next (p bs) (λ b cs. got (record { sheet = n; held = record { body = b; log = es } }) cs)

    abbrev pub count_r : ℕ → ℕ → List ℕ → Parsed (UnderNumber O)
    count_r n m bs = next (take_entries m bs) (entries_r n)

    abbrev pub number_r : ℕ → List ℕ → Parsed (UnderNumber O)
    number_r n bs = next (take_bits count_bits bs) (count_r n)

    abbrev pub fields_r : List ℕ → Parsed (UnderNumber O)
    fields_r bs = next (take_bits sheet_bits bs) number_r

  abbrev pub loose_r : List ℕ → Parsed (UnderNumber O)
  loose_r bs = next (take_bits kind_bits bs) (λ k cs. unless (leb 14 k) 5 (by_kind (fields_r resolved_in cs ∷ fields_r pending_in cs ∷ []) (k - 14)))

-- What follows is the filler: fewer than eight bits, all 0 (20).
abbrev pub zeros : List ℕ → Bool
zeros [] = true
zeros (b ∷ bs) = eqb b 0 && zeros bs

abbrev pub filled : {A : Type 0} → Parsed A → Parsed A
filled (refuse n) = refuse n
filled (got a bs) = unless (ltb (length bs) 8 && zeros bs) 20 (got a [])

-- ---- the calls: 11 comes last, for too many words or bytes as for too short an output
abbrev pub tight_bytes : ℕ
tight_bytes = 65536

abbrev pub unless_full : Bool → List ℕ → Answer
unless_full fits given = cond fits (wrote given) (refusal 11)

-- Bytes, or at most so many words, into an output with so much room.
abbrev pub give_bytes : ℕ → List ℕ → Answer
give_bytes room bs = unless_full (leb (length (bytes_of bs)) room) (bytes_of bs)

abbrev pub give_words : ℕ → ℕ → List ℕ → Answer
give_words most room ws = unless_full (leb (length ws) most && leb (length ws) room) ws

module _ (L : Outcomes) where
  abbrev pub pack_sheet : List ℕ → ℕ → Answer
  pack_sheet sheet room = on_read (read_sheet L.value sheet) (λ t. give_bytes room (tight L.number t))

  abbrev pub pack_record : List ℕ → ℕ → Answer
  pack_record rec room = on_read (read_record L.value rec) (λ r. give_bytes room (tight_r L.number (sheet_number rec) r))

  abbrev pub unpack_sheet : List ℕ → ℕ → Answer
  unpack_sheet bytes room =
      unless_long (leb (length bytes) tight_bytes)
      (on_read (filled (loose L.value false levels (run_of bytes))) (λ t. give_words sheet_words room (encode L.number t)))

  abbrev pub unpack_record : List ℕ → ℕ → Answer
  unpack_record bytes room =
      unless_long (leb (length bytes) tight_bytes)
      (on_read (filled (loose_r L.value (run_of bytes))) (λ u. give_words record_words room (numbered u.sheet (encode_r L.number u.held))))
