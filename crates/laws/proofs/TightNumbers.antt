-- Packing is refused with 1, 5, 6, 7, 8, 10 or 11, unpacking with 1, 5, 7, 8, 11, 19 or 20. Request 11. Assumes nothing.
use Rattle.std.specs.Prelude.{◌≡◌, refl, Bool, true, false, cond, ◌&&◌, List, [], ◌∷◌, ℕ, zero, suc, ◌-◌, ◌≤◌, eqb, ltb, leb, length, drop, replicate}
use Rattle.std.proofs.Math.Option.{Option, none, some}
use Rattle.std.proofs.Common.{arith}
use Rattle.model.specs.Fields.{joined}
use Rattle.model.specs.Facts.{fact_bits}
use Rattle.model.specs.Outcome.{Outcomes, outcome_bits}
use Rattle.model.specs.Condition.{Condition, cnil, ccons}
use Rattle.model.specs.Decision.{Decision}
use Rattle.model.specs.Policy.{Policy, permit, pnil, pcons}
use Rattle.model.specs.Partial.{ReducedPolicy}
use Rattle.model.specs.Writing.{count_bits, sheet_bits, mark_bits, encode, encode_r, numbered}
use Rattle.model.specs.Reading.{Parsed, refuse, got, next, unless, by_kind, as_resolved, many, levels, last_kind, few_obligations, outcome_of, in_residual, as_stored, sheet_number, sheet_words, record_words, read_sheet, read_record}
use Rattle.model.specs.Calls.{Answer, refusal, wrote, on_read, unless_long}
use Rattle.model.specs.Bits.{take_bits, take_run, run_of, bytes_of}
use Rattle.model.specs.Tight.{kind_bits, obligation_count_bits, obligation_tight_bits, presence_bits, tight, tight_r, take_optional, take_each, take_entries, fields_c, loose_c, denied_in, label8, outcome8, counted8, reason8, obligations8, shape8, fields8, facts12, obligations12, count12, label12, outcome12, counted12, fields12, facts13, count13, reason13, label13, denied13, shape13, fields13, fields_p, loose, resolved_in, pending_in, entries_r, count_r, number_r, fields_r, loose_r, zeros, filled, tight_bytes, unless_full, pack_sheet, pack_record, unpack_sheet, unpack_record}
use Rattle.laws.specs.Numbers.{Numbered}
use Rattle.laws.proofs.NumberLaws.{sheet_numbered, record_numbered}

-- ---- packing
abbrev pub Packs : Answer → Type 0
Packs (refusal n) = (1 ≤ n) × (n ≤ 11) × (n ≡ 2 → ⊥) × (n ≡ 3 → ⊥) × (n ≡ 4 → ⊥) × (n ≡ 9 → ⊥)
Packs (wrote bs) = Unit {0}

packs_read : {A : Type 0} (p : Parsed A) (k : A → Answer) → Numbered p → ((a : A) → Packs (k a)) → Packs (on_read p k)
packs_read (refuse n) k h g = (h.0, omega (arith, h.1), h.3, h.4, h.5, h.2)
packs_read (got a ws) k h g = g a

packs_full : (b : Bool) (given : List ℕ) → Packs (unless_full b given)
packs_full true given = tt
packs_full false given = (omega arith, omega arith, (λ e. omega arith), (λ e. omega arith), (λ e. omega arith), λ e. omega arith)

-- ---- unpacking
abbrev pub Loosely : ℕ → Type 0
Loosely n = (5 ≤ n) × (n ≤ 19) × (n ≡ 6 → ⊥) × (8 ≤ n → (n ≡ 8 → ⊥) → n ≡ 19)

abbrev pub Unpacks : Answer → Type 0
Unpacks (refusal n) = (1 ≤ n) × (n ≤ 20) × (n ≤ 4 → n ≡ 1) × (n ≡ 6 → ⊥) × (9 ≤ n → n ≤ 18 → n ≡ 11)
Unpacks (wrote ws) = Unit {0}

abbrev Loose : {A : Type 0} → Parsed A → Type 0
Loose (refuse n) = Loosely n
Loose (got a bs) = Unit {0}

five : Loosely 5
five = (omega arith, omega arith, (λ e. omega arith), λ e f. omega arith)

seven : Loosely 7
seven = (omega arith, omega arith, (λ e. omega arith), λ e f. omega arith)

eight : Loosely 8
eight = (omega arith, omega arith, (λ e. omega arith), λ e f. absurd (f refl))

nineteen : Loosely 19
nineteen = (omega arith, omega arith, (λ e. omega arith), λ e f. refl)

then_loose : {A B : Type 0} (p : Parsed A) (k : A → List ℕ → Parsed B) → Loose p → ((a : A) (bs : List ℕ) → Loose (k a bs)) → Loose (next p k)
then_loose (refuse n) k h g = h
then_loose (got a bs) k h g = g a bs

unless_loose : {A : Type 0} (b : Bool) (n : ℕ) (p : Parsed A) → Loosely n → Loose p → Loose (unless b n p)
unless_loose true n p c h = h
unless_loose false n p c h = c

bits_loose : (w : ℕ) (bs : List ℕ) → Loose (take_bits w bs)
bits_loose w bs = by (leb w (length bs))
  where
    by : (b : Bool) → Loose (cond b (got (joined 1 w bs) (drop w bs)) (refuse 19))
    by true = tt
    by false = nineteen

run_loose : (ws bs : List ℕ) → Loose (take_run ws bs)
run_loose [] bs = tt
run_loose (w ∷ ws) bs = then_loose (take_bits w bs) _ (bits_loose w bs) (λ v cs. then_loose (take_run ws cs) _ (run_loose ws cs) (λ vs ds. tt))

optional_loose : (w : ℕ) (bs : List ℕ) → Loose (take_optional w bs)
optional_loose w bs = then_loose (take_bits 1 bs) _ (bits_loose 1 bs) (λ here cs. by (eqb here 0) cs)
  where
    by : (b : Bool) (cs : List ℕ) → Loose (cond b (got none cs) (next (take_bits w cs) (λ v ds. got (some v) ds)))
    by true cs = tt
    by false cs = then_loose (take_bits w cs) _ (bits_loose w cs) (λ v ds. tt)

many_loose : {A B : Type 0} (nil : B) (cons : A → B → B) (p : List ℕ → Parsed A) → ((bs : List ℕ) → Loose (p bs)) → (n : ℕ) (bs : List ℕ) → Loose (many nil cons p n bs)
many_loose nil cons p h zero bs = tt
many_loose nil cons p h (suc n) bs = then_loose (p bs) _ (h bs) (λ a cs. then_loose (many nil cons p n cs) _ (many_loose nil cons p h n cs) (λ xs ds. tt))

fields_c_loose : (p : List ℕ → Parsed Condition) → ((bs : List ℕ) → Loose (p bs)) → (k : ℕ) (bs : List ℕ) → Loose (fields_c p k bs)
fields_c_loose p h zero bs = tt
fields_c_loose p h (suc zero) bs = tt
fields_c_loose p h (suc (suc zero)) bs = then_loose (take_bits fact_bits bs) _ (bits_loose fact_bits bs) (λ f cs. tt)
fields_c_loose p h (suc (suc (suc zero))) bs = then_loose (p bs) _ (h bs) (λ c cs. tt)
fields_c_loose p h (suc (suc (suc (suc zero)))) bs =
    then_loose (take_bits count_bits bs) _ (bits_loose count_bits bs) (λ n cs. then_loose (many cnil ccons p n cs) _ (many_loose cnil ccons p h n cs) (λ xs ds. tt))
fields_c_loose p h (suc (suc (suc (suc (suc zero))))) bs =
    then_loose (take_bits count_bits bs) _ (bits_loose count_bits bs) (λ n cs. then_loose (many cnil ccons p n cs) _ (many_loose cnil ccons p h n cs) (λ xs ds. tt))
fields_c_loose p h (suc (suc (suc (suc (suc (suc k)))))) bs = five

loose_c_lem : (d : ℕ) (bs : List ℕ) → Loose (loose_c d bs)
loose_c_lem zero bs = then_loose (take_bits kind_bits bs) _ (bits_loose kind_bits bs) (λ k cs. unless_loose (ltb k 6) 5 (refuse 7) five seven)
loose_c_lem (suc d) bs = then_loose (take_bits kind_bits bs) _ (bits_loose kind_bits bs) (λ k cs. fields_c_loose (λ ds. loose_c d ds) (λ ds. loose_c_lem d ds) k cs)

entries_loose : (n : ℕ) (bs : List ℕ) → Loose (take_entries n bs)
entries_loose zero bs = tt
entries_loose (suc n) bs =
    then_loose (take_bits presence_bits bs) _ (bits_loose presence_bits bs) (λ p cs.
    then_loose (take_bits fact_bits cs) _ (bits_loose fact_bits cs) (λ f ds.
    then_loose (take_entries n ds) _ (entries_loose n ds) (λ es us. tt)))

module _ {O : Type 0} (value : ℕ → Option O) where
  outcome_loose : {A : Type 0} (x : Option O) (k : O → Parsed A) → ((o : O) → Loose (k o)) → Loose (outcome_of value x k)
  outcome_loose none k h = eight
  outcome_loose (some o) k h = h o

  denied_loose : {A : Type 0} (x : Option ℕ) (k : Option O → Parsed A) → ((d : Option O) → Loose (k d)) → Loose (denied_in value x k)
  denied_loose none k h = h none
  denied_loose (some v) k h = outcome_loose (value v) (λ o. k (some o)) (λ o. h (some o))

  loose_8 : (p : List ℕ → Parsed Condition) → ((bs : List ℕ) → Loose (p bs)) → (bs : List ℕ) → Loose (fields8 value p bs)
  loose_8 p h bs =
      then_loose (take_bits 1 bs) (shape8 value p) (bits_loose 1 bs) (λ sh b₁.
      then_loose (take_bits obligation_count_bits b₁) (counted8 value p sh) (bits_loose obligation_count_bits b₁) (λ n b₂.
      unless_loose (few_obligations n) 8 (next (take_bits outcome_bits b₂) (outcome8 value p sh n)) eight (
      then_loose (take_bits outcome_bits b₂) (outcome8 value p sh n) (bits_loose outcome_bits b₂) (λ v b₃.
      outcome_loose (value v) (λ o. next (take_optional mark_bits b₃) (label8 value p sh n o)) (λ o.
      then_loose (take_optional mark_bits b₃) (label8 value p sh n o) (optional_loose mark_bits b₃) (λ l b₄.
      then_loose (take_optional mark_bits b₄) (reason8 value p sh n o l) (optional_loose mark_bits b₄) (λ m b₅.
      then_loose (take_each obligation_tight_bits n b₅) (obligations8 value p sh o l m) (run_loose (replicate n obligation_tight_bits) b₅) (λ os b₆.
      then_loose (p b₆) _ (h b₆) (λ c cs. tt)))))))))

  loose_12 : (bs : List ℕ) → Loose (fields12 value bs)
  loose_12 bs =
      then_loose (take_bits obligation_count_bits bs) (counted12 value) (bits_loose obligation_count_bits bs) (λ n b₁.
      then_loose (take_bits outcome_bits b₁) (outcome12 value n) (bits_loose outcome_bits b₁) (λ v b₂.
      outcome_loose (value v) (λ o. next (take_optional mark_bits b₂) (label12 value n o)) (λ o.
      then_loose (take_optional mark_bits b₂) (label12 value n o) (optional_loose mark_bits b₂) (λ l b₃.
      then_loose (take_bits count_bits b₃) (count12 value n o l) (bits_loose count_bits b₃) (λ m b₄.
      then_loose (take_each obligation_tight_bits n b₄) (obligations12 value o l m) (run_loose (replicate n obligation_tight_bits) b₄) (λ os b₅.
      then_loose (take_each fact_bits m b₅) (facts12 value o l os) (run_loose (replicate m fact_bits) b₅) (λ fs b₆. tt)))))))

  loose_13 : (bs : List ℕ) → Loose (fields13 value bs)
  loose_13 bs =
      then_loose (take_bits 1 bs) (shape13 value) (bits_loose 1 bs) (λ sh b₁.
      then_loose (take_optional outcome_bits b₁) (denied13 value sh) (optional_loose outcome_bits b₁) (λ here b₂.
      denied_loose here (λ den. next (take_optional mark_bits b₂) (label13 value sh den)) (λ den.
      then_loose (take_optional mark_bits b₂) (label13 value sh den) (optional_loose mark_bits b₂) (λ l b₃.
      then_loose (take_optional mark_bits b₃) (reason13 value sh den l) (optional_loose mark_bits b₃) (λ m b₄.
      then_loose (take_bits count_bits b₄) (count13 value sh den l m) (bits_loose count_bits b₄) (λ n b₅.
      then_loose (take_each fact_bits n b₅) (facts13 value sh den l m) (run_loose (replicate n fact_bits) b₅) (λ fs b₆. tt)))))))

  stored_loose : (res : Bool) (p : Parsed (Decision O)) → Loose p → Loose (in_residual value res (as_stored value p))
  stored_loose true p h = then_loose p _ h (λ d bs. tt)
  stored_loose false p h = five

  fields_p_loose : (res : Bool) (pc : List ℕ → Parsed Condition) → ((bs : List ℕ) → Loose (pc bs)) → (p : List ℕ → Parsed (Policy O)) → ((bs : List ℕ) → Loose (p bs)) → (k : ℕ) (bs : List ℕ) → Loose (fields_p value res pc p k bs)
  fields_p_loose res pc hc p h zero bs = then_loose (take_bits outcome_bits bs) _ (bits_loose outcome_bits bs) (λ v cs. outcome_loose (value v) (λ o. got (permit o) cs) (λ o. tt))
  fields_p_loose res pc hc p h (suc zero) bs = tt
  fields_p_loose res pc hc p h (suc (suc zero)) bs = loose_8 pc hc bs
  fields_p_loose res pc hc p h (suc (suc (suc zero))) bs =
      then_loose (take_bits count_bits bs) _ (bits_loose count_bits bs) (λ n cs. then_loose (many pnil pcons p n cs) _ (many_loose pnil pcons p h n cs) (λ xs ds. tt))
  fields_p_loose res pc hc p h (suc (suc (suc (suc zero)))) bs =
      then_loose (take_bits count_bits bs) _ (bits_loose count_bits bs) (λ n cs. then_loose (many pnil pcons p n cs) _ (many_loose pnil pcons p h n cs) (λ xs ds. tt))
  fields_p_loose res pc hc p h (suc (suc (suc (suc (suc zero))))) bs = then_loose (p bs) _ (h bs) (λ a cs. then_loose (p cs) _ (h cs) (λ b ds. tt))
  fields_p_loose res pc hc p h (suc (suc (suc (suc (suc (suc zero)))))) bs = stored_loose res (fields12 value bs) (loose_12 bs)
  fields_p_loose res pc hc p h (suc (suc (suc (suc (suc (suc (suc zero))))))) bs = stored_loose res (fields13 value bs) (loose_13 bs)
  fields_p_loose res pc hc p h (suc (suc (suc (suc (suc (suc (suc (suc k)))))))) bs = five

  loose_t : (res : Bool) (d : ℕ) (bs : List ℕ) → Loose (loose value res d bs)
  loose_t res zero bs = then_loose (take_bits kind_bits bs) _ (bits_loose kind_bits bs) (λ k cs. unless_loose (leb 6 k && leb k (last_kind value res)) 5 (refuse 7) five seven)
  loose_t res (suc d) bs =
      then_loose (take_bits kind_bits bs) _ (bits_loose kind_bits bs) (λ k cs.
      unless_loose (leb 6 k) 5 (fields_p value res (λ ds. loose_c d ds) (λ ds. loose value res d ds) (k - 6) cs) five
      (fields_p_loose res (λ ds. loose_c d ds) (λ ds. loose_c_lem d ds) (λ ds. loose value res d ds) (λ ds. loose_t res d ds) (k - 6) cs))

  node_loose : (k : ℕ) (bs : List ℕ) → Loose (by_kind (as_resolved value (fields12 value bs) ∷ as_resolved value (fields13 value bs) ∷ []) k)
  node_loose zero bs = then_loose (fields12 value bs) _ (loose_12 bs) (λ d cs. tt)
  node_loose (suc zero) bs = then_loose (fields13 value bs) _ (loose_13 bs) (λ d cs. tt)
  node_loose (suc (suc k)) bs = five

  resolved_loose : (bs : List ℕ) → Loose (resolved_in value bs)
  resolved_loose bs = then_loose (take_bits kind_bits bs) _ (bits_loose kind_bits bs) (λ k cs. unless_loose (leb 12 k) 5 _ five (node_loose (k - 12) cs))

  pending_loose : (bs : List ℕ) → Loose (pending_in value bs)
  pending_loose bs = then_loose (loose value true levels bs) _ (loose_t true levels bs) (λ t cs. tt)

  fields_r_loose : (p : List ℕ → Parsed (ReducedPolicy O)) → ((bs : List ℕ) → Loose (p bs)) → (bs : List ℕ) → Loose (fields_r value p bs)
  fields_r_loose p h bs =
      then_loose (take_bits sheet_bits bs) (number_r value p) (bits_loose sheet_bits bs) (λ n b₁.
      then_loose (take_bits count_bits b₁) (count_r value p n) (bits_loose count_bits b₁) (λ m b₂.
      then_loose (take_entries m b₂) (entries_r value p n) (entries_loose m b₂) (λ es b₃.
      then_loose (p b₃) _ (h b₃) (λ b cs. tt))))

  leads_loose : (k : ℕ) (bs : List ℕ) → Loose (by_kind (fields_r value (resolved_in value) bs ∷ fields_r value (pending_in value) bs ∷ []) k)
  leads_loose zero bs = fields_r_loose (resolved_in value) resolved_loose bs
  leads_loose (suc zero) bs = fields_r_loose (pending_in value) pending_loose bs
  leads_loose (suc (suc k)) bs = five

  loose_r_lem : (bs : List ℕ) → Loose (loose_r value bs)
  loose_r_lem bs = then_loose (take_bits kind_bits bs) _ (bits_loose kind_bits bs) (λ k cs. unless_loose (leb 14 k) 5 _ five (leads_loose (k - 14) cs))

unpacks_read : {A : Type 0} (p : Parsed A) (k : A → Answer) → Loose p → ((a : A) → Unpacks (k a)) → Unpacks (on_read (filled p) k)
unpacks_read (refuse n) k h g =
    (omega (arith, h.0), omega (arith, h.1), (λ e. omega (arith, h.0)), h.2, λ e f. let x : n ≡ 19 = h.3 (omega arith) (λ z. omega arith) in omega arith)
unpacks_read (got a bs) k h g = by (ltb (length bs) 8 && zeros bs)
  where
    by : (b : Bool) → Unpacks (on_read (unless b 20 (got a [])) k)
    by true = g a
    by false = (omega arith, omega arith, (λ e. omega arith), (λ e. omega arith), λ e f. omega arith)

unpacks_full : (b : Bool) (given : List ℕ) → Unpacks (unless_full b given)
unpacks_full true given = tt
unpacks_full false given = (omega arith, omega arith, (λ e. omega arith), (λ e. omega arith), λ e f. refl)

unpacks_long : (b : Bool) (a : Answer) → Unpacks a → Unpacks (unless_long b a)
unpacks_long true a h = h
unpacks_long false a h = (omega arith, omega arith, (λ e. refl), (λ e. omega arith), λ e f. omega arith)

module _ (L : Outcomes) where
  pub pack_sheet_told : (ws : List ℕ) (room : ℕ) → Packs (pack_sheet L ws room)
  pack_sheet_told ws room = packs_read (read_sheet L.value ws) _ (sheet_numbered L.value ws) (λ t. packs_full (leb (length (bytes_of (tight L.number t))) room) (bytes_of (tight L.number t)))

  pub pack_record_told : (ws : List ℕ) (room : ℕ) → Packs (pack_record L ws room)
  pack_record_told ws room = packs_read (read_record L.value ws) _ (record_numbered L.value ws) (λ r. packs_full (leb (length (bytes_of (tight_r L.number (sheet_number ws) r))) room) (bytes_of (tight_r L.number (sheet_number ws) r)))

  pub unpack_sheet_told : (bs : List ℕ) (room : ℕ) → Unpacks (unpack_sheet L bs room)
  unpack_sheet_told bs room =
      unpacks_long (leb (length bs) tight_bytes) _
      (unpacks_read (loose L.value false levels (run_of bs)) _ (loose_t L.value false levels (run_of bs)) (λ t. unpacks_full (leb (length (encode L.number t)) sheet_words && leb (length (encode L.number t)) room) (encode L.number t)))

  pub unpack_record_told : (bs : List ℕ) (room : ℕ) → Unpacks (unpack_record L bs room)
  unpack_record_told bs room =
      unpacks_long (leb (length bs) tight_bytes) _
      (unpacks_read (loose_r L.value (run_of bs)) _ (loose_r_lem L.value (run_of bs)) (λ u. let ws = numbered u.sheet (encode_r L.number u.held) in unpacks_full (leb (length ws) record_words && leb (length ws) room) ws))
