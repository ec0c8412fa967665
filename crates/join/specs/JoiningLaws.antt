-- Tables byte by byte: the masks of a byte, where tables agree, and what they join to.
use Rattle.std.specs.Prelude.{◌≡◌, refl, Bool, true, false, not, ◌&&◌, ◌||◌, List, [], ◌∷◌, ◌++◌, ℕ, zero, suc, ◌-◌, ◌≤◌, ◌<◌, max, eqb, length, take, drop, get_or, replicate}
use Rattle.std.proofs.Common.{sym, ◌∙◌, ap, ap₂, arith, length-take, take-append-drop}
use Rattle.std.proofs.Math.Bool.{or_assoc, and-eq-true_iff}
use Rattle.std.proofs.Math.Option.{Option}
use Rattle.std.specs.Int.Bits.{bit_and, bit_or, bit_xor}
use Rattle.model.specs.Fields.{split, joined, packed}
use Rattle.model.specs.Facts.{partial_facts, table_fields, field_fault, or_fault, first_fault}
use Rattle.model.specs.Join.{join_field, join_fields, clashes, joined_bytes}
use Rattle.laws.specs.Lists.{Below}
use Rattle.laws.specs.FieldAt.{fieldwise}
use Rattle.laws.proofs.WordLaws.{joined_split, length_packed}
use Rattle.laws.proofs.BitwiseLaws.{split_and, split_or, split_xor}
use Rattle.laws.proofs.JoinLaws.{clean}
use Rattle.facts.specs.Answers.{no_fault}
use Rattle.join.specs.Joining.{agree, bytes_agree, join_byte, Clean, NoThree}

-- ---- two fields
-- The bits that differ are 1, and with 2 against them 3, exactly in a clash.
field_marked : (p q : ℕ) → p < 3 → q < 3 → (rest : Option ℕ) →
    no_fault (or_fault (field_fault partial_facts (bit_xor (bit_xor p q) 2)) rest) ≡ (not (eqb (join_field p q) 3) && no_fault rest)
field_marked zero zero h k rest = refl
field_marked zero (suc zero) h k rest = refl
field_marked zero (suc (suc zero)) h k rest = refl
field_marked zero (suc (suc (suc q))) h k rest = absurd (omega arith)
field_marked (suc zero) zero h k rest = refl
field_marked (suc zero) (suc zero) h k rest = refl
field_marked (suc zero) (suc (suc zero)) h k rest = refl
field_marked (suc zero) (suc (suc (suc q))) h k rest = absurd (omega arith)
field_marked (suc (suc zero)) zero h k rest = refl
field_marked (suc (suc zero)) (suc zero) h k rest = refl
field_marked (suc (suc zero)) (suc (suc zero)) h k rest = refl
field_marked (suc (suc zero)) (suc (suc (suc q))) h k rest = absurd (omega arith)
field_marked (suc (suc (suc p))) q h k rest = absurd (omega arith)

-- Present in either is Present, and Unknown in both is Unknown, unless they clash.
field_joined : (p q : ℕ) → p < 3 → q < 3 → eqb (join_field p q) 3 ≡ false → bit_or (bit_and p q) (bit_and (bit_or p q) 1) ≡ join_field p q
field_joined zero zero h k e = refl
field_joined zero (suc zero) h k e = cc
field_joined zero (suc (suc zero)) h k e = refl
field_joined zero (suc (suc (suc q))) h k e = absurd (omega arith)
field_joined (suc zero) zero h k e = cc
field_joined (suc zero) (suc zero) h k e = refl
field_joined (suc zero) (suc (suc zero)) h k e = refl
field_joined (suc zero) (suc (suc (suc q))) h k e = absurd (omega arith)
field_joined (suc (suc zero)) zero h k e = refl
field_joined (suc (suc zero)) (suc zero) h k e = refl
field_joined (suc (suc zero)) (suc (suc zero)) h k e = refl
field_joined (suc (suc zero)) (suc (suc (suc q))) h k e = absurd (omega arith)
field_joined (suc (suc (suc p))) q h k e = absurd (omega arith)

-- A field that agrees with Absent becomes Absent.
field_absent : (p : ℕ) → p < 3 → eqb (join_field p 0) 3 ≡ false → join_field p 0 ≡ 0
field_absent zero h e = refl
field_absent (suc zero) h e = cc
field_absent (suc (suc zero)) h e = refl
field_absent (suc (suc (suc p))) h e = absurd (omega arith)

-- ---- lists of fields
not_or : (a b : Bool) → not (a || b) ≡ (not a && not b)
not_or true b = refl
not_or false b = refl

neither : (a b : Bool) → not (a || b) ≡ true → (a ≡ false) × (not b ≡ true)
neither true b e = (cc, cc)
neither false b e = (refl, e)

fields_marked : (ps qs : List ℕ) → length ps ≡ length qs → Below 3 ps → Below 3 qs →
    no_fault (first_fault partial_facts (fieldwise bit_xor (fieldwise bit_xor ps qs) (replicate (length ps) 2))) ≡ agree ps qs
fields_marked [] [] l h k = refl
fields_marked [] (q ∷ qs) l h k = absurd (omega arith)
fields_marked (p ∷ ps) [] l h k = absurd (omega arith)
fields_marked (p ∷ ps) (q ∷ qs) l h k =
    field_marked p q h.0 k.0 (first_fault partial_facts (fieldwise bit_xor (fieldwise bit_xor ps qs) (replicate (length ps) 2)))
    ∙ ap (λ x. not (eqb (join_field p q) 3) && x) (fields_marked ps qs (omega arith) h.1 k.1)
    ∙ sym (not_or (eqb (join_field p q) 3) (clashes (join_fields ps qs)))

fields_joined : (ps qs : List ℕ) → length ps ≡ length qs → Below 3 ps → Below 3 qs → agree ps qs ≡ true →
    fieldwise bit_or (fieldwise bit_and ps qs) (fieldwise bit_and (fieldwise bit_or ps qs) (replicate (length ps) 1)) ≡ join_fields ps qs
fields_joined [] [] l h k e = refl
fields_joined [] (q ∷ qs) l h k e = absurd (omega arith)
fields_joined (p ∷ ps) [] l h k e = absurd (omega arith)
fields_joined (p ∷ ps) (q ∷ qs) l h k e =
    let apart = neither (eqb (join_field p q) 3) (clashes (join_fields ps qs)) e in
    ap₂ ◌∷◌ (field_joined p q h.0 k.0 apart.0) (fields_joined ps qs (omega arith) h.1 k.1 apart.1)

fields_absent : (ps : List ℕ) → Below 3 ps → agree ps [] ≡ true → join_fields ps [] ≡ replicate (length ps) 0
fields_absent [] h e = refl
fields_absent (p ∷ ps) h e =
    let apart = neither (eqb (join_field p 0) 3) (clashes (join_fields ps [])) e in
    ap₂ ◌∷◌ (field_absent p h.0 apart.0) (fields_absent ps h.1 apart.1)

-- ---- the masks of a byte
module _ (a b : ℕ) (h : Clean a) (k : Clean b) where
  abbrev A : List ℕ
  A = split 2 4 a

  abbrev B : List ℕ
  B = split 2 4 b

  pub clash_mask : no_fault (first_fault partial_facts (split 2 4 (bit_xor (bit_xor a b) 170))) ≡ bytes_agree a b
  clash_mask =
      ap (λ l. no_fault (first_fault partial_facts l)) (split_xor 2 4 (bit_xor a b) 170 ∙ ap (λ l. fieldwise bit_xor l (split 2 4 170)) (split_xor 2 4 a b))
      ∙ fields_marked A B refl h k

  pub join_mask : bytes_agree a b ≡ true → bit_or (bit_and a b) (bit_and (bit_or a b) 85) ≡ join_byte a b
  join_mask e =
      sym (joined_split 2 3 (bit_or (bit_and a b) (bit_and (bit_or a b) 85)))
      ∙ ap (joined 2 4)
      (split_or 2 4 (bit_and a b) (bit_and (bit_or a b) 85)
      ∙ ap₂ (fieldwise bit_or) (split_and 2 4 a b) (split_and 2 4 (bit_or a b) 85 ∙ ap (λ l. fieldwise bit_and l (split 2 4 85)) (split_or 2 4 a b))
      ∙ fields_joined A B refl h k e)

-- ---- tables by their bytes
clash_append : (xs ys : List ℕ) → clashes (xs ++ ys) ≡ (clashes xs || clashes ys)
clash_append [] ys = refl
clash_append (x ∷ xs) ys = ap (λ c. eqb x 3 || c) (clash_append xs ys) ∙ sym (or_assoc (eqb x 3) (clashes xs) (clashes ys))

agree_bytes : (a b : ℕ) (fs gs : List ℕ) → agree (split 2 4 a ++ fs) (split 2 4 b ++ gs) ≡ (bytes_agree a b && agree fs gs)
agree_bytes a b fs gs =
    ap not (clash_append (join_fields (split 2 4 a) (split 2 4 b)) (join_fields fs gs))
    ∙ not_or (clashes (join_fields (split 2 4 a) (split 2 4 b))) (clashes (join_fields fs gs))

agree_parts : (a b : ℕ) (ls ss : List ℕ) → agree (table_fields (a ∷ ls)) (table_fields (b ∷ ss)) ≡ true → (bytes_agree a b ≡ true) × (agree (table_fields ls) (table_fields ss) ≡ true)
agree_parts a b ls ss e =
    (and-eq-true_iff (bytes_agree a b) (agree (table_fields ls) (table_fields ss))).0 (sym (agree_bytes a b (table_fields ls) (table_fields ss)) ∙ e)

agree_byte : (a : ℕ) (fs : List ℕ) → agree (split 2 4 a ++ fs) [] ≡ (bytes_agree a 0 && agree fs [])
agree_byte a fs = agree_bytes a 0 fs []

-- Byte i of both, 0 past an end.
pub agree_end : (i : ℕ) (ls : List ℕ) → i < length ls →
    agree (table_fields (drop i ls)) [] ≡ (bytes_agree (get_or ls i 0) 0 && agree (table_fields (drop (suc i) ls)) [])
agree_end i [] h = absurd (omega arith)
agree_end zero (a ∷ ls) h = agree_byte a (table_fields ls)
agree_end (suc i) (a ∷ ls) h = agree_end i ls (omega arith)

pub agree_step : (i : ℕ) (ls ss : List ℕ) → i < length ls →
    agree (table_fields (drop i ls)) (table_fields (drop i ss))
    ≡ (bytes_agree (get_or ls i 0) (get_or ss i 0) && agree (table_fields (drop (suc i) ls)) (table_fields (drop (suc i) ss)))
agree_step i [] ss h = absurd (omega arith)
agree_step zero (a ∷ ls) [] h = agree_byte a (table_fields ls)
agree_step zero (a ∷ ls) (b ∷ ss) h = agree_bytes a b (table_fields ls) (table_fields ss)
agree_step (suc i) (a ∷ ls) [] h = agree_end i ls (omega arith)
agree_step (suc i) (a ∷ ls) (b ∷ ss) h = agree_step i ls ss (omega arith)

-- Tables that agree do so at each byte that both have.
pub agree_at : (i : ℕ) (ls ss : List ℕ) → i < length ss → length ss ≤ length ls → agree (table_fields ls) (table_fields ss) ≡ true → bytes_agree (get_or ls i 0) (get_or ss i 0) ≡ true
agree_at i ls [] h l e = absurd (omega arith)
agree_at i [] (b ∷ ss) h l e = absurd (omega arith)
agree_at zero (a ∷ ls) (b ∷ ss) h l e = (agree_parts a b ls ss e).0
agree_at (suc i) (a ∷ ls) (b ∷ ss) h l e = agree_at i ls ss (omega arith) (omega arith) (agree_parts a b ls ss e).1

pub clean_byte : (i : ℕ) (bs : List ℕ) → Below 3 (table_fields bs) → Clean (get_or bs i 0)
clean_byte i [] h = (omega arith, (omega arith, (omega arith, (omega arith, tt))))
clean_byte zero (b ∷ bs) h = (h.0, (h.1.0, (h.1.1.0, (h.1.1.1.0, tt))))
clean_byte (suc i) (b ∷ bs) h = clean_byte i bs h.1.1.1.1

pub clean_at : (i : ℕ) (bs : List ℕ) → NoThree bs → Clean (get_or bs i 0)
clean_at i bs h = clean_byte i bs (clean (table_fields bs) h)

pub clean_rest : (n : ℕ) (bs : List ℕ) → NoThree bs → Below 3 (table_fields (drop n bs))
clean_rest n bs h = by n bs (clean (table_fields bs) h)
  where
    by : (n : ℕ) (bs : List ℕ) → Below 3 (table_fields bs) → Below 3 (table_fields (drop n bs))
    by zero bs h = h
    by (suc n) [] h = h
    by (suc n) (b ∷ bs) h = by n bs h.1.1.1.1

-- ---- the result
joined_both : (a b : ℕ) (ls ss : List ℕ) → joined_bytes (a ∷ ls) (b ∷ ss) ≡ join_byte a b ∷ joined_bytes ls ss
joined_both a b ls ss =
    ap (λ m. packed 2 4 m (join_fields (table_fields (a ∷ ls)) (table_fields (b ∷ ss))))
    (let e : max (suc (length ls)) (suc (length ss)) ≡ suc (max (length ls) (length ss)) = omega arith in e)

joined_one : (a : ℕ) (ls : List ℕ) → joined_bytes (a ∷ ls) [] ≡ join_byte a 0 ∷ joined_bytes ls []
joined_one a ls =
    ap (λ m. packed 2 4 m (join_fields (table_fields (a ∷ ls)) []))
    (let e : max (suc (length ls)) 0 ≡ suc (max (length ls) 0) = omega arith in e)

pub length_joined : (ls ss : List ℕ) → length ss ≤ length ls → length (joined_bytes ls ss) ≡ length ls
length_joined ls ss h = length_packed 2 4 (max (length ls) (length ss)) (join_fields (table_fields ls) (table_fields ss)) ∙ omega arith

pub part_long : (ls ss : List ℕ) → length ss ≤ length ls → length (take (length ss) (joined_bytes ls ss)) ≡ length ss
part_long ls ss h = length-take (length ss) (joined_bytes ls ss) ∙ omega (arith, length_joined ls ss h)

pub joined_at : (i : ℕ) (ls ss : List ℕ) → i < length ss → length ss ≤ length ls → get_or (joined_bytes ls ss) i 0 ≡ join_byte (get_or ls i 0) (get_or ss i 0)
joined_at i ls [] h l = absurd (omega arith)
joined_at i [] (b ∷ ss) h l = absurd (omega arith)
joined_at zero (a ∷ ls) (b ∷ ss) h l = ap (λ bs. get_or bs 0 0) (joined_both a b ls ss)
joined_at (suc i) (a ∷ ls) (b ∷ ss) h l = ap (λ bs. get_or bs (suc i) 0) (joined_both a b ls ss) ∙ joined_at i ls ss (omega arith) (omega arith)

-- Past the shorter table's end the result is Absent.
absent_all : (ls : List ℕ) → Below 3 (table_fields ls) → agree (table_fields ls) [] ≡ true → joined_bytes ls [] ≡ replicate (length ls) 0
absent_all [] h e = refl
absent_all (a ∷ ls) h e =
    let parts = (and-eq-true_iff (bytes_agree a 0) (agree (table_fields ls) [])).0 (sym (agree_byte a (table_fields ls)) ∙ e) in
    joined_one a ls
    ∙ ap₂ ◌∷◌ (ap (joined 2 4) (fields_absent (split 2 4 a) (h.0, (h.1.0, (h.1.1.0, (h.1.1.1.0, tt)))) parts.0)) (absent_all ls h.1.1.1.1 parts.1)

pub absent_after : (ls ss : List ℕ) → length ss ≤ length ls → Below 3 (table_fields ls) → agree (table_fields ls) (table_fields ss) ≡ true →
    drop (length ss) (joined_bytes ls ss) ≡ replicate (length ls - length ss) 0
absent_after ls [] l h e = absent_all ls h e ∙ ap (λ n. replicate n 0) (let q : length ls ≡ length ls - 0 = omega arith in q)
absent_after [] (b ∷ ss) l h e = absurd (omega arith)
absent_after (a ∷ ls) (b ∷ ss) l h e =
    ap (drop (suc (length ss))) (joined_both a b ls ss)
    ∙ absent_after ls ss (omega arith) h.1.1.1.1 (agree_parts a b ls ss e).1
    ∙ ap (λ n. replicate n 0) (let q : length ls - length ss ≡ suc (length ls) - suc (length ss) = omega arith in q)

-- What both have joined, and then Absent.
pub result_parts : (ls ss : List ℕ) → length ss ≤ length ls → NoThree ls → agree (table_fields ls) (table_fields ss) ≡ true → (n : ℕ) → n ≡ length ss →
    take (length ss) (joined_bytes ls ss) ++ replicate (length ls - n) 0 ≡ joined_bytes ls ss
result_parts ls ss l c e n h =
    ap (λ l. take (length ss) (joined_bytes ls ss) ++ l)
    (ap (λ m. replicate (length ls - m) 0) h ∙ sym (absent_after ls ss l (clean (table_fields ls) c) e))
    ∙ take-append-drop (length ss) (joined_bytes ls ss)
