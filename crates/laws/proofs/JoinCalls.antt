-- The join of tables as a call: the order of the two, and the grouping of three, makes no difference, a clash included; which numbers it is refused
-- with, 14 exactly for a clash; how long the result is and what it reads of each fact. Request 2.
use Rattle.std.specs.Prelude.{◌≡◌, refl, Bool, true, false, cond, ◌&&◌, List, [], ◌∷◌, ℕ, zero, suc, ◌≤◌, max, leb, length, get_or}
use Rattle.std.proofs.Common.{sym, ◌∙◌, ap, ap₂, subst₂, arith, leb-true, le-leb}
use Rattle.std.proofs.Math.Bool.{and_comm}
use Rattle.std.proofs.Math.Option.{Option, none, some}
use Rattle.model.specs.Fields.{packed}
use Rattle.model.specs.Facts.{partial_facts, presence, table_of, heard, table_fields, table_bytes, field_fault, or_fault, first_fault, table_fault}
use Rattle.model.specs.Decision.{held}
use Rattle.model.specs.Calls.{Answer, refusal, wrote, unless_fault}
use Rattle.model.specs.Join.{join_field, join_fields, clashes, joined_bytes, clash_fault, join_fault, join_tables, on_joined, join_left, join_right}
use Rattle.laws.proofs.WordLaws.{length_packed}
use Rattle.laws.proofs.SilenceLaws.{heard_field}
use Rattle.laws.proofs.JoinLaws.{fields_comm, fields_assoc, clash_stays, join_at, clean, narrow_join, no_clash, clash_fact, fact_clashes, Opposed, clash_opposed, opposed_clash, below_at, fields_joined}
use Rattle.laws.specs.JoinCalls.{join_causes}

-- ---- a partial table's fields are turned back with 3 alone
abbrev Three : Option ℕ → Type 0
Three none = Unit {0}
Three (some n) = n ≡ 3

three_or : (a b : Option ℕ) → Three a → Three b → Three (or_fault a b)
three_or none b h k = k
three_or (some n) b h k = h

three_field : (q : ℕ) → Three (field_fault partial_facts q)
three_field zero = tt
three_field (suc zero) = tt
three_field (suc (suc zero)) = tt
three_field (suc (suc (suc q))) = refl

three_first : (qs : List ℕ) → Three (first_fault partial_facts qs)
three_first [] = tt
three_first (q ∷ qs) = three_or (field_fault partial_facts q) (first_fault partial_facts qs) (three_field q) (three_first qs)

-- ---- the order of the two: for any bytes, faulty ones too, and any room
either_first : (a b c : Option ℕ) → Three a → Three b → or_fault a (or_fault b c) ≡ or_fault b (or_fault a c)
either_first none none c h k = refl
either_first none (some n) c h k = refl
either_first (some m) none c h k = refl
either_first (some m) (some n) c h k = ap some (h ∙ sym k)

module _ (one two : List ℕ) where
  abbrev P : List ℕ
  P = table_fields one

  abbrev Q : List ℕ
  Q = table_fields two

  bytes_order : joined_bytes one two ≡ joined_bytes two one
  bytes_order = ap₂ (packed 2 4) (let e : max (length one) (length two) ≡ max (length two) (length one) = omega arith in e) (fields_comm P Q)

  fault_order : join_fault one two ≡ join_fault two one
  fault_order =
      ap₂ (λ l f. cond l f (some 2)) (and_comm (leb (length one) table_bytes) (leb (length two) table_bytes))
      (either_first (first_fault partial_facts P) (first_fault partial_facts Q) (clash_fault one two) (three_first P) (three_first Q)
      ∙ ap (λ fs. or_fault (first_fault partial_facts Q) (or_fault (first_fault partial_facts P) (cond (clashes fs) (some 14) none))) (fields_comm P Q))

  pub join_order : (room : ℕ) → join_tables one two room ≡ join_tables two one room
  join_order room = ap₂ (λ f bs. unless_fault f (cond (leb (length bs) room) (wrote bs) (refusal 11))) fault_order bytes_order

module _ (one two : List ℕ) where
  abbrev pub Told : Answer → Type 0
  Told (refusal n) = held n join_causes ≡ true
  Told (wrote bs) = length bs ≡ max (length one) (length two)

  long : length (joined_bytes one two) ≡ max (length one) (length two)
  long = length_packed 2 4 (max (length one) (length two)) (join_fields (table_fields one) (table_fields two))

module _ (one two : List ℕ) (room : ℕ) where
  abbrev Left : Option ℕ → Type 0
  Left f = Told one two (unless_fault f (cond (leb (length (joined_bytes one two)) room) (wrote (joined_bytes one two)) (refusal 11)))

  left_room : (b : Bool) → Told one two (cond b (wrote (joined_bytes one two)) (refusal 11))
  left_room true = long one two
  left_room false = refl

  left_clash : (b : Bool) → Left (cond b (some 14) none)
  left_clash true = refl
  left_clash false = left_room (leb (length (joined_bytes one two)) room)

  left_or : (a b : Option ℕ) → Three a → Left b → Left (or_fault a b)
  left_or none b h k = k
  left_or (some n) b h k = ap (λ m. held m join_causes) h

  pub join_told : Told one two (join_tables one two room)
  join_told = by (leb (length one) table_bytes && leb (length two) table_bytes)
    where
      by : (b : Bool) → Left (cond b (or_fault (first_fault partial_facts (table_fields one)) (or_fault (first_fault partial_facts (table_fields two)) (clash_fault one two))) (some 2))
      by true =
          left_or (first_fault partial_facts (table_fields one)) (or_fault (first_fault partial_facts (table_fields two)) (clash_fault one two)) (three_first (table_fields one))
          (left_or (first_fault partial_facts (table_fields two)) (clash_fault one two) (three_first (table_fields two))
          (left_clash (clashes (join_fields (table_fields one) (table_fields two)))))
      by false = refl

-- ---- tables without faults
module _ (t : List ℕ) (h : table_fault partial_facts t ≡ none) where
  few_and_clean : (leb (length t) table_bytes ≡ true) × (first_fault partial_facts (table_fields t) ≡ none)
  few_and_clean = by (leb (length t) table_bytes) (first_fault partial_facts (table_fields t)) h
    where
      by : (l : Bool) (f : Option ℕ) → cond l f (some 2) ≡ none → (l ≡ true) × (f ≡ none)
      by true f e = (refl, e)
      by false f e = let z : ◌≡◌ {A = ℕ} 0 1 = cc in absurd (omega arith)

  few : length t ≤ table_bytes
  few = leb-true (length t) table_bytes few_and_clean.0

-- The answer by the fields of the result and its length.
abbrev answer_of : ℕ → List ℕ → Answer
answer_of n fs = unless_fault (cond (clashes fs) (some 14) none) (wrote (packed 2 4 n fs))

module _ (a b : List ℕ) (ha : table_fault partial_facts a ≡ none) (hb : table_fault partial_facts b ≡ none) where
  abbrev fields : List ℕ
  fields = join_fields (table_fields a) (table_fields b)

  room_for : leb (length (joined_bytes a b)) table_bytes ≡ true
  room_for = le-leb (length (joined_bytes a b)) table_bytes (omega (arith, long a b, few a ha, few b hb))

  faultless_join : join_tables a b table_bytes ≡ answer_of (max (length a) (length b)) fields
  faultless_join = rw ((few_and_clean a ha).0, (few_and_clean b hb).0, (few_and_clean a ha).1, (few_and_clean b hb).1, room_for)

  -- What is written has no fault of its own.
  pub joined_faultless : clashes fields ≡ false → table_fault partial_facts (joined_bytes a b) ≡ none
  joined_faultless e =
      let p = (few_and_clean a ha).1 in
      let q = (few_and_clean b hb).1 in
      rw (room_for, fields_joined a b p q) (no_clash fields (narrow_join (table_fields a) (table_fields b) (clean (table_fields a) p) (clean (table_fields b) q)) e)

  -- What the result reads of each fact, silence being Absent.
  pub joined_reads : (f : ℕ) → heard (table_of (joined_bytes a b) f) ≡ presence (join_field (get_or (table_fields a) f 0) (get_or (table_fields b) f 0))
  joined_reads f = heard_field (joined_bytes a b) f ∙ ap presence (ap (λ fs. get_or fs f 0) (fields_joined a b (few_and_clean a ha).1 (few_and_clean b hb).1) ∙ join_at (table_fields a) (table_fields b) f)

-- ---- 14 exactly if some fact is Present in one table and Absent in the other, past its end too
pub record Clash (a b : List ℕ) : Type 0 where
  pub fact : ℕ
  pub opposed : Opposed (heard (table_of a fact)) (heard (table_of b fact))

pub clash_clashes : (a b : List ℕ) → Clash a b → clashes (join_fields (table_fields a) (table_fields b)) ≡ true
clash_clashes a b c =
    fact_clashes (join_fields (table_fields a) (table_fields b)) c.fact
    (join_at (table_fields a) (table_fields b) c.fact ∙ opposed_clash (get_or (table_fields a) c.fact 0) (get_or (table_fields b) c.fact 0) (subst₂ Opposed (heard_field a c.fact) (heard_field b c.fact) c.opposed))

module _ (a b : List ℕ) (ha : table_fault partial_facts a ≡ none) (hb : table_fault partial_facts b ≡ none) where
  pub clashes_clash : clashes (join_fields (table_fields a) (table_fields b)) ≡ true → Clash a b
  clashes_clash e =
      let c = clash_fact (join_fields (table_fields a) (table_fields b)) e in
      record {
        fact = c.fact;
        opposed =
            subst₂ Opposed (sym (heard_field a c.fact)) (sym (heard_field b c.fact))
            (clash_opposed (get_or (table_fields a) c.fact 0) (get_or (table_fields b) c.fact 0)
            (below_at (table_fields a) c.fact (clean (table_fields a) (few_and_clean a ha).1))
            (below_at (table_fields b) c.fact (clean (table_fields b) (few_and_clean b hb).1))
            (sym (join_at (table_fields a) (table_fields b) c.fact) ∙ c.written));
      }

  pub clash_refused : (room : ℕ) → Clash a b → join_tables a b room ≡ refusal 14
  clash_refused room c =
      rw ((few_and_clean a ha).0, (few_and_clean b hb).0, (few_and_clean a ha).1, (few_and_clean b hb).1, clash_clashes a b c)

-- Of any bytes: tables with which the call is refused by 14 have no faults of their own, and clash.
module _ (a b : List ℕ) (room : ℕ) (e : join_tables a b room ≡ refusal 14) where
  abbrev after : Bool → Bool → Option ℕ → Option ℕ → Bool → Bool → Answer
  after l m f g clash fits =
      unless_fault (cond (l && m) (or_fault f (or_fault g (cond clash (some 14) none))) (some 2)) (cond fits (wrote (joined_bytes a b)) (refusal 11))

  clashes_alone : (l m : Bool) (f g : Option ℕ) (clash fits : Bool) → Three f → Three g → after l m f g clash fits ≡ refusal 14 →
      (cond l f (some 2) ≡ none) × (cond m g (some 2) ≡ none) × (clash ≡ true)
  clashes_alone true true none none true fits h k r = (refl, refl, refl)
  clashes_alone true true none none false true h k r = let z : ◌≡◌ {A = ℕ} 0 1 = cc in absurd (omega arith)
  clashes_alone true true none none false false h k r = let z : ◌≡◌ {A = ℕ} 11 14 = cc in absurd (omega arith)
  clashes_alone true true none (some n) clash fits h k r = let z : n ≡ 14 = cc in absurd (omega (arith, k))
  clashes_alone true true (some n) g clash fits h k r = let z : n ≡ 14 = cc in absurd (omega (arith, h))
  clashes_alone true false f g clash fits h k r = let z : ◌≡◌ {A = ℕ} 2 14 = cc in absurd (omega arith)
  clashes_alone false m f g clash fits h k r = let z : ◌≡◌ {A = ℕ} 2 14 = cc in absurd (omega arith)

  pub refused_clash : (table_fault partial_facts a ≡ none) × (table_fault partial_facts b ≡ none) × Clash a b
  refused_clash =
      let c =
      clashes_alone (leb (length a) table_bytes) (leb (length b) table_bytes) (first_fault partial_facts (table_fields a)) (first_fault partial_facts (table_fields b))
      (clashes (join_fields (table_fields a) (table_fields b))) (leb (length (joined_bytes a b)) room) (three_first (table_fields a)) (three_first (table_fields b)) e in
      (c.0, c.1, clashes_clash a b c.0 c.1 c.2)

-- ---- the grouping of three: both ways it is the answer of all three, and a clash of an inner join is a clash of the whole
module _ (a b c : List ℕ) (ha : table_fault partial_facts a ≡ none) (hb : table_fault partial_facts b ≡ none) (hc : table_fault partial_facts c ≡ none) where
  abbrev A : List ℕ
  A = table_fields a

  abbrev B : List ℕ
  B = table_fields b

  abbrev C : List ℕ
  C = table_fields c

  abbrev most : ℕ
  most = max (max (length a) (length b)) (length c)

  abbrev three : Answer
  three = answer_of most (join_fields (join_fields A B) C)

  clashed : clashes (join_fields (join_fields A B) C) ≡ true → refusal 14 ≡ three
  clashed e = rw e refl

  left_at : (t : Bool) → clashes (join_fields A B) ≡ t → on_joined (unless_fault (cond t (some 14) none) (wrote (joined_bytes a b))) (λ t. join_tables t c table_bytes) ≡ three
  left_at true e = clashed (clash_stays (join_fields A B) C e)
  left_at false e =
      faultless_join (joined_bytes a b) c (joined_faultless a b ha hb e) hc
      ∙ ap₂ answer_of (ap (λ n. max n (length c)) (long a b)) (ap (λ l. join_fields l C) (fields_joined a b (few_and_clean a ha).1 (few_and_clean b hb).1))

  right_at : (t : Bool) → clashes (join_fields B C) ≡ t → on_joined (unless_fault (cond t (some 14) none) (wrote (joined_bytes b c))) (λ t. join_tables a t table_bytes) ≡ three
  right_at true e = clashed (ap clashes (fields_assoc A B C ∙ fields_comm A (join_fields B C)) ∙ clash_stays (join_fields B C) A e)
  right_at false e =
      faultless_join a (joined_bytes b c) ha (joined_faultless b c hb hc e)
      ∙ ap₂ answer_of
      (ap (max (length a)) (long b c) ∙ (let e : max (length a) (max (length b) (length c)) ≡ most = omega arith in e))
      (ap (join_fields A) (fields_joined b c (few_and_clean b hb).1 (few_and_clean c hc).1) ∙ sym (fields_assoc A B C))

  pub join_grouping : join_left a b c ≡ join_right a b c
  join_grouping =
      ap (λ x. on_joined x (λ t. join_tables t c table_bytes)) (faultless_join a b ha hb)
      ∙ left_at (clashes (join_fields A B)) refl
      ∙ sym (ap (λ x. on_joined x (λ t. join_tables a t table_bytes)) (faultless_join b c hb hc) ∙ right_at (clashes (join_fields B C)) refl)
