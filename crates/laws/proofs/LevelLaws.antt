-- A table is accepted exactly when it is good; an accepted table's outcomes, and sets of products, are lawful, and are written and read back. A call by a table.
-- Assumes nothing.
use Rattle.std.specs.Prelude.{◌≡◌, refl, Bool, true, false, cond, ◌&&◌, List, [], ◌∷◌, ℕ, zero, suc, ◌+◌, ◌-◌, ◌*◌, ◌/◌, ◌%◌, ◌^◌, ◌≤◌, ◌<◌, eqb, ltb, leb, length, get_or}
use Rattle.std.proofs.Common.{sym, ◌∙◌, ap, subst, arith, mul-le-mul_right, suc-mul, mod-lt, div-add-mod', div-lt_iff_lt-mul, eqb-true, eq-eqb, leb-true, le-leb, ltb-true, ltb-false, lt-ltb, le-ltb}
use Rattle.std.proofs.Math.Option.{Option, none, some}
use Rattle.std.proofs.lemmas.Bool.{eqb-false, and_parts, and_from}
use Rattle.model.specs.Outcome.{Outcomes, outcome_bits, product_sets}
use Rattle.model.specs.Calls.{Answer, refusal, wrote}
use Rattle.model.specs.Levels.{OutcomeTable, entry_from, meet_by, join_by, meet_of, join_of, outcome_count, outcomes_of, every_below, every_byte, pairwise, commutes, associate, associates, absorbs, sized, closed, lawful_pair, accepts, acceptable, by_table}
use Rattle.laws.specs.Products.{Lawful, Written}
use Rattle.laws.proofs.ListLaws.{true_or_false}
use Rattle.laws.proofs.ProductLaws.{lawful_products, written_products, below_again, below_at}
use Rattle.laws.specs.Lattice.{Lattice, Good, InTable}

-- ---- tests
less : (a n : ℕ) → a < suc n → (a ≡ n → ⊥) → a < n
less a n h k = true_or_false (ltb a n) (λ e. ltb-true a n e) (λ e. let m : n ≤ a = ltb-false a n e in absurd (k (omega arith)))

pub below_passes : (n : ℕ) (p : ℕ → Bool) → every_below n p ≡ true → (a : ℕ) → a < n → p a ≡ true
below_passes zero p e a h = absurd (omega arith)
below_passes (suc n) p e a h =
    true_or_false (eqb a n)
    (λ k. ap p (eqb-true a n k) ∙ (and_parts (every_below n p) (p n) e).1)
    (λ k. below_passes n p (and_parts (every_below n p) (p n) e).0 a (less a n h (eqb-false a n k)))

pub passes_below : (n : ℕ) (p : ℕ → Bool) → ((a : ℕ) → a < n → p a ≡ true) → every_below n p ≡ true
passes_below zero p f = refl
passes_below (suc n) p f = and_from (every_below n p) (p n) (passes_below n p (λ a h. f a (omega arith))) (f n (omega arith))

pub byte_passes : (p : ℕ → Bool) (bs : List ℕ) (i d : ℕ) → every_byte p bs ≡ true → i < length bs → p (get_or bs i d) ≡ true
byte_passes p [] i d e h = absurd (omega arith)
byte_passes p (b ∷ bs) zero d e h = (and_parts (p b) (every_byte p bs) e).0
byte_passes p (b ∷ bs) (suc i) d e h = byte_passes p bs i d (and_parts (p b) (every_byte p bs) e).1 (omega arith)

-- The place of a pair is within its half.
place : (n a b : ℕ) → a < n → b < n → a * n + b < n * n
place n a b h k =
    let more : suc a * n ≤ n * n = mul-le-mul_right n h in
    let is : suc a * n ≡ a * n + n = suc-mul a n in
    omega (arith, more, is)

-- ---- an accepted table is good
module _ (t : OutcomeTable) where
  -- Of levels, the byte; of others, the number of levels.
  entry_is : (from a b : ℕ) → a < t.levels → b < t.levels → entry_from t from a b ≡ get_or t.bytes (from + a * t.levels + b) 0
  entry_is from a b h k = rw (lt-ltb a t.levels h, lt-ltb b t.levels k)

  entry_left : (from a b : ℕ) → t.levels ≤ a → entry_from t from a b ≡ t.levels
  entry_left from a b h = rw (le-ltb a t.levels h)

  entry_by : (from a b : ℕ) (x : Bool) → t.levels ≤ b → cond (x && ltb b t.levels) (get_or t.bytes (from + a * t.levels + b) 0) t.levels ≡ t.levels
  entry_by from a b true h = rw (le-ltb b t.levels h)
  entry_by from a b false h = refl

  entry_right : (from a b : ℕ) → t.levels ≤ b → entry_from t from a b ≡ t.levels
  entry_right from a b h = entry_by from a b (ltb a t.levels) h

  module _ (ok : accepts t ≡ true) where
    is_sized : sized t ≡ true
    unfolding accepts
    is_sized = (and_parts (sized t) (closed t && pairwise t.levels (lawful_pair t)) ok).0

    rest_is : (closed t && pairwise t.levels (lawful_pair t)) ≡ true
    unfolding accepts
    rest_is = (and_parts (sized t) (closed t && pairwise t.levels (lawful_pair t)) ok).1

    is_closed : closed t ≡ true
    is_closed = (and_parts (closed t) (pairwise t.levels (lawful_pair t)) rest_is).0

    one : 1 ≤ t.levels
    one = leb-true 1 t.levels ((and_parts (leb 1 t.levels) _ is_sized).0)

    sized_rest : (leb t.levels 16 && eqb (length t.bytes) (2 * (t.levels * t.levels))) ≡ true
    sized_rest = (and_parts (leb 1 t.levels) _ is_sized).1

    few : t.levels ≤ 16
    few = leb-true t.levels 16 ((and_parts (leb t.levels 16) _ sized_rest).0)

    long_is : length t.bytes ≡ 2 * (t.levels * t.levels)
    long_is = eqb-true _ _ ((and_parts (leb t.levels 16) _ sized_rest).1)

    pair : (a b : ℕ) → a < t.levels → b < t.levels → lawful_pair t a b ≡ true
    pair a b h k =
        below_passes t.levels (λ b. lawful_pair t a b)
        (below_passes t.levels (λ a. every_below t.levels (λ b. lawful_pair t a b)) (and_parts (closed t) (pairwise t.levels (lawful_pair t)) rest_is).1 a h) b k

    stays_from : (from a b : ℕ) → from ≤ t.levels * t.levels → a < t.levels → b < t.levels → entry_from t from a b < t.levels
    stays_from from a b f h k =
        let inside : from + a * t.levels + b < length t.bytes = omega (arith, place t.levels a b h k, long_is) in
        let small : get_or t.bytes (from + a * t.levels + b) 0 < t.levels = ltb-true _ _ (byte_passes (λ b. ltb b t.levels) t.bytes (from + a * t.levels + b) 0 is_closed inside) in
        subst (λ x. x < t.levels) (sym (entry_is from a b h k)) small

    abbrev Comm : ℕ → ℕ → Bool
    Comm a b = commutes (meet_by t) a b && commutes (join_by t) a b

    abbrev Absorb : ℕ → ℕ → Bool
    Absorb a b = absorbs (meet_by t) (join_by t) a b && absorbs (join_by t) (meet_by t) a b

    abbrev Assoc : ℕ → ℕ → Bool
    Assoc a b = associates t.levels (meet_by t) a b && associates t.levels (join_by t) a b

    comm_at : (a b : ℕ) → a < t.levels → b < t.levels → Comm a b ≡ true
    comm_at a b h k = (and_parts (Comm a b) (Absorb a b && Assoc a b) (pair a b h k)).0

    absorb_at : (a b : ℕ) → a < t.levels → b < t.levels → Absorb a b ≡ true
    absorb_at a b h k = (and_parts (Absorb a b) (Assoc a b) ((and_parts (Comm a b) (Absorb a b && Assoc a b) (pair a b h k)).1)).0

    assoc_at : (a b : ℕ) → a < t.levels → b < t.levels → Assoc a b ≡ true
    assoc_at a b h k = (and_parts (Absorb a b) (Assoc a b) ((and_parts (Comm a b) (Absorb a b && Assoc a b) (pair a b h k)).1)).1

    pub good : Good t
    good = record {
      some_levels = one;
      few_levels = few;
      long = long_is;
      laws = record {
        meet_stays = λ a b h k. stays_from 0 a b (omega arith) h k;
        join_stays = λ a b h k. stays_from (t.levels * t.levels) a b (omega arith) h k;
        meet_commutes = λ a b h k. eqb-true _ _ ((and_parts (commutes (meet_by t) a b) _ (comm_at a b h k)).0);
        join_commutes = λ a b h k. eqb-true _ _ ((and_parts (commutes (meet_by t) a b) _ (comm_at a b h k)).1);
        meet_associates = λ a b c h k l. eqb-true _ _ (below_passes t.levels (associate (meet_by t) a b) ((and_parts (associates t.levels (meet_by t) a b) _ (assoc_at a b h k)).0) c l);
        join_associates = λ a b c h k l. eqb-true _ _ (below_passes t.levels (associate (join_by t) a b) ((and_parts (associates t.levels (meet_by t) a b) _ (assoc_at a b h k)).1) c l);
        meet_absorbs = λ a b h k. eqb-true _ _ ((and_parts (absorbs (meet_by t) (join_by t) a b) _ (absorb_at a b h k)).0);
        join_absorbs = λ a b h k. eqb-true _ _ ((and_parts (absorbs (meet_by t) (join_by t) a b) _ (absorb_at a b h k)).1);
      };
    }

  -- ---- and a good one is accepted: nothing else is asked
  -- Every byte stands for a pair, of a meet or of a join.
  byte_all : (p : ℕ → Bool) (bs : List ℕ) → ((i : ℕ) → i < length bs → p (get_or bs i 0) ≡ true) → every_byte p bs ≡ true
  byte_all p [] f = refl
  byte_all p (b ∷ bs) f = and_from (p b) (every_byte p bs) (f 0 (omega arith)) (byte_all p bs (λ i h. f (suc i) (omega arith)))

  module _ (g : Good t) where
    abbrev M : ℕ
    M = t.levels

    half : (from i : ℕ) → ((a b : ℕ) → a < M → b < M → entry_from t from a b < M) → i < M * M → ltb (get_or t.bytes (from + i) 0) M ≡ true
    half from i stays h =
        let some_level : 0 < M = g.some_levels in
        let a-is : i / M < M = (div-lt_iff_lt-mul some_level).1 h in
        let b-is : i % M < M = mod-lt i some_level in
        let split : i / M * M + i % M ≡ i = div-add-mod' i M in
        let at : from + i / M * M + i % M ≡ from + i = omega (arith, split) in
        lt-ltb _ M (subst (λ x. x < M) (entry_is from (i / M) (i % M) a-is b-is ∙ ap (λ x. get_or t.bytes x 0) at) (stays (i / M) (i % M) a-is b-is))

    closes : closed t ≡ true
    closes = byte_all (λ b. ltb b M) t.bytes (λ i h.
        true_or_false (ltb i (M * M))
        (λ e. let is : 0 + i ≡ i = omega arith in ap (λ x. ltb (get_or t.bytes x 0) M) (sym is) ∙ half 0 i g.laws.meet_stays (ltb-true i (M * M) e))
        (λ e.
        let from : M * M ≤ i = ltb-false i (M * M) e in
        let is : M * M + (i - M * M) ≡ i = omega arith in
        ap (λ x. ltb (get_or t.bytes x 0) M) (sym is) ∙ half (M * M) (i - M * M) g.laws.join_stays (omega (arith, g.long))))

    pair_good : (a b : ℕ) → a < M → b < M → lawful_pair t a b ≡ true
    pair_good a b h k =
        let l = g.laws in
        and_from _ _ (and_from _ _ (eq-eqb _ _ (l.meet_commutes a b h k)) (eq-eqb _ _ (l.join_commutes a b h k)))
        (and_from _ _ (and_from _ _ (eq-eqb _ _ (l.meet_absorbs a b h k)) (eq-eqb _ _ (l.join_absorbs a b h k)))
        (and_from _ _ (passes_below M _ (λ c x. eq-eqb _ _ (l.meet_associates a b c h k x))) (passes_below M _ (λ c x. eq-eqb _ _ (l.join_associates a b c h k x)))))

    pub good_accepted : accepts t ≡ true
    unfolding accepts
    good_accepted =
        and_from (sized t) _ (and_from (leb 1 M) _ (le-leb 1 M g.some_levels) (and_from (leb M 16) _ (le-leb M 16 g.few_levels) (eq-eqb _ _ g.long)))
        (and_from (closed t) _ closes (passes_below M (λ a. every_below M (λ b. lawful_pair t a b)) (λ a h. passes_below M (λ b. lawful_pair t a b) (λ b k. pair_good a b h k))))

-- ---- every number, level or not: what is no level absorbs
module _ (t : OutcomeTable) (g : Good t) where
  abbrev N : ℕ
  N = t.levels

  laws : Lattice N (meet_by t) (join_by t)
  laws = g.laws

  -- One half of the table, from a place on.
  module _ (from : ℕ) (stays : (a b : ℕ) → a < N → b < N → entry_from t from a b < N) where
    abbrev op : ℕ → ℕ → ℕ
    op a b = entry_from t from a b

    comm_all : ((a b : ℕ) → a < N → b < N → op a b ≡ op b a) → (a b : ℕ) → op a b ≡ op b a
    comm_all law a b =
        true_or_false (ltb a N)
        (λ h. true_or_false (ltb b N)
        (λ k. law a b (ltb-true a N h) (ltb-true b N k))
        (λ k. entry_right t from a b (ltb-false b N k) ∙ sym (entry_left t from b a (ltb-false b N k))))
        (λ h. entry_left t from a b (ltb-false a N h) ∙ sym (entry_right t from b a (ltb-false a N h)))

    -- An operand that is no level makes both sides N.
    none_left : (x c : ℕ) → x ≡ N → op x c ≡ N
    none_left x c e = entry_left t from x c (omega arith)

    none_right : (a x : ℕ) → x ≡ N → op a x ≡ N
    none_right a x e = entry_right t from a x (omega arith)

    assoc_all : ((a b c : ℕ) → a < N → b < N → c < N → op (op a b) c ≡ op a (op b c)) → (a b c : ℕ) → op (op a b) c ≡ op a (op b c)
    assoc_all law a b c =
        true_or_false (ltb a N)
        (λ h. true_or_false (ltb b N)
        (λ k. true_or_false (ltb c N)
        (λ l. law a b c (ltb-true a N h) (ltb-true b N k) (ltb-true c N l))
        (λ l. entry_right t from (op a b) c (ltb-false c N l) ∙ sym (none_right a (op b c) (entry_right t from b c (ltb-false c N l)))))
        (λ k. none_left (op a b) c (entry_right t from a b (ltb-false b N k)) ∙ sym (none_right a (op b c) (entry_left t from b c (ltb-false b N k)))))
        (λ h. none_left (op a b) c (entry_left t from a b (ltb-false a N h)) ∙ sym (entry_left t from a (op b c) (ltb-false a N h)))

  pub lawful_levels : Lawful (outcomes_of (some t))
  unfolding meet_of join_of
  lawful_levels = record {
    same_sound = eqb-true;
    meet_comm = comm_all 0 laws.meet_stays laws.meet_commutes;
    join_comm = comm_all (N * N) laws.join_stays laws.join_commutes;
    meet_assoc = assoc_all 0 laws.meet_stays laws.meet_associates;
    join_assoc = assoc_all (N * N) laws.join_stays laws.join_associates;
  }

  -- Absorption makes both operations idempotent.
  pub meet_idem : (a : ℕ) → a < N → meet_by t a a ≡ a
  meet_idem a h = ap (meet_by t a) (sym (laws.join_absorbs a a h h)) ∙ laws.meet_absorbs a (meet_by t a a) h (laws.meet_stays a a h h)

  pub join_idem : (a : ℕ) → a < N → join_by t a a ≡ a
  join_idem a h = ap (join_by t a) (sym (laws.meet_absorbs a a h h)) ∙ laws.join_absorbs a (join_by t a a) h (laws.join_stays a a h h)

-- ---- one statement for tables and for product sets
pub lawful_of : (g : Option OutcomeTable) → acceptable g ≡ true → Lawful (outcomes_of g)
unfolding meet_of join_of outcome_count
lawful_of none ok = lawful_products
lawful_of (some t) ok = lawful_levels t (good t ok)

stay_of : (g : Option OutcomeTable) → acceptable g ≡ true → (a b : ℕ) → InTable g a → InTable g b → InTable g (meet_of g a b) × InTable g (join_of g a b)
unfolding meet_of join_of outcome_count
stay_of none ok a b h k = (written_products.meets a b h k, written_products.joins a b h k)
stay_of (some t) ok a b h k = ((good t ok).laws.meet_stays a b h k, (good t ok).laws.join_stays a b h k)

pub few_outcomes : (g : Option OutcomeTable) → acceptable g ≡ true → outcome_count g ≤ 2 ^ outcome_bits
unfolding outcome_count
few_outcomes none ok = omega arith
few_outcomes (some t) ok = omega (arith, (good t ok).few_levels)

pub written_of : (g : Option OutcomeTable) → acceptable g ≡ true → Written (outcomes_of g) (InTable g)
written_of g ok = record {
  meets = λ a b h k. (stay_of g ok a b h k).0;
  joins = λ a b h k. (stay_of g ok a b h k).1;
  small = λ o h. omega (arith, few_outcomes g ok);
  again = λ o h. below_again (outcome_count g) o h;
  sound = λ n. below_at (outcome_count g) n (InTable g) (ltb n (outcome_count g)) (λ e. ltb-true n (outcome_count g) e);
  only = λ n. below_at (outcome_count g) n (λ o. o ≡ n) (ltb n (outcome_count g)) (λ _. refl);
}

-- No table: product sets, whatever is computed with them.
pub none_is : outcomes_of none ≡ product_sets
unfolding meet_of join_of outcome_count
none_is = refl

-- ---- calls by a table
-- One that wrote was given none or an accepted one.
pub table_wrote : (g : Option OutcomeTable) (call : Outcomes → Answer) (ws : List ℕ) → by_table g call ≡ wrote ws → (acceptable g ≡ true) × (call (outcomes_of g) ≡ wrote ws)
table_wrote g call ws e = by (acceptable g) e
  where
    by : (b : Bool) → cond b (call (outcomes_of g)) (refusal 21) ≡ wrote ws → (b ≡ true) × (call (outcomes_of g) ≡ wrote ws)
    by true e = (refl, e)
    by false e = (cc, cc)

pub by_accepted : (g : Option OutcomeTable) (call : Outcomes → Answer) → acceptable g ≡ true → by_table g call ≡ call (outcomes_of g)
by_accepted g call ok = ap (λ b. cond b (call (outcomes_of g)) (refusal 21)) ok

pub by_refused : (g : Option OutcomeTable) (call : Outcomes → Answer) → acceptable g ≡ false → by_table g call ≡ refusal 21
by_refused g call e = ap (λ b. cond b (call (outcomes_of g)) (refusal 21)) e
