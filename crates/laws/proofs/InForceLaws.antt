-- The search finds the entry in force, and none exactly if no entry qualifies; the order of the entries never matters. Assumes nothing.
use Rattle.std.specs.Prelude.{◌≡◌, refl, ◌⊎◌, Bool, true, false, cond, not, ◌&&◌, ◌||◌, List, [], ◌∷◌, ◌++◌, ℕ, ◌<◌, ◌%◌, ◌^◌, eqb, ltb, leb, length}
use Rattle.std.proofs.Common.{sym, ◌∙◌, ap, ap₂, subst, inl, inr, arith, length-append, ltb-true, ltb-false, eqb-true, eq-eqb}
use Rattle.std.proofs.Math.Bool.{and-false}
use Rattle.std.proofs.Math.Option.{Option, none, some}
use Rattle.std.proofs.lemmas.Bool.{eqb-false, true≢false}
use Rattle.model.specs.Writing.{sheet_bits}
use Rattle.model.specs.Register.{Entry, entry_of, entries_of, register_words, same_sheet, is_among, faultless, is_register, qualifies, supersedes, later, in_force_from, in_force, refusal, sheet, sheet_of, sheet_in_force}
use Rattle.laws.proofs.ListLaws.{eqb_sym}
use Rattle.laws.specs.InForce.{IsIn, NoLater, NoneOf, Found, SameEntries, Told}

-- ---- the order: of two entries one supersedes, or doesn't and comes no later
by_order :
    (a b : Entry) (x y z : Bool) → ltb a.day b.day ≡ x → eqb a.day b.day ≡ y → ltb a.number b.number ≡ z →
    (supersedes b a ≡ true × NoLater a b) ⊎ (supersedes b a ≡ false × NoLater b a)
by_order a b true y z ex ey ez =
    let h = ltb-true a.day b.day ex in
    inl (rw ex refl, record { days = omega arith; numbers = λ k. absurd (omega (arith, k, h)) })
by_order a b false true true ex ey ez =
    let h = ltb-true a.number b.number ez in
    let e = eqb-true a.day b.day ey in
    inl (rw (ex, ey, ez) refl, record { days = omega arith; numbers = λ k. omega arith })
by_order a b false true false ex ey ez =
    let h = ltb-false a.number b.number ez in
    let e = eqb-true a.day b.day ey in
    inr (rw (ex, ey, ez) refl, record { days = omega arith; numbers = λ k. omega arith })
by_order a b false false z ex ey ez =
    let h = ltb-false a.day b.day ex in
    inr (rw (ex, ey) refl, record { days = h; numbers = λ k. absurd (eqb-false a.day b.day ey (sym k)) })

order : (a b : Entry) → (supersedes b a ≡ true × NoLater a b) ⊎ (supersedes b a ≡ false × NoLater b a)
order a b = by_order a b (ltb a.day b.day) (eqb a.day b.day) (ltb a.number b.number) refl refl refl

no_later_self : (a : Entry) → NoLater a a
no_later_self a = record { days = omega arith; numbers = λ k. omega arith }

no_later_then : (a b c : Entry) → NoLater a b → NoLater b c → NoLater a c
no_later_then a b c h k =
    record {
      days = omega (arith, h.days, k.days);
      numbers = λ l. omega (arith, h.numbers (omega (arith, h.days, k.days, l)), k.numbers (omega (arith, h.days, k.days, l)));
    }

same_number : (a b : Entry) → NoLater a b → NoLater b a → a.number ≡ b.number
same_number a b h k = omega (arith, h.numbers (omega (arith, h.days, k.days)), k.numbers (omega (arith, h.days, k.days)))

-- ---- two neighbours exchanged stand in the list as before
is_in_exchanged : (a b : Entry) (fs es : List Entry) (e : Entry) → IsIn e (es ++ a ∷ b ∷ fs) → IsIn e (es ++ b ∷ a ∷ fs)
is_in_exchanged a b fs [] e (inl k) = inr (inl k)
is_in_exchanged a b fs [] e (inr (inl k)) = inl k
is_in_exchanged a b fs [] e (inr (inr i)) = inr (inr i)
is_in_exchanged a b fs (c ∷ es) e (inl k) = inl k
is_in_exchanged a b fs (c ∷ es) e (inr i) = inr (is_in_exchanged a b fs es e i)

module _ (group day : ℕ) where
  -- ---- a list with more entries, each of which comes no later than one that qualifies, has the same entry in force
  record NotAfter (es : List Entry) (e : Entry) : Type 0 where
    it : Entry
    listed : IsIn it es
    qualified : qualifies group day it ≡ true
    comes : NoLater e it

  self : (es : List Entry) (e : Entry) → IsIn e es → qualifies group day e ≡ true → NotAfter es e
  self es e i q = record { it = e; listed = i; qualified = q; comes = no_later_self e }

  by_test : (e : Entry) (b : Bool) → qualifies group day e ≡ b → (qualifies group day e ≡ true → ⊥) → qualifies group day e ≡ false
  by_test e true q never = absurd (never q)
  by_test e false q never = q

  more :
      (es fs : List Entry) (r : Option Entry) → ((e : Entry) → IsIn e es → IsIn e fs) →
      ((e : Entry) → IsIn e fs → qualifies group day e ≡ true → NotAfter es e) → Found group day es r → Found group day fs r
  more es fs none to back h = record { none_qualifies = λ e i. by_test e (qualifies group day e) refl (λ q. never e (back e i q)) }
    where
      never : (e : Entry) → NotAfter es e → ⊥
      never e n = true≢false (sym n.qualified ∙ h.none_qualifies n.it n.listed)
  more es fs (some b) to back h =
      record {
        listed = to b h.listed;
        qualified = h.qualified;
        latest = λ e i q. let n = back e i q in no_later_then e n.it b n.comes (h.latest n.it n.listed n.qualified);
      }

  -- ---- the search that has found `a`, and the search that has found none
  one : (a : Entry) → qualifies group day a ≡ true → Found group day (a ∷ []) (some a)
  one a q = record { listed = inl refl; qualified = q; latest = λ e i k. only e i }
    where
      only : (e : Entry) → IsIn e (a ∷ []) → NoLater e a
      only e (inl k) = subst (λ x. NoLater x a) (sym k) (no_later_self a)
      only e (inr i) = absurd i

  -- An entry that doesn't qualify is passed over.
  passed : (e : Entry) (es : List Entry) (r : Option Entry) → qualifies group day e ≡ false → Found group day es r → Found group day (e ∷ es) r
  passed e es r q h = more es (e ∷ es) r (λ x i. inr i) back h
    where
      back : (x : Entry) → IsIn x (e ∷ es) → qualifies group day x ≡ true → NotAfter es x
      back x (inl k) y = absurd (true≢false (sym y ∙ ap (qualifies group day) k ∙ q))
      back x (inr i) y = self es x i y

  -- Of two that qualify the one that comes no later may go.
  dropped :
      (a b : Entry) (es : List Entry) (r : Option Entry) → qualifies group day b ≡ true → NoLater a b → Found group day (b ∷ es) r → Found group day (a ∷ b ∷ es) r
  dropped a b es r q o h = more (b ∷ es) (a ∷ b ∷ es) r (λ x i. inr i) back h
    where
      back : (x : Entry) → IsIn x (a ∷ b ∷ es) → qualifies group day x ≡ true → NotAfter (b ∷ es) x
      back x (inl k) y = record { it = b; listed = inl refl; qualified = q; comes = subst (λ z. NoLater z b) (sym k) o }
      back x (inr i) y = self (b ∷ es) x i y

  swapped : (a b : Entry) (es : List Entry) (r : Option Entry) → Found group day (a ∷ b ∷ es) r → Found group day (b ∷ a ∷ es) r
  swapped a b es r h = more (a ∷ b ∷ es) (b ∷ a ∷ es) r (is_in_exchanged a b es []) (λ x i y. self (a ∷ b ∷ es) x (is_in_exchanged b a es [] x i) y) h

  abbrev on : Entry → List Entry → Option Entry
  on a es = in_force_from group day (some a) es

  abbrev From : List Entry → Type 0
  From es = (a : Entry) → qualifies group day a ≡ true → Found group day (a ∷ es) (on a es)

  chosen :
      (e : Entry) (es : List Entry) (a : Entry) → From es → qualifies group day a ≡ true → qualifies group day e ≡ true →
      (supersedes e a ≡ true × NoLater a e) ⊎ (supersedes e a ≡ false × NoLater e a) →
      Found group day (a ∷ e ∷ es) (in_force_from group day (some (cond (supersedes e a) e a)) es)
  chosen e es a h q k (inl o) = rw o.0 (dropped a e es (on e es) k o.1 (h e k))
  chosen e es a h q k (inr o) = rw o.0 (swapped e a es (on a es) (dropped e a es (on a es) q o.1 (h a q)))

  after :
      (e : Entry) (es : List Entry) (a : Entry) → From es → qualifies group day a ≡ true → (b : Bool) → qualifies group day e ≡ b →
      Found group day (a ∷ e ∷ es) (in_force_from group day (cond b (later (some a) e) (some a)) es)
  after e es a h q false k = swapped e a es (on a es) (passed e (a ∷ es) (on a es) k (h a q))
  after e es a h q true k = chosen e es a h q k (order a e)

  from : (es : List Entry) → From es
  from [] a q = one a q
  from (e ∷ es) a q = after e es a (from es) q (qualifies group day e) refl

  -- ---- the entry in force of any list
  pub in_force_lem : (es : List Entry) → Found group day es (in_force group day es)
  in_force_lem [] = record { none_qualifies = λ e i. absurd i }
  in_force_lem (e ∷ es) = first (in_force_lem es) (qualifies group day e) refl
    where
      first : Found group day es (in_force group day es) → (b : Bool) → qualifies group day e ≡ b → Found group day (e ∷ es) (in_force_from group day (cond b (later none e) none) es)
      first h false k = passed e es (in_force group day es) k h
      first h true k = from es e k

  -- None exactly if no entry qualifies.
  pub none_if : (es : List Entry) → NoneOf group day es → in_force group day es ≡ none
  none_if es h = by (in_force group day es) (in_force_lem es)
    where
      by : (r : Option Entry) → Found group day es r → r ≡ none
      by none f = refl
      by (some b) f = absurd (true≢false (sym f.qualified ∙ h.none_qualifies b f.listed))

  pub only_if : (es : List Entry) → in_force group day es ≡ none → NoneOf group day es
  only_if es e = subst (Found group day es) e (in_force_lem es)

  -- ---- the order of the entries never matters
  one_sheet : (es : List Entry) (r s : Option Entry) → Found group day es r → Found group day es s → sheet_of r ≡ sheet_of s
  one_sheet es none none f g = refl
  one_sheet es none (some b) f g = absurd (true≢false (sym g.qualified ∙ f.none_qualifies b g.listed))
  one_sheet es (some a) none f g = absurd (true≢false (sym f.qualified ∙ g.none_qualifies a f.listed))
  one_sheet es (some a) (some b) f g =
      ap sheet (same_number a b (g.latest a f.listed f.qualified) (f.latest b g.listed g.qualified))

  pub any_order : (es fs : List Entry) → SameEntries es fs → sheet_of (in_force group day es) ≡ sheet_of (in_force group day fs)
  any_order es fs h =
      one_sheet fs (in_force group day es) (in_force group day fs) (more es fs (in_force group day es) h.to (λ e i q. self es e (h.from e i) q) (in_force_lem es)) (in_force_lem fs)

-- ---- what the call's answer tells
-- An entry's number is one that a record can carry.
pub below : (ws : List ℕ) (e : Entry) → IsIn e (entries_of ws) → e.number < 2 ^ sheet_bits
below [] e i = absurd i
below (w ∷ []) e i = absurd i
below (w ∷ d ∷ ws) e (inl k) = omega (arith, ap (λ x. x.number) k)
below (w ∷ d ∷ ws) e (inr i) = below ws e i

pub in_force_told : (ws : List ℕ) (group day : ℕ) → Told ws group day (sheet_in_force ws group day)
in_force_told ws group day = by (is_register ws) refl (in_force group day (entries_of ws)) (in_force_lem group day (entries_of ws))
  where
    by : (b : Bool) → is_register ws ≡ b → (r : Option Entry) → Found group day (entries_of ws) r → Told ws group day (cond b (sheet_of r) (refusal 15))
    by false k r h = (refl, k)
    by true k none h = (k, h)
    by true k (some e) h = record { register = k; it = e; in_force = h; numbered = refl; below = below ws e h.listed }

-- ---- the order of the entries never matters to the call either: two neighbours exchanged give the same answer, a refusal too
eqb_comm : (m n : ℕ) → eqb m n ≡ eqb n m
eqb_comm m n = by (eqb m n) refl
  where
    by : (b : Bool) → eqb m n ≡ b → b ≡ eqb n m
    by true e = sym (eq-eqb n m (sym (eqb-true m n e)))
    by false e = sym (eqb_sym m n e)

same_comm : (a b : Entry) → same_sheet a b ≡ same_sheet b a
same_comm a b = ap₂ ◌&&◌ (eqb_comm a.group b.group) (eqb_comm a.number b.number)

-- Two entries' zero fields, whether they are of one sheet, whether each is among the rest, and the rest.
tests_exchanged : (y z s a b f : Bool) → (y && not (s || a) && (z && not b && f)) ≡ (z && not (s || b) && (y && not a && f))
tests_exchanged false z s a b f = sym (and-false (z && not (s || b)))
tests_exchanged true false s a b f = and-false (not (s || a))
tests_exchanged true true true a b f = refl
tests_exchanged true true false true true f = refl
tests_exchanged true true false true false f = refl
tests_exchanged true true false false true f = refl
tests_exchanged true true false false false f = refl

pub either_exchanged : (a b c : Bool) → (a || (b || c)) ≡ (b || (a || c))
either_exchanged true true c = refl
either_exchanged true false c = refl
either_exchanged false b c = refl

module _ (a b : Entry) (fs : List Entry) where
  among_exchanged : (e : Entry) (es : List Entry) → is_among e (es ++ a ∷ b ∷ fs) ≡ is_among e (es ++ b ∷ a ∷ fs)
  among_exchanged e [] = either_exchanged (same_sheet a e) (same_sheet b e) (is_among e fs)
  among_exchanged e (c ∷ es) = ap (λ x. same_sheet c e || x) (among_exchanged e es)

  faultless_exchanged : (es : List Entry) → faultless (es ++ a ∷ b ∷ fs) ≡ faultless (es ++ b ∷ a ∷ fs)
  faultless_exchanged [] =
      ap (λ s. eqb a.zero 0 && not (s || is_among a fs) && (eqb b.zero 0 && not (is_among b fs) && faultless fs)) (same_comm b a)
      ∙ tests_exchanged (eqb a.zero 0) (eqb b.zero 0) (same_sheet a b) (is_among a fs) (is_among b fs) (faultless fs)
  faultless_exchanged (c ∷ es) = ap₂ (λ x y. eqb c.zero 0 && not x && y) (among_exchanged c es) (faultless_exchanged es)

-- Words that end with an entry, and the words after them.
entries_append : (ws vs : List ℕ) → length ws % 2 ≡ 0 → entries_of (ws ++ vs) ≡ entries_of ws ++ entries_of vs
entries_append [] vs h = refl
entries_append (w ∷ []) vs h = absurd (omega arith)
entries_append (w ∷ d ∷ ws) vs h = ap (λ es. entry_of w d ∷ es) (entries_append ws vs (omega (arith, h)))

module _ (ws vs : List ℕ) (w d v c : ℕ) (even : length ws % 2 ≡ 0) where
  abbrev one_way : List ℕ
  one_way = ws ++ w ∷ d ∷ v ∷ c ∷ vs

  abbrev other_way : List ℕ
  other_way = ws ++ v ∷ c ∷ w ∷ d ∷ vs

  abbrev a : Entry
  a = entry_of w d

  abbrev b : Entry
  b = entry_of v c

  abbrev es : List Entry
  es = entries_of ws

  abbrev fs : List Entry
  fs = entries_of vs

  long : length one_way ≡ length other_way
  long = length-append ws (w ∷ d ∷ v ∷ c ∷ vs) ∙ sym (length-append ws (v ∷ c ∷ w ∷ d ∷ vs))

  entries_one : entries_of one_way ≡ es ++ a ∷ b ∷ fs
  entries_one = entries_append ws (w ∷ d ∷ v ∷ c ∷ vs) even

  entries_other : entries_of other_way ≡ es ++ b ∷ a ∷ fs
  entries_other = entries_append ws (v ∷ c ∷ w ∷ d ∷ vs) even

  pub register_exchanged : is_register one_way ≡ is_register other_way
  register_exchanged =
      ap₂ (λ n f. eqb (n % 2) 0 && leb n register_words && f) long
      (ap faultless entries_one ∙ faultless_exchanged a b fs es ∙ sym (ap faultless entries_other))

  pub in_force_exchanged : (group day : ℕ) → sheet_in_force one_way group day ≡ sheet_in_force other_way group day
  in_force_exchanged group day =
      ap₂ (λ r s. cond r s (refusal 15)) register_exchanged
      (ap (λ l. sheet_of (in_force group day l)) entries_one
      ∙ any_order group day (es ++ a ∷ b ∷ fs) (es ++ b ∷ a ∷ fs) (record { to = is_in_exchanged a b fs es; from = is_in_exchanged b a fs es })
      ∙ sym (ap (λ l. sheet_of (in_force group day l)) entries_other))
