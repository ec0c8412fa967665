-- A chain of fields that are read one after the other, each with 19 when the bits end before it, is one test of the length of all of them: past the end bits
-- are 0, and what was read of them is never asked for.
use Rattle.std.specs.Prelude.{◌≡◌, refl, Bool, true, false, cond, List, [], ◌∷◌, ℕ, zero, suc, ◌+◌, ◌-◌, ◌*◌, ◌^◌, ◌≤◌, ◌<◌, eqb, ltb, leb, length, drop, replicate}
use Rattle.std.proofs.Common.{sym, ◌∙◌, ap, ap₂, subst, mul-suc, arith, leb-true, leb-false, le-leb, le-ltb, length-drop, drop-drop}
use Rattle.std.proofs.Math.Option.{Option, none, some}
use Rattle.std.proofs.lemmas.Bool.{lt-leb, eqb-false}
use Rattle.model.specs.Fields.{joined}
use Rattle.model.specs.Reading.{Parsed, refuse, got, next}
use Rattle.model.specs.Bits.{take_bits, take_run}
use Rattle.model.specs.Tight.{take_optional, take_each}
use Rattle.laws.proofs.WordLaws.{joined_small, narrow_drop}
use Rattle.laws.proofs.BitLaws.{Bits}
use Rattle.bits.specs.Widths.{mark_width}
use Rattle.bits.specs.WidthLaws.{mark_absent, mark_there}
use Rattle.unpack.specs.Nodes.{field_in, fields_in, mark_in}

-- What is read from the first bits, if they are there.
abbrev pub need : {A : Type 0} → ℕ → List ℕ → Parsed A → Parsed A
need s bs p = cond (leb s (length bs)) p (refuse 19)

pub need_there : {A : Type 0} (s : ℕ) (bs : List ℕ) (p : Parsed A) → s ≤ length bs → need s bs p ≡ p
need_there s bs p h = ap (λ b. cond b p (refuse 19)) (le-leb s (length bs) h)

pub need_ended : {A : Type 0} (s : ℕ) (bs : List ℕ) (p : Parsed A) → length bs < s → need s bs p ≡ refuse 19
need_ended s bs p h = ap (λ b. cond b p (refuse 19)) (lt-leb s (length bs) h)

pub merged : {A : Type 0} (s w : ℕ) (bs : List ℕ) (p : Parsed A) → need s bs (need w (drop s bs) p) ≡ need (s + w) bs p
merged s w bs p = by (leb s (length bs)) refl (leb w (length (drop s bs))) refl
  where
    by : (a : Bool) → leb s (length bs) ≡ a → (b : Bool) → leb w (length (drop s bs)) ≡ b → need s bs (need w (drop s bs) p) ≡ need (s + w) bs p
    by false ea b eb = ap (λ x. cond x (need w (drop s bs) p) (refuse 19)) ea ∙ sym (need_ended (s + w) bs p (omega (arith, leb-false s (length bs) ea)))
    by true ea true eb =
        ap₂ (λ x y. cond x (cond y p (refuse 19)) (refuse 19)) ea eb
        ∙ sym (need_there (s + w) bs p (omega (arith, leb-true s (length bs) ea, leb-true w (length (drop s bs)) eb, length-drop s bs)))
    by true ea false eb =
        ap₂ (λ x y. cond x (cond y p (refuse 19)) (refuse 19)) ea eb
        ∙ sym (need_ended (s + w) bs p (omega (arith, leb-true s (length bs) ea, leb-false w (length (drop s bs)) eb, length-drop s bs)))

pub taken : {A : Type 0} (w : ℕ) (bs : List ℕ) (k : ℕ → List ℕ → Parsed A) → next (take_bits w bs) k ≡ need w bs (k (joined 1 w bs) (drop w bs))
taken w bs k = by (leb w (length bs))
  where
    by : (b : Bool) → next (cond b (got (joined 1 w bs) (drop w bs)) (refuse 19)) k ≡ cond b (k (joined 1 w bs) (drop w bs)) (refuse 19)
    by true = refl
    by false = refl

-- One field more.
pub step_bits : {A : Type 0} (s w : ℕ) (bs : List ℕ) (k : ℕ → List ℕ → Parsed A) → need s bs (next (take_bits w (drop s bs)) k) ≡ need (s + w) bs (k (field_in s w bs) (drop (s + w) bs))
step_bits s w bs k =
    ap (need s bs) (taken w (drop s bs) k)
    ∙ merged s w bs (k (field_in s w bs) (drop w (drop s bs)))
    ∙ ap (λ l. need (s + w) bs (k (field_in s w bs) l)) (drop-drop w s bs)

pub first_bits : {A : Type 0} (w : ℕ) (bs : List ℕ) (k : ℕ → List ℕ → Parsed A) → next (take_bits w bs) k ≡ need w bs (k (field_in 0 w bs) (drop w bs))
first_bits w bs k = taken w bs k

pub next_assoc : {A B C : Type 0} (p : Parsed A) (f : A → List ℕ → Parsed B) (k : B → List ℕ → Parsed C) → next (next p f) k ≡ next p (λ a cs. next (f a cs) k)
next_assoc (refuse n) f k = refl
next_assoc (got a cs) f k = refl

-- A field is below its power.
pub field_small : (s w : ℕ) (bs : List ℕ) → Bits bs → field_in s w bs < 2 ^ w
field_small s w bs h = subst (λ x. field_in s w bs < 2 ^ x) (let e : 1 * w ≡ w = omega arith in e) (joined_small 1 w (drop s bs) (narrow_drop 1 s bs h))

-- A field after its first bit.
first_of_lem : (w : ℕ) (cs : List ℕ) → joined 1 (suc w) cs ≡ joined 1 1 cs * 2 ^ w + joined 1 w (drop 1 cs)
first_of_lem w [] = let n = joined_none w in omega arith
  where
    joined_none : (w : ℕ) → joined 1 w [] ≡ 0
    joined_none zero = refl
    joined_none (suc w) = refl
first_of_lem w (c ∷ cs) =
    let e : 1 * w ≡ w = omega arith in
    ap (λ x. c * 2 ^ x + joined 1 w cs) e ∙ ap (λ x. x * 2 ^ w + joined 1 w cs) (let z : c ≡ c * 2 ^ (1 * 0) + 0 = omega arith in z)

pub field_parts : (s w : ℕ) (bs : List ℕ) → field_in s (suc w) bs ≡ field_in s 1 bs * 2 ^ w + field_in (s + 1) w bs
field_parts s w bs = first_of_lem w (drop s bs) ∙ ap (λ l. field_in s 1 bs * 2 ^ w + joined 1 w l) (drop-drop 1 s bs)

-- What an optional field says: none, or the bits after the present one.
abbrev pub option_of : ℕ → Option ℕ
option_of half = cond (ltb half 32768) none (some (half - 32768))

pub step_mark : {A : Type 0} (s : ℕ) (bs : List ℕ) (k : Option ℕ → List ℕ → Parsed A) → Bits bs →
    need s bs (next (take_optional 15 (drop s bs)) k) ≡ need (s + mark_width (mark_in s bs)) bs (k (option_of (mark_in s bs)) (drop (s + mark_width (mark_in s bs)) bs))
unfolding mark_in
step_mark s bs k h =
    ap (need s bs) (next_assoc (take_bits 1 (drop s bs)) (λ here ds. cond (eqb here 0) (got none ds) (next (take_bits 15 ds) (λ v es. got (some v) es))) k)
    ∙ step_bits s 1 bs (λ here ds. next (cond (eqb here 0) (got none ds) (next (take_bits 15 ds) (λ v es. got (some v) es))) k)
    ∙ by (eqb (field_in s 1 bs) 0) refl
  where
    by : (b : Bool) → eqb (field_in s 1 bs) 0 ≡ b
        → need (s + 1) bs (next (cond (eqb (field_in s 1 bs) 0) (got none (drop (s + 1) bs)) (next (take_bits 15 (drop (s + 1) bs)) (λ v es. got (some v) es))) k)
        ≡ need (s + mark_width (cond (eqb (field_in s 1 bs) 0) 0 (field_in s 16 bs))) bs (k (option_of (cond (eqb (field_in s 1 bs) 0) 0 (field_in s 16 bs))) (drop (s + mark_width (cond (eqb (field_in s 1 bs) 0) 0 (field_in s 16 bs))) bs))
    by true e =
        ap (λ b. need (s + 1) bs (next (cond b (got none (drop (s + 1) bs)) (next (take_bits 15 (drop (s + 1) bs)) (λ v es. got (some v) es))) k)) e
        ∙ ap (λ m. need (s + m) bs (k none (drop (s + m) bs))) (mark_absent 0 (omega arith))
        ∙ ap (λ b. need (s + mark_width (cond b 0 (field_in s 16 bs))) bs (k (option_of (cond b 0 (field_in s 16 bs))) (drop (s + mark_width (cond b 0 (field_in s 16 bs))) bs))) (sym e)
    by false e =
        let v = field_in (s + 1) 15 bs in
        let few = field_small s 1 bs h in
        let one : field_in s 1 bs ≡ 1 = not_none (field_in s 1 bs) few (eqb-false (field_in s 1 bs) 0 e) in
        let whole : field_in s 16 bs ≡ 32768 + v = field_parts s 15 bs ∙ ap (λ x. x * 32768 + v) one ∙ (let z : 1 * 32768 + v ≡ 32768 + v = omega arith in z) in
        let m : 16 ≡ mark_width (32768 + v) = mark_there (32768 + v) (omega arith) in
        let o : option_of (32768 + v) ≡ some v = ap (λ b. cond b none (some (32768 + v - 32768))) (le-ltb (32768 + v) 32768 (omega arith)) ∙ ap some (let z : 32768 + v - 32768 ≡ v = omega arith in z) in
        ap (λ b. need (s + 1) bs (next (cond b (got none (drop (s + 1) bs)) (next (take_bits 15 (drop (s + 1) bs)) (λ v es. got (some v) es))) k)) e
        ∙ ap (need (s + 1) bs) (next_assoc (take_bits 15 (drop (s + 1) bs)) (λ v es. got (some v) es) k)
        ∙ step_bits (s + 1) 15 bs (λ v es. k (some v) es)
        ∙ ap (λ n. need n bs (k (some v) (drop n bs))) (let z : s + 1 + 15 ≡ s + 16 = omega arith in z)
        ∙ ap₂ (λ i x. need (s + i) bs (k x (drop (s + i) bs))) m (sym o)
        ∙ ap (λ x. need (s + mark_width x) bs (k (option_of x) (drop (s + mark_width x) bs))) (sym whole)
        ∙ ap (λ b. need (s + mark_width (cond b 0 (field_in s 16 bs))) bs (k (option_of (cond b 0 (field_in s 16 bs))) (drop (s + mark_width (cond b 0 (field_in s 16 bs))) bs))) (sym e)
      where
        not_none : (n : ℕ) → n < 2 → (n ≡ 0 → ⊥) → n ≡ 1
        not_none zero l f = absurd (f refl)
        not_none (suc zero) l f = refl
        not_none (suc (suc n)) l f = let z : ⊥ = omega arith in absurd z

-- A list of fields.
pub length_fields : (w n : ℕ) (bs : List ℕ) → length (fields_in w n bs) ≡ n
unfolding fields_in
length_fields w zero bs = refl
length_fields w (suc n) bs = ap suc (length_fields w n (drop w bs))

each_taken : {A : Type 0} (w n : ℕ) (bs : List ℕ) (k : List ℕ → List ℕ → Parsed A) → next (take_each w n bs) k ≡ need (w * n) bs (k (fields_in w n bs) (drop (w * n) bs))
unfolding fields_in
each_taken w zero bs k = sym (need_there 0 bs (k [] bs) (omega arith)) ∙ ap (λ m. need m bs (k [] (drop m bs))) (let z : 0 ≡ w * 0 = omega arith in z)
each_taken w (suc n) bs k =
    let rest = drop w bs in
    let v = joined 1 w bs in
    let e : w + w * n ≡ w * suc n = let z = mul-suc w n in omega arith in
    next_assoc (take_bits w bs) (λ x cs. next (take_run (replicate n w) cs) (λ xs ds. got (x ∷ xs) ds)) k
    ∙ taken w bs (λ x cs. next (next (take_run (replicate n w) cs) (λ xs ds. got (x ∷ xs) ds)) k)
    ∙ ap (need w bs) (next_assoc (take_run (replicate n w) rest) (λ xs ds. got (v ∷ xs) ds) k ∙ each_taken w n rest (λ xs ds. k (v ∷ xs) ds))
    ∙ merged w (w * n) bs (k (v ∷ fields_in w n rest) (drop (w * n) rest))
    ∙ ap (λ l. need (w + w * n) bs (k (v ∷ fields_in w n rest) l)) (drop-drop (w * n) w bs)
    ∙ ap (λ m. need m bs (k (v ∷ fields_in w n rest) (drop m bs))) e

pub step_each : {A : Type 0} (s w n : ℕ) (bs : List ℕ) (k : List ℕ → List ℕ → Parsed A) → need s bs (next (take_each w n (drop s bs)) k) ≡ need (s + w * n) bs (k (fields_in w n (drop s bs)) (drop (s + w * n) bs))
step_each s w n bs k =
    ap (need s bs) (each_taken w n (drop s bs) k)
    ∙ merged s (w * n) bs (k (fields_in w n (drop s bs)) (drop (w * n) (drop s bs)))
    ∙ ap (λ l. need (s + w * n) bs (k (fields_in w n (drop s bs)) l)) (drop-drop (w * n) s bs)
