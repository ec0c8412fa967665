-- Lists in which none is repeated, and in which few are: one more at the end, joining, and how many numbers below n there can be.
use Rattle.std.specs.Prelude.{◌≡◌, refl, Bool, true, false, cond, ◌||◌, List, [], ◌∷◌, ◌++◌, ℕ, zero, suc, ◌+◌, ◌≤◌, ◌<◌, eqb, length}
use Rattle.std.proofs.Common.{sym, ◌∙◌, ap, ap₂, arith, eqb-true, eq-eqb, ne_eqb}
use Rattle.std.proofs.lemmas.Bool.{eqb-false, or_from, or_parts}
use Rattle.model.specs.Decision.{held, insert, union_obligations}
use Rattle.laws.specs.Lists.{Distinct, Every, Below, repeats}

-- ---- the test for equality
pub true_or_false : (b : Bool) {G : Type 0} → (b ≡ true → G) → (b ≡ false → G) → G
true_or_false true f g = f refl
true_or_false false f g = g refl

pub eqb_self : (n : ℕ) → eqb n n ≡ true
eqb_self n = eq-eqb n n refl

pub eqb_sym : (m n : ℕ) → eqb m n ≡ false → eqb n m ≡ false
eqb_sym m n e = ne_eqb n m (λ k. eqb-false m n e (sym k))

-- ---- one more at the end
pub held_end : (x o : ℕ) (os : List ℕ) → held x os ≡ false → eqb x o ≡ false → held x (os ++ o ∷ []) ≡ false
held_end x o [] h e = or_from (eqb x o) false e refl
held_end x o (p ∷ os) h e = or_from (eqb x p) (held x (os ++ o ∷ [])) (or_parts (eqb x p) (held x os) h).0 (held_end x o os (or_parts (eqb x p) (held x os) h).1 e)

pub distinct_end : (os : List ℕ) (o : ℕ) → Distinct os → held o os ≡ false → Distinct (os ++ o ∷ [])
distinct_end [] o d h = (refl, tt)
distinct_end (p ∷ os) o d h =
    (held_end p o os d.0 (eqb_sym o p (or_parts (eqb o p) (held o os) h).0), distinct_end os o d.1 (or_parts (eqb o p) (held o os) h).1)

pub every_end : (Q : ℕ → Type 0) (os : List ℕ) (o : ℕ) → Every Q os → Q o → Every Q (os ++ o ∷ [])
every_end Q [] o h q = (q, tt)
every_end Q (p ∷ os) o h q = (h.0, every_end Q os o h.1 q)

pub every_append : (Q : ℕ → Type 0) (os ps : List ℕ) → Every Q os → Every Q ps → Every Q (os ++ ps)
every_append Q [] ps h k = k
every_append Q (o ∷ os) ps h k = (h.0, every_append Q os ps h.1 k)

insert_at : (os : List ℕ) (o : ℕ) (b : Bool) → held o os ≡ b → Distinct os → Distinct (cond b os (os ++ o ∷ []))
insert_at os o true e d = d
insert_at os o false e d = distinct_end os o d e

pub insert_distinct : (os : List ℕ) (o : ℕ) → Distinct os → Distinct (insert os o)
insert_distinct os o d = insert_at os o (held o os) refl d

insert_every_at : (Q : ℕ → Type 0) (os : List ℕ) (o : ℕ) (b : Bool) → Every Q os → Q o → Every Q (cond b os (os ++ o ∷ []))
insert_every_at Q os o true h q = h
insert_every_at Q os o false h q = every_end Q os o h q

pub insert_every : (Q : ℕ → Type 0) (os : List ℕ) (o : ℕ) → Every Q os → Q o → Every Q (insert os o)
insert_every Q os o h q = insert_every_at Q os o (held o os) h q

pub unite_every : (Q : ℕ → Type 0) (os ps : List ℕ) → Every Q os → Every Q ps → Every Q (union_obligations os ps)
unite_every Q os [] h k = h
unite_every Q os (p ∷ ps) h k = unite_every Q (insert os p) ps (insert_every Q os p h k.0) k.1

-- ---- no more than n numbers are below n
abbrev without : ℕ → List ℕ → List ℕ
without m [] = []
without m (o ∷ os) = cond (eqb m o) os (o ∷ without m os)

without_length_at : (m o : ℕ) (os : List ℕ) (b : Bool) → length os ≤ 1 + length (without m os) → length (o ∷ os) ≤ 1 + length (cond b os (o ∷ without m os))
without_length_at m o os true h = omega arith
without_length_at m o os false h = omega arith

without_length : (m : ℕ) (os : List ℕ) → length os ≤ 1 + length (without m os)
without_length m [] = omega arith
without_length m (o ∷ os) = without_length_at m o os (eqb m o) (without_length m os)

without_held_at : (x m o : ℕ) (os : List ℕ) (b : Bool) → held x (o ∷ os) ≡ false → held x (without m os) ≡ false → held x (cond b os (o ∷ without m os)) ≡ false
without_held_at x m o os true h k = (or_parts (eqb x o) (held x os) h).1
without_held_at x m o os false h k = or_from (eqb x o) (held x (without m os)) (or_parts (eqb x o) (held x os) h).0 k

without_held : (x m : ℕ) (os : List ℕ) → held x os ≡ false → held x (without m os) ≡ false
without_held x m [] h = refl
without_held x m (o ∷ os) h = without_held_at x m o os (eqb m o) h (without_held x m os (or_parts (eqb x o) (held x os) h).1)

without_distinct_at : (m o : ℕ) (os : List ℕ) (b : Bool) → Distinct (o ∷ os) → Distinct (without m os) → Distinct (cond b os (o ∷ without m os))
without_distinct_at m o os true d k = d.1
without_distinct_at m o os false d k = (without_held o m os d.0, k)

without_distinct : (m : ℕ) (os : List ℕ) → Distinct os → Distinct (without m os)
without_distinct m [] d = tt
without_distinct m (o ∷ os) d = without_distinct_at m o os (eqb m o) d (without_distinct m os d.1)

other : (m o : ℕ) → eqb m o ≡ false → o < suc m → o < m
other m o e h =
    let ne : m ≡ o → ⊥ = λ p. (let k : true ≡ false = sym (eqb_self m) ∙ ap (λ x. eqb m x) p ∙ e in let z : ◌≡◌ {A = ℕ} 0 1 = cc in omega arith) in
    omega arith

below_other : (m : ℕ) (os : List ℕ) → held m os ≡ false → Below (suc m) os → Below m os
below_other m [] h b = tt
below_other m (o ∷ os) h b = (other m o (or_parts (eqb m o) (held m os) h).0 b.0, below_other m os (or_parts (eqb m o) (held m os) h).1 b.1)

without_below_at : (m o : ℕ) (os : List ℕ) (b : Bool) → eqb m o ≡ b → Distinct (o ∷ os) → Below (suc m) (o ∷ os) → Below m (without m os) → Below m (cond b os (o ∷ without m os))
without_below_at m o os true e d h k = below_other m os (ap (λ x. held x os) (eqb-true m o e) ∙ d.0) h.1
without_below_at m o os false e d h k = (other m o e h.0, k)

without_below : (m : ℕ) (os : List ℕ) → Distinct os → Below (suc m) os → Below m (without m os)
without_below m [] d h = tt
without_below m (o ∷ os) d h = without_below_at m o os (eqb m o) refl d h (without_below m os d.1 h.1)

pub pigeon : (n : ℕ) (os : List ℕ) → Distinct os → Below n os → length os ≤ n
pigeon zero [] d h = omega arith
pigeon zero (o ∷ os) d h = omega (arith, h.0)
pigeon (suc n) os d h = omega (arith, without_length n os, pigeon n (without n os) (without_distinct n os d) (without_below n os d h))

-- ---- lists with repeats
more_by : (n m : ℕ) (b : Bool) → n ≤ m → cond b (suc n) n ≤ suc m
more_by n m true h = omega arith
more_by n m false h = omega arith

repeats_rest : (o : ℕ) (os : List ℕ) → repeats (o ∷ os) ≤ length os
repeats_rest o [] = omega arith
repeats_rest o (p ∷ os) = more_by (repeats (p ∷ os)) (length os) (held o (p ∷ os)) (repeats_rest p os)

-- Of a list one at least stands once.
pub repeats_few : (n : ℕ) (os : List ℕ) → length os ≤ n → 0 < n → repeats os < n
repeats_few n [] h p = p
repeats_few n (o ∷ os) h p = omega (arith, repeats_rest o os)

held_other : (x o : ℕ) (os : List ℕ) → eqb x o ≡ false → held x (os ++ o ∷ []) ≡ held x os
held_other x o [] e = rw e
held_other x o (p ∷ os) e = ap (λ b. eqb x p || b) (held_other x o os e)

repeats_end : (os : List ℕ) (o : ℕ) → held o os ≡ false → repeats (os ++ o ∷ []) ≡ repeats os
repeats_end [] o h = refl
repeats_end (p ∷ os) o h =
    let e : eqb p o ≡ false = eqb_sym o p (or_parts (eqb o p) (held o os) h).0 in
    ap₂ (λ b n. cond b (suc n) n) (held_other p o os e) (repeats_end os o (or_parts (eqb o p) (held o os) h).1)

insert_repeats_at : (os : List ℕ) (o : ℕ) (b : Bool) → held o os ≡ b → repeats (cond b os (os ++ o ∷ [])) ≡ repeats os
insert_repeats_at os o true e = refl
insert_repeats_at os o false e = repeats_end os o e

-- Joining appends what is not held, one by one: it adds no repeat.
pub unite_repeats : (os ps : List ℕ) → repeats (union_obligations os ps) ≡ repeats os
unite_repeats os [] = refl
unite_repeats os (p ∷ ps) = unite_repeats (insert os p) ps ∙ insert_repeats_at os p (held p os) refl

-- Each once.
abbrev once_each : List ℕ → List ℕ
once_each [] = []
once_each (o ∷ os) = cond (held o os) (once_each os) (o ∷ once_each os)

once_held_at : (x o : ℕ) (os : List ℕ) (b : Bool) → held x (o ∷ os) ≡ false → held x (once_each os) ≡ false → held x (cond b (once_each os) (o ∷ once_each os)) ≡ false
once_held_at x o os true h k = k
once_held_at x o os false h k = or_from (eqb x o) (held x (once_each os)) (or_parts (eqb x o) (held x os) h).0 k

once_held : (x : ℕ) (os : List ℕ) → held x os ≡ false → held x (once_each os) ≡ false
once_held x [] h = refl
once_held x (o ∷ os) h = once_held_at x o os (held o os) h (once_held x os (or_parts (eqb x o) (held x os) h).1)

once_distinct_at : (o : ℕ) (os : List ℕ) (b : Bool) → held o os ≡ b → Distinct (once_each os) → Distinct (cond b (once_each os) (o ∷ once_each os))
once_distinct_at o os true e d = d
once_distinct_at o os false e d = (once_held o os e, d)

once_distinct : (os : List ℕ) → Distinct (once_each os)
once_distinct [] = tt
once_distinct (o ∷ os) = once_distinct_at o os (held o os) refl (once_distinct os)

once_every_at : (Q : ℕ → Type 0) (o : ℕ) (os : List ℕ) (b : Bool) → Q o → Every Q (once_each os) → Every Q (cond b (once_each os) (o ∷ once_each os))
once_every_at Q o os true q h = h
once_every_at Q o os false q h = (q, h)

once_every : (Q : ℕ → Type 0) (os : List ℕ) → Every Q os → Every Q (once_each os)
once_every Q [] h = tt
once_every Q (o ∷ os) h = once_every_at Q o os (held o os) h.0 (once_every Q os h.1)

once_length_at : (o : ℕ) (os : List ℕ) (b : Bool) → length os ≡ repeats os + length (once_each os) → length (o ∷ os) ≡ cond b (suc (repeats os)) (repeats os) + length (cond b (once_each os) (o ∷ once_each os))
once_length_at o os true h = omega arith
once_length_at o os false h = omega arith

once_length : (os : List ℕ) → length os ≡ repeats os + length (once_each os)
once_length [] = refl
once_length (o ∷ os) = once_length_at o os (held o os) (once_length os)

-- Of numbers below n a list has no more than n and its repeats.
pub most_repeated : (n : ℕ) (os : List ℕ) → Below n os → length os ≤ repeats os + n
most_repeated n os h = omega (arith, once_length os, pigeon n (once_each os) (once_distinct os) (once_every (λ o. o < n) os h))
