-- The consulted list with one more fact. Assumes nothing.
use mathlib.Core.Path.{◌≡◌, refl, sym, ap, subst, ◌∙◌}
use mathlib.Core.Bool.{Bool, true, false, ◌||◌, or-false, or_assoc}
use mathlib.Core.List.{List, [], ◌∷◌, ◌++◌, map-append}
use Prim.Native.Nat.{ℕ, ◌+◌, ◌≤◌, ◌<◌}
use native.Mathlib.Nat.{le_refl}
use native.Mathlib.Numerals.{add-one}
use native.Mathlib.Omega.{arith}
use lib.Dec.{eqb}
use lib.ListN.{length, set, length-set, length-append, replicate}
use lib.Seq.{take-suc-set}
use Rattle.model.specs.Facts.{Presence, fact_count}
use Rattle.model.specs.Consulted.{Entry, Consulted, is_consulted, consult}
use Rattle.model.specs.Writing.{entry_field}
use Rattle.fact_set.specs.Sets.{Grown, Contained}
use Rattle.fact_set.specs.SetLaws.{empty_set, same_set}
use Rattle.consulted.specs.Listing.{entry_of, Lent, lent, Listed, Consults, Recorded}

-- ---- an empty list
pub no_facts : (entries : List ℕ) → Listed [] (lent 0 entries (replicate 16 0))
no_facts entries = record { long = refl; in_order = refl; facts_are = empty_set }

-- ---- walks: none, one after the other, and one by what it is equal to
pub consults_none : {s : Lent} → Consults (λ l. l) s s
consults_none = record { same_room = refl; grows = λ l. le_refl (length l); lists = λ l h _. h }

pub consults_then : {f g : Consulted → Consulted} {s t u : Lent} → Consults f s t → Consults g t u → Consults (λ l. g (f l)) s u
consults_then {f} {g} a b = record {
  same_room = b.same_room ∙ a.same_room;
  grows = λ l. omega (arith, a.grows l, b.grows (f l));
  lists = λ l h fits. b.lists (f l) (a.lists l h (omega (arith, b.grows (f l)))) (omega (arith, a.same_room));
}

pub consults_as : {f g : Consulted → Consulted} {s t : Lent} → ((l : Consulted) → f l ≡ g l) → Consults g s t → Consults f s t
consults_as {t = t} e a = record {
  same_room = a.same_room;
  grows = λ l. rw (e l) (a.grows l);
  lists = λ l h fits. subst (λ k. Listed k t) (sym (e l)) (a.lists l h (rw (e l) at fits));
}

-- ---- a fact that is listed already
again_at : (l : Consulted) (f : ℕ) (p : Presence) (s : Lent) → is_consulted f l ≡ true → Listed l s → Listed (consult l f p) s
again_at l f p s e h = rw e h

consult_grows : (l : Consulted) (f : ℕ) (p : Presence) (b : Bool) → is_consulted f l ≡ b → length l ≤ length (consult l f p)
consult_grows l f p true e = rw e (le_refl (length l))
consult_grows l f p false e = rw e (omega (arith, length-append l (entry_of f p ∷ [])))

-- What is lent stays as it was where the fact is in the set, and where the entries are full.
recorded_same : (f : ℕ) (p : Presence) (s : Lent) → ((l : Consulted) → Listed l s → length (consult l f p) ≤ length s.entries → Listed (consult l f p) s) → Recorded f p s s
recorded_same f p s h = record { log = record { same_room = refl; grows = λ l. consult_grows l f p (is_consulted f l) refl; lists = h } }

is_listed : {l : Consulted} {f : ℕ} {s : Lent} {r : Bool} → f < fact_count → Contained f s.seen r → Listed l s → is_consulted f l ≡ r
is_listed {l} lt c h = sym (c.is_named (λ g. is_consulted g l) h.facts_are lt)

pub recorded_again : (f : ℕ) (p : Presence) (s : Lent) → f < fact_count → Contained f s.seen true → Recorded f p s s
recorded_again f p s lt c = recorded_same f p s (λ l h _. again_at l f p s (is_listed lt c h) h)

full_at : (l : Consulted) (f : ℕ) (p : Presence) (s : Lent) (b : Bool) → is_consulted f l ≡ b → length s.entries ≤ s.count → length (consult l f p) ≤ length s.entries → Listed l s → Listed (consult l f p) s
full_at l f p s true e full fits h = again_at l f p s e h
full_at l f p s false e full fits h = absurd (omega (arith, rw e at fits, length-append l (entry_of f p ∷ []), h.long))

pub recorded_full : (f : ℕ) (p : Presence) (s : Lent) → length s.entries ≤ s.count → Recorded f p s s
recorded_full f p s full = recorded_same f p s (λ l h fits. full_at l f p s (is_consulted f l) refl full fits h)

-- ---- a fact that is new
consulted_end : (g : ℕ) (l : Consulted) (e : Entry) → is_consulted g (l ++ e ∷ []) ≡ (is_consulted g l || eqb g e.fact)
consulted_end g [] e = or-false (eqb g e.fact)
consulted_end g (x ∷ l) e = ap (λ b. eqb g x.fact || b) (consulted_end g l e) ∙ sym (or_assoc (eqb g x.fact) (is_consulted g l) (eqb g e.fact))

new_at : (l : Consulted) (f : ℕ) (p : Presence) (s : Lent) (seen : List ℕ) → s.count < length s.entries → Grown (λ g. eqb g f) s.seen seen → is_consulted f l ≡ false → Listed l s →
    Listed (consult l f p) (lent (s.count + 1) (set s.entries s.count (entry_field (entry_of f p))) seen)
new_at l f p s seen room g e h = rw e (record {
  long = omega (arith, length-append l (entry_of f p ∷ []), h.long);
  in_order =
      rw add-one (take-suc-set s.entries s.count (entry_field (entry_of f p)) room)
      ∙ ap (λ es. es ++ entry_field (entry_of f p) ∷ []) h.in_order
      ∙ sym (map-append entry_field l (entry_of f p ∷ []));
  facts_are =
      g.grown (λ x. is_consulted x l) h.facts_are
      ∙ same_set (λ x. is_consulted x l || eqb x f) (λ x. is_consulted x (l ++ entry_of f p ∷ [])) (λ x _. sym (consulted_end x l (entry_of f p)));
})

pub recorded_new : (f : ℕ) (p : Presence) (s : Lent) (seen : List ℕ) → f < fact_count → s.count < length s.entries → Contained f s.seen false → Grown (λ g. eqb g f) s.seen seen →
    Recorded f p s (lent (s.count + 1) (set s.entries s.count (entry_field (entry_of f p))) seen)
recorded_new f p s seen lt room c g = record {
  log = record {
    same_room = length-set s.entries s.count (entry_field (entry_of f p));
    grows = λ l. consult_grows l f p (is_consulted f l) refl;
    lists = λ l h _. new_at l f p s seen room g (is_listed lt c h) h;
  };
}
