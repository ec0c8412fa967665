-- Obligations that are appended to the front of a buffer, one by one, unless they are held. Assumes nothing.
use mathlib.Core.Path.{◌≡◌, refl, sym, ◌∙◌, ap, subst}
use mathlib.Core.Bool.{Bool, true, false, cond, ◌||◌}
use mathlib.Core.List.{List, [], ◌∷◌, ◌++◌, append_assoc}
use Prim.Native.Nat.{ℕ, ◌+◌, ◌≤◌, ◌<◌, ◌^◌}
use native.Mathlib.Omega.{arith}
use borrow.Author.Tests.{eq-eqb, ne_eqb}
use lib.Dec.{eqb}
use lib.ListN.{length, take, drop, set, get_or, length-append}
use lib.Seq.{length-take-le, take-append-le, take-take, drop-set-lt}
use Rattle.std.proofs.lemmas.List.{take_more, take_more_set}
use Rattle.std.proofs.lemmas.Bool.{or_parts}
use lib.Bits.{bit_or}
use Rattle.model.specs.Decision.{held, union_obligations}
use Rattle.model.specs.Decision.{insert as insert_one}
use Rattle.model.specs.Reading.{obligation_count}
use Rattle.laws.specs.Lists.{Below}
use Rattle.laws.proofs.ListLaws.{distinct_end, every_end, every_append, pigeon}
use Rattle.decision.specs.Room.{obligation_room}
use Rattle.decision.specs.declared.Decision.{Decision}
use Rattle.decision.specs.declared.Union.{Union}
use Rattle.decision.specs.Nodes.{obligations_at}
use Rattle.decision.specs.Meaning.{obligations_in, Appended, Names, Sound}
use Rattle.decision.specs.Answers.{mask_from, Masked, Both}
use Rattle.decision.specs.Uniting.{Holding, Grown}
use Rattle.decision.proofs.Nodes.{obligations_below}
use Rattle.decision.proofs.Masks.{bit_at, mask_end, mask_append, mask_of, below_first, below_second}

abbrev pub union_of : (mask count : ℕ) → count ≤ obligation_room → Union
union_of mask count bounded = record { mask = mask; count = count; bounded = bounded }

held_append : (o : ℕ) (os ps : List ℕ) → held o (os ++ ps) ≡ (held o os || held o ps)
held_append o [] ps = refl
held_append o (p ∷ os) ps = ap (λ b. eqb o p || b) (held_append o os ps) ∙ or_assoc' (eqb o p) (held o os) (held o ps)
  where
    or_assoc' : (a b c : Bool) → (a || (b || c)) ≡ ((a || b) || c)
    or_assoc' true b c = refl
    or_assoc' false b c = refl

union_append : (os ps qs : List ℕ) → union_obligations os (ps ++ qs) ≡ union_obligations (union_obligations os ps) qs
union_append os [] qs = refl
union_append os (p ∷ ps) qs = union_append (insert_one os p) ps qs

-- ---- one by one
pub grown_then : {ps qs a b c : List ℕ} {u v z : Union} → Grown ps a b u v → Grown qs b c v z → Grown (ps ++ qs) a c u z
grown_then {ps} {qs} f g =
    record {
      rest = g.rest ∙ f.rest;
      holds = λ os k h. g.holds os (below_second obligation_count ps qs k) (f.holds os (below_first obligation_count ps qs k) h);
      grown = λ os k h.
          g.grown os (below_second obligation_count ps qs k) (f.holds os (below_first obligation_count ps qs k) h)
          ∙ ap (λ l. union_obligations l qs) (f.grown os (below_first obligation_count ps qs k) h)
          ∙ sym (union_append _ ps qs);
    }

-- Nothing was appended yet.
pub grown_none : (buf : List ℕ) (u : Union) → Grown [] buf buf u u
grown_none buf u = record { rest = refl; holds = λ os _ h. h; grown = λ os _ _. refl }

-- ---- one more
module _ (u : Union) (o : ℕ) (buf : List ℕ) where
  pub append_none : obligation_count ≤ o → Grown (o ∷ []) buf buf u u
  append_none h = record { rest = refl; holds = λ os k _. absurd (omega (arith, k.0)); grown = λ os k _. absurd (omega (arith, k.0)) }

  held_by_lem : (os : List ℕ) → Holding os buf u → eqb (bit_at u.mask o) 1 ≡ held o (os ++ take u.count buf)
  held_by_lem os h = ap (λ m. eqb (bit_at m o) 1) h.mask_is ∙ mask_of o (os ++ take u.count buf)

  pub append_held : bit_at u.mask o ≡ 1 → Grown (o ∷ []) buf buf u u
  append_held e =
      record {
        rest = refl;
        holds = λ os _ h. h;
        grown = λ os _ h. ap (λ b. cond b (os ++ take u.count buf) ((os ++ take u.count buf) ++ o ∷ [])) (sym (eq-eqb (bit_at u.mask o) 1 e) ∙ held_by_lem os h);
      }

  module _ (room : obligation_room ≤ length buf) (n : bit_at u.mask o ≡ 1 → ⊥) where
    not_held : (os : List ℕ) → Holding os buf u → held o (os ++ take u.count buf) ≡ false
    not_held os h = sym (held_by_lem os h) ∙ ne_eqb (bit_at u.mask o) 1 n

    not_appended : (os : List ℕ) → Holding os buf u → held o (take u.count buf) ≡ false
    not_appended os h = (or_parts (held o os) (held o (take u.count buf)) (sym (held_append o os (take u.count buf)) ∙ not_held os h)).1

    pub append_new : (m : ℕ) (fits : u.count + 1 ≤ obligation_room) → (o < obligation_count → m ≡ bit_or u.mask (2 ^ o)) →
        Grown (o ∷ []) buf (set buf u.count o) u (union_of m (u.count + 1) fits)
    append_new m fits e =
        let more : take (u.count + 1) (set buf u.count o) ≡ take u.count buf ++ o ∷ [] = take_more_set buf u.count o (omega arith) in
        record {
          rest = drop-set-lt obligation_room buf u.count o (omega arith);
          holds = λ os k h.
              record {
                mask_is =
                    e k.0
                    ∙ ap (λ x. bit_or x (2 ^ o)) h.mask_is
                    ∙ sym (mask_end 0 o (os ++ take u.count buf))
                    ∙ ap (mask_from 0) (append_assoc os (take u.count buf) (o ∷ []) ∙ ap (λ l. os ++ l) (sym more));
                appended =
                    rw more (distinct_end (take u.count buf) o h.appended.0 (not_appended os h), every_end (λ p. p < obligation_count) (take u.count buf) o h.appended.1 k.0);
              };
          grown = λ os k h.
              ap (λ l. os ++ l) more
              ∙ sym (append_assoc os (take u.count buf) (o ∷ []))
              ∙ ap (λ b. cond b (os ++ take u.count buf) ((os ++ take u.count buf) ++ o ∷ [])) (sym (not_held os h));
        }

    -- Where 64 were appended every obligation is held.
    pub append_full : obligation_room ≤ u.count → Grown (o ∷ []) buf buf u u
    append_full full =
        let clash : (os : List ℕ) → Below obligation_count (o ∷ []) → Holding os buf u → ⊥ =
        λ os k h.
        let most : length (take u.count buf ++ o ∷ []) ≤ obligation_count =
        pigeon obligation_count (take u.count buf ++ o ∷ []) (distinct_end (take u.count buf) o h.appended.0 (not_appended os h)) (every_end (λ p. p < obligation_count) (take u.count buf) o h.appended.1 k.0) in
        omega (arith, length-append (take u.count buf) (o ∷ []), length-take-le u.count buf (omega (arith, u.bounded))) in
        record { rest = refl; holds = λ os k h. absurd (clash os k h); grown = λ os k h. absurd (clash os k h) }

-- One more, in a turn of a loop.
pub grown_more : (os before mid after : List ℕ) (u v r : Union) (i : ℕ) → i < length os →
    Grown (take i os) before mid u v → Grown (get_or os i 0 ∷ []) mid after v r → Grown (take (i + 1) os) before after u r
grown_more os before mid after u v r i h g a = subst (λ x. Grown x before after u r) (sym (take_more os i 0 h)) (grown_then g a)

-- ---- a whole decision: appended to the buffer's front, while the rest stands
module _ (words buf front mid after rest : List ℕ) (sofar incoming : Decision) (m mask : ℕ) (v r : Union)
    (few : sofar.united ≤ obligation_room) (front_is : front ≡ take obligation_room buf) (rest_is : rest ≡ drop obligation_room buf) (long : length after ≡ obligation_room)
    (node : Names words sofar.obligations → Masked 0 (obligations_at words sofar.obligations) m) (bytes : Masked m (take sofar.united front) mask)
    (first : Names words incoming.obligations → Grown (obligations_at words incoming.obligations) front mid (union_of mask sofar.united few) v)
    (second : Grown (take incoming.united rest) mid after v r) where
  abbrev os : List ℕ
  os = obligations_at words sofar.obligations

  ps : List ℕ
  ps = obligations_at words incoming.obligations ++ take incoming.united (drop obligation_room buf)

  at_front : take sofar.united front ≡ take sofar.united buf
  at_front = ap (take sofar.united) front_is ∙ take-take sofar.united obligation_room buf few

  starts : Sound words buf sofar → Holding os front (union_of mask sofar.united few)
  starts s =
      let appended : Appended (take sofar.united front) = subst Appended (sym at_front) s.appended in
      record {
        mask_is =
            bytes.is appended.1
            ∙ ap (λ x. mask_from x (take sofar.united front)) ((node s.held).is (obligations_below words sofar.obligations))
            ∙ sym (mask_append 0 os (take sofar.united front));
        appended = appended;
      }

  all : Sound words (drop obligation_room buf) incoming → Grown ps front after (union_of mask sofar.united few) r
  unfolding ps
  all t = grown_then (first t.held) (rw rest_is at second)

  below : Sound words (drop obligation_room buf) incoming → Below obligation_count ps
  unfolding ps
  below t = every_append (λ o. o < obligation_count) (obligations_at words incoming.obligations) (take incoming.united (drop obligation_room buf)) (obligations_below words incoming.obligations) t.appended.1

  pub both_are : Both words sofar incoming buf (after ++ rest) r.count
  unfolding ps obligations_in
  both_are =
      let at_end : take r.count (after ++ rest) ≡ take r.count after = take-append-le r.count after rest (omega (arith, r.bounded)) in
      record {
        few = r.bounded;
        united = λ s t. ap (λ l. os ++ l) at_end ∙ (all t).grown os (below t) (starts s) ∙ ap (λ l. union_obligations (os ++ l) ps) at_front;
        appended = λ s t. subst Appended (sym at_end) ((all t).holds os (below t) (starts s)).appended;
      }
