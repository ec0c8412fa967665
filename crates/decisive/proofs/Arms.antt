-- The list rule in the form that a loop's invariant takes: what answers for the arms that are left answers for all. Assumes nothing.
use mathlib.Core.Path.{◌≡◌, refl, sym, ap, ◌∙◌}
use mathlib.Core.Bool.{Bool, true, false, not, beq}
use mathlib.Core.List.{List, ◌++◌, append_assoc, append-nil}
use Prim.Native.Nat.{ℕ, ◌+◌, ◌-◌, ◌≤◌, ◌<◌}
use native.Mathlib.Omega.{arith}
use lib.ListN.{length, take, drop, length-append, length-drop}
use lib.Seq.{paste, length-take-le, take-append-add, take-append-le, drop_at}
use Rattle.std.specs.List.{copy_within}
use Rattle.std.proofs.lemmas.List.Edits.{take-paste}
use Rattle.model.specs.Facts.{Table, fact_count}
use Rattle.model.specs.Condition.{Condition, Conditions, cnil, ccons, ConditionEval, satisfied, unsatisfied, both, either, eval_condition, eval_condition_all, eval_condition_any}
use Rattle.model.specs.Reading.{next, many, read_condition}
use Rattle.laws.proofs.FieldLaws.{Holds, fine, weaker}
use Rattle.laws.specs.Lists.{Below}
use Rattle.laws.proofs.ListLaws.{every_append}
use Rattle.laws.specs.Size.{words_cs}
use Rattle.policy_model.specs.Span.{SkippedConditions}
use Rattle.decisive.specs.declared.Named.{Named}
use Rattle.decisive.specs.Naming.{eval_of, Tells, Decisive, join_arm, eval_arms, DecisiveArms, Says}
use Rattle.decisive.proofs.Positions.{first_arm}

-- The value of a list by its arms that are left, where those before them named fs and none of them stopped it.
abbrev passed : Bool → List ℕ → Table → Conditions → ConditionEval
passed stop fs T cs = join_arm stop (eval_of (not stop) fs) (eval_arms stop T cs)

join_more : (stop b : Bool) (fs gs : List ℕ) (v : ConditionEval) → beq b stop ≡ false →
    join_arm stop (eval_of (not stop) fs) (join_arm stop (eval_of b gs) v) ≡ join_arm stop (eval_of (not stop) (fs ++ gs)) v
join_more true true fs gs v e = cc
join_more true false fs gs (satisfied hs) e = refl
join_more true false fs gs (unsatisfied hs) e = ap unsatisfied (sym (append_assoc fs gs hs))
join_more false true fs gs (satisfied hs) e = ap satisfied (sym (append_assoc fs gs hs))
join_more false true fs gs (unsatisfied hs) e = refl
join_more false false fs gs v e = cc

join_stop : (stop b : Bool) (fs gs : List ℕ) (v : ConditionEval) → beq b stop ≡ true →
    join_arm stop (eval_of (not stop) fs) (join_arm stop (eval_of b gs) v) ≡ eval_of stop gs
join_stop true true fs gs v e = refl
join_stop true false fs gs v e = cc
join_stop false true fs gs v e = cc
join_stop false false fs gs v e = refl

passed_cons : (stop : Bool) (fs : List ℕ) (T : Table) (c : Condition) (cs : Conditions) (b : Bool) (gs : List ℕ) → eval_condition T c ≡ eval_of b gs →
    passed stop fs T (ccons c cs) ≡ join_arm stop (eval_of (not stop) fs) (join_arm stop (eval_of b gs) (eval_arms stop T cs))
passed_cons true fs T c cs b gs e = ap (λ v. either (unsatisfied fs) (either v (eval_condition_any T cs))) e
passed_cons false fs T c cs b gs e = ap (λ v. both (satisfied fs) (both v (eval_condition_all T cs))) e

passed_end : (stop : Bool) (fs : List ℕ) (T : Table) → passed stop fs T cnil ≡ eval_of (not stop) fs
passed_end true fs T = ap unsatisfied (append-nil fs)
passed_end false fs T = ap satisfied (append-nil fs)

-- The library's copy moves n facts from `from` on down to the start.
moved_down : (out : List ℕ) (from n : ℕ) → from + n ≤ length out → take n (copy_within out from (from + n) 0) ≡ take n (drop from out)
moved_down out from n h =
    let size : from + n - from ≡ n = omega arith in
    let all : n ≡ 0 + n = omega arith in
    rw size (ap (λ (k : ℕ). take k (paste out 0 (drop from out) n)) all ∙ take-paste out 0 (drop from out) n (omega arith) (omega (arith, length-drop from out)))

-- What the answer r and the slice o tell of arms from `at`.
abbrev Told : (Conditions → ConditionEval) → ℕ → List ℕ → Named → Conditions → List ℕ → Type 0
Told value at o r cs rest = Tells (value cs) (at + words_cs cs) o r

-- ---- the invariant: `count` facts of the arms before `next` stand first in `out`
pub record Passing (T : Table) (stop : Bool) (words : List ℕ) (d at arms : ℕ) (out₀ out : List ℕ) (next left count : ℕ) : Type 0 where
  pub long : length out ≡ length out₀
  pub within : count ≤ length out
  pub few : count + at ≤ next
  pub below : Below fact_count (take count out)
  pub answers : (o : List ℕ) (r : Named) → Holds (Told (passed stop (take count out) T) next o r) (many cnil ccons (read_condition d) left (drop next words)) →
      Holds (Told (eval_arms stop T) at o r) (many cnil ccons (read_condition d) arms (drop at words))

module _ (T : Table) (stop : Bool) (words : List ℕ) (d at arms : ℕ) (out₀ : List ℕ) where
  -- The arm at `next`, whose facts stand in the part `here` that it was lent, and the slice after it.
  module _ (out here rest : List ℕ) (next left count : ℕ) (a : Named) (more : left ≡ 0 → ⊥) (i : Passing T stop words d at arms out₀ out next left count)
      (s : Decisive T next (read_condition d (drop next words)) here a) (long : length (take count out ++ (here ++ rest)) ≡ length out) where
    seam : length (take count out) ≡ count
    seam = length-take-le count out i.within

    front_is : take (count + a.count) (take count out ++ (here ++ rest)) ≡ take count out ++ take a.count here
    front_is =
        ap (λ (n : ℕ). take (n + a.count) (take count out ++ (here ++ rest))) (sym seam)
        ∙ take-append-add (take count out) (here ++ rest) a.count
        ∙ ap (λ (l : List ℕ). take count out ++ l) (take-append-le a.count here rest s.within)

    back_is : take a.count (drop count (take count out ++ (here ++ rest))) ≡ take a.count here
    back_is = ap (take a.count) (drop_at (take count out) (here ++ rest) count seam) ∙ take-append-le a.count here rest s.within

    room : count + a.count ≤ length out
    room = omega (arith, seam, s.within, simp length-append at long)

    -- What answers for the others answers from here on, where they leave the value as the arm has it.
    then_others : (o : List ℕ) (r : Named) (others : Conditions → ConditionEval) →
        ((cs : Conditions) → join_arm stop (eval_of (not stop) (take count out)) (join_arm stop (eval_of a.satisfied (take a.count here)) (eval_arms stop T cs)) ≡ others cs) →
        Holds (Told others a.next o r) (many cnil ccons (read_condition d) (left - 1) (drop a.next words)) →
        Holds (Told (passed stop (take count out) T) next o r) (many cnil ccons (read_condition d) left (drop next words))
    then_others o r others v e =
        first_arm words next a.next (λ c rest t. t.next_is)
        (λ c rest cs us t u. record {
          value_is = passed_cons stop (take count out) T c cs a.satisfied (take a.count here) t.value_is ∙ v cs ∙ u.value_is;
          next_is = omega (arith, t.next_is, u.next_is);
        })
        d left more s.names e

    -- it does not stop the list
    pub passing_more : beq a.satisfied stop ≡ false → Passing T stop words d at arms out₀ (take count out ++ (here ++ rest)) a.next (left - 1) (count + a.count)
    passing_more go = record {
      long = long ∙ i.long;
      within = omega (arith, room, long);
      few = omega (arith, i.few, s.few);
      below = rw front_is (every_append (λ f. f < fact_count) (take count out) (take a.count here) i.below s.below);
      answers = λ o r e. i.answers o r (then_others o r (passed stop (take count out ++ take a.count here) T)
          (λ cs. join_more stop a.satisfied (take count out) (take a.count here) (eval_arms stop T cs) go) (rw front_is at e));
    }

    -- it does: its facts are moved to the start, and the others are passed over
    module _ (o : List ℕ) (r : Named) (end : ℕ) (over : SkippedConditions words a.next (left - 1) end) (said : Says stop end a.count r)
        (moved : o ≡ copy_within (take count out ++ (here ++ rest)) count (count + a.count) 0) where
      facts_are : take r.count o ≡ take a.count here
      facts_are = rw (said.count_is, moved) (moved_down (take count out ++ (here ++ rest)) count a.count (omega (arith, room, long)) ∙ back_is)

      pub passing_stop : beq a.satisfied stop ≡ true → length o ≡ length out → DecisiveArms T stop at (many cnil ccons (read_condition d) arms (drop at words)) o r
      passing_stop halt l = record {
        names = i.answers o r (then_others o r (λ _. eval_of stop (take a.count here))
            (λ cs. join_stop stop a.satisfied (take count out) (take a.count here) (eval_arms stop T cs) halt)
            (weaker (many cnil ccons (read_condition d) (left - 1) (drop a.next words))
            (λ cs rest h. record { value_is = rw (said.satisfied_is, facts_are); next_is = omega (arith, said.next_is) })
            (over.ends d)));
        within = omega (arith, room, l, said.count_is);
        few = omega (arith, i.few, s.few, over.onward, said.next_is, said.count_is);
        below = rw facts_are s.below;
      }

  -- No arm is left.
  pub passing_end : (out : List ℕ) (next left count : ℕ) (r : Named) → left ≡ 0 → Passing T stop words d at arms out₀ out next left count → Says (not stop) next count r →
      DecisiveArms T stop at (many cnil ccons (read_condition d) arms (drop at words)) out r
  passing_end out next left count r z i said = record {
    names = i.answers out r (rw z (fine (record { value_is = passed_end stop (take count out) T ∙ rw (said.satisfied_is, said.count_is); next_is = omega (arith, said.next_is) })));
    within = omega (arith, i.within, said.count_is);
    few = omega (arith, i.few, said.next_is, said.count_is);
    below = rw said.count_is i.below;
  }
