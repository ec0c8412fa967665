-- A list rule in the form that a loop's invariant takes: what answers for the arms that are left, behind those that are held, answers for all.
-- Assumes nothing.
use mathlib.Core.Path.{◌≡◌, refl, sym, ap, subst, ◌∙◌}
use mathlib.Core.Bool.{Bool, true, false, beq}
use mathlib.Core.List.{List}
use Prim.Native.Nat.{ℕ, ◌+◌, ◌-◌, ◌≤◌}
use native.Mathlib.Omega.{arith}
use lib.ListN.{drop}
use Rattle.model.specs.Facts.{Table}
use Rattle.model.specs.Condition.{Condition, Conditions, cnil, ccons}
use Rattle.model.specs.Partial.{known, pending_c, ConditionWalk, stopped, through, step_all_c, step_any_c, reduce_condition}
use Rattle.model.specs.Partial as model
use Rattle.model.specs.Consulted.{Consulted, unless_false, unless_true, walk_c}
use Rattle.model.specs.Reading.{Parsed, refuse, got, many, read_condition}
use Rattle.laws.proofs.FieldLaws.{Holds, fine, nothing, weaker}
use Rattle.laws.specs.Size.{words_c, words_cs}
use Rattle.policy_model.specs.Span.{SkippedConditions}
use Rattle.consulted.specs.Listing.{Lent}
use Rattle.consulted.proofs.Listing.{consults_as, consults_none, consults_then}
use Rattle.decisive.proofs.Positions.{first_arm}
use Rattle.sizes.specs.Laid.{too_many}
use Rattle.partial_condition.specs.declared.Reduced.{Reduced}
use Rattle.partial_condition.specs.declared.Reduced.TheVariants.{Known, Pending}
use Rattle.partial_condition.specs.declared.ReducedCondition.{ReducedCondition}
use Rattle.partial_condition.specs.declared.Kept.{Kept}
use Rattle.partial_condition.specs.Reducing.{Left, ReducedTo, ReducesC, walk_of, end_of, read_of, ReducesList}
use Rattle.partial_condition.specs.Holding.{kept_of, Holding, Keeps, Ends}
use Rattle.partial_condition.proofs.Laying.{Returned}
use Rattle.partial_condition.proofs.Holding.{snoc_c, held_same, held_more}

-- ---- a walk over arms, behind arms that are held
abbrev append_c : Conditions → Conditions → Conditions
append_c cnil ds = ds
append_c (ccons c cs) ds = ccons c (append_c cs ds)

append_none : (cs : Conditions) → append_c cs cnil ≡ cs
append_none cnil = refl
append_none (ccons c cs) = ap (ccons c) (append_none cs)

append_one : (cs : Conditions) (c : Condition) (ds : Conditions) → append_c cs (ccons c ds) ≡ append_c (snoc_c cs c) ds
append_one cnil c ds = refl
append_one (ccons d cs) c ds = ap (ccons d) (append_one cs c ds)

abbrev behind : Conditions → ConditionWalk → ConditionWalk
behind cs stopped = stopped
behind cs (through ds) = through (append_c cs ds)

behind_none : (w : ConditionWalk) → behind cnil w ≡ w
behind_none stopped = refl
behind_none (through ds) = refl

-- ---- one arm, for the rule of either value
abbrev step_of : Bool → model.ReducedCondition → ConditionWalk → ConditionWalk
step_of false q w = step_all_c q w
step_of true q w = step_any_c q w

abbrev unless_of : Bool → model.ReducedCondition → Consulted → Consulted → Consulted
unless_of false q here on = unless_false q here on
unless_of true q here on = unless_true q here on

walk_first : (stop : Bool) (P : Table) (c : Condition) (cs : Conditions) → walk_of stop P (ccons c cs) ≡ step_of stop (reduce_condition P c) (walk_of stop P cs)
walk_first false P c cs = refl
walk_first true P c cs = refl

read_first : (stop : Bool) (P : Table) (c : Condition) (cs : Conditions) (l : Consulted) → read_of stop P (ccons c cs) l ≡ unless_of stop (reduce_condition P c) (walk_c P c l) (read_of stop P cs (walk_c P c l))
read_first false P c cs l = refl
read_first true P c cs l = refl

walk_none : (stop : Bool) (P : Table) → walk_of stop P cnil ≡ through cnil
walk_none false P = refl
walk_none true P = refl

read_none : (stop : Bool) (P : Table) (l : Consulted) → read_of stop P cnil l ≡ l
read_none false P l = refl
read_none true P l = refl

-- The arms that are held after an arm.
abbrev held_with : Conditions → model.ReducedCondition → Conditions
held_with cs (known b) = cs
held_with cs (pending_c c) = snoc_c cs c

beq_is : (v stop : Bool) → beq v stop ≡ true → v ≡ stop
beq_is false false e = refl
beq_is false true e = cc
beq_is true false e = cc
beq_is true true e = refl

-- No answer is both known and left, and a known one has one value.
pub not_both : {v : Bool} {n : ℕ} {A : Type 0} → Known v ≡ Pending n → A
not_both e = cc

same_known : {v b w : Bool} (stop : Bool) → Known v ≡ Known b → beq v stop ≡ w → beq b stop ≡ w
same_known {v} {b} stop e f = let i : b ≡ v = cc in rw i f

-- An arm that does not decide.
known_on : (stop b : Bool) (cs : Conditions) (w : ConditionWalk) → beq b stop ≡ false → behind cs (step_of stop (known b) w) ≡ behind cs w
known_on false false cs w e = cc
known_on false true cs w e = refl
known_on true false cs w e = refl
known_on true true cs w e = cc

pending_on : (stop : Bool) (c : Condition) (cs : Conditions) (w : ConditionWalk) → behind cs (step_of stop (pending_c c) w) ≡ behind (snoc_c cs c) w
pending_on false c cs stopped = refl
pending_on false c cs (through ds) = ap through (append_one cs c ds)
pending_on true c cs stopped = refl
pending_on true c cs (through ds) = ap through (append_one cs c ds)

known_read : (stop b : Bool) (here on : Consulted) → beq b stop ≡ false → unless_of stop (known b) here on ≡ on
known_read false false here on e = cc
known_read false true here on e = refl
known_read true false here on e = refl
known_read true true here on e = cc

pending_read : (stop : Bool) (c : Condition) (here on : Consulted) → unless_of stop (pending_c c) here on ≡ on
pending_read false c here on = refl
pending_read true c here on = refl

-- One that does.
known_stop : (stop b : Bool) (w : ConditionWalk) → beq b stop ≡ true → step_of stop (known b) w ≡ stopped
known_stop false false w e = refl
known_stop false true w e = cc
known_stop true false w e = cc
known_stop true true w e = refl

known_stop_read : (stop b : Bool) (here on : Consulted) → beq b stop ≡ true → unless_of stop (known b) here on ≡ here
known_stop_read false false here on e = refl
known_stop_read false true here on e = cc
known_stop_read true false here on e = cc
known_stop_read true true here on e = refl

end_stopped : (stop : Bool) → end_of stop stopped ≡ known stop
end_stopped false = refl
end_stopped true = refl

-- An arm decides if it is known with this value.
module _ (stop : Bool) (a : Reduced) (part : List ℕ) where
  module _ (goes_on : (b : Bool) → a ≡ Known b → beq b stop ≡ false) where
    on_walk : (q : model.ReducedCondition) → Left q a part → (cs : Conditions) (w : ConditionWalk) → behind cs (step_of stop q w) ≡ behind (held_with cs q) w
    on_walk (known b) l cs w = known_on stop b cs w (goes_on b l)
    on_walk (pending_c c) l cs w = pending_on stop c cs w

    on_read_lem : (q : model.ReducedCondition) → Left q a part → (here on : Consulted) → unless_of stop q here on ≡ on
    on_read_lem (known b) l here on = known_read stop b here on (goes_on b l)
    on_read_lem (pending_c c) l here on = pending_read stop c here on

  module _ (v : Bool) (is : a ≡ Known v) (halts : beq v stop ≡ true) where
    stop_walk : (q : model.ReducedCondition) → Left q a part → (w : ConditionWalk) → step_of stop q w ≡ stopped
    stop_walk (known b) l w = known_stop stop b w (same_known stop (sym is ∙ l) halts)
    stop_walk (pending_c c) l w = not_both (sym is ∙ l.0)

    stop_read : (q : model.ReducedCondition) → Left q a part → (here on : Consulted) → unless_of stop q here on ≡ here
    stop_read (known b) l here on = known_stop_read stop b here on (same_known stop (sym is ∙ l) halts)
    stop_read (pending_c c) l here on = not_both (sym is ∙ l.0)

-- ---- what is to be answered for the arms from `next`, with these held
abbrev Answered : Bool → Table → Conditions → ℕ → Lent → ReducedCondition → Lent → List ℕ → Conditions → List ℕ → Type 0
Answered stop P held next u r t o cs rest = ReducedTo (end_of stop (behind held (walk_of stop P cs))) (next + words_cs cs) (read_of stop P cs) u r t o

-- What holds of a list for each x, holds of it for all of them.
for_each : {A X : Type 0} {Y : X → Type 0} {Q : X → A → List ℕ → Type 0} (p : Parsed A) → ((x : X) → Y x → Holds (Q x) p) → Holds (λ a ws. (x : X) → Y x → Q x a ws) p
for_each (refuse n) f = nothing
for_each (got a ws) f = fine (λ x y. (f x y).it)

-- ---- the invariant: what was lent is s, and is u and out now; the arms before `next` have left those that are held
pub record Going (stop : Bool) (P : Table) (W : List ℕ) (at depth arms : ℕ) (s u : Lent) (out : List ℕ) (h : Kept) (next left : ℕ) : Type 0 where
  pub few : h.count + left ≤ arms
  pub first_most : h.first ≤ too_many
  pub used_most : h.used ≤ too_many
  pub goes : (r : ReducedCondition) (t : Lent) (o : List ℕ) →
      ((cs : Conditions) → Holding cs out h → Holds (Answered stop P cs next u r t o) (many cnil ccons (read_condition depth) left (drop next W))) →
      Holds (λ cs _. ReducedTo (end_of stop (walk_of stop P cs)) (at + words_cs cs) (read_of stop P cs) s r t o) (many cnil ccons (read_condition depth) arms (drop at W))

module _ (stop : Bool) (P : Table) (W : List ℕ) (at depth arms : ℕ) (s : Lent) where
  pub going_none : (out : List ℕ) → Going stop P W at depth arms s s out (kept_of 0 0 0) at arms
  going_none out = record {
    few = omega arith;
    first_most = omega arith;
    used_most = omega arith;
    goes = λ r t o f. weaker (many cnil ccons (read_condition depth) arms (drop at W))
        (λ cs rest e. record { left = subst (λ w. Left (end_of stop w) r.to o) (behind_none (walk_of stop P cs)) e.left; next_is = e.next_is; log = e.log })
        (f cnil (refl, refl));
  }

  -- The arm at `next`, which stands in the part that it was lent.
  module _ (u m : Lent) (out part : List ℕ) (h : Kept) (next left : ℕ) (a : ReducedCondition) (some : left ≡ 0 → ⊥) (i : Going stop P W at depth arms s u out h next left)
      (arm : ReducesC P W next depth u a m part) where
    abbrev First : Condition → List ℕ → Type 0
    First c rest = ReducedTo (reduce_condition P c) (next + words_c c) (walk_c P c) u a m part

    -- it does not decide
    module _ (g : Kept) (after : List ℕ) (goes_on : (b : Bool) → a.to ≡ Known b → beq b stop ≡ false)
        (held : (q : model.ReducedCondition) (cs : Conditions) → Left q a.to part → Holding cs out h → Holding (held_with cs q) after g) where
      more_arms : (r : ReducedCondition) (t : Lent) (o : List ℕ) →
          ((cs : Conditions) → Holding cs after g → Holds (Answered stop P cs a.next m r t o) (many cnil ccons (read_condition depth) (left - 1) (drop a.next W))) →
          (cs : Conditions) → Holding cs out h → Holds (Answered stop P cs next u r t o) (many cnil ccons (read_condition depth) left (drop next W))
      more_arms r t o f cs k =
          first_arm {One = First} {Others = λ ds us. (c : Condition) → First c us → Answered stop P (held_with cs (reduce_condition P c)) a.next m r t o ds us} W next a.next (λ c rest x. x.next_is)
          (λ c rest ds us x y. let z = y c x in record {
            left = subst (λ w. Left (end_of stop w) r.to o) (sym (ap (behind cs) (walk_first stop P c ds) ∙ on_walk stop a.to part goes_on (reduce_condition P c) x.left cs (walk_of stop P ds))) z.left;
            next_is = omega (arith, x.next_is, z.next_is);
            log = consults_as (λ l. read_first stop P c ds l ∙ on_read_lem stop a.to part goes_on (reduce_condition P c) x.left (walk_c P c l) (read_of stop P ds (walk_c P c l))) (consults_then x.log z.log);
          })
          depth left some arm.says
          (for_each (many cnil ccons (read_condition depth) (left - 1) (drop a.next W)) (λ c x. f (held_with cs (reduce_condition P c)) (held (reduce_condition P c) cs x.left k)))

      going_more : g.count ≤ h.count + 1 → g.first ≤ too_many → g.used ≤ too_many → Going stop P W at depth arms s m after g a.next (left - 1)
      going_more few first used = record { few = omega (arith, i.few); first_most = first; used_most = used; goes = λ r t o f. i.goes r t o (more_arms r t o f) }

    -- it is left, or known with the other value
    pub going_keep : (n : ℕ) (g : Kept) (from : ℕ) (before after : List ℕ) → a.to ≡ Pending n → Returned h.used from out part before → Keeps h n before g after → Going stop P W at depth arms s m after g a.next (left - 1)
    going_keep n g from before after is b e = going_more g after (λ v k. not_both (sym k ∙ is)) held e.few e.first_most e.used_most
      where
        held : (q : model.ReducedCondition) (cs : Conditions) → Left q a.to part → Holding cs out h → Holding (held_with cs q) after g
        held (known v) cs l k = not_both (sym l ∙ is)
        held (pending_c c) cs l k = held_more h g n from out part before after b e cs c (rw is at l.1) k

    pub going_same : (v : Bool) (from : ℕ) (after : List ℕ) → a.to ≡ Known v → beq v stop ≡ false → Returned h.used from out part after → Going stop P W at depth arms s m after h a.next (left - 1)
    going_same v from after is other b = going_more h after (λ w k. same_known stop (sym is ∙ k) other) held (omega arith) i.first_most i.used_most
      where
        held : (q : model.ReducedCondition) (cs : Conditions) → Left q a.to part → Holding cs out h → Holding (held_with cs q) after h
        held (known w) cs l k = held_same h from out part after b cs k
        held (pending_c c) cs l k = not_both (sym is ∙ l.0)

    -- it decides: the others are passed over
    pub going_stop : (v : Bool) (n : ℕ) (o : List ℕ) → a.to ≡ Known v → beq v stop ≡ true → SkippedConditions W a.next (left - 1) n → ReducesList stop P W at depth arms s (record { to = a.to; next = n }) m o
    going_stop v n o is halts k = record {
      bound = arm.bound;
      says = i.goes (record { to = a.to; next = n }) m o (λ cs _. first_arm {One = First} {Others = λ ds us. n ≡ a.next + words_cs ds} W next a.next (λ c rest x. x.next_is)
          (λ c rest ds us x y. record {
            left = subst (λ q. Left q a.to o) (sym (ap (λ w. end_of stop (behind cs w)) (walk_first stop P c ds ∙ stop_walk stop a.to part v is halts (reduce_condition P c) x.left (walk_of stop P ds)) ∙ end_stopped stop)) (is ∙ ap Known (beq_is v stop halts));
            next_is = omega (arith, x.next_is);
            log = consults_as (λ l. read_first stop P c ds l ∙ stop_read stop a.to part v is halts (reduce_condition P c) x.left (walk_c P c l) (read_of stop P ds (walk_c P c l))) x.log;
          })
          depth left some arm.says (k.ends depth));
    }

  -- No arm is left, and none has decided.
  pub going_end : (u : Lent) (out o : List ℕ) (h : Kept) (next left : ℕ) (r : Reduced) → left ≡ 0 → Going stop P W at depth arms s u out h next left →
      Ends stop h out r o → ReducesList stop P W at depth arms s (record { to = r; next = next }) u o
  going_end u out o h next left r z i e = record {
    bound = e.bound;
    says = i.goes (record { to = r; next = next }) u o (λ cs k. rw z (fine (record {
      left = subst (λ w. Left (end_of stop w) r o) (sym (ap (behind cs) (walk_none stop P) ∙ ap through (append_none cs))) (e.ends cs k);
      next_is = omega arith;
      log = consults_as (λ l. read_none stop P l) consults_none;
    })));
  }
