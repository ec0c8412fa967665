-- A list rule by its first arm and the others. Assumes nothing.
use mathlib.Core.Path.{◌≡◌, refl, sym, ◌∙◌, ap, subst}
use mathlib.Core.Bool.{Bool, true, false, cond}
use mathlib.Core.Option.{Option, some}
use mathlib.Core.List.{List, ◌∷◌}
use Prim.Native.Nat.{ℕ, zero, suc, ◌+◌, ◌-◌, ◌<◌}
use native.Mathlib.Numerals.{sub-one}
use native.Mathlib.Omega.{arith}
use lib.ListN.{length, drop}
use lib.Seq.{drop-drop}
use Rattle.std.specs.Prelude.{Option as Sofar, Some, None, IfSome}
use Rattle.std.specs.Option.{unwrap_or}
use Rattle.model.specs.Facts.{Table}
use Rattle.model.specs.Levels.{OutcomeTable}
use Rattle.model.specs.Decision.{permits, denies}
use Rattle.model.specs.Decision.{Decision as Decided}
use Rattle.model.specs.Policy.{Policy, all, any, or_else, Policies, pnil, pcons}
use Rattle.model.specs.Evaluate.{first_of}
use Rattle.model.specs.Consulted.{Consulted, after_permit, after_deny}
use Rattle.model.specs.Reading.{Parsed, got, next, many}
use Rattle.model.specs.Products.{Outcome, eval_policy, eval_policies, read, read_all, read_any, read_policy}
use Rattle.laws.proofs.FieldLaws.{Holds, fine, weaker, then_holds, both_hold}
use Rattle.laws.specs.Size.{words, wordss}
use Rattle.policy_model.specs.declared.PolicyHead.TheVariants.{All, Any, OrElse}
use Rattle.policy_model.specs.Heads.{policy_node}
use Rattle.policy_model.specs.Span.{Skipped}
use Rattle.policy_model.proofs.Policies.{policy_leaves}
use Rattle.consulted.specs.Listing.{Lent}
use Rattle.consulted.proofs.Listing.{consults_none, consults_then, consults_as}
use Rattle.decision.specs.declared.Decision.{Decision}
use Rattle.decision.specs.Nodes.{clause_at}
use Rattle.decision.specs.Meaning.{denied_at, permit_of, decision_of, Sound}
use Rattle.decision.proofs.Standing.{denied_is, sound_denied}
use Rattle.decision.proofs.Buffers.{deny_decision, deny_sound}
use Rattle.evaluate.specs.declared.PolicyEval.{PolicyEval}
use Rattle.evaluate.specs.Folding.{or_denied, meet_next, all_of, join_next, any_of}
use Rattle.evaluate.specs.FoldingLaws.{all_is, any_is}
use Rattle.evaluate.specs.Evaluating.{eval_of, sofar_of, Answers, EvaluatesP, EvaluatesBy, Folds}
use Rattle.evaluate.proofs.Nodes.{node_holds, skipped, one_passed}
use Rattle.decision.specs.Room.{Few}

-- ---- what a decision decides
abbrev pub decides : Decided Outcome → Bool
decides (permits p) = true
decides (denies d) = false

decides_at : (b : Bool) (W : List ℕ) (T : Table) (buf : List ℕ) (d : Decision) → decides (cond b (permits (permit_of W T buf d)) (denies (clause_at W T d.clause))) ≡ b
decides_at true W T buf d = refl
decides_at false W T buf d = refl

pub decides_as : (W : List ℕ) (T : Table) (buf : List ℕ) (d : Decision) → decides (decision_of W T buf d) ≡ d.permit
unfolding decision_of
decides_as W T buf d = decides_at d.permit W T buf d

-- ---- arms
-- The answer for the arms that are left, given the decision so far and its buffer. Of arms that don't read nothing is said.
pub record ArmsLeft (value : Policies Outcome → Decided Outcome) (reads : Policies Outcome → Consulted → Consulted) (T : Table) (W : List ℕ) (sofar : Sofar Decision) (before : List ℕ) (at depth : ℕ) (arms : ℕ) (s : Lent) (r : PolicyEval) (t : Lent) (buf : List ℕ) : Type 0 where
  pub few : Few r.decision
  pub says : IfSome sofar (Sound W before) →
      Holds (λ ps rest. Answers T W (value ps) (at + wordss ps) (reads ps) s r t buf) (many pnil pcons (read_policy true depth) arms (drop at W))

-- What a list rule, of its first arm, leaves to the others.
pub record LeavesTo (g : Option OutcomeTable) (T : Table) (value others : Policies Outcome → Decided Outcome) (reads read_on : Policies Outcome → Consulted → Consulted) (p : Policy Outcome) (ps : Policies Outcome) : Type 0 where
  pub value_is : value (pcons p ps) ≡ others ps
  pub read_is : (l : Consulted) → reads (pcons p ps) l ≡ read_on ps (read g T p l)

pub arms_more : (p : List ℕ → Parsed (Policy Outcome)) (arms : ℕ) (ws : List ℕ) → (arms ≡ 0 → ⊥) →
    many pnil pcons p arms ws ≡ next (p ws) (λ a vs. next (many pnil pcons p (arms - 1) vs) (λ ps us. got (pcons a ps) us))
arms_more p zero ws f = absurd (f refl)
arms_more p (suc arms) ws f = rw sub-one

-- The rule by the answer a to the first arm, with its buffer, and the answer for the others, which may follow the same rule or be decided.
module _ {g : Option OutcomeTable} {T : Table} {value others : Policies Outcome → Decided Outcome} {reads read_on : Policies Outcome → Consulted → Consulted} {W : List ℕ} {at depth arms : ℕ} {s m t : Lent} {a r : PolicyEval}
    {sofar now : Sofar Decision} {before part mid buf : List ℕ} where
  arm_first : (arms ≡ 0 → ⊥) → EvaluatesP g T W at depth s a m part →
      (IfSome sofar (Sound W before) → Sound W part a.decision → IfSome now (Sound W mid)) →
      ((p : Policy Outcome) (ps : Policies Outcome) → IfSome sofar (Sound W before) → Sound W part a.decision → decision_of W T part a.decision ≡ eval_policy g T p → LeavesTo g T value others reads read_on p ps) →
      ArmsLeft others read_on T W now mid a.next depth (arms - 1) m r t buf → ArmsLeft value reads T W sofar before at depth arms s r t buf
  arm_first f first sound v rest =
      let one = read_policy true depth in
      record {
        few = rest.few;
        says = λ z. rw (arms_more one arms (drop at W) f)
            (then_holds (one (drop at W)) (λ p vs. next (many pnil pcons one (arms - 1) vs) (λ ps us. got (pcons p ps) us))
            (both_hold (one (drop at W)) (first.says true) (policy_leaves true depth (drop at W))) (λ p vs h.
            let after : drop a.next W ≡ vs = ap (λ n. drop n W) h.0.next_is ∙ sym (drop-drop (words p) at W) ∙ h.1 in
            then_holds (many pnil pcons one (arms - 1) vs) (λ ps us. got (pcons p ps) us)
            (subst (λ ws. Holds (λ ps _. Answers T W (others ps) (a.next + wordss ps) (read_on ps) m r t buf) (many pnil pcons one (arms - 1) ws)) after (rest.says (sound z h.0.sound))) (λ ps us i.
            let l = v p ps z h.0.sound h.0.decision_is in
            fine (record {
              decision_is = i.decision_is ∙ sym l.value_is;
              sound = i.sound;
              next_is = omega (arith, h.0.next_is, i.next_is);
              log = consults_as l.read_is (consults_then h.0.log i.log);
            }))));
      }

-- No arm is left: the decision so far is the answer, or a deny with nothing named.
module _ (T : Table) (W before : List ℕ) where
  ended_is : (sofar : Sofar Decision) → decision_of W T before (unwrap_or sofar (denied_at None)) ≡ or_denied (sofar_of W T before sofar)
  ended_is None = denied_is W T before
  ended_is (Some d) = refl

  ended_sound : (sofar : Sofar Decision) → IfSome sofar (Sound W before) → Sound W before (unwrap_or sofar (denied_at None))
  ended_sound None s = sound_denied W before None tt
  ended_sound (Some d) s = s

  ended_few : (sofar : Sofar Decision) → IfSome sofar Few → Few (unwrap_or sofar (denied_at None))
  ended_few None few = omega arith
  ended_few (Some d) few = few

pub arms_none : {T : Table} {W before : List ℕ} {value : Policies Outcome → Decided Outcome} {reads : Policies Outcome → Consulted → Consulted} {sofar : Sofar Decision} {at depth : ℕ} {arms : ℕ} {s : Lent} →
    arms ≡ 0 → IfSome sofar Few → value pnil ≡ or_denied (sofar_of W T before sofar) → ((l : Consulted) → reads pnil l ≡ l) →
    ArmsLeft value reads T W sofar before at depth arms s (eval_of (unwrap_or sofar (denied_at None)) at) s before
arms_none {T = T} {W} {before} {sofar = sofar} z few v e = record {
  few = ended_few T W before sofar few;
  says = λ sound. rw z (fine (record { decision_is = ended_is T W before sofar ∙ sym v; sound = ended_sound T W before sofar sound; next_is = omega arith; log = consults_as e consults_none }));
}

-- Arms that are passed over: the rule is decided.
pub arms_passed : {T : Table} {W : List ℕ} {d : Decision} {buf : List ℕ} {at depth arms end : ℕ} {s : Lent} → Few d →
    ((depth : ℕ) (res : Bool) → Skipped wordss at (many pnil pcons (read_policy res depth) arms (drop at W)) end) →
    ArmsLeft (λ _. decision_of W T buf d) (λ _ l. l) T W (Some d) buf at depth arms s (eval_of d end) s buf
arms_passed {W = W} {at = at} {depth} {arms} {end} few k = record {
  few = few;
  says = λ sound. weaker (many pnil pcons (read_policy true depth) arms (drop at W))
      (λ ps rest e. record { decision_is = refl; sound = sound; next_is = e; log = consults_none })
      (skipped wordss at end (many pnil pcons (read_policy true depth) arms (drop at W)) (k depth true));
}

-- ---- All: a permit is met with those before it, a deny decides
all_more_at : (g : Option OutcomeTable) (x : Option (Decided Outcome)) (y : Decided Outcome) (ds : List (Decided Outcome)) → decides y ≡ true → all_of g x (y ∷ ds) ≡ all_of g (some (meet_next g x y)) ds
all_more_at g x (permits q) ds e = refl
all_more_at g x (denies d) ds e = cc

all_stop_at : (g : Option OutcomeTable) (x : Option (Decided Outcome)) (y : Decided Outcome) (ds : List (Decided Outcome)) → decides y ≡ false → all_of g x (y ∷ ds) ≡ y
all_stop_at g x (permits q) ds e = cc
all_stop_at g x (denies d) ds e = refl

after_permit_lem : (x : Decided Outcome) (here on : Consulted) → decides x ≡ true → after_permit x here on ≡ on
after_permit_lem (permits p) here on e = refl
after_permit_lem (denies d) here on e = cc

after_permit_stop : (x : Decided Outcome) (here on : Consulted) → decides x ≡ false → after_permit x here on ≡ here
after_permit_stop (permits p) here on e = cc
after_permit_stop (denies d) here on e = refl

module _ (g : Option OutcomeTable) (T : Table) (W : List ℕ) where
  -- The rules of a decision so far, with its buffer.
  abbrev pub all_left : Sofar Decision → List ℕ → Policies Outcome → Decided Outcome
  all_left sofar before ps = all_of g (sofar_of W T before sofar) (eval_policies g T ps)

  abbrev pub any_left : Sofar Decision → List ℕ → Policies Outcome → Decided Outcome
  any_left sofar before ps = any_of g (sofar_of W T before sofar) (eval_policies g T ps)

module _ {g : Option OutcomeTable} {T : Table} {W : List ℕ} {at depth arms : ℕ} {s m t : Lent} {a r : PolicyEval} {sofar : Sofar Decision} {before part mid buf : List ℕ} (left : arms ≡ 0 → ⊥)
    (first : EvaluatesP g T W at depth s a m part) where
  pub all_more : {now : Decision} → a.decision.permit ≡ true → Folds (meet_next g) W sofar before a.decision part now mid →
      ArmsLeft (all_left g T W (Some now) mid) (read_all g T) T W (Some now) mid a.next depth (arms - 1) m r t buf →
      ArmsLeft (all_left g T W sofar before) (read_all g T) T W sofar before at depth arms s r t buf
  all_more q f rest =
      arm_first left first f.sound
      (λ p ps z i e.
      let x = eval_policy g T p in
      let permit : decides x ≡ true = ap decides (sym e) ∙ decides_as W T part a.decision ∙ q in
      record {
        value_is =
            all_more_at g (sofar_of W T before sofar) x (eval_policies g T ps) permit
            ∙ ap (λ y. all_of g (some (meet_next g (sofar_of W T before sofar) y)) (eval_policies g T ps)) (sym e)
            ∙ ap (λ y. all_of g (some y) (eval_policies g T ps)) (sym (f.folded z i T));
        read_is = λ l. after_permit_lem x (read g T p l) (read_all g T ps (read g T p l)) permit;
      })
      rest

  pub all_stop : a.decision.permit ≡ false →
      ArmsLeft (λ _. decision_of W T mid a.decision) (λ _ l. l) T W (Some a.decision) mid a.next depth (arms - 1) m r t buf →
      ArmsLeft (all_left g T W sofar before) (read_all g T) T W sofar before at depth arms s r t buf
  all_stop q rest =
      arm_first left first
      (λ _ i. deny_sound W part mid a.decision q i)
      (λ p ps z i e.
      let x = eval_policy g T p in
      let denied : decides x ≡ false = ap decides (sym e) ∙ decides_as W T part a.decision ∙ q in
      record {
        value_is = all_stop_at g (sofar_of W T before sofar) x (eval_policies g T ps) denied ∙ sym e ∙ sym (deny_decision W part mid a.decision q i T);
        read_is = λ l. after_permit_stop x (read g T p l) (read_all g T ps (read g T p l)) denied;
      })
      rest

  -- ---- Any: every arm is read
  pub any_more : {now : Decision} → Folds (join_next g) W sofar before a.decision part now mid →
      ArmsLeft (any_left g T W (Some now) mid) (read_any g T) T W (Some now) mid a.next depth (arms - 1) m r t buf →
      ArmsLeft (any_left g T W sofar before) (read_any g T) T W sofar before at depth arms s r t buf
  any_more f rest =
      arm_first left first f.sound
      (λ p ps z i e. record {
        value_is =
            ap (λ y. any_of g (some (join_next g (sofar_of W T before sofar) y)) (eval_policies g T ps)) (sym e)
            ∙ ap (λ y. any_of g (some y) (eval_policies g T ps)) (sym (f.folded z i T));
        read_is = λ l. refl;
      })
      rest

-- ---- the node that has the arms
module _ {g : Option OutcomeTable} {T : Table} {W : List ℕ} {at depth n : ℕ} {s : Lent} {r : PolicyEval} {t : Lent} {before buf : List ℕ} (lt : at < length W) where
  pub all_node : ArmsLeft (all_left g T W None before) (read_all g T) T W None before (at + 1) depth n s r t buf → EvaluatesBy g (All n) T W at depth s r t buf
  unfolding policy_node
  all_node a = record {
    few = a.few;
    says = λ e. node_holds W at depth (All n) lt e
        (then_holds (many pnil pcons (read_policy true depth) n (drop (at + 1) W)) (λ ts vs. got (all ts) vs) (a.says tt) (λ ps rest h. fine (record {
          decision_is = h.decision_is ∙ sym (all_is g (eval_policies g T ps));
          sound = h.sound;
          next_is = omega (arith, h.next_is);
          log = consults_as (λ l. refl) h.log;
        })));
  }

  pub any_node : ArmsLeft (any_left g T W None before) (read_any g T) T W None before (at + 1) depth n s r t buf → EvaluatesBy g (Any n) T W at depth s r t buf
  unfolding policy_node
  any_node a = record {
    few = a.few;
    says = λ e. node_holds W at depth (Any n) lt e
        (then_holds (many pnil pcons (read_policy true depth) n (drop (at + 1) W)) (λ ts vs. got (any ts) vs) (a.says tt) (λ ps rest h. fine (record {
          decision_is = h.decision_is ∙ sym (any_is g (eval_policies g T ps));
          sound = h.sound;
          next_is = omega (arith, h.next_is);
          log = consults_as (λ l. refl) h.log;
        })));
  }

-- ---- OrElse: the fallback counts only where the primary denies
first_permits : (x y : Decided Outcome) → decides x ≡ true → first_of x y ≡ x
first_permits (permits p) y e = refl
first_permits (denies d) y e = cc

first_denies : (x y : Decided Outcome) → decides x ≡ false → first_of x y ≡ y
first_denies (permits p) y e = cc
first_denies (denies d) y e = refl

after_deny_lem : (x : Decided Outcome) (here on : Consulted) → decides x ≡ false → after_deny x here on ≡ on
after_deny_lem (permits p) here on e = cc
after_deny_lem (denies d) here on e = refl

after_deny_stop : (x : Decided Outcome) (here on : Consulted) → decides x ≡ true → after_deny x here on ≡ here
after_deny_stop (permits p) here on e = refl
after_deny_stop (denies d) here on e = cc

module _ {g : Option OutcomeTable} {T : Table} {W : List ℕ} {at depth : ℕ} {s m : Lent} {a : PolicyEval} {mid : List ℕ} (lt : at < length W) (first : EvaluatesP g T W (at + 1) depth s a m mid) where
  pub or_permits : {end : ℕ} → a.decision.permit ≡ true →
      ((depth : ℕ) (res : Bool) → Skipped wordss a.next (many pnil pcons (read_policy res depth) 1 (drop a.next W)) end) → EvaluatesBy g OrElse T W at depth s (eval_of a.decision end) m mid
  unfolding policy_node
  or_permits {end} q k = let one = read_policy true depth in record {
    few = first.few;
    says = λ e. node_holds W at depth OrElse lt e
        (then_holds (one (drop (at + 1) W)) (λ x vs. next (one vs) (λ y us. got (or_else x y) us))
        (both_hold (one (drop (at + 1) W)) (first.says true) (policy_leaves true depth (drop (at + 1) W))) (λ x vs h.
        let after : drop a.next W ≡ vs = ap (λ n. drop n W) h.0.next_is ∙ sym (drop-drop (words x) (at + 1) W) ∙ h.1 in
        let permit : decides (eval_policy g T x) ≡ true = ap decides (sym h.0.decision_is) ∙ decides_as W T mid a.decision ∙ q in
        then_holds (one vs) (λ y us. got (or_else x y) us)
        (subst (λ ws. Holds (λ y _. end ≡ a.next + words y) (one ws)) after (one_passed a.next end (one (drop a.next W)) (k depth true))) (λ y us f. fine (record {
          decision_is = h.0.decision_is ∙ sym (first_permits (eval_policy g T x) (eval_policy g T y) permit);
          sound = h.0.sound;
          next_is = omega (arith, h.0.next_is, f);
          log = consults_as (λ l. after_deny_stop (eval_policy g T x) (read g T x l) (read g T y (read g T x l)) permit) h.0.log;
        }))));
  }

  pub or_denies : {t : Lent} {b : PolicyEval} {buf : List ℕ} → a.decision.permit ≡ false → EvaluatesP g T W a.next depth m b t buf → EvaluatesBy g OrElse T W at depth s b t buf
  unfolding policy_node
  or_denies {t} {b} {buf} q second = let one = read_policy true depth in record {
    few = second.few;
    says = λ e. node_holds W at depth OrElse lt e
        (then_holds (one (drop (at + 1) W)) (λ x vs. next (one vs) (λ y us. got (or_else x y) us))
        (both_hold (one (drop (at + 1) W)) (first.says true) (policy_leaves true depth (drop (at + 1) W))) (λ x vs h.
        let after : drop a.next W ≡ vs = ap (λ n. drop n W) h.0.next_is ∙ sym (drop-drop (words x) (at + 1) W) ∙ h.1 in
        let denied : decides (eval_policy g T x) ≡ false = ap decides (sym h.0.decision_is) ∙ decides_as W T mid a.decision ∙ q in
        then_holds (one vs) (λ y us. got (or_else x y) us)
        (subst (λ ws. Holds (λ y _. Answers T W (eval_policy g T y) (a.next + words y) (read g T y) m b t buf) (one ws)) after (second.says true)) (λ y us f. fine (record {
          decision_is = f.decision_is ∙ sym (first_denies (eval_policy g T x) (eval_policy g T y) denied);
          sound = f.sound;
          next_is = omega (arith, h.0.next_is, f.next_is);
          log = consults_as (λ l. after_deny_lem (eval_policy g T x) (read g T x l) (read g T y (read g T x l)) denied) (consults_then h.0.log f.log);
        }))));
  }

-- ---- a loop over arms: the buffer was buf₀, and is buf now; what answers for the arms that are left answers for all
pub record Going (Left Whole : PolicyEval → Lent → List ℕ → Type 0) (sofar : Sofar Decision) (buf₀ buf : List ℕ) : Type 0 where
  pub buf_long : length buf ≡ length buf₀
  pub few : IfSome sofar Few
  pub goes : (r : PolicyEval) (t : Lent) (end : List ℕ) → Left r t end → Whole r t end
