-- One step of a check, by what the code finds there. Assumes nothing.
use mathlib.Core.Path.{◌≡◌, refl, sym, ◌∙◌, ap, ap₂, subst}
use mathlib.Core.Bool.{Bool, true, false, cond}
use mathlib.Core.List.{List}
use Prim.Native.Nat.{ℕ, zero, suc, ◌+◌, ◌-◌, ◌*◌, ◌/◌, ◌%◌, ◌^◌, ◌≤◌, ◌<◌}
use native.Mathlib.Omega.{arith}
use Rattle.std.proofs.Math.Option.{none, some}
use borrow.Author.Tests.{le-leb, lt-leb, eqb-true, eqb-false, ne_eqb}
use lib.Dec.{eqb}
use lib.ListN.{length, drop, length-drop}
use lib.Seq.{drop-drop}
use Rattle.std.specs.Prelude.{Result, Ok, Err}
use Rattle.model.specs.Reading.{Parsed, refuse, got, unless, few_obligations}
use Rattle.model.specs.Products.{last_kind}
use Rattle.model.specs.Fields.{words_for}
use Rattle.laws.proofs.BitLaws.{Bits}
use Rattle.unpack.specs.declared.Found.{Found}
use Rattle.unpack.specs.declared.Node.{Node}
use Rattle.unpack.specs.declared.Place.{Place}
use Rattle.unpack.specs.declared.Step.{Step}
use Rattle.unpack.specs.Nodes.{field_in, lead_in, kind_in, lead_kind_of, grant_node, permit_node, deny_node, list_node, node_length, node_count}
use Rattle.unpack.specs.Answers.{ended, lead_read, Says, one_condition, all_conditions, one_policy, all_policies}
use Rattle.unpack.specs.Places.{whole, rest, after, step_of, plain_step, Steps}
use Rattle.unpack.specs.FieldLaws.{need, need_there, need_ended, field_small}
use Rattle.unpack.specs.NormalLaws.{field_split, owed8_in, owed_8}
use Rattle.unpack.specs.RecordLaws.{resolved_ended, resolved_bad, resolved_is}
use Rattle.unpack.specs.StepLaws.{policy_lists, condition_step, condition_bad, condition_deep, condition_ended, policy_step, policy_bad, policy_deep, policy_ended, grant_step, permit_step, deny_step}
use Rattle.unpack.proofs.Fields.{bits_here, no_lists}

-- ---- where the bits end
pub run_ended : (run : List ℕ) (at r : ℕ) → some r ≡ ended run at → (r ≡ 19) × (length run < at)
run_ended run at r e = grind arith

pub run_there : (run : List ℕ) (at : ℕ) → none ≡ ended run at → at ≤ length run
run_there run at e = grind arith

-- Its first bits.
pub lead_ended : (bs : List ℕ) (r : ℕ) → Err r ≡ lead_read bs → (r ≡ 19) × (length bs < 4)
lead_ended bs r e = grind arith

pub lead_there : (bs : List ℕ) (lead : ℕ) → Ok lead ≡ lead_read bs → (lead ≡ lead_in bs) × (4 ≤ length bs)
lead_there bs lead e = grind arith

-- ---- a place
module _ (p : Place) where
  pub after_ended : (width words r : ℕ) → Err r ≡ after p width words → (r ≡ 19) × (length (rest p.here) < width)
  after_ended width words r e = grind arith

  pub after_there : (width words : ℕ) (f : Found) → Ok f ≡ after p width words → (f.at ≡ p.here.at + width) × (f.words ≡ p.words + words) × (width ≤ length (rest p.here))
  after_there width words f e = grind arith

  pub after_inside : (width words : ℕ) (f : Found) → Ok f ≡ after p width words → f.at ≤ length (whole p.here)
  after_inside width words f e = let x = after_there width words f e in omega (arith, x.0, x.2, length-drop p.here.at (whole p.here), p.inside)

-- What is asked of a node without a condition, as a step.
module _ (p : Place) (depth : ℕ) (one : ℕ → List ℕ → Parsed ℕ) (arms : ℕ → List ℕ → ℕ → Parsed ℕ) (width words count : ℕ) where
  node_steps : 0 < depth → words < width → one p.words (rest p.here) ≡ need width (rest p.here) (arms (p.words + words) (drop width (rest p.here)) count) → Steps p depth one arms (step_of count (after p width words))
  node_steps d few e = by (after p width words) refl
    where
      by : (f : Result Found ℕ) → f ≡ after p width words → Steps p depth one arms (step_of count f)
      by (Err r) h = let x = after_ended p width words r h in e ∙ need_ended width (rest p.here) _ x.1 ∙ ap refuse (sym x.0)
      by (Ok f) h =
          let x = after_there p width words f h in (
            e ∙ need_there width (rest p.here) _ x.2 ∙ ap (λ l. arms (p.words + words) l count) (drop-drop width p.here.at (whole p.here)) ∙ (λ i. arms (sym x.1 i) (drop (sym x.0 i) (whole p.here)) count),
            after_inside p width words f h,
            omega (arith, x.0),
            omega (arith, x.0, x.1, p.fewer),
            d,
          )

-- ---- nodes without lists
module _ (p : Place) where
  condition_steps : (depth : ℕ) → (depth ≡ 0 → ⊥) → kind_in (rest p.here) < 6 → Steps p depth (one_condition depth) (all_conditions (depth - 1)) (plain_step p (lead_in (rest p.here)))
  condition_steps zero d l = absurd (d refl)
  condition_steps (suc depth) d l =
      subst (λ n. Steps p (suc depth) (one_condition (suc depth)) (all_conditions n) (plain_step p (lead_in (rest p.here)))) (let z : depth ≡ suc depth - 1 = omega arith in z)
      (node_steps p (suc depth) (one_condition (suc depth)) (all_conditions depth) _ 1 _ (omega arith) (omega arith) (condition_step (rest p.here) (bits_here p.here) depth p.words l))

  policy_steps : (depth : ℕ) (res : Bool) → (depth ≡ 0 → ⊥) → 6 ≤ kind_in (rest p.here) → (kind_in (rest p.here) ≡ 8 → ⊥) → kind_in (rest p.here) < 12 →
      Steps p depth (one_policy res depth) (all_policies res (depth - 1)) (plain_step p (lead_in (rest p.here)))
  policy_steps zero res d l m n = absurd (d refl)
  policy_steps (suc depth) res d l m n =
      subst (λ x. Steps p (suc depth) (one_policy res (suc depth)) (all_policies res x) (plain_step p (lead_in (rest p.here)))) (let z : depth ≡ suc depth - 1 = omega arith in z)
      (node_steps p (suc depth) (one_policy res (suc depth)) (all_policies res depth) _ 1 _ (omega arith) (omega arith) (policy_step (rest p.here) (bits_here p.here) res depth p.words l m n))

  -- The bits end before the kind.
  pub condition_short : (depth r : ℕ) → Err r ≡ lead_read (rest p.here) → one_condition depth p.words (rest p.here) ≡ refuse r
  condition_short depth r e = let x = lead_ended (rest p.here) r e in condition_ended (rest p.here) (bits_here p.here) depth p.words x.1 ∙ ap refuse (sym x.0)

  pub policy_short : (res : Bool) (depth r : ℕ) → Err r ≡ lead_read (rest p.here) → one_policy res depth p.words (rest p.here) ≡ refuse r
  policy_short res depth r e = let x = lead_ended (rest p.here) r e in policy_ended (rest p.here) (bits_here p.here) res depth p.words x.1 ∙ ap refuse (sym x.0)

  -- By the first bits, as they were read.
  module _ (lead : ℕ) (e : Ok lead ≡ lead_read (rest p.here)) where
    pub lead_small : lead < 2 ^ 20
    lead_small = omega (arith, (lead_there (rest p.here) lead e).0, field_small 0 20 (rest p.here) (bits_here p.here))

    pub lead_is : lead ≡ lead_in (rest p.here)
    lead_is = (lead_there (rest p.here) lead e).0

    pub lead_kind : lead / 65536 ≡ kind_in (rest p.here)
    lead_kind = ap lead_kind_of (lead_there (rest p.here) lead e).0

    pub there : 4 ≤ length (rest p.here)
    there = (lead_there (rest p.here) lead e).1

    pub no_condition : (depth : ℕ) → 5 < lead / 65536 → one_condition depth p.words (rest p.here) ≡ refuse 5
    no_condition depth l = condition_bad (rest p.here) (bits_here p.here) depth p.words there (omega (arith, lead_kind))

    pub deep_condition : (depth : ℕ) → depth ≡ 0 → lead / 65536 ≤ 5 → one_condition depth p.words (rest p.here) ≡ refuse 7
    deep_condition depth d l = ap (λ n. one_condition n p.words (rest p.here)) d ∙ condition_deep (rest p.here) (bits_here p.here) p.words there (omega (arith, lead_kind))

    pub plain_condition : (depth : ℕ) (s : Result Step ℕ) → s ≡ plain_step p lead → (depth ≡ 0 → ⊥) → lead / 65536 ≤ 5 →
        Steps p depth (one_condition depth) (all_conditions (depth - 1)) s
    plain_condition depth s f d l =
        subst (Steps p depth (one_condition depth) (all_conditions (depth - 1))) (sym (f ∙ ap (plain_step p) (lead_there (rest p.here) lead e).0))
        (condition_steps depth d (omega (arith, lead_kind)))

    pub no_policy : (res : Bool) (depth : ℕ) → (6 ≤ lead / 65536 → last_kind res < lead / 65536) → one_policy res depth p.words (rest p.here) ≡ refuse 5
    no_policy res depth f = policy_bad (rest p.here) (bits_here p.here) res depth p.words there (subst (λ k. 6 ≤ k → last_kind res < k) lead_kind f)

    pub deep_policy : (res : Bool) (depth : ℕ) → depth ≡ 0 → 6 ≤ lead / 65536 → lead / 65536 ≤ last_kind res → one_policy res depth p.words (rest p.here) ≡ refuse 7
    deep_policy res depth d l m = ap (λ n. one_policy res n p.words (rest p.here)) d ∙ policy_deep (rest p.here) (bits_here p.here) res p.words there (omega (arith, lead_kind)) (omega (arith, lead_kind))

    pub plain_policy : (res : Bool) (depth : ℕ) (s : Result Step ℕ) → s ≡ plain_step p lead → (depth ≡ 0 → ⊥) → 6 ≤ lead / 65536 → (lead / 65536 ≡ 8 → ⊥) → lead / 65536 < 12 →
        Steps p depth (one_policy res depth) (all_policies res (depth - 1)) s
    plain_policy res depth s f d l m n =
        subst (Steps p depth (one_policy res depth) (all_policies res (depth - 1))) (sym (f ∙ ap (plain_step p) (lead_there (rest p.here) lead e).0))
        (policy_steps depth res d (omega (arith, lead_kind)) (λ z. m (lead_kind ∙ z)) (omega (arith, lead_kind)))

-- ---- nodes with lists
-- A node has at least as many bits as words, and more than none.
pub grant_roomy : (bs : List ℕ) → node_count (grant_node bs) + 1 ≤ node_length (grant_node bs)
unfolding grant_node
grant_roomy bs = omega arith

permit_roomy : (bs : List ℕ) → node_count (permit_node bs) + 1 ≤ node_length (permit_node bs)
unfolding permit_node
permit_roomy bs = omega arith

deny_roomy : (bs : List ℕ) → node_count (deny_node bs) + 1 ≤ node_length (deny_node bs)
unfolding deny_node
deny_roomy bs = omega arith

pub list_roomy : (bs : List ℕ) (kind : ℕ) → node_count (list_node kind bs) + 1 ≤ node_length (list_node kind bs)
unfolding list_node
list_roomy bs kind = by (eqb kind 8) (eqb kind 12)
  where
    by : (a b : Bool) → node_count (cond a (grant_node bs) (cond b (permit_node bs) (deny_node bs))) + 1 ≤ node_length (cond a (grant_node bs) (cond b (permit_node bs) (deny_node bs)))
    by true b = grant_roomy bs
    by false true = permit_roomy bs
    by false false = deny_roomy bs

stored_is : (bs : List ℕ) (kind d w : ℕ) → Bits bs → kind_in bs ≡ kind → 12 ≤ kind → kind ≤ 13 → one_policy true (suc d) w bs ≡
    need (node_length (list_node kind bs)) bs (got (w + node_count (list_node kind bs)) (drop (node_length (list_node kind bs)) bs))
unfolding list_node
stored_is bs kind d w h e l m = by (eqb kind 12) refl
  where
    by : (b : Bool) → eqb kind 12 ≡ b → one_policy true (suc d) w bs ≡
        need (node_length (cond (eqb kind 8) (grant_node bs) (cond (eqb kind 12) (permit_node bs) (deny_node bs)))) bs (got (w + node_count (cond (eqb kind 8) (grant_node bs) (cond (eqb kind 12) (permit_node bs) (deny_node bs)))) (drop (node_length (cond (eqb kind 8) (grant_node bs) (cond (eqb kind 12) (permit_node bs) (deny_node bs)))) bs))
    by true f = rw (ne_eqb kind 8 (λ z. omega arith), f) (permit_step bs h d w (e ∙ eqb-true kind 12 f))
    by false f = let thirteen : kind ≡ 13 = omega (arith, eqb-false kind 12 f) in rw (ne_eqb kind 8 (λ z. omega arith), f) (deny_step bs h d w (e ∙ thirteen))

-- A node 12 or 13 at a place.
module _ (p : Place) (kind : ℕ) (e : kind_in (rest p.here) ≡ kind) (low : 12 ≤ kind) (high : kind ≤ 13) (depth : ℕ) (n : Node) (en : n ≡ list_node kind (rest p.here)) where
  stored_steps : Steps p (suc depth) (one_policy true (suc depth)) (all_policies true depth) (step_of 0 (after p (node_length n) (node_count n)))
  stored_steps =
      subst (λ n. Steps p (suc depth) (one_policy true (suc depth)) (all_policies true depth) (step_of 0 (after p (node_length n) (node_count n)))) (sym en)
      (let n = list_node kind (rest p.here) in
      node_steps p (suc depth) (one_policy true (suc depth)) (all_policies true depth) (node_length n) (node_count n) 0 (omega arith) (omega (arith, list_roomy (rest p.here) kind))
      (stored_is (rest p.here) kind depth p.words (bits_here p.here) e low high ∙ ap (need (node_length n) (rest p.here)) ((policy_lists true).none depth 0 (p.words + node_count n) (drop (node_length n) (rest p.here)) refl)))

  pub stored_as : (f : Result Found ℕ) (k v : ℕ) → k ≡ node_length n → v ≡ node_count n → f ≡ after p k v → Steps p (suc depth) (one_policy true (suc depth)) (all_policies true depth) (step_of 0 f)
  stored_as f k v ek ev h = subst (λ f. Steps p (suc depth) (one_policy true (suc depth)) (all_policies true depth) (step_of 0 f)) (sym (h ∙ ap₂ (after p) ek ev)) stored_steps

-- ---- a Grant
-- Its obligation count, its bits and its words, by its first 20 bits and the width before its obligations.
module _ (p : Place) (lead : ℕ) (e : lead ≡ lead_in (rest p.here)) where
  pub lead_owed : lead / 256 % 128 ≡ field_in 5 7 (rest p.here)
  lead_owed =
      omega (
        arith,
        e,
        field_split 5 0 15 (rest p.here),
        field_split 7 5 8 (rest p.here),
        field_small 5 7 (rest p.here) (bits_here p.here),
        field_small 12 8 (rest p.here) (bits_here p.here),
      )

  owed : (grant_node (rest p.here)).obligations ≡ lead / 256 % 128
  owed = owed_8 (rest p.here) (bits_here p.here) ∙ sym lead_owed

  pub grant_length : (width : ℕ) → width ≡ (grant_node (rest p.here)).width → width + 6 * (lead / 256 % 128) ≡ node_length (grant_node (rest p.here))
  unfolding grant_node
  grant_length width f = omega (arith, f, owed)

  pub grant_count : 2 + words_for 4 (lead / 256 % 128) ≡ node_count (grant_node (rest p.here))
  unfolding grant_node
  grant_count = ap (λ n. 2 + words_for 4 n) (sym owed) ∙ omega arith

-- Its condition begins after at least as many bits as words.
pub grant_fewer : (p : Place) (k v : ℕ) → k ≡ node_length (grant_node (rest p.here)) → v ≡ node_count (grant_node (rest p.here)) → (f : Found) → Ok f ≡ after p k v → f.words ≤ f.at
grant_fewer p k v ek ev f h = let x = after_there p k v f h in omega (arith, x.0, x.1, ek, ev, grant_roomy (rest p.here), p.fewer)

module _ (p : Place) (depth : ℕ) (e : kind_in (rest p.here) ≡ 8) (res : Bool) where
  abbrev asks : Parsed ℕ
  asks = one_policy res (suc depth) p.words (rest p.here)

  abbrev grant : ℕ
  grant = node_length (grant_node (rest p.here))

  abbrev onward : Parsed ℕ
  onward = need grant (rest p.here) (one_condition depth (p.words + node_count (grant_node (rest p.here))) (drop grant (rest p.here)))

  pub grant_short : (r : ℕ) → some r ≡ ended (rest p.here) 12 → asks ≡ refuse r
  grant_short r l = let x = run_ended (rest p.here) 12 r l in grant_step (rest p.here) (bits_here p.here) res depth p.words e ∙ need_ended 12 (rest p.here) _ x.1 ∙ ap refuse (sym x.0)

  module _ (l : none ≡ ended (rest p.here) 12) (owed : ℕ) (eo : owed ≡ field_in 5 7 (rest p.here)) where
    grant_there : asks ≡ unless (few_obligations owed) 8 onward
    grant_there =
        grant_step (rest p.here) (bits_here p.here) res depth p.words e
        ∙ need_there 12 (rest p.here) (unless (few_obligations (owed8_in (rest p.here) (bits_here p.here))) 8 onward) (run_there (rest p.here) 12 l)
        ∙ ap (λ n. unless (few_obligations n) 8 onward) (sym eo)

    pub grant_owing : 64 < owed → asks ≡ refuse 8
    grant_owing m = grant_there ∙ ap (λ x. unless x 8 onward) (lt-leb owed 64 m)

    module _ (m : owed ≤ 64) (k v : ℕ) (ek : k ≡ grant) (ev : v ≡ node_count (grant_node (rest p.here))) where
      grant_on : asks ≡ onward
      grant_on = grant_there ∙ ap (λ x. unless x 8 onward) (le-leb owed 64 m)

      pub grant_ended : (r : ℕ) → Err r ≡ after p k v → asks ≡ refuse r
      grant_ended r h = let x = after_ended p k v r h in grant_on ∙ need_ended grant (rest p.here) _ (omega (arith, x.1, ek)) ∙ ap refuse (sym x.0)

      module _ (f : Found) (h : Ok f ≡ after p k v) where
        abbrev facts : (f.at ≡ p.here.at + k) × (f.words ≡ p.words + v) × (k ≤ length (rest p.here))
        facts = after_there p k v f h

        grant_then : asks ≡ one_condition depth f.words (drop f.at (whole p.here))
        grant_then =
            grant_on
            ∙ need_there grant (rest p.here) _ (omega (arith, facts.2, ek))
            ∙ (λ i. one_condition depth (p.words + sym ev i) (drop (sym ek i) (rest p.here)))
            ∙ ap (one_condition depth (p.words + v)) (drop-drop k p.here.at (whole p.here))
            ∙ (λ i. one_condition depth (sym facts.1 i) (drop (sym facts.0 i) (whole p.here)))

        pub grant_ends : (g : Result Found ℕ) → Says (whole p.here) f.at (one_condition depth f.words (drop f.at (whole p.here))) g → Steps p (suc depth) (one_policy res (suc depth)) (all_policies res depth) (step_of 0 g)
        grant_ends (Err x) s = grant_then ∙ s
        grant_ends (Ok g) s =
            (grant_then ∙ s.0 ∙ (policy_lists res).none depth 0 g.words (drop g.at (whole p.here)) refl, s.1, omega (arith, grant_roomy (rest p.here), ek, facts.0, s.3), s.2, omega arith)

-- ---- in a policy's step
pub residual_true : (res : Bool) → 11 < last_kind res → res ≡ true
residual_true true h = refl
residual_true false h = let z : ⊥ = omega arith in absurd z

pub down : {depth : ℕ} → (depth ≡ 0 → ⊥) → (Q : ℕ → Type 0) → Q (suc (depth - 1)) → Q depth
down {depth} f Q q = subst Q (suc_of depth f) q
  where
    suc_of : (n : ℕ) → (n ≡ 0 → ⊥) → suc (n - 1) ≡ n
    suc_of zero f = absurd (f refl)
    suc_of (suc n) f = omega arith

-- ---- what the check of the code finds answers by
pub ruleset conditions = (lead_small, no_lists, condition_short, no_condition, deep_condition, plain_condition)

pub ruleset policies = (lead_small, no_lists, lead_is, lead_kind, policy_short, no_policy, deep_policy, plain_policy, residual_true)

pub ruleset resolved = (lead_kind, lead_ended, there, resolved_ended, resolved_bad, resolved_is)
