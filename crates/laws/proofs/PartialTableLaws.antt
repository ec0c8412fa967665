-- A partial table read as it is gives what it gives with Unknown turned to Absent: for every table, whether or not bytes give it, every condition, policy and record.
use Rattle.std.specs.Prelude.{◌≡◌, refl, [], ◌∷◌, ℕ}
use Rattle.std.proofs.Common.{◌∙◌, ap, ap₂}
use Rattle.model.specs.Facts.{Presence, absent, present, unknown, silent, Table}
use Rattle.model.specs.Outcome.{Outcomes}
use Rattle.model.specs.Condition.{Condition, eval_has, eval_condition}
use Rattle.model.specs.Policy.{Grant, Policy, permit, deny, grant, all, any, or_else, stored, Policies, pnil, pcons}
use Rattle.model.specs.Evaluate.{eval_grant, eval_policy}
use Rattle.model.specs.Partial.{reduce_condition, ReducedPolicy, resolved, pending, reduce_grant, reduce_or_else, Order, all_of, any_of, reduce_policy, reduce_arms}
use Rattle.model.specs.Consulted.{Consulted, once, unless_denied, unless_permitted, walk, walk_all, walk_any}
use Rattle.model.specs.Record.{Record, reduced, narrowed_from, narrowed}
use Rattle.laws.proofs.Alike.{eval_alike, policy_alike, all_of_lem, any_of_lem}
use Rattle.laws.specs.PartialTable.{settle, as_known, reduce_settled, arms_settled, walk_settled, walk_all_settled, walk_any_settled, reduced_settled, narrowed_from_settled, narrowed_settled}

has_settled : (f : ℕ) (p : Presence) → eval_has f (settle p) ≡ eval_has f p
has_settled f absent = refl
has_settled f present = refl
has_settled f unknown = refl
has_settled f silent = refl

module _ (P : Table) where
  has_alike : (f : ℕ) → eval_has f (as_known P f) ≡ eval_has f (P f)
  has_alike f = has_settled f (P f)

  -- A condition's value and the facts that it names, and a grant's clause.
  pub eval_settled : (c : Condition) → eval_condition (as_known P) c ≡ eval_condition P c
  eval_settled c = eval_alike (as_known P) P has_alike c

  pub grant_settled : {O : Type 0} (g : Grant O) (c : Condition) → eval_grant g (eval_condition (as_known P) c) ≡ eval_grant g (eval_condition P c)
  grant_settled g c = ap (eval_grant g) (eval_settled c)

module _ (L : Outcomes) where
  pub policy_settled : (P : Table) (t : Policy L.O) → eval_policy L (as_known P) t ≡ eval_policy L P t
  policy_settled P t = policy_alike (as_known P) P (has_alike P) L t

  -- Every record: the tree and the consulted facts.
  abbrev record_of : ReducedPolicy L.O → Consulted → Record L.O
  record_of x l = record { body = x; log = l }

  module _ (o : Order) where
    mutual
      pub reduction_settled : (P : Table) (t : Policy L.O) → reduce_settled L o P t ≡ reduce_policy L o P t
      reduction_settled P (permit x) = refl
      reduction_settled P deny = refl
      reduction_settled P (grant g c) = ap (λ v. reduce_grant g v (reduce_condition P c)) (eval_settled P c)
      reduction_settled P (all ts) = all_of_lem (as_known P) P (has_alike P) L o (arms_settled L o P ts) ∙ ap (all_of L o P) (arms_settled_lem P ts)
      reduction_settled P (any ts) = any_of_lem (as_known P) P (has_alike P) L o (arms_settled L o P ts) ∙ ap (any_of L o P) (arms_settled_lem P ts)
      reduction_settled P (or_else a b) = ap₂ reduce_or_else (reduction_settled P a) (reduction_settled P b)
      reduction_settled P (stored d) = refl

      arms_settled_lem : (P : Table) (ts : Policies L.O) → arms_settled L o P ts ≡ reduce_arms L o P ts
      arms_settled_lem P pnil = refl
      arms_settled_lem P (pcons t ts) = ap₂ ◌∷◌ (reduction_settled P t) (arms_settled_lem P ts)

    mutual
      pub walk_settled_lem : (P : Table) (t : Policy L.O) (l : Consulted) → walk_settled L o P t l ≡ walk L o P t l
      walk_settled_lem P (permit x) l = refl
      walk_settled_lem P deny l = refl
      walk_settled_lem P (grant g c) l = refl
      walk_settled_lem P (all ts) l = walks_all P ts l
      walk_settled_lem P (any ts) l = walks_any P ts l
      walk_settled_lem P (or_else a b) l =
          ap₂ (λ x here. unless_permitted x here (walk_settled L o P b here)) (reduction_settled P a) (walk_settled_lem P a l)
          ∙ ap (unless_permitted (reduce_policy L o P a) (walk L o P a l)) (walk_settled_lem P b (walk L o P a l))
      walk_settled_lem P (stored d) l = refl

      walks_all : (P : Table) (ts : Policies L.O) (l : Consulted) → walk_all_settled L o P ts l ≡ walk_all L o P ts l
      walks_all P pnil l = refl
      walks_all P (pcons t ts) l =
          ap₂ (λ x here. unless_denied x here (walk_all_settled L o P ts here)) (reduction_settled P t) (walk_settled_lem P t l)
          ∙ ap (unless_denied (reduce_policy L o P t) (walk L o P t l)) (walks_all P ts (walk L o P t l))

      walks_any : (P : Table) (ts : Policies L.O) (l : Consulted) → walk_any_settled L o P ts l ≡ walk_any L o P ts l
      walks_any P pnil l = refl
      walks_any P (pcons t ts) l = ap (walk_any_settled L o P ts) (walk_settled_lem P t l) ∙ walks_any P ts (walk L o P t l)

    pub reduced_settled_lem : (P : Table) (t : Policy L.O) → reduced_settled L o P t ≡ reduced L o P t
    reduced_settled_lem P t = ap₂ record_of (reduction_settled P t) (walk_settled_lem P t [])

    narrowed_from_lem : (P : Table) (x : ReducedPolicy L.O) (l : Consulted) → narrowed_from_settled L o P x l ≡ narrowed_from L o P x l
    narrowed_from_lem P (resolved d) l = refl
    narrowed_from_lem P (pending t) l = ap₂ record_of (reduction_settled P t) (walk_settled_lem P t (once l))

    pub narrowed_settled_lem : (P : Table) (r : Record L.O) → narrowed_settled L o P r ≡ narrowed L o P r
    narrowed_settled_lem P r = narrowed_from_lem P r.body r.log
