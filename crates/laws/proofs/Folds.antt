-- Folds: the outcome of a folded permit is the meet or the join of the outcomes; and for sets of products, what Any and All permit
-- is the union from no product on, and the intersection from all sixteen on, of what their arms permit.
use Rattle.std.specs.Prelude.{◌≡◌, refl, Bool, true, false, cond, List, [], ◌∷◌, ℕ}
use Rattle.std.proofs.Common.{sym, ◌∙◌, ap, subst, mod-eq_of_lt}
use Rattle.std.proofs.Math.Option.{Option, none, some}
use Rattle.std.specs.Int.Bits.{bit_and, bit_or, or_zero_r}
use Rattle.std.proofs.lemmas.Nat.{and_mask}
use Rattle.model.specs.Facts.{Table}
use Rattle.model.specs.Outcome.{Outcomes, outcome_bits, all_products, product_sets, union_of, intersection_of}
use Rattle.model.specs.Decision.{Permit, Denial, Decision, permits, denies, combined, products, union_obligations, meet_permit, join_permit}
use Rattle.model.specs.Policy.{all, any, Policies}
use Rattle.model.specs.Evaluate.{first_deny, all_from, any_from, eval_policy, eval_policies}
use Rattle.laws.specs.Products.{Lawful, InRange}
use Rattle.laws.proofs.ProductLaws.{lawful_products, written_products}

-- A choice has a value that both branches have, where the first has it if the test is true.
pick_value : {A B : Type 0} (f : A → B) (v : B) (b : Bool) (x y : A) → (b ≡ true → f x ≡ v) → f y ≡ v → f (cond b x y) ≡ v
pick_value f v true x y h k = h refl
pick_value f v false x y h k = k

module _ (L : Outcomes) (lawful : Lawful L) where
  abbrev out : Permit L.O → L.O
  out p = p.outcome

  pub meet_permit_outcome : (p q : Permit L.O) → (meet_permit L p q).outcome ≡ L.meet p.outcome q.outcome
  meet_permit_outcome p q =
      let o = L.meet p.outcome q.outcome in
      pick_value out o (L.same o p.outcome) p (cond (L.same o q.outcome) q (combined o [])) (λ e. sym (lawful.same_sound o p.outcome e))
      (pick_value out o (L.same o q.outcome) q (combined o []) (λ e. sym (lawful.same_sound o q.outcome e)) refl)

  pub join_permit_outcome : (p q : Permit L.O) → (join_permit L p q).outcome ≡ L.join p.outcome q.outcome
  join_permit_outcome p q =
      let o = L.join p.outcome q.outcome in
      let os = union_obligations p.obligations q.obligations in
      let pw : Permit L.O = record { outcome = p.outcome; obligations = os; label = p.label; facts = p.facts } in
      pick_value out o (L.same o p.outcome) (cond (L.same o q.outcome) pw p) (cond (L.same o q.outcome) q (combined o os))
      (λ e. pick_value out o (L.same o q.outcome) pw p (λ _. sym (lawful.same_sound o p.outcome e)) (sym (lawful.same_sound o p.outcome e)))
      (pick_value out o (L.same o q.outcome) q (combined o os) (λ e. sym (lawful.same_sound o q.outcome e)) refl)

-- ---- sets of products

-- What the arms permit; and, with the permit so far if there is one, what they come to.
abbrev pub permitted : List (Decision ℕ) → List ℕ
permitted [] = []
permitted (permits p ∷ ds) = p.outcome ∷ permitted ds
permitted (denies d ∷ ds) = permitted ds

abbrev pub if_any : (List ℕ → ℕ) → List ℕ → Option ℕ
if_any fold [] = none
if_any fold (o ∷ os) = some (fold (o ∷ os))

-- Every arm permits, within the sixteen products.
abbrev pub Permitting : List (Decision ℕ) → Type 0
Permitting [] = Unit {0}
Permitting (permits p ∷ ds) = InRange p.outcome × Permitting ds
Permitting (denies d ∷ ds) = ⊥

any_from_lem : (p : Permit ℕ) (first : Option (Denial ℕ)) (ds : List (Decision ℕ)) → products (any_from product_sets (some p) first ds) ≡ some (bit_or p.outcome (union_of (permitted ds)))
any_from_lem p first [] = ap some (sym (or_zero_r p.outcome))
any_from_lem p first (permits q ∷ ds) =
    any_from_lem (join_permit product_sets p q) first ds
    ∙ ap (λ o. some (bit_or o (union_of (permitted ds)))) (join_permit_outcome product_sets lawful_products p q)
    ∙ ap some (lawful_products.join_assoc p.outcome q.outcome (union_of (permitted ds)))
any_from_lem p first (denies d ∷ ds) = any_from_lem p (some (first_deny first d)) ds

-- Any permits the union of what its arms permit; it denies if none does.
any_permits_from : (first : Option (Denial ℕ)) (ds : List (Decision ℕ)) → products (any_from product_sets none first ds) ≡ if_any union_of (permitted ds)
any_permits_from none [] = refl
any_permits_from (some d) [] = refl
any_permits_from first (permits q ∷ ds) = any_from_lem q first ds
any_permits_from first (denies d ∷ ds) = any_permits_from (some (first_deny first d)) ds

pub any_permits : (T : Table) (ts : Policies ℕ) → products (eval_policy product_sets T (any ts)) ≡ if_any union_of (permitted (eval_policies product_sets T ts))
any_permits T ts = any_permits_from none (eval_policies product_sets T ts)

pub and_all : (o : ℕ) → InRange o → bit_and o all_products ≡ o
and_all o h = and_mask o outcome_bits ∙ mod-eq_of_lt h

all_from_lem : (p : Permit ℕ) (ds : List (Decision ℕ)) → InRange p.outcome → Permitting ds → products (all_from product_sets (some p) ds) ≡ some (bit_and p.outcome (intersection_of (permitted ds)))
all_from_lem p [] g h = ap some (sym (and_all p.outcome g))
all_from_lem p (permits q ∷ ds) g h =
    all_from_lem (meet_permit product_sets p q) ds (subst InRange (sym (meet_permit_outcome product_sets lawful_products p q)) (written_products.meets p.outcome q.outcome g h.0)) h.1
    ∙ ap (λ o. some (bit_and o (intersection_of (permitted ds)))) (meet_permit_outcome product_sets lawful_products p q)
    ∙ ap some (lawful_products.meet_assoc p.outcome q.outcome (intersection_of (permitted ds)))
all_from_lem p (denies d ∷ ds) g h = absurd h

all_permits_of : (ds : List (Decision ℕ)) → Permitting ds → products (all_from product_sets none ds) ≡ if_any intersection_of (permitted ds)
all_permits_of [] h = refl
all_permits_of (permits q ∷ ds) h = all_from_lem q ds h.0 h.1
all_permits_of (denies d ∷ ds) h = absurd h

-- All permits the intersection of what its arms permit, where every arm permits.
pub all_permits : (T : Table) (ts : Policies ℕ) → Permitting (eval_policies product_sets T ts) → products (eval_policy product_sets T (all ts)) ≡ if_any intersection_of (permitted (eval_policies product_sets T ts))
all_permits T ts h = all_permits_of (eval_policies product_sets T ts) h
