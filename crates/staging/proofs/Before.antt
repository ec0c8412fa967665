-- Lists without pending arms come to the same under both orders; of an All it is enough that no arm before its first deny is pending. So a policy that resolves in
-- sheet order resolves alike permits first. Request 8. Assumes nothing.
use Rattle.std.specs.Prelude.{◌≡◌, refl, Bool, true, false, cond, List, [], ◌∷◌}
use Rattle.std.proofs.Common.{sym, ◌∙◌, ap, ap₂, true≢false}
use Rattle.std.proofs.Math.Option.{Option, none, some}
use Rattle.model.specs.Facts.{Table}
use Rattle.model.specs.Outcome.{Outcomes}
use Rattle.model.specs.Decision.{Permit, Denial, Decision, permits, denies, meet_in, join_in}
use Rattle.model.specs.Policy.{Policy, permit, deny, grant, all, any, or_else, stored, Policies, pnil, pcons}
use Rattle.model.specs.Evaluate.{first_deny, all_from, any_end, any_from, eval_policy, eval_policies}
use Rattle.model.specs.Partial.{ReducedPolicy, resolved, pending, arms, AllWalk, stop, go, step_all, walked_all, AnyWalk, parts, step_any, walked_any, up_to_deny, in_order, any_pending, reduce_or_else, end_all, end_any, end_in_order, permits_first, sheet_order, all_of, any_of, reduce_policy, reduce_arms}

module _ (L : Outcomes) (T : Table) where
  end_resolves : (list : Policies L.O → Policy L.O) (rs : List (ReducedPolicy L.O)) → any_pending rs ≡ false → end_in_order L list T rs ≡ resolved (eval_policy L T (list (in_order rs)))
  end_resolves list rs e = rw e

  -- ---- All: a walk that comes to d after the permits so far
  abbrev AllEnds : Option (Permit L.O) → AllWalk L.O → Decision L.O → Type 0
  AllEnds sofar (stop c) d = denies c ≡ d
  AllEnds sofar (go ps pnil) d = all_from L sofar (eval_policies L T (arms ps pnil)) ≡ d
  AllEnds sofar (go ps (pcons q qs)) d = ⊥

  all_permit : (sofar : Option (Permit L.O)) (p : Permit L.O) (w : AllWalk L.O) (d : Decision L.O) → AllEnds (some (meet_in L sofar p)) w d → AllEnds sofar (step_all (resolved (permits p)) w) d
  all_permit sofar p (stop c) d h = h
  all_permit sofar p (go ps pnil) d h = h
  all_permit sofar p (go ps (pcons q qs)) d h = h

  all_ends : (rs : List (ReducedPolicy L.O)) (sofar : Option (Permit L.O)) → any_pending (up_to_deny rs) ≡ false → AllEnds sofar (walked_all rs) (all_from L sofar (eval_policies L T (in_order (up_to_deny rs))))
  all_ends [] sofar e = refl
  all_ends (resolved (denies d) ∷ rs) sofar e = refl
  all_ends (resolved (permits p) ∷ rs) sofar e =
      all_permit sofar p (walked_all rs) (all_from L (some (meet_in L sofar p)) (eval_policies L T (in_order (up_to_deny rs)))) (all_ends rs (some (meet_in L sofar p)) e)
  all_ends (pending q ∷ rs) sofar e = absurd (true≢false e)

  all_end_lem : (w : AllWalk L.O) (d : Decision L.O) → AllEnds none w d → resolved d ≡ end_all L T w
  all_end_lem (stop c) d h = ap resolved (sym h)
  all_end_lem (go ps pnil) d h = ap resolved (sym h)
  all_end_lem (go ps (pcons q qs)) d h = absurd h

  pub all_before : (rs : List (ReducedPolicy L.O)) → any_pending (up_to_deny rs) ≡ false → all_of L sheet_order T rs ≡ all_of L permits_first T rs
  all_before rs e = end_resolves all (up_to_deny rs) e ∙ all_end_lem (walked_all rs) (all_from L none (eval_policies L T (in_order (up_to_deny rs)))) (all_ends rs none e)

  -- ---- Any: a walk that comes to d after the permits and the first deny so far
  abbrev join_all : Option (Permit L.O) → List (Permit L.O) → Option (Permit L.O)
  join_all sofar [] = sofar
  join_all sofar (p ∷ ps) = join_all (some (join_in L sofar p)) ps

  abbrev or_later : Option (Denial L.O) → Option (Denial L.O) → Option (Denial L.O)
  or_later none later = later
  or_later (some c) later = some c

  or_none : (first : Option (Denial L.O)) → or_later first none ≡ first
  or_none none = refl
  or_none (some c) = refl

  or_deny : (first : Option (Denial L.O)) (d : Denial L.O) → or_later first (some d) ≡ some (first_deny first d)
  or_deny none d = refl
  or_deny (some c) d = refl

  abbrev AnyEnds : Option (Permit L.O) → Option (Denial L.O) → AnyWalk L.O → Decision L.O → Type 0
  AnyEnds sofar first (parts ps later pnil) d = any_end L (join_all sofar ps) (or_later first later) ≡ d
  AnyEnds sofar first (parts ps later (pcons q qs)) d = ⊥

  any_permit : (sofar : Option (Permit L.O)) (first : Option (Denial L.O)) (p : Permit L.O) (w : AnyWalk L.O) (d : Decision L.O) → AnyEnds (some (join_in L sofar p)) first w d → AnyEnds sofar first (step_any (resolved (permits p)) w) d
  any_permit sofar first p (parts ps later pnil) d h = h
  any_permit sofar first p (parts ps later (pcons q qs)) d h = h

  any_deny : (sofar : Option (Permit L.O)) (first : Option (Denial L.O)) (c : Denial L.O) (w : AnyWalk L.O) (d : Decision L.O) → AnyEnds sofar (some (first_deny first c)) w d → AnyEnds sofar first (step_any (resolved (denies c)) w) d
  any_deny sofar first c (parts ps later pnil) d h = ap (any_end L (join_all sofar ps)) (or_deny first c) ∙ h
  any_deny sofar first c (parts ps later (pcons q qs)) d h = h

  any_ends : (rs : List (ReducedPolicy L.O)) (sofar : Option (Permit L.O)) (first : Option (Denial L.O)) → any_pending rs ≡ false → AnyEnds sofar first (walked_any rs) (any_from L sofar first (eval_policies L T (in_order rs)))
  any_ends [] sofar first e = ap (any_end L sofar) (or_none first)
  any_ends (resolved (permits p) ∷ rs) sofar first e =
      any_permit sofar first p (walked_any rs) (any_from L (some (join_in L sofar p)) first (eval_policies L T (in_order rs))) (any_ends rs (some (join_in L sofar p)) first e)
  any_ends (resolved (denies d) ∷ rs) sofar first e =
      any_deny sofar first d (walked_any rs) (any_from L sofar (some (first_deny first d)) (eval_policies L T (in_order rs))) (any_ends rs sofar (some (first_deny first d)) e)
  any_ends (pending q ∷ rs) sofar first e = absurd (true≢false e)

  -- Where a permit stands, no deny matters.
  any_permits : (p : Permit L.O) (ps : List (Permit L.O)) (first : Option (Denial L.O)) → any_end L (join_all (some p) ps) first ≡ any_from L (some p) none (eval_policies L T (arms ps pnil))
  any_permits p [] first = refl
  any_permits p (q ∷ ps) first = any_permits (join_in L (some p) q) ps first

  any_end_lem : (w : AnyWalk L.O) (d : Decision L.O) → AnyEnds none none w d → resolved d ≡ end_any L T w
  any_end_lem (parts [] none pnil) d h = ap resolved (sym h)
  any_end_lem (parts [] (some c) pnil) d h = ap resolved (sym h)
  any_end_lem (parts (p ∷ ps) later pnil) d h = ap resolved (sym h ∙ any_permits p ps later)
  any_end_lem (parts ps later (pcons q qs)) d h = absurd h

  pub any_before : (rs : List (ReducedPolicy L.O)) → any_pending rs ≡ false → any_of L sheet_order T rs ≡ any_of L permits_first T rs
  any_before rs e = end_resolves any rs e ∙ any_end_lem (walked_any rs) (any_from L none none (eval_policies L T (in_order rs))) (any_ends rs none none e)

-- ---- policies
module _ {O : Type 0} where
  -- Where the first part is resolved, the second is the same.
  abbrev Alike : ReducedPolicy O → ReducedPolicy O → Type 0
  Alike r s = (d : Decision O) → r ≡ resolved d → s ≡ resolved d

  walked_more : (r s : ReducedPolicy O) (rs ss : List (ReducedPolicy O)) → Alike r s → (any_pending (up_to_deny rs) ≡ false → walked_all ss ≡ walked_all rs) → any_pending (up_to_deny (r ∷ rs)) ≡ false → walked_all (s ∷ ss) ≡ walked_all (r ∷ rs)
  walked_more (resolved (denies d)) s rs ss h k e = ap (λ x. step_all x (walked_all ss)) (h (denies d) refl)
  walked_more (resolved (permits p)) s rs ss h k e = ap₂ step_all (h (permits p) refl) (k e)
  walked_more (pending q) s rs ss h k e = absurd (true≢false e)

  same_more : (r s : ReducedPolicy O) (rs ss : List (ReducedPolicy O)) → Alike r s → (any_pending rs ≡ false → ss ≡ rs) → any_pending (r ∷ rs) ≡ false → s ∷ ss ≡ r ∷ rs
  same_more (resolved d) s rs ss h k e = ap₂ ◌∷◌ (h d refl) (k e)
  same_more (pending q) s rs ss h k e = absurd (true≢false e)

  else_alike : (a b x y : ReducedPolicy O) → Alike a x → Alike b y → Alike (reduce_or_else a b) (reduce_or_else x y)
  else_alike (resolved (permits p)) b x y h k d e = ap (λ z. reduce_or_else z y) (h (permits p) refl) ∙ e
  else_alike (resolved (denies c)) b x y h k d e = ap (λ z. reduce_or_else z y) (h (denies c) refl) ∙ k d e
  else_alike (pending q) b x y h k d e = cc

none_pending : {O : Type 0} (b : Bool) (t : Policy O) (c d : Decision O) → cond b (pending t) (resolved c) ≡ resolved d → b ≡ false
none_pending true t c d e = cc
none_pending false t c d e = refl

module _ (L : Outcomes) (P : Table) where
  ends_resolved : (list : Policies L.O → Policy L.O) (rs : List (ReducedPolicy L.O)) (d : Decision L.O) → end_in_order L list P rs ≡ resolved d → any_pending rs ≡ false
  ends_resolved list rs d e = none_pending (any_pending rs) (list (in_order rs)) (eval_policy L P (list (in_order rs))) d e

  mutual
    pub resolves_before : (t : Policy L.O) (d : Decision L.O) → reduce_policy L sheet_order P t ≡ resolved d → reduce_policy L permits_first P t ≡ resolved d
    resolves_before (permit x) d e = e
    resolves_before deny d e = e
    resolves_before (grant g c) d e = e
    resolves_before (all ts) d e =
        let rs = reduce_arms L sheet_order P ts in
        let h = ends_resolved all (up_to_deny rs) d e in
        ap (end_all L P) (same_walk ts h) ∙ sym (all_before L P rs h) ∙ e
    resolves_before (any ts) d e =
        let rs = reduce_arms L sheet_order P ts in
        let h = ends_resolved any rs d e in
        ap (any_of L permits_first P) (same_arms ts h) ∙ sym (any_before L P rs h) ∙ e
    resolves_before (or_else a b) d e =
        else_alike (reduce_policy L sheet_order P a) (reduce_policy L sheet_order P b) (reduce_policy L permits_first P a) (reduce_policy L permits_first P b) (λ c k. resolves_before a c k) (λ c k. resolves_before b c k) d e
    resolves_before (stored c) d e = e

    same_walk : (ts : Policies L.O) → any_pending (up_to_deny (reduce_arms L sheet_order P ts)) ≡ false → walked_all (reduce_arms L permits_first P ts) ≡ walked_all (reduce_arms L sheet_order P ts)
    same_walk pnil e = refl
    same_walk (pcons t ts) e =
        walked_more (reduce_policy L sheet_order P t) (reduce_policy L permits_first P t) (reduce_arms L sheet_order P ts) (reduce_arms L permits_first P ts) (λ c k. resolves_before t c k) (λ k. same_walk ts k) e

    same_arms : (ts : Policies L.O) → any_pending (reduce_arms L sheet_order P ts) ≡ false → reduce_arms L permits_first P ts ≡ reduce_arms L sheet_order P ts
    same_arms pnil e = refl
    same_arms (pcons t ts) e =
        same_more (reduce_policy L sheet_order P t) (reduce_policy L permits_first P t) (reduce_arms L sheet_order P ts) (reduce_arms L permits_first P ts) (λ c k. resolves_before t c k) (λ k. same_arms ts k) e
