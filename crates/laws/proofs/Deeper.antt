-- What is read with some levels left is read just so with more of them, and where nodes 12 and 13 are allowed too.
use Rattle.std.specs.Prelude.{◌≡◌, refl, Bool, true, false, ◌&&◌, List, [], ◌∷◌, ℕ, zero, suc, ◌+◌, ◌-◌, ◌/◌, ◌%◌, ◌^◌, ◌≤◌, eqb, ltb, leb}
use Rattle.std.proofs.Common.{◌∙◌, ap, arith}
use Rattle.std.proofs.Math.Option.{Option, none, some}
use Rattle.model.specs.Fields.{bits}
use Rattle.model.specs.Outcome.{outcome_bits}
use Rattle.model.specs.Condition.{Condition, not_c, all_c, any_c, cnil, ccons}
use Rattle.model.specs.Decision.{Decision}
use Rattle.model.specs.Policy.{Policy, deny, grant, all, any, or_else, pnil, pcons}
use Rattle.model.specs.Writing.{count_bits, mark_bits, obligation_bits}
use Rattle.model.specs.Reading.{Parsed, refuse, got, next, unless, another, read_list, obligation, few_obligations, kind_of, rest_of, plain, counted, many, node_c, read_condition, mark, shape_of, outcome_of, grant_more, grant_at, at12, at13, as_stored, in_residual, permit_at, node_p, last_kind, read_policy}

-- If the first reads something, the second reads the same.
abbrev FollowsAt : {A : Type 0} → Parsed A → Parsed A → Type 0
FollowsAt (refuse n) q = Unit {0}
FollowsAt (got a ws) q = q ≡ got a ws

pub record Follows {A : Type 0} (p q : Parsed A) : Type 0 where
  pub it : FollowsAt p q

pub follows_got : {A : Type 0} {p q : Parsed A} {a : A} {ws : List ℕ} → Follows p q → p ≡ got a ws → q ≡ got a ws
follows_got {p = refuse n} h e = cc
follows_got {p = got b vs} h e = h.it ∙ e

pub refused : {A : Type 0} {n : ℕ} {q : Parsed A} → Follows (refuse n) q
refused = record { it = tt }

pub equal : {A : Type 0} (p : Parsed A) → Follows p p
equal (refuse n) = record { it = tt }
equal (got a ws) = record { it = refl }

pub follows_unless : {A : Type 0} (b : Bool) (n : ℕ) (p q : Parsed A) → Follows p q → Follows (unless b n p) (unless b n q)
follows_unless true n p q h = h
follows_unless false n p q h = refused

pub another_follows : {A : Type 0} (ws : List ℕ) (k l : ℕ → List ℕ → Parsed A) → ((w : ℕ) (vs : List ℕ) → Follows (k w vs) (l w vs)) → Follows (another ws k) (another ws l)
another_follows [] k l g = refused
another_follows (w ∷ ws) k l g = g w ws

module _ {A B : Type 0} where
  pub follows_next : (p q : Parsed A) (k l : A → List ℕ → Parsed B) → Follows p q → ((a : A) (ws : List ℕ) → Follows (k a ws) (l a ws)) → Follows (next p k) (next q l)
  follows_next (refuse n) q k l h f = refused
  follows_next (got a ws) q k l h f = subst_next (k a ws) (f a ws)
    where
      subst_next : (x : Parsed B) → Follows x (l a ws) → Follows x (next q l)
      subst_next (refuse n) g = refused
      subst_next (got b vs) g = record { it = ap (λ z. next z l) h.it ∙ g.it }

  module _ (nil : B) (cons : A → B → B) (p q : List ℕ → Parsed A) (f : (ws : List ℕ) → Follows (p ws) (q ws)) where
    pub follows_many : (n : ℕ) (ws : List ℕ) → Follows (many nil cons p n ws) (many nil cons q n ws)
    follows_many zero ws = equal (got nil ws)
    follows_many (suc n) ws =
        follows_next (p ws) (q ws) (λ a vs. next (many nil cons p n vs) (λ xs us. got (cons a xs) us)) (λ a vs. next (many nil cons q n vs) (λ xs us. got (cons a xs) us)) (f ws)
        (λ a vs. follows_next' (many nil cons p n vs) (many nil cons q n vs) a (follows_many n vs))
      where
        follows_next' : (x y : Parsed B) (a : A) → Follows x y → Follows (next x (λ xs us. got (cons a xs) us)) (next y (λ xs us. got (cons a xs) us))
        follows_next' (refuse n) y a h = refused
        follows_next' (got b us) y a h = record { it = ap (λ z. next z (λ xs vs. got (cons a xs) vs)) h.it }

pub follows_list : {A B C : Type 0} (nil : B) (cons : A → B → B) (p q : List ℕ → Parsed A) → ((ws : List ℕ) → Follows (p ws) (q ws)) → (make : B → C) (r : ℕ) (ws : List ℕ) →
    Follows (counted r (next (many nil cons p r ws) (λ xs vs. got (make xs) vs))) (counted r (next (many nil cons q r ws) (λ xs vs. got (make xs) vs)))
follows_list nil cons p q f make r ws =
    follows_unless (ltb r (2 ^ count_bits)) 8 _ _
    (follows_next (many nil cons p r ws) (many nil cons q r ws) (λ xs vs. got (make xs) vs) (λ xs vs. got (make xs) vs) (follows_many nil cons p q f r ws) (λ xs vs. equal (got (make xs) vs)))

-- ---- conditions
module _ (p q : List ℕ → Parsed Condition) (f : (ws : List ℕ) → Follows (p ws) (q ws)) where
  node_c_lem : (k r : ℕ) (ws : List ℕ) → Follows (node_c p k r ws) (node_c q k r ws)
  node_c_lem zero r ws = equal (node_c p 0 r ws)
  node_c_lem (suc zero) r ws = equal (node_c p 1 r ws)
  node_c_lem (suc (suc zero)) r ws = equal (node_c p 2 r ws)
  node_c_lem (suc (suc (suc zero))) r ws =
      follows_unless (eqb r 0) 8 (next (p ws) (λ c vs. got (not_c c) vs)) (next (q ws) (λ c vs. got (not_c c) vs))
      (follows_next (p ws) (q ws) (λ c vs. got (not_c c) vs) (λ c vs. got (not_c c) vs) (f ws) (λ c vs. equal (got (not_c c) vs)))
  node_c_lem (suc (suc (suc (suc zero)))) r ws = follows_list cnil ccons p q f all_c r ws
  node_c_lem (suc (suc (suc (suc (suc zero))))) r ws = follows_list cnil ccons p q f any_c r ws
  node_c_lem (suc (suc (suc (suc (suc (suc k)))))) r ws = refused

pub deeper_c : (d e : ℕ) (ws : List ℕ) → d ≤ e → Follows (read_condition d ws) (read_condition e ws)
deeper_c zero e [] h = refused
deeper_c zero e (w ∷ ws) h = no_level (ltb (kind_of w) 6)
  where
    no_level : (b : Bool) → Follows (unless b 5 (refuse 7)) (read_condition e (w ∷ ws))
    no_level true = refused
    no_level false = refused
deeper_c (suc d) e [] h = refused
deeper_c (suc d) zero (w ∷ ws) h = let z : ⊥ = omega arith in absurd z
deeper_c (suc d) (suc e) (w ∷ ws) h = node_c_lem (λ vs. read_condition d vs) (λ vs. read_condition e vs) (λ vs. deeper_c d e vs (omega arith)) (kind_of w) (rest_of w) ws

-- ---- policies
module _ {O : Type 0} (value : ℕ → Option O) where
  module _ (pc qc : List ℕ → Parsed Condition) (fc : (ws : List ℕ) → Follows (pc ws) (qc ws)) (p q : List ℕ → Parsed (Policy O)) (f : (ws : List ℕ) → Follows (p ws) (q ws)) where
    outcome_follows : {A : Type 0} (o : Option O) (k l : O → Parsed A) → ((x : O) → Follows (k x) (l x)) → Follows (outcome_of value o k) (outcome_of value o l)
    outcome_follows none k l g = refused
    outcome_follows (some x) k l g = g x

    grant_more_lem : (sh n : ℕ) (o : O) (lab rea : ℕ) (ws : List ℕ) → Follows (grant_more value pc sh n o lab rea ws) (grant_more value qc sh n o lab rea ws)
    grant_more_lem sh n o lab rea ws =
        follows_next (mark lab) (mark lab) _ _ (equal (mark lab)) (λ l _.
        follows_next (mark rea) (mark rea) _ _ (equal (mark rea)) (λ m _.
        follows_next (read_list obligation obligation_bits n ws) (read_list obligation obligation_bits n ws) _ _ (equal (read_list obligation obligation_bits n ws)) (λ os vs.
        follows_next (pc vs) (qc vs) _ _ (fc vs) (λ c us. equal (got (grant (record { outcome = o; obligations = os; label = l; reason = m; shape = shape_of sh }) c) us)))))

    grant_at_lem : (r : ℕ) (ws : List ℕ) → Follows (grant_at value pc r ws) (grant_at value qc r ws)
    grant_at_lem r ws =
        let sh = r / 2 ^ (7 + 4 + outcome_bits) in
        let n = bits (4 + outcome_bits) 7 r in
        follows_unless (few_obligations n) 8 _ _ (follows_unless (eqb (bits outcome_bits 4 r) 0) 8 _ _
        (outcome_follows (value (r % 2 ^ outcome_bits)) _ _ (λ o. another_follows ws _ _ (λ w vs. grant_more_lem sh n o (w / 2 ^ (1 + mark_bits)) (w % 2 ^ (1 + mark_bits)) vs))))

    stored_p : (res : Bool) (x : Parsed (Decision O)) → Follows (in_residual value res (as_stored value x)) (as_stored value x)
    stored_p true x = equal (as_stored value x)
    stored_p false x = refused

    node_p_lem : (res : Bool) (k r : ℕ) (ws : List ℕ) → Follows (node_p value res pc p k r ws) (node_p value true qc q k r ws)
    node_p_lem res zero r ws = equal (permit_at value r ws)
    node_p_lem res (suc zero) r ws = equal (plain r (got deny ws))
    node_p_lem res (suc (suc zero)) r ws = grant_at_lem r ws
    node_p_lem res (suc (suc (suc zero))) r ws = follows_list pnil pcons p q f all r ws
    node_p_lem res (suc (suc (suc (suc zero)))) r ws = follows_list pnil pcons p q f any r ws
    node_p_lem res (suc (suc (suc (suc (suc zero))))) r ws =
        follows_unless (eqb r 0) 8 _ _ (follows_next (p ws) (q ws) _ _ (f ws) (λ a vs. follows_next (p vs) (q vs) _ _ (f vs) (λ b us. equal (got (or_else a b) us))))
    node_p_lem res (suc (suc (suc (suc (suc (suc zero)))))) r ws = stored_p res (at12 value r ws)
    node_p_lem res (suc (suc (suc (suc (suc (suc (suc zero))))))) r ws = stored_p res (at13 value r ws)
    node_p_lem res (suc (suc (suc (suc (suc (suc (suc (suc k)))))))) r ws = refused

  pub deeper : (res : Bool) (d e : ℕ) (ws : List ℕ) → d ≤ e → Follows (read_policy value res d ws) (read_policy value true e ws)
  deeper res zero e [] h = refused
  deeper res zero e (w ∷ ws) h = no_level (leb 6 (kind_of w) && leb (kind_of w) (last_kind value res))
    where
      no_level : (b : Bool) → Follows (unless b 5 (refuse 7)) (read_policy value true e (w ∷ ws))
      no_level true = refused
      no_level false = refused
  deeper res (suc d) e [] h = refused
  deeper res (suc d) zero (w ∷ ws) h = let z : ⊥ = omega arith in absurd z
  deeper res (suc d) (suc e) (w ∷ ws) h =
      follows_unless (leb 6 (kind_of w)) 5 _ _
      (node_p_lem (λ vs. read_condition d vs) (λ vs. read_condition e vs) (λ vs. deeper_c d e vs (omega arith)) (λ vs. read_policy value res d vs) (λ vs. read_policy value true e vs) (λ vs. deeper res d e vs (omega arith)) res (kind_of w - 6) (rest_of w) ws)
