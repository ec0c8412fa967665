-- What reads where fewer numbers stand for outcomes reads the same where more do; so what reads by a table reads by none, as the same tree. Assumes nothing.
use Rattle.std.specs.Prelude.{◌≡◌, refl, Bool, true, false, cond, ◌&&◌, List, [], ◌∷◌, ℕ, zero, suc, ◌+◌, ◌-◌, ◌/◌, ◌%◌, ◌^◌, ◌≤◌, ◌<◌, eqb, ltb, leb}
use Rattle.std.proofs.Common.{sym, ap, subst, arith, ltb-true, lt-ltb}
use Rattle.std.proofs.Math.Option.{Option, none, some}
use Rattle.model.specs.Fields.{bits}
use Rattle.model.specs.Outcome.{outcome_bits, below, product_sets}
use Rattle.model.specs.Condition.{Condition}
use Rattle.model.specs.Decision.{Decision}
use Rattle.model.specs.Policy.{Policy, permit, deny, all, any, or_else, stored, pnil, pcons}
use Rattle.model.specs.Partial.{ReducedPolicy, resolved, pending}
use Rattle.model.specs.Writing.{count_bits, mark_bits, entry_bits}
use Rattle.model.specs.Reading.{Parsed, refuse, got, unless, whole, read_list, consulted, few_obligations, kind_of, rest_of, plain, read_condition, outcome_of, denied_of, grant_more, grant_at, more12, at12, more13, at13, as_stored, in_residual, permit_at, node_p, last_kind, levels, sheet_length, record_length, read_policy, read_sheet, as_resolved, node14, parse14, parse15, rest, leads, read_lead, read_record}
use Rattle.laws.proofs.Deeper.{Follows, refused, equal, follows_unless, another_follows, follows_next, follows_list}

follows_whole : {A : Type 0} (p q : Parsed A) → Follows p q → Follows (whole p) (whole q)
follows_whole (refuse n) q h = refused
follows_whole (got a []) q h = record { it = ap whole h.it }
follows_whole (got a (w ∷ ws)) q h = refused

-- ---- policies
-- What the first says of a number the second says too.
abbrev WidensAt : {O : Type 0} → Option O → Option O → Type 0
WidensAt none w = Unit {0}
WidensAt (some o) w = w ≡ some o

module _ {O : Type 0} (value wide : ℕ → Option O) (widens : (n : ℕ) → WidensAt (value n) (wide n)) where
  outcome_by : {A : Type 0} (o w : Option O) → WidensAt o w → (k l : O → Parsed A) → ((x : O) → Follows (k x) (l x)) → Follows (outcome_of value o k) (outcome_of wide w l)
  outcome_by none w h k l g = refused
  outcome_by (some x) w h k l g = subst (λ z. Follows (k x) (outcome_of wide z l)) (sym h) (g x)

  outcome_follows : {A : Type 0} (n : ℕ) (k l : O → Parsed A) → ((x : O) → Follows (k x) (l x)) → Follows (outcome_of value (value n) k) (outcome_of wide (wide n) l)
  outcome_follows n k l g = outcome_by (value n) (wide n) (widens n) k l g

  permit_at_lem : (r : ℕ) (ws : List ℕ) → Follows (permit_at value r ws) (permit_at wide r ws)
  permit_at_lem r ws = follows_unless (eqb (r / 2 ^ outcome_bits) 0) 8 _ _ (outcome_follows (r % 2 ^ outcome_bits) _ _ (λ o. equal (got (permit o) ws)))

  pub at_12 : (r : ℕ) (ws : List ℕ) → Follows (at12 value r ws) (at12 wide r ws)
  at_12 r ws =
      let n = bits (4 + outcome_bits) 7 r in
      follows_unless (eqb (r / 2 ^ (7 + 4 + outcome_bits)) 0) 8 _ _ (follows_unless (eqb (bits outcome_bits 4 r) 0) 8 _ _
      (outcome_follows (r % 2 ^ outcome_bits) _ _ (λ o. another_follows ws _ _ (λ w vs. equal (more12 value n o (w / 2 ^ (4 + count_bits)) (w % 2 ^ (4 + count_bits)) vs)))))

  denied_follows : {A : Type 0} (here v : ℕ) (k l : Option O → Parsed A) → ((x : Option O) → Follows (k x) (l x)) → Follows (denied_of value here v k) (denied_of wide here v l)
  denied_follows zero v k l g = follows_unless (eqb v 0) 8 _ _ (g none)
  denied_follows (suc n) v k l g = outcome_follows v _ _ (λ o. g (some o))

  pub at_13 : (r : ℕ) (ws : List ℕ) → Follows (at13 value r ws) (at13 wide r ws)
  at_13 r ws =
      let sh = r / 2 ^ (1 + 10 + outcome_bits) in
      follows_unless (eqb (bits outcome_bits 10 r) 0) 8 _ _
      (denied_follows (bits (10 + outcome_bits) 1 r) (r % 2 ^ outcome_bits) _ _ (λ den. another_follows ws _ _ (λ w vs. equal (more13 value sh den (w / 2 ^ (1 + mark_bits)) (w % 2 ^ (1 + mark_bits)) vs))))

  stored_p : (res : Bool) (x y : Parsed (Decision O)) → Follows x y → Follows (in_residual value res (as_stored value x)) (in_residual wide res (as_stored wide y))
  stored_p true x y h = follows_next x y _ _ h (λ d ws. equal (got (stored d) ws))
  stored_p false x y h = refused

  module _ (pc : List ℕ → Parsed Condition) (p q : List ℕ → Parsed (Policy O)) (f : (ws : List ℕ) → Follows (p ws) (q ws)) where
    grant_at_lem : (r : ℕ) (ws : List ℕ) → Follows (grant_at value pc r ws) (grant_at wide pc r ws)
    grant_at_lem r ws =
        let sh = r / 2 ^ (7 + 4 + outcome_bits) in
        let n = bits (4 + outcome_bits) 7 r in
        follows_unless (few_obligations n) 8 _ _ (follows_unless (eqb (bits outcome_bits 4 r) 0) 8 _ _
        (outcome_follows (r % 2 ^ outcome_bits) _ _ (λ o. another_follows ws _ _ (λ w vs. equal (grant_more value pc sh n o (w / 2 ^ (1 + mark_bits)) (w % 2 ^ (1 + mark_bits)) vs)))))

    node_p_lem : (res : Bool) (k r : ℕ) (ws : List ℕ) → Follows (node_p value res pc p k r ws) (node_p wide res pc q k r ws)
    node_p_lem res zero r ws = permit_at_lem r ws
    node_p_lem res (suc zero) r ws = equal (plain r (got deny ws))
    node_p_lem res (suc (suc zero)) r ws = grant_at_lem r ws
    node_p_lem res (suc (suc (suc zero))) r ws = follows_list pnil pcons p q f all r ws
    node_p_lem res (suc (suc (suc (suc zero)))) r ws = follows_list pnil pcons p q f any r ws
    node_p_lem res (suc (suc (suc (suc (suc zero))))) r ws =
        follows_unless (eqb r 0) 8 _ _ (follows_next (p ws) (q ws) _ _ (f ws) (λ a vs. follows_next (p vs) (q vs) _ _ (f vs) (λ b us. equal (got (or_else a b) us))))
    node_p_lem res (suc (suc (suc (suc (suc (suc zero)))))) r ws = stored_p res _ _ (at_12 r ws)
    node_p_lem res (suc (suc (suc (suc (suc (suc (suc zero))))))) r ws = stored_p res _ _ (at_13 r ws)
    node_p_lem res (suc (suc (suc (suc (suc (suc (suc (suc k)))))))) r ws = refused

  pub wider : (res : Bool) (d : ℕ) (ws : List ℕ) → Follows (read_policy value res d ws) (read_policy wide res d ws)
  wider res zero [] = refused
  wider res zero (w ∷ ws) = no_level (leb 6 (kind_of w) && leb (kind_of w) (last_kind value res))
    where
      no_level : (b : Bool) → Follows (unless b 5 (refuse 7)) (read_policy wide res zero (w ∷ ws))
      no_level true = refused
      no_level false = refused
  wider res (suc d) [] = refused
  wider res (suc d) (w ∷ ws) =
      follows_unless (leb 6 (kind_of w)) 5 _ _
      (node_p_lem (λ vs. read_condition d vs) (λ vs. read_policy value res d vs) (λ vs. read_policy wide res d vs) (λ vs. wider res d vs) res (kind_of w - 6) (rest_of w) ws)

  pub wider_sheet : (ws : List ℕ) → Follows (read_sheet value ws) (read_sheet wide ws)
  wider_sheet ws = follows_unless (sheet_length ws) 1 _ _ (follows_whole (read_policy value false levels ws) (read_policy wide false levels ws) (wider false levels ws))

  -- ---- records
  resolved_p : (x y : Parsed (Decision O)) → Follows x y → Follows (as_resolved value x) (as_resolved wide y)
  resolved_p x y h = follows_next x y _ _ h (λ d ws. equal (got (resolved d) ws))

  node_14 : (k r : ℕ) (ws : List ℕ) → Follows (node14 value k r ws) (node14 wide k r ws)
  node_14 zero r ws = resolved_p _ _ (at_12 r ws)
  node_14 (suc zero) r ws = resolved_p _ _ (at_13 r ws)
  node_14 (suc (suc k)) r ws = refused

  pub wider_14 : (ws : List ℕ) → Follows (parse14 value ws) (parse14 wide ws)
  wider_14 ws = another_follows ws _ _ (λ w vs. follows_unless (leb 12 (kind_of w)) 5 _ _ (node_14 (kind_of w - 12) (rest_of w) vs))

  pub wider_15 : (ws : List ℕ) → Follows (parse15 value ws) (parse15 wide ws)
  wider_15 ws = follows_next (read_policy value true levels ws) (read_policy wide true levels ws) _ _ (wider true levels ws) (λ t vs. equal (got (pending t) vs))

  rest_follows : (p q : List ℕ → Parsed (ReducedPolicy O)) → ((ws : List ℕ) → Follows (p ws) (q ws)) → (r : ℕ) (ws : List ℕ) → Follows (rest value p r ws) (rest wide q r ws)
  rest_follows p q f r ws =
      let es = read_list consulted entry_bits (r % 2 ^ count_bits) ws in
      follows_next es es _ _ (equal es) (λ es vs. follows_next (p vs) (q vs) _ _ (f vs) (λ b us. equal (got (record { body = b; log = es }) us)))

  leads_follow : (k r : ℕ) (ws : List ℕ) → Follows (leads value k r ws) (leads wide k r ws)
  leads_follow zero r ws = rest_follows _ _ wider_14 r ws
  leads_follow (suc zero) r ws = rest_follows _ _ wider_15 r ws
  leads_follow (suc (suc k)) r ws = refused

  pub wider_record : (ws : List ℕ) → Follows (read_record value ws) (read_record wide ws)
  wider_record ws =
      follows_unless (record_length ws) 1 _ _
      (follows_whole (read_lead value ws) (read_lead wide ws) (another_follows ws _ _ (λ w vs. follows_unless (leb 14 (kind_of w)) 5 _ _ (leads_follow (kind_of w - 14) (rest_of w) vs))))

-- Levels are among the product sets: what reads by a table reads by none, and is the same tree.
below_widens : (n m : ℕ) → n ≤ m → (o : ℕ) → WidensAt (below n o) (below m o)
below_widens n m h o = at (ltb o n) refl
  where
    at : (b : Bool) → ltb o n ≡ b → WidensAt (cond b (some o) none) (below m o)
    at true e = let k : o < n = ltb-true o n e in ap (λ b. cond b (some o) none) (lt-ltb o m (omega arith))
    at false e = tt

pub sheet_among : (n : ℕ) (ws : List ℕ) → n ≤ 65536 → Follows (read_sheet (below n) ws) (read_sheet product_sets.value ws)
sheet_among n ws h = wider_sheet (below n) product_sets.value (below_widens n 65536 h) ws

pub record_among : (n : ℕ) (ws : List ℕ) → n ≤ 65536 → Follows (read_record (below n) ws) (read_record product_sets.value ws)
record_among n ws h = wider_record (below n) product_sets.value (below_widens n 65536 h) ws
