-- Reading words: a tree, a record, or the number of the first cause of refusal. Document 01, "How a request is turned back":
-- 1 a length, 5 kind not allowed here, 6 words end early, 7 the 33rd level, 8 a field, 10 words after the tree.
-- At a node: word present (6), kind (5), level (7), its fields (8); at a record's lead: word present (6), kind (5);
-- each further word present (6), then at each field from the left 8.
use Rattle.std.specs.Prelude.{Bool, true, false, cond, ◌&&◌, List, [], ◌∷◌, ◌++◌, ℕ, zero, suc, ◌+◌, ◌-◌, ◌/◌, ◌%◌, ◌^◌, eqb, ltb, leb, length, get_or}
use Rattle.std.proofs.Math.Option.{Option, none, some}
use Rattle.model.specs.Fields.{bits, split, per_word}
use Rattle.model.specs.Facts.{fact_bits, fact_count}
use Rattle.model.specs.Outcome.{outcome_bits}
use Rattle.model.specs.Condition.{Condition, always, never, has, not_c, all_c, any_c, cnil, ccons}
use Rattle.model.specs.Decision.{Shape, forbidden, hidden, Decision, permits, denies}
use Rattle.model.specs.Policy.{Policy, permit, deny, grant, all, any, or_else, stored, pnil, pcons}
use Rattle.model.specs.Partial.{ReducedPolicy, resolved, pending}
use Rattle.model.specs.Consulted.{Entry, Consulted}
use Rattle.model.specs.Record.{Record}
use Rattle.model.specs.Writing.{rest_bits, count_bits, sheet_bits, mark_bits, obligation_bits, entry_bits, seen_in}

-- What reading gives: a refusal's number, or a value and the words after it.
pub data Parsed (A : Type 0) : Type 0 where
  refuse : ℕ → Parsed A
  got : A → List ℕ → Parsed A

abbrev pub next : {A B : Type 0} → Parsed A → (A → List ℕ → Parsed B) → Parsed B
next (refuse n) k = refuse n
next (got a ws) k = k a ws

-- The number, unless the test holds.
abbrev pub unless : {A : Type 0} → Bool → ℕ → Parsed A → Parsed A
unless true n p = p
unless false n p = refuse n

-- The next word (6).
abbrev pub another : {A : Type 0} → List ℕ → (ℕ → List ℕ → Parsed A) → Parsed A
another [] k = refuse 6
another (w ∷ ws) k = k w ws

-- ---- lists of fields

-- The fields so far, and how many are to come; or a refusal.
pub data Fields (A : Type 0) : Type 0 where
  bad : ℕ → Fields A
  ok : List A → ℕ → Fields A

abbrev pub put : {A : Type 0} → List A → ℕ → Parsed A → Fields A
put xs n (refuse e) = bad e
put xs n (got a ws) = ok (xs ++ a ∷ []) n

-- One field, checked against those before it; after the last one a field must be 0.
abbrev pub take_field : {A : Type 0} → (List A → ℕ → Parsed A) → Fields A → ℕ → Fields A
take_field chk (bad n) b = bad n
take_field chk (ok xs zero) b = cond (eqb b 0) (ok xs zero) (bad 8)
take_field chk (ok xs (suc n)) b = put xs n (chk xs b)

abbrev pub take_fields : {A : Type 0} → (List A → ℕ → Parsed A) → Fields A → List ℕ → Fields A
take_fields chk s [] = s
take_fields chk s (b ∷ bs) = take_fields chk (take_field chk s b) bs

-- Words of n fields each, until no field is to come.
abbrev pub read_words : {A : Type 0} → (List A → ℕ → Parsed A) → ℕ → ℕ → List ℕ → Fields A → Parsed (List A)
read_words chk width n [] (bad e) = refuse e
read_words chk width n [] (ok xs zero) = got xs []
read_words chk width n [] (ok xs (suc k)) = refuse 6
read_words chk width n (w ∷ ws) (bad e) = refuse e
read_words chk width n (w ∷ ws) (ok xs zero) = got xs (w ∷ ws)
read_words chk width n (w ∷ ws) (ok xs (suc k)) = read_words chk width n ws (take_fields chk (ok xs (suc k)) (split width n w))

-- A list of k fields.
abbrev pub read_list : {A : Type 0} → (List A → ℕ → Parsed A) → ℕ → ℕ → List ℕ → Parsed (List A)
read_list chk width k ws = read_words chk width (per_word width) ws (ok [] k)

-- Obligations are 0..63, and may repeat. A Grant holds at most 64, a node 12 as many as its seven bits can say.
abbrev pub obligation_count : ℕ
obligation_count = 64

abbrev pub most_obligations : ℕ
most_obligations = 64

abbrev pub obligation : List ℕ → ℕ → Parsed ℕ
obligation os b = unless (ltb b obligation_count) 8 (got b [])

abbrev pub few_obligations : ℕ → Bool
few_obligations n = leb n most_obligations

-- A listed fact: zero (6), fact (10).
abbrev pub listed : List ℕ → ℕ → Parsed ℕ
listed fs b = unless (ltb b fact_count) 8 (got b [])

-- A consulted entry: presence (2), zero (4), fact (10). Every presence is accepted, and duplicates are allowed.
abbrev pub presence_count : ℕ
presence_count = 4

abbrev pub consulted : Consulted → ℕ → Parsed Entry
consulted es b =
    let presence = b / 2 ^ (4 + fact_bits) in
    let fact = b % 2 ^ (4 + fact_bits) in
    unless (ltb presence presence_count && ltb fact fact_count) 8 (got (record { fact = fact; seen = seen_in presence }) [])

-- ---- words

-- A word's kind, and its other 28 bits.
abbrev pub kind_of : ℕ → ℕ
kind_of w = w / 2 ^ rest_bits

abbrev pub rest_of : ℕ → ℕ
rest_of w = w % 2 ^ rest_bits

-- What stands in the list at a kind; a kind past its end isn't allowed here.
abbrev pub by_kind : {A : Type 0} → List (Parsed A) → ℕ → Parsed A
by_kind ps k = get_or ps k (refuse 5)

-- A node without fields, and a node whose only field is a count (12).
abbrev pub plain : {A : Type 0} → ℕ → Parsed A → Parsed A
plain r p = unless (eqb r 0) 8 p

abbrev pub counted : {A : Type 0} → ℕ → Parsed A → Parsed A
counted r p = unless (ltb r (2 ^ count_bits)) 8 p

-- So many arms, one after the other.
abbrev pub many : {A B : Type 0} → B → (A → B → B) → (List ℕ → Parsed A) → ℕ → List ℕ → Parsed B
many nil cons p zero ws = got nil ws
many nil cons p (suc n) ws = next (p ws) (λ a vs. next (many nil cons p n vs) (λ xs us. got (cons a xs) us))

-- ---- conditions

-- By kind: 0 Always, 1 Never, 2 Has, 3 Not, 4 All, 5 Any.
abbrev pub node_c : (List ℕ → Parsed Condition) → ℕ → ℕ → List ℕ → Parsed Condition
node_c p k r ws =
    by_kind
    (plain r (got always ws)
    ∷ plain r (got never ws)
    ∷ unless (ltb r fact_count) 8 (got (has r) ws)
    ∷ plain r (next (p ws) (λ c vs. got (not_c c) vs))
    ∷ counted r (next (many cnil ccons p r ws) (λ cs vs. got (all_c cs) vs))
    ∷ counted r (next (many cnil ccons p r ws) (λ cs vs. got (any_c cs) vs))
    ∷ [])
    k

-- With so many levels left.
abbrev pub read_condition : ℕ → List ℕ → Parsed Condition
read_condition zero [] = refuse 6
read_condition zero (w ∷ ws) = unless (ltb (kind_of w) 6) 5 (refuse 7)
read_condition (suc d) [] = refuse 6
read_condition (suc d) (w ∷ ws) = node_c (λ vs. read_condition d vs) (kind_of w) (rest_of w) ws

-- Nesting, grant and condition together, is at most 32 nodes.
abbrev pub levels : ℕ
levels = 32

-- A sheet is 1..4,096 words, a record 1..16,384.
abbrev pub sheet_words : ℕ
sheet_words = 4096

abbrev pub record_words : ℕ
record_words = 16384

abbrev pub sheet_length : List ℕ → Bool
sheet_length ws = leb 1 (length ws) && leb (length ws) sheet_words

abbrev pub record_length : List ℕ → Bool
record_length ws = leb 1 (length ws) && leb (length ws) record_words

-- The number of a record's sheet, in its lead; 0 for a sheet without one. Request 6.
abbrev pub sheet_number : List ℕ → ℕ
sheet_number ws = bits count_bits sheet_bits (get_or ws 0 0)

-- Words after the tree (10).
abbrev pub whole : {A : Type 0} → Parsed A → Parsed A
whole (refuse n) = refuse n
whole (got a []) = got a []
whole (got a (w ∷ ws)) = refuse 10

-- ---- parts of policy nodes

-- A label or reason of 16 bits: present (1), then 15 bits; an absent one is 0.
abbrev pub mark : ℕ → Parsed (Option ℕ)
mark h =
    cond (ltb h (2 ^ mark_bits))
    (unless (eqb h 0) 8 (got none []))
    (unless (ltb h (2 ^ (1 + mark_bits))) 8 (got (some (h - 2 ^ mark_bits)) []))

abbrev pub shape_of : ℕ → Shape
shape_of zero = forbidden
shape_of (suc n) = hidden

module _ {O : Type 0} (value : ℕ → Option O) where
  -- An outcome of 16 bits: a number that stands for none gives 8.
  abbrev pub outcome_of : {A : Type 0} → Option O → (O → Parsed A) → Parsed A
  outcome_of none k = refuse 8
  outcome_of (some o) k = k o

  -- The denied outcome, if present; 0 if not.
  abbrev pub denied_of : {A : Type 0} → ℕ → ℕ → (Option O → Parsed A) → Parsed A
  denied_of zero v k = unless (eqb v 0) 8 (k none)
  denied_of (suc n) v k = outcome_of (value v) (λ o. k (some o))

  -- 8 Grant: shape (1), obligation count (7), zero (4), outcome (16); word two: label, reason (16 each); obligations; one condition.
  abbrev pub grant_more : (List ℕ → Parsed Condition) → ℕ → ℕ → O → ℕ → ℕ → List ℕ → Parsed (Policy O)
  grant_more p sh n o lab rea ws =
      next (mark lab) (λ l _.
      next (mark rea) (λ m _.
      next (read_list obligation obligation_bits n ws) (λ os vs.
      next (p vs) (λ c us.
      got (grant (record { outcome = o; obligations = os; label = l; reason = m; shape = shape_of sh }) c) us))))

  abbrev pub parse_grant : (List ℕ → Parsed Condition) → ℕ → ℕ → ℕ → ℕ → List ℕ → Parsed (Policy O)
  parse_grant p sh n z v ws =
      unless (few_obligations n) 8 (unless (eqb z 0) 8 (outcome_of (value v) (λ o.
      another ws (λ w vs. grant_more p sh n o (w / 2 ^ (1 + mark_bits)) (w % 2 ^ (1 + mark_bits)) vs))))

  abbrev pub grant_at : (List ℕ → Parsed Condition) → ℕ → List ℕ → Parsed (Policy O)
  grant_at p r ws = parse_grant p (r / 2 ^ (7 + 4 + outcome_bits)) (bits (4 + outcome_bits) 7 r) (bits outcome_bits 4 r) (r % 2 ^ outcome_bits) ws

  -- 12 PermitWithTrace: shape 0 (1), obligation count (7), zero (4), outcome (16); word two: label (16), zero (4), satisfied count (12);
  -- obligations, then facts.
  abbrev pub more12 : ℕ → O → ℕ → ℕ → List ℕ → Parsed (Decision O)
  more12 n o lab m ws =
      next (mark lab) (λ l _.
      counted m (
      next (read_list obligation obligation_bits n ws) (λ os vs.
      next (read_list listed entry_bits m vs) (λ fs us.
      got (permits (record { outcome = o; obligations = os; label = l; facts = fs })) us))))

  abbrev pub parse12 : ℕ → ℕ → ℕ → ℕ → List ℕ → Parsed (Decision O)
  parse12 sh n z v ws =
      unless (eqb sh 0) 8 (unless (eqb z 0) 8 (outcome_of (value v) (λ o.
      another ws (λ w vs. more12 n o (w / 2 ^ (4 + count_bits)) (w % 2 ^ (4 + count_bits)) vs))))

  abbrev pub at12 : ℕ → List ℕ → Parsed (Decision O)
  at12 r ws = parse12 (r / 2 ^ (7 + 4 + outcome_bits)) (bits (4 + outcome_bits) 7 r) (bits outcome_bits 4 r) (r % 2 ^ outcome_bits) ws

  -- 13 DenyWithTrace: shape (1), denied present (1), zero (10), outcome (16); word two as Grant; word three: zero (20), unsatisfied count (12); facts.
  abbrev pub more13 : ℕ → Option O → ℕ → ℕ → List ℕ → Parsed (Decision O)
  more13 sh den lab rea ws =
      next (mark lab) (λ l _.
      next (mark rea) (λ m _.
      another ws (λ n vs.
      counted n (
      next (read_list listed entry_bits n vs) (λ fs us.
      got (denies (record { denied = den; facts = fs; label = l; reason = m; shape = shape_of sh })) us)))))

  abbrev pub parse13 : ℕ → ℕ → ℕ → ℕ → List ℕ → Parsed (Decision O)
  parse13 sh here z v ws =
      unless (eqb z 0) 8 (denied_of here v (λ den.
      another ws (λ w vs. more13 sh den (w / 2 ^ (1 + mark_bits)) (w % 2 ^ (1 + mark_bits)) vs)))

  abbrev pub at13 : ℕ → List ℕ → Parsed (Decision O)
  at13 r ws = parse13 (r / 2 ^ (1 + 10 + outcome_bits)) (bits (10 + outcome_bits) 1 r) (bits outcome_bits 10 r) (r % 2 ^ outcome_bits) ws

  -- ---- trees: a residual may hold nodes 12 and 13, a sheet may not
  abbrev pub as_stored : Parsed (Decision O) → Parsed (Policy O)
  as_stored p = next p (λ d ws. got (stored d) ws)

  -- Only in a residual.
  abbrev pub in_residual : Bool → Parsed (Policy O) → Parsed (Policy O)
  in_residual true p = p
  in_residual false p = refuse 5

  -- 6 Permit: zero (12), outcome (16).
  abbrev pub permit_at : ℕ → List ℕ → Parsed (Policy O)
  permit_at r ws = unless (eqb (r / 2 ^ outcome_bits) 0) 8 (outcome_of (value (r % 2 ^ outcome_bits)) (λ o. got (permit o) ws))

  -- The kinds from 6 on, less 6: 6 Permit, 7 Deny, 8 Grant, 9 All, 10 Any, 11 OrElse; 12 and 13 in a residual.
  abbrev pub node_p : Bool → (List ℕ → Parsed Condition) → (List ℕ → Parsed (Policy O)) → ℕ → ℕ → List ℕ → Parsed (Policy O)
  node_p res pc p k r ws =
      by_kind
      (permit_at r ws
      ∷ plain r (got deny ws)
      ∷ grant_at pc r ws
      ∷ counted r (next (many pnil pcons p r ws) (λ ts vs. got (all ts) vs))
      ∷ counted r (next (many pnil pcons p r ws) (λ ts vs. got (any ts) vs))
      ∷ plain r (next (p ws) (λ a vs. next (p vs) (λ b us. got (or_else a b) us)))
      ∷ in_residual res (as_stored (at12 r ws))
      ∷ in_residual res (as_stored (at13 r ws))
      ∷ [])
      k

  abbrev pub node : Bool → (List ℕ → Parsed Condition) → (List ℕ → Parsed (Policy O)) → ℕ → ℕ → List ℕ → Parsed (Policy O)
  node res pc p k r ws = unless (leb 6 k) 5 (node_p res pc p (k - 6) r ws)

  -- The last kind that is allowed here.
  abbrev pub last_kind : Bool → ℕ
  last_kind false = 11
  last_kind true = 13

  -- With so many levels left; grant and condition nest together.
  abbrev pub read_policy : Bool → ℕ → List ℕ → Parsed (Policy O)
  read_policy res zero [] = refuse 6
  read_policy res zero (w ∷ ws) = unless (leb 6 (kind_of w) && leb (kind_of w) (last_kind res)) 5 (refuse 7)
  read_policy res (suc d) [] = refuse 6
  read_policy res (suc d) (w ∷ ws) = node res (λ vs. read_condition d vs) (λ vs. read_policy res d vs) (kind_of w) (rest_of w) ws

  abbrev pub read_sheet : List ℕ → Parsed (Policy O)
  read_sheet ws = unless (sheet_length ws) 1 (whole (read_policy false levels ws))

  -- ---- records: the lead (kind, the sheet's number (16), whatever it is, consulted count (12)), the consulted entries, the tree

  -- Under 14 one node 12 or 13, under 15 a residual tree.
  abbrev pub as_resolved : Parsed (Decision O) → Parsed (ReducedPolicy O)
  as_resolved p = next p (λ d vs. got (resolved d) vs)

  abbrev pub node14 : ℕ → ℕ → List ℕ → Parsed (ReducedPolicy O)
  node14 k r ws = by_kind (as_resolved (at12 r ws) ∷ as_resolved (at13 r ws) ∷ []) k

  abbrev pub parse14 : List ℕ → Parsed (ReducedPolicy O)
  parse14 ws = another ws (λ w vs. unless (leb 12 (kind_of w)) 5 (node14 (kind_of w - 12) (rest_of w) vs))

  abbrev pub parse15 : List ℕ → Parsed (ReducedPolicy O)
  parse15 ws = next (read_policy true levels ws) (λ t vs. got (pending t) vs)

  abbrev pub rest : (List ℕ → Parsed (ReducedPolicy O)) → ℕ → List ℕ → Parsed (Record O)
  rest p r ws = next (read_list consulted entry_bits (r % 2 ^ count_bits) ws) (λ es vs. next (p vs) (λ b us. got (record { body = b; log = es }) us))

  abbrev pub leads : ℕ → ℕ → List ℕ → Parsed (Record O)
  leads k r ws = by_kind (rest parse14 r ws ∷ rest parse15 r ws ∷ []) k

  abbrev pub read_lead : List ℕ → Parsed (Record O)
  read_lead ws = another ws (λ w vs. unless (leb 14 (kind_of w)) 5 (leads (kind_of w - 14) (rest_of w) vs))

  abbrev pub read_record : List ℕ → Parsed (Record O)
  read_record ws = unless (record_length ws) 1 (whole (read_lead ws))
