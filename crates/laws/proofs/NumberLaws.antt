-- Every refusal has a number of document 01's table, "How a request is turned back": 1 to 11, but for 9, which no longer occurs; or 16, for a sheet's number,
-- from a narrowing alone 17, for a contradicted entry, and from a batch's request 18, for its nodes, but no 16; and where a table is given 21. So 0 can say that a call was accepted. Assumes nothing.
use Rattle.std.specs.Prelude.{refl, Bool, true, false, cond, ◌&&◌, List, [], ◌∷◌, ℕ, zero, suc, ◌+◌, ◌-◌, ◌/◌, ◌%◌, ◌^◌, ◌<◌, eqb, ltb, leb, length}
use Rattle.std.proofs.Common.{inl, inr, arith, lt-ltb}
use Rattle.std.proofs.Math.Option.{Option, none, some}
use Rattle.model.specs.Fields.{bits, split, per_word}
use Rattle.model.specs.Facts.{fact_bits, fact_count, TableKind, partial_facts, known_facts, field_fault, or_fault, first_fault, table_fields, table_bytes, table_fault, table_of}
use Rattle.model.specs.Outcome.{Outcomes, outcome_bits}
use Rattle.model.specs.Condition.{Condition, always, never, has, cnil, ccons, not_c, all_c, any_c}
use Rattle.model.specs.Decision.{Decision, permits, denies}
use Rattle.model.specs.Policy.{Policy, deny, grant, all, any, or_else, permit, stored, pnil, pcons}
use Rattle.model.specs.Partial.{ReducedPolicy, resolved, pending, Order}
use Rattle.model.specs.Consulted.{Consulted, any_contradicted}
use Rattle.model.specs.Record.{Record, evaluated, reduced, narrowed, completed}
use Rattle.model.specs.Writing.{encode_r, sheet_bits, count_bits, mark_bits, obligation_bits, entry_bits, seen_in}
use Rattle.model.specs.Reading.{Parsed, refuse, got, next, unless, another, Fields, bad, ok, put, take_field, take_fields, read_words, read_list, obligation, few_obligations, listed, consulted, kind_of, rest_of, plain, counted, many, node_c, read_condition, levels, sheet_length, record_length, whole, mark, shape_of, outcome_of, denied_of, grant_more, parse_grant, grant_at, more12, parse12, at12, more13, parse13, at13, as_stored, in_residual, node_p, last_kind, read_policy, read_sheet, node14, parse14, parse15, rest, leads, read_lead, read_record, obligation_count, presence_count}
use Rattle.model.specs.Calls.{Answer, refusal, wrote, unless_long, unless_fault, on_read, unless_other, has_number, is_sheet_number, under, fits, write, evaluate, partial_evaluate, narrow_residual, complete_residual, unless_contradicted}
use Rattle.model.specs.Levels.{OutcomeTable, outcomes_of, acceptable, by_table}
use Rattle.model.specs.Visits.{visits}
use Rattle.model.specs.Batch.{unless_over, evaluate_within}
use Rattle.laws.specs.Numbers.{Cause, Faulty, Kept, Numbered, OrTable, OtherNumber, OtherOrContradicted, Reads, Told, Unaffordable}
use Rattle.laws.proofs.ReadingNumbers.{eight, five, one, seven, six, ten}

-- ---- steps of reading
next_numbered : {A B : Type 0} (p : Parsed A) (k : A → List ℕ → Parsed B) → Numbered p → ((a : A) (ws : List ℕ) → Numbered (k a ws)) → Numbered (next p k)
next_numbered (refuse n) k h g = h
next_numbered (got a ws) k h g = g a ws

made_numbered : {A B : Type 0} (p : Parsed A) (f : A → B) → Numbered p → Numbered (next p (λ a ws. got (f a) ws))
made_numbered (refuse n) f h = h
made_numbered (got a ws) f h = tt

unless_numbered : {A : Type 0} (b : Bool) (n : ℕ) (p : Parsed A) → Reads n → Numbered p → Numbered (unless b n p)
unless_numbered true n p c h = h
unless_numbered false n p c h = c

plain_numbered : {A : Type 0} (r : ℕ) (p : Parsed A) → Numbered p → Numbered (plain r p)
plain_numbered r p h = unless_numbered (eqb r 0) 8 p eight h

counted_numbered : {A : Type 0} (r : ℕ) (p : Parsed A) → Numbered p → Numbered (counted r p)
counted_numbered r p h = unless_numbered (ltb r (2 ^ count_bits)) 8 p eight h

another_numbered : {A : Type 0} (ws : List ℕ) (k : ℕ → List ℕ → Parsed A) → ((w : ℕ) (vs : List ℕ) → Numbered (k w vs)) → Numbered (another ws k)
another_numbered [] k h = six
another_numbered (w ∷ ws) k h = h w ws

whole_numbered : {A : Type 0} (p : Parsed A) → Numbered p → Numbered (whole p)
whole_numbered (refuse n) h = h
whole_numbered (got a []) h = tt
whole_numbered (got a (w ∷ ws)) h = ten

many_numbered : {A B : Type 0} (nil : B) (cons : A → B → B) (p : List ℕ → Parsed A) → ((ws : List ℕ) → Numbered (p ws)) → (n : ℕ) (ws : List ℕ) → Numbered (many nil cons p n ws)
many_numbered nil cons p h zero ws = tt
many_numbered nil cons p h (suc n) ws =
    next_numbered (p ws) (λ a vs. next (many nil cons p n vs) (λ xs us. got (cons a xs) us)) (h ws) (λ a vs. made_numbered (many nil cons p n vs) (cons a) (many_numbered nil cons p h n vs))

module _ {A : Type 0} (chk : List A → ℕ → Parsed A) (sound : (xs : List A) (b : ℕ) → Numbered (chk xs b)) where
  put_kept : (xs : List A) (n : ℕ) (p : Parsed A) → Numbered p → Kept (put xs n p)
  put_kept xs n (refuse e) h = h
  put_kept xs n (got a ws) h = tt

  last_kept : (xs : List A) (b : Bool) → Kept (cond b (ok xs zero) (bad 8))
  last_kept xs true = tt
  last_kept xs false = eight

  field_kept : (s : Fields A) (b : ℕ) → Kept s → Kept (take_field chk s b)
  field_kept (bad n) b h = h
  field_kept (ok xs zero) b h = last_kept xs (eqb b 0)
  field_kept (ok xs (suc n)) b h = put_kept xs n (chk xs b) (sound xs b)

  fields_kept : (s : Fields A) (bs : List ℕ) → Kept s → Kept (take_fields chk s bs)
  fields_kept s [] h = h
  fields_kept s (b ∷ bs) h = fields_kept (take_field chk s b) bs (field_kept s b h)

  words_numbered : (width n : ℕ) (ws : List ℕ) (s : Fields A) → Kept s → Numbered (read_words chk width n ws s)
  words_numbered width n [] (bad e) h = h
  words_numbered width n [] (ok xs zero) h = tt
  words_numbered width n [] (ok xs (suc k)) h = six
  words_numbered width n (w ∷ ws) (bad e) h = h
  words_numbered width n (w ∷ ws) (ok xs zero) h = tt
  words_numbered width n (w ∷ ws) (ok xs (suc k)) h = words_numbered width n ws _ (fields_kept (ok xs (suc k)) (split width n w) tt)

  list_numbered : (width k : ℕ) (ws : List ℕ) → Numbered (read_list chk width k ws)
  list_numbered width k ws = words_numbered width (per_word width) ws (ok [] k) tt

obligation_numbered : (os : List ℕ) (b : ℕ) → Numbered (obligation os b)
obligation_numbered os b = unless_numbered (ltb b obligation_count) 8 (got b []) eight tt

listed_numbered : (fs : List ℕ) (b : ℕ) → Numbered (listed fs b)
listed_numbered fs b = unless_numbered (ltb b fact_count) 8 (got b []) eight tt

consulted_numbered : (es : Consulted) (b : ℕ) → Numbered (consulted es b)
consulted_numbered es b =
    let presence = b / 2 ^ (4 + fact_bits) in
    let fact = b % 2 ^ (4 + fact_bits) in
    unless_numbered (ltb presence presence_count && ltb fact fact_count) 8 (got (record { fact = fact; seen = seen_in presence }) []) eight tt

obligations_numbered : (k : ℕ) (ws : List ℕ) → Numbered (read_list obligation obligation_bits k ws)
obligations_numbered k ws = list_numbered obligation obligation_numbered obligation_bits k ws

facts_numbered : (k : ℕ) (ws : List ℕ) → Numbered (read_list listed entry_bits k ws)
facts_numbered k ws = list_numbered listed listed_numbered entry_bits k ws

-- ---- conditions
node_numbered : (p : List ℕ → Parsed Condition) → ((ws : List ℕ) → Numbered (p ws)) → (k r : ℕ) (ws : List ℕ) → Numbered (node_c p k r ws)
node_numbered p h zero r ws = plain_numbered r (got always ws) tt
node_numbered p h (suc zero) r ws = plain_numbered r (got never ws) tt
node_numbered p h (suc (suc zero)) r ws = unless_numbered (ltb r fact_count) 8 (got (has r) ws) eight tt
node_numbered p h (suc (suc (suc zero))) r ws = plain_numbered r (next (p ws) (λ c vs. got (not_c c) vs)) (made_numbered (p ws) not_c (h ws))
node_numbered p h (suc (suc (suc (suc zero)))) r ws =
    counted_numbered r (next (many cnil ccons p r ws) (λ cs vs. got (all_c cs) vs)) (made_numbered (many cnil ccons p r ws) all_c (many_numbered cnil ccons p h r ws))
node_numbered p h (suc (suc (suc (suc (suc zero))))) r ws =
    counted_numbered r (next (many cnil ccons p r ws) (λ cs vs. got (any_c cs) vs)) (made_numbered (many cnil ccons p r ws) any_c (many_numbered cnil ccons p h r ws))
node_numbered p h (suc (suc (suc (suc (suc (suc k)))))) r ws = five

condition_numbered : (d : ℕ) (ws : List ℕ) → Numbered (read_condition d ws)
condition_numbered zero [] = six
condition_numbered zero (w ∷ ws) = unless_numbered {A = Condition} (ltb (kind_of w) 6) 5 (refuse 7) five seven
condition_numbered (suc d) [] = six
condition_numbered (suc d) (w ∷ ws) = node_numbered (λ vs. read_condition d vs) (λ vs. condition_numbered d vs) (kind_of w) (rest_of w) ws

-- ---- parts of policy nodes
mark_by : (h : ℕ) (b : Bool) → Numbered (cond b (unless (eqb h 0) 8 (got none [])) (unless (ltb h (2 ^ (1 + mark_bits))) 8 (got (some (h - 2 ^ mark_bits)) [])))
mark_by h true = unless_numbered {A = Option ℕ} (eqb h 0) 8 (got none []) eight tt
mark_by h false = unless_numbered (ltb h (2 ^ (1 + mark_bits))) 8 (got (some (h - 2 ^ mark_bits)) []) eight tt

mark_numbered : (h : ℕ) → Numbered (mark h)
mark_numbered h = mark_by h (ltb h (2 ^ mark_bits))

module _ {O : Type 0} (value : ℕ → Option O) where
  outcome_numbered : {A : Type 0} (v : Option O) (k : O → Parsed A) → ((o : O) → Numbered (k o)) → Numbered (outcome_of value v k)
  outcome_numbered none k h = eight
  outcome_numbered (some o) k h = h o

  denied_numbered : {A : Type 0} (here v : ℕ) (k : Option O → Parsed A) → ((o : Option O) → Numbered (k o)) → Numbered (denied_of value here v k)
  denied_numbered zero v k h = unless_numbered (eqb v 0) 8 (k none) eight (h none)
  denied_numbered (suc n) v k h = outcome_numbered (value v) (λ o. k (some o)) (λ o. h (some o))

  -- 8 Grant
  module _ (p : List ℕ → Parsed Condition) (h : (ws : List ℕ) → Numbered (p ws)) (sh n : ℕ) where
    abbrev granted : O → Option ℕ → Option ℕ → List ℕ → Condition → Policy O
    granted o l m os c = grant (record { outcome = o; obligations = os; label = l; reason = m; shape = shape_of sh }) c

    abbrev with_obligations : O → Option ℕ → Option ℕ → List ℕ → Parsed (Policy O)
    with_obligations o l m ws = next (read_list obligation obligation_bits n ws) (λ os vs. next (p vs) (λ c us. got (granted o l m os c) us))

    obliged_numbered : (o : O) (l m : Option ℕ) (ws : List ℕ) → Numbered (with_obligations o l m ws)
    obliged_numbered o l m ws =
        next_numbered (read_list obligation obligation_bits n ws) (λ os vs. next (p vs) (λ c us. got (granted o l m os c) us)) (obligations_numbered n ws)
        (λ os vs. made_numbered (p vs) (granted o l m os) (h vs))

    more_numbered : (o : O) (lab rea : ℕ) (ws : List ℕ) → Numbered (grant_more value p sh n o lab rea ws)
    more_numbered o lab rea ws =
        next_numbered (mark lab) (λ l _. next (mark rea) (λ m _. with_obligations o l m ws)) (mark_numbered lab)
        (λ l _. next_numbered (mark rea) (λ m _. with_obligations o l m ws) (mark_numbered rea) (λ m _. obliged_numbered o l m ws))

    parsed_numbered : (z v : ℕ) (ws : List ℕ) → Numbered (parse_grant value p sh n z v ws)
    parsed_numbered z v ws =
        let more : O → ℕ → List ℕ → Parsed (Policy O) = λ o w vs. grant_more value p sh n o (w / 2 ^ (1 + mark_bits)) (w % 2 ^ (1 + mark_bits)) vs in
        let body : Parsed (Policy O) = outcome_of value (value v) (λ o. another ws (more o)) in
        unless_numbered (few_obligations n) 8 (unless (eqb z 0) 8 body) eight (unless_numbered (eqb z 0) 8 body eight
        (outcome_numbered (value v) (λ o. another ws (more o)) (λ o. another_numbered ws (more o)
        (λ w vs. more_numbered o (w / 2 ^ (1 + mark_bits)) (w % 2 ^ (1 + mark_bits)) vs))))

  grant_numbered : (p : List ℕ → Parsed Condition) → ((ws : List ℕ) → Numbered (p ws)) → (r : ℕ) (ws : List ℕ) → Numbered (grant_at value p r ws)
  grant_numbered p h r ws = parsed_numbered p h (r / 2 ^ (7 + 4 + outcome_bits)) (bits (4 + outcome_bits) 7 r) (bits outcome_bits 4 r) (r % 2 ^ outcome_bits) ws

  -- 12 PermitWithTrace
  module _ (n : ℕ) (o : O) (m : ℕ) where
    abbrev permitted : Option ℕ → List ℕ → List ℕ → Decision O
    permitted l os fs = permits (record { outcome = o; obligations = os; label = l; facts = fs })

    abbrev with_lists : Option ℕ → List ℕ → Parsed (Decision O)
    with_lists l ws = next (read_list obligation obligation_bits n ws) (λ os vs. next (read_list listed entry_bits m vs) (λ fs us. got (permitted l os fs) us))

    lists_numbered : (l : Option ℕ) (ws : List ℕ) → Numbered (with_lists l ws)
    lists_numbered l ws =
        next_numbered (read_list obligation obligation_bits n ws) (λ os vs. next (read_list listed entry_bits m vs) (λ fs us. got (permitted l os fs) us)) (obligations_numbered n ws)
        (λ os vs. made_numbered (read_list listed entry_bits m vs) (permitted l os) (facts_numbered m vs))

    more12_numbered : (lab : ℕ) (ws : List ℕ) → Numbered (more12 value n o lab m ws)
    more12_numbered lab ws =
        next_numbered (mark lab) (λ l _. counted m (with_lists l ws)) (mark_numbered lab) (λ l _. counted_numbered m (with_lists l ws) (lists_numbered l ws))

  parse12_numbered : (sh n z v : ℕ) (ws : List ℕ) → Numbered (parse12 value sh n z v ws)
  parse12_numbered sh n z v ws =
      let more : O → ℕ → List ℕ → Parsed (Decision O) = λ o w vs. more12 value n o (w / 2 ^ (4 + count_bits)) (w % 2 ^ (4 + count_bits)) vs in
      let body : Parsed (Decision O) = outcome_of value (value v) (λ o. another ws (more o)) in
      unless_numbered (eqb sh 0) 8 (unless (eqb z 0) 8 body) eight (unless_numbered (eqb z 0) 8 body eight
      (outcome_numbered (value v) (λ o. another ws (more o)) (λ o. another_numbered ws (more o)
      (λ w vs. more12_numbered n o (w % 2 ^ (4 + count_bits)) (w / 2 ^ (4 + count_bits)) vs))))

  at12_numbered : (r : ℕ) (ws : List ℕ) → Numbered (at12 value r ws)
  at12_numbered r ws = parse12_numbered (r / 2 ^ (7 + 4 + outcome_bits)) (bits (4 + outcome_bits) 7 r) (bits outcome_bits 4 r) (r % 2 ^ outcome_bits) ws

  -- 13 DenyWithTrace
  module _ (sh : ℕ) (den : Option O) where
    abbrev refused : Option ℕ → Option ℕ → List ℕ → Decision O
    refused l m fs = denies (record { denied = den; facts = fs; label = l; reason = m; shape = shape_of sh })

    abbrev with_facts : Option ℕ → Option ℕ → ℕ → List ℕ → Parsed (Decision O)
    with_facts l m n vs = counted n (next (read_list listed entry_bits n vs) (λ fs us. got (refused l m fs) us))

    facts13_numbered : (l m : Option ℕ) (n : ℕ) (vs : List ℕ) → Numbered (with_facts l m n vs)
    facts13_numbered l m n vs =
        counted_numbered n (next (read_list listed entry_bits n vs) (λ fs us. got (refused l m fs) us)) (made_numbered (read_list listed entry_bits n vs) (refused l m) (facts_numbered n vs))

    more13_numbered : (lab rea : ℕ) (ws : List ℕ) → Numbered (more13 value sh den lab rea ws)
    more13_numbered lab rea ws =
        next_numbered (mark lab) (λ l _. next (mark rea) (λ m _. another ws (with_facts l m))) (mark_numbered lab)
        (λ l _. next_numbered (mark rea) (λ m _. another ws (with_facts l m)) (mark_numbered rea) (λ m _. another_numbered ws (with_facts l m) (facts13_numbered l m)))

  parse13_numbered : (sh here z v : ℕ) (ws : List ℕ) → Numbered (parse13 value sh here z v ws)
  parse13_numbered sh here z v ws =
      let more : Option O → ℕ → List ℕ → Parsed (Decision O) = λ den w vs. more13 value sh den (w / 2 ^ (1 + mark_bits)) (w % 2 ^ (1 + mark_bits)) vs in
      unless_numbered (eqb z 0) 8 (denied_of value here v (λ den. another ws (more den))) eight
      (denied_numbered here v (λ den. another ws (more den)) (λ den. another_numbered ws (more den)
      (λ w vs. more13_numbered sh den (w / 2 ^ (1 + mark_bits)) (w % 2 ^ (1 + mark_bits)) vs)))

  at13_numbered : (r : ℕ) (ws : List ℕ) → Numbered (at13 value r ws)
  at13_numbered r ws = parse13_numbered (r / 2 ^ (1 + 10 + outcome_bits)) (bits (10 + outcome_bits) 1 r) (bits outcome_bits 10 r) (r % 2 ^ outcome_bits) ws

  stored_numbered : (res : Bool) (p : Parsed (Decision O)) → Numbered p → Numbered (in_residual value res (as_stored value p))
  stored_numbered true p h = made_numbered p stored h
  stored_numbered false p h = five

  -- ---- trees, sheets and records
  module _ (res : Bool) (pc : List ℕ → Parsed Condition) (hc : (ws : List ℕ) → Numbered (pc ws)) (p : List ℕ → Parsed (Policy O)) (h : (ws : List ℕ) → Numbered (p ws)) where
    node_p_numbered : (k r : ℕ) (ws : List ℕ) → Numbered (node_p value res pc p k r ws)
    node_p_numbered zero r ws =
        let body : Parsed (Policy O) = outcome_of value (value (r % 2 ^ outcome_bits)) (λ o. got (permit o) ws) in
        unless_numbered (eqb (r / 2 ^ outcome_bits) 0) 8 body eight (outcome_numbered (value (r % 2 ^ outcome_bits)) (λ o. got (permit o) ws) (λ o. tt))
    node_p_numbered (suc zero) r ws = plain_numbered {A = Policy O} r (got deny ws) tt
    node_p_numbered (suc (suc zero)) r ws = grant_numbered pc hc r ws
    node_p_numbered (suc (suc (suc zero))) r ws =
        counted_numbered r (next (many pnil pcons p r ws) (λ ts vs. got (all ts) vs)) (made_numbered (many pnil pcons p r ws) all (many_numbered pnil pcons p h r ws))
    node_p_numbered (suc (suc (suc (suc zero)))) r ws =
        counted_numbered r (next (many pnil pcons p r ws) (λ ts vs. got (any ts) vs)) (made_numbered (many pnil pcons p r ws) any (many_numbered pnil pcons p h r ws))
    node_p_numbered (suc (suc (suc (suc (suc zero))))) r ws =
        let both : Policy O → List ℕ → Parsed (Policy O) = λ a vs. next (p vs) (λ b us. got (or_else a b) us) in
        plain_numbered r (next (p ws) both) (next_numbered (p ws) both (h ws) (λ a vs. made_numbered (p vs) (or_else a) (h vs)))
    node_p_numbered (suc (suc (suc (suc (suc (suc zero)))))) r ws = stored_numbered res (at12 value r ws) (at12_numbered r ws)
    node_p_numbered (suc (suc (suc (suc (suc (suc (suc zero))))))) r ws = stored_numbered res (at13 value r ws) (at13_numbered r ws)
    node_p_numbered (suc (suc (suc (suc (suc (suc (suc (suc k)))))))) r ws = five

  policy_numbered : (res : Bool) (d : ℕ) (ws : List ℕ) → Numbered (read_policy value res d ws)
  policy_numbered res zero [] = six
  policy_numbered res zero (w ∷ ws) = unless_numbered {A = Policy O} (leb 6 (kind_of w) && leb (kind_of w) (last_kind value res)) 5 (refuse 7) five seven
  policy_numbered res (suc d) [] = six
  policy_numbered res (suc d) (w ∷ ws) =
      unless_numbered (leb 6 (kind_of w)) 5 (node_p value res (λ vs. read_condition d vs) (λ vs. read_policy value res d vs) (kind_of w - 6) (rest_of w) ws) five
      (node_p_numbered res (λ vs. read_condition d vs) (λ vs. condition_numbered d vs) (λ vs. read_policy value res d vs) (λ vs. policy_numbered res d vs) (kind_of w - 6) (rest_of w) ws)

  pub sheet_numbered : (ws : List ℕ) → Numbered (read_sheet value ws)
  sheet_numbered ws =
      unless_numbered (sheet_length ws) 1 (whole (read_policy value false levels ws)) one (whole_numbered (read_policy value false levels ws) (policy_numbered false levels ws))

  node14_numbered : (k r : ℕ) (ws : List ℕ) → Numbered (node14 value k r ws)
  node14_numbered zero r ws = made_numbered (at12 value r ws) resolved (at12_numbered r ws)
  node14_numbered (suc zero) r ws = made_numbered (at13 value r ws) resolved (at13_numbered r ws)
  node14_numbered (suc (suc k)) r ws = five

  parse14_numbered : (ws : List ℕ) → Numbered (parse14 value ws)
  parse14_numbered [] = six
  parse14_numbered (w ∷ vs) = unless_numbered (leb 12 (kind_of w)) 5 (node14 value (kind_of w - 12) (rest_of w) vs) five (node14_numbered (kind_of w - 12) (rest_of w) vs)

  parse15_numbered : (ws : List ℕ) → Numbered (parse15 value ws)
  parse15_numbered ws = made_numbered (read_policy value true levels ws) pending (policy_numbered true levels ws)

  rest_numbered : (p : List ℕ → Parsed (ReducedPolicy O)) → ((ws : List ℕ) → Numbered (p ws)) → (r : ℕ) (ws : List ℕ) → Numbered (rest value p r ws)
  rest_numbered p h r ws =
      let recorded : Consulted → ReducedPolicy O → Record O = λ es b. record { body = b; log = es } in
      let body : Consulted → List ℕ → Parsed (Record O) = λ es vs. next (p vs) (λ b us. got (recorded es b) us) in
      let count = r % 2 ^ count_bits in
      next_numbered (read_list consulted entry_bits count ws) body (list_numbered consulted consulted_numbered entry_bits count ws) (λ es vs. made_numbered (p vs) (recorded es) (h vs))

  leads_numbered : (k r : ℕ) (ws : List ℕ) → Numbered (leads value k r ws)
  leads_numbered zero r ws = rest_numbered (λ vs. parse14 value vs) parse14_numbered r ws
  leads_numbered (suc zero) r ws = rest_numbered (λ vs. parse15 value vs) parse15_numbered r ws
  leads_numbered (suc (suc k)) r ws = five

  lead_numbered : (ws : List ℕ) → Numbered (read_lead value ws)
  lead_numbered [] = six
  lead_numbered (w ∷ vs) = unless_numbered (leb 14 (kind_of w)) 5 (leads value (kind_of w - 14) (rest_of w) vs) five (leads_numbered (kind_of w - 14) (rest_of w) vs)

  pub record_numbered : (ws : List ℕ) → Numbered (read_record value ws)
  record_numbered ws = unless_numbered (record_length ws) 1 (whole (read_lead value ws)) one (whole_numbered (read_lead value ws) (lead_numbered ws))

field_faulty : (k : TableKind) (q : ℕ) → Faulty (field_fault k q)
field_faulty k zero = tt
field_faulty k (suc zero) = tt
field_faulty partial_facts (suc (suc zero)) = tt
field_faulty known_facts (suc (suc zero)) = (omega arith, omega arith, λ e. omega arith)
field_faulty k (suc (suc (suc n))) = (omega arith, omega arith, λ e. omega arith)

or_faulty : (a b : Option ℕ) → Faulty a → Faulty b → Faulty (or_fault a b)
or_faulty none b h g = g
or_faulty (some n) b h g = h

first_faulty : (k : TableKind) (qs : List ℕ) → Faulty (first_fault k qs)
first_faulty k [] = tt
first_faulty k (q ∷ qs) = or_faulty (field_fault k q) (first_fault k qs) (field_faulty k q) (first_faulty k qs)

pub table_faulty : (k : TableKind) (bs : List ℕ) → Faulty (table_fault k bs)
table_faulty k bs = by (leb (length bs) table_bytes)
  where
    by : (b : Bool) → Faulty (cond b (first_fault k (table_fields bs)) (some 2))
    by true = first_faulty k (table_fields bs)
    by false = (omega arith, omega arith, λ e. omega arith)

-- ---- the calls: a number of the table, or one besides
read_cause : (n : ℕ) → Reads n → Cause n
read_cause n h = (h.0, omega (arith, h.1), h.2)

module _ (Besides : ℕ → Type 0) where
  long_told : (b : Bool) (a : Answer) → Told Besides a → Told Besides (unless_long b a)
  long_told true a h = h
  long_told false a h = inl (read_cause 1 one)

  fault_told : (o : Option ℕ) (a : Answer) → Faulty o → Told Besides a → Told Besides (unless_fault o a)
  fault_told none a h g = g
  fault_told (some n) a h g = inl h

  read_told : {A : Type 0} (p : Parsed A) (k : A → Answer) → Numbered p → ((a : A) → Told Besides (k a)) → Told Besides (on_read p k)
  read_told (refuse n) k h g = inl (read_cause n h)
  read_told (got a ws) k h g = g a

  other_told : (b : Bool) (a : Answer) → Besides 16 → Told Besides a → Told Besides (unless_other b a)
  other_told true a h g = g
  other_told false a h g = inr h

  contradicted_told : (b : Bool) (a : Answer) → Besides 17 → Told Besides a → Told Besides (unless_contradicted b a)
  contradicted_told false a h g = g
  contradicted_told true a h g = inr h

  under_told : (number : ℕ) (a : Answer) → Told Besides a → Told Besides (under number a)
  under_told number (refusal n) h = h
  under_told number (wrote ws) h = tt

  write_told : (L : Outcomes) (number room : ℕ) (r : Record L.O) → Told Besides (under number (write L room r))
  write_told L number room r = under_told number (write L room r) (by (fits L room r))
    where
      by : (b : Bool) → Told Besides (cond b (wrote (encode_r L.number r)) (refusal 11))
      by true = tt
      by false = inl (omega arith, omega arith, λ e. omega arith)

module _ (L : Outcomes) (number : ℕ) where
  pub evaluate_told : (sheet facts : List ℕ) (room : ℕ) → Told OtherNumber (evaluate L number sheet facts room)
  evaluate_told sheet facts room =
      long_told OtherNumber (sheet_length sheet) _ (fault_told OtherNumber (table_fault known_facts facts) _ (table_faulty known_facts facts)
      (read_told OtherNumber (read_sheet L.value sheet) _ (sheet_numbered L.value sheet)
      (λ t. other_told OtherNumber (is_sheet_number number) _ refl (write_told OtherNumber L number room (evaluated L (table_of facts) t)))))

  pub partial_evaluate_told : (o : Order) (sheet facts : List ℕ) (room : ℕ) → Told OtherNumber (partial_evaluate L o number sheet facts room)
  partial_evaluate_told o sheet facts room =
      long_told OtherNumber (sheet_length sheet) _ (fault_told OtherNumber (table_fault partial_facts facts) _ (table_faulty partial_facts facts)
      (read_told OtherNumber (read_sheet L.value sheet) _ (sheet_numbered L.value sheet)
      (λ t. other_told OtherNumber (is_sheet_number number) _ refl (write_told OtherNumber L number room (reduced L o (table_of facts) t)))))

  pub narrow_residual_told : (o : Order) (rec facts : List ℕ) (room : ℕ) → Told OtherOrContradicted (narrow_residual L o number rec facts room)
  narrow_residual_told o rec facts room =
      long_told OtherOrContradicted (record_length rec) _ (fault_told OtherOrContradicted (table_fault partial_facts facts) _ (table_faulty partial_facts facts)
      (read_told OtherOrContradicted (read_record L.value rec) _ (record_numbered L.value rec)
      (λ r. other_told OtherOrContradicted (has_number rec number) _ (inl refl)
      (contradicted_told OtherOrContradicted (any_contradicted (table_of facts) r.log) _ (inr refl) (write_told OtherOrContradicted L number room (narrowed L o (table_of facts) r))))))

  pub complete_residual_told : (rec facts : List ℕ) (room : ℕ) → Told OtherNumber (complete_residual L number rec facts room)
  complete_residual_told rec facts room =
      long_told OtherNumber (record_length rec) _ (fault_told OtherNumber (table_fault known_facts facts) _ (table_faulty known_facts facts)
      (read_told OtherNumber (read_record L.value rec) _ (record_numbered L.value rec)
      (λ r. other_told OtherNumber (has_number rec number) _ refl (write_told OtherNumber L number room (completed L (table_of facts) r)))))

over_told : (b : Bool) (a : Answer) → Told Unaffordable a → Told Unaffordable (unless_over b a)
over_told true a h = h
over_told false a h = inr refl

module _ (L : Outcomes) (left number : ℕ) (sheet facts : List ℕ) (room : ℕ) where
  pub within_told : number < 2 ^ sheet_bits → Told Unaffordable (evaluate_within L left number sheet facts room)
  within_told h =
      long_told Unaffordable (sheet_length sheet) _ (fault_told Unaffordable (table_fault known_facts facts) _ (table_faulty known_facts facts)
      (read_told Unaffordable (read_sheet L.value sheet) _ (sheet_numbered L.value sheet)
      (λ t. over_told (leb (visits L (table_of facts) t) left) _
      (rw (lt-ltb number (2 ^ sheet_bits) h) (write_told Unaffordable L number room (evaluated L (table_of facts) t))))))

module _ (Besides : ℕ → Type 0) where
  more_told : (a : Answer) → Told Besides a → Told (OrTable Besides) a
  more_told (refusal n) (inl h) = inl h
  more_told (refusal n) (inr h) = inr (inl h)
  more_told (wrote ws) h = tt

  told_by_table : (g : Option OutcomeTable) (call : Outcomes → Answer) → Told Besides (call (outcomes_of g)) → Told (OrTable Besides) (by_table g call)
  told_by_table g call h = by (acceptable g)
    where
      by : (b : Bool) → Told (OrTable Besides) (cond b (call (outcomes_of g)) (refusal 21))
      by true = more_told (call (outcomes_of g)) h
      by false = inr (inr refl)

-- The four calls, with a table or without: 21, or a number of theirs.
module _ (g : Option OutcomeTable) (number : ℕ) where
  pub evaluate_told_by : (sheet facts : List ℕ) (room : ℕ) → Told (OrTable OtherNumber) (by_table g (λ L. evaluate L number sheet facts room))
  evaluate_told_by sheet facts room = told_by_table OtherNumber g (λ L. evaluate L number sheet facts room) (evaluate_told (outcomes_of g) number sheet facts room)

  pub partial_evaluate_told_by : (o : Order) (sheet facts : List ℕ) (room : ℕ) → Told (OrTable OtherNumber) (by_table g (λ L. partial_evaluate L o number sheet facts room))
  partial_evaluate_told_by o sheet facts room = told_by_table OtherNumber g (λ L. partial_evaluate L o number sheet facts room) (partial_evaluate_told (outcomes_of g) number o sheet facts room)

  pub narrow_residual_told_by : (o : Order) (rec facts : List ℕ) (room : ℕ) → Told (OrTable OtherOrContradicted) (by_table g (λ L. narrow_residual L o number rec facts room))
  narrow_residual_told_by o rec facts room = told_by_table OtherOrContradicted g (λ L. narrow_residual L o number rec facts room) (narrow_residual_told (outcomes_of g) number o rec facts room)

  pub complete_residual_told_by : (rec facts : List ℕ) (room : ℕ) → Told (OrTable OtherNumber) (by_table g (λ L. complete_residual L number rec facts room))
  complete_residual_told_by rec facts room = told_by_table OtherNumber g (λ L. complete_residual L number rec facts room) (complete_residual_told (outcomes_of g) number rec facts room)
