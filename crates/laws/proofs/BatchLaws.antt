-- A batch: what remains of the allowance and of the output decides each request, and a request within it is answered as by a direct call;
-- and each reply can be read back from its number. Request 10. Assumes nothing.
use Rattle.std.specs.Prelude.{◌≡◌, refl, ◌⊎◌, Bool, true, false, cond, ◌&&◌, List, [], ◌∷◌, map, ℕ, zero, suc, ◌+◌, ◌-◌, ◌*◌, ◌/◌, ◌%◌, ◌^◌, ◌≤◌, ◌<◌, eqb, ltb, leb, length, drop}
use Rattle.std.proofs.Common.{sym, ◌∙◌, ap, ap₂, inl, inr, ⊎_elim, arith, le-leb, leb-true, eqb-true, ne_eqb, length-append}
use Rattle.std.proofs.Math.Bool.{and-eq-true_iff}
use Rattle.std.proofs.Math.Option.{Option, none, some}
use Rattle.std.proofs.lemmas.Bool.{lt-leb}
use Rattle.model.specs.Facts.{table_of, known_facts, table_fault}
use Rattle.model.specs.Outcome.{Outcomes}
use Rattle.model.specs.Policy.{Policy}
use Rattle.model.specs.Record.{evaluated, tree}
use Rattle.model.specs.Writing.{sheet_bits, encode_r, short}
use Rattle.model.specs.Reading.{Parsed, refuse, got, sheet_words, record_words, sheet_length, record_length, read_sheet}
use Rattle.model.specs.Calls.{Answer, refusal, wrote, written_of, unless_long, unless_fault, on_read, unless_other, is_sheet_number, under, write, evaluate}
use Rattle.model.specs.Levels.{OutcomeTable, outcomes_of, acceptable}
use Rattle.model.specs.Register.{Entry, entries_of, is_register, in_force}
use Rattle.model.specs.Visits.{visits}
use Rattle.model.specs.Batch.{request_words, Handed, handed_over, Request, requests_of, request_count, Reply, no_sheet, refused, decided, reply_of, nodes_of, record_of, reply_number, records_of, numbers_of, unless_over, visited, evaluate_within, sheet_of, of_entry, decide_by, reply, replies, Batch, turned_back, answers, is_batch, unless_part, unless_faulty, on_handed, unless_few, batch, evaluate_batch}
use Rattle.laws.proofs.Lengths.{length_numbered}
use Rattle.laws.specs.Numbers.{Told, Unaffordable}
use Rattle.laws.proofs.NumberLaws.{within_told}
use Rattle.laws.specs.InForce.{Found}
use Rattle.laws.proofs.InForceLaws.{in_force_lem, below}
use Rattle.laws.proofs.VisitLaws.{some_visits, visited_words}
use Rattle.laws.specs.Replies.{spent, Counts, ToldReply, ToldReplies, BatchCause, ToldBatch, said_by, read_reply, ReadsBatch}

module _ (L : Outcomes) (number : ℕ) (sheet facts : List ℕ) (room left : ℕ) where
  -- What is done with a sheet that reads, by a direct call and by a request.
  abbrev Direct : Policy L.O → Answer
  Direct t = unless_other (is_sheet_number number) (under number (write L room (evaluated L (table_of facts) t)))

  abbrev Asked : Policy L.O → Answer
  Asked t = unless_over (leb (visits L (table_of facts) t) left) (Direct t)

  within_read : (q : Parsed (Policy L.O)) → visited L q (table_of facts) ≤ left → on_read q Asked ≡ on_read q Direct
  within_read (refuse n) h = refl
  within_read (got t ws) h = ap (λ b. unless_over b (Direct t)) (le-leb (visits L (table_of facts) t) left h)

  -- A request that stays within what remains is decided as by a direct call with its sheet's number.
  pub within : visited L (read_sheet L.value sheet) (table_of facts) ≤ left → evaluate_within L left number sheet facts room ≡ evaluate L number sheet facts room
  within h = ap (λ a. unless_long (sheet_length sheet) (unless_fault (table_fault known_facts facts) a)) (within_read (read_sheet L.value sheet) h)

  -- One that doesn't, of an accepted sheet and table, is turned back with 18, whatever the room.
  pub over : (t : Policy L.O) (ws : List ℕ) → sheet_length sheet ≡ true → table_fault known_facts facts ≡ none → read_sheet L.value sheet ≡ got t ws → left < visits L (table_of facts) t →
      evaluate_within L left number sheet facts room ≡ refusal 18
  over t ws long faultless reads h =
      ap (λ b. unless_long b (unless_fault (table_fault known_facts facts) (on_read (read_sheet L.value sheet) Asked))) long
      ∙ ap (λ o. unless_fault o (on_read (read_sheet L.value sheet) Asked)) faultless
      ∙ ap (λ q. on_read q Asked) reads
      ∙ ap (λ b. unless_over b (Direct t)) (lt-leb (visits L (table_of facts) t) left h)

  -- So either it is answered as by a direct call, or with 18.
  either_over : (b : Bool) (t : Policy L.O) → (unless_over b (Direct t) ≡ Direct t) ⊎ (unless_over b (Direct t) ≡ refusal 18)
  either_over true t = inl refl
  either_over false t = inr refl

  either_at : (long : Bool) (fault : Option ℕ) (q : Parsed (Policy L.O)) →
      (unless_long long (unless_fault fault (on_read q Asked)) ≡ unless_long long (unless_fault fault (on_read q Direct)))
      ⊎ (unless_long long (unless_fault fault (on_read q Asked)) ≡ refusal 18)
  either_at false fault q = inl refl
  either_at true (some n) q = inl refl
  either_at true none (refuse n) = inl refl
  either_at true none (got t ws) = either_over (leb (visits L (table_of facts) t) left) t

  pub directly_or_over : (evaluate_within L left number sheet facts room ≡ evaluate L number sheet facts room) ⊎ (evaluate_within L left number sheet facts room ≡ refusal 18)
  directly_or_over = either_at (sheet_length sheet) (table_fault known_facts facts) (read_sheet L.value sheet)

  -- A record that is written is the direct call's; another refusal than 18 is too.
  pub decided_directly : (nodes : ℕ) (ws : List ℕ) (n : ℕ) → reply_of (evaluate_within L left number sheet facts room) nodes ≡ decided ws n → evaluate L number sheet facts room ≡ wrote ws
  decided_directly nodes ws n e = by (evaluate_within L left number sheet facts room) directly_or_over e
    where
      by : (a : Answer) → (a ≡ evaluate L number sheet facts room) ⊎ (a ≡ refusal 18) → reply_of a nodes ≡ decided ws n → evaluate L number sheet facts room ≡ wrote ws
      by (refusal m) d e = let z : ◌≡◌ {A = ℕ} 0 1 = cc in absurd (omega arith)
      by (wrote vs) (inl d) e = sym d ∙ ap wrote (let s : vs ≡ ws = cc in s)
      by (wrote vs) (inr d) e = let z : ◌≡◌ {A = ℕ} 0 1 = cc in absurd (omega arith)

  pub refused_directly : (nodes m : ℕ) → reply_of (evaluate_within L left number sheet facts room) nodes ≡ refused m → (m ≡ 18 → ⊥) → evaluate L number sheet facts room ≡ refusal m
  refused_directly nodes m e f = by (evaluate_within L left number sheet facts room) directly_or_over e
    where
      by : (a : Answer) → (a ≡ evaluate L number sheet facts room) ⊎ (a ≡ refusal 18) → reply_of a nodes ≡ refused m → evaluate L number sheet facts room ≡ refusal m
      by (refusal k) (inl d) e = sym d ∙ ap refusal (let s : k ≡ m = cc in s)
      by (refusal k) (inr d) e = absurd (f (let s : m ≡ 18 = cc in s))
      by (wrote vs) d e = let z : ◌≡◌ {A = ℕ} 0 1 = cc in absurd (omega arith)

-- ---- what the requests take
-- What is written fits in the room, and has no more words than a record may.
record Fits (room : ℕ) (a : Answer) : Type 0 where
  in_room : written_of a ≤ room
  few : written_of a ≤ record_words

nothing_written : (room n : ℕ) → Fits room (refusal n)
nothing_written room n = record { in_room = omega arith; few = omega arith }

module _ (L : Outcomes) (number : ℕ) (facts : List ℕ) (room left : ℕ) where
  over_within : (t : Policy L.O) (b : Bool) → leb (visits L (table_of facts) t) left ≡ b → (a : Answer) → nodes_of (reply_of (unless_over b a) (visits L (table_of facts) t)) ≤ left
  over_within t true e (refusal n) = omega arith
  over_within t true e (wrote vs) = leb-true (visits L (table_of facts) t) left e
  over_within t false e a = omega arith

  nodes_within : (long : Bool) (fault : Option ℕ) (q : Parsed (Policy L.O)) →
      nodes_of (reply_of (unless_long long (unless_fault fault (on_read q (Asked L number [] facts room left)))) (visited L q (table_of facts))) ≤ left
  nodes_within false fault q = omega arith
  nodes_within true (some n) q = omega arith
  nodes_within true none (refuse n) = omega arith
  nodes_within true none (got t ws) = over_within t (leb (visits L (table_of facts) t) left) refl (Direct L number [] facts room left t)

  write_fits : (ws : List ℕ) (b long few : Bool) → leb (length ws) room ≡ b → record_length ws ≡ long → Fits room (under number (cond (b && long && few) (wrote ws) (refusal 11)))
  write_fits ws true true true e l =
      let same = length_numbered number ws in
      record {
        in_room = omega (arith, same, leb-true (length ws) room e);
        few = omega (arith, same, leb-true (length ws) record_words ((and-eq-true_iff (leb 1 (length ws)) (leb (length ws) record_words)).0 l).1);
      }
  write_fits ws true true false e l = nothing_written room 11
  write_fits ws true false few e l = nothing_written room 11
  write_fits ws false long few e l = nothing_written room 11

  asked_fits : (t : Policy L.O) (b right : Bool) → Fits room (unless_over b (unless_other right (under number (write L room (evaluated L (table_of facts) t)))))
  asked_fits t false right = nothing_written room 18
  asked_fits t true false = nothing_written room 16
  asked_fits t true true =
      let r = evaluated L (table_of facts) t in
      let ws = encode_r L.number r in
      write_fits ws (leb (length ws) room) (record_length ws) (short (tree r)) refl refl

  record_fits : (long : Bool) (fault : Option ℕ) (q : Parsed (Policy L.O)) → Fits room (unless_long long (unless_fault fault (on_read q (Asked L number [] facts room left))))
  record_fits false fault q = nothing_written room 1
  record_fits true (some n) q = nothing_written room n
  record_fits true none (refuse n) = nothing_written room n
  record_fits true none (got t ws) = asked_fits t (leb (visits L (table_of facts) t) left) (is_sheet_number number)

record_length_lem : (a : Answer) (nodes : ℕ) → length (record_of (reply_of a nodes)) ≡ written_of a
record_length_lem (refusal n) nodes = refl
record_length_lem (wrote ws) nodes = refl

module _ (L : Outcomes) where
  pub decided_within : (h : Option Handed) (facts : List ℕ) (left room : ℕ) → nodes_of (decide_by L h facts left room) ≤ left
  decided_within none facts left room = omega arith
  decided_within (some h) facts left room = nodes_within L h.number facts room left (sheet_length h.words) (table_fault known_facts facts) (read_sheet L.value h.words)

  handed_fits : (h : Handed) (facts : List ℕ) (left room : ℕ) → Fits room (evaluate_within L left h.number h.words facts room)
  handed_fits h facts left room = record_fits L h.number facts room left (sheet_length h.words) (table_fault known_facts facts) (read_sheet L.value h.words)

  handed_length : (h : Handed) (facts : List ℕ) (left room : ℕ) → length (record_of (decide_by L (some h) facts left room)) ≡ written_of (evaluate_within L left h.number h.words facts room)
  handed_length h facts left room = record_length_lem (evaluate_within L left h.number h.words facts room) (visited L (read_sheet L.value h.words) (table_of facts))

  pub decided_fits : (h : Option Handed) (facts : List ℕ) (left room : ℕ) → length (record_of (decide_by L h facts left room)) ≤ room
  decided_fits none facts left room = omega arith
  decided_fits (some h) facts left room = omega (arith, handed_length h facts left room, (handed_fits h facts left room).in_room)

  pub decided_few : (h : Option Handed) (facts : List ℕ) (left room : ℕ) → length (record_of (decide_by L h facts left room)) ≤ record_words
  decided_few none facts left room = omega arith
  decided_few (some h) facts left room = omega (arith, handed_length h facts left room, (handed_fits h facts left room).few)

  -- A batch never takes more than its allowance, and its records fit in the output.
  pub spent_within : (es : List Entry) (hs : List Handed) (left room : ℕ) (qs : List Request) → spent (replies L es hs left room qs) ≤ left
  spent_within es hs left room [] = omega arith
  spent_within es hs left room (q ∷ qs) =
      let r = reply L es hs left room q in
      omega (arith, decided_within (of_entry (in_force q.group q.day es) hs) q.facts left room, spent_within es hs (left - nodes_of r) (room - length (record_of r)) qs)

  pub records_within : (es : List Entry) (hs : List Handed) (left room : ℕ) (qs : List Request) → length (records_of (replies L es hs left room qs)) ≤ room
  records_within es hs left room [] = omega arith
  records_within es hs left room (q ∷ qs) =
      let r = reply L es hs left room q in
      let rest = replies L es hs (left - nodes_of r) (room - length (record_of r)) qs in
      omega (
        arith,
        length-append (record_of r) (records_of rest),
        decided_fits (of_entry (in_force q.group q.day es) hs) q.facts left room,
        records_within es hs (left - nodes_of r) (room - length (record_of r)) qs,
      )

  -- As many answers as requests.
  pub one_each : (es : List Entry) (hs : List Handed) (left room : ℕ) (qs : List Request) → length (replies L es hs left room qs) ≡ length qs
  one_each es hs left room [] = refl
  one_each es hs left room (q ∷ qs) = let r = reply L es hs left room q in ap suc (one_each es hs (left - nodes_of r) (room - length (record_of r)) qs)

-- ---- every refusal has a number of the tables, and a record's nodes and words are few
-- A sheet that decides has the number of its entry, which a record can carry; so no request is told 16.
abbrev InRange : Option Handed → Type 0
InRange none = Unit {0}
InRange (some h) = h.number < 2 ^ sheet_bits

found_in_range : (n : ℕ) → n < 2 ^ sheet_bits → (hs : List Handed) → InRange (sheet_of n hs)
found_in_range n k [] = tt
found_in_range n k (h ∷ hs) = by (eqb h.number n) refl (found_in_range n k hs)
  where
    by : (b : Bool) → eqb h.number n ≡ b → InRange (sheet_of n hs) → InRange (cond b (some h) (sheet_of n hs))
    by true e later = omega (arith, eqb-true h.number n e, k)
    by false e later = later

in_force_in_range : (register : List ℕ) (hs : List Handed) (group day : ℕ) → InRange (of_entry (in_force group day (entries_of register)) hs)
in_force_in_range register hs group day = by (in_force group day (entries_of register)) (in_force_lem group day (entries_of register))
  where
    by : (o : Option Entry) → Found group day (entries_of register) o → InRange (of_entry o hs)
    by none f = tt
    by (some e) f = found_in_range e.number (below register e f.listed) hs

-- An answer is told, with its nodes where words are written.
answer_told : (a : Answer) (nodes : ℕ) → Told Unaffordable a → Counts (written_of a) nodes → ToldReply (reply_of a nodes)
answer_told (refusal n) nodes h c = h
answer_told (wrote ws) nodes h c = c

module _ (L : Outcomes) (number : ℕ) (sheet facts : List ℕ) (room left : ℕ) where
  told_at : (long : Bool) (fault : Option ℕ) (q : Parsed (Policy L.O)) → sheet_length sheet ≡ long → visited L q (table_of facts) ≤ length sheet →
      let a = unless_long long (unless_fault fault (on_read q (Asked L number sheet facts room left))) in Told Unaffordable a → written_of a ≤ record_words → ToldReply (reply_of a (visited L q (table_of facts)))
  told_at false fault q e v h few = h
  told_at true (some n) q e v h few = h
  told_at true none (refuse n) e v h few = h
  told_at true none (got t ws) e v h few =
      let l = leb-true (length sheet) sheet_words ((and-eq-true_iff (leb 1 (length sheet)) (leb (length sheet) sheet_words)).0 e).1 in
      answer_told (Asked L number sheet facts room left t) (visits L (table_of facts) t) h (record { some_nodes = some_visits (table_of facts) L t; few_nodes = omega (arith, v, l); few_words = few })

module _ (L : Outcomes) where
  decided_told : (h : Option Handed) (facts : List ℕ) (left room : ℕ) → InRange h → ToldReply (decide_by L h facts left room)
  decided_told none facts left room k = tt
  decided_told (some h) facts left room k =
      let q = read_sheet L.value h.words in
      told_at L h.number h.words facts room left (sheet_length h.words) (table_fault known_facts facts) q refl (visited_words (table_of facts) L h.words)
      (within_told L left h.number h.words facts room k) (handed_fits L h facts left room).few

  pub replies_told : (register : List ℕ) (hs : List Handed) (left room : ℕ) (qs : List Request) → ToldReplies (replies L (entries_of register) hs left room qs)
  replies_told register hs left room [] = tt
  replies_told register hs left room (q ∷ qs) =
      let r = reply L (entries_of register) hs left room q in
      let sheet = of_entry (in_force q.group q.day (entries_of register)) hs in
      (decided_told sheet q.facts left room (in_force_in_range register hs q.group q.day), replies_told register hs (left - nodes_of r) (room - length (record_of r)) qs)

-- ---- so a reply can be read back from its number
pub read_back : (r : Reply) → ToldReply r → read_reply (reply_number r) ≡ said_by r
read_back no_sheet h = refl
read_back (refused n) h =
    let positive : 0 < n = ⊎_elim (λ c. omega (arith, c.0)) (λ e. omega (arith, e)) h in
    let q : n * 2 ^ 32 / 2 ^ 32 ≡ n = omega arith in
    rw (ne_eqb (n * 2 ^ 32) 0 (λ e. omega (arith, positive, e)), le-leb (2 ^ 32) (n * 2 ^ 32) (omega (arith, positive)), q) refl
read_back (decided ws nodes) h =
    let m = nodes * 2 ^ 16 + length ws in
    let words : m % 2 ^ 16 ≡ length ws = omega (arith, h.few_words) in
    let count : m / 2 ^ 16 ≡ nodes = omega (arith, h.few_words) in
    rw (ne_eqb m 0 (λ e. omega (arith, h.some_nodes, e)), lt-leb (2 ^ 32) m (omega (arith, h.few_nodes, h.few_words)), words, count) refl

-- All of them from the places, in order; and replies that say different things differ in number.
pub replies_read_back : (rs : List Reply) → ToldReplies rs → map read_reply (numbers_of rs) ≡ map said_by rs
replies_read_back [] h = refl
replies_read_back (r ∷ rs) h = ap₂ ◌∷◌ (read_back r h.0) (replies_read_back rs h.1)

pub one_meaning : (r s : Reply) → ToldReply r → ToldReply s → reply_number r ≡ reply_number s → said_by r ≡ said_by s
one_meaning r s h k e = sym (read_back r h) ∙ ap read_reply e ∙ read_back s k

-- ---- what a batch tells, by its tests in their order
part_told : (b : Bool) (r : Batch) → (b ≡ true → ToldBatch r) → ToldBatch (unless_part b r)
part_told true r h = h refl
part_told false r h = inr (inl refl)

faulty_told : (b : Bool) (r : Batch) → ToldBatch r → ToldBatch (unless_faulty b r)
faulty_told true r h = h
faulty_told false r h = inr (inr (inl refl))

handed_told : (o : Option (List Handed)) (k : List Handed → Batch) → ((hs : List Handed) → ToldBatch (k hs)) → ToldBatch (on_handed o k)
handed_told none k h = inr (inr (inr (inl refl)))
handed_told (some hs) k h = h hs

few_told : (b : Bool) (r : Batch) → ToldBatch r → ToldBatch (unless_few b r)
few_told true r h = h
few_told false r h = inr (inr (inr (inr refl)))

table_told : (b : Bool) (r : Batch) → ToldBatch r → ToldBatch (cond b r (turned_back 21))
table_told true r h = h
table_told false r h = inl refl

requests_long : (n : ℕ) (ws : List ℕ) → length (requests_of n ws) ≡ n
requests_long zero ws = refl
requests_long (suc n) ws = ap suc (requests_long n (drop request_words ws))

few_requests : (requests : List ℕ) (allowance : ℕ) → is_batch requests allowance ≡ true → request_count requests ≤ 64
few_requests requests allowance e =
    let short = leb (length requests) (64 * request_words) in
    let within = ltb allowance (2 ^ 16) in
    omega (arith, leb-true (length requests) (64 * request_words) ((and-eq-true_iff short within).0 ((and-eq-true_iff (eqb (length requests % request_words) 0) (short && within)).0 e).1).0)

pub batch_told : (g : Option OutcomeTable) (register sheets requests : List ℕ) (allowance places room : ℕ) → ToldBatch (evaluate_batch g register sheets requests allowance places room)
batch_told g register sheets requests allowance places room =
    let L = outcomes_of g in
    let run : List Handed → Batch = λ hs. answers (replies L (entries_of register) hs allowance room (requests_of (request_count requests) requests)) in
    let few : List Handed → Batch = λ hs. unless_few (leb (request_count requests) places) (run hs) in
    let qs = requests_of (request_count requests) requests in
    table_told (acceptable g) (batch L register sheets requests allowance places room)
    (part_told (is_batch requests allowance) (unless_faulty (is_register register) (on_handed (handed_over sheets) few)) (λ e.
    faulty_told (is_register register) (on_handed (handed_over sheets) few)
    (handed_told (handed_over sheets) few (λ hs. few_told (leb (request_count requests) places) (run hs) (
      replies_told L register hs allowance room qs,
      omega (arith, one_each L (entries_of register) hs allowance room qs, requests_long (request_count requests) requests, few_requests requests allowance e),
    )))))

-- ---- a batch can be read back too: it has few words in all
records_few : (rs : List Reply) → ToldReplies rs → length (records_of rs) ≤ length rs * record_words
records_few [] h = omega arith
records_few (no_sheet ∷ rs) h = omega (arith, records_few rs h.1)
records_few (refused n ∷ rs) h = omega (arith, records_few rs h.1)
records_few (decided ws nodes ∷ rs) h = omega (arith, length-append ws (records_of rs), h.0.few_words, records_few rs h.1)

some_cause : (n : ℕ) → BatchCause n → 0 < n
some_cause n (inl e) = omega arith
some_cause n (inr (inl e)) = omega arith
some_cause n (inr (inr (inl e))) = omega arith
some_cause n (inr (inr (inr (inl e)))) = omega arith
some_cause n (inr (inr (inr (inr e)))) = omega arith

pub batch_read_back : (b : Batch) → ToldBatch b → ReadsBatch b
batch_read_back (turned_back n) h = (omega (arith, some_cause n h), omega arith)
batch_read_back (answers rs) h = omega (arith, records_few rs h.0, h.1)
