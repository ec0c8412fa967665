-- A request by what was judged, counted and decided. Assumes nothing.
use mathlib.Core.Path.{◌≡◌, refl, sym, ◌∙◌, ap, subst}
use mathlib.Core.Bool.{Bool, true, false, cond}
use mathlib.Core.Option.{Option, none, some}
use mathlib.Core.List.{List}
use Prim.Native.Nat.{ℕ, ◌^◌, ◌≤◌, ◌<◌}
use native.Mathlib.Omega.{arith}
use borrow.Author.Tests.{lt-ltb, leb-true}
use lib.Dec.{leb}
use lib.ListN.{length}
use Rattle.model.specs.Facts.{table_of, known_facts, table_fault}
use Rattle.model.specs.Policy.{Policy}
use Rattle.model.specs.Record.{evaluated}
use Rattle.model.specs.Writing.{sheet_bits}
use Rattle.model.specs.Reading.{Parsed, refuse, got, sheet_length}
use Rattle.model.specs.Calls as calls
use Rattle.model.specs.Levels.{OutcomeTable, outcomes_of, outcome_count}
use Rattle.model.specs.Products.{Outcome}
use Rattle.model.specs.Visits.{visits}
use Rattle.model.specs.Batch as model
use Rattle.model.specs.Batch.{reply_of, unless_over, visited, evaluate_within, decide_by}
use Rattle.laws.proofs.Deeper.{follows_got}
use Rattle.laws.proofs.Wider.{sheet_among}
use Rattle.laws.proofs.BatchLaws.{within}
use Rattle.laws.proofs.FieldLaws.{held_at}
use Rattle.policy_model.specs.Answers.{refusal}
use Rattle.policy_model.proofs.Records.{was_read}
use Rattle.std.specs.Prelude.{Option as Maybe, Some, None, Result, Ok, Err, IsErrAnd}
use Rattle.refusal.specs.declared.Refusal.{Refusal}
use Rattle.refusal.specs.declared.Refusal.TheVariants as cause
use Rattle.refusal.specs.Numbers.{number_of, by_number}
use Rattle.answer.specs.Answers.{Answer, Answered, Makes, Numbered}
use Rattle.completion.specs.Answers.{completed_after}
use Rattle.calls.specs.Judged.{read_sheet_by, judged, of_number, judged_sheet}
use Rattle.calls.proofs.Judging.{judged_got}
use Rattle.calls.proofs.Sheets.{sheet_made}
use Rattle.visits.specs.Counting.{visits_within, CountsSheet}
use Rattle.batch.specs.declared.Decided.{Decided}
use Rattle.batch.specs.Answers.{handed, Replies}

-- ---- a sheet that is turned back
turned : (long : Bool) (fault : Option ℕ) (q : Parsed (Policy Outcome)) (k : Policy Outcome → calls.Answer) (n : ℕ) → some n ≡ refusal (judged long fault (of_number true q)) →
    calls.unless_long long (calls.unless_fault fault (calls.on_read q k)) ≡ calls.refusal n
turned false fault q k n e = ap calls.refusal (let s : ◌≡◌ {A = ℕ} 1 n = cc in s)
turned true (some m) q k n e = ap calls.refusal (let s : m ≡ n = cc in s)
turned true none (refuse m) k n e = ap calls.refusal (let s : m ≡ n = cc in s)
turned true none (got t ws) k n e = let z : ◌≡◌ {A = ℕ} 0 1 = cc in absurd (omega arith)

-- ---- what was counted: over where the nodes exceed the allowance, else the nodes
over_false : (b : Bool) (n : ℕ) → None ≡ cond b (Some n) None → b ≡ false
over_false true n e = let z : ◌≡◌ {A = ℕ} 0 1 = cc in absurd (omega arith)
over_false false n e = refl

within_true : (b : Bool) (m n : ℕ) → Some m ≡ cond b (Some n) None → (b ≡ true) × (m ≡ n)
within_true true m n e = (refl, let s : m ≡ n = cc in s)
within_true false m n e = let z : ◌≡◌ {A = ℕ} 0 1 = cc in absurd (omega arith)

-- ---- what the direct call answers, as a reply
abbrev took : ℕ → ℕ → Decided
took words nodes = record { words = words; nodes = nodes }

written : (m : calls.Answer) (nodes words : ℕ) {before after : List ℕ} (a : Answer) → a ≡ Ok words → Answered m before after a → Replies (reply_of m nodes) before after (Ok (Some (took words nodes)))
written (calls.refusal n) nodes words a e h = let k = sym (ap by_number e) ∙ h.answer_is in let z : ◌≡◌ {A = ℕ} 0 1 = cc in absurd (omega arith)
written (calls.wrote ws) nodes words a e h =
    let k : Ok words ≡ Ok (length ws) = sym (ap by_number e) ∙ h.answer_is in
    let s : words ≡ length ws = cc in
    record { reply_is = ap (λ w. Ok (Some (took w nodes))) s; output_is = h.output_is }

unwritten : (m : calls.Answer) (nodes : ℕ) (c : Refusal) {before after : List ℕ} (a : Answer) → a ≡ Err c → Answered m before after a → Replies (reply_of m nodes) before after (Err c)
unwritten (calls.refusal k) nodes c a e h =
    let known : Err (number_of c) ≡ Err k = sym (ap by_number e) ∙ h.answer_is in
    let s : number_of c ≡ k = cc in
    record { reply_is = ap Err s; output_is = h.output_is }
unwritten (calls.wrote ws) nodes c a e h = let k = sym (ap by_number e) ∙ h.answer_is in let z : ◌≡◌ {A = ℕ} 0 1 = cc in absurd (omega arith)

-- A refusal is passed on as it is.
pub refusal_passed : {m : model.Reply} {before after : List ℕ} (r : Result (Maybe Decided) Refusal) (c : Refusal) → IsErrAnd r (λ e. e ≡ c) → Replies m before after (Err c) → Replies m before after r
refusal_passed (Ok d) c h k = absurd h
refusal_passed {m} {before} {after} (Err e) c h k = subst (λ x. Replies m before after (Err x)) (sym h) k

module _ (g : Option OutcomeTable) (number : ℕ) (right : number < 2 ^ sheet_bits) (sheet facts : List ℕ) (left : ℕ) (before : List ℕ) where
  -- What is done with a sheet that reads, by a direct call and by a request.
  abbrev Direct : Policy Outcome → calls.Answer
  Direct t = calls.unless_other (calls.is_sheet_number number) (calls.under number (calls.write (outcomes_of g) (length before) (evaluated (outcomes_of g) (table_of facts) t)))

  abbrev Asked : Policy Outcome → calls.Answer
  Asked t = unless_over (leb (visits (outcomes_of g) (table_of facts) t) left) (Direct t)

  abbrev Nodes : ℕ
  Nodes = visited (outcomes_of g) (read_sheet_by g sheet) (table_of facts)

  carried_lem : judged_sheet g known_facts number sheet facts ≡ judged (sheet_length sheet) (table_fault known_facts facts) (of_number true (read_sheet_by g sheet))
  carried_lem = ap (λ b. judged (sheet_length sheet) (table_fault known_facts facts) (of_number b (read_sheet_by g sheet))) (lt-ltb number (2 ^ sheet_bits) right)

  pub request_refused : (c : Refusal) → some (number_of c) ≡ refusal (judged_sheet g known_facts number sheet facts) → Replies (decide_by (outcomes_of g) (some (handed number sheet)) facts left (length before)) before before (Err c)
  request_refused c e =
      subst (λ a. Replies (reply_of a Nodes) before before (Err c))
      (sym (turned (sheet_length sheet) (table_fault known_facts facts) (read_sheet_by g sheet) Asked (number_of c) (e ∙ ap refusal carried_lem)))
      (record { reply_is = refl; output_is = refl })

  module _ (few : outcome_count g ≤ 65536) where
    -- An accepted sheet was counted: the tree that reads by the table reads by none, and its nodes depend on facts alone.
    counted : none ≡ refusal (judged_sheet g known_facts number sheet facts) → {r : Maybe ℕ} → CountsSheet (table_of facts) sheet left r → r ≡ visits_within left Nodes
    counted e s =
        was_read (judged_sheet g known_facts number sheet facts) e (λ t vs e.
        let read = (judged_got (sheet_length sheet) (table_fault known_facts facts) (calls.is_sheet_number number) (read_sheet_by g sheet) t vs e).2 in
        held_at (s.says g) (follows_got (sheet_among (outcome_count g) sheet few) read) ∙ ap (λ q. visits_within left (visited (outcomes_of g) q (table_of facts))) (sym read))

    over_asked : (long : Bool) (fault : Option ℕ) (q : Parsed (Policy Outcome)) → none ≡ refusal (judged long fault (of_number true q)) → leb (visited (outcomes_of g) q (table_of facts)) left ≡ false →
        calls.unless_long long (calls.unless_fault fault (calls.on_read q Asked)) ≡ calls.refusal 18
    over_asked false fault q e h = let z : ◌≡◌ {A = ℕ} 0 1 = cc in absurd (omega arith)
    over_asked true (some m) q e h = let z : ◌≡◌ {A = ℕ} 0 1 = cc in absurd (omega arith)
    over_asked true none (refuse m) e h = let z : ◌≡◌ {A = ℕ} 0 1 = cc in absurd (omega arith)
    over_asked true none (got t ws) e h = ap (λ b. unless_over b (Direct t)) h

    pub request_over : none ≡ refusal (judged_sheet g known_facts number sheet facts) → CountsSheet (table_of facts) sheet left None →
        Replies (decide_by (outcomes_of g) (some (handed number sheet)) facts left (length before)) before before (Err cause.Allowance)
    request_over e s =
        subst (λ a. Replies (reply_of a Nodes) before before (Err cause.Allowance))
        (sym (over_asked (sheet_length sheet) (table_fault known_facts facts) (read_sheet_by g sheet) (e ∙ ap refusal carried_lem) (over_false (leb Nodes left) Nodes (counted e s))))
        (record { reply_is = refl; output_is = refl })

    -- Within the allowance: as by a direct call.
    module _ (e : none ≡ refusal (judged_sheet g known_facts number sheet facts)) (nodes : ℕ) (s : CountsSheet (table_of facts) sheet left (Some nodes)) {made after : List ℕ} {b : Answer} (a : Answer)
        (m : Makes (completed_after g (table_of facts)) sheet 0 0 before made b) (u : Numbered number made after b a) where
      direct : Answered (calls.evaluate (outcomes_of g) number sheet facts (length before)) before after a
      direct = sheet_made g known_facts number sheet facts (completed_after g (table_of facts)) before few e m u

      known : (leb Nodes left ≡ true) × (nodes ≡ Nodes)
      known = within_true (leb Nodes left) nodes Nodes (counted e s)

      as_direct : evaluate_within (outcomes_of g) left number sheet facts (length before) ≡ calls.evaluate (outcomes_of g) number sheet facts (length before)
      as_direct = within (outcomes_of g) number sheet facts (length before) left (leb-true Nodes left known.0)

      pub request_written : (words : ℕ) → a ≡ Ok words → Replies (decide_by (outcomes_of g) (some (handed number sheet)) facts left (length before)) before after (Ok (Some (took words nodes)))
      request_written words k =
          subst (λ m. Replies (reply_of m Nodes) before after (Ok (Some (took words nodes)))) (sym as_direct)
          (subst (λ n. Replies (reply_of (calls.evaluate (outcomes_of g) number sheet facts (length before)) Nodes) before after (Ok (Some (took words n)))) (sym known.1)
          (written (calls.evaluate (outcomes_of g) number sheet facts (length before)) Nodes words a k direct))

      pub request_unwritten : (c : Refusal) → a ≡ Err c → Replies (decide_by (outcomes_of g) (some (handed number sheet)) facts left (length before)) before after (Err c)
      request_unwritten c k =
          subst (λ m. Replies (reply_of m Nodes) before after (Err c)) (sym as_direct)
          (unwritten (calls.evaluate (outcomes_of g) number sheet facts (length before)) Nodes c a k direct)
