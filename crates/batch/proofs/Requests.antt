-- A request: its table, and the sheet that decides it. Assumes nothing.
use mathlib.Core.Path.{◌≡◌, refl, sym, ap, subst}
use mathlib.Core.Bool.{Bool, true, false, cond}
use mathlib.Core.Option.{Option, none, some}
use mathlib.Core.List.{List, [], ◌∷◌, ◌++◌}
use Prim.Native.Nat.{ℕ, ◌%◌, ◌^◌, ◌≤◌, ◌<◌}
use native.Mathlib.Omega.{arith}
use borrow.Author.Tests.{lt-leb}
use lib.Dec.{leb}
use lib.ListN.{length, take, drop, get_or, length-append, length-take, length-drop}
use lib.Seq.{length-take-le}
use Rattle.model.specs.Facts.{table_of, table_bytes, known_facts, table_fault, first_fault, table_fields}
use Rattle.model.specs.Outcome.{Outcomes}
use Rattle.model.specs.Reading.{Parsed, sheet_length, read_sheet}
use Rattle.model.specs.Calls as calls
use Rattle.model.specs.Calls.{is_sheet_number}
use Rattle.model.specs.Levels.{OutcomeTable}
use Rattle.policy_model.specs.Answers.{refusal}
use Rattle.calls.specs.Judged.{read_sheet_by, judged, of_number, judged_sheet}
use Rattle.model.specs.Record.{evaluated}
use Rattle.model.specs.Visits.{visits}
use Rattle.model.specs.Batch as model
use Rattle.model.specs.Batch.{length_bits, table_words, request_words, bytes_of, table_in, request_of, reply_of, unless_over, visited, decide_by}
use Rattle.std.specs.Prelude.{Option as Maybe, Result, Err}
use Rattle.refusal.specs.declared.Refusal.{Refusal}
use Rattle.refusal.specs.declared.Refusal.TheVariants as cause
use Rattle.batch.specs.declared.Decided.{Decided}
use Rattle.batch.specs.Answers.{handed, Replies}
use Rattle.batch.proofs.Bytes.{length_bytes}

-- ---- a length beyond the table's bytes
long_table : (ws : List ℕ) (n : ℕ) → length ws ≡ 64 → 256 < n → table_fault known_facts (table_in n ws) ≡ some 2
long_table ws n h k =
    let bytes = bytes_of ws ++ 0 ∷ [] in
    let all : length bytes ≡ 257 = omega (arith, length-append (bytes_of ws) (0 ∷ []), length_bytes ws) in
    let over : 256 < length (table_in n ws) = simp (length-take) (omega arith) in
    ap (λ b. cond b (first_fault known_facts (table_fields (table_in n ws))) (some 2)) (lt-leb (length (table_in n ws)) table_bytes over)

module _ (L : Outcomes) (number : ℕ) (sheet facts : List ℕ) (left : ℕ) (before : List ℕ) where
  abbrev Turned : Bool → Option ℕ → model.Reply
  Turned long fault =
      reply_of
      (calls.unless_long long (calls.unless_fault fault
      (calls.on_read (read_sheet L.value sheet) (λ t. unless_over (leb (visits L (table_of facts) t) left)
      (calls.unless_other (calls.is_sheet_number number) (calls.under number (calls.write L (length before) (evaluated L (table_of facts) t))))))))
      (visited L (read_sheet L.value sheet) (table_of facts))

  pub refused_table : sheet_length sheet ≡ true → table_fault known_facts facts ≡ some 2 → Replies (decide_by L (some (handed number sheet)) facts left (length before)) before before (Err cause.TableLength)
  refused_table e f =
      subst (λ b. Replies (Turned b (table_fault known_facts facts)) before before (Err cause.TableLength)) (sym e)
      (subst (λ o. Replies (Turned true o) before before (Err cause.TableLength)) (sym f) (record { reply_is = refl; output_is = refl }))

  pub same_table : {facts' : List ℕ} → facts ≡ facts' → {after : List ℕ} {r : Result (Maybe Decided) Refusal} → Replies (decide_by L (some (handed number sheet)) facts left (length before)) before after r →
      Replies (decide_by L (some (handed number sheet)) facts' left (length before)) before after r
  same_table e {after} {r} h = subst (λ f. Replies (decide_by L (some (handed number sheet)) f left (length before)) before after r) e h

-- ---- what a sheet's length says
length_none : (long : Bool) → ◌≡◌ {A = Option ℕ} none (cond long none (some 1)) → long ≡ true
length_none true e = refl
length_none false e = let z : ◌≡◌ {A = ℕ} 0 1 = cc in absurd (omega arith)

pub good_length : (sheet : List ℕ) → ◌≡◌ {A = Option ℕ} none (cond (sheet_length sheet) none (some 1)) → sheet_length sheet ≡ true
good_length sheet = length_none (sheet_length sheet)

by_length : {A : Type 0} (long : Bool) (fault : Option ℕ) (q : Parsed A) (n : ℕ) → some n ≡ cond long none (some 1) → some n ≡ refusal (judged long fault q)
by_length true fault q n e = let z : ◌≡◌ {A = ℕ} 0 1 = cc in absurd (omega arith)
by_length false fault q n e = e

pub bad_length : (g : Option OutcomeTable) (number : ℕ) (sheet facts : List ℕ) (n : ℕ) → some n ≡ cond (sheet_length sheet) none (some 1) → some n ≡ refusal (judged_sheet g known_facts number sheet facts)
bad_length g number sheet facts n = by_length (sheet_length sheet) (table_fault known_facts facts) (of_number (is_sheet_number number) (read_sheet_by g sheet)) n

pub long_request : (request : List ℕ) → request_words ≤ length request → 256 < get_or request 0 0 % 2 ^ length_bits → table_fault known_facts (request_of request).facts ≡ some 2
long_request request h k =
    let ws = take table_words (drop 2 request) in
    let few : length ws ≡ 64 = length-take-le table_words (drop 2 request) (omega (arith, length-drop 2 request)) in
    long_table ws (get_or request 0 0 % 2 ^ length_bits) few k
