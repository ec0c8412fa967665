-- The answers of a call that reads a record. Assumes nothing.
use mathlib.Core.Path.{◌≡◌, refl, sym, ◌∙◌, ap, subst}
use mathlib.Core.Bool.{Bool, true, false, cond, ◌&&◌, and-true}
use mathlib.Core.Option.{Option}
use mathlib.Core.List.{List, []}
use Prim.Native.Nat.{ℕ, ◌+◌, ◌^◌, ◌≤◌, ◌<◌}
use native.Mathlib.Omega.{arith}
use borrow.Author.Tests.{le-leb, eqb-true}
use lib.Dec.{leb}
use lib.ListN.{length, drop}
use lib.Seq.{drop-drop}
use Rattle.std.specs.Prelude.{Err}
use Rattle.model.specs.Facts.{Table, TableKind, table_fault}
use Rattle.model.specs.Outcome.{product_sets}
use Rattle.model.specs.Decision.{Decision, permits, denies}
use Rattle.model.specs.Policy.{Policy}
use Rattle.model.specs.Partial.{ReducedPolicy, resolved, pending}
use Rattle.model.specs.Consulted.{Consulted, once, any_contradicted}
use Rattle.model.specs.Record.{Record, tree}
use Rattle.model.specs.Writing.{sheet_bits, numbered, most_listed, most_held, short_d, short}
use Rattle.model.specs.Reading.{Parsed, refuse, got, record_words, record_length, sheet_number}
use Rattle.model.specs.Calls as model
use Rattle.model.specs.Calls.{has_number}
use Rattle.model.specs.Levels.{OutcomeTable, outcome_count}
use Rattle.model.specs.Products.{Outcome, encode, encode_r, lead_kind, read_policy, read_record, fits, write, policy_at}
use Rattle.laws.specs.Size.{pairs}
use Rattle.laws.specs.Form.{Countable, FormD}
use Rattle.laws.proofs.Lengths.{length_numbered}
use Rattle.laws.specs.Products.{InRange}
use Rattle.laws.proofs.ProductLaws.{written_products}
use Rattle.laws.proofs.ReadForm.{ok_record}
use Rattle.laws.proofs.Canon.{same_record}
use Rattle.laws.proofs.Deeper.{follows_got}
use Rattle.laws.proofs.Wider.{record_among}
use Rattle.laws.proofs.FieldLaws.{held_at}
use Rattle.policy_model.specs.Answers.{Lead, lead_of}
use Rattle.refusal.specs.declared.Refusal.{Refusal}
use Rattle.refusal.specs.declared.Refusal.TheVariants.{Contradiction}
use Rattle.refusal.specs.Numbers.{number_of}
use Rattle.policy_model.proofs.Records.{record_parts, lead_is_lem}
use Rattle.answer.specs.Answers.{Answer, Answered, Makes, Numbered, copied}
use Rattle.contradiction.specs.Contradicted.{Contradicted}
use Rattle.calls.specs.Judged.{read_record_by, judged_record}
use Rattle.calls.proofs.Judging.{judged_got, by_judged, few_words_lem}

-- A Resolved record that was read is written as it stands: its lists are short, and it has the length of a record.
short_decision : (d : Decision Outcome) → FormD InRange Countable d → short_d d ≡ true
short_decision (permits p) h = rw (le-leb (length p.facts) most_listed h.3.0, le-leb (length p.obligations) most_held h.1.0)
short_decision (denies n) h = le-leb (length n.facts) most_listed h.1.0

under_cond : (number : ℕ) (b : Bool) (ws : List ℕ) → model.under number (cond b (model.wrote ws) (model.refusal 11)) ≡ cond b (model.wrote (numbered number ws)) (model.refusal 11)
under_cond number true ws = refl
under_cond number false ws = refl

write_copied : (number : ℕ) (ws : List ℕ) (room : ℕ) (x : Record Outcome) → numbered number (encode_r x) ≡ ws → record_length ws ≡ true → short (tree x) ≡ true → model.under number (write room x) ≡ copied ws room
write_copied number ws room x same long few =
    let size : length (encode_r x) ≡ length ws = sym (length_numbered number (encode_r x)) ∙ ap length same in
    under_cond number (fits room x) (encode_r x)
    ∙ (λ i. cond ((leb (size i) room && (leb 1 (size i) && leb (size i) record_words)) && few i) (model.wrote (same i)) (model.refusal 11))
    ∙ ap (λ b. cond ((leb (length ws) room && b) && true) (model.wrote ws) (model.refusal 11)) long
    ∙ ap (λ b. cond b (model.wrote ws) (model.refusal 11)) (and-true (leb (length ws) room && true) ∙ and-true (leb (length ws) room))

came_back : (number : ℕ) (ws : List ℕ) (room : ℕ) (d : Decision Outcome) (l : Consulted) (vs : List ℕ) → record_length ws ≡ true → sheet_number ws ≡ number → read_record ws ≡ got (record { body = resolved d; log = l }) vs →
    model.under number (write room (record { body = resolved d; log = l })) ≡ copied ws room
came_back number ws room d l vs long right e =
    let x : Record Outcome = record { body = resolved d; log = l } in
    let ok = held_at (ok_record InRange product_sets.value written_products.sound ws) e in
    let same = same_record product_sets.number product_sets.value written_products.only ws x vs e in
    write_copied number ws room x (ap (λ n. numbered n (encode_r x)) (sym right) ∙ same) long (short_decision d ok.form)

-- A Pending record that was read has its tree after its entries.
tree_made : {made : Policy Outcome → Consulted → Record Outcome} {ws : List ℕ} {count at : ℕ} {before after : List ℕ} {r : Answer} → Makes made ws count at before after r → (t : Policy Outcome) (l : Consulted) (vs : List ℕ) →
    read_record ws ≡ got (record { body = pending t; log = l }) vs → count ≡ length l → at ≡ 1 + pairs l → Answered (write (length before) (made t (once l))) before after r
tree_made {ws = ws} {at = at} m t l vs q c p =
    let there : policy_at ws at 32 ≡ got t [] =
    ap (read_policy true 32) (ap (λ n. drop n ws) p ∙ sym (drop-drop (pairs l) 1 ws)) ∙ (held_at (record_parts ws) q).0.tree_read in
    let same = same_record product_sets.number product_sets.value written_products.only ws (record { body = pending t; log = l }) vs q in
    let ok = held_at (ok_record InRange product_sets.value written_products.sound ws) q in
    held_at (m.makes l (encode t) ok.entries c (omega (arith, ok.long)) (omega arith) (ap (drop 1) same) true) there

refused_by : (n : ℕ) (q : Parsed (Record Outcome)) → refuse n ≡ lead_of q → q ≡ refuse n
unfolding lead_of
refused_by n (refuse m) e = ap refuse (let h : m ≡ n = cc in h)
refused_by n (got x ws) e = cc

module _ (g : Option OutcomeTable) (kind : TableKind) (number : ℕ) (ws facts : List ℕ) where
  -- What is known of a record that was judged fine.
  read_record_lem : outcome_count g ≤ 65536 → (x : Record Outcome) (vs : List ℕ) → judged_record g kind number ws facts ≡ got x vs → (record_length ws ≡ true) × (sheet_number ws ≡ number) × (read_record ws ≡ got x vs)
  read_record_lem few x vs e =
      let read = judged_got (record_length ws) (table_fault kind facts) (has_number ws number) (read_record_by g ws) x vs e in
      (read.0, eqb-true (sheet_number ws) number read.1, follows_got (record_among (outcome_count g) ws few) read.2)

  pub record_few : outcome_count g ≤ 65536 → (l : Lead) → got l [] ≡ lead_of (judged_record g kind number ws facts) → length ws ≤ record_words
  record_few few l e = lead_is_lem (judged_record g kind number ws facts) l e (λ x vs e k c p. few_words_lem (length ws) record_words (read_record_lem few x vs e).0)

  pub record_number : outcome_count g ≤ 65536 → (l : Lead) → got l [] ≡ lead_of (judged_record g kind number ws facts) → number < 2 ^ sheet_bits
  record_number few l e = lead_is_lem (judged_record g kind number ws facts) l e (λ x vs e k c p. omega (arith, (read_record_lem few x vs e).1))

  -- What was found of the entries that stand in the words was found of the record that is read.
  pub entries_found : {P : Table} {count : ℕ} {found : Bool} → Contradicted P ws count found → (x : Record Outcome) (vs : List ℕ) → read_record ws ≡ got x vs → count ≡ length x.log → found ≡ any_contradicted P x.log
  entries_found h x vs q c =
      let same = same_record product_sets.number product_sets.value written_products.only ws x vs q in
      let ok = held_at (ok_record InRange product_sets.value written_products.sound ws) q in
      h.says x.log (encode (tree x)) ok.entries c (ap (drop 1) same)

  -- The call makes a record of what was read, under the number: a Resolved one comes back, and of a Pending one the tree is gone on with. Before that a
  -- narrowing is turned back for entries that the table is against; a completion is against none.
  module _ (from : ReducedPolicy Outcome → Consulted → Record Outcome) (against : Consulted → Bool) (out : List ℕ) where
    abbrev Made : Record Outcome → model.Answer
    Made x = model.under number (write (length out) (from x.body x.log))

    abbrev Wrote : Record Outcome → model.Answer
    Wrote x = model.unless_contradicted (against x.log) (Made x)

    abbrev Call : model.Answer
    Call = model.unless_long (record_length ws) (model.unless_fault (table_fault kind facts) (model.on_read (read_record_by g ws) (λ x. model.unless_other (has_number ws number) (Wrote x))))

    pub record_refused : (cause : Refusal) → refuse (number_of cause) ≡ lead_of (judged_record g kind number ws facts) → Answered Call out out (Err cause)
    record_refused cause e =
        by_judged (record_length ws) (table_fault kind facts) (has_number ws number) (read_record_by g ws) Wrote (refuse (number_of cause)) (refused_by (number_of cause) (judged_record g kind number ws facts) e)
        (record { answer_is = refl; output_is = refl })

    -- By the record that was read, and by what was found of its entries.
    module _ (few : outcome_count g ≤ 65536) {after : List ℕ} {r : Answer} (lead count at : ℕ) (found : Bool) (e : got (record { kind = lead; consulted = count; tree = at }) [] ≡ lead_of (judged_record g kind number ws facts))
        (entries : (x : Record Outcome) (vs : List ℕ) → read_record ws ≡ got x vs → count ≡ length x.log → found ≡ against x.log) where
      answered : ((body : ReducedPolicy Outcome) (l : Consulted) (vs : List ℕ) → record_length ws ≡ true → sheet_number ws ≡ number → read_record ws ≡ got (record { body = body; log = l }) vs →
          lead ≡ lead_kind body → count ≡ length l → at ≡ 1 + pairs l → Answered (model.unless_contradicted found (Made (record { body = body; log = l }))) out after r) → Answered Call out after r
      answered f =
          lead_is_lem (judged_record g kind number ws facts) (record { kind = lead; consulted = count; tree = at }) e (λ x vs e k c p.
          let read = read_record_lem few x vs e in
          by_judged (record_length ws) (table_fault kind facts) (has_number ws number) (read_record_by g ws) Wrote (got x vs) e
          (subst (λ b. Answered (model.unless_contradicted b (Made x)) out after r) (entries x vs read.2 c) (f x.body x.log vs read.0 read.1 read.2 k c p)))

    pub record_contradicted : outcome_count g ≤ 65536 → (lead count at : ℕ) → got (record { kind = lead; consulted = count; tree = at }) [] ≡ lead_of (judged_record g kind number ws facts) →
        ((x : Record Outcome) (vs : List ℕ) → read_record ws ≡ got x vs → count ≡ length x.log → true ≡ against x.log) → Answered Call out out (Err Contradiction)
    record_contradicted few lead count at e entries = answered few lead count at true e entries (λ body l vs long right q k c p. record { answer_is = refl; output_is = refl })

    module _ (back : (d : Decision Outcome) (l : Consulted) → from (resolved d) l ≡ record { body = resolved d; log = l }) where
      body_copied : {after : List ℕ} {r : Answer} → Answered (copied ws (length out)) out after r → (body : ReducedPolicy Outcome) (l : Consulted) (vs : List ℕ) → record_length ws ≡ true → sheet_number ws ≡ number →
          read_record ws ≡ got (record { body = body; log = l }) vs → 14 ≡ lead_kind body → Answered (Made (record { body = body; log = l })) out after r
      body_copied {after} {r} h (resolved d) l vs long right q k =
          subst (λ x. Answered x out after r) (sym (ap (λ x. model.under number (write (length out) x)) (back d l) ∙ came_back number ws (length out) d l vs long right q)) h
      body_copied h (pending t) l vs long right q k = absurd (omega arith)

      pub record_copied : outcome_count g ≤ 65536 → {after : List ℕ} {r : Answer} (lead count at : ℕ) → lead ≡ 14 → got (record { kind = lead; consulted = count; tree = at }) [] ≡ lead_of (judged_record g kind number ws facts) →
          ((x : Record Outcome) (vs : List ℕ) → read_record ws ≡ got x vs → count ≡ length x.log → false ≡ against x.log) → Answered (copied ws (length out)) out after r → Answered Call out after r
      record_copied few lead count at is e entries h = answered few lead count at false e entries (λ body l vs long right q k c p. body_copied h body l vs long right q (sym is ∙ k))

    module _ (made : Policy Outcome → Consulted → Record Outcome) (forth : (t : Policy Outcome) (l : Consulted) → from (pending t) l ≡ made t (once l)) where
      body_made : {written : List ℕ} {a : Answer} {count at : ℕ} → Makes made ws count at out written a → (body : ReducedPolicy Outcome) (l : Consulted) (vs : List ℕ) →
          read_record ws ≡ got (record { body = body; log = l }) vs → 15 ≡ lead_kind body → count ≡ length l → at ≡ 1 + pairs l →
          Answered (write (length out) (from body l)) out written a
      body_made m (resolved d) l vs q k c p = absurd (omega arith)
      body_made {written} {a} m (pending t) l vs q k c p = subst (λ x. Answered (write (length out) x) out written a) (sym (forth t l)) (tree_made m t l vs q c p)

      pub record_made : outcome_count g ≤ 65536 → {written after : List ℕ} {a r : Answer} (lead count at : ℕ) → lead ≡ 15 → got (record { kind = lead; consulted = count; tree = at }) [] ≡ lead_of (judged_record g kind number ws facts) →
          ((x : Record Outcome) (vs : List ℕ) → read_record ws ≡ got x vs → count ≡ length x.log → false ≡ against x.log) → Makes made ws count at out written a →
          Numbered number written after a r → Answered Call out after r
      record_made few lead count at is e entries m u = answered few lead count at false e entries (λ body l vs long right q k c p. u.numbers (write (length out) (from body l)) out (body_made m body l vs q (sym is ∙ k) c p))
