-- What is listed of a sheet and a table is what the call `evaluate` answers. Assumes nothing.
use mathlib.Core.Path.{◌≡◌, refl, sym, ◌∙◌, ap, subst}
use mathlib.Core.Bool.{Bool, true, false}
use mathlib.Core.Option.{Option, none, some}
use mathlib.Core.List.{List, [], ◌∷◌}
use Prim.Native.Nat.{ℕ, ◌+◌, ◌*◌, ◌≤◌}
use native.Mathlib.Omega.{arith}
use borrow.Author.Tests.{le-leb}
use lib.ListN.{length, take, drop, length-append}
use lib.Seq.{take_at}
use Rattle.model.specs.Facts.{table_of, known_facts, table_fault}
use Rattle.model.specs.Outcome.{product_sets}
use Rattle.model.specs.Decision.{Decision}
use Rattle.model.specs.Policy.{Policy}
use Rattle.model.specs.Partial.{resolved}
use Rattle.model.specs.Evaluate.{eval_policy}
use Rattle.model.specs.Consulted.{Consulted, read}
use Rattle.model.specs.Record.{evaluated}
use Rattle.model.specs.Writing.{numbered}
use Rattle.model.specs.Reading.{Parsed, refuse, got, unless, sheet_length, whole}
use Rattle.model.specs.Listing.{refused_text, listing, decided, checked}
use Rattle.model.specs.Calls as model
use Rattle.model.specs.Products.{Outcome, evaluate_by, encode_r, read_sheet, read_record, read_policy, write}
use Rattle.model.specs.Levels.{outcome_count, meet_of, join_of}
use Rattle.laws.proofs.LevelLaws.{none_is}
use Rattle.staging.proofs.Demand3.{evaluate_of, evaluate_back_of}
use Rattle.std.specs.Prelude.{Ok, Err}
use Rattle.refusal.specs.declared.Refusal.{Refusal}
use Rattle.refusal.specs.Numbers.{number_of, by_number}
use Rattle.answer.specs.Answers.{Answer, Answered, answer_of}
use Rattle.listing.specs.Texts.{Wrote, ListedAs}
use Rattle.listing.specs.WriterLaws.{wrote_as}
use Rattle.listing.specs.RecordTextLaws.{listed_resolved}

-- A sheet that reads leaves no word.
sheet_whole : (sheet : List ℕ) (t : Policy Outcome) (vs : List ℕ) → read_sheet sheet ≡ got t vs → vs ≡ []
sheet_whole sheet t vs = by_length (sheet_length sheet) (read_policy false 32 sheet)
  where
    by_length : (b : Bool) (q : Parsed (Policy Outcome)) → unless b 1 (whole q) ≡ got t vs → vs ≡ []
    by_length false q e = cc
    by_length true (refuse n) e = cc
    by_length true (got u []) e = cc
    by_length true (got u (w ∷ ws)) e = cc

module _ (sheet facts : List ℕ) (room : ℕ) where
  abbrev pub Text : List ℕ
  Text = checked (table_fault known_facts facts) sheet facts

  abbrev pub Call : model.Answer
  Call = model.evaluate product_sets 0 sheet facts room

  -- Of sets of products: no outcome table is given.
  sets_wrote : (t : Policy Outcome) → read_sheet sheet ≡ got t [] → table_fault known_facts facts ≡ none → 3 * length sheet + 513 ≤ room → Call ≡ model.wrote (numbered 0 (encode_r (evaluated product_sets (table_of facts) t)))
  unfolding outcome_count meet_of join_of
  sets_wrote t reads f enough = evaluate_of none refl 0 sheet t reads facts room refl f enough

  sets_back : (t : Policy Outcome) → read_sheet sheet ≡ got t [] → (ws : List ℕ) → Call ≡ model.wrote ws → read_record ws ≡ got (evaluated product_sets (table_of facts) t) []
  unfolding outcome_count meet_of join_of
  sets_back t reads ws wrote = evaluate_back_of none refl 0 sheet t reads facts room ws wrote

  -- The call is refused, and so is what is listed; or the record that it writes is read back, and listed.
  pub data Cases : Type 0 where
    refuses : (n : ℕ) → Call ≡ model.refusal n → Text ≡ refused_text n → Cases
    writes : (d : Decision Outcome) (l : Consulted) (ws : List ℕ) → Call ≡ model.wrote ws → read_record ws ≡ got (record { body = resolved d; log = l }) [] → Text ≡ listing d l → Cases

  module _ (some_words : 1 ≤ length sheet) (few : length sheet ≤ 4096) (enough : 3 * length sheet + 513 ≤ room) where
    abbrev Answers : Policy Outcome → model.Answer
    Answers t = model.under 0 (write room (evaluated product_sets (table_of facts) t))

    past_length : Call ≡ model.unless_fault (table_fault known_facts facts) (model.on_read (read_sheet sheet) Answers)
    past_length =
        let long : sheet_length sheet ≡ true = rw (le-leb 1 (length sheet) some_words, le-leb (length sheet) 4096 few) in
        ap (λ b. model.unless_long b (model.unless_fault (table_fault known_facts facts) (model.on_read (read_sheet sheet) Answers))) long

    by_sheet : (q : Parsed (Policy Outcome)) → read_sheet sheet ≡ q → table_fault known_facts facts ≡ none → Cases
    by_sheet (refuse n) e f =
        refuses n
        (past_length ∙ ap (λ o. model.unless_fault o (model.on_read (read_sheet sheet) Answers)) f ∙ ap (λ q. model.on_read q Answers) e)
        (ap (λ o. checked o sheet facts) f ∙ ap (λ q. decided q facts) e)
    by_sheet (got t vs) e f =
        let reads : read_sheet sheet ≡ got t [] = e ∙ ap (got t) (sheet_whole sheet t vs e) in
        let ws = numbered 0 (encode_r (evaluated product_sets (table_of facts) t)) in
        let wrote = sets_wrote t reads f enough in
        writes (eval_policy product_sets (table_of facts) t) (read product_sets (table_of facts) t []) ws wrote (sets_back t reads ws wrote)
        (ap (λ o. checked o sheet facts) f ∙ ap (λ q. decided q facts) e)

    by_table_lem : (o : Option ℕ) → table_fault known_facts facts ≡ o → Cases
    by_table_lem none e = by_sheet (read_sheet sheet) refl e
    by_table_lem (some n) e =
        refuses n
        (past_length ∙ ap (λ o. model.unless_fault o (model.on_read (read_sheet sheet) Answers)) e)
        (ap (λ o. checked o sheet facts) e)

    pub cases : Cases
    cases = by_table_lem (table_fault known_facts facts) refl

  -- ---- from the answer to what is listed of it
  module _ {before after : List ℕ} {r : Answer} (given : Answered (evaluate_by none 0 sheet facts room) before after r) where
    a : Answered Call before after r
    a = subst (λ L. Answered (model.evaluate L 0 sheet facts room) before after r) none_is given

    -- The answer, its refusal a number.
    told : {m : model.Answer} → Call ≡ m → by_number r ≡ answer_of m
    told e = a.answer_is ∙ ap answer_of e

    pub list_refused : {cause : Refusal} {out out' : List ℕ} {k : ℕ} → r ≡ Err cause → Cases → Wrote (refused_text (number_of cause)) out out' k → Wrote Text out out' k
    list_refused {cause} q (refuses m e t) w =
        let both : Err (number_of cause) ≡ Err m = sym (ap by_number q) ∙ told e in
        let same : number_of cause ≡ m = cc in
        wrote_as (ap refused_text same ∙ sym t) w
    list_refused {cause} q (writes d l ws e y t) w =
        let both : Err (number_of cause) ≡ Ok (length ws) = sym (ap by_number q) ∙ told e in
        let z : ◌≡◌ {A = ℕ} 0 1 = cc in
        absurd (omega arith)

    module _ {n : ℕ} (q : r ≡ Ok n) where
      pub list_written : {out out' : List ℕ} {k : ℕ} → Cases → ListedAs (λ bytes. Wrote bytes out out' k) (read_record (take n after)) → Wrote Text out out' k
      list_written (refuses m e t) w =
          let both : Ok n ≡ Err m = sym (ap by_number q) ∙ told e in
          let z : ◌≡◌ {A = ℕ} 0 1 = cc in
          absurd (omega arith)
      list_written {out} {out'} {k} (writes d l ws e y t) w =
          let both : Ok n ≡ Ok (length ws) = sym (ap by_number q) ∙ told e in
          let same : n ≡ length ws = cc in
          let front : take n after ≡ ws = ap (take n) (a.output_is ∙ ap (λ x. model.afterwards x before) e) ∙ take_at ws (drop (length ws) before) n (sym same) in
          wrote_as (sym t) (listed_resolved (take n after) out out' k d l [] (ap read_record front ∙ y) w)

      -- The record's words are all there.
      pub words_within : Cases → n ≤ length after
      words_within (refuses m e t) =
          let both : Ok n ≡ Err m = sym (ap by_number q) ∙ told e in
          let z : ◌≡◌ {A = ℕ} 0 1 = cc in
          absurd (omega arith)
      words_within (writes d l ws e y t) =
          let both : Ok n ≡ Ok (length ws) = sym (ap by_number q) ∙ told e in
          let same : n ≡ length ws = cc in
          omega (arith, ap length (a.output_is ∙ ap (λ x. model.afterwards x before) e), length-append ws (drop (length ws) before))
