-- Demand 3, proved: for every list of narrowings under one number, each by either order, over words and bytes, for any outcomes that are read as they are written.
use Rattle.std.specs.Prelude.{◌≡◌, Bool, cond, ◌&&◌, ℕ, ◌+◌, ◌*◌, ◌≤◌, ◌<◌, leb, length}
use Rattle.std.proofs.Math.Path.{refl, sym, ap, subst}
use Rattle.std.proofs.Common.{◌∙◌, arith, le-leb, ltb-true, eq-eqb}
use Rattle.std.proofs.Math.Bool.{true, false}
use Rattle.std.proofs.Math.Option.{Option, none, some}
use Rattle.std.proofs.lemmas.Bool.{and_from}
use mathlib.Core.List.{List, [], ◌∷◌}
use Rattle.model.specs.Facts.{unknown, Table, table_of, partial_facts, known_facts, table_fault}
use Rattle.model.specs.Outcome.{Outcomes}
use Rattle.model.specs.Levels.{OutcomeTable, outcomes_of, acceptable, by_table}
use Rattle.model.specs.Decision.{Decision, permits, denies, products}
use Rattle.model.specs.Policy.{Policy, permit, deny, grant, all, any, or_else, stored, Policies, pnil, pcons}
use Rattle.model.specs.Evaluate.{eval_policy}
use Rattle.model.specs.Partial.{Order}
use Rattle.model.specs.Consulted.{Consulted, any_contradicted}
use Rattle.model.specs.Record.{Record, tree, evaluated, reduced, narrowed, completed}
use Rattle.model.specs.Writing.{encode_r, numbered, most_listed, most_held, short_d, short, shorts}
use Rattle.model.specs.Reading.{Parsed, refuse, got, unless, levels, sheet_length, record_length, sheet_number, whole, read_policy, read_sheet, read_record}
use Rattle.model.specs.Calls.{Answer, refusal, wrote, number_of, unless_long, unless_fault, on_read, unless_other, has_number, is_sheet_number, unless_contradicted, under, fits, write, evaluate, partial_evaluate, narrow_residual, complete_residual}
use Rattle.laws.specs.Lists.{Every}
use Rattle.laws.proofs.FieldLaws.{Holds}
use Rattle.laws.specs.Each.{Each, Agrees}
use Rattle.laws.proofs.NameLaws.{each_of, of_each}
use Rattle.laws.specs.Numbers.{Faulty}
use Rattle.laws.proofs.NumberLaws.{table_faulty}
use Rattle.laws.specs.Form.{Few, FewRepeats, FormD, Form, Forms, depth}
use Rattle.laws.proofs.FormLaws.{few_countable, countable_form}
use Rattle.laws.proofs.Lengths.{length_encode_r, length_numbered}
use Rattle.laws.proofs.ReadBack.{back_r, back_number}
use Rattle.laws.proofs.ReadForm.{Named, OkSheet, ok_sheet}
use Rattle.laws.specs.Products.{Written}
use Rattle.laws.specs.Lattice.{InTable}
use Rattle.laws.proofs.LevelLaws.{lawful_of, written_of, table_wrote}
use Rattle.staging.proofs.SizeLaws.{most}
use Rattle.staging.proofs.ConsultedLaws.{consulted_facts, log_length}
use Rattle.staging.specs.Chain.{Step, AllOf, run}
use Rattle.staging.proofs.Bound.{Fit, fit_narrow_body, fit_complete_body, fit_run, fit_reduce, fit_evaluate, roomy}
use Rattle.staging.proofs.Stages.{TreeStaged, staged, all_map}
use Rattle.staging.proofs.Contradictions.{Faithful, faithful_reduced, faithful_run, no_contradiction}
use Rattle.staging.specs.Statement.{Call, handed_on, step_of, if_wrote, AgreesOn, Settled, answer_to, after, accepted, Roomy, Staged}

-- ---- a tree of good form holds no list over what its count can say
module _ {O : Type 0} (G : O → Type 0) where
  short_d_lem : (d : Decision O) → FormD G FewRepeats d → short_d d ≡ true
  short_d_lem (permits p) h =
      and_from (leb (length p.facts) most_listed) (leb (length p.obligations) most_held) (le-leb (length p.facts) most_listed h.3.0) (le-leb (length p.obligations) most_held (few_countable p.obligations h.1))
  short_d_lem (denies d) h = le-leb (length d.facts) most_listed h.1.0

  mutual
    short_t : (t : Policy O) → Form G t → short t ≡ true
    short_t (permit o) h = refl
    short_t deny h = refl
    short_t (grant g c) h = refl
    short_t (all ts) h = short_ts ts h.1
    short_t (any ts) h = short_ts ts h.1
    short_t (or_else a b) h = and_from (short a) (short b) (short_t a h.0) (short_t b h.1)
    short_t (stored d) h = short_d_lem d h

    short_ts : (ts : Policies O) → Forms G ts → shorts ts ≡ true
    short_ts pnil h = refl
    short_ts (pcons t ts) h = and_from (short t) (shorts ts) (short_t t h.0) (short_ts ts h.1)

facts_of_lem : (l : Consulted) → Every (λ f. f < 1024) (consulted_facts l) → Named l
facts_of_lem [] h = tt
facts_of_lem (e ∷ l) h = (h.0, facts_of_lem l h.1)

-- ---- what a call's answer tells
unless_got : {A : Type 0} (b : Bool) (q : Parsed A) (a : A) (vs : List ℕ) → unless b 1 q ≡ got a vs → b ≡ true
unless_got true q a vs e = refl
unless_got false q a vs e = cc

wrote_what : (o : Option ℕ) (b : Bool) (u v : List ℕ) → unless_fault o (cond b (wrote u) (refusal 11)) ≡ wrote v → u ≡ v
wrote_what none true u v e = cc
wrote_what none false u v e = cc
wrote_what (some n) b u v e = cc

-- A fault of the table, or want of room, is not answered by 17.
not_17 : (o : Option ℕ) → Faulty o → (b : Bool) (ws : List ℕ) → unless_fault o (cond b (wrote ws) (refusal 11)) ≡ refusal 17 → ⊥
not_17 none h true ws e = let z : ◌≡◌ {A = ℕ} 0 17 = ap number_of e in omega arith
not_17 none h false ws e = let z : ◌≡◌ {A = ℕ} 11 17 = ap number_of e in omega arith
not_17 (some n) h b ws e = let z : n ≡ 17 = ap number_of e in omega (arith, h.1)

-- What a reduction or an evaluation wrote has a number that a lead can say.
wrote_numbered : {A : Type 0} (long : Bool) (o : Option ℕ) (q : Parsed A) (b : Bool) (k : A → Answer) (v : List ℕ)
    → unless_long long (unless_fault o (on_read q (λ t. unless_other b (k t)))) ≡ wrote v → b ≡ true
wrote_numbered long o q true k v e = refl
wrote_numbered false o q false k v e = cc
wrote_numbered true (some n) q false k v e = cc
wrote_numbered true none (refuse n) false k v e = cc
wrote_numbered true none (got a ws) false k v e = cc

module _ (L : Outcomes) (G : L.O → Type 0) (codec : Written L G) where
  -- A call on words that are read: the table's fault, or what is written.
  module _ {A : Type 0} (long : Bool) (fault : Option ℕ) (k : A → Answer) where
    called : (q : Parsed A) (a : A) (vs : List ℕ) → long ≡ true → q ≡ got a vs → unless_long long (unless_fault fault (on_read q k)) ≡ unless_fault fault (k a)
    called q a vs h e = ap (λ b. unless_long b (unless_fault fault (on_read q k))) h ∙ ap (λ p. unless_fault fault (on_read p k)) e

  -- ---- the sheet
  module _ (sheet : List ℕ) (t : Policy L.O) (reads : read_sheet L.value sheet ≡ got t []) where
    good : OkSheet G L.value codec.sound sheet t []
    good = (subst (λ q. Holds (OkSheet G L.value codec.sound sheet) q) reads (ok_sheet G L.value codec.sound sheet)).it

    long_enough : sheet_length sheet ≡ true
    long_enough = unless_got (sheet_length sheet) (whole (read_policy L.value false levels sheet)) t [] reads

    -- ---- records that are within the bound of the sheet
    abbrev Within : Record L.O → Type 0
    Within r = Fit G (most t) (depth t) r

    within_words : (r : Record L.O) → Within r → length (encode_r L.number r) ≤ 3 * length sheet + 513
    within_words r h = omega (arith, length_encode_r L.number r, (roomy L G codec.meets codec.joins t r good.1 h).room, good.2)

    few : (r : Record L.O) → Within r → record_length (encode_r L.number r) ≡ true
    few r h =
        let n = within_words r h in
        let m = good.4 in
        let e = good.2 in
        and_from (leb 1 (length (encode_r L.number r))) (leb (length (encode_r L.number r)) 16384) (le-leb 1 (length (encode_r L.number r)) (omega (arith, length_encode_r L.number r)))
        (le-leb (length (encode_r L.number r)) 16384 (omega arith))

    fits_within : (r : Record L.O) (room : ℕ) → Within r → 3 * length sheet + 513 ≤ room → fits L room r ≡ true
    fits_within r room h k =
        and_from (leb (length (encode_r L.number r)) room && record_length (encode_r L.number r)) (short (tree r))
        (and_from (leb (length (encode_r L.number r)) room) (record_length (encode_r L.number r)) (le-leb (length (encode_r L.number r)) room (omega (arith, within_words r h))) (few r h))
        (short_t G (tree r) h.form)

    within_narrowed : (o : Order) (P : Table) (r : Record L.O) → Within r → Within (narrowed L o P r)
    within_narrowed o P r h = fit_narrow_body L G codec.meets codec.joins (most t) (depth t) o P r.body r.log h

    -- Request 3: neither a call on the sheet nor a chain of calls that the reduction begins comes to a list over what its count can say.
    pub sheet_countable : (K : Table) → short (tree (evaluated L K t)) ≡ true
    sheet_countable K = short_t G (tree (evaluated L K t)) (fit_evaluate L G codec.meets codec.joins K t good.0).form

    pub chain_countable : (o : Order) (P : Table) (ss : List Step) (K : Table) → (short (tree (run L (reduced L o P t) ss)) ≡ true) × (short (tree (completed L K (run L (reduced L o P t) ss))) ≡ true)
    chain_countable o P ss K =
        let r = run L (reduced L o P t) ss in
        let h : Within r = fit_run L G codec.meets codec.joins (most t) (depth t) (reduced L o P t) ss (fit_reduce L G codec.meets codec.joins o P t good.0) in
        (short_t G (tree r) h.form, short_t G (tree (completed L K r)) (fit_complete_body L G codec.meets codec.joins (most t) (depth t) K r.body r.log h).form)

    -- ---- under a number that a lead can say: a record's words, and what is answered of them
    module _ (number : ℕ) (said : is_sheet_number number ≡ true) where
      small : number < 65536
      small = ltb-true number 65536 said

      abbrev words_of : Record L.O → List ℕ
      words_of r = numbered number (encode_r L.number r)

      abbrev put : ℕ → Record L.O → Answer
      put room r = cond (fits L room r) (wrote (words_of r)) (refusal 11)

      put_is : (room : ℕ) (r : Record L.O) → under number (write L room r) ≡ put room r
      put_is room r = by (fits L room r)
        where
          by : (c : Bool) → under number (cond c (wrote (encode_r L.number r)) (refusal 11)) ≡ cond c (wrote (words_of r)) (refusal 11)
          by true = refl
          by false = refl

      write_is : (room : ℕ) (r : Record L.O) (o : Option ℕ) → o ≡ none → fits L room r ≡ true → unless_fault o (put room r) ≡ wrote (words_of r)
      write_is room r o p e = ap (λ x. unless_fault x (put room r)) p ∙ ap (λ b. cond b (wrote (words_of r)) (refusal 11)) e

      few_words_lem : (r : Record L.O) → Within r → record_length (words_of r) ≡ true
      few_words_lem r h = ap (λ n. leb 1 n && leb n 16384) (length_numbered number (encode_r L.number r)) ∙ few r h

      number_back : (r : Record L.O) → sheet_number (words_of r) ≡ number
      number_back r = back_number G Few L.number L.value codec.small codec.again number small r

      back : (r : Record L.O) → Within r → read_record L.value (words_of r) ≡ got r []
      back r h =
          let y = roomy L G codec.meets codec.joins t r good.1 h in
          let n = within_words r h in
          let m = good.4 in
          let e = good.2 in
          back_r G Few L.number L.value codec.small codec.again number small r (omega (arith, log_length r.log h.consulted)) (facts_of_lem r.log h.consulted.1) (countable_form G (tree r) h.form) y.nested (omega arith)

      -- ---- calls on such a record, and on the sheet
      called_on_record : (fault : Option ℕ) (k : Record L.O → Answer) (r : Record L.O) → Within r
          → unless_long (record_length (words_of r)) (unless_fault fault (on_read (read_record L.value (words_of r)) (λ x. unless_other (has_number (words_of r) number) (k x)))) ≡ unless_fault fault (k r)
      called_on_record fault k r h =
          called (record_length (words_of r)) fault (λ x. unless_other (has_number (words_of r) number) (k x)) (read_record L.value (words_of r)) r [] (few_words_lem r h) (back r h)
          ∙ ap (λ b. unless_fault fault (unless_other b (k r))) (eq-eqb (sheet_number (words_of r)) number (number_back r))

      called_on_sheet : (fault : Option ℕ) (room : ℕ) (f : Policy L.O → Record L.O)
          → unless_long (sheet_length sheet) (unless_fault fault (on_read (read_sheet L.value sheet) (λ x. unless_other (is_sheet_number number) (under number (write L room (f x)))))) ≡ unless_fault fault (put room (f t))
      called_on_sheet fault room f =
          called (sheet_length sheet) fault (λ x. unless_other (is_sheet_number number) (under number (write L room (f x)))) (read_sheet L.value sheet) t [] long_enough reads
          ∙ ap (λ b. unless_fault fault (unless_other b (under number (write L room (f t))))) said
          ∙ ap (unless_fault fault) (put_is room (f t))

      -- What a narrowing answers to a table without fault.
      abbrev narrowed_to : Order → ℕ → List ℕ → Record L.O → Answer
      narrowed_to o room bs r = unless_contradicted (any_contradicted (table_of bs) r.log) (put room (narrowed L o (table_of bs) r))

      narrow_is : (o : Order) (room : ℕ) (bs : List ℕ) (r : Record L.O) → Within r → narrow_residual L o number (words_of r) bs room ≡ unless_fault (table_fault partial_facts bs) (narrowed_to o room bs r)
      narrow_is o room bs r h =
          called_on_record (table_fault partial_facts bs) (λ x. unless_contradicted (any_contradicted (table_of bs) x.log) (under number (write L room (narrowed L o (table_of bs) x)))) r h
          ∙ ap (λ a. unless_fault (table_fault partial_facts bs) (unless_contradicted (any_contradicted (table_of bs) r.log) a)) (put_is room (narrowed L o (table_of bs) r))

      complete_is : (room : ℕ) (bs : List ℕ) (r : Record L.O) → Within r
          → complete_residual L number (words_of r) bs room ≡ unless_fault (table_fault known_facts bs) (put room (completed L (table_of bs) r))
      complete_is room bs r h =
          called_on_record (table_fault known_facts bs) (λ x. under number (write L room (completed L (table_of bs) x))) r h
          ∙ ap (unless_fault (table_fault known_facts bs)) (put_is room (completed L (table_of bs) r))

      reduce_is : (o : Order) (room : ℕ) (bs : List ℕ) → partial_evaluate L o number sheet bs room ≡ unless_fault (table_fault partial_facts bs) (put room (reduced L o (table_of bs) t))
      reduce_is o room bs = called_on_sheet (table_fault partial_facts bs) room (reduced L o (table_of bs))

      evaluate_is : (room : ℕ) (bs : List ℕ) → evaluate L number sheet bs room ≡ unless_fault (table_fault known_facts bs) (put room (evaluated L (table_of bs) t))
      evaluate_is room bs = called_on_sheet (table_fault known_facts bs) room (evaluated L (table_of bs))

      -- Direct evaluation: what it writes, that it has room enough, and that its record reads back.
      pub evaluate_wrote : (known : List ℕ) (room : ℕ) (ws : List ℕ) → evaluate L number sheet known room ≡ wrote ws → ws ≡ words_of (evaluated L (table_of known) t)
      evaluate_wrote known room ws e =
          let r = evaluated L (table_of known) t in
          sym (wrote_what (table_fault known_facts known) (fits L room r) (words_of r) ws (sym (evaluate_is room known) ∙ e))

      pub evaluate_fits : (known : List ℕ) (room : ℕ) → table_fault known_facts known ≡ none → Roomy sheet room → evaluate L number sheet known room ≡ wrote (words_of (evaluated L (table_of known) t))
      evaluate_fits known room knows h =
          evaluate_is room known
          ∙ write_is room (evaluated L (table_of known) t) (table_fault known_facts known) knows (fits_within (evaluated L (table_of known) t) room (fit_evaluate L G codec.meets codec.joins (table_of known) t good.0) h)

      pub evaluate_back : (K : Table) → read_record L.value (words_of (evaluated L K t)) ≡ got (evaluated L K t) []
      evaluate_back K = back (evaluated L K t) (fit_evaluate L G codec.meets codec.joins K t good.0)

      -- ---- the list of calls: the record after it is the record narrowed by the accepted ones
      Runs : Record L.O → List Call → Type 0
      Runs r cs = after L number (words_of r) cs ≡ words_of (run L r (accepted L number (words_of r) cs))

      runs_by : (s : Step) (r : Record L.O) (cs : List Call) (fault : Option ℕ) (contradicted b : Bool) (a : Answer)
          → a ≡ unless_fault fault (unless_contradicted contradicted (cond b (wrote (words_of (narrowed L s.order s.table r))) (refusal 11)))
          → Runs r cs → Runs (narrowed L s.order s.table r) cs
          → after L number (handed_on a (words_of r)) cs ≡ words_of (run L r (if_wrote a s (accepted L number (handed_on a (words_of r)) cs)))
      unfolding Runs
      runs_by s r cs (some n) contradicted b a e same more = rw e same
      runs_by s r cs none true b a e same more = rw e same
      runs_by s r cs none false false a e same more = rw e same
      runs_by s r cs none false true a e same more = rw e more

      runs : (cs : List Call) (r : Record L.O) → Within r → Runs r cs
      unfolding Runs
      runs [] r h = refl
      runs (c ∷ cs) r h =
          let n = narrowed L c.order (table_of c.facts) r in
          runs_by (step_of c) r cs (table_fault partial_facts c.facts) (any_contradicted (table_of c.facts) r.log) (fits L (length c.out) n) (answer_to L number (words_of r) c) (narrow_is c.order (length c.out) c.facts r h)
          (runs cs r h) (runs cs n (within_narrowed c.order (table_of c.facts) r h))

      -- ---- the theorem
      module _ (o : Order) (known facts given : List ℕ) (calls : List Call) (room₀ : ℕ) (knows : table_fault known_facts known ≡ none) (wrote-given : partial_evaluate L o number sheet facts room₀ ≡ wrote given)
          (agrees : AgreesOn t (table_of known) (table_of facts)) (later : AllOf (λ s. AgreesOn t (table_of known) s.table) (accepted L number given calls)) where
        K : Table
        K = table_of known

        P : Table
        P = table_of facts

        r₀ : Record L.O
        r₀ = reduced L o P t

        given_is : words_of r₀ ≡ given
        unfolding r₀ P
        given_is = wrote_what (table_fault partial_facts facts) (fits L room₀ r₀) (words_of r₀) given (sym (reduce_is o room₀ facts) ∙ wrote-given)

        ss : List Step
        ss = accepted L number given calls

        lastly : Record L.O
        lastly = run L r₀ ss

        fit₀ : Within r₀
        unfolding r₀
        fit₀ = fit_reduce L G codec.meets codec.joins o P t good.0

        fit : Within lastly
        unfolding lastly
        fit = fit_run L G codec.meets codec.joins (most t) (depth t) r₀ ss fit₀

        after_is : after L number given calls ≡ words_of lastly
        unfolding lastly ss Runs
        after_is = subst (λ v. after L number v calls ≡ words_of (run L r₀ (accepted L number v calls))) given_is (runs calls r₀ fit₀)

        steps : TreeStaged L K o P t ss
        unfolding K P ss
        steps =
            staged L K o P t ss (each_of (Agrees K P) t agrees)
            (all_map (λ s. AgreesOn t K s.table) (λ s. Each (Agrees K s.table) t) ss (λ s h. each_of (Agrees K s.table) t h) later)

        -- Every entry of the record says what the known table says.
        faithful : Faithful L K t lastly
        unfolding K P r₀ ss lastly
        faithful = faithful_run L K t r₀ ss later (faithful_reduced L K t o P agrees)

        untouched_by : (bs : List ℕ) → AgreesOn t K (table_of bs) → any_contradicted (table_of bs) lastly.log ≡ false
        untouched_by bs agree = no_contradiction L K t (table_of bs) agree lastly.log faithful.entries

        narrowed_agreeing : (by : Order) (room : ℕ) (bs : List ℕ) → AgreesOn t K (table_of bs)
            → narrow_residual L by number (after L number given calls) bs room ≡ unless_fault (table_fault partial_facts bs) (put room (narrowed L by (table_of bs) lastly))
        narrowed_agreeing by room bs agree =
            ap (λ v. narrow_residual L by number v bs room) after_is ∙ narrow_is by room bs lastly fit
            ∙ ap (λ b. unless_fault (table_fault partial_facts bs) (unless_contradicted b (put room (narrowed L by (table_of bs) lastly)))) (untouched_by bs agree)

        completion_is : (room : ℕ) (ws : List ℕ) → complete_residual L number (after L number given calls) known room ≡ wrote ws → ws ≡ words_of (completed L K lastly)
        unfolding K
        completion_is room ws e =
            sym (wrote_what (table_fault known_facts known) (fits L room (completed L K lastly)) (words_of (completed L K lastly)) ws
            (sym (complete_is room known lastly fit) ∙ sym (ap (λ v. complete_residual L number v known room) after_is) ∙ e))

        pub demand3_at : Staged L number o sheet known facts given calls t
        unfolding K P r₀ ss lastly
        demand3_at = record {
          last = lastly;
          by_the_rules = refl;
          as_words = after_is;
          under = ap sheet_number after_is ∙ number_back lastly;
          read_back = ap (read_record L.value) after_is ∙ back lastly fit;
          settled_first = of_each (λ n. P n ≡ unknown) (tree lastly) steps.settled_first;
          settled_later =
              all_map (λ s. Each (λ n. s.table n ≡ unknown) (tree lastly)) (λ s. Settled (tree lastly) s.table) ss (λ s h. of_each (λ n. s.table n ≡ unknown) (tree lastly) h) steps.settled_later;
          decision = steps.decision;
          completion = completion_is;
          completion_reads = λ room ws e.
              ap (read_record L.value) (completion_is room ws e) ∙ back (completed L K lastly) (fit_complete_body L G codec.meets codec.joins (most t) (depth t) K lastly.body lastly.log fit);
          resolves = steps.completes;
          same_products = steps.same_products;
          same_but_facts = steps.same_but_facts;
          untouched = untouched_by;
          never_17 = λ by room bs agree e.
              not_17 (table_fault partial_facts bs) (table_faulty partial_facts bs) (fits L room (narrowed L by (table_of bs) lastly)) (words_of (narrowed L by (table_of bs) lastly)) (sym (narrowed_agreeing by room bs agree) ∙ e);
          room_evaluate = λ room h. evaluate_fits known room knows h;
          room_reduce = λ by room bs h f.
              reduce_is by room bs
              ∙ write_is room (reduced L by (table_of bs) t) (table_fault partial_facts bs) f (fits_within (reduced L by (table_of bs) t) room (fit_reduce L G codec.meets codec.joins by (table_of bs) t good.0) h);
          room_narrow = λ by room bs h f agree.
              narrowed_agreeing by room bs agree
              ∙ write_is room (narrowed L by (table_of bs) lastly) (table_fault partial_facts bs) f (fits_within (narrowed L by (table_of bs) lastly) room (within_narrowed by (table_of bs) lastly fit) h);
          room_complete = λ room h.
              ap (λ v. complete_residual L number v known room) after_is ∙ complete_is room known lastly fit
              ∙ write_is room (completed L K lastly) (table_fault known_facts known) knows (fits_within (completed L K lastly) room (fit_complete_body L G codec.meets codec.joins (most t) (depth t) K lastly.body lastly.log fit) h);
        }

-- For every accepted sheet and known table, every reduction of the sheet by either order that was accepted, and every list of narrowings, each by either order,
-- all under one number: if the reduction's table and every accepted one agree with the known table, the whole list is as document 01's "Stages" and requests 6,
-- 7 and 8 say.
pub demand3 : (L : Outcomes) (G : L.O → Type 0) → Written L G
    → (number : ℕ) (o : Order) (sheet known facts given : List ℕ) (calls : List Call) (t : Policy L.O) (room : ℕ)
    → read_sheet L.value sheet ≡ got t [] → table_fault known_facts known ≡ none
    → partial_evaluate L o number sheet facts room ≡ wrote given
    → AgreesOn t (table_of known) (table_of facts)
    → AllOf (λ s. AgreesOn t (table_of known) s.table) (accepted L number given calls)
    → Staged L number o sheet known facts given calls t
demand3 L G codec number o sheet known facts given calls t room reads knows first agrees later =
    let said = wrote_numbered (sheet_length sheet) (table_fault partial_facts facts) (read_sheet L.value sheet) (is_sheet_number number) (λ x. under number (write L room (reduced L o (table_of facts) x))) given first in
    demand3_at L G codec sheet t reads number said o known facts given calls room knows first agrees later

-- Once for sets of products and for every outcome table, where all calls of the chain have the same table or all have none; direct evaluation and the completion
-- as well. That the reduction wrote shows that the table was accepted, so each call of the chain is the one by its outcomes.
module _ (g : Option OutcomeTable) where
  abbrev By : Outcomes
  By = outcomes_of g

  pub demand3_of : (number : ℕ) (o : Order) (sheet known facts given : List ℕ) (calls : List Call) (t : Policy ℕ) (room : ℕ)
      → read_sheet By.value sheet ≡ got t [] → table_fault known_facts known ≡ none
      → by_table g (λ L. partial_evaluate L o number sheet facts room) ≡ wrote given
      → AgreesOn t (table_of known) (table_of facts)
      → AllOf (λ s. AgreesOn t (table_of known) s.table) (accepted By number given calls)
      → Staged By number o sheet known facts given calls t
  demand3_of number o sheet known facts given calls t room reads knows first agrees later =
      let by-it = table_wrote g (λ L. partial_evaluate L o number sheet facts room) given first in
      demand3 By (InTable g) (written_of g by-it.0) number o sheet known facts given calls t room reads knows by-it.1 agrees later

  module _ (ok : acceptable g ≡ true) where
    pub outcomes_kept : {number : ℕ} {o : Order} {sheet known facts given : List ℕ} {calls : List Call} {t : Policy ℕ} (s : Staged By number o sheet known facts given calls t)
        → products s.decision ≡ products (eval_policy By (table_of known) t)
    outcomes_kept s = s.same_products (lawful_of g ok)

    -- Direct evaluation of an accepted sheet: that it is accepted with room enough, what it writes, and that its record reads back.
    module _ (number : ℕ) (sheet : List ℕ) (t : Policy ℕ) (reads : read_sheet By.value sheet ≡ got t []) where
      pub evaluate_of : (known : List ℕ) (room : ℕ) → is_sheet_number number ≡ true → table_fault known_facts known ≡ none → Roomy sheet room
          → evaluate By number sheet known room ≡ wrote (numbered number (encode_r By.number (evaluated By (table_of known) t)))
      evaluate_of known room said knows h = evaluate_fits By (InTable g) (written_of g ok) sheet t reads number said known room knows h

      pub evaluate_back_of : (known : List ℕ) (room : ℕ) (ws : List ℕ) → evaluate By number sheet known room ≡ wrote ws → read_record By.value ws ≡ got (evaluated By (table_of known) t) []
      evaluate_back_of known room ws e =
          let said = wrote_numbered (sheet_length sheet) (table_fault known_facts known) (read_sheet By.value sheet) (is_sheet_number number) (λ x. under number (write By room (evaluated By (table_of known) x))) ws e in
          ap (read_record By.value) (evaluate_wrote By (InTable g) (written_of g ok) sheet t reads number said known room ws e)
          ∙ evaluate_back By (InTable g) (written_of g ok) sheet t reads number said (table_of known)
