-- The checks of whole sheets and records. Assumes nothing.
use Rattle.std.specs.Prelude.{Result, Ok, Err}
use mathlib.Core.Path.{◌≡◌, refl, sym, ◌∙◌, ap, ap₂, subst}
use mathlib.Core.Bool.{Bool, true, false, cond, ◌&&◌}
use mathlib.Core.Option.{Option, none, some}
use mathlib.Core.List.{List, [], ◌∷◌}
use Prim.Native.Nat.{ℕ, zero, suc, ◌+◌, ◌-◌, ◌/◌, ◌%◌, ◌≤◌, ◌<◌}
use native.Mathlib.Omega.{arith}
use borrow.Author.Tests.{leb-true, lt-ltb, le-ltb, le-leb, lt-leb}
use lib.Dec.{ltb, leb}
use lib.ListN.{length, drop, get_or, length-drop}
use lib.Seq.{drop-drop}
use Rattle.model.specs.Outcome.{below}
use Rattle.model.specs.Condition.{Condition}
use Rattle.model.specs.Decision.{Decision}
use Rattle.model.specs.Policy.{Policy}
use Rattle.model.specs.Partial.{ReducedPolicy, pending}
use Rattle.model.specs.Consulted.{Consulted}
use Rattle.model.specs.Record.{Record}
use Rattle.model.specs.Writing.{entry_bits}
use Rattle.model.specs.Reading.{Parsed, refuse, got, next, unless, another, read_list, consulted, read_condition, whole, rest}
use Rattle.model.specs.Reading as reading
use Rattle.model.specs.Products.{Outcome, lead_kind, as_stored, as_resolved}
use Rattle.laws.specs.Size.{pairs, words}
use Rattle.laws.proofs.FieldLaws.{Holds, fine, nothing, if_holds}
use Rattle.policy_model.specs.declared.Status.{Status}
use Rattle.policy_model.specs.declared.Status.TheVariants.{Resolved, Pending}
use Rattle.policy_model.specs.Answers.{checked, at_end, refusal, words_b, lead_of, kind_by, Lead}
use Rattle.policy_model.specs.Answers as answers
use Rattle.policy_model.proofs.Checking.{word_at, no_word, passed_on, Leaves}
use Rattle.policy_model.proofs.Policies.{leaves_by}
use Rattle.policy_model.proofs.Pairs.{entries_leave, entries_long}

-- ---- words after the tree
nothing_after : (ws : List ℕ) (n : ℕ) → drop n ws ≡ [] → ltb n (length ws) ≡ false
nothing_after ws n e = let z : length ws - n ≡ 0 = sym (length-drop n ws) ∙ ap length e in le-ltb n (length ws) (omega arith)

word_after : (ws : List ℕ) (n w : ℕ) (vs : List ℕ) → drop n ws ≡ w ∷ vs → ltb n (length ws) ≡ true
word_after ws n w vs e = let z : length ws - n ≡ suc (length vs) = sym (length-drop n ws) ∙ ap length e in lt-ltb n (length ws) (omega arith)

whole_checked : {A : Type 0} (size : A → ℕ) (ws : List ℕ) (at : ℕ) (q : Parsed A) → Leaves size (drop at ws) q → at_end (length ws) (checked size at q) ≡ checked size at (whole q)
unfolding checked at_end
whole_checked size ws at (refuse n) l = refl
whole_checked size ws at (got a []) l =
    ap (λ t. cond t (Err 10) (Ok (at + size a))) (nothing_after ws (at + size a) (sym (drop-drop (size a) at ws) ∙ l.it))
whole_checked size ws at (got a (w ∷ vs)) l =
    ap (λ t. cond t (Err 10) (Ok (at + size a))) (word_after ws (at + size a) w vs (sym (drop-drop (size a) at ws) ∙ l.it))

-- By a number of outcomes.
module _ (most : ℕ) where
  abbrev read_policy : Bool → ℕ → List ℕ → Parsed (Policy Outcome)
  read_policy = reading.read_policy (below most)

  abbrev read_sheet : List ℕ → Parsed (Policy Outcome)
  read_sheet = reading.read_sheet (below most)

  abbrev read_record : List ℕ → Parsed (Record Outcome)
  read_record = reading.read_record (below most)

  abbrev read_lead : List ℕ → Parsed (Record Outcome)
  read_lead = reading.read_lead (below most)

  abbrev leads : ℕ → ℕ → List ℕ → Parsed (Record Outcome)
  leads = reading.leads (below most)

  abbrev parse14 : List ℕ → Parsed (ReducedPolicy Outcome)
  parse14 = reading.parse14 (below most)

  abbrev node14 : ℕ → ℕ → List ℕ → Parsed (ReducedPolicy Outcome)
  node14 = reading.node14 (below most)

  abbrev at12 : ℕ → List ℕ → Parsed (Decision Outcome)
  at12 = reading.at12 (below most)

  abbrev at13 : ℕ → List ℕ → Parsed (Decision Outcome)
  at13 = reading.at13 (below most)

  abbrev node_p : Bool → (List ℕ → Parsed Condition) → (List ℕ → Parsed (Policy Outcome)) → ℕ → ℕ → List ℕ → Parsed (Policy Outcome)
  node_p = reading.node_p (below most)

  abbrev body_at : Status → List ℕ → Parsed (ReducedPolicy Outcome)
  body_at = answers.body_at most

  abbrev policy_at : List ℕ → ℕ → ℕ → Parsed (Policy Outcome)
  policy_at ws at depth = read_policy true depth (drop at ws)

  -- ---- sheets
  module _ (ws : List ℕ) where
    abbrev sheet_by : Bool → Bool → Option ℕ
    sheet_by t u = refusal (unless (t && u) 1 (whole (read_policy false 32 ws)))

    pub no_sheet_lem : length ws ≡ 0 → some 1 ≡ refusal (read_sheet ws)
    no_sheet_lem h = ap (λ t. sheet_by t (leb (length ws) 4096)) (sym (lt-leb 1 (length ws) (omega arith)))

    pub long_sheet : (length ws ≡ 0 → ⊥) → 4096 < length ws → some 1 ≡ refusal (read_sheet ws)
    long_sheet f h = ap₂ sheet_by (sym (le-leb 1 (length ws) (omega arith))) (sym (lt-leb (length ws) 4096 h))

    fair_sheet : (length ws ≡ 0 → ⊥) → length ws ≤ 4096 → refusal (whole (read_policy false 32 ws)) ≡ refusal (read_sheet ws)
    fair_sheet f h = ap₂ sheet_by (sym (le-leb 1 (length ws) (omega arith))) (sym (le-leb (length ws) 4096 h))

    accepted : {A : Type 0} (size : A → ℕ) (n : ℕ) (q : Parsed A) → Ok n ≡ checked size 0 q → none ≡ refusal q
    unfolding checked
    accepted size n (refuse m) e = absurd cc
    accepted size n (got a vs) e = refl

    turned_back_lem : {A : Type 0} (size : A → ℕ) (n : ℕ) (q : Parsed A) → Err n ≡ checked size 0 q → some n ≡ refusal q
    unfolding checked
    turned_back_lem size n (refuse m) e = let k : n ≡ m = cc in ap some k
    turned_back_lem size n (got a vs) e = absurd cc

    to_the_last : (found r : Result ℕ ℕ) → found ≡ checked words 0 (read_policy false 32 ws) → r ≡ at_end (length ws) found → r ≡ checked words 0 (whole (read_policy false 32 ws))
    to_the_last found r e g = g ∙ ap (at_end (length ws)) e ∙ whole_checked words ws 0 (read_policy false 32 ws) (leaves_by most false 32 ws)

    pub sheet_accepted : (n : ℕ) (found : Result ℕ ℕ) → (length ws ≡ 0 → ⊥) → length ws ≤ 4096 → found ≡ checked words 0 (read_policy false 32 ws) → Ok n ≡ at_end (length ws) found → none ≡ refusal (read_sheet ws)
    sheet_accepted n found f h e g = accepted words n (whole (read_policy false 32 ws)) (to_the_last found (Ok n) e g) ∙ fair_sheet f h

    pub sheet_refused : (n : ℕ) (found : Result ℕ ℕ) → (length ws ≡ 0 → ⊥) → length ws ≤ 4096 → found ≡ checked words 0 (read_policy false 32 ws) → Err n ≡ at_end (length ws) found → some n ≡ refusal (read_sheet ws)
    sheet_refused n found f h e g = turned_back_lem words n (whole (read_policy false 32 ws)) (to_the_last found (Err n) e g) ∙ fair_sheet f h

  -- ---- the tree of a Resolved record is one node of a residual tree
  one_node : (at : ℕ) (q : Parsed (Decision Outcome)) → checked words at (as_stored q) ≡ checked words_b at (as_resolved q)
  unfolding checked
  one_node at (refuse n) = refl
  one_node at (got d vs) = refl

  module _ (pc : List ℕ → Parsed Condition) (p : List ℕ → Parsed (Policy Outcome)) (at r : ℕ) (vs : List ℕ) where
    as_residual_lem : (j : ℕ) → checked words at (node_p true pc p (6 + j) r vs) ≡ checked words_b at (node14 j r vs)
    unfolding checked
    as_residual_lem zero = one_node at (at12 r vs)
    as_residual_lem (suc zero) = one_node at (at13 r vs)
    as_residual_lem (suc (suc j)) =
        let e : 6 + suc (suc j) ≡ suc (suc (suc (suc (suc (suc (suc (suc j))))))) = omega arith in
        ap (λ i. checked words at (node_p true pc p i r vs)) e

  module _ (ws : List ℕ) (at : ℕ) where
    pub no_tree : length ws ≤ at → Err 6 ≡ checked words_b at (parse14 (drop at ws))
    unfolding checked
    no_tree h = ap (λ us. checked words_b at (parse14 us)) (sym (no_word ws at h))

    module _ (lt : at < length ws) where
      abbrev k : ℕ
      k = get_or ws at 0 / 268435456

      tree_by : (t : Bool) → leb 12 k ≡ t → checked words_b at (unless t 5 (node14 (k - 12) (get_or ws at 0 % 268435456) (drop (at + 1) ws))) ≡ checked words_b at (parse14 (drop at ws))
      tree_by t e =
          ap (λ b. checked words_b at (unless b 5 (node14 (k - 12) (get_or ws at 0 % 268435456) (drop (at + 1) ws)))) (sym e)
          ∙ ap (λ us. checked words_b at (parse14 us)) (sym (word_at ws at lt))

      pub other_tree : k < 12 → Err 5 ≡ checked words_b at (parse14 (drop at ws))
      unfolding checked
      other_tree h = tree_by false (lt-leb 12 k h)

      pub resolved_tree : 12 ≤ k → checked words at (policy_at ws at 1) ≡ checked words_b at (parse14 (drop at ws))
      resolved_tree h =
          let j : k - 6 ≡ 6 + (k - 12) = omega arith in
          ap (λ us. checked words at (read_policy true 1 us)) (word_at ws at lt)
          ∙ ap (λ t. checked words at (unless t 5 (node_p true (λ vs. read_condition 0 vs) (λ vs. read_policy true 0 vs) (k - 6) (get_or ws at 0 % 268435456) (drop (at + 1) ws)))) (le-leb 6 k (omega arith))
          ∙ ap (λ i. checked words at (node_p true (λ vs. read_condition 0 vs) (λ vs. read_policy true 0 vs) i (get_or ws at 0 % 268435456) (drop (at + 1) ws))) j
          ∙ as_residual_lem (λ vs. read_condition 0 vs) (λ vs. read_policy true 0 vs) at (get_or ws at 0 % 268435456) (drop (at + 1) ws) (k - 12)
          ∙ tree_by true (le-leb 12 k h)

  -- ---- records
  pending_tree : (at : ℕ) (q : Parsed (Policy Outcome)) → checked words at q ≡ checked words_b at (next q (λ t vs. got (pending t) vs))
  unfolding checked
  pending_tree at (refuse n) = refl
  pending_tree at (got t vs) = refl

  whole_pending : (q : Parsed (Policy Outcome)) → next (whole q) (λ t vs. got (pending t) vs) ≡ whole (next q (λ t vs. got (pending t) vs))
  whole_pending (refuse n) = refl
  whole_pending (got t []) = refl
  whole_pending (got t (w ∷ vs)) = refl

  pending_body : (at : ℕ) (us : List ℕ) → checked words at (whole (read_policy true 32 us)) ≡ checked words_b at (whole (body_at Pending us))
  unfolding answers.body_at
  pending_body at us = pending_tree at (whole (read_policy true 32 us)) ∙ ap (checked words_b at) (whole_pending (read_policy true 32 us))

  -- What a Resolved tree leaves: it is a node of a residual tree.
  resolved_leaves_at : (us : List ℕ) (q : Parsed (Decision Outcome)) → Leaves words us (as_stored q) → Leaves words_b us (as_resolved q)
  resolved_leaves_at us (refuse n) h = nothing
  resolved_leaves_at us (got d vs) h = fine h.it

  residual_leaves : (pc : List ℕ → Parsed Condition) (p : List ℕ → Parsed (Policy Outcome)) (us : List ℕ) (j r : ℕ) (vs : List ℕ) →
      Leaves words us (node_p true pc p (6 + j) r vs) → Leaves words_b us (node14 j r vs)
  residual_leaves pc p us zero r vs h = resolved_leaves_at us (at12 r vs) h
  residual_leaves pc p us (suc zero) r vs h = resolved_leaves_at us (at13 r vs) h
  residual_leaves pc p us (suc (suc j)) r vs h = nothing

  resolved_leaves : (us : List ℕ) → Leaves words_b us (parse14 us)
  resolved_leaves [] = nothing
  resolved_leaves (w ∷ vs) =
      let k = w / 268435456 in
      let r = w % 268435456 in
      let parts = node_p true (λ us. read_condition 0 us) (λ us. read_policy true 0 us) in
      if_holds (leb 12 k) 5 (node14 (k - 12) r vs) (λ e.
      let h : 12 ≤ k = leb-true 12 k e in
      let j : k - 6 ≡ 6 + (k - 12) = omega arith in
      let same : read_policy true 1 (w ∷ vs) ≡ parts (6 + (k - 12)) r vs =
      ap (λ t. unless t 5 (parts (k - 6) r vs)) (le-leb 6 k (omega arith)) ∙ ap (λ i. parts i r vs) j in
      residual_leaves (λ us. read_condition 0 us) (λ us. read_policy true 0 us) (w ∷ vs) (k - 12) r vs (subst (Leaves words (w ∷ vs)) same (leaves_by most true 1 (w ∷ vs))))

  -- The tree of a record, to the last word.
  module _ (ws : List ℕ) (at : ℕ) (s : Status) (found r : Result ℕ ℕ) where
    pub to_pending : s ≡ Pending → found ≡ checked words at (policy_at ws at 32) → r ≡ at_end (length ws) found → r ≡ checked words_b at (whole (body_at s (drop at ws)))
    to_pending e f g =
        g
        ∙ ap (at_end (length ws)) f
        ∙ whole_checked words ws at (policy_at ws at 32) (leaves_by most true 32 (drop at ws))
        ∙ pending_body at (drop at ws)
        ∙ ap (λ t. checked words_b at (whole (body_at t (drop at ws)))) (sym e)

    pub to_resolved : s ≡ Resolved → found ≡ checked words_b at (parse14 (drop at ws)) → r ≡ at_end (length ws) found → r ≡ checked words_b at (whole (body_at s (drop at ws)))
    unfolding answers.body_at
    to_resolved e f g =
        g
        ∙ ap (at_end (length ws)) f
        ∙ whole_checked words_b ws at (parse14 (drop at ws)) (resolved_leaves (drop at ws))
        ∙ ap (λ t. checked words_b at (whole (body_at t (drop at ws)))) (sym e)

  -- The kind of the lead, by what was read under it.
  pending_kind : (q : Parsed (Policy Outcome)) → Holds (λ b _. lead_kind b ≡ 15) (next q (λ t vs. got (pending t) vs))
  pending_kind (refuse n) = nothing
  pending_kind (got t vs) = fine refl

  resolved_kind : (q : Parsed (Decision Outcome)) → Holds (λ b _. lead_kind b ≡ 14) (as_resolved q)
  resolved_kind (refuse n) = nothing
  resolved_kind (got d vs) = fine refl

  node14_kind : (j r : ℕ) (vs : List ℕ) → Holds (λ b _. lead_kind b ≡ 14) (node14 j r vs)
  node14_kind zero r vs = resolved_kind (at12 r vs)
  node14_kind (suc zero) r vs = resolved_kind (at13 r vs)
  node14_kind (suc (suc j)) r vs = nothing

  tree14_kind : (us : List ℕ) → Holds (λ b _. lead_kind b ≡ 14) (parse14 us)
  tree14_kind [] = nothing
  tree14_kind (w ∷ vs) = if_holds (leb 12 (w / 268435456)) 5 (node14 (w / 268435456 - 12) (w % 268435456) vs) (λ _. node14_kind (w / 268435456 - 12) (w % 268435456) vs)

  body_kind : (s : Status) (us : List ℕ) → Holds (λ b _. lead_kind b ≡ kind_by s) (body_at s us)
  unfolding answers.body_at
  body_kind Pending us = pending_kind (read_policy true 32 us)
  body_kind Resolved us = tree14_kind us

  -- The lead by what the check of the tree found.
  abbrev pub lead_by : Status → ℕ → ℕ → Result ℕ ℕ → Parsed Lead
  lead_by s count tree (Err n) = refuse n
  lead_by s count tree (Ok n) = got (record { kind = kind_by s; consulted = count; tree = tree }) []

  module _ (es : Consulted) (s : Status) where
    abbrev record_with : ReducedPolicy Outcome → List ℕ → Parsed (Record Outcome)
    record_with b ts = got (record { body = b; log = es }) ts

    by_body : (q : Parsed (ReducedPolicy Outcome)) (at : ℕ) → Holds (λ b _. lead_kind b ≡ kind_by s) q →
        lead_by s (length es) (1 + pairs es) (checked words_b at (whole q)) ≡ lead_of (whole (next q record_with))
    unfolding lead_of checked
    by_body (refuse n) at h = refl
    by_body (got b []) at h = ap (λ k. got (record { kind = k; consulted = length es; tree = 1 + pairs es }) []) (sym h.it)
    by_body (got b (w ∷ vs)) at h = refl

  -- The entries, and then the tree.
  module _ (ws : List ℕ) (s : Status) where
    abbrev and_tree : Consulted → List ℕ → Parsed (Record Outcome)
    and_tree es vs = next (body_at s vs) (λ b ts. got (record { body = b; log = es }) ts)

    entries_then : (count tree : ℕ) (q : Parsed Consulted) → Holds (λ es vs. length es ≡ count) q → Leaves pairs (drop 1 ws) q → Ok tree ≡ checked pairs 1 q →
        lead_by s count tree (checked words_b tree (whole (body_at s (drop tree ws)))) ≡ lead_of (whole (next q and_tree))
    unfolding checked
    entries_then count tree (refuse n) h l e = absurd cc
    entries_then count tree (got es vs) h l e =
        let ends : tree ≡ 1 + pairs es = cc in
        let rest : drop tree ws ≡ vs = ap (λ n. drop n ws) ends ∙ sym (drop-drop (pairs es) 1 ws) ∙ l.it in
        ap₂ (λ us n. lead_by s count n (checked words_b tree (whole (body_at s us)))) rest ends
        ∙ ap (λ n. lead_by s n (1 + pairs es) (checked words_b tree (whole (body_at s vs)))) (sym h.it)
        ∙ by_body es s (body_at s vs) tree (body_kind s vs)

    entries_refused : (n : ℕ) (q : Parsed Consulted) → Err n ≡ checked pairs 1 q → refuse n ≡ lead_of (whole (next q and_tree))
    unfolding checked lead_of
    entries_refused n (refuse m) e = let k : n ≡ m = cc in ap refuse k
    entries_refused n (got es vs) e = absurd cc

  -- What stands under a lead.
  under_lead : (s : Status) (r : ℕ) (vs : List ℕ) → rest (below most) (body_at s) r vs ≡ leads (kind_by s - 14) r vs
  unfolding answers.body_at
  under_lead Resolved r vs = refl
  under_lead Pending r vs = refl

  leb_kind : (s : Status) → leb 14 (kind_by s) ≡ true
  leb_kind Resolved = refl
  leb_kind Pending = refl

  module _ (ws : List ℕ) where
    abbrev record_by : Bool → Bool → Parsed (Record Outcome)
    record_by t u = unless (t && u) 1 (whole (read_lead ws))

    pub no_record : length ws ≡ 0 → refuse 1 ≡ lead_of (read_record ws)
    unfolding lead_of
    no_record h = ap (λ t. lead_of (record_by t (leb (length ws) 16384))) (sym (lt-leb 1 (length ws) (omega arith)))

    pub long_record : (length ws ≡ 0 → ⊥) → 16384 < length ws → refuse 1 ≡ lead_of (read_record ws)
    unfolding lead_of
    long_record f h = ap₂ (λ t u. lead_of (record_by t u)) (sym (le-leb 1 (length ws) (omega arith))) (sym (lt-leb (length ws) 16384 h))

    module _ (f : length ws ≡ 0 → ⊥) (h : length ws ≤ 16384) where
      abbrev w₁ : ℕ
      w₁ = get_or ws 0 0

      abbrev k₁ : ℕ
      k₁ = w₁ / 268435456

      abbrev r₁ : ℕ
      r₁ = w₁ % 268435456

      abbrev lead_at : Bool → Parsed (Record Outcome)
      lead_at t = whole (unless t 5 (leads (k₁ - 14) r₁ (drop 1 ws)))

      fair_record : (t : Bool) → leb 14 k₁ ≡ t → lead_at t ≡ read_record ws
      fair_record t e =
          ap lead_at (sym e)
          ∙ ap (λ us. whole (read_lead us)) (sym (word_at ws 0 (omega arith)))
          ∙ ap₂ record_by (sym (le-leb 1 (length ws) (omega arith))) (sym (le-leb (length ws) 16384 h))

      pub other_record : k₁ < 14 → refuse 5 ≡ lead_of (read_record ws)
      unfolding lead_of
      other_record g = ap lead_of (fair_record false (lt-leb 14 k₁ g))

      -- The count is the lead's last twelve bits.
      abbrev n₁ : ℕ
      n₁ = w₁ % 4096

      module _ (s : Status) (known : k₁ ≡ kind_by s) where
        known_lead : whole (next (read_list consulted entry_bits n₁ (drop 1 ws)) (and_tree ws s)) ≡ read_record ws
        known_lead =
            let m : n₁ ≡ r₁ % 4096 = omega arith in
            ap (λ n. whole (next (read_list consulted entry_bits n (drop 1 ws)) (and_tree ws s))) m
            ∙ ap whole (under_lead s r₁ (drop 1 ws))
            ∙ ap (λ k. whole (leads (k - 14) r₁ (drop 1 ws))) (sym known)
            ∙ fair_record true (ap (leb 14) known ∙ leb_kind s)

        pub record_entries : (n : ℕ) → Err n ≡ checked pairs 1 (read_list consulted entry_bits n₁ (drop 1 ws)) → refuse n ≡ lead_of (read_record ws)
        record_entries n e = entries_refused ws s n (read_list consulted entry_bits n₁ (drop 1 ws)) e ∙ ap lead_of known_lead

        pub record_tree : (tree : ℕ) (b : Result ℕ ℕ) → Ok tree ≡ checked pairs 1 (read_list consulted entry_bits n₁ (drop 1 ws)) →
            b ≡ checked words_b tree (whole (body_at s (drop tree ws))) → lead_by s n₁ tree b ≡ lead_of (read_record ws)
        record_tree tree b e d =
            ap (lead_by s n₁ tree) d
            ∙ entries_then ws s n₁ tree (read_list consulted entry_bits n₁ (drop 1 ws)) (entries_long n₁ (drop 1 ws)) (entries_leave n₁ (drop 1 ws)) e
            ∙ ap lead_of known_lead

-- The tree of a record, by its status; and one node 12 or 13.
pub ruleset bodies = (passed_on, to_pending, to_resolved)

pub ruleset one_nodes = (no_tree, other_tree, resolved_tree)

-- No word, or too many.
pub ruleset sheet_lengths = (no_sheet_lem, long_sheet)

pub ruleset record_lengths = (no_record, long_record)
