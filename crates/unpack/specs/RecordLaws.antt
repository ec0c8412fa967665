-- Records: the lead, the entries and the tree as they are read, and what is restored of them.
use Rattle.std.specs.Prelude.{◌≡◌, Bool, cond, List, [], ◌∷◌, ◌++◌, map, eqb}
use Rattle.std.proofs.Math.Path.{refl, sym, ap, ap₂, subst}
use Rattle.std.proofs.Common.{◌∙◌, append-nil, drop-drop}
use Rattle.std.proofs.Math.Bool.{true, false}
use Prim.Native.Nat.{ℕ, zero, suc, ◌+◌, ◌-◌, ◌*◌, ◌/◌, ◌%◌, ◌≤◌, ◌<◌}
use native.Mathlib.Omega.{arith}
use borrow.Author.Tests.{le-leb, lt-leb, leb-true, leb-false, eqb-true, eqb-false}
use Rattle.std.proofs.Math.Dec.{leb}
use Rattle.std.proofs.Math.ListN.{length, drop, length-drop}
use Rattle.model.specs.Fields.{joined, words_for, pack}
use Rattle.model.specs.Outcome.{product_sets}
use Rattle.model.specs.Decision.{Decision}
use Rattle.model.specs.Policy.{Policy}
use Rattle.model.specs.Partial.{ReducedPolicy, pending, as_residual}
use Rattle.model.specs.Consulted.{Entry, Consulted}
use Rattle.model.specs.Writing.{entry_bits, word, presence_field, seen_in, entry_field, lead_kind, encode, encode_d, encode_r, numbered}
use Rattle.model.specs.Reading.{Parsed, refuse, got, next, unless, by_kind, as_resolved, as_stored}
use Rattle.model.specs.Products.{Outcome}
use Rattle.model.specs.Tight.{loose_c, fields12, fields13, fields_p, loose, take_entries, UnderNumber, resolved_in, pending_in, entries_r, count_r, number_r, fields_r, loose_r}
use Rattle.model.specs.Bits.{take_bits}
use Rattle.laws.proofs.FieldLaws.{Holds, fine, nothing, if_holds, then_holds, both_hold}
use Rattle.laws.proofs.WordLaws.{narrow_drop}
use Rattle.laws.proofs.BitLaws.{Bits}
use Rattle.laws.specs.Size.{words}
use Rattle.laws.proofs.ReadForm.{seen_field}
use Rattle.bits.specs.Widths.{has_lists}
use Rattle.unpack.specs.Nodes.{field_in, fields_in, loose_entry, kind_in, permit_node, deny_node, list_node, node_length, count_in, tree_at, restored, restored_record}
use Rattle.unpack.specs.Answers.{sized, one_policy, words_b, words_u}
use Rattle.unpack.specs.FieldLaws.{need, need_there, need_ended, merged, taken, next_assoc, step_bits, first_bits, field_small}
use Rattle.unpack.specs.NormalLaws.{value, field_split, normal_12, normal_13}
use Rattle.unpack.specs.StepLaws.{sized_need, kind_first, kind_few}
use Rattle.unpack.specs.RestoreLaws.{Restores, restored_none, restores_t, restores_same, list_restores, if_there, permit_words_lem, deny_words, permit_long, deny_long}

-- ---- the entries
abbrev entry_at : List ℕ → Entry
entry_at bs = record { fact = field_in 2 10 bs; seen = seen_in (joined 1 2 bs) }

unfoldable entries_in : ℕ → List ℕ → Consulted
entries_in zero bs = []
entries_in (suc n) bs = entry_at bs ∷ entries_in n (drop 12 bs)

length_entries : (n : ℕ) (bs : List ℕ) → length (entries_in n bs) ≡ n
unfolding entries_in
length_entries zero bs = refl
length_entries (suc n) bs = ap suc (length_entries n (drop 12 bs))

entries_taken : {A : Type 0} (n : ℕ) (bs : List ℕ) (k : Consulted → List ℕ → Parsed A) → next (take_entries n bs) k ≡ need (12 * n) bs (k (entries_in n bs) (drop (12 * n) bs))
unfolding entries_in
entries_taken zero bs k = sym (need_there 0 bs (k [] bs) (omega arith))
entries_taken (suc n) bs k =
    let p = joined 1 2 bs in
    let f = joined 1 10 (drop 2 bs) in
    let ten = drop 10 (drop 2 bs) in
    let rest = drop 12 bs in
    let e : Entry = record { fact = f; seen = seen_in p } in
    let same : ten ≡ rest = drop-drop 10 2 bs in
    next_assoc (take_bits 2 bs) (λ x cs. next (take_bits 10 cs) (λ y ds. next (take_entries n ds) (λ es us. got (record { fact = y; seen = seen_in x } ∷ es) us))) k
    ∙ taken 2 bs (λ x cs. next (next (take_bits 10 cs) (λ y ds. next (take_entries n ds) (λ es us. got (record { fact = y; seen = seen_in x } ∷ es) us))) k)
    ∙ ap (need 2 bs)
    (next_assoc (take_bits 10 (drop 2 bs)) (λ y ds. next (take_entries n ds) (λ es us. got (record { fact = y; seen = seen_in p } ∷ es) us)) k
    ∙ taken 10 (drop 2 bs) (λ y ds. next (next (take_entries n ds) (λ es us. got (record { fact = y; seen = seen_in p } ∷ es) us)) k)
    ∙ ap (need 10 (drop 2 bs))
    (next_assoc (take_entries n ten) (λ es us. got (e ∷ es) us) k
    ∙ entries_taken n ten (λ es us. k (e ∷ es) us)))
    ∙ merged 2 10 bs (need (12 * n) ten (k (e ∷ entries_in n ten) (drop (12 * n) ten)))
    ∙ ap (λ l. need 12 bs (need (12 * n) l (k (e ∷ entries_in n l) (drop (12 * n) l)))) same
    ∙ merged 12 (12 * n) bs (k (e ∷ entries_in n rest) (drop (12 * n) rest))
    ∙ ap (λ l. need (12 + 12 * n) bs (k (e ∷ entries_in n rest) l)) (drop-drop (12 * n) 12 bs)
    ∙ ap (λ m. need m bs (k (e ∷ entries_in n rest) (drop m bs))) (let z : 12 + 12 * n ≡ 12 * suc n = omega arith in z)

step_entries : {A : Type 0} (s n : ℕ) (bs : List ℕ) (k : Consulted → List ℕ → Parsed A) → need s bs (next (take_entries n (drop s bs)) k) ≡ need (s + 12 * n) bs (k (entries_in n (drop s bs)) (drop (s + 12 * n) bs))
step_entries s n bs k =
    ap (need s bs) (entries_taken n (drop s bs) k)
    ∙ merged s (12 * n) bs (k (entries_in n (drop s bs)) (drop (12 * n) (drop s bs)))
    ∙ ap (λ l. need (s + 12 * n) bs (k (entries_in n (drop s bs)) l)) (drop-drop (12 * n) s bs)

-- ---- the lead
module _ (run : List ℕ) (h : Bits run) where
  abbrev entries : Consulted
  entries = entries_in (count_in run) (drop 32 run)

  lead_is_lem : (p : List ℕ → Parsed (ReducedPolicy Outcome)) → need 4 run (fields_r value p (drop 4 run)) ≡ need (tree_at run) run (entries_r value p (field_in 4 16 run) entries (drop (tree_at run) run))
  lead_is_lem p = step_bits 4 16 run (number_r value p) ∙ step_bits 20 12 run (count_r value p (field_in 4 16 run)) ∙ step_entries 32 (count_in run) run (entries_r value p (field_in 4 16 run))

  body_size : (p : List ℕ → Parsed (ReducedPolicy Outcome)) → sized words_u 0 (entries_r value p (field_in 4 16 run) entries (drop (tree_at run) run)) ≡ sized words_b (1 + words_for 2 (count_in run)) (p (drop (tree_at run) run))
  body_size p = by (p (drop (tree_at run) run))
    where
      by : (q : Parsed (ReducedPolicy Outcome)) → sized words_u 0 (next q (λ b cs. got (record { sheet = field_in 4 16 run; held = record { body = b; log = entries } }) cs)) ≡ sized words_b (1 + words_for 2 (count_in run)) q
      by (refuse n) = refl
      by (got b cs) =
          ap (λ m. got m cs) (ap (λ m. 0 + (1 + words_for 2 m + words (as_residual b))) (length_entries (count_in run) (drop 32 run)) ∙ (let z : 0 + (1 + words_for 2 (count_in run) + words (as_residual b)) ≡ 1 + words_for 2 (count_in run) + words (as_residual b) = omega arith in z))

  abbrev asked : Parsed ℕ
  asked = sized words_u 0 (loose_r value run)

  kinds : ℕ → Parsed (UnderNumber Outcome)
  kinds k = unless (leb 14 k) 5 (by_kind (fields_r value (resolved_in value) (drop 4 run) ∷ fields_r value (pending_in value) (drop 4 run) ∷ []) (k - 14))

  by_lead : loose_r value run ≡ need 4 run (kinds (kind_in run))
  unfolding kinds
  by_lead =
      first_bits 4 run (λ k cs. unless (leb 14 k) 5 (by_kind (fields_r value (resolved_in value) cs ∷ fields_r value (pending_in value) cs ∷ []) (k - 14)))
      ∙ ap (λ k. need 4 run (unless (leb 14 k) 5 (by_kind (fields_r value (resolved_in value) (drop 4 run) ∷ fields_r value (pending_in value) (drop 4 run) ∷ []) (k - 14)))) (sym (kind_first run h))

  resolved_lead : kind_in run ≡ 14 → loose_r value run ≡ need (tree_at run) run (entries_r value (resolved_in value) (field_in 4 16 run) entries (drop (tree_at run) run))
  unfolding kinds
  resolved_lead e = by_lead ∙ ap (λ k. need 4 run (kinds k)) e ∙ lead_is_lem (resolved_in value)

  pending_lead : kind_in run ≡ 15 → loose_r value run ≡ need (tree_at run) run (entries_r value (pending_in value) (field_in 4 16 run) entries (drop (tree_at run) run))
  unfolding kinds
  pending_lead e = by_lead ∙ ap (λ k. need 4 run (kinds k)) e ∙ lead_is_lem (pending_in value)

  fifteen : 14 ≤ kind_in run → (kind_in run ≡ 14 → ⊥) → kind_in run ≡ 15
  fifteen l f = by (leb (kind_in run) 14) refl
    where
      by : (b : Bool) → leb (kind_in run) 14 ≡ b → kind_in run ≡ 15
      by true e = absurd (f (let x = leb-true (kind_in run) 14 e in omega arith))
      by false e = let x = leb-false (kind_in run) 14 e in let y = kind_few run h in omega arith

  pub resolved_on : kind_in run ≡ 14 → tree_at run ≤ length run → asked ≡ sized words_b (1 + words_for 2 (count_in run)) (resolved_in value (drop (tree_at run) run))
  resolved_on e l = ap (sized words_u 0) (resolved_lead e ∙ need_there (tree_at run) run _ l) ∙ body_size (resolved_in value)

  pending_size : (w : ℕ) (q : Parsed (Policy Outcome)) → sized words_b w (next q (λ t cs. got (pending t) cs)) ≡ sized words w q
  pending_size w (refuse n) = refl
  pending_size w (got t cs) = refl

  pub pending_on : 14 ≤ kind_in run → (kind_in run ≡ 14 → ⊥) → tree_at run ≤ length run → asked ≡ one_policy true 32 (1 + words_for 2 (count_in run)) (drop (tree_at run) run)
  pending_on l f m =
      ap (sized words_u 0) (pending_lead (fifteen l f) ∙ need_there (tree_at run) run _ m) ∙ body_size (pending_in value)
      ∙ pending_size (1 + words_for 2 (count_in run)) (loose value true 32 (drop (tree_at run) run))

  pub record_short : 14 ≤ kind_in run → length run < tree_at run → asked ≡ refuse 19
  record_short l m = by (eqb (kind_in run) 14) refl
    where
      by : (b : Bool) → eqb (kind_in run) 14 ≡ b → asked ≡ refuse 19
      by true e = ap (sized words_u 0) (resolved_lead (eqb-true (kind_in run) 14 e) ∙ need_ended (tree_at run) run _ m)
      by false e = ap (sized words_u 0) (pending_lead (fifteen l (eqb-false (kind_in run) 14 e)) ∙ need_ended (tree_at run) run _ m)

no_lead : {Q : UnderNumber Outcome → List ℕ → Type 0} (run : List ℕ) (h : Bits run) → kind_in run < 14 → Holds Q (loose_r value run)
unfolding kinds
no_lead {Q} run h l = subst (Holds Q) (sym (by_lead run h ∙ ap (λ b. need 4 run (unless b 5 (by_kind (fields_r value (resolved_in value) (drop 4 run) ∷ fields_r value (pending_in value) (drop 4 run) ∷ []) (kind_in run - 14)))) (lt-leb 14 (kind_in run) l))) (if_there 4 run (refuse 5) (λ _. nothing))

-- ---- under Resolved one node 12 or 13
module _ (bs : List ℕ) (h : Bits bs) where
  resolved_kinds : ℕ → Parsed (ReducedPolicy Outcome)
  resolved_kinds k = unless (leb 12 k) 5 (by_kind (as_resolved value (fields12 value (drop 4 bs)) ∷ as_resolved value (fields13 value (drop 4 bs)) ∷ []) (k - 12))

  by_resolved : resolved_in value bs ≡ need 4 bs (resolved_kinds (kind_in bs))
  unfolding resolved_kinds
  by_resolved =
      first_bits 4 bs (λ k cs. unless (leb 12 k) 5 (by_kind (as_resolved value (fields12 value cs) ∷ as_resolved value (fields13 value cs) ∷ []) (k - 12)))
      ∙ ap (λ k. need 4 bs (unless (leb 12 k) 5 (by_kind (as_resolved value (fields12 value (drop 4 bs)) ∷ as_resolved value (fields13 value (drop 4 bs)) ∷ []) (k - 12)))) (sym (kind_first bs h))

  pub resolved_ended : (w : ℕ) → length bs < 4 → sized words_b w (resolved_in value bs) ≡ refuse 19
  resolved_ended w l = ap (sized words_b w) (by_resolved ∙ need_ended 4 bs (resolved_kinds (kind_in bs)) l)

  pub resolved_bad : (w : ℕ) → 4 ≤ length bs → kind_in bs < 12 → sized words_b w (resolved_in value bs) ≡ refuse 5
  unfolding resolved_kinds
  resolved_bad w n l = ap (sized words_b w) (by_resolved ∙ need_there 4 bs (resolved_kinds (kind_in bs)) n ∙ ap (λ b. unless b 5 (by_kind (as_resolved value (fields12 value (drop 4 bs)) ∷ as_resolved value (fields13 value (drop 4 bs)) ∷ []) (kind_in bs - 12))) (lt-leb 12 (kind_in bs) l))

  stored_size : (w : ℕ) (q : Parsed (Decision Outcome)) → sized words_b w (as_resolved value q) ≡ sized words w (as_stored value q)
  stored_size w (refuse n) = refl
  stored_size w (got d cs) = refl

  policy_kinds : ℕ → Parsed (Policy Outcome)
  policy_kinds k = unless (leb 6 k) 5 (fields_p value true (λ ds. loose_c 0 ds) (λ ds. loose value true 0 ds) (k - 6) (drop 4 bs))

  by_policy : loose value true 1 bs ≡ need 4 bs (policy_kinds (kind_in bs))
  unfolding policy_kinds
  by_policy =
      first_bits 4 bs (λ k cs. unless (leb 6 k) 5 (fields_p value true (λ ds. loose_c 0 ds) (λ ds. loose value true 0 ds) (k - 6) cs))
      ∙ ap (λ k. need 4 bs (unless (leb 6 k) 5 (fields_p value true (λ ds. loose_c 0 ds) (λ ds. loose value true 0 ds) (k - 6) (drop 4 bs)))) (sym (kind_first bs h))

  same_kinds : (w j : ℕ) → sized words_b w (resolved_kinds (12 + j)) ≡ sized words w (policy_kinds (12 + j))
  unfolding resolved_kinds policy_kinds
  same_kinds w zero = stored_size w (fields12 value (drop 4 bs))
  same_kinds w (suc zero) = stored_size w (fields13 value (drop 4 bs))
  same_kinds w (suc (suc j)) =
      ap₂ (λ a k. sized words_b w (unless a 5 (by_kind (as_resolved value (fields12 value (drop 4 bs)) ∷ as_resolved value (fields13 value (drop 4 bs)) ∷ []) k))) (le-leb 12 (12 + suc (suc j)) (omega arith)) (let z : 12 + suc (suc j) - 12 ≡ suc (suc j) = omega arith in z)
      ∙ sym (ap₂ (λ a k. sized words w (unless a 5 (fields_p value true (λ ds. loose_c 0 ds) (λ ds. loose value true 0 ds) k (drop 4 bs)))) (le-leb 6 (12 + suc (suc j)) (omega arith)) (let z : 12 + suc (suc j) - 6 ≡ suc (suc (suc (suc (suc (suc (suc (suc j))))))) = omega arith in z))

  pub resolved_is : (w : ℕ) → 12 ≤ kind_in bs → sized words_b w (resolved_in value bs) ≡ one_policy true 1 w bs
  resolved_is w l =
      let k = kind_in bs in
      let e : k ≡ 12 + (k - 12) = omega arith in
      ap (sized words_b w) by_resolved ∙ sized_need words_b w 4 bs (resolved_kinds k)
      ∙ ap (need 4 bs) (ap (λ j. sized words_b w (resolved_kinds j)) e ∙ same_kinds w (k - 12) ∙ ap (λ j. sized words w (policy_kinds j)) (sym e))
      ∙ sym (ap (sized words w) by_policy ∙ sized_need words w 4 bs (policy_kinds k))

  -- What is restored of it.
  abbrev enc_b : ReducedPolicy Outcome → List ℕ
  enc_b b = encode product_sets.number (as_residual b)

  resolved_node : (s : ℕ) (q : Parsed (Decision Outcome)) → Holds (λ e cs. Restores bs (encode_d product_sets.number e) cs) (need s bs q) → Holds (λ b cs. Restores bs (enc_b b) cs) (need s bs (as_resolved value q))
  resolved_node s q k = by (leb s (length bs)) q k
    where
      by : (x : Bool) (q : Parsed (Decision Outcome)) → Holds (λ e cs. Restores bs (encode_d product_sets.number e) cs) (cond x q (refuse 19)) → Holds (λ b cs. Restores bs (enc_b b) cs) (cond x (as_resolved value q) (refuse 19))
      by false q k = nothing
      by true (refuse n) k = nothing
      by true (got e cs) k = fine k.it

  node_restores : (j : ℕ) → kind_in bs ≡ 12 + j → Holds (λ b cs. Restores bs (enc_b b) cs) (need 4 bs (by_kind (as_resolved value (fields12 value (drop 4 bs)) ∷ as_resolved value (fields13 value (drop 4 bs)) ∷ []) j))
  unfolding has_lists list_node
  node_restores zero e =
      resolved_node 4 (fields12 value (drop 4 bs)) (subst (Holds (λ x cs. Restores bs (encode_d product_sets.number x) cs)) (sym (normal_12 bs h))
      (if_there (node_length (permit_node bs)) bs _ (λ m. fine (restores_same (sym (permit_words_lem bs h)) (list_restores bs h 12 (permit_node bs) e refl refl (permit_long bs) m)))))
  node_restores (suc zero) e =
      resolved_node 4 (fields13 value (drop 4 bs)) (subst (Holds (λ x cs. Restores bs (encode_d product_sets.number x) cs)) (sym (normal_13 bs h))
      (if_there (node_length (deny_node bs)) bs _ (λ m. fine (restores_same (sym (deny_words bs h e)) (list_restores bs h 13 (deny_node bs) e refl refl (deny_long bs) m)))))
  node_restores (suc (suc j)) e = if_there 4 bs (refuse 5) (λ l. nothing)

  restores_resolved : Holds (λ b cs. Restores bs (enc_b b) cs) (resolved_in value bs)
  unfolding resolved_kinds
  restores_resolved = subst (Holds (λ b cs. Restores bs (enc_b b) cs)) (sym by_resolved) (by (leb 12 (kind_in bs)) refl)
    where
      by : (b : Bool) → leb 12 (kind_in bs) ≡ b → Holds (λ b cs. Restores bs (enc_b b) cs) (need 4 bs (unless b 5 (by_kind (as_resolved value (fields12 value (drop 4 bs)) ∷ as_resolved value (fields13 value (drop 4 bs)) ∷ []) (kind_in bs - 12))))
      by false e = if_there 4 bs (refuse 5) (λ l. nothing)
      by true e = let l = leb-true 12 (kind_in bs) e in node_restores (kind_in bs - 12) (let z : kind_in bs ≡ 12 + (kind_in bs - 12) = omega arith in z)

-- ---- a whole record
entries_words : (n : ℕ) (bs : List ℕ) → Bits bs → map loose_entry (fields_in 12 n bs) ≡ map entry_field (entries_in n bs)
unfolding fields_in entries_in
entries_words zero bs h = refl
entries_words (suc n) bs h =
    let p = field_split 2 0 10 bs in
    let a = field_small 0 2 bs h in
    let b = field_small 2 10 bs h in
    let s = seen_field (joined 1 2 bs) a in
    ap₂ (λ x y. x ∷ y) (let z : loose_entry (joined 1 12 bs) ≡ presence_field (seen_in (joined 1 2 bs)) * 16384 + field_in 2 10 bs = omega arith in z) (entries_words n (drop 12 bs) (narrow_drop 1 12 bs h))

module _ (run : List ℕ) (h : Bits run) (end : ℕ) (inside : end ≤ length run) where
  lead_word : field_in 0 16 run * 65536 + field_in 16 16 run ≡ word (kind_in run) (field_in 4 16 run * 4096 + count_in run)
  lead_word =
      let a = field_split 4 0 12 run in
      let b = field_split 12 4 4 run in
      let c = field_split 4 16 12 run in
      let k = kind_first run h in
      omega arith

  body_words : (p : List ℕ → Parsed (ReducedPolicy Outcome)) (kind : ℕ) → kind_in run ≡ kind → ((bs : List ℕ) → Bits bs → Holds (λ b cs. Restores bs (encode product_sets.number (as_residual b)) cs × (lead_kind product_sets.number b ≡ kind)) (p bs)) →
      tree_at run ≤ end → Holds (λ u cs. cs ≡ drop end run → numbered u.sheet (encode_r product_sets.number u.held) ≡ restored_record run end) (entries_r value p (field_in 4 16 run) (entries run h) (drop (tree_at run) run))
  unfolding restored_record
  body_words p kind k hp room =
      then_holds (p (drop (tree_at run) run)) (λ b cs. got (record { sheet = field_in 4 16 run; held = record { body = b; log = entries run h } }) cs) (hp (drop (tree_at run) run) (narrow_drop 1 (tree_at run) run h)) (λ b cs r.
      fine (λ e.
      let m = count_in run in
      let n = field_in 4 16 run in
      let few = field_small 20 12 run h in
      let kd = lead_kind product_sets.number b in
      let log-long = length_entries m (drop 32 run) in
      let kf = kind_few run h in
      let e₁ : (kd * 268435456 + length (entries run h)) / 268435456 ≡ kind_in run = omega (arith, r.1, k, log-long) in
      let e₂ : (kd * 268435456 + length (entries run h)) % 4096 ≡ m = omega (arith, log-long) in
      let long = ap length e in
      let d = drop (tree_at run) run in
      let tree-words : encode product_sets.number (as_residual b) ≡ restored d 0 (end - tree_at run) =
      sym (append-nil (encode product_sets.number (as_residual b))) ∙ ap (λ l. encode product_sets.number (as_residual b) ++ l) (sym (restored_none cs)) ∙ sym (r.0.words 0)
      ∙ ap (restored d 0) (let z : length d - length cs + 0 ≡ end - tree_at run = omega (arith, long, length-drop (tree_at run) run, length-drop end run) in z) in
      λ i. (ap₂ (λ x y. word x (n * 4096 + y)) e₁ e₂ ∙ sym lead_word) i ∷ (pack entry_bits (sym (entries_words m (drop 32 run) (narrow_drop 1 32 run h)) i) ++ tree-words i)))

  resolved_both : (bs : List ℕ) → Bits bs → Holds (λ b cs. Restores bs (encode product_sets.number (as_residual b)) cs × (lead_kind product_sets.number b ≡ 14)) (resolved_in value bs)
  resolved_both bs b = both_hold (resolved_in value bs) (restores_resolved bs b) (resolved_kind (take_bits 4 bs))
    where
      node : (q : Parsed (Decision Outcome)) → Holds (λ b cs. lead_kind product_sets.number b ≡ 14) (as_resolved value q)
      node (refuse n) = nothing
      node (got d cs) = fine refl

      kind_by : (j : ℕ) (cs : List ℕ) → Holds (λ b cs. lead_kind product_sets.number b ≡ 14) (by_kind (as_resolved value (fields12 value cs) ∷ as_resolved value (fields13 value cs) ∷ []) j)
      kind_by zero cs = node (fields12 value cs)
      kind_by (suc zero) cs = node (fields13 value cs)
      kind_by (suc (suc j)) cs = nothing

      resolved_kind : (q : Parsed ℕ) → Holds (λ b cs. lead_kind product_sets.number b ≡ 14) (next q (λ k cs. unless (leb 12 k) 5 (by_kind (as_resolved value (fields12 value cs) ∷ as_resolved value (fields13 value cs) ∷ []) (k - 12))))
      resolved_kind (refuse n) = nothing
      resolved_kind (got k cs) = if_holds (leb 12 k) 5 _ (λ _. kind_by (k - 12) cs)

  pending_both : (bs : List ℕ) → Bits bs → Holds (λ b cs. Restores bs (encode product_sets.number (as_residual b)) cs × (lead_kind product_sets.number b ≡ 15)) (pending_in value bs)
  pending_both bs b = then_holds (loose value true 32 bs) (λ t cs. got (pending t) cs) (restores_t true 32 bs b) (λ t cs r. fine (r, refl))

  -- What is restored of a record is its words.
  pub record_words_lem : tree_at run ≤ end → Holds (λ u cs. cs ≡ drop end run → numbered u.sheet (encode_r product_sets.number u.held) ≡ restored_record run end) (loose_r value run)
  record_words_lem room = by (leb 14 (kind_in run)) refl (eqb (kind_in run) 14) refl
    where
      by : (a : Bool) → leb 14 (kind_in run) ≡ a → (b : Bool) → eqb (kind_in run) 14 ≡ b → Holds (λ u cs. cs ≡ drop end run → numbered u.sheet (encode_r product_sets.number u.held) ≡ restored_record run end) (loose_r value run)
      by false ea b eb = no_lead run h (leb-false 14 (kind_in run) ea)
      by true ea true eb =
          let k = eqb-true (kind_in run) 14 eb in
          subst (Holds (λ u cs. cs ≡ drop end run → numbered u.sheet (encode_r product_sets.number u.held) ≡ restored_record run end)) (sym (resolved_lead run h k))
          (if_there (tree_at run) run _ (λ l. body_words (resolved_in value) 14 k resolved_both room))
      by true ea false eb =
          let k = fifteen run h (leb-true 14 (kind_in run) ea) (eqb-false (kind_in run) 14 eb) in
          subst (Holds (λ u cs. cs ≡ drop end run → numbered u.sheet (encode_r product_sets.number u.held) ≡ restored_record run end)) (sym (pending_lead run h k))
          (if_there (tree_at run) run _ (λ l. body_words (pending_in value) 15 k pending_both room))
