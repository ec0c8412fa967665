-- One step of a check: a node by its kind, and then its arms.
use Rattle.std.specs.Prelude.{◌≡◌, Bool, ◌&&◌, List, ltb, leb, length, drop}
use Rattle.std.proofs.Math.Path.{refl, sym, ap, ap₂}
use Rattle.std.proofs.Common.{◌∙◌, subst, lt-ltb, le-ltb, le-leb, leb-true}
use Rattle.std.proofs.Math.Bool.{true, false, cond}
use Prim.Native.Nat.{ℕ, zero, suc, ◌+◌, ◌-◌, ◌*◌, ◌/◌, ◌%◌, ◌^◌, ◌≤◌, ◌<◌}
use native.Mathlib.Omega.{arith}
use Rattle.std.proofs.lemmas.Bool.{lt-leb}
use Rattle.std.proofs.Math.ListN.{get_or}
use Rattle.std.proofs.Math.Pow.{high, pow_mono}
use Rattle.model.specs.Fields.{words_for}
use Rattle.model.specs.Condition.{Condition, always, never, has, not_c, all_c, any_c, Conditions, cnil, ccons}
use Rattle.model.specs.Decision.{Decision, permits, denies}
use Rattle.model.specs.Policy.{Policy, permit, deny, grant, all, any, or_else, stored, Policies, pnil, pcons}
use Rattle.model.specs.Writing.{word}
use Rattle.model.specs.Reading.{Parsed, refuse, got, next, unless, many, kind_of, few_obligations, outcome_of, as_stored}
use Rattle.model.specs.Products.{Outcome, last_kind}
use Rattle.model.specs.Tight.{fields_c, loose_c, fields12, fields13, fields_p, loose}
use Rattle.laws.specs.Size.{words_c, words_cs, words, wordss}
use Rattle.laws.proofs.BitLaws.{Bits}
use Rattle.policy_model.specs.Span.{arms_by, arms_of}
use Rattle.bits.specs.Widths.{plain_width}
use Rattle.unpack.specs.Nodes.{field_in, lead_in, kind_in, plain_word, grant_node, permit_node, deny_node, node_length, node_count}
use Rattle.unpack.specs.Answers.{sized, one_condition, all_conditions, one_policy, all_policies}
use Rattle.unpack.specs.FieldLaws.{need, need_there, need_ended, step_bits, first_bits, field_small, length_fields}
use Rattle.unpack.specs.NormalLaws.{value, field_split, outcome_is, permit_read, normal_12, deny_read, normal_13, owed8_in, owed_8, grant_read, normal_8}
use Rattle.unpack.specs.Levels.{Lists}

-- ---- sizes
pub sized_need : {A : Type 0} (size : A → ℕ) (w s : ℕ) (bs : List ℕ) (p : Parsed A) → sized size w (need s bs p) ≡ need s bs (sized size w p)
sized_need size w s bs p = by (leb s (length bs))
  where
    by : (b : Bool) → sized size w (cond b p (refuse 19)) ≡ cond b (sized size w p) (refuse 19)
    by true = refl
    by false = refl

pub sized_unless : {A : Type 0} (size : A → ℕ) (w : ℕ) (b : Bool) (n : ℕ) (p : Parsed A) → sized size w (unless b n p) ≡ unless b n (sized size w p)
sized_unless size w true n p = refl
sized_unless size w false n p = refl

module _ {A B : Type 0} (size_a : A → ℕ) (size_b : B → ℕ) (nil : B) (cons : A → B → B) (p : List ℕ → Parsed A)
    (empty : size_b nil ≡ 0) (more : (a : A) (b : B) → size_b (cons a b) ≡ size_a a + size_b b) where
  lists_more : (n w : ℕ) (bs : List ℕ) → next (sized size_a w (p bs)) (λ v cs. sized size_b v (many nil cons p n cs)) ≡ sized size_b w (many nil cons p (suc n) bs)
  lists_more n w bs = by (p bs)
    where
      inner : (a : A) (q : Parsed B) → sized size_b (w + size_a a) q ≡ sized size_b w (next q (λ xs us. got (cons a xs) us))
      inner a (refuse e) = refl
      inner a (got xs us) = ap (λ m. got m us) (let e = more a xs in omega arith)

      by : (q : Parsed A) → next (sized size_a w q) (λ v cs. sized size_b v (many nil cons p n cs)) ≡ sized size_b w (next q (λ a vs. next (many nil cons p n vs) (λ xs us. got (cons a xs) us)))
      by (refuse e) = refl
      by (got a cs) = inner a (many nil cons p n cs)

  pub lists_first : (n w : ℕ) (bs : List ℕ) → (n ≡ 0 → ⊥) → next (sized size_a w (p bs)) (λ v cs. sized size_b v (many nil cons p (n - 1) cs)) ≡ sized size_b w (many nil cons p n bs)
  lists_first zero w bs f = absurd (f refl)
  lists_first (suc n) w bs f = ap (λ m. next (sized size_a w (p bs)) (λ v cs. sized size_b v (many nil cons p m cs))) (let e : suc n - 1 ≡ n = omega arith in e) ∙ lists_more n w bs

  pub lists_none : (n w : ℕ) (bs : List ℕ) → n ≡ 0 → got w bs ≡ sized size_b w (many nil cons p n bs)
  lists_none n w bs e = ap (λ m. got m bs) (let z = empty in let y : w ≡ w + size_b nil = omega arith in y) ∙ ap (λ m. sized size_b w (many nil cons p m bs)) (sym e)

pub condition_lists : Lists one_condition all_conditions
condition_lists =
    record {
      first = λ d n w bs f. lists_first words_c words_cs cnil ccons (loose_c d) refl (λ a b. refl) n w bs f;
      none = λ d n w bs e. lists_none words_c words_cs cnil ccons (loose_c d) refl (λ a b. refl) n w bs e;
    }

pub policy_lists : (res : Bool) → Lists (one_policy res) (all_policies res)
policy_lists res =
    record {
      first = λ d n w bs f. lists_first words wordss pnil pcons (loose value res d) refl (λ a b. refl) n w bs f;
      none = λ d n w bs e. lists_none words wordss pnil pcons (loose value res d) refl (λ a b. refl) n w bs e;
    }

-- A leaf adds one word.
leaf : (w : ℕ) → w + 1 ≡ w + 1 + 0
leaf w = omega arith

abbrev refused_p : ℕ → Parsed (Policy Outcome)
refused_p n = refuse n

-- ---- the first 20 bits
module _ (bs : List ℕ) (h : Bits bs) where
  pub kind_first : kind_in bs ≡ field_in 0 4 bs
  kind_first = let e = field_split 4 0 16 bs in let s = field_small 4 16 bs h in omega arith

  lead_rest : lead_in bs % 65536 ≡ field_in 4 16 bs
  lead_rest = let e = field_split 4 0 16 bs in let s = field_small 4 16 bs h in omega arith

  pub kind_few : kind_in bs < 16
  kind_few = let e = kind_first in let s = field_small 0 4 bs h in omega arith

  -- The word of a node without lists: its kind and its other field.
  pub plain_word_is : (k p : ℕ) → kind_in bs ≡ k → plain_width k ≡ p → p ≤ 16 → plain_word (lead_in bs) ≡ word k (field_in 4 p bs)
  unfolding plain_word
  plain_word_is k p e f g =
      let q : p + (16 - p) ≡ 16 = omega arith in
      let whole : field_in 4 16 bs ≡ field_in 4 p bs * 2 ^ (16 - p) + field_in (4 + p) (16 - p) bs = ap (λ n. field_in 4 n bs) (sym q) ∙ field_split p 4 (16 - p) bs in
      ap₂ (λ x y. x * 268435456 + y)
      e
      (ap₂ (λ x y. x / 2 ^ (16 - y)) (lead_rest ∙ whole) (ap plain_width e ∙ f) ∙ high (field_in 4 p bs) (16 - p) (field_small (4 + p) (16 - p) bs h))

  pub arms_are : (k p : ℕ) → kind_in bs ≡ k → plain_width k ≡ p → p ≤ 16 → arms_of (plain_word (lead_in bs)) ≡ get_or (arms_by (field_in 4 p bs % 4096)) k 0
  unfolding arms_of
  arms_are k p e f g =
      let w = plain_word_is k p e f g in
      let s = field_small 4 p bs h in
      let m : 2 ^ p ≤ 2 ^ 16 = pow_mono {i = p} {j = 16} g in
      let r = field_in 4 p bs in
      let a : word k r % 4096 ≡ r % 4096 = omega arith in
      let b : kind_of (word k r) ≡ k = omega arith in
      ap (λ v. get_or (arms_by (v % 4096)) (kind_of v) 0) w ∙ ap₂ (λ x y. get_or (arms_by x) y 0) a b

  count_is : (p : ℕ) → p ≡ 12 → field_in 4 p bs % 4096 ≡ field_in 4 12 bs
  count_is p e = ap (λ n. field_in 4 n bs % 4096) e ∙ (let s = field_small 4 12 bs h in let z : field_in 4 12 bs % 4096 ≡ field_in 4 12 bs = omega arith in z)

  -- ---- conditions
  module _ (d w : ℕ) where
    abbrev reader : List ℕ → Parsed Condition
    reader ds = loose_c d ds

    one_arm : (q : Parsed Condition) → sized words_c w (next q (λ c cs. got (not_c c) cs)) ≡ sized words_cs (w + 1) (next q (λ a vs. next (got cnil vs) (λ xs us. got (ccons a xs) us)))
    one_arm (refuse n) = refl
    one_arm (got c cs) = ap (λ m. got m cs) (let z : w + (1 + words_c c) ≡ w + 1 + (words_c c + 0) = omega arith in z)

    all_arms : (mk : Conditions → Condition) → ((xs : Conditions) → words_c (mk xs) ≡ 1 + words_cs xs) → (q : Parsed Conditions) → sized words_c w (next q (λ xs ds. got (mk xs) ds)) ≡ sized words_cs (w + 1) q
    all_arms mk e (refuse n) = refl
    all_arms mk e (got xs ds) = ap (λ m. got m ds) (let z = e xs in let y : w + words_c (mk xs) ≡ w + 1 + words_cs xs = omega arith in y)

    by_kind : (k : ℕ) → kind_in bs ≡ k → k < 6 → sized words_c w (need 4 bs (fields_c reader k (drop 4 bs))) ≡
        need (4 + plain_width k) bs (all_conditions d (w + 1) (drop (4 + plain_width k) bs) (arms_of (plain_word (lead_in bs))))
    unfolding plain_width
    by_kind zero e l = sized_need words_c w 4 bs (got always (drop 4 bs)) ∙ ap (λ m. need 4 bs (got m (drop 4 bs))) (leaf w) ∙ ap (λ n. need 4 bs (all_conditions d (w + 1) (drop 4 bs) n)) (sym (arms_are 0 0 e refl (omega arith)))
    by_kind (suc zero) e l = sized_need words_c w 4 bs (got never (drop 4 bs)) ∙ ap (λ m. need 4 bs (got m (drop 4 bs))) (leaf w) ∙ ap (λ n. need 4 bs (all_conditions d (w + 1) (drop 4 bs) n)) (sym (arms_are 1 0 e refl (omega arith)))
    by_kind (suc (suc zero)) e l =
        ap (sized words_c w) (step_bits 4 10 bs (λ f cs. got (has f) cs)) ∙ sized_need words_c w 14 bs (got (has (field_in 4 10 bs)) (drop 14 bs)) ∙ ap (λ m. need 14 bs (got m (drop 14 bs))) (leaf w)
        ∙ ap (λ n. need 14 bs (all_conditions d (w + 1) (drop 14 bs) n)) (sym (arms_are 2 10 e refl (omega arith)))
    by_kind (suc (suc (suc zero))) e l =
        sized_need words_c w 4 bs (next (reader (drop 4 bs)) (λ c cs. got (not_c c) cs))
        ∙ ap (need 4 bs) (one_arm (reader (drop 4 bs)))
        ∙ ap (λ n. need 4 bs (all_conditions d (w + 1) (drop 4 bs) n)) (sym (arms_are 3 0 e refl (omega arith)))
    by_kind (suc (suc (suc (suc zero)))) e l =
        ap (sized words_c w) (step_bits 4 12 bs (λ n cs. next (many cnil ccons reader n cs) (λ xs ds. got (all_c xs) ds)))
        ∙ sized_need words_c w 16 bs (next (many cnil ccons reader (field_in 4 12 bs) (drop 16 bs)) (λ xs ds. got (all_c xs) ds))
        ∙ ap (need 16 bs) (all_arms all_c (λ xs. refl) (many cnil ccons reader (field_in 4 12 bs) (drop 16 bs)))
        ∙ ap (λ n. need 16 bs (all_conditions d (w + 1) (drop 16 bs) n)) (sym (arms_are 4 12 e refl (omega arith) ∙ count_is 12 refl))
    by_kind (suc (suc (suc (suc (suc zero))))) e l =
        ap (sized words_c w) (step_bits 4 12 bs (λ n cs. next (many cnil ccons reader n cs) (λ xs ds. got (any_c xs) ds)))
        ∙ sized_need words_c w 16 bs (next (many cnil ccons reader (field_in 4 12 bs) (drop 16 bs)) (λ xs ds. got (any_c xs) ds))
        ∙ ap (need 16 bs) (all_arms any_c (λ xs. refl) (many cnil ccons reader (field_in 4 12 bs) (drop 16 bs)))
        ∙ ap (λ n. need 16 bs (all_conditions d (w + 1) (drop 16 bs) n)) (sym (arms_are 5 12 e refl (omega arith) ∙ count_is 12 refl))
    by_kind (suc (suc (suc (suc (suc (suc k)))))) e l = let z : ⊥ = omega arith in absurd z

    pub condition_step : kind_in bs < 6 → one_condition (suc d) w bs ≡
        need (4 + plain_width (kind_in bs)) bs (all_conditions d (w + 1) (drop (4 + plain_width (kind_in bs)) bs) (arms_of (plain_word (lead_in bs))))
    condition_step l =
        ap (sized words_c w) (first_bits 4 bs (λ k cs. fields_c reader k cs) ∙ ap (λ k. need 4 bs (fields_c reader k (drop 4 bs))) (sym kind_first))
        ∙ by_kind (kind_in bs) refl l

  -- A kind that isn't allowed, and a level too many.
  past_c : (d k : ℕ) → 6 ≤ k → fields_c (λ ds. loose_c d ds) k (drop 4 bs) ≡ refuse 5
  past_c d k l = grind arith

  pub condition_bad : (d w : ℕ) → 4 ≤ length bs → 6 ≤ kind_in bs → one_condition d w bs ≡ refuse 5
  condition_bad zero w n l =
      ap (sized words_c w) (first_bits 4 bs (λ k cs. unless (ltb k 6) 5 (refuse 7)) ∙ need_there 4 bs _ n ∙ ap (λ k. unless (ltb k 6) 5 (refuse 7)) (sym kind_first) ∙ ap (λ b. unless b 5 (refuse 7)) (le-ltb (kind_in bs) 6 l))
  condition_bad (suc d) w n l =
      ap (sized words_c w) (first_bits 4 bs (λ k cs. fields_c (λ ds. loose_c d ds) k cs) ∙ need_there 4 bs _ n ∙ ap (λ k. fields_c (λ ds. loose_c d ds) k (drop 4 bs)) (sym kind_first) ∙ past_c d (kind_in bs) l)

  pub condition_deep : (w : ℕ) → 4 ≤ length bs → kind_in bs < 6 → one_condition 0 w bs ≡ refuse 7
  condition_deep w n l =
      ap (sized words_c w) (first_bits 4 bs (λ k cs. unless (ltb k 6) 5 (refuse 7)) ∙ need_there 4 bs _ n ∙ ap (λ k. unless (ltb k 6) 5 (refuse 7)) (sym kind_first) ∙ ap (λ b. unless b 5 (refuse 7)) (lt-ltb (kind_in bs) 6 l))

  pub condition_ended : (d w : ℕ) → length bs < 4 → one_condition d w bs ≡ refuse 19
  condition_ended zero w n = ap (sized words_c w) (first_bits 4 bs (λ k cs. unless (ltb k 6) 5 (refuse 7)) ∙ need_ended 4 bs _ n)
  condition_ended (suc d) w n = ap (sized words_c w) (first_bits 4 bs (λ k cs. fields_c (λ ds. loose_c d ds) k cs) ∙ need_ended 4 bs _ n)

  -- ---- policies without lists
  module _ (res : Bool) (d w : ℕ) where
    abbrev reads : List ℕ → Parsed (Policy Outcome)
    reads ds = loose value res d ds

    two_arms : (q : Parsed (Policy Outcome)) → sized words w (next q (λ a cs. next (reads cs) (λ b ds. got (or_else a b) ds))) ≡
        sized wordss (w + 1) (next q (λ a vs. next (next (reads vs) (λ b us. next (got pnil us) (λ xs ts. got (pcons b xs) ts))) (λ xs us. got (pcons a xs) us)))
    two_arms (refuse n) = refl
    two_arms (got a cs) = second (reads cs)
      where
        second : (q : Parsed (Policy Outcome)) → sized words w (next q (λ b ds. got (or_else a b) ds)) ≡ sized wordss (w + 1) (next (next q (λ b us. next (got pnil us) (λ xs ts. got (pcons b xs) ts))) (λ xs us. got (pcons a xs) us))
        second (refuse n) = refl
        second (got b ds) = ap (λ m. got m ds) (let z : w + (1 + words a + words b) ≡ w + 1 + (words a + (words b + 0)) = omega arith in z)

    all_policies_lem : (mk : Policies Outcome → Policy Outcome) → ((xs : Policies Outcome) → words (mk xs) ≡ 1 + wordss xs) → (q : Parsed (Policies Outcome)) → sized words w (next q (λ xs ds. got (mk xs) ds)) ≡ sized wordss (w + 1) q
    all_policies_lem mk e (refuse n) = refl
    all_policies_lem mk e (got xs ds) = ap (λ m. got m ds) (let z = e xs in let y : w + words (mk xs) ≡ w + 1 + wordss xs = omega arith in y)

    abbrev pc : List ℕ → Parsed Condition
    pc ds = loose_c d ds

    plain_kind : (j : ℕ) → kind_in bs ≡ 6 + j → (j ≡ 2 → ⊥) → j < 6 → sized words w (need 4 bs (fields_p value res pc reads j (drop 4 bs))) ≡
        need (4 + plain_width (6 + j)) bs (all_policies res d (w + 1) (drop (4 + plain_width (6 + j)) bs) (arms_of (plain_word (lead_in bs))))
    unfolding plain_width
    plain_kind zero e g l =
        ap (sized words w) (step_bits 4 16 bs (λ v cs. outcome_of value (value v) (λ o. got (permit o) cs)) ∙ ap (need 20 bs) (outcome_is (field_in 4 16 bs) (field_small 4 16 bs h) (λ o. got (permit o) (drop 20 bs))))
        ∙ sized_need words w 20 bs (got (permit (field_in 4 16 bs)) (drop 20 bs)) ∙ ap (λ m. need 20 bs (got m (drop 20 bs))) (leaf w)
        ∙ ap (λ n. need 20 bs (all_policies res d (w + 1) (drop 20 bs) n)) (sym (arms_are 6 16 e refl (omega arith)))
    plain_kind (suc zero) e g l = sized_need words w 4 bs (got deny (drop 4 bs)) ∙ ap (λ m. need 4 bs (got m (drop 4 bs))) (leaf w) ∙ ap (λ n. need 4 bs (all_policies res d (w + 1) (drop 4 bs) n)) (sym (arms_are 7 0 e refl (omega arith)))
    plain_kind (suc (suc zero)) e g l = absurd (g refl)
    plain_kind (suc (suc (suc zero))) e g l =
        ap (sized words w) (step_bits 4 12 bs (λ n cs. next (many pnil pcons reads n cs) (λ xs ds. got (all xs) ds)))
        ∙ sized_need words w 16 bs (next (many pnil pcons reads (field_in 4 12 bs) (drop 16 bs)) (λ xs ds. got (all xs) ds))
        ∙ ap (need 16 bs) (all_policies_lem all (λ xs. refl) (many pnil pcons reads (field_in 4 12 bs) (drop 16 bs)))
        ∙ ap (λ n. need 16 bs (all_policies res d (w + 1) (drop 16 bs) n)) (sym (arms_are 9 12 e refl (omega arith) ∙ count_is 12 refl))
    plain_kind (suc (suc (suc (suc zero)))) e g l =
        ap (sized words w) (step_bits 4 12 bs (λ n cs. next (many pnil pcons reads n cs) (λ xs ds. got (any xs) ds)))
        ∙ sized_need words w 16 bs (next (many pnil pcons reads (field_in 4 12 bs) (drop 16 bs)) (λ xs ds. got (any xs) ds))
        ∙ ap (need 16 bs) (all_policies_lem any (λ xs. refl) (many pnil pcons reads (field_in 4 12 bs) (drop 16 bs)))
        ∙ ap (λ n. need 16 bs (all_policies res d (w + 1) (drop 16 bs) n)) (sym (arms_are 10 12 e refl (omega arith) ∙ count_is 12 refl))
    plain_kind (suc (suc (suc (suc (suc zero))))) e g l =
        sized_need words w 4 bs (next (reads (drop 4 bs)) (λ a cs. next (reads cs) (λ b ds. got (or_else a b) ds)))
        ∙ ap (need 4 bs) (two_arms (reads (drop 4 bs)))
        ∙ ap (λ n. need 4 bs (all_policies res d (w + 1) (drop 4 bs) n)) (sym (arms_are 11 0 e refl (omega arith)))
    plain_kind (suc (suc (suc (suc (suc (suc j)))))) e g l = let z : ⊥ = omega arith in absurd z

    -- A policy by its kind, once the kind is there.
    kind_there : 6 ≤ kind_in bs → loose value res (suc d) bs ≡ need 4 bs (fields_p value res pc reads (kind_in bs - 6) (drop 4 bs))
    kind_there l =
        first_bits 4 bs (λ k cs. unless (leb 6 k) 5 (fields_p value res pc reads (k - 6) cs))
        ∙ ap (λ k. need 4 bs (unless (leb 6 k) 5 (fields_p value res pc reads (k - 6) (drop 4 bs)))) (sym kind_first)
        ∙ ap (λ b. need 4 bs (unless b 5 (fields_p value res pc reads (kind_in bs - 6) (drop 4 bs)))) (le-leb 6 (kind_in bs) l)

    pub policy_step : 6 ≤ kind_in bs → (kind_in bs ≡ 8 → ⊥) → kind_in bs < 12 → one_policy res (suc d) w bs ≡
        need (4 + plain_width (kind_in bs)) bs (all_policies res d (w + 1) (drop (4 + plain_width (kind_in bs)) bs) (arms_of (plain_word (lead_in bs))))
    policy_step l g m =
        let k = kind_in bs in
        let e : k ≡ 6 + (k - 6) = omega arith in
        ap (sized words w) (kind_there l)
        ∙ plain_kind (k - 6) e (λ z. g (omega arith)) (omega arith)
        ∙ ap (λ j. need (4 + plain_width j) bs (all_policies res d (w + 1) (drop (4 + plain_width j) bs) (arms_of (plain_word (lead_in bs))))) (sym e)

    -- A Grant: the obligation count, then the other fields, then its condition.
    grant_size : (q : Parsed Condition) → sized words w (next q (λ c cs. got (grant (grant_read bs h) c) cs)) ≡ sized words_c (w + node_count (grant_node bs)) q
    unfolding grant_node
    grant_size (refuse n) = refl
    grant_size (got c cs) =
        let n = owed_8 bs h in
        let l = length_fields 6 (owed8_in bs h) (drop (grant_node bs).width bs) in
        ap (λ m. got m cs) (ap (λ x. w + (2 + words_for 4 x + words_c c)) (l ∙ sym n) ∙ (let x = words_for 4 (grant_node bs).obligations in let z : w + (2 + x + words_c c) ≡ w + (2 + x + 0) + words_c c = omega arith in z))

    pub grant_step : kind_in bs ≡ 8 → one_policy res (suc d) w bs ≡
        need 12 bs (unless (few_obligations (owed8_in bs h)) 8 (need (node_length (grant_node bs)) bs (one_condition d (w + node_count (grant_node bs)) (drop (node_length (grant_node bs)) bs))))
    grant_step e =
        let l = node_length (grant_node bs) in
        let q = next (pc (drop l bs)) (λ c cs. got (grant (grant_read bs h) c) cs) in
        ap (sized words w) (kind_there (omega arith) ∙ ap (λ j. need 4 bs (fields_p value res pc reads (j - 6) (drop 4 bs))) e ∙ normal_8 bs h pc)
        ∙ sized_need words w 12 bs (unless (few_obligations (owed8_in bs h)) 8 (need l bs q))
        ∙ ap (need 12 bs) (sized_unless words w (few_obligations (owed8_in bs h)) 8 (need l bs q))
        ∙ ap (λ x. need 12 bs (unless (few_obligations (owed8_in bs h)) 8 x)) (sized_need words w l bs q ∙ ap (need l bs) (grant_size (pc (drop l bs))))

  -- ---- 12 and 13, in a residual
  module _ (d w : ℕ) where
    stored_need : (s : ℕ) (q : Parsed (Decision Outcome)) → need s bs (as_stored value q) ≡ as_stored value (need s bs q)
    stored_need s q = by (leb s (length bs))
      where
        by : (b : Bool) → cond b (as_stored value q) (refuse 19) ≡ as_stored value (cond b q (refuse 19))
        by true = refl
        by false = refl

    pub permit_step : kind_in bs ≡ 12 → one_policy true (suc d) w bs ≡ need (node_length (permit_node bs)) bs (got (w + node_count (permit_node bs)) (drop (node_length (permit_node bs)) bs))
    unfolding permit_node
    permit_step e =
        let l = node_length (permit_node bs) in
        let p = permit_read bs h in
        ap (sized words w) (kind_there true d w (omega arith) ∙ ap (λ j. need 4 bs (fields_p value true (λ ds. loose_c d ds) (λ ds. loose value true d ds) (j - 6) (drop 4 bs))) e ∙ stored_need 4 (fields12 value (drop 4 bs)) ∙ ap (as_stored value) (normal_12 bs h) ∙ sym (stored_need l (got (permits p) (drop l bs))))
        ∙ sized_need words w l bs (got (stored (permits p)) (drop l bs))
        ∙ ap (λ m. need l bs (got m (drop l bs)))
        (ap₂ (λ x y. w + (2 + words_for 4 x + words_for 2 y)) (length_fields 6 (permit_node bs).obligations (drop (permit_node bs).width bs)) (length_fields 10 (permit_node bs).facts (drop ((permit_node bs).width + 6 * (permit_node bs).obligations) bs)))

    pub deny_step : kind_in bs ≡ 13 → one_policy true (suc d) w bs ≡ need (node_length (deny_node bs)) bs (got (w + node_count (deny_node bs)) (drop (node_length (deny_node bs)) bs))
    unfolding deny_node
    deny_step e =
        let l = node_length (deny_node bs) in
        let p = deny_read bs h in
        ap (sized words w) (kind_there true d w (omega arith) ∙ ap (λ j. need 4 bs (fields_p value true (λ ds. loose_c d ds) (λ ds. loose value true d ds) (j - 6) (drop 4 bs))) e ∙ stored_need 4 (fields13 value (drop 4 bs)) ∙ ap (as_stored value) (normal_13 bs h) ∙ sym (stored_need l (got (denies p) (drop l bs))))
        ∙ sized_need words w l bs (got (stored (denies p)) (drop l bs))
        ∙ ap (λ m. need l bs (got m (drop l bs)))
        (ap (λ y. w + (3 + words_for 2 y)) (length_fields 10 (deny_node bs).facts (drop (deny_node bs).width bs)) ∙ (let x = words_for 2 (deny_node bs).facts in let z : w + (3 + x) ≡ w + (3 + 0 + x) = omega arith in z))

  -- A kind that isn't allowed here, a level too many, and bits that end before the kind.
  past_p : (res : Bool) (d j : ℕ) → last_kind res < 6 + j → fields_p value res (λ ds. loose_c d ds) (λ ds. loose value res d ds) j (drop 4 bs) ≡ refuse 5
  past_p res d j l = grind arith

  bad_by : (res : Bool) (d : ℕ) (low : Bool) → leb 6 (kind_in bs) ≡ low → (low ≡ true → last_kind res < kind_in bs) → unless low 5 (fields_p value res (λ ds. loose_c d ds) (λ ds. loose value res d ds) (kind_in bs - 6) (drop 4 bs)) ≡ refuse 5
  bad_by res d false e f = refl
  bad_by res d true e f =
      let k = kind_in bs in
      let six : 6 ≤ k = leb-true 6 k e in
      past_p res d (k - 6) (subst (λ n. last_kind res < n) (let z : k ≡ 6 + (k - 6) = omega arith in z) (f refl))

  pub policy_bad : (res : Bool) (d w : ℕ) → 4 ≤ length bs → (6 ≤ kind_in bs → last_kind res < kind_in bs) → one_policy res d w bs ≡ refuse 5
  policy_bad res zero w n f =
      ap (sized words w) (first_bits 4 bs (λ k cs. unless (leb 6 k && leb k (last_kind res)) 5 (refuse 7)) ∙ need_there 4 bs _ n ∙ ap (λ k. unless (leb 6 k && leb k (last_kind res)) 5 (refuse 7)) (sym kind_first) ∙ by (leb 6 (kind_in bs)) refl)
    where
      by : (b : Bool) → leb 6 (kind_in bs) ≡ b → unless (b && leb (kind_in bs) (last_kind res)) 5 (refused_p 7) ≡ refuse 5
      by false e = refl
      by true e = ap (λ b. unless b 5 (refused_p 7)) (lt-leb (kind_in bs) (last_kind res) (f (leb-true 6 (kind_in bs) e)))
  policy_bad res (suc d) w n f =
      ap (sized words w)
      (first_bits 4 bs (λ k cs. unless (leb 6 k) 5 (fields_p value res (λ ds. loose_c d ds) (λ ds. loose value res d ds) (k - 6) cs))
      ∙ need_there 4 bs _ n
      ∙ ap (λ k. unless (leb 6 k) 5 (fields_p value res (λ ds. loose_c d ds) (λ ds. loose value res d ds) (k - 6) (drop 4 bs))) (sym kind_first)
      ∙ bad_by res d (leb 6 (kind_in bs)) refl (λ e. f (leb-true 6 (kind_in bs) e)))

  pub policy_deep : (res : Bool) (w : ℕ) → 4 ≤ length bs → 6 ≤ kind_in bs → kind_in bs ≤ last_kind res → one_policy res 0 w bs ≡ refuse 7
  policy_deep res w n l m =
      ap (sized words w) (first_bits 4 bs (λ k cs. unless (leb 6 k && leb k (last_kind res)) 5 (refuse 7)) ∙ need_there 4 bs _ n ∙ ap (λ k. unless (leb 6 k && leb k (last_kind res)) 5 (refuse 7)) (sym kind_first)
      ∙ ap₂ (λ a b. unless (a && b) 5 (refused_p 7)) (le-leb 6 (kind_in bs) l) (le-leb (kind_in bs) (last_kind res) m))

  pub policy_ended : (res : Bool) (d w : ℕ) → length bs < 4 → one_policy res d w bs ≡ refuse 19
  policy_ended res zero w n = ap (sized words w) (first_bits 4 bs (λ k cs. unless (leb 6 k && leb k (last_kind res)) 5 (refuse 7)) ∙ need_ended 4 bs _ n)
  policy_ended res (suc d) w n = ap (sized words w) (first_bits 4 bs (λ k cs. unless (leb 6 k) 5 (fields_p value res (λ ds. loose_c d ds) (λ ds. loose value res d ds) (k - 6) cs)) ∙ need_ended 4 bs _ n)
