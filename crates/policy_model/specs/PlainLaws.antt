-- What a plain grant's three words say, where it stands, and that it is read there. Assumes nothing.
use Rattle.std.specs.Prelude.{◌≡◌, refl, Bool, true, false, List, [], ◌∷◌, ℕ, suc, ◌+◌, ◌/◌, ◌%◌, ◌≤◌, ◌<◌, eqb, leb, length, drop, get_or}
use Rattle.std.proofs.Common.{sym, ◌∙◌, ap, arith, eqb-true, leb-true, leb-false, lt-ltb, length-drop, drop-cons}
use Rattle.std.proofs.Math.Option.{none}
use Rattle.std.proofs.lemmas.Bool.{and_parts}
use Rattle.model.specs.Outcome.{below}
use Rattle.model.specs.Condition.{Condition, has}
use Rattle.model.specs.Policy.{Policy, grant}
use Rattle.model.specs.Reading.{Parsed, got, next, unless, shape_of, read_condition}
use Rattle.model.specs.Reading as reading
use Rattle.model.specs.Products.{Outcome, read_policy}
use Rattle.policy_model.specs.declared.PolicyHead.{PolicyHead}
use Rattle.policy_model.specs.declared.PolicyHead.TheVariants.{Grant}
use Rattle.policy_model.specs.Heads.{condition_node, within_most, shape_by, bit_of, grant_node, policy_node}
use Rattle.policy_model.specs.HeadLaws.{condition_node_lem, policy_node_by, bit_is, has_word, grant_word}
use Rattle.policy_model.specs.Plain.{plain_grant, shape_bit, plain_policy}

-- ---- what the three words say
record Told (w v u : ℕ) : Type 0 where
  kind : w / 268435456 ≡ 8
  no_obligation : w / 65536 % 2048 ≡ 0
  no_mark : v ≡ 0
  has_it : u / 1024 ≡ 524288

told : (w v u : ℕ) (ws : List ℕ) → plain_grant (w ∷ v ∷ u ∷ ws) ≡ true → Told w v u
unfolding plain_grant
told w v u ws e =
    let first = and_parts _ _ e in
    let second = and_parts _ _ first.1 in
    let third = and_parts _ _ second.1 in
    record { kind = eqb-true _ _ first.0; no_obligation = eqb-true _ _ second.0; no_mark = eqb-true _ _ third.0; has_it = eqb-true _ _ third.1 }

pub plain_short : (ws : List ℕ) → length ws < 3 → plain_grant ws ≡ false
unfolding plain_grant
plain_short [] h = refl
plain_short (w ∷ []) h = refl
plain_short (w ∷ v ∷ []) h = refl
plain_short (w ∷ v ∷ u ∷ ws) h = absurd (omega arith)

three_words : (ws : List ℕ) (b : Bool) → leb 3 (length ws) ≡ b → plain_grant ws ≡ true → 3 ≤ length ws
three_words ws true e p = leb-true 3 (length ws) e
three_words ws false e p = let no : plain_grant ws ≡ false = plain_short ws (leb-false 3 (length ws) e) in absurd cc

pub three_here : (sheet : List ℕ) (at : ℕ) → at + 2 < length sheet → drop at sheet ≡ get_or sheet at 0 ∷ get_or sheet (at + 1) 0 ∷ get_or sheet (at + 2) 0 ∷ drop (at + 3) sheet
three_here sheet at h =
    let at_1 : suc at ≡ at + 1 = omega arith in
    let at-2 : suc (at + 1) ≡ at + 2 = omega arith in
    let at-3 : suc (at + 2) ≡ at + 3 = omega arith in
    drop-cons sheet at 0 (omega arith)
    ∙ ap (λ l. get_or sheet at 0 ∷ l) (ap (λ i. drop i sheet) at_1 ∙ drop-cons sheet (at + 1) 0 (omega arith))
    ∙ ap (λ l. get_or sheet at 0 ∷ get_or sheet (at + 1) 0 ∷ l) (ap (λ i. drop i sheet) at-2 ∙ drop-cons sheet (at + 2) 0 (omega arith))
    ∙ ap (λ i. get_or sheet at 0 ∷ get_or sheet (at + 1) 0 ∷ get_or sheet (at + 2) 0 ∷ drop i sheet) at-3

condition_of : (d u : ℕ) (ws : List ℕ) → u / 1024 ≡ 524288 → read_condition (suc d) (u ∷ ws) ≡ got (has (u % 1024)) ws
unfolding condition_node
condition_of d u ws e = condition_node_lem d u ws ∙ ap (λ h. condition_node (λ vs. read_condition d vs) h ws) (sym (has_word u e))

policy_of : (most : ℕ) (res : Bool) (d w u : ℕ) (ws : List ℕ) → w % 65536 < most → w / 268435456 ≡ 8 → w / 65536 % 2048 ≡ 0 → u / 1024 ≡ 524288 →
    reading.read_policy (below most) res (suc (suc d)) (w ∷ 0 ∷ u ∷ ws) ≡ got (plain_policy w u) ws
unfolding policy_node grant_node
policy_of most res d w u ws m k n h =
    let given : ℕ → Condition → Policy Outcome = λ s c. grant (record { outcome = w % 65536; obligations = []; label = none; reason = none; shape = shape_of s }) c in
    let by : PolicyHead → Parsed (Policy Outcome) = λ q. policy_node (λ vs. read_condition (suc d) vs) (λ vs. reading.read_policy (below most) res (suc d) vs) q (0 ∷ u ∷ ws) in
    policy_node_by most res (suc d) w (0 ∷ u ∷ ws)
    ∙ ap (λ q. unless (within_most most q) 8 (by q)) (sym (grant_word w res k n))
    ∙ ap (λ b. unless b 8 (by (Grant (shape_by (eqb (shape_bit w) 1)) 0 (w % 65536)))) (lt-ltb (w % 65536) most m)
    ∙ ap (λ q. next q (λ c us. got (given (bit_of (shape_by (eqb (shape_bit w) 1))) c) us)) (condition_of d u ws h)
    ∙ ap (λ s. got (given s (has (u % 1024))) ws) (bit_is (shape_bit w) (omega arith))

-- ---- where one stands
module _ (sheet : List ℕ) (at : ℕ) (plain : plain_grant (drop at sheet) ≡ true) where
  pub plain_inside : at + 2 < length sheet
  plain_inside = omega (arith, three_words (drop at sheet) (leb 3 (length (drop at sheet))) refl plain, length-drop at sheet)

  all_told : Told (get_or sheet at 0) (get_or sheet (at + 1) 0) (get_or sheet (at + 2) 0)
  all_told = told _ _ _ _ (rw (three_here sheet at plain_inside) at plain)

  plain_marks : get_or sheet (at + 1) 0 ≡ 0
  plain_marks = all_told.no_mark

  -- The policy is read, at every level that has one below it, where its outcome is one.
  pub plain_reads_by : (most : ℕ) → get_or sheet at 0 % 65536 < most → (res : Bool) (d : ℕ) →
      reading.read_policy (below most) res (suc (suc d)) (drop at sheet) ≡ got (plain_policy (get_or sheet at 0) (get_or sheet (at + 2) 0)) (drop (at + 3) sheet)
  plain_reads_by most m res d =
      ap (λ ws. reading.read_policy (below most) res (suc (suc d)) ws) (three_here sheet at plain_inside ∙ ap (λ v. get_or sheet at 0 ∷ v ∷ get_or sheet (at + 2) 0 ∷ drop (at + 3) sheet) plain_marks)
      ∙ policy_of most res d (get_or sheet at 0) (get_or sheet (at + 2) 0) (drop (at + 3) sheet) m all_told.kind all_told.no_obligation all_told.has_it

  pub plain_reads : (res : Bool) (d : ℕ) → read_policy res (suc (suc d)) (drop at sheet) ≡ got (plain_policy (get_or sheet at 0) (get_or sheet (at + 2) 0)) (drop (at + 3) sheet)
  plain_reads res d = plain_reads_by 65536 (omega arith) res d
