-- What is restored of bits, node by node, is the words of what is read of them.
use Rattle.std.specs.Prelude.{◌≡◌, Bool, ◌&&◌, ltb, leb, drop}
use Rattle.std.proofs.Math.Path.{refl, sym, ap, ap₂, subst}
use Rattle.std.proofs.Common.{◌∙◌, length-drop, drop-drop}
use Rattle.std.proofs.Math.Bool.{true, false, cond}
use Rattle.std.proofs.Math.Option.{none, some}
use mathlib.Core.List.{List, [], ◌∷◌, ◌++◌, map, append_assoc, append-nil}
use Prim.Native.Nat.{ℕ, zero, suc, ◌+◌, ◌-◌, ◌*◌, ◌%◌, ◌^◌, ◌≤◌, ◌<◌}
use native.Mathlib.Omega.{arith}
use borrow.Author.Tests.{le-ltb, eqb-false, leb-true}
use Rattle.std.proofs.Math.Dec.{eqb}
use Rattle.std.proofs.Math.Pow.{pow_mono}
use Rattle.std.proofs.Math.ListN.{length}
use Rattle.model.specs.Fields.{joined, pack}
use Rattle.model.specs.Outcome.{product_sets}
use Rattle.model.specs.Condition.{Condition, always, never, has, not_c, all_c, any_c, cnil, ccons}
use Rattle.model.specs.Decision.{Decision, permits, denies}
use Rattle.model.specs.Policy.{Policy, permit, deny, grant, all, any, or_else, pnil, pcons}
use Rattle.model.specs.Writing.{obligation_bits, entry_bits, word, shape_bit, marked, count_c, count, encode_c, encode_cs, denied_field, encode_d, encode, encodes}
use Rattle.model.specs.Reading.{Parsed, refuse, got, next, unless, many, few_obligations, shape_of, outcome_of, in_residual, as_stored}
use Rattle.model.specs.Products.{Outcome, last_kind}
use Rattle.model.specs.Tight.{loose_c, fields_c, fields12, fields13, fields_p, loose}
use Rattle.laws.proofs.BitLaws.{Bits}
use Rattle.laws.proofs.FieldLaws.{Holds, fine, nothing, if_holds, then_holds}
use Rattle.laws.proofs.WordLaws.{narrow_drop}
use Rattle.laws.proofs.NodeLaws.{shape_again}
use Rattle.bits.specs.Widths.{has_lists, plain_width, mark_width, denied_width}
use Rattle.unpack.specs.declared.Node.{Node}
use Rattle.unpack.specs.Nodes.{field_in, fields_in, mark_in, loose_entry, lead_in, kind_in, plain_word, grant_middle, grant_node, permit_middle, permit_node, deny_lead, deny_first, deny_before, deny_middle, deny_after, deny_node, list_node, node_length, node_words, restored_node, node_bits, restored}
use Rattle.unpack.specs.FieldLaws.{need, step_bits, first_bits, field_small, field_parts, option_of, length_fields}
use Rattle.unpack.specs.NormalLaws.{value, field_split, outcome_is, permit_read, normal_12, deny_read, denied_read, denied_width_lem, normal_13, owed8_in, grant_read, normal_8}
use Rattle.unpack.specs.StepLaws.{kind_first, plain_word_is}

-- ---- from one node to the next
restored_ended : (bs : List ℕ) (p : ℕ) → restored bs p 0 ≡ []
unfolding restored
restored_ended [] p = refl
restored_ended (b ∷ bs) p = refl

pub restored_pass : (bs : List ℕ) (p n : ℕ) → restored bs p n ≡ restored (drop p bs) 0 (n - p)
unfolding restored
restored_pass [] zero n = refl
restored_pass [] (suc p) n = refl
restored_pass (b ∷ bs) zero n = ap (restored (b ∷ bs) 0) (let e : n ≡ n - 0 = omega arith in e)
restored_pass (b ∷ bs) (suc p) zero = sym (ap (restored (drop p bs) 0) (let e : 0 - suc p ≡ 0 = omega arith in e) ∙ restored_ended (drop p bs) 0)
restored_pass (b ∷ bs) (suc p) (suc n) = restored_pass bs p n ∙ ap (restored (drop p bs) 0) (let e : n - p ≡ suc n - suc p = omega arith in e)

-- One node, and then the others.
restored_begins : (b : ℕ) (bs : List ℕ) (n : ℕ) → restored (b ∷ bs) 0 (suc n) ≡ restored_node (b ∷ bs) ++ restored bs (node_bits (b ∷ bs) - 1) n
unfolding restored
restored_begins b bs n = refl

pub restored_node_lem : (bs : List ℕ) (m : ℕ) → 1 ≤ node_bits bs → node_bits bs ≤ length bs → restored bs 0 (node_bits bs + m) ≡ restored_node bs ++ restored (drop (node_bits bs) bs) 0 m
restored_node_lem [] m h k = let z : ⊥ = omega arith in absurd z
restored_node_lem (b ∷ bs) m h k =
    let l = node_bits (b ∷ bs) in
    let e : l + m ≡ suc (l - 1 + m) = omega arith in
    ap (restored (b ∷ bs) 0) e
    ∙ restored_begins b bs (l - 1 + m)
    ∙ ap (λ x. restored_node (b ∷ bs) ++ x)
    (restored_pass bs (l - 1) (l - 1 + m)
    ∙ ap₂ (λ x y. restored x 0 y) (ap (λ n. drop n (b ∷ bs)) (let z : suc (l - 1) ≡ l = omega arith in z)) (let z : l - 1 + m - (l - 1) ≡ m = omega arith in z))

pub restored_none : (bs : List ℕ) → restored bs 0 0 ≡ []
restored_none bs = restored_ended bs 0

-- At a position, to the end; a node that isn't whole there is the last.
front : (bs : List ℕ) (n : ℕ) → 1 ≤ length bs → 1 ≤ n → 1 ≤ node_bits bs → restored bs 0 n ≡ restored_node bs ++ restored (drop (node_bits bs) bs) 0 (n - node_bits bs)
front [] n a b c = let z : ⊥ = omega arith in absurd z
front (x ∷ bs) n a b c =
    let l = node_bits (x ∷ bs) in
    ap (restored (x ∷ bs) 0) (let e : n ≡ suc (n - 1) = omega arith in e)
    ∙ restored_begins x bs (n - 1)
    ∙ ap (λ y. restored_node (x ∷ bs) ++ y)
    (restored_pass bs (l - 1) (n - 1)
    ∙ ap₂ (λ u v. restored u 0 v) (ap (λ k. drop k (x ∷ bs)) (let z : suc (l - 1) ≡ l = omega arith in z)) (let z : n - 1 - (l - 1) ≡ n - l = omega arith in z))

pub restored_step : (run : List ℕ) (at end : ℕ) → at < end → end ≤ length run → 1 ≤ node_bits (drop at run) →
    restored (drop at run) 0 (end - at) ≡ restored_node (drop at run) ++ restored (drop (at + node_bits (drop at run)) run) 0 (end - (at + node_bits (drop at run)))
restored_step run at end l k s =
    let bs = drop at run in
    let n = node_bits bs in
    front bs (end - at) (omega (arith, length-drop at run)) (omega arith) s
    ∙ ap₂ (λ x m. restored_node bs ++ restored x 0 m) (drop-drop n at run) (let e : end - at - n ≡ end - (at + n) = omega arith in e)

-- ---- the words of a node
module _ (bs : List ℕ) (h : Bits bs) where
  mark_shape : (s : ℕ) → marked (option_of (mark_in s bs)) ≡ mark_in s bs
  unfolding mark_in
  mark_shape s = by (eqb (field_in s 1 bs) 0) refl
    where
      by : (b : Bool) → eqb (field_in s 1 bs) 0 ≡ b → marked (option_of (cond b 0 (field_in s 16 bs))) ≡ cond b 0 (field_in s 16 bs)
      by true e = refl
      by false e =
          let v = field_in (s + 1) 15 bs in
          let f = eqb-false (field_in s 1 bs) 0 e in
          let parts = field_parts s 15 bs in
          let top : 32768 ≤ field_in s 16 bs = at_least (field_in s 1 bs) v f parts in
          ap (λ b. marked (cond b none (some (field_in s 16 bs - 32768)))) (le-ltb (field_in s 16 bs) 32768 top) ∙ (let z : 32768 + (field_in s 16 bs - 32768) ≡ field_in s 16 bs = omega arith in z)
        where
          at_least : (x v : ℕ) → (x ≡ 0 → ⊥) → field_in s 16 bs ≡ x * 32768 + v → 32768 ≤ field_in s 16 bs
          at_least zero v f e = absurd (f refl)
          at_least (suc x) v f e = omega arith

  fields_same : (w n : ℕ) (cs : List ℕ) → Bits cs → w ≤ 10 → map loose_entry (fields_in w n cs) ≡ fields_in w n cs
  unfolding fields_in
  fields_same w zero cs k l = refl
  fields_same w (suc n) cs k l =
      let s = field_small 0 w cs k in
      let m : 2 ^ w ≤ 2 ^ 10 = pow_mono {i = w} {j = 10} l in
      ap₂ (λ x y. x ∷ y) (let z : loose_entry (joined 1 w cs) ≡ joined 1 w cs = omega arith in z) (fields_same w n (drop w cs) (narrow_drop 1 w cs k) l)

  bits_at : (n : ℕ) → Bits (drop n bs)
  bits_at n = narrow_drop 1 n bs h

  pub permit_words_lem : encode_d product_sets.number (permits (permit_read bs h)) ≡ node_words (permit_node bs) bs
  unfolding permit_node node_words
  permit_words_lem =
      let n = field_in 4 7 bs in
      let m = field_in (permit_middle bs) 12 bs in
      let o = field_in 11 16 bs in
      let width = permit_middle bs + 12 in
      let os = fields_in 6 n (drop width bs) in
      let fs = fields_in 10 m (drop (width + 6 * n) bs) in
      let a = length_fields 6 n (drop width bs) in
      let b = length_fields 10 m (drop (width + 6 * n) bs) in
      let c = mark_shape 27 in
      let first : word 12 (length os * 1048576 + o) ≡ 12 * 268435456 + n * 1048576 + o = ap (λ x. word 12 (x * 1048576 + o)) a ∙ (let z : 12 * 268435456 + (n * 1048576 + o) ≡ 12 * 268435456 + n * 1048576 + o = omega arith in z) in
      λ i. first i ∷ (c i * 65536 + b i) ∷ (pack obligation_bits os ++ pack entry_bits (sym (fields_same 10 m (drop (width + 6 * n) bs) (bits_at (width + 6 * n)) (omega arith)) i))

  -- The first six bits of a 13, and the first twelve of an 8.
  lead_6 : kind_in bs ≡ 13 → field_in 0 6 bs ≡ 52 + field_in 4 1 bs * 2 + field_in 5 1 bs
  lead_6 e =
      let a = field_split 4 0 2 bs in
      let b = field_split 1 4 1 bs in
      let k = kind_first bs h in
      omega arith

  lead_12 : kind_in bs ≡ 8 → field_in 0 12 bs ≡ 2048 + field_in 4 1 bs * 128 + field_in 5 7 bs
  lead_12 e =
      let a = field_split 4 0 8 bs in
      let b = field_split 1 4 7 bs in
      let k = kind_first bs h in
      omega arith

  first_13 : kind_in bs ≡ 13 → word 13 (field_in 4 1 bs * 134217728 + denied_field product_sets.number (denied_read bs h)) ≡ deny_first bs
  unfolding deny_first
  first_13 e = by (field_in 5 1 bs) refl (field_small 5 1 bs h)
    where
      by : (x : ℕ) → field_in 5 1 bs ≡ x → x < 2 → word 13 (field_in 4 1 bs * 134217728 + denied_field product_sets.number (cond (eqb (field_in 5 1 bs) 1) (some (field_in 6 16 bs)) none)) ≡ deny_lead bs + field_in 6 (denied_width (deny_lead bs)) bs
      by zero f l =
          let a = lead_6 e in
          ap (λ x. word 13 (field_in 4 1 bs * 134217728 + denied_field product_sets.number (cond (eqb x 1) (some (field_in 6 16 bs)) none))) f
          ∙ (let z : word 13 (field_in 4 1 bs * 134217728 + 0) ≡ deny_lead bs + 0 = omega arith in z)
          ∙ ap (λ n. deny_lead bs + field_in 6 n bs) (sym (denied_width_lem bs h ∙ ap (λ x. cond (eqb x 1) 16 0) f))
      by (suc zero) f l =
          let a = lead_6 e in
          ap (λ x. word 13 (field_in 4 1 bs * 134217728 + denied_field product_sets.number (cond (eqb x 1) (some (field_in 6 16 bs)) none))) f
          ∙ (let z : word 13 (field_in 4 1 bs * 134217728 + (67108864 + field_in 6 16 bs)) ≡ deny_lead bs + field_in 6 16 bs = omega arith in z)
          ∙ ap (λ n. deny_lead bs + field_in 6 n bs) (sym (denied_width_lem bs h ∙ ap (λ x. cond (eqb x 1) 16 0) f))
      by (suc (suc x)) f l = let z : ⊥ = omega arith in absurd z

  pub deny_words : kind_in bs ≡ 13 → encode_d product_sets.number (denies (deny_read bs h)) ≡ node_words (deny_node bs) bs
  unfolding deny_node node_words fields_in
  deny_words e =
      let n = field_in (deny_after bs) 12 bs in
      let width = deny_after bs + 12 in
      let b = length_fields 10 n (drop width bs) in
      let c = mark_shape (deny_before bs) in
      let d = mark_shape (deny_middle bs) in
      let sh = shape_again (field_in 4 1 bs) (field_small 4 1 bs h) in
      let first = ap (λ x. word 13 (x * 134217728 + denied_field product_sets.number (denied_read bs h))) sh ∙ first_13 e in
      let list = ap (λ k. fields_in 10 n (drop k bs)) (let z : width ≡ width + 6 * 0 = omega arith in z) ∙ sym (fields_same 10 n (drop (width + 6 * 0) bs) (bits_at (width + 6 * 0)) (omega arith)) in
      λ i. first i ∷ (c i * 65536 + d i) ∷ b i ∷ pack entry_bits (list i)

  pub grant_words : (c : Condition) (ws : List ℕ) → kind_in bs ≡ 8 → encode product_sets.number (grant (grant_read bs h) c) ++ ws ≡ node_words (grant_node bs) bs ++ (encode_c c ++ ws)
  unfolding grant_node node_words fields_in
  grant_words c ws e =
      let n = field_in 5 7 bs in
      let o = field_in 12 16 bs in
      let width = grant_middle bs + mark_width (mark_in (grant_middle bs) bs) in
      let os = fields_in 6 n (drop width bs) in
      let a = length_fields 6 n (drop width bs) in
      let sh = shape_again (field_in 4 1 bs) (field_small 4 1 bs h) in
      let l = lead_12 e in
      let owed : n ≡ field_in 0 12 bs % 128 = (let s = field_small 5 7 bs h in omega arith) in
      let first : word 8 (shape_bit (shape_of (field_in 4 1 bs)) * 134217728 + length os * 1048576 + o) ≡ field_in 0 12 bs * 1048576 + o =
      ap₂ (λ x y. word 8 (x * 134217728 + y * 1048576 + o)) sh a ∙ (let z : word 8 (field_in 4 1 bs * 134217728 + n * 1048576 + o) ≡ field_in 0 12 bs * 1048576 + o = omega arith in z) in
      let rest : (pack obligation_bits os ++ encode_c c) ++ ws ≡ (pack obligation_bits (fields_in 6 (field_in 0 12 bs % 128) (drop width bs)) ++ []) ++ (encode_c c ++ ws) =
      append_assoc (pack obligation_bits os) (encode_c c) ws ∙ ap (λ x. pack obligation_bits (fields_in 6 x (drop width bs)) ++ (encode_c c ++ ws)) owed ∙ ap (λ x. x ++ (encode_c c ++ ws)) (sym (append-nil (pack obligation_bits (fields_in 6 (field_in 0 12 bs % 128) (drop width bs))))) in
      λ i. first i ∷ (mark_shape 28 i * 65536 + mark_shape (grant_middle bs) i) ∷ rest i

-- No node has no bits.
grant_long : (bs : List ℕ) → 1 ≤ node_length (grant_node bs)
unfolding grant_node
grant_long bs = omega arith

pub permit_long : (bs : List ℕ) → 1 ≤ node_length (permit_node bs)
unfolding permit_node
permit_long bs = omega arith

pub deny_long : (bs : List ℕ) → 1 ≤ node_length (deny_node bs)
unfolding deny_node
deny_long bs = omega arith

-- ---- what is restored of what was read
pub record Restores (bs ws cs : List ℕ) : Type 0 where
  pub shorter : length cs ≤ length bs
  pub words : (m : ℕ) → restored bs 0 (length bs - length cs + m) ≡ ws ++ restored cs 0 m
  pub bits : Bits cs

restores_then : {bs ws cs vs ds : List ℕ} → Restores bs ws cs → Restores cs vs ds → Restores bs (ws ++ vs) ds
restores_then {bs} {ws} {cs} {vs} {ds} r t =
    let a = r.shorter in
    let b = t.shorter in
    record {
      shorter = omega arith;
      words = λ m. ap (restored bs 0) (let e : length bs - length ds + m ≡ length bs - length cs + (length cs - length ds + m) = omega arith in e) ∙ r.words (length cs - length ds + m) ∙ ap (λ l. ws ++ l) (t.words m) ∙ sym (append_assoc ws vs (restored ds 0 m));
      bits = t.bits;
    }

restores_none : (bs : List ℕ) → Bits bs → Restores bs [] bs
restores_none bs h = record { shorter = omega arith; words = λ m. ap (restored bs 0) (let e : length bs - length bs + m ≡ m = omega arith in e); bits = h }

pub restores_same : {bs ws vs cs : List ℕ} → ws ≡ vs → Restores bs ws cs → Restores bs vs cs
restores_same {bs} {ws} {vs} {cs} e r = subst (λ l. Restores bs l cs) e r

module _ (bs : List ℕ) (h : Bits bs) where
  node_restores : (l : ℕ) → node_bits bs ≡ l → 1 ≤ l → l ≤ length bs → Restores bs (restored_node bs) (drop l bs)
  node_restores l e a b =
      let n = length-drop l bs in
      record {
        shorter = omega arith;
        words = λ m. ap (restored bs 0) (let z : length bs - length (drop l bs) + m ≡ node_bits bs + m = omega arith in z) ∙ restored_node_lem bs m (omega arith) (omega arith) ∙ ap (λ x. restored_node bs ++ restored (drop x bs) 0 m) e;
        bits = narrow_drop 1 l bs h;
      }

  lists_by : (k : ℕ) (b : Bool) → kind_in bs ≡ k → has_lists k ≡ b → has_lists (kind_in bs) ≡ b
  lists_by k b e f = ap has_lists e ∙ f

  plain_length : (k p : ℕ) → kind_in bs ≡ k → has_lists k ≡ false → plain_width k ≡ p → node_bits bs ≡ 4 + p
  unfolding node_bits
  plain_length k p e f g = ap (λ b. cond b (node_length (list_node (kind_in bs) bs)) (4 + plain_width (kind_in bs))) (lists_by k false e f) ∙ ap (λ x. 4 + x) (ap plain_width e ∙ g)

  plain_words : (k p : ℕ) → kind_in bs ≡ k → has_lists k ≡ false → plain_width k ≡ p → p ≤ 16 → restored_node bs ≡ word k (field_in 4 p bs) ∷ []
  unfolding restored_node
  plain_words k p e f g l = ap (λ b. cond b (node_words (list_node (kind_in bs) bs) bs) (plain_word (lead_in bs) ∷ [])) (lists_by k false e f) ∙ ap (λ x. x ∷ []) (plain_word_is bs h k p e g l)

  plain_restores : (k p : ℕ) → kind_in bs ≡ k → has_lists k ≡ false → plain_width k ≡ p → p ≤ 16 → 4 + p ≤ length bs → Restores bs (word k (field_in 4 p bs) ∷ []) (drop (4 + p) bs)
  plain_restores k p e f g l m = restores_same (plain_words k p e f g l) (node_restores (4 + p) (plain_length k p e f g) (omega arith) m)

  list_length : (k : ℕ) (n : Node) → kind_in bs ≡ k → has_lists k ≡ true → list_node k bs ≡ n → node_bits bs ≡ node_length n
  unfolding node_bits
  list_length k n e f g = ap (λ b. cond b (node_length (list_node (kind_in bs) bs)) (4 + plain_width (kind_in bs))) (lists_by k true e f) ∙ ap node_length (ap (λ x. list_node x bs) e ∙ g)

  list_words : (k : ℕ) (n : Node) → kind_in bs ≡ k → has_lists k ≡ true → list_node k bs ≡ n → restored_node bs ≡ node_words n bs
  unfolding restored_node
  list_words k n e f g = ap (λ b. cond b (node_words (list_node (kind_in bs) bs) bs) (plain_word (lead_in bs) ∷ [])) (lists_by k true e f) ∙ ap (λ x. node_words x bs) (ap (λ x. list_node x bs) e ∙ g)

  pub list_restores : (k : ℕ) (n : Node) → kind_in bs ≡ k → has_lists k ≡ true → list_node k bs ≡ n → 1 ≤ node_length n → node_length n ≤ length bs → Restores bs (node_words n bs) (drop (node_length n) bs)
  list_restores k n e f g a b = restores_same (list_words k n e f g) (node_restores (node_length n) (list_length k n e f g) a b)

pub if_there : {A : Type 0} {Q : A → List ℕ → Type 0} (s : ℕ) (bs : List ℕ) (p : Parsed A) → (s ≤ length bs → Holds Q p) → Holds Q (need s bs p)
if_there {A} {Q} s bs p f = by (leb s (length bs)) refl
  where
    by : (b : Bool) → leb s (length bs) ≡ b → Holds Q (cond b p (refuse 19))
    by true e = f (leb-true s (length bs) e)
    by false e = nothing

-- ---- conditions
module _ (p : List ℕ → Parsed Condition) (hp : (us : List ℕ) → Bits us → Holds (λ c cs. Restores us (encode_c c) cs) (p us)) where
  many_c : (n : ℕ) (us : List ℕ) → Bits us → Holds (λ xs cs. Restores us (encode_cs xs) cs × (count_c xs ≡ n)) (many cnil ccons p n us)
  many_c zero us h = fine (restores_none us h, refl)
  many_c (suc n) us h =
      then_holds (p us) (λ a vs. next (many cnil ccons p n vs) (λ xs ts. got (ccons a xs) ts)) (hp us h) (λ a vs r.
      then_holds (many cnil ccons p n vs) (λ xs ts. got (ccons a xs) ts) (many_c n vs r.bits) (λ xs ts t. fine (restores_then r t.0, ap suc t.1)))

  module _ (bs : List ℕ) (h : Bits bs) where
    node_c_lem : (k : ℕ) → kind_in bs ≡ k → Holds (λ c cs. Restores bs (encode_c c) cs) (need 4 bs (fields_c p k (drop 4 bs)))
    unfolding has_lists plain_width
    node_c_lem zero e = if_there 4 bs (got always (drop 4 bs)) (λ l. fine (plain_restores bs h 0 0 e refl refl (omega arith) l))
    node_c_lem (suc zero) e = if_there 4 bs (got never (drop 4 bs)) (λ l. fine (plain_restores bs h 1 0 e refl refl (omega arith) l))
    node_c_lem (suc (suc zero)) e =
        subst (Holds (λ c cs. Restores bs (encode_c c) cs)) (sym (step_bits 4 10 bs (λ f cs. got (has f) cs)))
        (if_there 14 bs (got (has (field_in 4 10 bs)) (drop 14 bs)) (λ l. fine (plain_restores bs h 2 10 e refl refl (omega arith) l)))
    node_c_lem (suc (suc (suc zero))) e =
        if_there 4 bs (next (p (drop 4 bs)) (λ c cs. got (not_c c) cs)) (λ l.
        let r = plain_restores bs h 3 0 e refl refl (omega arith) l in
        then_holds (p (drop 4 bs)) (λ c cs. got (not_c c) cs) (hp (drop 4 bs) r.bits) (λ c cs t. fine (restores_then r t)))
    node_c_lem (suc (suc (suc (suc zero)))) e =
        subst (Holds (λ c cs. Restores bs (encode_c c) cs)) (sym (step_bits 4 12 bs (λ n cs. next (many cnil ccons p n cs) (λ xs ds. got (all_c xs) ds))))
        (if_there 16 bs (next (many cnil ccons p (field_in 4 12 bs) (drop 16 bs)) (λ xs ds. got (all_c xs) ds)) (λ l.
        let r = plain_restores bs h 4 12 e refl refl (omega arith) l in
        then_holds (many cnil ccons p (field_in 4 12 bs) (drop 16 bs)) (λ xs ds. got (all_c xs) ds) (many_c (field_in 4 12 bs) (drop 16 bs) r.bits) (λ xs ds t.
        fine (restores_same (ap (λ n. word 4 n ∷ encode_cs xs) (sym t.1)) (restores_then r t.0)))))
    node_c_lem (suc (suc (suc (suc (suc zero))))) e =
        subst (Holds (λ c cs. Restores bs (encode_c c) cs)) (sym (step_bits 4 12 bs (λ n cs. next (many cnil ccons p n cs) (λ xs ds. got (any_c xs) ds))))
        (if_there 16 bs (next (many cnil ccons p (field_in 4 12 bs) (drop 16 bs)) (λ xs ds. got (any_c xs) ds)) (λ l.
        let r = plain_restores bs h 5 12 e refl refl (omega arith) l in
        then_holds (many cnil ccons p (field_in 4 12 bs) (drop 16 bs)) (λ xs ds. got (any_c xs) ds) (many_c (field_in 4 12 bs) (drop 16 bs) r.bits) (λ xs ds t.
        fine (restores_same (ap (λ n. word 5 n ∷ encode_cs xs) (sym t.1)) (restores_then r t.0)))))
    node_c_lem (suc (suc (suc (suc (suc (suc k)))))) e = if_there 4 bs (refuse 5) (λ l. nothing)

restores_c : (d : ℕ) (bs : List ℕ) → Bits bs → Holds (λ c cs. Restores bs (encode_c c) cs) (loose_c d bs)
restores_c zero bs h = subst (Holds (λ c cs. Restores bs (encode_c c) cs)) (sym (first_bits 4 bs (λ k cs. unless (ltb k 6) 5 (refuse 7)))) (if_there 4 bs _ (λ l. if_holds (ltb (field_in 0 4 bs) 6) 5 (refuse 7) (λ _. nothing)))
restores_c (suc d) bs h =
    subst (Holds (λ c cs. Restores bs (encode_c c) cs)) (sym (first_bits 4 bs (λ k cs. fields_c (λ ds. loose_c d ds) k cs)))
    (node_c_lem (λ ds. loose_c d ds) (λ us b. restores_c d us b) bs h (field_in 0 4 bs) (kind_first bs h))

-- ---- policies
module _ (res : Bool) (d : ℕ) (p : List ℕ → Parsed (Policy Outcome)) (hp : (us : List ℕ) → Bits us → Holds (λ t cs. Restores us (encode product_sets.number t) cs) (p us)) where
  abbrev enc : Policy Outcome → List ℕ
  enc = encode product_sets.number

  many_t : (n : ℕ) (us : List ℕ) → Bits us → Holds (λ xs cs. Restores us (encodes product_sets.number xs) cs × (count xs ≡ n)) (many pnil pcons p n us)
  many_t zero us h = fine (restores_none us h, refl)
  many_t (suc n) us h =
      then_holds (p us) (λ a vs. next (many pnil pcons p n vs) (λ xs ts. got (pcons a xs) ts)) (hp us h) (λ a vs r.
      then_holds (many pnil pcons p n vs) (λ xs ts. got (pcons a xs) ts) (many_t n vs r.bits) (λ xs ts t. fine (restores_then r t.0, ap suc t.1)))

  module _ (bs : List ℕ) (h : Bits bs) where
    stored_t : (b : Bool) (s : ℕ) (q : Parsed (Decision Outcome)) → Holds (λ e cs. Restores bs (encode_d product_sets.number e) cs) (need s bs q) → Holds (λ t cs. Restores bs (enc t) cs) (need s bs (in_residual value b (as_stored value q)))
    stored_t false s q k = if_there s bs (refuse 5) (λ l. nothing)
    stored_t true s q k = by (leb s (length bs)) q k
      where
        by : (x : Bool) (q : Parsed (Decision Outcome)) → Holds (λ e cs. Restores bs (encode_d product_sets.number e) cs) (cond x q (refuse 19)) → Holds (λ t cs. Restores bs (enc t) cs) (cond x (as_stored value q) (refuse 19))
        by false q k = nothing
        by true (refuse n) k = nothing
        by true (got e cs) k = fine k.it

    node_t : (j : ℕ) → kind_in bs ≡ 6 + j → Holds (λ t cs. Restores bs (enc t) cs) (need 4 bs (fields_p value res (λ ds. loose_c d ds) p j (drop 4 bs)))
    unfolding has_lists plain_width list_node
    node_t zero e =
        subst (Holds (λ t cs. Restores bs (enc t) cs)) (sym (step_bits 4 16 bs (λ v cs. outcome_of value (value v) (λ o. got (permit o) cs)) ∙ ap (need 20 bs) (outcome_is (field_in 4 16 bs) (field_small 4 16 bs h) (λ o. got (permit o) (drop 20 bs)))))
        (if_there 20 bs (got (permit (field_in 4 16 bs)) (drop 20 bs)) (λ l. fine (plain_restores bs h 6 16 e refl refl (omega arith) l)))
    node_t (suc zero) e = if_there 4 bs (got deny (drop 4 bs)) (λ l. fine (plain_restores bs h 7 0 e refl refl (omega arith) l))
    node_t (suc (suc zero)) e =
        let n = grant_node bs in
        let l = node_length n in
        subst (Holds (λ t cs. Restores bs (enc t) cs)) (sym (normal_8 bs h (λ ds. loose_c d ds)))
        (if_there 12 bs _ (λ _. if_holds (few_obligations (owed8_in bs h)) 8 _ (λ _.
        if_there l bs (next (loose_c d (drop l bs)) (λ c cs. got (grant (grant_read bs h) c) cs)) (λ m.
        let r = list_restores bs h 8 n e refl refl (grant_long bs) m in
        then_holds (loose_c d (drop l bs)) (λ c cs. got (grant (grant_read bs h) c) cs) (restores_c d (drop l bs) r.bits) (λ c cs t.
        fine (restores_same (sym (sym (append-nil (enc (grant (grant_read bs h) c))) ∙ grant_words bs h c [] e ∙ ap (λ x. node_words n bs ++ x) (append-nil (encode_c c)))) (restores_then r t)))))))
    node_t (suc (suc (suc zero))) e =
        subst (Holds (λ t cs. Restores bs (enc t) cs)) (sym (step_bits 4 12 bs (λ n cs. next (many pnil pcons p n cs) (λ xs ds. got (all xs) ds))))
        (if_there 16 bs (next (many pnil pcons p (field_in 4 12 bs) (drop 16 bs)) (λ xs ds. got (all xs) ds)) (λ l.
        let r = plain_restores bs h 9 12 e refl refl (omega arith) l in
        then_holds (many pnil pcons p (field_in 4 12 bs) (drop 16 bs)) (λ xs ds. got (all xs) ds) (many_t (field_in 4 12 bs) (drop 16 bs) r.bits) (λ xs ds t.
        fine (restores_same (ap (λ n. word 9 n ∷ encodes product_sets.number xs) (sym t.1)) (restores_then r t.0)))))
    node_t (suc (suc (suc (suc zero)))) e =
        subst (Holds (λ t cs. Restores bs (enc t) cs)) (sym (step_bits 4 12 bs (λ n cs. next (many pnil pcons p n cs) (λ xs ds. got (any xs) ds))))
        (if_there 16 bs (next (many pnil pcons p (field_in 4 12 bs) (drop 16 bs)) (λ xs ds. got (any xs) ds)) (λ l.
        let r = plain_restores bs h 10 12 e refl refl (omega arith) l in
        then_holds (many pnil pcons p (field_in 4 12 bs) (drop 16 bs)) (λ xs ds. got (any xs) ds) (many_t (field_in 4 12 bs) (drop 16 bs) r.bits) (λ xs ds t.
        fine (restores_same (ap (λ n. word 10 n ∷ encodes product_sets.number xs) (sym t.1)) (restores_then r t.0)))))
    node_t (suc (suc (suc (suc (suc zero))))) e =
        if_there 4 bs (next (p (drop 4 bs)) (λ a cs. next (p cs) (λ b ds. got (or_else a b) ds))) (λ l.
        let r = plain_restores bs h 11 0 e refl refl (omega arith) l in
        then_holds (p (drop 4 bs)) (λ a cs. next (p cs) (λ b ds. got (or_else a b) ds)) (hp (drop 4 bs) r.bits) (λ a cs t.
        then_holds (p cs) (λ b ds. got (or_else a b) ds) (hp cs t.bits) (λ b ds u. fine (restores_then r (restores_then t u)))))
    node_t (suc (suc (suc (suc (suc (suc zero)))))) e =
        stored_t res 4 (fields12 value (drop 4 bs)) (subst (Holds (λ x cs. Restores bs (encode_d product_sets.number x) cs)) (sym (normal_12 bs h))
        (if_there (node_length (permit_node bs)) bs _ (λ m. fine (restores_same (sym (permit_words_lem bs h)) (list_restores bs h 12 (permit_node bs) e refl refl (permit_long bs) m)))))
    node_t (suc (suc (suc (suc (suc (suc (suc zero))))))) e =
        stored_t res 4 (fields13 value (drop 4 bs)) (subst (Holds (λ x cs. Restores bs (encode_d product_sets.number x) cs)) (sym (normal_13 bs h))
        (if_there (node_length (deny_node bs)) bs _ (λ m. fine (restores_same (sym (deny_words bs h e)) (list_restores bs h 13 (deny_node bs) e refl refl (deny_long bs) m)))))
    node_t (suc (suc (suc (suc (suc (suc (suc (suc j)))))))) e = if_there 4 bs (refuse 5) (λ l. nothing)

pub restores_t : (res : Bool) (d : ℕ) (bs : List ℕ) → Bits bs → Holds (λ t cs. Restores bs (encode product_sets.number t) cs) (loose value res d bs)
restores_t res zero bs h =
    subst (Holds (λ t cs. Restores bs (encode product_sets.number t) cs)) (sym (first_bits 4 bs (λ k cs. unless (leb 6 k && leb k (last_kind res)) 5 (refuse 7))))
    (if_there 4 bs _ (λ l. if_holds (leb 6 (field_in 0 4 bs) && leb (field_in 0 4 bs) (last_kind res)) 5 (refuse 7) (λ _. nothing)))
restores_t res (suc d) bs h =
    subst (Holds (λ t cs. Restores bs (encode product_sets.number t) cs)) (sym (first_bits 4 bs (λ k cs. unless (leb 6 k) 5 (fields_p value res (λ ds. loose_c d ds) (λ ds. loose value res d ds) (k - 6) cs))))
    (by (leb 6 (field_in 0 4 bs)) refl (λ us b. restores_t res d us b))
  where
    by : (b : Bool) → leb 6 (field_in 0 4 bs) ≡ b → ((us : List ℕ) → Bits us → Holds (λ t cs. Restores us (encode product_sets.number t) cs) (loose value res d us))
        → Holds (λ t cs. Restores bs (encode product_sets.number t) cs) (need 4 bs (unless b 5 (fields_p value res (λ ds. loose_c d ds) (λ ds. loose value res d ds) (field_in 0 4 bs - 6) (drop 4 bs))))
    by false e g = if_there 4 bs (refuse 5) (λ l. nothing)
    by true e g =
        let six : 6 ≤ field_in 0 4 bs = leb-true 6 (field_in 0 4 bs) e in
        node_t res d (λ ds. loose value res d ds) g bs h (field_in 0 4 bs - 6) (kind_first bs h ∙ (let z : field_in 0 4 bs ≡ 6 + (field_in 0 4 bs - 6) = omega arith in z))
