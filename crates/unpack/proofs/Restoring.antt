-- While nodes are restored: what was written, and what is left. Assumes nothing.
use mathlib.Core.Path.{◌≡◌, refl, sym, ◌∙◌, ap, ap₂}
use mathlib.Core.Bool.{Bool, true, false, cond}
use mathlib.Core.List.{List, [], ◌∷◌, ◌++◌, append_assoc, append-nil, map}
use Prim.Native.Nat.{ℕ, ◌+◌, ◌-◌, ◌*◌, ◌/◌, ◌≤◌, ◌<◌}
use native.Mathlib.Omega.{arith}
use lib.ListN.{length, take, drop, set, length-append, length-map, length-take, length-drop}
use lib.Seq.{drop-drop}
use Rattle.std.specs.Prelude.{None, Some}
use Rattle.model.specs.Fields.{words_for}
use Rattle.laws.proofs.BitLaws.{length_run}
use Rattle.laws.proofs.Lengths.{length_pack}
use Rattle.packing.specs.Written.{Written}
use Rattle.packing.specs.WrittenLaws.{written_none, written_lent, written_next, written_same, written_long}
use Rattle.bits.specs.Widths.{has_lists, plain_width, plain_node_width}
use Rattle.unpack.specs.declared.Node.{Node}
use Rattle.unpack.specs.Nodes.{fields_in, loose_entry, lead_kind_of, lead_in, kind_in, plain_word, list_node, node_length, node_count, fixed_words, obligation_words, entry_words, node_words, restored_node, node_bits, restored}
use Rattle.unpack.specs.FieldLaws.{length_fields}
use Rattle.unpack.specs.RestoreLaws.{restored_step, restored_none}
use Rattle.unpack.proofs.Fields.{lists_told, plain_told}
use Rattle.unpack.proofs.Steps.{list_roomy}

-- ---- the words of a node
pub length_node : (n : Node) (bs : List ℕ) → length (node_words n bs) ≡ node_count n
unfolding node_words
length_node n bs =
    let os = fields_in 6 n.obligations (drop n.width bs) in
    let fs = fields_in 10 n.facts (drop (n.width + 6 * n.obligations) bs) in
    let b = length_pack 8 os ∙ ap (words_for 4) (length_fields 6 n.obligations (drop n.width bs)) in
    let c = length_pack 16 (map loose_entry fs) ∙ ap (words_for 2) (length-map fs loose_entry ∙ length_fields 10 n.facts (drop (n.width + 6 * n.obligations) bs)) in
    simp length-append (omega (arith, b, c))

pub node_parts : (n : Node) (run : List ℕ) (at : ℕ) →
    (fixed_words n ++ obligation_words n.obligations (drop (at + n.width) run)) ++ entry_words 10 n.facts (drop (at + n.width + 6 * n.obligations) run) ≡ node_words n (drop at run)
unfolding node_words
node_parts n run at =
    append_assoc (fixed_words n) (obligation_words n.obligations (drop (at + n.width) run)) (entry_words 10 n.facts (drop (at + n.width + 6 * n.obligations) run))
    ∙ ap₂ (λ x y. fixed_words n ++ (obligation_words n.obligations x ++ entry_words 10 n.facts y))
    (sym (drop-drop n.width at run))
    (ap (λ k. drop k run) (let z : at + n.width + 6 * n.obligations ≡ at + (n.width + 6 * n.obligations) = omega arith in z) ∙ sym (drop-drop (n.width + 6 * n.obligations) at run))

-- ---- by the kind
module _ (bs : List ℕ) where
  pub bits_of_list : has_lists (kind_in bs) ≡ true → node_bits bs ≡ node_length (list_node (kind_in bs) bs)
  unfolding node_bits
  bits_of_list e = ap (λ b. cond b (node_length (list_node (kind_in bs) bs)) (4 + plain_width (kind_in bs))) e

  pub words_of_list : has_lists (kind_in bs) ≡ true → restored_node bs ≡ node_words (list_node (kind_in bs) bs) bs
  unfolding restored_node
  words_of_list e = ap (λ b. cond b (node_words (list_node (kind_in bs) bs) bs) (plain_word (lead_in bs) ∷ [])) e

  pub bits_of_plain : has_lists (kind_in bs) ≡ false → node_bits bs ≡ 4 + plain_width (kind_in bs)
  unfolding node_bits
  bits_of_plain e = ap (λ b. cond b (node_length (list_node (kind_in bs) bs)) (4 + plain_width (kind_in bs))) e

  pub words_of_plain : has_lists (kind_in bs) ≡ false → restored_node bs ≡ plain_word (lead_in bs) ∷ []
  unfolding restored_node
  words_of_plain e = ap (λ b. cond b (node_words (list_node (kind_in bs) bs) bs) (plain_word (lead_in bs) ∷ [])) e

  some_bits : 1 ≤ node_bits bs
  some_bits = by (has_lists (kind_in bs)) refl
    where
      by : (b : Bool) → has_lists (kind_in bs) ≡ b → 1 ≤ node_bits bs
      by true e = omega (arith, bits_of_list e, list_roomy bs (kind_in bs))
      by false e = omega (arith, bits_of_plain e)

pub record Restoring (run out₀ out : List ℕ) (from end at to : ℕ) : Type 0 where
  pub done : List ℕ
  pub put : Written done out₀ out to
  pub left : done ++ restored (drop at run) 0 (end - at) ≡ restored (drop from run) 0 (end - from)

pub begins : (run out : List ℕ) (from end : ℕ) → Restoring run out out from end from 0
begins run out from end = record { done = []; put = written_none out; left = refl }

module _ {run out₀ out : List ℕ} {from end at to : ℕ} (p : Restoring run out₀ out from end at to) (inside : at < end) (fits : end ≤ length run) where
  abbrev here : List ℕ
  here = drop at run

  next_left : (p.done ++ restored_node here) ++ restored (drop (at + node_bits here) run) 0 (end - (at + node_bits here)) ≡ restored (drop from run) 0 (end - from)
  next_left =
      append_assoc p.done (restored_node here) (restored (drop (at + node_bits here) run) 0 (end - (at + node_bits here)))
      ∙ ap (λ l. p.done ++ l) (sym (restored_step run at end inside fits (some_bits here)))
      ∙ p.left

  -- There is room for the node.
  pub room_node : length (restored (drop from run) 0 (end - from)) ≤ length out₀ → to + length (restored_node here) ≤ length out₀
  room_node r = omega (arith, simp length-append at (ap length next_left), p.put.number)

  pub long_out : length (restored (drop from run) 0 (end - from)) ≤ length out₀ → length out ≡ length out₀
  long_out r = written_long p.put (omega (arith, room_node r))

  -- One node more, of so many bits.
  one_more : (ws : List ℕ) (k : ℕ) {out₁ : List ℕ} {to₁ : ℕ} → ws ≡ restored_node here → k ≡ node_bits here → Written (p.done ++ ws) out₀ out₁ to₁ → Restoring run out₀ out₁ from end (at + k) to₁
  one_more ws k e f w =
      record {
        done = p.done ++ ws;
        put = w;
        left = ap₂ (λ x j. (p.done ++ x) ++ restored (drop (at + j) run) 0 (end - (at + j))) e f ∙ next_left;
      }

  -- By its first bits, and by whether it has lists.
  module _ (lead : ℕ) (e : lead ≡ lead_in here) where
    module _ (none : None ≡ plain_node_width (lead / 65536)) (n : Node) (f : n ≡ list_node (lead / 65536) here) where
      has : has_lists (kind_in here) ≡ true
      has = lists_told (kind_in here) (none ∙ ap (λ x. plain_node_width (lead_kind_of x)) e)

      node : n ≡ list_node (kind_in here) here
      node = f ∙ ap (λ x. list_node (lead_kind_of x) here) e

      words_are : node_words n here ≡ restored_node here
      words_are = sym (words_of_list here has ∙ ap (λ x. node_words x here) (sym node))

      pub room_list : length (restored (drop from run) 0 (end - from)) ≤ length out₀ → node_count n ≤ length (take (length out - to) (drop to out))
      room_list r = simp (length-take, length-drop) (omega (arith, room_node r, long_out r, ap length words_are, length_node n here))

      pub after_list : (k : ℕ) {tail : List ℕ} {r : ℕ} → k ≡ node_length n → Written (node_words n here) (take (length out - to) (drop to out)) tail r →
          Restoring run out₀ (take to out ++ (tail ++ drop (length out - to) (drop to out))) from end (at + k) (to + r)
      after_list k l w = one_more (node_words n here) k words_are (l ∙ ap node_length node ∙ sym (bits_of_list here has)) (written_lent p.put w)

    module _ (width : ℕ) (some : Some width ≡ plain_node_width (lead / 65536)) where
      told : (has_lists (kind_in here) ≡ false) × (width ≡ 4 + plain_width (kind_in here))
      told = plain_told (kind_in here) width (some ∙ ap (λ x. plain_node_width (lead_kind_of x)) e)

      pub room_plain : length (restored (drop from run) 0 (end - from)) ≤ length out₀ → to < length out
      room_plain r = omega (arith, room_node r, long_out r, ap length (words_of_plain here told.0))

      pub after_plain : (v : ℕ) → length (restored (drop from run) 0 (end - from)) ≤ length out₀ → v ≡ plain_word lead → Restoring run out₀ (set out to v) from end (at + width) (to + 1)
      after_plain v r f =
          one_more (v ∷ []) width (ap (λ x. x ∷ []) (f ∙ ap plain_word e) ∙ sym (words_of_plain here told.0)) (told.1 ∙ sym (bits_of_plain here told.0)) (written_next p.put v (omega (arith, room_plain r, long_out r)))

pub ends : {run out₀ out : List ℕ} {from end at to : ℕ} → Restoring run out₀ out from end at to → end ≤ at → Written (restored (drop from run) 0 (end - from)) out₀ out to
ends {run} {out₀} {out} {from} {end} {at} {to} p h =
    written_same p.put (sym (append-nil p.done) ∙ ap (λ l. p.done ++ l) (sym (restored_none (drop at run)) ∙ ap (restored (drop at run) 0) (let z : 0 ≡ end - at = omega arith in z)) ∙ p.left)

-- The output is as long as it was.
pub same_long : {run out₀ out : List ℕ} {from end at to : ℕ} → Restoring run out₀ out from end at to → end ≤ at → length (restored (drop from run) 0 (end - from)) ≤ length out₀ → length out ≡ length out₀
same_long p h r = let w = ends p h in written_long w (omega (arith, w.number))

pub ruleset restoring = (length_run, room_node, long_out, begins, same_long, list_roomy, room_list, after_list, room_plain, after_plain, ends)
