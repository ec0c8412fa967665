-- A record's tree, checked where the code finds it, and its words. Assumes nothing.
use mathlib.Core.Path.{◌≡◌, sym, ◌∙◌, ap, ap₂, subst}
use mathlib.Core.Bool.{true}
use mathlib.Core.List.{List, [], ◌∷◌, ◌++◌, map}
use Prim.Native.Nat.{ℕ, ◌+◌, ◌-◌, ◌*◌, ◌≤◌}
use native.Mathlib.Omega.{arith}
use lib.ListN.{length, drop, length-append, length-map}
use Rattle.std.specs.Prelude.{Result}
use Rattle.model.specs.Fields.{words_for}
use Rattle.model.specs.Products.{resolved_in, loose_r}
use Rattle.laws.proofs.BitLaws.{Bits}
use Rattle.laws.proofs.Lengths.{length_pack}
use Rattle.unpack.specs.declared.Found.{Found}
use Rattle.unpack.specs.Nodes.{field_in, fields_in, loose_entry, entry_words, kind_in, count_in, tree_at, restored, restored_record}
use Rattle.unpack.specs.Answers.{sized, Says, one_policy, words_b, words_u}
use Rattle.unpack.specs.FieldLaws.{length_fields}
use Rattle.unpack.specs.RecordLaws.{resolved_on, pending_on}

module _ (run : List ℕ) (h : Bits run) (tree words : ℕ) (et : tree ≡ tree_at run) (ew : words ≡ 1 + words_for 2 (count_in run)) (l : tree_at run ≤ length run) (f : Result Found ℕ) where
  pub says_resolved : kind_in run ≡ 14 → Says run tree (sized words_b words (resolved_in (drop tree run))) f → Says run (tree_at run) (sized words_u 0 (loose_r run)) f
  says_resolved k s =
      subst (λ q. Says run (tree_at run) q f) (sym (resolved_on run h k l))
      (subst (λ t. Says run t (sized words_b (1 + words_for 2 (count_in run)) (resolved_in (drop t run))) f) et
      (subst (λ w. Says run tree (sized words_b w (resolved_in (drop tree run))) f) ew s))

  pub says_pending : 14 ≤ kind_in run → (kind_in run ≡ 14 → ⊥) → Says run tree (one_policy true 32 words (drop tree run)) f → Says run (tree_at run) (sized words_u 0 (loose_r run)) f
  says_pending k n s =
      subst (λ q. Says run (tree_at run) q f) (sym (pending_on run h k n l))
      (subst (λ t. Says run t (one_policy true 32 (1 + words_for 2 (count_in run)) (drop t run)) f) et
      (subst (λ w. Says run tree (one_policy true 32 w (drop tree run)) f) ew s))

-- ---- its words: the lead, the entries, the tree
abbrev pub tree_words : List ℕ → ℕ → ℕ → List ℕ
tree_words run end at = restored (drop at run) 0 (end - at)

pub length_restored : (run : List ℕ) (end : ℕ) → length (restored_record run end) ≡ 1 + words_for 2 (count_in run) + length (tree_words run end (tree_at run))
unfolding restored_record
length_restored run end =
    let fs = fields_in 12 (count_in run) (drop 32 run) in
    let b = length_pack 16 (map loose_entry fs) ∙ ap (words_for 2) (length-map fs loose_entry ∙ length_fields 12 (count_in run) (drop 32 run)) in
    simp length-append (omega (arith, b))

pub record_parts : (run : List ℕ) (end n v : ℕ) → n ≡ count_in run → v ≡ field_in 0 16 run * 65536 + field_in 16 16 run → ((v ∷ []) ++ entry_words 12 n (drop 32 run)) ++ tree_words run end (32 + 12 * n) ≡ restored_record run end
unfolding restored_record
record_parts run end n v e f = ap₂ (λ x k. x ∷ (entry_words 12 k (drop 32 run) ++ tree_words run end (32 + 12 * k))) f e
