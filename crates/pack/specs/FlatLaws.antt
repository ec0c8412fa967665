-- The tight form node by node: lengths, and from one node to the next.
use Rattle.std.specs.Prelude.{◌≡◌, refl, Option, Some, None, IfSome, Bool, true, false, List, [], ◌∷◌, ◌++◌, ℕ, zero, suc, ◌+◌, ◌*◌, ◌/◌, ◌%◌, ◌^◌, ◌≤◌, ◌<◌, eqb, length}
use Rattle.std.proofs.Common.{sym, ◌∙◌, ap₂, subst, mul-suc, add-one, length-append, drop-cons}
use Rattle.std.proofs.Math.Path.{ap}
use Rattle.std.proofs.Math.Bool.{cond}
use native.Mathlib.Omega.{arith}
use borrow.Author.Tests.{ne_eqb}
use Rattle.std.proofs.Math.ListN.{drop, get_or}
use Rattle.std.proofs.Math.Seq.{drop-drop, get_or-drop}
use Rattle.model.specs.Reading.{kind_of}
use Rattle.policy_model.specs.Span.{own_by, own_of}
use Rattle.bits.specs.Widths.{has_lists, plain_width, plain_node_width, mark_width, denied_width}
use Rattle.bits.specs.WidthLaws.{plain_few, mark_few, denied_few}
use Rattle.bits.specs.Splice.{low}
use Rattle.bits.specs.SpliceLaws.{length_low}
use Rattle.bits.specs.declared.Cursor.{Cursor}
use Rattle.pack.specs.Room.{RoomFor}
use Rattle.pack.specs.Flat.{list_run, entry_in, owed_in, grant_run, permit_run, deny_run, plain_run, Plain, node_by, node_run, flat, record_run}

pub length_list : (f : ℕ → ℕ) (w n : ℕ) → length (list_run f w n) ≡ w * n
unfolding list_run
length_list f w zero = omega arith
length_list f w (suc n) = simp (length-append, length_list f w n, length_low, mul-suc) (omega arith)

pub list_none : (f : ℕ → ℕ) (w : ℕ) → list_run f w 0 ≡ []
unfolding list_run
list_none f w = refl

-- ---- how many bits
pub length_grant : (w v : ℕ) (os : List ℕ) → length (grant_run w v os) ≡ 28 + mark_width (v / 65536) + mark_width (v % 65536) + 6 * owed_in w
length_grant w v os = simp (length-append, length_low, length_list) (omega arith)

pub length_permit : (w v : ℕ) (os : List ℕ) → length (permit_run w v os) ≡ 39 + mark_width (v / 65536) + 6 * owed_in w + 10 * (v % 4096)
length_permit w v os = simp (length-append, length_low, length_list) (omega arith)

pub length_deny : (w v t : ℕ) (fs : List ℕ) → length (deny_run w v t fs) ≡ 18 + denied_width w + mark_width (v / 65536) + mark_width (v % 65536) + 10 * (t % 4096)
length_deny w v t fs = simp (length-append, length_low, length_list) (omega arith)

pub length_plain : (w : ℕ) → length (plain_run w) ≡ 4 + plain_width (kind_of w)
length_plain w = length_low (4 + plain_width (kind_of w)) (kind_of w * 2 ^ plain_width (kind_of w) + w % 2 ^ plain_width (kind_of w))

-- A width that tells that a node has no lists.
no_lists : (k : ℕ) → has_lists k ≡ false → (k ≡ 8 → ⊥) × (k ≡ 12 → ⊥) × (k ≡ 13 → ⊥)
unfolding has_lists
no_lists k h = (λ e. by 8 e refl, λ e. by 12 e refl, λ e. by 13 e refl)
  where
    by : (n : ℕ) → k ≡ n → has_lists n ≡ true → ⊥
    by n e t = let z : true ≡ false = sym t ∙ sym (ap has_lists e) ∙ h in absurd (cc)

pub plain_bits : (w : ℕ) (r : Option ℕ) → r ≡ plain_node_width (kind_of w) → IfSome r (λ bits. Plain w × (bits ≡ length (plain_run w)) × (bits ≤ 20))
unfolding plain_node_width
plain_bits w r e = subst (λ x. IfSome x (λ bits. Plain w × (bits ≡ length (plain_run w)) × (bits ≤ 20))) (sym e) (by (has_lists (kind_of w)) refl)
  where
    by : (b : Bool) → has_lists (kind_of w) ≡ b → IfSome (cond b None (Some (4 + plain_width (kind_of w)))) (λ bits. Plain w × (bits ≡ length (plain_run w)) × (bits ≤ 20))
    by true h = tt
    by false h = (no_lists (kind_of w) h, sym (length_plain w), omega (arith, plain_few (kind_of w)))

-- ---- by the kind
module _ (ws : List ℕ) (at : ℕ) where
  pub node_grant : get_or ws at 0 / 268435456 ≡ 8 → node_run ws at ≡ grant_run (get_or ws at 0) (get_or ws (at + 1) 0) (drop (at + 2) ws)
  unfolding node_run
  node_grant e = ap (λ k. node_by k ws at) e

  pub node_permit : get_or ws at 0 / 268435456 ≡ 12 → node_run ws at ≡ permit_run (get_or ws at 0) (get_or ws (at + 1) 0) (drop (at + 2) ws)
  unfolding node_run
  node_permit e = ap (λ k. node_by k ws at) e

  pub node_deny : get_or ws at 0 / 268435456 ≡ 13 → node_run ws at ≡ deny_run (get_or ws at 0) (get_or ws (at + 1) 0) (get_or ws (at + 2) 0) (drop (at + 3) ws)
  unfolding node_run
  node_deny e = ap (λ k. node_by k ws at) e

  pub node_plain : (get_or ws at 0 / 268435456 ≡ 8 → ⊥) → (get_or ws at 0 / 268435456 ≡ 12 → ⊥) → (get_or ws at 0 / 268435456 ≡ 13 → ⊥) → node_run ws at ≡ plain_run (get_or ws at 0)
  unfolding node_run
  node_plain a b d = rw (ne_eqb (kind_of (get_or ws at 0)) 8 a, ne_eqb (kind_of (get_or ws at 0)) 12 b, ne_eqb (kind_of (get_or ws at 0)) 13 d)

  pub ruleset node_kinds = (node_grant, node_permit, node_deny, node_plain)

  -- The node that the words begin with, once those before it are left out.
  pub node_from : node_run (drop at ws) 0 ≡ node_run ws at
  unfolding node_run
  node_from =
      let g : (i : ℕ) → get_or (drop at ws) (0 + i) 0 ≡ get_or ws (at + i) 0 = λ i. ap (λ j. get_or (drop at ws) j 0) (let z : 0 + i ≡ i = omega arith in z) ∙ get_or-drop at ws i 0 in
      let g₀ : get_or (drop at ws) 0 0 ≡ get_or ws at 0 = get_or-drop at ws 0 0 ∙ ap (λ j. get_or ws j 0) (let z : at + 0 ≡ at = omega arith in z) in
      let d : (i : ℕ) → drop (0 + i) (drop at ws) ≡ drop (at + i) ws = λ i. ap (λ j. drop j (drop at ws)) (let z : 0 + i ≡ i = omega arith in z) ∙ drop-drop i at ws in
      λ i.
      cond (eqb (kind_of (g₀ i)) 8) (grant_run (g₀ i) (g 1 i) (d 2 i))
      (cond (eqb (kind_of (g₀ i)) 12) (permit_run (g₀ i) (g 1 i) (d 2 i))
      (cond (eqb (kind_of (g₀ i)) 13) (deny_run (g₀ i) (g 1 i) (g 2 i) (d 3 i))
      (plain_run (g₀ i))))

-- ---- from one node to the next
-- A node without lists has one word.
pub own_plain : (w : ℕ) (ws : List ℕ) → Plain w → 0 ≡ own_of w ws
unfolding own_of
own_plain w ws plain = by (kind_of w) plain.0 plain.1 plain.2
  where
    by : (k : ℕ) → (k ≡ 8 → ⊥) → (k ≡ 12 → ⊥) → (k ≡ 13 → ⊥) → 0 ≡ get_or (own_by (w / 1048576 % 128) ws) k 0
    by k a b c = grind arith

pub flat_pass : (ws : List ℕ) (n : ℕ) → flat ws n ≡ flat (drop n ws) 0
unfolding flat
flat_pass [] zero = refl
flat_pass [] (suc n) = refl
flat_pass (w ∷ ws) zero = refl
flat_pass (w ∷ ws) (suc n) = flat_pass ws n

pub flat_node : (w : ℕ) (ws : List ℕ) → flat (w ∷ ws) 0 ≡ node_run (w ∷ ws) 0 ++ flat (drop (own_of w ws) ws) 0
unfolding flat
flat_node w ws = ap (λ l. node_run (w ∷ ws) 0 ++ l) (flat_pass ws (own_of w ws))

pub flat_end : (ws : List ℕ) (at : ℕ) → length ws ≤ at → flat (drop at ws) 0 ≡ []
unfolding flat
flat_end [] zero h = refl
flat_end [] (suc at) h = refl
flat_end (w ∷ ws) zero h = let z : ⊥ = omega arith in absurd z
flat_end (w ∷ ws) (suc at) h = flat_end ws at (omega arith)

pub flat_step : (ws : List ℕ) (at : ℕ) → at < length ws → flat (drop at ws) 0 ≡ node_run ws at ++ flat (drop (at + 1 + own_of (get_or ws at 0) (drop (at + 1) ws)) ws) 0
flat_step ws at h =
    let rest = drop (suc at) ws in
    let one : suc at ≡ at + 1 = sym (add-one at) in
    let own = own_of (get_or ws at 0) (drop (at + 1) ws) in
    ap (λ l. flat l 0) (drop-cons ws at 0 h)
    ∙ flat_node (get_or ws at 0) rest
    ∙ ap₂ (λ x y. x ++ y) (ap (λ l. node_run l 0) (sym (drop-cons ws at 0 h)) ∙ node_from ws at)
    (ap (λ n. flat (drop (own_of (get_or ws at 0) (drop n ws)) (drop n ws)) 0) one ∙ ap (λ l. flat l 0) (drop-drop own (at + 1) ws))

-- No node has more than 2^16 bits.
pub node_few : (ws : List ℕ) (at : ℕ) → length (node_run ws at) ≤ 65536
unfolding node_run
node_few ws at =
    by (eqb (kind_of (get_or ws at 0)) 8) (eqb (kind_of (get_or ws at 0)) 12) (eqb (kind_of (get_or ws at 0)) 13)
  where
    by : (a b d : Bool) → length (cond a (grant_run (get_or ws at 0) (get_or ws (at + 1) 0) (drop (at + 2) ws))
        (cond b (permit_run (get_or ws at 0) (get_or ws (at + 1) 0) (drop (at + 2) ws))
        (cond d (deny_run (get_or ws at 0) (get_or ws (at + 1) 0) (get_or ws (at + 2) 0) (drop (at + 3) ws))
        (plain_run (get_or ws at 0))))) ≤ 65536
    by true b d = omega (arith, length_grant (get_or ws at 0) (get_or ws (at + 1) 0) (drop (at + 2) ws), mark_few (get_or ws (at + 1) 0 / 65536), mark_few (get_or ws (at + 1) 0 % 65536))
    by false true d = omega (arith, length_permit (get_or ws at 0) (get_or ws (at + 1) 0) (drop (at + 2) ws), mark_few (get_or ws (at + 1) 0 / 65536))
    by false false true = omega (arith, length_deny (get_or ws at 0) (get_or ws (at + 1) 0) (get_or ws (at + 2) 0) (drop (at + 3) ws), denied_few (get_or ws at 0), mark_few (get_or ws (at + 1) 0 / 65536), mark_few (get_or ws (at + 1) 0 % 65536))
    by false false false = omega (arith, length_plain (get_or ws at 0), plain_few (kind_of (get_or ws at 0)))

-- ---- room for lists
-- Lists of so many values of a width have the same room, whatever the values.
pub list_room : {out : List ℕ} {cursor : Cursor} (f g : ℕ → ℕ) (w n : ℕ) → RoomFor (list_run f w n) out cursor → RoomFor (list_run g w n) out cursor
list_room f g w n r =
    let a = length_list f w n in
    let b = length_list g w n in
    let h = r.room.fits in
    let k = r.room.few in
    record { room = record { fits = omega arith; few = omega arith; clear = r.room.clear }; begun = r.begun }

-- ---- a record in its parts
pub record_parts : (ws : List ℕ) (count tree : ℕ) → record_run ws count tree ≡ low 16 (get_or ws 0 0 / 65536) ++ (low 16 (get_or ws 0 0) ++ (list_run (entry_in (drop 1 ws)) 12 count ++ flat (drop tree ws) 0))
unfolding record_run
record_parts ws count tree = refl

pub length_record : (ws : List ℕ) (count tree : ℕ) → length (record_run ws count tree) ≡ 32 + 12 * count + length (flat (drop tree ws) 0)
unfolding record_run
length_record ws count tree = simp (length-append, length_low, length_list) (omega arith)
