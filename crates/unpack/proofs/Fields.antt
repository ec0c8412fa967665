-- Fields at a position of a run, as the code reads them. Assumes nothing.
use mathlib.Core.Path.{◌≡◌, sym, ◌∙◌, ap}
use mathlib.Core.List.{List}
use Prim.Native.Nat.{ℕ, ◌+◌, ◌*◌, ◌%◌, ◌≤◌, ◌<◌}
use native.Mathlib.Omega.{arith}
use borrow.Author.Tests.{ne_eqb}
use Rattle.std.proofs.Common.{eq-eqb}
use lib.ListN.{drop, get_or, length-drop}
use lib.Seq.{drop-drop}
use Rattle.model.specs.Fields.{joined}
use Rattle.model.specs.Bits.{run_of}
use Rattle.laws.proofs.WordLaws.{narrow_drop, narrow_known}
use Rattle.laws.proofs.BitLaws.{Bits, bits_run, length_run}
use Rattle.unpack.specs.Nodes.{field_in, mark_in, grant_node}
use Rattle.unpack.specs.declared.Here.{Here}
use Rattle.unpack.specs.Places.{rest}
use Rattle.bits.specs.Widths.{has_lists, plain_width, plain_node_width, mark_width}
use Rattle.std.specs.Prelude.{true, false, None, Some}
use Rattle.bits.specs.WidthLaws.{mark_absent, mark_there}
use Rattle.unpack.specs.NormalLaws.{field_split}
use Rattle.unpack.specs.FieldLaws.{field_parts, field_small}

-- How many bits there are, and how many are left.
pub ruleset left = (length_run, length-drop)

-- Bytes hold bits.
pub bits_known : (l : List ℕ) → ((i : ℕ) → get_or l i 0 < 256) → Bits (run_of l)
bits_known l f = bits_run l (narrow_known 8 l f)

pub bits_from : (l : List ℕ) → ((i : ℕ) → get_or l i 0 < 256) → (at : ℕ) → Bits (drop at (run_of l))
bits_from l f at = narrow_drop 1 at (run_of l) (bits_known l f)

-- Those at a place.
pub bits_here : (h : Here) → Bits (rest h)
bits_here h = bits_from h.bytes.now h.octets h.at

pub at_field : (run : List ℕ) (at s w : ℕ) → joined 1 w (drop (at + s) run) ≡ field_in s w (drop at run)
at_field run at s w = ap (joined 1 w) (sym (drop-drop s at run))

-- The kinds without lists.
pub no_lists : (kind : ℕ) → kind < 12 → (kind ≡ 8 → ⊥) → has_lists kind ≡ false
unfolding has_lists
no_lists kind l n = grind arith

-- What the table of widths says: whether a kind has lists, and the bits of one without.
pub lists_told : (kind : ℕ) → None ≡ plain_node_width kind → has_lists kind ≡ true
unfolding plain_node_width
lists_told kind e = grind arith

pub plain_told : (kind width : ℕ) → Some width ≡ plain_node_width kind → (has_lists kind ≡ false) × (width ≡ 4 + plain_width kind)
unfolding plain_node_width
plain_told kind width e = grind arith

-- The marks of a Grant, by 17 bits that hold the present bits of both.
module _ (bs : List ℕ) (h : Bits bs) where
  absent : (at : ℕ) → field_in at 1 bs ≡ 0 → mark_width (mark_in at bs) ≡ 1
  unfolding mark_in
  absent at e = rw (eq-eqb (field_in at 1 bs) 0 e) (sym (mark_absent 0 (omega arith)))

  there : (at : ℕ) → field_in at 1 bs ≡ 1 → mark_width (mark_in at bs) ≡ 16
  unfolding mark_in
  there at e = rw (ne_eqb (field_in at 1 bs) 0 (λ z. omega (arith, e, z))) (sym (mark_there (field_in at 16 bs) (omega (arith, e, field_parts at 15 bs))))

module _ (h : Here) (v : ℕ) (e : v ≡ field_in 28 17 (rest h)) where
  abbrev bs : List ℕ
  bs = rest h

  abbrev first : v ≡ field_in 28 1 bs * 65536 + field_in 29 16 bs
  first = e ∙ field_parts 28 16 bs

  abbrev second : field_in 29 16 bs ≡ field_in 29 1 bs * 32768 + field_in 30 15 bs
  second = field_parts 29 15 bs

  abbrev last : v ≡ field_in 28 16 bs * 2 + field_in 44 1 bs
  last = e ∙ field_split 16 28 1 bs

  abbrev small : (field_in 28 1 bs < 2) × (field_in 29 16 bs < 65536) × (field_in 29 1 bs < 2) × (field_in 30 15 bs < 32768) × (field_in 44 1 bs < 2)
  small = (field_small 28 1 bs (bits_here h), field_small 29 16 bs (bits_here h), field_small 29 1 bs (bits_here h), field_small 30 15 bs (bits_here h), field_small 44 1 bs (bits_here h))

  by_label : (k n : ℕ) → mark_width (mark_in 28 bs) ≡ k → mark_width (mark_in (28 + k) bs) ≡ n → 28 + k + n ≡ (grant_node bs).width
  unfolding grant_node
  by_label k n f g = ap (λ m. 28 + k + m) (sym g) ∙ (λ i. 28 + sym f i + mark_width (mark_in (28 + sym f i) bs))

  pub no_mark : v < 32768 → 30 ≡ (grant_node bs).width
  no_mark l = by_label 1 1 (absent bs (bits_here h) 28 (omega (arith, first))) (absent bs (bits_here h) 29 (omega (arith, first, second)))

  pub no_label : 32768 ≤ v → v < 65536 → 45 ≡ (grant_node bs).width
  no_label l m = by_label 1 16 (absent bs (bits_here h) 28 (omega (arith, first))) (there bs (bits_here h) 29 (omega (arith, first, second, small)))

  pub no_reason : 65536 ≤ v → v % 2 ≡ 0 → 45 ≡ (grant_node bs).width
  no_reason l m = by_label 16 1 (there bs (bits_here h) 28 (omega (arith, first, small))) (absent bs (bits_here h) 44 (omega (arith, last, small)))

  pub both_marks : 65536 ≤ v → (v % 2 ≡ 0 → ⊥) → 60 ≡ (grant_node bs).width
  both_marks l m = by_label 16 16 (there bs (bits_here h) 28 (omega (arith, first, small))) (there bs (bits_here h) 44 (omega (arith, last, small, m)))
