-- Obligations that are written to the front of a slice, and bytes that are brought down. Assumes nothing.
use mathlib.Core.Path.{◌≡◌, sym, ◌∙◌, ap, ap₂}
use mathlib.Core.List.{List, [], ◌∷◌, ◌++◌}
use Prim.Native.Nat.{ℕ, ◌+◌, ◌≤◌, ◌<◌}
use native.Mathlib.Numerals.{add-one}
use native.Mathlib.Omega.{arith}
use lib.ListN.{length, take, drop, set}
use lib.Seq.{length-take-le, take-append-add, take_at}
use Rattle.std.proofs.lemmas.List.{take_more_set}
use Rattle.model.specs.Writing.{obligation_bits}
use Rattle.laws.specs.FieldAt.{field_at, firsts}
use Rattle.decision.specs.Room.{obligation_room}
use Rattle.decision.specs.declared.Decision.{Decision}
use Rattle.decision.specs.Nodes.{obligation_fields}
use Rattle.decision.specs.Meaning.{obligations_in}
use Rattle.decision.specs.Answers.{Loaded, Held}

-- ---- fields that are written one after the other
pub load_more : (node mid : List ℕ) (i v : ℕ) → i < length mid → take i mid ≡ obligation_fields i (drop 2 node) → v ≡ field_at obligation_bits (drop 2 node) i →
    take (i + 1) (set mid i v) ≡ obligation_fields (i + 1) (drop 2 node)
unfolding firsts
load_more node mid i v h l e =
    take_more_set mid i v h
    ∙ ap₂ (λ os x. os ++ x ∷ []) l e
    ∙ ap (λ n. obligation_fields n (drop 2 node)) (sym (add-one i))

-- ---- a node's obligations, and those that were appended behind them
pub held_with : (words : List ℕ) (d : Decision) (own : ℕ) (buf out copied rest : List ℕ) → own ≤ length out → d.united ≤ length buf → d.united ≤ obligation_room →
    Loaded words d.obligations out own → copied ≡ take d.united buf → Held words d buf (take own out ++ (copied ++ rest)) (own + d.united)
unfolding obligations_in
held_with words d own buf out copied rest there long few l e =
    let seam : length (take own out) ≡ own = length-take-le own out there in
    let size : length copied ≡ d.united = ap length e ∙ length-take-le d.united buf long in
    record {
      few = omega (arith, l.few);
      front = λ names.
          ap (λ n. take (n + d.united) (take own out ++ (copied ++ rest))) (sym seam)
          ∙ take-append-add (take own out) (copied ++ rest) d.united
          ∙ ap₂ (λ os ps. os ++ ps) (l.front names) (take_at copied rest d.united size ∙ e);
    }
