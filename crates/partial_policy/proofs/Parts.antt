-- What stands for the parts of an OrElse in a residual. Assumes nothing.
use mathlib.Core.Path.{◌≡◌, sym, ◌∙◌, ap, subst}
use mathlib.Core.List.{List, ◌∷◌, ◌++◌}
use Prim.Native.Nat.{ℕ, ◌+◌, ◌-◌, ◌≤◌, ◌<◌, min}
use native.Mathlib.Omega.{arith}
use lib.ListN.{length, take, drop, set, length-drop}
use lib.Seq.{take_all}
use Rattle.model.specs.Facts.{Table}
use Rattle.model.specs.Partial.{resolved, pending, as_residual}
use Rattle.model.specs.Partial as model
use Rattle.model.specs.Writing.{word}
use Rattle.model.specs.Products.{Outcome, encode_d, encode}
use Rattle.sizes.specs.Laid.{too_many, capped}
use Rattle.sizes.specs.LaidLaws.{laid_as, laid_lead}
use Rattle.residual.specs.Weight.{weight_d, weight}
use Rattle.residual.specs.Answers.{NodeLaid}
use Rattle.decision.specs.declared.Decision.{Decision}
use Rattle.partial_list.specs.declared.Reduced.{Reduced}
use Rattle.partial_list.specs.declared.Reduced.TheVariants.{Resolved, Pending}
use Rattle.partial_list.specs.Within.{LaidWithin}
use Rattle.partial_list.specs.WithinLaws.{within, within_then}
use Rattle.partial_list.specs.Answers.{Result}
use Rattle.partial_policy.specs.Reducing.{ResidualLaid, OrElsePut}

-- ---- OrElse
open_at : (T : Table) (W : List ℕ) (n : ℕ) (buf out : List ℕ) → (y : model.ReducedPolicy Outcome) (room : ℕ) → Result y T W buf room out (Pending n) → LaidWithin room (weight (as_residual y)) (encode (as_residual y)) out n
open_at T W n buf out (resolved D) room x = absurd x
open_at T W n buf out (pending q) room x = x

pub residual_open : {T : Table} {W : List ℕ} {n : ℕ} (buf out : List ℕ) → n ≤ too_many → ResidualLaid T W (Pending n) buf out out n
residual_open {T} {W} {n} buf out most = record { bound = most; laid = open_at T W n buf out }

node_at_lem : (T : Table) (W : List ℕ) (d : Decision) (buf out : List ℕ) {buf' out' : List ℕ} {r : ℕ} → NodeLaid W T d buf buf' out' r →
    (y : model.ReducedPolicy Outcome) (room : ℕ) → Result y T W buf room out (Resolved d) → LaidWithin room (weight (as_residual y)) (encode (as_residual y)) out' r
node_at_lem T W d buf out l (resolved D) room x = within (laid_as (ap weight_d x.decision_is) (ap encode_d x.decision_is) (l.laid x.sound))
node_at_lem T W d buf out l (pending q) room x = absurd x

pub residual_node : {T : Table} {W : List ℕ} {d : Decision} {buf buf' : List ℕ} (out : List ℕ) {out' : List ℕ} {r : ℕ} → NodeLaid W T d buf buf' out' r → ResidualLaid T W (Resolved d) buf out out' r
residual_node {T} {W} {d} {buf} out l = record { bound = l.bound; laid = node_at_lem T W d buf out l }

-- Another lead.
within_lead : (w : ℕ) {room free n r : ℕ} {ws : List ℕ} (out : List ℕ) → 0 < n → LaidWithin room n (free ∷ ws) out r → LaidWithin room n (w ∷ ws) (set out 0 w) r
within_lead w out h l = record { size_is = l.size_is; laid = λ k. laid_lead w out h (l.laid k) }

pub or_else_put : {T : Table} {W : List ℕ} {used : ℕ} {b : Reduced} {buf out : List ℕ} {from size r : ℕ} (part : List ℕ) → from ≡ min used (length out) → length part ≡ length out - from →
    ResidualLaid T W b buf (take (length out - from) (drop from out)) part size → r ≡ capped (used + size) →
    OrElsePut T W used b buf out (set (take from out ++ (part ++ drop (length out - from) (drop from out))) 0 (word 11 0)) r
or_else_put {T} {W} {used} {b} {buf} {out} {from} {size} {r} part f long l e = record {
  bound = omega arith;
  put = λ n free room ws y p x.
      let tail : drop (min used (length out)) out ≡ take (length out - from) (drop from out) =
      ap (λ i. drop i out) (sym f) ∙ sym (take_all (length out - from) (drop from out) (omega (arith, length-drop from out))) in
      within_lead (word 11 0) (take from out ++ (part ++ drop (length out - from) (drop from out))) (omega arith)
      (within_then p (l.laid y room (subst (λ us. Result y T W buf room us b) tail x)) f long e);
}
