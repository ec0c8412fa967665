-- The nodes of permits that are laid word by word. Assumes nothing.
use mathlib.Core.Path.{◌≡◌, refl, ◌∙◌, ap, ap₂}
use mathlib.Core.Bool.{true}
use mathlib.Core.Option.{none}
use mathlib.Core.List.{List, [], ◌∷◌, ◌++◌}
use Prim.Native.Nat.{ℕ, ◌+◌, ◌*◌, ◌%◌, ◌≤◌}
use native.Mathlib.Omega.{arith}
use lib.ListN.{length, drop, get_or, set}
use Rattle.std.specs.Prelude.{None, Some}
use Rattle.model.specs.Facts.{Presence, absent, present, unknown, silent, Table}
use Rattle.model.specs.Condition.{eval_has}
use Rattle.model.specs.Decision.{Decision as Decided, permits, combined}
use Rattle.model.specs.Writing.{word}
use Rattle.model.specs.Products.{Outcome}
use Rattle.decision.specs.declared.Decision.{Decision}
use Rattle.policy_model.specs.Plain.{plain_grant}
use Rattle.policy_model.specs.PlainLaws.{plain_reads}
use Rattle.decision.specs.Nodes.{reached, named, node_at, clause_read, obligations_read, clause_at, obligations_at}
use Rattle.decision.specs.Meaning.{permitted_at, obligations_in, permit_of, decision_of}
use Rattle.decision.proofs.Nodes.{reached_is}
use Rattle.decision.proofs.Standing.{permitted_bare}
use Rattle.record.specs.Nodes.{decision_words}
use Rattle.packing.specs.Written.{Written}
use Rattle.packing.specs.WrittenLaws.{written_none, written_next, written_front}
use Rattle.sizes.specs.Laid.{Laid, too_many}
use Rattle.sizes.specs.LaidLaws.{laid_as}
use Rattle.residual.specs.Weight.{weight_d}
use Rattle.residual.specs.Answers.{on_fact, NodeLaid}

-- ---- words
-- Words that were written.
laid_written : {n : ℕ} {ws out after : List ℕ} → n ≤ too_many → Written ws out after n → Laid n ws after n
laid_written h w = record { size_is = omega arith; front = λ few fits. written_front w }

pub bare_laid : (o : ℕ) (out : List ℕ) → 2 ≤ length out → Laid 2 (decision_words (permits (combined o []))) (set (set out 0 (3221225472 + o)) 1 0) 2
bare_laid o out h =
    let first : 3221225472 + o ≡ word 12 (0 + o) = omega arith in
    laid_as refl (ap (λ n. n ∷ 0 ∷ []) first) (laid_written (omega arith) (written_next (written_next (written_none out) (3221225472 + o) (omega arith)) 0 (omega arith)))

pub fact_laid : (o f : ℕ) (out : List ℕ) → 3 ≤ length out → Laid 3 (decision_words (on_fact o f)) (set (set (set out 0 (3221225472 + o)) 1 1) 2 (f * 65536)) 3
fact_laid o f out h =
    let first : 3221225472 + o ≡ word 12 (0 + o) = omega arith in
    let third : f * 65536 ≡ f * 65536 + 0 = omega arith in
    laid_as refl (ap₂ (λ n m. n ∷ 1 ∷ m ∷ []) first third)
    (laid_written (omega arith) (written_next (written_next (written_next (written_none out) (3221225472 + o) (omega arith)) 1 (omega arith)) (f * 65536) (omega arith)))

-- ---- nodes
-- A node that stands for the decision is laid, and nothing was brought to the buffer.
node_as : {W : List ℕ} {T : Table} {d : Decision} {buf out : List ℕ} {n r : ℕ} (D : Decided Outcome) → decision_of W T buf d ≡ D → weight_d D ≡ n → Laid n (decision_words D) out r → NodeLaid W T d buf buf out r
node_as {W} {T} {d} {buf} {out} {n} {r} D e w l = record {
  bound = omega (arith, l.size_is);
  laid = λ s. rw (e, w) l;
  bytes = λ s. refl;
}

pub node_bare : {W : List ℕ} {T : Table} {d : Decision} {buf out : List ℕ} {r : ℕ} → d ≡ permitted_at d.outcome d.clause d.clause 0 → None ≡ reached W d.clause →
    Laid 2 (decision_words (permits (combined d.outcome []))) out r → NodeLaid W T d buf buf out r
node_bare {W} {T} {d} {buf} e h l = node_as (permits (combined d.outcome [])) (ap (decision_of W T buf) e ∙ permitted_bare W T buf d.outcome d.clause h) refl l

-- A grant on one fact names that fact, whatever the table says of it.
names_it : (f : ℕ) (p : Presence) → named (eval_has f p) ≡ f ∷ []
names_it f absent = refl
names_it f present = refl
names_it f unknown = refl
names_it f silent = refl

fact_is : (W : List ℕ) (T : Table) (buf : List ℕ) (o at : ℕ) → plain_grant (drop at W) ≡ true → decision_of W T buf (permitted_at o (Some at) (Some at) 0) ≡ on_fact o (get_or W (at + 2) 0 % 1024)
unfolding decision_of permit_of obligations_in clause_at obligations_at node_at
fact_is W T buf o at plain =
    let f = get_or W (at + 2) 0 % 1024 in
    ap (λ q. permits (record { outcome = o; obligations = obligations_read q ++ []; label = (clause_read T q).label; facts = (clause_read T q).facts })) (plain_reads W at plain true 30)
    ∙ ap (λ fs. permits (record { outcome = o; obligations = []; label = none; facts = fs })) (names_it f (T f))

pub node_on_fact : {W : List ℕ} {T : Table} {d : Decision} {at : ℕ} {buf out : List ℕ} {r : ℕ} → d ≡ permitted_at d.outcome d.clause d.clause 0 → Some at ≡ reached W d.clause →
    plain_grant (drop at W) ≡ true → Laid 3 (decision_words (on_fact d.outcome (get_or W (at + 2) 0 % 1024))) out r → NodeLaid W T d buf buf out r
node_on_fact {W} {T} {d} {at} {buf} e reach plain l =
    let same : d ≡ permitted_at d.outcome (Some at) (Some at) 0 = e ∙ ap (λ place. permitted_at d.outcome place place 0) (reached_is W d.clause at reach).0 in
    node_as (on_fact d.outcome (get_or W (at + 2) 0 % 1024)) (ap (decision_of W T buf) same ∙ fact_is W T buf d.outcome at plain) refl l
