-- A tree that is decided after its entries were listed, and the record of both that is put. Assumes nothing.
use mathlib.Core.Path.{◌≡◌, ◌∙◌, ap, subst}
use mathlib.Core.Bool.{Bool}
use mathlib.Core.Option.{Option}
use mathlib.Core.List.{List, []}
use Prim.Native.Nat.{ℕ, ◌+◌, ◌*◌, ◌≤◌, min}
use native.Mathlib.Omega.{arith}
use lib.ListN.{length, take, drop, length-drop, length-map, length-take}
use Rattle.model.specs.Facts.{Table}
use Rattle.model.specs.Outcome.{product_sets}
use Rattle.model.specs.Levels.{OutcomeTable, outcomes_of}
use Rattle.model.specs.Policy.{Policy}
use Rattle.model.specs.Partial.{resolved}
use Rattle.model.specs.Consulted.{Consulted, once}
use Rattle.model.specs.Writing.{entry_field}
use Rattle.model.specs.Products.{Outcome, read, read_policy, write}
use Rattle.laws.proofs.FieldLaws.{Holds, weaker, both_hold, held_at}
use Rattle.laws.specs.Size.{words}
use Rattle.laws.specs.Form.{FormOf, Countable, Free}
use Rattle.laws.specs.Products.{InRange}
use Rattle.laws.proofs.ProductLaws.{written_products}
use Rattle.laws.proofs.ReadForm.{ok_t}
use Rattle.staging.proofs.Entries.{read_fits}
use Rattle.consulted.specs.Listing.{Lent, Listed}
use Rattle.evaluate.specs.declared.PolicyEval.{PolicyEval}
use Rattle.evaluate.specs.Evaluating.{EvaluatesP}
use Rattle.answer.specs.Answers.{Answer, Answered, Put, Makes}
use Rattle.completion.specs.Answers.{LoadsConsulted, InUse, completed_after}
use Rattle.completion.proofs.Shallow.{few_levels_in}

-- The entries before a tree and the facts that a walk lists after them are no more than two for each word, nor more than 1,024.
pub fits_there : (W : List ℕ) (at : ℕ) (es : Consulted) (log : Policy Outcome → Consulted) → ((p : Policy Outcome) → FormOf InRange Free Countable p → length (log p) ≤ min 1024 (length es + words p)) →
    at ≤ length W → length es ≤ 2 * at → (res : Bool) → Holds (λ p rest. length (log p) ≤ min 1024 (2 * length W)) (read_policy res 32 (drop at W))
fits_there W at es log few inside near res =
    let left = length-drop at W in
    weaker (read_policy res 32 (drop at W)) (λ p rest h. omega (arith, few p h.0, h.2))
    (ok_t InRange product_sets.value written_products.sound res Free (length W) (λ c h. tt) 32 (drop at W) (omega arith))

-- No list has more entries than there are.
pub in_use_lem : {t : Lent} (n : ℕ) → n ≡ min t.count (min (length t.entries) 1024) → InUse t (take n t.entries)
in_use_lem {t} n is =
    record {
      are = λ l k few.
          let whole : n ≡ t.count = omega (arith, k.long, ap length k.in_order, length-map l entry_field, length-take t.count t.entries) in
          ap (λ m. take m t.entries) whole ∙ k.in_order;
    }

module _ {g : Option OutcomeTable} {W : List ℕ} {count at depth : ℕ} {T : Table} {s u : Lent} {r : PolicyEval} {t : Lent} {buf before after : List ℕ} {a : Answer}
    (l : LoadsConsulted W count s u) (none-listed : Listed [] s) (deep : depth ≤ 32) (levels : min 32 (length W) ≤ depth) (enough : min 1024 (2 * length W) ≤ length s.entries)
    (e : EvaluatesP g T W at depth u r t buf)
    {entries : List ℕ} (in_use : InUse t entries) (w : Put W T buf r.decision entries before after a) where
  pub completes : Makes (completed_after g T) W count at before after a
  completes =
      record {
        makes = λ es others named c inside near were res.
            let q = read_policy res 32 (drop at W) in
            let loaded = l.log es others named c were in
            weaker q
            (λ p rest h.
            let k = held_at (e.says res) h.0 in
            let log = k.log.lists (once es) (loaded.lists [] none-listed (omega (arith, k.log.grows (once es), h.1))) (omega (arith, loaded.same_room, h.1)) in
            subst (λ D. Answered (write (length before) (record { body = resolved D; log = read g T p (once es) })) before after a) k.decision_is
            (w.put (read g T p (once es)) k.sound (in_use.are (read g T p (once es)) log (omega (arith, h.1)))))
            (both_hold q (few_levels_in (drop at W) depth (omega (arith, length-drop at W)) res deep)
            (fits_there W at es (λ p. read g T p (once es)) (λ p form. read_fits (outcomes_of g) T InRange Free Countable p form es named) inside near res));
      }
