-- From the walk's answer and the record that was put to the answer of a call that reduces. Assumes nothing.
use mathlib.Core.Path.{◌≡◌, refl, subst}
use mathlib.Core.Bool.{Bool}
use mathlib.Core.Option.{Option}
use mathlib.Core.List.{List, [], map}
use Prim.Native.Nat.{ℕ, ◌+◌, ◌*◌, ◌≤◌, min}
use native.Mathlib.Omega.{arith}
use lib.ListN.{length, drop, length-drop}
use Rattle.model.specs.Facts.{Table}
use Rattle.model.specs.Outcome.{product_sets}
use Rattle.model.specs.Levels.{OutcomeTable, outcomes_of}
use Rattle.model.specs.Policy.{Policy}
use Rattle.model.specs.Partial.{resolved, pending, as_residual, Order}
use Rattle.model.specs.Partial as model
use Rattle.model.specs.Consulted.{Consulted, once}
use Rattle.model.specs.Writing.{entry_field}
use Rattle.model.specs.Products.{Outcome, reduce_policy, walk, encode, read_policy, write}
use Rattle.laws.proofs.FieldLaws.{Holds, weaker, both_hold, held_at}
use Rattle.laws.specs.Size.{words}
use Rattle.laws.specs.Form.{Countable, Free}
use Rattle.laws.specs.Products.{InRange}
use Rattle.laws.proofs.ProductLaws.{written_products}
use Rattle.laws.proofs.ReadForm.{ok_t}
use Rattle.staging.proofs.Entries.{walk_fits}
use Rattle.staging.proofs.SizeLaws.{reduced_words}
use Rattle.consulted.specs.Listing.{Lent, Listed}
use Rattle.sizes.specs.Laid.{most_words, capped, Laid}
use Rattle.residual.specs.Weight.{weight}
use Rattle.residual.specs.WeightLaws.{weight_fits}
use Rattle.partial_list.specs.declared.Reduced.TheVariants as code
use Rattle.partial_list.specs.declared.ReducedPolicy.{ReducedPolicy}
use Rattle.partial_list.specs.Answers.{Resolves, Result}
use Rattle.partial_list.specs.Within.{LaidWithin}
use Rattle.partial_policy.specs.Reducing.{ReducedTo, ReducesP}
use Rattle.decision.specs.declared.Decision.{Decision}
use Rattle.answer.specs.Answers.{Answer, Answered, Put, Makes}
use Rattle.completion.specs.Answers.{LoadsConsulted, InUse}
use Rattle.completion.proofs.Shallow.{few_levels_in}
use Rattle.completion.proofs.Completing.{fits_there}
use Rattle.partial.specs.Answers.{PutPending, reduced_after}

-- What is left of a tree has room in scratch for three times its words.
left_fits : (g : Option OutcomeTable) (o : Order) (P : Table) (p q : Policy Outcome) (n size room : ℕ) → reduce_policy g o P p ≡ pending q → words p ≤ n → size ≡ capped (weight q) → min (3 * n) most_words ≤ room → size ≤ most_words → size ≤ room
left_fits g o P p q n size room e h s k few =
    let light : weight q ≤ most_words = omega arith in
    let left : words q ≤ 3 * words p = subst (λ x. words (as_residual x) ≤ 3 * words p) e (reduced_words (outcomes_of g) o P p) in
    omega (arith, (weight_fits q light).0)

within_few : {room n r : ℕ} {ws out : List ℕ} → (r ≤ most_words → r ≤ room) → LaidWithin room n ws out r → Laid n ws out r
within_few h l = record { size_is = l.size_is; front = λ few fits. (l.laid (h few)).front few fits }

-- A tree that reads has no more words than there are.
words_there : (res : Bool) (at : ℕ) (W : List ℕ) → Holds (λ p rest. words p ≤ length W) (read_policy res 32 (drop at W))
words_there res at W =
    let ws = drop at W in
    let few = length-drop at W in
    weaker (read_policy res 32 ws) (λ p rest h. omega (arith, h.2))
    (ok_t InRange product_sets.value written_products.sound res (λ c. Unit {0}) (length W) (λ c h. tt) 32 ws (omega arith))

-- The record of a tree that reduces to x.
abbrev Gives : Option OutcomeTable → Order → Table → Policy Outcome → Consulted → List ℕ → List ℕ → Answer → model.ReducedPolicy Outcome → Type 0
Gives g o P p l before after a x = Answered (write (length before) (record { body = x; log = walk g o P p l })) before after a

-- The policy at `at` was reduced, after the consulted facts that were listed, and the record of both was written or refused, where the entries have room for
-- all, and there are no more than facts.
pub record ReducesTo (g : Option OutcomeTable) (o : Order) (P : Table) (W : List ℕ) (at : ℕ) (s : Lent) (before after : List ℕ) (a : Answer) : Type 0 where
  pub reduces : (l : Consulted) → (length l ≤ length s.entries → Listed l s) → (res : Bool) →
      Holds (λ p rest. length (walk g o P p l) ≤ min 1024 (length s.entries) → Gives g o P p l before after a (reduce_policy g o P p)) (read_policy res 32 (drop at W))

-- Within as many levels as there are words, at most 32, it is as within 32.
all_levels : {g : Option OutcomeTable} {o : Order} {P : Table} {W : List ℕ} {at depth : ℕ} {s : Lent} {r : ReducedPolicy} {t : Lent} {buf : List ℕ} {room : ℕ} {out : List ℕ} → depth ≤ 32 → min 32 (length W) ≤ depth →
    ReducesP g o P W at depth s r t buf room out → ReducesP g o P W at 32 s r t buf room out
all_levels {W = W} {at} {depth} most enough e =
    record {
      fit = e.fit;
      says = λ res.
          weaker (read_policy res 32 (drop at W)) (λ p rest k. held_at (e.says res) k) (few_levels_in (drop at W) depth (omega (arith, length-drop at W)) res most);
    }

-- The entries in use are those of the walk.
walked : (g : Option OutcomeTable) (o : Order) {P : Table} {W : List ℕ} {s : Lent} {r : ReducedPolicy} {t : Lent} {buf scratch : List ℕ} {room : ℕ} {entries : List ℕ} → InUse t entries →
    (l : Consulted) (p : Policy Outcome) (end : ℕ) (x : model.ReducedPolicy Outcome) → (length l ≤ length s.entries → Listed l s) → length (walk g o P p l) ≤ min 1024 (length s.entries) →
    ReducedTo x end (walk g o P p) P W s r t buf room scratch → entries ≡ map entry_field (walk g o P p l)
walked g o {P} in_use l p end x listed enough k = in_use.are (walk g o P p l) (k.log.lists l (listed (omega (arith, k.log.grows l))) (omega arith)) (omega arith)

module _ (g : Option OutcomeTable) (o : Order) {P : Table} {W : List ℕ} {s : Lent} {r : ReducedPolicy} {t : Lent} {buf scratch before after : List ℕ} {room : ℕ} {a : Answer} {entries : List ℕ} (in_use : InUse t entries) where
  -- By what the tree reduces to.
  pending_by : (l : Consulted) (p : Policy Outcome) (end size : ℕ) (x : model.ReducedPolicy Outcome) → (length l ≤ length s.entries → Listed l s) → length (walk g o P p l) ≤ min 1024 (length s.entries) → words p ≤ length W → reduce_policy g o P p ≡ x →
      ReducedTo x end (walk g o P p) P W s r t buf room scratch → r.to ≡ code.Pending size →
      min (3 * length W) most_words ≤ room → min (3 * length W) most_words ≤ length scratch → PutPending entries scratch size before after a → Gives g o P p l before after a x
  pending_by l p end size (resolved D) listed enough fits e k is wide long w = absurd (subst (λ b. Result (resolved D) P W buf room scratch b) is k.result)
  pending_by l p end size (pending q) listed enough fits e k is wide long w =
      let laid : LaidWithin room (weight q) (encode q) scratch size = subst (λ b. Result (pending q) P W buf room scratch b) is k.result in
      w.put q (walk g o P p l) (within_few (left_fits g o P p q (length W) size room e fits laid.size_is wide) laid)
      (left_fits g o P p q (length W) size (length scratch) e fits laid.size_is long) (walked g o in_use l p end (pending q) listed enough k)

  resolved_by : (l : Consulted) (p : Policy Outcome) (end : ℕ) (d : Decision) (x : model.ReducedPolicy Outcome) → (length l ≤ length s.entries → Listed l s) → length (walk g o P p l) ≤ min 1024 (length s.entries) → ReducedTo x end (walk g o P p) P W s r t buf room scratch → r.to ≡ code.Resolved d →
      Put W P buf d entries before after a → Gives g o P p l before after a x
  resolved_by l p end d (resolved D) listed enough k is w =
      let found : Resolves P W D buf d = subst (λ b. Result (resolved D) P W buf room scratch b) is k.result in
      subst (λ d. Gives g o P p l before after a (resolved d)) found.decision_is (w.put (walk g o P p l) found.sound (walked g o in_use l p end (resolved D) listed enough k))
  resolved_by l p end d (pending q) listed enough k is w = absurd (subst (λ b. Result (pending q) P W buf room scratch b) is k.result)

  module _ {at depth : ℕ} (most : depth ≤ 32) (levels : min 32 (length W) ≤ depth) (e : ReducesP g o P W at depth s r t buf room scratch) where
    pub reduces_pending : {size : ℕ} → r.to ≡ code.Pending size → min (3 * length W) most_words ≤ room → min (3 * length W) most_words ≤ length scratch →
        PutPending entries scratch size before after a → ReducesTo g o P W at s before after a
    reduces_pending {size} is wide long w =
        record {
          reduces = λ l listed res.
              let q = read_policy res 32 (drop at W) in
              weaker q (λ p rest h enough. pending_by l p (at + words p) size (reduce_policy g o P p) listed enough h.1 refl h.0 is wide long w)
              (both_hold q ((all_levels most levels e).says res) (words_there res at W));
        }

    pub reduces_resolved : {d : Decision} → r.to ≡ code.Resolved d → Put W P buf d entries before after a → ReducesTo g o P W at s before after a
    reduces_resolved {d} is w =
        record {
          reduces = λ l listed res.
              weaker (read_policy res 32 (drop at W)) (λ p rest k enough. resolved_by l p (at + words p) d (reduce_policy g o P p) listed enough k is w) ((all_levels most levels e).says res);
        }

-- The entries were listed, and then the tree was reduced.
pub reduces_from : {g : Option OutcomeTable} {o : Order} {P : Table} {W : List ℕ} {count at : ℕ} {before after : List ℕ} {a : Answer} {s u : Lent} → LoadsConsulted W count s u → Listed [] s → min 1024 (2 * length W) ≤ length s.entries →
    ReducesTo g o P W at u before after a → Makes (reduced_after g o P) W count at before after a
reduces_from {g} {o} {P} {W} {at = at} l none-listed enough k =
    record {
      makes = λ es others named c inside near were res.
          let q = read_policy res 32 (drop at W) in
          let loaded = l.log es others named c were in
          weaker q (λ p rest h. h.0 (omega (arith, h.1, loaded.same_room)))
          (both_hold q (k.reduces (once es) (λ h. loaded.lists [] none-listed (omega (arith, loaded.same_room))) res)
          (fits_there W at es (λ p. walk g o P p (once es)) (λ p form. walk_fits (outcomes_of g) P InRange Free Countable p form es named o) inside near res));
    }
