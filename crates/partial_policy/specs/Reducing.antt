-- What the reduction of policies answers, and what it leaves in the lists and outputs that it is lent. Document 01, "Reducing".
use Rattle.std.specs.Prelude.{◌≡◌, Bool, true, false, not, List, ◌∷◌, ◌++◌, ℕ, suc, ◌+◌, ◌%◌, ◌≤◌, ◌<◌, min, length, drop, get_or}
use Rattle.std.proofs.Math.Option.{Option}
use Rattle.model.specs.Facts.{Table}
use Rattle.model.specs.Levels.{OutcomeTable}
use Rattle.model.specs.Partial.{as_residual, Order, permits_first, sheet_order}
use Rattle.model.specs.Partial as model
use Rattle.model.specs.Consulted.{Consulted}
use Rattle.model.specs.Writing.{word}
use Rattle.model.specs.Products.{Outcome, reduce_policy, walk, encode, read_policy, policy_at}
use Rattle.laws.proofs.FieldLaws.{Holds}
use Rattle.laws.specs.Size.{words}
use Rattle.facts.specs.Answers.{is_settled}
use Rattle.policy_model.specs.declared.PolicyHead.{PolicyHead}
use Rattle.policy_model.specs.declared.PolicyHead.TheVariants as policy
use Rattle.policy_model.specs.Heads.{policy_head}
use Rattle.policy_model.specs.Plain.{plain_grant}
use Rattle.consulted.specs.Listing.{Lent, Consults}
use Rattle.decision.specs.declared.Decision.{Decision}
use Rattle.evaluate.specs.declared.PolicyEval.{PolicyEval}
use Rattle.evaluate.specs.Evaluating.{EvaluatesP}
use Rattle.sizes.specs.Laid.{too_many}
use Rattle.residual.specs.Weight.{weight}
use Rattle.partial_list.specs.declared.ListKind.{ListKind}
use Rattle.partial_list.specs.declared.ListKind.TheVariants.{All, Any}
use Rattle.partial_list.specs.declared.Reduced.{Reduced}
use Rattle.partial_list.specs.declared.ReducedPolicy.{ReducedPolicy}
use Rattle.partial_list.specs.Within.{LaidWithin}
use Rattle.partial_list.specs.Answers.{resolved_to, Result, Fit}
use Rattle.partial_policy.specs.declared.Order as declared
use Rattle.partial_policy.specs.declared.Order.TheVariants.{PermitsFirst, SheetOrder}

-- The answer to what reduces to x, takes the words up to `end` and consults as `reads` does. `buf` and `out` are as they stand afterwards.
pub record ReducedTo (x : model.ReducedPolicy Outcome) (end : ℕ) (reads : Consulted → Consulted) (T : Table) (W : List ℕ) (s : Lent) (r : ReducedPolicy) (t : Lent) (buf : List ℕ) (room : ℕ) (out : List ℕ) : Type 0 where
  pub result : Result x T W buf room out r.to
  pub next_is : r.next ≡ end
  pub log : Consults reads s t

-- The order of a residual's lists, as the model names it.
abbrev pub order_of : declared.Order → Order
order_of PermitsFirst = permits_first
order_of SheetOrder = sheet_order

-- The answer to a policy at `at`, of at most `depth` levels, in a sheet or a residual. Of words that don't read only the bounds are said.
pub record ReducesP (g : Option OutcomeTable) (o : Order) (P : Table) (W : List ℕ) (at depth : ℕ) (s : Lent) (r : ReducedPolicy) (t : Lent) (buf : List ℕ) (room : ℕ) (out : List ℕ) : Type 0 where
  pub fit : Fit r.to
  pub says : (res : Bool) →
      Holds (λ p rest. ReducedTo (reduce_policy g o P p) (at + words p) (walk g o P p) P W s r t buf room out) (read_policy res depth (drop at W))

-- The same where its first word has this head and `depth` levels are left for what stands below.
pub record ReducesBy (g : Option OutcomeTable) (o : Order) (h : PolicyHead) (P : Table) (W : List ℕ) (at depth : ℕ) (s : Lent) (r : ReducedPolicy) (t : Lent) (buf : List ℕ) (room : ℕ) (out : List ℕ) : Type 0 where
  pub fit : Fit r.to
  pub says : h ≡ policy_head (get_or W at 0) true →
      Holds (λ p rest. ReducedTo (reduce_policy g o P p) (at + words p) (walk g o P p) P W s r t buf room out) (policy_at W at (suc depth))

-- The same of what is evaluated.
pub record ReducesConstant (g : Option OutcomeTable) (P : Table) (W : List ℕ) (at depth : ℕ) (s : Lent) (r : ReducedPolicy) (t : Lent) (buf : List ℕ) : Type 0 where
  pub eval : PolicyEval
  pub is : r ≡ resolved_to eval.decision eval.next
  pub evaluates : EvaluatesP g P W at depth s eval t buf

-- A grant on one fact, told by its three words, whose fact is settled.
pub record SettledGrant (P : Table) (W : List ℕ) (at : ℕ) : Type 0 where
  pub inside : at + 2 < length W
  pub plain : plain_grant (drop at W) ≡ true
  pub known : is_settled (P (get_or W (at + 2) 0 % 1024)) ≡ true

-- ---- lists
-- A resolved deny stops an All.
abbrev pub stopped_at : ListKind → Decision → Bool
stopped_at All d = not d.permit
stopped_at Any d = false

abbrev pub list_head : ListKind → ℕ → PolicyHead
list_head All n = policy.All n
list_head Any n = policy.Any n

-- ---- OrElse
-- What stands for a part in a residual was laid: what is left of it, which stood there, or its node.
pub record ResidualLaid (T : Table) (W : List ℕ) (b : Reduced) (buf out out' : List ℕ) (r : ℕ) : Type 0 where
  pub bound : r ≤ too_many
  pub laid : (y : model.ReducedPolicy Outcome) (room : ℕ) → Result y T W buf room out b → LaidWithin room (weight (as_residual y)) (encode (as_residual y)) out' r

-- The fallback was laid behind the primary, and the lead before both. What is left of the fallback stood behind the primary.
pub record OrElsePut (T : Table) (W : List ℕ) (used : ℕ) (b : Reduced) (buf out out' : List ℕ) (r : ℕ) : Type 0 where
  pub bound : r ≤ too_many
  pub put : (n free room : ℕ) (ws : List ℕ) (y : model.ReducedPolicy Outcome) → LaidWithin room (1 + n) (free ∷ ws) out used → Result y T W buf room (drop (min used (length out)) out) b →
      LaidWithin room (1 + n + weight (as_residual y)) (word 11 0 ∷ (ws ++ encode (as_residual y))) out' r
