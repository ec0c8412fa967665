-- What the evaluation of policies answers, and what it leaves in the list and the buffer that it is lent.
use Rattle.std.specs.Prelude.{◌≡◌, Bool, true, Option as Sofar, Some, None, IfSome, List, ℕ, suc, ◌+◌, drop, get_or}
use Rattle.std.proofs.Math.Option.{Option, none, some}
use Rattle.model.specs.Facts.{Table}
use Rattle.model.specs.Levels.{OutcomeTable}
use Rattle.model.specs.Decision.{Decision as Decided}
use Rattle.model.specs.Consulted.{Consulted}
use Rattle.model.specs.Products.{Outcome, eval_policy, read, read_policy, policy_at}
use Rattle.laws.proofs.FieldLaws.{Holds}
use Rattle.laws.specs.Size.{words}
use Rattle.policy_model.specs.declared.PolicyHead.{PolicyHead}
use Rattle.policy_model.specs.Heads.{policy_head}
use Rattle.policy_model.specs.Span.{own_of}
use Rattle.consulted.specs.Listing.{Lent, Consults}
use Rattle.decision.specs.declared.Decision.{Decision}
use Rattle.decision.specs.Meaning.{decision_of, Sound}
use Rattle.decision.specs.Room.{Few}
use Rattle.evaluate.specs.declared.PolicyEval.{PolicyEval}

abbrev pub eval_of : Decision → ℕ → PolicyEval
eval_of decision next = record { decision = decision; next = next }

-- The answer to what comes to D, takes the words up to `end` and consults as `reads` does. `buf` is the buffer afterwards.
pub record Answers (T : Table) (W : List ℕ) (D : Decided Outcome) (end : ℕ) (reads : Consulted → Consulted) (s : Lent) (r : PolicyEval) (t : Lent) (buf : List ℕ) : Type 0 where
  pub decision_is : decision_of W T buf r.decision ≡ D
  pub sound : Sound W buf r.decision
  pub next_is : r.next ≡ end
  pub log : Consults reads s t

-- The answer to a policy at `at`, of at most `depth` levels, in a sheet or a residual. Of words that don't read nothing is said.
pub record EvaluatesP (g : Option OutcomeTable) (T : Table) (W : List ℕ) (at depth : ℕ) (s : Lent) (r : PolicyEval) (t : Lent) (buf : List ℕ) : Type 0 where
  pub few : Few r.decision
  pub says : (res : Bool) → Holds (λ p rest. Answers T W (eval_policy g T p) (at + words p) (read g T p) s r t buf) (read_policy res depth (drop at W))

-- The same where its first word has this head and `depth` levels are left for what stands below.
pub record EvaluatesBy (g : Option OutcomeTable) (h : PolicyHead) (T : Table) (W : List ℕ) (at depth : ℕ) (s : Lent) (r : PolicyEval) (t : Lent) (buf : List ℕ) : Type 0 where
  pub few : Few r.decision
  pub says : h ≡ policy_head (get_or W at 0) true →
      Holds (λ p rest. Answers T W (eval_policy g T p) (at + words p) (read g T p) s r t buf) (policy_at W at (suc depth))

-- The decision so far of a list, none before its first arm, by what the code's stands for with its buffer.
abbrev pub sofar_of : List ℕ → Table → List ℕ → Sofar Decision → Option (Decided Outcome)
sofar_of W T buf None = none
sofar_of W T buf (Some d) = some (decision_of W T buf d)

-- The decision so far and that of one more arm, each with its buffer, come to r, with its buffer.
pub record Folds (fold : Option (Decided Outcome) → Decided Outcome → Decided Outcome) (W : List ℕ) (sofar : Sofar Decision) (before : List ℕ) (incoming : Decision) (part : List ℕ) (r : Decision) (after : List ℕ) : Type 0 where
  pub few : Few r
  pub sound : IfSome sofar (Sound W before) → Sound W part incoming → Sound W after r
  pub folded : IfSome sofar (Sound W before) → Sound W part incoming → (T : Table) → decision_of W T after r ≡ fold (sofar_of W T before sofar) (decision_of W T part incoming)

-- The position after the words of the node at `at` itself: of a stored decision, after all its words.
abbrev pub after_node : List ℕ → ℕ → ℕ
after_node W at = at + 1 + own_of (get_or W at 0) (drop (at + 1) W)
