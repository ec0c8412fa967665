-- What the reduction of conditions answers, and what it leaves in the list and in the output that it is lent. Document 01, "Reducing".
use Rattle.std.specs.Prelude.{◌≡◌, Bool, true, false, List, ℕ, ◌+◌, ◌≤◌, drop}
use Rattle.model.specs.Facts.{Table}
use Rattle.model.specs.Condition.{Conditions, cnil, ccons}
use Rattle.model.specs.Partial.{known, pending_c, reduce_has, ConditionWalk, end_all_c, end_any_c, reduce_condition, reduce_condition_all, reduce_condition_any}
use Rattle.model.specs.Partial as model
use Rattle.model.specs.Consulted.{Consulted, consult_known, walk_c, walk_all_c, walk_any_c}
use Rattle.model.specs.Writing.{encode_c}
use Rattle.model.specs.Reading.{many, read_condition}
use Rattle.laws.proofs.FieldLaws.{Holds}
use Rattle.laws.specs.Size.{words_c, words_cs}
use Rattle.consulted.specs.Listing.{Lent, Consults}
use Rattle.sizes.specs.Laid.{too_many, Laid}
use Rattle.partial_condition.specs.declared.Reduced.{Reduced}
use Rattle.partial_condition.specs.declared.Reduced.TheVariants.{Known, Pending}
use Rattle.partial_condition.specs.declared.ReducedCondition.{ReducedCondition}

-- The size of what is left.
abbrev pub size_of : Reduced → ℕ
size_of (Known b) = 0
size_of (Pending n) = n

-- The answer to a reduction: its value, or what is left, laid at the front of the output.
abbrev pub Left : model.ReducedCondition → Reduced → List ℕ → Type 0
Left (known b) r out = r ≡ Known b
Left (pending_c c) r out = (r ≡ Pending (size_of r)) × Laid (words_c c) (encode_c c) out (size_of r)

-- The answer to what reduces to q, takes the words up to `end` and consults as `read` does.
pub record ReducedTo (q : model.ReducedCondition) (end : ℕ) (read : Consulted → Consulted) (s : Lent) (r : ReducedCondition) (t : Lent) (out : List ℕ) : Type 0 where
  pub left : Left q r.to out
  pub next_is : r.next ≡ end
  pub log : Consults read s t

-- The answer to a condition at `at`, of at most `depth` levels. Of words that don't read only the bound is said.
pub record ReducesC (P : Table) (words : List ℕ) (at depth : ℕ) (s : Lent) (r : ReducedCondition) (t : Lent) (out : List ℕ) : Type 0 where
  pub bound : size_of r.to ≤ too_many
  pub says : Holds (λ c rest. ReducedTo (reduce_condition P c) (at + words_c c) (walk_c P c) s r t out) (read_condition depth (drop at words))

-- The same of a Has.
pub record ReducesHas (P : Table) (f : ℕ) (s : Lent) (r : Reduced) (t : Lent) (out : List ℕ) : Type 0 where
  pub bound : size_of r ≤ too_many
  pub left : Left (reduce_has f (P f)) r out
  pub log : Consults (λ l. consult_known l f (P f)) s t

-- The same of arms, for a list rule: what it reduces to with them, and what it consults.
pub record ReducesArms (value : Conditions → model.ReducedCondition) (read : Conditions → Consulted → Consulted) (words : List ℕ) (at depth arms : ℕ) (s : Lent) (r : ReducedCondition) (t : Lent) (out : List ℕ) : Type 0 where
  pub bound : size_of r.to ≤ too_many
  pub says : Holds (λ cs rest. ReducedTo (value cs) (at + words_cs cs) (read cs) s r t out) (many cnil ccons (read_condition depth) arms (drop at words))

-- A list rule by the value that decides it, false for All and true for Any. It leaves the empty All to its caller.
abbrev pub walk_of : Bool → Table → Conditions → ConditionWalk
walk_of false P cs = reduce_condition_all P cs
walk_of true P cs = reduce_condition_any P cs

abbrev pub end_of : Bool → ConditionWalk → model.ReducedCondition
end_of false w = end_all_c w
end_of true w = end_any_c w

abbrev pub read_of : Bool → Table → Conditions → Consulted → Consulted
read_of false P cs l = walk_all_c P cs l
read_of true P cs l = walk_any_c P cs l

abbrev pub ReducesList : Bool → Table → List ℕ → ℕ → ℕ → ℕ → Lent → ReducedCondition → Lent → List ℕ → Type 0
ReducesList stop P = ReducesArms (λ cs. end_of stop (walk_of stop P cs)) (read_of stop P)
