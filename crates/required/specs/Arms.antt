-- A walk over the arms of a node, one after the other.
use Rattle.std.specs.Prelude.{Bool, true, List, ℕ, drop}
use Rattle.model.specs.Condition.{cnil, ccons, names_cs}
use Rattle.model.specs.Policy.{pnil, pcons, names, namess}
use Rattle.model.specs.Reading.{Parsed, many, levels, read_condition}
use Rattle.model.specs.Products.{read_policy, policy_at}
use Rattle.laws.specs.Size.{words_cs}
use Rattle.required.specs.Sets.{Collected, ToTheEnd}

-- What answers for the arms that are left answers for all.
pub record Onward {B : Type 0} (sizes : B → ℕ) (namess : ℕ → B → Bool) (arms : ℕ → List ℕ → Parsed B) (sheet : List ℕ) (from count : ℕ) (s : List ℕ) (at left : ℕ) (t : List ℕ) : Type 0 where
  pub onward : (u : List ℕ) (end : ℕ) → Collected sizes namess at t u (arms left (drop at sheet)) end → Collected sizes namess from s u (arms count (drop from sheet)) end

abbrev pub OnwardC : ℕ → List ℕ → ℕ → ℕ → List ℕ → ℕ → ℕ → List ℕ → Type 0
OnwardC d sheet from count s at left t = Onward words_cs names_cs (many cnil ccons (λ vs. read_condition d vs)) sheet from count s at left t

-- Policies node by node to the last word: what answers for the nodes that are open, all of them at the top level, answers for the policy.
pub record Toward (sheet : List ℕ) (from : ℕ) (s : List ℕ) (at : ℕ) (t : List ℕ) : Type 0 where
  pub nodes : ℕ
  pub toward : (u : List ℕ) → ToTheEnd namess (many pnil pcons (λ vs. read_policy true levels vs) nodes (drop at sheet)) t u → ToTheEnd names (policy_at sheet from levels) s u
