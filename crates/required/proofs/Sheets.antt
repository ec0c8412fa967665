-- The answer for a sheet, from its check and from the facts of its policy. Assumes nothing.
use mathlib.Core.Path.{◌≡◌, ◌∙◌, ap, subst}
use mathlib.Core.Bool.{Bool, true, false}
use mathlib.Core.Option.{none, some}
use mathlib.Core.List.{List, [], ◌∷◌}
use Prim.Native.Nat.{ℕ}
use native.Mathlib.Omega.{arith}
use lib.ListN.{replicate}
use Rattle.model.specs.Outcome.{product_sets}
use Rattle.model.specs.Policy.{Policy, names}
use Rattle.model.specs.Reading.{Parsed, refuse, got, unless, whole, levels, sheet_length}
use Rattle.model.specs.Required.{required_of}
use Rattle.model.specs.Products.{Outcome, read_policy, read_sheet, required_facts}
use Rattle.laws.proofs.Deeper.{Follows, deeper}
use Rattle.laws.specs.Numbers.{Numbered}
use Rattle.policy_model.specs.Answers.{refusal}
use Rattle.std.specs.Prelude.{Result, Ok, Err}
use Rattle.refusal.specs.declared.Refusal.{Refusal}
use Rattle.refusal.specs.Numbers.{by_number}
use Rattle.required.specs.CountLaws.{ones_named}
use Rattle.required.specs.Answers.{set_after, count_in, FactsOf, Answered}
use Rattle.required.specs.AnswerLaws.{refused_is}

-- A sheet reads where residuals do.
sheet_facts : (p q : Parsed (Policy Outcome)) (before after : List ℕ) (count : ℕ) → Follows p q → FactsOf q before after count → FactsOf p before after count
unfolding FactsOf
sheet_facts (refuse n) q before after count f g = tt
sheet_facts (got t []) q before after count f g = subst (λ x. FactsOf x before after count) f.it g
sheet_facts (got t (w ∷ ws)) q before after count f g = tt

accepted_at : (b : Bool) (q : Parsed (Policy Outcome)) (before after : List ℕ) (count : ℕ) → none ≡ refusal (unless b 1 (whole q)) → FactsOf q before after count →
    Answered (required_of (unless b 1 (whole q)) (λ t f. names f t)) (unless b 1 (whole q)) before after (Ok count)
unfolding FactsOf
accepted_at false q before after count e g = absurd cc
accepted_at true (refuse n) before after count e g = absurd cc
accepted_at true (got t []) before after count e g = record { answer_is = ap Ok g.counted; named_is = g.counted ∙ ones_named (λ f. names f t); set_is = g.set_is }
accepted_at true (got t (w ∷ ws)) before after count e g = absurd cc

pub accepted : (sheet before after : List ℕ) (count : ℕ) → none ≡ refusal (read_sheet sheet) → FactsOf (read_policy true levels sheet) before after count →
    Answered (required_facts sheet) (read_sheet sheet) before after (Ok count)
accepted sheet before after count e g =
    accepted_at (sheet_length sheet) (read_policy false levels sheet) before after count e
    (sheet_facts (read_policy false levels sheet) (read_policy true levels sheet) before after count (deeper product_sets.value false levels levels sheet (omega arith)) g)

pub refused : (number : ℕ) (q : Parsed (Policy Outcome)) (before after : List ℕ) (r : Result ℕ Refusal) → by_number r ≡ Err number → Numbered q → some number ≡ refusal q → after ≡ set_after before (replicate 16 0) →
    Answered (required_of q (λ t f. names f t)) q before after r
refused number (refuse n) before after r p h e s = let same : number ≡ n = cc in record { answer_is = p ∙ ap Err same ∙ refused_is n 0 h.0; named_is = ap count_in p; set_is = s }
refused number (got t ws) before after r p h e s = absurd cc
