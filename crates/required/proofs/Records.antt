-- The answer for a record, from its check and from the facts of its tree. Assumes nothing.
use mathlib.Core.Path.{◌≡◌, refl, sym, ◌∙◌, ap, ap₂, subst}
use mathlib.Core.Bool.{Bool, true, false}
use mathlib.Core.List.{List, [], ◌∷◌}
use Prim.Native.Nat.{ℕ, zero, suc, ◌+◌, ◌-◌, ◌%◌, ◌^◌}
use native.Mathlib.Omega.{arith}
use lib.Dec.{leb}
use lib.ListN.{drop, replicate}
use lib.Seq.{drop-drop}
use Rattle.model.specs.Fields.{words_for}
use Rattle.model.specs.Decision.{Decision}
use Rattle.model.specs.Policy.{Policy, names}
use Rattle.model.specs.Partial.{ReducedPolicy, resolved, pending}
use Rattle.model.specs.Consulted.{Consulted}
use Rattle.model.specs.Record.{Record, tree}
use Rattle.model.specs.Writing.{count_bits, entry_bits}
use Rattle.model.specs.Reading.{Parsed, refuse, got, next, unless, read_list, consulted, kind_of, rest_of, whole, levels}
use Rattle.model.specs.Required.{fact_set, required_of}
use Rattle.model.specs.Products.{Outcome, read_policy, at12, at13, node14, parse14, parse15, rest, leads, read_lead, policy_at}
use Rattle.laws.proofs.FieldLaws.{Holds, fine, nothing, if_holds, then_holds}
use Rattle.laws.specs.Size.{pairs}
use Rattle.laws.proofs.ReadForm.{read_entries}
use Rattle.laws.proofs.NodeLaws.{another_holds}
use Rattle.laws.specs.Numbers.{Numbered}
use Rattle.policy_model.specs.Answers.{Lead, lead_of}
use Rattle.std.specs.Prelude.{Result, Ok, Err}
use Rattle.refusal.specs.declared.Refusal.{Refusal}
use Rattle.refusal.specs.Numbers.{by_number}
use Rattle.required.specs.CountLaws.{ones_named}
use Rattle.required.specs.Answers.{set_after, count_in, Given, FactsOf, Answered, tree_of}
use Rattle.required.specs.AnswerLaws.{refused_is}

-- Where the tree of a Pending record stands: after its lead and the consulted entries.
pub record TreeAt (rec : List ℕ) (r : Record Outcome) (us : List ℕ) : Type 0 where
  pub stands : (t : Policy Outcome) → r.body ≡ pending t → policy_at rec (1 + pairs r.log) levels ≡ got t us

record BodyOf (q : Parsed (Policy Outcome)) (b : ReducedPolicy Outcome) (us : List ℕ) : Type 0 where
  body_is : (t : Policy Outcome) → b ≡ pending t → q ≡ got t us

tree_15 : (q : Parsed (Policy Outcome)) → Holds (BodyOf q) (next q (λ t vs. got (pending t) vs))
tree_15 (refuse n) = nothing
tree_15 (got a us) = fine (record { body_is = λ t e. let same : a ≡ t = cc in ap (λ x. got x us) same })

tree_14_at : (q : Parsed (Policy Outcome)) (p : Parsed (Decision Outcome)) → Holds (BodyOf q) (next p (λ d vs. got (resolved d) vs))
tree_14_at q (refuse n) = nothing
tree_14_at q (got d us) = fine (record { body_is = λ t e. absurd cc })

tree_14_by : (q : Parsed (Policy Outcome)) (k r : ℕ) (ws : List ℕ) → Holds (BodyOf q) (node14 k r ws)
tree_14_by q zero r ws = tree_14_at q (at12 r ws)
tree_14_by q (suc zero) r ws = tree_14_at q (at13 r ws)
tree_14_by q (suc (suc k)) r ws = nothing

tree_14 : (q : Parsed (Policy Outcome)) (vs : List ℕ) → Holds (BodyOf q) (parse14 vs)
tree_14 q vs = another_holds vs _ (λ w us _. if_holds (leb 12 (kind_of w)) 5 _ (λ _. tree_14_by q (kind_of w - 12) (rest_of w) us))

module _ (rec : List ℕ) (w : ℕ) (ws : List ℕ) (e : rec ≡ w ∷ ws) where
  rest_tree : (p : List ℕ → Parsed (ReducedPolicy Outcome)) → ((vs : List ℕ) → Holds (BodyOf (read_policy true levels vs)) (p vs)) → (r : ℕ) → Holds (TreeAt rec) (rest p r ws)
  rest_tree p h r =
      let count = r % 2 ^ count_bits in
      then_holds (read_list consulted entry_bits count ws) _ (read_entries count ws) (λ es vs l.
      then_holds (p vs) _ (h vs) (λ b us g.
      let long : pairs es ≡ words_for 2 count = ap (words_for 2) l.long in
      let there : drop (1 + pairs es) rec ≡ vs = sym (drop-drop (pairs es) 1 rec) ∙ ap₂ (λ k x. drop k (drop 1 x)) long e ∙ l.left in
      fine (record { stands = λ t k. ap (read_policy true levels) there ∙ g.body_is t k })))

  leads_tree : (k r : ℕ) → Holds (TreeAt rec) (leads k r ws)
  leads_tree zero r = rest_tree parse14 (λ vs. tree_14 (read_policy true levels vs) vs) r
  leads_tree (suc zero) r = rest_tree parse15 (λ vs. tree_15 (read_policy true levels vs)) r
  leads_tree (suc (suc k)) r = nothing

pub record_tree : (rec : List ℕ) → Holds (TreeAt rec) (read_lead rec)
record_tree rec = another_holds rec _ (λ w ws e. if_holds (leb 14 (kind_of w)) 5 _ (λ _. leads_tree rec w ws e (kind_of w - 14) (rest_of w)))

-- ---- the three answers
abbrev lead_is : ℕ → ℕ → ℕ → Parsed Lead
lead_is kind count at = got (record { kind = kind; consulted = count; tree = at }) []

abbrev kind_in : Parsed Lead → ℕ
kind_in (refuse n) = 0
kind_in (got l ws) = l.kind

abbrev place_in : Parsed Lead → ℕ
place_in (refuse n) = 0
place_in (got l ws) = l.tree

module _ (count at : ℕ) (before after : List ℕ) where
  pending_at : (rec : List ℕ) (body : ReducedPolicy Outcome) (log : Consulted) (n : ℕ) → TreeAt rec (record { body = body; log = log }) [] →
      lead_is 15 count at ≡ lead_of (got (record { body = body; log = log }) []) → FactsOf (policy_at rec at levels) before after n →
      Answered (required_of {A = Record Outcome} (got (record { body = body; log = log }) []) (λ r f. names f (tree r))) (tree_of (got (record { body = body; log = log }) [])) before after (Ok n)
  unfolding lead_of FactsOf
  pending_at rec (resolved d) log n s e g = let z : ⊥ = omega (arith, ap kind_in e) in absurd z
  pending_at rec (pending t) log n s e g =
      let q : policy_at rec at levels ≡ got t [] = ap (λ k. policy_at rec k levels) (ap place_in e) ∙ s.stands t refl in
      let v : Given (fact_set (λ f. names f t)) before after n = subst (λ x. FactsOf x before after n) q g in
      record { answer_is = ap Ok v.counted; named_is = v.counted ∙ ones_named (λ f. names f t); set_is = v.set_is }

  resolved_at : (body : ReducedPolicy Outcome) (log : Consulted) → lead_is 14 count at ≡ lead_of (got (record { body = body; log = log }) []) → after ≡ set_after before (replicate 16 0) →
      Answered (required_of {A = Record Outcome} (got (record { body = body; log = log }) []) (λ r f. names f (tree r))) (tree_of (got (record { body = body; log = log }) [])) before after (Ok 0)
  unfolding lead_of
  resolved_at (pending t) log e s = let z : ⊥ = omega (arith, ap kind_in e) in absurd z
  resolved_at (resolved d) log e s = record { answer_is = refl; named_is = ones_named (λ f. false); set_is = s }

  pub pending_record : (rec : List ℕ) (b : Bool) (q : Parsed (Record Outcome)) (n : ℕ) → Holds (TreeAt rec) q → lead_is 15 count at ≡ lead_of (unless b 1 (whole q)) →
      FactsOf (policy_at rec at levels) before after n →
      Answered (required_of (unless b 1 (whole q)) (λ r f. names f (tree r))) (tree_of (unless b 1 (whole q))) before after (Ok n)
  unfolding lead_of
  pending_record rec false q n h e g = absurd cc
  pending_record rec true (refuse k) n h e g = absurd cc
  pending_record rec true (got r []) n h e g = pending_at rec r.body r.log n h.it e g
  pending_record rec true (got r (w ∷ ws)) n h e g = absurd cc

  pub resolved_record : (b : Bool) (q : Parsed (Record Outcome)) → lead_is 14 count at ≡ lead_of (unless b 1 (whole q)) → after ≡ set_after before (replicate 16 0) →
      Answered (required_of (unless b 1 (whole q)) (λ r f. names f (tree r))) (tree_of (unless b 1 (whole q))) before after (Ok 0)
  unfolding lead_of
  resolved_record false q e s = absurd cc
  resolved_record true (refuse k) e s = absurd cc
  resolved_record true (got r []) e s = resolved_at r.body r.log e s
  resolved_record true (got r (w ∷ ws)) e s = absurd cc

pub refused_record : (number : ℕ) (q : Parsed (Record Outcome)) (before after : List ℕ) (r : Result ℕ Refusal) → by_number r ≡ Err number → Numbered q → refuse number ≡ lead_of q → after ≡ set_after before (replicate 16 0) →
    Answered (required_of q (λ r f. names f (tree r))) (tree_of q) before after r
unfolding lead_of
refused_record number (refuse n) before after r p h e s = let same : number ≡ n = cc in record { answer_is = p ∙ ap Err same ∙ refused_is n 0 h.0; named_is = ap count_in p; set_is = s }
refused_record number (got x ws) before after r p h e s = absurd cc
