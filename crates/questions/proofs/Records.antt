-- The answers, from the check of a record and from what is said of its tree. Assumes nothing.
use Rattle.std.specs.Prelude.{Result, Ok, Err, IsErrAnd}
use Rattle.std.proofs.lemmas.Bool.{and_parts}
use mathlib.Core.Path.{◌≡◌, refl, sym, ◌∙◌, ap, subst}
use mathlib.Core.Bool.{Bool, true, false, ◌||◌}
use mathlib.Core.List.{List, []}
use Prim.Native.Nat.{ℕ, zero, suc, ◌+◌, ◌/◌, ◌≤◌, ◌<◌}
use native.Mathlib.Omega.{arith}
use borrow.Author.Tests.{leb-true, leb-false}
use lib.Dec.{eqb, leb}
use lib.ListN.{length, drop, get_or}
use lib.Seq.{drop-drop}
use Rattle.model.specs.Outcome.{product_sets}
use Rattle.model.specs.Decision.{permits, denies}
use Rattle.model.specs.Policy.{Policy, permit, deny, grant, all, any, or_else, stored}
use Rattle.model.specs.Partial.{ReducedPolicy, resolved, pending, as_residual}
use Rattle.model.specs.Record.{Record, tree}
use Rattle.model.specs.Reading.{Parsed, refuse, got, whole, record_length}
use Rattle.model.specs.Required.{permit_on_top, deny_on_top, asked_of}
use Rattle.model.specs.Products.{Outcome, read_policy, read_lead, read_record}
use Rattle.laws.proofs.FieldLaws.{Holds, fine, nothing, if_holds, held_at}
use Rattle.laws.specs.Size.{pairs}
use Rattle.laws.specs.Numbers.{Numbered}
use Rattle.laws.proofs.NumberLaws.{record_numbered}
use Rattle.policy_model.specs.Answers.{lead_of}
use Rattle.policy_model.proofs.Checking.{word_at, no_word, passed_on}
use Rattle.policy_model.proofs.Records.{TreeRead, record_parts, lead_is_lem}
use Rattle.refusal.specs.declared.Refusal.{Refusal}
use Rattle.refusal.specs.Numbers.{number_of, by_number}
use Rattle.questions.specs.Nodes.{kind_at, one_of}
use Rattle.questions.specs.Answers.{told_of, Stands, SomeTree, Found}
use Rattle.questions.proofs.Nodes.{nothing_reads, node_holds}

module _ (ws : List ℕ) where
  abbrev read : Parsed (Record Outcome)
  read = read_record ws

  -- ---- the check
  short : Holds (λ r vs. length ws ≤ 16384) read
  short =
      if_holds (record_length ws) 1 (whole (read_lead ws)) (λ e. all_of_lem (whole (read_lead ws)) (leb-true (length ws) 16384 (and_parts (leb 1 (length ws)) (leb (length ws) 16384) e).1))
    where
      all_of_lem : (q : Parsed (Record Outcome)) → length ws ≤ 16384 → Holds (λ r vs. length ws ≤ 16384) q
      all_of_lem (refuse n) h = nothing
      all_of_lem (got r vs) h = fine h

  tree_stands : (at : ℕ) (body : ReducedPolicy Outcome) → length ws ≤ 16384 → TreeRead body (drop at ws) [] → Stands ws at (as_residual body)
  tree_stands at (resolved d) h e = record { depth = 1; reads = e; few = h }
  tree_stands at (pending t) h e = record { depth = 32; reads = e; few = h }

  found : (at : ℕ) (r : Record Outcome) (vs : List ℕ) → Stands ws at (tree r) → Found ws (got r vs) (Ok at)
  unfolding Found
  found at r vs s = s

  pub at_tree : (kind count at : ℕ) → got (record { kind = kind; consulted = count; tree = at }) [] ≡ lead_of read → Found ws read (Ok at)
  at_tree kind count at e =
      lead_is_lem read (record { kind = kind; consulted = count; tree = at }) e (λ r vs g k l p.
      let us : drop (pairs r.log) (drop 1 ws) ≡ drop at ws = drop-drop (pairs r.log) 1 ws ∙ ap (λ n. drop n ws) (sym p) in
      subst (λ q. Found ws q (Ok at)) (sym g) (found at r vs (tree_stands at r.body (held_at short g) (subst (λ x. TreeRead r.body x []) us (held_at (record_parts ws) g).0.tree_read))))

  pub no_tree : (r : Result ℕ Refusal) (e : Refusal) (q : Parsed (Record Outcome)) → IsErrAnd r (λ d. d ≡ e) → refuse (number_of e) ≡ lead_of q → Found ws q r
  unfolding Found lead_of
  no_tree (Ok at) e q h f = absurd h
  no_tree (Err d) e (refuse m) h f = let same : number_of d ≡ number_of e = ap number_of h in cc
  no_tree (Err d) e (got r vs) h f = cc

  -- ---- the answers
  pub some_tree : (at : ℕ) (q : Parsed (Record Outcome)) → Found ws q (Ok at) → SomeTree ws at
  unfolding Found
  some_tree at (refuse n) f = absurd f
  some_tree at (got r vs) f = record { it = tree r; stands = f }

  module _ (ask : Policy Outcome → Bool) where
    pub says : (at : ℕ) (q : Parsed (Record Outcome)) (b : Bool) → Found ws q (Ok at) → ((t : Policy Outcome) → Stands ws at t → b ≡ ask t) → Ok b ≡ told_of (asked_of q (λ r. ask (tree r)))
    unfolding Found
    says at (refuse n) b f s = absurd f
    says at (got r vs) b f s = ap Ok (s (tree r) f)

    -- No refusal has the number 0.
    refused_by : (e : Refusal) (q : Parsed (Record Outcome)) → Numbered q → Found ws q (Err e) → Err (number_of e) ≡ told_of (asked_of q (λ r. ask (tree r)))
    unfolding Found
    refused_by e (refuse zero) h f = let z : ⊥ = omega arith in absurd z
    refused_by e (refuse (suc m)) h f = ap Err f
    refused_by e (got r vs) h f = absurd f

    pub says_refused : (r : Result Bool Refusal) (e : Refusal) → IsErrAnd r (λ d. d ≡ e) → Found ws read (Err e) → by_number r ≡ told_of (asked_of read (λ x. ask (tree x)))
    says_refused r e h f = passed_on r e h ∙ refused_by e read (record_numbered product_sets.value ws) f

-- ---- the top node
pub top_permit : (t : Policy Outcome) → one_of 6 12 t ≡ permit_on_top t
top_permit (permit o) = refl
top_permit deny = refl
top_permit (grant g c) = refl
top_permit (all ts) = refl
top_permit (any ts) = refl
top_permit (or_else a b) = refl
top_permit (stored (permits p)) = refl
top_permit (stored (denies d)) = refl

pub top_deny : (t : Policy Outcome) → one_of 7 13 t ≡ deny_on_top t
top_deny (permit o) = refl
top_deny deny = refl
top_deny (grant g c) = refl
top_deny (all ts) = refl
top_deny (any ts) = refl
top_deny (or_else a b) = refl
top_deny (stored (permits p)) = refl
top_deny (stored (denies d)) = refl

module _ (ws : List ℕ) (at : ℕ) where
  -- A tree that reads has a first word, and that has the kind of its top node.
  pub within : SomeTree ws at → at < length ws
  within s = by (leb (length ws) at) refl
    where
      by : (b : Bool) → leb (length ws) at ≡ b → at < length ws
      by false e = leb-false (length ws) at e
      by true e = nothing_reads s.stands.depth s.it [] (ap (read_policy true s.stands.depth) (sym (no_word ws at (leb-true (length ws) at e))) ∙ s.stands.reads)

  pub kind_is : at < length ws → (t : Policy Outcome) → Stands ws at t → get_or ws at 0 / 268435456 ≡ kind_at t
  kind_is lt t s = (held_at (node_holds s.depth (get_or ws at 0) (drop (at + 1) ws)) (ap (read_policy true s.depth) (sym (word_at ws at lt)) ∙ s.reads)).kind_is

  -- By the kind, whether it is one of two.
  pub one_of_two : (kind one other : ℕ) (b : Bool) → ((t : Policy Outcome) → Stands ws at t → kind ≡ kind_at t) → b ≡ (eqb kind one || eqb kind other) → (t : Policy Outcome) → Stands ws at t → b ≡ one_of one other t
  one_of_two kind one other b k e t s = e ∙ ap (λ n. eqb n one || eqb n other) (k t s)
