-- What an accepted sheet or record consists of: its tree is read to the last word, and a record's entries before it. Assumes nothing.
use mathlib.Core.Path.{◌≡◌, refl, sym, ◌∙◌, ap, subst}
use mathlib.Core.Bool.{true, false, ◌&&◌}
use mathlib.Core.Option.{none}
use mathlib.Core.List.{List, [], ◌∷◌}
use Prim.Native.Nat.{ℕ, zero, suc, ◌+◌, ◌-◌, ◌/◌, ◌%◌, ◌≤◌}
use native.Mathlib.Omega.{arith}
use borrow.Author.Tests.{leb-true, le-leb}
use lib.Dec.{leb}
use lib.ListN.{length, drop}
use Rattle.model.specs.Policy.{Policy, stored}
use Rattle.model.specs.Partial.{ReducedPolicy, resolved, pending}
use Rattle.model.specs.Record.{Record}
use Rattle.model.specs.Writing.{entry_bits}
use Rattle.model.specs.Reading.{Parsed, refuse, got, next, unless, read_list, consulted, read_condition, whole}
use Rattle.model.specs.Products.{Outcome, lead_kind, at12, at13, as_stored, node_p, read_policy, read_sheet, node14, parse14, parse15, rest, leads, read_lead, read_record}
use Rattle.laws.specs.Size.{pairs}
use Rattle.laws.proofs.FieldLaws.{Holds, fine, nothing, if_holds}
use Rattle.policy_model.specs.Answers.{refusal, Lead, lead_of}
use Rattle.policy_model.proofs.Pairs.{entries_leave, entries_long}

-- A part that was read, with the equation.
pub next_is : {A B : Type 0} {R : B → List ℕ → Type 0} (q : Parsed A) (k : A → List ℕ → Parsed B) → ((a : A) (vs : List ℕ) → q ≡ got a vs → Holds R (k a vs)) → Holds R (next q k)
next_is (refuse n) k f = nothing
next_is (got a vs) k f = f a vs refl

-- ---- sheets
pub sheet_tree : (ws : List ℕ) → Holds (λ t vs. read_policy false 32 ws ≡ got t []) (read_sheet ws)
sheet_tree ws =
    if_holds (leb 1 (length ws) && leb (length ws) 4096) 1 (whole (read_policy false 32 ws)) (λ _. to_end (read_policy false 32 ws))
  where
    to_end : (q : Parsed (Policy Outcome)) → Holds (λ t vs. q ≡ got t []) (whole q)
    to_end (refuse n) = nothing
    to_end (got t []) = fine refl
    to_end (got t (w ∷ vs)) = nothing

-- What was not refused was read.
pub was_read : {A X : Type 0} (q : Parsed A) → none ≡ refusal q → ((a : A) (vs : List ℕ) → q ≡ got a vs → X) → X
was_read (refuse n) e f = absurd cc
was_read (got a vs) e f = f a vs refl

-- ---- the tree of a record: of a residual, under Resolved one node of it
abbrev pub TreeRead : ReducedPolicy Outcome → List ℕ → List ℕ → Type 0
TreeRead (resolved d) us vs = read_policy true 1 us ≡ got (stored d) vs
TreeRead (pending t) us vs = read_policy true 32 us ≡ got t vs

pending_reads : (us : List ℕ) → Holds (λ b vs. TreeRead b us vs) (parse15 us)
pending_reads us = next_is (read_policy true 32 us) (λ t vs. got (pending t) vs) (λ t vs e. fine e)

abbrev below : ℕ → ℕ → List ℕ → Parsed (Policy Outcome)
below = node_p true (λ us. read_condition 0 us) (λ us. read_policy true 0 us)

node14_reads : (us : List ℕ) (j r : ℕ) (vs : List ℕ) → read_policy true 1 us ≡ below (6 + j) r vs → Holds (λ b ts. TreeRead b us ts) (node14 j r vs)
node14_reads us zero r vs e = next_is (at12 r vs) (λ d ts. got (resolved d) ts) (λ d ts g. fine (e ∙ ap as_stored g))
node14_reads us (suc zero) r vs e = next_is (at13 r vs) (λ d ts. got (resolved d) ts) (λ d ts g. fine (e ∙ ap as_stored g))
node14_reads us (suc (suc j)) r vs e = nothing

resolved_reads : (us : List ℕ) → Holds (λ b vs. TreeRead b us vs) (parse14 us)
resolved_reads [] = nothing
resolved_reads (w ∷ vs) =
    let k = w / 268435456 in
    let r = w % 268435456 in
    if_holds (leb 12 k) 5 (node14 (k - 12) r vs) (λ e.
    let h : 12 ≤ k = leb-true 12 k e in
    let j : k - 6 ≡ 6 + (k - 12) = omega arith in
    node14_reads (w ∷ vs) (k - 12) r vs (ap (λ t. unless t 5 (below (k - 6) r vs)) (le-leb 6 k (omega arith)) ∙ ap (λ i. below i r vs) j))

-- ---- records
-- The entries stand from the second word on, and the tree after them.
pub record Parts (ws : List ℕ) (r : Record Outcome) (vs : List ℕ) : Type 0 where
  pub entries_read : read_list consulted entry_bits (length r.log) (drop 1 ws) ≡ got r.log (drop (pairs r.log) (drop 1 ws))
  pub tree_read : TreeRead r.body (drop (pairs r.log) (drop 1 ws)) vs

module _ (w : ℕ) (us : List ℕ) where
  rest_reads : (p : List ℕ → Parsed (ReducedPolicy Outcome)) → ((vs : List ℕ) → Holds (λ b ts. TreeRead b vs ts) (p vs)) → (r : ℕ) → Holds (Parts (w ∷ us)) (rest p r us)
  rest_reads p reads r =
      next_is (read_list consulted entry_bits (r % 4096) us) (λ es vs. next (p vs) (λ b ts. got (record { body = b; log = es }) ts)) (λ es vs e.
      let long : length es ≡ r % 4096 = (subst (Holds (λ xs _. length xs ≡ r % 4096)) e (entries_long (r % 4096) us)).it in
      let left : drop (pairs es) us ≡ vs = (subst (Holds (λ xs ts. drop (pairs xs) us ≡ ts)) e (entries_leave (r % 4096) us)).it in
      next_is (p vs) (λ b ts. got (record { body = b; log = es }) ts) (λ b ts g.
      fine (record {
        entries_read = ap (λ n. read_list consulted entry_bits n us) long ∙ e ∙ ap (got es) (sym left);
        tree_read = subst (λ ts'. TreeRead b ts' ts) (sym left) (subst (Holds (λ b ts. TreeRead b vs ts)) g (reads vs)).it;
      })))

  leads_read : (j r : ℕ) → Holds (Parts (w ∷ us)) (leads j r us)
  leads_read zero r = rest_reads parse14 resolved_reads r
  leads_read (suc zero) r = rest_reads parse15 pending_reads r
  leads_read (suc (suc j)) r = nothing

lead_reads : (ws : List ℕ) → Holds (Parts ws) (read_lead ws)
lead_reads [] = nothing
lead_reads (w ∷ us) =
    if_holds (leb 14 (w / 268435456)) 5 (leads (w / 268435456 - 14) (w % 268435456) us) (λ _. leads_read w us (w / 268435456 - 14) (w % 268435456))

-- A record that is accepted has its parts, and nothing after them.
pub record_parts : (ws : List ℕ) → Holds (λ r vs. Parts ws r [] × (vs ≡ [])) (read_record ws)
record_parts ws =
    if_holds (leb 1 (length ws) && leb (length ws) 16384) 1 (whole (read_lead ws)) (λ _. to_end (read_lead ws) (lead_reads ws))
  where
    to_end : (q : Parsed (Record Outcome)) → Holds (Parts ws) q → Holds (λ r vs. Parts ws r [] × (vs ≡ [])) (whole q)
    to_end (refuse n) h = nothing
    to_end (got r []) h = fine (h.it, refl)
    to_end (got r (w ∷ vs)) h = nothing

-- What a lead says of the record that was read.
pub lead_is_lem : {X : Type 0} (q : Parsed (Record Outcome)) (l : Lead) → got l [] ≡ lead_of q →
    ((r : Record Outcome) (vs : List ℕ) → q ≡ got r vs → l.kind ≡ lead_kind r.body → l.consulted ≡ length r.log → l.tree ≡ 1 + pairs r.log → X) → X
unfolding lead_of
lead_is_lem (refuse n) l e f = absurd cc
lead_is_lem (got r vs) l e f =
    let same : l ≡ record { kind = lead_kind r.body; consulted = length r.log; tree = 1 + pairs r.log } = cc in
    f r vs refl (ap (λ x. x.kind) same) (ap (λ x. x.consulted) same) (ap (λ x. x.tree) same)
