-- A tree has no more levels than words, so one of few words reads within few levels. Assumes nothing.
use mathlib.Core.Path.{◌≡◌, refl, sym, ◌∙◌, ap}
use mathlib.Core.Bool.{Bool, true, false}
use mathlib.Core.List.{List, ◌++◌}
use Prim.Native.Nat.{ℕ, ◌+◌, ◌≤◌, min}
use native.Mathlib.Omega.{arith}
use borrow.Author.Tests.{leb-true, leb-false}
use lib.Dec.{leb}
use lib.ListN.{length}
use Rattle.model.specs.Outcome.{product_sets}
use Rattle.model.specs.Condition.{Condition, always, never, has, not_c, all_c, any_c, Conditions, cnil, ccons}
use Rattle.model.specs.Decision.{Decision, permits, denies}
use Rattle.model.specs.Policy.{Policy, permit, deny, grant, all, any, or_else, stored, Policies, pnil, pcons}
use Rattle.model.specs.Reading.{Parsed, refuse, got}
use Rattle.model.specs.Products.{Outcome, encode, read_policy}
use Rattle.laws.proofs.FieldLaws.{Holds, nothing, fine}
use Rattle.laws.specs.Size.{words_c, words_cs, words_d, words, wordss, SheetIf}
use Rattle.laws.specs.Form.{Countable, FormOf, Few, depth_c, depth_cs, depth, depths}
use Rattle.laws.proofs.ReadForm.{ok_t}
use Rattle.laws.proofs.ReadBack.{back_t}
use Rattle.laws.proofs.Canon.{same_t}
use Rattle.laws.specs.Products.{InRange}
use Rattle.laws.proofs.ProductLaws.{written_products}

mutual
  deep_c : (c : Condition) → depth_c c ≤ words_c c
  deep_c always = omega arith
  deep_c never = omega arith
  deep_c (has f) = omega arith
  deep_c (not_c c) = let h = deep_c c in omega (arith, h)
  deep_c (all_c cs) = let h = deep_cs cs in omega (arith, h)
  deep_c (any_c cs) = let h = deep_cs cs in omega (arith, h)

  deep_cs : (cs : Conditions) → depth_cs cs ≤ words_cs cs
  deep_cs cnil = omega arith
  deep_cs (ccons c cs) = let h = deep_c c in let k = deep_cs cs in omega (arith, h, k)

deep_d : (d : Decision Outcome) → 1 ≤ words_d d
deep_d (permits p) = omega arith
deep_d (denies n) = omega arith

mutual
  deep : (t : Policy Outcome) → depth t ≤ words t
  deep (permit o) = omega arith
  deep deny = omega arith
  deep (grant g c) = let h = deep_c c in omega (arith, h)
  deep (all ts) = let h = deeps ts in omega (arith, h)
  deep (any ts) = let h = deeps ts in omega (arith, h)
  deep (or_else a b) = let h = deep a in let k = deep b in omega (arith, h, k)
  deep (stored d) = deep_d d

  deeps : (ts : Policies Outcome) → depths ts ≤ wordss ts
  deeps pnil = omega arith
  deeps (pcons t ts) = let h = deep t in let k = deeps ts in omega (arith, h, k)

module _ (W : List ℕ) (d : ℕ) (enough : min 32 (length W) ≤ d) where
  levels_within : (res : Bool) → length W ≤ 4096 → Holds (λ t rest. read_policy res d W ≡ got t rest) (read_policy res 32 W)
  levels_within res few =
      within (read_policy res 32 W) (ok_t InRange product_sets.value written_products.sound res Few 4095 (λ c h. h) 32 W few) (same_t product_sets.number product_sets.value written_products.only res 32 W)
    where
      within : (q : Parsed (Policy Outcome)) → Holds (λ t rest. FormOf InRange Few Countable t × (depth t ≤ 32) × (words t + length rest ≡ length W) × SheetIf res t) q → Holds (λ t rest. encode t ++ rest ≡ W) q →
          Holds (λ t rest. read_policy res d W ≡ got t rest) q
      within (refuse n) h e = nothing
      within (got t rest) h e =
          let ok = h.it in
          let few_words = deep t in
          fine (ap (read_policy res d) (sym e.it)
          ∙ back_t InRange Few product_sets.number product_sets.value written_products.small written_products.again t res d rest (omega (arith, few_words, ok.1, ok.2)) ok.0 ok.3)

  levels_by : (res few : Bool) → leb (length W) 4096 ≡ few → d ≤ 32 → Holds (λ t rest. read_policy res d W ≡ got t rest) (read_policy res 32 W)
  levels_by res true is most = levels_within res (leb-true (length W) 4096 is)
  levels_by res false is most =
      let all_levels : d ≡ 32 = omega (arith, leb-false (length W) 4096 is) in
      itself (read_policy res 32 W) (ap (λ n. read_policy res n W) all_levels)
    where
      itself : {p : Parsed (Policy Outcome)} (q : Parsed (Policy Outcome)) → p ≡ q → Holds (λ t rest. p ≡ got t rest) q
      itself (refuse n) e = nothing
      itself (got t rest) e = fine e

  -- A tree that reads within 32 levels, in a sheet or a residual, reads alike within `d`.
  pub few_levels_in : (res : Bool) → d ≤ 32 → Holds (λ t rest. read_policy res d W ≡ got t rest) (read_policy res 32 W)
  few_levels_in res most = levels_by res (leb (length W) 4096) refl most
