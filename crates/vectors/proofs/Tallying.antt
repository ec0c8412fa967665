-- One stored answer after the other. Assumes nothing.
use mathlib.Core.Path.{◌≡◌, sym, ◌∙◌, ap, ap₂}
use mathlib.Core.Bool.{Bool, true, false, cond}
use mathlib.Core.List.{List}
use Prim.Native.Nat.{ℕ, suc, ◌+◌, ◌-◌, ◌<◌, ◌≤◌}
use native.Mathlib.Omega.{arith}
use borrow.Author.Tests.{eq-eqb, ne_eqb}
use lib.Dec.{eqb}
use lib.ListN.{length, take, drop, length-drop}
use lib.Seq.{take_all, drop-drop}
use Rattle.vectors.specs.declared.Call.{Call}
use Rattle.vectors.specs.declared.Tally.{Tally}
use Rattle.vectors.specs.Replies.{number_of}
use Rattle.std.specs.Prelude.{Option, Some, None}
use Rattle.vectors.specs.Stored.{number_in, whole_size, is_whole, size_of, agrees_in}
use Rattle.vectors.proofs.Reading.{sized_of, not_whole}
use Rattle.vectors.specs.Tallies.{noted_in, step_of, tally_from, tally_of}

-- ---- one stored answer
module _ (call : Call) (bs : List ℕ) (place : ℕ) (t : Tally) where
  pub step_other : (number_in bs 0 ≡ number_of call → ⊥) → t ≡ step_of call bs place t
  unfolding step_of
  step_other ne = sym (ap (λ b. cond b (noted_in t (agrees_in call bs) place) t) (ne_eqb _ _ ne))

  pub step_same : (b : Bool) → number_in bs 0 ≡ number_of call → b ≡ agrees_in call bs → noted_in t b place ≡ step_of call bs place t
  unfolding step_of
  step_same b e a = ap (λ x. noted_in t x place) a ∙ sym (ap (λ x. cond x (noted_in t (agrees_in call bs) place) t) (eq-eqb _ _ e))

  counts_of : (b a : Bool) → t.differ ≤ t.replayed →
      ((cond b (noted_in t a place) t).replayed ≤ t.replayed + 1) × ((cond b (noted_in t a place) t).differ ≤ (cond b (noted_in t a place) t).replayed)
  counts_of true true h = (omega arith, omega arith)
  counts_of true false h = (omega arith, omega arith)
  counts_of false a h = (omega arith, h)

  pub step_counts : t.differ ≤ t.replayed → ((step_of call bs place t).replayed ≤ t.replayed + 1) × ((step_of call bs place t).differ ≤ (step_of call bs place t).replayed)
  unfolding step_of
  step_counts h = counts_of (eqb (number_in bs 0) (number_of call)) (agrees_in call bs) h

-- ---- all

-- What is left gives what all give.
pub record Sofar (call : Call) (cases : List ℕ) (at place left : ℕ) (t : Tally) : Type 0 where
  pub within : at ≤ length cases
  pub places : place ≤ at + 1
  pub replayed : t.replayed < place
  pub differ : t.differ ≤ t.replayed
  pub rest : tally_from left call (drop at cases) place t ≡ tally_of call cases

module _ (call : Call) (cases : List ℕ) (at place left : ℕ) (t : Tally) where
  -- Nothing whole is left.
  pub tally_end : 0 < left → is_whole (drop at cases) ≡ false → tally_from left call (drop at cases) place t ≡ t
  unfolding tally_from
  tally_end h e =
      let one : left ≡ suc (left - 1) = omega arith in
      ap (λ n. tally_from n call (drop at cases) place t) one
      ∙ ap (λ b. cond b (tally_from (left - 1) call (drop (whole_size (drop at cases)) (drop at cases)) (place + 1) (step_of call (drop at cases) place t)) t) e

  -- One more.
  pub tally_next : 0 < left → is_whole (drop at cases) ≡ true →
      tally_from left call (drop at cases) place t ≡ tally_from (left - 1) call (drop (at + whole_size (drop at cases)) cases) (place + 1) (step_of call (drop at cases) place t)
  unfolding tally_from
  tally_next h e =
      let one : left ≡ suc (left - 1) = omega arith in
      ap (λ n. tally_from n call (drop at cases) place t) one
      ∙ ap (λ b. cond b (tally_from (left - 1) call (drop (whole_size (drop at cases)) (drop at cases)) (place + 1) (step_of call (drop at cases) place t)) t) e
      ∙ ap (λ l. tally_from (left - 1) call l (place + 1) (step_of call (drop at cases) place t)) (drop-drop (whole_size (drop at cases)) at cases)

  module _ (s : Sofar call cases at place left t) where
    rest_is : take (length cases - at) (drop at cases) ≡ drop at cases
    rest_is = take_all (length cases - at) (drop at cases) (omega (arith, length-drop at cases))

    pub sofar_done : left ≡ 0 → t ≡ tally_of call cases
    unfolding tally_from
    sofar_done e = sym (ap (λ n. tally_from n call (drop at cases) place t) e) ∙ s.rest

    its_size : {r : Option ℕ} → r ≡ size_of (take (length cases - at) (drop at cases)) → r ≡ size_of (drop at cases)
    its_size e = e ∙ ap size_of rest_is

    -- The stored answer at the front ends in what is left, and takes more than a byte.
    pub sofar_fits : {size : ℕ} → Some size ≡ size_of (take (length cases - at) (drop at cases)) → (at + size ≤ length cases) × (place < at + size)
    sofar_fits e =
        let here = sized_of (drop at cases) (its_size e) in
        (omega (arith, length-drop at cases, s.within, here.is, here.whole.bytes), omega (arith, s.places, here.is))

    pub sofar_end : 0 < left → None ≡ size_of (take (length cases - at) (drop at cases)) → t ≡ tally_of call cases
    sofar_end h e = sym (tally_end h (not_whole (drop at cases) (its_size e))) ∙ s.rest

    pub sofar_next : (r : Tally) (size : ℕ) → 0 < left → Some size ≡ size_of (take (length cases - at) (drop at cases)) →
        r ≡ step_of call (take (length cases - at) (drop at cases)) place t → Sofar call cases (at + size) (place + 1) (left - 1) r
    sofar_next r size h z e =
        let part = take (length cases - at) (drop at cases) in
        let here = sized_of (drop at cases) (its_size z) in
        let fits = sofar_fits z in
        let counts = step_counts call part place t s.differ in
        let stepped : r ≡ step_of call (drop at cases) place t = e ∙ ap (λ l. step_of call l place t) rest_is in
        record {
          within = fits.0;
          places = omega (arith, fits.1);
          replayed = omega (arith, s.replayed, counts.0, ap (λ x. x.replayed) e);
          differ = omega (arith, counts.1, ap (λ x. x.replayed) e, ap (λ x. x.differ) e);
          rest =
              ap₂ (λ n x. tally_from (left - 1) call (drop (at + n) cases) (place + 1) x) here.is stepped
              ∙ sym (tally_next h here.test)
              ∙ s.rest;
        }
