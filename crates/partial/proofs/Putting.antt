-- A Pending record that is measured and then written, or refused with 11. Assumes nothing.
use mathlib.Core.Path.{◌≡◌, refl, ◌∙◌, ap, ap₂, subst}
use mathlib.Core.Bool.{Bool, true, false}
use mathlib.Core.List.{List, ◌++◌, map}
use Prim.Native.Nat.{ℕ, ◌+◌, ◌/◌, ◌≤◌, ◌<◌}
use native.Mathlib.Omega.{arith}
use borrow.Author.Tests.{leb-true, leb-false}
use lib.Dec.{leb}
use lib.ListN.{length, take, drop, length-map, length-take}
use Rattle.model.specs.Outcome.{product_sets}
use Rattle.model.specs.Policy.{Policy}
use Rattle.model.specs.Partial.{pending}
use Rattle.model.specs.Consulted.{Consulted}
use Rattle.model.specs.Record.{Record}
use Rattle.model.specs.Writing.{entry_field, short}
use Rattle.model.specs.Products.{Outcome, encode, write}
use Rattle.laws.specs.Size.{words}
use Rattle.laws.proofs.Lengths.{length_encode_r}
use Rattle.packing.specs.Written as packing
use Rattle.packing.specs.WrittenLaws.{written_then, written_same}
use Rattle.policy_model.specs.declared.Status.TheVariants as status
use Rattle.record.specs.Nodes.{front_words}
use Rattle.record.specs.NodeLaws.{record_words_lem}
use Rattle.sizes.specs.Laid.{most_words, capped}
use Rattle.residual.specs.Weight.{weight}
use Rattle.residual.specs.WeightLaws.{weight_fits, weight_many}
use Rattle.std.specs.Prelude.{Ok, Err}
use Rattle.refusal.specs.declared.Refusal.TheVariants.{Room}
use Rattle.answer.specs.Answers.{Answered}
use Rattle.answer.proofs.Writing.{words_of, no_room, long_list, long_record, written_record}
use Rattle.partial.specs.Answers.{PutPending}

-- The record of what is left and a consulted list.
abbrev record_of : Policy Outcome → Consulted → Record Outcome
record_of q l = record { body = pending q; log = l }

length_record : (q : Policy Outcome) (l : Consulted) → length (words_of (record_of q l)) ≡ 1 + (length l + 1) / 2 + words q
length_record q l = length_encode_r product_sets.number (record_of q l)

-- It does not fit, by the size that was counted.
module _ (q : Policy Outcome) (l : Consulted) (room : ℕ) (out : List ℕ) where
  heavy : (b : Bool) → short q ≡ b → most_words < weight q → Answered (write room (record_of q l)) out out (Err Room)
  heavy false e h = long_list room (record_of q l) out e
  heavy true e h = long_record room (record_of q l) out (omega (arith, length_record q l, weight_many q h e))

  too_long : (size : ℕ) → size ≡ capped (weight q) → 16384 < 1 + (length l + 1) / 2 + size → Answered (write room (record_of q l)) out out (Err Room)
  too_long size e h = by_weight (leb (weight q) 16384) refl
    where
      by_weight : (b : Bool) → leb (weight q) 16384 ≡ b → Answered (write room (record_of q l)) out out (Err Room)
      by_weight true k = let few : weight q ≤ 16384 = leb-true (weight q) 16384 k in long_record room (record_of q l) out (omega (arith, length_record q l, (weight_fits q few).0))
      by_weight false k = heavy (short q) refl (leb-false (weight q) 16384 k)

-- ---- the answers of `put_pending`
same_length : {entries : List ℕ} (l : Consulted) → entries ≡ map entry_field l → length entries ≡ length l
same_length l m = ap length m ∙ length-map l entry_field

module _ {entries scratch out : List ℕ} {size : ℕ} where
  pub put_too_long : 16384 < 1 + (length entries + 1) / 2 + size → PutPending entries scratch size out out (Err Room)
  put_too_long h = record { put = λ q l laid there m. too_long q l (length out) out size laid.size_is (omega (arith, same_length l m)) }

  pub put_no_room : 1 + (length entries + 1) / 2 + size ≤ 16384 → length out < 1 + (length entries + 1) / 2 + size → PutPending entries scratch size out out (Err Room)
  put_no_room few h =
      record {
        put = λ q l laid there m.
            let light : weight q ≤ 16384 = omega (arith, laid.size_is) in
            no_room (length out) (record_of q l) out (omega (arith, length_record q l, (weight_fits q light).0, laid.size_is, same_length l m));
      }

  pub put_written : {mid tail left : List ℕ} {front rest : ℕ} → 1 + (length entries + 1) / 2 + size ≤ 16384 → 1 + (length entries + 1) / 2 + size ≤ length out → size ≤ length scratch → left ≡ take size scratch →
      front ≡ 1 + (length entries + 1) / 2 → packing.Written (front_words status.Pending entries) out mid front → rest ≡ size → tail ≡ left →
      PutPending entries scratch size out (take front mid ++ (tail ++ drop rest (drop front mid))) (Ok (1 + (length entries + 1) / 2 + size))
  put_written {mid} {tail} {left} {front} {rest} few room fits-scratch is z p more w =
      record {
        put = λ q l laid there m.
            let light : weight q ≤ 16384 = omega (arith, laid.size_is) in
            let heard = weight_fits q light in
            let long : size ≡ length left = omega (arith, ap length is, length-take size scratch) in
            let tree : packing.Written (encode q) (drop front mid) (tail ++ drop rest (drop front mid)) size =
            written_same (record { number = long; output = ap₂ (λ l n. l ++ drop n (drop front mid)) w more }) (is ∙ laid.front (omega arith) fits-scratch) in
            let whole = written_same (written_then p tree) (record_words_lem (record_of q l) status.Pending entries refl m) in
            subst (λ n. Answered (write (length out) (record_of q l)) out (take front mid ++ (tail ++ drop rest (drop front mid))) (Ok n)) (ap (λ n. n + size) z)
            (written_record (length out) (front + size) (record_of q l) out (take front mid ++ (tail ++ drop rest (drop front mid))) (omega arith) (omega arith) heard.1 whole);
      }
