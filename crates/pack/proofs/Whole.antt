-- From bits that were put to the answer of a call: they are those of what the words read as. Assumes nothing.
use mathlib.Core.Path.{◌≡◌, refl, sym, ◌∙◌, ap, ap₂, subst}
use mathlib.Core.Bool.{Bool, true, false, ◌&&◌}
use mathlib.Core.Option.{none, some}
use mathlib.Core.List.{List, [], ◌∷◌, ◌++◌}
use Prim.Native.Nat.{ℕ, ◌+◌, ◌/◌, ◌≤◌, ◌<◌}
use native.Mathlib.Omega.{arith}
use borrow.Author.Tests.{leb-true}
use lib.Dec.{leb}
use lib.ListN.{length, take, drop}
use lib.Seq.{length-take-le}
use Rattle.model.specs.Fields.{words_for}
use Rattle.model.specs.Outcome.{product_sets}
use Rattle.model.specs.Policy.{Policy}
use Rattle.model.specs.Record.{Record}
use Rattle.model.specs.Writing.{encode, encode_r, numbered}
use Rattle.model.specs.Reading.{Parsed, refuse, got, unless, whole, sheet_number}
use Rattle.model.specs.Products.{Outcome, read_sheet, read_lead, read_record, pack_sheet, pack_record}
use Rattle.model.specs.Calls.{on_read}
use Rattle.model.specs.Bits.{bytes_of}
use Rattle.model.specs.Tight.{tight, tight_r, give_bytes}
use Rattle.laws.specs.FieldAt.{Narrow}
use Rattle.laws.proofs.FieldLaws.{Holds}
use Rattle.laws.proofs.WordLaws.{length_packed, narrow_known}
use Rattle.laws.proofs.BitLaws.{Bits}
use Rattle.laws.specs.Form.{FewRepeats, Countable, Few, Free, FormOf}
use Rattle.laws.proofs.ReadForm.{OkSheet, ok_sheet, OkRecord, ok_record, sheet_form}
use Rattle.laws.proofs.Canon.{same_sheet_lem, same_record}
use Rattle.laws.specs.Products.{InRange}
use Rattle.laws.proofs.ProductLaws.{written_products}
use Rattle.laws.proofs.TightRecords.{bits_t, bits_r}
use Rattle.policy_model.specs.Answers.{refusal, Lead, lead_of}
use Rattle.std.specs.Prelude.{Result, Ok, Err}
use Rattle.refusal.specs.declared.Refusal.{Refusal}
use Rattle.refusal.specs.declared.Refusal.TheVariants as refusals
use Rattle.refusal.specs.Numbers.{number_of}
use Rattle.answer.specs.Answers.{Answer, Answered}
use Rattle.answer.proofs.Writing.{copy_no_room, copy_written}
use Rattle.bits.specs.Splice.{Spliced}
use Rattle.bits.specs.SpliceLaws.{all_spliced}
use Rattle.pack.specs.Flat.{flat, record_run}
use Rattle.pack.specs.TreeLaws.{sheet_run, record_run_lem}
use Rattle.pack.specs.Packing.{Packed}

abbrev err : ℕ → Result ℕ ℕ
err n = Err n

-- ---- bits as bytes
pub packed_no_room : (bs out : List ℕ) → length out < (length bs + 7) / 8 → Packed bs out out (Err refusals.Room)
packed_no_room bs out h = record { packed = λ b. copy_no_room (bytes_of bs) out (omega (arith, length_packed 1 8 (words_for 8 (length bs)) bs)) }

-- The bytes that the bits need were lent, and stand before the others again.
pub packed_done : (bs out part : List ℕ) (size r : ℕ) → Narrow 8 (part ++ drop size out) → size ≡ (length bs + 7) / 8 → size ≤ length out → Spliced (take size out) part 0 bs r → Packed bs out (part ++ drop size out) (Ok size)
packed_done bs out part size r h e l s =
    let n = length_packed 1 8 (words_for 8 (length bs)) bs in
    let whole : part ≡ bytes_of bs = all_spliced (take size out) part bs r (narrow_front part (drop size out) h) (length-take-le size out l ∙ e) s in
    record { packed = λ b. copy_written (bytes_of bs) out (part ++ drop size out) size (omega (arith, n, e, l)) (record { number = e ∙ sym n; output = ap (λ x. x ++ drop size out) whole }) }
  where
    narrow_front : (xs ys : List ℕ) → Narrow 8 (xs ++ ys) → Narrow 8 xs
    narrow_front [] ys a = tt
    narrow_front (x ∷ xs) ys a = (a.0, narrow_front xs ys a.1)

pub ruleset packing = (narrow_known, packed_no_room, packed_done)

-- ---- sheets
abbrev pub SheetOf : List ℕ → Policy Outcome → List ℕ → Type 0
SheetOf ws = OkSheet InRange product_sets.value written_products.sound ws

module _ (ws out after : List ℕ) where
  pub sheet_refused : (r : Refusal) → some (number_of r) ≡ refusal (read_sheet ws) → Answered (pack_sheet ws (length out)) out out (Err r)
  sheet_refused r e = by (read_sheet ws) e
    where
      by : (q : Parsed (Policy Outcome)) → some (number_of r) ≡ refusal q → Answered (on_read q (λ t. give_bytes (length out) (tight product_sets.number t))) out out (Err r)
      by (refuse m) f = let same : number_of r ≡ m = cc in record { answer_is = ap err same; output_is = refl }
      by (got t us) f = absurd (cc)

  pub sheet_length_lem : none ≡ refusal (read_sheet ws) → length ws ≤ 16384
  sheet_length_lem e = by (read_sheet ws) e (ok_sheet InRange product_sets.value written_products.sound ws)
    where
      by : (q : Parsed (Policy Outcome)) → none ≡ refusal q → Holds (SheetOf ws) q → length ws ≤ 16384
      by (refuse n) f k = absurd (cc)
      by (got t us) f k = let a = k.it.2 in let b = k.it.4 in omega arith

  pub sheet_packed : (r : Answer) → none ≡ refusal (read_sheet ws) → Packed (flat ws 0) out after r → Answered (pack_sheet ws (length out)) out after r
  sheet_packed r e p = by (read_sheet ws) refl e (ok_sheet InRange product_sets.value written_products.sound ws)
    where
      by : (q : Parsed (Policy Outcome)) → read_sheet ws ≡ q → none ≡ refusal q → Holds (SheetOf ws) q → Answered (on_read q (λ t. give_bytes (length out) (tight product_sets.number t))) out after r
      by (refuse n) i f k = absurd (cc)
      by (got t us) i f k =
          let words : encode product_sets.number t ≡ ws = same_sheet_lem product_sets.number product_sets.value written_products.only ws t us i in
          let form : FormOf InRange Few Countable t = sheet_form InRange product_sets.value written_products.sound Few FewRepeats Countable t k.it.3 k.it.0 in
          let bits : flat ws 0 ≡ tight product_sets.number t = ap (λ l. flat l 0) (sym words) ∙ sheet_run InRange Few product_sets.number written_products.small t form in
          subst (λ l. Answered (give_bytes (length out) l) out after r) bits
          (p.packed (subst Bits (sym bits) (bits_t InRange Few product_sets.number written_products.small t form).it))

-- ---- records
abbrev RecordOf : List ℕ → Record Outcome → List ℕ → Type 0
RecordOf ws r us = OkRecord InRange product_sets.value written_products.sound (length ws) r

pub record Bounds (ws : List ℕ) (count at : ℕ) : Type 0 where
  pub some_words : 0 < length ws
  pub few : length ws ≤ 16384
  pub consulted : count < 4096
  pub inside : at ≤ length ws

long_by : (b : Bool) (ws : List ℕ) (q : Parsed (Record Outcome)) (r : Record Outcome) (us : List ℕ) → leb (length ws) 16384 ≡ b → unless (leb 1 (length ws) && b) 1 q ≡ got r us → length ws ≤ 16384
long_by true ws q r us e f = leb-true (length ws) 16384 e
long_by false ws q r us e f = absurd (none_got (leb 1 (length ws)) f)
  where
    none_got : (a : Bool) → unless (a && false) 1 q ≡ got r us → ⊥
    none_got true g = cc
    none_got false g = cc

module _ (ws out after : List ℕ) where
  pub record_refused : (x : Refusal) → refuse (number_of x) ≡ lead_of (read_record ws) → Answered (pack_record ws (length out)) out out (Err x)
  unfolding lead_of
  record_refused x e = by (read_record ws) e
    where
      by : (q : Parsed (Record Outcome)) → refuse (number_of x) ≡ lead_of q → Answered (on_read q (λ r. give_bytes (length out) (tight_r product_sets.number (sheet_number ws) r))) out out (Err x)
      by (refuse m) f = let same : number_of x ≡ m = cc in record { answer_is = ap err same; output_is = refl }
      by (got r us) f = absurd (cc)

  module _ (lead : Lead) (e : got lead [] ≡ lead_of (read_record ws)) where
    pub record_bounds : Bounds ws lead.consulted lead.tree
    unfolding lead_of
    record_bounds = by (read_record ws) refl e (ok_record InRange product_sets.value written_products.sound ws)
      where
        by : (q : Parsed (Record Outcome)) → read_record ws ≡ q → got lead [] ≡ lead_of q → Holds (RecordOf ws) q → Bounds ws lead.consulted lead.tree
        by (refuse m) i f k = absurd (cc)
        by (got r us) i f k =
            let c : lead.consulted ≡ length r.log = cc in
            let t : lead.tree ≡ 1 + words_for 2 (length r.log) = cc in
            let l = k.it.long in
            let n = k.it.few in
            record {
              some_words = omega arith;
              few = long_by (leb (length ws) 16384) ws (whole (read_lead ws)) r us refl i;
              consulted = omega arith;
              inside = omega arith;
            }

    pub record_packed : (x : Answer) → Packed (record_run ws lead.consulted lead.tree) out after x → Answered (pack_record ws (length out)) out after x
    unfolding lead_of
    record_packed x p = by (read_record ws) refl e (ok_record InRange product_sets.value written_products.sound ws)
      where
        by : (q : Parsed (Record Outcome)) → read_record ws ≡ q → got lead [] ≡ lead_of q → Holds (RecordOf ws) q → Answered (on_read q (λ r. give_bytes (length out) (tight_r product_sets.number (sheet_number ws) r))) out after x
        by (refuse m) i f k = absurd (cc)
        by (got r us) i f k =
            let c : lead.consulted ≡ length r.log = cc in
            let t : lead.tree ≡ 1 + words_for 2 (length r.log) = cc in
            let n = sheet_number ws in
            let small : n < 65536 = omega arith in
            let few : length r.log < 4096 = omega (arith, k.it.few) in
            let words : numbered n (encode_r product_sets.number r) ≡ ws = same_record product_sets.number product_sets.value written_products.only ws r us i in
            let bits : record_run ws lead.consulted lead.tree ≡ tight_r product_sets.number n r =
            ap₂ (λ a b. record_run ws a b) c t ∙ ap (λ l. record_run l (length r.log) (1 + words_for 2 (length r.log))) (sym words)
            ∙ record_run_lem InRange Free product_sets.number written_products.small n small r few k.it.entries k.it.form in
            subst (λ l. Answered (give_bytes (length out) l) out after x) bits
            (p.packed (subst Bits (sym bits) (bits_r InRange Free product_sets.number product_sets.value written_products.small written_products.again n small r few k.it.entries k.it.form).it))
