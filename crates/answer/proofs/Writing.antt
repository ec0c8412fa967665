-- A record that fits is written, and one that does not is refused with 11; words are copied as they stand. Assumes nothing.
use mathlib.Core.Path.{◌≡◌, refl, ◌∙◌, ap}
use mathlib.Core.Bool.{true, false, ◌&&◌, and-false, and-eq-true_iff}
use mathlib.Core.List.{List, ◌++◌}
use Prim.Native.Nat.{ℕ, ◌≤◌, ◌<◌}
use native.Mathlib.Omega.{arith}
use borrow.Author.Tests.{le-leb, lt-leb}
use lib.Dec.{leb}
use lib.ListN.{length, drop}
use Rattle.model.specs.Outcome.{product_sets}
use Rattle.model.specs.Record.{Record, tree}
use Rattle.model.specs.Writing.{short}
use Rattle.model.specs.Reading.{record_length}
use Rattle.model.specs.Products.{Outcome, encode_r, fits, write}
use Rattle.laws.proofs.Lengths.{length_encode_r}
use Rattle.packing.specs.Written as packing
use Rattle.std.specs.Prelude.{Ok, Err}
use Rattle.refusal.specs.declared.Refusal.TheVariants.{Room}
use Rattle.answer.specs.Answers.{Answered, copied}

abbrev pub words_of : Record Outcome → List ℕ
words_of r = encode_r r

-- ---- it does not fit: the output is too short, or a fact list in the record too long, or the record
module _ (room : ℕ) (r : Record Outcome) (out : List ℕ) where
  refused_by : fits room r ≡ false → Answered (write room r) out out (Err Room)
  refused_by e = rw e (record { answer_is = refl; output_is = refl })

  pub no_room : room < length (words_of r) → Answered (write room r) out out (Err Room)
  no_room h = refused_by (ap (λ b. (b && record_length (words_of r)) && short (tree r)) (lt-leb (length (words_of r)) room h))

  pub long_list : short (tree r) ≡ false → Answered (write room r) out out (Err Room)
  long_list e =
      refused_by (ap (λ b. (leb (length (words_of r)) room && record_length (words_of r)) && b) e ∙ and-false (leb (length (words_of r)) room && record_length (words_of r)))

  pub long_record : 16384 < length (words_of r) → Answered (write room r) out out (Err Room)
  long_record h =
      refused_by
      (ap (λ b. (leb (length (words_of r)) room && (leb 1 (length (words_of r)) && b)) && short (tree r)) (lt-leb (length (words_of r)) 16384 h)
      ∙ ap (λ b. (leb (length (words_of r)) room && b) && short (tree r)) (and-false (leb 1 (length (words_of r))))
      ∙ ap (λ b. b && short (tree r)) (and-false (leb (length (words_of r)) room)))

-- ---- it fits
pub written_record : (room size : ℕ) (r : Record Outcome) (before after : List ℕ) → size ≤ room → size ≤ 16384 → short (tree r) ≡ true → packing.Written (words_of r) before after size →
    Answered (write room r) before after (Ok size)
written_record room size r before after h k s w =
    let n = length (words_of r) in
    let e : size ≡ n = w.number in
    let fit : fits room r ≡ true =
    (and-eq-true_iff (leb n room && record_length (words_of r)) (short (tree r))).1 (
      (and-eq-true_iff (leb n room) (record_length (words_of r))).1
          (le-leb n room (omega arith), (and-eq-true_iff (leb 1 n) (leb n 16384)).1 (le-leb 1 n (omega (arith, length_encode_r product_sets.number r)), le-leb n 16384 (omega arith))),
      s,
    ) in
    rw fit (record { answer_is = ap Ok e; output_is = w.output ∙ ap (λ m. words_of r ++ drop m before) e })

-- ---- words that are copied
module _ (ws before : List ℕ) where
  pub copy_no_room : length before < length ws → Answered (copied ws (length before)) before before (Err Room)
  copy_no_room h = rw (lt-leb (length ws) (length before) h) (record { answer_is = refl; output_is = refl })

  pub copy_written : (after : List ℕ) (n : ℕ) → length ws ≤ length before → packing.Written ws before after n → Answered (copied ws (length before)) before after (Ok n)
  copy_written after n h w = rw (le-leb (length ws) (length before) h) (record { answer_is = ap Ok w.number; output_is = w.output ∙ ap (λ m. ws ++ drop m before) w.number })
