-- A part of the output that is filled after bytes that were written. Assumes nothing.
use Rattle.std.proofs.Common.{◌≡◌, sym, ◌∙◌, ap, ap₂, List, ◌++◌, ℕ, ◌+◌, ◌-◌, ◌≤◌, length, take, drop, replicate, arith, length-append, length-take, length-drop, take-append-drop, drop-drop}
use Rattle.std.proofs.lemmas.List.{length-replicate}
use Rattle.std.proofs.lemmas.Slice.{take-put_mid, drop-put_mid}
use borrow.Rule.Slice.PartMut.{put_mid}
use Rattle.packing.specs.Written.{Written}
use Rattle.packing.specs.WrittenLaws.{written_long, written_front, written_rest}

pub then_filled : (ws out mid part : List ℕ) (s n v : ℕ) → Written ws out mid s → s ≤ n → n ≤ length out → part ≡ replicate (length (take (n - s) (drop s mid))) v →
    Written (ws ++ replicate (n - s) v) out (put_mid s (n - s) mid part) n
then_filled ws out mid part s n v w h room is =
    let long = written_long w (omega arith) in
    let e : length (take (n - s) (drop s mid)) ≡ n - s = omega (arith, length-take (n - s) (drop s mid), length-drop s mid) in
    let filled : part ≡ replicate (n - s) v = is ∙ ap (λ m. replicate m v) e in
    let count = length-replicate {A = ℕ} (n - s) v in
    let has : length part ≡ n - s = ap length filled ∙ count in
    let parts : n ≡ s + (n - s) = omega arith in
    let rest : drop n mid ≡ drop n out = ap (λ m. drop m mid) parts ∙ sym (drop-drop (n - s) s mid) ∙ ap (drop (n - s)) (written_rest w) ∙ drop-drop (n - s) s out ∙ ap (λ m. drop m out) (sym parts) in
    record {
      number = omega (arith, w.number, length-append ws (replicate (n - s) v));
      output =
          sym (take-append-drop n (put_mid s (n - s) mid part))
          ∙ ap₂ (λ x y. x ++ y)
          (take-put_mid s (n - s) mid part n (omega arith) (omega arith) ∙ ap₂ (λ x y. x ++ y) (written_front w) filled)
          (drop-put_mid s (n - s) mid part n (omega arith) (omega arith) has ∙ rest);
    }
