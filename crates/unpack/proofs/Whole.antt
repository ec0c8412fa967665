-- From the check's answer to that of a call: what was read, its words, and how many they are. Assumes nothing.
use mathlib.Core.Path.{◌≡◌, refl, sym, ◌∙◌, ap, ap₂, subst}
use mathlib.Core.Bool.{Bool, true, false, cond, ◌&&◌}
use Rattle.std.specs.Prelude.{Ok, Err}
use Rattle.std.proofs.Math.Option.{Option, none, some}
use mathlib.Core.List.{List, [], ◌++◌, append-nil}
use Prim.Native.Nat.{ℕ, ◌+◌, ◌-◌, ◌≤◌}
use native.Mathlib.Omega.{arith}
use borrow.Author.Tests.{le-leb, leb-true}
use lib.Dec.{leb, ltb}
use lib.ListN.{length, drop, length-drop}
use Rattle.model.specs.Bits.{run_of}
use Rattle.model.specs.Outcome.{product_sets}
use Rattle.model.specs.Policy.{Policy}
use Rattle.model.specs.Writing.{encode, encode_r, numbered}
use Rattle.model.specs.Reading.{Parsed, refuse, got, unless}
use Rattle.model.specs.Products.{Outcome, loose_r}
use Rattle.model.specs.Calls as model
use Rattle.model.specs.Tight.{loose, zeros, filled, give_words, UnderNumber}
use Rattle.laws.proofs.FieldLaws.{Holds, fine, nothing}
use Rattle.laws.proofs.BitLaws.{Bits}
use Rattle.laws.specs.Size.{words}
use Rattle.laws.proofs.Lengths.{length_encode, length_encode_r, length_numbered}
use Rattle.packing.specs.Written as packing
use Rattle.refusal.specs.declared.Refusal.{Refusal}
use Rattle.refusal.specs.Numbers.{number_of}
use Rattle.answer.specs.Answers.{Answered}
use Rattle.unpack.specs.declared.Found.{Found}
use Rattle.unpack.specs.Nodes.{restored}
use Rattle.unpack.specs.Answers.{sized, words_u, judged}
use Rattle.unpack.specs.RestoreLaws.{Restores, restored_none, restores_t}

-- What a call reads of bits, with its words and their count.
pub record Call (A : Type 0) : Type 0 where
  pub read : List ℕ → Parsed A
  pub enc : A → List ℕ
  pub size : A → ℕ
  pub long : (a : A) → length (enc a) ≡ size a
  pub most : ℕ

module _ {A : Type 0} (call : Call A) (bytes out : List ℕ) where
  abbrev gives : A → model.Answer
  gives a = give_words call.most (length out) (call.enc a)

  abbrev given : model.Answer
  given = model.unless_long (leb (length bytes) 65536) (model.on_read (filled (call.read (run_of bytes))) gives)

  module _ (fits : length bytes ≤ 65536) where
    module _ (found : Found) (e : sized call.size 0 (call.read (run_of bytes)) ≡ got found.words (drop found.at (run_of bytes))) where
      abbrev left : List ℕ
      left = drop found.at (run_of bytes)

      abbrev filler : Bool
      filler = ltb (length left) 8 && zeros left

      -- What stands for all of it: each call from here on is decided by the filler and the count.
      decided : {after : List ℕ} {r : _} (b : Bool) → filler ≡ b →
          ((a : A) → length (call.enc a) ≡ found.words → Holds (λ x cs. x ≡ a) (call.read (run_of bytes)) → Answered (model.on_read (unless b 20 (got a [])) gives) out after r) → Answered given out after r
      decided {after} {r} b eb k = rw (le-leb (length bytes) 65536 fits) (by (call.read (run_of bytes)) e k)
        where
          by : (q : Parsed A) → sized call.size 0 q ≡ got found.words left → ((a : A) → length (call.enc a) ≡ found.words → Holds (λ x cs. x ≡ a) q → Answered (model.on_read (unless b 20 (got a [])) gives) out after r) →
              Answered (model.on_read (filled q) gives) out after r
          by (refuse m) f k = absurd (cc)
          by (got a cs) f k =
              subst (λ x. Answered (model.on_read (unless x 20 (got a [])) gives) out after r) (sym eb ∙ ap (λ l. ltb (length l) 8 && zeros l) (let rest : left ≡ cs = cc in rest))
              (k a (let n : 0 + call.size a ≡ found.words = cc in omega (arith, call.long a)) (fine refl))

      abbrev verdict : Bool → Option ℕ
      verdict b = judged (unless b 20 (got found.words [])) call.most (length out)

      -- What follows is not the filler, or the words are too many or have no room.
      pub misjudged : (r : Refusal) → some (number_of r) ≡ verdict filler → Answered given out out (Err r)
      misjudged r e = by_filler filler refl
        where
          by_room : (b c : Bool) → leb found.words call.most ≡ b → leb found.words (length out) ≡ c → some (number_of r) ≡ cond (b && c) none (some 11) → (a : A) → length (call.enc a) ≡ found.words → Answered (gives a) out out (Err r)
          by_room false c f g h a n = rw (n, f) (record { answer_is = cc; output_is = refl })
          by_room true false f g h a n = rw (n, f, g) (record { answer_is = cc; output_is = refl })
          by_room true true f g h a n = absurd (cc)

          by_filler : (b : Bool) → filler ≡ b → Answered given out out (Err r)
          by_filler false f = decided false f (λ a n h. let g = e ∙ ap verdict f in record { answer_is = cc; output_is = refl })
          by_filler true f = decided true f (λ a n h. by_room (leb found.words call.most) (leb found.words (length out)) refl refl (e ∙ ap verdict f) a n)

      -- It is the filler, and the words have room.
      well_judged : none ≡ verdict filler → (filler ≡ true) × (found.words ≤ call.most) × (found.words ≤ length out)
      well_judged e = by filler (leb found.words call.most) (leb found.words (length out)) refl refl refl
        where
          by : (b c d : Bool) → filler ≡ b → leb found.words call.most ≡ c → leb found.words (length out) ≡ d → (filler ≡ true) × (found.words ≤ call.most) × (found.words ≤ length out)
          by true true true f g h = (f, leb-true found.words call.most g, leb-true found.words (length out) h)
          by true true false f g h = absurd (let x = e ∙ ap verdict f ∙ ap₂ (λ x y. cond (x && y) none (some 11)) g h in cc)
          by true false d f g h = absurd (let x = e ∙ ap verdict f ∙ ap (λ x. cond (x && leb found.words (length out)) none (some 11)) g in cc)
          by false c d f g h = absurd (let x = e ∙ ap verdict f in cc)

      module _ (j : none ≡ verdict filler) (ws : List ℕ) (same : Holds (λ a cs. cs ≡ left → call.enc a ≡ ws) (call.read (run_of bytes))) where
        -- There is room for what is restored.
        pub room_for : length ws ≤ length out
        room_for = by (call.read (run_of bytes)) e same
          where
            by : (q : Parsed A) → sized call.size 0 q ≡ got found.words left → Holds (λ a cs. cs ≡ left → call.enc a ≡ ws) q → length ws ≤ length out
            by (refuse m) f h = absurd (cc)
            by (got a cs) f h = let n : 0 + call.size a ≡ found.words = cc in omega (arith, n, call.long a, ap length (h.it (cc)), (well_judged j).2)

        pub done : {after : List ℕ} {n : ℕ} → packing.Written ws out after n → Answered given out after (Ok found.words)
        done {after} {n} k = decided true (well_judged j).0 (λ a x h. by a x (words_are a (call.read (run_of bytes)) e same h))
          where
            words_are : (a : A) (q : Parsed A) → sized call.size 0 q ≡ got found.words left → Holds (λ a cs. cs ≡ left → call.enc a ≡ ws) q → Holds (λ x cs. x ≡ a) q → call.enc a ≡ ws
            words_are a (refuse m) f s h = absurd (cc)
            words_are a (got b cs) f s h = ap call.enc (sym h.it) ∙ s.it (cc)

            by : (a : A) → length (call.enc a) ≡ found.words → call.enc a ≡ ws → Answered (gives a) out after (Ok found.words)
            by a x y =
                let w = well_judged j in
                rw (le-leb (length (call.enc a)) call.most (omega (arith, w.1)), le-leb (length (call.enc a)) (length out) (omega (arith, w.2)))
                (record { answer_is = cc; output_is = k.output ∙ ap₂ (λ u v. u ++ drop v out) (sym y) (k.number ∙ ap length (sym y)) })

-- ---- sheets
abbrev pub sheets : Call (Policy Outcome)
sheets = record { read = loose product_sets.value false 32; enc = encode product_sets.number; size = words; long = length_encode product_sets.number; most = 4096 }

pub sheet_restored : (run : List ℕ) (at : ℕ) → Bits run → at ≤ length run → Holds (λ t cs. cs ≡ drop at run → encode product_sets.number t ≡ restored run 0 (at - 0)) (loose product_sets.value false 32 run)
sheet_restored run at h l = by (loose product_sets.value false 32 run) (restores_t false 32 run h)
  where
    by : (q : Parsed (Policy Outcome)) → Holds (λ t cs. Restores run (encode product_sets.number t) cs) q → Holds (λ t cs. cs ≡ drop at run → encode product_sets.number t ≡ restored run 0 (at - 0)) q
    by (refuse n) r = nothing
    by (got t cs) r =
        fine (λ e.
        let ws = encode product_sets.number t in
        let n = ap length e in
        sym (append-nil ws) ∙ ap (λ l. ws ++ l) (sym (restored_none cs)) ∙ sym (r.it.words 0)
        ∙ ap (restored run 0) (let z : length run - length cs + 0 ≡ at - 0 = omega (arith, n, length-drop at run) in z))

-- ---- records
abbrev pub records : Call (UnderNumber Outcome)
records =
    record {
      read = loose_r;
      enc = λ u. numbered u.sheet (encode_r product_sets.number u.held);
      size = words_u;
      long = λ u. length_numbered u.sheet (encode_r product_sets.number u.held) ∙ length_encode_r product_sets.number u.held;
      most = 16384;
    }
