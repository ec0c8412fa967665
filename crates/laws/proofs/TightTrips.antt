-- There and back in the tight form, over the calls: what was packed is unpacked to the same words, and what was unpacked is packed to the same bytes.
-- Four bytes a word are always room enough. Request 11.
use Rattle.std.specs.Prelude.{◌≡◌, refl, Bool, true, false, ◌&&◌, List, [], ◌∷◌, ◌++◌, ℕ, zero, suc, ◌*◌, ◌≤◌, ◌<◌, eqb, ltb, leb, length, replicate}
use Rattle.std.proofs.Common.{sym, ◌∙◌, ap, ap₂, subst, arith, leb-true, le-leb, ltb-true, lt-ltb, eqb-true}
use Rattle.std.proofs.lemmas.List.{length-replicate}
use Rattle.std.proofs.lemmas.Bool.{and_parts, and_from}
use Rattle.model.specs.Fields.{words_for}
use Rattle.model.specs.Outcome.{Outcomes}
use Rattle.model.specs.Condition.{Condition}
use Rattle.model.specs.Policy.{Policy}
use Rattle.model.specs.Record.{Record, tree}
use Rattle.model.specs.Writing.{encode, encode_r, numbered}
use Rattle.model.specs.Reading.{Parsed, refuse, got, unless, whole, read_lead, read_sheet, read_record, sheet_number, levels, sheet_words, record_words}
use Rattle.model.specs.Calls.{Answer, refusal, wrote, on_read, unless_long}
use Rattle.model.specs.Bits.{bytes_of, run_of}
use Rattle.model.specs.Tight.{tight, tight_r, loose, UnderNumber, loose_r, zeros, filled, tight_bytes, unless_full, give_bytes, give_words, pack_sheet, pack_record, unpack_sheet, unpack_record}
use Rattle.laws.specs.FieldAt.{Narrow}
use Rattle.laws.proofs.FieldLaws.{Holds, weaker}
use Rattle.laws.proofs.WordLaws.{length_packed}
use Rattle.laws.specs.Size.{IsSheet, words}
use Rattle.laws.proofs.Lengths.{length_encode, length_numbered, some_words}
use Rattle.laws.specs.Form.{Countable, FewRepeats, FormOf, Few, Free, depth}
use Rattle.laws.proofs.ReadForm.{Named, OkSheet, ok_sheet, OkRecord, ok_record, sheet_form}
use Rattle.laws.proofs.ReadBack.{back_sheet, back_number}
use Rattle.laws.proofs.ReadBack as words_back
use Rattle.laws.proofs.Canon.{same_sheet_lem, same_record}
use Rattle.laws.specs.Products.{Written}
use Rattle.laws.proofs.BitLaws.{Bits, bits_run, filler, filler_few, back_bytes, same_bytes}
use Rattle.laws.proofs.TightBack.{back_t}
use Rattle.laws.proofs.TightRead.{read_t}
use Rattle.laws.proofs.TightRecords.{bits_t, bits_r, short_t, short_r, back_r, read_r}

-- ---- the filler
all_zeros : (k : ℕ) → zeros (replicate k 0) ≡ true
all_zeros zero = refl
all_zeros (suc k) = all_zeros k

zeros_are : (bs : List ℕ) → zeros bs ≡ true → bs ≡ replicate (length bs) 0
zeros_are [] e = refl
zeros_are (b ∷ bs) e = ap₂ (λ x l. x ∷ l) (eqb-true b 0 (and_parts (eqb b 0) (zeros bs) e).0) (zeros_are bs (and_parts (eqb b 0) (zeros bs) e).1)

-- What is read back from a run, whatever follows, is read back from its bytes.
run_again : {A : Type 0} (read : List ℕ → Parsed A) (a : A) (bs : List ℕ) → Bits bs → ((cs : List ℕ) → read (bs ++ cs) ≡ got a cs) → filled (read (run_of (bytes_of bs))) ≡ got a []
run_again read a bs h e =
    let k = filler bs in
    let few : k < 8 = filler_few bs in
    let l = length-replicate {A = ℕ} k 0 in
    ap (λ us. filled (read us)) (back_bytes bs h)
    ∙ ap filled (e (replicate k 0))
    ∙ ap (λ b. unless b 20 (got a [])) (and_from (ltb (length (replicate k 0)) 8) (zeros (replicate k 0)) (lt-ltb (length (replicate k 0)) 8 (omega (arith, l, few))) (all_zeros k))

-- Bytes from which something is read that is written again as the same bits are its bytes.
bytes_again : {A : Type 0} (enc : A → List ℕ) (cs : List ℕ) (a : A) (p : Parsed A) → Narrow 8 cs → Holds (λ x us. enc x ++ us ≡ run_of cs) p → filled p ≡ got a [] → bytes_of (enc a) ≡ cs
bytes_again enc cs a (refuse n) w h e = cc
bytes_again enc cs a (got u us) w h e = filler_at (ltb (length us) 8 && zeros us) refl e
  where
    filler_at : (b : Bool) → (ltb (length us) 8 && zeros us) ≡ b → unless b 20 (got u []) ≡ got a [] → bytes_of (enc a) ≡ cs
    filler_at false eb k = cc
    filler_at true eb k =
        let few : length us < 8 = ltb-true (length us) 8 (and_parts (ltb (length us) 8) (zeros us) eb).0 in
        let z : us ≡ replicate (length us) 0 = zeros_are us (and_parts (ltb (length us) 8) (zeros us) eb).1 in
        let is : u ≡ a = cc in
        ap (λ x. bytes_of (enc x)) (sym is)
        ∙ same_bytes cs (enc u) (length us) w few (sym h.it ∙ ap (λ l. enc u ++ l) z)

abbrev Got : {A : Type 0} → Parsed A → Type 0
Got (refuse n) = ⊥
Got (got a us) = Unit {0}

not_got : {A : Type 0} {n : ℕ} {a : A} {us : List ℕ} → refuse n ≡ got a us → ⊥
not_got e = subst Got (sym e) tt

abbrev Wrote : Answer → Type 0
Wrote (refusal n) = ⊥
Wrote (wrote ws) = Unit {0}

not_wrote : {n : ℕ} {ws : List ℕ} → refusal n ≡ wrote ws → ⊥
not_wrote e = subst Wrote (sym e) tt

wrote_same : {xs ys : List ℕ} → wrote xs ≡ wrote ys → xs ≡ ys
wrote_same k = cc

read_from : {A : Type 0} {Q : A → Type 0} (a : A) (p : Parsed A) → Holds (λ x us. Q x) p → filled p ≡ got a [] → Q a
read_from a (refuse n) h e = absurd (not_got e)
read_from {Q = Q} a (got u us) h e = by (ltb (length us) 8 && zeros us) e
  where
    by : (b : Bool) → unless b 20 (got u []) ≡ got a [] → Q a
    by false k = absurd (not_got k)
    by true k = subst Q (let is : u ≡ a = cc in is) h.it

-- ---- bytes: four a word are enough
pub bytes_few : (bs : List ℕ) (n : ℕ) → length bs ≤ 32 * n → length (bytes_of bs) ≤ 4 * n
bytes_few bs n h =
    let l = length_packed 1 8 (words_for 8 (length bs)) bs in
    omega arith

-- ---- what an answer that was written says
gave : (fits b : Bool) (given : List ℕ) {ws : List ℕ} → fits ≡ b → unless_full fits given ≡ wrote ws → (fits ≡ true) × (given ≡ ws)
gave fits true given e h = (e, wrote_same (sym (ap (λ x. unless_full x given) e) ∙ h))
gave fits false given e h = absurd (not_wrote (sym (ap (λ x. unless_full x given) e) ∙ h))

gives : (fits : Bool) (given : List ℕ) → fits ≡ true → unless_full fits given ≡ wrote given
gives fits given e = ap (λ b. unless_full b given) e

long_passes : (b : Bool) (a : Answer) → b ≡ true → unless_long b a ≡ a
long_passes b a e = ap (λ x. unless_long x a) e

long_passed : (b : Bool) {a : Answer} {ws : List ℕ} → unless_long b a ≡ wrote ws → a ≡ wrote ws
long_passed true e = e
long_passed false e = absurd (not_wrote e)

-- What was read, where something was written.
record WasRead {A : Type 0} (p : Parsed A) (k : A → Answer) (ws : List ℕ) : Type 0 where
  it : A
  left : List ℕ
  read : p ≡ got it left
  answered : k it ≡ wrote ws

was_read : {A : Type 0} (p : Parsed A) (k : A → Answer) (ws : List ℕ) → on_read p k ≡ wrote ws → WasRead p k ws
was_read (refuse n) k ws e = absurd (not_wrote e)
was_read (got a us) k ws e = record { it = a; left = us; read = refl; answered = e }

whole_filled : {A : Type 0} (p : Parsed A) (a : A) (us : List ℕ) → filled p ≡ got a us → us ≡ []
whole_filled (refuse n) a us e = cc
whole_filled (got x vs) a us e = by (ltb (length vs) 8 && zeros vs) e
  where
    by : (b : Bool) → unless b 20 (got x []) ≡ got a us → us ≡ []
    by true k = cc
    by false k = cc

module _ (L : Outcomes) (G : L.O → Type 0) (codec : Written L G) where
  abbrev tight_t : Policy L.O → List ℕ
  tight_t = tight L.number

  -- ---- sheets
  module _ (t : Policy L.O) (B : Condition → Type 0) (form : FormOf G B Countable t) (deep : depth t ≤ 32) (sheet : IsSheet t) where
    sheet_bytes : filled (loose L.value false levels (run_of (bytes_of (tight_t t)))) ≡ got t []
    sheet_bytes =
        run_again (loose L.value false levels) t (tight_t t) (bits_t G B L.number codec.small t form).it
        (λ cs. back_t G B L.number L.value codec.small codec.again t false 32 cs deep form sheet)

  -- Never longer than four bytes a word.
  sheet_few : (ws : List ℕ) (t : Policy L.O) (us : List ℕ) → read_sheet L.value ws ≡ got t us → length (bytes_of (tight_t t)) ≤ 4 * length ws
  sheet_few ws t us e =
      let ok = (subst (Holds (OkSheet G L.value codec.sound ws)) e (ok_sheet G L.value codec.sound ws)).it in
      let size : words t ≡ length ws = ok.2 in
      bytes_few (tight_t t) (length ws) (subst (λ n. length (tight_t t) ≤ 32 * n) size (short_t L.number t))

  pub sheet_short : (ws : List ℕ) (r : ℕ) (bs : List ℕ) → pack_sheet L ws r ≡ wrote bs → length bs ≤ 4 * length ws
  sheet_short ws r bs e =
      let read = was_read (read_sheet L.value ws) (λ t. give_bytes r (tight_t t)) bs e in
      let t = read.it in
      let given = gave (leb (length (bytes_of (tight_t t))) r) _ (bytes_of (tight_t t)) refl read.answered in
      subst (λ l. length l ≤ 4 * length ws) given.1 (sheet_few ws t read.left read.read)

  -- Words that read are packed, given room; four bytes a word are always room enough.
  pub sheet_packed : (ws : List ℕ) (t : Policy L.O) (us : List ℕ) (r : ℕ) → read_sheet L.value ws ≡ got t us → 4 * length ws ≤ r → pack_sheet L ws r ≡ wrote (bytes_of (tight_t t))
  sheet_packed ws t us r e room =
      ap (λ p. on_read p (λ x. give_bytes r (tight_t x))) e
      ∙ gives (leb (length (bytes_of (tight_t t))) r) (bytes_of (tight_t t)) (le-leb (length (bytes_of (tight_t t))) r (omega (arith, sheet_few ws t us e)))

  pub sheet_there_and_back : (ws : List ℕ) (r q : ℕ) (bs : List ℕ) → pack_sheet L ws r ≡ wrote bs → length ws ≤ q → unpack_sheet L bs q ≡ wrote ws
  sheet_there_and_back ws r q bs e room =
      let read = was_read (read_sheet L.value ws) (λ t. give_bytes r (tight_t t)) bs e in
      let t = read.it in
      let ok = (subst (Holds (OkSheet G L.value codec.sound ws)) read.read (ok_sheet G L.value codec.sound ws)).it in
      let given = gave (leb (length (bytes_of (tight_t t))) r) _ (bytes_of (tight_t t)) refl read.answered in
      let same : encode L.number t ≡ ws = same_sheet_lem L.number L.value codec.only ws t read.left read.read in
      let size : words t ≡ length ws = ok.2 in
      let most : words t ≤ 4096 = ok.4 in
      let short = sheet_short ws r bs e in
      let form : FormOf G Few Countable t = sheet_form G L.value codec.sound Few FewRepeats Countable t ok.3 ok.0 in
      long_passes (leb (length bs) tight_bytes) _ (le-leb (length bs) tight_bytes (omega arith))
      ∙ ap (λ l. on_read (filled (loose L.value false levels (run_of l))) (λ u. give_words sheet_words q (encode L.number u))) (sym given.1)
      ∙ ap (λ p. on_read p (λ u. give_words sheet_words q (encode L.number u))) (sheet_bytes t Few form ok.1 ok.3)
      ∙ ap (give_words sheet_words q) same
      ∙ gives (leb (length ws) sheet_words && leb (length ws) q) ws (and_from (leb (length ws) sheet_words) (leb (length ws) q) (le-leb (length ws) sheet_words (omega arith)) (le-leb (length ws) q room))

  pub sheet_back_and_there : (bs : List ℕ) (q r : ℕ) (ws : List ℕ) → Narrow 8 bs → unpack_sheet L bs q ≡ wrote ws → length bs ≤ r → pack_sheet L ws r ≡ wrote bs
  sheet_back_and_there bs q r ws narrow e room =
      let p = loose L.value false levels (run_of bs) in
      let read = was_read (filled p) (λ t. give_words sheet_words q (encode L.number t)) ws (long_passed (leb (length bs) tight_bytes) e) in
      let t = read.it in
      let is : filled p ≡ got t [] = read.read ∙ ap (λ l. got t l) (whole_filled p t read.left read.read) in
      let held = read_t G L.number L.value codec.sound codec.only false 32 (run_of bs) (bits_run bs narrow) in
      let bytes : bytes_of (tight_t t) ≡ bs = bytes_again tight_t bs t p narrow (weaker p (λ x us s. s.written) held) is in
      let form : FormOf G Free Countable t = read_from t p (weaker p (λ x us s. s.form) held) is in
      let deep : depth t ≤ 32 = read_from t p (weaker p (λ x us s. s.deep) held) is in
      let sheet : IsSheet t = read_from t p (weaker p (λ x us s. s.allowed) held) is in
      let given = gave (leb (length (encode L.number t)) sheet_words && leb (length (encode L.number t)) q) _ (encode L.number t) refl read.answered in
      let most : length (encode L.number t) ≤ 4096 = leb-true (length (encode L.number t)) 4096 (and_parts (leb (length (encode L.number t)) sheet_words) (leb (length (encode L.number t)) q) given.0).0 in
      let back = back_sheet G Free L.number L.value codec.small codec.again t sheet form deep most (omega (arith, length_encode L.number t, some_words t)) in
      ap (λ l. on_read (read_sheet L.value l) (λ u. give_bytes r (tight_t u))) (sym given.1)
      ∙ ap (λ p. on_read p (λ u. give_bytes r (tight_t u))) back
      ∙ ap (λ l. unless_full (leb (length l) r) l) bytes
      ∙ gives (leb (length bs) r) bs (le-leb (length bs) r room)

  -- ---- records
  abbrev tight_n : UnderNumber L.O → List ℕ
  tight_n u = tight_r L.number u.sheet u.held

  number_small : (ws : List ℕ) → sheet_number ws < 65536
  number_small ws = omega arith

  record_few : (ws : List ℕ) (x : Record L.O) (us : List ℕ) → read_record L.value ws ≡ got x us → length (bytes_of (tight_r L.number (sheet_number ws) x)) ≤ 4 * length ws
  record_few ws x us e =
      let n = sheet_number ws in
      let ok = (subst (Holds (λ x _. OkRecord G L.value codec.sound (length ws) x)) e (ok_record G L.value codec.sound ws)).it in
      bytes_few (tight_r L.number n x) (length ws) (subst (λ m. length (tight_r L.number n x) ≤ 32 * m) ok.long (short_r L.number n x))

  pub record_short : (ws : List ℕ) (r : ℕ) (bs : List ℕ) → pack_record L ws r ≡ wrote bs → length bs ≤ 4 * length ws
  record_short ws r bs e =
      let n = sheet_number ws in
      let read = was_read (read_record L.value ws) (λ x. give_bytes r (tight_r L.number n x)) bs e in
      let x = read.it in
      let given = gave (leb (length (bytes_of (tight_r L.number n x))) r) _ (bytes_of (tight_r L.number n x)) refl read.answered in
      subst (λ l. length l ≤ 4 * length ws) given.1 (record_few ws x read.left read.read)

  pub record_packed : (ws : List ℕ) (x : Record L.O) (us : List ℕ) (r : ℕ) → read_record L.value ws ≡ got x us → 4 * length ws ≤ r → pack_record L ws r ≡ wrote (bytes_of (tight_r L.number (sheet_number ws) x))
  record_packed ws x us r e room =
      let bytes = bytes_of (tight_r L.number (sheet_number ws) x) in
      ap (λ p. on_read p (λ y. give_bytes r (tight_r L.number (sheet_number ws) y))) e
      ∙ gives (leb (length bytes) r) bytes (le-leb (length bytes) r (omega (arith, record_few ws x us e)))

  accepted_length : (ws : List ℕ) (x : Record L.O) (us : List ℕ) → read_record L.value ws ≡ got x us → length ws ≤ 16384
  accepted_length ws x us e = by (leb 1 (length ws)) (leb (length ws) 16384) refl e
    where
      by : (a b : Bool) → leb (length ws) 16384 ≡ b → unless (a && b) 1 (whole (read_lead L.value ws)) ≡ got x us → length ws ≤ 16384
      by a true h k = leb-true (length ws) 16384 h
      by true false h k = absurd (not_got k)
      by false false h k = absurd (not_got k)

  pub record_there_and_back : (ws : List ℕ) (r q : ℕ) (bs : List ℕ) → pack_record L ws r ≡ wrote bs → length ws ≤ q → unpack_record L bs q ≡ wrote ws
  record_there_and_back ws r q bs e room =
      let n = sheet_number ws in
      let read = was_read (read_record L.value ws) (λ x. give_bytes r (tight_r L.number n x)) bs e in
      let x = read.it in
      let ok = (subst (Holds (λ x _. OkRecord G L.value codec.sound (length ws) x)) read.read (ok_record G L.value codec.sound ws)).it in
      let given = gave (leb (length (bytes_of (tight_r L.number n x))) r) _ (bytes_of (tight_r L.number n x)) refl read.answered in
      let same : numbered n (encode_r L.number x) ≡ ws = same_record L.number L.value codec.only ws x read.left read.read in
      let most : length ws ≤ 16384 = accepted_length ws x read.left read.read in
      let short = record_short ws r bs e in
      let few : length x.log < 4096 = omega (arith, ok.few) in
      let back = run_again (loose_r L.value) (record { sheet = n; held = x }) (tight_r L.number n x) (bits_r G Free L.number L.value codec.small codec.again n (number_small ws) x few ok.entries ok.form).it
      (λ cs. back_r G Free L.number L.value codec.small codec.again n (number_small ws) x few ok.entries ok.form ok.deep cs) in
      long_passes (leb (length bs) tight_bytes) _ (le-leb (length bs) tight_bytes (omega arith))
      ∙ ap (λ l. on_read (filled (loose_r L.value (run_of l))) (λ u. give_words record_words q (numbered u.sheet (encode_r L.number u.held)))) (sym given.1)
      ∙ ap (λ p. on_read p (λ u. give_words record_words q (numbered u.sheet (encode_r L.number u.held)))) back
      ∙ ap (give_words record_words q) same
      ∙ gives (leb (length ws) record_words && leb (length ws) q) ws (and_from (leb (length ws) record_words) (leb (length ws) q) (le-leb (length ws) record_words most) (le-leb (length ws) q room))

  pub record_back_and_there : (bs : List ℕ) (q r : ℕ) (ws : List ℕ) → Narrow 8 bs → unpack_record L bs q ≡ wrote ws → length bs ≤ r → pack_record L ws r ≡ wrote bs
  record_back_and_there bs q r ws narrow e room =
      let p = loose_r L.value (run_of bs) in
      let words_of : UnderNumber L.O → List ℕ = λ u. numbered u.sheet (encode_r L.number u.held) in
      let read = was_read (filled p) (λ u. give_words record_words q (words_of u)) ws (long_passed (leb (length bs) tight_bytes) e) in
      let u = read.it in
      let n = u.sheet in
      let is : filled p ≡ got u [] = read.read ∙ ap (λ l. got u l) (whole_filled p u read.left read.read) in
      let held = read_r G L.number L.value codec.sound codec.only (run_of bs) (bits_run bs narrow) in
      let bytes : bytes_of (tight_n u) ≡ bs = bytes_again tight_n bs u p narrow (weaker p (λ x us s. s.written) held) is in
      let form : FormOf G Free Countable (tree u.held) = read_from {Q = λ x. FormOf G Free Countable (tree x.held)} u p (weaker p (λ x us s. s.form) held) is in
      let deep : depth (tree u.held) ≤ 32 = read_from {Q = λ x. depth (tree x.held) ≤ 32} u p (weaker p (λ x us s. s.deep) held) is in
      let fits : n < 65536 = read_from {Q = λ x. x.sheet < 65536} u p (weaker p (λ x us s. s.number_fits) held) is in
      let named : Named u.held.log = read_from {Q = λ x. Named x.held.log} u p (weaker p (λ x us s. s.named) held) is in
      let few : length u.held.log < 4096 = read_from {Q = λ x. length x.held.log < 4096} u p (weaker p (λ x us s. s.few) held) is in
      let given = gave (leb (length (words_of u)) record_words && leb (length (words_of u)) q) _ (words_of u) refl read.answered in
      let most : length (words_of u) ≤ 16384 = leb-true (length (words_of u)) 16384 (and_parts (leb (length (words_of u)) record_words) (leb (length (words_of u)) q) given.0).0 in
      let long : length (encode_r L.number u.held) ≤ 16384 = subst (λ m. m ≤ 16384) (length_numbered n (encode_r L.number u.held)) most in
      let back = words_back.back_r G Free L.number L.value codec.small codec.again n fits u.held few named form deep long in
      let number : sheet_number (words_of u) ≡ n = back_number G Free L.number L.value codec.small codec.again n fits u.held in
      ap (λ l. on_read (read_record L.value l) (λ x. give_bytes r (tight_r L.number (sheet_number l) x))) (sym given.1)
      ∙ ap (λ p. on_read p (λ x. give_bytes r (tight_r L.number (sheet_number (words_of u)) x))) back
      ∙ ap (λ m. give_bytes r (tight_r L.number m u.held)) number
      ∙ ap (λ l. unless_full (leb (length l) r) l) bytes
      ∙ gives (leb (length bs) r) bs (le-leb (length bs) r room)
