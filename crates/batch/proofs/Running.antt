-- A turn of the loop over requests: what the requests so far left, and the replies to those still to come. Assumes nothing.
use mathlib.Core.Path.{◌≡◌, refl, sym, ◌∙◌, ap, ap₂, subst}
use mathlib.Core.Bool.{true}
use mathlib.Core.Option.{Option, none, some}
use mathlib.Core.List.{List, [], ◌∷◌, ◌++◌, map, append_assoc, append-nil}
use Prim.Native.Nat.{ℕ, zero, suc, ◌+◌, ◌-◌, ◌/◌, ◌%◌, ◌^◌, ◌≤◌, ◌<◌}
use native.Mathlib.Omega.{arith}
use lib.ListN.{length, take, drop, get_or, set, length-append, length-drop, take-append-drop, drop_of_length-le}
use lib.Seq.{length-take-le, take-suc-set, take-take, get_or-take, drop-set-lt, drop-drop, drop-cons, take_all, take_at, drop_at}
use Rattle.std.proofs.lemmas.List.{drop-take}
use Rattle.std.specs.Simd.{first_chunks}
use Rattle.model.specs.Outcome.{Outcomes}
use Rattle.model.specs.Reading.{record_words}
use Rattle.model.specs.Register.{Entry, in_force}
use Rattle.model.specs.Batch as model
use Rattle.model.specs.Batch.{Handed, handed_over, Request, length_bits, table_words, request_words, table_in, request_of, requests_of, nodes_of, record_of, reply_number, records_of, numbers_of, answers, output_after, replies_after, of_entry, reply, replies}
use Rattle.laws.proofs.BatchLaws.{decided_within, decided_fits, decided_few}
use Rattle.std.specs.Prelude.{Option as Maybe, Result, Ok}
use Rattle.refusal.specs.declared.Refusal.{Refusal}
use Rattle.refusal.specs.Numbers.{by_number}
use Rattle.batch.specs.declared.Decided.{Decided}
use Rattle.batch.specs.Answers.{Reply, is_whole, reply_meant, number_of, taken as takes, Replies, Runs}

-- ---- a reply's number, nodes and words are the model's
number_meant : (r : model.Reply) → number_of (reply_meant r) ≡ reply_number r
number_meant model.no_sheet = refl
number_meant (model.refused n) = refl
number_meant (model.decided ws nodes) = refl

nodes_meant : (r : model.Reply) → (takes (reply_meant r)).nodes ≡ nodes_of r
nodes_meant model.no_sheet = refl
nodes_meant (model.refused n) = refl
nodes_meant (model.decided ws nodes) = refl

words_meant : (r : model.Reply) → (takes (reply_meant r)).words ≡ length (record_of r)
words_meant model.no_sheet = refl
words_meant (model.refused n) = refl
words_meant (model.decided ws nodes) = refl

-- What a reply takes is there, and its words are few.
pub record Fits (left room : ℕ) (r : Reply) : Type 0 where
  pub nodes : (takes r).nodes ≤ left
  pub words : (takes r).words ≤ room
  pub few : (takes r).words ≤ record_words

module _ (L : Outcomes) (es : List Entry) (left room : ℕ) (q : Request) where
  fits_by : (hs : List Handed) (r : Reply) → r ≡ reply_meant (reply L es hs left room q) → Fits left room r
  fits_by hs r e =
      let a = reply L es hs left room q in
      let s = of_entry (in_force q.group q.day es) hs in
      record {
        nodes = omega (arith, ap (λ x. (takes x).nodes) e, nodes_meant a, decided_within L s q.facts left room);
        words = omega (arith, ap (λ x. (takes x).words) e, words_meant a, decided_fits L s q.facts left room);
        few = omega (arith, ap (λ x. (takes x).words) e, words_meant a, decided_few L s q.facts left room);
      }

  pub fits : (o : Option (List Handed)) → is_whole o ≡ true → {before after : List ℕ} {r : Result (Maybe Decided) Refusal} → ((hs : List Handed) → o ≡ some hs → Replies (reply L es hs left room q) before after r) → Fits left room (by_number r)
  fits none e f = let z : ◌≡◌ {A = ℕ} 0 1 = cc in absurd (omega arith)
  fits (some hs) e {r = r} f = fits_by hs (by_number r) (f hs refl).reply_is

-- ---- what stands after a turn
numbers_next : (places : List ℕ) (i v : ℕ) (vs : List ℕ) (n : ℕ) → i < length places →
    take i places ++ ((v ∷ vs) ++ drop (suc n) (drop i places)) ≡ take (i + 1) (set places i v) ++ (vs ++ drop n (drop (i + 1) (set places i v)))
numbers_next places i v vs n h =
    let one : i + 1 ≡ suc i = omega arith in
    let many : i + 1 + n ≡ i + suc n = omega arith in
    let head : take (i + 1) (set places i v) ≡ take i places ++ (v ∷ []) = ap (λ j. take j (set places i v)) one ∙ take-suc-set places i v h in
    let tail : drop n (drop (i + 1) (set places i v)) ≡ drop (suc n) (drop i places) =
    ap (drop n) (drop-set-lt (i + 1) places i v (omega arith)) ∙ drop-drop n (i + 1) places ∙ ap (λ k. drop k places) many ∙ sym (drop-drop (suc n) i places) in
    sym (ap (λ l. take (i + 1) (set places i v) ++ (vs ++ l)) tail ∙ ap (λ l. l ++ (vs ++ drop (suc n) (drop i places))) head ∙ append_assoc (take i places) (v ∷ []) (vs ++ drop (suc n) (drop i places)))

module _ (out rec : List ℕ) (used : ℕ) (h : used ≤ length out) where
  abbrev Put : List ℕ
  Put = take used out ++ (rec ++ drop (length rec) (drop used out))

  abbrev Head : List ℕ
  Head = take used out ++ rec

  put_parts : Put ≡ Head ++ drop (length rec) (drop used out)
  put_parts = sym (append_assoc (take used out) rec (drop (length rec) (drop used out)))

  head_long : length Head ≡ used + length rec
  head_long = omega (arith, length-append (take used out) rec, length-take-le used out h)

  taken : take (used + length rec) Put ≡ Head
  taken = ap (take (used + length rec)) put_parts ∙ take_at Head (drop (length rec) (drop used out)) (used + length rec) head_long

  pub dropped : drop (used + length rec) Put ≡ drop (length rec) (drop used out)
  dropped = ap (drop (used + length rec)) put_parts ∙ drop_at Head (drop (length rec) (drop used out)) (used + length rec) head_long

  records_next : (rs : List ℕ) →
      take used out ++ ((rec ++ rs) ++ drop (length (rec ++ rs)) (drop used out)) ≡ take (used + length rec) Put ++ (rs ++ drop (length rs) (drop (used + length rec) Put))
  records_next rs =
      let tail : drop (length rs) (drop (used + length rec) Put) ≡ drop (length (rec ++ rs)) (drop used out) =
      ap (drop (length rs)) dropped ∙ drop-drop (length rs) (length rec) (drop used out) ∙ ap (λ k. drop k (drop used out)) (sym (length-append rec rs)) in
      let X = drop (length (rec ++ rs)) (drop used out) in
      sym (ap (λ l. take (used + length rec) Put ++ (rs ++ l)) tail ∙ ap (λ l. l ++ (rs ++ X)) taken ∙ append_assoc (take used out) rec (rs ++ X) ∙ ap (λ l. take used out ++ l) (sym (append_assoc rec rs X)))

-- ---- the requests as chunks
request_first : (ws : List ℕ) → request_of ws ≡ request_of (take request_words ws)
request_first ws =
    let lead = sym (get_or-take request_words ws 0 0 (omega arith)) in
    let day = sym (get_or-take request_words ws 1 0 (omega arith)) in
    let table : take table_words (drop 2 ws) ≡ take table_words (drop 2 (take request_words ws)) = sym (ap (take table_words) (drop-take 2 table_words ws) ∙ take-take table_words table_words (drop 2 ws) (omega arith)) in
    λ i. record { group = lead i / 2 ^ length_bits; day = day i; facts = table_in (lead i % 2 ^ length_bits) (table i) }

pub requests_are : (n : ℕ) (ws : List ℕ) → requests_of n ws ≡ map request_of (first_chunks request_words n ws)
requests_are zero ws = refl
requests_are (suc n) ws = ap₂ (λ q qs. q ∷ qs) (request_first ws) (requests_are n (drop request_words ws))

-- ---- the invariant
pub record Sofar (all to_come_lem : List model.Reply) (places₀ out₀ places out : List ℕ) (used i : ℕ) : Type 0 where
  pub numbers : replies_after (answers all) places₀ ≡ take i places ++ replies_after (answers to_come_lem) (drop i places)
  pub records : output_after (answers all) out₀ ≡ take used out ++ output_after (answers to_come_lem) (drop used out)
  pub words : length (records_of all) ≡ used + length (records_of to_come_lem)

abbrev pub ToCome : Outcomes → List Entry → List Handed → List (List ℕ) → List ℕ → ℕ → ℕ → ℕ → List model.Reply
ToCome L es hs whole out left used i = replies L es hs left (length (drop used out)) (map request_of (drop i whole))

-- What holds at the loop's test.
pub record Standing (L : Outcomes) (es : List Entry) (sheets : List ℕ) (whole : List (List ℕ)) (allowance : ℕ) (places₀ out₀ places out : List ℕ) (left used i : ℕ) : Type 0 where
  pub inside : used ≤ length out
  pub same_out : length out ≡ length out₀
  pub same_places : length places ≡ length places₀
  pub sofar : (hs : List Handed) → handed_over sheets ≡ some hs → Sofar (replies L es hs allowance (length out₀) (map request_of whole)) (ToCome L es hs whole out left used i) places₀ out₀ places out used i

module _ (L : Outcomes) (es : List Entry) (hs : List Handed) (whole : List (List ℕ)) (out : List ℕ) (left used i : ℕ) where
  abbrev Now : model.Reply
  Now = reply L es hs left (length (drop used out)) (request_of (get_or whole i []))

  abbrev Later : List model.Reply
  Later = replies L es hs (left - nodes_of Now) (length (drop used out) - length (record_of Now)) (map request_of (drop (i + 1) whole))

  one_more : i < length whole → ToCome L es hs whole out left used i ≡ Now ∷ Later
  one_more h = ap (λ qs. replies L es hs left (length (drop used out)) (map request_of qs)) (drop-cons whole i [] h ∙ ap (λ k. get_or whole i [] ∷ drop k whole) (let e : suc i ≡ i + 1 = omega arith in e))

  pub no_more : length whole ≤ i → ToCome L es hs whole out left used i ≡ []
  no_more h = ap (λ qs. replies L es hs left (length (drop used out)) (map request_of qs)) (drop_of_length-le whole h)

  module _ (all : List model.Reply) (places₀ out₀ places : List ℕ) (sofar : Sofar all (ToCome L es hs whole out left used i) places₀ out₀ places out used i)
      (h : i < length whole) (k : i < length places) (l : used ≤ length out) where
    abbrev After : List ℕ
    After = Put out (record_of Now) used l

    abbrev Lent : List ℕ
    Lent = take (length out - used) (drop used out)

    later : Later ≡ ToCome L es hs whole After (left - nodes_of Now) (used + length (record_of Now)) (i + 1)
    later =
        let room : length (drop used out) - length (record_of Now) ≡ length (drop (used + length (record_of Now)) After) =
        sym (ap length (dropped out (record_of Now) used l) ∙ length-drop (length (record_of Now)) (drop used out)) in
        ap (λ n. replies L es hs (left - nodes_of Now) n (map request_of (drop (i + 1) whole))) room

    by_later : Sofar all Later places₀ out₀ (set places i (reply_number Now)) After (used + length (record_of Now)) (i + 1)
    by_later =
        record {
          numbers = sofar.numbers ∙ ap (λ rs. take i places ++ replies_after (answers rs) (drop i places)) (one_more h) ∙ numbers_next places i (reply_number Now) (numbers_of Later) (length Later) k;
          records = sofar.records ∙ ap (λ rs. take used out ++ output_after (answers rs) (drop used out)) (one_more h) ∙ records_next out (record_of Now) used l (records_of Later);
          words = omega (arith, sofar.words, ap (λ rs. length (records_of rs)) (one_more h), length-append (record_of Now) (records_of Later));
        }

    exactly : Sofar all (ToCome L es hs whole After (left - nodes_of Now) (used + length (record_of Now)) (i + 1)) places₀ out₀ (set places i (reply_number Now)) After (used + length (record_of Now)) (i + 1)
    exactly = rw (← later) by_later

    -- After the turn that gave this reply: what was left of the output was lent, and comes back in its place.
    pub next : {part : List ℕ} {r : Result (Maybe Decided) Refusal} (number : ℕ) (took : Decided) → Replies (reply L es hs left (length Lent) (request_of (get_or whole i []))) Lent part r →
        number ≡ number_of (by_number r) → took ≡ takes (by_number r) → let out' = take used out ++ (part ++ drop (length out - used) (drop used out)) in
        Sofar all (ToCome L es hs whole out' (left - took.nodes) (used + took.words) (i + 1)) places₀ out₀ (set places i number) out' (used + took.words) (i + 1)
    next {part} {r} number took lent p t =
        let long = length-drop used out in
        let all-lent : Lent ≡ drop used out = take_all (length out - used) (drop used out) (omega arith) in
        let none_kept : drop (length out - used) (drop used out) ≡ [] = drop_of_length-le (drop used out) {i = length out - used} (omega arith) in
        let a = subst (λ x. Replies (reply L es hs left (length x) (request_of (get_or whole i []))) x part r) all-lent lent in
        let p' : number ≡ reply_number Now = p ∙ ap number_of a.reply_is ∙ number_meant Now in
        let o' : take used out ++ (part ++ drop (length out - used) (drop used out)) ≡ After = ap (λ x. take used out ++ (part ++ x)) none_kept ∙ ap (λ x. take used out ++ x) (append-nil part ∙ a.output_is) in
        let n' : took.nodes ≡ nodes_of Now = ap (λ (d : Decided). d.nodes) t ∙ ap (λ x. (takes x).nodes) a.reply_is ∙ nodes_meant Now in
        let w' : took.words ≡ length (record_of Now) = ap (λ (d : Decided). d.words) t ∙ ap (λ x. (takes x).words) a.reply_is ∙ words_meant Now in
        rw (p', o', n', w') exactly

-- After the last turn.
pub finished : {all to_come_lem : List model.Reply} {places₀ out₀ places out : List ℕ} {used i : ℕ} → Sofar all to_come_lem places₀ out₀ places out used i → to_come_lem ≡ [] → Runs (answers all) places₀ places out₀ out (Ok used)
finished {places = places} {out = out} {used = used} {i = i} s e =
    record {
      batch_is = ap Ok (omega (arith, s.words, ap (λ rs. length (records_of rs)) e));
      replies_are = sym (s.numbers ∙ ap (λ rs. take i places ++ replies_after (answers rs) (drop i places)) e ∙ take-append-drop i places);
      output_is = sym (s.records ∙ ap (λ rs. take used out ++ output_after (answers rs) (drop used out)) e ∙ take-append-drop used out);
    }
