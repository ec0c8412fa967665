-- A Resolved record is listed as its decision and its consulted facts; and no listing is longer than its room.
use Rattle.std.specs.Prelude.{◌≡◌, Bool, true, false, ℕ, suc, ◌+◌, ◌*◌, ◌/◌, ◌%◌, ◌≤◌, ◌<◌, eqb}
use Rattle.std.proofs.Math.Path.{refl, sym, ap, ap₂}
use Rattle.std.proofs.Common.{◌∙◌, subst, eq-eqb, ne_eqb, get_or-drop, drop-drop, drop_at}
use Rattle.std.proofs.Math.Bool.{cond}
use Rattle.std.proofs.Math.Option.{Option, none, some}
use mathlib.Core.List.{List, [], ◌∷◌, ◌++◌, map, append_assoc, append-nil}
use native.Mathlib.Omega.{arith}
use Rattle.std.proofs.Math.ListN.{length, drop, get_or, length-append}
use Rattle.std.proofs.lemmas.List.{length-map}
use Rattle.model.specs.Fields.{words_for, pack}
use Rattle.model.specs.Facts.{fact_count}
use Rattle.model.specs.Outcome.{product_sets}
use Rattle.model.specs.Decision.{Shape, forbidden, hidden, Permit, Denial, Decision, permits, denies}
use Rattle.model.specs.Partial.{ReducedPolicy, resolved, pending}
use Rattle.model.specs.Consulted.{Entry, Consulted}
use Rattle.model.specs.Record.{Record}
use Rattle.model.specs.Writing.{word, marked, shape_bit, presence_field, seen_in, entry_field, obligation_bits, entry_bits, most_listed, most_held, numbered}
use Rattle.model.specs.Reading.{Parsed, refuse, got, shape_of, obligation_count, sheet_number}
use Rattle.model.specs.Listing.{text, newline, digits, decimal, list_of, line, shape_name, presence_text, entry_text, listing}
use Rattle.model.specs.Products.{Outcome, denied_field, encode_d, encode_r, read_record}
use Rattle.laws.specs.Lists.{Below}
use Rattle.laws.specs.FieldAt.{field_at, firsts}
use Rattle.laws.proofs.FieldLaws.{Holds}
use Rattle.laws.proofs.FieldAtLaws.{fields_held, narrow_below, narrow_entries, presence_few, seen_back}
use Rattle.laws.proofs.Lengths.{length_pack}
use Rattle.laws.specs.Form.{IfThere, Countable, FormP, FormN, FormD}
use Rattle.laws.specs.Products.{InRange}
use Rattle.laws.proofs.ProductLaws.{written_products}
use Rattle.laws.proofs.NodeLaws.{shape_back, shape_small}
use Rattle.laws.proofs.ReadForm.{Named, OkRecord, ok_record}
use Rattle.laws.proofs.Canon.{same_record}
use Rattle.listing.specs.declared.Listed.TheVariants.{Obligations, Facts, Consulted as Entries}
use Rattle.listing.specs.Texts.{Wrote, lists_room, decision_room, consulted_room, listing_room, field_text, fields_text, permit_lines, deny_head, deny_lines, permit_lists, permit_text, deny_text, decision_text, record_text, ListedBody, ListedAs}
use Rattle.listing.specs.WriterLaws.{wrote_as}
use Rattle.listing.specs.ListTextLaws.{length_fields}

-- ---- obligations, facts and entries from their words
entry_same : (e : Entry) → e.fact < fact_count → field_text Entries (entry_field e) ≡ entry_text e
unfolding field_text
entry_same e h =
    let f : entry_field e % 16384 ≡ e.fact = omega (arith, presence_few e.seen) in
    let p : entry_field e / 16384 ≡ presence_field e.seen = omega (arith, presence_few e.seen) in
    ap₂ (λ x y. decimal x ++ (61 ∷ presence_text y)) f (ap seen_in p ∙ seen_back e.seen)

entries_same : (es : Consulted) → Named es → map (field_text Entries) (map entry_field es) ≡ map entry_text es
entries_same [] h = refl
entries_same (e ∷ es) h = ap₂ (λ x l. x ∷ l) (entry_same e h.0) (entries_same es h.1)

numbers_same : (os : List ℕ) → map (field_text Obligations) os ≡ map decimal os
unfolding field_text
numbers_same [] = refl
numbers_same (o ∷ os) = ap (λ l. decimal o ∷ l) (numbers_same os)

facts_same : (fs : List ℕ) → map (field_text Facts) fs ≡ map decimal fs
unfolding field_text
facts_same [] = refl
facts_same (f ∷ fs) = ap (λ l. decimal f ∷ l) (facts_same fs)

low_seven : (x n : ℕ) → x ≡ 3072 + n → n ≤ most_held → x % 128 ≡ n
low_seven x n e h = omega arith

denied_small : (x : Option ℕ) → IfThere InRange x → denied_field x < 134217728
denied_small none h = omega arith
denied_small (some o) h = omega (arith, h)

-- A decision's five lines.
abbrev decided : Decision Outcome → List ℕ
decided (permits p) = permit_lines p.outcome (list_of (map decimal p.obligations)) (list_of (map decimal p.facts))
decided (denies d) = deny_lines d.shape (list_of (map decimal d.facts))

module _ (ws : List ℕ) where
  obligations_held : (at : ℕ) (os rest : List ℕ) → drop at ws ≡ pack obligation_bits os ++ rest → Below obligation_count os → fields_text Obligations ws at (length os) ≡ list_of (map decimal os)
  unfolding fields_text
  obligations_held at os rest e h = ap (λ l. list_of (map (field_text Obligations) l)) (fields_held obligation_bits 3 (drop at ws) os rest refl e (narrow_below obligation_bits obligation_count os (omega arith) h)) ∙ ap list_of (numbers_same os)

  facts_held : (at : ℕ) (fs rest : List ℕ) → drop at ws ≡ pack entry_bits fs ++ rest → Below fact_count fs → fields_text Facts ws at (length fs) ≡ list_of (map decimal fs)
  unfolding fields_text
  facts_held at fs rest e h = ap (λ l. list_of (map (field_text Facts) l)) (fields_held entry_bits 1 (drop at ws) fs rest refl e (narrow_below entry_bits fact_count fs (omega arith) h)) ∙ ap list_of (facts_same fs)

  entries_held : (at : ℕ) (es : Consulted) (rest : List ℕ) → drop at ws ≡ pack entry_bits (map entry_field es) ++ rest → Named es → fields_text Entries ws at (length es) ≡ list_of (map entry_text es)
  unfolding fields_text
  entries_held at es rest e h =
      ap (λ n. list_of (map (field_text Entries) (firsts (field_at entry_bits (drop at ws)) n))) (sym (length-map es entry_field))
      ∙ ap (λ l. list_of (map (field_text Entries) l)) (fields_held entry_bits 1 (drop at ws) (map entry_field es) rest refl e (narrow_entries es h))
      ∙ ap list_of (entries_same es h)

  -- ---- a decision's words
  first_word : (at w : ℕ) (vs : List ℕ) → drop at ws ≡ w ∷ vs → get_or ws at 0 ≡ w
  first_word at w vs e = ap (λ i. get_or ws i 0) (let z : at ≡ at + 0 = omega arith in z) ∙ sym (get_or-drop at ws 0 0) ∙ ap (λ l. get_or l 0 0) e

  later_words : (at n : ℕ) (us vs : List ℕ) → length us ≡ n → drop at ws ≡ us ++ vs → drop (at + n) ws ≡ vs
  later_words at n us vs l e = sym (drop-drop n at ws) ∙ ap (drop n) e ∙ drop_at us vs n l

  permit_held : (at : ℕ) (p : Permit Outcome) → drop at ws ≡ encode_d (permits p) → FormP InRange Countable p
      → permit_text ws at ≡ permit_lines p.outcome (list_of (map decimal p.obligations)) (list_of (map decimal p.facts))
  unfolding permit_text permit_lists
  permit_held at p e f =
      let os = p.obligations in
      let fs = p.facts in
      let packed = pack obligation_bits os ++ pack entry_bits fs in
      let few : length os ≤ most_held = f.1.0 in
      let listed : length fs ≤ most_listed = f.3.0 in
      let first : get_or ws at 0 ≡ word 12 (length os * 1048576 + p.outcome) = first_word at (word 12 (length os * 1048576 + p.outcome)) ((marked p.label * 65536 + length fs) ∷ packed) e in
      let after : drop (at + 1) ws ≡ (marked p.label * 65536 + length fs) ∷ packed = later_words at 1 (word 12 (length os * 1048576 + p.outcome) ∷ []) ((marked p.label * 65536 + length fs) ∷ packed) refl e in
      let second : get_or ws (at + 1) 0 ≡ marked p.label * 65536 + length fs = first_word (at + 1) (marked p.label * 65536 + length fs) packed after in
      let lists : drop (at + 2) ws ≡ packed = later_words at 2 (word 12 (length os * 1048576 + p.outcome) ∷ (marked p.label * 65536 + length fs) ∷ []) packed refl e in
      let tail : drop (at + 2 + words_for 4 (length os)) ws ≡ pack entry_bits fs ++ [] = later_words (at + 2) (words_for 4 (length os)) (pack obligation_bits os) (pack entry_bits fs) (length_pack obligation_bits os) lists ∙ sym (append-nil (pack entry_bits fs)) in
      let small : p.outcome < 65536 = f.0 in
      let eo : get_or ws at 0 % 65536 ≡ p.outcome = omega arith in
      let above : get_or ws at 0 / 1048576 ≡ 3072 + length os = omega arith in
      let en : get_or ws at 0 / 1048576 % 128 ≡ length os = low_seven (get_or ws at 0 / 1048576) (length os) above few in
      let em : get_or ws (at + 1) 0 % 4096 ≡ length fs = omega arith in
      (λ i. permit_lines (eo i) (fields_text Obligations ws (at + 2) (en i)) (fields_text Facts ws (at + 2 + words_for 4 (en i)) (em i)))
      ∙ ap₂ (permit_lines p.outcome) (obligations_held (at + 2) os (pack entry_bits fs) lists f.1.1) (facts_held (at + 2 + words_for 4 (length os)) fs [] tail f.3.1)

  deny_held : (at : ℕ) (d : Denial Outcome) → drop at ws ≡ encode_d (denies d) → FormN InRange d → deny_text ws at ≡ deny_lines d.shape (list_of (map decimal d.facts))
  unfolding deny_text
  deny_held at d e f =
      let fs = d.facts in
      let w₀ = word 13 (shape_bit d.shape * 134217728 + denied_field d.denied) in
      let w₁ = marked d.label * 65536 + marked d.reason in
      let listed : length fs ≤ most_listed = f.1.0 in
      let first : get_or ws at 0 ≡ w₀ = first_word at w₀ (w₁ ∷ length fs ∷ pack entry_bits fs) e in
      let third : get_or ws (at + 2) 0 ≡ length fs = first_word (at + 2) (length fs) (pack entry_bits fs) (later_words at 2 (w₀ ∷ w₁ ∷ []) (length fs ∷ pack entry_bits fs) refl e) in
      let tail : drop (at + 3) ws ≡ pack entry_bits fs ++ [] = later_words at 3 (w₀ ∷ w₁ ∷ length fs ∷ []) (pack entry_bits fs) refl e ∙ sym (append-nil (pack entry_bits fs)) in
      let b = shape_small d.shape in
      let k = denied_small d.denied f.0 in
      let above : get_or ws at 0 / 134217728 ≡ 26 + shape_bit d.shape = omega arith in
      let es : get_or ws at 0 / 134217728 % 2 ≡ shape_bit d.shape = omega arith in
      let em : get_or ws (at + 2) 0 % 4096 ≡ length fs = omega arith in
      ap₂ (λ s n. deny_lines (shape_of s) (fields_text Facts ws (at + 3) n)) es em
      ∙ ap₂ deny_lines (shape_back d.shape) (facts_held (at + 3) fs [] tail f.1.1)

  decision_held : (at : ℕ) (d : Decision Outcome) → drop at ws ≡ encode_d d → FormD InRange Countable d → decision_text ws at ≡ decided d
  unfolding decision_text
  decision_held at (permits p) e f =
      let w = word 12 (length p.obligations * 1048576 + p.outcome) in
      let few : length p.obligations ≤ most_held = f.1.0 in
      let small : p.outcome < 65536 = f.0 in
      let first : get_or ws at 0 ≡ w = first_word at w ((marked p.label * 65536 + length p.facts) ∷ (pack obligation_bits p.obligations ++ pack entry_bits p.facts)) e in
      ap (λ b. cond b (permit_text ws at) (deny_text ws at)) (eq-eqb (get_or ws at 0 / 268435456) 12 (omega arith))
      ∙ permit_held at p e f
  decision_held at (denies d) e f =
      let w = word 13 (shape_bit d.shape * 134217728 + denied_field d.denied) in
      let first : get_or ws at 0 ≡ w = first_word at w ((marked d.label * 65536 + marked d.reason) ∷ length d.facts ∷ pack entry_bits d.facts) e in
      let b = shape_small d.shape in
      let k = denied_small d.denied f.0 in
      ap (λ b. cond b (permit_text ws at) (deny_text ws at)) (ne_eqb (get_or ws at 0 / 268435456) 12 (λ z. omega arith))
      ∙ deny_held at d e f

-- The ends of lines are the starts of the next.
last_lines : (facts entries : List ℕ) → (facts ++ newline) ++ line "consulted" entries ≡ facts ++ ((text "\nconsulted " ++ entries) ++ newline)
last_lines facts entries = append_assoc facts newline (line "consulted" entries)

deny_lines_lem : (s : Shape) (facts entries : List ℕ)
    → deny_lines s facts ++ ((text "\nconsulted " ++ entries) ++ newline)
    ≡ text "effect deny\nproducts ----\nshape " ++ ((shape_name s ++ newline) ++ (line "obligations" (text "-") ++ (line "facts" facts ++ line "consulted" entries)))
deny_lines_lem forbidden facts entries = ap (λ l. deny_head forbidden ++ (text "\nfacts " ++ l)) (sym (last_lines facts entries))
deny_lines_lem hidden facts entries = ap (λ l. deny_head hidden ++ (text "\nfacts " ++ l)) (sym (last_lines facts entries))

listing_lines : (d : Decision Outcome) (l : Consulted) → decided d ++ ((text "\nconsulted " ++ list_of (map entry_text l)) ++ newline) ≡ listing d l
listing_lines (permits p) l =
    let obligations = list_of (map decimal p.obligations) in
    let facts = list_of (map decimal p.facts) in
    let entries = list_of (map entry_text l) in
    let lists : (obligations ++ (text "\nfacts " ++ facts)) ++ ((text "\nconsulted " ++ entries) ++ newline) ≡ (obligations ++ newline) ++ (line "facts" facts ++ line "consulted" entries) =
    append_assoc obligations (text "\nfacts " ++ facts) ((text "\nconsulted " ++ entries) ++ newline)
    ∙ ap (λ x. obligations ++ (text "\nfacts " ++ x)) (sym (last_lines facts entries))
    ∙ sym (append_assoc obligations newline (line "facts" facts ++ line "consulted" entries)) in
    ap (λ x. text "effect permit\nproducts " ++ (digits 16 4 p.outcome ++ (text "\nshape -\nobligations " ++ x))) lists
listing_lines (denies d) l = deny_lines_lem d.shape (list_of (map decimal d.facts)) (list_of (map entry_text l))

-- The words of a Resolved record, whatever its number.
resolved_text : (n : ℕ) (d : Decision Outcome) (l : Consulted) → FormD InRange Countable d → Named l → length l ≤ most_listed
    → record_text (numbered n (encode_r (record { body = resolved d; log = l }))) ≡ listing d l
unfolding record_text
resolved_text n d l f named few =
    let ws = numbered n (encode_r (record { body = resolved d; log = l })) in
    let entries = pack entry_bits (map entry_field l) in
    let en : word (word 14 (length l) / 268435456) (n * 4096 + word 14 (length l) % 4096) % 4096 ≡ length l = omega arith in
    let there : drop (1 + words_for 2 (length l)) ws ≡ encode_d d =
    ap (λ n. drop n ws) (let z : 1 + words_for 2 (length l) ≡ suc (words_for 2 (length l)) = omega arith in z)
    ∙ drop_at entries (encode_d d) (words_for 2 (length l)) (length_pack entry_bits (map entry_field l) ∙ ap (words_for 2) (length-map l entry_field)) in
    ap (λ n. decision_text ws (1 + words_for 2 n) ++ ((text "\nconsulted " ++ fields_text Entries ws 1 n) ++ newline)) en
    ∙ ap₂ (λ x y. x ++ ((text "\nconsulted " ++ y) ++ newline)) (decision_held ws (1 + words_for 2 (length l)) d there f) (entries_held ws 1 l (encode_d d) refl named)
    ∙ listing_lines d l

body_text : (ws : List ℕ) (b : ReducedPolicy Outcome) (l : Consulted) (vs : List ℕ) → read_record ws ≡ got (record { body = b; log = l }) vs → ListedBody (λ bytes. record_text ws ≡ bytes) b l
body_text ws (pending t) l vs e = tt
body_text ws (resolved d) l vs e =
    let r : Record Outcome = record { body = resolved d; log = l } in
    let ok : OkRecord InRange product_sets.value written_products.sound (length ws) r = (subst (Holds (λ x _. OkRecord InRange product_sets.value written_products.sound (length ws) x)) e (ok_record InRange product_sets.value written_products.sound ws)).it in
    ap record_text (sym (same_record product_sets.number product_sets.value written_products.only ws r vs e))
    ∙ resolved_text (sheet_number ws) d l ok.form ok.entries ok.few

parsed_text : (ws : List ℕ) (q : Parsed (Record Outcome)) → read_record ws ≡ q → ListedAs (λ bytes. record_text ws ≡ bytes) q
parsed_text ws (refuse n) e = tt
parsed_text ws (got r vs) e = body_text ws r.body r.log vs e

-- What was read of a record is what its text lists.
record_text_lem : (ws : List ℕ) → ListedAs (λ bytes. record_text ws ≡ bytes) (read_record ws)
record_text_lem ws = parsed_text ws (read_record ws) refl

listed_by : (ws before after : List ℕ) (n : ℕ) (q : Parsed (Record Outcome)) → ListedAs (λ bytes. record_text ws ≡ bytes) q → Wrote (record_text ws) before after n → ListedAs (λ bytes. Wrote bytes before after n) q
listed_by ws before after n (refuse k) h w = tt
listed_by ws before after n (got r vs) h w = of_body r.body h
  where
    of_body : (b : ReducedPolicy Outcome) → ListedBody (λ bytes. record_text ws ≡ bytes) b r.log → ListedBody (λ bytes. Wrote bytes before after n) b r.log
    of_body (resolved d) e = wrote_as e w
    of_body (pending t) e = tt

-- Whoever wrote a record's text wrote its listing.
pub record_listed : (ws before after : List ℕ) (n : ℕ) → Wrote (record_text ws) before after n → ListedAs (λ bytes. Wrote bytes before after n) (read_record ws)
record_listed ws before after n w = listed_by ws before after n (read_record ws) (record_text_lem ws) w

-- What a listing of a record that was read as Resolved says.
pub listed_resolved : (ws before after : List ℕ) (n : ℕ) (d : Decision Outcome) (l : Consulted) (vs : List ℕ) → read_record ws ≡ got (record { body = resolved d; log = l }) vs
    → ListedAs (λ bytes. Wrote bytes before after n) (read_record ws) → Wrote (listing d l) before after n
listed_resolved ws before after n d l vs e h = subst (ListedAs (λ bytes. Wrote bytes before after n)) e h

-- ---- lengths
pub length_shape : (s : Shape) → length (deny_head s) ≤ 64
length_shape forbidden = omega arith
length_shape hidden = omega arith

module _ (ws : List ℕ) where
  pub length_permit_lists : (at : ℕ) → length (permit_lists ws at) ≤ lists_room
  unfolding permit_lists
  length_permit_lists at =
      let n = get_or ws at 0 / 1048576 % 128 in
      let m = get_or ws (at + 1) 0 % 4096 in
      let obligations = text "\nshape -\nobligations " ++ fields_text Obligations ws (at + 2) n in
      let facts = text "\nfacts " ++ fields_text Facts ws (at + 2 + words_for 4 n) m in
      omega (arith, length-append obligations facts, length_fields Obligations ws (at + 2) n, length_fields Facts ws (at + 2 + words_for 4 n) m)

  length_permit : (at : ℕ) → length (permit_text ws at) ≤ decision_room
  unfolding permit_text
  length_permit at =
      omega (arith, length-append (text "effect permit\nproducts " ++ digits 16 4 (get_or ws at 0 % 65536)) (permit_lists ws at), length_permit_lists at)

  length_deny : (at : ℕ) → length (deny_text ws at) ≤ decision_room
  unfolding deny_text
  length_deny at =
      let s = shape_of (get_or ws at 0 / 134217728 % 2) in
      let m = get_or ws (at + 2) 0 % 4096 in
      omega (arith, length-append (deny_head s) (text "\nfacts " ++ fields_text Facts ws (at + 3) m), length_shape s, length_fields Facts ws (at + 3) m)

  either : (b : Bool) (at : ℕ) → length (cond b (permit_text ws at) (deny_text ws at)) ≤ decision_room
  either true at = length_permit at
  either false at = length_deny at

  pub length_decision : (at : ℕ) → length (decision_text ws at) ≤ decision_room
  unfolding decision_text
  length_decision at = either (eqb (get_or ws at 0 / 268435456) 12) at

  pub length_consulted : (n : ℕ) → n < 4096 → length ((text "\nconsulted " ++ fields_text Entries ws 1 n) ++ newline) ≤ consulted_room
  length_consulted n h = omega (arith, length-append (text "\nconsulted " ++ fields_text Entries ws 1 n) newline, length_fields Entries ws 1 n)

  pub length_record : length (record_text ws) ≤ listing_room
  unfolding record_text
  length_record =
      let n = get_or ws 0 0 % 4096 in
      let at = 1 + words_for 2 n in
      omega (arith, length-append (decision_text ws at) ((text "\nconsulted " ++ fields_text Entries ws 1 n) ++ newline), length_decision at, length_consulted n (omega arith))
