-- A label or a reason as it is read from its half of a word, and the words of a record by its front and its tree.
use Rattle.std.specs.Prelude.{◌≡◌, refl, Bool, true, false, cond, List, [], ◌∷◌, ◌++◌, map, ℕ, ◌-◌, ◌≤◌, ◌<◌, eqb, ltb}
use Rattle.std.proofs.Common.{sym, ◌∙◌, ap, ap₂, arith, ltb-true, ltb-false, le-leb}
use Rattle.std.proofs.Math.Option.{none, some}
use Rattle.std.proofs.lemmas.Bool.{lt-leb}
use Rattle.std.proofs.lemmas.List.{length-map}
use Rattle.model.specs.Fields.{pack}
use Rattle.model.specs.Record.{Record, tree}
use Rattle.model.specs.Writing.{entry_bits, word, entry_field}
use Rattle.model.specs.Reading.{got, unless, mark}
use Rattle.model.specs.Products.{Outcome, encode, lead_kind, encode_r}
use Rattle.laws.proofs.FieldLaws.{Holds, fine, if_holds}
use Rattle.policy_model.specs.declared.Status.{Status}
use Rattle.record.specs.Nodes.{mark_in, lead_of, front_words}

-- ---- a label or a reason that was read
mark_at : (h : ℕ) (b : Bool) → ltb h 32768 ≡ b → Holds (λ l _. mark_in h ≡ l) (cond b (unless (eqb h 0) 8 (got none [])) (unless (ltb h 65536) 8 (got (some (h - 32768)) [])))
mark_at h true e = if_holds (eqb h 0) 8 (got none []) (λ _. fine (rw (lt-leb 32768 h (ltb-true h 32768 e))))
mark_at h false e =
    let k : 32768 ≤ h = ltb-false h 32768 e in
    if_holds (ltb h 65536) 8 (got (some (h - 32768)) []) (λ t. let l : h < 65536 = ltb-true h 65536 t in fine (rw (le-leb 32768 h k) (ap some (omega arith))))

pub mark_in_read : (half : ℕ) → Holds (λ l _. mark_in half ≡ l) (mark half)
mark_in_read half = mark_at half (ltb half 32768) refl

-- ---- nodes and records

-- A record is its front and then its tree.
pub record_words_lem : (r : Record Outcome) (status : Status) (es : List ℕ) → lead_kind r.body ≡ lead_of status → es ≡ map entry_field r.log →
    front_words status es ++ encode (tree r) ≡ encode_r r
record_words_lem r status es k e =
    ap (λ l. front_words status l ++ encode (tree r)) e
    ∙ ap₂ (λ x n. word x n ∷ (pack entry_bits (map entry_field r.log) ++ encode (tree r))) (sym k) (length-map r.log entry_field)
