-- `listing::Fields::put_fields` meets its contract. The loop's invariant: the output holds the text of the fields passed, where it began with the
-- first one's. Assumes nothing.
use mathlib.Core.Path.{◌≡◌, sym, ap, ◌∙◌}
use mathlib.Core.List.{◌∷◌, ◌++◌}
use Prim.Native.Nat.{◌+◌}
use native.Mathlib.Numerals.{add-one}
use native.Mathlib.Omega.{arith}
use lib.ListN.{length, length-append, length-take, length-drop}
use Rattle.model.specs.Listing.{text}
use Rattle.listing.specs.Texts.{most_of, field_text, fields_text}
use Rattle.listing.specs.WriterLaws.{copied_whole, wrote_as, wrote_then}
use Rattle.listing.specs.ListTextLaws.{fields_none, fields_one, fields_more, length_fields}
use Rattle.listing.proofs.Lists.{room_left}
use Rattle.listing.proofs.Fields.put_fields.Goals as goal

pub returns-then-self-eq0 : goal.returns-then-self-eq0
returns-then-self-eq0 c =
    let list = c.args.self.now in
    wrote_as (sym (fields_none list.kind list.words.now list.at) ∙ ap (fields_text list.kind list.words.now list.at) (sym c.if-self-eq0.true)) (copied_whole (text "-") c.copy.ensures.count c.copy.ensures.copied)

pub loop-i-init : goal.loop-i-init
loop-i-init c =
    let list = c.args.self.now in
    let one = fields_one list.kind list.words.now list.at in
    let first = c.put_field-n.ensures in (
      first.count ∙ ap (λ b. length (field_text list.kind b)) c.field_at.ensures ∙ ap length (sym one),
      λ before w. wrote_as (sym one) w,
    )

pub put_next-n-requires : goal.put_next-n-requires
put_next-n-requires c =
    let list = c.args.self.now in
    let at = c.loop-i in
    let left = room_left (most_of list.kind) at.i list.count at.n (length c.args.out.now) c.loop-i-test.true (omega (arith, length_fields list.kind list.words.now list.at at.i)) (omega arith) in
    simp (length-take, length-drop) (omega arith)

pub loop-i-preserved : goal.loop-i-preserved
loop-i-preserved c =
    let list = c.args.self.now in
    let at = c.loop-i in
    let field = c.field_at-in-loop-i in
    let next = c.put_next-n.ensures in
    let more : fields_text list.kind list.words.now list.at at.i ++ 44 ∷ field_text list.kind field.result ≡ fields_text list.kind list.words.now list.at (at.i + 1) =
    ap (λ b. fields_text list.kind list.words.now list.at at.i ++ 44 ∷ field_text list.kind b) field.ensures
    ∙ sym (fields_more list.kind list.words.now list.at at.i (omega arith))
    ∙ ap (fields_text list.kind list.words.now list.at) (sym (add-one at.i)) in (
      omega (arith, ap length more, length-append (fields_text list.kind list.words.now list.at at.i) (44 ∷ field_text list.kind field.result)),
      λ before w. wrote_as more (wrote_then (at.invariant.1 before w) next),
    )
