-- `windows::write` meets its contract: the table is copied, and its fields become what the loops leave. Assumes nothing.
use mathlib.Core.Path.{◌≡◌, sym, ap, ap₂, ◌∙◌}
use mathlib.Core.Bool.{true, false, ◌||◌}
use native.Mathlib.Omega.{arith}
use Rattle.model.specs.Facts.{table_fields}
use Rattle.model.specs.Calendar.{unknown_date}
use Rattle.model.specs.Windows.{windows_of}
use Rattle.laws.proofs.WindowLaws.{judged}
use Rattle.calendar.specs.Answers.{date_of}
use Rattle.windows.specs.declared.Ages.{Ages}
use Rattle.windows.specs.declared.Verdict.TheVariants.{Closed, Open}
use Rattle.windows.specs.Setting.{held_as, fields_by, set_where, marked}
use Rattle.windows.specs.SettingLaws.{by_both}
use Rattle.windows.proofs.Parts.{windows_are, known_exists, finished, unknown_marked, all_loops}
use Rattle.windows.proofs.write.Goals as goal
use Rattle.windows.proofs.write.Goals.{then-is_unknown-via-then-is_unknown, then-is_unknown-via-else-is_unknown+then-is_unknown-2}

pub copy_from_slice-requires : goal.copy_from_slice-requires
copy_from_slice-requires c =
    let j = judged c.args.list.now (date_of c.args.reading) (date_of c.args.today) c.args.facts.now c.requires in
    c.told-out ∙ sym j.long

pub returns-then-is_unknown : goal.returns-then-is_unknown
returns-then-is_unknown c =
    let list = c.args.list.now in
    let reading = date_of c.args.reading in
    let today = date_of c.args.today in
    let table = c.args.facts.now in
    let j = judged list reading today table c.requires in
    let unknown : (unknown_date reading || unknown_date today) ≡ true =
    elim c.then-is_unknown.branch [
      | then-is_unknown-via-then-is_unknown w ↦ ap (λ b. b || unknown_date today) (sym c.is_unknown.ensures ∙ w.if-is_unknown.true)
      | then-is_unknown-via-else-is_unknown+then-is_unknown-2 w ↦
          ap₂ (λ a b. a || b) (sym c.is_unknown.ensures ∙ w.if-is_unknown.false) (sym w.is_unknown-else-is_unknown.ensures ∙ w.if-is_unknown-2.true)
    ] in
    let marks = c.mark.ensures ∙ ap₂ (λ ws l. fields_by (marked 2 ws) 0 (table_fields l)) (windows_are list _ c.as_chunks.ensures.front) c.copy_from_slice.ensures.after in
    finished list reading today table j (marked 2 (windows_of list)) (omega arith) marks (unknown_marked list reading today table j unknown)

pub age_in_days-requires : goal.age_in_days-requires
age_in_days-requires c =
    let j = judged c.args.list.now (date_of c.args.reading) (date_of c.args.today) c.args.facts.now c.requires in (
      known_exists (date_of c.args.reading) j.right_reading (sym c.is_unknown.ensures ∙ c.if-is_unknown.false),
      known_exists (date_of c.args.today) j.right_today (sym c.is_unknown-else-is_unknown.ensures ∙ c.if-is_unknown-2.false),
    )

pub age_in_years-requires : goal.age_in_years-requires
age_in_years-requires c =
    let j = judged c.args.list.now (date_of c.args.reading) (date_of c.args.today) c.args.facts.now c.requires in
    known_exists (date_of c.args.today) j.right_today (sym c.is_unknown-else-is_unknown.ensures ∙ c.if-is_unknown-2.false)

pub returns : goal.returns
returns c =
    let list = c.args.list.now in
    let reading = date_of c.args.reading in
    let today = date_of c.args.today in
    let table = c.args.facts.now in
    let j = judged list reading today table c.requires in
    let known : (unknown_date reading || unknown_date today) ≡ false =
    ap₂ (λ a b. a || b) (sym c.is_unknown.ensures ∙ c.if-is_unknown.false) (sym c.is_unknown-else-is_unknown.ensures ∙ c.if-is_unknown-2.false) in
    let ages : Ages = record { days = c.age_in_days.result; years = c.age_in_years.result } in
    let ws = windows_of list in
    let pairs = windows_are list _ c.as_chunks.ensures.front in
    let opens = set_where (held_as Open ages) 1 in
    let closes = set_where (held_as Closed ages) 0 in
    let fields = table_fields table in
    let marks = c.mark-2.ensures ∙ ap₂ (λ l t. fields_by (marked 0 l) 0 (table_fields t)) pairs c.copy_from_slice.ensures.after in
    let opened = c.decide.ensures ∙ ap₂ (λ l t. fields_by (opens l) 0 t) pairs marks ∙ by_both (opens ws) (marked 0 ws) 0 fields in
    let closed = c.decide-2.ensures ∙ ap₂ (λ l t. fields_by (closes l) 0 t) pairs opened ∙ by_both (closes ws) (λ f q. opens ws f (marked 0 ws f q)) 0 fields in
    finished list reading today table j (λ f q. closes ws f (opens ws f (marked 0 ws f q))) (omega arith) closed
    (all_loops list reading today table j ages (ap₂ (λ d y. record { days = d; years = y }) c.age_in_days.ensures c.age_in_years.ensures) known)
