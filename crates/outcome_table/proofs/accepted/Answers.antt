-- `outcome_table::accepted` meets its contract, for any count and any bytes. Assumes nothing.
use Rattle.std.specs.Prelude.{◌≡◌, refl, true, ◌&&◌, ◌*◌, ◌≤◌, length}
use Rattle.std.proofs.Common.{sym, ◌∙◌, ap, arith, le-leb, eq-eqb}
use Rattle.std.proofs.lemmas.Bool.{false_from_ne_true}
use Rattle.model.specs.Levels.{OutcomeTable, sized, closed, pairwise, lawful_pair, accepts}
use Rattle.laws.proofs.LevelLaws.{good}
use Rattle.outcome.specs.Carried.{table}
use Rattle.outcome_table.proofs.accepted.Goals as goal
use Rattle.outcome_table.proofs.accepted.Goals.{then-levels-eq0-via-then-levels-eq0, then-levels-eq0-via-else-levels-eq0+then-levels-gt-MOST_LEVELS, then-levels-eq0-via-else-levels-eq0+else-levels-gt-MOST_LEVELS+then-bytes-levels}

-- Of a table of the right size the laws decide.
by_laws : (t : OutcomeTable) → (t.levels ≡ 0 → ⊥) → t.levels ≤ 16 → length t.bytes ≡ 2 * (t.levels * t.levels) → accepts t ≡ (closed t && pairwise t.levels (lawful_pair t))
unfolding accepts
by_laws t some few long =
    let sizes : sized t ≡ true = rw (le-leb 1 t.levels (omega (arith, some)), le-leb t.levels 16 few, eq-eqb _ _ long) refl in
    ap (λ b. b && (closed t && pairwise t.levels (lawful_pair t))) sizes

pub returns-then-levels-eq0 : goal.returns-then-levels-eq0
returns-then-levels-eq0 c = (
  refl,
  false_from_ne_true _ (λ e.
      let g = good (table c.args.levels c.args.bytes.now) e in
      elim c.then-levels-eq0.branch [
        | then-levels-eq0-via-then-levels-eq0 w ↦ omega (arith, g.some_levels)
        | then-levels-eq0-via-else-levels-eq0+then-levels-gt-MOST_LEVELS w ↦ omega (arith, g.few_levels)
        | then-levels-eq0-via-else-levels-eq0+else-levels-gt-MOST_LEVELS+then-bytes-levels w ↦ w.if-bytes-levels.true g.long
      ]),
)

pub returns-then-lawful : goal.returns-then-lawful
returns-then-lawful c = (refl, by_laws (table c.args.levels c.args.bytes.now) c.if-levels-eq0.false c.if-levels-gt-MOST_LEVELS.false c.if-bytes-levels.false ∙ sym c.lawful.ensures ∙ c.if-lawful.true)

pub returns-else-lawful : goal.returns-else-lawful
returns-else-lawful c = (refl, by_laws (table c.args.levels c.args.bytes.now) c.if-levels-eq0.false c.if-levels-gt-MOST_LEVELS.false c.if-bytes-levels.false ∙ sym c.lawful.ensures ∙ c.if-lawful.false)
