-- `policy_model::check_record` meets its contract: the length, the lead, the entries, and the tree to the last word. Assumes nothing.
use mathlib.Core.Path.{◌≡◌, sym, ap, ◌∙◌}
use Prim.Native.Nat.{◌/◌, ◌<◌}
use native.Mathlib.Omega.{arith}
use lib.ListN.{get_or}
use Rattle.policy_model.specs.Answers.{kind_by}
use Rattle.policy_model.proofs.Checking.{lead_passed_on}
use Rattle.policy_model.proofs.Whole.{other_record, record_entries, record_tree}
use Rattle.policy_model.proofs.check_record.Goals as goal
use Rattle.policy_model.proofs.check_record.Goals.{After-check_entries, in-14, in-15}

pub returns-in_default : goal.returns-in_default
returns-in_default c =
    let ws = c.args.words.now in
    let fits : get_or ws 0 0 < 4294967296 = omega (arith, c.type_inv.words 0) in
    other_record _ ws c.if-words-eq0.false c.if-words-gt-RECORD_WORDS.false (omega arith)

-- The status is that of the lead's kind.
known : (c : After-check_entries) → get_or c.args.words.now 0 0 / 268435456 ≡ kind_by c.match-words-div268435456.status
known c =
    elim c.match-words-div268435456.branch [ in-14 w ↦ w.in-14.is ∙ ap kind_by (sym w.status-is) | in-15 w ↦ w.in-15.is ∙ ap kind_by (sym w.status-is) ]

pub returns-in_err-tree : goal.returns-in_err-tree
returns-in_err-tree c =
    lead_passed_on _ _ c.from_residual.ensures.1
    ∙ record_entries _ c.args.words.now c.if-words-eq0.false c.if-words-gt-RECORD_WORDS.false _ (known (goal.at.returns-in_err-tree c).After-check_entries) _
    c.in_err-tree.ensures

pub returns-in_err-check_body : goal.returns-in_err-check_body
returns-in_err-check_body c =
    lead_passed_on _ _ c.from_residual-in_err-check_body.ensures.1
    ∙ record_tree _ c.args.words.now c.if-words-eq0.false c.if-words-gt-RECORD_WORDS.false _ (known (goal.at.returns-in_err-check_body c).After-check_entries) _ _
    c.in_ok-tree.ensures c.in_err-check_body.ensures

pub returns : goal.returns
returns c =
    record_tree _ c.args.words.now c.if-words-eq0.false c.if-words-gt-RECORD_WORDS.false _ (known (goal.at.returns c).After-check_entries) _ _
    c.in_ok-tree.ensures c.in_ok-check_body.ensures
