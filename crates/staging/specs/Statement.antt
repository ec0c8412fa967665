-- Demand 3: what is claimed of a list of calls, each by either order, all under one number. Document 01, "Stages", and requests 6, 7 and 8. The proof is
-- in Demand3.
use Rattle.std.specs.Prelude.{◌≡◌, ◌⊎◌, false, List, [], ◌∷◌, ℕ, ◌+◌, ◌*◌, ◌≤◌, length}
use Rattle.std.proofs.Math.Option.{none}
use Rattle.model.specs.Facts.{unknown, Table, heard, table_of, partial_facts, table_fault}
use Rattle.model.specs.Outcome.{Outcomes}
use Rattle.model.specs.Decision.{Decision, products}
use Rattle.model.specs.Policy.{Policy}
use Rattle.model.specs.Evaluate.{eval_policy}
use Rattle.model.specs.Partial.{resolved, Order, sheet_order}
use Rattle.model.specs.Consulted.{any_contradicted}
use Rattle.model.specs.Record.{Record, tree, evaluated, reduced, narrowed, completed}
use Rattle.model.specs.Writing.{encode_r, numbered}
use Rattle.model.specs.Reading.{got, sheet_number, read_record}
use Rattle.model.specs.Calls.{Answer, refusal, wrote, evaluate, partial_evaluate, narrow_residual, complete_residual}
use Rattle.laws.specs.Names.{Names}
use Rattle.laws.specs.Products.{Lawful}
use Rattle.staging.specs.Bare.{bare}
use Rattle.staging.specs.Chain.{Step, InOrder, AllOf, run}

-- A narrowing of the list, of either pair: its table may be any bytes, and it has an output of its own, of any length.
pub record Call : Type 0 where
  pub order : Order
  pub facts : List ℕ
  pub out : List ℕ

-- A refused call hands on what it was given, an accepted one what it wrote.
abbrev pub handed_on : Answer → List ℕ → List ℕ
handed_on (refusal n) given = given
handed_on (wrote ws) given = ws

abbrev pub step_of : Call → Step
step_of c = record { order = c.order; table = table_of c.facts }

abbrev pub if_wrote : Answer → Step → List Step → List Step
if_wrote (refusal n) s ss = ss
if_wrote (wrote ws) s ss = s ∷ ss

-- A table agrees if on every fact that the sheet names it reads Unknown or as the known one, silence being Absent.
abbrev pub AgreesOn : {O : Type 0} → Policy O → Table → Table → Type 0
AgreesOn t K P = (f : ℕ) → Names f t → (P f ≡ unknown) ⊎ (heard (P f) ≡ heard (K f))

-- No condition of the tree names a fact that the table reads as Present or Absent, or on which it is silent.
abbrev pub Settled : {O : Type 0} → Policy O → Table → Type 0
Settled t P = (f : ℕ) → Names f t → P f ≡ unknown

-- Room enough: three times the sheet's words plus 513.
abbrev pub Roomy : List ℕ → ℕ → Type 0
Roomy sheet room = 3 * length sheet + 513 ≤ room

module _ (L : Outcomes) (number : ℕ) where
  -- What a narrowing answers; the record after a list of them; and those that were accepted.
  abbrev pub answer_to : List ℕ → Call → Answer
  answer_to given c = narrow_residual L c.order number given c.facts (length c.out)

  abbrev pub after : List ℕ → List Call → List ℕ
  after given [] = given
  after given (c ∷ cs) = after (handed_on (answer_to given c) given) cs

  abbrev pub accepted : List ℕ → List Call → List Step
  accepted given [] = []
  accepted given (c ∷ cs) = if_wrote (answer_to given c) (step_of c) (accepted (handed_on (answer_to given c) given) cs)

  -- An accepted sheet and known table, the reduction's order and table, the record that it wrote, and the narrowings; t is the sheet's tree.
  pub record Staged (o : Order) (sheet known facts given : List ℕ) (calls : List Call) (t : Policy L.O) : Type 0 where
    -- The record after the list is the one that the rules give for the accepted narrowings, one after the other;
    -- so is every record on the way, since this holds of every list.
    pub last : Record L.O
    pub by_the_rules : last ≡ run L (reduced L o (table_of facts) t) (accepted given calls)
    pub as_words : after given calls ≡ numbered number (encode_r L.number last)
    -- It carries the number.
    pub under : sheet_number (after given calls) ≡ number
    pub read_back : read_record L.value (after given calls) ≡ got last []
    -- No condition in the residual names a fact that one of these tables reads as Present or Absent.
    pub settled_first : Settled (tree last) (table_of facts)
    pub settled_later : AllOf (λ s. Settled (tree last) s.table) (accepted given calls)
    -- An accepted completion with the known table is Resolved, with direct evaluation's effect and products if meet and join are lawful.
    pub decision : Decision L.O
    pub completion : (room : ℕ) (ws : List ℕ) → complete_residual L number (after given calls) known room ≡ wrote ws → ws ≡ numbered number (encode_r L.number (completed L (table_of known) last))
    pub completion_reads : (room : ℕ) (ws : List ℕ) → complete_residual L number (after given calls) known room ≡ wrote ws → read_record L.value ws ≡ got (completed L (table_of known) last) []
    pub resolves : (completed L (table_of known) last).body ≡ resolved decision
    pub same_products : Lawful L → products decision ≡ products (eval_policy L (table_of known) t)
    -- If the reduction and every accepted narrowing are in sheet order, it is direct evaluation's decision but for the facts, whatever meet and join are.
    pub same_but_facts : o ≡ sheet_order → AllOf InOrder (accepted given calls) → bare decision ≡ bare (eval_policy L (table_of known) t)
    -- A table that agrees contradicts no entry of the record, so that no narrowing with it, by either order, is turned back for one.
    pub untouched : (bs : List ℕ) → AgreesOn t (table_of known) (table_of bs) → any_contradicted (table_of bs) last.log ≡ false
    pub never_17 : (by : Order) (room : ℕ) (bs : List ℕ) → AgreesOn t (table_of known) (table_of bs) → narrow_residual L by number (after given calls) bs room ≡ refusal 17 → ⊥
    -- With room enough direct evaluation, a reduction of the sheet, a narrowing, these by either order, and the completion are accepted whenever their table
    -- is faultless and, in a narrowing, agrees.
    pub room_evaluate : (room : ℕ) → Roomy sheet room → evaluate L number sheet known room ≡ wrote (numbered number (encode_r L.number (evaluated L (table_of known) t)))
    pub room_reduce : (by : Order) (room : ℕ) (bs : List ℕ) → Roomy sheet room → table_fault partial_facts bs ≡ none
        → partial_evaluate L by number sheet bs room ≡ wrote (numbered number (encode_r L.number (reduced L by (table_of bs) t)))
    pub room_narrow : (by : Order) (room : ℕ) (bs : List ℕ) → Roomy sheet room → table_fault partial_facts bs ≡ none → AgreesOn t (table_of known) (table_of bs)
        → narrow_residual L by number (after given calls) bs room ≡ wrote (numbered number (encode_r L.number (narrowed L by (table_of bs) last)))
    pub room_complete : (room : ℕ) → Roomy sheet room → complete_residual L number (after given calls) known room ≡ wrote (numbered number (encode_r L.number (completed L (table_of known) last)))
