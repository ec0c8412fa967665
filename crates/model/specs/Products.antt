-- The definitions at the outcomes by which the code decides: words are read by sets of products, and rules and calls go by an outcome table g, or by sets of
-- products where there is none. Each name is the definition of the same name at these outcomes.
use Rattle.std.specs.Prelude.{Bool, true, List, ℕ, drop}
use Rattle.std.proofs.Math.Option.{Option}
use Rattle.model.specs.Facts.{Table}
use Rattle.model.specs.Outcome.{product_sets}
use Rattle.model.specs.Levels.{OutcomeTable, outcomes_of, by_table}
use Rattle.model.specs.Condition.{Condition}
use Rattle.model.specs.Decision as decision
use Rattle.model.specs.Decision.{Decision, Permit, Denial}
use Rattle.model.specs.Policy.{Policy, Policies}
use Rattle.model.specs.Evaluate as evaluating
use Rattle.model.specs.Partial as partial
use Rattle.model.specs.Partial.{ReducedPolicy, Order, AllWalk, AnyWalk}
use Rattle.model.specs.Consulted as consulted
use Rattle.model.specs.Consulted.{Consulted}
use Rattle.model.specs.Record as records
use Rattle.model.specs.Record.{Record}
use Rattle.model.specs.Writing as writing
use Rattle.model.specs.Reading as reading
use Rattle.model.specs.Reading.{Parsed}
use Rattle.model.specs.Calls as calls
use Rattle.model.specs.Calls.{Answer}
use Rattle.model.specs.Required as required
use Rattle.model.specs.Required.{Required, Asked}
use Rattle.model.specs.Tight as tight
use Rattle.model.specs.Tight.{UnderNumber}

-- An outcome.
abbrev pub Outcome : Type 0
Outcome = product_sets.O

-- ---- what words read as: a policy, a sheet, a record; and the policy at a position, where stored decisions may stand
abbrev pub read_policy : Bool → ℕ → List ℕ → Parsed (Policy Outcome)
read_policy = reading.read_policy product_sets.value

abbrev pub policy_at : List ℕ → ℕ → ℕ → Parsed (Policy Outcome)
policy_at words at depth = read_policy true depth (drop at words)

abbrev pub read_sheet : List ℕ → Parsed (Policy Outcome)
read_sheet = reading.read_sheet product_sets.value

abbrev pub read_record : List ℕ → Parsed (Record Outcome)
read_record = reading.read_record product_sets.value

-- ---- the parts of reading
abbrev pub outcome_of : {A : Type 0} → Option Outcome → (Outcome → Parsed A) → Parsed A
outcome_of o k = reading.outcome_of product_sets.value o k

abbrev pub denied_of : {A : Type 0} → ℕ → ℕ → (Option Outcome → Parsed A) → Parsed A
denied_of n v k = reading.denied_of product_sets.value n v k

abbrev pub grant_more : (List ℕ → Parsed Condition) → ℕ → ℕ → Outcome → ℕ → ℕ → List ℕ → Parsed (Policy Outcome)
grant_more = reading.grant_more product_sets.value

abbrev pub grant_at : (List ℕ → Parsed Condition) → ℕ → List ℕ → Parsed (Policy Outcome)
grant_at = reading.grant_at product_sets.value

abbrev pub more12 : ℕ → Outcome → ℕ → ℕ → List ℕ → Parsed (Decision Outcome)
more12 = reading.more12 product_sets.value

abbrev pub at12 : ℕ → List ℕ → Parsed (Decision Outcome)
at12 = reading.at12 product_sets.value

abbrev pub more13 : ℕ → Option Outcome → ℕ → ℕ → List ℕ → Parsed (Decision Outcome)
more13 = reading.more13 product_sets.value

abbrev pub at13 : ℕ → List ℕ → Parsed (Decision Outcome)
at13 = reading.at13 product_sets.value

abbrev pub as_stored : Parsed (Decision Outcome) → Parsed (Policy Outcome)
as_stored = reading.as_stored product_sets.value

abbrev pub node_p : Bool → (List ℕ → Parsed Condition) → (List ℕ → Parsed (Policy Outcome)) → ℕ → ℕ → List ℕ → Parsed (Policy Outcome)
node_p = reading.node_p product_sets.value

abbrev pub last_kind : Bool → ℕ
last_kind = reading.last_kind product_sets.value

abbrev pub as_resolved : Parsed (Decision Outcome) → Parsed (ReducedPolicy Outcome)
as_resolved = reading.as_resolved product_sets.value

abbrev pub node14 : ℕ → ℕ → List ℕ → Parsed (ReducedPolicy Outcome)
node14 = reading.node14 product_sets.value

abbrev pub parse14 : List ℕ → Parsed (ReducedPolicy Outcome)
parse14 = reading.parse14 product_sets.value

abbrev pub parse15 : List ℕ → Parsed (ReducedPolicy Outcome)
parse15 = reading.parse15 product_sets.value

abbrev pub rest : (List ℕ → Parsed (ReducedPolicy Outcome)) → ℕ → List ℕ → Parsed (Record Outcome)
rest = reading.rest product_sets.value

abbrev pub leads : ℕ → ℕ → List ℕ → Parsed (Record Outcome)
leads = reading.leads product_sets.value

abbrev pub read_lead : List ℕ → Parsed (Record Outcome)
read_lead = reading.read_lead product_sets.value

-- ---- the words of a policy, of its arms, of a decision, of a record
abbrev pub encode : Policy Outcome → List ℕ
encode = writing.encode product_sets.number

abbrev pub encodes : Policies Outcome → List ℕ
encodes = writing.encodes product_sets.number

abbrev pub denied_field : Option Outcome → ℕ
denied_field = writing.denied_field product_sets.number

abbrev pub encode_d : Decision Outcome → List ℕ
encode_d = writing.encode_d product_sets.number

abbrev pub lead_kind : ReducedPolicy Outcome → ℕ
lead_kind = writing.lead_kind product_sets.number

abbrev pub encode_r : Record Outcome → List ℕ
encode_r = writing.encode_r product_sets.number

-- ---- the rules
abbrev pub meet_permit : Option OutcomeTable → Permit Outcome → Permit Outcome → Permit Outcome
meet_permit g = decision.meet_permit (outcomes_of g)

abbrev pub join_permit : Option OutcomeTable → Permit Outcome → Permit Outcome → Permit Outcome
join_permit g = decision.join_permit (outcomes_of g)

abbrev pub all_from : Option OutcomeTable → Option (Permit Outcome) → List (Decision Outcome) → Decision Outcome
all_from g = evaluating.all_from (outcomes_of g)

abbrev pub any_from : Option OutcomeTable → Option (Permit Outcome) → Option (Denial Outcome) → List (Decision Outcome) → Decision Outcome
any_from g = evaluating.any_from (outcomes_of g)

abbrev pub eval_policy : Option OutcomeTable → Table → Policy Outcome → Decision Outcome
eval_policy g = evaluating.eval_policy (outcomes_of g)

abbrev pub eval_policies : Option OutcomeTable → Table → Policies Outcome → List (Decision Outcome)
eval_policies g = evaluating.eval_policies (outcomes_of g)

abbrev pub end_all : Option OutcomeTable → Table → AllWalk Outcome → ReducedPolicy Outcome
end_all g = partial.end_all (outcomes_of g)

abbrev pub end_any : Option OutcomeTable → Table → AnyWalk Outcome → ReducedPolicy Outcome
end_any g = partial.end_any (outcomes_of g)

abbrev pub end_in_order : Option OutcomeTable → (Policies Outcome → Policy Outcome) → Table → List (ReducedPolicy Outcome) → ReducedPolicy Outcome
end_in_order g = partial.end_in_order (outcomes_of g)

abbrev pub all_of : Option OutcomeTable → Order → Table → List (ReducedPolicy Outcome) → ReducedPolicy Outcome
all_of g = partial.all_of (outcomes_of g)

abbrev pub any_of : Option OutcomeTable → Order → Table → List (ReducedPolicy Outcome) → ReducedPolicy Outcome
any_of g = partial.any_of (outcomes_of g)

abbrev pub reduce_policy : Option OutcomeTable → Order → Table → Policy Outcome → ReducedPolicy Outcome
reduce_policy g = partial.reduce_policy (outcomes_of g)

abbrev pub reduce_arms : Option OutcomeTable → Order → Table → Policies Outcome → List (ReducedPolicy Outcome)
reduce_arms g = partial.reduce_arms (outcomes_of g)

-- ---- the consulted list of an evaluation, and of a reduction
abbrev pub read : Option OutcomeTable → Table → Policy Outcome → Consulted → Consulted
read g = consulted.read (outcomes_of g)

abbrev pub read_all : Option OutcomeTable → Table → Policies Outcome → Consulted → Consulted
read_all g = consulted.read_all (outcomes_of g)

abbrev pub read_any : Option OutcomeTable → Table → Policies Outcome → Consulted → Consulted
read_any g = consulted.read_any (outcomes_of g)

abbrev pub walk : Option OutcomeTable → Order → Table → Policy Outcome → Consulted → Consulted
walk g = consulted.walk (outcomes_of g)

abbrev pub walk_all : Option OutcomeTable → Order → Table → Policies Outcome → Consulted → Consulted
walk_all g = consulted.walk_all (outcomes_of g)

abbrev pub walk_any : Option OutcomeTable → Order → Table → Policies Outcome → Consulted → Consulted
walk_any g = consulted.walk_any (outcomes_of g)

-- ---- records
abbrev pub evaluated : Option OutcomeTable → Table → Policy Outcome → Record Outcome
evaluated g = records.evaluated (outcomes_of g)

abbrev pub reduced : Option OutcomeTable → Order → Table → Policy Outcome → Record Outcome
reduced g = records.reduced (outcomes_of g)

abbrev pub narrowed_from : Option OutcomeTable → Order → Table → ReducedPolicy Outcome → Consulted → Record Outcome
narrowed_from g = records.narrowed_from (outcomes_of g)

abbrev pub completed_from : Option OutcomeTable → Table → ReducedPolicy Outcome → Consulted → Record Outcome
completed_from g = records.completed_from (outcomes_of g)

-- ---- the calls
abbrev pub fits : ℕ → Record Outcome → Bool
fits = calls.fits product_sets

abbrev pub write : ℕ → Record Outcome → Answer
write = calls.write product_sets

-- The calls by the outcomes of a table, whether it is accepted or not; without one they are the calls below, as they compute.
abbrev pub evaluate_by : Option OutcomeTable → ℕ → List ℕ → List ℕ → ℕ → Answer
evaluate_by g = calls.evaluate (outcomes_of g)

abbrev pub partial_evaluate_by : Option OutcomeTable → Order → ℕ → List ℕ → List ℕ → ℕ → Answer
partial_evaluate_by g = calls.partial_evaluate (outcomes_of g)

abbrev pub narrow_residual_by : Option OutcomeTable → Order → ℕ → List ℕ → List ℕ → ℕ → Answer
narrow_residual_by g = calls.narrow_residual (outcomes_of g)

abbrev pub complete_residual_by : Option OutcomeTable → ℕ → List ℕ → List ℕ → ℕ → Answer
complete_residual_by g = calls.complete_residual (outcomes_of g)

-- The calls, with a table or without.
abbrev pub evaluate : Option OutcomeTable → ℕ → List ℕ → List ℕ → ℕ → Answer
evaluate g number sheet facts room = by_table g (λ L. calls.evaluate L number sheet facts room)

abbrev pub partial_evaluate : Option OutcomeTable → Order → ℕ → List ℕ → List ℕ → ℕ → Answer
partial_evaluate g o number sheet facts room = by_table g (λ L. calls.partial_evaluate L o number sheet facts room)

abbrev pub narrow_residual : Option OutcomeTable → Order → ℕ → List ℕ → List ℕ → ℕ → Answer
narrow_residual g o number rec facts room = by_table g (λ L. calls.narrow_residual L o number rec facts room)

abbrev pub complete_residual : Option OutcomeTable → ℕ → List ℕ → List ℕ → ℕ → Answer
complete_residual g number rec facts room = by_table g (λ L. calls.complete_residual L number rec facts room)

abbrev pub required_facts : List ℕ → Required
required_facts = required.required_facts product_sets

abbrev pub required_residual_facts : List ℕ → Required
required_residual_facts = required.required_residual_facts product_sets

abbrev pub is_permit_constant : List ℕ → Asked
is_permit_constant = required.is_permit_constant product_sets

abbrev pub is_deny_constant : List ℕ → Asked
is_deny_constant = required.is_deny_constant product_sets

abbrev pub carries_obligation : List ℕ → Asked
carries_obligation = required.carries_obligation product_sets

-- ---- the tight form: what bits read as, and its calls
abbrev pub resolved_in : List ℕ → Parsed (ReducedPolicy Outcome)
resolved_in = tight.resolved_in product_sets.value

abbrev pub loose_r : List ℕ → Parsed (UnderNumber Outcome)
loose_r = tight.loose_r product_sets.value

abbrev pub pack_sheet : List ℕ → ℕ → Answer
pack_sheet = tight.pack_sheet product_sets

abbrev pub pack_record : List ℕ → ℕ → Answer
pack_record = tight.pack_record product_sets

abbrev pub unpack_sheet : List ℕ → ℕ → Answer
unpack_sheet = tight.unpack_sheet product_sets

abbrev pub unpack_record : List ℕ → ℕ → Answer
unpack_record = tight.unpack_record product_sets
