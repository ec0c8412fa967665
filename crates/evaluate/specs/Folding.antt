-- The list rules as one decision carried along the arms: what a loop keeps, none before the first arm.
use Rattle.std.specs.Prelude.{List, [], ◌∷◌}
use Rattle.std.proofs.Math.Option.{Option, none, some}
use Rattle.model.specs.Decision.{Decision, permits, denies, generic_deny}
use Rattle.model.specs.Levels.{OutcomeTable}
use Rattle.model.specs.Products.{Outcome, meet_permit, join_permit}

-- A list whose arms are all read: without arms it denies, with nothing named.
abbrev pub or_denied : Option (Decision Outcome) → Decision Outcome
or_denied none = denies generic_deny
or_denied (some d) = d

-- All: the permits so far, if there are any, and one arm more. A denying arm is the answer.
abbrev pub meet_next : Option OutcomeTable → Option (Decision Outcome) → Decision Outcome → Decision Outcome
meet_next g none d = d
meet_next g (some (permits p)) (permits q) = permits (meet_permit g p q)
meet_next g (some (permits p)) (denies d) = denies d
meet_next g (some (denies c)) (permits q) = permits q
meet_next g (some (denies c)) (denies d) = denies d

abbrev pub all_of : Option OutcomeTable → Option (Decision Outcome) → List (Decision Outcome) → Decision Outcome
all_of g sofar [] = or_denied sofar
all_of g sofar (permits q ∷ ds) = all_of g (some (meet_next g sofar (permits q))) ds
all_of g sofar (denies d ∷ ds) = denies d

-- Any: the first arm's decision, and then the permits so far or the first deny.
abbrev pub join_next : Option OutcomeTable → Option (Decision Outcome) → Decision Outcome → Decision Outcome
join_next g none d = d
join_next g (some (permits p)) (permits q) = permits (join_permit g p q)
join_next g (some (permits p)) (denies d) = permits p
join_next g (some (denies c)) (permits q) = permits q
join_next g (some (denies c)) (denies d) = denies c

abbrev pub any_of : Option OutcomeTable → Option (Decision Outcome) → List (Decision Outcome) → Decision Outcome
any_of g sofar [] = or_denied sofar
any_of g sofar (d ∷ ds) = any_of g (some (join_next g sofar d)) ds
