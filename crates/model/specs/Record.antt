-- Records: what each call's rules give, over trees. Document 01, "What a call receives" and "Narrowing, completing".
use Rattle.std.specs.Prelude.{[]}
use Rattle.model.specs.Facts.{Table}
use Rattle.model.specs.Outcome.{Outcomes}
use Rattle.model.specs.Policy.{Policy}
use Rattle.model.specs.Evaluate.{eval_policy}
use Rattle.model.specs.Partial.{ReducedPolicy, resolved, pending, as_residual, Order, reduce_policy}
use Rattle.model.specs.Consulted.{Consulted, once, read, walk}

-- Resolved or Pending, and the consulted facts.
pub record Record (O : Type 0) : Type 0 where
  pub body : ReducedPolicy O
  pub log : Consulted

-- The record's tree: under Resolved one node 12 or 13.
abbrev pub tree : {O : Type 0} → Record O → Policy O
tree r = as_residual r.body

module _ (L : Outcomes) where
  -- Direct evaluation, and reduction by an order.
  abbrev pub evaluated : Table → Policy L.O → Record L.O
  evaluated K t = record { body = resolved (eval_policy L K t); log = read L K t [] }

  abbrev pub reduced : Order → Table → Policy L.O → Record L.O
  reduced o P t = record { body = reduce_policy L o P t; log = walk L o P t [] }

  -- Narrowing: the reducing rules on a Pending record's tree, after the prior consulted facts. A Resolved record comes back equal.
  abbrev pub narrowed_from : Order → Table → ReducedPolicy L.O → Consulted → Record L.O
  narrowed_from o P (resolved d) l = record { body = resolved d; log = l }
  narrowed_from o P (pending t) l = record { body = reduce_policy L o P t; log = walk L o P t (once l) }

  abbrev pub narrowed : Order → Table → Record L.O → Record L.O
  narrowed o P r = narrowed_from o P r.body r.log

  -- Completing: the evaluating rules instead.
  abbrev pub completed_from : Table → ReducedPolicy L.O → Consulted → Record L.O
  completed_from K (resolved d) l = record { body = resolved d; log = l }
  completed_from K (pending t) l = record { body = resolved (eval_policy L K t); log = read L K t (once l) }

  abbrev pub completed : Table → Record L.O → Record L.O
  completed K r = completed_from K r.body r.log
