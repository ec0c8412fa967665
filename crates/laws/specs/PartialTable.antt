-- Reduction with Unknown turned to Absent before a known grant, and a list without pending arms, is evaluated. Document 01, "Reducing": "re-evaluated with Unknown
-- read as Absent". That is the former rule: request 4 reads the partial table itself, and PartialTableLaws shows that both give every record alike, under either order.
use Rattle.std.specs.Prelude.{List, [], ◌∷◌}
use Rattle.model.specs.Facts.{Presence, absent, present, unknown, silent, Table}
use Rattle.model.specs.Outcome.{Outcomes}
use Rattle.model.specs.Condition.{eval_condition}
use Rattle.model.specs.Decision.{permits, denies, combined, generic_deny}
use Rattle.model.specs.Policy.{Policy, permit, deny, grant, all, any, or_else, stored, Policies, pnil, pcons}
use Rattle.model.specs.Partial.{reduce_condition, ReducedPolicy, resolved, pending, reduce_grant, reduce_or_else, Order, all_of, any_of}
use Rattle.model.specs.Consulted.{Consulted, once, walk_c, unless_denied, unless_permitted}
use Rattle.model.specs.Record.{Record}

-- Unknown turned to Absent.
abbrev pub settle : Presence → Presence
settle absent = absent
settle present = present
settle unknown = absent
settle silent = silent

abbrev pub as_known : Table → Table
as_known T f = settle (T f)

module _ (L : Outcomes) (o : Order) where
  abbrev mutual
    pub reduce_settled : Table → Policy L.O → ReducedPolicy L.O
    reduce_settled P (permit x) = resolved (permits (combined x []))
    reduce_settled P deny = resolved (denies generic_deny)
    reduce_settled P (grant g c) = reduce_grant g (eval_condition (as_known P) c) (reduce_condition P c)
    reduce_settled P (all ts) = all_of L o (as_known P) (arms_settled P ts)
    reduce_settled P (any ts) = any_of L o (as_known P) (arms_settled P ts)
    reduce_settled P (or_else a b) = reduce_or_else (reduce_settled P a) (reduce_settled P b)
    reduce_settled P (stored d) = resolved d

    pub arms_settled : Table → Policies L.O → List (ReducedPolicy L.O)
    arms_settled P pnil = []
    arms_settled P (pcons t ts) = reduce_settled P t ∷ arms_settled P ts

  -- What it consults: which arms are walked goes by what the arms before them come to.
  abbrev mutual
    pub walk_settled : Table → Policy L.O → Consulted → Consulted
    walk_settled P (permit x) l = l
    walk_settled P deny l = l
    walk_settled P (grant g c) l = walk_c P c l
    walk_settled P (all ts) l = walk_all_settled P ts l
    walk_settled P (any ts) l = walk_any_settled P ts l
    walk_settled P (or_else a b) l = unless_permitted (reduce_settled P a) (walk_settled P a l) (walk_settled P b (walk_settled P a l))
    walk_settled P (stored d) l = l

    pub walk_all_settled : Table → Policies L.O → Consulted → Consulted
    walk_all_settled P pnil l = l
    walk_all_settled P (pcons t ts) l = unless_denied (reduce_settled P t) (walk_settled P t l) (walk_all_settled P ts (walk_settled P t l))

    pub walk_any_settled : Table → Policies L.O → Consulted → Consulted
    walk_any_settled P pnil l = l
    walk_any_settled P (pcons t ts) l = walk_any_settled P ts (walk_settled P t l)

  -- Its records: of a sheet, and of a record that is narrowed.
  abbrev pub reduced_settled : Table → Policy L.O → Record L.O
  reduced_settled P t = record { body = reduce_settled P t; log = walk_settled P t [] }

  abbrev pub narrowed_from_settled : Table → ReducedPolicy L.O → Consulted → Record L.O
  narrowed_from_settled P (resolved d) l = record { body = resolved d; log = l }
  narrowed_from_settled P (pending t) l = record { body = reduce_settled P t; log = walk_settled P t (once l) }

  abbrev pub narrowed_settled : Table → Record L.O → Record L.O
  narrowed_settled P r = narrowed_from_settled P r.body r.log
