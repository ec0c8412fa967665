-- The entries that a list needs, whatever the table: no walk lists more than 1,024 facts, nor more than the entries it began with and the tree's words.
use Rattle.std.specs.Prelude.{ℕ, ◌+◌, ◌≤◌, ◌<◌, min, List, [], ◌∷◌, length}
use Rattle.std.proofs.Common.{arith}
use Rattle.model.specs.Facts.{Table}
use Rattle.model.specs.Outcome.{Outcomes}
use Rattle.model.specs.Condition.{Condition}
use Rattle.model.specs.Policy.{Policy}
use Rattle.model.specs.Partial.{Order}
use Rattle.model.specs.Consulted.{Consulted, once, read, walk}
use Rattle.laws.specs.Lists.{Every}
use Rattle.laws.specs.Size.{words}
use Rattle.laws.specs.Form.{FormOf}
use Rattle.laws.proofs.ReadForm.{Named}
use Rattle.staging.proofs.ConsultedLaws.{consulted_facts, good_once, good_read, good_walk, log_length, once_length, read_length, walk_length}
use Rattle.staging.proofs.Bound.{small_t}

named_small : (l : Consulted) → Named l → Every (λ f. f < 1024) (consulted_facts l)
named_small [] h = tt
named_small (e ∷ l) h = (h.0, named_small l h.1)

module _ (L : Outcomes) (T : Table) (G : L.O → Type 0) (B : Condition → Type 0) (R : List ℕ → Type 0) (t : Policy L.O) (form : FormOf G B R t) (l : Consulted) (named : Named l) where
  pub read_fits : length (read L T t (once l)) ≤ min 1024 (length l + words t)
  read_fits =
      omega (
        arith,
        once_length l,
        read_length L T t (once l),
        log_length (read L T t (once l)) (good_read (λ f. f < 1024) L T t (once l) (small_t G B R t form) (good_once (λ f. f < 1024) l (named_small l named))),
      )

  pub walk_fits : (o : Order) → length (walk L o T t (once l)) ≤ min 1024 (length l + words t)
  walk_fits o =
      omega (
        arith,
        once_length l,
        walk_length L o T t (once l),
        log_length (walk L o T t (once l)) (good_walk (λ f. f < 1024) L o T t (once l) (small_t G B R t form) (good_once (λ f. f < 1024) l (named_small l named))),
      )
