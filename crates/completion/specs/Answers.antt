-- What completing answers of a record's parts. Document 01, "Narrowing, completing".
use Rattle.std.specs.Prelude.{◌≡◌, List, ◌++◌, map, ℕ, ◌≤◌, length, drop}
use Rattle.std.proofs.Math.Option.{Option}
use Rattle.model.specs.Fields.{pack}
use Rattle.model.specs.Facts.{fact_count, Table}
use Rattle.model.specs.Policy.{Policy}
use Rattle.model.specs.Partial.{resolved}
use Rattle.model.specs.Consulted.{Consulted, once_from}
use Rattle.model.specs.Record.{Record}
use Rattle.model.specs.Writing.{entry_bits, entry_field}
use Rattle.model.specs.Levels.{OutcomeTable}
use Rattle.model.specs.Products.{Outcome, eval_policy, read}
use Rattle.laws.proofs.ReadForm.{Named}
use Rattle.consulted.specs.Listing.{Lent, Listed, Consults}

-- Where `count` entries stand after the first word, they were listed, once each, the first one kept.
pub record LoadsConsulted (words : List ℕ) (count : ℕ) (s t : Lent) : Type 0 where
  pub log : (es : Consulted) (rest : List ℕ) → Named es → count ≡ length es → pack entry_bits (map entry_field es) ++ rest ≡ drop 1 words → Consults (λ l. once_from l es) s t

-- The entries in use are those of the list that is held, which has no more than there are facts.
pub record InUse (s : Lent) (entries : List ℕ) : Type 0 where
  pub are : (l : Consulted) → Listed l s → length l ≤ fact_count → entries ≡ map entry_field l

-- The record of a policy that is decided, by the outcomes of a table or without one, after the facts that were consulted before.
abbrev pub completed_after : Option OutcomeTable → Table → Policy Outcome → Consulted → Record Outcome
completed_after g K t l = record { body = resolved (eval_policy g K t); log = read g K t l }
