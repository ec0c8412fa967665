-- For callers: what the answer says of a condition that reads.
use Rattle.std.specs.Prelude.{◌≡◌, List, ℕ, ◌+◌}
use Rattle.model.specs.Facts.{Table}
use Rattle.model.specs.Condition.{Condition, eval_condition}
use Rattle.model.specs.Reading.{Parsed, got}
use Rattle.laws.specs.Size.{words_c}
use Rattle.decisive.specs.declared.Named.{Named}
use Rattle.decisive.specs.Naming.{Tells, Decisive}

pub told : {T : Table} {at : ℕ} {p : Parsed Condition} {out : List ℕ} {r : Named} (c : Condition) (rest : List ℕ) → p ≡ got c rest → Decisive T at p out r →
    Tells (eval_condition T c) (at + words_c c) out r
told {T} {at} {p} {out} {r} c rest e s = (rw e at s.names).it
