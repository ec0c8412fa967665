-- A decision but for its fact list: effect, outcome, denied outcome, obligations, label, reason and shape. Request 8.
use Rattle.std.specs.Prelude.{[]}
use Rattle.model.specs.Decision.{Permit, Denial, Decision, permits, denies}

abbrev pub bare_permit : {O : Type 0} → Permit O → Permit O
bare_permit p = record { outcome = p.outcome; obligations = p.obligations; label = p.label; facts = [] }

abbrev pub bare_denial : {O : Type 0} → Denial O → Denial O
bare_denial d = record { denied = d.denied; facts = []; label = d.label; reason = d.reason; shape = d.shape }

abbrev pub bare : {O : Type 0} → Decision O → Decision O
bare (permits p) = permits (bare_permit p)
bare (denies d) = denies (bare_denial d)
