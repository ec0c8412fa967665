-- The number of a presence is the one that is written, and the one that is read; what it is to a Has, and what a settled fact is to a reduction.
use Rattle.std.specs.Prelude.{◌≡◌, refl, true, false, ℕ, zero, suc, ◌+◌, ◌≤◌, eqb}
use Rattle.std.proofs.Common.{arith}
use Rattle.model.specs.Facts.{absent, present, unknown, silent, presence}
use Rattle.model.specs.Facts as model
use Rattle.model.specs.Partial.{known, reduce_has}
use Rattle.model.specs.Consulted.{Consulted, consult, consult_known, contradicts}
use Rattle.model.specs.Writing.{presence_field, seen_in}
use Rattle.model.specs.Condition.{eval_has}
use Rattle.facts.specs.declared.Presence.{Presence}
use Rattle.facts.specs.declared.Presence.TheVariants.{Absent, Present, Unknown, Silent}
use Rattle.facts.specs.Answers.{presence_of, presence_number, Reads, is_present, is_settled}
use Rattle.laws.specs.Truth.{is_satisfied}

pub number_written : (p : Presence) → presence_number p ≡ presence_field (presence_of p)
number_written Absent = refl
number_written Present = refl
number_written Unknown = refl
number_written Silent = refl

pub number_few : (p : Presence) → presence_number p ≤ 3
number_few Absent = omega arith
number_few Present = omega arith
number_few Unknown = omega arith
number_few Silent = omega arith

-- Of two presences one is Present and the other Absent where their numbers add to 1.
pub numbers_contradict : (p q : Presence) → eqb (presence_number p + presence_number q) 1 ≡ contradicts (presence_of p) (presence_of q)
numbers_contradict Absent Absent = refl
numbers_contradict Absent Present = refl
numbers_contradict Absent Unknown = refl
numbers_contradict Absent Silent = refl
numbers_contradict Present Absent = refl
numbers_contradict Present Present = refl
numbers_contradict Present Unknown = refl
numbers_contradict Present Silent = refl
numbers_contradict Unknown Absent = refl
numbers_contradict Unknown Present = refl
numbers_contradict Unknown Unknown = refl
numbers_contradict Unknown Silent = refl
numbers_contradict Silent Absent = refl
numbers_contradict Silent Present = refl
numbers_contradict Silent Unknown = refl
numbers_contradict Silent Silent = refl

-- Any field of a table but 0 and 1 reads Unknown; any presence of an entry but 0, 1 and 2 is silence.
pub other_field : (n : ℕ) → (n ≡ 0 → ⊥) → (n ≡ 1 → ⊥) → Reads Unknown (presence n)
other_field zero z o = absurd (z refl)
other_field (suc zero) z o = absurd (o refl)
other_field (suc (suc n)) z o = record { seen = refl; number = refl }

pub other_entry : (n : ℕ) → (n ≡ 0 → ⊥) → (n ≡ 1 → ⊥) → (n ≡ 2 → ⊥) → Reads Silent (seen_in n)
other_entry zero z o t = absurd (z refl)
other_entry (suc zero) z o t = absurd (o refl)
other_entry (suc (suc zero)) z o t = absurd (t refl)
other_entry (suc (suc (suc n))) z o t = record { seen = refl; number = refl }

-- A Has is satisfied by a present fact.
pub has_value : (f : ℕ) (p : model.Presence) → is_present p ≡ is_satisfied (eval_has f p)
has_value f absent = refl
has_value f present = refl
has_value f unknown = refl
has_value f silent = refl

-- ---- a settled fact is known and consulted; any other is Unknown
pub settled_known : (f : ℕ) (p : model.Presence) → is_settled p ≡ true → reduce_has f p ≡ known (is_present p)
settled_known f absent e = refl
settled_known f present e = refl
settled_known f unknown e = cc
settled_known f silent e = refl

pub settled_consulted : (l : Consulted) (f : ℕ) (p : model.Presence) → is_settled p ≡ true → consult_known l f p ≡ consult l f p
settled_consulted l f absent e = refl
settled_consulted l f present e = refl
settled_consulted l f unknown e = cc
settled_consulted l f silent e = refl

pub unsettled : (p : model.Presence) → is_settled p ≡ false → p ≡ unknown
unsettled absent e = cc
unsettled present e = cc
unsettled unknown e = refl
unsettled silent e = cc
