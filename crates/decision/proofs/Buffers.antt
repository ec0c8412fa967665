-- Decisions and the buffer that their bytes stand in: a buffer that changes elsewhere, a tail that is lent, bytes that are brought to the front.
-- Assumes nothing.
use mathlib.Core.Path.{◌≡◌, sym, ◌∙◌, ap, ap₂, subst}
use mathlib.Core.Bool.{false, cond}
use mathlib.Core.List.{List, [], ◌++◌}
use Prim.Native.Nat.{ℕ, ◌-◌, ◌/◌, ◌%◌, ◌≤◌, ◌<◌}
use native.Mathlib.Omega.{arith}
use lib.ListN.{length, take, drop, get_or, length-drop}
use lib.Seq.{length-take-le, take_all, take-append-le, take-take, drop_at}
use Rattle.std.specs.Prelude.{None, Some}
use Rattle.model.specs.Facts.{Table}
use Rattle.model.specs.Decision.{permits, denies}
use Rattle.laws.specs.FieldAt.{firsts}
use Rattle.decision.specs.declared.Decision.{Decision}
use Rattle.decision.specs.Nodes.{reached, clause_at, obligations_at, obligation_fields}
use Rattle.decision.specs.Meaning.{obligations_in, Appended, permit_of, decision_of, Names, Sound}
use Rattle.decision.specs.Answers.{Unobliged, Kept}
use Rattle.decision.proofs.Nodes.{reached_is, none_held, obligations_there, no_obligations}
use Rattle.decision.specs.Room.{obligation_room}

-- ---- a decision stands for the same where its bytes are the same
module _ (words before after : List ℕ) (d : Decision) (e : take d.united after ≡ take d.united before) where
  pub same_obligations : obligations_in words after d ≡ obligations_in words before d
  unfolding obligations_in
  same_obligations = ap (λ os. obligations_at words d.obligations ++ os) e

  pub same_permit : (T : Table) → permit_of words T after d ≡ permit_of words T before d
  unfolding permit_of
  same_permit T = ap (λ os. record { outcome = d.outcome; obligations = os; label = (clause_at words T d.clause).label; facts = (clause_at words T d.clause).facts }) same_obligations

  pub same_decision : (T : Table) → decision_of words T after d ≡ decision_of words T before d
  unfolding decision_of
  same_decision T = ap (λ p. cond d.permit (permits p) (denies (clause_at words T d.clause))) (same_permit T)

  pub same_sound : Sound words before d → Sound words after d
  same_sound s = record { clause = s.clause; held = s.held; appended = subst Appended (sym e) s.appended; bare = s.bare }

-- A deny has no bytes.
module _ (words before after : List ℕ) (d : Decision) (e : d.permit ≡ false) (s : Sound words before d) where
  no_bytes : take d.united after ≡ take d.united before
  no_bytes = ap (λ n. take n after) (s.bare e) ∙ sym (ap (λ n. take n before) (s.bare e))

  pub deny_decision : (T : Table) → decision_of words T after d ≡ decision_of words T before d
  deny_decision T = same_decision words before after d no_bytes T

  pub deny_sound : Sound words after d
  deny_sound = same_sound words before after d no_bytes s

-- An incoming decision that was brought to the front.
module _ (words before after : List ℕ) (incoming r : Decision) (k : Kept incoming before after r) where
  pub kept_decision : (T : Table) → decision_of words T after r ≡ decision_of words T (drop obligation_room before) incoming
  kept_decision T = ap (decision_of words T after) k.same ∙ same_decision words (drop obligation_room before) after incoming k.front T

  pub kept_sound : Sound words (drop obligation_room before) incoming → Sound words after r
  kept_sound s = subst (Sound words after) (sym k.same) (same_sound words (drop obligation_room before) after incoming k.front s)

-- ---- the buffer when its tail from the second room on was lent and has come back
module _ (buf tail rest : List ℕ) (room : obligation_room ≤ length buf) where
  pub lent_front : (n : ℕ) → n ≤ obligation_room → take n (take obligation_room buf ++ (tail ++ rest)) ≡ take n buf
  lent_front n h = take-append-le n (take obligation_room buf) (tail ++ rest) (omega (arith, length-take-le obligation_room buf room)) ∙ take-take n obligation_room buf h

  pub lent_back : (n : ℕ) → n ≤ length tail → take n (drop obligation_room (take obligation_room buf ++ (tail ++ rest))) ≡ take n tail
  lent_back n h = ap (take n) (drop_at (take obligation_room buf) (tail ++ rest) obligation_room (length-take-le obligation_room buf room)) ∙ take-append-le n tail rest h

-- The tail that is lent.
pub lent_tail : (buf : List ℕ) → take (length buf - obligation_room) (drop obligation_room buf) ≡ drop obligation_room buf
lent_tail buf = take_all (length buf - obligation_room) (drop obligation_room buf) (omega (arith, length-drop obligation_room buf))

-- No bytes, and a node without obligations.
unobliged_node : (words : List ℕ) (d : Decision) → d.united ≡ 0 → (Names words d.obligations → obligations_at words d.obligations ≡ []) → Unobliged words d
unfolding obligations_in
unobliged_node words d e h = record { none = λ names buf. ap₂ (λ os n. os ++ take n buf) (h names) e }

pub unobliged_past : (words : List ℕ) (d : Decision) → d.united ≡ 0 → None ≡ reached words d.obligations → Unobliged words d
unobliged_past words d e h = unobliged_node words d e (λ _. none_held words d.obligations h)

-- A node at a position whose word counts no obligations has none.
none_there : (words : List ℕ) (at : ℕ) → at < length words → get_or words at 0 / 1048576 % 128 ≡ 0 → Names words (Some at) → obligations_at words (Some at) ≡ []
unfolding firsts
none_there words at h z stands =
    sym (obligations_there words at h stands) ∙ ap (λ k. obligation_fields k (drop 2 (drop at words))) (no_obligations (get_or words at 0) z)

pub unobliged_there : (words : List ℕ) (d : Decision) (at : ℕ) → d.united ≡ 0 → Some at ≡ reached words d.obligations → get_or words at 0 / 1048576 % 128 ≡ 0 → Unobliged words d
unobliged_there words d at e reach z =
    let r = reached_is words d.obligations at reach in
    unobliged_node words d e (rw r.0 (none_there words at r.1 z))
