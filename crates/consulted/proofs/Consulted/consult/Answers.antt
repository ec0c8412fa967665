-- `Consulted::consult` meets its contract: by whether the fact is listed. Assumes nothing.
use mathlib.Core.Path.{◌≡◌}
use mathlib.Core.Bool.{Bool, true, false}
use mathlib.Core.List.{List}
use Prim.Native.Nat.{ℕ, ◌<◌}
use lib.Dec.{eqb}
use lib.ListN.{length}
use Rattle.model.specs.Facts.{Presence, fact_count}
use Rattle.model.specs.Writing.{entry_field}
use Rattle.fact_set.specs.Sets.{Grown, Contained}
use Rattle.consulted.specs.declared.Consulted.{Consulted}
use Rattle.consulted.specs.Lists.{list_with}
use Rattle.consulted.specs.Listing.{entry_of, held, lent, Recorded}
use Rattle.consulted.proofs.Listing.{recorded_again, recorded_full, recorded_new}
use Rattle.consulted.proofs.Consulted.consult.Goals as goal

again : (f : ℕ) (p : Presence) (a l : Consulted) (b : Bool) (e : ℕ) → f < fact_count → Contained f a.seen.now b → l ≡ list_with a b e → b ≡ true → Recorded f p (held a) (held l)
again f p a l b e lt c made is = rw (made, is) (recorded_again f p (held a) lt (rw is at c))

new : (f : ℕ) (p : Presence) (a l : Consulted) (b : Bool) (e : ℕ) (seen : List ℕ) → f < fact_count → Contained f a.seen.now b → l ≡ list_with a b e → b ≡ false → a.length < length a.entries.now →
    Grown (λ g. eqb g f) l.seen.now seen → e ≡ entry_field (entry_of f p) → Recorded f p (held a) (lent l.length l.entries.now seen)
new f p a l b e seen lt c made is room more field = rw (made, is, field) (recorded_new f p (held a) seen lt room (rw is at c) (rw made at more))

pub returns-then-self : goal.returns-then-self
returns-then-self c = recorded_full c.args.fact _ _ c.if-self.true

pub returns-then-not-already : goal.returns-then-not-already
returns-then-not-already c =
    new _ _ _ _ _ _ _ c.requires c.lists-already.ensures c.«record».ensures c.if-not-already.true c.if-self.false c.insert.ensures c.entry.ensures

pub returns-else-not-already : goal.returns-else-not-already
returns-else-not-already c =
    again _ _ _ _ _ _ c.requires c.lists-already.ensures c.«record».ensures c.if-not-already.false
