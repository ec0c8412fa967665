-- How many words a tree takes, document 01, "What a call receives".
use Rattle.std.specs.Prelude.{Bool, true, false, List, ℕ, ◌+◌, length}
use Rattle.model.specs.Fields.{words_for, per_word}
use Rattle.model.specs.Condition.{Condition, always, never, has, not_c, all_c, any_c, Conditions, cnil, ccons}
use Rattle.model.specs.Decision.{Permit, Denial, Decision, permits, denies}
use Rattle.model.specs.Policy.{Policy, permit, deny, grant, all, any, or_else, stored, Policies, pnil, pcons}
use Rattle.model.specs.Record.{Record, tree}
use Rattle.model.specs.Writing.{obligation_bits, entry_bits}

-- Four obligations a word; two facts, or two consulted entries, a word.
abbrev pub quads : List ℕ → ℕ
quads os = words_for (per_word obligation_bits) (length os)

abbrev pub pairs {ℓ} : {A : Type ℓ} → List A → ℕ
pairs fs = words_for (per_word entry_bits) (length fs)

abbrev mutual
  pub words_c : Condition → ℕ
  words_c always = 1
  words_c never = 1
  words_c (has f) = 1
  words_c (not_c c) = 1 + words_c c
  words_c (all_c cs) = 1 + words_cs cs
  words_c (any_c cs) = 1 + words_cs cs

  pub words_cs : Conditions → ℕ
  words_cs cnil = 0
  words_cs (ccons c cs) = words_c c + words_cs cs

-- Node 12, node 13.
abbrev pub words_p : {O : Type 0} → Permit O → ℕ
words_p p = 2 + quads p.obligations + pairs p.facts

abbrev pub words_n : {O : Type 0} → Denial O → ℕ
words_n d = 3 + pairs d.facts

abbrev pub words_d : {O : Type 0} → Decision O → ℕ
words_d (permits p) = words_p p
words_d (denies d) = words_n d

abbrev mutual
  pub words : {O : Type 0} → Policy O → ℕ
  words (permit o) = 1
  words deny = 1
  words (grant g c) = 2 + quads g.obligations + words_c c
  words (all ts) = 1 + wordss ts
  words (any ts) = 1 + wordss ts
  words (or_else a b) = 1 + words a + words b
  words (stored d) = words_d d

  pub wordss : {O : Type 0} → Policies O → ℕ
  wordss pnil = 0
  wordss (pcons t ts) = words t + wordss ts

-- A record: its lead word, the consulted entries, the tree.
abbrev pub words_r : {O : Type 0} → Record O → ℕ
words_r r = 1 + pairs r.log + words (tree r)

-- A sheet has no node 12 or 13.
abbrev mutual
  pub IsSheet : {O : Type 0} → Policy O → Type 0
  IsSheet (permit o) = Unit {0}
  IsSheet deny = Unit {0}
  IsSheet (grant g c) = Unit {0}
  IsSheet (all ts) = AreSheets ts
  IsSheet (any ts) = AreSheets ts
  IsSheet (or_else a b) = IsSheet a × IsSheet b
  IsSheet (stored d) = ⊥

  pub AreSheets : {O : Type 0} → Policies O → Type 0
  AreSheets pnil = Unit {0}
  AreSheets (pcons t ts) = IsSheet t × AreSheets ts

-- Where nodes 12 and 13 aren't allowed, there is none.
abbrev pub SheetIf : {O : Type 0} → Bool → Policy O → Type 0
SheetIf true t = Unit {0}
SheetIf false t = IsSheet t

abbrev pub SheetsIf : {O : Type 0} → Bool → Policies O → Type 0
SheetsIf true ts = Unit {0}
SheetsIf false ts = AreSheets ts
