-- The decisive facts of a condition, by what its first word says. Assumes nothing.
use mathlib.Core.Path.{◌≡◌, refl, ap, ◌∙◌}
use mathlib.Core.Bool.{Bool, true, false, not}
use mathlib.Core.List.{List, [], ◌∷◌}
use Prim.Native.Nat.{ℕ, zero, suc, ◌+◌, ◌-◌, ◌/◌, ◌%◌, ◌≤◌, ◌<◌}
use native.Mathlib.Omega.{arith}
use lib.ListN.{length, take, drop, get_or, set, length-set}
use Rattle.model.specs.Facts.{Presence, absent, present, unknown, silent, Table, fact_count}
use Rattle.model.specs.Condition.{Condition, always, never, not_c, all_c, any_c, Conditions, cnil, ccons, eval_has, flip, eval_condition, eval_condition_all}
use Rattle.model.specs.Reading.{Parsed, got, many, read_condition}
use Rattle.laws.proofs.FieldLaws.{Holds, fine, nothing, then_holds, both_hold}
use Rattle.laws.specs.Size.{words_c}
use Rattle.facts.specs.Answers.{is_present}
use Rattle.policy_model.specs.declared.ConditionHead.{ConditionHead}
use Rattle.policy_model.specs.declared.ConditionHead.TheVariants.{Always, Never, Has, Not, All, Any, BadKind, BadField}
use Rattle.policy_model.specs.Heads.{condition_head, condition_node}
use Rattle.policy_model.specs.HeadLaws.{has_word}
use Rattle.decisive.specs.declared.Named.{Named}
use Rattle.decisive.specs.Naming.{eval_of, Tells, Decisive, DecisiveArms, Says, NamesFact}
use Rattle.condition.proofs.Evaluating.{no_words, below_head}
use Rattle.decisive.proofs.Positions.{no_levels, by_head, Some, some_arms}

eval_has_lem : (f : ℕ) (p : Presence) → eval_has f p ≡ eval_of (is_present p) (f ∷ [])
eval_has_lem f absent = refl
eval_has_lem f present = refl
eval_has_lem f unknown = refl
eval_has_lem f silent = refl

flip_of : (b : Bool) (fs : List ℕ) → flip (eval_of b fs) ≡ eval_of (not b) fs
flip_of true fs = refl
flip_of false fs = refl

first_set : (out : List ℕ) (f : ℕ) → 0 < length out → take 1 (set out 0 f) ≡ f ∷ []
first_set [] f h = absurd (omega arith)
first_set (g ∷ out) f h = refl

-- The fact that a Has names, whatever is read there.
has_named : (T : Table) (at f : ℕ) (p : Parsed Condition) (before after : List ℕ) (r : Named) → f < fact_count → 0 < length before → NamesFact T f (at + 1) before after r →
    (take r.count after ≡ f ∷ [] → Holds (λ c _. Tells (eval_condition T c) (at + words_c c) after r) p) → Decisive T at p after r
has_named T at f p before after r h l s n =
    let one : take r.count after ≡ f ∷ [] = rw (s.says.count_is, s.stands) (first_set before f l) in
    let long : length after ≡ length before = rw (s.stands, length-set) in
    record { names = n one; within = omega (arith, s.says.count_is); few = omega (arith, s.says.next_is, s.says.count_is); below = rw one (h, tt) }

all_value_lem : (T : Table) (cs : Conditions) → Some cs → eval_condition T (all_c cs) ≡ eval_condition_all T cs
all_value_lem T cnil h = absurd h
all_value_lem T (ccons c cs) h = refl

module _ (T : Table) (words : List ℕ) (at depth : ℕ) (out : List ℕ) (r : Named) where
  abbrev Named-there : Type 0
  Named-there = Decisive T at (read_condition depth (drop at words)) out r

  abbrev Told : Condition → List ℕ → Type 0
  Told c rest = Tells (eval_condition T c) (at + words_c c) out r

  -- ---- nothing is named
  nothing_named : (b : Bool) (end : ℕ) → Says b end 0 r → at ≤ end → Holds Told (read_condition depth (drop at words)) → Named-there
  nothing_named b end s h n = record { names = n; within = omega (arith, s.count_is); few = omega (arith, s.next_is, s.count_is); below = rw s.count_is tt }

  pub decides_end : (b : Bool) → length words ≤ at → Says b at 0 r → Named-there
  decides_end b h s = nothing_named b at s (omega arith) (no_words words at depth h)

  pub decides_limit : (b : Bool) → depth ≡ 0 → Says b at 0 r → Named-there
  decides_limit b z s = nothing_named b at s (omega arith) (no_levels depth (drop at words) z)

  -- ---- by the head of the first word
  module _ (there : at < length words) (deep : depth ≡ 0 → ⊥) where
    abbrev Says-head : ConditionHead → Type 0
    Says-head h = h ≡ condition_head (get_or words at 0)

    pub decides_bad_kind : (b : Bool) → Says-head BadKind → Says b at 0 r → Named-there
    unfolding condition_node
    decides_bad_kind b e s = nothing_named b at s (omega arith) (by_head words at depth BadKind there deep e nothing)

    pub decides_bad_field : (b : Bool) → Says-head BadField → Says b at 0 r → Named-there
    unfolding condition_node
    decides_bad_field b e s = nothing_named b at s (omega arith) (by_head words at depth BadField there deep e nothing)

    -- A condition of one word that names nothing.
    told_nothing : (c : Condition) (b : Bool) → eval_condition T c ≡ eval_of b [] → words_c c ≡ 1 → Says b (at + 1) 0 r → Tells (eval_condition T c) (at + words_c c) out r
    told_nothing c b v e s = record { value_is = v ∙ rw (s.satisfied_is, s.count_is); next_is = omega (arith, s.next_is) }

    pub decides_always : Says-head Always → Says true (at + 1) 0 r → Named-there
    unfolding condition_node
    decides_always e s = nothing_named true (at + 1) s (omega arith) (by_head words at depth Always there deep e (fine (told_nothing always true refl refl s)))

    pub decides_never : Says-head Never → Says false (at + 1) 0 r → Named-there
    unfolding condition_node
    decides_never e s = nothing_named false (at + 1) s (omega arith) (by_head words at depth Never there deep e (fine (told_nothing never false refl refl s)))

    -- Empty All is false.
    pub decides_none : (n : ℕ) → Says-head (All n) → n ≡ 0 → Says false (at + 1) 0 r → Named-there
    unfolding condition_node
    decides_none n e z s = nothing_named false (at + 1) s (omega arith) (by_head words at depth (All n) there deep e (rw z (fine (told_nothing (all_c cnil) false refl refl s))))

    pub decides_has : (f : ℕ) (before : List ℕ) → Says-head (Has f) → 0 < length before → NamesFact T f (at + 1) before out r → Named-there
    unfolding condition_node
    decides_has f before e l s =
        has_named T at f (read_condition depth (drop at words)) before out r (below_head (Has f) (get_or words at 0) e) l s
        (λ one. by_head words at depth (Has f) there deep e (fine (record { value_is = eval_has_lem f (T f) ∙ rw (s.says.satisfied_is, one); next_is = s.says.next_is })))

    pub decides_not : (a : Named) → Says-head Not → Says (not a.satisfied) a.next a.count r → Decisive T (at + 1) (read_condition (depth - 1) (drop (at + 1) words)) out a → Named-there
    unfolding condition_node
    decides_not a e s i = record {
      names = by_head words at depth Not there deep e
          (then_holds (read_condition (depth - 1) (drop (at + 1) words)) (λ c vs. got (not_c c) vs) i.names (λ c vs t. fine (record {
            value_is = ap flip t.value_is ∙ flip_of a.satisfied (take a.count out) ∙ rw (s.satisfied_is, s.count_is);
            next_is = omega (arith, s.next_is, t.next_is);
          })));
      within = omega (arith, s.count_is, i.within);
      few = omega (arith, s.next_is, s.count_is, i.few);
      below = rw s.count_is i.below;
    }

    -- A list decides its node.
    pub decides_any : (n : ℕ) → Says-head (Any n) → DecisiveArms T true (at + 1) (many cnil ccons (read_condition (depth - 1)) n (drop (at + 1) words)) out r → Named-there
    unfolding condition_node
    decides_any n e i =
        let arms = many cnil ccons (read_condition (depth - 1)) n (drop (at + 1) words) in
        record {
          names = by_head words at depth (Any n) there deep e
              (then_holds arms (λ cs vs. got (any_c cs) vs) i.names (λ cs vs t. fine (record { value_is = t.value_is; next_is = omega (arith, t.next_is) })));
          within = i.within;
          few = omega (arith, i.few);
          below = i.below;
        }

    pub decides_all : (n : ℕ) → Says-head (All n) → (n ≡ 0 → ⊥) → DecisiveArms T false (at + 1) (many cnil ccons (read_condition (depth - 1)) n (drop (at + 1) words)) out r → Named-there
    unfolding condition_node
    decides_all n e f i =
        let arms = many cnil ccons (read_condition (depth - 1)) n (drop (at + 1) words) in
        record {
          names = by_head words at depth (All n) there deep e
              (then_holds arms (λ cs vs. got (all_c cs) vs) (both_hold arms (some_arms (read_condition (depth - 1)) n (drop (at + 1) words) f) i.names) (λ cs vs t.
              fine (record { value_is = all_value_lem T cs t.0 ∙ t.1.value_is; next_is = omega (arith, t.1.next_is) })));
          within = i.within;
          few = omega (arith, i.few);
          below = i.below;
        }

-- Such an arm, at any level: below the last one nothing is read.
pub decides_arm : (T : Table) (words : List ℕ) (at depth : ℕ) (before after : List ℕ) (r : Named) → at < length words → get_or words at 0 / 1024 ≡ 524288 → 0 < length before →
    NamesFact T (get_or words at 0 % 1024) (at + 1) before after r → Decisive T at (read_condition depth (drop at words)) after r
decides_arm T words at zero before after r h e l s =
    has_named T at (get_or words at 0 % 1024) (read_condition zero (drop at words)) before after r (omega arith) l s (λ _. no_levels zero (drop at words) refl)
decides_arm T words at (suc depth) before after r h e l s =
    decides_has T words at (suc depth) after r h (λ z. omega arith) (get_or words at 0 % 1024) before (has_word (get_or words at 0) e) l s
