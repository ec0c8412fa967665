-- The facts of a condition, from its own and those of its arms. Assumes nothing.
use mathlib.Core.Path.{◌≡◌, refl, sym, ◌∙◌, ap, subst}
use mathlib.Core.Bool.{Bool, true, false, cond, or-false}
use mathlib.Core.List.{List, [], ◌∷◌}
use Prim.Native.Nat.{ℕ, zero, suc, ◌+◌, ◌-◌, ◌/◌, ◌%◌, ◌≤◌, ◌<◌}
use native.Mathlib.Numerals.{add-one}
use native.Mathlib.Omega.{arith}
use borrow.Author.Tests.{ltb-true}
use lib.Dec.{eqb, ltb}
use lib.ListN.{length, drop, get_or, drop_of_length-le}
use lib.Seq.{drop-cons}
use Rattle.model.specs.Condition.{Condition, not_c, all_c, any_c, Conditions, cnil, ccons, names_c, names_cs}
use Rattle.model.specs.Reading.{Parsed, refuse, got, next, many, kind_of, read_condition}
use Rattle.laws.specs.Size.{words_c, words_cs}
use Rattle.policy_model.specs.declared.ConditionHead.{ConditionHead}
use Rattle.policy_model.specs.declared.ConditionHead.TheVariants.{Always, Never, Has, Not}
use Rattle.policy_model.specs.declared.ConditionHead.TheVariants as condition
use Rattle.policy_model.specs.Heads.{condition_heads, condition_head, condition_node}
use Rattle.policy_model.specs.HeadLaws.{condition_node_lem, has_word}
use Rattle.policy_model.specs.Span.{arms_by, arms_of}
use Rattle.policy_model.proofs.Conditions.{condition_leaves}
use Rattle.fact_set.specs.Sets.{Grown}
use Rattle.required.specs.Sets.{Walked, Collected}
use Rattle.required.specs.Arms.{OnwardC}
use Rattle.required.proofs.Arms.{grown_none, grown_as, walked_then, walked_as, refused_either, onward_more, onward_end}

-- The loop over its arms.
module _ (d : ℕ) (sheet : List ℕ) where
  pub onward_all_c : (from count : ℕ) (s : List ℕ) → OnwardC d sheet from count s from (count - 0) s
  onward_all_c from count s = let e : count ≡ count - 0 = omega arith in subst (λ k. OnwardC d sheet from count s from k s) e (record { onward = λ u end w. w })

  pub onward_more_c : (from count : ℕ) (s : List ℕ) (at turn : ℕ) (t u : List ℕ) (mid : ℕ) → turn < count → Collected words_c names_c at t u (read_condition d (drop at sheet)) mid →
      OnwardC d sheet from count s at (count - turn) t → OnwardC d sheet from count s mid (count - (turn + 1)) u
  onward_more_c from count s at turn t u mid lt v o =
      let e : count - turn - 1 ≡ count - (turn + 1) = omega arith in
      subst (λ k. OnwardC d sheet from count s mid k u) e
      (onward_more cnil ccons words_c words_cs names_c names_cs refl (λ a b. refl) (λ f. refl) (λ f a b. refl) (λ vs. read_condition d vs) (condition_leaves d) sheet from count s at (count - turn) t u mid (λ z. let n : ⊥ = omega arith in n) v o)

  onward_end_c : (from count : ℕ) (s : List ℕ) (at left : ℕ) (t : List ℕ) → left ≡ 0 → OnwardC d sheet from count s at left t →
      Collected words_cs names_cs from s t (many cnil ccons (λ vs. read_condition d vs) count (drop from sheet)) at
  onward_end_c = onward_end cnil ccons words_c words_cs names_c names_cs refl (λ a b. refl) (λ f. refl) (λ f a b. refl) (λ vs. read_condition d vs) (condition_leaves d) sheet

-- The fact of a Has.
unfoldable own_fact : ConditionHead → ℕ → Bool
own_fact Always f = false
own_fact Never f = false
own_fact (Has g) f = eqb f g
own_fact Not f = false
own_fact (condition.All n) f = false
own_fact (condition.Any n) f = false
own_fact condition.BadKind f = false
own_fact condition.BadField f = false

-- The arms of a condition. Of a word that is none, nothing is said.
unfoldable ConditionArms : ConditionHead → ℕ → Type 0
ConditionArms Always k = k ≡ 0
ConditionArms Never k = k ≡ 0
ConditionArms (Has g) k = k ≡ 0
ConditionArms Not k = k ≡ 1
ConditionArms (condition.All n) k = k ≡ n
ConditionArms (condition.Any n) k = k ≡ n
ConditionArms condition.BadKind k = Unit {0}
ConditionArms condition.BadField k = Unit {0}

-- They are those that its word opens.
arms_if : (b : Bool) (h : ConditionHead) (k : ℕ) → (b ≡ true → ConditionArms h k) → ConditionArms (cond b h condition.BadField) k
unfolding ConditionArms
arms_if true h k a = a refl
arms_if false h k a = tt

arms_at_lem : (k r n : ℕ) → (r < 4096 → n ≡ r) → ConditionArms (get_or (condition_heads r) k condition.BadKind) (get_or (arms_by n) k 0)
unfolding ConditionArms
arms_at_lem zero r n f = arms_if (eqb r 0) Always 0 (λ _. refl)
arms_at_lem (suc zero) r n f = arms_if (eqb r 0) Never 0 (λ _. refl)
arms_at_lem (suc (suc zero)) r n f = arms_if (ltb r 1024) (Has r) 0 (λ _. refl)
arms_at_lem (suc (suc (suc zero))) r n f = arms_if (eqb r 0) Not 1 (λ _. refl)
arms_at_lem (suc (suc (suc (suc zero)))) r n f = arms_if (ltb r 4096) (condition.All r) n (λ b. f (ltb-true r 4096 b))
arms_at_lem (suc (suc (suc (suc (suc zero))))) r n f = arms_if (ltb r 4096) (condition.Any r) n (λ b. f (ltb-true r 4096 b))
arms_at_lem (suc (suc (suc (suc (suc (suc k)))))) r n f = tt

arms_opened : (w : ℕ) → ConditionArms (condition_head w) (arms_of w)
unfolding condition_head arms_of
arms_opened w = arms_at_lem (w / 268435456) (w % 268435456) (w % 4096) (λ h. omega arith)

-- A condition by its head: its first word, its own fact, and its arms.
module _ (p : List ℕ → Parsed Condition) (ws : List ℕ) (at end : ℕ) (s t u : List ℕ) where
  first_word : (h : ConditionHead) → Grown (own_fact h) s t → Walked at 1 (at + 1) (own_fact h) s t
  first_word h g = record { ends = refl; adds = g }

  one_arm : (q : Parsed Condition) → Grown (λ f. false) s t → Collected words_cs names_cs (at + 1) t u (next q (λ c vs. got (ccons c cnil) vs)) end →
      Collected words_c names_c at s u (next q (λ c vs. got (not_c c) vs)) end
  unfolding Collected
  one_arm (refuse n) g w = tt
  one_arm (got c vs) g w = walked_as (omega arith) (λ f. or-false (names_c f c)) (walked_then (let v : Walked at 1 (at + 1) (λ f. false) s t = record { ends = refl; adds = g } in v) w)

  -- All or Any
  list_arms : (node : Conditions → Condition) → ((cs : Conditions) → 1 + words_cs cs ≡ words_c (node cs)) → ((f : ℕ) (cs : Conditions) → names_cs f cs ≡ names_c f (node cs)) →
      (q : Parsed Conditions) → Grown (λ f. false) s t → Collected words_cs names_cs (at + 1) t u q end → Collected words_c names_c at s u (next q (λ cs vs. got (node cs) vs)) end
  unfolding Collected
  list_arms node size named (refuse n) g w = tt
  list_arms node size named (got cs vs) g w = walked_as (size cs) (λ f. named f cs) (walked_then (let v : Walked at 1 (at + 1) (λ f. false) s t = record { ends = refl; adds = g } in v) w)

  -- No arm, or as many as the list says.
  no_arms : (k : ℕ) → k ≡ 0 → Collected words_cs names_cs (at + 1) t u (many cnil ccons p k ws) end → Walked (at + 1) 0 end (λ f. false) t u
  unfolding Collected
  no_arms zero e w = w
  no_arms (suc k) e w = let z : ⊥ = omega arith in absurd z

  condition_facts : (h : ConditionHead) (k : ℕ) → ConditionArms h k → Grown (own_fact h) s t → Collected words_cs names_cs (at + 1) t u (many cnil ccons p k ws) end →
      Collected words_c names_c at s u (condition_node p h ws) end
  unfolding Collected condition_node ConditionArms own_fact
  condition_facts Always k a g w = walked_as (omega arith) (λ f. refl) (walked_then (first_word Always g) (no_arms k a w))
  condition_facts Never k a g w = walked_as (omega arith) (λ f. refl) (walked_then (first_word Never g) (no_arms k a w))
  condition_facts (Has fact) k a g w = walked_as (omega arith) (λ f. or-false _) (walked_then (first_word (Has fact) g) (no_arms k a w))
  condition_facts Not k a g w = one_arm (p ws) g (subst (λ n. Collected words_cs names_cs (at + 1) t u (many cnil ccons p n ws) end) a w)
  condition_facts (condition.All n) k a g w = list_arms all_c (λ cs. refl) (λ f cs. refl) (many cnil ccons p n ws) g (subst (λ m. Collected words_cs names_cs (at + 1) t u (many cnil ccons p m ws) end) a w)
  condition_facts (condition.Any n) k a g w = list_arms any_c (λ cs. refl) (λ f cs. refl) (many cnil ccons p n ws) g (subst (λ m. Collected words_cs names_cs (at + 1) t u (many cnil ccons p m ws) end) a w)
  condition_facts condition.BadKind k a g w = tt
  condition_facts condition.BadField k a g w = tt

-- What stands at `at`: past the words nothing, and below the last level nothing that reads.
module _ (sheet : List ℕ) (at depth : ℕ) where
  pub condition_past : (s t : List ℕ) (next : ℕ) → length sheet ≤ at → Collected words_c names_c at s t (read_condition depth (drop at sheet)) next
  unfolding Collected
  condition_past s t next h = rw (drop_of_length-le sheet h) (none depth)
    where
      none : (d : ℕ) → Collected words_c names_c at s t (read_condition d []) next
      none zero = tt
      none (suc d) = tt

  pub condition_deep : (s t : List ℕ) (next : ℕ) → at < length sheet → depth ≡ 0 → Collected words_c names_c at s t (read_condition depth (drop at sheet)) next
  condition_deep s t next h e = rw (e, drop-cons sheet at 0) (refused_either words_c names_c at next s t (ltb (kind_of (get_or sheet at 0)) 6) 5 7)

  pub condition_here : at < length sheet → (depth ≡ 0 → ⊥) → read_condition depth (drop at sheet) ≡ condition_node (λ vs. read_condition (depth - 1) vs) (condition_head (get_or sheet at 0)) (drop (at + 1) sheet)
  condition_here h f = rw (add-one, drop-cons sheet at 0) (level depth f)
    where
      level : (d : ℕ) → (d ≡ 0 → ⊥) → read_condition d (get_or sheet at 0 ∷ drop (suc at) sheet) ≡ condition_node (λ vs. read_condition (d - 1) vs) (condition_head (get_or sheet at 0)) (drop (suc at) sheet)
      level zero g = absurd (g refl)
      level (suc d) g = condition_node_lem d (get_or sheet at 0) (drop (suc at) sheet) ∙ ap (λ k. condition_node (λ vs. read_condition k vs) (condition_head (get_or sheet at 0)) (drop (suc at) sheet)) (let e : d ≡ suc d - 1 = omega arith in e)

no_fact_if : (b : Bool) (h : ConditionHead) (f : ℕ) → (b ≡ true → own_fact h f ≡ false) → own_fact (cond b h condition.BadField) f ≡ false
unfolding own_fact
no_fact_if true h f e = e refl
no_fact_if false h f e = refl

no_fact_at : (k r f : ℕ) → (k ≡ 2 → r < 1024 → ⊥) → own_fact (get_or (condition_heads r) k condition.BadKind) f ≡ false
unfolding own_fact
no_fact_at zero r f h = no_fact_if (eqb r 0) Always f (λ _. refl)
no_fact_at (suc zero) r f h = no_fact_if (eqb r 0) Never f (λ _. refl)
no_fact_at (suc (suc zero)) r f h = no_fact_if (ltb r 1024) (Has r) f (λ e. absurd (h refl (ltb-true r 1024 e)))
no_fact_at (suc (suc (suc zero))) r f h = no_fact_if (eqb r 0) Not f (λ _. refl)
no_fact_at (suc (suc (suc (suc zero)))) r f h = no_fact_if (ltb r 4096) (condition.All r) f (λ _. refl)
no_fact_at (suc (suc (suc (suc (suc zero))))) r f h = no_fact_if (ltb r 4096) (condition.Any r) f (λ _. refl)
no_fact_at (suc (suc (suc (suc (suc (suc k)))))) r f h = refl

no_has : (w f : ℕ) → (w / 1024 ≡ 524288 → ⊥) → own_fact (condition_head w) f ≡ false
unfolding condition_head
no_has w f h = no_fact_at (w / 268435456) (w % 268435456) f (λ k r. h (omega arith))

module _ (sheet : List ℕ) (at depth : ℕ) (s : List ℕ) (inside : at < length sheet) (some : depth ≡ 0 → ⊥) where
  -- A Has is its word and its fact.
  pub has_walked : (t : List ℕ) → get_or sheet at 0 / 1024 ≡ 524288 → Grown (λ f. eqb f (get_or sheet at 0 % 1024)) s t → Collected words_c names_c at s t (read_condition depth (drop at sheet)) (at + 1)
  unfolding Collected condition_node
  has_walked t e g =
      let w = get_or sheet at 0 in
      let v : Walked at 1 (at + 1) (λ f. eqb f (w % 1024)) s t = record { ends = refl; adds = g } in
      rw (condition_here sheet at depth inside some, ← has_word w e) v

  -- Any other: the head, and the arms to the last.
  pub condition_walked : (end : ℕ) (u : List ℕ) (count left : ℕ) → (get_or sheet at 0 / 1024 ≡ 524288 → ⊥) → count ≡ arms_of (get_or sheet at 0) → left ≡ 0 →
      OnwardC (depth - 1) sheet (at + 1) count s end left u → Collected words_c names_c at s u (read_condition depth (drop at sheet)) end
  condition_walked end u count left other e z o =
      let p : List ℕ → Parsed Condition = λ vs. read_condition (depth - 1) vs in
      let ws = drop (at + 1) sheet in
      let h = condition_head (get_or sheet at 0) in
      let a : ConditionArms h count = subst (ConditionArms h) (sym e) (arms_opened (get_or sheet at 0)) in
      let g : Grown (own_fact h) s s = grown_as (λ f. sym (no_has (get_or sheet at 0) f other)) (grown_none s) in
      subst (λ q. Collected words_c names_c at s u q end) (sym (condition_here sheet at depth inside some)) (condition_facts p ws at end s s u h count a g (onward_end_c (depth - 1) sheet (at + 1) count s end left u z o))

-- What the walk asks.
pub ruleset condition_walks = (onward_all_c, condition_past, condition_deep, has_walked, condition_walked)
