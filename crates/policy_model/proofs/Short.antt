-- A condition that a count of the nodes passes is read. Assumes nothing.
use Rattle.std.specs.Prelude.{Result, Ok, Option, Some, None, not}
use mathlib.Core.Path.{◌≡◌, refl, sym, ◌∙◌, ap}
use mathlib.Core.Bool.{Bool, true, false, cond}
use mathlib.Core.List.{List, [], ◌∷◌}
use Prim.Native.Nat.{ℕ, zero, suc, ◌+◌, ◌-◌, ◌*◌, ◌%◌, ◌≤◌, ◌<◌}
use native.Mathlib.Omega.{arith}
use mir.Val.{bool_byte}
use native.Mathlib.Numerals.{sub-one}
use borrow.Author.Tests.{ltb-true, ltb-false, lt-ltb}
use lib.Dec.{eqb, ltb, eqb-suc-zero}
use lib.ListN.{length, drop, get_or}
use Rattle.model.specs.Condition.{Condition, cnil, ccons}
use Rattle.model.specs.Reading.{Parsed, many, kind_of, rest_of, read_condition}
use Rattle.laws.specs.Size.{words_c, words_cs}
use Rattle.policy_model.specs.declared.ConditionHead.TheVariants.{BadKind}
use Rattle.policy_model.specs.Answers.{checked, and_then}
use Rattle.policy_model.specs.Heads.{condition_heads, condition_head, condition_node}
use Rattle.policy_model.specs.Span.{arms_by, arms_of}
use Rattle.policy_model.specs.Short.{condition_limits, is_condition, levels_after, counted}
use Rattle.policy_model.proofs.Checking.{word_at, no_word}
use Rattle.policy_model.proofs.Conditions.{Asked, AskedAll, by_head, after_not, after_all, after_any, condition_lists}

no_some : {o : Option ℕ} {n : ℕ} → o ≡ None → o ≡ Some n → ⊥
no_some e f = let z : ◌≡◌ {A = Option ℕ} None (Some _) = sym e ∙ f in absurd cc

some_is : {m n : ℕ} → ◌≡◌ {A = Option ℕ} (Some m) (Some n) → m ≡ n
some_is e = cc

suc_not_zero : {n : ℕ} → suc n ≡ 0 → ⊥
suc_not_zero e = absurd (omega arith)

-- ---- a node
-- A good node is checked by its arms.
module _ (p : List ℕ → Parsed Condition) (at : ℕ) (us : List ℕ) where
  abbrev ArmsAre : ℕ → ℕ → Type 0
  ArmsAre k r = checked words_cs (at + 1) (many cnil ccons p (get_or (arms_by (r % 4096)) k 0) us) ≡ checked words_c at (condition_node p (get_or (condition_heads r) k BadKind) us)

  by_limit : (k r : ℕ) → r < get_or condition_limits k 0 → ArmsAre k r
  unfolding checked condition_node
  by_limit zero r h = let z : r ≡ 0 = omega arith in rw z (ap Ok (omega arith))
  by_limit (suc zero) r h = let z : r ≡ 0 = omega arith in rw z (ap Ok (omega arith))
  by_limit (suc (suc zero)) r h = rw (lt-ltb r 1024 h) (ap Ok (omega arith))
  by_limit (suc (suc (suc zero))) r h = let z : r ≡ 0 = omega arith in rw z (after_not p at us)
  by_limit (suc (suc (suc (suc zero)))) r h = let few : r % 4096 ≡ r = omega arith in rw (few, lt-ltb r 4096 h) (after_all p at us r)
  by_limit (suc (suc (suc (suc (suc zero))))) r h = let few : r % 4096 ≡ r = omega arith in rw (few, lt-ltb r 4096 h) (after_any p at us r)
  by_limit (suc (suc (suc (suc (suc (suc k)))))) r h = absurd (omega arith)

  good_node : (w : ℕ) → is_condition w ≡ true → checked words_cs (at + 1) (many cnil ccons p (arms_of w) us) ≡ checked words_c at (condition_node p (condition_head w) us)
  unfolding is_condition arms_of condition_head
  good_node w e =
      let same : w % 4096 ≡ rest_of w % 4096 = omega arith in
      rw same (by_limit (kind_of w) (rest_of w) (ltb-true (rest_of w) (get_or condition_limits (kind_of w) 0) e))

-- ---- the count
pub nothing_due : (ws : List ℕ) (at levels : ℕ) → counted ws at 0 levels ≡ Some at
unfolding counted
nothing_due [] at levels = refl
nothing_due (w ∷ ws) at levels = refl

-- The levels after a node, as the program takes them.
abbrev pub taken : ℕ → ℕ
taken arms = bool_byte (not (eqb arms 0))

one_less : (levels arms : ℕ) → levels - taken arms ≡ levels_after levels arms
one_less levels zero = omega arith
one_less levels (suc arms) = rw (eqb-suc-zero arms)

-- Few are due: a node with arms opens fewer than 2 ^ 32, and takes a level.
few_after : (due levels arms : ℕ) → 0 < due → (levels ≡ 0 → ⊥) → arms < 4294967296 → due + 4294967296 * levels ≤ 141733920768 → due - 1 + arms + 4294967296 * levels_after levels arms ≤ 141733920768
few_after due levels zero f g h e = omega arith
few_after due levels (suc arms) f g h e = omega arith

pub few_on : (due levels arms less : ℕ) → less ≡ taken arms → 0 < due → (levels ≡ 0 → ⊥) → arms < 4294967296 → due + 4294967296 * levels ≤ 141733920768 → due - 1 + arms + 4294967296 * (levels - less) ≤ 141733920768
few_on due levels arms less t f g h e = rw (t, one_less levels arms) (few_after due levels arms f g h e)

module _ (words : List ℕ) where
  -- A node that is due.
  abbrev word : ℕ → ℕ
  word at = get_or words at 0

  abbrev after_word : ℕ → ℕ → ℕ → Option ℕ
  after_word at due levels = counted (drop (at + 1) words) (at + 1) (due + arms_of (word at)) (levels_after levels (arms_of (word at)))

  counted_word : (at due levels : ℕ) → at < length words → counted (drop at words) at (suc due) (suc levels) ≡ cond (is_condition (word at)) (after_word at due (suc levels)) None
  unfolding counted
  counted_word at due levels h = ap (λ ws. counted ws at (suc due) (suc levels)) (word_at words at h)

  counts_after : (at due levels : ℕ) → at < length words → (levels ≡ 0 → ⊥) → 0 < due → is_condition (word at) ≡ true → after_word at (due - 1) levels ≡ counted (drop at words) at due levels
  counts_after at zero levels h f g good = absurd (omega arith)
  counts_after at (suc due) zero h f g good = absurd (f refl)
  counts_after at (suc due) (suc levels) h f g good = rw sub-one (sym (counted_word at due levels h ∙ ap (λ b. cond b (after_word at due (suc levels)) None) good))

  pub counts_on : (at due levels arms less : ℕ) → at < length words → (levels ≡ 0 → ⊥) → 0 < due → is_condition (word at) ≡ true → arms ≡ arms_of (word at) → less ≡ taken arms →
      counted (drop (at + 1) words) (at + 1) (due - 1 + arms) (levels - less) ≡ counted (drop at words) at due levels
  counts_on at due levels arms less h f g good e t = rw (t, one_less levels arms, e) (counts_after at due levels h f g good)

  record Seen (at due levels end : ℕ) : Type 0 where
    inside : at < length words
    some_level : 0 < levels
    good : is_condition (word at) ≡ true
    others : after_word at due levels ≡ Some end

  seen_by : (at due levels end : ℕ) → at < length words → (b : Bool) → is_condition (word at) ≡ b → cond b (after_word at due (suc levels)) None ≡ Some end → Seen at due (suc levels) end
  seen_by at due levels end h true g e = record { inside = h; some_level = omega arith; good = g; others = e }
  seen_by at due levels end h false g e = cc

  counted_none : (at due levels : ℕ) → length words ≤ at → counted (drop at words) at (suc due) levels ≡ None
  unfolding counted
  counted_none at due levels h = ap (λ ws. counted ws at (suc due) levels) (no_word words at h)

  no_level : (at due : ℕ) → at < length words → counted (drop at words) at (suc due) 0 ≡ None
  unfolding counted
  no_level at due h = ap (λ ws. counted ws at (suc due) 0) (word_at words at h)

  seen_at : (at due levels end : ℕ) → (b : Bool) → ltb at (length words) ≡ b → counted (drop at words) at (suc due) levels ≡ Some end → Seen at due levels end
  seen_at at due zero end true h e = let no : counted (drop at words) at (suc due) 0 ≡ None = no_level at due (ltb-true at (length words) h) in absurd (no_some no e)
  seen_at at due (suc levels) end true h e =
      let inside : at < length words = ltb-true at (length words) h in
      seen_by at due levels end inside (is_condition (word at)) refl (sym (counted_word at due levels inside) ∙ e)
  seen_at at due levels end false h e = absurd (no_some (counted_none at due levels (ltb-false at (length words) h)) e)

  seen : (at due levels end : ℕ) → counted (drop at words) at (suc due) levels ≡ Some end → Seen at due levels end
  seen at due levels end e = seen_at at due levels end (ltb at (length words)) refl e

  -- ---- what is counted is read
  -- What was asked for ends at `after`, and the others that are due are counted from there.
  record Passed (asked : Result ℕ ℕ) (due levels end : ℕ) : Type 0 where
    after : ℕ
    left : ℕ
    fewer : left ≤ levels
    ends : Ok after ≡ asked
    others : counted (drop after words) after due left ≡ Some end

  -- A good node is read by its arms.
  by_its_arms : (at d : ℕ) → at < length words → is_condition (word at) ≡ true → AskedAll words d (at + 1) (arms_of (word at)) ≡ Asked words at (suc d)
  by_its_arms at d h good =
      good_node (read_condition d) at (drop (at + 1) words) (word at) good
      ∙ rw sub-one at (by_head words at (suc d) (condition_head (word at)) h (λ e. suc_not_zero e) refl)

  abbrev One : ℕ → Type 0
  One d = (at due levels end : ℕ) → levels ≤ d → counted (drop at words) at (suc due) levels ≡ Some end → Passed (Asked words at d) due levels end

  -- One more, and then the others.
  and_others : (d n at due levels end : ℕ) (first : Passed (Asked words at d) (n + due) levels end) → Passed (AskedAll words d first.after n) due first.left end → Passed (AskedAll words d at (suc n)) due levels end
  and_others d n at due levels end first rest =
      record {
        after = rest.after;
        left = rest.left;
        fewer = omega (arith, first.fewer, rest.fewer);
        ends = rest.ends ∙ ap (λ r. and_then r (λ after. AskedAll words d after n)) first.ends ∙ rw sub-one at ((condition_lists words).first d (suc n) at (λ e. suc_not_zero e));
        others = rest.others;
      }

  all_passed : (d : ℕ) → One d → (n at due levels end : ℕ) → levels ≤ d → counted (drop at words) at (n + due) levels ≡ Some end → Passed (AskedAll words d at n) due levels end
  all_passed d one zero at due levels end h e =
      record { after = at; left = levels; fewer = omega arith; ends = (condition_lists words).none d 0 at refl; others = ap (λ k. counted (drop at words) at k levels) (omega arith) ∙ e }
  all_passed d one (suc n) at due levels end h e =
      let first : Passed (Asked words at d) (n + due) levels end = one at (n + due) levels end h (ap (λ k. counted (drop at words) at k levels) (omega arith) ∙ e) in
      and_others d n at due levels end first (all_passed d one n first.after due first.left end (omega (arith, first.fewer)) first.others)

  -- A node without arms is passed; the arms of another have a level less.
  by_node : (d at due levels end n : ℕ) → One d → levels ≤ suc d → Seen at due levels end → arms_of (word at) ≡ n → Passed (Asked words at (suc d)) due levels end
  by_node d at due levels end zero one h s e =
      record {
        after = at + 1;
        left = levels;
        fewer = omega arith;
        ends = (condition_lists words).none d 0 (at + 1) refl ∙ rw e at (by_its_arms at d s.inside s.good);
        others = ap (λ k. counted (drop (at + 1) words) (at + 1) k levels) (omega arith) ∙ rw e at s.others;
      }
  by_node d at due levels end (suc n) one h s e =
      let arms : Passed (AskedAll words d (at + 1) (suc n)) due (levels - 1) end =
      all_passed d one (suc n) (at + 1) due (levels - 1) end (omega arith) (ap (λ k. counted (drop (at + 1) words) (at + 1) k (levels - 1)) (omega arith) ∙ rw e at s.others) in
      record {
        after = arms.after;
        left = arms.left;
        fewer = omega (arith, arms.fewer);
        ends = arms.ends ∙ rw e at (by_its_arms at d s.inside s.good);
        others = arms.others;
      }

  one_passed : (d : ℕ) → One d
  one_passed zero at due levels end h e = absurd (omega (arith, (seen at due levels end e).some_level))
  one_passed (suc d) at due levels end h e = by_node d at due levels end (arms_of (word at)) (one_passed d) h (seen at due levels end e) refl

  -- One condition.
  pub counted_reads : (at depth end : ℕ) → Some end ≡ counted (drop at words) at 1 depth → Ok end ≡ Asked words at depth
  counted_reads at depth end e =
      let p : Passed (Asked words at depth) 0 depth end = one_passed depth at 0 depth end (omega arith) (sym e) in
      let ends : p.after ≡ end = some_is (sym (nothing_due (drop p.after words) p.after p.left) ∙ p.others) in
      ap Ok (sym ends) ∙ p.ends
