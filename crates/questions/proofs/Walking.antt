-- Words as a flat list of nodes: whether one of them has obligations, from one node to the next. Assumes nothing.
use mathlib.Core.Path.{◌≡◌, refl, sym, ◌∙◌, ap}
use mathlib.Core.Bool.{true, false, ◌||◌}
use mathlib.Core.List.{List, [], ◌∷◌}
use Prim.Native.Nat.{ℕ, zero, suc, ◌+◌, ◌≤◌, ◌<◌}
use lib.ListN.{length, drop, get_or}
use lib.Seq.{drop-drop}
use Rattle.policy_model.specs.Span.{own_of}
use Rattle.policy_model.proofs.Checking.{word_at, no_word}
use Rattle.questions.specs.Nodes.{obligation_at, words_oblige}

pub oblige_pass : (ws : List ℕ) (n : ℕ) → words_oblige ws n ≡ words_oblige (drop n ws) 0
unfolding words_oblige
oblige_pass [] zero = refl
oblige_pass [] (suc n) = refl
oblige_pass (w ∷ ws) zero = refl
oblige_pass (w ∷ ws) (suc n) = oblige_pass ws n

pub oblige_first : (w : ℕ) (ws : List ℕ) → words_oblige (w ∷ ws) 0 ≡ (obligation_at w || words_oblige ws (own_of w ws))
unfolding words_oblige
oblige_first w ws = refl

module _ (ws : List ℕ) (at : ℕ) where
  -- Past the last word there is none.
  pub none_after : length ws ≤ at → words_oblige (drop at ws) 0 ≡ false
  unfolding words_oblige
  none_after h = ap (λ us. words_oblige us 0) (no_word ws at h)

  module _ (lt : at < length ws) where
    first : words_oblige (drop at ws) 0 ≡ (obligation_at (get_or ws at 0) || words_oblige (drop (at + 1) ws) (own_of (get_or ws at 0) (drop (at + 1) ws)))
    first = ap (λ l. words_oblige l 0) (word_at ws at lt) ∙ oblige_first (get_or ws at 0) (drop (at + 1) ws)

    pub has_one : obligation_at (get_or ws at 0) ≡ true → words_oblige (drop at ws) 0 ≡ true
    has_one e = first ∙ ap (λ b. b || words_oblige (drop (at + 1) ws) (own_of (get_or ws at 0) (drop (at + 1) ws))) e

    pub goes_on : (own : ℕ) → own ≡ own_of (get_or ws at 0) (drop (at + 1) ws) → obligation_at (get_or ws at 0) ≡ false → words_oblige (drop at ws) 0 ≡ words_oblige (drop (at + 1 + own) ws) 0
    goes_on own f e =
        first
        ∙ ap (λ b. b || words_oblige (drop (at + 1) ws) (own_of (get_or ws at 0) (drop (at + 1) ws))) e
        ∙ ap (words_oblige (drop (at + 1) ws)) (sym f)
        ∙ oblige_pass (drop (at + 1) ws) own
        ∙ ap (λ l. words_oblige l 0) (drop-drop own (at + 1) ws)
