-- From what was read, expected and given to whether they agree. Assumes nothing.
use mathlib.Core.Path.{◌≡◌, sym, ◌∙◌, ap, ap₂, subst}
use mathlib.Core.Bool.{Bool, true, false, ◌&&◌}
use mathlib.Core.List.{List, ◌++◌}
use Prim.Native.Nat.{ℕ, ◌<◌, ◌≤◌}
use borrow.Author.Tests.{le-leb, lt-leb}
use lib.ListN.{take, drop}
use Rattle.listing.specs.Inputs.{words_in}
use Rattle.vectors.specs.declared.Call.{Call}
use Rattle.vectors.specs.declared.Reply.{Reply}
use Rattle.vectors.specs.Words.{same_words, marks}
use Rattle.vectors.specs.Replies.{Replied, reply_to}
use Rattle.vectors.specs.Stored.{number_bytes, number_in, words_at, answer_at, expected_in, replies_in, Ran, told_in, answers_in, agrees_in}

module _ (call : Call) (bs : List ℕ) where
  -- The call was given what is stored.
  pub replied_in : (sheet : ℕ) (words table before after : List ℕ) (r : Reply) →
      sheet ≡ number_in bs 7 → words ≡ words_in bs (words_at bs) (number_in bs 3) → table ≡ take (number_in bs 2) (drop number_bytes bs) → before ≡ marks (number_in bs 1) →
      Replied (reply_to call sheet words table before) after r → Replied (replies_in call bs) after r
  replied_in sheet words table before after r n w t b s = subst (λ m. Replied m after r) (λ i. reply_to call (n i) (w i) (t i) (b i)) s

  -- The output that is expected.
  pub expected_same : (at n m : ℕ) (out : List ℕ) → at ≡ answer_at bs → n ≡ number_in bs 6 → m ≡ number_in bs 1 →
      out ≡ words_in bs at n ++ drop n (marks m) → out ≡ expected_in bs
  expected_same at n m out a k r e =
      e
      ∙ ap (λ x. words_in bs x n ++ drop n (marks m)) a
      ∙ ap (λ x. words_in bs (answer_at bs) x ++ drop x (marks m)) k
      ∙ ap (λ x. words_in bs (answer_at bs) (number_in bs 6) ++ drop (number_in bs 6) (marks x)) r

  module _ (expected out : List ℕ) (r : Reply) (s : Ran call bs expected out r) where
    told_same : told_in bs r.number r.value ≡ told_in bs (replies_in call bs).number (replies_in call bs).value
    told_same = ap₂ (told_in bs) s.given.number_is s.given.value_is

    pub answers_yes : told_in bs r.number r.value ≡ true → same_words out expected ≡ answers_in call bs
    unfolding answers_in
    answers_yes told =
        ap₂ same_words s.given.output_is s.expected_is
        ∙ sym (ap (λ b. b && same_words (replies_in call bs).output (expected_in bs)) (sym told_same ∙ told))

    pub answers_no : told_in bs r.number r.value ≡ false → false ≡ answers_in call bs
    unfolding answers_in
    answers_no told = sym (ap (λ b. b && same_words (replies_in call bs).output (expected_in bs)) (sym told_same ∙ told))

  pub agrees_fits : (b : Bool) → number_in bs 6 ≤ number_in bs 1 → b ≡ answers_in call bs → b ≡ agrees_in call bs
  unfolding agrees_in
  agrees_fits b h e = e ∙ sym (ap (λ l. l && answers_in call bs) (le-leb _ _ h))

  pub agrees_long : number_in bs 1 < number_in bs 6 → false ≡ agrees_in call bs
  unfolding agrees_in
  agrees_long h = sym (ap (λ l. l && answers_in call bs) (lt-leb _ _ h))
