-- What a proved call gives is the reply to its number. Assumes nothing.
use mathlib.Core.Path.{◌≡◌, refl, ◌∙◌, ap}
use mathlib.Core.Bool.{Bool}
use mathlib.Core.List.{List}
use Prim.Native.Nat.{ℕ}
use Rattle.model.specs.Required.{one_bit, Asked}
use Rattle.model.specs.Calls as model
use Rattle.std.specs.Prelude.{Result, Ok, Err, MatchResult, IsOkAnd}
use Rattle.refusal.specs.declared.Refusal.{Refusal}
use Rattle.refusal.specs.Numbers.{by_number as numbered}
use Rattle.answer.specs.Answers.{Answer, Answered, number_of, written_of}
use Rattle.answer.specs.AnswerLaws.{number_of_lem, written_of_lem}
use Rattle.questions.specs.Answers.{asked}
use Rattle.vectors.specs.declared.Reply.{Reply}
use Rattle.vectors.specs.Replies.{Replied, writing, asking}

-- A call that writes.
pub written_reply : {m : model.Answer} {before after : List ℕ} {a : Answer} {r : Reply} →
    Answered m before after a → r.number ≡ number_of (numbered a) → r.value ≡ written_of (numbered a) → Replied (writing m before) after r
written_reply {m} s n v = record { number_is = n ∙ ap number_of s.answer_is ∙ number_of_lem m; value_is = v ∙ ap written_of s.answer_is ∙ written_of_lem m; output_is = s.output_is }

-- A question, whose output stays as it was; yes as 1.
pub told_reply : {m : Asked} {out : List ℕ} {r : Reply} {P : Bool → ℕ → Type 0} (a : Result Bool Refusal) (s : Result ℕ Refusal) → asked (numbered a) ≡ m → MatchResult a (λ x. IsOkAnd s (P x)) (λ e. s ≡ Err e) →
    ((x : Bool) (y : ℕ) → P x y → y ≡ one_bit x) → r.number ≡ number_of (numbered s) → r.value ≡ written_of (numbered s) → Replied (asking m out) out r
told_reply {P = P} a s e h k n v =
    record { number_is = n ∙ (by_case a s h).0 ∙ ap (λ x. x.number) e; value_is = v ∙ (by_case a s h).1 ∙ ap (λ x. one_bit x.yes) e; output_is = refl }
  where
    by_case : (a : Result Bool Refusal) (s : Result ℕ Refusal) → MatchResult a (λ x. IsOkAnd s (P x)) (λ e. s ≡ Err e) →
        (number_of (numbered s) ≡ (asked (numbered a)).number) × (written_of (numbered s) ≡ one_bit (asked (numbered a)).yes)
    by_case (Ok x) (Ok y) h = (refl, k x y h)
    by_case (Ok x) (Err c) h = absurd h
    by_case (Err c) s h = (ap (λ t. number_of (numbered t)) h, ap (λ t. written_of (numbered t)) h)

-- A count as another number is the same count.
pub same_count : {P : ℕ → ℕ → Type 0} (a s : Result ℕ Refusal) → MatchResult a (λ x. IsOkAnd s (P x)) (λ e. s ≡ Err e) → ((x y : ℕ) → P x y → y ≡ x) → s ≡ a
same_count (Ok x) (Ok y) h k = ap Ok (k x y h)
same_count (Ok x) (Err c) h k = absurd h
same_count (Err c) s h k = h
