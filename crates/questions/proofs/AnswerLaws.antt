-- What an answer stands for is what the model tells.
use Rattle.std.specs.Prelude.{◌≡◌, refl, Bool, Result, List, ℕ, zero, suc}
use Rattle.std.proofs.Common.{◌∙◌, ap}
use Rattle.model.specs.Record.{tree}
use Rattle.model.specs.Reading.{Parsed, refuse, got}
use Rattle.model.specs.Required.{asked_of, permit_on_top, deny_on_top, obliges}
use Rattle.model.specs.Products.{read_record, is_permit_constant, is_deny_constant, carries_obligation}
use Rattle.questions.specs.Answers.{asked, told_of}

asked_of_lem : {A : Type 0} (q : Parsed A) (ask : A → Bool) → asked (told_of (asked_of q ask)) ≡ asked_of q ask
asked_of_lem (refuse zero) ask = refl
asked_of_lem (refuse (suc n)) ask = refl
asked_of_lem (got a ws) ask = refl

module _ (rec : List ℕ) {t : Result Bool ℕ} where
  pub permit_asked : t ≡ told_of (is_permit_constant rec) → asked t ≡ is_permit_constant rec
  permit_asked e = ap asked e ∙ asked_of_lem (read_record rec) (λ r. permit_on_top (tree r))

  pub deny_asked : t ≡ told_of (is_deny_constant rec) → asked t ≡ is_deny_constant rec
  deny_asked e = ap asked e ∙ asked_of_lem (read_record rec) (λ r. deny_on_top (tree r))

  pub obligation_asked : t ≡ told_of (carries_obligation rec) → asked t ≡ carries_obligation rec
  obligation_asked e = ap asked e ∙ asked_of_lem (read_record rec) (λ r. obliges (tree r))
