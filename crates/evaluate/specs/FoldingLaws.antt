-- One decision carried along the arms comes to what the model's list rules do.
use Rattle.std.specs.Prelude.{◌≡◌, refl, List, [], ◌∷◌}
use Rattle.std.proofs.Math.Option.{Option, none, some}
use Rattle.model.specs.Decision.{Permit, Denial, Decision, permits, denies}
use Rattle.model.specs.Evaluate.{first_deny}
use Rattle.model.specs.Levels.{OutcomeTable}
use Rattle.model.specs.Products.{Outcome, meet_permit, join_permit, all_from, any_from}
use Rattle.evaluate.specs.Folding.{all_of, any_of}

module _ (g : Option OutcomeTable) where
  all_some : (p : Permit Outcome) (ds : List (Decision Outcome)) → all_from g (some p) ds ≡ all_of g (some (permits p)) ds
  all_some p [] = refl
  all_some p (permits q ∷ ds) = all_some (meet_permit g p q) ds
  all_some p (denies d ∷ ds) = refl

  pub all_is : (ds : List (Decision Outcome)) → all_from g none ds ≡ all_of g none ds
  all_is [] = refl
  all_is (permits q ∷ ds) = all_some q ds
  all_is (denies d ∷ ds) = refl

  any_some : (p : Permit Outcome) (first : Option (Denial Outcome)) (ds : List (Decision Outcome)) → any_from g (some p) first ds ≡ any_of g (some (permits p)) ds
  any_some p first [] = refl
  any_some p first (permits q ∷ ds) = any_some (join_permit g p q) first ds
  any_some p first (denies d ∷ ds) = any_some p (some (first_deny first d)) ds

  any_first : (c : Denial Outcome) (ds : List (Decision Outcome)) → any_from g none (some c) ds ≡ any_of g (some (denies c)) ds
  any_first c [] = refl
  any_first c (permits q ∷ ds) = any_some q (some c) ds
  any_first c (denies d ∷ ds) = any_first c ds

  pub any_is : (ds : List (Decision Outcome)) → any_from g none none ds ≡ any_of g none ds
  any_is [] = refl
  any_is (permits q ∷ ds) = any_some q none ds
  any_is (denies d ∷ ds) = any_first d ds
