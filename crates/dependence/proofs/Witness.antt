-- The claim is neither empty nor too small: a record that requires fact 5 alone, completed with tables that differ elsewhere, and with such that differ on fact 5.
use Rattle.std.specs.Prelude.{◌≡◌, refl, List, [], ◌∷◌, ℕ, get_or, replicate}
use Rattle.std.proofs.Common.{sym, ap, subst, arith}
use Rattle.std.proofs.Math.Option.{none}
use Rattle.model.specs.Facts.{table_of, known_facts, table_fault}
use Rattle.model.specs.Outcome.{product_sets}
use Rattle.model.specs.Calls.{refusal, wrote, written_of, afterwards, complete_residual}
use Rattle.model.specs.Required.{required_residual_facts}
use Rattle.dependence.specs.Dependence.{AlikeOn}
use Rattle.dependence.proofs.SetLaws.{exactly, none_resolved}
use Rattle.dependence.proofs.Completion.{alike}

abbrev pending_5 : List ℕ
pending_5 = 0xF0000000 ∷ 0x88000003 ∷ 0 ∷ 0x20000005 ∷ []

pub requires_5 : required_residual_facts product_sets pending_5 ≡ record { number = 0; set = 0x0400000000000000 ∷ replicate 15 0; count = 1 }
requires_5 = refl

-- Facts 0, 6 and 9 differ, and the tables' lengths: the tables are alike on the set, and the record is completed alike.
abbrev short : List ℕ
short = 0 ∷ 0x10 ∷ []

abbrev long : List ℕ
long = 0x40 ∷ 0x14 ∷ 0x10 ∷ []

pub alike_on_5 : AlikeOn (required_residual_facts product_sets pending_5).set short long
alike_on_5 f h b = subst (λ g. table_of short g ≡ table_of long g) (sym ((exactly product_sets pending_5 _ [] refl).carried f h b)) refl

pub completed_short : complete_residual product_sets 0 pending_5 short 5 ≡ wrote (0xE0000001 ∷ 0x40050000 ∷ 0xC0000003 ∷ 1 ∷ 0x00050000 ∷ [])
completed_short = refl

pub completed_long : complete_residual product_sets 0 pending_5 long 5 ≡ complete_residual product_sets 0 pending_5 short 5
completed_long = sym (alike product_sets 0 pending_5 short long 5 refl refl alike_on_5)

-- Room and number are parameters because they count.
pub no_room : complete_residual product_sets 0 pending_5 short 4 ≡ refusal 11
no_room = refl

pub other_number : complete_residual product_sets 7 pending_5 short 5 ≡ refusal 16
other_number = refl

-- Fact 5 differs: another record.
pub completed_absent : complete_residual product_sets 0 pending_5 (0 ∷ 0 ∷ []) 6 ≡ wrote (0xE0000001 ∷ 0x00050000 ∷ 0xDC000003 ∷ 0 ∷ 1 ∷ 0x00050000 ∷ [])
completed_absent = refl

pub unlike : complete_residual product_sets 0 pending_5 (0 ∷ 0 ∷ []) 6 ≡ complete_residual product_sets 0 pending_5 short 6 → ⊥
unlike e = let lengths : ◌≡◌ {A = ℕ} 6 5 = ap written_of e in omega arith

-- Entered as Absent or never entered: the decision is the same, and the consulted list tells them apart.
pub completed_silent : complete_residual product_sets 0 pending_5 [] 6 ≡ wrote (0xE0000001 ∷ 0xC0050000 ∷ 0xDC000003 ∷ 0 ∷ 1 ∷ 0x00050000 ∷ [])
completed_silent = refl

pub silence_tells : complete_residual product_sets 0 pending_5 [] 6 ≡ complete_residual product_sets 0 pending_5 (0 ∷ 0 ∷ []) 6 → ⊥
silence_tells e = let entries : ◌≡◌ {A = ℕ} 0xC0050000 0x00050000 = ap (λ a. get_or (afterwards a []) 1 0) e in omega arith

-- A Resolved record requires nothing, and comes back equal with any known table.
abbrev resolved_1 : List ℕ
resolved_1 = 0xE0000000 ∷ 0xC0000001 ∷ 0 ∷ []

pub requires_none : required_residual_facts product_sets resolved_1 ≡ record { number = 0; set = replicate 16 0; count = 0 }
requires_none = none_resolved product_sets resolved_1 _ [] _ refl refl

pub comes_back : (known : List ℕ) → table_fault known_facts known ≡ none → complete_residual product_sets 0 resolved_1 known 3 ≡ wrote resolved_1
comes_back known k = alike product_sets 0 resolved_1 known [] 3 k refl (λ f h b. absurd ((exactly product_sets resolved_1 _ [] refl).carried f h b))
