-- A run of bits was packed into the output as bytes, or they have no room in it.
use Rattle.std.specs.Prelude.{List, ℕ, length}
use Rattle.laws.proofs.BitLaws.{Bits}
use Rattle.model.specs.Tight.{give_bytes}
use Rattle.answer.specs.Answers.{Answer, Answered}

pub record Packed (bs before after : List ℕ) (r : Answer) : Type 0 where
  pub packed : Bits bs → Answered (give_bytes (length before) bs) before after r
