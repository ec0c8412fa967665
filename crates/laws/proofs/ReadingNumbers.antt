-- The numbers with which reading refuses.
use Rattle.std.proofs.Common.{arith}
use Rattle.laws.specs.Numbers.{Reads}

pub one : Reads 1
one = (omega arith, omega arith, (λ e. omega arith), (λ e. omega arith), (λ e. omega arith), λ e. omega arith)

pub five : Reads 5
five = (omega arith, omega arith, (λ e. omega arith), (λ e. omega arith), (λ e. omega arith), λ e. omega arith)

pub six : Reads 6
six = (omega arith, omega arith, (λ e. omega arith), (λ e. omega arith), (λ e. omega arith), λ e. omega arith)

pub seven : Reads 7
seven = (omega arith, omega arith, (λ e. omega arith), (λ e. omega arith), (λ e. omega arith), λ e. omega arith)

pub eight : Reads 8
eight = (omega arith, omega arith, (λ e. omega arith), (λ e. omega arith), (λ e. omega arith), λ e. omega arith)

pub ten : Reads 10
ten = (omega arith, omega arith, (λ e. omega arith), (λ e. omega arith), (λ e. omega arith), λ e. omega arith)
