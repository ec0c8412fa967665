-- Laws that several proofs cite; those of positions are for any walk over conditions.
pub mod Positions
mod Nodes
mod Arms
