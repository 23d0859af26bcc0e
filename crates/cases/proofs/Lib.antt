-- The proofs that the tables hold.
pub mod Computed
pub mod Literals
pub mod Edges
pub mod RepairsComputed
pub mod EditionsComputed
pub mod AccessesComputed
pub mod ReservesComputed
pub mod RenameSetsComputed
pub mod ExchangesComputed
pub mod LengthsComputed
pub mod LinesComputed
