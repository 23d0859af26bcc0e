-- The table of the cases P1 to P10, a second one of literal bytes, a third of edges; cases of a repair, of the second edition, of access times, of the
-- reserve, of sets of renames, of exchanged calls, of the longest lists and of the listing's lines.
pub mod Cases
pub mod Literals
pub mod Edges
pub mod Repairs
pub mod Editions
pub mod Accesses
pub mod Reserves
pub mod RenameSets
pub mod Exchanges
pub mod Lengths
pub mod Lines
