-- Laws that the proofs of the functions share.
pub mod Sums
pub mod Exact
pub mod Marks
pub mod Misplaced
pub mod Verdict
pub mod Passes
