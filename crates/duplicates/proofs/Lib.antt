-- What the proofs of this crate share.
pub mod Chains
pub mod Keys
pub mod Chained
