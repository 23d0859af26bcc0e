-- What the contracts of the inner functions speak of.
pub mod Settled
pub mod After
pub mod Deciding
