-- What the contracts of the inner functions speak of.
pub mod Word
pub mod Highest
pub mod Owned
