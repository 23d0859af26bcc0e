-- What the contracts of this crate's inner functions speak of.
pub mod Directory
