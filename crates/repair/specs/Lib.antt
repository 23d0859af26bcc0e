-- What the contracts of this crate's inner functions speak of. The contract of its call cites only the model.
pub mod Strays
pub mod Mending
