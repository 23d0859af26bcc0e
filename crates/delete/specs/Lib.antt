-- What the contracts of the inner functions speak of.
pub mod Deleting
