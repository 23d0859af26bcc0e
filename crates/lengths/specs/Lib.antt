-- What the contracts of this crate speak of, beside the model.
pub mod Calls
