-- What the contracts of this crate's inner functions speak of. The contracts of its two faults cite only the model.
pub mod Keys
pub mod Chains
