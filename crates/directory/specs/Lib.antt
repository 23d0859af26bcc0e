-- What the contracts of the searches speak of.
pub mod Named
