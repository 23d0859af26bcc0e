-- What the index holds.
pub mod Index
