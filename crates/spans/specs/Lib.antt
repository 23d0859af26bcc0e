-- What the contracts of the functions that emit data sectors speak of.
pub mod Touched
