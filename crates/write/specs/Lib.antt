-- What the contracts of the inner functions speak of.
pub mod FileWrite
pub mod FileResize
pub mod Parts
