-- Laws that belong to no one function.
pub mod Index
pub mod Answer
pub mod Rising
pub mod Slice
pub mod Lent
pub mod Areas
