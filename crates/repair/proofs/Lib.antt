-- Laws of repair's arrays, of its list and of what it comes to.
pub mod Strays
pub mod Kept
pub mod Planned
pub mod Decisions
