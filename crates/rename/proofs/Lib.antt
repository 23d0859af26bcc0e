-- Laws of a rename's targets, of its list's length, and of what it comes to.
pub mod Laws
pub mod Decisions
