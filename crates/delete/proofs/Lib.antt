-- Laws of a delete: its targets and list length, and what it comes to.
pub mod Laws
pub mod Decisions
