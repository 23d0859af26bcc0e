-- Freed table sectors as targets, one after the other.
pub mod Laws
