-- Laws of a set of renames as the code holds it.
pub mod Lists
pub mod Laws
pub mod After
pub mod Deciding
