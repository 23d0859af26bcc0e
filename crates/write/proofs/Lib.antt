-- Laws of what a write needs and of its decisions; of its list; of a resize's decisions; of both on lent sectors; and of what these ask for.
pub mod Laws
pub mod Lists
pub mod Resizes
pub mod Lent
pub mod Parts
