-- What the contracts and the laws of staging, committing and deciding speak of.
pub mod Commit
pub mod Decided
