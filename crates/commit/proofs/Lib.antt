-- Laws of records and groups; of staging and committing, for the calls; of decisions; and of this crate's own loops.
pub mod Records
pub mod Laws
pub mod Decided
pub mod Turns
pub mod Clauses
