-- Laws of the verdicts of find, list and read, and of what list and read come to.
pub mod Verdicts
pub mod ListAnswers
pub mod ReadAnswers
pub mod Steps
pub mod Clauses
