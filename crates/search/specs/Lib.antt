-- What the contract of the exported search speaks of, beside the definitions of `model`.
pub mod Numbers
