-- What the contracts of the C interface speak of, beside the definitions of `model`.
pub mod Numbers
