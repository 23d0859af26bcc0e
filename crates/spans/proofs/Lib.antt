-- Laws of a span's bytes on an image; of a span's sectors as they are emitted.
pub mod Laws
pub mod Splices
pub mod Sources
