-- Laws of what a call comes to by the image's length.
pub mod Lengths
