-- Laws of the steps, and that they print the listing.
pub mod Laws
pub mod Listing
