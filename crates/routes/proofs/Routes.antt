-- What is written out of two sides are the routes of the definition, and the links between their relays.
pub mod Write
pub mod Between
pub mod Links
