-- Mending: what the commands make of any marks, when a node clashes, one word more, and the mended net.
pub mod Spreading
pub mod Torn
pub mod Adding
pub mod Starting
pub mod Testing
pub mod Searching
pub mod Computing
pub mod Keeping
pub mod Readings
