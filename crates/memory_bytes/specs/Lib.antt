-- numbers below 0 as bytes
pub mod Flipped
-- bytes that a closure turns
pub mod Turned
