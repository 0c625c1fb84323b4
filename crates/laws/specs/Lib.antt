-- What follows from the definition, in reading order.

-- ---- small things
pub mod Cases
pub mod Every
pub mod Lower
pub mod Puts
-- ---- computations that ask, and how they are answered
pub mod Asks
pub mod Binds
pub mod Memo
pub mod Resolving
pub mod Peeking
pub mod Steps
pub mod Ranked
pub mod Held
pub mod Outcomes
-- ---- ranks and circles
pub mod Ranks
pub mod Circles
-- ---- trees and their words
pub mod Whole
pub mod Readable
pub mod Values
-- ---- the pass over the definition: what is asked for, and what results
pub mod Links
pub mod Gathers
pub mod Nearby
pub mod Starts
pub mod Entries
pub mod Meaning
-- ---- accepted files
pub mod Accepted
pub mod Pointed
pub mod Strings
pub mod Bits
pub mod Used
pub mod Falling
pub mod Completes
pub mod Sizes
pub mod Flat
pub mod Decoded
pub mod Implicit
pub mod Depths
pub mod SameShapes
-- ---- the characters cut
pub mod Uncut
pub mod Alike
pub mod TwoLeaves
pub mod Uncounted
-- ---- sheets
pub mod Cuts
pub mod Passing
pub mod Writing
pub mod Demand
pub mod Printing
-- ---- numbers
pub mod Rounding
