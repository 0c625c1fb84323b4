-- nodes in words, with the shapes of their places in words beside them
pub mod InWords
-- a REAL's 64 bits as 32 and back
pub mod Reals
-- little-endian numbers, characters and two's complement, there and back
pub mod Bytes
-- a string read again, and characters that are listed
pub mod Strings
-- characters cut, which change nothing
pub mod Uncut
-- which constants fit a shape, by its form in memory
pub mod Fits
-- how many bytes a node has, and that its shape and its part in the tree decide it
pub mod Lengths
-- what a tree is after it is written and read back
pub mod Same
-- that each form is read as that, held, and written as the same bytes
pub mod ReadForms
-- that a tree that is written and read back is that
pub mod ReadBack
-- what is read in a node's place is the same part
pub mod Parts
-- which bytes are read: exactly those of the trees of these parts
pub mod Exactly
-- that an accepted file's shapes have the sizes that this asks for
pub mod AcceptedSizes
-- what holds of the shape of a place
pub mod Placed
-- that the nodes of a variable's tree stand at such shapes
pub mod CellShapes
-- start memory of a variable of an accepted file
pub mod Variables
