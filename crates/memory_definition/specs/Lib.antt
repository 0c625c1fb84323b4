-- Start memory (document 02, Q-1), in reading order.

-- where the nodes of a tree stand: each with the shape of its place
pub mod Cells
-- little-endian numbers, two's complement, REALs in 32 bits, strings
pub mod Numbers
-- one node as bytes, and read from bytes
pub mod Forms
-- a whole tree as bytes, and read from bytes
pub mod Memory
-- what the public functions answer and leave in what they are lent
pub mod Answers
-- examples, a table and a theorem
pub mod Examples
