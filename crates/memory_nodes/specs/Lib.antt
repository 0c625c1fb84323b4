-- which bytes a node is written as, asked of the bytes
pub mod Readable
-- the bytes of a node among others
pub mod Reading
-- all nodes and their bytes
pub mod All
