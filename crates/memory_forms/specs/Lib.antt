-- nodes of the code as cells of the definition
pub mod Cell
-- those that a walk has left
pub mod Cells
