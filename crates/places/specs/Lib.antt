pub mod Found
pub mod Inside
pub mod Links
pub mod Named
pub mod Shapes
pub mod Values
