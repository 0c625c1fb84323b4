pub mod Rules
pub mod Met
