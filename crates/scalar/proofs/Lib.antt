pub mod NoScalar
