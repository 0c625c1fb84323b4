-- The definition, in reading order. docs/DEFINITION.md holds it beside the Rust.

-- choices, links, "every record"
pub mod Base
-- where each section and each word stands
pub mod Layout
-- one record as a value
pub mod Records
-- refusals 1 to 6; when shapes are alike, and when they are equal to the Rust
pub mod Accept
-- entries and expressions as finite trees
pub mod Syntax
-- nodes, trees and their words
pub mod Tree
-- computations that ask for types' defaults; none and too large
pub mod Ask
-- IEC 61131-3: ranges, implicit defaults, filling
pub mod Iec
-- IEEE 754: an integer as a REAL or an LREAL
pub mod Ieee
-- one kind of shape apart from the others
pub mod Shapes
-- constants, strings, enumerated values and expressions as values of a shape
pub mod Scalar
-- places, and the places of fields and elements
pub mod Places
-- what a place, an initializer, a member list and a type start with
pub mod Parts
pub mod Defaults
-- how asks are answered, as the Rust does
pub mod Resolve
pub mod Starting
-- how a table answers them
pub mod Peek
-- completed initializers
pub mod Complete
-- the fixed words of each line
pub mod Lines
-- which types a type uses, and ranks
pub mod Uses
-- what the writer gives and the check answers
pub mod Sheet
-- how deep entries and shapes nest
pub mod Depth
-- what each public function answers and leaves in the lent words
pub mod Answers
-- what the sheet program prints
pub mod Program
-- the names that a statement about given words computes with
pub mod Computing
-- files for examples
pub mod ExampleFiles
-- document 01's examples
pub mod Examples
-- uses, ranks, sheets and what the check answers, on given files
pub mod SheetExamples
-- what the public functions answer and leave in the lent words
pub mod AnswerExamples
-- what the sheet program prints for given files
pub mod ProgramExamples
