-- Each way through a formula that is read.
pub mod Nodes
pub mod Parts
pub mod FormulaReader
