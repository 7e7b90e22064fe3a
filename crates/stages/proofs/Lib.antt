-- The tables of stages that no edit needs.
pub mod Stages
