-- Constraint bundles: reading, writing, showing a constraint.
pub mod Bundle
pub mod Layout
pub mod Read
pub mod Write
pub mod Show
pub mod Tables
pub mod Writable
