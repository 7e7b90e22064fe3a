-- Laws of what is taken of an entry, and of the stack.
pub mod Outlines
pub mod Stacks
