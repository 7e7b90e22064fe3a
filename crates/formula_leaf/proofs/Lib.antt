-- Laws of masks and of leaves.
pub mod Masks
pub mod Leaves
