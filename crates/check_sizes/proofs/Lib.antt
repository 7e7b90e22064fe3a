-- Which arrays are long enough, and the root.
pub mod Preparing
pub mod Sizes
pub mod Root
pub mod RootBranched
pub mod Begun
