-- What is walked through is uniform, and the other way; what is accepted for every cut is one uniform table; what is refused, and how.
pub mod WalkedUniform
pub mod WalkNumbers
pub mod OneTable
pub mod Agree
pub mod OneField
pub mod UniformWalked
pub mod Ascending
pub mod TwoCuts
pub mod CheckAndWalk
pub mod Refused
pub mod Ordered
