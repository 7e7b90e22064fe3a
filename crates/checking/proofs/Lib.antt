-- Each refusal on the way.
pub mod Refusing
