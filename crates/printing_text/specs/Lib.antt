-- What a function that writes text leaves.
pub mod PutsText
