-- The texts of forms piece by piece, and each way through the readers.
pub mod Texts
pub mod Forms
pub mod Phrases
pub mod PairTexts
pub mod PrintingReader
pub mod Reaching
