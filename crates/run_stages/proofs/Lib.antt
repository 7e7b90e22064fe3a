-- Errors that are made others; the stages one after the other; parted, tested for their lengths, and read.
pub mod MappedErrors
pub mod StagesInTurn
pub mod StagesRead
