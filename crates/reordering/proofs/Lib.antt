-- Registers listed in another sequence: the check gives the same answer, and the same formula so reordered.
pub mod MappedContents
pub mod RelatedResults
pub mod RelatedChecks
pub mod ReorderedForms
pub mod ReorderedFields
pub mod ReorderedCheck
pub mod PermutedSums
pub mod ReorderedTest
pub mod Examples
