-- Laws of the rows that open branches.
pub mod Opens
pub mod RoundTests
pub mod SplitTests
pub mod Starting
