-- Laws of results.
pub mod Results
pub mod Over
