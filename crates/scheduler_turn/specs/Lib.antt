-- The seat that is served, and the files of its job.
pub mod Files
