-- The table of runs. The laws about the operation stand in run_laws, so that an edit here pays for the table alone.
pub mod Cases
