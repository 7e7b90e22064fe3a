-- Each way through a field of a proof that is turned.
pub mod SurveyedFields
