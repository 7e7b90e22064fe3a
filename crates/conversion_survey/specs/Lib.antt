-- A proof gone over.
pub mod SurveyAnswers
