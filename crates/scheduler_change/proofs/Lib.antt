-- Each way through submitting and cancelling.
pub mod SubmitAndCancel
