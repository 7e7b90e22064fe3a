-- Each way through a turn.
mod Jobs
