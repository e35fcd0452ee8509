pub mod ServeRuns
pub mod ServeCompleteness
