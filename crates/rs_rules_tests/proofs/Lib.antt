mod Samples
mod Examples
mod StepTable
