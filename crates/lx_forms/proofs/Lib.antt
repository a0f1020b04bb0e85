pub mod FilePlaces
pub mod FormReading
pub mod OneForm
pub mod PlainForms
pub mod StepMarks
