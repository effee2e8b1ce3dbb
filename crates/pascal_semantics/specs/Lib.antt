pub mod Charge
pub mod Program
pub mod State
pub mod Step
pub mod Evaluations
pub mod Run
pub mod Valid
