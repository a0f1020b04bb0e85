-- Kernels, and the cuts of least trees that they hold.
pub mod Cuts
pub mod Kernels
pub mod RuleCuts
