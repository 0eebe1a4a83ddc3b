pub mod Phases
pub mod PhaseLaws
