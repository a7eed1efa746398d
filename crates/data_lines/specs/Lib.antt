pub mod BindingCauses
pub mod Marks
pub mod WayLaws
pub mod WayLines
