pub mod Mirror
pub mod MirrorLaws
pub mod Store
pub mod Turns
