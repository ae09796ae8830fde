pub mod Behind
pub mod MayComeIn
pub mod Noted
