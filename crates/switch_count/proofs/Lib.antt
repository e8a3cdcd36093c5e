pub mod ArmsAdd
pub mod BodiesAdd
pub mod OutcomeLaws
pub mod PlaceLaws
pub mod ToldLaws
pub mod TotalLaws
