mod PartsLaws
pub mod QuickLaws
