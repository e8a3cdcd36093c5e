mod BuildLaws
mod LevelLaws
mod NamedLaws
