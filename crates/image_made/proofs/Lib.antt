-- From what the check of a sheet says of its nodes to the theorem that every lowered image is well made.
mod Sections
mod Listed
mod ListedLaws
mod FromProgram
mod Gives
mod GivesPools
mod GivesLeaf
mod GivesBranch
mod GivesCall
mod GivesChain
mod GivesExpression
mod Facts
mod GivesSwitch
mod SwitchListed
pub mod LoweredMade
