pub mod Effect
mod Typed
mod Linked
pub mod Meets
mod SoundArray
pub mod Whole
pub mod FirstLaws
pub mod ChainPool
mod Lowers
pub mod SoundCall
mod SoundChain
pub mod SoundCoalesce
pub mod SoundExpression
mod SoundInterpolated
mod SoundLeaf
mod SoundOperands
pub mod SoundShortCircuit
mod WholeLaws
pub mod LinkedArray
mod LinkedCall
pub mod LinkedChain
mod LinkedCoalesce
pub mod LinkedExpression
mod LinkedFrom
mod LinkedInterpolated
pub mod LinkedLeaf
mod LinkedOperands
mod LinkedShortCircuit
mod LinksAll
mod AllLaws
pub mod Decode
mod Demand3From
pub mod DepthReached
mod EffectWords
pub mod RowCounts
pub mod LowerFits
pub mod Parts
pub mod RunsRight
pub mod Tables
pub mod Widths
pub mod Lowered
mod Stands
pub mod SwitchAccepted
mod SwitchAllReached
pub mod SwitchBlocks
pub mod SwitchChecked
pub mod SwitchEntries
mod SwitchNames
mod SwitchParts
pub mod SwitchPlaces
mod SwitchReached
mod SwitchSound
pub mod SwitchTargets
pub mod DropLaws
pub mod SwitchTyped
mod BodyTells
pub mod CaseConsts
mod ChainTells
mod Choice
mod ChosenRow
pub mod Demand3Holds
mod Fragments
mod MarksAt
mod SwitchMarks
mod Tells
mod TellsBranch
mod Through
mod LevelsSame
mod LevelsChain
mod LevelsSwitch
pub mod LevelsSuffice
pub mod GuidedRun
pub mod ChainNodesLaws
pub mod NodesLaws
mod RowsRight
mod ModuleRowsRight
mod NamespaceWords
pub mod ModulesHold
