-- Laws of the pass over the Variables.
mod TextLaws
mod MeetLaws
mod TellLaws
mod SettleLaws
mod RootLaws
mod NamedLaws
