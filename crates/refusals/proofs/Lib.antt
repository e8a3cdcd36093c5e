-- Laws of refusals.
pub mod RefusalLaws
