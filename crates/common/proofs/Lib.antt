pub mod PhaseLaws
pub mod Bounds
pub mod MemoLaws
pub mod EdgeLaws
pub mod DrawLaws
pub mod RefusalLaws
pub mod Settled
