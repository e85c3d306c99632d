pub mod DeskCalls
pub mod ForeignForms
pub mod ForeignWish
pub mod FormLines
pub mod FormsAsk
pub mod Nobody
