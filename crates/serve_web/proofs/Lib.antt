pub mod FieldLists
pub mod ForeignForms
pub mod OtherHosts
pub mod PageCalls
mod PagePaths
