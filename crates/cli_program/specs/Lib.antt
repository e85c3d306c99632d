pub mod AnsweredHosts
pub mod SpokenDoors
