pub mod HallSteps
pub mod Drives
mod HearingLemmas
mod Inquiring
mod Answering
mod VisitPlaces
mod WholeRuns
mod LinesAsk
mod ByDoors
