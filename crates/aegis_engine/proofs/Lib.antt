pub mod PassFacts
pub mod PieceFacts
pub mod KeystreamFacts
pub mod TagFacts
mod ChunkSteps
mod DestinationFacts
mod CheckedMessage
mod Prefix
mod Results
mod SavedFacts
