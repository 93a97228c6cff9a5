pub mod Checks
pub mod Commands
pub mod FaultLines
pub mod FileRuns
pub mod StoreRuns
pub mod Requests
pub mod ScriptRuns
